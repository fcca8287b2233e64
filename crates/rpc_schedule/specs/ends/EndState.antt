-- What contracts see of one end.
use Rattle.std.specs.Prelude.{◌≡◌, ℕ, List}
use Rattle.rpc_ids.specs.declared.method.Role.{Role}
use Rattle.rpc_packet.specs.declared.owned.Packet.{Packet}
use Rattle.rpc_frames.specs.Heard.{heard_packets}
use Rattle.rpc_frames.specs.Listening as listening
use Rattle.rpc_schedule.specs.Serving.{HasHeard, Serving}

-- its table, the run that it keeps and why it takes no further input; and its listener
pub record EndState : Type 0 where
  pub serving : Serving
  pub listener : listening.Listening

-- the packets that an end of this role hears in these bytes
abbrev pub heard : Role → List ℕ → List Packet
heard role bytes = heard_packets role bytes

-- it was fed these bytes: its listener has heard them, and the packets in them arrived, but for the last one where it
-- was refused
pub record WasFed (role : Role) (s : EndState) (bytes : List ℕ) : Type 0 where
  pub listener : listening.HasHeard s.listener bytes
  pub packets : HasHeard (heard role bytes) s.serving

-- nothing but the entries of the table has changed
pub record KeepsAside (old new : EndState) : Type 0 where
  pub setting : new.serving.table.setting ≡ old.serving.table.setting
  pub kept : new.serving.kept ≡ old.serving.kept
  pub refused : new.serving.refused ≡ old.serving.refused
  pub listener : new.listener ≡ old.listener
