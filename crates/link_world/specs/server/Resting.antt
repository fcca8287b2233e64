-- A server between two things that come to it.
use Rattle.std.specs.Prelude.{◌≡◌, ℕ, true, false, List, ◌++◌, take, None}
use Rattle.rpc_packet.specs.declared.owned.Packet.{Packet}
use Rattle.rpc_handlers.specs.HandlerRule.{HandlerRule}
use Rattle.rpc_journal.specs.Items.{arrivals, input_ended}
use Rattle.rpc_schedule.specs.Schedule.{IsOver}
use Rattle.rpc_schedule.specs.Serving.{Serving, deeds, is_idle}
use Rattle.rpc_schedule.specs.Settling.{IsOrderly}
use Rattle.link_laws.specs.world.Stops.{ServerTakingStops}
use Rattle.link_laws.specs.world.Hearing.{ServerTakes}
use Rattle.link_world.specs.Room.{StaysWithin}

-- nothing is left to do, nothing was refused, more may come, and each entry had room
pub record IsResting (s : Serving) : Type 0 where
  pub orderly : IsOrderly s
  pub accepts : s.refused ≡ None
  pub idle : is_idle s ≡ true
  pub unended : input_ended (deeds s) ≡ false
  pub over : IsOver s.table.setting s.table.entries
  pub room : StaysWithin s.table.entries

-- so many packets arrived, and each was settled before the next one
pub record ServerTakesMore (rule : HandlerRule) (old new : Serving) : Type 0 where
  pub packets : List Packet
  pub takes : ServerTakes rule old.table.setting packets old.table.entries new.table.entries
  pub arrived : arrivals new.table.entries ≡ arrivals old.table.entries ++ packets
  pub setting : new.table.setting ≡ old.table.setting

-- Behind these bytes so many of a piece were fed: at the packets that are heard with them the server stops, since one of
-- them has no room, or the settling behind it has none.
pub record StopsWithin (rule : HandlerRule) (heard : List ℕ → List Packet) (s : Serving) (fed piece : List ℕ) : Type 0 where
  pub count : ℕ
  pub packets : List Packet
  pub are_heard : heard (fed ++ take count piece) ≡ heard fed ++ packets
  pub stops : ServerTakingStops rule s.table.setting packets s.table.entries
