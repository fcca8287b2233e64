-- The server of a world, between two things that come to it, and what they do to it.
use Rattle.std.specs.Prelude.{◌≡◌, ℕ, List}
use Rattle.link_io.specs.Stored.{Stored}
use Rattle.rpc_ids.specs.declared.method.Role.TheVariants.{Server}
use Rattle.rpc_handlers.specs.HandlerRule.{HandlerRule}
use Rattle.rpc_journal.specs.declared.item.Item.{Item}
use Rattle.rpc_journal.specs.Items.{items_flushed}
use Rattle.rpc_schedule.specs.Kept.{kept}
use Rattle.rpc_schedule.specs.Serving.{Serving, deeds}
use Rattle.rpc_schedule.specs.ends.EndState.{EndState}
use Rattle.link_laws.specs.world.Hearing.{ServerHearingStops, HeardAtServer}
use Rattle.link_world.specs.server.Resting.{IsResting}
use Rattle.link_world.specs.server.GoesOut.{GoesOut}
use Rattle.link_laws.specs.world.Wiring.{Wiring}

-- the end of the link, what its store holds, and the items that have gone out, in order
pub record ServerState : Type 0 where
  pub end : EndState
  pub stored : Stored
  pub items : List Item

-- nothing is left to do, and the items that have gone out are those of its history
pub record ServerRests (s : ServerState) : Type 0 where
  pub resting : IsResting s.end.serving
  pub items : s.items ≡ items_flushed (deeds s.end.serving)

-- items went out, and the store has got what they are
pub record ServerMoves (before : ServerState) (old : Wiring) (after : ServerState) (new : Wiring) : Type 0 where
  pub setting : after.end.serving.table.setting ≡ before.end.serving.table.setting
  pub out : GoesOut Server before.items old after.items new
  pub kept : (st : Stored) → before.stored ≡ kept before.items st → after.stored ≡ kept after.items st

-- behind these bytes a frame was fed: the packets that are heard with it arrived, and each was settled
abbrev pub ServerHeard : HandlerRule → Serving → Serving → List ℕ → List ℕ → Type 0
ServerHeard rule before after fed frame = HeardAtServer rule before.table.setting before.table.entries after.table.entries fed frame

-- behind these bytes the frame was fed up to a packet that has no room, or behind which the settling has none
abbrev pub ServerStopsHearing : HandlerRule → Serving → List ℕ → List ℕ → Type 0
ServerStopsHearing rule before fed frame = ServerHearingStops rule before.table.setting before.table.entries fed frame
