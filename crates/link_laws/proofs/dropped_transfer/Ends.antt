-- What is told of an end of a transfer doesn't hang on the losses of the link, nor on the time.
use Rattle.std.proofs.Common.{◌≡◌, ℕ, ◌+◌, ◌<◌, ◌^◌, Option, List, [], inl, inr, refl}
use Rattle.rpc_packet.specs.declared.call_name.CallName.{CallName}
use Rattle.rpc_journal.specs.declared.entry.Entry.{Entry}
use Rattle.transfer_base.specs.declared.limits.TheConstants.{TIMEOUT}
use Rattle.transfer_resume.specs.declared.stage.Stage.{Stage}
use Rattle.transfer_resume.specs.Session.{Row}
use Rattle.link_laws.specs.world.World.{Setup, Transfer, World}
use Rattle.link_laws.specs.lossless_transfer.Finishes.{IsSetFor}
use Rattle.link_laws.specs.lossless_transfer.Shows.{ArePlaces, AtClient, AtServer, IsUnderWay, Places, moment_at}
use Rattle.link_laws.specs.dropped_transfer.Passing.{IsBesideAtClient, IsCallThere}
use Rattle.link_laws.specs.dropped_transfer.Sessions.{IsSetForDrops, at_turn}

-- with a link that loses nothing
abbrev pub calm : Setup → Setup
calm k = record k { losses = [] }

pub calm_set : (k : Setup) (x : Places) (older : List Row) → IsSetForDrops k x older → moment_at x + TIMEOUT < 2 ^ 63 → IsSetFor (calm k) x
calm_set k x older set early = record {
  lossless = record { rule = set.only.rule; server = set.only.server; client = set.only.client; losses = refl };
  places = set.places;
  window = set.window;
  chunk = set.chunk;
  early = early;
}

module _ (k : Setup) (x : Places) where
  abbrev pub to_calm_server : (h : List Entry) (stage : Option Stage) → AtServer k x h stage → AtServer (calm k) x h stage
  to_calm_server h stage at = record { rest = at.rest; memo = at.memo; stream = at.stream; serves = at.serves; others = at.others; calls_are = at.calls_are }

  -- the state of the call is told apart
  pub of_calm_server : (h : List Entry) (stage : Option Stage) (at : AtServer (calm k) x h stage) → (there : AtServer k x h stage) × (there.memo ≡ at.memo)
  of_calm_server h stage at = (record { rest = at.rest; memo = at.memo; stream = at.stream; serves = at.serves; others = at.others; calls_are = at.calls_are }, refl)

  abbrev pub to_calm_client : (h : List Entry) → AtClient k x h → AtClient (calm k) x h
  to_calm_client h at = record { rest = at.rest; memo = at.memo; stream = at.stream; undone = at.undone; others = at.others; others_undone = at.others_undone; calls_are = at.calls_are }

  pub of_calm_client : (h : List Entry) → AtClient (calm k) x h → AtClient k x h
  of_calm_client h at = record { rest = at.rest; memo = at.memo; stream = at.stream; undone = at.undone; others = at.others; others_undone = at.others_undone; calls_are = at.calls_are }

-- later on
module _ (x : Places) (time times : ℕ) (server : List Entry) where
  abbrev later_on : Places
  later_on = at_turn x time times server

  pub places_later : ArePlaces x → ArePlaces later_on
  places_later are = record { session = are.session; some_session = are.some_session; room = are.room; named = are.named; up = are.up; down = are.down }

  pub client_later : (k : Setup) (h : List Entry) → AtClient k x h → AtClient k later_on h
  client_later k h at = record { rest = at.rest; memo = at.memo; stream = at.stream; undone = at.undone; others = at.others; others_undone = at.others_undone; calls_are = at.calls_are }

  pub under_way_later : (t : Transfer) (big : World) → IsUnderWay x t big → IsUnderWay later_on t big
  under_way_later t big on = record { under = on.under; lines = on.lines }

  -- a call beside that of the transfer is the same at the client
  pub beside_later : (k : Setup) (name : CallName) → IsBesideAtClient k x name → IsBesideAtClient k later_on name
  beside_later k name call = record { call = call.call; opening = call.opening; memo = call.memo; stream = call.stream; apart = call.apart; named = call.named }

  pub call_later : (k : Setup) (name : CallName) → IsCallThere k x name → IsCallThere k later_on name
  call_later k name (inl own) = inl own
  call_later k name (inr call) = inr (beside_later k name call)
