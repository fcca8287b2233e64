-- The sessions at the server beside the one of the transfer: older ones, which have nothing to wait for but that their end is
-- known.
use Rattle.std.specs.Prelude.{◌≡◌, ◌≢◌, ℕ, ◌<◌, ◌≤◌, true, List, [], ◌∷◌, ◌++◌, length, map, slice_get, Option, Some, None}
use Rattle.std.specs.List.{AllByRecursion}
use Rattle.rpc_handlers.specs.declared.event.Memo.{Memo}
use Rattle.rpc_ids.specs.declared.method.Role.TheVariants.{Server, Client}
use Rattle.rpc_journal.specs.declared.entry.Entry.{Entry}
use Rattle.rpc_journal.specs.Effect.{Opening}
use Rattle.rpc_journal.specs.History.{history}
use Rattle.history_laws.specs.rounds.Streams.{HasStream}
use Rattle.transfer_base.specs.declared.limits.TheConstants.{MAX_CHUNK, MAX_WINDOW}
use Rattle.transfer_resume.specs.declared.side.Side.{Side}
use Rattle.transfer_resume.specs.declared.stage.Stage.{Stage}
use Rattle.transfer_resume.specs.Session.{Row}
use Rattle.transfer_resume.specs.Ticks.{stage_ticks}
use Rattle.transfer_resume.specs.Book.{Book, row_by}
use Rattle.demo_services.specs.DemoRule.{demo_rule, transfer_side}
use Rattle.demo_services.specs.Methods.{transfer_id}
use Rattle.demo_services.specs.Transfer.{first_book, transfer_memo}
use Rattle.transfer_laws.specs.losses.Drops.{at_time}
use Rattle.transfer_laws.specs.losses.Survives.{HasSettled}
use Rattle.link_laws.specs.world.World.{Setup}
use Rattle.link_laws.specs.lossless_transfer.Shows.{ArePlaces, Places, moment_at}
use Rattle.link_laws.specs.dropped_transfer.Dropped.{AreDrops}
use Rattle.link_laws.specs.dropped_transfer.Passing.{IsBesideAtClient}

-- these sessions have settled, and are older than this one
abbrev pub AreSettled : List Row → Type 0
AreSettled rows = AllByRecursion (λ r. HasSettled r.stage) rows

abbrev pub AreBefore : ℕ → List Row → Type 0
AreBefore session rows = AllByRecursion (λ r. r.id < session) rows

-- what a Tick of this moment makes of them
abbrev pub ticked_rows : Side → ℕ → List Row → List Row
ticked_rows side now rows = map (row_by (stage_ticks side now)) rows

-- the session of the transfer, if it is there
abbrev pub own_row : ℕ → Option Stage → List Row
own_row session None = []
own_row session (Some stage) = record { id = session; stage = stage } ∷ []

-- its call at the server, with these older sessions, where it stands so
abbrev pub book_with : Places → List Row → Option Stage → Book
book_with x older stage = record { service = x.service; rows = older ++ own_row x.session stage }

-- the older sessions of its call
pub record AreOlder (x : Places) (older : List Row) : Type 0 where
  pub settled : AreSettled older
  pub before : AreBefore x.session older
  pub many : length older ≡ x.older

-- Another call of the transfer service at the server, all of whose sessions are older: it has those that it had before. It is open at
-- the client too. It works as it was made, but for the time.
pub record IsBesideAtServer (k : Setup) (x : Places) (o : Opening) (m : Memo) : Type 0 where
  pub book : Book
  pub memo : m ≡ transfer_memo book
  pub settled : AreSettled book.rows
  pub before : AreBefore x.session book.rows
  pub side : Side
  pub of_side : transfer_side o.method ≡ Some side
  pub service : book.service ≡ at_time (first_book side k.server.seed).service book.service.time
  pub past : book.service.time ≤ moment_at x
  pub few : length book.rows ≤ x.had side
  pub room : length book.rows ≤ 256
  pub at_client : IsBesideAtClient k x o.name

-- each other call of a ticking method is such a call, and there is one at most
pub record AreBeside (k : Setup) (x : Places) : Type 0 where
  pub each : (c : ℕ) (o : Opening) → c ≢ x.at_server → slice_get x.server_calls c ≡ Some o → o.method.ticks ≡ true
      → (m : Memo) × HasStream k.rule k.server (history k.server x.server) c o m × IsBesideAtServer k x o m
  pub one : (c d : ℕ) (o p : Opening) → c ≢ x.at_server → d ≢ x.at_server → slice_get x.server_calls c ≡ Some o → slice_get x.server_calls d ≡ Some p
      → o.method.ticks ≡ true → p.method.ticks ≡ true → c ≡ d

-- the places once so many turns of time have passed in all, the last Tick at this moment, with this history of the server behind it
abbrev pub at_turn : Places → ℕ → ℕ → List Entry → Places
at_turn x time times server = record x { service = at_time x.service time; times = times; server = server }

-- the demo services over a link that drops frames, and does nothing else to any
pub record OnlyDrops (k : Setup) : Type 0 where
  pub rule : k.rule ≡ demo_rule
  pub server : k.server.role ≡ Server
  pub client : k.client.role ≡ Client
  pub drops : AreDrops k.losses

-- what a transfer needs over such a link
pub record IsSetForDrops (k : Setup) (x : Places) (older : List Row) : Type 0 where
  pub only : OnlyDrops k
  pub places : ArePlaces x
  -- its call is one of the transfer service
  pub service_is : x.client_opening.name.service ≡ transfer_id
  -- what the service asks for fits
  pub window : x.service.window ≤ MAX_WINDOW
  pub chunk : x.service.chunk ≤ MAX_CHUNK
  -- the call is told of the time
  pub ticks : x.server_opening.method.ticks ≡ true
  pub older_are : AreOlder x older
  pub beside : AreBeside k x
