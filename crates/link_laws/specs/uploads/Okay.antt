-- The end OK of an upload, which the service tells behind the upload's Commit.
use Rattle.std.specs.Prelude.{◌≡◌, ℕ, ◌⊎◌, List, [], ◌∷◌, Some, codes}
use mathlib.Core.List.{IsPrefix}
use Rattle.link_io.specs.declared.Shelf.{Shelf}
use Rattle.rpc_ids.specs.declared.method.Role.TheVariants.{Server}
use Rattle.rpc_ids.specs.declared.Status.TheVariants.{Okay}
use Rattle.rpc_handlers.specs.declared.event.Event.{Event}
use Rattle.rpc_journal.specs.declared.entry.Entry.{Entry}
use Rattle.rpc_journal.specs.declared.setting.Setting.{Setting}
use Rattle.rpc_journal.specs.Calls.{call_at}
use Rattle.rpc_journal.specs.Effect.{Opening}
use Rattle.rpc_journal.specs.History.{history}
use Rattle.rpc_journal.specs.Items.{items_sent}
use Rattle.rpc_journal.specs.Lawful.{IsLegal}
use Rattle.rpc_journal.specs.States.{finished_since}
use Rattle.transfer_words.specs.Word.{completion}
use Rattle.transfer_words.specs.Saying.{says, commits}
use Rattle.transfer_words.specs.Spoken.{word_of}
use Rattle.transfer_resume.specs.declared.side.Side.TheVariants.{Write}
use Rattle.transfer_resume.specs.Book.{Book, Outgoing, new_book, spelled_all}
use Rattle.transfer_resume.specs.Uploads.{Comes, chunk_comes, time_comes, call_ends, step_at}
use Rattle.demo_services.specs.DemoRule.{demo_rule}
use Rattle.demo_services.specs.Methods.{transfer_method}
use Rattle.demo_services.specs.Transfer.{demo_seed}
use Rattle.demo_services.specs.Uploads.{all_comes, written}
use Rattle.link_laws.specs.uploads.CallItems.{AllButMessages, HandlersAct, outs_by}

-- the service tells that the session has ended OK
abbrev pub TellsOkay : ℕ → Outgoing → Type 0
TellsOkay id o = (o.session ≡ id) × (o.saying ≡ says (completion Okay))

abbrev pub IsCommitOf : ℕ → Outgoing → Type 0
IsCommitOf id o = (o.session ≡ id) × (o.saying ≡ commits)

-- where each of these goes out, a Commit of the session has gone out before each end OK of it, unless this is known
abbrev pub FollowsCommit : ℕ → Type 0 → List Outgoing → Type 0
FollowsCommit id known [] = Unit {0}
FollowsCommit id known (o ∷ outs) = (TellsOkay id o → known) × FollowsCommit id (known ⊎ IsCommitOf id o) outs

-- this is known, or a Commit of the session is among these
abbrev pub KnownAfter : ℕ → Type 0 → List Outgoing → Type 0
KnownAfter id known [] = known
KnownAfter id known (o ∷ outs) = KnownAfter id (known ⊎ IsCommitOf id o) outs

-- the client itself tells that the session has ended OK
abbrev pub IsTold : ℕ → Comes → Type 0
IsTold id (chunk_comes c) = (c.session ≡ Some id) × (word_of c ≡ Some (completion Okay))
IsTold id (time_comes now) = ⊥
IsTold id call_ends = ⊥

-- over all that comes to the sessions: no end OK is told, but where a Commit has gone out or the client has told it
abbrev pub OkayFollows : ℕ → Type 0 → Book → List Comes → Type 0
OkayFollows id known b [] = Unit {0}
OkayFollows id known b (e ∷ es) =
    FollowsCommit id (known ⊎ IsTold id e) (step_at b e).outs × OkayFollows id (KnownAfter id (known ⊎ IsTold id e) (step_at b e).outs) (step_at b e).after es

-- nothing is known of a session before the first of it
abbrev pub OkayFollowsCommit : Type 0
OkayFollowsCommit = (shelf : Shelf) (window chunk : ℕ) (es : List Comes) (id : ℕ) → OkayFollows id ⊥ (new_book Write shelf window chunk) es

-- What a call of Write sends and does in a history is what its sessions say and do over what these events bring, but for
-- messages that no longer went out, and there each end OK follows the Commit.
pub record SaysOkayLast (shelf : Shelf) (window chunk : ℕ) (set : Setting) (h : List Entry) (c : ℕ) : Type 0 where
  pub events : List Event
  pub begin : IsPrefix events (finished_since (history set h) c)
  pub outs : AllButMessages (spelled_all (written shelf window chunk events)) (outs_by c (items_sent (history set h)))
  pub okay : (session : ℕ) → OkayFollows session ⊥ (new_book Write shelf window chunk) (all_comes events)

abbrev pub OkayOfHistory : Type 0
OkayOfHistory =
    (shelf : Shelf) (window chunk : ℕ) (set : Setting) (h : List Entry) (c : ℕ) (o : Opening)
    → set.role ≡ Server → set.seed ≡ demo_seed shelf window chunk → IsLegal demo_rule set h → HandlersAct h
    → call_at (history set h) c ≡ Some o → o.method ≡ transfer_method (codes "Write") → SaysOkayLast shelf window chunk set h c
