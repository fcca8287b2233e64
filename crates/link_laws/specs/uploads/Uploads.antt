-- What the uploads of a server's history are.
use Rattle.std.specs.Prelude.{◌≡◌, ℕ, ◌==◌, Bool, true, false, List, [], ◌∷◌, ◌++◌, flat_map, map, drop, All, Some, codes, if◌then◌else◌}
use Rattle.std.specs.List.{list_any}
use mathlib.Core.List.{IsPrefix}
use Rattle.link_io.specs.declared.Shelf.{Shelf}
use Rattle.rpc_ids.specs.declared.method.Role.TheVariants.{Server}
use Rattle.rpc_handlers.specs.declared.answer.Out.{Out}
use Rattle.rpc_handlers.specs.declared.answer.Out.TheVariants.{Say, Begin, Append, Commit, Leave}
use Rattle.rpc_journal.specs.declared.entry.Entry.{Entry}
use Rattle.rpc_journal.specs.declared.item.Item.{Item}
use Rattle.rpc_journal.specs.declared.setting.Setting.{Setting}
use Rattle.rpc_journal.specs.Calls.{call_at}
use Rattle.rpc_journal.specs.Effect.{Opening}
use Rattle.rpc_journal.specs.History.{history}
use Rattle.rpc_journal.specs.Items.{items_sent}
use Rattle.rpc_journal.specs.Lawful.{IsLegal}
use Rattle.rpc_journal.specs.States.{finished_since}
use Rattle.transfer_base.specs.declared.Piece.{Piece}
use Rattle.transfer_base.specs.PieceLists.{IsPartOf, Joins}
use Rattle.transfer_words.specs.Saying.{Saying, begins, appends, commits, leaves}
use Rattle.transfer_resume.specs.Uploads.{IsUpload, came, joined_bytes}
use Rattle.demo_services.specs.DemoRule.{demo_rule}
use Rattle.demo_services.specs.Methods.{is_transfer}
use Rattle.demo_services.specs.Transfer.{demo_seed}
use Rattle.demo_services.specs.Uploads.{all_comes}
use Rattle.link_laws.specs.uploads.CallItems.{HandlersAct, outs_by}

abbrev pub deed_in : ℕ → Out → List Saying
deed_in id (Say payload) = []
deed_in id (Begin session resource offset) = if session == id then begins resource offset ∷ [] else []
deed_in id (Append session bytes) = if session == id then appends bytes ∷ [] else []
deed_in id (Commit session) = if session == id then commits ∷ [] else []
deed_in id (Leave session) = if session == id then leaves ∷ [] else []

-- the store actions of a session among these
abbrev pub deeds_in : ℕ → List Out → List Saying
deeds_in id outs = flat_map (deed_in id) outs

-- the store actions of a session of call c among these items
abbrev pub deeds_by : ℕ → ℕ → List Item → List Saying
deeds_by c session items = deeds_in session (outs_by c items)

-- the data chunks of a session in the messages that call c has taken in its runs, as pieces
abbrev pub pieces_to : Setting → List Entry → ℕ → ℕ → List Piece
pieces_to set h c session = came session (all_comes (finished_since (history set h) c))

-- The upload is whole: it begins once, before all else, then bytes are added, and at last it is committed. All that was
-- added joins, from the offset on, of pieces that came. Where these are all of one resource, it is the resource from there.
pub record IsWhole (came : List Piece) (deeds : List Saying) : Type 0 where
  pub resource : ℕ
  pub offset : ℕ
  pub bytes : List (List ℕ)
  pub deeds_are : deeds ≡ begins resource offset ∷ (map appends bytes ++ commits ∷ [])
  pub joins : Joins came offset (joined_bytes bytes)
  pub honest : (content : List ℕ) → All (IsPartOf content) came → joined_bytes bytes ≡ drop offset content

abbrev pub is_commit : Saying → Bool
is_commit commits = true
is_commit _ = false

-- What a session does is an upload, and where it commits one, a whole one.
pub record Uploads (came : List Piece) (deeds : List Saying) : Type 0 where
  pub upload : IsUpload came deeds
  pub whole : list_any is_commit deeds ≡ true → IsWhole came deeds

-- So it is of each session of each call, whatever its method, in a legal history of a server of the demo service in which
-- handlers alone act, among all items that were sent, and among those that had gone out at any moment.
abbrev pub UploadsOfHistory : Type 0
UploadsOfHistory =
    (shelf : Shelf) (window chunk : ℕ) (set : Setting) (h : List Entry) (c : ℕ) (o : Opening) (items : List Item) (session : ℕ)
    → set.role ≡ Server → set.seed ≡ demo_seed shelf window chunk → IsLegal demo_rule set h → HandlersAct h
    → call_at (history set h) c ≡ Some o → IsPrefix items (items_sent (history set h))
    → Uploads (pieces_to set h c session) (deeds_by c session items)

-- A call of a method other than Write has no store action there.
abbrev pub OthersStoreNothing : Type 0
OthersStoreNothing =
    (shelf : Shelf) (window chunk : ℕ) (set : Setting) (h : List Entry) (c : ℕ) (o : Opening) (items : List Item) (session : ℕ)
    → set.role ≡ Server → set.seed ≡ demo_seed shelf window chunk → IsLegal demo_rule set h → HandlersAct h
    → call_at (history set h) c ≡ Some o → is_transfer (codes "Write") o.method ≡ false → IsPrefix items (items_sent (history set h))
    → deeds_by c session items ≡ []
