-- What a server's calls of Read and Write say and do for a session of which this was said.
use Rattle.std.specs.Prelude.{◌≡◌, ℕ, ◌≤◌, false, List, drop, Some, codes}
use Rattle.std.specs.List.{AllByRecursion}
use mathlib.Core.List.{IsPrefix}
use Rattle.link_io.specs.declared.Shelf.{Shelf}
use Rattle.link_io.specs.Resources.{first_of}
use Rattle.rpc_ids.specs.declared.method.Role.TheVariants.{Server}
use Rattle.rpc_ids.specs.declared.Status.TheVariants.{Okay}
use Rattle.rpc_handlers.specs.declared.answer.Out.TheVariants.{Say, Commit}
use Rattle.rpc_journal.specs.declared.entry.Entry.{Entry}
use Rattle.rpc_journal.specs.declared.item.Item.{Item}
use Rattle.rpc_journal.specs.declared.setting.Setting.{Setting}
use Rattle.rpc_journal.specs.Calls.{call_at}
use Rattle.rpc_journal.specs.Effect.{Opening}
use Rattle.rpc_journal.specs.History.{history}
use Rattle.rpc_journal.specs.Items.{items_sent}
use Rattle.rpc_journal.specs.Lawful.{IsLegal}
use Rattle.transfer_base.specs.declared.limits.TheConstants.{MAX_CHUNK, MAX_WINDOW}
use Rattle.transfer_words.specs.Word.{Word, start_ack, completion}
use Rattle.transfer_words.specs.Saying.{Saying}
use Rattle.transfer_client.specs.Polling.{heard_word}
use Rattle.transfer_resume.specs.Opening.{agreed_offset}
use Rattle.demo_services.specs.DemoRule.{demo_rule}
use Rattle.demo_services.specs.Methods.{transfer_method}
use Rattle.demo_services.specs.Transfer.{demo_seed}
use Rattle.link_laws.specs.uploads.CallItems.{HandlersAct, outs_by}
use Rattle.link_laws.specs.uploads.Uploads.{deeds_by}
use Rattle.history_laws.specs.messages.Messages.{IsIn}
use Rattle.transfer_laws.specs.words.Said.{SaysOkayWhere, SaysPiecesOf}
use Rattle.transfer_laws.specs.words.Tasks.{AsksFor, HasToldOkay, HearsOf, MakesWhole, SaysNoData}
use Rattle.link_laws.specs.transfer_calls.Heard.{ComesFrom}

-- A server of the demo services, in whose legal history handlers alone act, and call c of one of its transfer methods.
pub record IsTransferCall (shelf : Shelf) (window chunk : ℕ) (set : Setting) (h : List Entry) (name : List ℕ) (c : ℕ) : Type 0 where
  pub role : set.role ≡ Server
  pub seed : set.seed ≡ demo_seed shelf window chunk
  pub window_high : window ≤ MAX_WINDOW
  pub chunk_high : chunk ≤ MAX_CHUNK
  pub legal : IsLegal demo_rule set h
  pub own : HandlersAct h
  pub opening : Opening
  pub there : call_at (history set h) c ≡ Some opening
  pub method : opening.method ≡ transfer_method name

-- What a client hears of a call of Read in a session in which it asked for one resource: data of that alone, and the end OK
-- only where it told that itself.
abbrev pub ReadsTellTheTruth : Type 0
ReadsTellTheTruth =
    (shelf : Shelf) (window chunk : ℕ) (set : Setting) (h : List Entry) (c session resource asked : ℕ) (said : List Saying) (payload : List ℕ) (w : Word)
    → IsTransferCall shelf window chunk set h (codes "Read") c → ComesFrom set h c session said → AllByRecursion (AsksFor resource asked) said
    → IsIn (Say payload) (outs_by c (items_sent (history set h))) → heard_word session payload ≡ Some w
    → HearsOf (first_of resource shelf.full) (HasToldOkay said) w

-- What a client hears of a call of Write in a session in which it asked for one resource from one offset: the offset that
-- is agreed is that of the call's Begin; and the end OK comes behind the Commit, where the client didn't tell it itself.
abbrev pub OffsetsAreAgreed : Type 0
OffsetsAreAgreed =
    (shelf : Shelf) (window chunk : ℕ) (set : Setting) (h : List Entry) (c session resource asked : ℕ) (said : List Saying) (payload : List ℕ) (offset : ℕ)
    → IsTransferCall shelf window chunk set h (codes "Write") c → ComesFrom set h c session said → AllByRecursion (AsksFor resource asked) said
    → IsIn (Say payload) (outs_by c (items_sent (history set h))) → heard_word session payload ≡ Some (start_ack offset)
    → offset ≡ agreed_offset shelf resource asked

abbrev pub EndsFollowCommits : Type 0
EndsFollowCommits =
    (shelf : Shelf) (window chunk : ℕ) (set : Setting) (h : List Entry) (c session : ℕ) (said : List Saying) (items : List Item) (payload : List ℕ)
    → IsTransferCall shelf window chunk set h (codes "Write") c → ComesFrom set h c session said → AllByRecursion (SaysOkayWhere false) said
    → IsPrefix items (items_sent (history set h)) → IsIn (Say payload) (outs_by c items) → heard_word session payload ≡ Some (completion Okay)
    → IsIn (Commit session) (outs_by c items)

-- A session is committed, of which a client said one resource from one offset on. It has said data, and what was made
-- whole is the resource from the offset that was agreed.
pub record IsUploaded (shelf : Shelf) (resource asked : ℕ) (bytes : List ℕ) (said : List Saying) (deeds : List Saying) : Type 0 where
  pub some_data : AllByRecursion SaysNoData said → ⊥
  pub whole : MakesWhole resource (agreed_offset shelf resource asked) (drop (agreed_offset shelf resource asked) bytes) deeds

abbrev pub UploadsAreWhole : Type 0
UploadsAreWhole =
    (shelf : Shelf) (window chunk : ℕ) (set : Setting) (h : List Entry) (c session resource asked : ℕ) (bytes : List ℕ) (said : List Saying) (items : List Item)
    → IsTransferCall shelf window chunk set h (codes "Write") c → ComesFrom set h c session said → AllByRecursion (AsksFor resource asked) said
    → AllByRecursion (SaysPiecesOf (Some bytes)) said → IsPrefix items (items_sent (history set h)) → IsIn (Commit session) (outs_by c items)
    → IsUploaded shelf resource asked bytes said (deeds_by c session items)
