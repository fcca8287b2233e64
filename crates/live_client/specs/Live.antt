-- What a live client did: its journal, the bytes that it read and wrote, its store, and how what it was asked ended.
use Rattle.std.specs.Prelude.{◌≡◌, ◌⊎◌, ℕ, ◌≤◌, Bool, true, false, List, [], ◌∷◌, ◌++◌, length, Option, Some, None}
use Rattle.std.specs.List.{AllByRecursion}
use Rattle.std.specs.Io.KnownBytes.{Appends, Consumes}
use mathlib.Core.List.{IsPrefix}
use Rattle.link_io.specs.Stored.{Stored}
use Rattle.link_io.specs.declared.why.Why.{Why}
use Rattle.rpc_ids.specs.declared.method.MethodRef.{MethodRef}
use Rattle.rpc_ids.specs.declared.method.Role.TheVariants.{Client}
use Rattle.rpc_ids.specs.declared.status.Status.TheVariants.{InvalidArgument}
use Rattle.rpc_packet.specs.declared.call_name.CallName.{CallName}
use Rattle.rpc_packet.specs.declared.packet_type.PacketType.TheVariants.{ClientError}
use Rattle.rpc_frames.specs.Heard.{heard_packets}
use Rattle.rpc_journal.specs.declared.entry.Entry.{Entry}
use Rattle.rpc_journal.specs.declared.entry.EntryKind.{EntryKind}
use Rattle.rpc_journal.specs.declared.item.Item.{Item}
use Rattle.rpc_journal.specs.Calls.{end_of}
use Rattle.rpc_journal.specs.History.{entry_by, history}
use Rattle.rpc_journal.specs.Items.{arrivals, halt_reason, items_sent}
use Rattle.rpc_journal.specs.Kinds.{streams_down}
use Rattle.rpc_journal.specs.Lawful.{IsLegal}
use Rattle.rpc_journal.specs.Quiet.{is_settled}
use Rattle.rpc_journal.specs.Rows.{packet_item, status_packet}
use Rattle.rpc_schedule.specs.declared.stream.TheConstants.{INPUT_LIMIT}
use Rattle.rpc_schedule.specs.Kept as store
use Rattle.rpc_shared.specs.session.Sessions.{AreLate, is_halted, is_halting, wire}
use Rattle.transfer_client.specs.Read.{new_download, read_offset}
use Rattle.transfer_client.specs.Write.{new_upload, write_offset}
use Rattle.transfer_client.specs.Tasks.{PollsRead, PollsWrite, Reads, Writes}
use Rattle.live_client.specs.declared.ask.Live.{Live}
use Rattle.live_client.specs.declared.ask.LiveAsk.{LiveAsk}
use Rattle.live_client.specs.declared.ask.LiveAsk.TheVariants.{Get, Put, Watch, Call}
use Rattle.live_client.specs.Ask.{count_method, is_call, live_setting, method_asked, opening_of, read_method, call_method, utterances_asked, write_method}
use Rattle.live_client.specs.Lengths.{committed_by, length_put}
use Rattle.live_client.specs.Histories.{AreOfLive, AreSaid, SaysFirst, cancels, events_run, says_of, utterances_of}
use Rattle.live_client.specs.Silent.{silent_rule}
use Rattle.live_client.specs.declared.asks.utterance.Utterance.{Utterance}
use Rattle.live_client.specs.asks.Calling.{HasPassed}
use Rattle.live_client.specs.asks.Events.{first_end, messages_in}
use Rattle.live_client.specs.asks.Tasks.{Given, TaskRan}

-- The journal of a client that ended for this reason, which is that of its Halt, where there is one. It begins with the opening of
-- its one call.
pub record IsHistoryOf (method : MethodRef) (calls : Bool) (opening : EntryKind) (why : Why) (h : List Entry) : Type 0 where
  pub legal : IsLegal silent_rule (live_setting method) h
  pub rest : List Entry
  pub begins : h ≡ entry_by 1 opening ∷ rest
  pub kinds : AreOfLive calls rest
  pub late : AreLate h
  pub halts : is_halting why ≡ is_halted (live_setting method) h
  pub told : (reason : Why) → halt_reason (history (live_setting method) h) ≡ Some reason → why ≡ reason

-- of a live client that was asked this
abbrev pub IsLiveHistory : LiveAsk → Why → List Entry → Type 0
IsLiveHistory ask why h = IsHistoryOf (method_asked ask) (is_call ask) (opening_of ask) why h

-- a CLIENT_ERROR with INVALID_ARGUMENT, as what refuses a message of a method that has no server stream
pub record RefusesMessage (item : Item) : Type 0 where
  pub call : ℕ
  pub name : CallName
  pub is : item ≡ packet_item call (status_packet ClientError name InvalidArgument)

-- an item of no call, which replies to a packet that no call hears; or which refuses a message where the method streams none
abbrev pub IsReply : MethodRef → Item → Type 0
IsReply method item = (item.call ≡ None) ⊎ ((streams_down method.kind ≡ false) × RefusesMessage item)

abbrev pub AreReplies : MethodRef → List Item → Type 0
AreReplies method items = AllByRecursion (IsReply method) items

-- What it did in any case, halted or not. The packets that arrived are a beginning of those heard in the bytes read. The items made
-- are a beginning of the journal's: the store has got just their actions, and the link their frames, without replies that came
-- once it was told that nothing more comes, and behind them at most a part of the frame of the next item.
pub record Begins (method : MethodRef) (left_old left_new written_old written_new : Option (List ℕ)) (held_old held_new : Option Stored) (read : ℕ) (h : List Entry) : Type 0 where
  pub bytes : List ℕ
  pub taken : Consumes left_old left_new bytes
  pub count : length bytes ≡ read
  pub limit : read ≤ INPUT_LIMIT
  pub heard : IsPrefix (arrivals h) (heard_packets Client bytes)
  pub first : List Item
  pub late : List Item
  pub next : List Item
  pub part : List ℕ
  pub sent : IsPrefix ((first ++ late) ++ next) (items_sent (history (live_setting method) h))
  pub replies : AreReplies method late
  pub one : length next ≤ 1
  pub begun : IsPrefix part (wire next)
  pub written : Appends written_old written_new (wire first ++ part)
  pub stored : store.Holds (first ++ late) held_old held_new

-- What it did where nothing halted it: all packets heard in the bytes read arrived, all is settled, and all items were made. The
-- link got their frames but for replies that came at the end.
pub record Explains (method : MethodRef) (left_old left_new written_old written_new : Option (List ℕ)) (held_old held_new : Option Stored) (read : ℕ) (h : List Entry) : Type 0 where
  pub bytes : List ℕ
  pub taken : Consumes left_old left_new bytes
  pub count : length bytes ≡ read
  pub arrived : arrivals h ≡ heard_packets Client bytes
  pub settled : is_settled (history (live_setting method) h) ≡ true
  pub first : List Item
  pub late : List Item
  pub sent : items_sent (history (live_setting method) h) ≡ first ++ late
  pub replies : AreReplies method late
  pub written : Appends written_old written_new (wire first)
  pub stored : store.Holds (items_sent (history (live_setting method) h)) held_old held_new

-- A transfer: its task was given the events of the call's runs, and what it said is in the journal, but for what was refused when
-- its task said that. At a halt the last of it may be unsaid.
pub record TransferRan (method : MethodRef) {T : Type 0} (Ran : List Given → T → Type 0) (h : List Entry) : Type 0 where
  pub outs : List Given
  pub unsaid : List Given
  pub said : AreSaid (live_setting method) 0 h outs (utterances_of h)
  pub all_said : is_halted (live_setting method) h ≡ false → unsaid ≡ []
  pub now : T
  pub ran : Ran (outs ++ unsaid) now

-- A call that says these, each in its order, and whose messages are told, up to a limit; at a halt the last may be unsaid. It is
-- cancelled at the limit, or where the clock has gone on by so many milliseconds from its start to its end, and nowhere else, and has
-- the status that the cancel answered. Else it ends with the call.
pub record CallRan (method : MethodRef) (says : List Utterance) (limit : ℕ) (within : Option ℕ) (start end : ℕ) (l : Live) : Type 0 where
  pub given : List Utterance
  pub begins : IsPrefix given says
  pub all_given : is_halted (live_setting method) l.journal.entries ≡ false → given ≡ says
  pub said : SaysFirst (live_setting method) l.journal.entries given
  pub told : l.messages.items ≡ messages_in (events_run (live_setting method) l.journal.entries 0)
  pub most : length l.messages.items ≤ limit
  pub enough : length l.messages.items ≡ limit → cancels l.journal.entries ≡ true
  pub cut : cancels l.journal.entries ≡ true → (length l.messages.items ≡ limit) ⊎ HasPassed within start end
  pub answered : cancels l.journal.entries ≡ true → end_of (history (live_setting method) l.journal.entries) 0 ≡ l.ended
  pub ends : cancels l.journal.entries ≡ false → l.ended ≡ first_end (events_run (live_setting method) l.journal.entries 0)

-- how what was asked went, between the clock's last moments at the start and at the end
abbrev pub AskRan : LiveAsk → ℕ → ℕ → Live → Type 0
AskRan (Get resource offset) start end l =
    TransferRan read_method (λ outs (t : Reads).
    TaskRan PollsRead (record { session = 1; download = new_download resource offset 4 256 }) start end (is_halted (live_setting read_method) l.journal.entries) (events_run (live_setting read_method) l.journal.entries 0) outs t l.ended
    × (l.from ≡ read_offset t.download) × (l.length ≡ committed_by (says_of l.journal.entries)) × (l.messages.items ≡ [])) l.journal.entries
AskRan (Put resource offset bytes) start end l =
    TransferRan write_method (λ outs (t : Writes).
    TaskRan PollsWrite (record { session = 1; upload = new_upload resource bytes offset }) start end (is_halted (live_setting write_method) l.journal.entries) (events_run (live_setting write_method) l.journal.entries 0) outs t l.ended
    × (l.from ≡ write_offset t.upload) × (l.length ≡ length_put bytes l.ended) × (l.messages.items ≡ [])) l.journal.entries
AskRan (Watch n limit) start end l = CallRan count_method [] limit None start end l × (l.from ≡ 0) × (l.length ≡ 0)
AskRan (Call opening limit within) start end l =
    CallRan (call_method opening.service opening.method opening.kind) (utterances_asked opening.kind opening.messages) limit within start end l
    × (l.from ≡ 0) × (l.length ≡ 0)
