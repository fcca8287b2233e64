-- What one call says and does among the items of a history, and what the answers of its handler have.
use Rattle.std.specs.Prelude.{◌≡◌, ℕ, Bool, true, false, List, [], ◌∷◌, ◌++◌, flat_map, ◌⊎◌, Some, IsTrue, if◌then◌else◌}
use Rattle.std.specs.List.{AllByRecursion}
use mathlib.Core.List.{IsPrefix}
use Rattle.rpc_ids.specs.declared.method.Role.TheVariants.{Server}
use Rattle.rpc_packet.specs.declared.packet_type.PacketType.{PacketType}
use Rattle.rpc_packet.specs.declared.packet_type.PacketType.TheVariants.{ServerStream}
use Rattle.rpc_handlers.specs.declared.answer.Out.{Out}
use Rattle.rpc_handlers.specs.declared.answer.Out.TheVariants.{Say}
use Rattle.rpc_handlers.specs.declared.event.Event.{Event}
use Rattle.rpc_handlers.specs.declared.event.Memo.{Memo}
use Rattle.rpc_handlers.specs.HandlerRule.{HandlerRule}
use Rattle.rpc_journal.specs.declared.entry.Entry.{Entry}
use Rattle.rpc_journal.specs.declared.entry.EntryKind.{EntryKind}
use Rattle.rpc_journal.specs.declared.entry.EntryKind.TheVariants.{Replace, Say as SaysOut}
use Rattle.rpc_journal.specs.declared.item.Act.{Act}
use Rattle.rpc_journal.specs.declared.item.Act.TheVariants.{Send, Keep, LeaveCall}
use Rattle.rpc_journal.specs.declared.item.Item.{Item}
use Rattle.rpc_journal.specs.declared.setting.Setting.{Setting}
use Rattle.rpc_journal.specs.Calls.{call_at}
use Rattle.rpc_journal.specs.Effect.{Opening}
use Rattle.rpc_journal.specs.History.{history}
use Rattle.rpc_journal.specs.Items.{is_for, items_sent}
use Rattle.rpc_journal.specs.Lawful.{IsLegal}
use Rattle.rpc_journal.specs.States.{finished_since}
use Rattle.rpc_journal.specs.table.Touch.{is_message}

-- a packet of a server's stream is a message
abbrev pub streamed_out : PacketType → List ℕ → List Out
streamed_out ServerStream payload = Say payload ∷ []
streamed_out _ payload = []

-- the item of an answer that goes out so: a message, or a store action
abbrev pub act_outs : Act → List Out
act_outs (Send p) = streamed_out p.ptype p.payload
act_outs (Keep out) = out ∷ []
act_outs LeaveCall = []

abbrev pub item_outs : ℕ → Item → List Out
item_outs c item = if is_for c item.call then act_outs item.act else []

-- the messages and the store actions of call c among these items, in order
abbrev pub outs_by : ℕ → List Item → List Out
outs_by c items = flat_map (item_outs c) items

-- all items of the answers to these events, by a rule, in order
abbrev pub answers_over : HandlerRule → Memo → List Event → List Out
answers_over rule m [] = []
answers_over rule m (ev ∷ evs) = (rule.answer m ev).items ++ answers_over rule (rule.next m ev) evs

-- all of these, apart from some messages
abbrev pub AllButMessages : List Out → List Out → Type 0
AllButMessages [] outs = outs ≡ []
AllButMessages (out ∷ all) outs =
    ((is_message out ≡ true) × AllButMessages all outs) ⊎ ((rest : List Out) × (outs ≡ out ∷ rest) × AllButMessages all rest)

-- handlers alone act: none is replaced, and nothing is said in its place
abbrev pub is_handlers_own : EntryKind → Bool
is_handlers_own (Replace c m) = false
is_handlers_own (SaysOut c out) = false
is_handlers_own _ = true

abbrev pub HandlersAct : List Entry → Type 0
HandlersAct h = AllByRecursion (λ e. is_handlers_own e.kind ≡ true) h

-- What a call says and does among all items is what its handler answered to the events of its runs that have finished,
-- from its first state on: its store actions and its messages in their order, but for messages that no longer went out.
-- Of a cancelled call it is what was answered to the first of these events.
pub record IsAnswered (rule : HandlerRule) (set : Setting) (h : List Entry) (c : ℕ) (o : Opening) : Type 0 where
  pub events : List Event
  pub begin : IsPrefix events (finished_since (history set h) c)
  pub answers : AllButMessages (answers_over rule (rule.first set.seed o.method) events) (outs_by c (items_sent (history set h)))

-- so it is in each legal history of a server in which handlers alone act
abbrev pub CallsAreAnswered : Type 0
CallsAreAnswered =
    (rule : HandlerRule) (set : Setting) (h : List Entry) (c : ℕ) (o : Opening) → set.role ≡ Server → IsTrue rule.ruled
    → IsLegal rule set h → HandlersAct h → call_at (history set h) c ≡ Some o → IsAnswered rule set h c o
