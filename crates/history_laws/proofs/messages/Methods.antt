-- Each call opens with the method that its name asks for.
use Rattle.std.proofs.Common.{◌≡◌, ℕ, zero, suc, Bool, true, false, not, ◌&&◌, ◌||◌, List, [], ◌∷◌, reverse, slice_get, Option, Some, None, option_to_list, if◌then◌else◌, refl, subst}
use Rattle.std.specs.List.{AllByRecursion}
use Rattle.rpc_ids.specs.declared.method.Kind.{Kind}
use Rattle.rpc_ids.specs.declared.method.MethodRef.{MethodRef}
use Rattle.rpc_ids.specs.declared.method.Role.{Role}
use Rattle.rpc_ids.specs.declared.method.Role.TheVariants.{Server, Client}
use Rattle.rpc_ids.specs.declared.status.Status.{Status}
use Rattle.rpc_ids.specs.Status.{status_of}
use Rattle.rpc_packet.specs.declared.call_name.CallName.{CallName}
use Rattle.rpc_packet.specs.declared.owned.Packet.{Packet}
use Rattle.rpc_packet.specs.declared.packet_type.PacketType.{PacketType}
use Rattle.rpc_packet.specs.declared.packet_type.PacketType.TheVariants.{Request, Response, ClientStream, ClientError, ServerError, ServerStream, Completion}
use Rattle.rpc_channel.specs.Rising.{has_id}
use Rattle.rpc_handlers.specs.declared.answer.Answer.{Answer}
use Rattle.rpc_handlers.specs.declared.answer.End.{End}
use Rattle.rpc_handlers.specs.declared.event.Memo.{Memo}
use Rattle.rpc_journal.specs.declared.entry.Entry.{Entry}
use Rattle.rpc_journal.specs.declared.entry.EntryKind.{EntryKind}
use Rattle.rpc_journal.specs.declared.entry.EntryKind.TheVariants.{Arrive, Invoke, Say, Done, Start, Finish, Replace, Cancel, Tick, Flush, EndIn, Halt, Close}
use Rattle.rpc_journal.specs.declared.item.Item.{Item}
use Rattle.rpc_journal.specs.declared.setting.Setting.{Setting}
use Rattle.rpc_journal.specs.Calls.{call_at, calls, is_cancelled, live_call}
use Rattle.rpc_journal.specs.ClientTable.{call_row, live_row, no_call_row}
use Rattle.rpc_journal.specs.Effect.{Deed, Effect, Opening}
use Rattle.rpc_journal.specs.Entries.{arrive_row, cancel_effect, effect_of, end_effect, finish_effect, invoke_effect, is_heard, row_by, with_call}
use Rattle.rpc_journal.specs.History.{deeds_of}
use Rattle.rpc_journal.specs.Items.{is_done}
use Rattle.rpc_journal.specs.Kinds.{is_okay, is_unary, streams_down, streams_up}
use Rattle.rpc_journal.specs.Queues.{is_completed}
use Rattle.rpc_journal.specs.Rows.{Row, channels_in, method_named, says_item}
use Rattle.rpc_journal.specs.ServerTable.{known_row, method_row, unknown_row}
use Rattle.rpc_journal.proofs.PlaceLemmas.{some_same}
use Rattle.history_laws.specs.messages.Messages.{CallsHaveTheirMethods}
use Rattle.history_laws.proofs.messages.Members.{all_join}

module _ (set : Setting) where
  abbrev Is : Opening → Type 0
  Is o = method_named set o.name ≡ Some o.method

  abbrev Opens : Effect → Type 0
  Opens e = AllByRecursion Is (option_to_list e.opens)

  if_opens : (b : Bool) (x y : Row) → Opens x.does → Opens y.does → Opens (if b then x else y).does
  if_opens true x y first second = first
  if_opens false x y first second = second

  if_effect : (b : Bool) (x y : Effect) → Opens x → Opens y → Opens (if b then x else y)
  if_effect true x y first second = first
  if_effect false x y first second = second

  module _ (p : Packet) (ds : List Deed) where
    known_opens : (ptype : PacketType) (m : MethodRef) (l : Option ℕ) → method_named set p.name ≡ Some m → Opens (known_row ptype p m ds l).does
    known_opens Request m None is = (is, tt)
    known_opens Request m (Some c) is = (is, tt)
    known_opens Response m l is = tt
    known_opens ClientStream m None is = tt
    known_opens ClientStream m (Some c) is = if_opens (not (streams_up m.kind)) _ _ tt (if_opens (is_completed ds c) _ _ tt tt)
    known_opens ClientError m None is = tt
    known_opens ClientError m (Some c) is = tt
    known_opens ServerError m l is = tt
    known_opens ServerStream m l is = tt
    known_opens Completion m None is = tt
    known_opens Completion m (Some c) is = if_opens (is_unary m.kind || is_completed ds c) _ _ tt tt

    unknown_opens : (ptype : PacketType) (s : Status) → Opens (unknown_row ptype p s).does
    unknown_opens Request s = tt
    unknown_opens Response s = tt
    unknown_opens ClientStream s = tt
    unknown_opens ClientError s = tt
    unknown_opens ServerError s = tt
    unknown_opens ServerStream s = tt
    unknown_opens Completion s = tt

    method_opens : (o : Option MethodRef) → method_named set p.name ≡ o → Opens (method_row p ds o).does
    method_opens None is = unknown_opens p.ptype _
    method_opens (Some m) is = known_opens p.ptype m (live_call ds p.name) is

    live_opens : (k : ℕ) (ptype : PacketType) (m : MethodRef) → Opens (live_row ptype p m k).does
    live_opens k Request m = tt
    live_opens k Response m = if_opens (is_okay (status_of p.status) && not (streams_down m.kind)) _ _ tt tt
    live_opens k ClientStream m = tt
    live_opens k ClientError m = tt
    live_opens k ServerError m = tt
    live_opens k ServerStream m = if_opens (streams_down m.kind) _ _ tt tt
    live_opens k Completion m = tt

    no_call_opens : (ptype : PacketType) → Opens (no_call_row ptype p).does
    no_call_opens Request = tt
    no_call_opens Response = tt
    no_call_opens ClientStream = tt
    no_call_opens ClientError = tt
    no_call_opens ServerError = tt
    no_call_opens ServerStream = tt
    no_call_opens Completion = tt

    call_opens : (o : Option MethodRef) (l : Option ℕ) → Opens (call_row p o l).does
    call_opens None l = no_call_opens p.ptype
    call_opens (Some m) None = no_call_opens p.ptype
    call_opens (Some m) (Some k) = live_opens k p.ptype m

    row_opens : (role : Role) → Opens (row_by role set ds p).does
    row_opens Server = if_opens (has_id (channels_in set ds) p.name.channel) _ _ (method_opens (method_named set p.name) refl) (unknown_opens p.ptype _)
    row_opens Client = if_opens (has_id (channels_in set ds) p.name.channel) _ _ (call_opens (method_named set p.name) (live_call ds p.name)) tt

    arrive_opens : Opens (arrive_row set ds p).does
    unfolding arrive_row
    arrive_opens = row_opens set.role

  end_opens : (role : Role) (k : ℕ) (name : CallName) (kind : Kind) (done : Bool) (end : Option End) → Opens (end_effect role k name kind done end)
  end_opens role k name kind done None = tt
  end_opens Server k name kind done (Some end) = tt
  end_opens Client k name kind done (Some end) = if_effect (is_okay end.status) _ _ (if_effect (is_unary kind || done) _ _ tt tt) tt

  finish_opens : (ds : List Deed) (k : ℕ) (a : Answer) (o : Option Opening) → Opens (finish_effect set ds k a o)
  finish_opens ds k a None = tt
  finish_opens ds k a (Some o) = if_effect (is_cancelled ds k) _ _ tt (if_effect (is_heard ds k) _ _ (end_opens set.role k o.name o.method.kind (is_done ds k) a.end) tt)

  invoke_opens : (ds : List Deed) (p : Packet) (m : Memo) (o : Option MethodRef) → method_named set p.name ≡ o → Opens (invoke_effect ds p m o)
  invoke_opens ds p m None is = tt
  invoke_opens ds p m (Some method) is = (is, tt)

  with_opens : (o : Option Opening) (item : Opening → Item) → Opens (with_call o (λ x. says_item (item x)))
  with_opens None item = tt
  with_opens (Some o) item = tt

  cancel_opens : (ds : List Deed) (k : ℕ) (o : Option Opening) → Opens (cancel_effect set ds k o)
  cancel_opens ds k None = tt
  cancel_opens ds k (Some o) = tt

  entry_opens : (ds : List Deed) (kind : EntryKind) → Opens (effect_of set ds kind)
  entry_opens ds (Arrive p) = arrive_opens p ds
  entry_opens ds (Invoke p m) = invoke_opens ds p m (method_named set p.name) refl
  entry_opens ds (Say k out) = with_opens (call_at ds k) _
  entry_opens ds (Done k) = with_opens (call_at ds k) _
  entry_opens ds (Start k) = tt
  entry_opens ds (Finish k a) = finish_opens ds k a (call_at ds k)
  entry_opens ds (Replace k m) = tt
  entry_opens ds (Cancel k) = cancel_opens ds k (call_at ds k)
  entry_opens ds (Tick t) = tt
  entry_opens ds Flush = tt
  entry_opens ds EndIn = tt
  entry_opens ds (Halt why) = tt
  entry_opens ds (Close channel) = tt

  all_open : (es : List Entry) → AllByRecursion Is (calls (deeds_of set es))
  all_open [] = tt
  all_open (e ∷ es) = all_join Is (calls (deeds_of set es)) _ (all_open es) (entry_opens (deeds_of set es) e.kind)

  at_place : (os : List Opening) (c : ℕ) (o : Opening) → AllByRecursion Is os → slice_get os c ≡ Some o → Is o
  at_place [] c o all is = absurd cc
  at_place (x ∷ os) zero o all is = subst Is (some_same x o is) all.0
  at_place (x ∷ os) (suc c) o all is = at_place os c o all.1 is

pub calls_have_their_methods : CallsHaveTheirMethods
calls_have_their_methods set h c o is = at_place set (calls (deeds_of set (reverse h))) c o (all_open set (reverse h)) is
