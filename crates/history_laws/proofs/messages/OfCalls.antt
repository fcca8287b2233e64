-- The packets of streams among the items of each entry are of calls, and works are left of cancelled ones.
use Rattle.std.proofs.Common.{◌≡◌, ℕ, ◌+◌, Bool, true, false, not, ◌&&◌, ◌||◌, List, [], ◌∷◌, ◌++◌, flat_map, reverse, Option, Some, None, is_some, option_to_list, if◌then◌else◌, refl, ap, sym, ◌∙◌, eq-eqb}
use Rattle.std.proofs.lemmas.Bool.{false≢true}
use Rattle.std.proofs.lemmas.Option.{slice_get_within}
use Rattle.std.specs.List.{AllByRecursion}
use Rattle.rpc_ids.specs.declared.method.MethodRef.{MethodRef}
use Rattle.rpc_ids.specs.declared.method.Kind.{Kind}
use Rattle.rpc_ids.specs.declared.method.Role.{Role}
use Rattle.rpc_ids.specs.declared.method.Role.TheVariants.{Server, Client}
use Rattle.rpc_ids.specs.declared.status.Status.{Status}
use Rattle.rpc_ids.specs.declared.status.Status.TheVariants.{Okay, Cancelled, Aborted}
use Rattle.rpc_ids.specs.Status.{status_of}
use Rattle.rpc_packet.specs.declared.call_name.CallName.{CallName}
use Rattle.rpc_packet.specs.declared.owned.Packet.{Packet}
use Rattle.rpc_packet.specs.declared.packet_type.PacketType.{PacketType}
use Rattle.rpc_packet.specs.declared.packet_type.PacketType.TheVariants.{Request, Response, ClientStream, ClientError, ServerError, ServerStream, Completion}
use Rattle.rpc_channel.specs.Rising.{has_id}
use Rattle.rpc_handlers.specs.declared.answer.Answer.{Answer}
use Rattle.rpc_handlers.specs.declared.answer.End.{End}
use Rattle.rpc_handlers.specs.declared.answer.Out.{Out}
use Rattle.rpc_handlers.specs.declared.answer.Out.TheVariants.{Say as Message, Begin, Append, Commit, Leave}
use Rattle.rpc_handlers.specs.declared.event.Memo.{Memo}
use Rattle.rpc_journal.specs.declared.entry.Entry.{Entry}
use Rattle.rpc_journal.specs.declared.entry.EntryKind.{EntryKind}
use Rattle.rpc_journal.specs.declared.entry.EntryKind.TheVariants.{Arrive, Invoke, Say, Done, Start, Finish, Replace, Cancel, Tick, Flush, EndIn, Halt, Close}
use Rattle.rpc_journal.specs.declared.item.Act.{Act}
use Rattle.rpc_journal.specs.declared.item.Act.TheVariants.{Send, Keep, LeaveCall}
use Rattle.rpc_journal.specs.declared.item.Item.{Item}
use Rattle.rpc_journal.specs.declared.setting.Setting.{Setting}
use Rattle.rpc_journal.specs.Calls.{call_at, call_count, calls, has_end, is_cancel_of, is_cancelled, live_call, runner_of}
use Rattle.rpc_journal.specs.ClientTable.{call_row, live_row, no_call_row}
use Rattle.rpc_journal.specs.Effect.{Deed, Opening}
use Rattle.rpc_journal.specs.Entries.{answer_item, answered, arrive_row, cancel_effect, effect_of, end_effect, error_type, finish_effect, invoke_effect, is_heard, is_live_on, leave_item, made_from, messages_go, out_item, row_by, stream_type, with_call}
use Rattle.rpc_journal.specs.History.{deeds_of, deeds_with}
use Rattle.rpc_journal.specs.Items.{is_done, items_sent}
use Rattle.rpc_journal.specs.Kinds.{is_okay, is_unary, streams_down, streams_up}
use Rattle.rpc_journal.specs.Queues.{is_completed}
use Rattle.rpc_journal.specs.Rows.{Row, channels_in, method_named, no_effect, packet_item, says_item, status_packet}
use Rattle.rpc_journal.specs.ServerTable.{known_row, method_row, unknown_row}
use Rattle.rpc_journal.proofs.PlaceLemmas.{get_front, get_last}
use Rattle.history_laws.specs.messages.Messages.{HasCall, ItemsAreOfCalls, is_stream}
use Rattle.history_laws.proofs.messages.Members.{all_join, all_weaken, in_all}

-- a call stays where it is
pub stays_at : (d : Deed) (ds : List Deed) (c : ℕ) (o : Opening) → call_at ds c ≡ Some o → call_at (d ∷ ds) c ≡ Some o
stays_at d ds c o there = get_front (calls ds) (option_to_list d.does.opens) c (slice_get_within (calls ds) c o there) ∙ there

module _ (now : List Deed) where
  abbrev Fits : Item → Type 0
  Fits item = HasCall now item.call item.act

  abbrev AllFit : List Item → Type 0
  AllFit items = AllByRecursion Fits items

  -- a packet of no stream
  quiet : (call : Option ℕ) (p : Packet) → is_stream p.ptype ≡ false → HasCall now call (Send p)
  quiet call p none is = absurd (false≢true (sym none ∙ is))

  if_row : (b : Bool) (x y : Row) → AllFit x.does.says → AllFit y.does.says → AllFit (if b then x else y).does.says
  if_row true x y first second = first
  if_row false x y first second = second

  unknown_fit : (ptype : PacketType) (p : Packet) (s : Status) → AllFit (unknown_row ptype p s).does.says
  unknown_fit Request p s = (quiet None _ refl, tt)
  unknown_fit Response p s = (quiet None _ refl, tt)
  unknown_fit ClientStream p s = (quiet None _ refl, tt)
  unknown_fit ClientError p s = tt
  unknown_fit ServerError p s = (quiet None _ refl, tt)
  unknown_fit ServerStream p s = (quiet None _ refl, tt)
  unknown_fit Completion p s = (quiet None _ refl, tt)

  known_fit : (ptype : PacketType) (p : Packet) (m : MethodRef) (ds : List Deed) (l : Option ℕ) → AllFit (known_row ptype p m ds l).does.says
  known_fit Request p m ds None = tt
  known_fit Request p m ds (Some k) = tt
  known_fit Response p m ds l = tt
  known_fit ClientStream p m ds None = (quiet None _ refl, tt)
  known_fit ClientStream p m ds (Some k) = if_row (not (streams_up m.kind)) _ _ (quiet None _ refl, tt) (if_row (is_completed ds k) _ _ (quiet None _ refl, tt) tt)
  known_fit ClientError p m ds None = tt
  known_fit ClientError p m ds (Some k) = tt
  known_fit ServerError p m ds l = tt
  known_fit ServerStream p m ds l = tt
  known_fit Completion p m ds None = (quiet None _ refl, tt)
  known_fit Completion p m ds (Some k) = if_row (is_unary m.kind || is_completed ds k) _ _ tt tt

  method_fit : (p : Packet) (ds : List Deed) (o : Option MethodRef) → AllFit (method_row p ds o).does.says
  method_fit p ds None = unknown_fit p.ptype p _
  method_fit p ds (Some m) = known_fit p.ptype p m ds (live_call ds p.name)

  live_fit : (k : ℕ) (ptype : PacketType) (p : Packet) (m : MethodRef) → AllFit (live_row ptype p m k).does.says
  live_fit k Request p m = tt
  live_fit k Response p m = if_row (is_okay (status_of p.status) && not (streams_down m.kind)) _ _ tt tt
  live_fit k ClientStream p m = tt
  live_fit k ClientError p m = tt
  live_fit k ServerError p m = tt
  live_fit k ServerStream p m = if_row (streams_down m.kind) _ _ tt (quiet (Some k) _ refl, tt)
  live_fit k Completion p m = tt

  no_call_fit : (ptype : PacketType) (p : Packet) → AllFit (no_call_row ptype p).does.says
  no_call_fit Request p = tt
  no_call_fit Response p = tt
  no_call_fit ClientStream p = tt
  no_call_fit ClientError p = tt
  no_call_fit ServerError p = tt
  no_call_fit ServerStream p = (quiet None _ refl, tt)
  no_call_fit Completion p = tt

  call_fit : (p : Packet) (o : Option MethodRef) (l : Option ℕ) → AllFit (call_row p o l).does.says
  call_fit p None l = no_call_fit p.ptype p
  call_fit p (Some m) None = no_call_fit p.ptype p
  call_fit p (Some m) (Some k) = live_fit k p.ptype p m

  row_fit : (role : Role) (set : Setting) (ds : List Deed) (p : Packet) → AllFit (row_by role set ds p).does.says
  row_fit Server set ds p =
      if_row (has_id (channels_in set ds) p.name.channel) _ _ (method_fit p ds (method_named set p.name)) (unknown_fit p.ptype p _)
  row_fit Client set ds p = if_row (has_id (channels_in set ds) p.name.channel) _ _ (call_fit p (method_named set p.name) (live_call ds p.name)) tt

  arrive_fit : (set : Setting) (ds : List Deed) (p : Packet) → AllFit (arrive_row set ds p).does.says
  unfolding arrive_row
  arrive_fit set ds p = row_fit set.role set ds p

  error_quiet : (role : Role) → is_stream (error_type role) ≡ false
  error_quiet Server = refl
  error_quiet Client = refl

  -- what a call says
  module _ (role : Role) (k : ℕ) (o : Opening) (there : call_at now k ≡ Some o) where
    own : (payload : List ℕ) → HasCall now (Some k) (Send (record { ptype = stream_type role; name = o.name; payload = payload; status = 0 }))
    own payload is = record { number = k; opening = o; is = refl; there = there; name = refl }

    out_fit : (out : Out) → AllFit (out_item role k o.name out ∷ [])
    out_fit (Message payload) = (own payload, tt)
    out_fit (Begin session resource offset) = (tt, tt)
    out_fit (Append session bytes) = (tt, tt)
    out_fit (Commit session) = (tt, tt)
    out_fit (Leave session) = (tt, tt)

    answer_fit : (says : Bool) (out : Out) → AllFit (answer_item role k o.name says out)
    answer_fit true (Message payload) = (own payload, tt)
    answer_fit false (Message payload) = tt
    answer_fit says (Begin session resource offset) = (tt, tt)
    answer_fit says (Append session bytes) = (tt, tt)
    answer_fit says (Commit session) = (tt, tt)
    answer_fit says (Leave session) = (tt, tt)

    answers_fit : (says : Bool) (outs : List Out) → AllFit (flat_map (answer_item role k o.name says) outs)
    answers_fit says [] = tt
    answers_fit says (out ∷ outs) =
        all_join Fits (answer_item role k o.name says out) (flat_map (answer_item role k o.name says) outs) (answer_fit says out) (answers_fit says outs)

  end_fit : (role : Role) (k : ℕ) (name : CallName) (kind : Kind) (done : Bool) (end : Option End) → AllFit (end_effect role k name kind done end).says
  end_fit role k name kind done None = tt
  end_fit Server k name kind done (Some end) = (quiet (Some k) _ refl, tt)
  end_fit Client k name kind done (Some end) = by_status (is_okay end.status) (is_unary kind || done)
    where
      by_status : (ok stays : Bool)
          → AllFit (if ok then (if stays then no_effect else says_item (packet_item k (status_packet Completion name Okay))) else record no_effect { ends = (k, end.status) ∷ []; drops = k ∷ []; says = packet_item k (status_packet ClientError name end.status) ∷ [] }).says
      by_status true true = tt
      by_status true false = (quiet (Some k) _ refl, tt)
      by_status false stays = (quiet (Some k) _ refl, tt)

  answered_fit : (role : Role) (k : ℕ) (o : Opening) (heard done : Bool) (a : Answer) → call_at now k ≡ Some o → AllFit (answered role k o heard done a).says
  answered_fit role k o true done a there =
      all_join Fits (flat_map (answer_item role k o.name (messages_go role o.method.kind true done)) a.items) (end_effect role k o.name o.method.kind done a.end).says
      (answers_fit role k o there (messages_go role o.method.kind true done) a.items) (end_fit role k o.name o.method.kind done a.end)
  answered_fit role k o false done a there =
      all_join Fits (flat_map (answer_item role k o.name (messages_go role o.method.kind false done)) a.items) []
      (answers_fit role k o there (messages_go role o.method.kind false done) a.items) tt

  closed_fit : (role : Role) (n : ℕ) (test : ℕ → Opening → Bool) (os : List Opening)
      → AllFit (made_from n test (λ k o. packet_item k (status_packet (error_type role) o.name Aborted)) os)
  closed_fit role n test [] = tt
  closed_fit role n test (o ∷ os) = at (closed_fit role (n + 1) test os) (test n o)
    where
      rest : List Item
      rest = made_from (n + 1) test (λ k x. packet_item k (status_packet (error_type role) x.name Aborted)) os

      at : AllFit rest → (b : Bool) → AllFit (if b then packet_item n (status_packet (error_type role) o.name Aborted) ∷ rest else rest)
      at more true = (quiet (Some n) _ (error_quiet role), more)
      at more false = more

  module _ (set : Setting) (ds : List Deed) (kept : (k : ℕ) (o : Opening) → call_at ds k ≡ Some o → call_at now k ≡ Some o) (cut : (k : ℕ) → is_cancelled ds k ≡ true → is_cancelled now k ≡ true) where
    finish_fit : (k : ℕ) (a : Answer) (o : Option Opening) → call_at ds k ≡ o → AllFit (finish_effect set ds k a o).says
    finish_fit k a None is = tt
    finish_fit k a (Some o) is = by_cut (is_cancelled ds k) refl
      where
        by_cut : (b : Bool) → is_cancelled ds k ≡ b → AllFit (if b then says_item (leave_item k) else answered set.role k o (is_heard ds k) (is_done ds k) a).says
        by_cut true e = (record { number = k; is = refl; cancelled = cut k e }, tt)
        by_cut false e = answered_fit set.role k o (is_heard ds k) (is_done ds k) a (kept k o is)

    cancel_fit : (k : ℕ) (o : Option Opening) → is_cancelled now k ≡ true → AllFit (cancel_effect set ds k o).says
    cancel_fit k None here = tt
    cancel_fit k (Some o) here = by_end (has_end ds k) (is_some (runner_of ds k))
      where
        told : HasCall now (Some k) (Send (status_packet (error_type set.role) o.name Cancelled))
        told = quiet (Some k) _ (error_quiet set.role)

        left : HasCall now (Some k) LeaveCall
        left = record { number = k; is = refl; cancelled = here }

        by_end : (ended runs : Bool)
            → AllFit ((if ended then [] else packet_item k (status_packet (error_type set.role) o.name Cancelled) ∷ []) ++ (if runs then [] else leave_item k ∷ []))
        by_end true true = tt
        by_end true false = (left, tt)
        by_end false true = (told, tt)
        by_end false false = (told, (left, tt))

    say_fit : (k : ℕ) (out : Out) (o : Option Opening) → call_at ds k ≡ o → AllFit (with_call o (λ x. says_item (out_item set.role k x.name out))).says
    say_fit k out None is = tt
    say_fit k out (Some o) is = out_fit set.role k o (kept k o is) out

    done_fit : (k : ℕ) (o : Option Opening) → AllFit (with_call o (λ x. says_item (packet_item k (status_packet Completion x.name Okay)))).says
    done_fit k None = tt
    done_fit k (Some o) = (quiet (Some k) _ refl, tt)

invoke_fit : (set : Setting) (ds : List Deed) (e : Entry) (p : Packet) (m : Memo) (o : Option MethodRef)
    → AllFit (record { entry = e; does = invoke_effect ds p m o } ∷ ds) (invoke_effect ds p m o).says
invoke_fit set ds e p m None = tt
invoke_fit set ds e p m (Some method) =
    (λ is. record { number = call_count ds; opening = record { name = p.name; method = method; given = Some m }; is = refl; there = get_last (calls ds) _; name = refl }, tt)

-- a cancelled call stays one
pub stays_cut : (d : Deed) (ds : List Deed) (c : ℕ) → is_cancelled ds c ≡ true → is_cancelled (d ∷ ds) c ≡ true
stays_cut d ds c is = at (is_cancel_of c d.entry.kind)
  where
    at : (b : Bool) → (b || is_cancelled ds c) ≡ true
    at true = refl
    at false = is

-- those of an entry, behind others
entry_fit : (set : Setting) (ds : List Deed) (e : Entry) (kind : EntryKind) → e.kind ≡ kind
    → AllFit (record { entry = e; does = effect_of set ds kind } ∷ ds) (effect_of set ds kind).says
entry_fit set ds e (Arrive p) is = arrive_fit (record { entry = e; does = effect_of set ds (Arrive p) } ∷ ds) set ds p
entry_fit set ds e (Invoke p m) is = invoke_fit set ds e p m (method_named set p.name)
entry_fit set ds e (Say k out) is =
    let d : Deed = record { entry = e; does = effect_of set ds (Say k out) } in say_fit (d ∷ ds) set ds (stays_at d ds) (stays_cut d ds) k out (call_at ds k) refl
entry_fit set ds e (Done k) is =
    let d : Deed = record { entry = e; does = effect_of set ds (Done k) } in done_fit (d ∷ ds) set ds (stays_at d ds) (stays_cut d ds) k (call_at ds k)
entry_fit set ds e (Start k) is = tt
entry_fit set ds e (Finish k a) is =
    let d : Deed = record { entry = e; does = effect_of set ds (Finish k a) } in finish_fit (d ∷ ds) set ds (stays_at d ds) (stays_cut d ds) k a (call_at ds k) refl
entry_fit set ds e (Replace k m) is = tt
entry_fit set ds e (Cancel k) is =
    let d : Deed = record { entry = e; does = effect_of set ds (Cancel k) } in
    cancel_fit (d ∷ ds) set ds (stays_at d ds) (stays_cut d ds) k (call_at ds k) (ap (λ x. is_cancel_of k x || is_cancelled ds k) is ∙ ap (λ b. b || is_cancelled ds k) (eq-eqb k k refl))
entry_fit set ds e (Tick t) is = tt
entry_fit set ds e Flush is = tt
entry_fit set ds e EndIn is = tt
entry_fit set ds e (Halt why) is = tt
entry_fit set ds e (Close channel) is = closed_fit (record { entry = e; does = effect_of set ds (Close channel) } ∷ ds) set.role 0 (is_live_on ds channel) (calls ds)

-- one that is of a call stays so
lifted : (d : Deed) (ds : List Deed) (item : Item) → HasCall ds item.call item.act → HasCall (d ∷ ds) item.call item.act
lifted d ds item has = at item.act has
  where
    at : (act : Act) → HasCall ds item.call act → HasCall (d ∷ ds) item.call act
    at (Send p) h = λ is. let o = h is in record { number = o.number; opening = o.opening; is = o.is; there = stays_at d ds o.number o.opening o.there; name = o.name }
    at (Keep out) h = tt
    at LeaveCall h = record { number = h.number; is = h.is; cancelled = stays_cut d ds h.number h.cancelled }

all_fit : (set : Setting) (es : List Entry) → AllFit (deeds_of set es) (items_sent (deeds_of set es))
all_fit set [] = tt
all_fit set (e ∷ es) =
    let ds : List Deed = deeds_of set es in
    let now : List Deed = deeds_with set ds e in
    all_join (Fits now) (items_sent ds) (effect_of set ds e.kind).says
    (all_weaken (Fits ds) (Fits now) (items_sent ds) (lifted (record { entry = e; does = effect_of set ds e.kind }) ds) (all_fit set es))
    (entry_fit set ds e e.kind refl)

pub items_are_of_calls : ItemsAreOfCalls
items_are_of_calls set h item is = in_all (Fits (deeds_of set (reverse h))) (items_sent (deeds_of set (reverse h))) item (all_fit set (reverse h)) is
