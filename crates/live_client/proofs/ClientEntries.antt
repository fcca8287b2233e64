-- What the entries of a live client do: none behind the first opens a call, and behind the end of the output all that is said is
-- replies.
use Rattle.std.proofs.Common.{◌≡◌, ◌⊎◌, ℕ, zero, suc, ◌+◌, ◌<◌, ◌≤◌, ◌==◌, ◌&&◌, ◌||◌, not, Bool, true, false, if◌then◌else◌, List, [], ◌∷◌, ◌++◌, length, slice_get, Option, Some, None, is_none, cond, reverse, refl, ap, sym, ◌∙◌, subst, inl, inr, arith, append_assoc, length-append, flat_map}
use Rattle.std.proofs.lemmas.Bool.{and_parts, false≢true, true≢false}
use Rattle.std.proofs.lemmas.List.{append-nil}
use Rattle.std.specs.List.{AllByRecursion}
use Rattle.std.specs.Option.{option_to_list}
use Rattle.entry_lists.proofs.Makers.{all_append}
use Rattle.rpc_ids.specs.declared.method.Kind.{Kind}
use Rattle.rpc_ids.specs.declared.method.MethodRef.{MethodRef}
use Rattle.rpc_ids.specs.declared.method.Role.{Role}
use Rattle.rpc_ids.specs.declared.method.Role.TheVariants.{Client}
use Rattle.rpc_ids.specs.Registry.{has_ids}
use Rattle.rpc_ids.specs.Status.{status_of}
use Rattle.rpc_packet.specs.declared.call_name.CallName.{CallName}
use Rattle.rpc_packet.specs.declared.owned.Packet.{Packet}
use Rattle.rpc_packet.specs.declared.packet_type.PacketType.{PacketType}
use Rattle.rpc_packet.specs.declared.packet_type.PacketType.TheVariants.{Request, Response, ClientStream, ClientError, ServerError, ServerStream, Completion}
use Rattle.rpc_channel.specs.Rising.{has_id}
use Rattle.rpc_handlers.specs.declared.answer.Answer.{Answer}
use Rattle.rpc_handlers.specs.declared.answer.End.{End}
use Rattle.rpc_handlers.specs.declared.answer.Out.{Out}
use Rattle.rpc_handlers.specs.declared.event.Event.TheVariants.{Message}
use Rattle.rpc_journal.specs.declared.entry.Entry.{Entry}
use Rattle.rpc_journal.specs.declared.entry.EntryKind.{EntryKind}
use Rattle.rpc_journal.specs.declared.entry.EntryKind.TheVariants.{Arrive, Invoke, Say, Done, Start, Finish, Replace, Cancel, Tick, Flush, EndIn, Halt, Close}
use Rattle.rpc_journal.specs.declared.item.Item.{Item}
use Rattle.rpc_journal.specs.Calls.{call_at, call_count, calls, is_cancel_of, is_cancelled, live_call}
use Rattle.rpc_journal.specs.ClientTable.{call_row, live_row, no_call_row, refuses_stream}
use Rattle.rpc_journal.specs.Effect.{Deed, Effect, Opening}
use Rattle.rpc_journal.specs.Entries.{answer_item, arrive_row, cancel_effect, effect_of, end_effect, finish_effect, invoke_effect, is_heard, messages_go, with_call}
use Rattle.rpc_journal.specs.History.{deeds_of}
use Rattle.rpc_journal.specs.Items.{is_done, items_sent}
use Rattle.rpc_journal.specs.Kinds.{is_empty, is_okay, is_unary, streams_down, streams_up}
use Rattle.rpc_journal.specs.Rows.{Row, channels_in, closed_row, method_named, no_effect, both_effects, queued_row}
use Rattle.rpc_journal.specs.Lawful.{has_stream}
use Rattle.live_client.specs.Ask.{live_setting}
use Rattle.live_client.specs.Driving.{StreamsOut}
use Rattle.live_client.specs.Histories.{is_cancel, is_entry_of}
use Rattle.live_client.specs.Live.{AreReplies, IsReply}
use Rattle.live_client.specs.Silent.{is_silent}

abbrev pub is_finish : EntryKind → Bool
is_finish (Finish c a) = true
is_finish _ = false

-- what comes then
abbrev pub is_late : EntryKind → Bool
is_late (Arrive p) = true
is_late EndIn = true
is_late Flush = true
is_late (Start c) = true
is_late (Finish c a) = is_silent a
is_late (Halt why) = true
is_late _ = false

-- of entries that stand the newest first: the call wasn't cancelled in them
abbrev pub Uncut : List Entry → Type 0
Uncut es = AllByRecursion (λ e. is_cancel e.kind ≡ false) es

-- a table that knows this method alone
module _ (method : MethodRef) where
  -- ---- the rows of arrivals

  -- it opens no call, and says nothing but replies
  abbrev IsQuietEffect : Effect → Type 0
  IsQuietEffect e = (e.opens ≡ None) × AreReplies method e.says

  if_quiet : (b : Bool) (x y : Row) → IsQuietEffect x.does → IsQuietEffect y.does → IsQuietEffect (if b then x else y).does
  if_quiet true x y first second = first
  if_quiet false x y first second = second

  live_quiet : (ptype : PacketType) (p : Packet) (m : MethodRef) (k : ℕ) → m ≡ method → IsQuietEffect (live_row ptype p m k).does
  live_quiet Request p m k is = (refl, tt)
  live_quiet Response p m k is = if_quiet (is_okay (status_of p.status) && not (streams_down m.kind)) _ _ (refl, tt) (refl, tt)
  live_quiet ClientStream p m k is = (refl, tt)
  live_quiet ClientError p m k is = (refl, tt)
  live_quiet ServerError p m k is = (refl, tt)
  live_quiet ServerStream p m k is = at (streams_down m.kind) refl
    where
      at : (b : Bool) → streams_down m.kind ≡ b → IsQuietEffect (if b then queued_row k (Message p.payload) else closed_row k (refuses_stream p k)).does
      at true down = (refl, tt)
      at false up = (refl, (inr (ap (λ (x : MethodRef). streams_down x.kind) (sym is) ∙ up, record { call = k; name = p.name; is = refl }), tt))
  live_quiet Completion p m k is = (refl, tt)

  no_call_quiet : (ptype : PacketType) (p : Packet) → IsQuietEffect (no_call_row ptype p).does
  no_call_quiet Request p = (refl, tt)
  no_call_quiet Response p = (refl, tt)
  no_call_quiet ClientStream p = (refl, tt)
  no_call_quiet ClientError p = (refl, tt)
  no_call_quiet ServerError p = (refl, tt)
  no_call_quiet ServerStream p = (refl, (inl refl, tt))
  no_call_quiet Completion p = (refl, tt)

  call_quiet : (p : Packet) (o : Option MethodRef) (l : Option ℕ) → ((m : MethodRef) → o ≡ Some m → m ≡ method) → IsQuietEffect (call_row p o l).does
  call_quiet p None l same = no_call_quiet p.ptype p
  call_quiet p (Some m) None same = no_call_quiet p.ptype p
  call_quiet p (Some m) (Some k) same = live_quiet p.ptype p m k (same m refl)

  some_same : {A : Type 0} (x y : A) → Some x ≡ Some y → x ≡ y
  some_same x y is = cc is

  named_same : (name : CallName) (m : MethodRef) → method_named (live_setting method) name ≡ Some m → m ≡ method
  named_same name m = at (has_ids name.service name.method method)
    where
      at : (b : Bool) → cond b (Some method) None ≡ Some m → m ≡ method
      at true found = sym (some_same method m found)
      at false found = absurd cc

  arrive_quiet : (ds : List Deed) (p : Packet) → IsQuietEffect (arrive_row (live_setting method) ds p).does
  unfolding arrive_row
  arrive_quiet ds p =
      if_quiet (has_id (channels_in (live_setting method) ds) p.name.channel) _ _ (call_quiet p (method_named (live_setting method) p.name) (live_call ds p.name) (named_same p.name)) (refl, tt)

  -- ---- the other entries

  -- an answer without items and end says nothing
  silent_items : (role : Role) (c : ℕ) (name : CallName) (says : Bool) (items : List Out) → is_empty items ≡ true → flat_map (answer_item role c name says) items ≡ []
  silent_items role c name says [] is = refl
  silent_items role c name says (out ∷ items) is = absurd (false≢true is)

  silent_end : (heard done : Bool) (role : Role) (c : ℕ) (name : CallName) (kind : Kind) (end : Option End) → is_none end ≡ true → IsQuietEffect (if heard then end_effect role c name kind done end else no_effect)
  silent_end true done role c name kind None is = (refl, tt)
  silent_end true done role c name kind (Some end) is = absurd (false≢true is)
  silent_end false done role c name kind end is = (refl, tt)

  both_quiet : (items : List Item) (e : Effect) → items ≡ [] → IsQuietEffect e → IsQuietEffect (both_effects (record no_effect { says = items }) e)
  both_quiet items e none quiet = (quiet.0, subst (λ xs. AreReplies method (xs ++ e.says)) (sym none) quiet.1)

  finish_quiet : (ds : List Deed) (c : ℕ) (a : Answer) (o : Option Opening) → is_silent a ≡ true → is_cancelled ds c ≡ false → IsQuietEffect (finish_effect (live_setting method) ds c a o)
  finish_quiet ds c a None silent uncut = (refl, tt)
  finish_quiet ds c a (Some o) silent uncut =
      let parts = and_parts (is_empty a.items) (is_none a.end) silent in
      rw uncut (both_quiet (flat_map (answer_item Client c o.name (messages_go Client o.method.kind (is_heard ds c) (is_done ds c))) a.items) (if is_heard ds c then end_effect Client c o.name o.method.kind (is_done ds c) a.end else no_effect) (silent_items Client c o.name (messages_go Client o.method.kind (is_heard ds c) (is_done ds c)) a.items parts.0)
      (silent_end (is_heard ds c) (is_done ds c) Client c o.name o.method.kind a.end parts.1))

  cancelled_opens : (b : Bool) (x y : Effect) → x.opens ≡ None → y.opens ≡ None → (if b then x else y).opens ≡ None
  cancelled_opens true x y first second = first
  cancelled_opens false x y first second = second

  finish_opens : (ds : List Deed) (c : ℕ) (a : Answer) (o : Option Opening) → is_silent a ≡ true → (finish_effect (live_setting method) ds c a o).opens ≡ None
  finish_opens ds c a None silent = refl
  finish_opens ds c a (Some o) silent =
      let parts = and_parts (is_empty a.items) (is_none a.end) silent in
      cancelled_opens (is_cancelled ds c) _ _ refl (silent_end (is_heard ds c) (is_done ds c) Client c o.name o.method.kind a.end parts.1).0

  cancel_opens : (ds : List Deed) (c : ℕ) (o : Option Opening) → (cancel_effect (live_setting method) ds c o).opens ≡ None
  cancel_opens ds c None = refl
  cancel_opens ds c (Some o) = refl

  say_opens : (o : Option Opening) (f : Opening → Effect) → ((x : Opening) → (f x).opens ≡ None) → (with_call o f).opens ≡ None
  say_opens None f each = refl
  say_opens (Some o) f each = each o

  opens_none : (watches : Bool) (seat : ℕ) (ds : List Deed) (kind : EntryKind) → is_entry_of watches seat kind ≡ true → (effect_of (live_setting method) ds kind).opens ≡ None
  opens_none watches seat ds (Arrive p) is = (arrive_quiet ds p).0
  opens_none watches seat ds (Say c out) is = say_opens (call_at ds c) _ (λ o. refl)
  opens_none watches seat ds (Done c) is = say_opens (call_at ds c) _ (λ o. refl)
  opens_none watches seat ds (Start c) is = refl
  opens_none watches seat ds (Finish c a) is = finish_opens ds c a (call_at ds c) (and_parts (seat == 1) (is_silent a) is).1
  opens_none watches seat ds (Cancel c) is = cancel_opens ds c (call_at ds c)
  opens_none watches seat ds Flush is = refl
  opens_none watches seat ds EndIn is = refl
  opens_none watches seat ds (Halt why) is = refl
  opens_none watches seat ds _ is = absurd (false≢true is)

  -- ---- each call is of the one method

  abbrev IsOfMethod : Option Opening → Type 0
  IsOfMethod None = Unit {0}
  IsOfMethod (Some o) = o.method ≡ method

  end_opens : (c : ℕ) (name : CallName) (kind : Kind) (done : Bool) (end : Option End) → (end_effect Client c name kind done end).opens ≡ None
  end_opens c name kind done None = refl
  end_opens c name kind done (Some end) = cancelled_opens (is_okay end.status) _ _ (cancelled_opens (is_unary kind || done) _ _ refl refl) refl

  any_finish : (ds : List Deed) (c : ℕ) (a : Answer) (o : Option Opening) → (finish_effect (live_setting method) ds c a o).opens ≡ None
  any_finish ds c a None = refl
  any_finish ds c a (Some o) = cancelled_opens (is_cancelled ds c) _ _ refl (cancelled_opens (is_heard ds c) _ _ (end_opens c o.name o.method.kind (is_done ds c) a.end) refl)

  none_of : (o : Option Opening) → o ≡ None → IsOfMethod o
  none_of o is = subst IsOfMethod (sym is) tt

  of_method : (ds : List Deed) (kind : EntryKind) → IsOfMethod (effect_of (live_setting method) ds kind).opens
  of_method ds (Arrive p) = none_of _ (arrive_quiet ds p).0
  of_method ds (Invoke p m) = at (method_named (live_setting method) p.name) refl
    where
      at : (o : Option MethodRef) → method_named (live_setting method) p.name ≡ o → IsOfMethod (invoke_effect ds p m o).opens
      at None is = tt
      at (Some x) is = named_same p.name x is
  of_method ds (Say c out) = none_of _ (say_opens (call_at ds c) _ (λ o. refl))
  of_method ds (Done c) = none_of _ (say_opens (call_at ds c) _ (λ o. refl))
  of_method ds (Finish c a) = none_of _ (any_finish ds c a (call_at ds c))
  of_method ds (Cancel c) = none_of _ (cancel_opens ds c (call_at ds c))
  of_method ds (Start c) = tt
  of_method ds (Replace c m) = tt
  of_method ds (Tick t) = tt
  of_method ds Flush = tt
  of_method ds EndIn = tt
  of_method ds (Halt why) = tt
  of_method ds (Close channel) = tt

  -- of entries that stand the newest first
  all_of_method : (es : List Entry) → AllByRecursion (λ o. o.method ≡ method) (calls (deeds_of (live_setting method) es))
  all_of_method [] = tt
  all_of_method (e ∷ es) =
      let ds = deeds_of (live_setting method) es in
      all_append (λ (o : Opening). o.method ≡ method) (calls ds) (option_to_list (effect_of (live_setting method) ds e.kind).opens) (all_of_method es) (one (effect_of (live_setting method) ds e.kind).opens (of_method ds e.kind))
    where
      one : (o : Option Opening) → IsOfMethod o → AllByRecursion (λ x. x.method ≡ method) (option_to_list o)
      one None so = tt
      one (Some o) so = (so, tt)

  pub streams_always : streams_up method.kind ≡ true → (c : ℕ) → StreamsOut (live_setting method) c
  streams_always up c h there = at (calls (deeds_of (live_setting method) (reverse h))) c there.below (all_of_method (reverse h))
    where
      at : (os : List Opening) (n : ℕ) → n < length os → AllByRecursion (λ o. o.method ≡ method) os → has_stream Client (slice_get os n) ≡ true
      at [] n below all = absurd (omega arith)
      at (o ∷ os) zero below all = ap (λ (m : MethodRef). streams_up m.kind) all.0 ∙ up
      at (o ∷ os) (suc n) below all = at os n (omega arith) all.1

  calls_still : (os : List Opening) (o : Option Opening) → o ≡ None → length (os ++ option_to_list o) ≡ length os
  calls_still os None is = ap length (append-nil os)
  calls_still os (Some o) is = absurd cc

  few_opens : (os : List Opening) (o : Option Opening) → length (os ++ option_to_list o) ≤ length os + 1
  few_opens os None = omega (arith, ap length (append-nil os))
  few_opens os (Some o) = omega (arith, length-append os (o ∷ []))

  -- of entries that stand the newest first: behind the oldest none opens a call, so there is at most one
  pub one_call : (watches : Bool) (first : Entry) (es : List Entry) → AllByRecursion (λ e. is_entry_of watches e.seat e.kind ≡ true) es → call_count (deeds_of (live_setting method) (es ++ first ∷ [])) ≤ 1
  one_call watches first [] all = few_opens [] (effect_of (live_setting method) [] first.kind).opens
  one_call watches first (e ∷ es) all =
      let ds = deeds_of (live_setting method) (es ++ first ∷ []) in
      let same : call_count (deeds_of (live_setting method) ((e ∷ es) ++ first ∷ [])) ≡ call_count ds = calls_still (calls ds) (effect_of (live_setting method) ds e.kind).opens (opens_none watches e.seat ds e.kind all.0) in
      subst (λ n. n ≤ 1) (sym same) (one_call watches first es all.1)

  -- ---- behind the end of the output

  pub uncancelled : (es : List Entry) (c : ℕ) → Uncut es → is_cancelled (deeds_of (live_setting method) es) c ≡ false
  uncancelled [] c uncut = refl
  uncancelled (e ∷ es) c uncut = at e.kind uncut.0 (uncancelled es c uncut.1)
    where
      at : (kind : EntryKind) → is_cancel kind ≡ false → is_cancelled (deeds_of (live_setting method) es) c ≡ false → (is_cancel_of c kind || is_cancelled (deeds_of (live_setting method) es) c) ≡ false
      at (Cancel x) off rest = absurd (true≢false off)
      at _ off rest = rest

  pub late_quiet : (ds : List Deed) (kind : EntryKind) → is_late kind ≡ true → (is_finish kind ≡ false) ⊎ ((c : ℕ) → is_cancelled ds c ≡ false) → AreReplies method (effect_of (live_setting method) ds kind).says
  late_quiet ds (Arrive p) late cause = (arrive_quiet ds p).1
  late_quiet ds EndIn late cause = tt
  late_quiet ds Flush late cause = tt
  late_quiet ds (Start c) late cause = tt
  late_quiet ds (Halt why) late cause = tt
  late_quiet ds (Finish c a) late (inl off) = absurd (true≢false off)
  late_quiet ds (Finish c a) late (inr uncut) = (finish_quiet ds c a (call_at ds c) late (uncut c)).1
  late_quiet ds _ late cause = absurd (false≢true late)

  -- the items behind some are replies
  pub record AddsReplies (before after : List Item) : Type 0 where
    pub late : List Item
    pub is : after ≡ before ++ late
    pub replies : AreReplies method late

  pub replies_trans : (a b c : List Item) → AddsReplies a b → AddsReplies b c → AddsReplies a c
  replies_trans a b c first second = record {
    late = first.late ++ second.late;
    is = second.is ∙ (ap (λ xs. xs ++ second.late) first.is ∙ append_assoc a first.late second.late);
    replies = all_append (IsReply method) first.late second.late first.replies second.replies;
  }

  -- of entries that stand the newest first: those that come late say replies alone, where no cancelled call's run ends
  pub late_replies : (new old : List Entry) → AllByRecursion (λ e. is_late e.kind ≡ true) new → AllByRecursion (λ e. is_finish e.kind ≡ false) new ⊎ Uncut (new ++ old)
      → AddsReplies (items_sent (deeds_of (live_setting method) old)) (items_sent (deeds_of (live_setting method) (new ++ old)))
  late_replies [] old late cause = record { late = []; is = sym (append-nil (items_sent (deeds_of (live_setting method) old))); replies = tt }
  late_replies (e ∷ new) old late (inl none) =
      let ds = deeds_of (live_setting method) (new ++ old) in
      replies_trans (items_sent (deeds_of (live_setting method) old)) (items_sent ds) (items_sent (deeds_of (live_setting method) ((e ∷ new) ++ old))) (late_replies new old late.1 (inl none.1))
      (record { late = (effect_of (live_setting method) ds e.kind).says; is = refl; replies = late_quiet ds e.kind late.0 (inl none.0) })
  late_replies (e ∷ new) old late (inr uncut) =
      let ds = deeds_of (live_setting method) (new ++ old) in
      replies_trans (items_sent (deeds_of (live_setting method) old)) (items_sent ds) (items_sent (deeds_of (live_setting method) ((e ∷ new) ++ old))) (late_replies new old late.1 (inr uncut.1))
      (record { late = (effect_of (live_setting method) ds e.kind).says; is = refl; replies = late_quiet ds e.kind late.0 (inr (λ c. uncancelled (new ++ old) c uncut.1)) })
