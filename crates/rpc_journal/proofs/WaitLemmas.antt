-- How many events wait for a call: at most 64 other than Ended, and one Ended.
use Rattle.std.proofs.Common.{◌≡◌, ◌⊎◌, ℕ, ◌+◌, ◌<◌, ◌≤◌, Bool, true, false, not, ◌&&◌, ◌||◌, ◌==◌, nat_le, nat_lt, List, [], ◌∷◌, ◌++◌, length, map, drop, cond, count_by, Option, Some, None, is_some, if◌then◌else◌, refl, ap, sym, ◌∙◌, subst, inl, inr, arith}
use Rattle.std.proofs.lemmas.Bool.{true≢false, false≢true, and_parts, not-true, eqb-true, leb-false, ltb-true}
use Rattle.std.proofs.lemmas.List.Sums.{count_by-le-length, sum_by-append, sum_by-cons}
use Rattle.rpc_channel.specs.Rising.{has_id}
use Rattle.rpc_ids.specs.declared.method.MethodRef.{MethodRef}
use Rattle.rpc_ids.specs.declared.method.Role.{Role}
use Rattle.rpc_ids.specs.declared.method.Role.TheVariants.{Server, Client}
use Rattle.rpc_ids.specs.declared.status.Status.{Status}
use Rattle.rpc_ids.specs.declared.status.Status.TheVariants.{Aborted, Unavailable}
use Rattle.rpc_ids.specs.Status.{status_of}
use Rattle.rpc_packet.specs.declared.owned.Packet.{Packet}
use Rattle.rpc_packet.specs.declared.packet_type.PacketType.{PacketType}
use Rattle.rpc_packet.specs.declared.packet_type.PacketType.TheVariants.{Request, Response, ClientStream, ClientError, ServerError, ServerStream, Completion}
use Rattle.rpc_handlers.specs.declared.event.Event.{Event}
use Rattle.rpc_handlers.specs.declared.event.Event.TheVariants.{Ended, Tick as Ticked}
use Rattle.rpc_journal.specs.declared.entry.Entry.{Entry}
use Rattle.rpc_journal.specs.declared.entry.EntryKind.{EntryKind}
use Rattle.rpc_journal.specs.declared.entry.EntryKind.TheVariants.{Arrive, Invoke, Say, Done, Start, Finish, Replace, Cancel, Tick, Flush, EndIn, Halt, Close}
use Rattle.rpc_journal.specs.declared.setting.Setting.{Setting}
use Rattle.rpc_journal.specs.declared.waiting.Waiting.{Waiting}
use Rattle.rpc_journal.specs.Calls.{calls, call_at, call_count, ends_of, has_end, is_start_of, live_call, of_call}
use Rattle.rpc_journal.specs.ClientTable.{call_row, live_row, no_call_row}
use Rattle.rpc_journal.specs.Effect.{Effect, Opening, Deed}
use Rattle.rpc_journal.specs.Entries.{arrive_row, each_from, effect_of, is_live, is_live_on, row_by, wants_tick}
use Rattle.rpc_journal.specs.History.{deeds_of, deed_by}
use Rattle.rpc_journal.specs.Items.{input_ended, is_end_in}
use Rattle.rpc_journal.specs.Lawful.{AllowedAll, full_among}
use Rattle.rpc_journal.specs.Laws.{FewWait, ends_waiting}
use Rattle.rpc_journal.specs.Kinds.{is_empty, is_okay, is_unary, streams_down, streams_up}
use Rattle.rpc_journal.specs.Queues.{drops_of, is_completed, is_ended, messages_waiting, puts_since, starts_since, waiting_of, put_at}
use Rattle.rpc_journal.specs.Rows.{Row, channels_in, method_named}
use Rattle.rpc_journal.specs.ServerTable.{known_row, method_row, unknown_row}
use Rattle.rpc_journal.proofs.Allowed.{Allowed, allowed}
use Rattle.rpc_journal.proofs.EachLemmas.{has_number, none_past, one_put}
use Rattle.rpc_journal.proofs.EndLemmas.{ended_known}
use Rattle.rpc_journal.proofs.EndedLemmas.{effect-none, invoke-none, some_in, with_call-none}
use Rattle.rpc_journal.proofs.KnownLemmas.{cancel-puts, finish-puts}
use Rattle.rpc_journal.proofs.PacketLemmas.{has_end-more}
use Rattle.rpc_journal.proofs.PlaceLemmas.{below_or_not, get_some}
use Rattle.rpc_journal.proofs.RunLemmas.{started_ready}
use Rattle.rpc_journal.proofs.QueueLemmas.{put_is, queue_is, some_left}

-- how many of these events are none of an end, and how many are
abbrev messages_in : List Event → ℕ
messages_in events = count_by (λ event. not (is_ended event)) events

abbrev ends_in : List Event → ℕ
ends_in events = count_by is_ended events

-- what is kept of a call by each allowed entry; an Ended waits only for one that has an end, or behind the input's end
record Bounded (ds : List Deed) (c : ℕ) : Type 0 where
  put : starts_since ds c ≤ length (puts_since ds c)
  messages : messages_waiting ds c ≤ 64
  ends : ends_waiting ds c ≤ 1
  none_yet : has_end ds c ≡ false → input_ended ds ≡ false → ends_waiting ds c ≡ 0

-- what keeps it so
record StepFew (ds : List Deed) (d : Deed) (c : ℕ) : Type 0 where
  alone : is_start_of c d.entry.kind ≡ true → (drops_of d c ≡ false) × (of_call c d.does.puts ≡ [])
  some : is_start_of c d.entry.kind ≡ true → is_empty (waiting_of ds c) ≡ false
  messages : (if drops_of d c then 0 else messages_waiting ds c) + messages_in (of_call c d.does.puts) ≤ 64
  ends : (if drops_of d c then 0 else ends_waiting ds c) + ends_in (of_call c d.does.puts) ≤ 1
  none_yet : has_end (d ∷ ds) c ≡ false → input_ended (d ∷ ds) ≡ false
      → (if drops_of d c then 0 else ends_waiting ds c) + ends_in (of_call c d.does.puts) ≡ 0

module _ (P : Event → Bool) where
  put_count : (at : ℕ) (events : List Event) → count_by (λ w. P w.event) (put_at at events) ≡ count_by P events
  put_count at [] = refl
  put_count at (event ∷ events) =
      sum_by-cons (λ w. cond (P w.event) 1 0) (record { at = at; event = event }) (put_at at events)
      ∙ (ap (λ n. cond (P event) 1 0 + n) (put_count at events) ∙ sym (sum_by-cons (λ x. cond (P x) 1 0) event events))

  drop_count : (ws : List Waiting) → count_by (λ w. P w.event) (drop 1 ws) ≤ count_by (λ w. P w.event) ws
  drop_count [] = omega arith
  drop_count (w ∷ ws) = omega (arith, sum_by-cons (λ x. cond (P x.event) 1 0) w ws)

  -- what waits behind an entry is no more than what stays and what is put
  after_count : (s b : Bool) (at : ℕ) (ws : List Waiting) (events : List Event) → (s ≡ true → (b ≡ false) × (events ≡ []))
      → count_by (λ w. P w.event) (if s then drop 1 ws else (if b then [] else ws) ++ put_at at events)
      ≤ (if b then 0 else count_by (λ w. P w.event) ws) + count_by P events
  after_count true true at ws events alone = absurd (true≢false (alone refl).0)
  after_count true false at ws events alone = omega (arith, drop_count ws)
  after_count false true at ws events alone = omega (arith, put_count at events)
  after_count false false at ws events alone =
      omega (arith, sum_by-append (λ w. cond (P w.event) 1 0) ws (put_at at events), put_count at events)

few_step : (ds : List Deed) (d : Deed) (c : ℕ) → Bounded ds c → StepFew ds d c → Bounded (d ∷ ds) c
few_step ds d c before step =
    let alone : is_start_of c d.entry.kind ≡ true → (drops_of d c ≡ false) × (put_at (length ds) (of_call c d.does.puts) ≡ []) =
    λ s. ((step.alone s).0, ap (put_at (length ds)) (step.alone s).1) in
    let now : waiting_of (d ∷ ds) c ≡ (if is_start_of c d.entry.kind then drop 1 (waiting_of ds c) else (if drops_of d c then [] else waiting_of ds c) ++ put_at (length ds) (of_call c d.does.puts)) =
    queue_is (drops_of d c) (is_start_of c d.entry.kind) (starts_since ds c) (puts_since ds c) (put_at (length ds) (of_call c d.does.puts)) (waiting_of ds c) alone before.put refl in
    let messages : messages_waiting (d ∷ ds) c ≤ (if drops_of d c then 0 else messages_waiting ds c) + messages_in (of_call c d.does.puts) =
    subst (λ ws. count_by (λ w. not (is_ended w.event)) ws ≤ (if drops_of d c then 0 else messages_waiting ds c) + messages_in (of_call c d.does.puts)) (sym now)
    (after_count (λ event. not (is_ended event)) (is_start_of c d.entry.kind) (drops_of d c) (length ds) (waiting_of ds c) (of_call c d.does.puts) step.alone) in
    let ends : ends_waiting (d ∷ ds) c ≤ (if drops_of d c then 0 else ends_waiting ds c) + ends_in (of_call c d.does.puts) =
    subst (λ ws. count_by (λ w. is_ended w.event) ws ≤ (if drops_of d c then 0 else ends_waiting ds c) + ends_in (of_call c d.does.puts)) (sym now)
    (after_count is_ended (is_start_of c d.entry.kind) (drops_of d c) (length ds) (waiting_of ds c) (of_call c d.does.puts) step.alone) in
    record {
      put = put_is (drops_of d c) (is_start_of c d.entry.kind) (starts_since ds c) (puts_since ds c) (put_at (length ds) (of_call c d.does.puts)) before.put
          (λ s. some_left (starts_since ds c) (puts_since ds c) (waiting_of ds c) refl (step.some s));
      messages = omega (arith, messages, step.messages);
      ends = omega (arith, ends, step.ends);
      none_yet = λ unended open_input. omega (arith, ends, step.none_yet unended open_input);
    }

-- a Start drops nothing and puts nothing
start_alone : (set : Setting) (ds : List Deed) (seat : ℕ) (kind : EntryKind) (c : ℕ) → is_start_of c kind ≡ true
    → (drops_of (deed_by seat kind (effect_of set ds kind)) c ≡ false) × (of_call c (effect_of set ds kind).puts ≡ [])
start_alone set ds seat (Start x) c is = (refl, refl)
start_alone set ds seat (Arrive p) c is = absurd (false≢true is)
start_alone set ds seat (Invoke p m) c is = absurd (false≢true is)
start_alone set ds seat (Say x out) c is = absurd (false≢true is)
start_alone set ds seat (Done x) c is = absurd (false≢true is)
start_alone set ds seat (Finish x a) c is = absurd (false≢true is)
start_alone set ds seat (Replace x m) c is = absurd (false≢true is)
start_alone set ds seat (Cancel x) c is = absurd (false≢true is)
start_alone set ds seat (Tick t) c is = absurd (false≢true is)
start_alone set ds seat Flush c is = absurd (false≢true is)
start_alone set ds seat EndIn c is = absurd (false≢true is)
start_alone set ds seat (Halt why) c is = absurd (false≢true is)
start_alone set ds seat (Close channel) c is = absurd (false≢true is)

start_some : (set : Setting) (ds : List Deed) (e : Entry) (c : ℕ) → Allowed set ds e → is_start_of c e.kind ≡ true → is_empty (waiting_of ds c) ≡ false
start_some set ds e c fits is =
    let ready = started_ready ds c e.kind fits.started is in
    not-true _ (and_parts _ _ (and_parts _ _ (and_parts _ _ (and_parts _ _ ready).0).0).0).0

-- what has no end behind an entry had none before it, and is given none
unended_before : (ds : List Deed) (d : Deed) (c : ℕ) → has_end (d ∷ ds) c ≡ false → has_end ds c ≡ false
unended_before ds d c is = at (has_end ds c) refl
  where
    at : (b : Bool) → has_end ds c ≡ b → b ≡ false
    at false e = refl
    at true e = absurd (true≢false (sym (has_end-more ds d c e) ∙ is))

no_end_given : {A : Type 0} (xs ys : List A) → not (is_empty (xs ++ ys)) ≡ false → ys ≡ []
no_end_given [] [] is = refl
no_end_given [] (y ∷ ys) is = absurd (true≢false is)
no_end_given (x ∷ xs) ys is = absurd (true≢false is)

or_second : (a b : Bool) → (a || b) ≡ false → b ≡ false
or_second true b is = absurd (true≢false is)
or_second false b is = is

kept_or_not : (b : Bool) (m k n : ℕ) → m + k ≤ n → (if b then 0 else m) + k ≤ n
kept_or_not true m k n is = omega (arith, is)
kept_or_not false m k n is = is

-- an entry that puts nothing to the call
few_none : (set : Setting) (ds : List Deed) (seat : ℕ) (kind : EntryKind) (c : ℕ) → Allowed set ds (record { seat = seat; kind = kind }) → Bounded ds c
    → of_call c (effect_of set ds kind).puts ≡ [] → StepFew ds (deed_by seat kind (effect_of set ds kind)) c
few_none set ds seat kind c fits before none = record {
  alone = start_alone set ds seat kind c;
  some = start_some set ds (record { seat = seat; kind = kind }) c fits;
  messages = kept_or_not _ (messages_waiting ds c) _ 64 (rw none (omega (arith, before.messages)));
  ends = kept_or_not _ (ends_waiting ds c) _ 1 (rw none (omega (arith, before.ends)));
  none_yet = λ unended open_input.
      let was : ends_waiting ds c ≡ 0 = before.none_yet (unended_before ds (deed_by seat kind (effect_of set ds kind)) c unended) (or_second _ _ open_input) in
      rw (none, was) (at (drops_of (deed_by seat kind (effect_of set ds kind)) c));
}
  where
    at : (b : Bool) → (if b then 0 else 0) + 0 ≡ 0
    at true = refl
    at false = refl

-- what a row of the tables puts to one call: at most one message, and one Ended where it ends the call
record RowFew (c : ℕ) (e : Effect) : Type 0 where
  messages : messages_in (of_call c e.puts) ≤ 1
  ends : ends_in (of_call c e.puts) ≤ 1
  paired : of_call c e.ends ≡ [] → ends_in (of_call c e.puts) ≡ 0

no_more : {A : Type 0} (s : Status) → (s ∷ []) ≡ [] → A
no_more s is = absurd cc

few_nothing : (c : ℕ) (e : Effect) → e.puts ≡ [] → RowFew c e
few_nothing c e puts = record { messages = rw puts (omega arith); ends = rw puts (omega arith); paired = λ none. rw puts refl }

few_event : (c k : ℕ) (event : Event) (e : Effect) → is_ended event ≡ false → e.puts ≡ (k, event) ∷ [] → RowFew c e
few_event c k event e plain puts = record {
  messages = rw puts (at (k == c));
  ends = rw puts (none (k == c));
  paired = λ ends. rw puts (zero_of (k == c));
}
  where
    at : (b : Bool) → messages_in (if b then event ∷ [] else []) ≤ 1
    at true = rw plain (omega arith)
    at false = omega arith

    none : (b : Bool) → ends_in (if b then event ∷ [] else []) ≤ 1
    none true = rw plain (omega arith)
    none false = omega arith

    zero_of : (b : Bool) → ends_in (if b then event ∷ [] else []) ≡ 0
    zero_of true = rw plain refl
    zero_of false = refl

few_end : (c k : ℕ) (s : Status) (e : Effect) → e.puts ≡ (k, Ended s) ∷ [] → e.ends ≡ (k, s) ∷ [] → RowFew c e
few_end c k s e puts ends = record {
  messages = rw puts (at (k == c));
  ends = rw puts (one (k == c));
  paired = λ none. rw puts (pair (k == c) (subst (λ xs. of_call c xs ≡ []) ends none));
}
  where
    at : (b : Bool) → messages_in (if b then Ended s ∷ [] else []) ≤ 1
    at true = omega arith
    at false = omega arith

    one : (b : Bool) → ends_in (if b then Ended s ∷ [] else []) ≤ 1
    one true = omega arith
    one false = omega arith

    pair : (b : Bool) → (if b then s ∷ [] else []) ≡ [] → ends_in (if b then Ended s ∷ [] else []) ≡ 0
    pair true none = no_more s none
    pair false none = refl

few_anew : (c k n : ℕ) (s : Status) (event : Event) (e : Effect) → is_ended event ≡ false → e.puts ≡ (k, Ended s) ∷ (n, event) ∷ [] → e.ends ≡ (k, s) ∷ [] → RowFew c e
few_anew c k n s event e plain puts ends = record {
  messages = rw puts (at (k == c) (n == c));
  ends = rw puts (one (k == c) (n == c));
  paired = λ none. rw puts (pair (k == c) (n == c) (subst (λ xs. of_call c xs ≡ []) ends none));
}
  where
    at : (b q : Bool) → messages_in (if b then Ended s ∷ (if q then event ∷ [] else []) else (if q then event ∷ [] else [])) ≤ 1
    at true true = rw plain (omega arith)
    at true false = omega arith
    at false true = rw plain (omega arith)
    at false false = omega arith

    one : (b q : Bool) → ends_in (if b then Ended s ∷ (if q then event ∷ [] else []) else (if q then event ∷ [] else [])) ≤ 1
    one true true = rw plain (omega arith)
    one true false = omega arith
    one false true = rw plain (omega arith)
    one false false = omega arith

    pair : (b q : Bool) → (if b then s ∷ [] else []) ≡ [] → ends_in (if b then Ended s ∷ (if q then event ∷ [] else []) else (if q then event ∷ [] else [])) ≡ 0
    pair true q none = no_more s none
    pair false true none = rw plain refl
    pair false false none = refl

few_answer : (c k : ℕ) (s : Status) (event : Event) (e : Effect) → is_ended event ≡ false → e.puts ≡ (k, event) ∷ (k, Ended s) ∷ [] → e.ends ≡ (k, s) ∷ [] → RowFew c e
few_answer c k s event e plain puts ends = record {
  messages = rw puts (at (k == c));
  ends = rw puts (one (k == c));
  paired = λ none. rw puts (pair (k == c) (subst (λ xs. of_call c xs ≡ []) ends none));
}
  where
    at : (b : Bool) → messages_in (if b then event ∷ (if b then Ended s ∷ [] else []) else (if b then Ended s ∷ [] else [])) ≤ 1
    at true = rw plain (omega arith)
    at false = omega arith

    one : (b : Bool) → ends_in (if b then event ∷ (if b then Ended s ∷ [] else []) else (if b then Ended s ∷ [] else [])) ≤ 1
    one true = rw plain (omega arith)
    one false = omega arith

    pair : (b : Bool) → (if b then s ∷ [] else []) ≡ [] → ends_in (if b then event ∷ (if b then Ended s ∷ [] else []) else (if b then Ended s ∷ [] else [])) ≡ 0
    pair true none = no_more s none
    pair false none = refl

if_few : (c : ℕ) (b : Bool) (x y : Row) → RowFew c x.does → RowFew c y.does → RowFew c (if b then x else y).does
if_few c true x y first second = first
if_few c false x y first second = second

known_row-few : (c : ℕ) (ptype : PacketType) (p : Packet) (m : MethodRef) (ds : List Deed) (l : Option ℕ) → RowFew c (known_row ptype p m ds l).does
known_row-few c Request p m ds None = few_event c (call_count ds) _ _ refl refl
known_row-few c Request p m ds (Some k) = few_anew c k (call_count ds) _ _ _ refl refl refl
known_row-few c Response p m ds l = few_nothing c _ refl
known_row-few c ClientStream p m ds None = few_nothing c _ refl
known_row-few c ClientStream p m ds (Some k) =
    if_few c (not (streams_up m.kind)) _ _ (few_nothing c _ refl) (if_few c (is_completed ds k) _ _ (few_nothing c _ refl) (few_event c k _ _ refl refl))
known_row-few c ClientError p m ds None = few_nothing c _ refl
known_row-few c ClientError p m ds (Some k) = few_end c k _ _ refl refl
known_row-few c ServerError p m ds l = few_nothing c _ refl
known_row-few c ServerStream p m ds l = few_nothing c _ refl
known_row-few c Completion p m ds None = few_nothing c _ refl
known_row-few c Completion p m ds (Some k) =
    if_few c (is_unary m.kind || is_completed ds k) _ _ (few_nothing c _ refl) (few_event c k _ _ refl refl)

unknown_row-few : (c : ℕ) (ptype : PacketType) (p : Packet) (s : Status) → RowFew c (unknown_row ptype p s).does
unknown_row-few c Request p s = few_nothing c _ refl
unknown_row-few c Response p s = few_nothing c _ refl
unknown_row-few c ClientStream p s = few_nothing c _ refl
unknown_row-few c ClientError p s = few_nothing c _ refl
unknown_row-few c ServerError p s = few_nothing c _ refl
unknown_row-few c ServerStream p s = few_nothing c _ refl
unknown_row-few c Completion p s = few_nothing c _ refl

method_row-few : (c : ℕ) (p : Packet) (ds : List Deed) (o : Option MethodRef) → RowFew c (method_row p ds o).does
method_row-few c p ds None = unknown_row-few c p.ptype p _
method_row-few c p ds (Some m) = known_row-few c p.ptype p m ds (live_call ds p.name)

live_row-few : (c k : ℕ) (ptype : PacketType) (p : Packet) (m : MethodRef) → RowFew c (live_row ptype p m k).does
live_row-few c k Request p m = few_nothing c _ refl
live_row-few c k Response p m =
    if_few c (is_okay (status_of p.status) && not (streams_down m.kind)) _ _ (few_answer c k _ _ _ refl refl refl) (few_end c k _ _ refl refl)
live_row-few c k ClientStream p m = few_nothing c _ refl
live_row-few c k ClientError p m = few_nothing c _ refl
live_row-few c k ServerError p m = few_end c k _ _ refl refl
live_row-few c k ServerStream p m = if_few c (streams_down m.kind) _ _ (few_event c k _ _ refl refl) (few_end c k _ _ refl refl)
live_row-few c k Completion p m = few_nothing c _ refl

no_call_row-few : (c : ℕ) (ptype : PacketType) (p : Packet) → RowFew c (no_call_row ptype p).does
no_call_row-few c Request p = few_nothing c _ refl
no_call_row-few c Response p = few_nothing c _ refl
no_call_row-few c ClientStream p = few_nothing c _ refl
no_call_row-few c ClientError p = few_nothing c _ refl
no_call_row-few c ServerError p = few_nothing c _ refl
no_call_row-few c ServerStream p = few_nothing c _ refl
no_call_row-few c Completion p = few_nothing c _ refl

call_row-few : (c : ℕ) (p : Packet) (o : Option MethodRef) (l : Option ℕ) → RowFew c (call_row p o l).does
call_row-few c p None l = no_call_row-few c p.ptype p
call_row-few c p (Some m) None = no_call_row-few c p.ptype p
call_row-few c p (Some m) (Some k) = live_row-few c k p.ptype p m

row_by-few : (role : Role) (set : Setting) (ds : List Deed) (p : Packet) (c : ℕ) → RowFew c (row_by role set ds p).does
row_by-few Server set ds p c =
    if_few c (has_id (channels_in set ds) p.name.channel) _ _ (method_row-few c p ds (method_named set p.name)) (unknown_row-few c p.ptype p _)
row_by-few Client set ds p c =
    if_few c (has_id (channels_in set ds) p.name.channel) _ _ (call_row-few c p (method_named set p.name) (live_call ds p.name)) (few_nothing c _ refl)

arrive-few : (set : Setting) (ds : List Deed) (p : Packet) (c : ℕ) → RowFew c (arrive_row set ds p).does
unfolding arrive_row
arrive-few set ds p c = row_by-few set.role set ds p c

-- where no queue is full, a message is put only behind fewer than 64
full_none : (ds : List Deed) (c : ℕ) (puts : List (ℕ × Event)) → full_among ds puts ≡ None
    → (messages_in (of_call c puts) ≡ 0) ⊎ (messages_waiting ds c < 64)
full_none ds c [] is = inl refl
full_none ds c (put ∷ puts) is = at (not (is_ended put.1)) (nat_le 64 (messages_waiting ds put.0)) refl refl is (full_none ds c puts)
  where
    at : (m f : Bool) → not (is_ended put.1) ≡ m → nat_le 64 (messages_waiting ds put.0) ≡ f
        → (if m && f then Some put.0 else full_among ds puts) ≡ None
        → (full_among ds puts ≡ None → (messages_in (of_call c puts) ≡ 0) ⊎ (messages_waiting ds c < 64))
        → (messages_in (if put.0 == c then put.1 ∷ of_call c puts else of_call c puts) ≡ 0) ⊎ (messages_waiting ds c < 64)
    at true true message full is rest = absurd cc
    at true false message full is rest = here (put.0 == c) refl (rest is)
      where
        here : (b : Bool) → (put.0 == c) ≡ b → (messages_in (of_call c puts) ≡ 0) ⊎ (messages_waiting ds c < 64)
            → (messages_in (if b then put.1 ∷ of_call c puts else of_call c puts) ≡ 0) ⊎ (messages_waiting ds c < 64)
        here true same more = inr (subst (λ k. messages_waiting ds k < 64) (eqb-true put.0 c same) (leb-false 64 (messages_waiting ds put.0) full))
        here false same more = more
    at false f message full is rest = here (put.0 == c) (rest is)
      where
        here : (b : Bool) → (messages_in (of_call c puts) ≡ 0) ⊎ (messages_waiting ds c < 64)
            → (messages_in (if b then put.1 ∷ of_call c puts else of_call c puts) ≡ 0) ⊎ (messages_waiting ds c < 64)
        here true (inl none) =
            inl (sum_by-cons (λ x. cond (not (is_ended x)) 1 0) put.1 (of_call c puts) ∙ rw (message, none) refl)
        here true (inr few) = inr few
        here false more = more

no_full : {A : Type 0} (o : Option A) → is_some o ≡ false → o ≡ None
no_full None is = refl
no_full (Some x) is = absurd (true≢false is)

arrive_step : (set : Setting) (h : List Entry) (seat c : ℕ) (p : Packet) → Allowed set (deeds_of set h) (record { seat = seat; kind = Arrive p }) → Bounded (deeds_of set h) c
    → StepFew (deeds_of set h) (deed_by seat (Arrive p) (effect_of set (deeds_of set h) (Arrive p))) c
arrive_step set h seat c p fits before = at (has_end (deeds_of set h) c) refl
  where
    at : (b : Bool) → has_end (deeds_of set h) c ≡ b → StepFew (deeds_of set h) (deed_by seat (Arrive p) (effect_of set (deeds_of set h) (Arrive p))) c
    at true ended = few_none set (deeds_of set h) seat (Arrive p) c fits before (effect-none set (deeds_of set h) (Arrive p) c ended (ended_known set h c ended))
    at false live =
        let ds : List Deed = deeds_of set h in
        let row = arrive-few set ds p c in
        let none : ends_waiting ds c ≡ 0 = before.none_yet live fits.input in
        let full : full_among ds (arrive_row set ds p).does.puts ≡ None = no_full _ (or_second _ _ fits.accepted) in
        record {
          alone = λ s. absurd (false≢true s);
          some = λ s. absurd (false≢true s);
          messages = kept_or_not _ (messages_waiting ds c) _ 64 (by (full_none ds c (arrive_row set ds p).does.puts full) row.messages);
          ends = kept_or_not _ (ends_waiting ds c) _ 1 (omega (arith, none, row.ends));
          none_yet = λ unended open_input.
              let given : ends_in (of_call c (arrive_row set ds p).does.puts) ≡ 0 = row.paired (no_end_given (ends_of ds c) _ unended) in
              rw (given, none) (zero_either (drops_of (deed_by seat (Arrive p) (effect_of set ds (Arrive p))) c));
        }
      where
        by : (messages_in (of_call c (arrive_row set (deeds_of set h) p).does.puts) ≡ 0) ⊎ (messages_waiting (deeds_of set h) c < 64)
            → messages_in (of_call c (arrive_row set (deeds_of set h) p).does.puts) ≤ 1
            → messages_waiting (deeds_of set h) c + messages_in (of_call c (arrive_row set (deeds_of set h) p).does.puts) ≤ 64
        by (inl none) one = omega (arith, none, before.messages)
        by (inr few) one = omega (arith, few, one)

        zero_either : (b : Bool) → (if b then 0 else 0) + 0 ≡ 0
        zero_either true = refl
        zero_either false = refl

-- an entry that puts one event to each call that passes a test: this call doesn't, isn't there, or does
each_step : (set : Setting) (h : List Entry) (seat c : ℕ) (kind : EntryKind) (test : ℕ → Opening → Bool) (event : Event)
    → Allowed set (deeds_of set h) (record { seat = seat; kind = kind }) → Bounded (deeds_of set h) c → (effect_of set (deeds_of set h) kind).puts ≡ each_from 0 test event (calls (deeds_of set h))
    → ((o : Opening) → test c o ≡ true → of_call c (effect_of set (deeds_of set h) kind).puts ≡ event ∷ []
    → c < call_count (deeds_of set h) → StepFew (deeds_of set h) (deed_by seat kind (effect_of set (deeds_of set h) kind)) c)
    → StepFew (deeds_of set h) (deed_by seat kind (effect_of set (deeds_of set h) kind)) c
each_step set h seat c kind test event fits before puts given = at (below_or_not c (call_count (deeds_of set h)))
  where
    at : (c < call_count (deeds_of set h)) ⊎ (call_count (deeds_of set h) ≤ c) → StepFew (deeds_of set h) (deed_by seat kind (effect_of set (deeds_of set h) kind)) c
    at (inr past) = few_none set (deeds_of set h) seat kind c fits before (ap (of_call c) puts ∙ none_past test event (calls (deeds_of set h)) 0 c (omega (arith, past)))
    at (inl below) =
        let found = get_some (calls (deeds_of set h)) c below in
        let is : of_call c (effect_of set (deeds_of set h) kind).puts ≡ (if test c found.0 then event ∷ [] else []) =
        ap (of_call c) puts ∙ one_put test event (calls (deeds_of set h)) 0 c c found.0 found.1 (omega arith) in
        by found.0 (test c found.0) refl is below
      where
        by : (o : Opening) (b : Bool) → test c o ≡ b → of_call c (effect_of set (deeds_of set h) kind).puts ≡ (if b then event ∷ [] else []) → c < call_count (deeds_of set h)
            → StepFew (deeds_of set h) (deed_by seat kind (effect_of set (deeds_of set h) kind)) c
        by o true tested is below = given o tested is below
        by o false tested is below = few_none set (deeds_of set h) seat kind c fits before is

tick_step : (set : Setting) (h : List Entry) (seat c now : ℕ) → Allowed set (deeds_of set h) (record { seat = seat; kind = Tick now }) → Bounded (deeds_of set h) c
    → StepFew (deeds_of set h) (deed_by seat (Tick now) (effect_of set (deeds_of set h) (Tick now))) c
tick_step set h seat c now fits before =
    each_step set h seat c (Tick now) (wants_tick (deeds_of set h)) (Ticked now) fits before refl
    (λ o wants is below.
    let few : length (waiting_of (deeds_of set h) c) < 64 = ltb-true (length (waiting_of (deeds_of set h) c)) 64 (and_parts _ _ wants).1 in
    let less : messages_waiting (deeds_of set h) c ≤ length (waiting_of (deeds_of set h) c) = count_by-le-length _ (waiting_of (deeds_of set h) c) in
    record {
      alone = λ s. absurd (false≢true s);
      some = λ s. absurd (false≢true s);
      messages = rw is (omega (arith, few, less));
      ends = rw is (omega (arith, before.ends));
      none_yet = λ unended open_input.
          let was : ends_waiting (deeds_of set h) c ≡ 0 =
          before.none_yet (unended_before (deeds_of set h) (deed_by seat (Tick now) (effect_of set (deeds_of set h) (Tick now))) c unended) open_input in
          rw (is, was) refl;
    })

end_step : (set : Setting) (h : List Entry) (seat c : ℕ) → Allowed set (deeds_of set h) (record { seat = seat; kind = EndIn }) → Bounded (deeds_of set h) c
    → StepFew (deeds_of set h) (deed_by seat EndIn (effect_of set (deeds_of set h) EndIn)) c
end_step set h seat c fits before =
    each_step set h seat c EndIn (is_live (deeds_of set h)) (Ended Unavailable) fits before refl
    (λ o live is below.
    let none : ends_waiting (deeds_of set h) c ≡ 0 = before.none_yet (not-true _ live) fits.input in
    record {
      alone = λ s. absurd (false≢true s);
      some = λ s. absurd (false≢true s);
      messages = rw is (omega (arith, before.messages));
      ends = rw is (omega (arith, none));
      none_yet = λ unended open_input. absurd (true≢false open_input);
    })

close_step : (set : Setting) (h : List Entry) (seat c channel : ℕ) → Allowed set (deeds_of set h) (record { seat = seat; kind = Close channel }) → Bounded (deeds_of set h) c
    → StepFew (deeds_of set h) (deed_by seat (Close channel) (effect_of set (deeds_of set h) (Close channel))) c
close_step set h seat c channel fits before =
    each_step set h seat c (Close channel) (is_live_on (deeds_of set h) channel) (Ended Aborted) fits before refl
    (λ o live is below.
    let ds : List Deed = deeds_of set h in
    let found = get_some (calls ds) c below in
    let ends : of_call c (each_from 0 (is_live_on ds channel) Aborted (calls ds)) ≡ Aborted ∷ [] = gets_end o live is in
    let drops : drops_of (deed_by seat (Close channel) (effect_of set ds (Close channel))) c ≡ true =
    has_number c (each_from 0 (is_live_on ds channel) Aborted (calls ds)) ∙ ap (λ xs. not (is_empty xs)) ends in
    record {
      alone = λ s. absurd (false≢true s);
      some = λ s. absurd (false≢true s);
      messages = rw (drops, is) (omega arith);
      ends = rw (drops, is) (omega arith);
      none_yet = λ unended open_input. absurd (true≢false (sym (some_in (ends_of ds c) Aborted) ∙ (ap (λ xs. not (is_empty (ends_of ds c ++ xs))) (sym ends) ∙ unended)));
    })
  where
    -- the same calls are given an end and its event
    gets_end : (o : Opening) → is_live_on (deeds_of set h) channel c o ≡ true
        → of_call c (each_from 0 (is_live_on (deeds_of set h) channel) (Ended Aborted) (calls (deeds_of set h))) ≡ Ended Aborted ∷ []
        → of_call c (each_from 0 (is_live_on (deeds_of set h) channel) Aborted (calls (deeds_of set h))) ≡ Aborted ∷ []
    gets_end o live is = at (below_or_not c (call_count (deeds_of set h)))
      where
        at : (c < call_count (deeds_of set h)) ⊎ (call_count (deeds_of set h) ≤ c) → of_call c (each_from 0 (is_live_on (deeds_of set h) channel) Aborted (calls (deeds_of set h))) ≡ Aborted ∷ []
        at (inr past) = absurd (nothing (sym (none_past (is_live_on (deeds_of set h) channel) (Ended Aborted) (calls (deeds_of set h)) 0 c (omega (arith, past))) ∙ is))
          where
            nothing : {A : Type 0} → [] ≡ Ended Aborted ∷ [] → A
            nothing none = absurd cc
        at (inl below) =
            let found = get_some (calls (deeds_of set h)) c below in
            by found.0 (is_live_on (deeds_of set h) channel c found.0) refl
            (one_put (is_live_on (deeds_of set h) channel) (Ended Aborted) (calls (deeds_of set h)) 0 c c found.0 found.1 (omega arith))
            (one_put (is_live_on (deeds_of set h) channel) Aborted (calls (deeds_of set h)) 0 c c found.0 found.1 (omega arith))
          where
            by : (x : Opening) (b : Bool) → is_live_on (deeds_of set h) channel c x ≡ b
                → of_call c (each_from 0 (is_live_on (deeds_of set h) channel) (Ended Aborted) (calls (deeds_of set h))) ≡ (if is_live_on (deeds_of set h) channel c x then Ended Aborted ∷ [] else [])
                → of_call c (each_from 0 (is_live_on (deeds_of set h) channel) Aborted (calls (deeds_of set h))) ≡ (if is_live_on (deeds_of set h) channel c x then Aborted ∷ [] else [])
                → of_call c (each_from 0 (is_live_on (deeds_of set h) channel) Aborted (calls (deeds_of set h))) ≡ Aborted ∷ []
            by x true tested events ends = ends ∙ ap (λ b. if b then Aborted ∷ [] else []) tested
            by x false tested events ends = absurd (nothing (sym is ∙ (events ∙ ap (λ b. if b then Ended Aborted ∷ [] else []) tested)))
              where
                nothing : {A : Type 0} → Ended Aborted ∷ [] ≡ [] → A
                nothing none = absurd cc

step_few : (set : Setting) (h : List Entry) (seat c : ℕ) (kind : EntryKind) → Allowed set (deeds_of set h) (record { seat = seat; kind = kind }) → Bounded (deeds_of set h) c
    → StepFew (deeds_of set h) (deed_by seat kind (effect_of set (deeds_of set h) kind)) c
step_few set h seat c (Arrive p) fits before = arrive_step set h seat c p fits before
step_few set h seat c (Invoke p m) fits before = few_none set (deeds_of set h) seat (Invoke p m) c fits before (ap (of_call c) (invoke-none c (deeds_of set h) p m (method_named set p.name)))
step_few set h seat c (Say k out) fits before = few_none set (deeds_of set h) seat (Say k out) c fits before (ap (of_call c) (with_call-none (call_at (deeds_of set h) k) _))
step_few set h seat c (Done k) fits before = few_none set (deeds_of set h) seat (Done k) c fits before (ap (of_call c) (with_call-none (call_at (deeds_of set h) k) _))
step_few set h seat c (Start k) fits before = few_none set (deeds_of set h) seat (Start k) c fits before refl
step_few set h seat c (Finish k a) fits before = few_none set (deeds_of set h) seat (Finish k a) c fits before (ap (of_call c) (finish-puts set (deeds_of set h) k a (call_at (deeds_of set h) k)))
step_few set h seat c (Replace k m) fits before = few_none set (deeds_of set h) seat (Replace k m) c fits before refl
step_few set h seat c (Cancel k) fits before = few_none set (deeds_of set h) seat (Cancel k) c fits before (ap (of_call c) (cancel-puts set (deeds_of set h) k (call_at (deeds_of set h) k)))
step_few set h seat c (Tick now) fits before = tick_step set h seat c now fits before
step_few set h seat c Flush fits before = few_none set (deeds_of set h) seat Flush c fits before refl
step_few set h seat c EndIn fits before = end_step set h seat c fits before
step_few set h seat c (Halt why) fits before = few_none set (deeds_of set h) seat (Halt why) c fits before refl
step_few set h seat c (Close channel) fits before = close_step set h seat c channel fits before

bounded : (set : Setting) (h : List Entry) (c : ℕ) → AllowedAll set h → Bounded (deeds_of set h) c
bounded set [] c all = record { put = omega arith; messages = omega arith; ends = omega arith; none_yet = λ unended open_input. refl }
bounded set (e ∷ h) c all =
    let before = bounded set h c all.0 in
    few_step (deeds_of set h) (deed_by e.seat e.kind (effect_of set (deeds_of set h) e.kind)) c before
    (step_few set h e.seat c e.kind (allowed set (deeds_of set h) e all.1) before)

-- at most 64 events other than Ended, and one Ended, wait for a call
pub few_wait : (set : Setting) (h : List Entry) (c : ℕ) → AllowedAll set h → FewWait (deeds_of set h) c
few_wait set h c all = let all_few = bounded set h c all in record { messages = all_few.messages; ends = all_few.ends }

split_count : (p : Waiting → Bool) (ws : List Waiting) → length ws ≡ count_by (λ w. not (p w)) ws + count_by p ws
split_count p [] = refl
split_count p (w ∷ ws) =
    at (p w) refl (sum_by-cons (λ x. cond (not (p x)) 1 0) w ws) (sum_by-cons (λ x. cond (p x) 1 0) w ws) (split_count p ws)
  where
    at : (b : Bool) → p w ≡ b → count_by (λ x. not (p x)) (w ∷ ws) ≡ cond (not (p w)) 1 0 + count_by (λ x. not (p x)) ws
        → count_by p (w ∷ ws) ≡ cond (p w) 1 0 + count_by p ws → length ws ≡ count_by (λ x. not (p x)) ws + count_by p ws
        → length (w ∷ ws) ≡ count_by (λ x. not (p x)) (w ∷ ws) + count_by p (w ∷ ws)
    at true is others those rest =
        let a : count_by (λ x. not (p x)) (w ∷ ws) ≡ 0 + count_by (λ x. not (p x)) ws = others ∙ ap (λ b. cond (not b) 1 0 + count_by (λ x. not (p x)) ws) is in
        let b : count_by p (w ∷ ws) ≡ 1 + count_by p ws = those ∙ ap (λ b. cond b 1 0 + count_by p ws) is in
        omega (arith, a, b, rest)
    at false is others those rest =
        let a : count_by (λ x. not (p x)) (w ∷ ws) ≡ 1 + count_by (λ x. not (p x)) ws = others ∙ ap (λ b. cond (not b) 1 0 + count_by (λ x. not (p x)) ws) is in
        let b : count_by p (w ∷ ws) ≡ 0 + count_by p ws = those ∙ ap (λ b. cond b 1 0 + count_by p ws) is in
        omega (arith, a, b, rest)

-- so 65 at most
pub few_waiting : (set : Setting) (h : List Entry) (c : ℕ) → AllowedAll set h → length (waiting_of (deeds_of set h) c) ≤ 65
few_waiting set h c all =
    let few = few_wait set h c all in
    let parts : length (waiting_of (deeds_of set h) c) ≡ messages_waiting (deeds_of set h) c + ends_waiting (deeds_of set h) c = split_count (λ w. is_ended w.event) (waiting_of (deeds_of set h) c) in
    omega (arith, parts, few.messages, few.ends)
