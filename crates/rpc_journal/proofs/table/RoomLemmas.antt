-- A table with more room in its queues agrees with the same history.
use Rattle.std.proofs.Common.{◌≡◌, ◌≢◌, ◌⊎◌, ℕ, false, ◌<◌, ◌+◌, List, [], ◌∷◌, length, set, slice_get, Option, Some, None, Result, Ok, Err, OnOk, OnErr, refl, ap, sym, ◌∙◌, subst, inl, inr, arith, length-set}
use Rattle.std.specs.List.{list_any}
use Rattle.std.specs.VecDeque.{deque_len, deque_capacity}
use Rattle.std.proofs.lemmas.Option.{slice_get_within}
use Rattle.rpc_journal.specs.declared.table.call_state.CallState.{CallState}
use Rattle.rpc_journal.specs.declared.table.call_states.CallStates.{CallStates}
use Rattle.rpc_ids.specs.declared.method.MethodRef.{MethodRef}
use Rattle.rpc_packet.specs.declared.owned.Packet.{Packet}
use Rattle.rpc_packet.specs.declared.call_name.CallName.{CallName}
use Rattle.rpc_handlers.specs.declared.event.Event.{Event}
use Rattle.rpc_handlers.specs.declared.event.Event.TheVariants.{Request}
use Rattle.rpc_handlers.specs.declared.event.Memo.{Memo}
use Rattle.rpc_channel.specs.Rising.{has_id}
use Rattle.rpc_journal.specs.Calls.{call_at, is_start_of}
use Rattle.rpc_journal.specs.Effect.{Deed}
use Rattle.rpc_journal.specs.Items.{items_sent}
use Rattle.rpc_journal.specs.table.Newest.{IsSameNewest}
use Rattle.rpc_journal.specs.Queues.{is_completion}
use Rattle.rpc_journal.specs.table.Agrees.{HasRoomAt, HasRoomsAt, IsOpening, IsOpenAt, IsSilentOn, AgreesOn, Agrees, IsSameTable}
use Rattle.rpc_journal.specs.table.Touch.{IsInvoked, IsOpened, IsSame, IsServed, Touches, putting, untouched}
use Rattle.rpc_journal.proofs.PlaceLemmas.{get_some, some_same}
use Rattle.rpc_journal.proofs.table.StepLemmas.{get_set, get_other, same_or_not}
use Rattle.rpc_journal.proofs.table.AgreeLemmas.{opening_same, starts_is}
use Rattle.std.proofs.lemmas.List.Folds.{list_any-append}

pub same_agrees : (ds : List Deed) (c : ℕ) (r x : CallState) → AgreesOn ds c r → IsSame r x → AgreesOn ds c x
same_agrees ds c r x agrees same = record {
  opening = opening_same r x (call_at ds c) same.name same.method agrees.opening;
  ended = rw (same.status) (agrees.ended);
  cancelled = rw (same.cancelled) (agrees.cancelled);
  completed = rw (same.completed) (agrees.completed);
  done = rw (same.done) (agrees.done);
  run = rw (same.run) (agrees.run);
  took_end = rw (same.took_end) (agrees.took_end);
  waiting = rw (same.waiting) (agrees.waiting);
  put = agrees.put;
}

pub same_table_agrees : (ds : List Deed) (t u : CallStates) → IsSameTable t u → Agrees ds t → Agrees ds u
same_table_agrees ds t u same agrees = record {
  calls = record {
    many = same.many ∙ agrees.calls.many;
    each = λ c x there.
        let within : c < length u.calls.items = slice_get_within _ _ _ there in
        let found = get_some t.calls.items c (omega (arith, within, same.many)) in
        same_agrees ds c found.0 x (agrees.calls.each c found.0 found.1) (same.each c found.0 x found.1 there);
    beyond = agrees.calls.beyond;
  };
  newest = λ name. same.newest name ∙ agrees.newest name;
  closed = λ x. ap (λ xs. has_id xs x) same.closed ∙ agrees.closed x;
  items = rw (same.unflushed) (agrees.items);
  input = same.input ∙ agrees.input;
  halt = same.halt ∙ agrees.halt;
}

pub same_table_open : (t u : CallStates) (c : ℕ) → IsSameTable t u → IsOpenAt t.calls.items c → IsOpenAt u.calls.items c
same_table_open t u c same opened = record {
  within = omega (arith, opened.within, same.many);
  unended = λ x there.
      let found = get_some t.calls.items c opened.within in
      (same.each c found.0 x found.1 there).status ∙ opened.unended found.0 found.1;
}

pub is_same : (r : CallState) → IsSame r r
is_same r = record { name = refl; method = refl; status = refl; cancelled = refl; completed = refl; done = refl; run = refl; took_end = refl; waiting = refl }

-- one state is the same, and no other changes
pub one_same : (states : List CallState) (c : ℕ) (r x : CallState) → slice_get states c ≡ Some r → IsSame r x
    → (k : ℕ) (p q : CallState) → slice_get states k ≡ Some p → slice_get (set states c x) k ≡ Some q → IsSame p q
one_same states c r x there same k p q before after = at (same_or_not k c)
  where
    at : (k ≡ c) ⊎ (k ≢ c) → IsSame p q
    at (inl it) =
        let old : r ≡ p = some_same r p (sym there ∙ (ap (slice_get states) (sym it) ∙ before)) in
        let new : x ≡ q = some_same x q (sym (get_set states c x (slice_get_within _ _ _ there)) ∙ (ap (slice_get (set states c x)) (sym it) ∙ after)) in
        subst (λ z. IsSame z q) old (subst (λ z. IsSame r z) new same)
    at (inr apart) = subst (λ z. IsSame p z) (some_same p q (sym before ∙ (sym (get_other states c k x apart) ∙ after))) (is_same p)

-- the state of a call that an entry opens
pub opened_agrees : (ds : List Deed) (d : Deed) (n : ℕ) (called : CallName) (m : MethodRef) (given : Option Memo) (events : List Event) (x : CallState) → IsSilentOn ds n
    → Touches d n (record untouched { puts = events }) → call_at (d ∷ ds) n ≡ Some (record { name = called; method = m; given = given })
    → list_any is_completion events ≡ false → IsOpened (length ds) called m events x → AgreesOn (d ∷ ds) n x
opened_agrees ds d n called m given events x silent does there incomplete is =
    let start : is_start_of n d.entry.kind ≡ false = sym (starts_is _ _ _ does.starts) in
    record {
      opening = subst (IsOpening x) (sym there) (sym is.name, sym is.of_method);
      ended = rw (silent.unended, does.ends, is.unended) refl;
      cancelled = rw (does.cancels, silent.uncancelled, is.uncancelled) refl;
      completed = rw (does.puts, silent.uncompleted, incomplete, is.uncompleted) refl;
      done = list_any-append _ (items_sent ds) d.does.says ∙ (rw (silent.undone, does.completes, is.undone) refl);
      run = rw (start, does.finishes, silent.idle, is.idle) refl;
      took_end = rw (start, silent.took_none, is.took_none) refl;
      waiting = rw (does.clears, start, silent.unstarted, silent.empty, does.puts, is.waiting) refl;
      put = rw (does.clears, start, silent.unstarted) (omega arith);
    }

-- by an arrival
pub served_agrees : (ds : List Deed) (d : Deed) (n : ℕ) (p : Packet) (m : MethodRef) (x : CallState) → IsSilentOn ds n
    → Touches d n (putting (Request p.payload)) → call_at (d ∷ ds) n ≡ Some (record { name = p.name; method = m; given = None })
    → IsServed (length ds) p m x → AgreesOn (d ∷ ds) n x
served_agrees ds d n p m x silent does there is = opened_agrees ds d n p.name m None (Request p.payload ∷ []) x silent does there refl is

-- by a client's Invoke
pub invoked_agrees : (ds : List Deed) (d : Deed) (n : ℕ) (called : CallName) (m : MethodRef) (memo : Memo) (x : CallState) → IsSilentOn ds n
    → Touches d n untouched → call_at (d ∷ ds) n ≡ Some (record { name = called; method = m; given = Some memo })
    → IsInvoked called m x → AgreesOn (d ∷ ds) n x
invoked_agrees ds d n called m memo x silent does there is = opened_agrees ds d n called m (Some memo) [] x silent does there refl
    (record { name = is.name; of_method = is.of_method; unended = is.unended; uncancelled = is.uncancelled; uncompleted = is.uncompleted; undone = is.undone; idle = is.idle; took_none = is.took_none; waiting = is.waiting })

pub on_ok : {A E P Q : Type 0} (r : Result A E) → (P → Q) → OnOk r P → OnOk r Q
on_ok (Ok a) f p = f p
on_ok (Err e) f p = tt

pub has_room : (states : List CallState) (c : ℕ) (x : CallState) → c < length states → deque_len x.waiting < deque_capacity x.waiting
    → HasRoomAt (set states c x) c
has_room states c x within room = record {
  within = omega (arith, within, length-set states c x);
  room = λ r there. subst (λ z. deque_len z.waiting < deque_capacity z.waiting) (some_same x r (sym (get_set states c x within) ∙ there)) room;
}

pub has_rooms : (states : List CallState) (c : ℕ) (x : CallState) → c < length states → deque_len x.waiting + 1 < deque_capacity x.waiting
    → HasRoomsAt (set states c x) c
has_rooms states c x within room = record {
  within = omega (arith, within, length-set states c x);
  room = λ r there. subst (λ z. deque_len z.waiting + 1 < deque_capacity z.waiting) (some_same x r (sym (get_set states c x within) ∙ there)) room;
}

pub on_err_of : {A E P : Type 0} (r : Result A E) → P → OnErr r P
on_err_of (Ok a) p = tt
on_err_of (Err e) p = p

pub on_err : {A E P Q : Type 0} (r : Result A E) → (P → Q) → OnErr r P → OnErr r Q
on_err (Ok a) f p = tt
on_err (Err e) f p = f p

-- a table whose calls are the same
pub items_same : (t u : CallStates) → u.calls.items ≡ t.calls.items → IsSameNewest t.newest u.newest → u.closed.items ≡ t.closed.items → u.unflushed ≡ t.unflushed → u.input_ended ≡ t.input_ended → u.halted ≡ t.halted
    → IsSameTable t u
items_same t u items newest closed unflushed input halt = record {
  many = ap length items;
  each = λ c r x before after.
      subst (λ z. IsSame r z) (some_same r x (sym before ∙ (ap (λ xs. slice_get xs c) (sym items) ∙ after))) (is_same r);
  newest = newest;
  closed = closed;
  unflushed = unflushed;
  input = input;
  halt = halt;
}

pub same_trans : (r x y : CallState) → IsSame r x → IsSame x y → IsSame r y
same_trans r x y first second = record {
  name = second.name ∙ first.name;
  method = second.method ∙ first.method;
  status = second.status ∙ first.status;
  cancelled = second.cancelled ∙ first.cancelled;
  completed = second.completed ∙ first.completed;
  done = second.done ∙ first.done;
  run = second.run ∙ first.run;
  took_end = second.took_end ∙ first.took_end;
  waiting = second.waiting ∙ first.waiting;
}

pub same_table_trans : (t u v : CallStates) → IsSameTable t u → IsSameTable u v → IsSameTable t v
same_table_trans t u v first second = record {
  many = second.many ∙ first.many;
  each = λ c r y before after.
      let within : c < length t.calls.items = slice_get_within _ _ _ before in
      let found = get_some u.calls.items c (omega (arith, within, first.many)) in
      same_trans r found.0 y (first.each c r found.0 before found.1) (second.each c found.0 y found.1 after);
  newest = λ name. second.newest name ∙ first.newest name;
  closed = second.closed ∙ first.closed;
  unflushed = second.unflushed ∙ first.unflushed;
  input = second.input ∙ first.input;
  halt = second.halt ∙ first.halt;
}
