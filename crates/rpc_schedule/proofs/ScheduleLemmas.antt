-- Turns in a row, and that the schedule leaves no choice.
use Rattle.std.proofs.Common.{◌≡◌, ◌⊎◌, ℕ, zero, suc, List, [], ◌∷◌, ◌++◌, reverse, Option, Some, None, IsTrue, refl, ap, sym, ◌∙◌, subst, inl, inr, arith, append_assoc}
use Rattle.std.proofs.lemmas.Bool.{true≢false}
use Rattle.std.proofs.lemmas.List.{append-nil, reverse-append}
use mathlib.Core.List.{IsPrefix}
use Rattle.rpc_packet.specs.declared.owned.Packet.{Packet}
use Rattle.rpc_handlers.specs.declared.answer.Answer.{Answer}
use Rattle.rpc_handlers.specs.HandlerRule.{HandlerRule}
use Rattle.rpc_journal.specs.declared.entry.Entry.{Entry}
use Rattle.rpc_journal.specs.declared.entry.EntryKind.{EntryKind}
use Rattle.rpc_journal.specs.declared.entry.EntryKind.TheVariants.{Arrive, Start, Finish, Flush, EndIn}
use Rattle.rpc_journal.specs.declared.item.Item.{Item}
use Rattle.rpc_journal.specs.declared.setting.Setting.{Setting}
use Rattle.rpc_journal.specs.Choice.{GoesBefore, IsFirstReady, NoneReady, SomeReady}
use Rattle.rpc_journal.specs.Effect.{Deed}
use Rattle.rpc_journal.specs.History.{history, adding, entry_by}
use Rattle.rpc_journal.proofs.PlaceLemmas.{some_same}
use Rattle.rpc_schedule.specs.OneThread.{AwaitsArrive, AwaitsStart, Handled, IsFullBeginning, IsOneThreadHistory, IsStoreStop, IsUnderway, OpensLast}
use Rattle.rpc_schedule.specs.Schedule.{IsByRule, IsOver, Ran, Reaches, Settles, Stage, Turn, Turns, flush_seat, input_seat, next_item, run_seat}
use Rattle.rpc_schedule.specs.Schedule.Stage.{running, flushing}

abbrev pub entries_of : Stage → List Entry
entries_of (running x) = x
entries_of (flushing x) = x

pub waits_and_not : {A : Type 0} (o : Option A) (x : A) → o ≡ Some x → o ≡ None → ⊥
waits_and_not o x waits not = some_none (sym waits ∙ not)
  where
    some_none : {A : Type 0} {x : A} → Some x ≡ None → ⊥
    some_none is = cc

prefix_then : {A : Type 0} (xs ys zs : List A) → IsPrefix xs ys → IsPrefix ys zs → IsPrefix xs zs
prefix_then xs ys zs first more =
    (first.0 ++ more.0, sym (append_assoc xs first.0 more.0) ∙ (ap (λ front. front ++ more.0) first.1 ∙ more.1))

prefix_adding : (h : List Entry) (seat : ℕ) (kind : EntryKind) → IsPrefix h (adding h seat kind)
prefix_adding h seat kind = (entry_by seat kind ∷ [], refl)

prefix_same : {A : Type 0} (xs ys : List A) → xs ≡ ys → IsPrefix xs ys
prefix_same xs ys same = ([], append-nil xs ∙ same)

module _ (rule : HandlerRule) (set : Setting) where
  -- a turn takes nothing away
  turn_grows : (a b : Stage) → Turn rule set a b → IsPrefix (entries_of a) (entries_of b)
  turn_grows (running h) (running now) ran =
      let begun = adding h run_seat (Start ran.call) in
      prefix_then h begun now (prefix_adding h run_seat (Start ran.call))
      (subst (IsPrefix begun) (sym ran.adds) (prefix_adding begun run_seat (Finish ran.call ran.answer)))
  turn_grows (running h) (flushing now) turn = prefix_same h now (sym turn.1)
  turn_grows (flushing h) (flushing now) flushed = subst (IsPrefix h) (sym flushed.adds) (prefix_adding h flush_seat Flush)
  turn_grows (flushing h) (running now) turn = prefix_same h now (sym turn.2)

  turns_grow : (n : ℕ) (a b : Stage) → Turns rule set n a b → IsPrefix (entries_of a) (entries_of b)
  turns_grow zero a b same = prefix_same (entries_of a) (entries_of b) (ap entries_of same)
  turns_grow (suc n) a b turns =
      prefix_then (entries_of a) (entries_of turns.0) (entries_of b) (turn_grows a turns.0 turns.1) (turns_grow n turns.0 b turns.2)

  -- from an opening to where it is settled
  opening_grows : (h now : List Entry) (kind : EntryKind) → Settles rule set (adding h input_seat kind) now → IsPrefix h now
  opening_grows h now kind settles =
      prefix_then h (adding h input_seat kind) now (prefix_adding h input_seat kind)
      (turns_grow settles.reaches.0 (running (adding h input_seat kind)) (flushing now) settles.reaches.1)

  turns_then : (n : ℕ) (a b c : Stage) → Turns rule set n a b → Reaches rule set b c → Reaches rule set a c
  turns_then zero a b c same more = subst (λ s. Reaches rule set s c) (sym same) more
  turns_then (suc n) a b c first more =
      let rest = turns_then n first.0 b c first.2 more in (suc rest.0, (first.0, first.1, rest.1))

  pub reaches_itself : (a : Stage) → Reaches rule set a a
  reaches_itself a = (zero, refl)

  pub reaches_then : (a b c : Stage) → Reaches rule set a b → Reaches rule set b c → Reaches rule set a c
  reaches_then a b c first more = turns_then first.0 a b c first.1 more

  -- one turn more
  pub reaches_turn : (a b c : Stage) → Reaches rule set a b → Turn rule set b c → Reaches rule set a c
  reaches_turn a b c first turn = reaches_then a b c first (suc zero, (c, turn, refl))

  none_and_some : (ds : List Deed) → NoneReady ds → SomeReady ds → ⊥
  none_and_some ds none some = true≢false (sym some.1 ∙ none some.0)

  -- nothing follows where nothing is left to do
  pub stuck : (h : List Entry) (s : Stage) → IsOver set h → Turn rule set (flushing h) s → ⊥
  stuck h (running now) over turn = none_and_some (history set h) over.none_ready turn.1
  stuck h (flushing now) over turn = waits_and_not (next_item (history set h)) turn.item turn.waits over.none_waits

  -- where nothing is left to do, calls don't run on
  pub none_run_on : (n : ℕ) (h now : List Entry) → IsOver set h → Turns rule set n (running h) (running now) → SomeReady (history set now) → ⊥
  none_run_on zero h now over same some =
      none_and_some (history set h) over.none_ready (subst (λ x. SomeReady (history set x)) (sym (ap entries_of same)) some)
  none_run_on (suc n) h now over (running x, ran, rest) some = true≢false (sym ran.first.ready ∙ over.none_ready ran.call)
  none_run_on (suc zero) h now over (flushing x, none, same) some = absurd cc
  none_run_on (suc (suc n)) h now over (flushing x, none, (next, turn, rest)) some =
      stuck h next over (subst (λ y. Turn rule set (flushing y) next) none.1 turn)

  -- where nothing is left to do, settling adds nothing
  pub over_stays : (n : ℕ) (h now : List Entry) → IsOver set h → Turns rule set n (running h) (flushing now) → h ≡ now
  over_stays zero h now over same = absurd cc
  over_stays (suc n) h now over (running x, ran, rest) = absurd (true≢false (sym ran.first.ready ∙ over.none_ready ran.call))
  over_stays (suc zero) h now over (flushing x, none, same) = sym none.1 ∙ ap entries_of same
  over_stays (suc (suc n)) h now over (flushing x, none, (next, turn, rest)) =
      absurd (stuck h next over (subst (λ y. Turn rule set (flushing y) next) none.1 turn))

pub first_one : (ds : List Deed) (c k : ℕ) → IsFirstReady ds c → IsFirstReady ds k → c ≡ k
first_one ds c k x y = at (x.first k y.ready) (y.first c x.ready)
  where
    at : GoesBefore ds c k → GoesBefore ds k c → c ≡ k
    at (inl a) (inl b) = absurd (omega (arith, a, b))
    at (inl a) (inr b) = absurd (omega (arith, a, b.0))
    at (inr a) (inl b) = absurd (omega (arith, a.0, b))
    at (inr a) (inr b) = omega (arith, a.1, b.1)

module _ (rule : HandlerRule) (set : Setting) (ruled : IsTrue rule.ruled) where
  same_answer : (h : List Entry) (c k : ℕ) (a b : Answer) → c ≡ k → IsByRule rule set (adding h run_seat (Start c)) c a
      → IsByRule rule set (adding h run_seat (Start k)) k b
      → adding (adding h run_seat (Start c)) run_seat (Finish c a) ≡ adding (adding h run_seat (Start k)) run_seat (Finish k b)
  same_answer h c k a b same first second =
      at (subst (λ x. IsByRule rule set (adding h run_seat (Start x)) x b) (sym same) second)
    where
      at : IsByRule rule set (adding h run_seat (Start c)) c b
          → adding (adding h run_seat (Start c)) run_seat (Finish c a) ≡ adding (adding h run_seat (Start k)) run_seat (Finish k b)
      at other =
          ap (λ x. adding (adding h run_seat (Start c)) run_seat (Finish c x)) (some_same a b (sym (first ruled) ∙ other ruled))
          ∙ ap (λ x. adding (adding h run_seat (Start x)) run_seat (Finish x b)) same

  pub ran_same : (h a b : List Entry) → Ran rule set h a → Ran rule set h b → a ≡ b
  ran_same h a b x y =
      x.adds ∙ (same_answer h x.call y.call x.answer y.answer (first_one _ _ _ x.first y.first) x.by_rule y.by_rule ∙ sym y.adds)

  turn_same : (a b c : Stage) → Turn rule set a b → Turn rule set a c → b ≡ c
  turn_same (running h) (running b) (running c) x y = ap running (ran_same h b c x y)
  turn_same (running h) (running b) (flushing c) x y = absurd (true≢false (sym x.first.ready ∙ y.0 x.call))
  turn_same (running h) (flushing b) (running c) x y = absurd (true≢false (sym y.first.ready ∙ x.0 y.call))
  turn_same (running h) (flushing b) (flushing c) x y = ap flushing (x.1 ∙ sym y.1)
  turn_same (flushing h) (flushing b) (flushing c) x y = ap flushing (x.adds ∙ sym y.adds)
  turn_same (flushing h) (flushing b) (running c) x y = absurd (waits_and_not (next_item (history set h)) x.item x.waits y.0)
  turn_same (flushing h) (running b) (flushing c) x y = absurd (waits_and_not (next_item (history set h)) y.item y.waits x.0)
  turn_same (flushing h) (running b) (running c) x y = ap running (x.2 ∙ sym y.2)

  turns_same : (n m : ℕ) (s : Stage) (a b : List Entry) → Turns rule set n s (flushing a) → IsOver set a
      → Turns rule set m s (flushing b) → IsOver set b → a ≡ b
  turns_same zero zero s a b x over_a y over_b = ap entries_of (sym x ∙ y)
  turns_same zero (suc m) s a b x over_a y over_b =
      absurd (stuck rule set a y.0 over_a (subst (λ t. Turn rule set t y.0) x y.1))
  turns_same (suc n) zero s a b x over_a y over_b =
      absurd (stuck rule set b x.0 over_b (subst (λ t. Turn rule set t x.0) y x.1))
  turns_same (suc n) (suc m) s a b x over_a y over_b =
      turns_same n m x.0 a b x.2 over_a (subst (λ t. Turns rule set m t (flushing b)) (sym (turn_same s x.0 y.0 x.1 y.1)) y.2) over_b

  pub settles_same : (h k a b : List Entry) → h ≡ k → Settles rule set h a → Settles rule set k b → a ≡ b
  settles_same h k a b same x y =
      let z = subst (λ t. Settles rule set t b) (sym same) y in
      turns_same x.reaches.0 z.reaches.0 (running h) a b x.reaches.1 x.over z.reaches.1 z.over

  handled_same : (packets : List Packet) (a b : List Entry) → Handled rule set packets a → Handled rule set packets b → a ≡ b
  handled_same [] a b x y = x ∙ sym y
  handled_same (p ∷ earlier) a b x y =
      settles_same _ _ a b (ap (λ h. adding h input_seat (Arrive p)) (handled_same earlier x.0 y.0 x.1 y.1)) x.2 y.2

pub one_history : (rule : HandlerRule) (set : Setting) (packets : List Packet) (a b : List Entry) → IsTrue rule.ruled
    → IsOneThreadHistory rule set packets a → IsOneThreadHistory rule set packets b → a ≡ b
one_history rule set packets a b ruled x y =
    settles_same rule set ruled _ _ a b
    (ap (λ h. adding h input_seat EndIn) (handled_same rule set ruled (reverse packets) x.before y.before x.handled y.handled))
    x.settled y.settled

module _ (rule : HandlerRule) (set : Setting) (ruled : IsTrue rule.ruled) where
  -- what a settling has come to begins what it settles to
  on_the_way : (n m : ℕ) (s t : Stage) (now : List Entry) → Turns rule set n s t → Turns rule set m s (flushing now) → IsOver set now
      → IsPrefix (entries_of t) now
  on_the_way zero m s t now x y over =
      turns_grow rule set m t (flushing now) (subst (λ a. Turns rule set m a (flushing now)) x y)
  on_the_way (suc n) zero s t now x y over = absurd (stuck rule set now x.0 over (subst (λ a. Turn rule set a x.0) y x.1))
  on_the_way (suc n) (suc m) s t now x y over =
      on_the_way n m x.0 t now x.2 (subst (λ a. Turns rule set m a (flushing now)) (sym (turn_same rule set ruled s x.0 y.0 x.1 y.1)) y.2) over

  way_begins : (before other now : List Entry) (kind : EntryKind) (t : Stage) → before ≡ other → Reaches rule set (running (adding before input_seat kind)) t
      → Settles rule set (adding other input_seat kind) now → IsPrefix (entries_of t) now
  way_begins before other now kind t same reaches settles =
      let there = subst (λ x. Settles rule set (adding x input_seat kind) now) (sym same) settles in
      on_the_way reaches.0 there.reaches.0 (running (adding before input_seat kind)) t now reaches.1 there.reaches.1 there.over

  -- the history of packets that end with this one, before its arrival and behind it
  last_handled : (packets earlier : List Packet) (p : Packet) (h : List Entry) → packets ≡ earlier ++ p ∷ [] → Handled rule set (reverse packets) h
      → Handled rule set (p ∷ reverse earlier) h
  last_handled packets earlier p h are handled =
      subst (λ ps. Handled rule set ps h) (ap reverse are ∙ reverse-append earlier (p ∷ [])) handled

  opened_begins : (packets : List Packet) (before whole : List Entry) (kind : EntryKind) (t : Stage) → OpensLast rule set packets before kind
      → Reaches rule set (running (adding before input_seat kind)) t → IsOneThreadHistory rule set packets whole → IsPrefix (entries_of t) whole
  opened_begins packets before whole (Arrive p) t opens reaches history =
      let last = last_handled packets opens.0 p history.before opens.1 history.handled in
      prefix_then (entries_of t) history.before whole
      (way_begins before last.0 history.before (Arrive p) t (handled_same rule set ruled (reverse opens.0) before last.0 opens.2 last.1) reaches last.2)
      (opening_grows rule set history.before whole EndIn history.settled)
  opened_begins packets before whole EndIn t opens reaches history =
      way_begins before history.before whole EndIn t (handled_same rule set ruled (reverse packets) before history.before opens history.handled) reaches history.settled
  opened_begins packets before whole _ t opens reaches history = absurd opens

  pub underway_begins : (packets : List Packet) (t : Stage) (whole : List Entry) → IsUnderway rule set packets t → IsOneThreadHistory rule set packets whole
      → IsPrefix (entries_of t) whole
  underway_begins packets t whole way history = opened_begins packets way.before whole way.opening t way.opens way.reaches history

  awaits_begins : (packets : List Packet) (h whole : List Entry) → AwaitsArrive rule set packets h ⊎ AwaitsStart rule set packets h
      → IsOneThreadHistory rule set packets whole → IsPrefix h whole
  awaits_begins packets h whole (inl awaits) history =
      let last = last_handled packets awaits.earlier awaits.last history.before awaits.packets_are history.handled in
      prefix_then h history.before whole
      (subst (λ x. IsPrefix x history.before) (sym (handled_same rule set ruled (reverse awaits.earlier) h last.0 awaits.handled last.1))
      (opening_grows rule set last.0 history.before (Arrive awaits.last) last.2))
      (opening_grows rule set history.before whole EndIn history.settled)
  awaits_begins packets h whole (inr awaits) history = underway_begins packets (running h) whole awaits.underway history

pub full_begins : (rule : HandlerRule) (set : Setting) (packets : List Packet) (h whole : List Entry) → IsTrue rule.ruled
    → IsFullBeginning rule set packets h → IsOneThreadHistory rule set packets whole → IsPrefix h whole
full_begins rule set packets h whole ruled full history = awaits_begins rule set ruled packets h whole full.next history

-- where a store action wasn't made, the last turn was its flush
pub stop_underway : (rule : HandlerRule) (set : Setting) (packets : List Packet) (h : List Entry) (items : List Item) → IsStoreStop rule set packets h items
    → IsUnderway rule set packets (flushing h)
stop_underway rule set packets h items stop = record {
  before = stop.underway.before;
  opening = stop.underway.opening;
  opens = stop.underway.opens;
  reaches = reaches_turn rule set (running (adding stop.underway.before input_seat stop.underway.opening)) (flushing stop.before) (flushing h) stop.underway.reaches
      (record { item = stop.failed; waits = stop.waits; adds = stop.adds });
}

pub store_begins : (rule : HandlerRule) (set : Setting) (packets : List Packet) (h whole : List Entry) (items : List Item) → IsTrue rule.ruled
    → IsStoreStop rule set packets h items → IsOneThreadHistory rule set packets whole → IsPrefix h whole
store_begins rule set packets h whole items ruled stop history =
    underway_begins rule set ruled packets (flushing h) whole (stop_underway rule set packets h items stop) history
