-- The work of both ends, computed: what a history leads to, where the relations of the schedule allow just that.
use Rattle.std.proofs.Common.{◌≡◌, ℕ, zero, suc, Bool, true, false, ◌&&◌, ◌||◌, nat_lt, nat_le, ◌==◌, List, reverse, Option, Some, None, if◌then◌else◌, refl, sym, subst, inl, inr}
use Rattle.std.proofs.lemmas.Bool.{and_parts, eqb-true, leb-true, ltb-true}
use Rattle.rpc_handlers.specs.declared.answer.Answer.{Answer}
use Rattle.rpc_handlers.specs.HandlerRule.{HandlerRule}
use Rattle.rpc_journal.specs.declared.entry.Entry.{Entry}
use Rattle.rpc_journal.specs.declared.entry.EntryKind.TheVariants.{Start, Finish, Flush}
use Rattle.rpc_journal.specs.declared.item.Item.{Item}
use Rattle.rpc_journal.specs.declared.setting.Setting.{Setting}
use Rattle.rpc_journal.specs.Calls.{call_count}
use Rattle.rpc_journal.specs.Choice.{GoesBefore, IsFirstReady, NoneReady, oldest_place}
use Rattle.rpc_journal.specs.Effect.{Deed}
use Rattle.rpc_journal.specs.History.{adding, history}
use Rattle.rpc_journal.specs.Items.{is_ready}
use Rattle.rpc_journal.specs.Quiet.{all_below}
use Rattle.rpc_journal.proofs.KnownLemmas.{ready_known}
use Rattle.rpc_journal.proofs.PlaceLemmas.{some_same}
use Rattle.rpc_schedule.specs.Schedule.{NoneWaits, Reaches, Settles, answer_by_rule, flush_seat, next_item, run_seat}
use Rattle.rpc_schedule.specs.Schedule.Stage.{running, flushing}
use Rattle.rpc_schedule.specs.Serving.{none_waiting}
use Rattle.rpc_schedule.proofs.EntryLemmas.{all_below_at, none_ready}
use Rattle.rpc_schedule.proofs.ScheduleLemmas.{reaches_itself, reaches_then, reaches_turn}
use Rattle.link_laws.specs.world.Client.{FlushesTo, RunsTo}

-- c's oldest event goes before k's
abbrev pub goes_before : List Deed → ℕ → ℕ → Bool
goes_before ds c k = nat_lt (oldest_place ds c) (oldest_place ds k) || ((oldest_place ds c == oldest_place ds k) && nat_le c k)

abbrev pub is_first : List Deed → ℕ → Bool
is_first ds c = is_ready ds c && all_below (call_count ds) (λ k. if is_ready ds k then goes_before ds c k else true)

-- of the calls below n one that is first
unfoldable pub first_below : List Deed → ℕ → Option ℕ
first_below ds zero = None
first_below ds (suc n) = if is_first ds n then Some n else first_below ds n

abbrev pub first_of_all : List Deed → Option ℕ
first_of_all ds = first_below ds (call_count ds)

goes_before_is : (ds : List Deed) (c k : ℕ) → goes_before ds c k ≡ true → GoesBefore ds c k
goes_before_is ds c k is = by_less (nat_lt (oldest_place ds c) (oldest_place ds k)) refl
  where
    by_less : (b : Bool) → nat_lt (oldest_place ds c) (oldest_place ds k) ≡ b → GoesBefore ds c k
    by_less true less = inl (ltb-true (oldest_place ds c) (oldest_place ds k) less)
    by_less false more =
        let parts = and_parts (oldest_place ds c == oldest_place ds k) (nat_le c k) (subst (λ b. (b || ((oldest_place ds c == oldest_place ds k) && nat_le c k)) ≡ true) more is) in
        inr (eqb-true (oldest_place ds c) (oldest_place ds k) parts.0, leb-true c k parts.1)

first_is : (set : Setting) (h : List Entry) (c : ℕ) → is_first (history set h) c ≡ true → IsFirstReady (history set h) c
first_is set h c is =
    let ds : List Deed = history set h in
    let parts = and_parts (is_ready ds c) (all_below (call_count ds) (λ k. if is_ready ds k then goes_before ds c k else true)) is in
    record {
      ready = parts.0;
      first = λ k ready.
          goes_before_is ds c k
          (subst (λ b. (if b then goes_before ds c k else true) ≡ true) ready
          (all_below_at (call_count ds) (λ k. if is_ready ds k then goes_before ds c k else true) k parts.1 (ready_known set (reverse h) k ready)));
    }

first_below_is : (ds : List Deed) (n c : ℕ) → first_below ds n ≡ Some c → is_first ds c ≡ true
unfolding first_below
first_below_is ds zero c is = absurd cc
first_below_is ds (suc n) c is = by_first (λ below. first_below_is ds n c below) (is_first ds n) refl is
  where
    by_first : (first_below ds n ≡ Some c → is_first ds c ≡ true) → (b : Bool) → is_first ds n ≡ b → (if b then Some n else first_below ds n) ≡ Some c → is_first ds c ≡ true
    by_first below true first is = subst (λ x. is_first ds x ≡ true) (some_same n c is) first
    by_first below false first is = below is

module _ (rule : HandlerRule) (set : Setting) where
  abbrev pub answered : (List Entry → Option (List Entry)) → List Entry → ℕ → Option Answer → Option (List Entry)
  answered rest h c None = None
  answered rest h c (Some a) = rest (adding (adding h run_seat (Start c)) run_seat (Finish c a))

  abbrev pub run_then : (List Entry → Option (List Entry)) → List Entry → Option ℕ → Option (List Entry)
  run_then rest h None = if none_waiting (history set h) then Some h else None
  run_then rest h (Some c) = answered rest h c (answer_by_rule rule set (history set (adding h run_seat (Start c))) c)

  -- at most so many calls run, until none is ready
  unfoldable pub all_run : ℕ → List Entry → Option (List Entry)
  all_run zero h = if none_waiting (history set h) then Some h else None
  all_run (suc n) h = run_then (all_run n) h (first_of_all (history set h))

  pub record HasRun (before after : List Entry) : Type 0 where
    pub count : ℕ
    pub runs : RunsTo rule set count before after
    pub none_ready : NoneReady (history set after)

  run_nothing : (h after : List Entry) → (if none_waiting (history set h) then Some h else None) ≡ Some after → HasRun h after
  run_nothing h after is = at (none_waiting (history set h)) refl is
    where
      at : (b : Bool) → none_waiting (history set h) ≡ b → (if b then Some h else None) ≡ Some after → HasRun h after
      at true none is =
          let same = some_same h after is in
          record { count = 0; runs = sym same; none_ready = subst (λ x. NoneReady (history set x)) same (none_ready set h none) }
      at false some is = absurd cc

  pub all_run_is : (n : ℕ) (h after : List Entry) → all_run n h ≡ Some after → HasRun h after
  unfolding all_run
  all_run_is zero h after is = run_nothing h after is
  all_run_is (suc n) h after is = by_first (all_run_is n) (first_of_all (history set h)) refl is
    where
      by_answer : ((x : List Entry) (y : List Entry) → all_run n x ≡ Some y → HasRun x y) → (c : ℕ) → IsFirstReady (history set h) c
          → (a : Option Answer) → answer_by_rule rule set (history set (adding h run_seat (Start c))) c ≡ a → answered (all_run n) h c a ≡ Some after → HasRun h after
      by_answer more c first None by is = absurd cc
      by_answer more c first (Some a) by is =
          let now : List Entry = adding (adding h run_seat (Start c)) run_seat (Finish c a) in
          let rest : HasRun now after = more now after is in
          record {
            count = suc rest.count;
            runs = (now, record { call = c; answer = a; first = first; by_rule = λ ruled. by; adds = refl }, rest.runs);
            none_ready = rest.none_ready;
          }

      by_first : ((x : List Entry) (y : List Entry) → all_run n x ≡ Some y → HasRun x y)
          → (o : Option ℕ) → first_of_all (history set h) ≡ o → run_then (all_run n) h o ≡ Some after → HasRun h after
      by_first more None none is = run_nothing h after is
      by_first more (Some c) some is =
          by_answer more c (first_is set h c (first_below_is (history set h) (call_count (history set h)) c some))
          (answer_by_rule rule set (history set (adding h run_seat (Start c))) c) refl is

module _ (set : Setting) where
  abbrev pub flush_then : (List Entry → Option (List Entry)) → List Entry → Option Item → Option (List Entry)
  flush_then rest h None = Some h
  flush_then rest h (Some item) = rest (adding h flush_seat Flush)

  -- at most so many items go out, until none waits
  unfoldable pub all_flushed : ℕ → List Entry → Option (List Entry)
  all_flushed zero h = None
  all_flushed (suc n) h = flush_then (all_flushed n) h (next_item (history set h))

  pub record HasFlushed (before after : List Entry) : Type 0 where
    pub count : ℕ
    pub flushes : FlushesTo set count before after
    pub none_waits : NoneWaits (history set after)

  pub all_flushed_is : (n : ℕ) (h after : List Entry) → all_flushed n h ≡ Some after → HasFlushed h after
  unfolding all_flushed
  all_flushed_is zero h after is = absurd cc
  all_flushed_is (suc n) h after is = by_item (all_flushed_is n) (next_item (history set h)) refl is
    where
      by_item : ((x : List Entry) (y : List Entry) → all_flushed n x ≡ Some y → HasFlushed x y)
          → (o : Option Item) → next_item (history set h) ≡ o → flush_then (all_flushed n) h o ≡ Some after → HasFlushed h after
      by_item more None none is =
          let same = some_same h after is in
          record { count = 0; flushes = sym same; none_waits = subst (λ x. NoneWaits (history set x)) same none }
      by_item more (Some item) some is =
          let rest : HasFlushed (adding h flush_seat Flush) after = more (adding h flush_seat Flush) after is in
          record {
            count = suc rest.count;
            flushes = (adding h flush_seat Flush, record { item = item; waits = some; adds = refl }, rest.flushes);
            none_waits = rest.none_waits;
          }

module _ (rule : HandlerRule) (set : Setting) where
  runs_reach : (n : ℕ) (before after : List Entry) → RunsTo rule set n before after → Reaches rule set (running before) (running after)
  runs_reach zero before after same = subst (λ x. Reaches rule set (running before) (running x)) (sym same) (reaches_itself rule set (running before))
  runs_reach (suc n) before after runs =
      reaches_then rule set (running before) (running runs.0) (running after)
      (reaches_turn rule set (running before) (running before) (running runs.0) (reaches_itself rule set (running before)) runs.1)
      (runs_reach n runs.0 after runs.2)

  flushes_reach : (n : ℕ) (before after : List Entry) → FlushesTo set n before after → Reaches rule set (flushing before) (flushing after)
  flushes_reach zero before after same = subst (λ x. Reaches rule set (flushing before) (flushing x)) (sym same) (reaches_itself rule set (flushing before))
  flushes_reach (suc n) before after flushes =
      reaches_then rule set (flushing before) (flushing flushes.0) (flushing after)
      (reaches_turn rule set (flushing before) (flushing before) (flushing flushes.0) (reaches_itself rule set (flushing before)) flushes.1)
      (flushes_reach n flushes.0 after flushes.2)

  -- all calls ran, and all items went out, and no call is ready then
  abbrev pub if_over : Option (List Entry) → Option (List Entry)
  if_over None = None
  if_over (Some after) = if none_waiting (history set after) then Some after else None

  abbrev pub flushed_behind : ℕ → Option (List Entry) → Option (List Entry)
  flushed_behind n None = None
  flushed_behind n (Some ran) = if_over (all_flushed set n ran)

  -- the settling of a history, of at most so many runs and flushes
  abbrev pub settled : ℕ → List Entry → Option (List Entry)
  settled n h = flushed_behind n (all_run rule set n h)

  pub settled_is : (n : ℕ) (h after : List Entry) → settled n h ≡ Some after → Settles rule set h after
  settled_is n h after is = by_run (all_run rule set n h) refl is
    where
      over : (ran : List Entry) → HasRun rule set h ran → (now : List Entry) → HasFlushed set ran now → (b : Bool) → none_waiting (history set now) ≡ b
          → (if b then Some now else None) ≡ Some after → Settles rule set h after
      over ran runs now flushes false some is = absurd cc
      over ran runs now flushes true none is =
          subst (Settles rule set h) (some_same now after is)
          (record {
            reaches = reaches_then rule set (running h) (flushing ran) (flushing now)
                (reaches_turn rule set (running h) (running ran) (flushing ran) (runs_reach runs.count h ran runs.runs) (runs.none_ready, refl))
                (flushes_reach flushes.count ran now flushes.flushes);
            over = record { none_ready = none_ready set now none; none_waits = flushes.none_waits };
          })

      by_flush : (ran : List Entry) → HasRun rule set h ran → (o : Option (List Entry)) → all_flushed set n ran ≡ o → if_over o ≡ Some after → Settles rule set h after
      by_flush ran runs None none is = absurd cc
      by_flush ran runs (Some now) some is = over ran runs now (all_flushed_is set n ran now some) (none_waiting (history set now)) refl is

      by_run : (o : Option (List Entry)) → all_run rule set n h ≡ o → flushed_behind n o ≡ Some after → Settles rule set h after
      by_run None none is = absurd cc
      by_run (Some ran) some is = by_flush ran (all_run_is rule set n h ran some) (all_flushed set n ran) refl is
