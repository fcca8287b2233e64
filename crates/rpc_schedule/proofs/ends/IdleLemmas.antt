-- An end without a run that is kept: which of its calls are ready, and that no queue is full where no event waits.
use Rattle.std.proofs.Common.{◌≡◌, ℕ, zero, suc, ◌+◌, ◌<◌, ◌≤◌, Bool, true, false, not, ◌&&◌, List, [], ◌∷◌, length, drop, reverse, count_by, Option, Some, None, slice_get, get_or, ◌⊎◌, inl, inr, refl, ap, sym, ◌∙◌, subst, arith, length-append}
use Rattle.std.proofs.lemmas.Bool.{true≢false, false≢true, lt-ltb, false_from_ne_true}
use Rattle.std.proofs.Math.Bool.{and-false}
use Rattle.std.proofs.lemmas.List.{append-nil}
use Rattle.rpc_ids.specs.declared.method.Role.{Role}
use Rattle.rpc_ids.specs.declared.method.Role.TheVariants.{Server, Client}
use Rattle.rpc_handlers.specs.declared.event.Event.{Event}
use Rattle.rpc_handlers.specs.declared.event.Memo.{Memo}
use Rattle.rpc_handlers.specs.HandlerRule.{HandlerRule}
use Rattle.rpc_packet.specs.declared.owned.Packet.{Packet}
use Rattle.rpc_journal.specs.declared.answers.StartRefused.{StartRefused}
use Rattle.rpc_journal.specs.declared.entry.Entry.{Entry}
use Rattle.rpc_journal.specs.declared.entry.EntryKind.{EntryKind}
use Rattle.rpc_journal.specs.declared.entry.EntryKind.TheVariants.{Flush, Halt}
use Rattle.rpc_journal.specs.declared.setting.Setting.{Setting}
use Rattle.rpc_journal.specs.Calls.{calls, call_count, is_cancelled, runner_of}
use Rattle.rpc_journal.specs.Effect.{Deed}
use Rattle.rpc_journal.specs.Entries.{arrive_row}
use Rattle.rpc_journal.specs.History.{deeds_of, entry_by}
use Rattle.rpc_journal.specs.Items.{flush_count, halt_reason, is_ready, items_sent, items_waiting, reason_of}
use Rattle.rpc_journal.specs.Lawful.{full_among, full_queue}
use Rattle.rpc_journal.specs.Kinds.{is_empty}
use Rattle.rpc_journal.specs.Queues.{waiting_of, puts_since, starts_since, messages_waiting, is_ended}
use Rattle.rpc_journal.specs.Quiet.{all_below}
use Rattle.rpc_journal.specs.CallTable.{Table, past}
use Rattle.rpc_journal.specs.Choice.{SomeReady}
use Rattle.rpc_journal.specs.declared.item.Item.{Item}
use Rattle.rpc_journal.specs.Ran.{Ran}
use Rattle.rpc_schedule.specs.Schedule.{NoneWaits}
use Rattle.rpc_schedule.specs.Serving.{none_waiting}
use Rattle.std.proofs.lemmas.Option.{slice_get_cases}
use Rattle.rpc_journal.proofs.KnownLemmas.{ready_known}
use Rattle.rpc_journal.proofs.EndedLemmas.{cancelled_waits_none}
use Rattle.rpc_journal.proofs.Push.{all-reverse}
use Rattle.rpc_journal.proofs.StayLemmas.{all_at}
use Rattle.rpc_schedule.specs.ends.OwnEntries.{is_own, AreOwn}
use Rattle.rpc_schedule.specs.ends.EndHolds.{IsEnd, kept_call}

-- none of its entries halts the table
no_halt : (role : Role) (kind : EntryKind) → is_own role kind ≡ true → reason_of kind ≡ None
no_halt Server (Halt why) own = absurd (false≢true own)
no_halt Server _ own = refl
no_halt Client (Halt why) own = absurd (false≢true own)
no_halt Client _ own = refl

told_unhalted : (role : Role) (set : Setting) (es : List Entry) → AreOwn role es → halt_reason (deeds_of set es) ≡ None
told_unhalted role set [] own = refl
told_unhalted role set (e ∷ es) own = rw (no_halt role e.kind own.0) (told_unhalted role set es own.1)

pub unhalted : (role : Role) (t : Table) → AreOwn role t.entries → halt_reason (past t) ≡ None
unhalted role t own = told_unhalted role t.setting (reverse t.entries) (all-reverse (λ e. is_own role e.kind ≡ true) t.entries own)

-- a call for which an event waits isn't cancelled
pub uncancelled : (role : Role) (rule : HandlerRule) (seed : Memo) (t : Table) (refused : Option StartRefused) (c : ℕ) → IsEnd role rule seed t None refused
    → is_empty (waiting_of (past t) c) ≡ false → is_cancelled (past t) c ≡ false
uncancelled role rule seed t refused c is waits =
    false_from_ne_true (is_cancelled (past t) c)
    (λ cancelled. true≢false (sym (ap is_empty (cancelled_waits_none t.setting (reverse t.entries) c is.legal.lawful.allowed cancelled)) ∙ waits))

-- where no run is kept and few items wait, each call for which an event waits is ready
pub waiting_ready : (role : Role) (rule : HandlerRule) (seed : Memo) (t : Table) (refused : Option StartRefused) (c : ℕ) → IsEnd role rule seed t None refused
    → items_waiting (past t) < 65536 → is_empty (waiting_of (past t) c) ≡ false → is_ready (past t) c ≡ true
waiting_ready role rule seed t refused c is few waits =
    rw (waits, is.others c refl, uncancelled role rule seed t refused c is waits, lt-ltb (items_waiting (past t)) 65536 few, unhalted role t is.own) refl

-- one below n fails the test
pub some_below : (n : ℕ) (test : ℕ → Bool) → all_below n test ≡ false → (c : ℕ) × (c < n) × (test c ≡ false)
some_below zero test none = absurd (true≢false none)
some_below (suc n) test none = at (all_below n test) refl (test n) refl none (some_below n test)
  where
    at : (b : Bool) → all_below n test ≡ b → (q : Bool) → test n ≡ q → (b && q) ≡ false
        → (all_below n test ≡ false → (c : ℕ) × (c < n) × (test c ≡ false)) → (c : ℕ) × (c < suc n) × (test c ≡ false)
    at true all q is none before = (n, omega arith, is ∙ none)
    at false some q is none before = let found = before some in (found.0, omega (arith, found.1), found.2)

-- an event waits only for a call that is there, where it doesn't run, isn't cancelled and nothing is halted: after
-- enough flushes it is ready
known_from : (n : ℕ) (set : Setting) (es : List Entry) (c : ℕ) → items_waiting (deeds_of set es) ≤ n + 65535 → runner_of (deeds_of set es) c ≡ None
    → is_cancelled (deeds_of set es) c ≡ false → halt_reason (deeds_of set es) ≡ None → is_empty (waiting_of (deeds_of set es) c) ≡ false → c < call_count (deeds_of set es)
known_from zero set es c few idle kept on waits =
    ready_known set es c (rw (waits, idle, kept, lt-ltb (items_waiting (deeds_of set es)) 65536 (omega (arith, few)), on) refl)
known_from (suc n) set es c few idle kept on waits =
    let ds = deeds_of set es in
    subst (λ cs. c < length cs) (append-nil (calls ds))
    (known_from n set (entry_by 1 Flush ∷ es) c (omega (arith, few, length-append (items_sent ds) [])) idle kept on
    (subst (λ ws. is_empty (drop (starts_since ds c) ws) ≡ false) (sym (append-nil (puts_since ds c))) waits))

pub waiting_known : (role : Role) (rule : HandlerRule) (seed : Memo) (t : Table) (refused : Option StartRefused) (c : ℕ) → IsEnd role rule seed t None refused
    → is_empty (waiting_of (past t) c) ≡ false → c < call_count (past t)
waiting_known role rule seed t refused c is waits =
    known_from (items_waiting (past t)) t.setting (reverse t.entries) c (omega arith) (is.others c refl) (uncancelled role rule seed t refused c is waits) (unhalted role t is.own) waits

-- where no event waits for a call that is there, none waits at all
pub none_waits : (role : Role) (rule : HandlerRule) (seed : Memo) (t : Table) (refused : Option StartRefused) (c : ℕ) → IsEnd role rule seed t None refused
    → all_below (call_count (past t)) (λ k. is_empty (waiting_of (past t) k)) ≡ true → is_empty (waiting_of (past t) c) ≡ true
none_waits role rule seed t refused c is all = at (is_empty (waiting_of (past t) c)) refl
  where
    at : (b : Bool) → is_empty (waiting_of (past t) c) ≡ b → is_empty (waiting_of (past t) c) ≡ true
    at true none = none
    at false waits =
        all_at (call_count (past t)) c (λ k. is_empty (waiting_of (past t) k)) all (waiting_known role rule seed t refused c is waits)

nothing_in : {A : Type 0} (xs : List A) → is_empty xs ≡ true → xs ≡ []
nothing_in [] none = refl
nothing_in (x ∷ xs) some = absurd (false≢true some)

-- then no queue is full
none_full : (ds : List Deed) (puts : List (ℕ × Event)) → ((c : ℕ) → is_empty (waiting_of ds c) ≡ true) → full_among ds puts ≡ None
none_full ds [] none = refl
none_full ds (put ∷ puts) none =
    let few : messages_waiting ds put.0 ≡ 0 = ap (count_by (λ w. not (is_ended w.event))) (nothing_in (waiting_of ds put.0) (none put.0)) in
    rw (few, and-false (not (is_ended put.1))) (none_full ds puts none)

pub no_full_queue : (role : Role) (rule : HandlerRule) (seed : Memo) (t : Table) (refused : Option StartRefused) (p : Packet) → IsEnd role rule seed t None refused
    → all_below (call_count (past t)) (λ k. is_empty (waiting_of (past t) k)) ≡ true → full_queue t.setting (past t) p ≡ None
no_full_queue role rule seed t refused p is all =
    none_full (past t) (arrive_row t.setting (past t) p).does.puts (λ c. none_waits role rule seed t refused c is all)

few_items : (ds : List Deed) → NoneWaits ds → items_waiting ds < 65536
few_items ds none = at (slice_get_cases (items_sent ds) (flush_count ds)).1
  where
    at : ((item : Item) × (flush_count ds < length (items_sent ds)) × (slice_get (items_sent ds) (flush_count ds) ≡ Some item) × (get_or (items_sent ds) (flush_count ds) item ≡ item))
        ⊎ ((length (items_sent ds) ≤ flush_count ds) × (slice_get (items_sent ds) (flush_count ds) ≡ None)) → items_waiting ds < 65536
    at (inl found) = absurd (let is = sym none ∙ found.2 in cc is)
    at (inr past_all) = omega (arith, past_all.0)

-- where no run is kept, an event waits and no item does, a call is ready
pub some_ready : (role : Role) (rule : HandlerRule) (seed : Memo) (t : Table) (kept : Option Ran) (refused : Option StartRefused) → IsEnd role rule seed t kept refused
    → kept_call kept ≡ None → none_waiting (past t) ≡ false → NoneWaits (past t) → SomeReady (past t)
some_ready role rule seed t (Some r) refused is kept waits none = absurd cc
some_ready role rule seed t None refused is kept waits none =
    let found = some_below (call_count (past t)) (λ k. is_empty (waiting_of (past t) k)) waits in
    (found.0, waiting_ready role rule seed t refused found.0 is (few_items (past t) none) found.2)
