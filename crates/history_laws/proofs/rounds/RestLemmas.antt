-- A settled table is at rest.
use Rattle.std.proofs.Common.{◌≡◌, ℕ, zero, suc, ◌+◌, ◌≤◌, Bool, true, false, not, ◌&&◌, ◌||◌, ◌==◌, List, [], ◌∷◌, ◌++◌, length, reverse, Some, None, if◌then◌else◌, refl, ap, sym, ◌∙◌, subst, arith, length-append}
use Rattle.std.proofs.lemmas.Bool.{true≢false, leb-false}
use Rattle.std.proofs.lemmas.List.{length-drop}
use Rattle.rpc_handlers.specs.declared.answer.Answer.{Answer}
use Rattle.rpc_handlers.specs.declared.event.Event.{Event}
use Rattle.rpc_handlers.specs.HandlerRule.{HandlerRule}
use Rattle.rpc_journal.specs.declared.entry.Entry.{Entry}
use Rattle.rpc_journal.specs.declared.entry.EntryKind.{EntryKind}
use Rattle.rpc_journal.specs.declared.entry.EntryKind.TheVariants.{Finish, Flush, Start}
use Rattle.rpc_journal.specs.declared.item.Item.{Item}
use Rattle.rpc_journal.specs.declared.setting.Setting.{Setting}
use Rattle.rpc_journal.specs.declared.waiting.Waiting.{Waiting}
use Rattle.rpc_journal.specs.Calls.{is_cancelled, runner_of}
use Rattle.rpc_journal.specs.Effect.{Deed}
use Rattle.rpc_journal.specs.Entries.{effect_of}
use Rattle.rpc_journal.specs.History.{deeds_of, deeds_with, entry_by, history}
use Rattle.rpc_journal.specs.Items.{flush_count, halt_reason, is_flush, is_ready, items_sent, items_waiting}
use Rattle.rpc_journal.specs.Kinds.{is_empty}
use Rattle.rpc_journal.specs.Lawful.{AllowedAll, flushes_nothing}
use Rattle.rpc_journal.specs.Queues.{puts_since, starts_since, waiting_of}
use Rattle.rpc_journal.proofs.Allowed.{allowed}
use Rattle.rpc_journal.proofs.EndedLemmas.{cancelled_waits_none}
use Rattle.rpc_journal.proofs.PlaceLemmas.{get_none}
use Rattle.rpc_journal.proofs.Push.{history-push}
use Rattle.rpc_journal.proofs.RunLemmas.{started_ready}
use Rattle.rpc_schedule.specs.Schedule.{Stage, Turn, Turns, flush_seat, run_seat}
use Rattle.rpc_schedule.specs.Schedule.Stage.{running, flushing}
use Rattle.rpc_schedule.proofs.PendingLemmas.{Pending, no_deed, pending_after, pending_step, some_waits}
use Rattle.rpc_schedule.proofs.ScheduleLemmas.{entries_of}
use Rattle.rpc_schedule.proofs.ServingLemmas.{run_history}
use Rattle.history_laws.specs.rounds.Rest.{SettledIsAtRest}

-- of no call more events were taken than were put, and no more items were flushed than there are
pub record IsEven (ds : List Deed) : Type 0 where
  pub waiting : List (ℕ × Event)
  pub tells : Pending ds waiting
  pub within : flush_count ds ≤ length (items_sent ds)

flush_within : (ds : List Deed) (kind : EntryKind) (says : List Item) → flushes_nothing ds kind ≡ false → flush_count ds ≤ length (items_sent ds)
    → (if is_flush kind then flush_count ds + 1 else flush_count ds) ≤ length (items_sent ds ++ says)
flush_within ds Flush says fits within =
    omega (arith, leb-false (length (items_sent ds)) (flush_count ds) (first_false _ _ fits), length-append (items_sent ds) says)
  where
    first_false : (a b : Bool) → (a || b) ≡ false → a ≡ false
    first_false true b is = is
    first_false false b is = refl
flush_within ds _ says fits within = omega (arith, within, length-append (items_sent ds) says)

pub lawful_even : (set : Setting) (h : List Entry) → AllowedAll set h → IsEven (deeds_of set h)
lawful_even set [] all = record { waiting = []; tells = no_deed; within = omega arith }
lawful_even set (e ∷ h) all =
    let ds : List Deed = deeds_of set h in
    let d : Deed = record { entry = e; does = effect_of set ds e.kind } in
    let before = lawful_even set h all.0 in
    let fits = allowed set ds e all.1 in
    record {
      waiting = pending_after d before.waiting;
      tells = pending_step ds d before.waiting before.tells (λ c starts. some_waits ds c (started_ready ds c e.kind fits.started starts));
      within = flush_within ds e.kind d.does.says fits.something before.within;
    }

-- no run is on, and nothing was halted
pub record IsIdle (ds : List Deed) : Type 0 where
  pub idle : (c : ℕ) → runner_of ds c ≡ None
  pub unhalted : halt_reason ds ≡ None

run_idle : (set : Setting) (ds : List Deed) (c : ℕ) (a : Answer) → IsIdle ds → IsIdle (deeds_with set (deeds_with set ds (entry_by run_seat (Start c))) (entry_by run_seat (Finish c a)))
run_idle set ds c a before = record { idle = λ k. at k (c == k); unhalted = before.unhalted }
  where
    at : (k : ℕ) (b : Bool) → (if b then None else if b then Some run_seat else runner_of ds k) ≡ None
    at k true = refl
    at k false = before.idle k

module _ (rule : HandlerRule) (set : Setting) where
  pub turn_idle : (a b : Stage) → Turn rule set a b → IsIdle (history set (entries_of a)) → IsIdle (history set (entries_of b))
  turn_idle (running h) (running now) ran before =
      subst (λ x. IsIdle (history set x)) (sym ran.adds)
      (subst IsIdle (sym (run_history set h ran.call ran.answer)) (run_idle set (history set h) ran.call ran.answer before))
  turn_idle (running h) (flushing now) turn before = subst (λ x. IsIdle (history set x)) (sym turn.1) before
  turn_idle (flushing h) (flushing now) flushed before =
      subst (λ x. IsIdle (history set x)) (sym flushed.adds)
      (subst IsIdle (sym (history-push set h (entry_by flush_seat Flush))) (record { idle = before.idle; unhalted = before.unhalted }))
  turn_idle (flushing h) (running now) turn before = subst (λ x. IsIdle (history set x)) (sym turn.2) before

  turns_idle : (n : ℕ) (a b : Stage) → Turns rule set n a b → IsIdle (history set (entries_of a)) → IsIdle (history set (entries_of b))
  turns_idle zero a b same before = subst (λ s. IsIdle (history set (entries_of s))) same before
  turns_idle (suc n) a b turns before = turns_idle n turns.0 b turns.2 (turn_idle a turns.0 turns.1 before)

pub no_event : (ws : List Waiting) → (not (is_empty ws) && true && true && true && true) ≡ false → ws ≡ []
no_event [] unready = refl
no_event (w ∷ ws) unready = absurd (true≢false unready)

pub settled_is_at_rest : SettledIsAtRest
settled_is_at_rest rule set before after none_on unhalted settles lawful =
    record { taken = taken; idle = now.idle; flushed = all_out; unhalted = now.unhalted }
  where
    now : IsIdle (history set after)
    now = turns_idle rule set settles.reaches.0 (running before) (flushing after) settles.reaches.1 (record { idle = none_on; unhalted = unhalted })

    even : IsEven (history set after)
    even = lawful_even set (reverse after) lawful.allowed

    all_out : flush_count (history set after) ≡ length (items_sent (history set after))
    all_out = omega (arith, even.within, get_none (items_sent (history set after)) (flush_count (history set after)) settles.over.none_waits)

    none_waiting : items_waiting (history set after) ≡ 0
    none_waiting = omega (arith, all_out)

    waits_none : (c : ℕ) (b : Bool) → is_cancelled (history set after) c ≡ b → waiting_of (history set after) c ≡ []
    waits_none c true cancelled = cancelled_waits_none set (reverse after) c lawful.allowed cancelled
    waits_none c false going =
        let ready : is_ready (history set after) c ≡ (not (is_empty (waiting_of (history set after) c)) && true && true && true && true) =
        rw (now.idle c, going, none_waiting, now.unhalted) refl in
        no_event (waiting_of (history set after) c) (sym ready ∙ settles.over.none_ready c)

    taken : (c : ℕ) → starts_since (history set after) c ≡ length (puts_since (history set after) c)
    taken c =
        omega (arith, even.tells.even c, ap length (waits_none c (is_cancelled (history set after) c) refl), length-drop (starts_since (history set after) c) (puts_since (history set after) c))
