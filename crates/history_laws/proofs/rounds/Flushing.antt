-- The items that wait are flushed.
use Rattle.std.proofs.Common.{◌≡◌, ℕ, zero, suc, ◌+◌, ◌<◌, List, [], ◌∷◌, ◌++◌, length, replicate, refl, ap, sym, ◌∙◌, subst, arith, append_assoc, length-append}
use Rattle.std.proofs.lemmas.List.{append-nil}
use Rattle.std.proofs.lemmas.Option.{slice_get_past}
use Rattle.rpc_handlers.specs.HandlerRule.{HandlerRule}
use Rattle.rpc_journal.specs.declared.entry.Entry.{Entry}
use Rattle.rpc_journal.specs.declared.entry.EntryKind.TheVariants.{Flush}
use Rattle.rpc_journal.specs.declared.setting.Setting.{Setting}
use Rattle.rpc_journal.specs.History.{adding, entry_by, history}
use Rattle.rpc_journal.specs.Items.{flush_count, items_sent}
use Rattle.rpc_journal.proofs.PlaceLemmas.{get_some}
use Rattle.rpc_journal.proofs.Push.{history-push}
use Rattle.rpc_schedule.specs.Schedule.{Flushed, IsOver, Reaches, flush_seat}
use Rattle.rpc_schedule.specs.Schedule.Stage.{flushing}
use Rattle.rpc_schedule.proofs.ScheduleLemmas.{reaches_itself, reaches_then, reaches_turn}
use Rattle.history_laws.specs.rounds.Streams.{IsAtRest}
use Rattle.history_laws.proofs.rounds.RunLemmas.{after_flushes, flush_deed, none_left, none_ready}

-- so many flushes more
abbrev pub flushed : List Entry → ℕ → List Entry
flushed h n = h ++ replicate n (entry_by flush_seat Flush)

next_flushed : (h : List Entry) (n : ℕ) → flushed (adding h flush_seat Flush) n ≡ flushed h (suc n)
next_flushed h n = append_assoc h (entry_by flush_seat Flush ∷ []) (replicate n (entry_by flush_seat Flush))

flush_history : (set : Setting) (h : List Entry) → history set (adding h flush_seat Flush) ≡ flush_deed ∷ history set h
flush_history set h = history-push set h (entry_by flush_seat Flush)

pub flushed_history : (set : Setting) (n : ℕ) (h : List Entry) → history set (flushed h n) ≡ after_flushes n (history set h)
flushed_history set zero h = ap (history set) (append-nil h)
flushed_history set (suc n) h =
    ap (history set) (sym (next_flushed h n))
    ∙ (flushed_history set n (adding h flush_seat Flush)
    ∙ ap (after_flushes n) (flush_history set h))

-- an item that waits goes out
flushes_one : (set : Setting) (h : List Entry) → flush_count (history set h) < length (items_sent (history set h)) → Flushed set h (adding h flush_seat Flush)
flushes_one set h waits =
    let there = get_some (items_sent (history set h)) (flush_count (history set h)) waits in
    record { item = there.0; waits = there.1; adds = refl }

one_fewer : (set : Setting) (h : List Entry) (n : ℕ) → flush_count (history set h) + suc n ≡ length (items_sent (history set h))
    → flush_count (history set (adding h flush_seat Flush)) + n ≡ length (items_sent (history set (adding h flush_seat Flush)))
one_fewer set h n waiting =
    subst (λ ds. flush_count ds + n ≡ length (items_sent ds)) (sym (flush_history set h)) (omega (arith, waiting, length-append (items_sent (history set h)) []))

-- so many items wait, and go out
pub flushes_reach : (rule : HandlerRule) (set : Setting) (n : ℕ) (h : List Entry) → flush_count (history set h) + n ≡ length (items_sent (history set h))
    → Reaches rule set (flushing h) (flushing (flushed h n))
flushes_reach rule set zero h waiting = subst (λ x. Reaches rule set (flushing h) (flushing x)) (sym (append-nil h)) (reaches_itself rule set (flushing h))
flushes_reach rule set (suc n) h waiting =
    let first : Reaches rule set (flushing h) (flushing (adding h flush_seat Flush)) =
    reaches_turn rule set (flushing h) (flushing h) (flushing (adding h flush_seat Flush)) (reaches_itself rule set (flushing h))
    (flushes_one set h (omega (arith, waiting))) in
    subst (λ x. Reaches rule set (flushing h) (flushing x)) (next_flushed h n)
    (reaches_then rule set (flushing h) (flushing (adding h flush_seat Flush)) (flushing (flushed (adding h flush_seat Flush) n)) first
    (flushes_reach rule set n (adding h flush_seat Flush) (one_fewer set h n waiting)))

-- a table at rest has nothing to do
pub rest_is_over : (set : Setting) (h : List Entry) → IsAtRest (history set h) → IsOver set h
rest_is_over set h rest = record {
  none_ready = λ k. none_ready (history set h) k (none_left (history set h) k (rest.taken k));
  none_waits = slice_get_past (items_sent (history set h)) (flush_count (history set h)) (omega (arith, rest.flushed));
}
