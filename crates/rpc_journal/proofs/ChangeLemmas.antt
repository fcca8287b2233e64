-- What the calls of a table add, and what stays true of what a caller has seen.
use Rattle.std.proofs.Common.{◌≡◌, ◌≢◌, ℕ, Bool, true, false, not, ◌==◌, List, [], ◌∷◌, ◌++◌, length, reverse, slice_get, Option, Some, None, Ok, Err, Result, if◌then◌else◌, refl, ap, sym, ◌∙◌, subst, eq-eqb, ne_eqb}
use Rattle.std.proofs.lemmas.Bool.{true≢false}
use Rattle.std.proofs.lemmas.List.{reverse-append}
use Rattle.std.specs.List.{AllByRecursion}
use Rattle.entry_lists.proofs.Makers.{goes_on_none, goes_on_one}
use Rattle.rpc_ids.specs.declared.status.Status.{Status}
use Rattle.rpc_handlers.specs.declared.answer.Answer.{Answer}
use Rattle.rpc_handlers.specs.HandlerRule.{HandlerRule}
use Rattle.rpc_journal.specs.declared.entry.Entry.{Entry}
use Rattle.rpc_journal.specs.declared.entry.EntryKind.{EntryKind}
use Rattle.rpc_journal.specs.declared.answers.Cancelled.TheVariants.{Quiet}
use Rattle.rpc_journal.specs.declared.entry.EntryKind.TheVariants.{Start, Finish, Cancel, EndIn}
use Rattle.rpc_journal.specs.declared.setting.Setting.{Setting}
use Rattle.rpc_journal.specs.Calls.{is_cancelled, runner_of}
use Rattle.rpc_journal.specs.ChangeLaws.{GoesOnBy, AddsBySeat, BecomesQuiet}
use Rattle.rpc_journal.specs.Changes.{Accepts, StartDid, StartOfDid, FinishDid, CancelDid, FlushDid, cancel_answer}
use Rattle.rpc_journal.specs.Conditions.{IsInputOpen}
use Rattle.rpc_journal.specs.Effect.{Deed}
use Rattle.rpc_journal.specs.Quiet.{is_quiet}
use Rattle.rpc_journal.specs.History.{deeds_of, deeds_with, history, entry_by, adding}
use Rattle.rpc_journal.specs.Items.{input_ended, is_end_in}
use Rattle.rpc_journal.specs.Lawful.{AllowedAll, IsLawful, is_wrong_seat}
use Rattle.rpc_journal.specs.Laws.{seat_of}
use Rattle.rpc_journal.specs.Runs.{Run, Begins, IsRunning}
use Rattle.rpc_journal.specs.States.{state_before_run}
use Rattle.rpc_journal.proofs.Allowed.{allowed}
use Rattle.rpc_journal.proofs.Push.{history-push, allowed-parts, all-reverse}

-- one entry of a seat
one_by : (seat : ℕ) (kind : EntryKind) (before after : List Entry) → after ≡ adding before seat kind → GoesOnBy seat before after
one_by seat kind before after is = subst (GoesOnBy seat before) (sym is) (goes_on_one seat_of seat before (entry_by seat kind) refl)

-- none
none_by : (seat : ℕ) (before after : List Entry) → after ≡ before → GoesOnBy seat before after
none_by seat before after is = subst (GoesOnBy seat before) (sym is) (goes_on_none seat_of seat before)

-- one or none
some_by : (seat : ℕ) (kind : EntryKind) (before after : List Entry) (b : Bool) → after ≡ (if b then before else adding before seat kind) → GoesOnBy seat before after
some_by seat kind before after true is = none_by seat before after is
some_by seat kind before after false is = one_by seat kind before after is

accepts_by : {A F E : Type 0} (told : F → E) (refusal : Option E) (memory : E) (answers : A → Type 0) (seat : ℕ) (kind : EntryKind) (result : Result A F) (before after : List Entry)
    → Accepts told refusal memory answers (entry_by seat kind) result before after → GoesOnBy seat before after
accepts_by told refusal memory answers seat kind (Ok a) before after did = one_by seat kind before after did.adds
accepts_by told refusal memory answers seat kind (Err f) before after did = none_by seat before after did.kept

start_by : {R : Type 0} (rule : HandlerRule) (run_of : R → Run) (set : Setting) (seat : ℕ) (result : _) (before after : List Entry)
    → StartDid rule run_of set seat result before after → GoesOnBy seat before after
start_by rule run_of set seat (Ok (Some r)) before after did = one_by seat _ before after did.begins.adds
start_by rule run_of set seat (Ok None) before after did = none_by seat before after did.idle
start_by rule run_of set seat (Err e) before after did = none_by seat before after did.kept

start_of_by : {R : Type 0} (rule : HandlerRule) (run_of : R → Run) (set : Setting) (seat c : ℕ) (result : _) (before after : List Entry)
    → StartOfDid rule run_of set seat c result before after → GoesOnBy seat before after
start_of_by rule run_of set seat c (Ok r) before after did = one_by seat _ before after did.begins.adds
start_of_by rule run_of set seat c (Err e) before after did = none_by seat before after did.kept

flush_by : (set : Setting) (seat : ℕ) (result : _) (before after : List Entry) → FlushDid set seat result before after → GoesOnBy seat before after
flush_by set seat (Some item) before after did = one_by seat _ before after did.adds
flush_by set seat None before after did = none_by seat before after did.kept

-- what each call adds is by its seat
pub adds_by_seat : {H R : Type 0} → AddsBySeat H R
adds_by_seat = record {
  arrive = λ set seat p result before after did. accepts_by _ _ _ _ seat _ result before after did;
  invoke = λ set seat name payload state result before after did. accepts_by _ _ _ _ seat _ result before after did;
  say = λ set seat c out result before after did. accepts_by _ _ _ _ seat _ result before after did;
  done = λ set seat c result before after did. accepts_by _ _ _ _ seat _ result before after did;
  start = λ rule run_of set seat result before after did. start_by rule run_of set seat result before after did;
  start_of = λ rule run_of set seat c result before after did. start_of_by rule run_of set seat c result before after did;
  finish = λ set run a handler result before after did. one_by run.seat _ before after did.adds;
  replace = λ set seat c state result before after did. accepts_by _ _ _ _ seat _ result before after did;
  cancel = λ set seat c result before after did. some_by seat _ before after (is_cancelled (history set before) c) did.adds;
  tick = λ seat now result before after did. accepts_by _ _ _ _ seat _ result before after did;
  end_in = λ seat before after did. one_by seat _ before after did.adds;
  flush_front = λ set seat result before after did. flush_by set seat result before after did;
  halt = λ set seat why before after did. some_by seat _ before after _ did.adds;
  close_channel = λ set seat channel result before after did. accepts_by _ _ _ _ seat _ result before after did;
}

last_at : {A : Type 0} (xs : List A) (x : A) → slice_get (xs ++ x ∷ []) (length xs) ≡ Some x
last_at [] x = refl
last_at (y ∷ xs) x = last_at xs x

-- a run that begins is on
pub begun_runs : (rule : HandlerRule) (set : Setting) (seat : ℕ) (run : Run) (before after : List Entry)
    → Begins rule set seat run before after → IsRunning rule set after run
begun_runs rule set seat run before after begins =
    let e : Entry = entry_by seat (Start run.call) in
    let now : history set after ≡ deeds_with set (history set before) e = ap (history set) begins.adds ∙ history-push set before e in
    let own : (run.call == run.call) ≡ true = eq-eqb run.call run.call refl in
    record {
      started = rw (begins.adds, begins.newest, begins.own_seat) (last_at before (entry_by seat (Start run.call)));
      unfinished = subst (λ ds. runner_of ds run.call ≡ Some run.seat) (sym now) (rw own (ap Some (sym begins.own_seat)));
      took = begins.takes;
      had = λ ruled. subst (λ ds. state_before_run rule set ds run.call ≡ Some run.state) (sym now) (rw own (begins.has ruled));
    }

no_end : (seat : ℕ) (kind : EntryKind) → seat ≢ 0 → is_wrong_seat seat kind ≡ false → is_end_in kind ≡ false
no_end seat EndIn other right = absurd (true≢false (sym (ap not (ne_eqb seat 0 other)) ∙ right))
no_end seat _ other right = refl

open_from : (set : Setting) (new old : List Entry) → AllowedAll set (new ++ old) → AllByRecursion (λ e. seat_of e ≢ 0) new
    → input_ended (deeds_of set old) ≡ false → input_ended (deeds_of set (new ++ old)) ≡ false
open_from set [] old all others is = is
open_from set (e ∷ new) old all others is =
    let before = open_from set new old all.0 others.1 is in
    rw (no_end e.seat e.kind others.0 (allowed set (deeds_of set (new ++ old)) e all.1).seat) before

-- the input stays open over the entries of other seats
pub input_stays_open : (set : Setting) (h more : List Entry) (seat : ℕ) → IsLawful set (h ++ more)
    → AllByRecursion (λ e. seat_of e ≢ 0) more → IsInputOpen set h seat → IsInputOpen set (h ++ more) seat
input_stays_open set h more seat lawful others is = record {
  feeder = is.feeder;
  not_ended = subst (λ es. input_ended (deeds_of set es) ≡ false) (sym (reverse-append h more))
      (open_from set (reverse more) (reverse h) (allowed-parts set h more lawful) (all-reverse _ more others) is.not_ended);
}

-- a cancelled call without a run is quiet
quiet_parts : (ds : List Deed) (c : ℕ) → is_cancelled ds c ≡ true → runner_of ds c ≡ None → is_quiet ds c ≡ true
quiet_parts ds c cancelled idle = rw (cancelled, idle) refl

is_quiet_answer : (status : Status) (seat : Option ℕ) (told : Status) → Quiet told ≡ cancel_answer status seat → seat ≡ None
is_quiet_answer status None told is = refl
is_quiet_answer status (Some s) told is = absurd cc

-- a cancel that answers Quiet leaves the call quiet
cancel_quiets : (set : Setting) (seat c : ℕ) (status : Status) (before after : List Entry) → CancelDid set seat c (Quiet status) before after
    → is_quiet (history set after) c ≡ true
cancel_quiets set seat c status before after did =
    at (is_cancelled (history set before) c) refl did.adds (is_quiet_answer _ (runner_of (history set before) c) status did.answer)
  where
    at : (b : Bool) → is_cancelled (history set before) c ≡ b → after ≡ (if b then before else adding before seat (Cancel c)) → runner_of (history set before) c ≡ None
        → is_quiet (history set after) c ≡ true
    at true cancelled is idle = subst (λ es. is_quiet (history set es) c ≡ true) (sym is) (quiet_parts (history set before) c cancelled idle)
    at false cancelled is idle =
        let now : history set after ≡ deeds_with set (history set before) (entry_by seat (Cancel c)) = ap (history set) is ∙ history-push set before (entry_by seat (Cancel c)) in
        subst (λ ds. is_quiet ds c ≡ true) (sym now)
        (quiet_parts (deeds_with set (history set before) (entry_by seat (Cancel c))) c (rw (eq-eqb c c refl) refl) idle)

-- and so does the end of a cancelled call's run
finish_quiets : {H : Type 0} (set : Setting) (run : Run) (a : Answer) (handler : H) (result : Option H) (before after : List Entry)
    → is_cancelled (history set before) run.call ≡ true → FinishDid set run a handler result before after → is_quiet (history set after) run.call ≡ true
finish_quiets set run a handler result before after cancelled did =
    let now : history set after ≡ deeds_with set (history set before) (entry_by run.seat (Finish run.call a)) =
    ap (history set) did.adds ∙ history-push set before (entry_by run.seat (Finish run.call a)) in
    subst (λ ds. is_quiet ds run.call ≡ true) (sym now)
    (quiet_parts (deeds_with set (history set before) (entry_by run.seat (Finish run.call a))) run.call cancelled (rw (eq-eqb run.call run.call refl) refl))

pub becomes_quiet : {H : Type 0} → BecomesQuiet H
becomes_quiet = record {
  cancel = cancel_quiets;
  finish = λ set run a handler result before after cancelled did. finish_quiets set run a handler result before after cancelled did;
}
