-- From a step of the table to a step of a pass.
use Rattle.std.proofs.Common.{◌≡◌, ◌≢◌, ℕ, ◌==◌, Bool, true, false, List, [], ◌∷◌, ◌++◌, if◌then◌else◌, refl, sym, ◌∙◌, ap, subst, eq-eqb}
use Rattle.std.proofs.lemmas.Bool.{true≢false}
use Rattle.std.specs.List.{AllByRecursion}
use mathlib.Core.List.{IsPrefix}
use Rattle.entry_lists.specs.Entries.{made_by}
use Rattle.entry_lists.proofs.Makers.{goes_on_none, none_behind}
use Rattle.turn_cell.specs.Passes.{HasGiven, HasTaken, LockView, PassView}
use Rattle.turn_cell.proofs.Calls.{same_trans}
use Rattle.rpc_handlers.specs.HandlerRule.{HandlerRule}
use Rattle.rpc_journal.specs.declared.entry.Entry.{Entry}
use Rattle.rpc_journal.specs.declared.setting.Setting.{Setting}
use Rattle.rpc_journal.specs.ChangeLaws.{GoesOnBy}
use Rattle.rpc_journal.specs.Conditions.{CanComplete, CanSay, IsCall, IsInputOpen}
use Rattle.rpc_journal.specs.Lawful.{IsLawful, IsLegal}
use Rattle.rpc_journal.specs.Laws.{seat_of}
use Rattle.rpc_journal.specs.Runs.{IsRunning, Run}
use Rattle.rpc_journal.specs.CallTable.{Table}
use Rattle.rpc_journal.proofs.ChangeLemmas.{input_stays_open}
use Rattle.rpc_journal.proofs.ItemLemmas.{call_stays}
use Rattle.rpc_journal.proofs.RunLemmas.{quiet_for_good, run_stands}
use Rattle.rpc_handlers.specs.declared.answer.Out.{Out}
use Rattle.rpc_shared.specs.Steps.{Holds, IsOwn, Made, Step, Steps, base_of, log_of}

-- where a seat has no entry, all are of others
all_of_others : (seat : ℕ) (entries : List Entry) → made_by seat_of seat entries ≡ [] → AllByRecursion (λ e. seat_of e ≢ seat) entries
all_of_others seat [] none = tt
all_of_others seat (e ∷ rest) none = at (e.seat == seat) refl none (all_of_others seat rest)
  where
    at :
        (b : Bool) → (e.seat == seat) ≡ b → (if b then e ∷ made_by seat_of seat rest else made_by seat_of seat rest) ≡ [] →
        (made_by seat_of seat rest ≡ [] → AllByRecursion (λ x. seat_of x ≢ seat) rest) → AllByRecursion (λ x. seat_of x ≢ seat) (e ∷ rest)
    at true is empty others = absurd (cc)
    at false is empty others = (λ same. true≢false (sym (eq-eqb e.seat seat same) ∙ is), others empty)

-- the table's history begins with what the pass had seen, and has no entry of the pass behind it
pub record IsBehind (number : ℕ) (seen whole : List Entry) : Type 0 where
  pub rest : List Entry
  pub whole_is : seen ++ rest ≡ whole
  pub others : AllByRecursion (λ e. seat_of e ≢ number) rest

behind_own : (number : ℕ) (seen whole mine : List Entry) → IsPrefix seen whole → made_by seat_of number whole ≡ mine → made_by seat_of number seen ≡ mine → IsBehind number seen whole
behind_own number seen whole mine begins own shown =
    let rest = begins.0 in
    record {
      rest = rest;
      whole_is = begins.1;
      others = all_of_others number rest (none_behind seat_of number seen rest (ap (made_by seat_of number) begins.1 ∙ own ∙ sym shown));
    }

pub behind_step : (rule : HandlerRule) (r : LockView Setting) (p q : PassView Entry Setting) (step : Step) → (steps : Steps rule r p q step) → IsBehind p.view.known.number p.view.known.seen steps.before
behind_step rule r p q step steps = behind_own p.view.known.number p.view.known.seen steps.before p.view.known.mine steps.begins steps.own steps.shown

module _ (rule : HandlerRule) (r : LockView Setting) (p m : PassView Entry Setting) (t : Table) where
  behind : HasTaken log_of seat_of base_of p m t → IsBehind p.view.known.number p.view.known.seen t.entries
  behind taken = behind_own p.view.known.number p.view.known.seen t.entries p.view.known.mine taken.begins taken.own taken.shown

  -- what holds of the seen, and stays so over the entries of others, holds of the table
  there :
      (P : Setting → List Entry → Type 0) (old : Table) → Holds rule r p m t → old ≡ t →
      ((more : List Entry) → IsLawful r.base (p.view.known.seen ++ more) → AllByRecursion (λ e. seat_of e ≢ p.view.known.number) more → P r.base (p.view.known.seen ++ more)) →
      P old.setting old.entries
  there P old holds same stays =
      let parts = behind holds.taken in
      let legal : IsLegal rule r.base t.entries = subst (λ s. IsLegal rule s t.entries) holds.setting holds.legal in
      let lawful : IsLawful r.base (p.view.known.seen ++ parts.rest) = subst (IsLawful r.base) (sym parts.whole_is) legal.lawful in
      let now : P r.base t.entries = subst (P r.base) parts.whole_is (stays parts.rest lawful parts.others) in
      subst (λ o. P o.setting o.entries) (sym same) (subst (λ s. P s t.entries) (sym holds.setting) now)

  pub call_there : (old : Table) (c : ℕ) → Holds rule r p m t → old ≡ t → IsCall r.base p.view.known.seen c → IsCall old.setting old.entries c
  call_there old c holds same is = there (λ s h. IsCall s h c) old holds same (λ more lawful others. call_stays r.base p.view.known.seen more c is)

  pub say_there : (old : Table) (c : ℕ) (out : Out) → Holds rule r p m t → old ≡ t → CanSay r.base p.view.known.seen c out → CanSay old.setting old.entries c out
  say_there old c out holds same can =
      there (λ s h. CanSay s h c out) old holds same
      (λ more lawful others. record { there = call_stays r.base p.view.known.seen more c can.there; short = can.short })

  pub done_there : (old : Table) (c : ℕ) → Holds rule r p m t → old ≡ t → CanComplete r.base p.view.known.seen c → CanComplete old.setting old.entries c
  done_there old c holds same can =
      there (λ s h. CanComplete s h c) old holds same
      (λ more lawful others. record { client = can.client; there = call_stays r.base p.view.known.seen more c can.there })

  pub input_there :
      (old : Table) (seat : ℕ) → Holds rule r p m t → old ≡ t → seat ≡ m.view.known.number → IsInputOpen r.base p.view.known.seen p.view.known.number →
      IsInputOpen old.setting old.entries seat
  input_there old seat holds same number is =
      let own : seat ≡ p.view.known.number = number ∙ holds.taken.same.number in
      there (λ s h. IsInputOpen s h seat) old holds same
      (λ more lawful others.
      subst (IsInputOpen r.base (p.view.known.seen ++ more)) (sym own)
      (input_stays_open r.base p.view.known.seen more p.view.known.number lawful (subst (λ n. AllByRecursion (λ e. seat_of e ≢ n) more) is.feeder others) is))

  pub run_there :
      (old : Table) (run : Run) → Holds rule r p m t → old ≡ t → run.seat ≡ p.view.known.number → IsRunning rule r.base p.view.known.seen run →
      IsRunning rule old.setting old.entries run
  run_there old run holds same number is =
      there (λ s h. IsRunning rule s h run) old holds same
      (λ more lawful others. run_stands rule r.base p.view.known.seen more run lawful (subst (λ n. AllByRecursion (λ e. seat_of e ≢ n) more) (sym number) others) is)

-- what a method of the guarded table did
pub made_of :
    (rule : HandlerRule) (seat : ℕ) (inside old new : Table) (step : Step) → inside ≡ old → new.setting ≡ inside.setting → IsLegal rule new.setting new.entries →
    GoesOnBy seat inside.entries new.entries → step inside.setting seat inside.entries new.entries → Made rule seat old new step
made_of rule seat inside old new step same setting legal adds did =
    subst (λ o. Made rule seat o new step) same (record { setting = setting; legal = legal; adds = adds; did = did })

module _ (rule : HandlerRule) (r : LockView Setting) (p m q : PassView Entry Setting) (t : Table) where
  pub steps_made :
      (old new : Table) (seat : ℕ) (step : Step) → Holds rule r p m t → old ≡ t → seat ≡ m.view.known.number → Made rule seat old new step →
      HasGiven log_of seat_of m q new → Steps rule r p q step
  steps_made old new seat step holds same number made given =
      let taken = holds.taken in
      let own : seat ≡ p.view.known.number = number ∙ taken.same.number in
      let now : Made rule p.view.known.number t new step = subst (λ n. Made rule n t new step) own (subst (λ o. Made rule seat o new step) same made) in
      let seen : new.entries ≡ q.view.known.seen = sym given.seen in
      let setting : new.setting ≡ r.base = now.setting ∙ holds.setting in
      let after : IsLegal rule r.base q.view.known.seen = subst (IsLegal rule r.base) seen (subst (λ s. IsLegal rule s new.entries) setting now.legal) in
      record {
        same = same_trans p m q taken.same given.same;
        own_still = record {
          table = given.same.table ∙ taken.same.table ∙ holds.own.table;
          base = given.same.base ∙ taken.same.base ∙ holds.own.base;
          idle = given.idle;
        };
        before = t.entries;
        begins = taken.begins;
        legal = subst (λ s. IsLegal rule s t.entries) holds.setting holds.legal;
        own = taken.own;
        shown = taken.shown;
        did = subst (λ s. step s p.view.known.number t.entries q.view.known.seen) holds.setting (subst (step t.setting p.view.known.number t.entries) seen now.did);
        legal_after = after;
        adds = subst (GoesOnBy p.view.known.number t.entries) seen now.adds;
        mine = λ added is. given.mine added (seen ∙ is ∙ ap (λ xs. xs ++ added) (sym taken.seen)) ∙ ap (λ xs. xs ++ added) taken.mine;
        quiet = λ c more is quiet. quiet_for_good r.base p.view.known.seen more c (subst (IsLawful r.base) is after.lawful) quiet;
      }

-- a look adds nothing
pub made_look :
    (rule : HandlerRule) (r : LockView Setting) (p m : PassView Entry Setting) (t old : Table) (seat : ℕ) (step : Step) → Holds rule r p m t → old ≡ t →
    step old.setting seat old.entries old.entries → Made rule seat old old step
made_look rule r p m t old seat step holds same did = record {
  setting = refl;
  legal = subst (λ x. IsLegal rule x.setting x.entries) (sym same) holds.legal;
  adds = goes_on_none seat_of seat old.entries;
  did = did;
}

-- giving the table back as it was taken
pub give_log :
    (rule : HandlerRule) (r : LockView Setting) (p m : PassView Entry Setting) (old t : Table) → Holds rule r p m t → old ≡ t →
    GoesOnBy m.view.known.number m.view.known.seen old.entries
give_log rule r p m old t holds same =
    subst (GoesOnBy m.view.known.number m.view.known.seen) (holds.taken.seen ∙ ap (λ x. x.entries) (sym same)) (goes_on_none seat_of m.view.known.number m.view.known.seen)
