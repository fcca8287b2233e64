-- The walk goes on over allowed entries, and stops at the first other one.
use Rattle.std.proofs.Common.{◌≡◌, List, take, slice_get, Some, option_copied, refl, ap, sym, ◌∙◌, subst, arith}
use Rattle.std.proofs.lemmas.Bool.{true≢false}
use Rattle.rpc_handlers.specs.HandlerRule.{empty_memo}
use Rattle.rpc_journal.specs.declared.setting.Setting.{Setting}
use Rattle.rpc_journal.specs.Effect.{Deed}
use Rattle.rpc_journal.specs.Faults.{IsFirstFault, IsSettingOf}
use Rattle.rpc_journal.specs.History.{history}
use Rattle.rpc_journal.specs.Lawful.{IsLawful}
use Rattle.rpc_journal.specs.table.Agrees.{Agrees}
use Rattle.rpc_journal.proofs.VerdictLemmas.{faulty, history_next, its_place, lawful_next, take_all}
use Rattle.rpc_journal.proofs.verdict.check.Goals as goal

pub returns-in-Some-clause-fault : goal.returns-in-Some-clause-fault
returns-in-Some-clause-fault c = λ set is.
    record {
      entry = c.unwrap-entry.result.now;
      there = sym c.get.ensures ∙ ap option_copied c.unwrap-entry.ensures;
      before = c.loop-at.invariant.lawful set is;
      breaks = sym (c.in-Some.ensures set (history set (take c.loop-at.at c.args.journal.now.entries)) is (c.loop-at.invariant.agrees set is));
    }

pub returns-in-Some-clause-lawful : goal.returns-in-Some-clause-lawful
returns-in-Some-clause-lawful c = λ set is.
    let first : IsFirstFault set c.args.journal.now.entries (record { at = c.loop-at.at; rule = c.in-Some.rule }) =
    record {
      entry = c.unwrap-entry.result.now;
      there = sym c.get.ensures ∙ ap option_copied c.unwrap-entry.ensures;
      before = c.loop-at.invariant.lawful set is;
      breaks = sym (c.in-Some.ensures set (history set (take c.loop-at.at c.args.journal.now.entries)) is (c.loop-at.invariant.agrees set is));
    } in
    ((λ h. absurd (true≢false h)), (λ lawful. absurd (faulty set c.args.journal.now.entries _ first lawful)))

pub follow-requires : goal.follow-requires
follow-requires c =
    let set : Setting = record { role = c.args.role; channels = c.args.channels.now; registry = c.args.registry.now; seed = empty_memo } in
    let is : IsSettingOf set c.args.role c.args.channels.now c.args.registry.now = record { role = refl; channels = refl; registry = refl } in
    let past : List Deed = history set (take c.loop-at.at c.args.journal.now.entries) in
    record {
      set = set;
      past = past;
      setting = is;
      agrees = c.loop-at.invariant.agrees set is;
      allowed = sym (c.in_default.ensures set past is (c.loop-at.invariant.agrees set is));
    }

pub loop-at-preserved : goal.loop-at-preserved
loop-at-preserved c =
    let there : slice_get c.args.journal.now.entries c.loop-at.at ≡ Some c.unwrap-entry.result.now =
    sym c.get.ensures ∙ ap option_copied c.unwrap-entry.ensures in
    record {
      count = c.loop-at.invariant.count;
      lawful = λ set is.
          lawful_next set c.args.journal.now.entries c.loop-at.at c.unwrap-entry.result.now there (c.loop-at.invariant.lawful set is)
          (sym (c.in_default.ensures set _ is (c.loop-at.invariant.agrees set is)));
      agrees = λ set is.
          subst (λ ds. Agrees ds c.follow.new.states) (sym (history_next set c.args.journal.now.entries c.loop-at.at c.unwrap-entry.result.now there))
          (c.in_ok-follow.ensures set (history set (take c.loop-at.at c.args.journal.now.entries)) is
          (its_place set c.args.journal.now.entries c.loop-at.at (omega (arith, c.loop-at.invariant.count)))
          (sym (c.in_default.ensures set _ is (c.loop-at.invariant.agrees set is)))
          (c.loop-at.invariant.agrees set is));
    }

pub returns-clause-lawful : goal.returns-clause-lawful
returns-clause-lawful c = λ set is.
    ((λ h. subst (IsLawful set) (take_all c.args.journal.now.entries c.loop-at.at (omega (arith, c.loop-at.invariant.count))) (c.loop-at.invariant.lawful set is)), (λ lawful. refl))
