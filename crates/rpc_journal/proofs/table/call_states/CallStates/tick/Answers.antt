use Rattle.std.proofs.Common.{ap, length, refl, subst, arith}
use Rattle.rpc_journal.specs.declared.entry.EntryKind.TheVariants.{Tick}
use Rattle.rpc_journal.specs.declared.table.notice.Notice.TheVariants.{Time}
use Rattle.rpc_journal.specs.table.Agrees.{IsToldAll}
use Rattle.rpc_journal.specs.History.{deed_by}
use Rattle.rpc_journal.proofs.table.NewestLemmas.{newest_kept}
use Rattle.rpc_journal.proofs.table.NoticeLemmas.{notice_effect, step_told}
use Rattle.rpc_journal.proofs.table.TableSteps.{agrees_with}
use Rattle.rpc_journal.proofs.table.call_states.CallStates.tick.Goals as goal

pub returns : goal.returns
returns c = record {
  agrees = λ set ds seat place agrees.
      let told : IsToldAll (length ds) (Time c.args.now) c.args.self.now.calls.items c.tell_all.new.self.calls.items =
      subst (λ n. IsToldAll n (Time c.args.now) c.args.self.now.calls.items c.tell_all.new.self.calls.items) place c.tell_all.ensures.calls in
      agrees_with ds (deed_by seat (Tick c.args.now) (notice_effect set.role ds (Time c.args.now))) c.args.self.now c.tell_all.new.self agrees
      (step_told set.role ds seat (Tick c.args.now) (Time c.args.now) _ _ (record { start = λ k. refl; finish = λ k. refl; cancel = λ k. refl }) agrees.calls told)
      (newest_kept ds (deed_by seat (Tick c.args.now) (notice_effect set.role ds (Time c.args.now))) c.args.self.now.newest c.tell_all.new.self.newest agrees.newest refl c.tell_all.ensures.newest)
      (record { unflushing = refl; going_on = refl; running = refl; unclosed = refl }) (ap (λ v. v.items) c.tell_all.ensures.closed) (omega (arith, c.tell_all.ensures.unflushed)) c.tell_all.ensures.input c.tell_all.ensures.halt;
}
