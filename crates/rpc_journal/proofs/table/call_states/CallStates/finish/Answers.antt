use Rattle.std.proofs.Common.{◌+◌, length, refl, ap, sym, ◌∙◌, subst}
use Rattle.rpc_journal.specs.declared.entry.EntryKind.TheVariants.{Finish}
use Rattle.rpc_journal.specs.Calls.{call_at}
use Rattle.rpc_journal.specs.Entries.{finish_effect}
use Rattle.rpc_journal.specs.table.Touch.{IsTouched, completes_given, end_given, finishing_so}
use Rattle.rpc_journal.specs.History.{deed_by}
use Rattle.rpc_journal.proofs.table.FinishLemmas.{finish_so, finish_touches}
use Rattle.rpc_journal.proofs.PlaceLemmas.{get_read}
use Rattle.rpc_journal.proofs.table.TableSteps.{table_one}
use Rattle.rpc_journal.proofs.table.call_states.CallStates.finish.Goals as goal

pub returns : goal.returns
returns c = record {
  agrees = λ set ds seat role agrees.
      let there = get_read c.args.self.now.calls.items c.args.call c.index_mut-state.result.now c.requires.within c.index_mut-state.ensures.value in
      let so = finish_so c.args.role set ds c.args.call c.index_mut-state.result.now c.args.a.now (agrees.calls.each _ _ there) role in
      let touched : IsTouched (length ds) (finishing_so (end_given c.args.role c.index_mut-state.result.now c.args.a.now.end) (completes_given c.args.role c.index_mut-state.result.now c.args.a.now.end)) c.index_mut-state.result.now c.finish.new.self =
      subst (λ end. IsTouched (length ds) (finishing_so end (completes_given c.args.role c.index_mut-state.result.now c.args.a.now.end)) c.index_mut-state.result.now c.finish.new.self) c.end_given-end.ensures
      (subst (λ done. IsTouched (length ds) (finishing_so c.end_given-end.result done) c.index_mut-state.result.now c.finish.new.self) c.completes_given-completes.ensures (c.finish.ensures.state (length ds)).is) in
      table_one ds (deed_by seat (Finish c.args.call c.args.a.now) (finish_effect set ds c.args.call c.args.a.now (call_at ds c.args.call))) c.args.self.now _ c.args.call _ _ c.finish.new.self agrees there
      (finish_touches seat c.args.call c.args.a.now _ _ _ _ so)
      touched (record { unflushing = refl; going_on = refl; running = refl; unclosed = refl }) refl refl refl
      (ap (λ n. c.args.self.now.unflushed + n) (c.items_given-items.ensures ∙ sym so.many)) refl refl;
}
