use Rattle.std.proofs.Common.{◌+◌, length, refl, ap, sym, ◌∙◌}
use Rattle.rpc_journal.specs.declared.entry.EntryKind.TheVariants.{Cancel}
use Rattle.rpc_journal.specs.Calls.{call_at}
use Rattle.rpc_journal.specs.Entries.{cancel_effect}
use Rattle.rpc_journal.specs.History.{deed_by}
use Rattle.rpc_journal.proofs.table.FinishLemmas.{cancel_many, cancel_one}
use Rattle.rpc_journal.proofs.PlaceLemmas.{get_read}
use Rattle.rpc_journal.proofs.table.TableSteps.{table_one}
use Rattle.rpc_journal.proofs.table.call_states.CallStates.cancel.Goals as goal

pub returns : goal.returns
returns c = record {
  agrees = λ set ds seat agrees.
      let there = get_read c.args.self.now.calls.items c.args.call c.index_mut-state.result.now c.requires.within c.index_mut-state.ensures.value in
      let its = agrees.calls.each _ _ there in
      table_one ds (deed_by seat (Cancel c.args.call) (cancel_effect set ds c.args.call (call_at ds c.args.call))) c.args.self.now _ c.args.call _ _ c.cancel.new.self agrees there
      (cancel_one set ds seat c.args.call _ its)
      (c.cancel.ensures.state (length ds)).is (record { unflushing = refl; going_on = refl; running = refl; unclosed = refl }) refl refl refl
      (ap (λ n. c.args.self.now.unflushed + n) (c.items_of_cancel-items.ensures ∙ sym (cancel_many set ds c.args.call _ its))) refl refl;
}
