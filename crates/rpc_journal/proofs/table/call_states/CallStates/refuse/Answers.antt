use Rattle.std.proofs.Common.{length, refl, subst}
use Rattle.rpc_ids.specs.declared.status.Status.TheVariants.{InvalidArgument}
use Rattle.rpc_journal.specs.declared.entry.EntryKind.TheVariants.{Arrive}
use Rattle.rpc_journal.specs.ClientTable.{refuses_stream}
use Rattle.rpc_journal.specs.table.Touch.{IsTouched, ending}
use Rattle.rpc_journal.specs.History.{deed_by}
use Rattle.rpc_journal.proofs.table.DeedLemmas.{refuse_touches}
use Rattle.rpc_journal.proofs.PlaceLemmas.{get_read}
use Rattle.rpc_journal.proofs.table.TableSteps.{table_one}
use Rattle.rpc_journal.proofs.table.call_states.CallStates.refuse.Goals as goal

pub returns : goal.returns
returns c = record {
  agrees = λ ds seat p place agrees.
      let there = get_read c.args.self.now.calls.items c.args.call c.index_mut-state.result.now c.requires.live.within c.index_mut-state.ensures.value in
      let touched : IsTouched (length ds) (ending InvalidArgument) c.index_mut-state.result.now c.end.new.self =
      subst (λ n. IsTouched n (ending InvalidArgument) c.index_mut-state.result.now c.end.new.self) place c.end.ensures.state.is in
      table_one ds (deed_by seat (Arrive p) (refuses_stream p c.args.call)) c.args.self.now _ c.args.call (ending InvalidArgument) _ c.end.new.self agrees there
      (record { opens = refl; each = λ k b is. refuse_touches seat c.args.call k p b is })
      touched (record { unflushing = refl; going_on = refl; running = refl; unclosed = refl }) refl refl refl refl refl refl;
}
