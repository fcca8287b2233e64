use Rattle.std.proofs.Common.{length, refl, subst, arith}
use Rattle.rpc_journal.specs.declared.entry.EntryKind.TheVariants.{Arrive}
use Rattle.rpc_journal.specs.Rows.{puts_event}
use Rattle.rpc_journal.specs.table.Touch.{IsTouched, putting}
use Rattle.rpc_journal.specs.History.{deed_by}
use Rattle.rpc_journal.proofs.table.DeedLemmas.{put_touches}
use Rattle.rpc_journal.proofs.PlaceLemmas.{get_read}
use Rattle.rpc_journal.proofs.table.TableSteps.{table_one}
use Rattle.rpc_journal.proofs.table.call_states.CallStates.put.Goals as goal

pub returns : goal.returns
returns c = record {
  agrees = λ ds seat p place agrees.
      let there = get_read c.args.self.now.calls.items c.args.call c.index_mut-state.result.now c.requires.within c.index_mut-state.ensures.value in
      let touched : IsTouched (length ds) (putting c.args.event) c.index_mut-state.result.now c.put.new.self =
      subst (λ n. IsTouched n (putting c.args.event) c.index_mut-state.result.now c.put.new.self) place c.put.ensures.state.is in
      table_one ds (deed_by seat (Arrive p) (puts_event c.args.call c.args.event)) c.args.self.now _ c.args.call (putting c.args.event) _ c.put.new.self agrees there
      (record { opens = refl; each = λ k b is. put_touches seat c.args.call k p c.args.event b is })
      touched (record { unflushing = refl; going_on = refl; running = refl; unclosed = refl }) refl refl refl (omega arith) refl refl;
}
