use Rattle.std.proofs.Common.{length, refl, subst, arith}
use Rattle.rpc_handlers.specs.declared.event.Event.TheVariants.{Message}
use Rattle.rpc_journal.specs.declared.entry.EntryKind.TheVariants.{Arrive}
use Rattle.rpc_journal.specs.Rows.{both_effects, ends_call, puts_event}
use Rattle.rpc_journal.specs.table.Touch.{IsTouched, answering}
use Rattle.rpc_journal.specs.History.{deed_by}
use Rattle.rpc_journal.proofs.table.DeedLemmas.{answer_touches}
use Rattle.rpc_journal.proofs.PlaceLemmas.{get_read}
use Rattle.rpc_journal.proofs.table.TableSteps.{table_one}
use Rattle.rpc_journal.proofs.table.call_states.CallStates.answer.Goals as goal

pub returns : goal.returns
returns c = record {
  agrees = λ ds seat p place agrees.
      let there = get_read c.args.self.now.calls.items c.args.call c.index_mut-state.result.now c.requires.live.within c.index_mut-state.ensures.value in
      let touched : IsTouched (length ds) (answering (Message c.args.payload) c.args.status) c.index_mut-state.result.now c.answer.new.self =
      subst (λ n. IsTouched n (answering (Message c.args.payload) c.args.status) c.index_mut-state.result.now c.answer.new.self) place c.answer.ensures.state.is in
      table_one ds (deed_by seat (Arrive p) (both_effects (puts_event c.args.call (Message c.args.payload)) (ends_call c.args.call c.args.status))) c.args.self.now _ c.args.call (answering (Message c.args.payload) c.args.status) _ c.answer.new.self agrees there
      (record { opens = refl; each = λ k b is. answer_touches seat c.args.call k p (Message c.args.payload) c.args.status b is })
      touched (record { unflushing = refl; going_on = refl; running = refl; unclosed = refl }) refl refl refl (omega arith) refl refl;
}
