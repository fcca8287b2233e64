use Rattle.std.proofs.Common.{length, refl, subst, arith}
use Rattle.rpc_journal.specs.declared.entry.EntryKind.TheVariants.{Arrive}
use Rattle.rpc_journal.specs.Rows.{ends_and_clears}
use Rattle.rpc_journal.specs.table.Touch.{IsTouched, closing}
use Rattle.rpc_journal.specs.History.{deed_by}
use Rattle.rpc_journal.proofs.table.DeedLemmas.{close_touches}
use Rattle.rpc_journal.proofs.PlaceLemmas.{get_read}
use Rattle.rpc_journal.proofs.table.TableSteps.{table_one}
use Rattle.rpc_journal.proofs.table.call_states.CallStates.close.Goals as goal

pub returns : goal.returns
returns c = record {
  agrees = λ ds seat p place agrees.
      let there = get_read c.args.self.now.calls.items c.args.call c.index_mut-state.result.now c.requires.live.within c.index_mut-state.ensures.value in
      let touched : IsTouched (length ds) (closing c.args.status) c.index_mut-state.result.now c.close.new.self =
      subst (λ n. IsTouched n (closing c.args.status) c.index_mut-state.result.now c.close.new.self) place c.close.ensures.state.is in
      table_one ds (deed_by seat (Arrive p) (ends_and_clears c.args.call c.args.status)) c.args.self.now _ c.args.call (closing c.args.status) _ c.close.new.self agrees there
      (record { opens = refl; each = λ k b is. close_touches seat c.args.call k p c.args.status b is })
      touched (record { unflushing = refl; going_on = refl; running = refl; unclosed = refl }) refl refl refl (omega arith) refl refl;
}
