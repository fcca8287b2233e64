use Rattle.std.proofs.Common.{◌+◌, length, refl, ap, sym}
use Rattle.rpc_journal.specs.declared.entry.EntryKind.TheVariants.{Done}
use Rattle.rpc_journal.specs.table.Touch.{completing}
use Rattle.rpc_journal.specs.History.{deed_by}
use Rattle.rpc_journal.proofs.table.FinishLemmas.{done_effect, done_one}
use Rattle.rpc_journal.proofs.PlaceLemmas.{get_read}
use Rattle.rpc_journal.proofs.table.TableSteps.{table_one}
use Rattle.rpc_journal.proofs.table.call_states.CallStates.done.Goals as goal

pub returns : goal.returns
returns c = record {
  agrees = λ set ds seat agrees.
      let there = get_read c.args.self.now.calls.items c.args.call c.index_mut-state.result.now c.requires.known c.index_mut-state.ensures.value in
      let one = done_one ds seat c.args.call _ (agrees.calls.each _ _ there) in
      table_one ds (deed_by seat (Done c.args.call) (done_effect ds c.args.call)) c.args.self.now _ c.args.call completing _ c.complete.new.self agrees there
      one.touches (c.complete.ensures.state (length ds)).is (record { unflushing = refl; going_on = refl; running = refl; unclosed = refl }) refl refl refl
      (ap (λ n. c.args.self.now.unflushed + n) (sym one.many)) refl refl;
}
