use Rattle.std.proofs.Common.{slice_get, length, refl, ap, ◌∙◌, arith}
use Rattle.rpc_journal.specs.declared.entry.EntryKind.TheVariants.{Start}
use Rattle.rpc_journal.specs.Rows.{no_effect}
use Rattle.rpc_journal.specs.table.Touch.{starting}
use Rattle.rpc_journal.specs.History.{deed_by}
use Rattle.rpc_journal.proofs.table.DeedLemmas.{start_touches}
use Rattle.rpc_journal.proofs.PlaceLemmas.{get_read}
use Rattle.rpc_journal.proofs.table.TableSteps.{table_one}
use Rattle.rpc_journal.proofs.table.call_states.CallStates.start.Goals as goal

pub returns-clause-agrees : goal.returns-clause-agrees
returns-clause-agrees c = λ set ds agrees.
    let there = get_read c.args.self.now.calls.items c.args.call c.index_mut-state.result.now c.requires.within c.index_mut-state.ensures.value in
    table_one ds (deed_by c.args.seat (Start c.args.call) no_effect) c.args.self.now _ c.args.call (starting c.args.seat) _ c.start.new.self agrees there
    (record { opens = refl; each = λ k b is. start_touches c.args.seat c.args.call k b is })
    (c.start.ensures.state (length ds)).is (record { unflushing = refl; going_on = refl; running = refl; unclosed = refl }) refl refl refl (omega arith) refl refl

pub returns-clause-took : goal.returns-clause-took
returns-clause-took c = λ ds agrees.
    let there = get_read c.args.self.now.calls.items c.args.call c.index_mut-state.result.now c.requires.within c.index_mut-state.ensures.value in
    ap (λ ws. slice_get ws 0) ((agrees.calls.each _ _ there).waiting ∙ c.start.ensures.oldest)
