use Rattle.std.proofs.Common.{None, [], ◌∷◌, ◌++◌, refl, ap, sym, ◌∙◌, subst, arith}
use Rattle.rpc_journal.specs.declared.entry.EntryKind.TheVariants.{Arrive}
use Rattle.rpc_journal.specs.Calls.{call_count}
use Rattle.rpc_journal.specs.Effect.{Deed}
use Rattle.rpc_journal.specs.Rows.{opens_served}
use Rattle.rpc_journal.specs.table.Agrees.{AgreesOnCalls}
use Rattle.rpc_journal.specs.History.{deed_by}
use Rattle.rpc_journal.proofs.table.NewestLemmas.{newest_opened}
use Rattle.rpc_journal.proofs.table.OpenLemmas.{step_open}
use Rattle.rpc_journal.proofs.table.RoomLemmas.{items_same, on_err_of}
use Rattle.rpc_journal.proofs.table.TableSteps.{agrees_with}
use Rattle.rpc_journal.proofs.table.call_states.CallStates.open.Goals as goal

pub returns-clause-agrees : goal.returns-clause-agrees
returns-clause-agrees c = λ ds seat p m agrees is.
    let d : Deed = deed_by seat (Arrive p) (opens_served p m (call_count ds)) in
    agrees_with ds d c.args.self.now _ agrees
    (subst (AgreesOnCalls (d ∷ ds)) (sym (c.push_reserved.ensures.items ∙ ap (λ rs. rs ++ c.args.state ∷ []) c.reserve.ensures.items)) (step_open ds seat p m _ c.args.state agrees.calls is))
    (newest_opened ds d (record { name = p.name; method = m; given = None }) c.args.state.name c.len.result c.args.self.now.newest c.set.new.self agrees.newest refl is.name (omega (arith, c.len.ensures, c.reserve.ensures.len, agrees.calls.many)) c.in_ok-set.ensures.ok)
    (record { unflushing = refl; going_on = refl; running = refl; unclosed = refl }) refl (omega arith) refl refl

pub returns-in_err-reserve-clause-err : goal.returns-in_err-reserve-clause-err
returns-in_err-reserve-clause-err c = on_err_of _ (items_same c.args.self.now _ c.reserve.ensures.items (λ name. refl) refl refl refl refl)

pub returns-in_err-set-clause-err : goal.returns-in_err-set-clause-err
returns-in_err-set-clause-err c = on_err_of _ (items_same c.args.self.now _ c.reserve.ensures.items c.in_err-set.ensures.err refl refl refl refl)
