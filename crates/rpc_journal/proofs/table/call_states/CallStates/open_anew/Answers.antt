use Rattle.std.proofs.Common.{None, ap, ◌∷◌, length, refl, sym, subst, arith}
use Rattle.rpc_ids.specs.declared.status.Status.TheVariants.{Cancelled}
use Rattle.rpc_journal.specs.declared.entry.EntryKind.TheVariants.{Arrive}
use Rattle.rpc_journal.specs.Calls.{call_count}
use Rattle.rpc_journal.specs.Effect.{Deed}
use Rattle.rpc_journal.specs.Rows.{both_effects, ends_and_clears, opens_served}
use Rattle.rpc_journal.specs.table.Agrees.{AgreesOnCalls}
use Rattle.rpc_journal.specs.table.Touch.{IsServed, IsTouched, closing}
use Rattle.rpc_journal.specs.History.{deed_by}
use Rattle.rpc_journal.proofs.table.NewestLemmas.{newest_opened}
use Rattle.rpc_journal.proofs.table.OpenLemmas.{step_anew}
use Rattle.rpc_journal.proofs.PlaceLemmas.{get_read}
use Rattle.rpc_journal.proofs.table.RoomLemmas.{items_same, on_err_of}
use Rattle.rpc_journal.proofs.table.TableSteps.{agrees_with}
use Rattle.rpc_journal.proofs.table.call_states.CallStates.open_anew.Goals as goal

pub returns-clause-agrees : goal.returns-clause-agrees
returns-clause-agrees c = λ ds seat p m place agrees is.
    let d : Deed = deed_by seat (Arrive p) (both_effects (ends_and_clears c.args.call Cancelled) (opens_served p m (call_count ds))) in
    let there = get_read c.reserve.new.self.items c.args.call c.index_mut-old.result.now (omega (arith, c.requires.live.within, ap length c.reserve.ensures.items)) c.index_mut-old.ensures.value in
    let calls : AgreesOnCalls ds c.reserve.new.self.items = subst (AgreesOnCalls ds) (sym c.reserve.ensures.items) agrees.calls in
    let touched : IsTouched (length ds) (closing Cancelled) c.index_mut-old.result.now c.close.new.self =
    subst (λ n. IsTouched n (closing Cancelled) c.index_mut-old.result.now c.close.new.self) place c.close.ensures.state.is in
    let served : IsServed (length ds) p m c.args.state = subst (λ n. IsServed n p m c.args.state) place is in
    agrees_with ds d c.args.self.now _ agrees
    (subst (AgreesOnCalls (d ∷ ds)) (sym c.push_reserved.ensures.items)
    (step_anew ds seat p m _ c.args.call c.index_mut-old.result.now c.close.new.self c.args.state calls there touched served))
    (newest_opened ds d (record { name = p.name; method = m; given = None }) c.args.state.name c.len.result c.args.self.now.newest c.set.new.self agrees.newest refl is.name (omega (arith, c.len.ensures, c.reserve.ensures.len, agrees.calls.many)) c.in_ok-set.ensures.ok)
    (record { unflushing = refl; going_on = refl; running = refl; unclosed = refl }) refl (omega arith) refl refl

pub returns-in_err-reserve-clause-err : goal.returns-in_err-reserve-clause-err
returns-in_err-reserve-clause-err c = on_err_of _ (items_same c.args.self.now _ c.reserve.ensures.items (λ name. refl) refl refl refl refl)

pub returns-in_err-set-clause-err : goal.returns-in_err-set-clause-err
returns-in_err-set-clause-err c = on_err_of _ (items_same c.args.self.now _ c.reserve.ensures.items c.in_err-set.ensures.err refl refl refl refl)
