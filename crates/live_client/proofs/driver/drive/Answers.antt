use Rattle.std.proofs.Common.{true, false, refl, sym, subst, inl, inr, arith, le_refl}
use Rattle.turn_cell.proofs.Calls.{same_trans}
use Rattle.live_client.specs.asks.Telling.{said_all}
use Rattle.live_client.proofs.asks.TellLemmas.{on_err_map, on_ok_map}
use Rattle.live_client.specs.Driving.{Works, is_flushing}
use Rattle.live_client.proofs.StepsOf.{can_on}
use Rattle.rpc_shared.proofs.session.LeavingLemmas.{hangs_up_from}
use Rattle.live_client.proofs.WorkLemmas.{finish_fails, rose_from, worked_kept, works_failed, works_finished}
use Rattle.live_client.proofs.driver.drive.Goals as goal

pub wind_up-requires-clause-can : goal.wind_up-requires-clause-can
wind_up-requires-clause-can g c = can_on c.args.table.now c.args.call is_flushing c.converse.new.pass c.end_output.new.pass c.converse.ensures.can c.end_output.ensures.calm.adds

pub returns-in-Ok-end_output-clause-same : goal.returns-in-Ok-end_output-clause-same
returns-in-Ok-end_output-clause-same g c =
    same_trans c.args.pass.now c.end_output.new.pass c.wind_up.new.pass (same_trans c.args.pass.now c.converse.new.pass c.end_output.new.pass c.converse.ensures.same c.end_output.ensures.calm.adds.same) c.wind_up.ensures.same

pub returns-in-Ok-end_output-clause-works : goal.returns-in-Ok-end_output-clause-works
returns-in-Ok-end_output-clause-works g c = on_ok_map c.wind_up.result (λ works. λ opening all start w0 d0 f0 g0 early so.
    let r = c.args.table.now in
    let watches = g.W.Errand.watches in
    let last = g.C.Clock.last c.converse.new.clock in
    let written = g.O.Sink.written in
    let holds = g.S.Store.holds in
    let f = g.O.Sink.faults in
    let k = g.S.Store.faults in
    let m = c.converse.new.pass in
    let did = g.W.Errand.did c.converse.new.errand said_all start last in
    let conv = c.in-Ok.ensures.works opening all start w0 d0 f0 g0 early so in
    let fin = subst (Works watches opening did r c.args.call true true w0 (written c.end_output.new.output) d0 (holds c.converse.new.store) f0 (f c.end_output.new.output) g0 (k c.converse.new.store)) (sym c.in-Ok-end_output.ensures.kept)
    (works_finished watches opening did r c.args.call true w0 (written c.converse.new.output) (written c.end_output.new.output) d0 (holds c.converse.new.store) f0 (f c.converse.new.output) (f c.end_output.new.output) g0 (k c.converse.new.store) m
    c.in-Ok.ensures.rests c.end_output.ensures.bytes c.end_output.ensures.later conv) in
    works opening start last w0 d0 f0 g0 fin) c.wind_up.ensures.works

pub returns-in-Ok-end_output-clause-worked : goal.returns-in-Ok-end_output-clause-worked
returns-in-Ok-end_output-clause-worked g c = on_err_map c.wind_up.result (λ worked. λ opening all start w0 d0 f0 g0 early so.
    let r = c.args.table.now in
    let watches = g.W.Errand.watches in
    let last = g.C.Clock.last c.converse.new.clock in
    let written = g.O.Sink.written in
    let holds = g.S.Store.holds in
    let f = g.O.Sink.faults in
    let k = g.S.Store.faults in
    let m = c.converse.new.pass in
    let did = g.W.Errand.did c.converse.new.errand said_all start last in
    let conv = c.in-Ok.ensures.works opening all start w0 d0 f0 g0 early so in
    let fin = subst (Works watches opening did r c.args.call true true w0 (written c.end_output.new.output) d0 (holds c.converse.new.store) f0 (f c.end_output.new.output) g0 (k c.converse.new.store)) (sym c.in-Ok-end_output.ensures.kept)
    (works_finished watches opening did r c.args.call true w0 (written c.converse.new.output) (written c.end_output.new.output) d0 (holds c.converse.new.store) f0 (f c.converse.new.output) (f c.end_output.new.output) g0 (k c.converse.new.store) m
    c.in-Ok.ensures.rests c.end_output.ensures.bytes c.end_output.ensures.later conv) in
    worked opening start last w0 d0 f0 g0 fin) c.wind_up.ensures.worked

pub returns-in-Ok-end_output-clause-uncut : goal.returns-in-Ok-end_output-clause-uncut
returns-in-Ok-end_output-clause-uncut g c = λ opening all start w0 d0 f0 g0 early so.
    let r = c.args.table.now in
    let watches = g.W.Errand.watches in
    let last = g.C.Clock.last c.converse.new.clock in
    let written = g.O.Sink.written in
    let holds = g.S.Store.holds in
    let f = g.O.Sink.faults in
    let k = g.S.Store.faults in
    let m = c.converse.new.pass in
    let did = g.W.Errand.did c.converse.new.errand said_all start last in
    let conv = c.in-Ok.ensures.works opening all start w0 d0 f0 g0 early so in
    let fin = subst (Works watches opening did r c.args.call true true w0 (written c.end_output.new.output) d0 (holds c.converse.new.store) f0 (f c.end_output.new.output) g0 (k c.converse.new.store)) (sym c.in-Ok-end_output.ensures.kept)
    (works_finished watches opening did r c.args.call true w0 (written c.converse.new.output) (written c.end_output.new.output) d0 (holds c.converse.new.store) f0 (f c.converse.new.output) (f c.end_output.new.output) g0 (k c.converse.new.store) m
    c.in-Ok.ensures.rests c.end_output.ensures.bytes c.end_output.ensures.later conv) in
    c.wind_up.ensures.uncut opening start last w0 d0 f0 g0 fin c.converse.ensures.uncut

pub returns-in-Ok-end_output-clause-faults : goal.returns-in-Ok-end_output-clause-faults
returns-in-Ok-end_output-clause-faults g c = (
  omega (arith, c.converse.ensures.faults.0, c.end_output.ensures.later, c.wind_up.ensures.faults.0),
  omega (arith, c.converse.ensures.faults.1, c.wind_up.ensures.faults.1),
)

pub returns-in-Err-end_output-clause-can : goal.returns-in-Err-end_output-clause-can
returns-in-Err-end_output-clause-can g c = can_on c.args.table.now c.args.call is_flushing c.converse.new.pass c.end_output.new.pass c.converse.ensures.can c.end_output.ensures.calm.adds

pub returns-in-Err-end_output-clause-same : goal.returns-in-Err-end_output-clause-same
returns-in-Err-end_output-clause-same g c = same_trans c.args.pass.now c.converse.new.pass c.end_output.new.pass c.converse.ensures.same c.end_output.ensures.calm.adds.same

pub returns-in-Err-end_output-clause-worked : goal.returns-in-Err-end_output-clause-worked
returns-in-Err-end_output-clause-worked g c = λ opening all start w0 d0 f0 g0 early so.
    let r = c.args.table.now in
    let watches = g.W.Errand.watches in
    let last = g.C.Clock.last c.converse.new.clock in
    let written = g.O.Sink.written in
    let holds = g.S.Store.holds in
    let f = g.O.Sink.faults in
    let k = g.S.Store.faults in
    let m = c.converse.new.pass in
    let did = g.W.Errand.did c.converse.new.errand said_all start last in
    let conv = c.in-Ok.ensures.works opening all start w0 d0 f0 g0 early so in
    works_failed watches opening r c.args.call w0 d0 f0 g0 did true (written c.converse.new.output) (written c.end_output.new.output) (holds c.converse.new.store) (holds c.converse.new.store)
    (f c.converse.new.output) (f c.end_output.new.output) (k c.converse.new.store) (k c.converse.new.store) m c.end_output.new.pass c.end_output.ensures.calm.adds (c.end_output.ensures.later, le_refl (k c.converse.new.store))
    c.end_output.ensures.sink (λ halts. inl (c.end_output.ensures.store halts)) said_all (λ some. g.W.Errand.did c.converse.new.errand some start last) false refl
    (finish_fails r c.args.call (written c.converse.new.output) (written c.end_output.new.output) (holds c.converse.new.store) m c.end_output.new.pass c.end_output.ensures.calm c.end_output.ensures.bytes) conv

pub returns-in-Err-end_output-clause-uncut : goal.returns-in-Err-end_output-clause-uncut
returns-in-Err-end_output-clause-uncut g c = λ opening all start w0 d0 f0 g0 early so. c.converse.ensures.uncut

pub returns-in-Err-end_output-clause-faults : goal.returns-in-Err-end_output-clause-faults
returns-in-Err-end_output-clause-faults g c = (omega (arith, c.converse.ensures.faults.0, c.end_output.ensures.later), c.converse.ensures.faults.1)

pub returns-in-Ok-end_output-clause-hangs_up : goal.returns-in-Ok-end_output-clause-hangs_up
returns-in-Ok-end_output-clause-hangs_up g c = inl c.wind_up.ensures.closed

pub returns-in-Err-end_output-clause-hangs_up : goal.returns-in-Err-end_output-clause-hangs_up
returns-in-Err-end_output-clause-hangs_up g c =
    inr (rose_from (g.O.Sink.faults c.args.output.now) (g.O.Sink.faults c.converse.new.output) (g.O.Sink.faults c.end_output.new.output) c.converse.ensures.faults.0 c.in-Err-end_output.ensures.failed)

pub returns-in-Err-clause-worked : goal.returns-in-Err-clause-worked
returns-in-Err-clause-worked g c = λ opening all start w0 d0 f0 g0 early so.
    worked_kept g.W.Errand.watches opening c.args.table.now c.args.call w0 d0 f0 g0 (λ some. g.W.Errand.did c.converse.new.errand some start (g.C.Clock.last c.converse.new.clock))
    (g.O.Sink.written c.converse.new.output) (g.O.Sink.written c.hang_up.new.link) (g.S.Store.holds c.converse.new.store) (g.O.Sink.faults c.converse.new.output) (g.O.Sink.faults c.hang_up.new.link) (g.S.Store.faults c.converse.new.store) c.converse.new.pass
    c.hang_up.ensures.bytes c.hang_up.ensures.later (c.in-Err.ensures.worked opening all start w0 d0 f0 g0 early so)

pub returns-in-Err-clause-uncut : goal.returns-in-Err-clause-uncut
returns-in-Err-clause-uncut g c = λ opening all start w0 d0 f0 g0 early so. c.converse.ensures.uncut

pub returns-in-Err-clause-hangs_up : goal.returns-in-Err-clause-hangs_up
returns-in-Err-clause-hangs_up g c =
    hangs_up_from (g.O.Sink.finished c.hang_up.new.link) (g.O.Sink.faults c.args.output.now) (g.O.Sink.faults c.converse.new.output) (g.O.Sink.faults c.hang_up.new.link) c.converse.ensures.faults.0 c.hang_up.ensures.hangs_up

pub returns-in-Err-clause-faults : goal.returns-in-Err-clause-faults
returns-in-Err-clause-faults g c = (omega (arith, c.converse.ensures.faults.0, c.hang_up.ensures.later), c.converse.ensures.faults.1)
