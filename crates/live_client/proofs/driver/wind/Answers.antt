use Rattle.std.proofs.Common.{true, refl}
use Rattle.turn_cell.proofs.Calls.{same_trans}
use Rattle.live_client.specs.Driving.{is_flushing, is_running, is_saying}
use Rattle.live_client.specs.asks.Telling.{said_all}
use Rattle.live_client.proofs.FeedLemmas.{on_err_with, on_ok_with}
use Rattle.live_client.proofs.StepsOf.{can_on}
use Rattle.live_client.proofs.TalkLemmas.{run_uncancelled, talks_calm}
use Rattle.live_client.proofs.WorkLemmas.{look_closes, run_closes, runs_wants, winds_flush, works_ended, works_failed, works_winds}
use Rattle.live_client.proofs.driver.wind.Goals as goal

pub flush_one-requires-clause-can : goal.flush_one-requires-clause-can
flush_one-requires-clause-can g c = can_on c.args.table.now c.args.call is_running c.args.pass.now c.run_one.new.pass c.requires.can c.run_one.ensures.adds

pub stands-requires : goal.stands-requires
stands-requires g c = record { can = can_on c.args.table.now c.args.call is_flushing c.run_one.new.pass c.flush_one.new.pass (can_on c.args.table.now c.args.call is_running c.args.pass.now c.run_one.new.pass c.requires.can c.run_one.ensures.adds) c.flush_one.ensures.adds }

pub returns-in-Ok-flush_one-clause-can : goal.returns-in-Ok-flush_one-clause-can
returns-in-Ok-flush_one-clause-can g c = can_on c.args.table.now c.args.call is_saying c.flush_one.new.pass c.stands.new.pass (can_on c.args.table.now c.args.call is_flushing c.run_one.new.pass c.flush_one.new.pass (can_on c.args.table.now c.args.call is_running c.args.pass.now c.run_one.new.pass c.requires.can c.run_one.ensures.adds) c.flush_one.ensures.adds) c.stands.ensures.calm.adds

pub returns-in-Ok-flush_one-clause-same : goal.returns-in-Ok-flush_one-clause-same
returns-in-Ok-flush_one-clause-same g c =
    same_trans c.args.pass.now c.flush_one.new.pass c.stands.new.pass (same_trans c.args.pass.now c.run_one.new.pass c.flush_one.new.pass c.run_one.ensures.adds.same c.flush_one.ensures.adds.same) c.stands.ensures.calm.adds.same

pub returns-in-Ok-flush_one-clause-works : goal.returns-in-Ok-flush_one-clause-works
returns-in-Ok-flush_one-clause-works g c = on_ok_with _ c.stands.result (λ _. λ opening start upto w0 d0 f0 g0 so.
    let r = c.args.table.now in
    let watches = g.W.Errand.watches in
    let written = g.O.Sink.written in
    let holds = g.S.Store.holds in
    let f = g.O.Sink.faults in
    let k = g.S.Store.faults in
    let p = c.args.pass.now in
    let m = c.run_one.new.pass in
    let did = g.W.Errand.did c.args.errand.now said_all start upto in
    let now = g.W.Errand.did c.run_one.new.errand said_all start upto in
    let t = works_winds watches opening r c.args.call w0 d0 f0 g0 did now true true is_running (written c.args.output.now) (holds c.args.store.now) (f c.args.output.now) (k c.args.store.now) p m runs_wants run_closes c.run_one.ensures.adds
    (λ items t. c.run_one.ensures.talks opening true start upto items t) so in
    let n = c.flush_one.new.pass in
    let e = c.flush_one.ensures in
    let made = c.in-Ok-flush_one.ensures.made in
    let fl = winds_flush watches opening r c.args.call w0 d0 f0 g0 now true (written c.args.output.now) (written c.flush_one.new.output) (holds c.args.store.now) (holds c.flush_one.new.store)
    (f c.args.output.now) (f c.flush_one.new.output) (k c.args.store.now) (k c.flush_one.new.store) m n e.adds e.later e.sink e.store made.0 made.1 made.2 t in
    let q = c.stands.new.pass in
    let looked = look_closes r c.args.call n q c.stands.ensures.calm c.stands.ensures.mine in
    let end = works_winds watches opening r c.args.call w0 d0 f0 g0 now now true true is_running (written c.flush_one.new.output) (holds c.flush_one.new.store)
    (f c.flush_one.new.output) (k c.flush_one.new.store) n q runs_wants run_closes looked.adds
    (λ items t. talks_calm watches opening r c.args.call now now items true true is_running n q run_uncancelled looked (λ cut events outs ended x. x) t) fl in
    end)

pub returns-in-Ok-flush_one-clause-worked : goal.returns-in-Ok-flush_one-clause-worked
returns-in-Ok-flush_one-clause-worked g c = on_err_with _ c.stands.result (λ _. λ opening start upto w0 d0 f0 g0 so.
    let r = c.args.table.now in
    let watches = g.W.Errand.watches in
    let written = g.O.Sink.written in
    let holds = g.S.Store.holds in
    let f = g.O.Sink.faults in
    let k = g.S.Store.faults in
    let p = c.args.pass.now in
    let m = c.run_one.new.pass in
    let did = g.W.Errand.did c.args.errand.now said_all start upto in
    let now = g.W.Errand.did c.run_one.new.errand said_all start upto in
    let t = works_winds watches opening r c.args.call w0 d0 f0 g0 did now true true is_running (written c.args.output.now) (holds c.args.store.now) (f c.args.output.now) (k c.args.store.now) p m runs_wants run_closes c.run_one.ensures.adds
    (λ items t. c.run_one.ensures.talks opening true start upto items t) so in
    let n = c.flush_one.new.pass in
    let e = c.flush_one.ensures in
    let made = c.in-Ok-flush_one.ensures.made in
    let fl = winds_flush watches opening r c.args.call w0 d0 f0 g0 now true (written c.args.output.now) (written c.flush_one.new.output) (holds c.args.store.now) (holds c.flush_one.new.store)
    (f c.args.output.now) (f c.flush_one.new.output) (k c.args.store.now) (k c.flush_one.new.store) m n e.adds e.later e.sink e.store made.0 made.1 made.2 t in
    let q = c.stands.new.pass in
    let looked = look_closes r c.args.call n q c.stands.ensures.calm c.stands.ensures.mine in
    let end = works_winds watches opening r c.args.call w0 d0 f0 g0 now now true true is_running (written c.flush_one.new.output) (holds c.flush_one.new.store)
    (f c.flush_one.new.output) (k c.flush_one.new.store) n q runs_wants run_closes looked.adds
    (λ items t. talks_calm watches opening r c.args.call now now items true true is_running n q run_uncancelled looked (λ cut events outs ended x. x) t) fl in
    works_ended watches opening r c.args.call w0 d0 f0 g0 said_all (λ some. g.W.Errand.did c.run_one.new.errand some start upto) true true true end.items (written c.flush_one.new.output) (holds c.flush_one.new.store)
    (f c.flush_one.new.output) (k c.flush_one.new.store) q end.talks end.made end.causes)

pub returns-in-Ok-flush_one-clause-uncut : goal.returns-in-Ok-flush_one-clause-uncut
returns-in-Ok-flush_one-clause-uncut g c = λ opening start upto w0 d0 f0 g0 so uncut. c.run_one.ensures.over opening start upto so.items so.talks uncut

pub returns-in-Err-flush_one-clause-uncut : goal.returns-in-Err-flush_one-clause-uncut
returns-in-Err-flush_one-clause-uncut g c = λ opening start upto w0 d0 f0 g0 so uncut. c.run_one.ensures.over opening start upto so.items so.talks uncut

pub returns-in-Err-clause-uncut : goal.returns-in-Err-clause-uncut
returns-in-Err-clause-uncut g c = λ opening start upto w0 d0 f0 g0 so uncut. c.run_one.ensures.over opening start upto so.items so.talks uncut

pub returns-in-Err-flush_one-clause-can : goal.returns-in-Err-flush_one-clause-can
returns-in-Err-flush_one-clause-can g c = can_on c.args.table.now c.args.call is_flushing c.run_one.new.pass c.flush_one.new.pass (can_on c.args.table.now c.args.call is_running c.args.pass.now c.run_one.new.pass c.requires.can c.run_one.ensures.adds) c.flush_one.ensures.adds

pub returns-in-Err-flush_one-clause-same : goal.returns-in-Err-flush_one-clause-same
returns-in-Err-flush_one-clause-same g c = same_trans c.args.pass.now c.run_one.new.pass c.flush_one.new.pass c.run_one.ensures.adds.same c.flush_one.ensures.adds.same

pub returns-in-Err-flush_one-clause-worked : goal.returns-in-Err-flush_one-clause-worked
returns-in-Err-flush_one-clause-worked g c = λ opening start upto w0 d0 f0 g0 so.
    let r = c.args.table.now in
    let watches = g.W.Errand.watches in
    let written = g.O.Sink.written in
    let holds = g.S.Store.holds in
    let f = g.O.Sink.faults in
    let k = g.S.Store.faults in
    let p = c.args.pass.now in
    let m = c.run_one.new.pass in
    let did = g.W.Errand.did c.args.errand.now said_all start upto in
    let now = g.W.Errand.did c.run_one.new.errand said_all start upto in
    let t = works_winds watches opening r c.args.call w0 d0 f0 g0 did now true true is_running (written c.args.output.now) (holds c.args.store.now) (f c.args.output.now) (k c.args.store.now) p m runs_wants run_closes c.run_one.ensures.adds
    (λ items t. c.run_one.ensures.talks opening true start upto items t) so in
    let n = c.flush_one.new.pass in
    let e = c.flush_one.ensures in
    works_failed watches opening r c.args.call w0 d0 f0 g0 now true (written c.args.output.now) (written c.flush_one.new.output) (holds c.args.store.now) (holds c.flush_one.new.store)
    (f c.args.output.now) (f c.flush_one.new.output) (k c.args.store.now) (k c.flush_one.new.store) m n e.adds e.later e.sink e.store said_all (λ some. g.W.Errand.did c.run_one.new.errand some start upto) true refl c.in-Err-flush_one.ensures.failed t

pub returns-in-Err-clause-can : goal.returns-in-Err-clause-can
returns-in-Err-clause-can g c = can_on c.args.table.now c.args.call is_running c.args.pass.now c.run_one.new.pass c.requires.can c.run_one.ensures.adds

pub returns-in-Err-clause-same : goal.returns-in-Err-clause-same
returns-in-Err-clause-same g c = c.run_one.ensures.adds.same

pub returns-in-Err-clause-worked : goal.returns-in-Err-clause-worked
returns-in-Err-clause-worked g c = λ opening start upto w0 d0 f0 g0 so.
    let r = c.args.table.now in
    let watches = g.W.Errand.watches in
    let written = g.O.Sink.written in
    let holds = g.S.Store.holds in
    let f = g.O.Sink.faults in
    let k = g.S.Store.faults in
    let p = c.args.pass.now in
    let m = c.run_one.new.pass in
    let did = g.W.Errand.did c.args.errand.now said_all start upto in
    let now = g.W.Errand.did c.run_one.new.errand said_all start upto in
    let t = works_winds watches opening r c.args.call w0 d0 f0 g0 did now true true is_running (written c.args.output.now) (holds c.args.store.now) (f c.args.output.now) (k c.args.store.now) p m runs_wants run_closes c.run_one.ensures.adds
    (λ items t. c.run_one.ensures.talks opening true start upto items t) so in
    works_ended watches opening r c.args.call w0 d0 f0 g0 said_all (λ some. g.W.Errand.did c.run_one.new.errand some start upto) true true true t.items (written c.args.output.now) (holds c.args.store.now)
    (f c.args.output.now) (k c.args.store.now) m t.talks t.made t.causes
