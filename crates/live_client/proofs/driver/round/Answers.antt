use Rattle.std.proofs.Common.{◌≡◌, Ok, true, false, refl, ap, ◌∙◌}
use Rattle.turn_cell.proofs.Calls.{same_trans}
use Rattle.live_client.specs.Driving.{is_flushing, is_saying, is_talking}
use Rattle.live_client.specs.asks.Telling.{said_all, unknown}
use Rattle.live_client.proofs.FeedLemmas.{on_err_with, on_ok_with}
use Rattle.live_client.proofs.StepsOf.{can_on}
use Rattle.live_client.proofs.TalkLemmas.{say_uncancelled, talks_calm}
use Rattle.live_client.proofs.WorkLemmas.{causes_on, neither, of_is_ok, rests_of, says_wants, stood, talking_wants, works_ended, works_failed, works_flush, works_talks}
use Rattle.live_client.proofs.driver.round.Given.{Over}
use Rattle.live_client.proofs.driver.round.Goals as goal

pub flush_one-requires-clause-can : goal.flush_one-requires-clause-can
flush_one-requires-clause-can g c = can_on c.args.table.now c.args.call is_talking c.args.pass.now c.talk.new.pass c.requires.can c.talk.ensures.adds

pub stands-requires : goal.stands-requires
stands-requires g c = record {
  can =
      can_on c.args.table.now c.args.call is_flushing c.talk.new.pass c.flush_one.new.pass
      (can_on c.args.table.now c.args.call is_talking c.args.pass.now c.talk.new.pass c.requires.can c.talk.ensures.adds) c.flush_one.ensures.adds;
}

pub returns-in-Ok-flush_one-clause-can : goal.returns-in-Ok-flush_one-clause-can
returns-in-Ok-flush_one-clause-can g c =
    let r = c.args.table.now in
    can_on r c.args.call is_saying c.flush_one.new.pass c.stands.new.pass
    (can_on r c.args.call is_flushing c.talk.new.pass c.flush_one.new.pass (can_on r c.args.call is_talking c.args.pass.now c.talk.new.pass c.requires.can c.talk.ensures.adds) c.flush_one.ensures.adds) c.stands.ensures.calm.adds

pub returns-in-Ok-flush_one-clause-same : goal.returns-in-Ok-flush_one-clause-same
returns-in-Ok-flush_one-clause-same g c =
    same_trans c.args.pass.now c.flush_one.new.pass c.stands.new.pass (same_trans c.args.pass.now c.talk.new.pass c.flush_one.new.pass c.talk.ensures.adds.same c.flush_one.ensures.adds.same) c.stands.ensures.calm.adds.same

pub returns-in-Ok-flush_one-clause-works : goal.returns-in-Ok-flush_one-clause-works
returns-in-Ok-flush_one-clause-works g c = on_ok_with _ c.stands.result (λ _. λ opening all start w0 d0 f0 g0 early so.
    let r = c.args.table.now in
    let watches = g.W.Errand.watches in
    let written = g.O.Sink.written in
    let holds = g.S.Store.holds in
    let f = g.O.Sink.faults in
    let k = g.S.Store.faults in
    let last = g.C.Clock.last c.args.clock.now in
    let last' = g.C.Clock.last c.talk.new.clock in
    let p = c.args.pass.now in
    let m = c.talk.new.pass in
    let did = g.W.Errand.did c.args.errand.now all start last in
    let t = works_talks watches opening r c.args.call w0 d0 f0 g0 did (g.W.Errand.did c.talk.new.errand unknown start last') false false is_talking (written c.args.output.now) (holds c.args.store.now) (f c.args.output.now) (k c.args.store.now) p m talking_wants c.talk.ensures.adds
    (λ items t. c.in-Ok.ensures.talks opening all start items early t) so in
    let n = c.flush_one.new.pass in
    let e = c.flush_one.ensures in
    let made = c.in-Ok-flush_one.ensures.made in
    let fl = works_flush watches opening r c.args.call w0 d0 f0 g0 (g.W.Errand.did c.talk.new.errand unknown start last') false (written c.args.output.now) (written c.flush_one.new.output) (holds c.args.store.now) (holds c.flush_one.new.store)
    (f c.args.output.now) (f c.flush_one.new.output) (k c.args.store.now) (k c.flush_one.new.store) m n e.adds e.later e.sink e.store made.0 made.1 made.2 t in
    let q = c.stands.new.pass in
    let calm = c.stands.ensures.calm in
    let now = works_talks watches opening r c.args.call w0 d0 f0 g0 (g.W.Errand.did c.talk.new.errand unknown start last') (g.W.Errand.did c.talk.new.errand unknown start last') false false is_saying (written c.flush_one.new.output) (holds c.flush_one.new.store)
    (f c.flush_one.new.output) (k c.flush_one.new.store) n q says_wants calm.adds
    (λ items t. talks_calm watches opening r c.args.call (g.W.Errand.did c.talk.new.errand unknown start last') (g.W.Errand.did c.talk.new.errand unknown start last') items true false is_saying n q say_uncancelled calm (λ cut events outs ended x. x) t) fl in
    now)

quiet : (g : Over) (c : goal.After-stands g) → c.stands.result ≡ Ok false → (c.in-Ok.talked ≡ false) × (c.in-Ok-flush_one.flushed ≡ false)
quiet g c is = neither c.in-Ok.talked c.in-Ok-flush_one.flushed c.either.result c.either.ensures (stood c.stands.result c.either.result false c.stands.ensures.same is)

pub returns-in-Ok-flush_one-clause-none : goal.returns-in-Ok-flush_one-clause-none
returns-in-Ok-flush_one-clause-none g c = λ is opening all start w0 d0 f0 g0 early so.
    let r = c.args.table.now in
    let watches = g.W.Errand.watches in
    let written = g.O.Sink.written in
    let holds = g.S.Store.holds in
    let f = g.O.Sink.faults in
    let k = g.S.Store.faults in
    let last = g.C.Clock.last c.args.clock.now in
    let last' = g.C.Clock.last c.talk.new.clock in
    let p = c.args.pass.now in
    let m = c.talk.new.pass in
    let did = g.W.Errand.did c.args.errand.now all start last in
    let idle = c.in-Ok.is ∙ ap Ok (quiet g c is).0 in
    let t = works_talks watches opening r c.args.call w0 d0 f0 g0 did (g.W.Errand.did c.talk.new.errand said_all start last') false false is_talking (written c.args.output.now) (holds c.args.store.now) (f c.args.output.now) (k c.args.store.now) p m talking_wants c.talk.ensures.adds
    (λ items t. c.talk.ensures.none idle opening all start items early t) so in
    let n = c.flush_one.new.pass in
    let e = c.flush_one.ensures in
    let made = c.in-Ok-flush_one.ensures.made in
    let fl = works_flush watches opening r c.args.call w0 d0 f0 g0 (g.W.Errand.did c.talk.new.errand said_all start last') false (written c.args.output.now) (written c.flush_one.new.output) (holds c.args.store.now) (holds c.flush_one.new.store)
    (f c.args.output.now) (f c.flush_one.new.output) (k c.args.store.now) (k c.flush_one.new.store) m n e.adds e.later e.sink e.store made.0 made.1 made.2 t in
    let q = c.stands.new.pass in
    let calm = c.stands.ensures.calm in
    let now = works_talks watches opening r c.args.call w0 d0 f0 g0 (g.W.Errand.did c.talk.new.errand said_all start last') (g.W.Errand.did c.talk.new.errand said_all start last') false false is_saying (written c.flush_one.new.output) (holds c.flush_one.new.store)
    (f c.flush_one.new.output) (k c.flush_one.new.store) n q says_wants calm.adds
    (λ items t. talks_calm watches opening r c.args.call (g.W.Errand.did c.talk.new.errand said_all start last') (g.W.Errand.did c.talk.new.errand said_all start last') items true false is_saying n q say_uncancelled calm (λ cut events outs ended x. x) t) fl in
    now

pub returns-in-Ok-flush_one-clause-rests : goal.returns-in-Ok-flush_one-clause-rests
returns-in-Ok-flush_one-clause-rests g c = λ is.
    let r = c.args.table.now in
    let can = can_on r c.args.call is_flushing c.talk.new.pass c.flush_one.new.pass (can_on r c.args.call is_talking c.args.pass.now c.talk.new.pass c.requires.can c.talk.ensures.adds) c.flush_one.ensures.adds in
    rests_of r is_saying c.flush_one.new.pass c.stands.new.pass can.number can.stands.shown (c.flush_one.ensures.none (c.in-Ok-flush_one.is ∙ ap Ok (quiet g c is).1)) c.stands.ensures.calm.adds c.stands.ensures.mine
    (of_is_ok c.stands.result false is c.stands.ensures.unhalted)

pub returns-in-Ok-flush_one-clause-worked : goal.returns-in-Ok-flush_one-clause-worked
returns-in-Ok-flush_one-clause-worked g c = on_err_with _ c.stands.result (λ _. λ opening all start w0 d0 f0 g0 early so.
    let r = c.args.table.now in
    let watches = g.W.Errand.watches in
    let written = g.O.Sink.written in
    let holds = g.S.Store.holds in
    let f = g.O.Sink.faults in
    let k = g.S.Store.faults in
    let last = g.C.Clock.last c.args.clock.now in
    let last' = g.C.Clock.last c.talk.new.clock in
    let p = c.args.pass.now in
    let m = c.talk.new.pass in
    let did = g.W.Errand.did c.args.errand.now all start last in
    let t = works_talks watches opening r c.args.call w0 d0 f0 g0 did (g.W.Errand.did c.talk.new.errand unknown start last') false false is_talking (written c.args.output.now) (holds c.args.store.now) (f c.args.output.now) (k c.args.store.now) p m talking_wants c.talk.ensures.adds
    (λ items t. c.in-Ok.ensures.talks opening all start items early t) so in
    let n = c.flush_one.new.pass in
    let e = c.flush_one.ensures in
    let made = c.in-Ok-flush_one.ensures.made in
    let fl = works_flush watches opening r c.args.call w0 d0 f0 g0 (g.W.Errand.did c.talk.new.errand unknown start last') false (written c.args.output.now) (written c.flush_one.new.output) (holds c.args.store.now) (holds c.flush_one.new.store)
    (f c.args.output.now) (f c.flush_one.new.output) (k c.args.store.now) (k c.flush_one.new.store) m n e.adds e.later e.sink e.store made.0 made.1 made.2 t in
    let q = c.stands.new.pass in
    let calm = c.stands.ensures.calm in
    let now = works_talks watches opening r c.args.call w0 d0 f0 g0 (g.W.Errand.did c.talk.new.errand unknown start last') (g.W.Errand.did c.talk.new.errand unknown start last') false false is_saying (written c.flush_one.new.output) (holds c.flush_one.new.store)
    (f c.flush_one.new.output) (k c.flush_one.new.store) n q says_wants calm.adds
    (λ items t. talks_calm watches opening r c.args.call (g.W.Errand.did c.talk.new.errand unknown start last') (g.W.Errand.did c.talk.new.errand unknown start last') items true false is_saying n q say_uncancelled calm (λ cut events outs ended x. x) t) fl in
    works_ended watches opening r c.args.call w0 d0 f0 g0 unknown (λ some. g.W.Errand.did c.talk.new.errand some start last') true false false now.items (written c.flush_one.new.output) (holds c.flush_one.new.store)
    (f c.flush_one.new.output) (k c.flush_one.new.store) q now.talks now.made now.causes)

pub returns-in-Err-flush_one-clause-can : goal.returns-in-Err-flush_one-clause-can
returns-in-Err-flush_one-clause-can g c =
    can_on c.args.table.now c.args.call is_flushing c.talk.new.pass c.flush_one.new.pass (can_on c.args.table.now c.args.call is_talking c.args.pass.now c.talk.new.pass c.requires.can c.talk.ensures.adds) c.flush_one.ensures.adds

pub returns-in-Err-flush_one-clause-same : goal.returns-in-Err-flush_one-clause-same
returns-in-Err-flush_one-clause-same g c = same_trans c.args.pass.now c.talk.new.pass c.flush_one.new.pass c.talk.ensures.adds.same c.flush_one.ensures.adds.same

pub returns-in-Err-flush_one-clause-worked : goal.returns-in-Err-flush_one-clause-worked
returns-in-Err-flush_one-clause-worked g c = λ opening all start w0 d0 f0 g0 early so.
    let r = c.args.table.now in
    let watches = g.W.Errand.watches in
    let written = g.O.Sink.written in
    let holds = g.S.Store.holds in
    let f = g.O.Sink.faults in
    let k = g.S.Store.faults in
    let last = g.C.Clock.last c.args.clock.now in
    let last' = g.C.Clock.last c.talk.new.clock in
    let p = c.args.pass.now in
    let m = c.talk.new.pass in
    let did = g.W.Errand.did c.args.errand.now all start last in
    let t = works_talks watches opening r c.args.call w0 d0 f0 g0 did (g.W.Errand.did c.talk.new.errand unknown start last') false false is_talking (written c.args.output.now) (holds c.args.store.now) (f c.args.output.now) (k c.args.store.now) p m talking_wants c.talk.ensures.adds
    (λ items t. c.in-Ok.ensures.talks opening all start items early t) so in
    let n = c.flush_one.new.pass in
    let e = c.flush_one.ensures in
    works_failed watches opening r c.args.call w0 d0 f0 g0 (g.W.Errand.did c.talk.new.errand unknown start last') false (written c.args.output.now) (written c.flush_one.new.output) (holds c.args.store.now) (holds c.flush_one.new.store)
    (f c.args.output.now) (f c.flush_one.new.output) (k c.args.store.now) (k c.flush_one.new.store) m n e.adds e.later e.sink e.store unknown (λ some. g.W.Errand.did c.talk.new.errand some start last') false refl c.in-Err-flush_one.ensures.failed t

pub returns-in-Err-clause-can : goal.returns-in-Err-clause-can
returns-in-Err-clause-can g c = can_on c.args.table.now c.args.call is_talking c.args.pass.now c.talk.new.pass c.requires.can c.talk.ensures.adds

pub returns-in-Err-clause-same : goal.returns-in-Err-clause-same
returns-in-Err-clause-same g c = c.talk.ensures.adds.same

pub returns-in-Err-clause-worked : goal.returns-in-Err-clause-worked
returns-in-Err-clause-worked g c = λ opening all start w0 d0 f0 g0 early so.
    let r = c.args.table.now in
    let watches = g.W.Errand.watches in
    let written = g.O.Sink.written in
    let holds = g.S.Store.holds in
    let f = g.O.Sink.faults in
    let k = g.S.Store.faults in
    let last = g.C.Clock.last c.args.clock.now in
    let last' = g.C.Clock.last c.talk.new.clock in
    let p = c.args.pass.now in
    let m = c.talk.new.pass in
    let did = g.W.Errand.did c.args.errand.now all start last in
    let stopped = c.in-Err.ensures.stopped opening all start so.items early so.talks in
    works_ended watches opening r c.args.call w0 d0 f0 g0 stopped.0 (λ some. g.W.Errand.did c.talk.new.errand some start last') false false false so.items (written c.args.output.now) (holds c.args.store.now)
    (f c.args.output.now) (k c.args.store.now) m stopped.1 (record { first = so.made.first; which = so.made.which; written = so.made.written; stored = so.made.stored })
    (causes_on r is_talking talking_wants f0 (f c.args.output.now) g0 (k c.args.store.now) p m c.talk.ensures.adds so.causes)
