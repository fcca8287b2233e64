use Rattle.std.proofs.Common.{true, false, arith}
use Rattle.live_client.specs.Driving.{is_saying}
use Rattle.live_client.proofs.FeedLemmas.{of_err_is, of_ok_is}
use Rattle.live_client.proofs.StepsOf.{can_on}
use Rattle.live_client.proofs.TalkLemmas.{say_uncancelled, talks_calm}
use Rattle.live_client.proofs.WorkLemmas.{says_wants, worked_kept, works_ended, works_talks}
use Rattle.live_client.proofs.driver.drive_met.Goals as goal

pub returns-then-reader_begins-clause-drove : goal.returns-then-reader_begins-clause-drove
returns-then-reader_begins-clause-drove g c = record {
  works = λ ok. of_ok_is c.drive.result ok c.drive.ensures.works;
  worked = λ bad. of_err_is c.drive.result bad c.drive.ensures.worked;
  uncut = c.drive.ensures.uncut;
}

pub returns-clause-can : goal.returns-clause-can
returns-clause-can g c = can_on c.args.table.now c.args.call is_saying c.args.pass.now c.give_up.new.pass c.requires.can c.give_up.ensures.calm.adds

pub returns-clause-same : goal.returns-clause-same
returns-clause-same g c = c.give_up.ensures.calm.adds.same

pub returns-clause-drove : goal.returns-clause-drove
returns-clause-drove g c = record {
  works = λ ok. absurd (cc ok);
  worked = λ _. λ opening all start w0 d0 f0 g0 early so.
      let r = c.args.table.now in
      let watches = g.W.Errand.watches in
      let written = g.O.Sink.written c.args.output.now in
      let holds = g.S.Store.holds c.args.store.now in
      let f = g.O.Sink.faults c.args.output.now in
      let k = g.S.Store.faults c.args.store.now in
      let last = g.C.Clock.last c.args.clock.now in
      let did = g.W.Errand.did c.args.errand.now all start last in
      let q = c.give_up.new.pass in
      let calm = c.give_up.ensures.calm in
      let now = works_talks watches opening r c.args.call w0 d0 f0 g0 did did false false is_saying written holds f k c.args.pass.now q says_wants calm.adds
      (λ items t. talks_calm watches opening r c.args.call did did items true false is_saying c.args.pass.now q say_uncancelled calm (λ cut events outs ended x. x) t) so in
      worked_kept watches opening r c.args.call w0 d0 f0 g0 (λ some. g.W.Errand.did c.args.errand.now some start last) written (g.O.Sink.written c.hang_up.new.link) holds f (g.O.Sink.faults c.hang_up.new.link) k q
      c.hang_up.ensures.bytes c.hang_up.ensures.later
      (works_ended watches opening r c.args.call w0 d0 f0 g0 all (λ some. g.W.Errand.did c.args.errand.now some start last) true false false now.items written holds f k q now.talks now.made now.causes);
  uncut = λ opening all start w0 d0 f0 g0 early so. c.requires.uncut;
}

pub returns-clause-later : goal.returns-clause-later
returns-clause-later g c = omega arith

pub returns-clause-faults : goal.returns-clause-faults
returns-clause-faults g c = (c.hang_up.ensures.later, omega arith)
