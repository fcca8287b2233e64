use Rattle.std.proofs.Common.{ap, subst, ◌∙◌}
use Rattle.rtrb.specs.Ring.{sent}
use Rattle.rpc_journal.specs.Items.{moments}
use Rattle.rpc_journal.specs.Changes.{FlushDid}
use Rattle.rpc_shared.specs.Steps.{Steps}
use Rattle.turn_cell.proofs.Calls.{same_trans}
use Rattle.rpc_crew.proofs.PumpLemmas.{flush_moments, pumps_flushed, pumps_idle}
use Rattle.rpc_crew.proofs.pumping.flush.Goals as goal

pub flush_front-requires-clause-own : goal.flush_front-requires-clause-own
flush_front-requires-clause-own g c = c.requires.pumps.takes.stands.own

pub flush_front-requires-clause-writer : goal.flush_front-requires-clause-writer
flush_front-requires-clause-writer g c = c.requires.pumps.takes.number

pub offer-requires : goal.offer-requires
offer-requires g c = record {
  pumps =
      pumps_flushed g.H.Handler.rule c.args.shared.now c.args.pass.now c.flush_front.new.pass (sent c.args.ring.now) c.in-Some.item c.requires.pumps
      (subst (λ o. Steps g.H.Handler.rule c.args.shared.now c.args.pass.now c.flush_front.new.pass (λ set seat. FlushDid set seat o)) c.in-Some.is c.flush_front.ensures.did);
}

pub rest-requires-clause-pumps : goal.rest-requires-clause-pumps
rest-requires-clause-pumps g c =
    pumps_idle g.H.Handler.rule c.args.shared.now c.args.pass.now c.flush_front.new.pass (sent c.args.ring.now) c.requires.pumps
    (subst (λ o. Steps g.H.Handler.rule c.args.shared.now c.args.pass.now c.flush_front.new.pass (λ set seat. FlushDid set seat o)) c.in-None.is c.flush_front.ensures.did)

pub returns-in-Some-clause-same : goal.returns-in-Some-clause-same
returns-in-Some-clause-same g c = same_trans c.args.pass.now c.flush_front.new.pass c.offer.new.pass c.flush_front.ensures.did.same c.offer.ensures.same

pub returns-in-Some-clause-ticks : goal.returns-in-Some-clause-ticks
returns-in-Some-clause-ticks g c =
    ap moments c.offer.ensures.mine ∙ flush_moments g.H.Handler.rule c.args.shared.now c.args.pass.now c.flush_front.new.pass c.flush_front.result c.flush_front.ensures.did

pub returns-in-None-clause-same : goal.returns-in-None-clause-same
returns-in-None-clause-same g c = same_trans c.args.pass.now c.flush_front.new.pass c.rest.new.pass c.flush_front.ensures.did.same c.rest.ensures.same

pub returns-in-None-clause-ticks : goal.returns-in-None-clause-ticks
returns-in-None-clause-ticks g c =
    ap moments c.rest.ensures.mine ∙ flush_moments g.H.Handler.rule c.args.shared.now c.args.pass.now c.flush_front.new.pass c.flush_front.result c.flush_front.ensures.did
