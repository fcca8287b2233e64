use Rattle.std.proofs.Common.{None, refl, sym, ap, subst, ◌∙◌}
use Rattle.rtrb.specs.Ring.{sent}
use Rattle.rpc_journal.specs.Items.{flushes}
use Rattle.rpc_shared.specs.session.Crew.{is_pumps}
use Rattle.rpc_shared.specs.session.Ring.{Pumps}
use Rattle.rpc_crew.proofs.PumpLemmas.{pump_halted, pump_settled, pumps_on}
use Rattle.rpc_crew.proofs.RingLemmas.{ring_self}
use Rattle.rpc_shared.proofs.session.StepLemmas.{look_adds, look_halted, look_mine, look_settled}
use Rattle.rpc_crew.proofs.pumping.rest.Goals as goal

pub returns-then-is_some-clause-ended : goal.returns-then-is_some-clause-ended
returns-then-is_some-clause-ended g c =
    let rule = g.H.Handler.rule in
    let r = c.args.shared.now in
    let p = c.args.pass.now in
    let q = c.look-look.new.pass in
    let look = c.look-look.result in
    let did = c.look-look.ensures.did in
    let now : Pumps rule r (sent c.args.ring.now) None q = pumps_on rule r p q (sent c.args.ring.now) None c.requires.pumps (look_adds rule r p q look did is_pumps) (ap flushes (look_mine rule r p q look did)) in
    pump_halted rule r q (sent c.args.ring.now) (sent c.args.ring.now) None now refl (look_halted rule r p q look did (sym c.is_some.ensures ∙ c.if-is_some.true))

pub returns-then-is_some-clause-ring : goal.returns-then-is_some-clause-ring
returns-then-is_some-clause-ring g c = ring_self c.args.ring.now

pub returns-then-is_some-clause-mine : goal.returns-then-is_some-clause-mine
returns-then-is_some-clause-mine g c = look_mine g.H.Handler.rule c.args.shared.now c.args.pass.now c.look-look.new.pass c.look-look.result c.look-look.ensures.did

pub returns-then-close-clause-ended : goal.returns-then-close-clause-ended
returns-then-close-clause-ended g c =
    let rule = g.H.Handler.rule in
    let r = c.args.shared.now in
    let p = c.args.pass.now in
    let q = c.look-look.new.pass in
    let look = c.look-look.result in
    let did = c.look-look.ensures.did in
    let now : Pumps rule r (sent c.args.ring.now) None q = pumps_on rule r p q (sent c.args.ring.now) None c.requires.pumps (look_adds rule r p q look did is_pumps) (ap flushes (look_mine rule r p q look did)) in
    pump_settled rule r q (sent c.args.ring.now) (sent c.close.new.ring) now (c.close.ensures.put c.if-close.true) (look_settled rule r p q look did c.if-look.true)

pub returns-then-close-clause-mine : goal.returns-then-close-clause-mine
returns-then-close-clause-mine g c = look_mine g.H.Handler.rule c.args.shared.now c.args.pass.now c.look-look.new.pass c.look-look.result c.look-look.ensures.did

pub returns-then-look-clause-mine : goal.returns-then-look-clause-mine
returns-then-look-clause-mine g c = look_mine g.H.Handler.rule c.args.shared.now c.args.pass.now c.look-look.new.pass c.look-look.result c.look-look.ensures.did

pub returns-then-look-clause-pumps : goal.returns-then-look-clause-pumps
returns-then-look-clause-pumps g c =
    let rule = g.H.Handler.rule in
    let r = c.args.shared.now in
    let p = c.args.pass.now in
    let q = c.look-look.new.pass in
    let look = c.look-look.result in
    let did = c.look-look.ensures.did in
    let now : Pumps rule r (sent c.args.ring.now) None q = pumps_on rule r p q (sent c.args.ring.now) None c.requires.pumps (look_adds rule r p q look did is_pumps) (ap flushes (look_mine rule r p q look did)) in
    subst (λ put. Pumps rule r put None q) (sym (c.close.ensures.full c.if-close.false)) now

pub returns-clause-pumps : goal.returns-clause-pumps
returns-clause-pumps g c =
    let rule = g.H.Handler.rule in
    let r = c.args.shared.now in
    let p = c.args.pass.now in
    let q = c.look-look.new.pass in
    let look = c.look-look.result in
    let did = c.look-look.ensures.did in
    pumps_on rule r p q (sent c.args.ring.now) None c.requires.pumps (look_adds rule r p q look did is_pumps) (ap flushes (look_mine rule r p q look did))

pub returns-clause-mine : goal.returns-clause-mine
returns-clause-mine g c = look_mine g.H.Handler.rule c.args.shared.now c.args.pass.now c.look-look.new.pass c.look-look.result c.look-look.ensures.did
