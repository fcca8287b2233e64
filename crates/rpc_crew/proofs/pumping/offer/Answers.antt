use Rattle.std.proofs.Common.{Some, ap}
use Rattle.rtrb.specs.Ring.{sent}
use Rattle.rpc_journal.specs.Items.{flushes}
use Rattle.turn_cell.proofs.Calls.{same_self}
use Rattle.rpc_shared.specs.session.Crew.{is_pumps}
use Rattle.rpc_shared.specs.session.Ring.{Pumps}
use Rattle.rpc_crew.proofs.PumpLemmas.{pump_halted, pumps_kept, pumps_on, pumps_put}
use Rattle.rpc_shared.proofs.session.ReaderLemmas.{on_err_map}
use Rattle.rpc_crew.proofs.RingLemmas.{if_ok_map}
use Rattle.rpc_shared.proofs.session.StepLemmas.{look_adds, look_halted, look_mine}
use Rattle.rpc_crew.proofs.pumping.offer.Goals as goal

pub returns-in-Ok-clause-pumps : goal.returns-in-Ok-clause-pumps
returns-in-Ok-clause-pumps g c =
    pumps_put g.H.Handler.rule c.args.shared.now c.args.pass.now (sent c.args.ring.now) (sent c.push.new.self) c.args.parcel c.requires.pumps c.in-Ok.ensures.ok.0

pub returns-in-Ok-clause-same : goal.returns-in-Ok-clause-same
returns-in-Ok-clause-same g c = same_self c.args.pass.now

pub returns-in-Err-clause-mine : goal.returns-in-Err-clause-mine
returns-in-Err-clause-mine g c = look_mine g.H.Handler.rule c.args.shared.now c.args.pass.now c.look.new.pass c.look.result c.look.ensures.did

pub returns-in-Err-clause-pumps : goal.returns-in-Err-clause-pumps
returns-in-Err-clause-pumps g c =
    let rule = g.H.Handler.rule in
    let r = c.args.shared.now in
    let q = c.look.new.pass in
    let did = c.look.ensures.did in
    let now : Pumps rule r (sent c.args.ring.now) (Some c.args.parcel) q =
    pumps_on rule r c.args.pass.now q (sent c.args.ring.now) (Some c.args.parcel) c.requires.pumps (look_adds rule r c.args.pass.now q c.look.result did is_pumps)
    (ap flushes (look_mine rule r c.args.pass.now q c.look.result did)) in
    if_ok_map _ _ c.keep.result
    (λ hand kept. pumps_kept rule r q (sent c.args.ring.now) (sent c.push.new.self) c.args.parcel hand now c.in-Err.ensures.full.1 (kept c.args.parcel c.in-Err.ensures.full.0))
    c.keep.ensures.kept

pub returns-in-Err-clause-ended : goal.returns-in-Err-clause-ended
returns-in-Err-clause-ended g c =
    let rule = g.H.Handler.rule in
    let r = c.args.shared.now in
    let q = c.look.new.pass in
    let did = c.look.ensures.did in
    let now : Pumps rule r (sent c.args.ring.now) (Some c.args.parcel) q =
    pumps_on rule r c.args.pass.now q (sent c.args.ring.now) (Some c.args.parcel) c.requires.pumps (look_adds rule r c.args.pass.now q c.look.result did is_pumps)
    (ap flushes (look_mine rule r c.args.pass.now q c.look.result did)) in
    on_err_map c.keep.result
    (λ halted. pump_halted rule r q (sent c.args.ring.now) (sent c.push.new.self) (Some c.args.parcel) now c.in-Err.ensures.full.1 (look_halted rule r c.args.pass.now q c.look.result did halted))
    c.keep.ensures.halted
