use Rattle.std.proofs.Common.{false, ◌∙◌}
use Rattle.rpc_shared.proofs.session.PassLemmas.{adds_trans, adds_weaker}
use Rattle.live_client.specs.Driving.{is_cutting, is_running, is_talking}
use Rattle.live_client.specs.asks.Telling.{said_all, unknown}
use Rattle.live_client.specs.Silent.{silent_rule}
use Rattle.live_client.proofs.StepsOf.{can_on}
use Rattle.live_client.proofs.WorkLemmas.{cut_talks, run_talks}
use Rattle.live_client.proofs.driver.listen.Goals as goal

pub cut_one-requires-clause-can : goal.cut_one-requires-clause-can
cut_one-requires-clause-can g c = can_on c.args.table.now c.args.call is_running c.args.pass.now c.run_one.new.pass c.requires.can c.run_one.ensures.adds

pub returns-in-Ok-clause-adds : goal.returns-in-Ok-clause-adds
returns-in-Ok-clause-adds g c =
    adds_trans silent_rule c.args.table.now is_talking c.args.pass.now c.run_one.new.pass c.cut_one.new.pass
    (adds_weaker silent_rule c.args.table.now is_running is_talking c.args.pass.now c.run_one.new.pass run_talks c.run_one.ensures.adds)
    (adds_weaker silent_rule c.args.table.now is_cutting is_talking c.run_one.new.pass c.cut_one.new.pass cut_talks c.cut_one.ensures.adds)

pub returns-in-Ok-clause-talks : goal.returns-in-Ok-clause-talks
returns-in-Ok-clause-talks g c = λ opening start upto items t. c.cut_one.ensures.talks opening unknown start upto items (c.run_one.ensures.talks opening false start upto items t)

pub returns-in-Ok-clause-none : goal.returns-in-Ok-clause-none
returns-in-Ok-clause-none g c = λ is opening start upto items t. c.cut_one.ensures.talks opening said_all start upto items (c.run_one.ensures.none (c.in-Ok.is ∙ is) opening false start upto items t)

pub returns-in-Ok-clause-fits : goal.returns-in-Ok-clause-fits
returns-in-Ok-clause-fits g c = λ tower fits. c.cut_one.ensures.fits tower (c.run_one.ensures.fits tower fits)

pub returns-in-Ok-clause-moment : goal.returns-in-Ok-clause-moment
returns-in-Ok-clause-moment g c = c.cut_one.ensures.moment ∙ c.run_one.ensures.moment

pub returns-in-Err-clause-adds : goal.returns-in-Err-clause-adds
returns-in-Err-clause-adds g c = adds_weaker silent_rule c.args.table.now is_running is_talking c.args.pass.now c.run_one.new.pass run_talks c.run_one.ensures.adds

pub returns-in-Err-clause-talks : goal.returns-in-Err-clause-talks
returns-in-Err-clause-talks g c = λ opening start upto items t. c.run_one.ensures.talks opening false start upto items t

pub returns-in-Err-clause-uncut : goal.returns-in-Err-clause-uncut
returns-in-Err-clause-uncut g c = c.in-Err.ensures.uncut c.requires.uncut
