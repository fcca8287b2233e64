use Rattle.rpc_shared.proofs.session.StepLemmas.{look_settled}
use Rattle.live_client.specs.Driving.{is_running}
use Rattle.live_client.specs.Silent.{silent_rule}
use Rattle.live_client.proofs.StepsOf.{look_calm}
use Rattle.live_client.proofs.driver.is_done.Goals as goal

pub returns-clause-calm : goal.returns-clause-calm
returns-clause-calm g c = look_calm c.args.table.now c.args.call c.args.pass.now c.look.new.pass c.look.result is_running c.look.ensures.did

pub returns-clause-settled : goal.returns-clause-settled
returns-clause-settled g c = λ is. look_settled silent_rule c.args.table.now c.args.pass.now c.look.new.pass c.look.result c.look.ensures.did is
