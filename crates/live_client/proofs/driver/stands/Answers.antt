use Rattle.std.proofs.Common.{sym, ◌∙◌}
use Rattle.rpc_shared.proofs.session.StepLemmas.{look_halted, look_mine}
use Rattle.live_client.specs.Driving.{is_saying}
use Rattle.live_client.specs.Silent.{silent_rule}
use Rattle.live_client.proofs.StepsOf.{look_calm, look_unhalted}
use Rattle.live_client.proofs.driver.stands.Goals as goal

pub returns-then-is_some-clause-calm : goal.returns-then-is_some-clause-calm
returns-then-is_some-clause-calm g c = look_calm c.args.table.now c.args.call c.args.pass.now c.look.new.pass c.look.result is_saying c.look.ensures.did

pub returns-then-is_some-clause-mine : goal.returns-then-is_some-clause-mine
returns-then-is_some-clause-mine g c = look_mine silent_rule c.args.table.now c.args.pass.now c.look.new.pass c.look.result c.look.ensures.did

pub returns-then-is_some-clause-halted : goal.returns-then-is_some-clause-halted
returns-then-is_some-clause-halted g c = look_halted silent_rule c.args.table.now c.args.pass.now c.look.new.pass c.look.result c.look.ensures.did (sym c.is_some.ensures ∙ c.if-is_some.true)

pub returns-clause-calm : goal.returns-clause-calm
returns-clause-calm g c = look_calm c.args.table.now c.args.call c.args.pass.now c.look.new.pass c.look.result is_saying c.look.ensures.did

pub returns-clause-mine : goal.returns-clause-mine
returns-clause-mine g c = look_mine silent_rule c.args.table.now c.args.pass.now c.look.new.pass c.look.result c.look.ensures.did

pub returns-clause-unhalted : goal.returns-clause-unhalted
returns-clause-unhalted g c = look_unhalted c.args.table.now c.args.pass.now c.look.new.pass c.look.result c.look.ensures.did (sym c.is_some.ensures ∙ c.if-is_some.false)
