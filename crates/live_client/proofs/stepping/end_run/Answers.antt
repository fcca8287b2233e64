use Rattle.rpc_handlers.specs.HandlerRule.{empty_memo}
use Rattle.live_client.specs.declared.silent.Silent.{Silent}
use Rattle.live_client.proofs.StepsOf.{finish_ends}
use Rattle.live_client.proofs.stepping.end_run.Goals as goal

pub finish-requires-clause-own : goal.finish-requires-clause-own
finish-requires-clause-own g c = c.requires.can.stands.own

pub returns : goal.returns
returns g c = record { ends = finish_ends c.args.table.now c.args.call c.args.pass.now c.finish.new.pass c.requires.can c.args.running (λ (h : Silent). empty_memo) c.finish.result c.requires.seat c.requires.call c.requires.on c.finish.ensures.did }
