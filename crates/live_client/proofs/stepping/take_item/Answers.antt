use Rattle.live_client.proofs.StepsOf.{take_none, take_some}
use Rattle.live_client.proofs.stepping.take_item.Goals as goal

pub flush_front-requires-clause-own : goal.flush_front-requires-clause-own
flush_front-requires-clause-own g c = c.requires.can.stands.own

pub returns-clause-item : goal.returns-clause-item
returns-clause-item g c = take_some c.args.table.now c.args.call c.args.pass.now c.flush_front.new.pass c.requires.can c.flush_front.result c.flush_front.ensures.did

pub returns-clause-none : goal.returns-clause-none
returns-clause-none g c = take_none c.args.table.now c.args.call c.args.pass.now c.flush_front.new.pass c.requires.can c.flush_front.result c.flush_front.ensures.did
