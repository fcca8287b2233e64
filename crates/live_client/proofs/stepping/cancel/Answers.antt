use Rattle.live_client.proofs.StepsOf.{cuts_of}
use Rattle.live_client.proofs.stepping.cancel.Goals as goal

pub cancel_wait-status-requires-clause-own : goal.cancel_wait-status-requires-clause-own
cancel_wait-status-requires-clause-own g c = c.requires.can.stands.own

pub returns : goal.returns
returns g c = record {
  cuts =
      cuts_of c.args.table.now c.args.call c.cancel_wait-status.result c.args.pass.now c.cancel_wait-status.new.pass c.look.new.pass c.requires.can c.look.result c.cancel_wait-status.ensures.did c.look.ensures.did;
}
