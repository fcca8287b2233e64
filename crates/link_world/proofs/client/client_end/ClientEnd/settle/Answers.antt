use Rattle.std.proofs.Common.{arith}
use Rattle.link_world.proofs.client.IdleLemmas.{few_at_rest}
use Rattle.link_world.proofs.client.client_end.ClientEnd.settle.Goals as goal

pub work-requires-clause-few : goal.work-requires-clause-few
work-requires-clause-few c = omega (arith, few_at_rest c.args.self.now.end.serving c.requires.rest.resting.over.none_waits)
