use Rattle.std.proofs.Common.{length, ap, sym, arith}
use Rattle.link_world.proofs.FitLemmas.{found_small}
use Rattle.link_world.proofs.client.starting.begin_write.Goals as goal

pub new-task-requires-clause-size : goal.new-task-requires-clause-size
new-task-requires-clause-size c =
    omega (arith, ap length c.in_ok-clone.ensures.cases, found_small c.args.resource c.in-Some.bytes.now c.args.store.now.full (sym c.in-Some.ensures) c.requires.small)
