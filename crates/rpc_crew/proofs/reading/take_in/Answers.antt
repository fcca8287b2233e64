use Rattle.std.proofs.Common.{Ok, refl, ap, ◌∙◌}
use Rattle.turn_cell.proofs.Calls.{same_self, same_trans}
use Rattle.rpc_crew.proofs.reading.take_in.Goals as goal

pub loop-init : goal.loop-init
loop-init g c = record { reader = c.requires.reader; same = same_self c.args.pass.now; kept = refl }

pub loop-preserved : goal.loop-preserved
loop-preserved g c = record {
  reader = c.try_in.ensures.reader;
  same = same_trans c.args.pass.now c.loop.pass c.try_in.new.pass c.loop.invariant.same c.try_in.ensures.same;
  kept = c.try_in.ensures.kept (c.in_ok-try_in.was ∙ ap Ok c.if-branch.false) ∙ c.loop.invariant.kept;
}
