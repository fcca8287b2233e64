use Rattle.std.proofs.Common.{Ok, refl, ap, ◌∙◌}
use Rattle.turn_cell.proofs.Calls.{same_self, same_trans}
use Rattle.live_client.proofs.WakeLemmas.{rang_more, rang_none}
use Rattle.live_client.proofs.reading.take_in.Goals as goal

pub loop-init : goal.loop-init
loop-init g c = record { reader = c.requires.reader; same = same_self c.args.pass.now; kept = refl; bell = refl; rung = rang_none c.args.bell.now c.args.pass.now c.args.pass.now refl }

pub loop-preserved : goal.loop-preserved
loop-preserved g c = record {
  reader = c.try_in.ensures.reader;
  same = same_trans c.args.pass.now c.loop.pass c.try_in.new.pass c.loop.invariant.same c.try_in.ensures.same;
  bell = c.try_in.ensures.bell ∙ c.loop.invariant.bell;
  rung = rang_more 0 c.args.bell.now c.loop.bell c.try_in.new.bell c.args.pass.now c.loop.pass c.try_in.new.pass c.loop.invariant.rung c.try_in.ensures.rung;
  kept = c.try_in.ensures.kept (c.in_ok-try_in.was ∙ ap Ok c.if-branch.false) ∙ c.loop.invariant.kept;
}

pub try_in-requires-clause-bell : goal.try_in-requires-clause-bell
try_in-requires-clause-bell g c = record { own = c.loop.invariant.bell ∙ c.requires.bell.own; some = c.requires.bell.some }

pub returns-in_err-try_in-clause-bell : goal.returns-in_err-try_in-clause-bell
returns-in_err-try_in-clause-bell g c = c.try_in.ensures.bell ∙ c.loop.invariant.bell

pub returns-then-branch-clause-bell : goal.returns-then-branch-clause-bell
returns-then-branch-clause-bell g c = c.try_in.ensures.bell ∙ c.loop.invariant.bell

pub returns-in_err-try_in-clause-rung : goal.returns-in_err-try_in-clause-rung
returns-in_err-try_in-clause-rung g c =
    rang_more 0 c.args.bell.now c.loop.bell c.try_in.new.bell c.args.pass.now c.loop.pass c.try_in.new.pass c.loop.invariant.rung c.try_in.ensures.rung

pub returns-then-branch-clause-rung : goal.returns-then-branch-clause-rung
returns-then-branch-clause-rung g c =
    rang_more 0 c.args.bell.now c.loop.bell c.try_in.new.bell c.args.pass.now c.loop.pass c.try_in.new.pass c.loop.invariant.rung c.try_in.ensures.rung
