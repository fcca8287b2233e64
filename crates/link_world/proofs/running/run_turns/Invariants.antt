use Rattle.link_world.specs.Running.{ComesTo, setup_by}
use Rattle.link_world.specs.Showing.{IsOpen, Stands}
use Rattle.link_world.proofs.RunLemmas.{left_size}
use Rattle.link_world.proofs.running.run_turns.Given as goal

abbrev pub invariant-turns : goal.invariant-turns
invariant-turns l = record {
  stands : Stands l.server l.client l.course;
  unended : IsOpen l.client l.course.under;
  comes : ComesTo (setup_by l.fn.server l.fn.client l.fn.wires l.tuning) l.commands l.server l.client l.wires l.course;
}

abbrev pub decreases-turns : goal.decreases-turns
decreases-turns l = left_size l.commands l.course l.server
