use Rattle.link_world.proofs.EndLemmas.{released_all, released_none}
use Rattle.link_world.proofs.ending.release.Goals as goal

pub returns-in_ok-release : goal.returns-in_ok-release
returns-in_ok-release c = λ k w wires.
    released_all k w c.args.wires.now c.release.new.self c.is_still.result wires (c.is_still.ensures k w wires) c.if-is_still.true c.in_ok-release.ensures

pub returns-else-is_still : goal.returns-else-is_still
returns-else-is_still c = λ k w wires.
    released_none k w c.args.wires.now c.is_still.result wires (c.is_still.ensures k w wires) c.if-is_still.false
