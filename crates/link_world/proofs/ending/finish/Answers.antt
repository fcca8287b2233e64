use Rattle.link_world.proofs.server.OutLemmas.{on_ok_one}
use Rattle.link_laws.specs.world.Lines.{with_released}
use Rattle.link_world.proofs.EndLemmas.{finished_so, rewired}
use Rattle.link_world.proofs.ending.finish.Goals as goal

pub returns-clause-shows : goal.returns-clause-shows
returns-clause-shows c =
    let s = c.args.server.now in
    let client = c.args.client.now in
    let y = c.release.new.wires in
    on_ok_one c.end_command.result
    (λ ended k commands w shows.
    finished_so k commands s client y c.end_command.new.course w
    (ended k commands (with_released w)
    (rewired k commands s client c.args.wires.now y c.args.course.now w shows (c.in_ok-release.ensures k w shows.wires))))
    c.end_command.ensures.shows
