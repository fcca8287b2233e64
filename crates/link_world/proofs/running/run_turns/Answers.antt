use Rattle.std.proofs.Common.{◌*◌, refl}
use Rattle.link_laws.specs.declared.world.limits.TheConstants.{TURN_OF_TIME}
use Rattle.link_world.specs.Running.{setup_by}
use Rattle.link_world.proofs.FitLemmas.{starting_fits}
use Rattle.link_world.proofs.RunLemmas.{can_turn, ends_with, goes_on, past_frames}
use Rattle.link_world.proofs.StopLemmas.{fewer_told, past_journal, stopped_so}
use Rattle.link_world.proofs.running.run_turns.Goals as goal

pub returns-then-course-ge-MAX_DELIVERIES-clause-frames : goal.returns-then-course-ge-MAX_DELIVERIES-clause-frames
returns-then-course-ge-MAX_DELIVERIES-clause-frames c = λ is.
    let k = setup_by c.args.server.now c.args.client.now c.args.wires.now c.args.tuning in
    let comes = c.turns.invariant.comes in
    past_frames k c.args.commands.now c.turns.server c.turns.client c.turns.wires c.next_turn.new.wires c.turns.course c.in-Some.turn comes
    (c.in-Some.ensures.turn k comes.now comes.shows.wires comes.shows.course) c.if-course-ge-MAX_DELIVERIES.true

pub make_turn-requires-clause-can : goal.make_turn-requires-clause-can
make_turn-requires-clause-can c =
    let k = setup_by c.args.server.now c.args.client.now c.args.wires.now c.args.tuning in
    let comes = c.turns.invariant.comes in
    can_turn k c.args.commands.now comes.now c.next_turn.new.wires c.turns.client c.turns.course (TURN_OF_TIME * c.turns.course.times) c.in-Some.turn c.requires.commands
    c.in-Some.ensures.next (c.in-Some.ensures.turn k comes.now comes.shows.wires comes.shows.course) c.turns.invariant.stands.attends c.turns.invariant.unended
    (starting_fits k c.args.commands.now c.requires.small c.requires.commands c.requires.few c.turns.server c.turns.client c.turns.wires c.turns.course comes)

pub turns-smaller : goal.turns-smaller
turns-smaller c =
    let k = setup_by c.args.server.now c.args.client.now c.args.wires.now c.args.tuning in
    let comes = c.turns.invariant.comes in
    (goes_on k c.args.commands.now c.turns.server c.make_turn.new.server c.turns.client c.make_turn.new.client c.turns.wires c.make_turn.new.wires c.turns.course c.make_turn.new.course
    (TURN_OF_TIME * c.turns.course.times) comes c.turns.invariant.stands.attends c.if-course-ge-MAX_DELIVERIES.false
    (c.in_ok-make_turn.ensures.turn k c.args.commands.now comes.now comes.shows.server comes.shows.client comes.shows.course (record { window = refl; chunk = refl })
    (c.in-Some.ensures.turn k comes.now comes.shows.wires comes.shows.course))).smaller

pub turns-preserved : goal.turns-preserved
turns-preserved c =
    let k = setup_by c.args.server.now c.args.client.now c.args.wires.now c.args.tuning in
    let comes = c.turns.invariant.comes in
    record {
      stands = c.in_ok-make_turn.ensures.stands;
      unended = c.in_ok-make_turn.ensures.open;
      comes = (goes_on k c.args.commands.now c.turns.server c.make_turn.new.server c.turns.client c.make_turn.new.client c.turns.wires c.make_turn.new.wires c.turns.course c.make_turn.new.course
          (TURN_OF_TIME * c.turns.course.times) comes c.turns.invariant.stands.attends c.if-course-ge-MAX_DELIVERIES.false
          (c.in_ok-make_turn.ensures.turn k c.args.commands.now comes.now comes.shows.server comes.shows.client comes.shows.course (record { window = refl; chunk = refl })
          (c.in-Some.ensures.turn k comes.now comes.shows.wires comes.shows.course))).comes;
    }

pub returns-clause-ends : goal.returns-clause-ends
returns-clause-ends c =
    let k = setup_by c.args.server.now c.args.client.now c.args.wires.now c.args.tuning in
    let comes = c.turns.invariant.comes in
    ends_with k c.args.commands.now c.turns.server c.turns.client c.turns.wires c.next_turn.new.wires c.turns.course comes
    (c.in_default.ensures.end k comes.now comes.shows.wires comes.shows.course)

pub returns-in_err-make_turn-clause-journal : goal.returns-in_err-make_turn-clause-journal
returns-in_err-make_turn-clause-journal c = λ is.
    let k = setup_by c.args.server.now c.args.client.now c.args.wires.now c.args.tuning in
    let comes = c.turns.invariant.comes in
    past_journal k c.args.commands.now c.turns.server c.turns.client c.turns.wires c.turns.course comes
    (c.make_turn.ensures.journal (stopped_so c.from_residual.result c.make_turn.result c.in_err-make_turn.field-0.0 c.in_err-make_turn.was c.from_residual.ensures is)
    k c.args.commands.now comes.now comes.shows.server comes.shows.client comes.shows.course (record { window = refl; chunk = refl })
    (c.in-Some.ensures.turn k comes.now comes.shows.wires comes.shows.course))
    (fewer_told k c.args.commands.now c.turns.server c.turns.client c.turns.wires c.turns.course comes c.if-course-ge-MAX_DELIVERIES.false)
