use Rattle.std.proofs.Common.{◌+◌, drop, sym}
use Rattle.link_world.proofs.TurnLemmas.{down_empty, end_kind, goes_down, if_none, none_down, none_up, start_kind, up_empty}
use Rattle.link_world.proofs.turn.next_turn.Goals as goal

pub returns-in-Some-take_for_client-clause-turn : goal.returns-in-Some-take_for_client-clause-turn
returns-in-Some-take_for_client-clause-turn c = λ k w wires course.
    let old = c.args.wires.now in
    let mid = c.take_for_server.new.self in
    let same = none_up k w old mid wires c.in_default.ensures.frames c.in_default.ensures.rest in
    let goes = goes_down k w mid c.take_for_client.new.self c.in-Some-take_for_client.frame same (up_empty k w old wires c.in_default.ensures.none)
    c.in-Some-take_for_client.ensures.frames c.in-Some-take_for_client.ensures.rest in
    (goes.rest, goes.kind, goes.wires)

pub returns-in_ok-command_at-in-None-clause-turn : goal.returns-in_ok-command_at-in-None-clause-turn
returns-in_ok-command_at-in-None-clause-turn c = λ k w wires course.
    let old = c.args.wires.now in
    let mid = c.take_for_server.new.self in
    let same = none_up k w old mid wires c.in_default.ensures.frames c.in_default.ensures.rest in
    let last = c.in_default-take_for_client.ensures in (
      drop (c.args.course.now.started + 1) c.args.commands.now,
      start_kind k w c.args.commands.now c.args.course.now c.in_ok-command_at-in-None.field-0.now course c.in-None.is (sym c.in_ok-command_at-in-None.ensures.command)
          (up_empty k w old wires c.in_default.ensures.none) (down_empty k w mid same last.none),
      none_down k w mid c.take_for_client.new.self same last.frames last.rest,
    )

pub returns-in_err-command_at-in-None-clause-end : goal.returns-in_err-command_at-in-None-clause-end
returns-in_err-command_at-in-None-clause-end c = if_none c.from_residual.result _ (λ k w wires course.
    let old = c.args.wires.now in
    let mid = c.take_for_server.new.self in
    let same = none_up k w old mid wires c.in_default.ensures.frames c.in_default.ensures.rest in
    let last = c.in_default-take_for_client.ensures in (
      end_kind k w c.args.commands.now c.args.course.now course c.in-None.is (sym c.in_err-command_at-in-None.ensures.command)
          (up_empty k w old wires c.in_default.ensures.none) (down_empty k w mid same last.none),
      none_down k w mid c.take_for_client.new.self same last.frames last.rest,
    ))
