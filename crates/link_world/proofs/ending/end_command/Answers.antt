use Rattle.std.proofs.Common.{◌∙◌, None, ap, subst, sym}
use Rattle.link_world.specs.client.Underway.{under_of, under_seen}
use Rattle.link_laws.specs.world.Lines.{command_ended}
use Rattle.link_world.specs.Showing.{Shows}
use Rattle.link_world.proofs.EndLemmas.{ended_so, unended_so}
use Rattle.link_world.proofs.ending.end_command.Goals as goal

pub returns-in_ok-push-clause-shows : goal.returns-in_ok-push-clause-shows
returns-in_ok-push-clause-shows c = λ k commands w shows.
    let s = c.args.server.now in
    let client = c.args.client.now in
    let x = c.args.wires.now in
    let d = c.args.course.now in
    let told = c.in-Some-2.line in
    let under = sym shows.course.under ∙ ap under_seen c.in-Some.is in
    let line = sym c.in-Some-2.is ∙ c.in_ok-line.ensures.line k w shows.server shows.client (c.is_still.ensures k w shows.wires) in
    subst (λ lines. Shows k commands s client x (record d { under = None; lines = lines }) (command_ended k w w.under)) (sym c.in_ok-push.ensures.ok)
    (ended_so k commands s client x d w shows (under_of c.in-Some.under) told under line)

pub returns-in_default-2-clause-shows : goal.returns-in_default-2-clause-shows
returns-in_default-2-clause-shows c = λ k commands w shows.
    let s = c.args.server.now in
    let client = c.args.client.now in
    let x = c.args.wires.now in
    let d = c.args.course.now in
    let under = sym shows.course.under ∙ ap under_seen c.in-Some.is in
    let line = sym c.in_default-2.is ∙ c.in_ok-line.ensures.line k w shows.server shows.client (c.is_still.ensures k w shows.wires) in
    unended_so k commands s client x d w shows (under_of c.in-Some.under) under line
