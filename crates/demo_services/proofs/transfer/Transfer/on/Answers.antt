use Rattle.std.proofs.Common.{rules, ◌≡◌}
use Rattle.demo_services.proofs.TransferSteps.{completed_answer, completed_after, ended_answer, ended_after, ticked_answer, ticked_after}
use Rattle.demo_services.proofs.transfer.Transfer.on.Goals as goal

pub returns-in_ok-on_end-in-Completion-clause-answer : goal.returns-in_ok-on_end-in-Completion-clause-answer
returns-in_ok-on_end-in-Completion-clause-answer c =
    let same : c.self.inside.sessions ≡ c.args.self.now = search rules in
    completed_answer c.args.self.now c.self.inside.sessions c.args.ev.now same c.in_ok-on_end-in-Completion.field-0 c.ending.result c.in-Completion.is
    c.in_ok-on_end-in-Completion.ensures.outs c.ending.ensures.answer

pub returns-in_ok-on_end-in-Completion-clause-moved : goal.returns-in_ok-on_end-in-Completion-clause-moved
returns-in_ok-on_end-in-Completion-clause-moved c =
    let same : c.self.inside.sessions ≡ c.args.self.now = search rules in
    completed_after c.args.self.now c.self.inside.sessions c.args.ev.now same c.on_end.new.self c.in-Completion.is c.in_ok-on_end-in-Completion.ensures.after

pub returns-in_ok-on_end-in-Ended-clause-answer : goal.returns-in_ok-on_end-in-Ended-clause-answer
returns-in_ok-on_end-in-Ended-clause-answer c =
    let same : c.self-in-Ended.inside.sessions ≡ c.args.self.now = search rules in
    ended_answer c.args.self.now c.self-in-Ended.inside.sessions c.args.ev.now same c.in-Ended.field-0 c.in_ok-on_end-in-Ended.field-0 c.giving.result c.in-Ended.is
    c.in_ok-on_end-in-Ended.ensures.outs c.giving.ensures.answer

pub returns-in_ok-on_end-in-Ended-clause-moved : goal.returns-in_ok-on_end-in-Ended-clause-moved
returns-in_ok-on_end-in-Ended-clause-moved c =
    let same : c.self-in-Ended.inside.sessions ≡ c.args.self.now = search rules in
    ended_after c.args.self.now c.self-in-Ended.inside.sessions c.args.ev.now same c.in-Ended.field-0 c.on_end-in-Ended.new.self c.in-Ended.is
    c.in_ok-on_end-in-Ended.ensures.after

pub returns-in_ok-on_tick-in-Tick-clause-answer : goal.returns-in_ok-on_tick-in-Tick-clause-answer
returns-in_ok-on_tick-in-Tick-clause-answer c =
    let same : c.self-in-Tick.inside.sessions ≡ c.args.self.now = search rules in
    ticked_answer c.args.self.now c.self-in-Tick.inside.sessions c.args.ev.now same c.in-Tick.now c.in_ok-on_tick-in-Tick.field-0 c.giving-in-Tick.result c.in-Tick.is
    c.in_ok-on_tick-in-Tick.ensures.outs c.giving-in-Tick.ensures.answer

pub returns-in_ok-on_tick-in-Tick-clause-moved : goal.returns-in_ok-on_tick-in-Tick-clause-moved
returns-in_ok-on_tick-in-Tick-clause-moved c =
    let same : c.self-in-Tick.inside.sessions ≡ c.args.self.now = search rules in
    ticked_after c.args.self.now c.self-in-Tick.inside.sessions c.args.ev.now same c.in-Tick.now c.on_tick.new.self c.in-Tick.is
    c.in_ok-on_tick-in-Tick.ensures.after
