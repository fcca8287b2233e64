use Rattle.std.proofs.Common.{rules, sym, ◌∙◌}
use Rattle.demo_services.proofs.FirstStates.{made_first}
use Rattle.demo_services.proofs.maker.DemoMakerMaker.make.Goals as goal

pub returns-in_ok-transfer-in-Some-clause-first : goal.returns-in_ok-transfer-in-Some-clause-first
returns-in_ok-transfer-in-Some-clause-first c =
    let tuning = c.args.self.now.tuning in
    made_first c.in-Some.side c.args.self.now.shelf tuning.window tuning.chunk c.args.m c.in_ok-transfer-in-Some.field-0 (sym c.transfer_side.ensures ∙ c.in-Some.is) (search rules)
