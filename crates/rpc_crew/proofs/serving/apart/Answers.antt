use Rattle.std.proofs.Common.{arith}
use Rattle.rpc_crew.proofs.WorkerLists.{taken_apart}
use Rattle.rpc_crew.proofs.serving.apart.Goals as goal

pub returns-clause-parts : goal.returns-clause-parts
returns-clause-parts g c = taken_apart
    c.args.passes.items
    c.remove-pumper.new.self.items
    c.remove-reader.new.self.items
    c.pop.new.self.items
    c.remove-pumper.result
    c.remove-reader.result
    c.in-Some.writer
    (omega (arith, c.requires, c.args.passes.ok))
    c.remove-pumper.ensures.value
    c.remove-pumper.ensures.items
    c.remove-reader.ensures.value
    c.remove-reader.ensures.items
    c.in-Some.ensures.items
