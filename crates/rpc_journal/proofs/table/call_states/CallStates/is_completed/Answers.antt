use Rattle.rpc_journal.proofs.PlaceLemmas.{get_read}
use Rattle.rpc_journal.specs.table.Agrees.{IsOpenAt}
use Rattle.rpc_journal.proofs.table.call_states.CallStates.is_completed.Goals as goal

pub returns-in-Some : goal.returns-in-Some
returns-in-Some c = λ ds agrees.
    let opened : IsOpenAt c.args.self.now.calls.items c.in-Some.c = rw c.in-Some.is at c.requires in
    let there = get_read c.args.self.now.calls.items c.in-Some.c c.index.result.now opened.within c.index.ensures in
    rw c.in-Some.is ((agrees.calls.each c.in-Some.c c.index.result.now there).completed)
