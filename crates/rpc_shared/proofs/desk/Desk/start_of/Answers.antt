use Rattle.rpc_journal.specs.Ran.{Ran}
use Rattle.rpc_journal.specs.ChangeLaws.{AddsBySeat}
use Rattle.rpc_journal.proofs.ChangeLemmas.{adds_by_seat}
use Rattle.rpc_shared.proofs.Passing.{made_of}
use Rattle.rpc_shared.proofs.desk.Desk.start_of.Goals as goal

pub returns-clause-made : goal.returns-clause-made
returns-clause-made g c =
    let laws : AddsBySeat (Unit {0}) Ran = adds_by_seat in
    made_of _ _ _ _ _ _ c.self.view_is c.start_of.ensures.setting c.start_of.ensures.legal (laws.start_of _ _ _ _ _ _ _ _ c.start_of.ensures.did) c.start_of.ensures.did
