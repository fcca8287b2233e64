use Rattle.rpc_journal.specs.ChangeLaws.{AddsBySeat}
use Rattle.rpc_journal.proofs.ChangeLemmas.{adds_by_seat}
use Rattle.rpc_shared.proofs.Passing.{made_of}
use Rattle.rpc_shared.proofs.desk.Desk.replace.Goals as goal

pub returns-clause-made : goal.returns-clause-made
returns-clause-made g c =
    let laws : AddsBySeat _ (Unit {0}) = adds_by_seat in
    made_of _ _ _ _ _ _ c.self.view_is c.replace.ensures.setting c.replace.ensures.legal (laws.replace _ _ _ _ _ _ _ c.replace.ensures.did) (c.replace.ensures.did, c.replace.ensures.state)
