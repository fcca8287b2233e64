use Rattle.rpc_journal.specs.ChangeLaws.{AddsBySeat}
use Rattle.rpc_journal.proofs.ChangeLemmas.{adds_by_seat}
use Rattle.rpc_shared.proofs.Passing.{made_of}
use Rattle.rpc_shared.proofs.desk.Desk.finish.Goals as goal

pub returns-clause-made : goal.returns-clause-made
returns-clause-made g c =
    let laws : AddsBySeat _ (Unit {0}) = adds_by_seat in
    let did = c.finish.ensures.did in
    (did.0, did.1, made_of _ _ _ _ _ _ c.self.view_is c.finish.ensures.setting c.finish.ensures.legal (laws.finish _ _ _ _ _ _ _ did.2) did.2)
