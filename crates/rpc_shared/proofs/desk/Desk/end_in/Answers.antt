use Rattle.rpc_journal.specs.ChangeLaws.{AddsBySeat}
use Rattle.rpc_journal.proofs.ChangeLemmas.{adds_by_seat}
use Rattle.rpc_shared.proofs.Passing.{made_of}
use Rattle.rpc_shared.proofs.desk.Desk.end_in.Goals as goal

pub returns : goal.returns
returns g c =
    let laws : AddsBySeat (Unit {0}) (Unit {0}) = adds_by_seat in
    record { made = made_of _ _ _ _ _ _ c.self.view_is c.end_in.ensures.setting c.end_in.ensures.legal (laws.end_in _ _ _ c.end_in.ensures.did) c.end_in.ensures.did }
