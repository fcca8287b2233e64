use Rattle.std.proofs.Common.{arith}
use Rattle.rpc_journal.specs.ChangeLaws.{AddsBySeat}
use Rattle.rpc_journal.proofs.ChangeLemmas.{adds_by_seat}
use Rattle.rpc_calls.proofs.RunsStand.{run_goes_on}
use Rattle.table_use.proofs.calls.running.cancel_meanwhile.Goals as goal

pub returns-clause-on : goal.returns-clause-on
returns-clause-on g c =
    let laws : AddsBySeat (Unit {0}) (Unit {0}) = adds_by_seat in
    run_goes_on _ _ _ 3 c.args.running.now.run _ _ c.cancel.ensures.setting c.cancel.ensures.legal
    (laws.cancel _ 3 _ _ _ _ c.cancel.ensures.did) (λ same. absurd (omega (arith, same, c.requires.seat))) c.requires.on
