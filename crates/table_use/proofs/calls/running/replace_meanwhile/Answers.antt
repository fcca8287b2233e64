use Rattle.std.proofs.Common.{arith}
use Rattle.rpc_journal.specs.ChangeLaws.{AddsBySeat}
use Rattle.rpc_journal.proofs.ChangeLemmas.{adds_by_seat}
use Rattle.rpc_calls.proofs.RunsStand.{run_goes_on}
use Rattle.table_use.proofs.calls.running.replace_meanwhile.Goals as goal

pub returns-clause-on : goal.returns-clause-on
returns-clause-on c =
    let laws : AddsBySeat _ (Unit {0}) = adds_by_seat in
    run_goes_on _ _ _ 3 c.args.running.now.run _ _ c.replace.ensures.setting c.replace.ensures.legal
    (laws.replace _ 3 _ _ _ _ _ c.replace.ensures.did) (λ same. absurd (omega (arith, same, c.requires.seat))) c.requires.on
