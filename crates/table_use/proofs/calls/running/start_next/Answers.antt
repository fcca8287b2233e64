use Rattle.rpc_journal.specs.Ran.{run_in}
use Rattle.rpc_calls.proofs.RunsStand.{run_started}
use Rattle.table_use.proofs.calls.running.start_next.Goals as goal

pub returns-clause-on : goal.returns-clause-on
returns-clause-on g c =
    run_started run_in _ _ _ _ c.in-Ok-Some.field-0 c.in-Ok-Some.running _ _ c.in-Ok-Some.field-0-is c.start.ensures.setting c.in-Ok-Some.ensures.did.begins
