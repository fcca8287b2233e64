use Rattle.std.proofs.Common.{refl}
use Rattle.rpc_journal.proofs.ChangeLemmas.{begun_runs}
use Rattle.ends_use.proofs.reports.run_ready.Goals as goal

pub finish-requires : goal.finish-requires
finish-requires g c =
    let begins = rw c.in-Some.is at c.in_ok-run.ensures.did.begins in
    record {
      on = rw (c.start.ensures.setting, c.in-Ok.ensures.answer) (begun_runs _ _ _ _ _ _ begins);
      answered = rw c.in-Ok.ensures.answer refl;
    }
