use Rattle.std.proofs.Common.{◌≡◌, take}
use Rattle.live_client.specs.Histories.{says_of}
use Rattle.live_client.specs.Lengths.{no_work, work_over}
use Rattle.live_client.proofs.length.committed.Given as goal

abbrev pub invariant-loop-at : goal.invariant-loop-at
invariant-loop-at l = l.work ≡ work_over no_work (says_of (take l.at l.journal.entries))
