use Rattle.std.proofs.Common.{◌++◌, sym, subst}
use Rattle.live_client.specs.asks.Tasks.{TaskRan}
use Rattle.live_client.specs.asks.Telling.{Tells}
use Rattle.transfer_client.specs.Tasks.{PollsRead, Reads}
use Rattle.rpc_shared.specs.session.Sessions.{is_halted}
use Rattle.live_client.specs.Ask.{live_setting, read_method}
use Rattle.live_client.specs.Histories.{events_run}
use Rattle.live_client.proofs.AskLemmas.{reads_is, transfer_over, transfer_ran}
use Rattle.live_client.proofs.transfers.get.Goals as goal

pub returns-clause-asked : goal.returns-clause-asked
returns-clause-asked g c =
    let task = c.new-task.result in
    let errand = c.in_ok-run.field-0.errand in
    let h = c.in_ok-run.field-0.run.journal.entries in
    let start = g.C.Clock.last c.args.clock.now in
    let upto = g.C.Clock.last c.transfer.new.clock in
    let told = c.in_ok-run.ensures.told in
    let same = c.end.ensures.told told.all start upto told.cut (events_run (live_setting read_method) h 0) (told.outs ++ told.lost) told.ended
    (subst (λ x. Tells PollsRead x errand.tasks errand.ear errand.short.value told.all start upto told.cut (events_run (live_setting read_method) h 0) (told.outs ++ told.lost) told.ended) (sym c.in_ok-run.ensures.first) told.heard) in
    transfer_ran read_method PollsRead task errand.tasks errand.ear errand.short.value start upto h told c.in_ok-run.ensures.whole c.task.result.now c.task.ensures c.end.result same _
    (λ outs ran. (subst (λ (x : Reads). TaskRan PollsRead x start upto (is_halted (live_setting read_method) h) (events_run (live_setting read_method) h 0) outs c.task.result.now c.end.result) (reads_is task _ _ c.new-task.ensures.session c.new-task.ensures.download) ran, c.offset.ensures, c.committed.ensures, c.new.ensures.items))

pub returns-clause-ended : goal.returns-clause-ended
returns-clause-ended g c =
    let task = c.new-task.result in
    let errand = c.in_ok-run.field-0.errand in
    let h = c.in_ok-run.field-0.run.journal.entries in
    let start = g.C.Clock.last c.args.clock.now in
    let upto = g.C.Clock.last c.transfer.new.clock in
    let told = c.in_ok-run.ensures.told in
    let same = c.end.ensures.told told.all start upto told.cut (events_run (live_setting read_method) h 0) (told.outs ++ told.lost) told.ended
    (subst (λ x. Tells PollsRead x errand.tasks errand.ear errand.short.value told.all start upto told.cut (events_run (live_setting read_method) h 0) (told.outs ++ told.lost) told.ended) (sym c.in_ok-run.ensures.first) told.heard) in
    transfer_over read_method PollsRead task errand.tasks errand.ear errand.short.value start upto h told c.end.result same
