use Rattle.std.proofs.Common.{◌++◌, sym, subst}
use Rattle.live_client.specs.asks.Tasks.{TaskRan}
use Rattle.live_client.specs.asks.Telling.{Tells}
use Rattle.transfer_client.specs.Tasks.{PollsWrite, Writes}
use Rattle.rpc_shared.specs.session.Sessions.{is_halted}
use Rattle.live_client.specs.Ask.{live_setting, write_method}
use Rattle.live_client.specs.Histories.{events_run}
use Rattle.live_client.proofs.AskLemmas.{writes_is, transfer_over, transfer_ran}
use Rattle.live_client.proofs.transfers.put.Goals as goal

pub returns-clause-asked : goal.returns-clause-asked
returns-clause-asked g c =
    let task = c.new-task.result in
    let errand = c.in_ok-run.field-0.errand in
    let h = c.in_ok-run.field-0.run.journal.entries in
    let start = g.C.Clock.last c.args.clock.now in
    let upto = g.C.Clock.last c.transfer.new.clock in
    let told = c.in_ok-run.ensures.told in
    let same = c.end-ended.ensures.told told.all start upto told.cut (events_run (live_setting write_method) h 0) (told.outs ++ told.lost) told.ended
    (subst (λ x. Tells PollsWrite x errand.tasks errand.ear errand.short.value told.all start upto told.cut (events_run (live_setting write_method) h 0) (told.outs ++ told.lost) told.ended) (sym c.in_ok-run.ensures.first) told.heard) in
    transfer_ran write_method PollsWrite task errand.tasks errand.ear errand.short.value start upto h told c.in_ok-run.ensures.whole c.task.result.now c.task.ensures c.end-ended.result same _
    (λ outs ran. (subst (λ (x : Writes). TaskRan PollsWrite x start upto (is_halted (live_setting write_method) h) (events_run (live_setting write_method) h 0) outs c.task.result.now c.end-ended.result) (writes_is task _ _ c.new-task.ensures.session c.new-task.ensures.upload) ran, c.offset.ensures, c.put_length.ensures c.args.bytes c.len-whole.ensures.value, c.new.ensures.items))

pub returns-clause-ended : goal.returns-clause-ended
returns-clause-ended g c =
    let task = c.new-task.result in
    let errand = c.in_ok-run.field-0.errand in
    let h = c.in_ok-run.field-0.run.journal.entries in
    let start = g.C.Clock.last c.args.clock.now in
    let upto = g.C.Clock.last c.transfer.new.clock in
    let told = c.in_ok-run.ensures.told in
    let same = c.end-ended.ensures.told told.all start upto told.cut (events_run (live_setting write_method) h 0) (told.outs ++ told.lost) told.ended
    (subst (λ x. Tells PollsWrite x errand.tasks errand.ear errand.short.value told.all start upto told.cut (events_run (live_setting write_method) h 0) (told.outs ++ told.lost) told.ended) (sym c.in_ok-run.ensures.first) told.heard) in
    transfer_over write_method PollsWrite task errand.tasks errand.ear errand.short.value start upto h told c.end-ended.result same
