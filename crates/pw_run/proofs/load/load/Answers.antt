use Rattle.std.proofs.Common.{◌≡◌, ℕ, List, ◌++◌, length, refl, ap, sym, ◌∙◌, subst, arith, append_assoc, length-append}
use Rattle.rpc_journal.specs.declared.item.Item.{Item}
use Rattle.rpc_journal.specs.declared.setting.Setting.{Setting}
use Rattle.rpc_journal.specs.History.{history}
use Rattle.rpc_journal.specs.Items.{items_sent}
use Rattle.rpc_journal.specs.CallTable.{Table}
use Rattle.rpc_packet.specs.declared.owned.Packet.{Packet}
use Rattle.rpc_ids.specs.declared.method.Role.TheVariants.{Server}
use Rattle.rpc_schedule.specs.OneThread.{IsOneThreadHistory}
use Rattle.demo_services.specs.DemoRule.{demo_rule}
use Rattle.load_stream.specs.Load.{load_packets, load_stream}
use Rattle.load_stream.proofs.LoadLaws.{load_heard, load_most}
use Rattle.run_report.specs.Load.{load_report}
use Rattle.pw_run.specs.declared.outcome.Outcome.TheVariants.{Done}
use Rattle.pw_run.specs.Demo.{demo_setting, no_shelf}
use Rattle.rpc_schedule.specs.ends.EndState.{heard}
use Rattle.pw_run.specs.Writes.{Writes}
use Rattle.pw_run.proofs.FullLemmas.{never_full}
use Rattle.pw_run.proofs.ServedLemmas.{all_taken, at_end_of, at_full_of, at_limit_of}
use Rattle.pw_run.proofs.WritesLemmas.{load_served}
use Rattle.pw_run.proofs.load.load.Goals as goal

pub returns-in-Ok-AtEnd-clause-did : goal.returns-in-Ok-AtEnd-clause-did
returns-in-Ok-AtEnd-clause-did g c =
    let calls = c.args.calls in
    let seed = c.args.seed in
    let old = g.O.Sink.written c.args.output.now in
    let new = g.O.Sink.written c.write_load.new.output in
    let table : Table = c.replay.new.server.serving.table in
    let items : List Item = c.deref.result.now in
    let done = at_end_of _ c.in-Ok-AtEnd.field-0 c.in-Ok-AtEnd.field-0-is c.in-Ok-AtEnd.ensures.replayed in
    let setting : table.setting ≡ demo_setting no_shelf = c.in-Ok-AtEnd.ensures.setting ∙ c.in-Ok.ensures.setting ∙ ap demo_setting c.no_shelf.ensures in
    let whole : done.bytes ≡ load_stream calls seed =
    all_taken _ c.replay.new.input done.bytes done.taken (done.at_end refl) ∙ c.in-Ok-new.ensures in
    let packets : heard Server done.bytes ≡ load_packets calls seed = ap (heard Server) whole ∙ load_heard calls seed (omega (arith, c.requires.fits)) in
    let was_served = subst (λ (set : Setting). IsOneThreadHistory demo_rule set (load_packets calls seed) table.entries) setting
    (subst (λ (ps : List Packet). IsOneThreadHistory demo_rule table.setting ps table.entries) packets done.history) in
    let went : items ≡ items_sent (history (demo_setting no_shelf) table.entries) =
    c.deref.ensures.value ∙ done.items_are ∙ ap (λ (set : Setting). items_sent (history set table.entries)) setting in
    load_served calls seed (load_report calls seed items) Done old new c.write_load.result
    (λ writes. record {
      entries = table.entries;
      served = was_served;
      writes = subst (λ (is : List Item). Writes old new (load_report calls seed is) Done c.write_load.result) went writes;
    })
    c.write_load.ensures.writes

pub unreachable-requires-in-Ok-InputLimit : goal.unreachable-requires-in-Ok-InputLimit
unreachable-requires-in-Ok-InputLimit g c =
    let done = at_limit_of _ c.in-Ok-InputLimit.field-0 c.in-Ok-InputLimit.field-0-is c.in-Ok-InputLimit.ensures.replayed in
    let taken : c.in-Ok-new.source ≡ done.bytes ++ c.replay.new.input = done.taken in
    let long = ap length (sym c.in-Ok-new.ensures ∙ taken) ∙ length-append done.bytes c.replay.new.input in
    omega (arith, long, done.at_limit refl, load_most c.args.calls c.args.seed, c.requires.fits)

pub unreachable-requires-in-Ok-JournalLimit : goal.unreachable-requires-in-Ok-JournalLimit
unreachable-requires-in-Ok-JournalLimit g c =
    let table : Table = c.replay.new.server.serving.table in
    let left : List ℕ = c.replay.new.input in
    let full = at_full_of _ c.in-Ok-JournalLimit.field-0 c.in-Ok-JournalLimit.field-0-is c.in-Ok-JournalLimit.ensures.replayed in
    let taken : c.in-Ok-new.source ≡ (full.read.bytes ++ full.read.unfed) ++ left = full.read.taken in
    let setting : table.setting ≡ demo_setting no_shelf = c.in-Ok-JournalLimit.ensures.setting ∙ c.in-Ok.ensures.setting ∙ ap demo_setting c.no_shelf.ensures in
    never_full c.args.calls c.args.seed table.setting table.entries full.read.bytes (full.read.unfed ++ left) c.requires.fits (ap (λ (set : Setting). set.role) setting)
    (sym c.in-Ok-new.ensures ∙ (taken ∙ append_assoc full.read.bytes full.read.unfed left)) full.beginning
