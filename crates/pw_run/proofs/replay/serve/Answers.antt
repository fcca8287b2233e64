use Rattle.std.proofs.Common.{◌≡◌, List, sym, ◌∙◌, ap, subst, inl}
use Rattle.rpc_journal.specs.declared.item.Item.{Item}
use Rattle.rpc_journal.specs.Lawful.{IsLegal}
use Rattle.rpc_journal.specs.CallTable.{Table}
use Rattle.rpc_schedule.specs.Kept.{Holds}
use Rattle.rpc_schedule.specs.Replays.{Replayed}
use Rattle.demo_services.specs.DemoRule.{demo_rule}
use Rattle.rpc_ids.specs.declared.method.Role.TheVariants.{Server}
use Rattle.rpc_schedule.specs.ends.EndState.{WasFed, heard}
use Rattle.pw_run.specs.Replay.{AreCountsOf}
use Rattle.pw_run.proofs.ServedLemmas.{broken_as, replayed_as, replayed_entries}
use Rattle.pw_run.proofs.WritesLemmas.{shelf_served}
use Rattle.pw_run.proofs.replay.serve.Goals as goal

pub returns-clause-did : goal.returns-clause-did
returns-clause-did g c =
    let left_old = g.I.Source.left c.args.input.now in
    let left_new = g.I.Source.left c.replay-served.new.input in
    let store_old = g.S.Store.holds c.args.store.now in
    let store_new = g.S.Store.holds c.replay-served.new.store in
    let served : Table = c.replay-served.new.server.serving.table in
    let table : Table = c.calls-calls.result.now in
    let same : table ≡ served = c.calls-calls.ensures.table in
    let ending = c.in-Ok-served.ending in
    let items : List Item = c.deref.result.now in
    let went = replayed_as demo_rule (heard Server) (WasFed Server c.replay-served.new.server) (AreCountsOf c.counts-counts.result) left_old left_new ending
    served c.replay-served.new.items.items c.counts-counts.ensures.counts c.in-Ok-served.ensures.replayed in
    let told : Replayed demo_rule (heard Server) (AreCountsOf c.counts-counts.result) left_old left_new ending table items =
    subst (λ (t : Table). Replayed demo_rule (heard Server) (AreCountsOf c.counts-counts.result) left_old left_new ending t items) (sym same)
    (subst (λ (is : List Item). Replayed demo_rule (heard Server) (AreCountsOf c.counts-counts.result) left_old left_new ending served is)
    (sym c.deref.ensures.value) went) in
    let holds : Holds items store_old store_new = subst (λ (is : List Item). Holds is store_old store_new) (sym c.deref.ensures.value) c.in-Ok-served.ensures.holds in
    shelf_served c.args.form c.args.shelf left_old left_new store_old store_new c.counts-counts.result table items ending
    (g.O.Sink.written c.args.output.now) (g.O.Sink.written c.write_run.new.output) c.write_run.result
    (record {
      setting = ap (λ (t : Table). t.setting) same ∙ c.in-Ok-served.ensures.setting ∙ c.in-Ok.ensures.setting;
      served = told;
      legal = subst (λ (t : Table). IsLegal demo_rule t.setting t.entries) (sym same) c.calls-calls.ensures.legal;
      own = replayed_entries demo_rule (heard Server) (AreCountsOf c.counts-counts.result) left_old left_new ending table items told;
    })
    holds c.write_run.ensures.writes

pub returns-in-Err-clause-did : goal.returns-in-Err-clause-did
returns-in-Err-clause-did g c =
    let left_old = g.I.Source.left c.args.input.now in
    let left_new = g.I.Source.left c.replay-served.new.input in
    let server = c.replay-served.new.server in
    inl (record {
      table = server.serving.table;
      items = c.replay-served.new.items.items;
      setting = c.in-Err.ensures.setting ∙ c.in-Ok.ensures.setting;
      legal = c.calls-calls.ensures.legal;
      broken = broken_as (heard Server) (WasFed Server server) left_old left_new server.serving.table c.replay-served.new.items.items c.in-Err.ensures.broken;
      holds = c.in-Err.ensures.holds;
    })
