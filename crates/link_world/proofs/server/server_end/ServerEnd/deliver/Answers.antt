use Rattle.std.proofs.Common.{◌≡◌, ℕ, List, IfErr, OnOk, subst}
use Rattle.std.proofs.lemmas.Result.{IfErr-weaker}
use Rattle.demo_services.specs.DemoRule.{demo_rule}
use Rattle.rpc_ids.specs.declared.method.Role.TheVariants.{Server as server_role}
use Rattle.rpc_schedule.specs.ends.EndState.{WasFed}
use Rattle.link_world.specs.declared.server.stopped.Stopped.TheVariants.{Journal}
use Rattle.link_world.specs.server.ServerSide.{ServerStopsHearing, ServerMoves, ServerState}
use Rattle.link_world.proofs.server.OutLemmas.{moves_by, on_ok_three}
use Rattle.link_world.proofs.server.StopLemmas.{hearing_stops}
use Rattle.link_world.proofs.server.server_end.ServerEnd.deliver.Goals as goal

pub returns-clause-moves : goal.returns-clause-moves
returns-clause-moves c =
    let before : ServerState = record { end = c.self.inside.server; stored = c.self.inside.store; items = c.self.inside.items.items } in
    let after : ServerState = record { end = c.feed_all.new.server; stored = c.feed_all.new.store; items = c.feed_all.new.items.items } in
    subst (λ s. OnOk c.feed_all.result (ServerMoves s c.args.wires.now after c.feed_all.new.wires)) c.self.view_is
    (on_ok_three c.feed_all.result (λ takes out holds. moves_by before after c.args.wires.now c.feed_all.new.wires takes.setting out holds)
    c.feed_all.ensures.takes c.feed_all.ensures.out c.feed_all.ensures.holds)

pub returns-clause-full : goal.returns-clause-full
returns-clause-full c =
    let before : ServerState = record { end = c.self.inside.server; stored = c.self.inside.store; items = c.self.inside.items.items } in
    subst (λ s. IfErr c.feed_all.result (λ why. why ≡ Journal → (fed : List ℕ) → WasFed server_role s.end fed → ServerStopsHearing demo_rule s.end.serving fed c.args.frame.now)) c.self.view_is
    (IfErr-weaker c.feed_all.result _ (λ why. why ≡ Journal → (fed : List ℕ) → WasFed server_role before.end fed → ServerStopsHearing demo_rule before.end.serving fed c.args.frame.now)
    (λ why stops journal fed was. hearing_stops demo_rule before.end.serving fed c.args.frame.now (stops journal fed was)) c.feed_all.ensures.full)
