use Rattle.std.proofs.Common.{OnOk, refl, sym, ◌∙◌, subst}
use Rattle.rpc_ids.specs.declared.method.Role.TheVariants.{Server as server_role}
use Rattle.demo_services.specs.DemoRule.{demo_rule}
use Rattle.rpc_journal.specs.declared.entry.EntryKind.TheVariants.{Tick}
use Rattle.rpc_schedule.specs.ends.EndState.{WasFed}
use Rattle.rpc_schedule.proofs.ends.FedLemmas.{added_fed}
use Rattle.link_world.specs.server.ServerSide.{ServerMoves, ServerRests, ServerState}
use Rattle.link_world.specs.Room.{StaysWithin}
use Rattle.link_world.proofs.RoomLemmas.{ticked_unfull, within_adding}
use Rattle.link_world.proofs.server.OutLemmas.{moves_by, on_ok_one, on_ok_three, on_ok_two}
use Rattle.link_world.proofs.server.RestLemmas.{entered, entered_is, resting_after}
use Rattle.link_world.proofs.server.server_end.ServerEnd.tick.Goals as goal

pub settle-requires-clause-orderly : goal.settle-requires-clause-orderly
settle-requires-clause-orderly c =
    let rest : ServerRests (record { end = c.self.inside.server; stored = c.self.inside.store; items = c.self.inside.items.items }) = subst ServerRests (sym c.self.view_is) c.requires in
    (entered c.self.inside.server c.tick.new.self 1 (Tick c.args.now) c.in-Ok.ensures.aside c.in-Ok.ensures.did.adds rest.resting.orderly (λ k. refl) (λ k. refl) refl refl).orderly

pub returns-clause-fed : goal.returns-clause-fed
returns-clause-fed c =
    on_ok_one c.settle.result
    (λ fed bytes was. fed bytes (added_fed server_role c.self.inside.server c.tick.new.self 1 (Tick c.args.now) c.in-Ok.ensures.did.adds c.in-Ok.ensures.aside refl bytes
    (subst (λ s. WasFed server_role s.end bytes) (sym c.self.view_is) was))) c.settle.ensures.fed

pub returns-clause-moves : goal.returns-clause-moves
returns-clause-moves c =
    let before : ServerState = record { end = c.self.inside.server; stored = c.self.inside.store; items = c.self.inside.items.items } in
    let after : ServerState = record { end = c.settle.new.server; stored = c.settle.new.store; items = c.settle.new.items.items } in
    subst (λ s. OnOk c.settle.result (ServerMoves s c.args.wires.now after c.settle.new.wires)) c.self.view_is
    (on_ok_three c.settle.result (λ settles out holds. moves_by before after c.args.wires.now c.settle.new.wires (settles.stays.setting ∙ c.in-Ok.ensures.aside.setting) out holds)
    c.settle.ensures.ok c.settle.ensures.out c.settle.ensures.holds)

pub returns-clause-rest : goal.returns-clause-rest
returns-clause-rest c =
    let rest : ServerRests (record { end = c.self.inside.server; stored = c.self.inside.store; items = c.self.inside.items.items }) = subst ServerRests (sym c.self.view_is) c.requires in
    let is = entered_is c.self.inside.server c.tick.new.self 1 (Tick c.args.now) c.in-Ok.ensures.aside c.in-Ok.ensures.did.adds in
    let enter = entered c.self.inside.server c.tick.new.self 1 (Tick c.args.now) c.in-Ok.ensures.aside c.in-Ok.ensures.did.adds rest.resting.orderly (λ k. refl) (λ k. refl) refl refl in
    let room = subst (λ s. StaysWithin s.table.entries) (sym is)
    (within_adding c.self.inside.server.serving.table.entries 1 (Tick c.args.now) rest.resting.room (ticked_unfull c.self.inside.server.serving.table.entries c.in-Ok.ensures.did.unrefused)) in
    on_ok_two c.settle.result
    (λ settles items. record {
      resting = resting_after demo_rule c.tick.new.self.serving c.settle.new.server.serving settles (c.in-Ok.ensures.aside.refused ∙ rest.resting.accepts) (enter.input ∙ rest.resting.unended) room;
      items = items;
    }) c.settle.ensures.ok c.settle.ensures.items
