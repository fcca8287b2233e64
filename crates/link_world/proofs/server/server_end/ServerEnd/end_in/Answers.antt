use Rattle.std.proofs.Common.{OnOk, refl, ap, sym, ◌∙◌, subst}
use Rattle.rpc_journal.specs.declared.entry.EntryKind.TheVariants.{EndIn}
use Rattle.rpc_schedule.specs.Settling.{IsOrderly}
use Rattle.link_world.specs.server.ServerSide.{ServerMoves, ServerRests, ServerState}
use Rattle.link_world.proofs.server.OutLemmas.{moves_by, on_ok_one, on_ok_three}
use Rattle.link_world.proofs.server.RestLemmas.{enters}
use Rattle.rpc_schedule.specs.Schedule.{input_seat}
use Rattle.demo_services.specs.DemoRule.{demo_rule}
use Rattle.rpc_schedule.specs.Serving.{Serving}
use Rattle.link_world.specs.Room.{StaysWithin}
use Rattle.link_world.proofs.RoomLemmas.{settled_within, within_kept}
use Rattle.link_world.proofs.server.server_end.ServerEnd.end_in.Goals as goal

pub settle-requires-clause-orderly : goal.settle-requires-clause-orderly
settle-requires-clause-orderly c =
    let rest : ServerRests (record { end = c.self.inside.server; stored = c.self.inside.store; items = c.self.inside.items.items }) = subst ServerRests (sym c.self.view_is) c.requires in
    subst IsOrderly (sym c.end_in.ensures.step) (enters c.self.inside.server.serving input_seat EndIn rest.resting.orderly (λ k. refl) (λ k. refl) refl refl).orderly

pub returns-clause-moves : goal.returns-clause-moves
returns-clause-moves c =
    let before : ServerState = record { end = c.self.inside.server; stored = c.self.inside.store; items = c.self.inside.items.items } in
    let after : ServerState = record { end = c.settle.new.server; stored = c.settle.new.store; items = c.settle.new.items.items } in
    subst (λ s. OnOk c.settle.result (ServerMoves s c.args.wires.now after c.settle.new.wires)) c.self.view_is
    (on_ok_three c.settle.result (λ settles out holds. moves_by before after c.args.wires.now c.settle.new.wires (settles.stays.setting ∙ ap (λ s. s.table.setting) c.end_in.ensures.step) out holds)
    c.settle.ensures.ok c.settle.ensures.out c.settle.ensures.holds)

pub returns-clause-room : goal.returns-clause-room
returns-clause-room c =
    let rest : ServerRests (record { end = c.self.inside.server; stored = c.self.inside.store; items = c.self.inside.items.items }) = subst ServerRests (sym c.self.view_is) c.requires in
    on_ok_one c.settle.result
    (λ settles. settled_within demo_rule c.end_in.new.self.serving c.settle.new.server.serving settles
    (subst (λ (s : Serving). StaysWithin s.table.entries) (sym c.end_in.ensures.step)
    (within_kept c.self.inside.server.serving.table.entries input_seat EndIn rest.resting.room refl))) c.settle.ensures.ok
