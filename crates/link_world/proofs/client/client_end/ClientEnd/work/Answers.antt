use Rattle.std.proofs.Common.{OnOk, subst}
use Rattle.link_world.proofs.server.OutLemmas.{on_ok_three}
use Rattle.link_world.specs.client.ClientSide.{ClientMoves, ClientState, state_of}
use Rattle.link_world.proofs.client.EndLemmas.{moves_by}
use Rattle.link_world.proofs.client.client_end.ClientEnd.work.Goals as goal

pub returns-clause-moves : goal.returns-clause-moves
returns-clause-moves c =
    let before : ClientState = state_of c.self.inside.desk in
    let after : ClientState = state_of c.settle.new.desk in
    subst (λ s. OnOk c.settle.result (ClientMoves s c.args.wires.now after c.settle.new.wires)) c.self.view_is
    (on_ok_three c.settle.result (λ settled out holds. moves_by before after c.args.wires.now c.settle.new.wires (settled.stays.setting) out holds)
    c.settle.ensures.settled c.settle.ensures.out c.settle.ensures.holds)
