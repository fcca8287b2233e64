use Rattle.std.proofs.Common.{◌∙◌, OnOk, sym, subst}
use Rattle.link_world.proofs.server.OutLemmas.{on_ok_three}
use Rattle.link_world.specs.client.ClientSide.{ClientMoves, ClientRests, ClientState, state_of}
use Rattle.link_world.proofs.client.EndLemmas.{moves_by}
use Rattle.link_world.proofs.client.client_end.ClientEnd.deliver.Goals as goal

pub returns-clause-moves : goal.returns-clause-moves
returns-clause-moves c =
    let before : ClientState = state_of c.self.inside.desk in
    let after : ClientState = state_of c.feed_all.new.desk in
    let rest : ClientRests before = subst ClientRests (sym c.self.view_is) c.requires.rest in
    subst (λ s. OnOk c.feed_all.result (ClientMoves s c.args.wires.now after c.feed_all.new.wires)) c.self.view_is
    (on_ok_three c.feed_all.result (λ kept out holds. moves_by before after c.args.wires.now c.feed_all.new.wires (kept.setting ∙ sym rest.setting) out holds)
    c.feed_all.ensures.kept c.feed_all.ensures.out c.feed_all.ensures.holds)
