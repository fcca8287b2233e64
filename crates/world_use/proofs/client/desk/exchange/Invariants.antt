use Rattle.link_world.specs.server.ServerSide.{ServerRests}
use Rattle.link_world.specs.client.ClientSide.{Attends, ClientRests}
use Rattle.world_use.proofs.client.desk.exchange.Given as goal

abbrev pub invariant-frames : goal.invariant-frames
invariant-frames l = record {
  rest : ClientRests l.pair.client;
  attends : Attends l.pair.client l.pair.under l.now;
  server : ServerRests l.pair.server;
}
