use Rattle.std.proofs.Common.{refl}
use Rattle.rpc_schedule.proofs.ends.FedLemmas.{fed_nothing}
use Rattle.rpc_server.proofs.server.Server.new.Goals as goal

pub returns-clause-unfed : goal.returns-clause-unfed
returns-clause-unfed g c = fed_nothing _ _ _ c.in_ok-listener.ensures.heard c.in_ok-calls.ensures.entries refl
