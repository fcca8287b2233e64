use denote.Param.Send.{IsSync, part_keyless}
use Rattle.rpc_calls.specs.contracts.last_state.LastState.{the_row}
use Rattle.rpc_calls.proofs.last_state.LastState.TheSendSync.Send.{send}

pub sync : IsSync the_row
sync = record { shared = λ d b o κ q. part_keyless the_row send q d b o }
