use denote.Param.Send.{IsSend, owning_send, sendable}
use Rattle.rpc_calls.specs.contracts.last_state.LastState.{the_row, the_type}

pub send : IsSend the_row
send = owning_send the_type (search sendable, tt) (λ d. tt) (λ k x w. tt)
