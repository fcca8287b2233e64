use Rattle.rpc_frames.proofs.Growing.{nothing_heard_in, nothing_counted_in}
use Rattle.rpc_frames.proofs.laws.nothing_heard.Goals as goal

pub returns : goal.returns
returns c = record { packets = nothing_heard_in; counts = nothing_counted_in }
