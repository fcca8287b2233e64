use Rattle.rpc_frames.proofs.HeardExactly.{is_heard_exactly}
use Rattle.rpc_frames.proofs.laws.heard_exactly.Goals as goal

pub returns : goal.returns
returns c = is_heard_exactly
