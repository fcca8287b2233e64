use Rattle.rpc_frames.proofs.Growing.{packets_begin}
use Rattle.rpc_frames.proofs.laws.more_is_heard_behind.Goals as goal

pub returns : goal.returns
returns c = packets_begin
