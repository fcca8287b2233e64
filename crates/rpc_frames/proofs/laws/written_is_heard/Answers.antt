use Rattle.rpc_frames.proofs.HeardBack.{is_heard_back, readable}
use Rattle.rpc_frames.proofs.laws.written_is_heard.Goals as goal

pub returns : goal.returns
returns c role packet is = is_heard_back role packet (readable role packet is)
