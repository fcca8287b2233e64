use Rattle.rpc_frames.proofs.HeardBack.{are_heard_back}
use Rattle.rpc_frames.proofs.laws.all_written_are_heard.Goals as goal

pub returns : goal.returns
returns c = are_heard_back
