use Rattle.rpc_frames.proofs.WholeFrames.{is_one_step}
use Rattle.rpc_frames.proofs.laws.frame_is_one_step.Goals as goal

pub returns : goal.returns
returns c = is_one_step
