use Rattle.rpc_frames.proofs.Sizes.{content_short}
use Rattle.rpc_frames.proofs.laws.content_is_short.Goals as goal

pub returns : goal.returns
returns c = content_short
