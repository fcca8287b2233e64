use Rattle.load_stream.proofs.FrameSteps.{load_more}
use Rattle.load_stream.proofs.laws.one_call_more.Goals as goal

pub returns : goal.returns
returns c = load_more
