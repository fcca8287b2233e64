use Rattle.load_stream.proofs.LoadLaws.{load_most}
use Rattle.load_stream.proofs.laws.stream_is_short.Goals as goal

pub returns : goal.returns
returns c = load_most
