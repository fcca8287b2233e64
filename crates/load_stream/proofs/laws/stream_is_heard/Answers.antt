use Rattle.load_stream.proofs.LoadLaws.{load_heard}
use Rattle.load_stream.proofs.laws.stream_is_heard.Goals as goal

pub returns : goal.returns
returns c = load_heard
