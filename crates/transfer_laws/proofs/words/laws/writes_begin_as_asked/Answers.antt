use Rattle.transfer_laws.proofs.words.Service.{writes_begin_as_asked}
use Rattle.transfer_laws.proofs.words.laws.writes_begin_as_asked.Goals as goal

pub returns : goal.returns
returns c = writes_begin_as_asked
