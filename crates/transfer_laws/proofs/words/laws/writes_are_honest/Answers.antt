use Rattle.transfer_laws.proofs.words.Uploads.{writes_are_honest}
use Rattle.transfer_laws.proofs.words.laws.writes_are_honest.Goals as goal

pub returns : goal.returns
returns c = writes_are_honest
