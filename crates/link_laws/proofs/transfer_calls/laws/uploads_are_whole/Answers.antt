use Rattle.link_laws.proofs.transfer_calls.Writing.{uploads_are_whole}
use Rattle.link_laws.proofs.transfer_calls.laws.uploads_are_whole.Goals as goal

pub returns : goal.returns
returns c = uploads_are_whole
