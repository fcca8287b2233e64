use Rattle.link_laws.proofs.transfer_calls.Writing.{offsets_are_agreed}
use Rattle.link_laws.proofs.transfer_calls.laws.offsets_are_agreed.Goals as goal

pub returns : goal.returns
returns c = offsets_are_agreed
