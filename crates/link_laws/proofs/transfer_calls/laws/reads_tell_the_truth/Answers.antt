use Rattle.link_laws.proofs.transfer_calls.Reading.{reads_tell_the_truth}
use Rattle.link_laws.proofs.transfer_calls.laws.reads_tell_the_truth.Goals as goal

pub returns : goal.returns
returns c = reads_tell_the_truth
