use Rattle.demo_services.specs.ReadBack.{call_of-memo_of}
use Rattle.demo_services.proofs.laws.states_read_back.Goals as goal

pub returns : goal.returns
returns c = call_of-memo_of
