use Rattle.transfer_laws.proofs.cores.AskLaws as ask_laws
use Rattle.transfer_laws.proofs.cores.asks_are_few.Goals as goal

pub returns : goal.returns
returns c = ask_laws.asks_are_few
