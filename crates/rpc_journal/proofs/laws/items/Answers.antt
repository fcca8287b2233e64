use Rattle.rpc_journal.proofs.ItemLemmas.{items_begin, flushed_begin}
use Rattle.rpc_journal.proofs.laws.items.Goals as goal

pub returns-clause-sent : goal.returns-clause-sent
returns-clause-sent c = items_begin

pub returns-clause-flushed : goal.returns-clause-flushed
returns-clause-flushed c = flushed_begin
