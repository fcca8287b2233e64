use Rattle.rpc_journal.specs.table.Turns.{Turns}
use Rattle.rpc_calls.specs.StateChanges.{touch_of}
use Rattle.rpc_calls.proofs.RecordSteps.{record_set}
use Rattle.rpc_calls.proofs.call_record.change_under.Goals as goal

pub returns-clause-change : goal.returns-clause-change
returns-clause-change g c =
    record_set (λ r x. Turns c.args.at (touch_of c.args.change r) r x) c.args.records.now c.args.key c.index_mut.result.now c.apply.new.state c.requires.there c.index_mut.ensures.value c.apply.ensures.turns
