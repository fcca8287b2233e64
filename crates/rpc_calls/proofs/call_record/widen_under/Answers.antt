use Rattle.rpc_calls.specs.Widened.{IsWider}
use Rattle.rpc_calls.proofs.RecordSteps.{record_set}
use Rattle.rpc_calls.proofs.call_record.widen_under.Goals as goal

pub returns-clause-change : goal.returns-clause-change
returns-clause-change g c =
    record_set IsWider c.args.records.now c.args.key c.index_mut.result.now c.widen.new.state c.requires c.index_mut.ensures.value c.widen.ensures.same
