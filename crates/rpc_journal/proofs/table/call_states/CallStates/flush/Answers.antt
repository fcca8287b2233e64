use Rattle.std.proofs.Common.{[], refl, arith, length-append}
use Rattle.rpc_journal.specs.declared.entry.EntryKind.TheVariants.{Flush}
use Rattle.rpc_journal.specs.Items.{items_sent}
use Rattle.rpc_journal.specs.Rows.{no_effect}
use Rattle.rpc_journal.specs.History.{deed_by}
use Rattle.rpc_journal.proofs.table.TableSteps.{step_idle}
use Rattle.rpc_journal.proofs.table.call_states.CallStates.flush.Goals as goal

pub returns : goal.returns
returns c = record {
  agrees = λ set ds seat agrees. record {
    calls = step_idle ds (deed_by seat Flush no_effect) _ agrees.calls
        (record { start = λ k. refl; finish = λ k. refl; cancel = λ k. refl; ends = refl; drops = refl; puts = refl; says = λ k. refl }) refl;
    newest = agrees.newest;
    closed = agrees.closed;
    items = omega (arith, c.requires, agrees.items, length-append (items_sent ds) []);
    input = agrees.input;
    halt = agrees.halt;
  };
}
