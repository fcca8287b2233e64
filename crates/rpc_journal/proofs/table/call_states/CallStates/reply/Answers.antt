use Rattle.std.proofs.Common.{refl}
use Rattle.rpc_journal.specs.declared.entry.EntryKind.TheVariants.{Arrive}
use Rattle.rpc_journal.specs.Rows.{replied_row}
use Rattle.rpc_journal.specs.History.{deed_by}
use Rattle.rpc_journal.proofs.table.TableSteps.{table_idle}
use Rattle.rpc_journal.proofs.table.call_states.CallStates.reply.Goals as goal

pub returns-in-Some-clause-agrees : goal.returns-in-Some-clause-agrees
returns-in-Some-clause-agrees c = λ ds seat p ptype status agrees.
    table_idle ds (deed_by seat (Arrive p) (replied_row ptype p status).does) c.args.self.now _ agrees
    (record { start = λ k. refl; finish = λ k. refl; cancel = λ k. refl; ends = refl; drops = refl; puts = refl; says = λ k. refl })
    refl (record { unflushing = refl; going_on = refl; running = refl; unclosed = refl }) refl refl refl c.in-Some.ensures.1 refl refl
