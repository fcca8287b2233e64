use Rattle.std.proofs.Common.{◌+◌, refl, ap, sym}
use Rattle.rpc_journal.specs.declared.entry.EntryKind.TheVariants.{Say}
use Rattle.rpc_journal.specs.History.{deed_by}
use Rattle.rpc_journal.proofs.table.FinishLemmas.{say_effect, say_one}
use Rattle.rpc_journal.proofs.PlaceLemmas.{get_some}
use Rattle.rpc_journal.proofs.table.TableSteps.{table_idle}
use Rattle.rpc_journal.proofs.table.call_states.CallStates.say.Goals as goal

pub returns : goal.returns
returns c = record {
  agrees = λ set ds seat out agrees.
      let found = get_some c.args.self.now.calls.items c.args.call c.requires.known in
      let one = say_one set ds seat c.args.call out found.0 (agrees.calls.each _ _ found.1) in
      table_idle ds (deed_by seat (Say c.args.call out) (say_effect set ds c.args.call out)) c.args.self.now _ agrees one.idle one.opens
      (record { unflushing = refl; going_on = refl; running = refl; unclosed = refl }) refl refl refl (ap (λ n. c.args.self.now.unflushed + n) (sym one.many)) refl refl;
}
