use Rattle.std.proofs.Common.{ap, ◌∙◌, [], length, length-append, refl, subst, arith}
use Rattle.rpc_journal.specs.declared.entry.EntryKind.TheVariants.{EndIn}
use Rattle.rpc_journal.specs.declared.table.notice.Notice.TheVariants.{InputEnded}
use Rattle.rpc_channel.specs.Rising.{has_id}
use Rattle.rpc_journal.specs.Items.{items_sent}
use Rattle.rpc_journal.specs.table.Newest.{newest_of}
use Rattle.rpc_journal.specs.table.Agrees.{IsToldAll}
use Rattle.rpc_journal.proofs.table.NoticeLemmas.{step_told}
use Rattle.rpc_journal.proofs.table.call_states.CallStates.end_in.Goals as goal

pub returns : goal.returns
returns c = record {
  agrees = λ set ds seat place agrees.
      let told : IsToldAll (length ds) InputEnded c.args.self.now.calls.items c.tell_all.new.self.calls.items =
      subst (λ n. IsToldAll n InputEnded c.args.self.now.calls.items c.tell_all.new.self.calls.items) place c.tell_all.ensures.calls in
      record {
        calls = step_told set.role ds seat EndIn InputEnded _ _ (record { start = λ k. refl; finish = λ k. refl; cancel = λ k. refl }) agrees.calls told;
        newest = λ name. ap (λ m. newest_of m name) c.tell_all.ensures.newest ∙ agrees.newest name;
        closed = λ x. ap (λ v. has_id v.items x) c.tell_all.ensures.closed ∙ agrees.closed x;
        items = omega (arith, c.tell_all.ensures.unflushed, agrees.items, length-append (items_sent ds) []);
        input = refl;
        halt = c.tell_all.ensures.halt ∙ agrees.halt;
      };
}
