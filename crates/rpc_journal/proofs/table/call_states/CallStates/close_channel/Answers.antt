use Rattle.std.proofs.Common.{[], ◌∷◌, ◌++◌, length, arith, refl, sym, ◌∙◌, subst, ap}
use Rattle.rpc_journal.specs.declared.table.notice.Notice.TheVariants.{ChannelClosed}
use Rattle.rpc_journal.specs.table.Agrees.{IsToldAll}
use Rattle.rpc_journal.proofs.table.CloseLemmas.{close_ends, table_closed}
use Rattle.rpc_journal.proofs.table.call_states.CallStates.close_channel.Goals as goal

pub returns-clause-agrees : goal.returns-clause-agrees
returns-clause-agrees c = λ set ds seat place agrees.
    let told : IsToldAll (length ds) (ChannelClosed c.args.channel) c.args.self.now.calls.items c.tell_all.new.self.calls.items =
    subst (λ n. IsToldAll n (ChannelClosed c.args.channel) c.args.self.now.calls.items c.tell_all.new.self.calls.items) place c.tell_all.ensures.calls in
    table_closed set ds seat c.args.channel c.args.self.now _ agrees told c.tell_all.ensures.newest
    (c.push_reserved.ensures.items ∙ ap (λ v. v.items ++ c.args.channel ∷ []) c.tell_all.ensures.closed)
    (omega (arith, c.tell_all.ensures.unflushed, c.live_on-ended.ensures))
    c.tell_all.ensures.input c.tell_all.ensures.halt

pub returns-clause-ended : goal.returns-clause-ended
returns-clause-ended c = λ set ds agrees. c.live_on-ended.ensures ∙ sym (close_ends set.role ds c.args.channel _ agrees.calls)
