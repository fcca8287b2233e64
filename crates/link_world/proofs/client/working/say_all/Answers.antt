use Rattle.std.proofs.Common.{rules, ◌≡◌, ◌<◌, get_or, sym, subst, length, true, false}
use Rattle.rpc_journal.specs.Refusals.{is_full}
use Rattle.link_world.proofs.client.PassLemmas.{stops_in}
use Rattle.rpc_handlers.specs.Limits.{is_long_out}
use Rattle.link_world.proofs.client.ShortLemmas.{short_at}
use Rattle.link_world.proofs.client.working.say_all.Goals as goal

pub say-requires-clause-orderly : goal.say-requires-clause-orderly
say-requires-clause-orderly c = c.outs.invariant.says.passes.orderly

pub say-requires-clause-there : goal.say-requires-clause-there
say-requires-clause-there c = subst (λ cs. c.args.call < length cs) (sym c.outs.invariant.says.passes.calls) c.requires.there

pub returns-in-Err-clause-full : goal.returns-in-Err-clause-full
returns-in-Err-clause-full c = λ is.
    stops_in c.args.client.now.serving.table.setting c.args.call c.args.outs.now c.outs.out-index c.out-item.result c.args.client.now.serving.table.entries c.outs-test.true
    (subst (λ h. is_full h ≡ true) c.outs.invariant.says.said (c.in-Err.ensures.full is))

pub say-requires-clause-short : goal.say-requires-clause-short
say-requires-clause-short c =
    let same : c.in_ok-clone.field-0 ≡ get_or c.args.outs.now c.outs.out-index c.out-item.result = search rules in
    subst (λ out. is_long_out out ≡ false) (sym same) (short_at c.args.outs.now c.outs.out-index c.out-item.result c.outs-test.true c.requires.short)
