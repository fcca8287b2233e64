use Rattle.std.proofs.Common.{ap, sym, ◌∙◌, arith}
use Rattle.rpc_journal.specs.Calls.{call_count}
use Rattle.rpc_journal.specs.History.{history}
use Rattle.live_client.proofs.FeedLemmas.{has_looked_none, looked_on, looked_reader, some_call, some_halt}
use Rattle.rpc_shared.proofs.session.StepLemmas.{look_halted}
use Rattle.live_client.specs.Silent.{silent_rule}
use Rattle.live_client.proofs.reading.see_call.Goals as goal

pub loop-init : goal.loop-init
loop-init g c = has_looked_none c.args.table.now c.args.pass.now c.requires.new

pub look-look-requires : goal.look-look-requires
look-look-requires g c = record { own = c.loop.invariant.stands.own }

pub loop-preserved : goal.loop-preserved
loop-preserved g c = looked_on c.args.table.now c.args.pass.now c.loop.pass c.look-look.new.pass c.look-look.result c.loop.invariant c.look-look.ensures.did

pub returns-then-is_some-clause-reader : goal.returns-then-is_some-clause-reader
returns-then-is_some-clause-reader g c =
    looked_reader c.args.table.now c.args.pass.now c.look-look.new.pass
    (looked_on c.args.table.now c.args.pass.now c.loop.pass c.look-look.new.pass c.look-look.result c.loop.invariant c.look-look.ensures.did)
    (some_halt c.args.table.now.base c.look-look.new.pass.view.known.seen
    (look_halted silent_rule c.args.table.now c.loop.pass c.look-look.new.pass c.look-look.result c.look-look.ensures.did (sym c.is_some.ensures ∙ c.if-is_some.true)))

pub returns-then-is_some-clause-same : goal.returns-then-is_some-clause-same
returns-then-is_some-clause-same g c = (looked_on c.args.table.now c.args.pass.now c.loop.pass c.look-look.new.pass c.look-look.result c.loop.invariant c.look-look.ensures.did).same

pub returns-then-is_some-clause-none : goal.returns-then-is_some-clause-none
returns-then-is_some-clause-none g c = (looked_on c.args.table.now c.args.pass.now c.loop.pass c.look-look.new.pass c.look-look.result c.loop.invariant c.look-look.ensures.did).none

pub returns-then-is_some-clause-halted : goal.returns-then-is_some-clause-halted
returns-then-is_some-clause-halted g c =
    look_halted silent_rule c.args.table.now c.loop.pass c.look-look.new.pass c.look-look.result c.look-look.ensures.did (sym c.is_some.ensures ∙ c.if-is_some.true)

pub returns-then-look-gt0-clause-reader : goal.returns-then-look-gt0-clause-reader
returns-then-look-gt0-clause-reader g c =
    looked_reader c.args.table.now c.args.pass.now c.look-look.new.pass
    (looked_on c.args.table.now c.args.pass.now c.loop.pass c.look-look.new.pass c.look-look.result c.loop.invariant c.look-look.ensures.did)
    (some_call c.args.table.now.base c.look-look.new.pass.view.known.seen c.look-look.result.calls
    (c.look-look.ensures.did.did.calls ∙ ap (λ h. call_count (history c.args.table.now.base h)) (sym c.look-look.ensures.did.did.adds_nothing)) (omega arith))

pub returns-then-look-gt0-clause-same : goal.returns-then-look-gt0-clause-same
returns-then-look-gt0-clause-same g c = (looked_on c.args.table.now c.args.pass.now c.loop.pass c.look-look.new.pass c.look-look.result c.loop.invariant c.look-look.ensures.did).same

pub returns-then-look-gt0-clause-none : goal.returns-then-look-gt0-clause-none
returns-then-look-gt0-clause-none g c = (looked_on c.args.table.now c.args.pass.now c.loop.pass c.look-look.new.pass c.look-look.result c.loop.invariant c.look-look.ensures.did).none
