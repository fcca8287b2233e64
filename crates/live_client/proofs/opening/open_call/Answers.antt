use Rattle.std.proofs.Common.{subst}
use Rattle.rpc_handlers.specs.HandlerRule.{empty_memo}
use Rattle.rpc_journal.specs.Changes.{InvokeDid}
use Rattle.rpc_shared.specs.Steps.{Steps}
use Rattle.live_client.specs.Silent.{silent_rule}
use Rattle.live_client.proofs.OpenLemmas.{open_opens}
use Rattle.live_client.proofs.opening.open_call.Goals as goal

pub invoke-requires-clause-own : goal.invoke-requires-clause-own
invoke-requires-clause-own g c = record { table = c.requires.new.pass.table; base = c.requires.new.pass.base; idle = c.requires.new.idle }

pub returns-in-Ok-clause-opens : goal.returns-in-Ok-clause-opens
returns-in-Ok-clause-opens g c =
    open_opens c.args.table.now c.args.pass.now c.invoke.new.pass c.requires.can.client c.requires.new c.args.name c.args.payload c.in-Ok.call
    (subst (λ result. Steps silent_rule c.args.table.now c.args.pass.now c.invoke.new.pass (λ set seat. InvokeDid set seat c.args.name c.args.payload empty_memo result)) c.in-Ok.is c.invoke.ensures.did)
