use Rattle.std.proofs.Common.{◌≡◌, false, None, sym, ◌∙◌, subst}
use Rattle.rpc_journal.specs.Choice.{SomeReady}
use Rattle.rpc_schedule.specs.Schedule.{NoneWaits}
use Rattle.rpc_schedule.specs.Serving.{deeds}
use Rattle.rpc_schedule.proofs.ends.IdleLemmas.{some_ready}
use Rattle.rpc_client.proofs.client.Client.idle.Goals as goal

pub returns-in-None-clause-ready : goal.returns-in-None-clause-ready
returns-in-None-clause-ready g c =
    subst (λ s. c.none_waiting.result ≡ false → s.serving.kept ≡ None → NoneWaits (deeds s.serving) → SomeReady (deeds s.serving)) c.self.view_is
    (λ waits unkept none.
    some_ready _ _ _ c.self.inside.calls c.self.inside.kept _ c.self.invariant.0 unkept
    (sym c.none_waiting.ensures ∙ waits) none)
