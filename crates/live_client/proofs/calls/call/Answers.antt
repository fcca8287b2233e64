use Rattle.std.proofs.Common.{sym, subst}
use Rattle.live_client.specs.Told.{MaySay}
use Rattle.live_client.specs.Ask.{utterances_asked}
use Rattle.live_client.proofs.AskLemmas.{may_say}
use Rattle.live_client.proofs.calls.call.Goals as goal

pub keep-requires-clause-may : goal.keep-requires-clause-may
keep-requires-clause-may g c κs within =
    let o = c.args.opening in
    subst (MaySay c.named-method.result) (sym c.in_ok-says.ensures)
    (subst (λ method. MaySay method (utterances_asked o.kind o.messages)) (sym c.named-method.ensures) (may_say o.service o.method o.kind o.messages c.requires.can.all_short))
