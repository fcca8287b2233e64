use Rattle.std.proofs.Common.{◌<◌, ◌∙◌, ap, subst, sym}
use Rattle.rpc_shared.proofs.Opened.{same_setting}
use Rattle.rpc_shared.proofs.shared.Shared.close.Goals as goal

pub returns-clause-setting : goal.returns-clause-setting
returns-clause-setting g c =
    ap (λ t. t.setting) c.into_calls.ensures ∙ same_setting c.args.self c.args.passes.items c.close-desk.result (subst (λ n. 0 < n) (sym c.requires.all.count) (subst (λ r. 0 < r.count) c.self.view_is c.self.invariant)) c.requires.all c.close-desk.ensures.fits
