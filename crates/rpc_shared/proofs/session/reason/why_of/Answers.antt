use Rattle.std.proofs.Common.{is_none, sym, ap, ◌∙◌}
use Rattle.std.proofs.lemmas.Bool.{true≢false}
use Rattle.rpc_shared.proofs.session.reason.why_of.Goals as goal

pub unreachable-requires : goal.unreachable-requires
unreachable-requires c = true≢false (sym (ap is_none c.in-None.is) ∙ c.requires (ap is_none c.in_default.is))
