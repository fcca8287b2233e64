use Rattle.std.proofs.Common.{subst, arith}
use Rattle.std.specs.Prelude.{IfOk}
use Rattle.link_script.specs.text.Reading.{IsScriptText}
use Rattle.link_world.proofs.BoundsLemmas.{bounded}
use Rattle.link_world.proofs.ScriptLemmas.{fitting}
use Rattle.world_use.proofs.worlds.repeats.left_of.Goals as goal

pub new-requires-clause-bounds : goal.new-requires-clause-bounds
new-requires-clause-bounds c = bounded c.args.text.now c.in-Ok.script (subst (λ read. IfOk read (IsScriptText c.args.text.now)) c.in-Ok.is c.in_ok-script.ensures.script)

pub new-requires-clause-fits : goal.new-requires-clause-fits
new-requires-clause-fits c = fitting c.args.text.now c.in-Ok.script (subst (λ read. IfOk read (IsScriptText c.args.text.now)) c.in-Ok.is c.in_ok-script.ensures.script) (omega (arith, c.requires))
