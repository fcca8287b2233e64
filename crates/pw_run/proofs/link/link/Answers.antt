use Rattle.std.proofs.Common.{subst}
use Rattle.std.specs.Prelude.{IfOk}
use Rattle.link_script.specs.text.Reading.{IsScriptText}
use Rattle.link_world.proofs.BoundsLemmas.{bounded}
use Rattle.link_world.proofs.ScriptLemmas.{fitting}
use Rattle.pw_run.proofs.link.link.Goals as goal

pub run-requires-clause-bounds : goal.run-requires-clause-bounds
run-requires-clause-bounds c =
    bounded c.args.text.now c.in-Ok.script (subst (λ read. IfOk read (IsScriptText c.args.text.now)) c.in-Ok.is c.in_ok-script.ensures.script)

pub run-requires-clause-fits : goal.run-requires-clause-fits
run-requires-clause-fits c =
    fitting c.args.text.now c.in-Ok.script (subst (λ read. IfOk read (IsScriptText c.args.text.now)) c.in-Ok.is c.in_ok-script.ensures.script) c.requires
