use Rattle.std.proofs.Common.{length}
use Rattle.link_script.proofs.text.ScriptLemmas.{HasRead}
use Rattle.link_script.proofs.text.reading.read_script.Given as goal

abbrev pub invariant-lines : goal.invariant-lines
invariant-lines l = HasRead l.fn.text l.rest l.script l.number

abbrev pub decreases-lines : goal.decreases-lines
decreases-lines l = length l.rest
