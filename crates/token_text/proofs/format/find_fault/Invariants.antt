use Rattle.std.proofs.Common.{length}
use Rattle.token_text.proofs.FormatLemmas.{LeadsOn}
use Rattle.token_text.proofs.format.find_fault.Given as goal

abbrev pub invariant-parts : goal.invariant-parts
invariant-parts l = LeadsOn l.text l.arguments l.rest

abbrev pub decreases-parts : goal.decreases-parts
decreases-parts l = length l.rest
