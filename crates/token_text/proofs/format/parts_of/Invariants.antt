use Rattle.std.proofs.Common.{List, length}
use Rattle.token_text.specs.Format.{IsFormat}
use Rattle.token_text.specs.declared.part.Part.{Part}
use Rattle.token_text.proofs.FormatLemmas.{Remaining}
use Rattle.token_text.proofs.format.parts_of.Given as goal

-- what was read, with the parts to come behind it, is the format
abbrev pub invariant-parts : goal.invariant-parts
invariant-parts l = (ps : List Part) → IsFormat l.text ps → Remaining l.rest l.parts.items ps

abbrev pub decreases-parts : goal.decreases-parts
decreases-parts l = length l.rest
