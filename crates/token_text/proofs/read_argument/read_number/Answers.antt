use Rattle.std.proofs.Common.{ℤ, rules, ap, ◌∙◌}
use Rattle.std.specs.Int.{cast_signed, cast_unsigned, w64}
use Rattle.std.proofs.lemmas.Int.{to_z-of_z}
use mir.Val.{SFits}
use Rattle.token_text.specs.Spelling.{zigzag}
use Rattle.token_text.proofs.ReadLemmas.{no_varint, varint_here, varint_only, varint_short}
use Rattle.token_text.proofs.read_argument.read_number.Goals as goal

pub returns-in_err-folded-clause-only : goal.returns-in_err-folded-clause-only
returns-in_err-folded-clause-only c n front rest spelled whole =
    rw c.from_residual.ensures (no_varint c.args.bytes.now front rest (zigzag n) c.in_err-folded.ensures spelled whole)

pub returns-clause-some : goal.returns-clause-some
returns-clause-some c =
    let fits : SFits w64 c.unfold.result = search rules in
    let z : ℤ = cast_signed w64 (cast_unsigned w64 c.unfold.result) in
    varint_here c.args.bytes.now c.in_ok-folded.rest.now c.in_ok-folded.folded z c.in_ok-folded.ensures (ap zigzag (to_z-of_z w64 c.unfold.result fits) ∙ c.unfold.ensures)

pub returns-clause-only : goal.returns-clause-only
returns-clause-only c =
    let fits : SFits w64 c.unfold.result = search rules in
    let z : ℤ = cast_signed w64 (cast_unsigned w64 c.unfold.result) in
    varint_only c.args.bytes.now c.in_ok-folded.rest.now c.in_ok-folded.folded z c.in_ok-folded.ensures (ap zigzag (to_z-of_z w64 c.unfold.result fits) ∙ c.unfold.ensures)

pub returns-clause-short : goal.returns-clause-short
returns-clause-short c =
    varint_short c.args.bytes.now c.in_ok-folded.rest.now c.in_ok-folded.folded c.unfold.result c.in_ok-folded.ensures c.unfold.ensures
