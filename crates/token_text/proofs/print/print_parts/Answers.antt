use Rattle.std.proofs.Common.{◌≡◌, ◌+◌, ◌-◌, List, ◌++◌, ap, append_assoc, arith, drop, get_or, length, sym, ◌∙◌, subst}
use Rattle.std.proofs.Math.ListN.{drop_of_length-le}
use Rattle.std.proofs.lemmas.List.{drop_more}
use Rattle.token_text.specs.declared.part.Part.{Part}
use Rattle.token_text.specs.declared.part.Part.TheVariants as part
use Rattle.token_text.proofs.FormatLemmas.{is_nil, not_nil}
use Rattle.token_text.proofs.PrintLemmas.{PrintsTo, part_short, prints_done, prints_left, prints_left_stuck, prints_more, prints_only, prints_stuck, prints_wrong}
use Rattle.token_text.proofs.print.print_parts.Goals as goal

pub returns-in_default-clause-only : goal.returns-in_default-clause-only
returns-in_default-clause-only c args s =
    let parts = c.args.parts.now in
    let i = c.loop-part.part-index in
    let first : Part = get_or parts i (part.Byte 0) in
    let rest = c.loop-part.rest.now in
    let before = c.loop-part.invariant.printed in
    let P : List Part → Type 0 = λ ps. PrintsTo parts c.args.bytes.now ps rest before.0 in
    let prints = subst P (drop_more parts i (part.Byte 0) c.loop-part-test.true) before.2 in
    let none = rw c.in_default.is at c.in_ok-behind.ensures.none in
    absurd (prints_stuck parts c.args.bytes.now first (drop (i + 1) parts) rest before.0 args prints none s)

pub returns-in_default-clause-wrong : goal.returns-in_default-clause-wrong
returns-in_default-clause-wrong c at e =
    let parts = c.args.parts.now in
    let i = c.loop-part.part-index in
    let first : Part = get_or parts i (part.Byte 0) in
    let rest = c.loop-part.rest.now in
    let before = c.loop-part.invariant.printed in
    let P : List Part → Type 0 = λ ps. PrintsTo parts c.args.bytes.now ps rest before.0 in
    let prints = subst P (drop_more parts i (part.Byte 0) c.loop-part-test.true) before.2 in
    let none = rw c.in_default.is at c.in_ok-behind.ensures.none in
    let told : at ≡ c.offset.result = cc in
    (length c.args.bytes.now - length rest, told ∙ c.offset.ensures, prints_wrong parts c.args.bytes.now first (drop (i + 1) parts) rest before.0 prints none)

pub loop-part-preserved : goal.loop-part-preserved
loop-part-preserved c =
    let parts = c.args.parts.now in
    let i = c.loop-part.part-index in
    let first : Part = get_or parts i (part.Byte 0) in
    let rest = c.loop-part.rest.now in
    let before = c.loop-part.invariant.printed in
    let P : List Part → Type 0 = λ ps. PrintsTo parts c.args.bytes.now ps rest before.0 in
    let prints = subst P (drop_more parts i (part.Byte 0) c.loop-part-test.true) before.2 in
    let some = rw c.in-Some.is at c.in_ok-behind.ensures.some in
    let short = part_short first rest c.in-Some.behind.now some.0 some.2 in
    record {
      printed = (
        before.0 ++ some.0,
        some.1 ∙ (ap (λ l. l ++ some.0) before.1 ∙ append_assoc c.args.out.now.items before.0 some.0),
        prints_more parts c.args.bytes.now first (drop (i + 1) parts) rest c.in-Some.behind.now before.0 some.0 prints some.2,
      );
      near = omega (arith, short, c.loop-part.invariant.near);
    }

pub returns-then-not-is_empty-clause-wrong : goal.returns-then-not-is_empty-clause-wrong
returns-then-not-is_empty-clause-wrong c at e =
    let parts = c.args.parts.now in
    let rest = c.loop-part.rest.now in
    let before = c.loop-part.invariant.printed in
    let P : List Part → Type 0 = λ ps. PrintsTo parts c.args.bytes.now ps rest before.0 in
    let prints = subst P (drop_of_length-le parts c.loop-part-test.false) before.2 in
    let told : at ≡ c.offset-then-not-is_empty.result = cc in (
      length c.args.bytes.now - length rest,
      told ∙ c.offset-then-not-is_empty.ensures,
      prints_left parts c.args.bytes.now rest before.0 prints (not_nil rest c.is_empty.result c.is_empty.ensures c.if-not-is_empty.true),
    )

pub returns-then-not-is_empty-clause-only : goal.returns-then-not-is_empty-clause-only
returns-then-not-is_empty-clause-only c args s =
    let parts = c.args.parts.now in
    let rest = c.loop-part.rest.now in
    let before = c.loop-part.invariant.printed in
    let P : List Part → Type 0 = λ ps. PrintsTo parts c.args.bytes.now ps rest before.0 in
    let prints = subst P (drop_of_length-le parts c.loop-part-test.false) before.2 in
    absurd (prints_left_stuck parts c.args.bytes.now rest before.0 args prints (not_nil rest c.is_empty.result c.is_empty.ensures c.if-not-is_empty.true) s)

pub returns-clause-ok : goal.returns-clause-ok
returns-clause-ok c =
    let parts = c.args.parts.now in
    let rest = c.loop-part.rest.now in
    let before = c.loop-part.invariant.printed in
    let P : List Part → Type 0 = λ ps. PrintsTo parts c.args.bytes.now ps rest before.0 in
    let prints = subst P (drop_of_length-le parts c.loop-part-test.false) before.2 in
    let done = prints_done parts c.args.bytes.now rest before.0 prints (is_nil rest c.is_empty.result c.is_empty.ensures c.if-not-is_empty.false) in
    (done.0, done.1, before.1 ∙ ap (λ l. c.args.out.now.items ++ l) (sym done.2))

pub returns-clause-only : goal.returns-clause-only
returns-clause-only c args s =
    let parts = c.args.parts.now in
    let rest = c.loop-part.rest.now in
    let before = c.loop-part.invariant.printed in
    let P : List Part → Type 0 = λ ps. PrintsTo parts c.args.bytes.now ps rest before.0 in
    let prints = subst P (drop_of_length-le parts c.loop-part-test.false) before.2 in
    before.1 ∙ ap (λ l. c.args.out.now.items ++ l) (sym (prints_only parts c.args.bytes.now rest before.0 args prints s))
