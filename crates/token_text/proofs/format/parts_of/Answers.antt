use Rattle.std.proofs.Common.{List, sym, subst}
use Rattle.token_text.specs.declared.part.Part.{Part}
use Rattle.token_text.proofs.FormatLemmas.{HasFirst, Remaining, remaining_end, remaining_more}
use Rattle.token_text.proofs.format.parts_of.Goals as goal

pub parts-preserved : goal.parts-preserved
parts-preserved c ps h =
    let first : HasFirst c.parts.rest.now c.in-Some.part c.in-Some.behind.now = record {
      allowed = c.in-Some.ensures.some.0;
      whole = c.in-Some.ensures.some.1;
      only = λ q r allowed whole. let same = c.in-Some.ensures.only q r allowed whole in (sym same.0, sym same.1);
    } in
    let more = remaining_more c.parts.rest.now c.parts.parts.items ps c.in-Some.part c.in-Some.behind.now first (c.parts.invariant ps h) in
    let P : List Part → Type 0 = λ seen. Remaining c.in-Some.behind.now seen ps in
    subst P (sym c.in_ok-push.ensures.items) more

pub returns : goal.returns
returns c ps h = remaining_end c.parts.rest.now c.parts.parts.items ps (λ q r allowed whole. c.in_default.ensures.only q r allowed whole) (c.parts.invariant ps h)
