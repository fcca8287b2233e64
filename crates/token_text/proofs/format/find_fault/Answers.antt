use Rattle.std.proofs.Common.{◌≡◌, ◌+◌, ◌<◌, ◌≤◌, ℕ, ap, sym, ◌∙◌, subst}
use Rattle.token_text.specs.Format.{counted, is_argument, wrong, long}
use Rattle.token_text.proofs.FormatLemmas.{HasFirst, LeadsOn, first_not_empty, is_nil, leads_done, leads_more, leads_stuck, leads_wrong, not_nil, too_many, weight_of}
use Rattle.token_text.proofs.format.find_fault.Goals as goal

pub returns-then-arguments-taken-gt-MAX_ARGUMENTS-clause-fault : goal.returns-then-arguments-taken-gt-MAX_ARGUMENTS-clause-fault
returns-then-arguments-taken-gt-MAX_ARGUMENTS-clause-fault c =
    let rest = c.parts.rest.now in
    let first : HasFirst rest c.in-Some.part c.in-Some.behind.now = record {
      allowed = c.in-Some.ensures.some.0;
      whole = c.in-Some.ensures.some.1;
      only = λ q r allowed whole. let same = c.in-Some.ensures.only q r allowed whole in (sym same.0, sym same.1);
    } in
    let taken : c.from-taken.result ≡ counted (is_argument c.in-Some.part) = c.from-taken.ensures ∙ (weight_of c.is_argument.result ∙ ap counted c.is_argument.ensures) in
    let many : 16 < c.parts.arguments + counted (is_argument c.in-Some.part) = subst (λ n. 16 < c.parts.arguments + n) taken c.if-arguments-taken-gt-MAX_ARGUMENTS.true in
    let none = too_many rest c.in-Some.part c.in-Some.behind.now c.parts.arguments first c.parts.invariant.few many in
    wrong c.args.text.now _ (leads_wrong c.args.text.now c.parts.arguments rest c.parts.invariant (first_not_empty rest c.in-Some.part c.in-Some.behind.now first) none)

pub returns-then-arguments-taken-gt-MAX_ARGUMENTS-clause-only : goal.returns-then-arguments-taken-gt-MAX_ARGUMENTS-clause-only
returns-then-arguments-taken-gt-MAX_ARGUMENTS-clause-only c ps h =
    let rest = c.parts.rest.now in
    let first : HasFirst rest c.in-Some.part c.in-Some.behind.now = record {
      allowed = c.in-Some.ensures.some.0;
      whole = c.in-Some.ensures.some.1;
      only = λ q r allowed whole. let same = c.in-Some.ensures.only q r allowed whole in (sym same.0, sym same.1);
    } in
    let taken : c.from-taken.result ≡ counted (is_argument c.in-Some.part) = c.from-taken.ensures ∙ (weight_of c.is_argument.result ∙ ap counted c.is_argument.ensures) in
    let many : 16 < c.parts.arguments + counted (is_argument c.in-Some.part) = subst (λ n. 16 < c.parts.arguments + n) taken c.if-arguments-taken-gt-MAX_ARGUMENTS.true in
    let none = too_many rest c.in-Some.part c.in-Some.behind.now c.parts.arguments first c.parts.invariant.few many in
    absurd (leads_stuck c.args.text.now c.parts.arguments rest ps c.parts.invariant (first_not_empty rest c.in-Some.part c.in-Some.behind.now first) none h.parts_are)

pub parts-preserved : goal.parts-preserved
parts-preserved c =
    let rest = c.parts.rest.now in
    let first : HasFirst rest c.in-Some.part c.in-Some.behind.now = record {
      allowed = c.in-Some.ensures.some.0;
      whole = c.in-Some.ensures.some.1;
      only = λ q r allowed whole. let same = c.in-Some.ensures.only q r allowed whole in (sym same.0, sym same.1);
    } in
    let taken : c.from-taken.result ≡ counted (is_argument c.in-Some.part) = c.from-taken.ensures ∙ (weight_of c.is_argument.result ∙ ap counted c.is_argument.ensures) in
    let P : ℕ → Type 0 = λ n. LeadsOn c.args.text.now (c.parts.arguments + n) c.in-Some.behind.now in
    let few = subst (λ n. c.parts.arguments + n ≤ 16) taken c.if-arguments-taken-gt-MAX_ARGUMENTS.false in
    subst P (sym taken) (leads_more c.args.text.now c.parts.arguments rest c.in-Some.part c.in-Some.behind.now c.parts.invariant first few)

pub returns-then-not-is_empty-clause-fault : goal.returns-then-not-is_empty-clause-fault
returns-then-not-is_empty-clause-fault c =
    let rest = c.parts.rest.now in
    let more = not_nil rest c.is_empty.result c.is_empty.ensures c.if-not-is_empty.true in
    wrong c.args.text.now _ (leads_wrong c.args.text.now c.parts.arguments rest c.parts.invariant more (λ q r allowed whole. absurd (c.in_default.ensures.only q r allowed whole)))

pub returns-then-not-is_empty-clause-only : goal.returns-then-not-is_empty-clause-only
returns-then-not-is_empty-clause-only c ps h =
    let rest = c.parts.rest.now in
    let more = not_nil rest c.is_empty.result c.is_empty.ensures c.if-not-is_empty.true in
    absurd (leads_stuck c.args.text.now c.parts.arguments rest ps c.parts.invariant more (λ q r allowed whole. absurd (c.in_default.ensures.only q r allowed whole)) h.parts_are)

pub returns-then-text-gt-MAX_LENGTH-clause-fault : goal.returns-then-text-gt-MAX_LENGTH-clause-fault
returns-then-text-gt-MAX_LENGTH-clause-fault c =
    let rest = c.parts.rest.now in
    let done = leads_done c.args.text.now c.parts.arguments rest c.parts.invariant (is_nil rest c.is_empty.result c.is_empty.ensures c.if-not-is_empty.false) in
    long c.args.text.now done.0 done.1 c.if-text-gt-MAX_LENGTH.true

pub returns-clause-format : goal.returns-clause-format
returns-clause-format c =
    let rest = c.parts.rest.now in
    let done = leads_done c.args.text.now c.parts.arguments rest c.parts.invariant (is_nil rest c.is_empty.result c.is_empty.ensures c.if-not-is_empty.false) in
    (done.0, record { parts_are = done.1; short = c.if-text-gt-MAX_LENGTH.false })
