use Rattle.std.proofs.Common.{◌++◌, ap, codes, length, map, refl, string_bytes, subst, sym, ◌∙◌}
use Rattle.std.proofs.lemmas.List.{length-map}
use Rattle.pw_run.specs.CallCommand.{FitsKind, TellEach}
use Rattle.pw_run.specs.Trailing.{named_number}
use Rattle.pw_run.proofs.CallLemmas.{no_limit, no_within, told_length}
use Rattle.pw_run.proofs.call_words.said_behind.Goals as goal

pub returns-in_err-limited-clause-only : goal.returns-in_err-limited-clause-only
returns-in_err-limited-clause-only c = λ payloads limit within is.
    absurd (c.in_err-limited.ensures.only (payloads ++ named_number (codes "limit") limit) within is.spelled is.timed (no_within payloads is.told limit is.tell))

pub returns-in_err-payloads-clause-only : goal.returns-in_err-payloads-clause-only
returns-in_err-payloads-clause-only c = λ payloads limit within is.
    let first = c.in_ok-limited.ensures.only (payloads ++ named_number (codes "limit") limit) within is.spelled is.timed (no_within payloads is.told limit is.tell) in
    absurd (c.in_err-payloads.ensures.only payloads limit first.0 is.limited (no_limit payloads is.told is.tell))

pub returns-then-not-fits_kind-clause-only : goal.returns-then-not-fits_kind-clause-only
returns-then-not-fits_kind-clause-only c = λ payloads limit within is.
    let first = c.in_ok-limited.ensures.only (payloads ++ named_number (codes "limit") limit) within is.spelled is.timed (no_within payloads is.told limit is.tell) in
    let second = c.in_ok-payloads.ensures.only payloads limit first.0 is.limited (no_limit payloads is.told is.tell) in
    c.if-not-fits_kind.ensures.only
    (subst (FitsKind c.args.kind) (told_length payloads is.told is.tell ∙ (ap length (sym second.0) ∙ length-map c.in_ok-payloads.payloads.now string_bytes)) is.fits)

pub returns-then-not-tell_each-clause-only : goal.returns-then-not-tell_each-clause-only
returns-then-not-tell_each-clause-only c = λ payloads limit within is.
    let first = c.in_ok-limited.ensures.only (payloads ++ named_number (codes "limit") limit) within is.spelled is.timed (no_within payloads is.told limit is.tell) in
    let second = c.in_ok-payloads.ensures.only payloads limit first.0 is.limited (no_limit payloads is.told is.tell) in
    c.if-not-tell_each.ensures.only is.told (subst (λ words. TellEach words is.told) (sym second.0) is.tell)

pub returns-clause-some : goal.returns-clause-some
returns-clause-some c =
    let first = c.in_ok-limited.ensures.some in
    let second = c.in_ok-payloads.ensures.some in
    let each = c.if-not-tell_each.ensures.some refl in
    record {
      spelled = first.0 ∙ ap (λ front. front ++ named_number (codes "within") c.in_ok-limited.within) second.0;
      told = each.0;
      tell = each.1;
      fits =
          subst (FitsKind c.args.kind) (sym (told_length (map string_bytes c.in_ok-payloads.payloads.now) each.0 each.1 ∙ length-map c.in_ok-payloads.payloads.now string_bytes))
          (c.if-not-fits_kind.ensures.some refl);
      limited = second.1;
      timed = first.1;
    }
