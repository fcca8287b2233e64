use Rattle.std.proofs.Common.{◌++◌, ◌∷◌, [], ap, refl, string_bytes, subst, sym, ◌∙◌}
use Rattle.pw_run.specs.Payload.{IsPayload}
use Rattle.pw_run.proofs.CallLemmas.{tell_next, word_tells}
use Rattle.pw_run.proofs.call_words.tell_each.Goals as goal

pub returns-then-not-is_payload-clause-only : goal.returns-then-not-is_payload-clause-only
returns-then-not-is_payload-clause-only c = λ told tells.
    let found = word_tells c.args.words.now told c.loop-word.word-index c.word-item.result c.loop-word-test.true tells in
    let word = c.as_str.ensures.value ∙ ap string_bytes c.word-item.is in
    c.if-not-is_payload.ensures.only found.0 (subst (λ w. IsPayload w found.0) (sym word) found.1)

pub loop-word-preserved : goal.loop-word-preserved
loop-word-preserved c =
    let before = c.loop-word.invariant in
    let found = c.if-not-is_payload.ensures.some refl in
    let word = c.as_str.ensures.value ∙ ap string_bytes c.word-item.is in (
      before.0 ++ found.0 ∷ [],
      tell_next c.args.words.now before.0 c.loop-word.word-index c.word-item.result found.0 c.loop-word-test.true before.1 (subst (λ w. IsPayload w found.0) word found.1),
    )
