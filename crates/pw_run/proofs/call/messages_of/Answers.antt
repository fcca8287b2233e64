use Rattle.std.proofs.Common.{arith, ap, map, string_bytes, subst, sym, take, ◌+◌, ◌∙◌}
use Rattle.std.proofs.lemmas.List.{take_all}
use Rattle.pw_run.specs.CallCommand.{TellEach}
use Rattle.pw_run.specs.Payload.{IsPayload}
use Rattle.pw_run.proofs.CallLemmas.{each_same, tell_next, word_tells}
use Rattle.pw_run.proofs.call.messages_of.Goals as goal

pub read_payload-requires : goal.read_payload-requires
read_payload-requires c =
    let found = word_tells c.args.words.now c.requires.0 c.loop-word.word-index c.word-item.result c.loop-word-test.true c.requires.1 in
    (found.0, subst (λ w. IsPayload w found.0) (sym (c.as_str.ensures.value ∙ ap string_bytes c.word-item.is)) found.1)

pub loop-word-preserved : goal.loop-word-preserved
loop-word-preserved c =
    let word = c.as_str.ensures.value ∙ ap string_bytes c.word-item.is in
    subst (TellEach (map string_bytes (take (c.loop-word.word-index + 1) c.args.words.now))) (sym c.in_ok-push.ensures.ok)
    (tell_next c.args.words.now c.loop-word.messages c.loop-word.word-index c.word-item.result c.in_ok-read_payload.field-0 c.loop-word-test.true c.loop-word.invariant
    (subst (λ w. IsPayload w c.in_ok-read_payload.field-0) word c.in_ok-read_payload.ensures.told))

pub returns : goal.returns
returns c = λ told tells.
    let whole = take_all c.loop-word.word-index c.args.words.now (omega (arith, c.loop-word-test.false)) in
    each_same (map string_bytes c.args.words.now) c.loop-word.messages told (subst (λ xs. TellEach (map string_bytes xs) c.loop-word.messages) whole c.loop-word.invariant) tells
