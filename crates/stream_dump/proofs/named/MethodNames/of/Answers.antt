use Rattle.std.proofs.Common.{List, ap, sym, ◌∙◌, map, string_bytes, String, Global, Some, subst, arith}
use Rattle.std.proofs.lemmas.List.{take_all}
use Rattle.stream_dump.specs.Named.{IsNamed}
use Rattle.stream_dump.specs.Names.{Name, names_of}
use Rattle.stream_dump.proofs.NamedLemmas.{none_named, same_names}
use Rattle.stream_dump.proofs.named.MethodNames.of.Goals as goal

pub returns-in_err-named-clause-only : goal.returns-in_err-named-clause-only
returns-in_err-named-clause-only c names are =
    absurd (none_named c.args.words.now names c.loop-word.word-index c.word-item.result c.loop-word-test.true are.spelled are.good (λ name is.
    let word = c.as_bytes.ensures.value ∙ ap string_bytes c.word-item.is in
    c.in_err-named.ensures.only name (subst (λ w. IsNamed w name) (sym word) is)))

pub returns-clause-only : goal.returns-clause-only
returns-clause-only c names are =
    let whole = take_all c.loop-word.word-index c.args.words.now (omega arith) in
    ap (λ (l : List Name). Some l)
    (same_names (names_of c.loop-word.names.items) names c.loop-word.invariant.good are.good
    (sym c.loop-word.invariant.spelled ∙ ap (λ (l : List (String Global)). map string_bytes l) whole ∙ are.spelled))
