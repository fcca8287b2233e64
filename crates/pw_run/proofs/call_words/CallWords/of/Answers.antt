use Rattle.std.proofs.Common.{◌≡◌, ◌-◌, ◌∷◌, arith, IfNone, IfSome, ap, codes, drop, length, map, string_bytes, subst, sym, take, ◌∙◌}
use Rattle.std.proofs.lemmas.Slice.Eq.{bytes_eq-Decides}
use Rattle.pw_run.specs.CallCommand.{AreCall, IsNoCall}
use Rattle.pw_run.proofs.TrailingLemmas.{five_are, not_false}
use Rattle.pw_run.proofs.call_words.CallWords.of.Goals as goal

pub returns-clause-some : goal.returns-clause-some
returns-clause-some c =
    let words = c.args.words.now in
    let call : c.as_str.result.now ≡ codes "call" = (bytes_eq-Decides c.as_str.result.now (codes "call")).0 (not_false _ (sym c.ne.ensures ∙ c.if-ne.false)) in
    let shape : map string_bytes words ≡ codes "call" ∷ c.as_str-2.result.now ∷ c.as_str-3.result.now ∷ c.as_str-4.result.now ∷ c.as_str-5.result.now ∷ map string_bytes (take (length words - 5) (drop 5 words)) =
    cc (ap (map string_bytes) (five_are words c.index-words-0.result c.index-words-1.result c.index-words-2.result c.index-words-3.result c.index-words-4.result (omega (arith, c.if-words-lt5.false)) c.index-words-0.is c.index-words-1.is c.index-words-2.is c.index-words-3.is c.index-words-4.is), call, c.as_str.ensures.value, c.as_str-2.ensures.value, c.as_str-3.ensures.value, c.as_str-4.ensures.value, c.as_str-5.ensures.value) in
    subst (λ words. IfSome c.with_head.result (AreCall words)) (sym shape) c.with_head.ensures.some

pub returns-clause-none : goal.returns-clause-none
returns-clause-none c =
    let words = c.args.words.now in
    let call : c.as_str.result.now ≡ codes "call" = (bytes_eq-Decides c.as_str.result.now (codes "call")).0 (not_false _ (sym c.ne.ensures ∙ c.if-ne.false)) in
    let shape : map string_bytes words ≡ codes "call" ∷ c.as_str-2.result.now ∷ c.as_str-3.result.now ∷ c.as_str-4.result.now ∷ c.as_str-5.result.now ∷ map string_bytes (take (length words - 5) (drop 5 words)) =
    cc (ap (map string_bytes) (five_are words c.index-words-0.result c.index-words-1.result c.index-words-2.result c.index-words-3.result c.index-words-4.result (omega (arith, c.if-words-lt5.false)) c.index-words-0.is c.index-words-1.is c.index-words-2.is c.index-words-3.is c.index-words-4.is), call, c.as_str.ensures.value, c.as_str-2.ensures.value, c.as_str-3.ensures.value, c.as_str-4.ensures.value, c.as_str-5.ensures.value) in
    subst (λ words. IfNone c.with_head.result (IsNoCall words)) (sym shape) c.with_head.ensures.none
