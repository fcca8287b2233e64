use Rattle.std.proofs.Common.{◌≡◌, ◌-◌, ◌∷◌, codes, drop, take, length, map, string_bytes, ap, sym, ◌∙◌}
use Rattle.std.proofs.lemmas.Slice.Eq.{bytes_eq-Decides}
use Rattle.pw_run.proofs.FirstWords.{first_and_rest}
use Rattle.pw_run.proofs.command.Command.of.Goals as goal

pub returns-in_ok-of-in-len1-up-clause-some : goal.returns-in_ok-of-in-len1-up-clause-some
returns-in_ok-of-in-len1-up-clause-some c =
    let words = c.args.words.now in
    let more = map string_bytes (take (length words - 1) (drop 1 words)) in
    let word : string_bytes c.word-item.result ≡ codes "dump" =
    sym c.as_str.ensures.value ∙ (bytes_eq-Decides c.as_str.result.now (codes "dump")).0 (sym c.eq.ensures ∙ c.if-eq.true)
    in
    (more, first_and_rest words c.word-item.result c.in-len1-up.len_at_least c.word-item.is ∙ ap (λ w. w ∷ more) word, c.in_ok-of-in-len1-up.ensures.some)
