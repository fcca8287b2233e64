use Rattle.std.proofs.Common.{◌≡◌, ◌≢◌, ℕ, ◌+◌, ◌-◌, ◌<◌, ◌++◌, ◌∷◌, ◌⊎◌, [], List, length, take, drop, get_or, get_or-drop, true, inl, inr, sym, ap, ◌∙◌, subst, arith}
use Rattle.std.proofs.lemmas.List.{length-drop, length-set, take_more_set, take_rest}
use Rattle.hdlc_frame.specs.declared.octets.TheConstants.{ESCAPE, FLAG}
use Rattle.hdlc_frame.proofs.Unescaping.{more_behind, more_escape}
use Rattle.hdlc_frame.proofs.unescape.unescape.Goals as goal

-- what stopped a run is an escape, if it isn't a flag
escape_at :
    (xs : List ℕ) (i n : ℕ) → i + n < length xs → get_or xs (i + n) 0 ≢ FLAG →
    ((n < length (take (length xs - i) (drop i xs))) →
    (get_or (take (length xs - i) (drop i xs)) n 0 ≡ FLAG) ⊎ (get_or (take (length xs - i) (drop i xs)) n 0 ≡ ESCAPE)) →
    get_or xs (i + n) 0 ≡ ESCAPE
escape_at xs i n below other stop =
    let rest = drop i xs in
    let all : take (length xs - i) rest ≡ rest = take_rest xs i in
    let same : get_or (take (length xs - i) rest) n 0 ≡ get_or xs (i + n) 0 = ap (λ l. get_or l n 0) all ∙ get_or-drop i xs n 0 in
    let long : length (take (length xs - i) rest) ≡ length xs - i = ap length all ∙ length-drop i xs in
    elim (stop (omega (arith, long))) [
      | inl flag ↦ absurd (other (sym same ∙ flag))
      | inr escape ↦ sym same ∙ escape
    ]

pub returns-then-at-octets-clause-reads : goal.returns-then-at-octets-clause-reads
returns-then-at-octets-clause-reads c =
    let octets = c.args.octets.now in
    let l = c.escapes in
    let n = c.copy_run-run.result in
    let next = c.in-Some.ensures.some in
    let run = c.copy_run-run.ensures in
    let has : l.end < length l.buffer = let room = l.invariant.room in let same = l.invariant.same in let below = next.0 in omega arith in
    let behind : l.end + (1 + n) ≡ l.end + 1 + n = omega arith in
    more_behind true octets (take (length octets - (l.at + 1)) (drop (l.at + 1) octets)) _ (take l.end l.buffer) _ _ l.at n next.0 l.invariant.reads next.1 next.2
    (take_more_set l.buffer l.end _ has ∙ ap (λ meant. take l.end l.buffer ++ meant ∷ []) next.3) (take_rest octets (l.at + 1)) run.ordinary
    (ap (λ k. take k c.copy_run-run.new.buffer) behind ∙ run.copied)

pub escapes-preserved : goal.escapes-preserved
escapes-preserved c =
    let octets = c.args.octets.now in
    let l = c.escapes in
    let n = c.copy_run-run.result in
    let next = c.in-Some.ensures.some in
    let run = c.copy_run-run.ensures in
    let has : l.end < length l.buffer = let room = l.invariant.room in let same = l.invariant.same in let below = next.0 in omega arith in
    let behind : l.end + (1 + n) ≡ l.end + 1 + n = omega arith in
    let short = run.within in
    let long = length-drop (l.at + 1) octets in
    let all = ap length (take_rest octets (l.at + 1)) in
    let at : l.at + 1 + n ≡ l.at + (1 + n) = omega arith in
    let below : l.at + (1 + n) < length octets = let not_end = c.if-at-octets.false in let some = next.0 in omega (arith, short, long, all) in
    let P : ℕ → Type 0 = λ k. get_or octets k 0 ≡ ESCAPE in
    let Q : ℕ → Type 0 = λ k. get_or octets k 0 ≢ FLAG in
    record {
      within = omega arith;
      room = let room = l.invariant.room in omega arith;
      same = let same = l.invariant.same in omega (arith, length-set l.buffer l.end c.in-Some.meant);
      reads =
          more_escape true octets _ _ (l.at + (1 + n)) below
          (more_behind true octets (take (length octets - (l.at + 1)) (drop (l.at + 1) octets)) _ (take l.end l.buffer) _ _ l.at n next.0 l.invariant.reads
          next.1 next.2 (take_more_set l.buffer l.end _ has ∙ ap (λ meant. take l.end l.buffer ++ meant ∷ []) next.3) (take_rest octets (l.at + 1))
          run.ordinary (ap (λ k. take k c.copy_run-run.new.buffer) behind ∙ run.copied))
          (subst P at (escape_at octets (l.at + 1) n (omega arith) (subst Q (sym at) c.if-octets-at-eq-FLAG.false) run.stop));
    }
