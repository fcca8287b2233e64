-- The pieces of a resource in order, and how a sender cuts windows into them.
use Rattle.std.proofs.Common.{◌≡◌, ℕ, zero, suc, ◌+◌, ◌-◌, ◌*◌, ◌<◌, ◌≤◌, nat_le, min, Bool, true, false, List, [], ◌∷◌, ◌++◌, length, refl, ap, ◌∙◌, arith}
use Rattle.std.proofs.Math.Nat.{mul-le-mul_right}
use Rattle.std.proofs.lemmas.Bool.Decides.{nat_tests}
use Rattle.transfer_base.specs.declared.Piece.{Piece}
use Rattle.transfer_base.specs.PieceLists.{end_of}
use Rattle.transfer_sender.specs.Cut.{piece_at, pieces_up_to}
use Rattle.transfer_sender.proofs.CutLemmas.{pieces_up_to-done, pieces_up_to-suc, length-piece_at}
use Rattle.transfer_words.specs.Word.{Word, data_comes}
use Rattle.transfer_words.specs.CoreAnswers.{said_pieces}
use Rattle.transfer_laws.specs.pairs.Pair.{words_of}
use Rattle.transfer_laws.proofs.pairs.Grid.{Grid, one_more}

module _ (bytes : List ℕ) (o c : ℕ) where
  -- the piece of a number
  abbrev pub part : ℕ → Piece
  part i = piece_at bytes (o + i * c) (min c (length bytes - (o + i * c)))

  -- so many pieces, from one on
  abbrev pub parts_from : ℕ → ℕ → List Piece
  parts_from i zero = []
  parts_from i (suc d) = part i ∷ parts_from (suc i) d

  -- the words that tell them
  abbrev pub data_from : ℕ → ℕ → List Word
  data_from i zero = []
  data_from i (suc d) = data_comes (part i) ∷ data_from (suc i) d

  pub said_parts : (i d : ℕ) → words_of (said_pieces (parts_from i d)) ≡ data_from i d
  said_parts i zero = refl
  said_parts i (suc d) = ap (λ ws. data_comes (part i) ∷ ws) (said_parts (suc i) d)

  pub length-data : (i d : ℕ) → length (data_from i d) ≡ d
  length-data i zero = refl
  length-data i (suc d) = ap suc (length-data (suc i) d)

  pub data_joins : (i d j k t : ℕ) → j ≡ i + d → t ≡ d + k → data_from i d ++ data_from j k ≡ data_from i t
  data_joins i zero j k t at total =
      let from : j ≡ i = omega (arith, at) in
      let all : k ≡ t = omega (arith, total) in
      ap (λ x. data_from x k) from ∙ ap (λ x. data_from i x) all
  data_joins i (suc d) j k zero at total = absurd (omega (arith, total))
  data_joins i (suc d) j k (suc t) at total = ap (λ ws. data_comes (part i) ∷ ws) (data_joins (suc i) d j k t (omega (arith, at)) (omega (arith, total)))

  module _ (big : ℕ) (some : 1 ≤ c) (g : Grid (length bytes) o c big) where
    -- piece i begins within the resource, unless it is the empty one
    pub below : (i : ℕ) → 1 ≤ i → i < big → o + i * c < length bytes
    below = g.inner

    pub begins_within : (i : ℕ) → i < big → o + i * c ≤ length bytes
    begins_within zero h = let w = g.within in omega arith
    begins_within (suc i) h = let w = g.inner (suc i) (omega arith) h in omega (arith, w)

    pub size_of : (i : ℕ) → i < big → length (part i).bytes ≡ min c (length bytes - (o + i * c))
    size_of i h = length-piece_at bytes (o + i * c) (min c (length bytes - (o + i * c))) (omega (arith, begins_within i h))

    -- past all pieces a sender stands at the end of its resource
    at_end : (j : ℕ) → big ≤ j → length bytes ≤ o + j * c
    at_end j h = let up : big * c ≤ j * c = mul-le-mul_right c h in let out = g.outer in omega (arith, up, out)

    stops : (mid j : ℕ) → j ≡ min mid big → min (o + mid * c) (length bytes) ≤ min (o + j * c) (length bytes)
    stops mid j e = by_test (nat_le mid big) refl
      where
        by_test : (b : Bool) → nat_le mid big ≡ b → min (o + mid * c) (length bytes) ≤ min (o + j * c) (length bytes)
        by_test true t =
            let less : mid ≤ big = grind (arith, nat_tests) in
            let up : mid * c ≤ j * c = mul-le-mul_right c (omega (arith, less, e)) in
            omega (arith, up)
        by_test false t =
            let more : big < mid = grind (arith, nat_tests) in
            omega (arith, at_end j (omega (arith, more, e)))

    -- a window from piece j up to the end of piece mid is cut into just these pieces
    pub cut : (mid cnt j most : ℕ) → j + cnt ≡ min mid big → cnt ≤ most → (j < big → o + j * c < length bytes) →
        pieces_up_to bytes c (min (o + mid * c) (length bytes)) (min (o + j * c) (length bytes)) most ≡ parts_from j cnt
    cut mid zero j most e few ok = pieces_up_to-done bytes c (min (o + mid * c) (length bytes)) (min (o + j * c) (length bytes)) most (stops mid j (omega (arith, e)))
    cut mid (suc cnt) j zero e few ok = absurd (omega (arith, few))
    cut mid (suc cnt) j (suc most) e few ok =
        let stop = min (o + mid * c) (length bytes) in
        let here = ok (omega (arith, e)) in
        let up : suc j * c ≤ mid * c = mul-le-mul_right c (omega (arith, e)) in
        let more = one_more j c in
        let at : min (o + j * c) (length bytes) ≡ o + j * c = omega (arith, here) in
        let under : o + j * c < stop = omega (arith, here, up, more, some) in
        let size : min c (stop - (o + j * c)) ≡ min c (length bytes - (o + j * c)) = omega (arith, here, up, more) in
        let next : o + j * c + min c (length bytes - (o + j * c)) ≡ min (o + suc j * c) (length bytes) = omega (arith, here, more) in
        ap (λ a. pieces_up_to bytes c stop a (suc most)) at
        ∙ (pieces_up_to-suc bytes c stop (o + j * c) most under
        ∙ (ap (λ z. piece_at bytes (o + j * c) z ∷ pieces_up_to bytes c stop (o + j * c + z) most) size
        ∙ (ap (λ a. part j ∷ pieces_up_to bytes c stop a most) next
        ∙ ap (λ ps. part j ∷ ps) (cut mid cnt (suc j) most (omega (arith, e)) (omega (arith, few)) (λ h. g.inner (suc j) (omega arith) h)))))

    pub end_parts : (cnt j t : ℕ) → t ≡ j + cnt → t ≤ big → end_of (min (o + j * c) (length bytes)) (parts_from j cnt) ≡ min (o + t * c) (length bytes)
    end_parts zero j t e high = let same : j ≡ t = omega (arith, e) in ap (λ x. min (o + x * c) (length bytes)) same
    end_parts (suc cnt) j t e high =
        let here = begins_within j (omega (arith, e, high)) in
        let size = size_of j (omega (arith, e, high)) in
        let more = one_more j c in
        let next : min (o + j * c) (length bytes) + length (part j).bytes ≡ min (o + suc j * c) (length bytes) = omega (arith, here, size, more) in
        ap (λ a. end_of a (parts_from (suc j) cnt)) next ∙ end_parts cnt (suc j) t (omega (arith, e)) high
