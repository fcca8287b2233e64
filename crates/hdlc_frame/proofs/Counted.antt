-- How a count grows with what it counts.
use Rattle.std.proofs.Common.{◌≡◌, ℕ, ◌+◌, Bool, true, false, cond, List, [], ◌∷◌, ◌++◌, length, count_by, ◌∙◌, ap, arith, length-append}
use Rattle.std.specs.Io.Iter.{u64_saturate}
use Rattle.std.proofs.lemmas.List.Sums.{sum_by-append}
use Rattle.hdlc_frame.specs.Counted.{one_more}

count_more : {X : Type 0} (p : X → Bool) (xs : List X) (x : X) → count_by p (xs ++ x ∷ []) ≡ count_by p xs + cond (p x) 1 0
count_more p xs x = sum_by-append (λ y. cond (p y) 1 0) xs (x ∷ []) ∙ omega arith

one_more_is : (n : ℕ) → u64_saturate (n + 1) ≡ one_more (u64_saturate n)
one_more_is n = omega arith

saturated_cond : (b : Bool) (n : ℕ) → u64_saturate (n + cond b 1 0) ≡ cond b (one_more (u64_saturate n)) (u64_saturate n)
saturated_cond true n = one_more_is n
saturated_cond false n = omega arith

pub saturated_if :
    {X : Type 0} (p : X → Bool) (xs : List X) (x : X) →
    u64_saturate (count_by p (xs ++ x ∷ [])) ≡ cond (p x) (one_more (u64_saturate (count_by p xs))) (u64_saturate (count_by p xs))
saturated_if p xs x = ap u64_saturate (count_more p xs x) ∙ saturated_cond (p x) (count_by p xs)

pub saturated_length : {X : Type 0} (xs : List X) (x : X) → u64_saturate (length (xs ++ x ∷ [])) ≡ one_more (u64_saturate (length xs))
saturated_length xs x = ap u64_saturate (length-append xs (x ∷ [])) ∙ one_more_is (length xs)
