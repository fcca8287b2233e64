-- Places of a slab that change, one or all.
use Rattle.std.proofs.Common.{◌≡◌, ◌⊎◌, ℕ, true, cond, Option, Some, None, is_some, refl, ap, inl, inr, arith}
use Rattle.std.proofs.lemmas.List.Sums.{sum_by-set}
use Rattle.slab.specs.Slab.{Slab, get, ContainsKey, slab_len, with_value}
use Rattle.slab.proofs.SlabLemmas.{ContainsKey-within}

-- an option is one of the two
pub some_or_none : {A : Type 0} → (o : Option A) → (o ≡ None) ⊎ ((x : A) × (o ≡ Some x))
some_or_none None = inl refl
some_or_none (Some x) = inr (x, refl)

pub there : {A : Type 0} → (o : Option A) (x : A) → o ≡ Some x → is_some o ≡ true
there o x found = ap is_some found

-- a value in the place of another leaves the count
pub slab_len-with_value : {T : Type 0} → (s : Slab T) (key : ℕ) (value : T) → ContainsKey s key → slab_len (with_value s key value) ≡ slab_len s
slab_len-with_value s key value present =
    let one : ℕ = 1 in
    let before : cond (is_some (get s key)) 1 0 ≡ one = ap (λ b. cond b 1 0) present in
    omega (arith, before, sum_by-set (λ o. cond (is_some o) 1 0) s.slots key (Some value) None (ContainsKey-within s key present))
