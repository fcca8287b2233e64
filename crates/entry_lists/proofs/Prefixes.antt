-- Beginnings of one list.
use Rattle.std.proofs.Common.{◌≡◌, ℕ, zero, suc, ◌≤◌, List, [], ◌∷◌, ◌++◌, length, Some, slice_get, refl, ap, sym, ◌∙◌, arith, append_assoc, length-append}
use Rattle.std.proofs.lemmas.List.{append-nil}
use mathlib.Core.Option.{some}
use mathlib.Core.List.{IsPrefix}
use lib.ListN.{get_elem?}

module _ {E : Type 0} where
  pub prefix_self : (entries : List E) → IsPrefix entries entries
  prefix_self entries = ([], append-nil entries)

  pub prefix_append : (first second : List E) → IsPrefix first (first ++ second)
  prefix_append first second = (second, refl)

  pub prefix_trans : (first second third : List E) → IsPrefix first second → IsPrefix second third → IsPrefix first third
  prefix_trans first second third p q = (p.0 ++ q.0, sym (append_assoc first p.0 q.0) ∙ (ap (λ w. w ++ q.0) p.1 ∙ q.1))

  -- what begins a list begins a longer one
  pub prefix_longer : (front whole more : List E) → IsPrefix front whole → IsPrefix front (whole ++ more)
  prefix_longer front whole more p = prefix_trans front whole (whole ++ more) p (prefix_append whole more)

  pub prefix_shorter : (first second whole : List E) → IsPrefix first whole → IsPrefix second whole → length first ≤ length second → IsPrefix first second
  prefix_shorter [] second whole p q le = (second, refl)
  prefix_shorter (x ∷ xs) [] whole p q le = absurd (omega arith)
  prefix_shorter (x ∷ xs) (y ∷ ys) [] p q le = absurd (cc (p.1))
  prefix_shorter (x ∷ xs) (y ∷ ys) (z ∷ zs) p q le =
      let heads : x ≡ y = cc (p.1, q.1) in
      let rest = prefix_shorter xs ys zs (p.0, cc (p.1)) (q.0, cc (q.1)) (omega arith) in
      (rest.0, cc (heads, rest.1))

  pub prefix_whole : (front whole : List E) → IsPrefix front whole → length whole ≤ length front → front ≡ whole
  prefix_whole [] [] p le = refl
  prefix_whole [] (y ∷ ys) p le = absurd (omega arith)
  prefix_whole (x ∷ xs) [] p le = absurd (cc (p.1))
  prefix_whole (x ∷ xs) (y ∷ ys) p le =
      let rest = prefix_whole xs ys (p.0, cc (p.1)) (omega arith) in
      cc (p.1, rest)

  pub prefix_length : (front whole : List E) → IsPrefix front whole → length front ≤ length whole
  prefix_length front whole p = omega (arith, sym (ap length p.1) ∙ length-append front p.0)

  pub prefix_get : (front whole : List E) (place : ℕ) (e : E) → IsPrefix front whole → slice_get front place ≡ Some e → slice_get whole place ≡ Some e
  prefix_get [] whole place e p h = absurd cc
  prefix_get (y ∷ ys) [] place e p h = absurd (cc (p.1))
  prefix_get (y ∷ ys) (z ∷ zs) zero e p h = cc (p.1, h)
  prefix_get (y ∷ ys) (z ∷ zs) (suc place) e p h = prefix_get ys zs place e (p.0, cc (p.1)) h

  -- the same, in the other way to read a list
  pub prefix_at : (front whole : List E) (place : ℕ) (e : E) → IsPrefix front whole → get_elem? front place ≡ some e → get_elem? whole place ≡ some e
  prefix_at [] whole place e p h = absurd cc
  prefix_at (y ∷ ys) [] place e p h = absurd (cc (p.1))
  prefix_at (y ∷ ys) (z ∷ zs) zero e p h = cc (p.1, h)
  prefix_at (y ∷ ys) (z ∷ zs) (suc place) e p h = prefix_at ys zs place e (p.0, cc (p.1)) h
