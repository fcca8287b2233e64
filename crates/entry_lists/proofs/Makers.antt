-- The entries of one maker, and lists that one maker goes on with.
use Rattle.std.proofs.Common.{◌≡◌, ◌≢◌, ℕ, ◌<◌, ◌≤◌, ◌==◌, Bool, true, false, cond, List, [], ◌∷◌, ◌++◌, refl, ap, sym, ◌∙◌, subst, arith, append_assoc, eq-eqb, ne_eqb, lt_of_not-le}
use Rattle.std.proofs.lemmas.List.{append-nil, append_cancel_left}
use Rattle.std.proofs.lemmas.List.Elements.{filter-append}
use Rattle.std.proofs.lemmas.Bool.Decides.{nat_tests}
use Rattle.std.specs.List.{AllByRecursion}
use mathlib.Core.List.{IsPrefix}
use Rattle.entry_lists.specs.Entries.{made_by, AllBy, GoesOn}

module _ {E : Type 0} (P : E → Type 0) where
  pub all_append : (xs ys : List E) → AllByRecursion P xs → AllByRecursion P ys → AllByRecursion P (xs ++ ys)
  all_append [] ys p q = q
  all_append (x ∷ xs) ys p q = (p.0, all_append xs ys p.1 q)

  pub all_first : (xs ys : List E) → AllByRecursion P (xs ++ ys) → AllByRecursion P xs
  all_first [] ys p = tt
  all_first (x ∷ xs) ys p = (p.0, all_first xs ys p.1)

  pub all_second : (xs ys : List E) → AllByRecursion P (xs ++ ys) → AllByRecursion P ys
  all_second [] ys p = p
  all_second (x ∷ xs) ys p = all_second xs ys p.1

module _ {E : Type 0} (maker : E → ℕ) where
  pub made_by-append : (number : ℕ) (first second : List E) → made_by maker number (first ++ second) ≡ made_by maker number first ++ made_by maker number second
  made_by-append number first second = filter-append (λ e. maker e == number) first second

  own_case : (number : ℕ) (e : E) (rest : List E) → AllBy maker number rest → (b : Bool) → (maker e == number) ≡ b → AllBy maker number (cond b (e ∷ rest) rest)
  own_case number e rest all true is = (grind (arith, nat_tests), all)
  own_case number e rest all false is = all

  pub made_by-own : (number : ℕ) (entries : List E) → AllBy maker number (made_by maker number entries)
  made_by-own number [] = tt
  made_by-own number (e ∷ es) = own_case number e (made_by maker number es) (made_by-own number es) (maker e == number) refl

  pub made_by-all : (number : ℕ) (entries : List E) → AllBy maker number entries → made_by maker number entries ≡ entries
  made_by-all number [] all = refl
  made_by-all number (e ∷ es) all = rw (eq-eqb (maker e) number all.0) (ap (λ w. e ∷ w) (made_by-all number es all.1))

  pub made_by-other : (number other : ℕ) (entries : List E) → AllBy maker number entries → other ≢ number → made_by maker other entries ≡ []
  made_by-other number other [] all ne = refl
  made_by-other number other (e ∷ es) all ne = rw (ne_eqb (maker e) other (λ is. ne (sym is ∙ all.0))) (made_by-other number other es all.1 ne)

  pub made_by-one : (number : ℕ) (e : E) → maker e ≡ number → made_by maker number (e ∷ []) ≡ e ∷ []
  made_by-one number e is = made_by-all number (e ∷ []) (is, tt)

  pub none_behind : (number : ℕ) (seen rest : List E) → made_by maker number (seen ++ rest) ≡ made_by maker number seen → made_by maker number rest ≡ []
  none_behind number seen rest same =
      append_cancel_left (made_by maker number seen) (made_by maker number rest) []
      (sym (made_by-append number seen rest) ∙ (same ∙ sym (append-nil (made_by maker number seen))))

  pub made_by-prefix : (number : ℕ) (front whole : List E) → IsPrefix front whole → IsPrefix (made_by maker number front) (made_by maker number whole)
  made_by-prefix number front whole p = (made_by maker number p.0, sym (made_by-append number front p.0) ∙ ap (λ w. made_by maker number w) p.1)

  rest_case : (P : E → Type 0) (e : E) (rest : List E) (b : Bool) → AllByRecursion P (cond b (e ∷ rest) rest) → AllByRecursion P rest
  rest_case P e rest true all = all.1
  rest_case P e rest false all = all

  pub all_by_maker : (P : E → Type 0) (entries : List E) → ((number : ℕ) → AllByRecursion P (made_by maker number entries)) → AllByRecursion P entries
  all_by_maker P [] each = tt
  all_by_maker P (e ∷ es) each = (
    (subst (λ b. AllByRecursion P (cond b (e ∷ made_by maker (maker e) es) (made_by maker (maker e) es))) (eq-eqb (maker e) (maker e) refl) (each (maker e))).0,
    all_by_maker P es (λ number. rest_case P e (made_by maker number es) (maker e == number) (each number)),
  )

  none_case : (e : E) (rest : List E) (b : Bool) → cond b (e ∷ rest) rest ≡ [] → rest ≡ []
  none_case e rest true none = absurd cc
  none_case e rest false none = none

  pub makers_below : (count : ℕ) (entries : List E) → ((number : ℕ) → count ≤ number → made_by maker number entries ≡ []) → AllByRecursion (λ e. maker e < count) entries
  makers_below count [] none = tt
  makers_below count (e ∷ es) none = (
    lt_of_not-le (λ le. let h = subst (λ b. cond b (e ∷ made_by maker (maker e) es) (made_by maker (maker e) es) ≡ []) (eq-eqb (maker e) (maker e) refl) (none (maker e) le) in cc h),
    makers_below count es (λ number le. none_case e (made_by maker number es) (maker e == number) (none number le)),
  )

  pub goes_on_none : (number : ℕ) (seen : List E) → GoesOn maker number seen seen
  goes_on_none number seen = record { added = []; whole_is = sym (append-nil seen); by_maker = tt }

  pub goes_on_one : (number : ℕ) (seen : List E) (e : E) → maker e ≡ number → GoesOn maker number seen (seen ++ e ∷ [])
  goes_on_one number seen e is = record { added = e ∷ []; whole_is = refl; by_maker = (is, tt) }

  pub goes_on_prefix : (number : ℕ) (seen whole : List E) → GoesOn maker number seen whole → IsPrefix seen whole
  goes_on_prefix number seen whole g = (g.added, sym g.whole_is)

  pub goes_on_trans : (number : ℕ) (first second third : List E) → GoesOn maker number first second → GoesOn maker number second third → GoesOn maker number first third
  goes_on_trans number first second third g h = record {
    added = g.added ++ h.added;
    whole_is = h.whole_is ∙ (ap (λ w. w ++ h.added) g.whole_is ∙ append_assoc first g.added h.added);
    by_maker = all_append (λ e. maker e ≡ number) g.added h.added g.by_maker h.by_maker;
  }

  pub goes_on_own : (number : ℕ) (seen whole : List E) → (g : GoesOn maker number seen whole) → made_by maker number whole ≡ made_by maker number seen ++ g.added
  goes_on_own number seen whole g =
      ap (λ w. made_by maker number w) g.whole_is
      ∙ (made_by-append number seen g.added ∙ ap (λ w. made_by maker number seen ++ w) (made_by-all number g.added g.by_maker))

  pub goes_on_other : (number other : ℕ) (seen whole : List E) → GoesOn maker number seen whole → other ≢ number → made_by maker other whole ≡ made_by maker other seen
  goes_on_other number other seen whole g ne =
      ap (λ w. made_by maker other w) g.whole_is
      ∙ (made_by-append other seen g.added ∙ (ap (λ w. made_by maker other seen ++ w) (made_by-other number other g.added g.by_maker ne) ∙ append-nil (made_by maker other seen)))
