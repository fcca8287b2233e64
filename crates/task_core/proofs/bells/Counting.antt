-- Sums over views, where one of them changes or one is added.
use Rattle.std.proofs.Common.{◌≡◌, ◌==◌, ℕ, zero, suc, ◌+◌, ◌<◌, ◌≤◌, true, false, List, [], ◌∷◌, ◌++◌, length, get_or, set, Some, refl, sym, ap, ◌∙◌, inl, inr, arith}
use mathlib.Core.Option.{some, some-injective, some-ne-none}
use lib.ListN.{get_elem?}
use Rattle.std.proofs.lemmas.Bool.{cases_eq, cases_Bool, cond-true, cond-false, eqb-true}
use Rattle.std.proofs.lemmas.List.{get_or-set_same, get_or-set_other}
use Rattle.task_core.specs.declared.bells.view.Look.{Look}
use Rattle.task_core.specs.declared.bells.view.View.{View}
use Rattle.task_core.specs.bells.Rings.{one_if, times, rung_in, bells_in, last_total, AreWithin}
use Rattle.task_core.specs.bells.Views.{new_bell}
use Rattle.task_core.specs.bells.Rule.{AreBells}

pub times-append : (key : ℕ) (xs ys : List ℕ) → times key (xs ++ ys) ≡ times key xs + times key ys
times-append key [] ys = omega arith
times-append key (x ∷ xs) ys = omega (arith, times-append key xs ys)

-- one view changes
pub rung_set : (key i : ℕ) (vs : List View) (v w : View) → get_elem? vs i ≡ some v → rung_in key (set vs i w) + times key v.rings ≡ rung_in key vs + times key w.rings
rung_set key i [] v w at = absurd (some-ne-none v (sym at))
rung_set key zero (u ∷ vs) v w at = let is = some-injective u v at in omega (arith, ap (λ (z : View). times key z.rings) is)
rung_set key (suc i) (u ∷ vs) v w at = omega (arith, rung_set key i vs v w at)

pub bells_set : (i : ℕ) (vs : List View) (v w : View) → get_elem? vs i ≡ some v → bells_in (set vs i w) + one_if v.is_bell ≡ bells_in vs + one_if w.is_bell
bells_set i [] v w at = absurd (some-ne-none v (sym at))
bells_set zero (u ∷ vs) v w at = let is = some-injective u v at in omega (arith, ap (λ (z : View). one_if z.is_bell) is)
bells_set (suc i) (u ∷ vs) v w at = omega (arith, bells_set i vs v w at)

pub are_set : (i : ℕ) (vs : List View) (w : View) → AreBells vs → w.is_ear ≡ false → (w.is_bell ≡ false → w.rings ≡ []) → AreBells (set vs i w)
are_set i [] w are no_ear calm = are
are_set zero (u ∷ vs) w are no_ear calm = (no_ear, calm, are.2)
are_set (suc i) (u ∷ vs) w are no_ear calm = (are.0, are.1, are_set i vs w are.2 no_ear calm)

-- one bell more
pub rung_more : (key : ℕ) (vs : List View) → rung_in key (vs ++ new_bell ∷ []) ≡ rung_in key vs
rung_more key [] = omega arith
rung_more key (v ∷ vs) = ap (λ n. times key v.rings + n) (rung_more key vs)

pub bells_more : (vs : List View) → bells_in (vs ++ new_bell ∷ []) ≡ bells_in vs + 1
bells_more [] = omega arith
bells_more (v ∷ vs) = omega (arith, bells_more vs)

pub are_more : (vs : List View) → AreBells vs → AreBells (vs ++ new_bell ∷ [])
are_more [] are = (refl, (λ no. refl), tt)
are_more (v ∷ vs) are = (are.0, are.1, are_more vs are.2)

-- which seat has a view
no_ear_at : (i : ℕ) (vs : List View) (v : View) → AreBells vs → get_elem? vs i ≡ some v → v.is_ear ≡ false
no_ear_at i [] v are at = absurd (some-ne-none v (sym at))
no_ear_at zero (u ∷ vs) v are at = ap (λ (z : View). z.is_ear) (sym (some-injective u v at)) ∙ are.0
no_ear_at (suc i) (u ∷ vs) v are at = no_ear_at i vs v are.2 at

pub is_first : (id : ℕ) (ear : View) (others : List View) (v : View) → AreBells others → get_elem? (ear ∷ others) id ≡ some v → v.is_ear ≡ true → (id ≡ 0) × (ear ≡ v)
is_first zero ear others v are at is_ear = (refl, some-injective ear v at)
is_first (suc i) ear others v are at is_ear = absurd (cc (is_ear, no_ear_at i others v are at))

pub is_other : (id : ℕ) (ear : View) (others : List View) (v : View) → ear.is_ear ≡ true → get_elem? (ear ∷ others) id ≡ some v → v.is_ear ≡ false → (i : ℕ) × (id ≡ suc i) × (get_elem? others i ≡ some v)
is_other zero ear others v is_ear at no_ear = absurd (cc (is_ear, no_ear, ap (λ (z : View). z.is_ear) (some-injective ear v at)))
is_other (suc i) ear others v is_ear at no_ear = (i, refl, at)

-- words
pub set_same : (words : List ℕ) (key k : ℕ) → key < length words → get_or (set words key (get_or words key 0)) k 0 ≡ get_or words k 0
set_same words key k below =
    elim (cases_eq k key) [
      | inl same ↦ ap (λ j. get_or (set words key (get_or words key 0)) j 0) same ∙ get_or-set_same words key (get_or words key 0) 0 below ∙ ap (λ j. get_or words j 0) (sym same)
      | inr differs ↦ get_or-set_other words key k (get_or words key 0) 0 differs
    ]

-- loads
pub within_more : (f g : ℕ → ℕ) (looks : List Look) → ((key : ℕ) → f key ≤ g key) → AreWithin f looks → AreWithin g looks
within_more f g [] more within = tt
within_more f g (look ∷ looks) more within = let one = more look.key in (omega (arith, one, within.0), within_more f g looks more within.1)

pub last_within : (f : ℕ → ℕ) (key t : ℕ) (looks : List Look) → AreWithin f looks → last_total key looks ≡ Some t → t ≤ f key
last_within f key t [] within last = absurd (cc last)
last_within f key t (look ∷ looks) within last =
    elim (cases_Bool (key == look.key)) [
      | inl same ↦
          let is : look.total ≡ t = cc (cond-true (key == look.key) (Some look.total) (last_total key looks) same, last) in
          omega (arith, within.0, ap f (eqb-true key look.key same))
      | inr differs ↦ last_within f key t looks within.1 (sym (cond-false (key == look.key) (Some look.total) (last_total key looks) differs) ∙ last)
    ]
