-- The order of timers, by the moment and then by the key.
use Rattle.std.proofs.Common.{◌≡◌, ◌≢◌, ℕ, ◌<◌, ◌≤◌, false, refl, arith}
use Rattle.std.proofs.lemmas.Bool.Decides.{nat_tests}
use Rattle.std.specs.Ordering.{nat_cmp, ordering_then, is_gt, is_eq}
use Rattle.std.specs.declared.cmp.Ordering.{Ordering}
use Rattle.std.specs.declared.cmp.Ordering.TheVariants.{Less, Equal, Greater}
use Rattle.task_core.specs.Timers.{by_moment}

other_second : (o p : Ordering) → is_eq p ≡ false → is_eq (ordering_then o p) ≡ false
other_second Less p h = refl
other_second Equal p h = h
other_second Greater p h = refl

no_greater : (o p : Ordering) → is_gt (ordering_then o p) ≡ false → is_gt o ≡ false
no_greater Less p h = refl
no_greater Equal p h = refl
no_greater Greater p h = h

other_key : (key k : ℕ) → k ≢ key → is_eq (nat_cmp key k) ≡ false
other_key key k differs = grind (arith, nat_tests)

other_moment : (at a : ℕ) → at < a → is_eq (nat_cmp at a) ≡ false
other_moment at a later = grind (arith, nat_tests)

no_later : (at a : ℕ) → is_gt (nat_cmp at a) ≡ false → at ≤ a
no_later at a h = grind (arith, nat_tests)

first_differs : (o p : Ordering) → is_eq o ≡ false → is_eq (ordering_then o p) ≡ false
first_differs Less p h = refl
first_differs Equal p h = absurd (cc)
first_differs Greater p h = refl

-- a timer of another task is another timer
pub key_differs : (at key a k : ℕ) → k ≢ key → is_eq (by_moment (at, key) (a, k)) ≡ false
key_differs at key a k differs = other_second (nat_cmp at a) (nat_cmp key k) (other_key key k differs)

-- so is one of a later moment
pub moment_differs : (at key a k : ℕ) → at < a → is_eq (by_moment (at, key) (a, k)) ≡ false
moment_differs at key a k later = first_differs (nat_cmp at a) (nat_cmp key k) (other_moment at a later)

-- no timer is earlier than the least one
pub least_is_first : (at key a k : ℕ) → is_gt (by_moment (at, key) (a, k)) ≡ false → at ≤ a
least_is_first at key a k h = no_later at a (no_greater (nat_cmp at a) (nat_cmp key k) h)
