-- What an option that was made in steps says of each step.
use Rattle.std.proofs.Common.{◌≡◌, Bool, true, false, cond, Option, Some, None, option_map, refl, ◌&&◌}
use Rattle.std.proofs.lemmas.Bool.{false≢true}

none_is_no_some : {A : Type 0} (x : A) → None ≡ Some x → ⊥
none_is_no_some x e = cc

-- the value behind a mapped option
pub option_map_some : {A B P : Type 0} (f : A → B) (o : Option A) (y : B) → option_map f o ≡ Some y → ((x : A) → o ≡ Some x → f x ≡ y → P) → P
option_map_some f None y e then_do = absurd (none_is_no_some y e)
option_map_some f (Some x) y e then_do = then_do x refl cc

-- a value that was given under a test
pub tested_some : {A P : Type 0} (b : Bool) (o : Option A) (y : A) → cond b o None ≡ Some y → (b ≡ true → o ≡ Some y → P) → P
tested_some true o y e then_do = then_do refl e
tested_some false o y e then_do = absurd (none_is_no_some y e)

-- a value that was given by one of two ways
pub either_some : {A P : Type 0} (b : Bool) (o p : Option A) (y : A) → cond b o p ≡ Some y → (b ≡ true → o ≡ Some y → P) → (b ≡ false → p ≡ Some y → P) → P
either_some true o p y e first second = first refl e
either_some false o p y e first second = second refl e

-- both tests passed
pub both_passed : (a b : Bool) → a && b ≡ true → (a ≡ true) × (b ≡ true)
both_passed true b e = (refl, e)
both_passed false b e = absurd (false≢true e)
