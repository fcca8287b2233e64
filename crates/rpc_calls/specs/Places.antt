-- Lists in which one place changes, or each.
use Rattle.std.specs.Prelude.{◌≡◌, ◌≢◌, ℕ, List, length, slice_get, Some}

-- what stands at this place changes as R says, and nothing else changes
pub record ChangesAt {A : Type 0} (c : ℕ) (R : A → A → Type 0) (old new : List A) : Type 0 where
  pub many : length new ≡ length old
  pub others : (k : ℕ) → k ≢ c → slice_get new k ≡ slice_get old k
  pub here : (r x : A) → slice_get old c ≡ Some r → slice_get new c ≡ Some x → R r x

-- each place changes as R says
pub record ChangesAll {A : Type 0} (R : A → A → Type 0) (old new : List A) : Type 0 where
  pub many : length new ≡ length old
  pub each : (k : ℕ) (r x : A) → slice_get old k ≡ Some r → slice_get new k ≡ Some x → R r x
