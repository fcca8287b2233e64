-- What a reader finds.
use Rattle.std.proofs.Common.{◌≡◌, Some, None}
use Rattle.journal_text.specs.Finds.{Finds}

pub finds_none : {A : Type 0} (IsSo : A → Type 0) → ((x : A) → IsSo x → ⊥) → Finds None IsSo
finds_none IsSo none = record { some = tt; only = λ x is. absurd (none x is) }

-- where nothing was found, nothing is so
pub none_is : {A : Type 0} (IsSo : A → Type 0) (x : A) → Finds None IsSo → IsSo x → ⊥
none_is IsSo x found is = let e = found.only x is in cc

pub finds_some : {A : Type 0} (IsSo : A → Type 0) (a : A) → IsSo a → ((x : A) → IsSo x → a ≡ x) → Finds (Some a) IsSo
finds_some IsSo a is one = record { some = is; only = λ x so. let e = one x so in cc }
