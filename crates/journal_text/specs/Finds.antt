-- What a reader of one thing finds.
use Rattle.std.specs.Prelude.{◌≡◌, Option, Some, IfSome}

-- what is found is so, and nothing else is
pub record Finds {A : Type 0} (found : Option A) (IsSo : A → Type 0) : Type 0 where
  pub some : IfSome found IsSo
  pub only : (x : A) → IsSo x → found ≡ Some x
