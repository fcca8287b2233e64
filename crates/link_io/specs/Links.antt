-- What a linker tells: the ends of links that it hands out and takes back.
use Rattle.std.specs.Prelude.{◌≡◌, ◌≢◌, ℕ, ◌+◌, Bool, List, [], ◌∷◌, ◌++◌, Option, Some}
use Rattle.link_io.specs.Causes.{summed}

-- the two ends of a link: the bytes left to read from the one, and the bytes written to the other
abbrev pub Ends : Type 0
Ends = List ℕ × List ℕ

pub record Links : Type 0 where
  -- the ends still to be handed out, in order, where the linker tells
  pub coming : Option (List Ends)
  -- the ends handed back, in order, where the linker tells
  pub gone : Option (List Ends)
  -- it was told where to listen
  pub listens : Bool
  -- how many pairs of ends are out
  pub out : ℕ
  -- its own calls that failed
  pub faults : ℕ
  -- the faults of the ends handed back
  pub in_faults : ℕ
  pub out_faults : ℕ

-- no ends were handed out or back
pub record KeepsLinks (old new : Links) : Type 0 where
  pub coming : new.coming ≡ old.coming
  pub gone : new.gone ≡ old.gone
  pub out : new.out ≡ old.out
  pub in_faults : new.in_faults ≡ old.in_faults
  pub out_faults : new.out_faults ≡ old.out_faults

-- a pair of ends was handed out: the first of those to come, where the linker tells
pub record HandsOut (old new : Links) (left written : Option (List ℕ)) : Type 0 where
  pub some : old.coming ≢ Some []
  pub first : (pair : Ends) (rest : List Ends) → old.coming ≡ Some (pair ∷ rest) → (left ≡ Some pair.0) × (written ≡ Some pair.1) × (new.coming ≡ Some rest)
  pub out : new.out ≡ old.out + 1
  pub gone : new.gone ≡ old.gone
  pub listens : new.listens ≡ old.listens
  pub in_faults : new.in_faults ≡ old.in_faults
  pub out_faults : new.out_faults ≡ old.out_faults

-- a pair of ends was handed back, with what it holds, and its faults count on
pub record TakesBack (old new : Links) (left written : Option (List ℕ)) (in_count out_count : ℕ) : Type 0 where
  pub added : (gone : List Ends) (pair : Ends) → old.gone ≡ Some gone → left ≡ Some pair.0 → written ≡ Some pair.1 → new.gone ≡ Some (gone ++ pair ∷ [])
  pub out : new.out + 1 ≡ old.out
  pub coming : new.coming ≡ old.coming
  pub listens : new.listens ≡ old.listens
  pub faults : new.faults ≡ old.faults
  pub in_faults : new.in_faults ≡ summed old.in_faults in_count
  pub out_faults : new.out_faults ≡ summed old.out_faults out_count
