-- Laws on lists of resources.
use Rattle.std.proofs.Common.{◌≡◌, refl, ap, [], ◌∷◌}
use Rattle.std.specs.Map.{keys_of}
use Rattle.link_io.specs.Resources.{Resources, lengths_of}

-- the lengths stand under the ids of the resources
pub ids_of_lengths : (rows : Resources) → keys_of (lengths_of rows) ≡ keys_of rows
ids_of_lengths [] = refl
ids_of_lengths (e ∷ es) = ap (λ ids. e.0 ∷ ids) (ids_of_lengths es)
