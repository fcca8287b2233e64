-- What a registry, seen as the list of its methods, knows.
use Rattle.std.specs.Prelude.{◌≡◌, ℕ, Bool, ◌==◌, ◌&&◌, List, Option, Some, find}
use Rattle.std.specs.List.{All}
use Rattle.rpc_ids.specs.declared.method.MethodRef.{MethodRef}

-- the method has these ids of a service and a method
abbrev pub has_ids : ℕ → ℕ → MethodRef → Bool
has_ids service method row = (row.service == service) && (row.method == method)

-- the method with these ids, if it is among these
abbrev pub method_of : List MethodRef → ℕ → ℕ → Option MethodRef
method_of rows service method = find (has_ids service method) rows

-- each of these methods is found by its ids, so that no two of them have the same two ids
abbrev pub FindsEach : List MethodRef → Type 0
FindsEach rows = All (λ m. method_of rows m.service m.method ≡ Some m) rows
