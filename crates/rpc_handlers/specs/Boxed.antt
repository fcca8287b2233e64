-- Lists whose box is made with their first element.
use Rattle.std.specs.Prelude.{List, [], Option, Some, None, Box, Vec}
use Rattle.std.specs.Global.{Global}

-- the elements in order: none where there is no box
abbrev pub items_of : {A : Type 0} → Option (Box (Vec A Global) Global) → List A
items_of None = []
items_of (Some list) = list.value.items
