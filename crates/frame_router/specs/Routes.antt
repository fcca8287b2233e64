-- Where an address lies.
use Rattle.std.specs.Prelude.{ℕ, ◌==◌, Bool, List, Option}
use Rattle.std.specs.List.{find}
use Rattle.std.specs.Option.{option_map}
use Rattle.frame_router.specs.declared.port.Port.{Port}
use Rattle.frame_router.specs.declared.routes.Route.{Route}

abbrev pub is_of : ℕ → Route → Bool
is_of address route = route.address == address

-- the side at which an address lies, where it has a route
abbrev pub port_of : List Route → ℕ → Option Port
port_of routes address = option_map (λ route. route.port) (find (is_of address) routes)
