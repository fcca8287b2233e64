-- Tests on roles, kinds of methods, statuses and options.
use Rattle.std.specs.Prelude.{Bool, true, false, List, [], ◌∷◌, Option, Some, None}
use Rattle.rpc_ids.specs.declared.method.Kind.{Kind}
use Rattle.rpc_ids.specs.declared.method.Kind.TheVariants.{Unary, ServerStream, ClientStream, Bidi}
use Rattle.rpc_ids.specs.declared.method.Role.{Role}
use Rattle.rpc_ids.specs.declared.method.Role.TheVariants.{Server, Client}
use Rattle.rpc_ids.specs.declared.status.Status.{Status}
use Rattle.rpc_ids.specs.declared.status.Status.TheVariants.{Okay}

abbrev pub is_server : Role → Bool
is_server Server = true
is_server Client = false

abbrev pub is_unary : Kind → Bool
is_unary Unary = true
is_unary _ = false

-- the client sends a stream of messages
abbrev pub streams_up : Kind → Bool
streams_up ClientStream = true
streams_up Bidi = true
streams_up _ = false

-- the server sends a stream of messages
abbrev pub streams_down : Kind → Bool
streams_down ServerStream = true
streams_down Bidi = true
streams_down _ = false

-- the method has a stream in the direction in which this role sends
abbrev pub streams_out : Role → Kind → Bool
streams_out Server kind = streams_down kind
streams_out Client kind = streams_up kind

abbrev pub is_okay : Status → Bool
is_okay Okay = true
is_okay _ = false

abbrev pub is_empty : {A : Type 0} → List A → Bool
is_empty [] = true
is_empty (x ∷ xs) = false

-- the first value, or else the second
abbrev pub or_else : {A : Type 0} → Option A → Option A → Option A
or_else None second = second
or_else (Some x) second = Some x
