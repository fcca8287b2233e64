-- The methods of the services demo.Demo, demo.Log and pw.transfer.Transfer.
use Rattle.std.specs.Prelude.{ℕ, Bool, List, [], ◌∷◌, true, false, codes}
use Rattle.rpc_ids.specs.declared.method.Kind.{Kind}
use Rattle.rpc_ids.specs.declared.method.Kind.TheVariants.{Unary, ServerStream, ClientStream, Bidi}
use Rattle.rpc_ids.specs.declared.method.MethodRef.{MethodRef}
use Rattle.rpc_ids.specs.Names.{name_id}
use Rattle.rpc_ids.specs.Registry.{has_ids}

-- the id of the service
abbrev pub demo_id : ℕ
demo_id = name_id (codes "demo.Demo")

-- the method of the service with this name; none of them is told of the time
abbrev pub demo_method : List ℕ → Kind → MethodRef
demo_method name kind = record { service = demo_id; method = name_id name; kind = kind; ticks = false }

-- the id of the transfer service
abbrev pub transfer_id : ℕ
transfer_id = name_id (codes "pw.transfer.Transfer")

-- the method of the transfer service with this name: it has streams both ways, and is told of the time
abbrev pub transfer_method : List ℕ → MethodRef
transfer_method name = record { service = transfer_id; method = name_id name; kind = Bidi; ticks = true }

-- the id of the log service
abbrev pub log_id : ℕ
log_id = name_id (codes "demo.Log")

-- the method of the log service with this name: it has streams both ways, and isn't told of the time
abbrev pub log_method : List ℕ → MethodRef
log_method name = record { service = log_id; method = name_id name; kind = Bidi; ticks = false }

-- all methods of the three services
abbrev pub demo_methods : List MethodRef
demo_methods =
    demo_method (codes "Echo") Unary ∷ demo_method (codes "Count") ServerStream ∷ demo_method (codes "Sum") ClientStream ∷ demo_method (codes "Chat") Bidi
    ∷ log_method (codes "Text") ∷ transfer_method (codes "Read") ∷ transfer_method (codes "Write") ∷ []

-- the method has the ids of the service and of this name
abbrev pub is_named : List ℕ → MethodRef → Bool
is_named name m = has_ids demo_id (name_id name) m

abbrev pub is_transfer : List ℕ → MethodRef → Bool
is_transfer name m = has_ids transfer_id (name_id name) m

abbrev pub is_log : List ℕ → MethodRef → Bool
is_log name m = has_ids log_id (name_id name) m
