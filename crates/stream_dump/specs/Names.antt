-- What services and methods are called, where their ids are known.
use Rattle.std.specs.Prelude.{ℕ, ◌==◌, ◌&&◌, Bool, List, [], ◌∷◌, codes, map, find}
use Rattle.std.specs.Int.{to_be_bytes, w32}
use Rattle.std.specs.Option.{option_map_or}
use Rattle.hex.specs.Hex.{encode_lower}
use Rattle.rpc_ids.specs.Names.{name_id}
use Rattle.stream_dump.specs.declared.names.MethodName.{MethodName}

-- the full name of a service and the bare name of a method of it
pub record Name : Type 0 where
  pub service : List ℕ
  pub method : List ℕ

abbrev pub name_of : MethodName → Name
name_of lent = record { service = lent.service.now; method = lent.method.now }

abbrev pub names_of : List MethodName → List Name
names_of lent = map name_of lent

-- the service has this id
abbrev pub has_service : ℕ → Name → Bool
has_service service name = name_id name.service == service

-- service and method have these ids
abbrev pub has_ids : ℕ → ℕ → Name → Bool
has_ids service method name = (name_id name.service == service) && (name_id name.method == method)

-- an id in eight hexadecimal digits
abbrev pub id_text : ℕ → List ℕ
id_text id = encode_lower (to_be_bytes w32 id)

-- the first of these names with the service's id, else its digits
abbrev pub service_text : List Name → ℕ → List ℕ
service_text names service = option_map_or (λ n. n.service) (find (has_service service) names) (id_text service)

-- the first of these names with both ids, else the digits of the method's
abbrev pub method_text : List Name → ℕ → ℕ → List ℕ
method_text names service method = option_map_or (λ n. n.method) (find (has_ids service method) names) (id_text method)

-- the methods that the program knows
abbrev pub known_names : List Name
known_names =
    record { service = codes "demo.Demo"; method = codes "Echo" } ∷
    record { service = codes "demo.Demo"; method = codes "Count" } ∷
    record { service = codes "demo.Demo"; method = codes "Sum" } ∷
    record { service = codes "demo.Demo"; method = codes "Chat" } ∷
    record { service = codes "demo.Log"; method = codes "Text" } ∷
    record { service = codes "pw.transfer.Transfer"; method = codes "Read" } ∷
    record { service = codes "pw.transfer.Transfer"; method = codes "Write" } ∷ []
