-- Reading field by field gives what all the fields say.
use Rattle.std.proofs.Common.{◌≡◌, ℕ, ◌^◌, Bool, true, false, cond, eqb, ltb, List, [], ◌∷◌, ◌++◌, Option, Some, None, refl, append_assoc, inl, inr}
use Rattle.std.specs.Prelude.{map, option_map, is_some}
use Rattle.std.proofs.lemmas.Bool.{cases_eq, cases_Bool, ne_eqb}
use Rattle.std.proofs.lemmas.List.{append-nil}
use Rattle.proto_wire.specs.Field.{WireValue, Varint, Fixed64, Bytes, Fixed32, WireField}
use Rattle.proto_wire.specs.Message.{Placed}
use Rattle.proto_wire.specs.Typed.{uint64_of, uint32_of, fixed32_of, bytes_of, may_have, fault_among, number_in, content_in, last_after}
use Rattle.rpc_packet.specs.Message.{Message}
use Rattle.rpc_packet.specs.Table.{packet_fields, message_in}
use Rattle.rpc_packet.specs.Reading.{unless_fault}
use Rattle.rpc_packet.specs.Steps.{nothing_said, read_on, with_field}

last_after-more : {X : Type 0} (view : WireValue → X) (before : X) (number : ℕ) (fields : List WireField) (f : WireField) → last_after view before number (fields ++ f ∷ []) ≡ cond (eqb f.number number) (view f.value) (last_after view before number fields)
last_after-more view before number [] f = refl
last_after-more view before number (g ∷ fields) f = last_after-more view (cond (eqb g.number number) (view g.value) before) number fields f

-- A value that a field of its type may have is taken.
takes_uint64 : (take : ℕ → Message) (v : WireValue) → option_map take (uint64_of v) ≡ cond (is_some (uint64_of v)) (Some (take (number_in v))) None
takes_uint64 take (Varint n) = refl
takes_uint64 take (Fixed64 n) = refl
takes_uint64 take (Bytes content) = refl
takes_uint64 take (Fixed32 n) = refl

takes_if : (b : Bool) (take : ℕ → Message) (n : ℕ) → option_map take (cond b (Some n) None) ≡ cond (is_some (cond b (Some n) None)) (Some (take n)) None
takes_if true take n = refl
takes_if false take n = refl

takes_uint32 : (take : ℕ → Message) (v : WireValue) → option_map take (uint32_of v) ≡ cond (is_some (uint32_of v)) (Some (take (number_in v))) None
takes_uint32 take (Varint n) = takes_if (ltb n (2 ^ 32)) take n
takes_uint32 take (Fixed64 n) = refl
takes_uint32 take (Bytes content) = refl
takes_uint32 take (Fixed32 n) = refl

takes_fixed32 : (take : ℕ → Message) (v : WireValue) → option_map take (fixed32_of v) ≡ cond (is_some (fixed32_of v)) (Some (take (number_in v))) None
takes_fixed32 take (Varint n) = refl
takes_fixed32 take (Fixed64 n) = refl
takes_fixed32 take (Bytes content) = refl
takes_fixed32 take (Fixed32 n) = refl

takes_bytes : (take : List ℕ → Message) (v : WireValue) → option_map take (bytes_of v) ≡ cond (is_some (bytes_of v)) (Some (take (content_in v))) None
takes_bytes take (Varint n) = refl
takes_bytes take (Fixed64 n) = refl
takes_bytes take (Bytes content) = refl
takes_bytes take (Fixed32 n) = refl

-- whether a field is as RpcPacket declares it
abbrev is_declared : WireField → Bool
is_declared f = may_have (packet_fields f.number) f.value

takes_at : (fields : List WireField) (number : ℕ) (value : WireValue)
    → with_field (message_in fields) (record { number = number; value = value })
    ≡ cond (is_declared (record { number = number; value = value })) (Some (message_in (fields ++ record { number = number; value = value } ∷ []))) None
unfolding with_field
takes_at fields number value =
    let m = message_in fields in
    let f : WireField = record { number = number; value = value } in
    let e1 = last_after-more number_in 0 1 fields f in
    let e2 = last_after-more number_in 0 2 fields f in
    let e3 = last_after-more number_in 0 3 fields f in
    let e4 = last_after-more number_in 0 4 fields f in
    let e5 = last_after-more content_in [] 5 fields f in
    let e6 = last_after-more number_in 0 6 fields f in
    let e7 = last_after-more number_in 0 7 fields f in
    rw (e1, e2, e3, e4, e5, e6, e7) (
    elim (cases_eq number 1) [
      | inl e ↦ rw e (takes_uint64 (λ (n : ℕ). record m { ptype = n }) value)
      | inr n1 ↦ elim (cases_eq number 2) [
        | inl e ↦ rw e (takes_uint32 (λ (n : ℕ). record m { name = record m.name { channel = n } }) value)
        | inr n2 ↦ elim (cases_eq number 3) [
          | inl e ↦ rw e (takes_fixed32 (λ (n : ℕ). record m { name = record m.name { service = n } }) value)
          | inr n3 ↦ elim (cases_eq number 4) [
            | inl e ↦ rw e (takes_fixed32 (λ (n : ℕ). record m { name = record m.name { method = n } }) value)
            | inr n4 ↦ elim (cases_eq number 5) [
              | inl e ↦ rw e (takes_bytes (λ (content : List ℕ). record m { payload = content }) value)
              | inr n5 ↦ elim (cases_eq number 6) [
                | inl e ↦ rw e (takes_uint32 (λ (n : ℕ). record m { status = n }) value)
                | inr n6 ↦ elim (cases_eq number 7) [
                  | inl e ↦ rw e (takes_uint32 (λ (n : ℕ). record m { name = record m.name { call = n } }) value)
                  | inr n7 ↦ rw (ne_eqb _ _ n1, ne_eqb _ _ n2, ne_eqb _ _ n3, ne_eqb _ _ n4, ne_eqb _ _ n5, ne_eqb _ _ n6, ne_eqb _ _ n7) refl
                ]
              ]
            ]
          ]
        ]
      ]
    ])

-- one more field says what `with_field` takes from it
takes_field : (fields : List WireField) (f : WireField) → with_field (message_in fields) f ≡ cond (is_declared f) (Some (message_in (fields ++ f ∷ []))) None
takes_field fields f = takes_at fields f.number f.value

reads_on : (before : List WireField) (fields : List Placed) (fault : Option ℕ) → read_on fields fault (message_in before) ≡ unless_fault (message_in (before ++ map (λ p. p.field) fields)) (fault_among packet_fields fields fault)
unfolding read_on
reads_on before [] fault = rw (append-nil before) refl
reads_on before (p ∷ fields) fault =
    elim (cases_Bool (is_declared p.field)) [
      | inl fine ↦
          let more = reads_on (before ++ p.field ∷ []) fields fault in
          rw (takes_field before p.field, fine) (rw (append_assoc before (p.field ∷ []) (map (λ (q : Placed). q.field) fields)) at more)
      | inr other ↦ rw (takes_field before p.field, other) refl
    ]

-- reading field by field gives what all the fields say
pub reads_all : (fields : List Placed) (fault : Option ℕ) → read_on fields fault nothing_said ≡ unless_fault (message_in (map (λ p. p.field) fields)) (fault_among packet_fields fields fault)
reads_all fields fault = reads_on [] fields fault
