-- The steps of reading a packet field by field.
use Rattle.std.proofs.Common.{◌≡◌, ◌≢◌, ℕ, true, false, List, [], ◌⊎◌, Option, Some, None, Result, Ok, Err, refl, sym, ap, ◌∙◌, inl, inr, subst}
use Rattle.std.specs.Prelude.{option_map}
use Rattle.std.proofs.lemmas.Bool.{cases_eq, ne_eqb}
use Rattle.proto_wire.specs.declared.field.Field.{Field}
use Rattle.proto_wire.specs.declared.fields.Malformed.{Malformed}
use Rattle.proto_wire.specs.Field.{WireField, WireValue, Varint, Fixed64, Bytes, Fixed32}
use Rattle.proto_wire.specs.Message.{fields_of}
use Rattle.proto_wire.specs.Message as wire
use Rattle.proto_wire.specs.Reading.{Reading, unread}
use Rattle.proto_wire.specs.Gives.{GivesField, GivesFault, Gives}
use Rattle.proto_wire.proofs.UnreadLaws.{unread_field, unread_fault, unread_end, unread_start}
use Rattle.proto_wire.specs.Typed.{uint64_of, uint32_of, fixed32_of}
use Rattle.proto_wire.specs.Views.{wire_field}
use Rattle.rpc_packet.specs.Message.{Message}
use Rattle.rpc_packet.specs.Reading.{packet_of}
use Rattle.rpc_packet.specs.Steps.{nothing_said, read_on, with_field}
use Rattle.rpc_packet.proofs.Tables.{reads_all}

-- with these fields still to come, what was said so far leads to this answer
abbrev pub LeadsTo : wire.Message → Message → Result Message ℕ → Type 0
LeadsTo coming m answer = read_on coming.fields coming.fault m ≡ answer

pub starts : (r : Reading) (bytes : List ℕ) (m : Message) → r ≡ record { left = bytes; at = 0; failed = false } → m ≡ nothing_said → LeadsTo (unread r) m (packet_of bytes)
unfolding packet_of
starts r bytes m new nothing = rw (new, nothing, unread_start bytes) (reads_all (fields_of bytes).fields (fields_of bytes).fault)

pub ends : (r : Reading) (m : Message) (answer : Result Message ℕ) → (r.failed ≡ true) ⊎ (r.left ≡ []) → LeadsTo (unread r) m answer → Ok m ≡ answer
unfolding read_on
ends r m answer ended so_far = rw (unread_end r ended) at so_far

pub fails : (old new : Reading) (at : ℕ) (m : Message) (answer : Result Message ℕ) → GivesFault old at new → LeadsTo (unread old) m answer → Err at ≡ answer
unfolding read_on
fails old new at m answer given so_far = rw (unread_fault old at new given) at so_far

pub refuses : (old new : Reading) (f : WireField) (m : Message) (answer : Result Message ℕ) → GivesField old f new → with_field m f ≡ None → LeadsTo (unread old) m answer → Err old.at ≡ answer
unfolding read_on
refuses old new f m answer given none so_far = rw (unread_field old f new given, none) at so_far

pub goes_on : (old new : Reading) (f : WireField) (m more : Message) (answer : Result Message ℕ) → GivesField old f new → with_field m f ≡ Some more → LeadsTo (unread old) m answer → LeadsTo (unread new) more answer
unfolding read_on
goes_on old new f m more answer given some so_far = rw (unread_field old f new given, some) at so_far

pub given_field : (old new : Reading) (next : Result Field Malformed) (f : Field) → next ≡ Ok f → Gives old (Some next) new → GivesField old (wire_field f) new
given_field old new next f is gives = subst (λ (n : Result Field Malformed). Gives old (Some n) new) is gives

pub given_fault : (old new : Reading) (next : Result Field Malformed) (e : Malformed) → next ≡ Err e → Gives old (Some next) new → GivesFault old e.at new
given_fault old new next e is gives = subst (λ (n : Result Field Malformed). Gives old (Some n) new) is gives

-- what a field says of the payload
abbrev payload_in : Option Message → List ℕ
payload_in None = []
payload_in (Some m) = m.payload

pub payload_given : (m more : Message) (number : ℕ) (value : WireValue) → number ≡ 5 →
    (let f : WireField = record { number = number; value = value } in with_field m f ≡ Some more) → value ≡ Bytes more.payload
unfolding with_field
payload_given m more number (Varint n) is e = absurd (let none : None ≡ Some more = rw is at e in cc)
payload_given m more number (Fixed64 n) is e = absurd (let none : None ≡ Some more = rw is at e in cc)
payload_given m more number (Bytes content) is e =
    let some : Some (record m { payload = content }) ≡ Some more = rw is at e in
    ap (λ o. Bytes (payload_in o)) some
payload_given m more number (Fixed32 n) is e = absurd (let none : None ≡ Some more = rw is at e in cc)

same_payload : (m more : Message) (make : ℕ → Message) (o : Option ℕ) → ((n : ℕ) → (make n).payload ≡ m.payload) → option_map make o ≡ Some more → more.payload ≡ m.payload
same_payload m more make None keeps e = absurd cc
same_payload m more make (Some n) keeps e = sym (ap payload_in e) ∙ keeps n

pub payload_kept : (m more : Message) (number : ℕ) (value : WireValue) → number ≢ 5 →
    (let f : WireField = record { number = number; value = value } in with_field m f ≡ Some more) → more.payload ≡ m.payload
unfolding with_field
payload_kept m more number value other e =
    elim (cases_eq number 1) [
      | inl is ↦ same_payload m more (λ (n : ℕ). record m { ptype = n }) (uint64_of value) (λ n. refl) (rw is at e)
      | inr n1 ↦ elim (cases_eq number 2) [
        | inl is ↦ same_payload m more (λ (n : ℕ). record m { name = record m.name { channel = n } }) (uint32_of value) (λ n. refl) (rw is at e)
        | inr n2 ↦ elim (cases_eq number 3) [
          | inl is ↦ same_payload m more (λ (n : ℕ). record m { name = record m.name { service = n } }) (fixed32_of value) (λ n. refl) (rw is at e)
          | inr n3 ↦ elim (cases_eq number 4) [
            | inl is ↦ same_payload m more (λ (n : ℕ). record m { name = record m.name { method = n } }) (fixed32_of value) (λ n. refl) (rw is at e)
            | inr n4 ↦ elim (cases_eq number 6) [
              | inl is ↦ same_payload m more (λ (n : ℕ). record m { status = n }) (uint32_of value) (λ n. refl) (rw is at e)
              | inr n6 ↦ elim (cases_eq number 7) [
                | inl is ↦ same_payload m more (λ (n : ℕ). record m { name = record m.name { call = n } }) (uint32_of value) (λ n. refl) (rw is at e)
                | inr n7 ↦
                    let same : Some m ≡ Some more =
                    rw (ne_eqb _ _ n1, ne_eqb _ _ n2, ne_eqb _ _ n3, ne_eqb _ _ n4, ne_eqb _ _ other, ne_eqb _ _ n6, ne_eqb _ _ n7) at e
                    in
                    sym (ap payload_in same)
              ]
            ]
          ]
        ]
      ]
    ]
