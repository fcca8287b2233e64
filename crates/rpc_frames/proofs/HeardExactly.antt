-- A packet is heard in a frame exactly where the relation holds.
use Rattle.std.proofs.Common.{◌≡◌, ℕ, ◌<◌, ◌==◌, ◌&&◌, Bool, true, false, List, Option, Some, None, Result, Ok, Err, refl, sym, ◌∙◌, ap, subst, inl, inr, arith, eqb-true}
use Rattle.std.specs.Prelude.{option_and_then, option_map, if◌then◌else◌}
use Rattle.std.proofs.lemmas.Bool.{cases_Bool, cases_eq, eq-eqb, ne_eqb}
use Rattle.hdlc_frame.specs.declared.octets.TheConstants.{UI_CONTROL}
use Rattle.hdlc_frame.specs.Found.{FrameParts}
use Rattle.proto_wire.specs.Message.{wire_fields, fields_of}
use Rattle.proto_wire.specs.Typed.{fault_of}
use Rattle.proto_wire.proofs.UnreadLaws.{IsRead-fields_from}
use Rattle.rpc_ids.specs.declared.method.Role.{Role}
use Rattle.rpc_ids.specs.declared.method.Role.TheVariants.{Server, Client}
use Rattle.rpc_packet.specs.declared.owned.Packet.{Packet}
use Rattle.rpc_packet.specs.declared.packet_type.PacketType.{PacketType}
use Rattle.rpc_packet.specs.declared.packet_type.PacketType.TheVariants.{Request, Response, ClientStream, ClientError, ServerError, ServerStream, Completion}
use Rattle.rpc_packet.specs.Hearing.{Hears, heard_as, if_received}
use Rattle.rpc_packet.specs.Message.{Message, message_of}
use Rattle.rpc_packet.specs.PacketType.{receiver_of, type_number, type_of}
use Rattle.rpc_packet.specs.Reading.{IsPacket, packet_of, unless_fault}
use Rattle.rpc_packet.specs.Table.{message_in, packet_fields}
use Rattle.rpc_packet.proofs.ReadingLaws.{only_packet}
use Rattle.rpc_frames.specs.declared.limits.TheConstants.{ADDRESS}
use Rattle.rpc_frames.specs.Heard.{heard_in_frame, heard_in_payload, heard_message, is_handled, packet_as}
use Rattle.rpc_frames.specs.Laws.{IsHeardExactly, IsHeardIn}
use Rattle.rpc_frames.proofs.HeardBack.{heard_as_is}

unless_ok : (m n : Message) (fault : Option ℕ) → unless_fault m fault ≡ Ok n → (fault ≡ None) × (n ≡ m)
unless_ok m n None e = (refl, cc)
unless_ok m n (Some at) e = absurd cc

packet_is : (bytes : List ℕ) (m : Message) → packet_of bytes ≡ Ok m → IsPacket bytes m
unfolding packet_of
packet_is bytes m e =
    let found = unless_ok (message_in (wire_fields (fields_of bytes))) m (fault_of packet_fields (fields_of bytes)) e in
    record { fields = fields_of bytes; read = IsRead-fields_from 0 bytes; whole = found.0; says = found.1 }

-- one of the rows of a table of types
row_is : (n number : ℕ) (u t : PacketType) (others : Option PacketType) → type_number u ≡ number → (others ≡ Some t → type_number t ≡ n) → (if n == number then Some u else others) ≡ Some t → type_number t ≡ n
row_is n number u t others its more e = elim (cases_eq n number) [
  | inl is ↦ let same : Some u ≡ Some t = rw (eq-eqb n number is) at e in let one : u ≡ t = cc in ap type_number (sym one) ∙ its ∙ sym is
  | inr not ↦ let rest : others ≡ Some t = rw (ne_eqb n number not) at e in more rest
]

no_row : (n : ℕ) (t : PacketType) → None ≡ Some t → type_number t ≡ n
no_row n t e = absurd cc

-- the number of a type is the one that it was read from
number_is : (n : ℕ) (t : PacketType) → type_of n ≡ Some t → type_number t ≡ n
number_is n t =
    row_is n 0 Request t _ refl (row_is n 1 Response t _ refl (row_is n 2 ClientStream t _ refl (row_is n 4 ClientError t _ refl
    (row_is n 5 ServerError t _ refl (row_is n 7 ServerStream t _ refl (row_is n 8 Completion t _ refl (no_row n t)))))))

received : (role receiver : Role) (u t : PacketType) → if_received role receiver u ≡ Some t → (receiver ≡ role) × (u ≡ t)
received Server Server u t e = (refl, cc)
received Server Client u t e = absurd cc
received Client Server u t e = absurd cc
received Client Client u t e = (refl, cc)

received_type : (role : Role) (o : Option PacketType) (t : PacketType) → option_and_then (λ u. if_received role (receiver_of u) u) o ≡ Some t → (o ≡ Some t) × (receiver_of t ≡ role)
received_type role None t e = absurd cc
received_type role (Some u) t e = let (role_is, one) = received role (receiver_of u) u t e in (ap Some one, ap receiver_of (sym one) ∙ role_is)

some_id : (n : ℕ) (others : Option PacketType) (t : PacketType) → (if n == 0 then None else others) ≡ Some t → (0 < n) × (others ≡ Some t)
some_id n others t e = elim (cases_eq n 0) [
  | inl is ↦ let none : None ≡ Some t = rw (eq-eqb n 0 is) at e in absurd cc
  | inr not ↦ (omega (arith, not), rw (ne_eqb n 0 not) at e)
]

heard_as_hears : (role : Role) (m : Message) (t : PacketType) → heard_as role m ≡ Some t → Hears role m t
unfolding heard_as
heard_as_hears role m t e =
    let (channel, e1) = some_id m.name.channel _ t e in
    let (service, e2) = some_id m.name.service _ t e1 in
    let (method, e3) = some_id m.name.method _ t e2 in
    let (its, receiver) = received_type role (type_of m.ptype) t e3 in
    record { number = number_is m.ptype t its; receiver = receiver; channel = channel; service = service; method = method }

-- the message of a packet that was made of it
message_back : (m : Message) (t : PacketType) → type_number t ≡ m.ptype → message_of (packet_as m t) ≡ m
message_back m t number = ap (λ n. record m { ptype = n }) number

packet_made : (m : Message) (o : Option PacketType) (packet : Packet) → option_map (packet_as m) o ≡ Some packet → (o ≡ Some packet.ptype) × (packet_as m packet.ptype ≡ packet)
packet_made m None packet e = absurd cc
packet_made m (Some t) packet e =
    let same : packet_as m t ≡ packet = cc in
    let its : t ≡ packet.ptype = ap (λ (p : Packet). p.ptype) same in
    (ap Some its, ap (packet_as m) (sym its) ∙ same)

heard_says : (role : Role) (bytes : List ℕ) (packet : Packet) (answer : Result Message ℕ) → packet_of bytes ≡ answer → heard_message role answer ≡ Some packet → IsPacket bytes (message_of packet) × Hears role (message_of packet) packet.ptype
heard_says role bytes packet (Err at) is e = absurd cc
heard_says role bytes packet (Ok m) is e =
    let (type_is, made) = packet_made m (heard_as role m) packet e in
    let hears = heard_as_hears role m packet.ptype type_is in
    let same : m ≡ message_of packet = sym (message_back m packet.ptype hears.number) ∙ ap message_of made in
    (subst (IsPacket bytes) same (packet_is bytes m is), subst (λ n. Hears role n packet.ptype) same hears)

both_true : (x y : Bool) → (x && y) ≡ true → (x ≡ true) × (y ≡ true)
both_true true y e = (refl, e)
both_true false y e = absurd cc

found_in_frame : (role : Role) (frame : FrameParts) (packet : Packet) → heard_in_frame role frame ≡ Some packet → IsHeardIn role frame packet
found_in_frame role frame packet e = elim (cases_Bool (is_handled frame)) [
  | inl is ↦
      let (address, control) = both_true (frame.address == ADDRESS) (frame.control == UI_CONTROL) is in
      let heard : heard_in_payload role frame.payload ≡ Some packet = rw is at e in
      let (says, hears) = heard_says role frame.payload packet (packet_of frame.payload) refl heard in
      record { address = eqb-true _ _ address; control = eqb-true _ _ control; says = says; hears = hears }
  | inr other ↦ let none : None ≡ Some packet = rw other at e in absurd cc
]

handled : (frame : FrameParts) → frame.address ≡ ADDRESS → frame.control ≡ UI_CONTROL → is_handled frame ≡ true
handled frame address control = rw (eq-eqb frame.address ADDRESS address, eq-eqb frame.control UI_CONTROL control) refl

heard_of_relation : (role : Role) (frame : FrameParts) (packet : Packet) → IsHeardIn role frame packet → heard_in_frame role frame ≡ Some packet
heard_of_relation role frame packet is =
    let m = message_of packet in
    rw (handled frame is.address is.control) (
    ap (heard_message role) (only_packet frame.payload m is.says) ∙ ap (option_map (packet_as m)) (heard_as_is role m packet.ptype is.hears)
    )

pub is_heard_exactly : IsHeardExactly
is_heard_exactly role frame packet = (found_in_frame role frame packet, heard_of_relation role frame packet)
