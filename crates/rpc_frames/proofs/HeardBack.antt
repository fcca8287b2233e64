-- What is written for packets is heard as these packets.
use Rattle.std.proofs.Common.{◌≡◌, ℕ, ◌<◌, List, [], ◌∷◌, ◌++◌, map, slice_index_or, Some, Ok, option_map, refl, sym, ◌∙◌, ap, subst, arith, append_assoc, append-nil, inl, inr}
use Rattle.std.specs.List.{All, filter_map}
use Rattle.std.proofs.lemmas.Bool.{ne_eqb}
use Rattle.std.proofs.lemmas.List.Elements.{All-head, All-tail}
use Rattle.hdlc_frame.specs.declared.octets.TheConstants.{FLAG}
use Rattle.hdlc_frame.specs.Encoded.{text_of, ui_content}
use Rattle.hdlc_frame.specs.Found.{FrameParts, found, found_in}
use Rattle.hdlc_frame.specs.Laws.{IsReadBack, ended}
use Rattle.hdlc_frame.specs.Segments.{open_text}
use Rattle.hdlc_frame.proofs.Parting.{found_flag, open_text_flag, open_text_none}
use Rattle.hdlc_frame.proofs.ReadBack.{is_read_back}
use Rattle.rpc_ids.specs.declared.method.Role.{Role}
use Rattle.rpc_ids.specs.declared.method.Role.TheVariants.{Server, Client}
use Rattle.rpc_packet.specs.declared.owned.Packet.{Packet}
use Rattle.rpc_packet.specs.declared.packet_type.PacketType.{PacketType}
use Rattle.rpc_packet.specs.Hearing.{Hears, heard_as, if_received}
use Rattle.rpc_packet.specs.Message.{Message, message_of}
use Rattle.rpc_packet.specs.PacketType.{type_of}
use Rattle.rpc_packet.specs.Reading.{packet_of}
use Rattle.rpc_packet.specs.Spelling.{spelling_of}
use Rattle.rpc_packet.proofs.SpellingLaws.{spelling_reads}
use Rattle.rpc_frames.specs.declared.limits.TheConstants.{ADDRESS, LARGEST_CONTENT}
use Rattle.rpc_frames.specs.Heard.{heard_in_frame, heard_in_payload, heard_packets, heard_message, packet_as}
use Rattle.rpc_frames.specs.Laws.{AreHeardBack, IsHeardBack}
use Rattle.rpc_frames.specs.Written.{FitsFrame, IsBetweenFrames, IsSendable, frame_of_packet, frames_of_packets}
use Rattle.rpc_frames.proofs.Growing.{heard_frame, nothing_heard_in, packets_same}
use Rattle.rpc_frames.proofs.TypeNumbers.{type_back}

received_by : (role : Role) (t : PacketType) → if_received role role t ≡ Some t
received_by Server t = refl
received_by Client t = refl

pos_ne : (n : ℕ) → 0 < n → (n ≡ 0) → ⊥
pos_ne n pos none = omega arith

-- what is heard is taken as of that type
pub heard_as_is : (role : Role) (m : Message) (t : PacketType) → Hears role m t → heard_as role m ≡ Some t
unfolding heard_as
heard_as_is role m t hears =
    let its_type : type_of m.ptype ≡ Some t = ap type_of (sym hears.number) ∙ type_back t in
    rw (
      ne_eqb m.name.channel 0 (pos_ne m.name.channel hears.channel),
      ne_eqb m.name.service 0 (pos_ne m.name.service hears.service),
      ne_eqb m.name.method 0 (pos_ne m.name.method hears.method),
      its_type,
      hears.receiver,
    ) (received_by role t)

-- a packet that is heard in its spelling, which fits into a frame
pub record IsReadable (role : Role) (packet : Packet) : Type 0 where
  pub hears : Hears role (message_of packet) packet.ptype
  pub reads : packet_of (spelling_of (message_of packet)) ≡ Ok (message_of packet)
  pub fits : FitsFrame (message_of packet)

pub readable : (role : Role) (packet : Packet) → IsSendable role packet → IsReadable role packet
readable role packet is = record { hears = is.hears; reads = spelling_reads (message_of packet) is.within; fits = is.fits }

heard_spelling : (role : Role) (packet : Packet) → IsReadable role packet → heard_in_payload role (spelling_of (message_of packet)) ≡ Some packet
heard_spelling role packet is =
    let m = message_of packet in
    ap (heard_message role) is.reads ∙ ap (option_map (packet_as m)) (heard_as_is role m packet.ptype is.hears)

abbrev carried : Packet → FrameParts
carried packet = record { address = ADDRESS; control = 3; payload = spelling_of (message_of packet) }

heard_carried : (role : Role) (packet : Packet) → IsReadable role packet → filter_map (heard_in_frame role) (carried packet ∷ []) ≡ packet ∷ []
heard_carried role packet is = rw (heard_spelling role packet is) refl

-- behind any stream
heard_anywhere :
    (role : Role) (packet : Packet) → IsReadable role packet → (stream : List ℕ) →
    heard_packets role (stream ++ frame_of_packet (message_of packet)) ≡ heard_packets role (stream ++ FLAG ∷ []) ++ packet ∷ []
heard_anywhere role packet is stream =
    let back : IsReadBack ADDRESS (spelling_of (message_of packet)) = is_read_back ADDRESS (spelling_of (message_of packet)) (omega arith) in
    heard_frame role (stream ++ FLAG ∷ []) (stream ++ frame_of_packet (message_of packet)) (carried packet) (back.found LARGEST_CONTENT stream is.fits) ∙
    ap (λ more. heard_packets role (stream ++ FLAG ∷ []) ++ more) (heard_carried role packet is)

nothing_ended : (stream : List ℕ) → IsBetweenFrames stream → ended (open_text stream) ≡ []
nothing_ended stream (inl none) = ap ended none
nothing_ended stream (inr empty) = ap ended empty

-- a flag ends nothing where no segment is open
pub found_flag_nothing : (stream : List ℕ) → IsBetweenFrames stream → found LARGEST_CONTENT (stream ++ FLAG ∷ []) ≡ found LARGEST_CONTENT stream
found_flag_nothing stream between =
    found_flag LARGEST_CONTENT stream ∙
    ap (λ texts. found LARGEST_CONTENT stream ++ map (found_in LARGEST_CONTENT) texts) (nothing_ended stream between) ∙
    append-nil (found LARGEST_CONTENT stream)

flag_ends_nothing : (role : Role) (stream : List ℕ) → IsBetweenFrames stream → heard_packets role (stream ++ FLAG ∷ []) ≡ heard_packets role stream
flag_ends_nothing role stream between = packets_same role stream (stream ++ FLAG ∷ []) (found_flag_nothing stream between)

closed_behind : (stream : List ℕ) (packet : Packet) → IsBetweenFrames (stream ++ frame_of_packet (message_of packet))
closed_behind stream packet =
    let text = text_of (ui_content ADDRESS (spelling_of (message_of packet))) in
    inr (ap open_text (sym (append_assoc stream (FLAG ∷ text) (FLAG ∷ []))) ∙ open_text_flag (stream ++ FLAG ∷ text))

pub heard_between :
    (role : Role) (packet : Packet) → IsReadable role packet → (stream : List ℕ) → IsBetweenFrames stream →
    heard_packets role (stream ++ frame_of_packet (message_of packet)) ≡ heard_packets role stream ++ packet ∷ []
heard_between role packet is stream between =
    heard_anywhere role packet is stream ∙ ap (λ front. front ++ packet ∷ []) (flag_ends_nothing role stream between)

pub is_heard_back : (role : Role) (packet : Packet) → IsReadable role packet → IsHeardBack role packet
is_heard_back role packet is = record {
  alone = heard_between role packet is [] (inl open_text_none) ∙ ap (λ front. front ++ packet ∷ []) (nothing_heard_in role);
  between = heard_between role packet is;
  anywhere = heard_anywhere role packet is;
  closed = λ stream. closed_behind stream packet;
}

-- several packets behind one another
written_first : (stream : List ℕ) (packet : Packet) (packets : List Packet) → stream ++ frames_of_packets (packet ∷ packets) ≡ (stream ++ frame_of_packet (message_of packet)) ++ frames_of_packets packets
written_first stream packet packets = sym (append_assoc stream (frame_of_packet (message_of packet)) (frames_of_packets packets))

all_between :
    (role : Role) (packets : List Packet) → All (IsReadable role) packets → (stream : List ℕ) → IsBetweenFrames stream →
    heard_packets role (stream ++ frames_of_packets packets) ≡ heard_packets role stream ++ packets
all_between role [] are stream between = ap (heard_packets role) (append-nil stream) ∙ sym (append-nil (heard_packets role stream))
all_between role (packet ∷ packets) are stream between =
    let front = stream ++ frame_of_packet (message_of packet) in
    let first = All-head (IsReadable role) packet packets are in
    let others = All-tail (IsReadable role) packet packets are in
    ap (heard_packets role) (written_first stream packet packets) ∙
    all_between role packets others front (closed_behind stream packet) ∙
    ap (λ heard. heard ++ packets) (heard_between role packet first stream between) ∙
    append_assoc (heard_packets role stream) (packet ∷ []) packets

all_closed : (packets : List Packet) (stream : List ℕ) → IsBetweenFrames stream → IsBetweenFrames (stream ++ frames_of_packets packets)
all_closed [] stream between = subst IsBetweenFrames (sym (append-nil stream)) between
all_closed (packet ∷ packets) stream between =
    subst IsBetweenFrames (sym (written_first stream packet packets))
    (all_closed packets (stream ++ frame_of_packet (message_of packet)) (closed_behind stream packet))

all_readable : (role : Role) (packets : List Packet) → All (IsSendable role) packets → All (IsReadable role) packets
all_readable role packets are = λ k d below. readable role (slice_index_or packets k d) (are k d below)

pub are_heard_back : (role : Role) (packets : List Packet) → All (IsSendable role) packets → AreHeardBack role packets
are_heard_back role packets are = record {
  alone = all_between role packets (all_readable role packets are) [] (inl open_text_none) ∙ ap (λ front. front ++ packets) (nothing_heard_in role);
  between = all_between role packets (all_readable role packets are);
  closed = all_closed packets;
}
