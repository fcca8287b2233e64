-- A frame is one step of a listener that is between frames.
use Rattle.std.proofs.Common.{◌≡◌, ◌⊎◌, ℕ, zero, suc, ◌+◌, ◌<◌, ◌≤◌, List, [], ◌∷◌, ◌++◌, length, take, Option, Some, None, false, sym, ◌∙◌, ap, arith, append_assoc, append-nil, length-append, inl, inr}
use Rattle.std.specs.Option.{option_to_list}
use Rattle.std.proofs.lemmas.Bool.{cases_lt}
use Rattle.std.proofs.lemmas.List.{append_cancel_left, take_all, take-append-le}
use Rattle.std.proofs.lemmas.List.Elements.{All-take}
use Rattle.hdlc_frame.specs.declared.octets.TheConstants.{FLAG}
use Rattle.hdlc_frame.specs.Encoded.{text_of, ui_content}
use Rattle.hdlc_frame.specs.Found.{found}
use Rattle.hdlc_frame.specs.Segments.{is_flag}
use Rattle.hdlc_frame.proofs.Parting.{NoFlag, found_text}
use Rattle.hdlc_frame.proofs.ReadBack.{stands_flag_free, text_stands}
use Rattle.rpc_packet.specs.declared.owned.Packet.{Packet}
use Rattle.rpc_packet.specs.Message.{Message, message_of}
use Rattle.rpc_packet.specs.Spelling.{spelling_of}
use Rattle.rpc_frames.specs.declared.limits.TheConstants.{ADDRESS, LARGEST_CONTENT}
use Rattle.rpc_frames.specs.Heard.{heard_packets}
use Rattle.rpc_frames.specs.Laws.{IsOneStep}
use Rattle.rpc_frames.specs.Listening.{HasHeard, Listening, StopsAtSegment}
use Rattle.rpc_frames.specs.Written.{IsBetweenFrames, frame_of_packet}
use Rattle.rpc_frames.proofs.HeardBack.{found_flag_nothing, heard_between, readable}

-- no octet of a text is a flag
text_free : (content : List ℕ) → NoFlag (text_of content)
text_free content = stands_flag_free (text_of content) content (text_stands content)

-- a part of a text behind a flag, with the flag
part_between : (stream text : List ℕ) (n : ℕ) → IsBetweenFrames stream → NoFlag text → n < length text + 2 → found LARGEST_CONTENT (stream ++ take n (FLAG ∷ (text ++ FLAG ∷ []))) ≡ found LARGEST_CONTENT stream
part_between stream text zero between free below = ap (found LARGEST_CONTENT) (append-nil stream)
part_between stream text (suc n) between free below =
    let part : take n (text ++ FLAG ∷ []) ≡ take n text = take-append-le n text (FLAG ∷ []) (omega arith) in
    ap (λ rest. found LARGEST_CONTENT (stream ++ FLAG ∷ rest)) part ∙
    ap (found LARGEST_CONTENT) (sym (append_assoc stream (FLAG ∷ []) (take n text))) ∙
    found_text LARGEST_CONTENT (stream ++ FLAG ∷ []) (take n text) (All-take (λ octet. is_flag octet ≡ false) n text free) ∙
    found_flag_nothing stream between

-- no part of a frame ends a segment
pub part_of_frame :
    (m : Message) (stream : List ℕ) (n : ℕ) → IsBetweenFrames stream → n < length (frame_of_packet m) →
    found LARGEST_CONTENT (stream ++ take n (frame_of_packet m)) ≡ found LARGEST_CONTENT stream
part_of_frame m stream n between below =
    let text = text_of (ui_content ADDRESS (spelling_of m)) in
    part_between stream text n between (text_free (ui_content ADDRESS (spelling_of m))) (omega (arith, length-append text (FLAG ∷ [])))

longer : {X : Type 0} (xs : List X) (x : X) → xs ≡ xs ++ x ∷ [] → ⊥
longer xs x same = omega (arith, ap length same, length-append xs (x ∷ []))

one_option : {X : Type 0} (o : Option X) (x : X) → option_to_list o ≡ x ∷ [] → o ≡ Some x
one_option None x same = absurd (cc)
one_option (Some y) x same = cc

all_taken :
    (old : Listening) (m : Message) (stream : List ℕ) (taken : ℕ) → IsBetweenFrames stream → HasHeard old stream → taken ≤ length (frame_of_packet m) →
    StopsAtSegment old (frame_of_packet m) taken → (taken < length (frame_of_packet m)) ⊎ (length (frame_of_packet m) ≤ taken) → taken ≡ length (frame_of_packet m)
all_taken old m stream taken between has within stops (inr all) = omega arith
all_taken old m stream taken between has within stops (inl part) =
    let (one, more) = stops.one_or_whole stream has part in
    absurd (longer (found LARGEST_CONTENT stream) one (sym (part_of_frame m stream taken between part) ∙ more))

pub is_one_step : (packet : Packet) → IsOneStep packet
is_one_step packet old new stream taken heard has between within stops more is =
    let frame = frame_of_packet (message_of packet) in
    let all : taken ≡ length frame = all_taken old (message_of packet) stream taken between has within stops (cases_lt taken (length frame)) in
    let whole : take taken frame ≡ frame = ap (λ n. take n frame) all ∙ take_all (length frame) frame (omega arith) in
    let first : heard_packets old.role stream ++ option_to_list heard ≡ heard_packets old.role stream ++ packet ∷ [] =
    sym (more.heard stream has) ∙ ap (λ bytes. heard_packets old.role (stream ++ bytes)) whole ∙
    heard_between old.role packet (readable old.role packet is) stream between in
    (all, one_option heard packet (append_cancel_left (heard_packets old.role stream) (option_to_list heard) (packet ∷ []) first))
