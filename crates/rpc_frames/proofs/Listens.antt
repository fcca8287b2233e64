-- What a listener does with bytes in which a segment ends, or none.
use Rattle.std.proofs.Common.{◌≡◌, ℕ, ◌<◌, ◌≤◌, List, [], ◌∷◌, ◌++◌, length, take, arith, IsNone, Option, Some, None, IfSome, Result, Ok, Err, OnErr, refl, sym, ◌∙◌, ap, subst, append-nil}
use Rattle.hdlc_frame.specs.Found.{Found, found}
use Rattle.hdlc_frame.specs.Found.Found.{frame, fault}
use Rattle.hdlc_frame.specs.declared.found.Got.{Got}
use Rattle.hdlc_frame.specs.Lent.{found_in_got, found_of}
use Rattle.hdlc_frame.specs.Machine.{HasRead}
use Rattle.hdlc_frame.specs.Pushed.{HasTaken}
use Rattle.rpc_ids.specs.declared.method.Role.{Role}
use Rattle.rpc_packet.specs.declared.owned.Packet.{Packet}
use Rattle.rpc_packet.specs.Hearing.{Hears}
use Rattle.rpc_packet.specs.Message.{message_of}
use Rattle.rpc_frames.specs.declared.heard.Heard.{Heard}
use Rattle.rpc_frames.specs.declared.heard.Heard.TheVariants as is
use Rattle.rpc_frames.specs.declared.limits.TheConstants.{LARGEST_CONTENT}
use Rattle.rpc_frames.specs.Counting.{with_segment}
use Rattle.rpc_frames.specs.Heard.{counts_of, heard_packets}
use Rattle.rpc_frames.specs.HeardAs.{HearsIn, packet_in}
use Rattle.rpc_frames.specs.Listening.{HasHeard, HearsMore, Listening, LosesPacket, StopsAtSegment}
use Rattle.rpc_frames.proofs.Growing.{counts_more, counts_same, packets_more, packets_same}

-- the decoder goes on, and this is found with the last of the bytes
abbrev pub Finds : Listening → List ℕ → List Found → Type 0
Finds old bytes more = (stream : List ℕ) → HasRead old.reading stream → found old.reading.limit (stream ++ bytes) ≡ found old.reading.limit stream ++ more

finds_within : (old : Listening) (bytes stream : List ℕ) (more : List Found) → Finds old bytes more → HasHeard old stream → found LARGEST_CONTENT (stream ++ bytes) ≡ found LARGEST_CONTENT stream ++ more
finds_within old bytes stream more finds has = subst (λ limit. found limit (stream ++ bytes) ≡ found limit stream ++ more) has.limit (finds stream has.read)

pub hears_segment :
    (old new : Listening) (bytes : List ℕ) (one : Found) (heard : Heard) → new.role ≡ old.role →
    HasTaken old.reading bytes new.reading → Finds old bytes (one ∷ []) → HearsIn old.role one heard →
    new.counts ≡ with_segment old.counts heard → HearsMore old new bytes (packet_in heard)
hears_segment old new bytes one heard role taken finds hears counts = record {
  role = role;
  stands = λ stream has. record {
    limit = taken.limit ∙ has.limit;
    read = taken.read stream has.read;
    counts =
        counts ∙ ap (λ c. with_segment c heard) has.counts ∙
        sym (counts_more old.role stream (stream ++ bytes) one heard (finds_within old bytes stream (one ∷ []) finds has) hears) ∙
        ap (λ r. counts_of r (stream ++ bytes)) (sym role);
  };
  heard = λ stream has. packets_more old.role stream (stream ++ bytes) one heard (finds_within old bytes stream (one ∷ []) finds has) hears;
}

pub hears_nothing :
    (old new : Listening) (bytes : List ℕ) → new.role ≡ old.role → HasTaken old.reading bytes new.reading → Finds old bytes [] →
    new.counts ≡ old.counts → HearsMore old new bytes None
hears_nothing old new bytes role taken finds counts =
    let same : (stream : List ℕ) → HasHeard old stream → found LARGEST_CONTENT (stream ++ bytes) ≡ found LARGEST_CONTENT stream =
    λ stream has. finds_within old bytes stream [] finds has ∙ append-nil (found LARGEST_CONTENT stream) in
    record {
      role = role;
      stands = λ stream has. record {
        limit = taken.limit ∙ has.limit;
        read = taken.read stream has.read;
        counts =
            counts ∙ has.counts ∙ sym (counts_same old.role stream (stream ++ bytes) (same stream has)) ∙
            ap (λ r. counts_of r (stream ++ bytes)) (sym role);
      };
      heard = λ stream has.
          packets_same old.role stream (stream ++ bytes) (same stream has) ∙ sym (append-nil (heard_packets old.role stream));
    }

-- what is heard is a packet for this role
pub packet_is_heard : (role : Role) (one : Found) (heard : Heard) → HearsIn role one heard → IfSome (packet_in heard) (λ packet. Hears role (message_of packet) packet.ptype)
packet_is_heard role one is.Fault hears = tt
packet_is_heard role one is.Other hears = tt
packet_is_heard role one is.Dropped hears = tt
packet_is_heard role (fault bad) (is.Packet ptype packet) hears = absurd (cc)
packet_is_heard role (frame parts) (is.Packet ptype packet) hears = let its = hears.2 in record {
  number = refl;
  receiver = its.receiver;
  channel = its.channel;
  service = its.service;
  method = its.method;
}

-- the bytes taken end with the first segment
pub stops_at_segment :
    (old : Listening) (piece : List ℕ) (taken : ℕ) (got : Option Got) → (IsNone got → taken ≡ length piece) →
    ((stream : List ℕ) → HasRead old.reading stream → found old.reading.limit (stream ++ take taken piece) ≡ found old.reading.limit stream ++ found_in_got got) →
    ((stream : List ℕ) → HasRead old.reading stream → (n : ℕ) → n < taken → found old.reading.limit (stream ++ take n piece) ≡ found old.reading.limit stream) →
    StopsAtSegment old piece taken
stops_at_segment old piece taken None whole gives first = record {
  none_before = λ stream has n below. subst (λ limit. found limit (stream ++ take n piece) ≡ found limit stream) has.limit (first stream has.read n below);
  one_or_whole = λ stream has part. let all = whole refl in absurd (omega arith);
}
stops_at_segment old piece taken (Some got) whole gives first = record {
  none_before = λ stream has n below. subst (λ limit. found limit (stream ++ take n piece) ≡ found limit stream) has.limit (first stream has.read n below);
  one_or_whole = λ stream has part. (found_of got, finds_within old (take taken piece) stream (found_of got ∷ []) gives has);
}

-- the packet that was heard and lost
pub loses_packet :
    (old new : Listening) (piece : List ℕ) (taken : ℕ) (heard : Heard) → 0 < taken → taken ≤ length piece →
    IfSome (packet_in heard) (λ packet. Hears old.role (message_of packet) packet.ptype) →
    HearsMore old new (take taken piece) (packet_in heard) → StopsAtSegment old piece taken →
    (packet : Packet) × (packet_in heard ≡ Some packet) → LosesPacket old new piece
loses_packet old new piece taken heard some within is more stops (packet, same) =
    let its : IfSome (Some packet) (λ p. Hears old.role (message_of p) p.ptype) = subst (λ o. IfSome o (λ p. Hears old.role (message_of p) p.ptype)) same is in
    record {
      taken = taken;
      packet = packet;
      some = some;
      within = within;
      hears = its;
      more = subst (HearsMore old new (take taken piece)) same more;
      stops = stops;
    }

pub on_err : {T E P : Type 0} (r : Result T E) → P → OnErr r P
on_err (Ok value) p = tt
on_err (Err error) p = p
