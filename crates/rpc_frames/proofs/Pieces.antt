-- What a listener does with a piece, segment by segment.
use Rattle.std.proofs.Common.{◌≡◌, ◌⊎◌, ℕ, ◌+◌, ◌-◌, ◌<◌, ◌≤◌, true, false, List, ◌++◌, length, take, drop, arith, Option, Some, None, is_some, sym, ◌∙◌, ap, subst, inl, inr, refl, append_assoc, append-nil, length-take, length-drop}
use Rattle.std.proofs.Math.Seq.{take-add}
use Rattle.std.proofs.lemmas.Bool.{cases_lt}
use Rattle.std.proofs.lemmas.List.{take_rest}
use Rattle.std.specs.Option.{option_to_list}
use Rattle.rpc_packet.specs.declared.owned.Packet.{Packet}
use Rattle.rpc_packet.specs.Hearing.{Hears}
use Rattle.rpc_packet.specs.Message.{message_of}
use Rattle.rpc_frames.specs.Heard.{heard_packets}
use Rattle.rpc_frames.specs.Listening.{HasHeard, HearsMore, Listening, LosesFirst, LosesPacket, StopsAtPacket, StopsAtSegment}
use Rattle.rpc_frames.proofs.Growing.{packets_same}

-- what is left of a piece
abbrev pub rest_of : List ℕ → ℕ → List ℕ
rest_of piece done = take (length piece - done) (drop done piece)

-- two parts of a piece behind a stream
pub piece_parts : (bytes piece : List ℕ) (done count : ℕ) → (bytes ++ take done piece) ++ take count (rest_of piece done) ≡ bytes ++ take (done + count) piece
piece_parts bytes piece done count =
    let parts : take (done + count) piece ≡ take done piece ++ take count (rest_of piece done) =
    take-add done count piece ∙ ap (λ rest. take done piece ++ take count rest) (sym (take_rest piece done)) in
    append_assoc bytes (take done piece) (take count (rest_of piece done)) ∙ ap (λ more. bytes ++ more) (sym parts)

-- no packet was heard in so many bytes of a piece
pub record HeardNone (old new : Listening) (piece : List ℕ) (done : ℕ) : Type 0 where
  pub within : done ≤ length piece
  pub more : HearsMore old new (take done piece) None
  pub none :
      (stream : List ℕ) → HasHeard old stream → (n : ℕ) → n ≤ done →
      heard_packets old.role (stream ++ take n piece) ≡ heard_packets old.role stream

-- bytes in which no packet is heard, and bytes behind them
hears_behind :
    (old mid new : Listening) (front back all : List ℕ) (packet : Option Packet) → ((stream : List ℕ) → (stream ++ front) ++ back ≡ stream ++ all) →
    HearsMore old mid front None → HearsMore mid new back packet → HearsMore old new all packet
hears_behind old mid new front back all packet parts first second = record {
  role = second.role ∙ first.role;
  stands = λ stream has. subst (HasHeard new) (parts stream) (second.stands (stream ++ front) (first.stands stream has));
  heard = λ stream has.
      let later : heard_packets old.role ((stream ++ front) ++ back) ≡ heard_packets old.role (stream ++ front) ++ option_to_list packet =
      subst (λ role. heard_packets role ((stream ++ front) ++ back) ≡ heard_packets role (stream ++ front) ++ option_to_list packet) first.role
      (second.heard (stream ++ front) (first.stands stream has)) in
      ap (heard_packets old.role) (sym (parts stream)) ∙
      (later ∙ ap (λ packets. packets ++ option_to_list packet) (first.heard stream has ∙ append-nil (heard_packets old.role stream)));
}

module _ (old mid new : Listening) (piece : List ℕ) (done taken : ℕ) (before : HeardNone old mid piece done) (within : taken ≤ length (rest_of piece done)) where
  pub within_piece : done + taken ≤ length piece
  within_piece = omega (arith, within, before.within, length-take {A = ℕ} (length piece - done) (drop done piece), length-drop {A = ℕ} done piece)

  pub hears_on : (packet : Option Packet) → HearsMore mid new (take taken (rest_of piece done)) packet → HearsMore old new (take (done + taken) piece) packet
  hears_on packet more =
      hears_behind old mid new (take done piece) (take taken (rest_of piece done)) (take (done + taken) piece) packet
      (λ stream. piece_parts stream piece done taken) before.more more

  module _ (stops : StopsAtSegment mid (rest_of piece done) taken) where
    -- none is heard before the last of the bytes
    none_within :
        (stream : List ℕ) → HasHeard old stream → (n : ℕ) → n < done + taken →
        heard_packets old.role (stream ++ take n piece) ≡ heard_packets old.role stream
    none_within stream has n below = at (cases_lt n done)
      where
        at : (n < done) ⊎ (done ≤ n) → heard_packets old.role (stream ++ take n piece) ≡ heard_packets old.role stream
        at (inl inside) = before.none stream has n (omega (arith, inside))
        at (inr behind) =
            let k = n - done in
            let front = stream ++ take done piece in
            let number : done + k ≡ n = omega (arith, behind) in
            let few : k < taken = omega (arith, behind, below) in
            let parts : front ++ take k (rest_of piece done) ≡ stream ++ take n piece =
            subst (λ m. front ++ take k (rest_of piece done) ≡ stream ++ take m piece) number (piece_parts stream piece done k) in
            ap (heard_packets old.role) (sym parts) ∙
            (packets_same old.role front (front ++ take k (rest_of piece done)) (stops.none_before front (before.more.stands stream has) k few)
            ∙ before.none stream has done (omega arith))

    pub stops_at_packet : (packet : Option Packet) → (done + taken < length piece → is_some packet ≡ true) → StopsAtPacket old piece (done + taken) packet
    stops_at_packet packet whole = record { none_before = none_within; one_or_whole = whole }

    pub heard_none_on : HearsMore mid new (take taken (rest_of piece done)) None → HeardNone old new piece (done + taken)
    heard_none_on more =
        let all = hears_on None more in
        record {
          within = within_piece;
          more = all;
          none = λ stream has n upto. at stream has n upto (cases_lt n (done + taken)) (all.heard stream has ∙ append-nil (heard_packets old.role stream));
        }
      where
        at : (stream : List ℕ) → HasHeard old stream → (n : ℕ) → n ≤ done + taken → (n < done + taken) ⊎ (done + taken ≤ n)
            → heard_packets old.role (stream ++ take (done + taken) piece) ≡ heard_packets old.role stream
            → heard_packets old.role (stream ++ take n piece) ≡ heard_packets old.role stream
        at stream has n upto (inl below) last = none_within stream has n below
        at stream has n upto (inr behind) last =
            let number : done + taken ≡ n = omega (arith, upto, behind) in
            subst (λ m. heard_packets old.role (stream ++ take m piece) ≡ heard_packets old.role stream) number last

-- where no packet was heard
pub none_heard : (old new : Listening) (bytes : List ℕ) (packet : Option Packet) → is_some packet ≡ false → HearsMore old new bytes packet → HearsMore old new bytes None
none_heard old new bytes None none more = more
none_heard old new bytes (Some packet) none more = cc

-- the first packet of a piece was lost
pub loses_first : (old mid new : Listening) (piece : List ℕ) (done : ℕ) → HeardNone old mid piece done → LosesPacket mid new (rest_of piece done) → LosesFirst old new piece
loses_first old mid new piece done before lost = record {
  taken = done + lost.taken;
  packet = lost.packet;
  within = within_piece old mid new piece done lost.taken before lost.within;
  hears = subst (λ role. Hears role (message_of lost.packet) lost.packet.ptype) before.more.role lost.hears;
  more = hears_on old mid new piece done lost.taken before lost.within (Some lost.packet) lost.more;
  stops = stops_at_packet old mid new piece done lost.taken before lost.within lost.stops (Some lost.packet) (λ part. refl);
}
