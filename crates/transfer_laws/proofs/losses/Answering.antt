-- The data phase, whatever is lost in it: what a sender answers, and what a receiver does where time passes.
use Rattle.std.proofs.Common.{◌≡◌, ℕ, ◌+◌, ◌-◌, ◌*◌, ◌<◌, ◌≤◌, ◌==◌, ◌&&◌, ◌⊎◌, inl, inr, nat_lt, min, Bool, true, false, if◌then◌else◌, List, [], ◌∷◌, ◌++◌, length, map, Some, refl, sym, ap, ◌∙◌, subst, arith}
use Rattle.std.proofs.lemmas.Bool.{eqb-true}
use Rattle.std.proofs.lemmas.Bool.Decides.{nat_tests}
use Rattle.std.specs.List.{AllByRecursion}
use Rattle.rpc_ids.specs.declared.Status.TheVariants.{OutOfRange}
use Rattle.transfer_base.specs.declared.Ask.{Ask}
use Rattle.transfer_base.specs.declared.Piece.{Piece}
use Rattle.transfer_base.specs.PieceLists.{end_of}
use Rattle.transfer_sender.specs.Answer.{Answer, answer_to, chunk_size, empty_last_piece, pieces_again}
use Rattle.transfer_sender.specs.Cut.{piece_at, pieces_of_window, pieces_up_to}
use Rattle.transfer_words.specs.Word.{Word, data_comes, parameters}
use Rattle.transfer_receiver.specs.Receiver.{Receiver}
use Rattle.transfer_laws.proofs.cores.AskLaws.{fits}
use Rattle.transfer_laws.proofs.words.Sessions.{all_join}
use Rattle.transfer_laws.proofs.pairs.Sending.{size_stays}
use Rattle.transfer_laws.proofs.losses.Grid.{Begins, ComeFrom, IsCut, IsPart, IsPieceAt, Setup, Stands, come_end, come_more, is_cut, part, part_size}
use Rattle.transfer_laws.proofs.losses.DataPhase.{AskFrom, Flowing, IsClean, IsData, IsNone, IsOne, IsSound, ends, flows, rises, sender_at, waits}

module _ (k : Setup) (p : ℕ) (a : Ask) where
  -- what a sender answers that stands at p, and hears an ask
  pub record Sent : Type 0 where
    pub position : ℕ
    pub pieces : List Piece
    pub is : (active timeouts : ℕ) → answer_to (sender_at k p active timeouts) a ≡ record { after = sender_at k position active timeouts; pieces = pieces }
    pub few : length pieces ≤ 64
    pub all : AllByRecursion (IsPart k) pieces
    pub stands : Stands k position

module _ (k : Setup) (p : ℕ) (a : Ask) (here : Stands k p) (sound : IsSound k a) where
  abbrev c : ℕ
  c = k.chunk

  abbrev n : ℕ
  n = length k.bytes

  abbrev stop : ℕ
  stop = min (k.offset + sound.end * c) n

  abbrev cut : ℕ → List Piece
  cut at = pieces_up_to k.bytes c stop at 64

  cut_is : (at : ℕ) → pieces_of_window k.bytes (chunk_size a.max_chunk) a.window_end at ≡ cut at
  cut_is at =
      ap (λ z. pieces_up_to k.bytes (chunk_size z) (min a.window_end n) at 64) sound.chunk
      ∙ (ap (λ z. pieces_up_to k.bytes z (min a.window_end n) at 64) (size_stays c k.some k.high) ∙ ap (λ z. pieces_up_to k.bytes c (min z n) at 64) sound.window)

  abbrev by_again : Bool → ℕ → ℕ → Answer
  by_again b active timeouts =
      if b && nat_lt n a.offset then record { after = record (sender_at k p active timeouts) { ended = Some OutOfRange }; pieces = [] }
      else record {
        after = sender_at k (end_of (if b then a.offset else p) (if b then pieces_again k.bytes a else pieces_of_window k.bytes (chunk_size a.max_chunk) a.window_end p)) active timeouts;
        pieces = if b then pieces_again k.bytes a else pieces_of_window k.bytes (chunk_size a.max_chunk) a.window_end p;
      }

  -- one that goes on
  abbrev sent_on : a.again ≡ false → Sent k p a
  sent_on e =
      let all : IsCut k p (cut p) 64 = is_cut k sound.end 64 p here in
      record {
        position = end_of p (cut p);
        pieces = cut p;
        is = λ active timeouts. ap (λ b. by_again b active timeouts) e ∙ ap (λ ps. record { after = sender_at k (end_of p ps) active timeouts; pieces = ps }) (cut_is p);
        few = all.few;
        all = all.all;
        stands = all.end;
      }

  -- one that goes back

  abbrev empty : Piece
  empty = empty_last_piece k.bytes

  empty_is : empty ≡ part k n
  empty_is = ap (piece_at k.bytes n) (omega arith)

  abbrev by_end : Bool → ℕ → ℕ → Answer
  by_end b active timeouts =
      record {
        after = sender_at k (end_of a.offset (if b then empty ∷ [] else pieces_of_window k.bytes (chunk_size a.max_chunk) a.window_end a.offset)) active timeouts;
        pieces = if b then empty ∷ [] else pieces_of_window k.bytes (chunk_size a.max_chunk) a.window_end a.offset;
      }

  answer_is : a.again ≡ true → (active timeouts : ℕ) → answer_to (sender_at k p active timeouts) a ≡ by_end (a.offset == n) active timeouts
  answer_is e active timeouts =
      ap (λ b. by_again b active timeouts) e
      ∙ ap (λ b. if b then record { after = record (sender_at k p active timeouts) { ended = Some OutOfRange }; pieces = [] } else by_end (a.offset == n) active timeouts) (fits a.offset n (sound.begins e).inside)

  abbrev sent_end : a.again ≡ true → (a.offset == n) ≡ true → Sent k p a
  sent_end e t =
      let full : a.offset ≡ n = eqb-true a.offset n t in
      let end : end_of a.offset (empty ∷ []) ≡ n = ap (λ z. z + length (empty).bytes) full ∙ omega (arith, ap (λ (z : Piece). length z.bytes) empty_is, part_size k n (omega arith)) in
      record {
        position = n;
        pieces = empty ∷ [];
        is = λ active timeouts. answer_is e active timeouts ∙ (ap (λ b. by_end b active timeouts) t ∙ ap (λ z. record { after = sender_at k z active timeouts; pieces = empty ∷ [] }) end);
        few = omega arith;
        all = (record { at = n; begins = subst (Begins k) full (sound.begins e); is = empty_is }, tt);
        stands = inl refl;
      }

  abbrev sent_back : a.again ≡ true → (a.offset == n) ≡ false → Sent k p a
  sent_back e t =
      let all : IsCut k a.offset (cut a.offset) 64 = is_cut k sound.end 64 a.offset (inr (sound.begins e)) in
      record {
        position = end_of a.offset (cut a.offset);
        pieces = cut a.offset;
        is = λ active timeouts. answer_is e active timeouts ∙ (ap (λ b. by_end b active timeouts) t ∙ ap (λ ps. record { after = sender_at k (end_of a.offset ps) active timeouts; pieces = ps }) (cut_is a.offset));
        few = all.few;
        all = all.all;
        stands = all.end;
      }

  -- what holds of each of the three, holds of what it answers
  by_cases : (P : Sent k p a → Type 0) → ((e : a.again ≡ false) → P (sent_on e)) → ((e : a.again ≡ true) → (t : (a.offset == n) ≡ true) → P (sent_end e t))
      → ((e : a.again ≡ true) → (t : (a.offset == n) ≡ false) → P (sent_back e t)) → (s : Sent k p a) × P s
  by_cases P on end back = by_test a.again refl
    where
      by_place : (b : Bool) → (a.offset == n) ≡ b → a.again ≡ true → (s : Sent k p a) × P s
      by_place true t e = (sent_end e t, end e t)
      by_place false t e = (sent_back e t, back e t)

      by_test : (b : Bool) → a.again ≡ b → (s : Sent k p a) × P s
      by_test true e = by_place (a.offset == n) refl e
      by_test false e = (sent_on e, on e)

  pub sends : Sent k p a
  sends = (by_cases (λ s. Unit {0}) (λ e. tt) (λ e t. tt) (λ e t. tt)).0

pub as_data : (k : Setup) (ps : List Piece) → AllByRecursion (IsPart k) ps → AllByRecursion (IsData k) (map data_comes ps)
as_data k [] all = tt
as_data k (x ∷ ps) all = (all.0, as_data k ps all.1)

-- The receiver's asks and the chunks on their way make the data phase go on.
module _ (k : Setup) (times : ℕ) (Lossy : Type 0) (r : Receiver) (w p : ℕ) (a : Ask) (sent rest : List Word) (f : Flowing k times Lossy r w p sent (parameters a ∷ rest)) where
  abbrev size : ℕ
  size = length k.bytes

  abbrev asked : IsSound k a
  asked = f.all_asked.0

  abbrev pieces_to : ℕ → List Piece
  pieces_to at = cut k p a f.stands asked at

  -- what the sender answers, and how the data phase goes on where all of it goes on
  pub record Answered : Type 0 where
    pub sent_is : Sent k p a
    pub flowing : Flowing k times Lossy r w sent_is.position (sent ++ map data_comes sent_is.pieces) rest

  behind : (s : Sent k p a) → Lossy ⊎ IsClean k r w s.position (sent ++ map data_comes s.pieces) rest → Flowing k times Lossy r w s.position (sent ++ map data_comes s.pieces) rest
  behind s fresh = record {
    takes = f.takes;
    stands = s.stands;
    resends = f.resends;
    all_sent = all_join (IsData k) sent (map data_comes s.pieces) f.all_sent (as_data k s.pieces s.all);
    all_asked = f.all_asked.1;
    fresh = fresh;
  }

  -- where the ask is for v chunks from the receiver's next byte on, of which u are on their way
  window_flows : (u v at : ℕ) → r.next < size → a.window_end ≡ r.next + v * k.chunk → u ≤ v → v ≤ w → at ≡ min (r.next + u * k.chunk) size → ComeFrom k r.next u sent → AskFrom k r.next v rest w
      → IsClean k r w (end_of at (pieces_to at)) (sent ++ map data_comes (pieces_to at)) rest
  window_flows u v at below window low high position come ask =
      let more : ℕ = v - u in
      let sum : u + more ≡ v = omega (arith, low) in
      let small : u + more ≤ 64 = omega (arith, sum, high, f.takes.high, f.takes.span_high) in
      let same : min (k.offset + asked.end * k.chunk) size ≡ min (r.next + (u + more) * k.chunk) size = ap (λ z. min z size) (sym asked.window ∙ (window ∙ ap (λ z. r.next + z * k.chunk) (sym sum))) in
      let come' : ComeFrom k r.next (u + more) (sent ++ map data_comes (pieces_up_to k.bytes k.chunk (min (r.next + (u + more) * k.chunk) size) at 64)) = come_more k sent r.next u more at come small position in
      let end : end_of at (pieces_up_to k.bytes k.chunk (min (r.next + (u + more) * k.chunk) size) at 64) ≡ min (r.next + (u + more) * k.chunk) size
      = come_end k r.next u more at (omega (arith, below)) small position in
      subst (λ z. IsClean k r w (end_of at (pieces_up_to k.bytes k.chunk z at 64)) (sent ++ map data_comes (pieces_up_to k.bytes k.chunk z at 64)) rest) (sym same)
      (flows (u + more) below end come' (subst (λ z. AskFrom k r.next z rest w) (sym sum) ask))

  abbrev Clean : Type 0
  Clean = IsClean k r w p sent (parameters a ∷ rest)

  abbrev CleanThen : Sent k p a → Type 0
  CleanThen s = IsClean k r w s.position (sent ++ map data_comes s.pieces) rest

  by_fresh : (s : Sent k p a) → (Clean → CleanThen s) → Lossy ⊎ Clean → Lossy ⊎ CleanThen s
  by_fresh s later (inl lost) = inl lost
  by_fresh s later (inr clean) = inr (later clean)

  both : a.again ≡ false → a.again ≡ true → ⊥
  both e f = grind (arith, nat_tests, e, f)

  clean_on : (e : a.again ≡ false) → Clean → CleanThen (sent_on k p a f.stands asked e)
  clean_on e (waits none one) = absurd (both e one.0.0)
  clean_on e (ends full one none) = absurd none
  clean_on e (flows u below position come ask) = window_flows u ask.0 p below ask.2.1 ask.1 (rises k r.next ask.0 rest w ask.3) position come ask.3

  clean_end : (e : a.again ≡ true) (t : (a.offset == size) ≡ true) → Clean → CleanThen (sent_end k p a f.stands asked e t)
  clean_end e t (waits none one) = ends (sym one.0.1 ∙ eqb-true a.offset size t) (one_more sent none) one.1
    where
      one_more : (xs : List Word) → IsNone xs → IsOne (IsPieceAt k size) (xs ++ data_comes (empty_last_piece k.bytes) ∷ [])
      one_more [] none = (empty_is k p a f.stands asked, tt)
      one_more (x ∷ xs) none = absurd none
  clean_end e t (ends full one none) = absurd none
  clean_end e t (flows u below position come ask) = absurd (both ask.2.0 e)

  clean_back : (e : a.again ≡ true) (t : (a.offset == size) ≡ false) → Clean → CleanThen (sent_back k p a f.stands asked e t)
  clean_back e t (waits none one) =
      let below : r.next < size = subst (λ z. z < size) one.0.1 (below_end a.offset t (asked.begins e).inside) in
      window_flows 0 w a.offset below (one.0.2 ∙ f.takes.window) (omega arith) (omega arith) (one.0.1 ∙ omega (arith, below)) (none_come sent none) (none_ask rest one.1)
    where
      below_end : (x : ℕ) → (x == size) ≡ false → x ≤ size → x < size
      below_end x t inside = grind (arith, nat_tests)

      none_come : (xs : List Word) → IsNone xs → ComeFrom k r.next 0 xs
      none_come [] none = inl refl
      none_come (x ∷ xs) none = absurd none

      none_ask : (xs : List Word) → IsNone xs → AskFrom k r.next w xs w
      none_ask [] none = refl
      none_ask (x ∷ xs) none = absurd none
  clean_back e t (ends full one none) = absurd none
  clean_back e t (flows u below position come ask) = absurd (both ask.2.0 e)

  pub answered : Answered
  answered =
      let found = by_cases k p a f.stands asked (λ s. Lossy ⊎ CleanThen s)
      (λ e. by_fresh (sent_on k p a f.stands asked e) (clean_on e) f.fresh)
      (λ e t. by_fresh (sent_end k p a f.stands asked e t) (clean_end e t) f.fresh)
      (λ e t. by_fresh (sent_back k p a f.stands asked e t) (clean_back e t) f.fresh) in
      record { sent_is = found.0; flowing = behind found.0 found.1 }
