-- The data phase, whatever is lost in it: what comes of a piece, of an ask and of a timeout.
use Rattle.std.proofs.Common.{◌≡◌, ℕ, zero, suc, ◌+◌, ◌-◌, ◌*◌, ◌<◌, ◌≤◌, ◌==◌, ◌&&◌, not, ◌⊎◌, inl, inr, nat_le, nat_lt, min, Bool, true, false, if◌then◌else◌, List, [], ◌∷◌, ◌++◌, length, Some, None, refl, sym, ap, ◌∙◌, subst, arith}
use Rattle.std.proofs.lemmas.Bool.{eqb-true}
use Rattle.std.proofs.lemmas.Bool.Decides.{nat_tests}
use Rattle.std.specs.List.{AllByRecursion}
use Rattle.rpc_ids.specs.declared.Status.TheVariants.{Okay, Internal, OutOfRange}
use Rattle.transfer_base.specs.declared.Ask.{Ask}
use Rattle.transfer_base.specs.declared.Piece.{Piece}
use Rattle.transfer_base.specs.declared.limits.TheConstants.{MAX_RESOURCE}
use Rattle.transfer_receiver.specs.declared.answers.Received.{Received}
use Rattle.transfer_receiver.specs.declared.answers.Received.TheVariants.{Ignored, Kept, Again}
use Rattle.transfer_receiver.specs.declared.phase.Phase.TheVariants.{Recovering}
use Rattle.transfer_receiver.specs.Phase.{is_open, is_recovering}
use Rattle.transfer_receiver.specs.Receiver.{Receiver, ask_of, asking, span_of_ask}
use Rattle.transfer_receiver.specs.PieceRules.{PieceOutcome, active_at, asking_again, ending, going_on, ignoring, is_half_used, keeping, open_outcome, piece_outcome, taking}
use Rattle.transfer_receiver.specs.Run.{outcome_of}
use Rattle.transfer_sender.specs.Sender.{Sender}
use Rattle.transfer_words.specs.Word.{Word, data_comes, parameters}
use Rattle.transfer_words.specs.CoreAnswers.{of_piece}
use Rattle.transfer_laws.proofs.cores.AskLaws.{fits}
use Rattle.transfer_laws.proofs.words.Sessions.{all_join}
use Rattle.transfer_laws.specs.pairs.Pair.{words_of}
use Rattle.transfer_laws.proofs.losses.Grid.{Begins, ComeFrom, IsPart, IsPieceAt, Setup, Stands, less_or_not, next_begins, part, part_size}

abbrev pub IsNone : List Word → Type 0
IsNone [] = Unit {0}
IsNone (x ∷ xs) = ⊥

abbrev pub IsOne : (Word → Type 0) → List Word → Type 0
IsOne P [] = ⊥
IsOne P (x ∷ xs) = P x × IsNone xs

-- how many steps the pieces that are left may take
abbrev recovers : Bool → ℕ
recovers b = if b then 0 else 70

module _ (k : Setup) where
  abbrev c : ℕ
  c = k.chunk

  abbrev n : ℕ
  n = length k.bytes

  abbrev q : ℕ → Piece
  q at = part k at

  abbrev pub load : Receiver → ℕ
  load r = 140 * (length k.bytes - r.next) + recovers (is_recovering r.phase)

  abbrev pub sender_at : ℕ → ℕ → ℕ → Sender
  sender_at p active timeouts = record { bytes = k.bytes; position = p; active = active; timeouts = timeouts; ended = None }

  -- a receiver with so many chunks of its window left
  pub record Takes (r : Receiver) (w : ℕ) : Type 0 where
    pub opens : is_open r.phase ≡ true
    pub begins : Begins k r.next
    pub window : r.window_end ≡ r.next + w * k.chunk
    pub low : 1 ≤ w
    pub high : w ≤ r.span
    pub span_low : 1 ≤ r.span
    pub span_high : r.span ≤ 64
    pub chunk : r.chunk ≡ k.chunk

  -- the words that may be on the links

  abbrev pub IsData : Word → Type 0
  IsData (data_comes p) = IsPart k p
  IsData _ = ⊥

  -- an ask ends where a chunk begins, and so it does where it goes back to
  pub record IsSound (a : Ask) : Type 0 where
    pub end : ℕ
    pub window : a.window_end ≡ k.offset + end * k.chunk
    pub chunk : a.max_chunk ≡ k.chunk
    pub begins : a.again ≡ true → Begins k a.offset

  abbrev pub IsAsk : Word → Type 0
  IsAsk (parameters a) = IsSound a
  IsAsk _ = ⊥

  -- it goes on for v chunks from a place on
  abbrev pub GoesTo : ℕ → ℕ → Word → Type 0
  GoesTo next v (parameters a) = (a.again ≡ false) × (a.window_end ≡ next + v * k.chunk)
  GoesTo next v _ = ⊥

  -- these go on for more and more, from a window of u chunks up to one of w
  abbrev pub AskFrom : ℕ → ℕ → List Word → ℕ → Type 0
  AskFrom next u [] w = u ≡ w
  AskFrom next u (x ∷ xs) w = (v : ℕ) × (u ≤ v) × GoesTo next v x × AskFrom next v xs w

  -- it goes back to a receiver's next byte
  abbrev pub GoesBack : Receiver → Word → Type 0
  GoesBack r (parameters a) = (a.again ≡ true) × (a.offset ≡ r.next) × (a.window_end ≡ r.window_end)
  GoesBack r _ = ⊥

  -- Nothing was lost since the sender was last told where to go on, so that all that the receiver lacks comes in time.
  pub data IsClean (r : Receiver) (w p : ℕ) (sent asked : List Word) : Type 0 where
    waits : IsNone sent → IsOne (GoesBack r) asked → IsClean r w p sent asked
    ends : r.next ≡ length k.bytes → IsOne (IsPieceAt k (length k.bytes)) sent → IsNone asked → IsClean r w p sent asked
    flows : (u : ℕ) → r.next < length k.bytes → p ≡ min (r.next + u * k.chunk) (length k.bytes) → ComeFrom k r.next u sent → AskFrom r.next u asked w → IsClean r w p sent asked

  -- The two cores, and the words between them, once time has passed so often. This round has lost a word, or all that the receiver
  -- lacks comes in it.
  pub record Flowing (times : ℕ) (Lossy : Type 0) (r : Receiver) (w p : ℕ) (sent asked : List Word) : Type 0 where
    pub takes : Takes r w
    pub stands : Stands k p
    pub resends : r.resends ≤ times
    pub all_sent : AllByRecursion IsData sent
    pub all_asked : AllByRecursion IsAsk asked
    pub fresh : Lossy ⊎ IsClean r w p sent asked

  -- ASKS THAT GO ON

  wide : (i : ℕ) → suc i * c ≡ i * c + c
  wide i = omega arith

  further : (next v : ℕ) (x : Word) → GoesTo next (suc v) x → GoesTo (next + c) v x
  further next v (parameters a) g = (g.0, g.1 ∙ same next v)
    where
      same : (next v : ℕ) → next + suc v * c ≡ next + c + v * c
      same next v = omega arith
  further next v _ g = absurd g

  shifted : (xs : List Word) (next u w : ℕ) → AskFrom next (suc u) xs (suc w) → AskFrom (next + c) u xs w
  shifted [] next u w asks = omega (arith, asks)
  shifted (x ∷ xs) next u w asks = at asks.0 asks.1 asks.2 asks.3 (λ v rest. shifted xs next v w rest)
    where
      at : (v : ℕ) → suc u ≤ v → GoesTo next v x → AskFrom next v xs (suc w) → ((v : ℕ) → AskFrom next (suc v) xs (suc w) → AskFrom (next + c) v xs w) → AskFrom (next + c) u (x ∷ xs) w
      at zero low ask rest again = absurd (omega (arith, low))
      at (suc v) low ask rest again = (v, omega (arith, low), further next v x ask, again v rest)

  asked_more : (xs : List Word) (next u w v : ℕ) (x : Word) → AskFrom next u xs w → w ≤ v → GoesTo next v x → AskFrom next u (xs ++ x ∷ []) v
  asked_more [] next u w v x asks low ask = (v, omega (arith, asks, low), ask, refl)
  asked_more (y ∷ ys) next u w v x asks low ask = (asks.0, asks.1, asks.2, asked_more ys next asks.0 w v x asks.3 low ask)

  pub rises : (next u : ℕ) (xs : List Word) (w : ℕ) → AskFrom next u xs w → u ≤ w
  rises next u [] w asks = omega (arith, asks)
  rises next u (x ∷ xs) w asks = omega (arith, asks.1, rises next asks.0 xs w asks.3)

  -- A PIECE COMES

  module _ (now : ℕ) (r : Receiver) (w : ℕ) (takes : Takes r w) (at : ℕ) (begins : Begins k at) (P : PieceOutcome → Type 0) where
    abbrev x : Receiver
    x = active_at now r

    abbrev l : ℕ
    l = min c (n - at)

    abbrev y : Receiver
    y = keeping x (r.next + c)

    -- what has to hold of each that may come of it
    record Comes : Type 0 where
      ignored : ((at ≡ r.next) → ⊥) → P (ignoring x)
      again : ((at ≡ r.next) → ⊥) → is_recovering r.phase ≡ false → P (record { after = record (asking true x) { phase = Recovering }; answer = Again (ask_of true (asking true x)) })
      ended : (end : ℕ) → P (ending (keeping x end) Okay)
      more : at ≡ r.next → r.next + c < n → is_half_used y ≡ true → P (record { after = asking false y; answer = Kept (Some (ask_of false (asking false y))) })
      still : at ≡ r.next → r.next + c < n → is_half_used y ≡ false → P (record { after = y; answer = Kept None })

    abbrev last : Bool
    last = at + l == n

    by_half : Comes → at ≡ r.next → r.next + c < n → (b : Bool) → is_half_used y ≡ b → P (if b then record { after = asking false y; answer = Kept (Some (ask_of false (asking false y))) } else record { after = y; answer = Kept None })
    by_half comes here inside true e = comes.more here inside e
    by_half comes here inside false e = comes.still here inside e

    by_last : Comes → at ≡ r.next → (b : Bool) → last ≡ b → P (if b then ending (keeping x (at + l)) Okay else going_on (keeping x (at + l)))
    by_last comes here true e = comes.ended (at + l)
    by_last comes here false e =
        let inside : at + c < n = more_left at (n - at) e refl begins.inside in
        subst (λ z. P (going_on (keeping x z))) (sym (omega (arith, inside, here))) (by_half comes here (omega (arith, inside, here)) (is_half_used y) refl)
      where
        more_left : (at rest : ℕ) → (at + min c (n - at) == n) ≡ false → rest ≡ n - at → at ≤ n → at + c < n
        more_left at rest e is inside = by_order (less_or_not (at + c) n)
          where
            not_same : (a b : ℕ) → (a == b) ≡ false → a ≡ b → ⊥
            not_same a b e same = grind (arith, nat_tests)

            by_order : (at + c < n) ⊎ (n ≤ at + c) → at + c < n
            by_order (inl less) = less
            by_order (inr past) = absurd (not_same (at + min c (n - at)) n e (omega (arith, past, inside)))

    by_recovering : Comes → ((at ≡ r.next) → ⊥) → (b : Bool) → is_recovering r.phase ≡ b → P (if b then ignoring x else record { after = record (asking true x) { phase = Recovering }; answer = Again (ask_of true (asking true x)) })
    by_recovering comes other true e = comes.ignored other
    by_recovering comes other false e = comes.again other e

    window_fits : at ≡ r.next → nat_lt r.window_end (at + l) ≡ false
    window_fits here = fits (at + l) r.window_end (omega (arith, here, takes.window, one_left w takes.low))
      where
        one_left : (w : ℕ) → 1 ≤ w → c ≤ w * c
        one_left zero low = absurd (omega (arith, low))
        one_left (suc w) low = omega (arith, wide w)

    resource_fits : nat_lt MAX_RESOURCE (at + l) ≡ false
    resource_fits = fits (at + l) MAX_RESOURCE (omega (arith, begins.inside, k.size))

    takes_it : Comes → at ≡ r.next → P (taking x (at + l) last)
    takes_it comes here =
        subst (λ b. P (if b then ending x Internal else if nat_lt MAX_RESOURCE (at + l) then ending x OutOfRange else if last then ending (keeping x (at + l)) Okay else going_on (keeping x (at + l)))) (sym (window_fits here))
        (subst (λ b. P (if b then ending x OutOfRange else if last then ending (keeping x (at + l)) Okay else going_on (keeping x (at + l)))) (sym resource_fits)
        (by_last comes here last refl))

    by_past : Comes → (b : Bool) → nat_lt r.next at ≡ b → nat_lt at r.next ≡ false → P (if b then asking_again x else taking x (at + l) last)
    by_past comes true e not_before = by_recovering comes (other at r.next e) (is_recovering r.phase) refl
      where
        other : (a b : ℕ) → nat_lt b a ≡ true → a ≡ b → ⊥
        other a b e same = grind (arith, nat_tests)
    by_past comes false e not_before = takes_it comes (same at r.next e not_before)
      where
        same : (a b : ℕ) → nat_lt b a ≡ false → nat_lt a b ≡ false → a ≡ b
        same a b e f = grind (arith, nat_tests)

    -- an empty piece is the last one
    not_empty : ((l == 0) && not last) ≡ false
    not_empty = by_test (l == 0) refl
      where
        ended : (at rest : ℕ) → (min c (n - at) == 0) ≡ true → rest ≡ n - at → at ≤ n → (at + min c (n - at) == n) ≡ true
        ended at rest e is inside = same (at + min c (n - at)) n (omega (arith, eqb-true (min c (n - at)) 0 e, inside, k.some))
          where
            same : (a b : ℕ) → a ≡ b → (a == b) ≡ true
            same a b e = grind (arith, nat_tests)

        by_test : (b : Bool) → (l == 0) ≡ b → (b && not last) ≡ false
        by_test true e = ap not (ended at (n - at) e refl begins.inside)
        by_test false e = refl

    by_before : Comes → (b : Bool) → nat_lt at r.next ≡ b → P (if b then ignoring x else if (l == 0) && not last then ignoring x else if nat_lt r.next at then asking_again x else taking x (at + l) last)
    by_before comes true e = comes.ignored (other at r.next e)
      where
        other : (a b : ℕ) → nat_lt a b ≡ true → a ≡ b → ⊥
        other a b e same = grind (arith, nat_tests)
    by_before comes false e = subst (λ b. P (if b then ignoring x else if nat_lt r.next at then asking_again x else taking x (at + l) last)) (sym not_empty) (by_past comes (nat_lt r.next at) refl e)

    piece_comes : Comes → P (outcome_of r (q at) now)
    piece_comes comes =
        subst (λ s. P (piece_outcome x at s last)) (sym (part_size k at begins.inside))
        (subst (λ b. P (if b then open_outcome x at l last else ignoring x)) (sym takes.opens) (by_before comes (nat_lt at r.next) refl))

  -- WHAT A RECEIVER IS THEN

  takes_still : (r x : Receiver) (w v : ℕ) → Takes r w → is_open x.phase ≡ true → x.next ≡ r.next → x.window_end ≡ r.window_end → x.span ≡ r.span → x.chunk ≡ r.chunk → v ≡ w → Takes x v
  takes_still r x w v t opens next window span chunk same = record {
    opens = opens;
    begins = subst (Begins k) (sym next) t.begins;
    window = window ∙ (t.window ∙ (ap (λ z. z + w * c) (sym next) ∙ ap (λ z. x.next + z * c) (sym same)));
    low = omega (arith, t.low, same);
    high = omega (arith, t.high, same, span);
    span_low = omega (arith, t.span_low, span);
    span_high = omega (arith, t.span_high, span);
    chunk = chunk ∙ t.chunk;
  }

  -- the chunks of its next ask
  span_bounded : (again : Bool) (r : Receiver) → 1 ≤ r.span → r.span ≤ 64 → (1 ≤ span_of_ask again r) × (span_of_ask again r ≤ 64)
  span_bounded true r low high = (omega arith, omega (arith, high))
  span_bounded false r low high = by_shrunk r.shrunk
    where
      by_shrunk : (b : Bool) → (1 ≤ (if b then r.span else min 64 (2 * r.span))) × ((if b then r.span else min 64 (2 * r.span)) ≤ 64)
      by_shrunk true = (low, high)
      by_shrunk false = (omega (arith, low), omega arith)

  -- one that goes on never asks for less
  span_grows : (r : Receiver) → r.span ≤ 64 → r.span ≤ span_of_ask false r
  span_grows r high = by_shrunk r.shrunk
    where
      by_shrunk : (b : Bool) → r.span ≤ (if b then r.span else min 64 (2 * r.span))
      by_shrunk true = omega arith
      by_shrunk false = omega (arith, high)

  -- it has asked, and takes what it asked for
  pub takes_asked : (again : Bool) (r x : Receiver) → Begins k r.next → 1 ≤ r.span → r.span ≤ 64 → r.chunk ≡ c
      → is_open x.phase ≡ true → x.next ≡ r.next → x.window_end ≡ r.next + span_of_ask again r * r.chunk → x.span ≡ span_of_ask again r → x.chunk ≡ r.chunk → Takes x (span_of_ask again r)
  takes_asked again r x begins low high chunk opens next window span same =
      let bounds = span_bounded again r low high in
      record {
        opens = opens;
        begins = subst (Begins k) (sym next) begins;
        window = window ∙ (ap (λ z. r.next + span_of_ask again r * z) chunk ∙ ap (λ z. z + span_of_ask again r * c) (sym next));
        low = bounds.0;
        high = omega (arith, span);
        span_low = omega (arith, bounds.0, span);
        span_high = omega (arith, bounds.1, span);
        chunk = same ∙ chunk;
      }

  -- its ask
  pub sound_ask : (again b : Bool) (x : Receiver) (w : ℕ) → Takes x w → IsSound (ask_of b x)
  sound_ask again b x w t = record { end = t.begins.index + w; window = t.window ∙ (ap (λ z. z + w * c) t.begins.is ∙ sum t.begins.index w); chunk = t.chunk; begins = λ e. t.begins }
    where
      sum : (i w : ℕ) → k.offset + i * c + w * c ≡ k.offset + (i + w) * c
      sum i w = omega arith

  join_asks : (xs : List Word) (x : Word) → AllByRecursion IsAsk xs → IsAsk x → AllByRecursion IsAsk (xs ++ x ∷ [])
  join_asks xs x all is = all_join IsAsk xs (x ∷ []) all (is, tt)

  -- the receiver stands where it stood, or has kept a chunk that isn't the last one
  pub data Moves (r r' : Receiver) : Type 0 where
    stays : r'.next ≡ r.next → r'.resends ≡ r.resends → Moves r r'
    moves : r'.next ≡ r.next + k.chunk → r.next + k.chunk < length k.bytes → r'.resends ≡ 0 → Moves r r'

  -- A CHUNK IS HEARD while words may have been lost

  module _ (times : ℕ) (Lossy : Type 0) (now : ℕ) (r : Receiver) (w p : ℕ) (piece : Piece) (rest asked : List Word) (f : Flowing times Lossy r w p (data_comes piece ∷ rest) asked) where
    abbrev at : ℕ
    at = f.all_sent.0.at

    abbrev begins : Begins k at
    begins = f.all_sent.0.begins

    abbrev piece_is : piece ≡ q at
    piece_is = f.all_sent.0.is

    -- where nothing was lost it begins at the next byte
    clean_next : IsClean r w p (data_comes piece ∷ rest) asked → at ≡ r.next
    clean_next (waits none one) = absurd none
    clean_next (ends full one none) = ap (λ z. z.offset) (sym piece_is ∙ one.0) ∙ sym full
    clean_next (flows u below position come ask) = ap (λ z. z.offset) (sym piece_is ∙ come.1)

    not_clean : (Q : Type 0) → ((at ≡ r.next) → ⊥) → Lossy ⊎ IsClean r w p (data_comes piece ∷ rest) asked → Lossy ⊎ Q
    not_clean Q other (inl lost) = inl lost
    not_clean Q other (inr clean) = absurd (other (clean_next clean))

    -- it moves on, and what it lacked of its window was on the way
    clean_more : (asked' : List Word) (r' : Receiver) (w' : ℕ) → r'.next ≡ r.next + c → r.next + c < n → ((u v : ℕ) → w ≡ suc v → AskFrom r.next (suc u) asked w → AskFrom (r.next + c) u asked' w')
        → IsClean r w p (data_comes piece ∷ rest) asked → IsClean r' w' p rest asked'
    clean_more asked' r' w' next inside asks (waits none one) = absurd none
    clean_more asked' r' w' next inside asks (ends full one none) = absurd (omega (arith, full, inside))
    clean_more asked' r' w' next inside asks (flows u below position come ask) =
        let v : ℕ = come.2.0 in
        let u_is : u ≡ suc v = come.2.1 in
        let here : p ≡ min (r.next + c + v * c) n = position ∙ (ap (λ z. min (r.next + z * c) n) u_is ∙ omega (arith, wide v)) in
        let step : AskFrom (r.next + c) v asked' w' = by_window w v (subst (λ z. AskFrom r.next z asked w) u_is ask) asks in
        flows v (omega (arith, next, inside)) (here ∙ ap (λ z. min (z + v * c) n) (sym next)) (subst (λ z. ComeFrom k z v rest) (sym next) come.2.2) (subst (λ z. AskFrom z v asked' w') (sym next) step)
      where
        by_window : (w v : ℕ) → AskFrom r.next (suc v) asked w → ((u v : ℕ) → w ≡ suc v → AskFrom r.next (suc u) asked w → AskFrom (r.next + c) u asked' w') → AskFrom (r.next + c) v asked' w'
        by_window zero v ask asks = absurd (omega (arith, rises r.next (suc v) asked zero ask))
        by_window (suc z) v ask asks = asks v z refl ask

    -- what has to hold of each that may come of the piece: it says nothing, or asks, or has ended well
    module _ (P : PieceOutcome → Type 0) where
      pub record Goes : Type 0 where
        pub quiet : (r' : Receiver) (w' : ℕ) (answer : Received) → words_of (of_piece piece.bytes answer) ≡ [] → Flowing times Lossy r' w' p rest asked → Moves r r' → load r' ≤ load r → r'.active ≡ now
            → P (record { after = r'; answer = answer })
        pub asks : (r' : Receiver) (w' : ℕ) (answer : Received) (x : Word) → words_of (of_piece piece.bytes answer) ≡ x ∷ [] → Flowing times (Unit {0}) r' w' p rest asked
            → Flowing times Lossy r' w' p rest (asked ++ x ∷ []) → Moves r r' → load r' + 70 ≤ load r → r'.active ≡ now → P (record { after = r'; answer = answer })
        pub ended : (end : ℕ) → P (ending (keeping (active_at now r) end) Okay)

      abbrev touched : Receiver
      touched = active_at now r

      abbrev moved : Receiver
      moved = keeping touched (r.next + c)

      -- it asks, and the ask goes on or doesn't
      asking_goes : Goes → (r' : Receiver) (w' : ℕ) (answer : Received) (said : Word) → words_of (of_piece piece.bytes answer) ≡ said ∷ [] → Takes r' w' → r'.resends ≤ times → IsAsk said
          → Lossy ⊎ IsClean r' w' p rest (asked ++ said ∷ []) → Moves r r' → load r' + 70 ≤ load r → r'.active ≡ now → P (record { after = r'; answer = answer })
      asking_goes g r' w' answer said words takes resends is fresh stood less active =
          g.asks r' w' answer said words
          (record { takes = takes; stands = f.stands; resends = resends; all_sent = f.all_sent.1; all_asked = f.all_asked; fresh = inl tt })
          (record { takes = takes; stands = f.stands; resends = resends; all_sent = f.all_sent.1; all_asked = join_asks asked said f.all_asked is; fresh = fresh })
          stood less active

      ignored : Goes → ((at ≡ r.next) → ⊥) → P (ignoring touched)
      ignored g other =
          g.quiet touched w Ignored refl
          (record {
            takes = takes_still r touched w w f.takes f.takes.opens refl refl refl refl refl;
            stands = f.stands;
            resends = f.resends;
            all_sent = f.all_sent.1;
            all_asked = f.all_asked;
            fresh = not_clean (IsClean touched w p rest asked) other f.fresh;
          })
          (stays refl refl) (omega arith) refl

      again : Goes → ((at ≡ r.next) → ⊥) → is_recovering r.phase ≡ false → P (record { after = record (asking true touched) { phase = Recovering }; answer = Again (ask_of true (asking true touched)) })
      again g other rec =
          let r' : Receiver = record (asking true touched) { phase = Recovering } in
          let takes : Takes r' (span_of_ask true touched) = takes_asked true touched r' f.takes.begins f.takes.span_low f.takes.span_high f.takes.chunk refl refl refl refl refl in
          let said : Word = parameters (ask_of true (asking true touched)) in
          asking_goes g r' (span_of_ask true touched) (Again (ask_of true (asking true touched))) said refl takes f.resends (sound_ask true true r' (span_of_ask true touched) takes)
          (not_clean (IsClean r' (span_of_ask true touched) p rest (asked ++ said ∷ [])) other f.fresh) (stays refl refl) (omega (arith, ap recovers rec)) refl

      more : Goes → r.next + c < n → P (record { after = asking false moved; answer = Kept (Some (ask_of false (asking false moved))) })
      more g inside =
          let r' : Receiver = asking false moved in
          let w' : ℕ = span_of_ask false moved in
          let takes : Takes r' w' = takes_asked false moved r' (next_begins k r.next f.takes.begins (omega (arith, inside))) f.takes.span_low f.takes.span_high f.takes.chunk refl refl refl refl refl in
          let said : Word = parameters (ask_of false r') in
          asking_goes g r' w' (Kept (Some (ask_of false r'))) said refl takes (omega arith) (sound_ask false false r' w' takes) (by_fresh takes f.fresh) (moves refl inside refl) (omega (arith, inside, k.some)) refl
        where
          by_fresh : Takes (asking false moved) (span_of_ask false moved) → Lossy ⊎ IsClean r w p (data_comes piece ∷ rest) asked
              → Lossy ⊎ IsClean (asking false moved) (span_of_ask false moved) p rest (asked ++ parameters (ask_of false (asking false moved)) ∷ [])
          by_fresh takes (inl lost) = inl lost
          by_fresh takes (inr clean) =
              inr (clean_more (asked ++ parameters (ask_of false (asking false moved)) ∷ []) (asking false moved) (span_of_ask false moved) refl inside
              (λ u v is ask. asked_more asked (r.next + c) u v (span_of_ask false moved) (parameters (ask_of false (asking false moved))) (shifted asked r.next u v (subst (λ z. AskFrom r.next (suc u) asked z) is ask))
              (omega (arith, is, f.takes.high, span_grows moved f.takes.span_high)) (refl, takes.window))
              clean)

      still : Goes → r.next + c < n → is_half_used moved ≡ false → P (record { after = moved; answer = Kept None })
      still g inside unused = by_window w refl
        where
          above : (a b : ℕ) → nat_le a b ≡ false → b < a
          above a b e = grind (arith, nat_tests)

          some_left : (v b : ℕ) → b < 2 * (v * c) → 1 ≤ v
          some_left zero b less = absurd (omega (arith, less))
          some_left (suc v) b less = omega arith

          by_window : (z : ℕ) → w ≡ z → P (record { after = moved; answer = Kept None })
          by_window zero is = absurd (omega (arith, is, f.takes.low))
          by_window (suc v) is =
              let end : r.window_end ≡ r.next + c + v * c = f.takes.window ∙ (ap (λ z. r.next + z * c) is ∙ omega (arith, wide v)) in
              let left : r.window_end - (r.next + c) ≡ v * c = omega (arith, end) in
              let low : 1 ≤ v = some_left v (r.span * r.chunk) (subst (λ z. r.span * r.chunk < 2 * z) left (above (2 * (r.window_end - (r.next + c))) (r.span * r.chunk) unused)) in
              g.quiet moved v (Kept None) refl
              (record {
                takes = record {
                  opens = refl;
                  begins = next_begins k r.next f.takes.begins (omega (arith, inside));
                  window = end;
                  low = low;
                  high = omega (arith, f.takes.high, is);
                  span_low = f.takes.span_low;
                  span_high = f.takes.span_high;
                  chunk = f.takes.chunk;
                };
                stands = f.stands;
                resends = omega arith;
                all_sent = f.all_sent.1;
                all_asked = f.all_asked;
                fresh = by_fresh v is f.fresh;
              })
              (moves refl inside refl) (omega (arith, inside, k.some)) refl
            where
              by_fresh : (v : ℕ) → w ≡ suc v → Lossy ⊎ IsClean r w p (data_comes piece ∷ rest) asked → Lossy ⊎ IsClean moved v p rest asked
              by_fresh v is (inl lost) = inl lost
              by_fresh v is (inr clean) = inr (clean_more asked moved v refl inside (λ u other same ask. shifted asked r.next u v (subst (λ z. AskFrom r.next (suc u) asked z) is ask)) clean)

      pub piece_goes : Goes → P (outcome_of r piece now)
      piece_goes g =
          subst (λ z. P (outcome_of r z now)) (sym piece_is)
          (piece_comes now r w f.takes at begins P
          (record { ignored = ignored g; again = again g; ended = g.ended; more = λ here inside half. more g inside; still = λ here inside half. still g inside half }))
