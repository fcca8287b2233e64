-- What a sender answers to the asks of a transfer that loses nothing.
use Rattle.std.proofs.Common.{◌≡◌, ℕ, ◌+◌, ◌-◌, ◌*◌, ◌<◌, ◌≤◌, ◌==◌, nat_lt, min, Bool, true, false, if◌then◌else◌, List, [], ◌∷◌, length, take, drop, None, Some, refl, sym, ap, ◌∙◌, arith}
use Rattle.std.proofs.lemmas.Bool.Decides.{nat_tests}
use Rattle.rpc_ids.specs.declared.Status.TheVariants.{OutOfRange}
use Rattle.transfer_base.specs.declared.Ask.{Ask}
use Rattle.transfer_base.specs.declared.Piece.{Piece}
use Rattle.transfer_base.specs.declared.limits.TheConstants.{MAX_CHUNK}
use Rattle.transfer_base.specs.PieceLists.{end_of}
use Rattle.transfer_sender.specs.declared.cut.TheConstants.{MAX_PIECES}
use Rattle.transfer_sender.specs.Sender.{Sender, new_sender, touched}
use Rattle.transfer_sender.specs.Cut.{piece_at, pieces_of_window}
use Rattle.transfer_sender.specs.Answer.{Answer, answer_to, chunk_size, empty_last_piece}
use Rattle.transfer_sender.proofs.CutLemmas.{length-piece_at}
use Rattle.transfer_laws.proofs.cores.AskLaws.{fits}
use Rattle.transfer_laws.proofs.pairs.Grid.{Grid}
use Rattle.transfer_laws.proofs.pairs.Parts.{parts_from, cut, end_parts}

-- a chunk that isn't 0 and no larger than the largest stays as it is asked
pub size_stays : (c : ℕ) → 1 ≤ c → c ≤ MAX_CHUNK → chunk_size c ≡ c
size_stays c low high = by_none (c == 0) refl
  where
    by_none : (b : Bool) → (c == 0) ≡ b → (if b then MAX_CHUNK else min c MAX_CHUNK) ≡ c
    by_none true e = let none : c ≡ 0 = grind (arith, nat_tests) in absurd (omega (arith, none, low))
    by_none false e = omega (arith, high)

module _ (bytes : List ℕ) (o c big : ℕ) (some : 1 ≤ c) (small : c ≤ MAX_CHUNK) (g : Grid (length bytes) o c big) where
  -- a sender behind so many pieces
  abbrev pub sender_at : ℕ → ℕ → ℕ → Sender
  sender_at j active timeouts = record { bytes = bytes; position = min (o + j * c) (length bytes); active = active; timeouts = timeouts; ended = None }

  -- parameters that ask for all up to the end of piece mid
  abbrev pub ask_to : ℕ → ℕ → Ask
  ask_to at mid = record { again = false; offset = at; window_end = o + mid * c; max_chunk = c }

  abbrev pub begin_to : ℕ → Ask
  begin_to mid = record { again = true; offset = o; window_end = o + mid * c; max_chunk = c }

  cut_at : (mid cnt j : ℕ) → j + cnt ≡ min mid big → cnt ≤ 64 → (j < big → o + j * c < length bytes) →
      pieces_of_window bytes (chunk_size c) (o + mid * c) (min (o + j * c) (length bytes)) ≡ parts_from bytes o c j cnt
  cut_at mid cnt j e few ok =
      ap (λ z. pieces_of_window bytes z (o + mid * c) (min (o + j * c) (length bytes))) (size_stays c some small)
      ∙ cut bytes o c big some g mid cnt j MAX_PIECES e few ok

  abbrev answer_with : ℕ → ℕ → List Piece → Answer
  answer_with now from ps = record { after = record { bytes = bytes; position = end_of from ps; active = now; timeouts = 0; ended = None }; pieces = ps }

  abbrev answer_at : ℕ → ℕ → List Piece → Answer
  answer_at now at ps = record { after = record { bytes = bytes; position = at; active = now; timeouts = 0; ended = None }; pieces = ps }

  pub answered : (mid cnt j t at active timeouts now : ℕ) → t ≡ j + cnt → t ≡ min mid big → cnt ≤ 64 → 1 ≤ j →
      answer_to (touched (sender_at j active timeouts) now) (ask_to at mid) ≡ record { after = sender_at t now 0; pieces = parts_from bytes o c j cnt }
  answered mid cnt j t at active timeouts now total e few low =
      let sum : j + cnt ≡ min mid big = omega (arith, total, e) in
      ap (answer_with now (min (o + j * c) (length bytes))) (cut_at mid cnt j sum few (λ h. g.inner j low h))
      ∙ ap (λ p. answer_at now p (parts_from bytes o c j cnt)) (end_parts bytes o c big some g cnt j t total (omega (arith, e)))

  -- the first ask
  abbrev first_pieces : ℕ → Bool → List Piece
  first_pieces mid b = if b then empty_last_piece bytes ∷ [] else pieces_of_window bytes (chunk_size c) (o + mid * c) o

  abbrev first_by : ℕ → ℕ → Bool → Bool → Answer
  first_by mid now past b = if past then record { after = record { bytes = bytes; position = o; active = now; timeouts = 0; ended = Some OutOfRange }; pieces = [] } else answer_with now o (first_pieces mid b)

  first_cut : (mid cnt now : ℕ) → cnt ≡ min mid big → 1 ≤ mid → cnt ≤ 64 → (b : Bool) → (o == length bytes) ≡ b →
      answer_with now o (first_pieces mid b) ≡ record { after = sender_at cnt now 0; pieces = parts_from bytes o c 0 cnt }
  first_cut mid cnt now e low few true t =
      let at : o ≡ length bytes = grind (arith, nat_tests) in
      one_piece cnt (one cnt e at)
    where
      one : (cnt : ℕ) → cnt ≡ min mid big → o ≡ length bytes → cnt ≡ 1
      one cnt e at = by_big (nat_lt 1 big) refl
        where
          by_big : (b : Bool) → nat_lt 1 big ≡ b → cnt ≡ 1
          by_big true t = let more : 1 < big = grind (arith, nat_tests) in absurd (omega (arith, g.inner 1 (omega arith) more, at))
          by_big false t = let less : big ≤ 1 = grind (arith, nat_tests) in omega (arith, less, e, low, g.some)

      one_piece : (cnt : ℕ) → cnt ≡ 1 → answer_with now o (first_pieces mid true) ≡ record { after = sender_at cnt now 0; pieces = parts_from bytes o c 0 cnt }
      one_piece cnt is =
          let at : o ≡ length bytes = grind (arith, nat_tests) in
          let none : 0 * c ≡ 0 = omega arith in
          let once : 1 * c ≡ c = omega arith in
          let begins : length bytes ≡ o + 0 * c = omega (arith, at) in
          let size : 0 ≡ min c (length bytes - (o + 0 * c)) = omega (arith, at) in
          let long : length (take 0 (drop (length bytes) bytes)) ≡ 0 = length-piece_at bytes (length bytes) 0 (omega arith) in
          let end : o + length (take 0 (drop (length bytes) bytes)) ≡ min (o + 1 * c) (length bytes) = omega (arith, at, long) in
          ap (λ p. answer_at now p (piece_at bytes (length bytes) 0 ∷ [])) end
          ∙ (ap (λ a. answer_at now (min (o + 1 * c) (length bytes)) (piece_at bytes a 0 ∷ [])) begins
          ∙ (ap (λ z. answer_at now (min (o + 1 * c) (length bytes)) (piece_at bytes (o + 0 * c) z ∷ [])) size
          ∙ ap (λ k. record { after = sender_at k now 0; pieces = parts_from bytes o c 0 k }) (sym is)))
  first_cut mid cnt now e low few false t =
      let more : o < length bytes = (let w = g.within in grind (arith, nat_tests)) in
      let at : o ≡ min (o + 0 * c) (length bytes) = omega (arith, more) in
      let sum : 0 + cnt ≡ min mid big = omega (arith, e) in
      ap (λ p. answer_with now p (pieces_of_window bytes (chunk_size c) (o + mid * c) p)) at
      ∙ (ap (answer_with now (min (o + 0 * c) (length bytes))) (cut_at mid cnt 0 sum few (λ h. omega (arith, more)))
      ∙ ap (λ p. answer_at now p (parts_from bytes o c 0 cnt)) (end_parts bytes o c big some g cnt 0 cnt (omega arith) (omega (arith, e))))

  pub first_answered : (mid cnt now : ℕ) → cnt ≡ min mid big → 1 ≤ mid → cnt ≤ 64 →
      answer_to (touched (new_sender bytes o now) now) (begin_to mid) ≡ record { after = sender_at cnt now 0; pieces = parts_from bytes o c 0 cnt }
  first_answered mid cnt now e low few =
      ap (λ past. first_by mid now past (o == length bytes)) (fits o (length bytes) g.within)
      ∙ first_cut mid cnt now e low few (o == length bytes) refl
