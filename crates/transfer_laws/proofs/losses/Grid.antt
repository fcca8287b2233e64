-- The places where the chunks of a transfer begin, and what a sender cuts between them.
use Rattle.std.proofs.Common.{◌≡◌, ℕ, zero, suc, ◌+◌, ◌-◌, ◌*◌, ◌<◌, ◌≤◌, ◌⊎◌, inl, inr, nat_lt, min, Bool, true, false, List, [], ◌∷◌, ◌++◌, length, map, refl, sym, ap, ◌∙◌, subst, arith}
use Rattle.std.proofs.lemmas.Bool.Decides.{nat_tests}
use Rattle.std.proofs.Math.Nat.{mul-le-mul_right}
use Rattle.std.specs.List.{AllByRecursion}
use Rattle.transfer_base.specs.declared.Piece.{Piece}
use Rattle.transfer_base.specs.declared.limits.TheConstants.{MAX_CHUNK, MAX_RESOURCE}
use Rattle.transfer_base.specs.PieceLists.{end_of}
use Rattle.transfer_sender.specs.Cut.{piece_at, pieces_up_to}
use Rattle.transfer_sender.proofs.CutLemmas.{length-piece_at, pieces_up_to-done, pieces_up_to-suc, pieces_up_to-zero}
use Rattle.transfer_words.specs.Word.{Word, data_comes}

-- a resource, the size of a chunk, and the offset of the first one
pub record Setup : Type 0 where
  pub bytes : List ℕ
  pub chunk : ℕ
  pub offset : ℕ
  pub some : 1 ≤ chunk
  pub high : chunk ≤ MAX_CHUNK
  pub size : length bytes ≤ MAX_RESOURCE
  pub within : offset ≤ length bytes

pub less_or_not : (a b : ℕ) → (a < b) ⊎ (b ≤ a)
less_or_not a b = by_test (nat_lt a b) refl
  where
    by_test : (t : Bool) → nat_lt a b ≡ t → (a < b) ⊎ (b ≤ a)
    by_test true e = inl (grind (arith, nat_tests))
    by_test false e = inr (grind (arith, nat_tests))

-- the chunk at a place
abbrev pub part : Setup → ℕ → Piece
part k at = piece_at k.bytes at (min k.chunk (length k.bytes - at))

module _ (k : Setup) where
  abbrev c : ℕ
  c = k.chunk

  abbrev n : ℕ
  n = length k.bytes

  abbrev q : ℕ → Piece
  q at = part k at

  -- a chunk begins here
  pub record Begins (at : ℕ) : Type 0 where
    pub index : ℕ
    pub is : at ≡ k.offset + index * k.chunk
    pub inside : at ≤ length k.bytes

  -- a sender stands here: at the end, or where a chunk begins
  abbrev pub Stands : ℕ → Type 0
  Stands at = (at ≡ length k.bytes) ⊎ Begins at

  -- the piece is one of the chunks
  pub record IsPart (p : Piece) : Type 0 where
    pub at : ℕ
    pub begins : Begins at
    pub is : p ≡ part k at

  pub first_begins : Begins k.offset
  first_begins = record { index = 0; is = omega arith; inside = k.within }

  wide : (i : ℕ) → suc i * c ≡ i * c + c
  wide i = omega arith

  -- one chunk further on
  pub next_begins : (at : ℕ) → Begins at → at + c ≤ n → Begins (at + c)
  next_begins at b inside = record { index = suc b.index; is = omega (arith, b.is, wide b.index); inside = inside }

  whole_chunk : (i e : ℕ) → i * c < e * c → i * c + c ≤ e * c
  whole_chunk i e less = by_order (less_or_not i e)
    where
      by_order : (i < e) ⊎ (e ≤ i) → i * c + c ≤ e * c
      by_order (inl below) = let more : suc i * c ≤ e * c = mul-le-mul_right c (omega (arith, below)) in omega (arith, more, wide i)
      by_order (inr past) = let few : e * c ≤ i * c = mul-le-mul_right c past in absurd (omega (arith, few, less))

  pub part_size : (at : ℕ) → at ≤ n → length (q at).bytes ≡ min c (n - at)
  part_size at within = length-piece_at k.bytes at (min c (n - at)) (omega (arith, within))

  -- all that is cut are chunks
  pub record IsCut (at : ℕ) (ps : List Piece) (most : ℕ) : Type 0 where
    pub all : AllByRecursion IsPart ps
    pub end : Stands (end_of at ps)
    pub few : length ps ≤ most

  none_cut : (at most : ℕ) → Stands at → IsCut at [] most
  none_cut at most stands = record { all = tt; end = stands; few = omega arith }

  module _ (e : ℕ) where
    abbrev stop : ℕ
    stop = min (k.offset + e * c) n

    abbrev cut : ℕ → ℕ → List Piece
    cut at most = pieces_up_to k.bytes c stop at most

    one_cut : (most at : ℕ) → Begins at → at < stop → ((x : ℕ) → Stands x → IsCut x (cut x most) most) → IsCut at (piece_at k.bytes at (min c (stop - at)) ∷ cut (at + min c (stop - at)) most) (suc most)
    one_cut most at b below later =
        let full : b.index * c + c ≤ e * c = whole_chunk b.index e (omega (arith, below, b.is)) in
        let same : min c (stop - at) ≡ min c (n - at) = omega (arith, full, below, b.is) in
        let rest = later (at + min c (n - at)) (next (less_or_not n (at + c)) (omega (arith, below))) in
        subst (λ s. IsCut at (piece_at k.bytes at s ∷ cut (at + s) most) (suc most)) (sym same)
        (record {
          all = (record { at = at; begins = b; is = refl }, rest.all);
          end = subst (λ s. Stands (end_of (at + s) (cut (at + min c (n - at)) most))) (sym (part_size at (omega (arith, below)))) rest.end;
          few = omega (arith, rest.few);
        })
      where
        next : (n < at + c) ⊎ (at + c ≤ n) → at ≤ n → Stands (at + min c (n - at))
        next (inl past) inside = inl (omega (arith, past, inside))
        next (inr under) inside = inr (subst Begins (omega (arith, under)) (next_begins at b under))

    more_cut : (most at : ℕ) → Stands at → ((x : ℕ) → Stands x → IsCut x (cut x most) most) → IsCut at (cut at (suc most)) (suc most)
    more_cut most at stands later = by_order (less_or_not at stop)
      where
        by_order : (at < stop) ⊎ (stop ≤ at) → IsCut at (cut at (suc most)) (suc most)
        by_order (inr past) = subst (λ ps. IsCut at ps (suc most)) (sym (pieces_up_to-done k.bytes c stop at (suc most) past)) (none_cut at (suc most) stands)
        by_order (inl below) = subst (λ ps. IsCut at ps (suc most)) (sym (pieces_up_to-suc k.bytes c stop at most below)) (by_place stands)
          where
            by_place : Stands at → IsCut at (piece_at k.bytes at (min c (stop - at)) ∷ cut (at + min c (stop - at)) most) (suc most)
            by_place (inl end) = absurd (omega (arith, end, below))
            by_place (inr b) = one_cut most at b below later

    pub is_cut : (most at : ℕ) → Stands at → IsCut at (cut at most) most
    is_cut zero at stands = subst (λ ps. IsCut at ps zero) (sym (pieces_up_to-zero k.bytes c stop at zero refl)) (none_cut at zero stands)
    is_cut (suc most) at stands = more_cut most at stands (is_cut most)

  -- THE CHUNKS OF A WINDOW, in order

  abbrev pub IsPieceAt : ℕ → Word → Type 0
  IsPieceAt at (data_comes p) = p ≡ part k at
  IsPieceAt at _ = ⊥

  -- these are the chunks of a window of u chunks from a place on, as many as there are
  abbrev pub ComeFrom : ℕ → ℕ → List Word → Type 0
  ComeFrom at u [] = (u ≡ 0) ⊎ (length k.bytes ≤ at)
  ComeFrom at u (x ∷ xs) = (at < length k.bytes) × IsPieceAt at x × ((v : ℕ) × (u ≡ suc v) × ComeFrom (at + k.chunk) v xs)

  -- a window from a place on is cut so
  cut_comes : (most v at : ℕ) → v ≤ most → at ≤ n → ComeFrom at v (map data_comes (pieces_up_to k.bytes c (min (at + v * c) n) at most))
  cut_comes most zero at small inside =
      subst (λ ps. ComeFrom at zero (map data_comes ps)) (sym (pieces_up_to-done k.bytes c (min (at + zero * c) n) at most (omega (arith, inside)))) (inl refl)
  cut_comes zero (suc v) at small inside = absurd (omega (arith, small))
  cut_comes (suc most) (suc v) at small inside = by_order (less_or_not at n) (cut_comes most v (at + c) (omega (arith, small)))
    where
      stop_is : min (at + suc v * c) n ≡ min (at + c + v * c) n
      stop_is = ap (λ z. min z n) (omega (arith, wide v))

      later : (at + c ≤ n → ComeFrom (at + c) v (map data_comes (pieces_up_to k.bytes c (min (at + c + v * c) n) (at + c) most))) → at < n
          → ComeFrom (at + c) v (map data_comes (pieces_up_to k.bytes c (min (at + c + v * c) n) (at + min c (n - at)) most))
      later again below = by_end (less_or_not n (at + c))
        where
          by_end : (n < at + c) ⊎ (at + c ≤ n) → ComeFrom (at + c) v (map data_comes (pieces_up_to k.bytes c (min (at + c + v * c) n) (at + min c (n - at)) most))
          by_end (inl past) =
              subst (λ ps. ComeFrom (at + c) v (map data_comes ps)) (sym (pieces_up_to-done k.bytes c (min (at + c + v * c) n) (at + min c (n - at)) most (omega (arith, past, below)))) (inr (omega (arith, past)))
          by_end (inr more) =
              let here : at + min c (n - at) ≡ at + c = omega (arith, more) in
              subst (λ z. ComeFrom (at + c) v (map data_comes (pieces_up_to k.bytes c (min (at + c + v * c) n) z most))) (sym here) (again more)

      by_order : (at < n) ⊎ (n ≤ at) → (at + c ≤ n → ComeFrom (at + c) v (map data_comes (pieces_up_to k.bytes c (min (at + c + v * c) n) (at + c) most)))
          → ComeFrom at (suc v) (map data_comes (pieces_up_to k.bytes c (min (at + suc v * c) n) at (suc most)))
      by_order (inr past) again = subst (λ ps. ComeFrom at (suc v) (map data_comes ps)) (sym (pieces_up_to-done k.bytes c (min (at + suc v * c) n) at (suc most) (omega (arith, past)))) (inr past)
      by_order (inl below) again =
          let size : min c (min (at + c + v * c) n - at) ≡ min c (n - at) = omega arith in
          subst (λ z. ComeFrom at (suc v) (map data_comes (pieces_up_to k.bytes c z at (suc most)))) (sym stop_is)
          (subst (λ ps. ComeFrom at (suc v) (map data_comes ps)) (sym (pieces_up_to-suc k.bytes c (min (at + c + v * c) n) at most (omega (arith, below, k.some))))
          (subst (λ z. ComeFrom at (suc v) (map data_comes (piece_at k.bytes at z ∷ pieces_up_to k.bytes c (min (at + c + v * c) n) (at + z) most))) (sym size)
          (below, refl, (v, refl, later again below))))

  -- and ends so
  cut_ends : (most v at : ℕ) → v ≤ most → at ≤ n → end_of at (pieces_up_to k.bytes c (min (at + v * c) n) at most) ≡ min (at + v * c) n
  cut_ends most zero at small inside = ap (end_of at) (pieces_up_to-done k.bytes c (min (at + zero * c) n) at most (omega (arith, inside))) ∙ omega (arith, inside)
  cut_ends zero (suc v) at small inside = absurd (omega (arith, small))
  cut_ends (suc most) (suc v) at small inside = by_order (less_or_not at n) (cut_ends most v (at + c) (omega (arith, small)))
    where
      stop_is : min (at + suc v * c) n ≡ min (at + c + v * c) n
      stop_is = ap (λ z. min z n) (omega (arith, wide v))

      later : (at + c ≤ n → end_of (at + c) (pieces_up_to k.bytes c (min (at + c + v * c) n) (at + c) most) ≡ min (at + c + v * c) n) → at < n
          → end_of (at + min c (n - at)) (pieces_up_to k.bytes c (min (at + c + v * c) n) (at + min c (n - at)) most) ≡ min (at + c + v * c) n
      later again below = by_end (less_or_not n (at + c))
        where
          by_end : (n < at + c) ⊎ (at + c ≤ n) → end_of (at + min c (n - at)) (pieces_up_to k.bytes c (min (at + c + v * c) n) (at + min c (n - at)) most) ≡ min (at + c + v * c) n
          by_end (inl past) = ap (end_of (at + min c (n - at))) (pieces_up_to-done k.bytes c (min (at + c + v * c) n) (at + min c (n - at)) most (omega (arith, past, below))) ∙ omega (arith, past, below)
          by_end (inr more) =
              let here : at + min c (n - at) ≡ at + c = omega (arith, more) in
              ap (λ z. end_of z (pieces_up_to k.bytes c (min (at + c + v * c) n) z most)) here ∙ again more

      by_order : (at < n) ⊎ (n ≤ at) → (at + c ≤ n → end_of (at + c) (pieces_up_to k.bytes c (min (at + c + v * c) n) (at + c) most) ≡ min (at + c + v * c) n)
          → end_of at (pieces_up_to k.bytes c (min (at + suc v * c) n) at (suc most)) ≡ min (at + suc v * c) n
      by_order (inr past) again = ap (end_of at) (pieces_up_to-done k.bytes c (min (at + suc v * c) n) at (suc most) (omega (arith, past))) ∙ omega (arith, past, inside)
      by_order (inl below) again =
          let size : min c (min (at + c + v * c) n - at) ≡ min c (n - at) = omega arith in
          ap (λ z. end_of at (pieces_up_to k.bytes c z at (suc most))) stop_is
          ∙ (ap (end_of at) (pieces_up_to-suc k.bytes c (min (at + c + v * c) n) at most (omega (arith, below, k.some)))
          ∙ (ap (λ z. end_of (at + length (piece_at k.bytes at z).bytes) (pieces_up_to k.bytes c (min (at + c + v * c) n) (at + z) most)) size
          ∙ (ap (λ z. end_of (at + z) (pieces_up_to k.bytes c (min (at + c + v * c) n) (at + min c (n - at)) most)) (part_size at (omega (arith, below)))
          ∙ (later again below ∙ sym stop_is))))

  -- with the rest of a wider window behind them, they are those of the wider window
  pub come_more : (xs : List Word) (at u more p : ℕ) → ComeFrom at u xs → u + more ≤ 64 → p ≡ min (at + u * c) n
      → ComeFrom at (u + more) (xs ++ map data_comes (pieces_up_to k.bytes c (min (at + (u + more) * c) n) p 64))
  come_more [] at u more p come small position = by_order (less_or_not at n)
    where
      by_order : (at < n) ⊎ (n ≤ at) → ComeFrom at (u + more) (map data_comes (pieces_up_to k.bytes c (min (at + (u + more) * c) n) p 64))
      by_order (inr past) = subst (λ ps. ComeFrom at (u + more) (map data_comes ps)) (sym (pieces_up_to-done k.bytes c (min (at + (u + more) * c) n) p 64 (omega (arith, position, past)))) (inr past)
      by_order (inl below) = by_come come
        where
          by_come : (u ≡ 0) ⊎ (n ≤ at) → ComeFrom at (u + more) (map data_comes (pieces_up_to k.bytes c (min (at + (u + more) * c) n) p 64))
          by_come (inr past) = absurd (omega (arith, past, below))
          by_come (inl none) =
              let here : p ≡ at = position ∙ (ap (λ x. min (at + x * c) n) none ∙ omega (arith, below)) in
              subst (λ z. ComeFrom at (u + more) (map data_comes (pieces_up_to k.bytes c (min (at + (u + more) * c) n) z 64))) (sym here) (cut_comes 64 (u + more) at small (omega (arith, below)))
  come_more (x ∷ xs) at u more p come small position =
      let v : ℕ = come.2.0 in
      let is : u ≡ suc v = come.2.1 in
      let rest = come_more xs (at + c) v more p come.2.2 (omega (arith, small, is)) (position ∙ (ap (λ y. min (at + y * c) n) is ∙ omega (arith, wide v))) in
      (come.0, come.1, (v + more, omega (arith, is), subst (λ stop. ComeFrom (at + c) (v + more) (xs ++ map data_comes (pieces_up_to k.bytes c stop p 64))) (sym (same v is)) rest))
    where
      same : (v : ℕ) → u ≡ suc v → min (at + (u + more) * c) n ≡ min (at + c + (v + more) * c) n
      same v is = ap (λ y. min (at + (y + more) * c) n) is ∙ omega arith

  -- where they end
  pub come_end : (at u more p : ℕ) → at ≤ n → u + more ≤ 64 → p ≡ min (at + u * c) n
      → end_of p (pieces_up_to k.bytes c (min (at + (u + more) * c) n) p 64) ≡ min (at + (u + more) * c) n
  come_end at u more p inside small position = by_order (less_or_not p n)
    where
      by_order : (p < n) ⊎ (n ≤ p) → end_of p (pieces_up_to k.bytes c (min (at + (u + more) * c) n) p 64) ≡ min (at + (u + more) * c) n
      by_order (inr past) = ap (end_of p) (pieces_up_to-done k.bytes c (min (at + (u + more) * c) n) p 64 (omega (arith, past))) ∙ omega (arith, past, position)
      by_order (inl below) =
          let stop : min (at + (u + more) * c) n ≡ min (p + more * c) n = omega (arith, below, position) in
          ap (λ x. end_of p (pieces_up_to k.bytes c x p 64)) stop
          ∙ (cut_ends 64 more p (omega (arith, small)) (omega (arith, below)) ∙ sym stop)
