-- The first flag or escape of a block, by the mask of one comparison: they are the two octets from the escape on.
use Rattle.std.proofs.Common.{◌≡◌, ◌≢◌, ℕ, ◌+◌, ◌*◌, ◌-◌, ◌%◌, ◌^◌, ◌<◌, ◌≤◌, ◌==◌, ◌||◌, ◌⊎◌, nat_lt, cond, Bool, true, false, not, List, [], ◌∷◌, map, length, get_or, get_or-drop, get_or-take, take, drop, replicate, Fits, w8, refl, sym, ap, ◌∙◌, subst, inl, inr, arith}
use Rattle.std.proofs.lemmas.Bool.{agree_below_at, cases_eq, eqb-false, eqb-true, or_cases, or_parts}
use Rattle.std.proofs.lemmas.List.{length-drop, length-map, length-take-le}
use Rattle.std.proofs.lemmas.List.Sums.{prefix_len-le-length}
use Rattle.std.proofs.lemmas.List.Elements.{All-from_get_or}
use Rattle.std.proofs.lemmas.Simd.{bitmask_splat, leading_from_mask_l, length-chunk, map-map, run_in_chunk_fails, run_in_chunk_le, run_in_chunk_stops, trailing_mask_l, zip2_splat}
use Rattle.std.specs.List.{prefix_len}
use lib.Count.{count_trailing_zeros}
use lib.Lanes.{chunk, mask_l, top, zip2}
use Rattle.hdlc_frame.specs.declared.octets.TheConstants.{ESCAPE, FLAG}
use Rattle.hdlc_frame.specs.Steps.{IsOrdinary}

-- how far an octet is past the escape
abbrev past : ℕ → ℕ
past octet = (octet + (256 - ESCAPE)) % 256

abbrev is_mark : ℕ → Bool
is_mark octet = nat_lt (past octet) 2

-- at each of the 256 octets
is_mark_at : (octet : ℕ) → octet < 256 → is_mark octet ≡ ((octet == FLAG) || (octet == ESCAPE))
is_mark_at octet below = agree_below_at is_mark (λ x. (x == FLAG) || (x == ESCAPE)) 256 octet refl below

abbrev pub marks_of : List ℕ → ℕ
marks_of block =
    mask_l (map (top 7) (zip2 (λ a b. cond (nat_lt a b) 255 0) (zip2 (λ a b. (a + (256 - b)) % 256) block (replicate 32 ESCAPE)) (replicate 32 2))) % 2 ^ 64

mask_is : (block : List ℕ) → length block ≡ 32 → marks_of block ≡ mask_l (map is_mark block)
mask_is block long =
    ap (λ l. mask_l (map (top 7) (zip2 (λ a b. cond (nat_lt a b) 255 0) l (replicate 32 2))) % 2 ^ 64) (zip2_splat (λ a b. (a + (256 - b)) % 256) block 32 ESCAPE long) ∙
    bitmask_splat w8 nat_lt (map past block) 32 2 (length-map block past ∙ long) (omega arith) ∙ ap mask_l (map-map (λ x. nat_lt x 2) past block)

none_fails : (b : Bool) (n l m : ℕ) → n ≤ l → cond (not b) (1 + n) 0 ≡ 1 + l → (n ≡ l → m ≡ 0) → cond b 1 0 + 2 * m ≡ 0
none_fails true n l m le e ih = let no : ⊥ = omega arith in absurd no
none_fails false n l m le e ih = let z = ih (omega arith) in omega arith

none_marked : (xs : List ℕ) → prefix_len (λ x. not (is_mark x)) xs ≡ length xs → mask_l (map is_mark xs) ≡ 0
none_marked [] e = refl
none_marked (x ∷ xs) e = none_fails (is_mark x) _ (length xs) _ (prefix_len-le-length (λ y. not (is_mark y)) xs) (omega arith) (none_marked xs)

module _ (octets : List ℕ) (at : ℕ) (room : at + 32 ≤ length octets) where
  abbrev block : List ℕ
  block = chunk at 32 octets

  long : length block ≡ 32
  long = length-chunk at 32 octets room

  -- how many lanes come before the first mark
  pub none_counted : marks_of block ≡ 0 → 32 ≡ prefix_len (λ x. not (is_mark x)) block
  none_counted none = sym (leading_from_mask_l is_mark block (sym (mask_is block long) ∙ none) ∙ long)

  pub some_counted : marks_of block ≢ 0 → count_trailing_zeros 64 (marks_of block) ≡ prefix_len (λ x. not (is_mark x)) block
  some_counted some =
      ap (count_trailing_zeros 64) (mask_is block long) ∙
      trailing_mask_l is_mark 64 block (omega (arith, long)) (let same = mask_is block long in omega arith)

  pub some_below : marks_of block ≢ 0 → count_trailing_zeros 64 (marks_of block) < 32
  some_below some =
      let counted = some_counted some in
      elim (cases_eq (prefix_len (λ x. not (is_mark x)) block) (length block)) [
        | inl all ↦ absurd (some (mask_is block long ∙ none_marked block all))
        | inr short ↦ omega (arith, counted, short, long, prefix_len-le-length (λ x. not (is_mark x)) block)
      ]

  module _ (n : ℕ) (fits : (k : ℕ) → Fits w8 (get_or octets k 0)) (counted : n ≡ prefix_len (λ x. not (is_mark x)) block) where
    within_block : n ≤ 32
    within_block = run_in_chunk_le is_mark octets at 32 n 0 room counted

    pub ordinary_before : IsOrdinary (take n (drop at octets))
    ordinary_before =
        let bound = within_block in
        let few : length (take n (drop at octets)) ≡ n = length-take-le n (drop at octets) (omega (arith, length-drop at octets)) in
        All-from_get_or (λ octet. (octet ≢ FLAG) × (octet ≢ ESCAPE)) (take n (drop at octets)) 0
        (λ k below.
        let short : k < n = omega (arith, few) in
        let same : get_or (take n (drop at octets)) k 0 ≡ get_or octets (at + k) 0 = get_or-take n (drop at octets) k 0 short ∙ get_or-drop at octets k 0 in
        let x = get_or octets (at + k) 0 in
        let none = or_parts (x == FLAG) (x == ESCAPE) (sym (is_mark_at x (fits (at + k)).fits) ∙ run_in_chunk_fails is_mark octets at 32 n 0 room counted (at + k) (omega arith) (omega arith)) in
        let P : ℕ → Type 0 = λ octet. (octet ≢ FLAG) × (octet ≢ ESCAPE) in
        subst P (sym same) (eqb-false x FLAG none.0, eqb-false x ESCAPE none.1))

    pub marked_behind : n < 32 → (get_or octets (at + n) 0 ≡ FLAG) ⊎ (get_or octets (at + n) 0 ≡ ESCAPE)
    marked_behind below =
        let x = get_or octets (at + n) 0 in
        elim (or_cases (x == FLAG) (x == ESCAPE) (sym (is_mark_at x (fits (at + n)).fits) ∙ run_in_chunk_stops is_mark octets at 32 n 0 room counted below)) [
          | inl flag ↦ inl (eqb-true x FLAG flag)
          | inr escape ↦ inr (eqb-true x ESCAPE escape)
        ]
