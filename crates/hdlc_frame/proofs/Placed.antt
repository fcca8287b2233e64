-- Where the payload of a frame stands.
use Rattle.std.proofs.Common.{◌≡◌, ℕ, ◌+◌, ◌-◌, ◌/◌, ◌%◌, ◌≤◌, zero, suc, List, [], ◌∷◌, ◌++◌, length, take, drop, Option, Some, None, refl, sym, ap, ◌∙◌, append_assoc, inl, inr, arith}
use Rattle.std.specs.Option.{option_map}
use Rattle.std.proofs.Math.Seq.{drop-append_seam}
use Rattle.std.proofs.lemmas.Bool.{ltb-false}
use Rattle.std.proofs.lemmas.Bool.Decides.{eqb_tells}
use Rattle.std.proofs.lemmas.List.{drop-drop, length-append, length-drop, length-take-le, take-append-drop, take-append-le, take_all}
use Rattle.std.proofs.lemmas.Slice.{between_is}
use Rattle.hdlc_frame.specs.declared.told.Place.{Place}
use Rattle.hdlc_frame.specs.Found.{Found, FrameParts, found_in_content, head_of, number_at}
use Rattle.hdlc_frame.specs.Found.Found.{fault, frame}
use Rattle.hdlc_frame.specs.Steps.{placed}
use Rattle.hdlc_frame.specs.Told.{IsInside, bytes_at, segment_found}
use Rattle.hdlc_frame.proofs.Carried.{content_passed, framed_is, rest_of}
use Rattle.hdlc_frame.proofs.Machines.{take_within}
use Rattle.hdlc_frame.proofs.Numbers.{behind, number_empty, number_last, number_more, number_stop}

front_more :
    (n x : ℕ) (xs : List ℕ) (number : ℕ) (rest : List ℕ) (read : Option (ℕ × List ℕ)) → number_at n xs ≡ read →
    ((u : ℕ) (r : List ℕ) → number_at n xs ≡ Some (u, r) → (front : List ℕ) × (xs ≡ front ++ r)) →
    option_map (behind (x / 2) 128) read ≡ Some (number, rest) → (front : List ℕ) × (x ∷ xs ≡ front ++ rest)
front_more n x xs number rest None e below h = absurd (cc)
front_more n x xs number rest (Some (u, r)) e below h =
    let deeper = below u r e in
    let same : r ≡ rest = ap rest_of h in
    (x ∷ deeper.0, ap (λ l. x ∷ l) (deeper.1 ∙ ap (λ l. deeper.0 ++ l) same))

-- what stands behind a number is the end of the octets
number_front : (n : ℕ) (octets : List ℕ) (number : ℕ) (rest : List ℕ) → number_at n octets ≡ Some (number, rest) → (front : List ℕ) × (octets ≡ front ++ rest)
number_front zero octets number rest h = absurd (let e = number_stop octets in cc)
number_front (suc n) [] number rest h = absurd (let e = number_empty (suc n) in cc)
number_front (suc n) (x ∷ xs) number rest h =
    elim (eqb_tells (x % 2) 1) [
      | inl w ↦
          let same : xs ≡ rest = ap rest_of (sym (number_last n x xs w.1) ∙ h) in
          (x ∷ [], ap (λ l. x ∷ l) same)
      | inr w ↦
          front_more n x xs number rest (number_at n xs) refl (λ u r e. number_front n xs u r e) (sym (number_more n x xs w.1) ∙ h)
    ]

take_front : (xs ys : List ℕ) → take (length xs) (xs ++ ys) ≡ xs
take_front xs ys = take-append-le (length xs) xs ys (omega arith) ∙ take_all (length xs) xs (omega arith)

pub record PayloadStands (content payload : List ℕ) : Type 0 where
  pub short : 4 + length payload ≤ length content
  pub same : take (length payload) (drop (length content - 4 - length payload) content) ≡ payload

pub payload_stands : (limit : ℕ) (content : List ℕ) (carried : FrameParts) → found_in_content limit content ≡ frame carried → PayloadStands content carried.payload
payload_stands limit content carried h =
    let tests = content_passed limit content carried h in
    let least = ltb-false (length content) 6 tests.1 in
    let read = framed_is (number_at 5 (head_of content)) carried tests.3 in
    let front = number_front 5 (head_of content) carried.address (carried.control ∷ carried.payload) read.is in
    let check = drop (length content - 4) content in
    let before = front.0 ++ carried.control ∷ [] in
    let payload = carried.payload in
    let parts : content ≡ before ++ (payload ++ check) =
    sym (take-append-drop (length content - 4) content) ∙
    ap (λ l. l ++ check) (front.1 ∙ sym (append_assoc front.0 (carried.control ∷ []) payload)) ∙ append_assoc before payload check
    in
    let four : length check ≡ 4 = omega (arith, least, length-drop (length content - 4) content) in
    let long : length content ≡ length before + (length payload + length check) =
    ap length parts ∙ length-append before (payload ++ check) ∙ ap (λ n. length before + n) (length-append payload check)
    in
    let start : length content - 4 - length payload ≡ length before = omega (arith, four, long) in
    record {
      short = omega (arith, four, long);
      same =
          ap (λ n. take (length payload) (drop n content)) start ∙ ap (λ l. take (length payload) (drop (length before) l)) parts ∙
          ap (take (length payload)) (drop-append_seam before (payload ++ check)) ∙ take_front payload check;
    }

take_drop_take : (n m c : ℕ) (xs : List ℕ) → m + n ≤ c → take n (drop m (take c xs)) ≡ take n (drop m xs)
take_drop_take n m c xs h = ap (take n) (sym (between_is xs m c)) ∙ take_within n (c - m) (drop m xs) (omega arith)

abbrev IsTold : Place → ℕ → Found → List ℕ → List ℕ → Type 0
IsTold place end found buffer piece =
    (segment_found (placed place end found) buffer piece ≡ found) × IsInside (placed place end found) buffer piece

told_by :
    (place : Place) (end limit : ℕ) (content buffer piece : List ℕ) (found : Found) → length content ≤ end → end ≤ length (bytes_at place buffer piece) →
    content ≡ take (length content) (drop (end - length content) (bytes_at place buffer piece)) → found_in_content limit content ≡ found →
    IsTold place end found buffer piece
told_by place end limit content buffer piece (fault bad) short within lies e = (refl, tt)
told_by place end limit content buffer piece (frame carried) short within lies e =
    let whole = bytes_at place buffer piece in
    let stands = payload_stands limit content carried e in
    let n = length carried.payload in
    let m = length content - 4 - n in
    let few = stands.short in
    let at : end - length content + m ≡ end - 4 - n = omega (arith, few, short) in
    let payload : take n (drop (end - 4 - n) whole) ≡ carried.payload =
    ap (λ k. take n (drop k whole)) (sym at) ∙ ap (take n) (sym (drop-drop m (end - length content) whole)) ∙
    sym (take_drop_take n m (length content) (drop (end - length content) whole) (omega (arith, few))) ∙ ap (λ l. take n (drop m l)) (sym lies) ∙
    stands.same
    in
    let with_payload : List ℕ → Found = λ l. frame (record { address = carried.address; control = carried.control; payload = l }) in
    (ap with_payload payload, omega (arith, few, short, within))

-- a content's frame or fault is what is told of it by places
pub placed_is :
    (place : Place) (end limit : ℕ) (content buffer piece : List ℕ) → length content ≤ end → end ≤ length (bytes_at place buffer piece) →
    content ≡ take (length content) (drop (end - length content) (bytes_at place buffer piece)) →
    IsTold place end (found_in_content limit content) buffer piece
placed_is place end limit content buffer piece short within lies =
    told_by place end limit content buffer piece (found_in_content limit content) short within lies refl

-- a range of a slice is the content that ends where the range does
pub range_lies :
    (from to : ℕ) (whole : List ℕ) → from ≤ to → to ≤ length whole →
    let content = take (to - from) (drop from whole) in
    (length content ≤ to) × (content ≡ take (length content) (drop (to - length content) whole))
range_lies from to whole h within =
    let content = take (to - from) (drop from whole) in
    let long : length content ≡ to - from = length-take-le (to - from) (drop from whole) (omega (arith, length-drop from whole)) in
    let start : to - (to - from) ≡ from = omega arith in (
      omega (arith, long),
      sym (ap (λ n. take n (drop (to - n) whole)) long ∙ ap (λ n. take (to - from) (drop n whole)) start),
    )

-- so is the front of a slice
pub front_lies :
    (len : ℕ) (whole : List ℕ) → len ≤ length whole →
    let content = take len whole in
    (length content ≤ len) × (content ≡ take (length content) (drop (len - length content) whole))
front_lies len whole within =
    let long : length (take len whole) ≡ len = length-take-le len whole within in
    let start : len - len ≡ 0 = omega arith in (
      omega (arith, long),
      sym (ap (λ n. take n (drop (len - n) whole)) long ∙ ap (λ n. take len (drop n whole)) start),
    )
