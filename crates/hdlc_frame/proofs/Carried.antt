-- What is found in a text, and the relation of a text and the frame that it carries.
use Rattle.std.proofs.Common.{◌≡◌, ◌≢◌, ℕ, ◌+◌, ◌-◌, ◌*◌, ◌/◌, ◌%◌, ◌^◌, ◌<◌, ◌≤◌, not, zero, suc, ltb, Bool, true, false, List, [], ◌∷◌, ◌++◌, length, get_or, take, drop, Option, Some, None, refl, sym, ap, ◌∙◌, subst, inl, inr, arith}
use Rattle.std.specs.Bool.{if◌then◌else◌}
use Rattle.std.specs.Int.{from_le_bytes, to_le_bytes, w32}
use Rattle.std.specs.Option.{option_map}
use Rattle.std.proofs.lemmas.Bool.{cases_lt, eqb-true, lt-ltb, ltb-false, ltb-true}
use Rattle.std.proofs.lemmas.Bool.Decides.{eqb_tells}
use Rattle.std.proofs.lemmas.List.{get_or-drop, get_or_past, length-drop, take-append-drop}
use Rattle.std.proofs.lemmas.List.Elements.{All-take}
use Rattle.std.proofs.lemmas.Nat.{le_bytes_4, xor_lt}
use Rattle.hdlc_frame.specs.declared.found.Bad.TheVariants.{Address, Check, Escape, Long, Short}
use Rattle.hdlc_frame.specs.declared.octets.TheConstants.{ESCAPE_BIT}
use Rattle.hdlc_frame.specs.CheckSequence.{check_sequence_of}
use Rattle.hdlc_frame.specs.Content.{StandsFor, unescaped}
use Rattle.hdlc_frame.specs.Content.StandsFor.{escaped, itself, nothing}
use Rattle.hdlc_frame.specs.Encoded.{with_check_sequence}
use Rattle.hdlc_frame.specs.Found.{Found, FrameParts, IsFrame, SpellsNumber, found_in, found_in_content, found_in_unescaped, framed, head_of, is_checked, number_at}
use Rattle.hdlc_frame.specs.Found.Found.{fault, frame}
use Rattle.hdlc_frame.specs.Found.SpellsNumber.{last, more}
use Rattle.hdlc_frame.specs.Laws.{AreOctets, IsFoundIn}
use Rattle.hdlc_frame.proofs.Contents.{stands_walk, walk_stands}
use Rattle.hdlc_frame.proofs.Numbers.{behind, number_empty, number_last, number_more, number_stop}
use Rattle.hdlc_frame.proofs.ReadBack.{content_back}

-- a spelled number is read, with what stands behind it
abbrev with_rest : List ℕ → ℕ → Option (ℕ × List ℕ)
with_rest rest number = Some (number, rest)

spelled_read : (n : ℕ) (spelling : List ℕ) (number : ℕ) (rest : List ℕ) → SpellsNumber spelling number → length spelling ≤ n → number_at n (spelling ++ rest) ≡ Some (number, rest)
spelled_read zero _ _ rest (last octet number low is) h = absurd (omega arith)
spelled_read zero _ _ rest (more octet group upper number octets low is s whole) h = absurd (omega arith)
spelled_read (suc n) _ _ rest (last octet number low is) h =
    let odd : octet % 2 ≡ 1 = omega arith in
    let half : octet / 2 ≡ number = omega arith in
    number_last n octet rest odd ∙ ap (with_rest rest) half
spelled_read (suc n) _ _ rest (more octet group upper number octets low is s whole) h =
    let even : octet % 2 ≢ 1 = omega arith in
    let same : octet / 2 + 128 * upper ≡ number = omega arith in
    number_more n octet (octets ++ rest) even ∙
    ap (option_map (behind (octet / 2) 128)) (spelled_read n octets upper rest s (omega arith)) ∙ ap (with_rest rest) same

-- a number that is read is spelled there
abbrev number_of : Option (ℕ × List ℕ) → ℕ
number_of None = 0
number_of (Some read) = read.0

abbrev pub rest_of : Option (ℕ × List ℕ) → List ℕ
rest_of None = []
rest_of (Some read) = read.1

record Spelled (n : ℕ) (octets : List ℕ) (number : ℕ) (rest : List ℕ) : Type 0 where
  spelling : List ℕ
  whole : octets ≡ spelling ++ rest
  spells : SpellsNumber spelling number
  few : length spelling ≤ n

octet_first : (x : ℕ) (xs : List ℕ) → AreOctets (x ∷ xs) → x < 256
octet_first x xs h = h zero 0 (omega arith)

octet_others : (x : ℕ) (xs : List ℕ) → AreOctets (x ∷ xs) → AreOctets xs
octet_others x xs h = λ k d below. h (suc k) d (omega arith)

read_spelled_more :
    (n x : ℕ) (xs : List ℕ) (number : ℕ) (rest : List ℕ) (read : Option (ℕ × List ℕ)) → x < 256 → x % 2 ≢ 1 → number_at n xs ≡ read →
    ((u : ℕ) (r : List ℕ) → number_at n xs ≡ Some (u, r) → Spelled n xs u r) → option_map (behind (x / 2) 128) read ≡ Some (number, rest) →
    Spelled (suc n) (x ∷ xs) number rest
read_spelled_more n x xs number rest None low even e below h = absurd (cc)
read_spelled_more n x xs number rest (Some (u, r)) low even e below h =
    let s = below u r e in
    let value : number ≡ x / 2 + 128 * u = sym (ap number_of h) in
    let same : r ≡ rest = ap rest_of h in
    record {
      spelling = x ∷ s.spelling;
      whole = ap (λ l. x ∷ l) (s.whole ∙ ap (λ l. s.spelling ++ l) same);
      spells = more x (x / 2) u number s.spelling (omega arith) (omega arith) s.spells value;
      few = let h = s.few in omega arith;
    }

read_spelled : (n : ℕ) (octets : List ℕ) (number : ℕ) (rest : List ℕ) → AreOctets octets → number_at n octets ≡ Some (number, rest) → Spelled n octets number rest
read_spelled zero octets number rest fit h = absurd (let e = number_stop octets in cc)
read_spelled (suc n) [] number rest fit h = absurd (let e = number_empty (suc n) in cc)
read_spelled (suc n) (x ∷ xs) number rest fit h =
    elim (eqb_tells (x % 2) 1) [
      | inl w ↦
          let e = sym (number_last n x xs w.1) ∙ h in
          let value : x / 2 ≡ number = ap number_of e in
          let same : xs ≡ rest = ap rest_of e in
          let low = octet_first x xs fit in
          let odd : x % 2 ≡ 1 = w.1 in
          record { spelling = x ∷ []; whole = ap (λ l. x ∷ l) same; spells = last x number (omega arith) (omega arith); few = omega arith }
      | inr w ↦
          read_spelled_more n x xs number rest (number_at n xs) (octet_first x xs fit) w.1 refl
          (λ u r e. read_spelled n xs u r (octet_others x xs fit) e) (sym (number_more n x xs w.1) ∙ h)
    ]

-- the content of octets is octets
add_octet : (x : ℕ) (xs : List ℕ) → x < 256 → AreOctets xs → AreOctets (x ∷ xs)
add_octet x xs low fit zero d below = low
add_octet x xs low fit (suc k) d below = fit k d (omega arith)

content_fits : (text content : List ℕ) → StandsFor text content → AreOctets text → AreOctets content
content_fits _ _ nothing fit = fit
content_fits _ _ (itself x text content f e s) fit =
    add_octet x content (octet_first x text fit) (content_fits text content s (octet_others x text fit))
content_fits _ _ (escaped escape x meant text content is f e means s) fit =
    let behind_it = octet_others escape (x ∷ text) fit in
    add_octet meant content (rw means (xor_lt 8 x ESCAPE_BIT (octet_first x text behind_it) (omega arith)))
    (content_fits text content s (octet_others x text behind_it))

drop_fits : (n : ℕ) (xs : List ℕ) → AreOctets xs → AreOctets (drop n xs)
drop_fits n xs fit = λ k d below. rw (get_or-drop n xs k d) (fit (n + k) d (omega (arith, length-drop n xs)))

take_fits : (n : ℕ) (xs : List ℕ) → AreOctets xs → AreOctets (take n xs)
take_fits n xs fit = All-take (λ octet. octet < 256) n xs fit

octet_at : (xs : List ℕ) (i : ℕ) → AreOctets xs → get_or xs i 0 < 256
octet_at xs i fit = elim (cases_lt i (length xs)) [
  | inl w ↦ fit i 0 w
  | inr w ↦ rw (get_or_past xs i 0 w) (omega arith)
]

-- the tests of a content, each passed
passed :
    (a b c : Bool) (rest : Found) (carried : FrameParts) →
    (if a then fault Long else (if b then fault Short else (if not c then fault Check else rest))) ≡ frame carried →
    (a ≡ false) × (b ≡ false) × (c ≡ true) × (rest ≡ frame carried)
passed true b c rest carried h = absurd (cc)
passed false true c rest carried h = absurd (cc)
passed false false true rest carried h = (refl, refl, refl, h)
passed false false false rest carried h = absurd (cc)

pub content_passed :
    (limit : ℕ) (content : List ℕ) (carried : FrameParts) → found_in_content limit content ≡ frame carried →
    (ltb limit (length content) ≡ false) × (ltb (length content) 6 ≡ false) × (is_checked content ≡ true) ×
    (framed (number_at 5 (head_of content)) ≡ frame carried)
unfolding found_in_content
content_passed limit content carried h =
    passed (ltb limit (length content)) (ltb (length content) 6) (is_checked content) (framed (number_at 5 (head_of content))) carried h

framed_if :
    (b : Bool) (address control : ℕ) (payload : List ℕ) (carried : FrameParts) →
    (if b then frame (record { address = address; control = control; payload = payload }) else fault Address) ≡ frame carried →
    let parts : FrameParts = record { address = address; control = control; payload = payload } in (b ≡ true) × (parts ≡ carried)
framed_if true address control payload carried h = (refl, cc)
framed_if false address control payload carried h = absurd (cc)

pub record Framed (read : Option (ℕ × List ℕ)) (carried : FrameParts) : Type 0 where
  pub is : read ≡ Some (carried.address, carried.control ∷ carried.payload)
  pub low : carried.address < 2 ^ 32

pub framed_is : (read : Option (ℕ × List ℕ)) (carried : FrameParts) → framed read ≡ frame carried → Framed read carried
framed_is None carried h = absurd (cc)
framed_is (Some (address, [])) carried h = absurd (cc)
framed_is (Some (address, control ∷ payload)) carried h =
    let parts = framed_if (ltb address (2 ^ 32)) address control payload carried h in
    let as_read : FrameParts → Option (ℕ × List ℕ) = λ f. Some (f.address, f.control ∷ f.payload) in
    let P : ℕ → Type 0 = λ n. n < 2 ^ 32 in
    record {
      is = ap as_read parts.1;
      low = subst P (ap (λ f. f.address) parts.1) (ltb-true address (2 ^ 32) parts.0);
    }

four : (n : ℕ) → 6 ≤ n → n - (n - 4) ≡ 4
four n h = omega arith

checked_is : (content : List ℕ) → AreOctets content → 6 ≤ length content → is_checked content ≡ true → content ≡ with_check_sequence (head_of content)
checked_is content fit least h =
    let n = length content - 4 in
    let check = check_sequence_of (head_of content) in
    let len : length (drop n content) ≡ 4 = length-drop n content ∙ four (length content) least in
    let low : (i : ℕ) → get_or (drop n content) i 0 < 256 = λ i. octet_at (drop n content) i (drop_fits n content fit) in
    let same : to_le_bytes w32 check ≡ drop n content =
    le_bytes_4 (drop n content) check len low (sym (eqb-true (from_le_bytes w32 (drop n content)) check h))
    in
    sym (take-append-drop n content) ∙ ap (λ l. head_of content ++ l) (sym same)

content_carries :
    (limit : ℕ) (text content : List ℕ) (carried : FrameParts) → StandsFor text content → AreOctets text →
    found_in_content limit content ≡ frame carried → IsFrame limit text carried
content_carries limit text content carried stands fit h =
    let tests = content_passed limit content carried h in
    let octets = content_fits text content stands fit in
    let least = ltb-false (length content) 6 tests.1 in
    let read = framed_is (number_at 5 (head_of content)) carried tests.3 in
    let s = read_spelled 5 (head_of content) carried.address (carried.control ∷ carried.payload) (take_fits (length content - 4) content octets) read.is in
    record {
      content = content;
      spelling = s.spelling;
      stands = stands;
      within = ltb-false limit (length content) tests.0;
      least = least;
      address = record { spelled = s.spells; groups = s.few; below = read.low };
      is = checked_is content octets least tests.2 ∙ ap with_check_sequence s.whole;
    }

framed_low : (carried : FrameParts) → carried.address < 2 ^ 32 → framed (Some (carried.address, carried.control ∷ carried.payload)) ≡ frame carried
framed_low carried h = rw (lt-ltb carried.address (2 ^ 32) h) refl

carries_content : (limit : ℕ) (text : List ℕ) (carried : FrameParts) → IsFrame limit text carried → found_in limit text ≡ frame carried
carries_content limit text carried f =
    let head = f.spelling ++ carried.control ∷ carried.payload in
    let P : List ℕ → Type 0 = λ l. length l ≤ limit in
    let Q : List ℕ → Type 0 = λ l. 6 ≤ length l in
    ap (found_in_unescaped limit) (stands_walk text f.content f.stands) ∙ ap (found_in_content limit) f.is ∙
    content_back limit head (subst P f.is f.within) (subst Q f.is f.least) ∙
    ap framed (spelled_read 5 f.spelling carried.address (carried.control ∷ carried.payload) f.address.spelled f.address.groups) ∙
    framed_low carried f.address.below

found_carries :
    (limit : ℕ) (text : List ℕ) (carried : FrameParts) (content : Option (List ℕ)) → AreOctets text → unescaped false text ≡ content →
    found_in_unescaped limit content ≡ frame carried → IsFrame limit text carried
found_carries limit text carried None fit e h = absurd (cc)
found_carries limit text carried (Some content) fit e h = content_carries limit text content carried (walk_stands text content e) fit h

if_no_escape : (b : Bool) (carried : FrameParts) → (if b then frame carried else fault Address) ≡ fault Escape → ⊥
if_no_escape true carried h = cc
if_no_escape false carried h = cc

framed_no_escape : (read : Option (ℕ × List ℕ)) → framed read ≡ fault Escape → ⊥
framed_no_escape None h = cc
framed_no_escape (Some (address, [])) h = cc
framed_no_escape (Some (address, control ∷ payload)) h =
    if_no_escape (ltb address (2 ^ 32)) (record { address = address; control = control; payload = payload }) h

no_escape :
    (a b c : Bool) (rest : Found) → (rest ≡ fault Escape → ⊥) →
    (if a then fault Long else (if b then fault Short else (if not c then fault Check else rest))) ≡ fault Escape → ⊥
no_escape true b c rest other h = cc
no_escape false true c rest other h = cc
no_escape false false true rest other h = other h
no_escape false false false rest other h = cc

content_no_escape : (limit : ℕ) (content : List ℕ) → found_in_content limit content ≡ fault Escape → ⊥
unfolding found_in_content
content_no_escape limit content h =
    no_escape (ltb limit (length content)) (ltb (length content) 6) (is_checked content) (framed (number_at 5 (head_of content)))
    (framed_no_escape (number_at 5 (head_of content))) h

escape_means : (limit : ℕ) (text : List ℕ) (found : Option (List ℕ)) → unescaped false text ≡ found → found_in_unescaped limit found ≡ fault Escape → (content : List ℕ) → StandsFor text content → ⊥
escape_means limit text None e h content stands = let w = stands_walk text content stands in cc
escape_means limit text (Some other) e h content stands = content_no_escape limit other h

means_escape : (limit : ℕ) (text : List ℕ) (found : Option (List ℕ)) → unescaped false text ≡ found → ((content : List ℕ) → StandsFor text content → ⊥) → found_in_unescaped limit found ≡ fault Escape
means_escape limit text None e none = refl
means_escape limit text (Some content) e none = absurd (none content (walk_stands text content e))

pub is_found_in : (limit : ℕ) (text : List ℕ) → AreOctets text → IsFoundIn limit text
is_found_in limit text fit = record {
  carries = λ carried. (found_carries limit text carried (unescaped false text) fit refl, carries_content limit text carried);
  escape = (escape_means limit text (unescaped false text) refl, means_escape limit text (unescaped false text) refl);
}
