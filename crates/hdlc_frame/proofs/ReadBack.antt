-- What is written is read back.
use Rattle.std.proofs.Common.{◌≡◌, ◌≢◌, ℕ, ◌+◌, ◌-◌, ◌*◌, ◌/◌, ◌%◌, ◌^◌, ◌<◌, ◌≤◌, ◌==◌, ◌||◌, zero, suc, Bool, true, false, List, [], ◌∷◌, ◌++◌, length, drop, map, Option, Some, refl, sym, ap, ◌∙◌, append_assoc, subst, inl, inr, bit_xor, arith}
use Rattle.std.specs.Bool.{if◌then◌else◌}
use Rattle.std.specs.Int.{from_le_bytes, to_le_bytes, w32}
use Rattle.std.specs.Option.{option_map}
use Rattle.std.proofs.lemmas.Bool.{cases_lt, eq-eqb, le-ltb, lt-ltb}
use Rattle.std.proofs.lemmas.Bool.Decides.{eqb_tells}
use Rattle.std.proofs.lemmas.List.{drop_at, length-append, map-append, take_at}
use Rattle.std.proofs.lemmas.Nat.{from_le_bytes-to_le_bytes_4, xor_lt}
use Rattle.std.proofs.Math.Nat.{pow-suc}
use Rattle.hdlc_frame.specs.declared.crc.TheConstants.{ALL_ONES, POLYNOMIAL}
use Rattle.hdlc_frame.specs.declared.octets.TheConstants.{ESCAPE, ESCAPE_BIT, FLAG, UI_CONTROL}
use Rattle.hdlc_frame.specs.CheckSequence.{after_bit, after_bits, after_octet, after_octets, check_sequence_of}
use Rattle.hdlc_frame.specs.Content.{StandsFor}
use Rattle.hdlc_frame.specs.Content.StandsFor.{escaped, itself, nothing}
use Rattle.hdlc_frame.specs.Encoded.{address_groups, encoded_ui, shortest_address, text_of, text_of_octet, ui_content, with_check_sequence}
use Rattle.hdlc_frame.specs.Found.{found, found_in, found_in_content, found_in_unescaped, framed, head_of, is_checked, number_at}
use Rattle.hdlc_frame.specs.Found.Found.{frame}
use Rattle.hdlc_frame.specs.Laws.{IsReadBack, ended}
use Rattle.hdlc_frame.specs.Segments.{has_octets, open_text, segments}
use Rattle.hdlc_frame.proofs.Contents.{neq-eqb, stands_walk}
use Rattle.hdlc_frame.proofs.Headers.{groups_last, groups_more}
use Rattle.hdlc_frame.proofs.Numbers.{behind, number_last, number_more}
use Rattle.hdlc_frame.proofs.Parting.{NoFlag, open_text_flag, open_text_text, segments_flag, segments_text}

-- the check sequence fits four octets
bit_fits : (r b : ℕ) → r < 2 ^ 32 → after_bit r b < 2 ^ 32
bit_fits r b h =
    elim (eqb_tells (bit_xor b (r % 2)) 1) [
      | inl w ↦ rw w.0 (xor_lt 32 (r / 2) POLYNOMIAL (omega arith) (omega arith))
      | inr w ↦ rw w.0 (omega arith)
    ]

bits_fit : (n r octet : ℕ) → r < 2 ^ 32 → after_bits n r octet < 2 ^ 32
unfolding after_bits
bits_fit zero r octet h = h
bits_fit (suc n) r octet h = bits_fit n (after_bit r (octet % 2)) (octet / 2) (bit_fits r (octet % 2) h)

octets_fit : (r : ℕ) (octets : List ℕ) → r < 2 ^ 32 → after_octets r octets < 2 ^ 32
unfolding after_octet
octets_fit r [] h = h
octets_fit r (x ∷ xs) h = octets_fit (after_octet r x) xs (bits_fit 8 r x h)

pub check_fits : (octets : List ℕ) → check_sequence_of octets < 2 ^ 32
unfolding check_sequence_of
check_fits octets = xor_lt 32 (after_octets ALL_ONES octets) ALL_ONES (octets_fit ALL_ONES octets (omega arith)) (omega arith)

-- the text of a content stands for it
octet_stands : (x : ℕ) (text content : List ℕ) → StandsFor text content → StandsFor (text_of_octet x ++ text) (x ∷ content)
octet_stands x text content s =
    elim (eqb_tells x FLAG) [
      | inl w ↦
          let P : ℕ → Type 0 = λ y. StandsFor (text_of_octet y ++ text) (y ∷ content) in
          subst P (sym w.1) (escaped ESCAPE 0x5E FLAG text content refl (omega arith) (omega arith) refl s)
      | inr w ↦
          elim (eqb_tells x ESCAPE) [
            | inl v ↦
                let P : ℕ → Type 0 = λ y. StandsFor (text_of_octet y ++ text) (y ∷ content) in
                subst P (sym v.1) (escaped ESCAPE 0x5D ESCAPE text content refl (omega arith) (omega arith) refl s)
            | inr v ↦
                let P : Bool → Bool → Type 0 = λ a b. StandsFor ((if a || b then ESCAPE ∷ bit_xor x ESCAPE_BIT ∷ [] else x ∷ []) ++ text) (x ∷ content) in
                subst (λ a. P a (x == ESCAPE)) (sym w.0) (subst (λ b. P false b) (sym v.0) (itself x text content w.1 v.1 s))
          ]
    ]

pub text_stands : (content : List ℕ) → StandsFor (text_of content) content
unfolding text_of
text_stands [] = nothing
text_stands (x ∷ xs) = octet_stands x (text_of xs) xs (text_stands xs)

flag_free : (x : ℕ) (text : List ℕ) → x ≢ FLAG → NoFlag text → NoFlag (x ∷ text)
flag_free x text f none zero d below = neq-eqb x FLAG f
flag_free x text f none (suc k) d below = none k d (omega arith)

-- no flag is in a text that stands for something
pub stands_flag_free : (text content : List ℕ) → StandsFor text content → NoFlag text
stands_flag_free _ _ nothing = λ k d below. absurd (omega arith)
stands_flag_free _ _ (itself x text content f e s) = flag_free x text f (stands_flag_free text content s)
stands_flag_free _ _ (escaped escape x meant text content is f e means s) =
    flag_free escape (x ∷ text) (omega arith) (flag_free x text f (stands_flag_free text content s))

-- a number that was written is read back
abbrev with_rest : List ℕ → ℕ → Option (ℕ × List ℕ)
with_rest rest number = Some (number, rest)

last_back : (n address : ℕ) (rest : List ℕ) → address < 128 → number_at (suc n) (address_groups (suc n) address ++ rest) ≡ Some (address, rest)
last_back n address rest h =
    let odd : (address * 2 + 1) % 2 ≡ 1 = omega arith in
    let half : (address * 2 + 1) / 2 ≡ address = omega arith in
    ap (λ l. number_at (suc n) (l ++ rest)) (groups_last n address h) ∙ number_last n (address * 2 + 1) rest odd ∙ ap (with_rest rest) half

pub number_back : (n address : ℕ) (rest : List ℕ) → address < 128 ^ suc n → number_at (suc n) (address_groups (suc n) address ++ rest) ≡ Some (address, rest)
number_back zero address rest h = last_back zero address rest (omega arith)
number_back (suc n) address rest h = elim (cases_lt address 128) [
  | inl w ↦ last_back (suc n) address rest w
  | inr w ↦
      let power : 128 ^ suc (suc n) ≡ 128 ^ suc n * 128 = pow-suc 128 (suc n) in
      let even : address % 128 * 2 % 2 ≢ 1 = omega arith in
      let whole : address % 128 * 2 / 2 + 128 * (address / 128) ≡ address = omega arith in
      ap (λ l. number_at (suc (suc n)) (l ++ rest)) (groups_more (suc n) address w) ∙
      number_more (suc n) (address % 128 * 2) (address_groups (suc n) (address / 128) ++ rest) even ∙
      ap (option_map (behind (address % 128 * 2 / 2) 128)) (number_back n (address / 128) rest (omega arith)) ∙ ap (with_rest rest) whole
]

groups_zero : (address : ℕ) → length (address_groups zero address) ≤ zero
unfolding address_groups
groups_zero address = omega arith

groups_most : (n address : ℕ) → length (address_groups n address) ≤ n
groups_most zero address = groups_zero address
groups_most (suc n) address = elim (cases_lt address 128) [
  | inl w ↦ rw (groups_last n address w) (omega arith)
  | inr w ↦ rw (groups_more n address w) (let h = groups_most n (address / 128) in omega arith)
]

-- a content with its check sequence
with_check_length : (head : List ℕ) → length (with_check_sequence head) ≡ length head + 4
with_check_length head = length-append head (to_le_bytes w32 (check_sequence_of head))

minus_four : (n : ℕ) → n + 4 - 4 ≡ n
minus_four n = omega arith

pub head_back : (head : List ℕ) → head_of (with_check_sequence head) ≡ head
head_back head = take_at head (to_le_bytes w32 (check_sequence_of head)) (length (with_check_sequence head) - 4) (sym (ap (λ n. n - 4) (with_check_length head) ∙ minus_four (length head)))

check_back : (head : List ℕ) → drop (length (with_check_sequence head) - 4) (with_check_sequence head) ≡ to_le_bytes w32 (check_sequence_of head)
check_back head = drop_at head (to_le_bytes w32 (check_sequence_of head)) (length (with_check_sequence head) - 4) (sym (ap (λ n. n - 4) (with_check_length head) ∙ minus_four (length head)))

pub checked_back : (head : List ℕ) → is_checked (with_check_sequence head) ≡ true
checked_back head =
    eq-eqb (from_le_bytes w32 (drop (length (with_check_sequence head) - 4) (with_check_sequence head))) (check_sequence_of (head_of (with_check_sequence head)))
    (ap (from_le_bytes w32) (check_back head) ∙ from_le_bytes-to_le_bytes_4 (check_sequence_of head) (check_fits head) ∙
    sym (ap check_sequence_of (head_back head)))

-- a content whose check sequence is right, within the limits
pub content_back :
    (limit : ℕ) (head : List ℕ) → length (with_check_sequence head) ≤ limit → 6 ≤ length (with_check_sequence head) →
    found_in_content limit (with_check_sequence head) ≡ framed (number_at 5 head)
unfolding found_in_content
content_back limit head most least =
    rw (le-ltb limit (length (with_check_sequence head)) most, le-ltb (length (with_check_sequence head)) 6 least, checked_back head)
    (ap (λ l. framed (number_at 5 l)) (head_back head))

framed_back : (address control : ℕ) (payload : List ℕ) → address < 2 ^ 32 → framed (Some (address, control ∷ payload)) ≡ frame (record { address = address; control = control; payload = payload })
framed_back address control payload h = rw (lt-ltb address (2 ^ 32) h) refl

ui_content_is : (address : ℕ) (payload : List ℕ) → ui_content address payload ≡ with_check_sequence (shortest_address address ++ UI_CONTROL ∷ payload)
unfolding ui_content
ui_content_is address payload = refl

groups_some : (n address : ℕ) → 1 ≤ length (address_groups (suc n) address)
groups_some n address = elim (cases_lt address 128) [
  | inl w ↦ rw (groups_last n address w) (omega arith)
  | inr w ↦ rw (groups_more n address w) (omega arith)
]

one_more : (n : ℕ) → suc n ≡ 1 + n
one_more n = omega arith

ui_length : (address : ℕ) (payload : List ℕ) → length (ui_content address payload) ≡ length (shortest_address address) + (1 + length payload) + 4
ui_length address payload =
    ap length (ui_content_is address payload) ∙ with_check_length (shortest_address address ++ UI_CONTROL ∷ payload) ∙
    ap (λ n. n + 4) (length-append (shortest_address address) (UI_CONTROL ∷ payload) ∙ ap (λ n. length (shortest_address address) + n) (one_more (length payload)))

ui_found :
    (limit address : ℕ) (payload : List ℕ) → address < 2 ^ 32 → length (ui_content address payload) ≤ limit →
    found_in limit (text_of (ui_content address payload)) ≡ frame (record { address = address; control = UI_CONTROL; payload = payload })
ui_found limit address payload h most =
    let content = ui_content address payload in
    let head = shortest_address address ++ UI_CONTROL ∷ payload in
    let same = ui_content_is address payload in
    let some = groups_some 4 address in
    let least : 6 ≤ length content = omega (arith, ui_length address payload) in
    let P : List ℕ → Type 0 = λ l. 6 ≤ length l in
    let Q : List ℕ → Type 0 = λ l. length l ≤ limit in
    ap (found_in_unescaped limit) (stands_walk (text_of content) content (text_stands content)) ∙ ap (found_in_content limit) same ∙
    content_back limit head (subst Q same most) (subst P same least) ∙
    ap framed (number_back 4 address (UI_CONTROL ∷ payload) (omega arith)) ∙ framed_back address UI_CONTROL payload h

ended_some : (text : List ℕ) → has_octets text ≡ true → ended (Some text) ≡ text ∷ []
ended_some [] h = absurd (cc)
ended_some (x ∷ xs) h = refl

-- a text between two flags behind a stream
written_segments :
    (stream text : List ℕ) → NoFlag text → has_octets text ≡ true →
    segments (stream ++ FLAG ∷ (text ++ FLAG ∷ [])) ≡ segments (stream ++ FLAG ∷ []) ++ text ∷ []
written_segments stream text none some =
    let opened = stream ++ FLAG ∷ [] in
    ap segments (sym (append_assoc stream (FLAG ∷ []) (text ++ FLAG ∷ [])) ∙ sym (append_assoc opened text (FLAG ∷ []))) ∙
    segments_flag (opened ++ text) ∙ ap (λ l. l ++ ended (open_text (opened ++ text))) (segments_text opened text none) ∙
    ap (λ o. segments opened ++ ended o) (open_text_text opened text none ∙ ap (option_map (λ l. l ++ text)) (open_text_flag stream)) ∙
    ap (λ l. segments opened ++ l) (ended_some text some)

chosen_some : (b : Bool) (x : ℕ) (text : List ℕ) → has_octets ((if b then ESCAPE ∷ bit_xor x ESCAPE_BIT ∷ [] else x ∷ []) ++ text) ≡ true
chosen_some true x text = refl
chosen_some false x text = refl

some_octet : (x : ℕ) (text : List ℕ) → has_octets (text_of_octet x ++ text) ≡ true
some_octet x text = chosen_some ((x == FLAG) || (x == ESCAPE)) x text

some_text : (content : List ℕ) → 6 ≤ length content → has_octets (text_of content) ≡ true
unfolding text_of
some_text [] h = absurd (omega arith)
some_text (x ∷ xs) h = some_octet x (text_of xs)

found_segments : (limit : ℕ) (stream text more : List ℕ) → segments more ≡ segments stream ++ text ∷ [] → found limit more ≡ found limit stream ++ found_in limit text ∷ []
unfolding found
found_segments limit stream text more e = ap (map (found_in limit)) e ∙ map-append (found_in limit) (segments stream) (text ∷ [])

pub is_read_back : (address : ℕ) (payload : List ℕ) → address < 2 ^ 32 → IsReadBack address payload
is_read_back address payload h =
    let content = ui_content address payload in
    let text = text_of content in
    let some = groups_some 4 address in
    let few = groups_most 5 address in
    let len = ui_length address payload in
    let segment : (stream : List ℕ) → segments (stream ++ encoded_ui address payload) ≡ segments (stream ++ FLAG ∷ []) ++ text ∷ [] =
    λ stream. written_segments stream text (stands_flag_free text content (text_stands content)) (some_text content (omega arith))
    in
    record {
      stands = text_stands content;
      most = omega arith;
      segment = segment;
      found = λ limit stream within.
          found_segments limit (stream ++ FLAG ∷ []) text (stream ++ encoded_ui address payload) (segment stream) ∙
          ap (λ f. found limit (stream ++ FLAG ∷ []) ++ f ∷ []) (ui_found limit address payload h within);
    }
