-- The text of a message is computed as the grammar says.
use Rattle.std.proofs.Common.{◌≡◌, ℕ, ℤ, pos, negsuc, ◌+◌, ◌-◌, ◌*◌, ◌/◌, ◌%◌, Bool, true, false, cond, eqb, leb, ◌&&◌, List, [], ◌∷◌, ◌++◌, length, take, drop, Option, Some, None, option_map, option_and_then, refl, ap, sym, ◌∙◌, arith, subst, eq-eqb, le-leb, le-ltb, length-append}
use Rattle.std.specs.Prelude.{All}
use Rattle.std.specs.List.{list_all}
use Rattle.std.proofs.Math.Seq.{take-append_seam, drop-append_seam}
use Rattle.std.proofs.lemmas.Bool.{eqb-true, leb-true}
use Rattle.std.proofs.lemmas.List.{length-take-le, take-append-drop}
use Rattle.std.proofs.lemmas.List.Elements.{All-weaker}
use Rattle.std.proofs.lemmas.List.Sums.{list_all-from_AllPass}
use Rattle.std.proofs.lemmas.Option.{cond_some, option_and_then_some, same_Some}
use Rattle.proto_wire.specs.Varint.{IsVarint, Number, varint_front}
use Rattle.proto_wire.proofs.FrontLaws.{varint_front_reads, varint_front_spelled}
use Rattle.proto_wire.proofs.OptionLemmas.{both_passed, option_map_some, tested_some}
use Rattle.token_text.specs.Arguments.{Argument, Text, is_printable}
use Rattle.token_text.specs.Arguments as argument
use Rattle.token_text.specs.Book.{Entry, IsMessage, format_of, token_of}
use Rattle.token_text.specs.Format.{IsPrintable}
use Rattle.token_text.specs.Computed.{TextFront, printed, sized_text, text_front, text_in, unfolded}
use Rattle.token_text.specs.Printing.{number_text, shown_text, text_of}
use Rattle.token_text.specs.Spelling.{IsShortText, Spells, StartsWith, text_head, zigzag}
use Rattle.token_text.specs.declared.part.Notation.{Notation}
use Rattle.token_text.specs.declared.part.Padding.{Padding}
use Rattle.token_text.specs.declared.part.Part.{Part}
use Rattle.token_text.specs.declared.part.Part.TheVariants as part
use Rattle.token_text.proofs.WriteLemmas.{all_printable}

unfold_by : (t : Bool) (n : ℕ) → eqb (n % 2) 0 ≡ t → zigzag (cond t (pos (n / 2)) (negsuc (n / 2))) ≡ n
unfold_by true n e = let even : n % 2 ≡ 0 = eqb-true (n % 2) 0 e in omega (arith, even)
unfold_by false n e =
    let odd : n % 2 ≡ 0 → ⊥ = λ h. let same : eqb (n % 2) 0 ≡ true = eq-eqb (n % 2) 0 h in let f : ⊥ = cc in f in
    omega (arith, odd)

unfold_back : (n : ℕ) → zigzag (unfolded n) ≡ n
unfold_back n = unfold_by (eqb (n % 2) 0) n refl

odd_test : (t : Bool) (n : ℕ) → eqb ((2 * n + 1) % 2) 0 ≡ t → eqb ((2 * n + 1) % 2) 0 ≡ false
odd_test true n e = let even : (2 * n + 1) % 2 ≡ 0 = eqb-true ((2 * n + 1) % 2) 0 e in absurd (omega (arith, even))
odd_test false n e = e

unfold_fold : (z : ℤ) → unfolded (zigzag z) ≡ z
unfold_fold (pos n) =
    let even : eqb ((2 * n) % 2) 0 ≡ true = eq-eqb ((2 * n) % 2) 0 (omega arith) in
    let half : (2 * n) / 2 ≡ n = omega arith in
    ap (λ t. cond t (pos ((2 * n) / 2)) (negsuc ((2 * n) / 2))) even ∙ ap pos half
unfold_fold (negsuc n) =
    let odd = odd_test (eqb ((2 * n + 1) % 2) 0) n refl in
    let half : (2 * n + 1) / 2 ≡ n = omega arith in
    ap (λ t. cond t (pos ((2 * n + 1) / 2)) (negsuc ((2 * n + 1) / 2))) odd ∙ ap negsuc half

number_printed : (filled : Padding) (written : Notation) (ps : List Part) (bytes rest : List ℕ) (n : ℤ) (text : List ℕ) →
    varint_front bytes ≡ Some (record { value = zigzag n; rest = rest }) → printed ps rest ≡ Some text →
    printed (part.Number filled written ∷ ps) bytes ≡ Some (number_text filled written n ++ text)
unfolding printed
number_printed filled written ps bytes rest n text read more =
    ap (λ o. option_and_then (λ (r : Number). option_map (λ t. number_text filled written (unfolded r.value) ++ t) (printed ps r.rest)) o) read
    ∙ (ap (λ o. option_map (λ t. number_text filled written (unfolded (zigzag n)) ++ t) o) more
    ∙ ap (λ z. Some (number_text filled written z ++ text)) (unfold_fold n))

one_printable : (b : ℕ) → IsPrintable b → is_printable b ≡ true
one_printable b h = ap (λ t. t && leb b 126) (le-leb 32 b h.0) ∙ le-leb b 126 h.1

are_printable : (text : List ℕ) → All IsPrintable text → list_all is_printable text ≡ true
are_printable text h = list_all-from_AllPass is_printable text (All-weaker IsPrintable (λ b. is_printable b ≡ true) one_printable text h)

some_text : {a b xs ys : List ℕ} (cut : Bool) → a ≡ b → xs ≡ ys →
    ◌≡◌ {A = Option TextFront} (Some (record { text = a; cut = cut; rest = xs })) (Some (record { text = b; cut = cut; rest = ys }))
some_text cut p q = rw (p, q) refl

sized_reads : (size : ℕ) (cut : Bool) (text rest : List ℕ) → size ≡ length text → IsShortText text →
    sized_text size cut (text ++ rest) ≡ Some (record { text = text; cut = cut; rest = rest })
sized_reads size cut text rest is h =
    let bytes = text ++ rest in
    let front : take size bytes ≡ text = ap (λ n. take n bytes) is ∙ take-append_seam text rest in
    let back : drop size bytes ≡ rest = ap (λ n. drop n bytes) is ∙ drop-append_seam text rest in
    let small : leb size 127 ≡ true = le-leb size 127 (omega (arith, is, h.short)) in
    let long : length bytes ≡ length text + length rest = length-append text rest in
    let there : leb size (length bytes) ≡ true = le-leb size (length bytes) (omega (arith, is, long)) in
    let good : list_all is_printable (take size bytes) ≡ true = ap (list_all is_printable) front ∙ are_printable text h.printable in
    let read : TextFront = record { text = take size bytes; cut = cut; rest = drop size bytes } in
    ap (λ t. cond (t && (leb size (length bytes) && list_all is_printable (take size bytes))) (Some read) None) small
    ∙ (ap (λ t. cond (t && list_all is_printable (take size bytes)) (Some read) None) there
    ∙ (ap (λ t. cond t (Some read) None) good ∙ some_text cut front back))

text_front_reads : (text rest : List ℕ) (cut : Bool) → IsShortText text →
    text_front (text_head (length text) cut ∷ (text ++ rest)) ≡ Some (record { text = text; cut = cut; rest = rest })
text_front_reads text rest true h =
    let head = length text + 128 in
    let big : leb 128 head ≡ true = le-leb 128 head (omega arith) in
    ap (λ t. cond t (sized_text (head - 128) t (text ++ rest)) (sized_text head t (text ++ rest))) big
    ∙ sized_reads (head - 128) true text rest (omega arith) h
text_front_reads text rest false h =
    let head = length text + 0 in
    let small : leb 128 head ≡ false = le-ltb 127 head (omega (arith, h.short)) in
    ap (λ t. cond t (sized_text (head - 128) t (text ++ rest)) (sized_text head t (text ++ rest))) small
    ∙ sized_reads head false text rest (omega arith) h

text_printed : (ps : List Part) (bytes rest text : List ℕ) (cut : Bool) (more : List ℕ) →
    text_front bytes ≡ Some (record { text = text; cut = cut; rest = rest }) → printed ps rest ≡ Some more →
    printed (part.Text ∷ ps) bytes ≡ Some (shown_text text cut ++ more)
unfolding printed
text_printed ps bytes rest text cut more read behind =
    ap (λ o. option_and_then (λ (r : TextFront). option_map (λ t. shown_text r.text r.cut ++ t) (printed ps r.rest)) o) read
    ∙ ap (λ o. option_map (λ t. shown_text text cut ++ t) o) behind

-- what is spelled is printed
pub spelled_printed : (ps : List Part) (bytes : List ℕ) (args : List Argument) → Spells ps bytes args → printed ps bytes ≡ Some (text_of ps args)
unfolding printed
spelled_printed [] bytes args h = ap (λ l. printed [] l) h.0
spelled_printed (part.Byte b ∷ ps) bytes args h = ap (λ o. option_map (λ t. b ∷ t) o) (spelled_printed ps bytes args h)
spelled_printed (part.Number filled written ∷ ps) bytes [] h = absurd h
spelled_printed (part.Number filled written ∷ ps) bytes (argument.Number n ∷ args) h =
    number_printed filled written ps bytes h.0 n (text_of ps args)
    (ap varint_front h.1.whole ∙ varint_front_reads h.1.front (zigzag n) h.0 h.1.spelled)
    (spelled_printed ps h.0 args h.2)
spelled_printed (part.Number filled written ∷ ps) bytes (argument.Text text cut ∷ args) h = absurd h.1.spelled
spelled_printed (part.Text ∷ ps) bytes [] h = absurd h
spelled_printed (part.Text ∷ ps) bytes (argument.Number n ∷ args) h = absurd h.1.spelled
spelled_printed (part.Text ∷ ps) bytes (argument.Text text cut ∷ args) h =
    text_printed ps bytes h.0 text cut (text_of ps args)
    (ap text_front (h.1.whole ∙ ap (λ l. l ++ h.0) h.1.spelled.1) ∙ text_front_reads text h.0 cut h.1.spelled.0)
    (spelled_printed ps h.0 args h.2)

sized_spelled : (size : ℕ) (cut : Bool) (bytes : List ℕ) (r : TextFront) → sized_text size cut bytes ≡ Some r →
    IsShortText r.text × (length r.text ≡ size) × (r.cut ≡ cut) × (bytes ≡ r.text ++ r.rest)
sized_spelled size cut bytes r e =
    let read : TextFront = record { text = take size bytes; cut = cut; rest = drop size bytes } in
    let tests = cond_some (leb size 127 && (leb size (length bytes) && list_all is_printable (take size bytes))) read r e in
    let first = both_passed (leb size 127) (leb size (length bytes) && list_all is_printable (take size bytes)) tests.0 in
    let second = both_passed (leb size (length bytes)) (list_all is_printable (take size bytes)) first.1 in
    let long : length (take size bytes) ≡ size = length-take-le size bytes (leb-true size (length bytes) second.0) in
    let small = leb-true size 127 first.0 in
    let P : TextFront → Type 0 = λ x. IsShortText x.text × (length x.text ≡ size) × (x.cut ≡ cut) × (bytes ≡ x.text ++ x.rest) in
    subst P tests.1 (record { short = omega (arith, long, small); printable = all_printable (take size bytes) second.1 }, long, refl, sym (take-append-drop size bytes))

text_by : (t : Bool) (head : ℕ) (bytes : List ℕ) (r : TextFront) → leb 128 head ≡ t →
    cond t (sized_text (head - 128) t bytes) (sized_text head t bytes) ≡ Some r → StartsWith part.Text (head ∷ bytes) (Text r.text r.cut) r.rest
text_by true head bytes r test e =
    let s = sized_spelled (head - 128) true bytes r e in
    let big = leb-true 128 head test in
    let is : head ≡ text_head (length r.text) r.cut = (let n : head ≡ length r.text + 128 = omega (arith, big, s.1) in n ∙ ap (λ c. text_head (length r.text) c) (sym s.2)) in
    record { front = text_head (length r.text) r.cut ∷ r.text; spelled = (s.0, refl); whole = ap (λ h. h ∷ bytes) is ∙ ap (λ l. text_head (length r.text) r.cut ∷ l) s.3 }
text_by false head bytes r test e =
    let s = sized_spelled head false bytes r e in
    let is : head ≡ text_head (length r.text) r.cut = (let n : head ≡ length r.text + 0 = omega (arith, s.1) in n ∙ ap (λ c. text_head (length r.text) c) (sym s.2)) in
    record { front = text_head (length r.text) r.cut ∷ r.text; spelled = (s.0, refl); whole = ap (λ h. h ∷ bytes) is ∙ ap (λ l. text_head (length r.text) r.cut ∷ l) s.3 }

text_front_spelled : (bytes : List ℕ) (r : TextFront) → text_front bytes ≡ Some r → StartsWith part.Text bytes (Text r.text r.cut) r.rest
text_front_spelled [] r e = absurd (let f : ⊥ = cc in f)
text_front_spelled (head ∷ bytes) r e = text_by (leb 128 head) head bytes r refl e

-- some arguments are spelled, and this is their text
abbrev pub HasText : List Part → List ℕ → List ℕ → Type 0
HasText ps bytes text = (args : List Argument) × Spells ps bytes args × (text ≡ text_of ps args)

-- what is printed is spelled
pub printed_spelled : (ps : List Part) (bytes text : List ℕ) → printed ps bytes ≡ Some text → HasText ps bytes text
unfolding printed
printed_spelled [] [] text e = ([], (refl, refl), sym (same_Some [] text e))
printed_spelled [] (b ∷ bytes) text e = absurd (let f : ⊥ = cc in f)
printed_spelled (part.Byte b ∷ ps) bytes text e =
    option_map_some (λ t. b ∷ t) (printed ps bytes) text e (λ more is same.
    let r = printed_spelled ps bytes more is in (r.0, r.1, sym same ∙ ap (λ t. b ∷ t) r.2))
printed_spelled (part.Number filled written ∷ ps) bytes text e =
    option_and_then_some (λ (r : Number). option_map (λ t. number_text filled written (unfolded r.value) ++ t) (printed ps r.rest)) (varint_front bytes) text e (λ r read rest.
    option_map_some (λ t. number_text filled written (unfolded r.value) ++ t) (printed ps r.rest) text rest (λ more is same.
    let h = varint_front_spelled bytes r read in
    let q = printed_spelled ps r.rest more is in (
      argument.Number (unfolded r.value) ∷ q.0,
      (r.rest, record { front = h.text; spelled = subst (IsVarint h.text) (sym (unfold_back r.value)) h.spelled; whole = h.whole }, q.1),
      sym same ∙ ap (λ t. number_text filled written (unfolded r.value) ++ t) q.2,
    )))
printed_spelled (part.Text ∷ ps) bytes text e =
    option_and_then_some (λ (r : TextFront). option_map (λ t. shown_text r.text r.cut ++ t) (printed ps r.rest)) (text_front bytes) text e (λ r read rest.
    option_map_some (λ t. shown_text r.text r.cut ++ t) (printed ps r.rest) text rest (λ more is same.
    let q = printed_spelled ps r.rest more is in (
      argument.Text r.text r.cut ∷ q.0,
      (r.rest, text_front_spelled bytes r read, q.1),
      sym same ∙ ap (λ t. shown_text r.text r.cut ++ t) q.2,
    )))

-- a message has its text
pub text_of_message : (book : List Entry) (message : List ℕ) (format : Entry) (args : List Argument) → IsMessage book message format args →
    text_in book message ≡ Some (text_of format.parts args)
unfolding text_in
text_of_message book message format args h =
    let F : Entry → Option (List ℕ) = λ f. printed f.parts (drop 4 message) in
    ap (λ t. cond t (option_and_then F (format_of book (token_of message))) None) (le-leb 4 (length message) h.long)
    ∙ (ap (λ o. option_and_then F o) h.known ∙ spelled_printed format.parts (drop 4 message) args h.spelled)

-- what has a text is a message
pub message_of_text : (book : List Entry) (message text : List ℕ) → text_in book message ≡ Some text →
    (format : Entry) × (args : List Argument) × IsMessage book message format args × (text ≡ text_of format.parts args)
unfolding text_in
message_of_text book message text e =
    let F : Entry → Option (List ℕ) = λ f. printed f.parts (drop 4 message) in
    tested_some (leb 4 (length message)) (option_and_then F (format_of book (token_of message))) text e (λ long some.
    option_and_then_some F (format_of book (token_of message)) text some (λ format known fits.
    let h = printed_spelled format.parts (drop 4 message) text fits in
    (format, h.0, record { long = leb-true 4 (length message) long; known = known; spelled = h.1 }, h.2)))
