-- What was written, one text behind the other.
use Rattle.std.proofs.Common.{◌≡◌, ℕ, suc, ◌<◌, ◌/◌, ◌%◌, get_or, ◌+◌, ◌≤◌, List, [], ◌∷◌, ◌++◌, length, take, drop, ◌-◌, Option, refl, sym, ap, ◌∙◌, subst, arith, append_assoc, length-append, take-append-drop}
use Rattle.std.specs.Io.KnownBytes.{Appends}
use Rattle.std.proofs.KnownBytes.{Appends-trans}
use Rattle.std.proofs.lemmas.List.{take-append-le, take_all}
use Rattle.std.proofs.Math.Seq.{drop-cons, take-add}
use Rattle.std.specs.Prelude.{slice_index}
use Rattle.std.specs.List.{flat_map}
use Rattle.std.proofs.lemmas.Grind.{flat_map-append}
use Rattle.std.proofs.lemmas.List.{map-append}
use Rattle.hex.specs.Hex.{encode_lower, encode_with, lower_digits}
use Rattle.link_io.specs.Device.{AppendsSome}
use Rattle.stream_dump.specs.declared.words.Word.{Word}
use Rattle.stream_dump.specs.Lines.{behind_blank, line_behind}
use Rattle.stream_dump.specs.Words.{texts, word_text}

one_later : (a n : ℕ) → suc a + n ≡ suc (a + n)
one_later a n = omega arith

take_behind : (xs ys : List ℕ) (n : ℕ) → take (length xs + n) (xs ++ ys) ≡ xs ++ take n ys
take_behind [] ys n = ap (λ k. take k ys) (omega arith)
take_behind (x ∷ xs) ys n = ap (λ k. take k (x ∷ (xs ++ ys))) (one_later (length xs) n) ∙ ap (λ l. x ∷ l) (take_behind xs ys n)

-- a text behind one that was written whole
pub some_then : (a b c : Option (List ℕ)) (xs ys : List ℕ) → Appends a b xs → AppendsSome b c ys → AppendsSome a c (xs ++ ys)
some_then a b c xs ys all (n, few, part) =
    (length xs + n, omega (arith, length-append xs ys), subst (Appends a c) (sym (take_behind xs ys n)) (Appends-trans a b c xs (take n ys) all part))

-- a text with more behind it
pub some_first : (a b : Option (List ℕ)) (xs ys : List ℕ) → AppendsSome a b xs → AppendsSome a b (xs ++ ys)
some_first a b xs ys (n, few, part) = (n, omega (arith, length-append xs ys), subst (Appends a b) (sym (take-append-le n xs ys few)) part)

pub some_all : (a b : Option (List ℕ)) (xs : List ℕ) → Appends a b xs → AppendsSome a b xs
some_all a b xs all = (length xs, omega arith, subst (Appends a b) (sym (take_all (length xs) xs (omega arith))) all)

-- digits of bytes, one behind the other
pub encode-append : (xs ys : List ℕ) → encode_lower (xs ++ ys) ≡ encode_lower xs ++ encode_lower ys
unfolding encode_with
encode-append [] ys = refl
encode-append (x ∷ xs) ys = ap (λ rest. slice_index lower_digits (x / 16) ∷ slice_index lower_digits (x % 16) ∷ rest) (encode-append xs ys)

pub encode_none : (bytes : List ℕ) → encode_lower (take 0 bytes) ≡ []
unfolding encode_with
encode_none [] = refl
encode_none (x ∷ xs) = refl

-- so many digits, and those of the next bytes
digits_on : (bytes : List ℕ) (done count : ℕ)
    → encode_lower (take (done + count) bytes) ≡ encode_lower (take done bytes) ++ encode_lower (take (done + count - done) (drop done bytes))
digits_on bytes done count =
    ap encode_lower (take-add done count bytes) ∙ encode-append (take done bytes) (take count (drop done bytes)) ∙
    ap (λ n. encode_lower (take done bytes) ++ encode_lower (take n (drop done bytes))) (omega arith)

pub digits_more : (a b c : Option (List ℕ)) (bytes : List ℕ) (done count : ℕ) → Appends a b (encode_lower (take done bytes))
    → Appends b c (encode_lower (take (done + count - done) (drop done bytes))) → Appends a c (encode_lower (take (done + count) bytes))
digits_more a b c bytes done count old more =
    subst (Appends a c) (sym (digits_on bytes done count))
    (Appends-trans a b c (encode_lower (take done bytes)) (encode_lower (take (done + count - done) (drop done bytes))) old more)

pub digits_some : (a b c : Option (List ℕ)) (bytes : List ℕ) (done count : ℕ) → Appends a b (encode_lower (take done bytes))
    → AppendsSome b c (encode_lower (take (done + count - done) (drop done bytes))) → AppendsSome a c (encode_lower bytes)
digits_some a b c bytes done count old more =
    let read = take (done + count) bytes in
    let rest = drop (done + count) bytes in
    let some : AppendsSome a c (encode_lower read) =
    subst (AppendsSome a c) (sym (digits_on bytes done count))
    (some_then a b c (encode_lower (take done bytes)) (encode_lower (take (done + count - done) (drop done bytes))) old more) in
    subst (AppendsSome a c) (sym (encode-append read rest) ∙ ap encode_lower (take-append-drop (done + count) bytes))
    (some_first a c (encode_lower read) (encode_lower rest) some)

-- words behind blanks
abbrev behind_blanks : List Word → List ℕ
behind_blanks words = flat_map behind_blank (texts words)

blanks-append : (xs ys : List Word) → behind_blanks (xs ++ ys) ≡ behind_blanks xs ++ behind_blanks ys
blanks-append xs ys = ap (flat_map behind_blank) (map-append word_text xs ys) ∙ flat_map-append behind_blank (texts xs) (texts ys)

-- a line that was written up to a word, and a beginning of that
pub rest_some : (a b c : Option (List ℕ)) (words : List Word) (i : ℕ) (d : Word) → i < length words
    → Appends a b (flat_map behind_blank (texts (take i words))) → AppendsSome b c (behind_blank (word_text (get_or words i d)))
    → AppendsSome a c (line_behind (texts words))
rest_some a b c words i d below old part =
    let front = take i words in
    let word = get_or words i d in
    let rest = drop (suc i) words in
    let whole : front ++ word ∷ rest ≡ words = ap (λ l. front ++ l) (sym (drop-cons words i d below)) ∙ take-append-drop i words in
    let parts : behind_blanks front ++ (behind_blank (word_text word) ++ (behind_blanks rest ++ 10 ∷ [])) ≡ line_behind (texts words) =
    ap (λ l. behind_blanks front ++ l) (sym (append_assoc (behind_blank (word_text word)) (behind_blanks rest) (10 ∷ []))) ∙
    sym (append_assoc (behind_blanks front) (behind_blanks (word ∷ rest)) (10 ∷ [])) ∙
    ap (λ l. l ++ 10 ∷ []) (sym (blanks-append front (word ∷ rest)) ∙ ap behind_blanks whole) in
    subst (AppendsSome a c) parts
    (some_then a b c (behind_blanks front) (behind_blank (word_text word) ++ (behind_blanks rest ++ 10 ∷ [])) old
    (some_first b c (behind_blank (word_text word)) (behind_blanks rest ++ 10 ∷ []) part))

-- all its words, and a beginning of its end
pub newline_some : (a b c : Option (List ℕ)) (words : List Word) (i : ℕ) → length words ≤ i
    → Appends a b (flat_map behind_blank (texts (take i words))) → AppendsSome b c (10 ∷ []) → AppendsSome a c (line_behind (texts words))
newline_some a b c words i all old part =
    subst (λ ws. AppendsSome a c (line_behind (texts ws))) (take_all i words all) (some_then a b c (behind_blanks (take i words)) (10 ∷ []) old part)
