-- What a decoder keeps of an open text, octets and escapes added.
use Rattle.std.proofs.Common.{◌≡◌, ◌≢◌, ℕ, ◌+◌, ◌||◌, zero, suc, ltb, true, false, List, [], ◌∷◌, ◌++◌, length, get_or, take, Option, Some, None, refl, sym, ap, ◌∙◌, append_assoc, inl, inr, bit_xor, arith}
use Rattle.std.specs.Option.{option_map}
use Rattle.std.proofs.lemmas.Bool.{cases_lt, lt-ltb, le-ltb}
use Rattle.std.proofs.lemmas.List.{length-append, length-take-le, take-append-le, take_all}
use Rattle.hdlc_frame.specs.declared.phase.Phase.TheVariants.{Plain, Escaped, Broken}
use Rattle.hdlc_frame.specs.declared.octets.TheConstants.{ESCAPE, ESCAPE_BIT, FLAG}
use Rattle.hdlc_frame.specs.Content.{unescaped}
use Rattle.hdlc_frame.specs.Found.{found}
use Rattle.hdlc_frame.specs.Machine.{HasReadText, Reading, content_behind}
use Rattle.hdlc_frame.specs.Segments.{has_octets, open_text}
use Rattle.hdlc_frame.specs.Steps.{IsOrdinary, begun, keeping}
use Rattle.hdlc_frame.proofs.Contents.{neq-eqb, walk_escape, walk_escaped, walk_itself, walk_twice}
use Rattle.hdlc_frame.proofs.Parting.{NoFlag, open_text_text}

pub no_flag : (octets : List ℕ) → IsOrdinary octets → NoFlag octets
no_flag octets h = λ k d below. neq-eqb (get_or octets k d) FLAG ((h k d below).0)

pub first : (x : ℕ) (xs : List ℕ) → IsOrdinary (x ∷ xs) → (x ≢ FLAG) × (x ≢ ESCAPE)
first x xs h = h zero 0 (omega arith)

pub others : (x : ℕ) (xs : List ℕ) → IsOrdinary (x ∷ xs) → IsOrdinary xs
others x xs h = λ k d below. h (suc k) d (omega arith)

pub one_escape : NoFlag (ESCAPE ∷ [])
one_escape zero d below = refl
one_escape (suc k) d below = absurd (omega arith)

abbrev pub onto_content : List ℕ → Option (List ℕ) → Option (List ℕ)
onto_content front found = option_map (λ content. front ++ content) found

pub onto_nothing : (found : Option (List ℕ)) → found ≡ onto_content [] found
onto_nothing None = refl
onto_nothing (Some content) = refl

pub onto_twice : (xs ys : List ℕ) (found : Option (List ℕ)) → onto_content xs (onto_content ys found) ≡ onto_content (xs ++ ys) found
onto_twice xs ys None = refl
onto_twice xs ys (Some content) = ap Some (sym (append_assoc xs ys content))

onto_one : (x : ℕ) (xs : List ℕ) (found : Option (List ℕ)) → option_map (λ content. x ∷ content) (onto_content xs found) ≡ onto_content (x ∷ xs) found
onto_one x xs None = refl
onto_one x xs (Some content) = refl

-- ordinary octets stand for themselves
pub run_told : (run rest : List ℕ) → IsOrdinary run → unescaped false (run ++ rest) ≡ onto_content run (unescaped false rest)
run_told [] rest h = onto_nothing (unescaped false rest)
run_told (x ∷ xs) rest h =
    walk_itself x (xs ++ rest) ((first x xs h).0) ((first x xs h).1) ∙ ap (option_map (λ content. x ∷ content)) (run_told xs rest (others x xs h)) ∙ onto_one x xs (unescaped false rest)

pub behind_plain : (rest : List ℕ) → content_behind Plain rest ≡ unescaped false rest
unfolding content_behind
behind_plain rest = refl

pub behind_escaped : (rest : List ℕ) → content_behind Escaped rest ≡ unescaped true rest
unfolding content_behind
behind_escaped rest = refl

pub behind_broken : (rest : List ℕ) → content_behind Broken rest ≡ None
unfolding content_behind
behind_broken rest = refl

take_twice : (n : ℕ) (xs ys : List ℕ) → take n (take n xs ++ ys) ≡ take n (xs ++ ys)
take_twice n xs ys = elim (cases_lt (length xs) n) [
  | inl w ↦ ap (λ l. take n (l ++ ys)) (take_all n xs (omega arith))
  | inr w ↦
      let short : length (take n xs) ≡ n = length-take-le n xs w in
      take-append-le n (take n xs) ys (omega arith) ∙ take_all n (take n xs) (omega arith) ∙ sym (take-append-le n xs ys w)
]

longer : (n : ℕ) (xs ys : List ℕ) → (ltb n (length xs) || ltb n (length (take n xs) + length ys)) ≡ ltb n (length (xs ++ ys))
longer n xs ys = elim (cases_lt n (length xs)) [
  | inl w ↦ rw (lt-ltb n (length xs) w) (sym (lt-ltb n (length (xs ++ ys)) (omega (arith, length-append xs ys))))
  | inr w ↦
      rw (le-ltb n (length xs) w)
      (ap (λ l. ltb n (length l + length ys)) (take_all n xs w) ∙ ap (ltb n) (sym (length-append xs ys)))
]

-- what is kept of more content
keeps :
    (r : Reading) (whole more : List ℕ) → r.content ≡ take r.limit whole → r.is_long ≡ ltb r.limit (length whole) →
    ((keeping r more).content ≡ take r.limit (whole ++ more)) × ((keeping r more).is_long ≡ ltb r.limit (length (whole ++ more)))
keeps r whole more ec el = (
  ap (λ l. take r.limit (l ++ more)) ec ∙ take_twice r.limit whole more,
  ap (λ l. r.is_long || ltb r.limit (length l + length more)) ec ∙ ap (λ b. b || ltb r.limit (length (take r.limit whole) + length more)) el ∙
      longer r.limit whole more,
)

pub read_begun : (r : Reading) → HasReadText (begun r) []
read_begun r = record {
  whole = [];
  told = λ rest. onto_nothing (unescaped false rest) ∙ ap (onto_content []) (sym (behind_plain rest));
  content = sym (take_all r.limit [] (omega arith));
  long = sym (le-ltb r.limit 0 (omega arith));
}

pub read_kept : (r : Reading) (text run : List ℕ) → r.phase ≡ Plain → IsOrdinary run → HasReadText r text → HasReadText (keeping r run) (text ++ run)
read_kept r text run plain ordinary t = let k = keeps r t.whole run t.content t.long in record {
  whole = t.whole ++ run;
  told = λ rest.
      ap (unescaped false) (append_assoc text run rest) ∙ t.told (run ++ rest) ∙
      ap (onto_content t.whole) (ap (λ p. content_behind p (run ++ rest)) plain ∙ behind_plain (run ++ rest) ∙ run_told run rest ordinary) ∙
      onto_twice t.whole run (unescaped false rest) ∙
      ap (onto_content (t.whole ++ run)) (sym (ap (λ p. content_behind p rest) plain ∙ behind_plain rest));
  content = k.0;
  long = k.1;
}

pub read_turned :
    (r : Reading) (text : List ℕ) (x : ℕ) → r.phase ≡ Escaped → x ≢ FLAG → x ≢ ESCAPE → HasReadText r text →
    HasReadText (record (keeping r (bit_xor x ESCAPE_BIT ∷ [])) { phase = Plain }) (text ++ x ∷ [])
read_turned r text x escaped f e t = let meant = bit_xor x ESCAPE_BIT in let k = keeps r t.whole (meant ∷ []) t.content t.long in record {
  whole = t.whole ++ meant ∷ [];
  told = λ rest.
      ap (unescaped false) (append_assoc text (x ∷ []) rest) ∙ t.told (x ∷ rest) ∙
      ap (onto_content t.whole) (ap (λ p. content_behind p (x ∷ rest)) escaped ∙ behind_escaped (x ∷ rest) ∙ walk_escaped x rest f e) ∙
      onto_twice t.whole (meant ∷ []) (unescaped false rest) ∙
      ap (onto_content (t.whole ++ meant ∷ [])) (sym (behind_plain rest));
  content = k.0;
  long = k.1;
}

pub read_escaping : (r : Reading) (text : List ℕ) → r.phase ≡ Plain → HasReadText r text → HasReadText (record r { phase = Escaped }) (text ++ ESCAPE ∷ [])
read_escaping r text plain t = record {
  whole = t.whole;
  told = λ rest.
      ap (unescaped false) (append_assoc text (ESCAPE ∷ []) rest) ∙ t.told (ESCAPE ∷ rest) ∙
      ap (onto_content t.whole)
      (ap (λ p. content_behind p (ESCAPE ∷ rest)) plain ∙ behind_plain (ESCAPE ∷ rest) ∙ walk_escape ESCAPE rest refl ∙ sym (behind_escaped rest));
  content = t.content;
  long = t.long;
}

pub read_breaking : (r : Reading) (text : List ℕ) → r.phase ≡ Escaped → HasReadText r text → HasReadText (record r { phase = Broken }) (text ++ ESCAPE ∷ [])
read_breaking r text escaped t = record {
  whole = t.whole;
  told = λ rest.
      ap (unescaped false) (append_assoc text (ESCAPE ∷ []) rest) ∙ t.told (ESCAPE ∷ rest) ∙
      ap (onto_content t.whole)
      (ap (λ p. content_behind p (ESCAPE ∷ rest)) escaped ∙ behind_escaped (ESCAPE ∷ rest) ∙ walk_twice ESCAPE rest refl ∙ sym (behind_broken rest));
  content = t.content;
  long = t.long;
}

pub read_broken : (r : Reading) (text more : List ℕ) → r.phase ≡ Broken → HasReadText r text → HasReadText r (text ++ more)
read_broken r text more broken t = record {
  whole = t.whole;
  told = λ rest.
      ap (unescaped false) (append_assoc text more rest) ∙ t.told (more ++ rest) ∙
      ap (onto_content t.whole)
      (ap (λ p. content_behind p (more ++ rest)) broken ∙ behind_broken (more ++ rest) ∙ sym (ap (λ p. content_behind p rest) broken ∙ behind_broken rest));
  content = t.content;
  long = t.long;
}

pub has_more : (text more : List ℕ) → has_octets text ≡ true → has_octets (text ++ more) ≡ true
has_more [] more h = absurd (cc)
has_more (x ∷ xs) more h = refl

-- the open text, longer
pub grown : (stream text more : List ℕ) → NoFlag more → open_text stream ≡ Some text → open_text (stream ++ more) ≡ Some (text ++ more)
grown stream text more none e = open_text_text stream more none ∙ ap (option_map (λ l. l ++ more)) e

pub still_outside : (stream more : List ℕ) → NoFlag more → open_text stream ≡ None → open_text (stream ++ more) ≡ None
still_outside stream more none e = open_text_text stream more none ∙ ap (option_map (λ l. l ++ more)) e
