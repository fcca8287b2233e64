-- The text of octets of which none, or the last alone, is escaped.
use Rattle.std.proofs.Common.{◌≡◌, ◌≢◌, ℕ, ◌+◌, ◌<◌, List, [], ◌∷◌, ◌++◌, length, take, drop, get_or, refl, sym, ap, ◌∙◌, append_assoc}
use Rattle.std.proofs.lemmas.List.{append-nil, take_more}
use Rattle.std.proofs.lemmas.List.Concat.{flat_map-cons}
use Rattle.std.proofs.Math.Seq.{take-add}
use Rattle.std.specs.List.{flat_map}
use Rattle.hdlc_frame.specs.declared.octets.TheConstants.{ESCAPE, FLAG}
use Rattle.hdlc_frame.specs.Encoded.{text_of, text_of_octet}
use Rattle.hdlc_frame.specs.Steps.{IsOrdinary}
use Rattle.hdlc_frame.proofs.Contents.{neq-eqb}
use Rattle.hdlc_frame.proofs.Headers.{text_of-append}
use Rattle.hdlc_frame.proofs.Texts.{first, others}

itself : (x : ℕ) → x ≢ FLAG → x ≢ ESCAPE → text_of_octet x ≡ x ∷ []
itself x no_flag no_escape = rw (neq-eqb x FLAG no_flag) (rw (neq-eqb x ESCAPE no_escape) refl)

-- ordinary octets stand for themselves
text_ordinary : (run : List ℕ) → IsOrdinary run → text_of run ≡ run
unfolding text_of
text_ordinary [] h = refl
text_ordinary (x ∷ xs) h =
    flat_map-cons text_of_octet x xs ∙ ap (λ t. t ++ flat_map text_of_octet xs) (itself x ((first x xs h).0) ((first x xs h).1)) ∙ ap (λ t. x ∷ t) (text_ordinary xs (others x xs h))

text_one : (x : ℕ) → text_of (x ∷ []) ≡ text_of_octet x
unfolding text_of
text_one x = flat_map-cons text_of_octet x [] ∙ append-nil (text_of_octet x)

-- a run of ordinary octets was written
pub run_text : (old new content : List ℕ) (run : ℕ) → new ≡ old ++ take run content → IsOrdinary (take run content) → new ≡ old ++ text_of (take run content)
run_text old new content run written ordinary = written ∙ ap (λ t. old ++ t) (sym (text_ordinary (take run content) ordinary))

-- and the text of the octet behind it
pub one_more : (old mid new content : List ℕ) (run octet : ℕ) → mid ≡ old ++ take run content → IsOrdinary (take run content)
    → run < length content → octet ≡ get_or content run 0 → new ≡ mid ++ text_of_octet octet → new ≡ old ++ text_of (take (run + 1) content)
one_more old mid new content run octet written ordinary below is more =
    let more_is : text_of (take (run + 1) content) ≡ text_of (take run content) ++ text_of (get_or content run 0 ∷ []) =
    ap text_of (take_more content run 0 below) ∙ text_of-append (take run content) (get_or content run 0 ∷ []) in
    let front : new ≡ (old ++ text_of (take run content)) ++ text_of_octet octet =
    more ∙ ap (λ m. m ++ text_of_octet octet) (run_text old mid content run written ordinary) in
    let last : text_of_octet octet ≡ text_of (get_or content run 0 ∷ []) = ap text_of_octet is ∙ sym (text_one (get_or content run 0)) in
    front ∙ ap (λ t. (old ++ text_of (take run content)) ++ t) last ∙ append_assoc old (text_of (take run content)) (text_of (get_or content run 0 ∷ []))
    ∙ ap (λ t. old ++ t) (sym more_is)

-- the text of some octets more
pub text_more : (old mid new content : List ℕ) (done n : ℕ) → mid ≡ old ++ text_of (take done content) → new ≡ mid ++ text_of (take n (drop done content))
    → new ≡ old ++ text_of (take (done + n) content)
text_more old mid new content done n before more =
    let whole : text_of (take (done + n) content) ≡ text_of (take done content) ++ text_of (take n (drop done content)) =
    ap text_of (take-add done n content) ∙ text_of-append (take done content) (take n (drop done content)) in
    more ∙ ap (λ m. m ++ text_of (take n (drop done content))) before ∙ append_assoc old (text_of (take done content)) (text_of (take n (drop done content)))
    ∙ ap (λ t. old ++ t) (sym whole)
