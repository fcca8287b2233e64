-- How a stream's segments grow with it.
use Rattle.std.proofs.Common.{◌≡◌, ℕ, Bool, true, false, List, [], ◌∷◌, ◌++◌, drop, map, Option, Some, None, refl, sym, ap, ◌∙◌, append_assoc, subst}
use mathlib.Core.List.{IsPrefix}
use Rattle.std.specs.List.{All, filter, slice_split, onto_first}
use Rattle.std.specs.Option.{option_map}
use Rattle.std.proofs.lemmas.Bool.{eqb-true}
use Rattle.std.proofs.lemmas.List.{append-nil, map-append}
use Rattle.std.proofs.lemmas.List.Elements.{All-cons, All-nil, filter-append}
use Rattle.std.proofs.lemmas.List.Splits.{slice_split-cons_yes, slice_split-cons_no, slice_split_none}
use Rattle.hdlc_frame.specs.declared.octets.TheConstants.{FLAG}
use Rattle.hdlc_frame.specs.Found.{Found, found, found_in}
use Rattle.hdlc_frame.specs.Laws.{SegmentsGrow, ended}
use Rattle.hdlc_frame.specs.Segments.{but_last, has_octets, is_flag, last_of, open_text, segments, texts_behind_flags}

abbrev pub NoFlag : List ℕ → Type 0
NoFlag octets = All (λ octet. is_flag octet ≡ false) octets

-- a stream parted at its flags: the texts but for the last one, and the last one
pub record Parts (stream : List ℕ) : Type 0 where
  pub front : List (List ℕ)
  pub last : List ℕ
  pub is : slice_split is_flag stream ≡ front ++ last ∷ []
  pub text : (more : List ℕ) → NoFlag more → slice_split is_flag (stream ++ more) ≡ front ++ (last ++ more) ∷ []
  pub closing : slice_split is_flag (stream ++ FLAG ∷ []) ≡ front ++ last ∷ [] ∷ []

onto : (x : ℕ) (front : List (List ℕ)) (last : List ℕ) → (front2 : List (List ℕ)) × (last2 : List ℕ) × ((more : List ℕ) (rest : List (List ℕ)) → onto_first x (front ++ (last ++ more) ∷ rest) ≡ front2 ++ (last2 ++ more) ∷ rest)
onto x [] last = ([], x ∷ last, λ more rest. refl)
onto x (first ∷ front) last = ((x ∷ first) ∷ front, last, λ more rest. refl)

nothing_more : (front : List (List ℕ)) (last : List ℕ) (rest : List (List ℕ)) → front ++ last ∷ rest ≡ front ++ (last ++ []) ∷ rest
nothing_more front last rest = ap (λ l. front ++ l ∷ rest) (sym (append-nil last))

parts_flag : (x : ℕ) (xs : List ℕ) → Parts xs → is_flag x ≡ true → Parts (x ∷ xs)
parts_flag x xs p flag = record {
  front = [] ∷ p.front;
  last = p.last;
  is = slice_split-cons_yes is_flag x xs flag ∙ ap (λ l. [] ∷ l) p.is;
  text = λ more none. slice_split-cons_yes is_flag x (xs ++ more) flag ∙ ap (λ l. [] ∷ l) (p.text more none);
  closing = slice_split-cons_yes is_flag x (xs ++ FLAG ∷ []) flag ∙ ap (λ l. [] ∷ l) p.closing;
}

parts_other : (x : ℕ) (xs : List ℕ) → Parts xs → is_flag x ≡ false → Parts (x ∷ xs)
parts_other x xs p other = let o = onto x p.front p.last in record {
  front = o.0;
  last = o.1;
  is =
      slice_split-cons_no is_flag x xs other ∙ ap (onto_first x) (p.is ∙ nothing_more p.front p.last []) ∙ o.2 [] [] ∙
      sym (nothing_more o.0 o.1 []);
  text = λ more none. slice_split-cons_no is_flag x (xs ++ more) other ∙ ap (onto_first x) (p.text more none) ∙ o.2 more [];
  closing =
      slice_split-cons_no is_flag x (xs ++ FLAG ∷ []) other ∙ ap (onto_first x) (p.closing ∙ nothing_more p.front p.last ([] ∷ [])) ∙
      o.2 [] ([] ∷ []) ∙ sym (nothing_more o.0 o.1 ([] ∷ []));
}

parts_more : (x : ℕ) (xs : List ℕ) (b : Bool) → Parts xs → is_flag x ≡ b → Parts (x ∷ xs)
parts_more x xs true p e = parts_flag x xs p e
parts_more x xs false p e = parts_other x xs p e

pub parts : (stream : List ℕ) → Parts stream
parts [] = record {
  front = [];
  last = [];
  is = refl;
  text = λ more none. slice_split_none is_flag more none;
  closing = refl;
}
parts (x ∷ xs) = parts_more x xs (is_flag x) (parts xs) refl

but_last_push : (xs : List (List ℕ)) (x : List ℕ) → but_last (xs ++ x ∷ []) ≡ xs
but_last_push [] x = refl
but_last_push (y ∷ []) x = refl
but_last_push (y ∷ z ∷ zs) x = ap (λ l. y ∷ l) (but_last_push (z ∷ zs) x)

last_of_push : (xs : List (List ℕ)) (x : List ℕ) → last_of (xs ++ x ∷ []) ≡ Some x
last_of_push [] x = refl
last_of_push (y ∷ []) x = refl
last_of_push (y ∷ z ∷ zs) x = last_of_push (z ∷ zs) x

-- what holds of a stream parted so
abbrev segments_from : List (List ℕ) → List (List ℕ)
segments_from parted = filter has_octets (but_last (drop 1 parted))

abbrev open_from : List (List ℕ) → Option (List ℕ)
open_from parted = last_of (drop 1 parted)

segments_are : (stream : List ℕ) (parted : List (List ℕ)) → slice_split is_flag stream ≡ parted → segments stream ≡ segments_from parted
unfolding segments texts_behind_flags
segments_are stream parted e = ap segments_from e

open_is : (stream : List ℕ) (parted : List (List ℕ)) → slice_split is_flag stream ≡ parted → open_text stream ≡ open_from parted
unfolding open_text texts_behind_flags
open_is stream parted e = ap open_from e

same_segments : (front : List (List ℕ)) (x y : List ℕ) → segments_from (front ++ x ∷ []) ≡ segments_from (front ++ y ∷ [])
same_segments [] x y = refl
same_segments (f ∷ front) x y = ap (filter has_octets) (but_last_push front x ∙ sym (but_last_push front y))

longer_open : (front : List (List ℕ)) (x more : List ℕ) → open_from (front ++ (x ++ more) ∷ []) ≡ option_map (λ text. text ++ more) (open_from (front ++ x ∷ []))
longer_open [] x more = refl
longer_open (f ∷ front) x more = last_of_push front (x ++ more) ∙ ap (option_map (λ text. text ++ more)) (sym (last_of_push front x))

kept_is : (x : List ℕ) → filter has_octets (x ∷ []) ≡ ended (Some x)
kept_is [] = refl
kept_is (octet ∷ text) = refl

closed_segments : (front : List (List ℕ)) (x : List ℕ) → segments_from (front ++ x ∷ [] ∷ []) ≡ segments_from (front ++ x ∷ []) ++ ended (open_from (front ++ x ∷ []))
closed_segments [] x = refl
closed_segments (f ∷ front) x =
    ap (filter has_octets) (ap but_last (sym (append_assoc front (x ∷ []) ([] ∷ []))) ∙ but_last_push (front ++ x ∷ []) []) ∙
    filter-append has_octets front (x ∷ []) ∙
    ap (λ l. l ++ filter has_octets (x ∷ [])) (ap (filter has_octets) (sym (but_last_push front x))) ∙
    ap (λ l. filter has_octets (but_last (front ++ x ∷ [])) ++ l) (kept_is x ∙ ap ended (sym (last_of_push front x)))

closed_open : (front : List (List ℕ)) (x : List ℕ) → open_from (front ++ x ∷ [] ∷ []) ≡ Some []
closed_open [] x = refl
closed_open (f ∷ front) x = ap last_of (sym (append_assoc front (x ∷ []) ([] ∷ []))) ∙ last_of_push (front ++ x ∷ []) []

-- A text without a flag ends no segment.
pub segments_text : (stream more : List ℕ) → NoFlag more → segments (stream ++ more) ≡ segments stream
segments_text stream more none = let p = parts stream in
    segments_are (stream ++ more) (p.front ++ (p.last ++ more) ∷ []) (p.text more none) ∙ same_segments p.front (p.last ++ more) p.last ∙
    sym (segments_are stream (p.front ++ p.last ∷ []) p.is)

pub open_text_text : (stream more : List ℕ) → NoFlag more → open_text (stream ++ more) ≡ option_map (λ text. text ++ more) (open_text stream)
open_text_text stream more none = let p = parts stream in
    open_is (stream ++ more) (p.front ++ (p.last ++ more) ∷ []) (p.text more none) ∙ longer_open p.front p.last more ∙
    ap (option_map (λ text. text ++ more)) (sym (open_is stream (p.front ++ p.last ∷ []) p.is))

-- A flag ends the segment that was open, and opens one.
pub segments_flag : (stream : List ℕ) → segments (stream ++ FLAG ∷ []) ≡ segments stream ++ ended (open_text stream)
segments_flag stream = let p = parts stream in
    segments_are (stream ++ FLAG ∷ []) (p.front ++ p.last ∷ [] ∷ []) p.closing ∙ closed_segments p.front p.last ∙
    ap (λ l. l ++ ended (open_from (p.front ++ p.last ∷ []))) (sym (segments_are stream (p.front ++ p.last ∷ []) p.is)) ∙
    ap (λ o. segments stream ++ ended o) (sym (open_is stream (p.front ++ p.last ∷ []) p.is))

pub open_text_flag : (stream : List ℕ) → open_text (stream ++ FLAG ∷ []) ≡ Some []
open_text_flag stream = let p = parts stream in
    open_is (stream ++ FLAG ∷ []) (p.front ++ p.last ∷ [] ∷ []) p.closing ∙ closed_open p.front p.last

pub segments_none : segments [] ≡ []
unfolding segments texts_behind_flags
segments_none = refl

pub open_text_none : open_text [] ≡ None
unfolding open_text texts_behind_flags
open_text_none = refl

pub found_text : (limit : ℕ) (stream more : List ℕ) → NoFlag more → found limit (stream ++ more) ≡ found limit stream
unfolding found
found_text limit stream more none = ap (map (found_in limit)) (segments_text stream more none)

pub found_flag : (limit : ℕ) (stream : List ℕ) → found limit (stream ++ FLAG ∷ []) ≡ found limit stream ++ map (found_in limit) (ended (open_text stream))
unfolding found
found_flag limit stream = ap (map (found_in limit)) (segments_flag stream) ∙ map-append (found_in limit) (segments stream) (ended (open_text stream))

pub found_none : (limit : ℕ) → found limit [] ≡ []
unfolding found
found_none limit = ap (map (found_in limit)) segments_none

one_octet : (limit : ℕ) (stream : List ℕ) (octet : ℕ) → IsPrefix (found limit stream) (found limit (stream ++ octet ∷ []))
one_octet limit stream octet = at (is_flag octet) refl
  where
    at : (b : Bool) → is_flag octet ≡ b → IsPrefix (found limit stream) (found limit (stream ++ octet ∷ []))
    at true flag =
        subst (λ x. IsPrefix (found limit stream) (found limit (stream ++ x ∷ []))) (sym (eqb-true octet FLAG flag))
        (map (found_in limit) (ended (open_text stream)), sym (found_flag limit stream))
    at false other =
        let none : NoFlag (octet ∷ []) = All-cons (λ x. is_flag x ≡ false) octet [] other (All-nil (λ x. is_flag x ≡ false)) in
        ([], append-nil (found limit stream) ∙ sym (found_text limit stream (octet ∷ []) none))

prefix_then : (a b c : List Found) → IsPrefix a b → IsPrefix b c → IsPrefix a c
prefix_then a b c p q = (p.0 ++ q.0, sym (append_assoc a p.0 q.0) ∙ ap (λ xs. xs ++ q.0) p.1 ∙ q.1)

-- In more of a stream the same is found first.
pub found_begins : (limit : ℕ) (stream more : List ℕ) → IsPrefix (found limit stream) (found limit (stream ++ more))
found_begins limit stream [] = ([], append-nil (found limit stream) ∙ ap (found limit) (sym (append-nil stream)))
found_begins limit stream (octet ∷ more) =
    prefix_then (found limit stream) (found limit (stream ++ octet ∷ [])) (found limit (stream ++ octet ∷ more)) (one_octet limit stream octet)
    (subst (λ s. IsPrefix (found limit (stream ++ octet ∷ [])) (found limit s)) (append_assoc stream (octet ∷ []) more)
    (found_begins limit (stream ++ octet ∷ []) more))

pub segments_grow_is : (stream : List ℕ) → SegmentsGrow stream
segments_grow_is stream = record {
  text = segments_text stream;
  open_text_grows = open_text_text stream;
  flag = segments_flag stream;
  flag_opens = open_text_flag stream;
}
