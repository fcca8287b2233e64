-- How the texts between flags grow with a stream.
use Rattle.std.proofs.Common.{◌≡◌, ℕ, cond, List, [], ◌∷◌, ◌++◌, drop, Some, None, refl, sym, ap, ◌∙◌, append_assoc}
use Rattle.std.specs.Prelude.{unwrap_or}
use Rattle.std.specs.List.{slice_split}
use Rattle.hdlc_frame.specs.declared.octets.TheConstants.{FLAG}
use Rattle.hdlc_frame.specs.Segments.{but_last, is_flag, last_of, open_text, texts_behind_flags}
use Rattle.hdlc_frame.proofs.Parting.{NoFlag, Parts, parts}
use Rattle.stream_dump.specs.Progress.{front_of, is_some_text, last_text}

but_last_push : (xs : List (List ℕ)) (x : List ℕ) → but_last (xs ++ x ∷ []) ≡ xs
but_last_push [] x = refl
but_last_push (y ∷ []) x = refl
but_last_push (y ∷ z ∷ zs) x = ap (λ l. y ∷ l) (but_last_push (z ∷ zs) x)

last_of_push : (xs : List (List ℕ)) (x : List ℕ) → last_of (xs ++ x ∷ []) ≡ Some x
last_of_push [] x = refl
last_of_push (y ∷ []) x = refl
last_of_push (y ∷ z ∷ zs) x = last_of_push (z ∷ zs) x

front_is : (stream : List ℕ) (front : List (List ℕ)) (last : List ℕ) → slice_split is_flag stream ≡ front ++ last ∷ [] → front_of stream ≡ front
front_is stream front last is = ap but_last is ∙ but_last_push front last

last_is : (stream : List ℕ) (front : List (List ℕ)) (last : List ℕ) → slice_split is_flag stream ≡ front ++ last ∷ [] → last_text stream ≡ last
last_is stream front last is = ap (λ l. unwrap_or (last_of l) []) is ∙ ap (λ o. unwrap_or o []) (last_of_push front last)

-- all of them
pub split_is : (stream : List ℕ) → slice_split is_flag stream ≡ front_of stream ++ last_text stream ∷ []
split_is stream = let p = parts stream in
    p.is ∙ ap (λ f. f ++ p.last ∷ []) (sym (front_is stream p.front p.last p.is)) ∙ ap (λ l. front_of stream ++ l ∷ []) (sym (last_is stream p.front p.last p.is))

-- bytes without a flag
pub front_text : (stream more : List ℕ) → NoFlag more → front_of (stream ++ more) ≡ front_of stream
front_text stream more none = let p = parts stream in
    front_is (stream ++ more) p.front (p.last ++ more) (p.text more none) ∙ sym (front_is stream p.front p.last p.is)

pub last_more : (stream more : List ℕ) → NoFlag more → last_text (stream ++ more) ≡ last_text stream ++ more
last_more stream more none = let p = parts stream in
    last_is (stream ++ more) p.front (p.last ++ more) (p.text more none) ∙ ap (λ l. l ++ more) (sym (last_is stream p.front p.last p.is))

closed : (stream : List ℕ) (p : Parts stream) → slice_split is_flag (stream ++ FLAG ∷ []) ≡ (p.front ++ p.last ∷ []) ++ [] ∷ []
closed stream p = p.closing ∙ sym (append_assoc p.front (p.last ∷ []) ([] ∷ []))

-- a flag
pub front_flag : (stream : List ℕ) → front_of (stream ++ FLAG ∷ []) ≡ front_of stream ++ last_text stream ∷ []
front_flag stream = let p = parts stream in
    front_is (stream ++ FLAG ∷ []) (p.front ++ p.last ∷ []) [] (closed stream p) ∙
    ap (λ f. f ++ p.last ∷ []) (sym (front_is stream p.front p.last p.is)) ∙ ap (λ l. front_of stream ++ l ∷ []) (sym (last_is stream p.front p.last p.is))

pub last_flag : (stream : List ℕ) → last_text (stream ++ FLAG ∷ []) ≡ []
last_flag stream = let p = parts stream in last_is (stream ++ FLAG ∷ []) (p.front ++ p.last ∷ []) [] (closed stream p)

open_from : (front : List (List ℕ)) (last : List ℕ) → last_of (drop 1 (front ++ last ∷ [])) ≡ cond (is_some_text front) (Some last) None
open_from [] last = refl
open_from (f ∷ fs) last = last_of_push fs last

-- the text behind the last flag, where there is one
pub open_is : (stream : List ℕ) → open_text stream ≡ cond (is_some_text (front_of stream)) (Some (last_text stream)) None
unfolding open_text texts_behind_flags
open_is stream = ap (λ l. last_of (drop 1 l)) (split_is stream) ∙ open_from (front_of stream) (last_text stream)
