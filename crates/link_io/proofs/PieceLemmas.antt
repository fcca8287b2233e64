-- Laws on bytes that pass in pieces.
use Rattle.std.proofs.Common.{◌≡◌, ℕ, ◌+◌, ◌-◌, ◌<◌, List, [], ◌++◌, length, take, drop, min, Option, sym, ◌∙◌, ap, arith}
use Rattle.std.proofs.Math.Seq.{take-add}
use Rattle.std.proofs.Math.ListN.{drop_of_length-le}
use Rattle.std.proofs.lemmas.List.{take_rest, take-append-drop, drop-drop, take_at, length-take, length-drop}
use Rattle.std.specs.Io.KnownBytes.{Appends}
use Rattle.std.proofs.KnownBytes.{Appends-trans}

-- a piece that is written behind a beginning of the text makes a longer beginning
pub Appends-piece : (a b c : Option (List ℕ)) (text : List ℕ) (done count : ℕ) → Appends a b (take done text) → Appends b c (take count (take (length text - done) (drop done text))) → Appends a c (take (done + count) text)
Appends-piece a b c text done count front piece =
    let longer : take (done + count) text ≡ take done text ++ take count (take (length text - done) (drop done text)) = take-add done count text ∙ ap (λ r. take done text ++ take count r) (sym (take_rest text done)) in
    rw longer (Appends-trans a b c _ _ front piece)

-- the front of a buffer was written over by what is next of a text
pub next_copied : (text front buffer : List ℕ) (at count : ℕ) → count ≡ min (length (take (length text - at) (drop at text))) (length buffer) → front ≡ take count (take (length text - at) (drop at text)) → drop at text ≡ take count (front ++ drop count buffer) ++ drop (at + count) text
next_copied text front buffer at count is copied =
    let rest = take_rest text at in
    let least : count ≡ min (length (drop at text)) (length buffer) = is ∙ ap (λ r. min (length r) (length buffer)) rest in
    let whole : front ≡ take count (drop at text) = copied ∙ ap (take count) rest in
    let long : length front ≡ count = ap length whole ∙ omega (arith, length-take count (drop at text)) in
    let kept : take count (front ++ drop count buffer) ≡ front = take_at front (drop count buffer) count long in
    let behind : drop count (drop at text) ≡ drop (at + count) text = drop-drop count at text in
    let split : take count (drop at text) ++ drop count (drop at text) ≡ drop at text = take-append-drop count (drop at text) in
    cc

-- where nothing of a text was copied into a buffer that has room, nothing is left of the text
pub none_copied : (text buffer : List ℕ) (at count : ℕ) → count ≡ min (length (take (length text - at) (drop at text))) (length buffer) → 0 < length buffer → count ≡ 0 → drop (at + count) text ≡ []
none_copied text buffer at count is room none =
    let rest = take_rest text at in
    let least : count ≡ min (length (drop at text)) (length buffer) = is ∙ ap (λ r. min (length r) (length buffer)) rest in
    drop_of_length-le text (omega (arith, length-drop at text))
