-- The first of some words, and the words behind it.
use Rattle.std.proofs.Common.{◌≡◌, ◌-◌, ◌≤◌, List, [], ◌∷◌, length, get_or, take, drop, map, string_bytes, String, Global, sym, ap₂, arith}
use Rattle.std.proofs.lemmas.List.{take_all}

pub first_and_rest : (words : List (String Global)) (word : String Global) → 1 ≤ length words → word ≡ get_or words 0 word
    → map string_bytes words ≡ string_bytes word ∷ map string_bytes (take (length words - 1) (drop 1 words))
first_and_rest [] word some is = absurd (omega arith)
first_and_rest (w ∷ ws) word some is =
    ap₂ (λ (a : String Global) (b : List (String Global)). string_bytes a ∷ map string_bytes b) (sym is) (sym (take_all (length (w ∷ ws) - 1) ws (omega arith)))
