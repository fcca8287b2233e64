-- How a number of a message is read.
use Rattle.std.proofs.Common.{◌≡◌, ℕ, ℤ, pos, negsuc, ◌+◌, ◌≤◌, List, ◌++◌, length, Some, None, ap, sym, ◌∙◌, arith, subst, length-append}
use Rattle.std.proofs.lemmas.Option.{same_Some}
use Rattle.proto_wire.specs.Varint.{IsVarint, Number, varint_front}
use Rattle.proto_wire.proofs.FrontLaws.{HasVarint, varint_front_reads, varint_front_spelled}
use Rattle.token_text.specs.Spelling.{zigzag}

zigzag_injective : (a b : ℤ) → zigzag a ≡ zigzag b → a ≡ b
zigzag_injective (pos a) (pos b) e = let same : a ≡ b = omega (arith, e) in ap pos same
zigzag_injective (pos a) (negsuc b) e = absurd (omega (arith, e))
zigzag_injective (negsuc a) (pos b) e = absurd (omega (arith, e))
zigzag_injective (negsuc a) (negsuc b) e = let same : a ≡ b = omega (arith, e) in ap negsuc same

-- no varint stands at the front
pub no_varint : (bytes front rest : List ℕ) (n : ℕ) → None ≡ varint_front bytes → IsVarint front n → bytes ≡ front ++ rest → ⊥
no_varint bytes front rest n none spelled whole =
    let read : varint_front bytes ≡ Some (record { value = n; rest = rest }) = ap varint_front whole ∙ varint_front_reads front n rest spelled in
    let f : ⊥ = cc in f

-- a varint stands at the front, of the number that this one folds to
module _ (bytes rest : List ℕ) (v : ℕ) (z : ℤ) (read : Some (record { value = v; rest = rest }) ≡ varint_front bytes) (folds : zigzag z ≡ v) where
  found : HasVarint bytes (record { value = v; rest = rest })
  found = varint_front_spelled bytes (record { value = v; rest = rest }) (sym read)

  pub varint_here : (front : List ℕ) × IsVarint front (zigzag z) × (bytes ≡ front ++ rest)
  varint_here = (found.text, subst (IsVarint found.text) (sym folds) found.spelled, found.whole)

  pub varint_only : (n : ℤ) (front behind : List ℕ) → IsVarint front (zigzag n) → bytes ≡ front ++ behind → (z ≡ n) × (rest ≡ behind)
  varint_only n front behind spelled whole =
      let again : varint_front bytes ≡ Some (record { value = zigzag n; rest = behind }) = ap varint_front whole ∙ varint_front_reads front (zigzag n) behind spelled in
      let mine : Number = record { value = v; rest = rest } in
      let other : Number = record { value = zigzag n; rest = behind } in
      let same : mine ≡ other = same_Some mine other (read ∙ again) in
      let values : v ≡ zigzag n = ap (λ (r : Number). r.value) same in
      (zigzag_injective z n (folds ∙ values), ap (λ (r : Number). r.rest) same)

  pub varint_short : length bytes ≤ length rest + 128
  varint_short =
      let size : length bytes ≡ length found.text + length rest = ap length found.whole ∙ length-append found.text rest in
      omega (arith, size, found.spelled.short)
