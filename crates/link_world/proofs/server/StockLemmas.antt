-- The bytes of a resource, one after another.
use Rattle.std.proofs.Common.{◌≡◌, ℕ, suc, ◌+◌, ◌-◌, ◌/◌, ◌^◌, ◌<◌, List, [], ◌∷◌, ◌++◌, ap, sym, ◌∙◌, arith, append_assoc}
use Rattle.link_script.specs.Generator.{number_behind}
use Rattle.link_laws.specs.world.Setup.{made_bytes}

made_next : (length i x : ℕ) → i < length → made_bytes (length - i) x ≡ number_behind x / 2 ^ 56 ∷ made_bytes (length - (i + 1)) (number_behind x)
made_next length i x below =
    let next : length - i ≡ suc (length - (i + 1)) = omega (arith, below) in
    ap (λ k. made_bytes k x) next

pub one_byte_more : (bytes pushed all : List ℕ) (length i x next : ℕ) → i < length → next ≡ number_behind x → pushed ≡ bytes ++ next / 2 ^ 56 ∷ []
    → bytes ++ made_bytes (length - i) x ≡ all → pushed ++ made_bytes (length - (i + 1)) next ≡ all
one_byte_more bytes pushed all length i x next below is push made =
    ap (λ front. front ++ made_bytes (length - (i + 1)) next) push
    ∙ (append_assoc bytes (next / 2 ^ 56 ∷ []) (made_bytes (length - (i + 1)) next)
    ∙ (ap (λ n. bytes ++ (n / 2 ^ 56 ∷ made_bytes (length - (i + 1)) n)) is
    ∙ (ap (λ rest. bytes ++ rest) (sym (made_next length i x below)) ∙ made)))
