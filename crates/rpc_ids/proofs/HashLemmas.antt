-- One step of the hash of a name, modulo 2^32.
use Rattle.std.proofs.Common.{◌≡◌, ℕ, ◌+◌, ◌*◌, ◌%◌, ◌^◌, ap, sym, ◌∙◌, arith, add-one}
use Rattle.std.proofs.Math.Nat.{mod-add-mod, add-mod-mod, pow-suc}
use Rattle.std.proofs.lemmas.Nat.{mul-mod_first, mul-mod_second}

regroup : (x y z : ℕ) → x + y + z ≡ x + z + y
regroup x y z = omega arith

reorder : (x y z : ℕ) → x + y + z ≡ x + (z + y)
reorder x y z = omega arith

-- adding a product that wraps, to a sum that wraps, and then the rest
pub wrapped_step : (h b p q rest m : ℕ) → p ≡ q % m → ((h + (b * p) % m) % m + rest) % m ≡ (h + (b * q + rest)) % m
wrapped_step h b p q rest m e =
    ap (λ x. ((h + (b * x) % m) % m + rest) % m) e
    ∙ (mod-add-mod (h + (b * (q % m)) % m) m rest
    ∙ (ap (λ x. (h + x + rest) % m) (mul-mod_second b q m)
    ∙ (ap (λ x. x % m) (regroup h ((b * q) % m) rest)
    ∙ (add-mod-mod (h + rest) (b * q) m
    ∙ ap (λ x. x % m) (reorder h rest (b * q))))))

-- the next power, wrapped
pub next_power : (p base k m : ℕ) → p ≡ base ^ k % m → p * base % m ≡ base ^ (k + 1) % m
next_power p base k m e =
    ap (λ x. x * base % m) e
    ∙ (mul-mod_first (base ^ k) base m
    ∙ ap (λ x. x % m) (sym (pow-suc base k) ∙ ap (λ n. base ^ n) (sym (add-one k))))
