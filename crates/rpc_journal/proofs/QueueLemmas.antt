-- How the events that wait for a call follow one more entry.
use Rattle.std.proofs.Common.{◌≡◌, ℕ, ◌+◌, ◌≤◌, Bool, true, false, List, [], ◌∷◌, ◌++◌, length, drop, if◌then◌else◌, refl, ap, sym, ◌∙◌, arith, length-append, length-drop}
use Rattle.std.proofs.lemmas.Bool.{true≢false}
use Rattle.std.proofs.lemmas.List.{append-nil, drop-append-le, drop-drop}
use Rattle.rpc_journal.specs.declared.waiting.Waiting.{Waiting}
use Rattle.rpc_journal.specs.Kinds.{is_empty}

-- the events that wait: one is taken, or what waits goes where it is dropped, and the new ones wait behind
pub queue_is : (b s : Bool) (n : ℕ) (ps new q : List Waiting) → (s ≡ true → (b ≡ false) × (new ≡ [])) → n ≤ length ps → drop n ps ≡ q
    → drop (if b then 0 else if s then n + 1 else n) ((if b then [] else ps) ++ new) ≡ (if s then drop 1 q else (if b then [] else q) ++ new)
queue_is true true n ps new q alone put is = absurd (true≢false (alone refl).0)
queue_is true false n ps new q alone put is = refl
queue_is false true n ps new q alone put is =
    ap (λ ws. drop (n + 1) (ps ++ ws)) (alone refl).1 ∙ (ap (drop (n + 1)) (append-nil ps) ∙ (sym (drop-drop 1 n ps) ∙ ap (drop 1) is))
queue_is false false n ps new q alone put is = drop-append-le n ps new put ∙ ap (λ ws. ws ++ new) is

pub some_left : (n : ℕ) (ps q : List Waiting) → drop n ps ≡ q → is_empty q ≡ false → n + 1 ≤ length ps
some_left n ps [] is none = absurd (true≢false none)
some_left n ps (x ∷ xs) is some = omega (arith, length-drop n ps, ap length is)

-- no more were taken than were put
pub put_is : (b s : Bool) (n : ℕ) (ps new : List Waiting) → n ≤ length ps → (s ≡ true → n + 1 ≤ length ps)
    → (if b then 0 else if s then n + 1 else n) ≤ length ((if b then [] else ps) ++ new)
put_is true s n ps new put some = omega arith
put_is false true n ps new put some = omega (arith, length-append ps new, some refl)
put_is false false n ps new put some = omega (arith, length-append ps new)
