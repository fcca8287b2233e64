-- What the ticking calls say where one of them alone says anything.
use Rattle.std.proofs.Common.{◌≡◌, ◌≢◌, ℕ, zero, suc, ◌+◌, Bool, true, false, List, [], ◌∷◌, ◌++◌, flat_map, slice_get, Some, if◌then◌else◌, refl, ap, sym, ◌∙◌, subst, arith}
use Rattle.std.proofs.lemmas.List.{append-nil}
use Rattle.rpc_journal.specs.Calls.{calls}
use Rattle.rpc_journal.specs.Effect.{Opening}
use Rattle.rpc_journal.specs.Entries.{made_from}
use Rattle.history_laws.specs.ticks.Ticks.{OneSpeaks, is_ticking, tick_items}

module _ {A : Type 0} (test : ℕ → Opening → Bool) (f : ℕ × Opening → List A) where
  abbrev all_from : ℕ → List Opening → List A
  all_from n os = flat_map f (made_from n test (λ c o. (c, o)) os)

  none_says : (os : List Opening) (n : ℕ) → ((k j : ℕ) (o : Opening) → slice_get os j ≡ Some o → k ≡ n + j → test k o ≡ true → f (k, o) ≡ []) → all_from n os ≡ []
  none_says [] n none = refl
  none_says (o ∷ os) n none = at (test n o) refl (none_says os (n + 1) (λ k j p there is ticks. none k (suc j) p there (omega (arith, is)) ticks))
    where
      at : (b : Bool) → test n o ≡ b → all_from (n + 1) os ≡ [] → flat_map f (if b then (n, o) ∷ made_from (n + 1) test (λ c p. (c, p)) os else made_from (n + 1) test (λ c p. (c, p)) os) ≡ []
      at true is rest = ap (λ xs. xs ++ all_from (n + 1) os) (none n 0 o refl (omega arith) is) ∙ rest
      at false is rest = rest

  one_says : (os : List Opening) (n c i : ℕ) (own : Opening) → slice_get os i ≡ Some own → c ≡ n + i → test c own ≡ true
      → ((k j : ℕ) (o : Opening) → k ≢ c → slice_get os j ≡ Some o → k ≡ n + j → test k o ≡ true → f (k, o) ≡ []) → all_from n os ≡ f (c, own)
  one_says [] n c i own there is ticks none = absurd cc
  one_says (o ∷ os) n c zero own there is ticks none =
      let here : c ≡ n = omega (arith, is) in
      let it : o ≡ own = cc in
      subst (λ p. flat_map f (if test n p then (n, p) ∷ made_from (n + 1) test (λ k q. (k, q)) os else made_from (n + 1) test (λ k q. (k, q)) os) ≡ f (c, own)) (sym it)
      (subst (λ k. flat_map f (if test k own then (k, own) ∷ made_from (n + 1) test (λ j q. (j, q)) os else made_from (n + 1) test (λ j q. (j, q)) os) ≡ f (c, own)) here
      (ap (λ b. flat_map f (if b then (c, own) ∷ made_from (n + 1) test (λ j q. (j, q)) os else made_from (n + 1) test (λ j q. (j, q)) os)) ticks
      ∙ (ap (λ xs. f (c, own) ++ xs) (none_says os (n + 1) (λ k j p there at. none k (suc j) p (λ same. omega (arith, same, at, here)) there (omega (arith, at))))
      ∙ append-nil (f (c, own)))))
  one_says (o ∷ os) n c (suc i) own there is ticks none =
      at (test n o) refl (one_says os (n + 1) c i own there (omega (arith, is)) ticks (λ k j p apart there at. none k (suc j) p apart there (omega (arith, at))))
    where
      at : (b : Bool) → test n o ≡ b → all_from (n + 1) os ≡ f (c, own)
          → flat_map f (if b then (n, o) ∷ made_from (n + 1) test (λ k p. (k, p)) os else made_from (n + 1) test (λ k p. (k, p)) os) ≡ f (c, own)
      at true front rest = ap (λ xs. xs ++ all_from (n + 1) os) (none n 0 o (λ same. omega (arith, same, is)) refl (omega arith) front) ∙ rest
      at false front rest = rest

pub one_speaks : OneSpeaks
one_speaks rule set ds t c o there ticks none =
    one_says (is_ticking ds) (tick_items rule set ds t) (calls ds) 0 c c o there (omega arith) ticks
    (λ k j p apart there at. none k p apart (ap (slice_get (calls ds)) (omega (arith, at)) ∙ there))
