-- The calls of a name, and the first value that is made of them.
use Rattle.std.proofs.Common.{◌≡◌, ℕ, zero, suc, ◌+◌, Bool, true, false, if◌then◌else◌, List, [], ◌∷◌, filter_map, slice_get, Option, Some, None, inl, inr, refl, sym, ap, ◌∙◌, subst, arith, eq-eqb}
use Rattle.std.proofs.lemmas.Bool.{false≢true}
use Rattle.std.specs.List.{cons_option}
use Rattle.rpc_packet.specs.declared.call_name.CallName.{CallName}
use Rattle.rpc_journal.specs.Calls.{call_at, calls, same_name}
use Rattle.rpc_journal.specs.Effect.{Deed, Opening}
use Rattle.rpc_journal.specs.Entries.{made_from}
use Rattle.rpc_journal.proofs.PlaceLemmas.{some_same}
use Rattle.history_laws.specs.messages.Messages.{IsIn}
use Rattle.history_laws.proofs.messages.Arrived.{name_is}
use Rattle.link_laws.specs.world.Lines.{calls_named}

same_itself : (name : CallName) → same_name name name ≡ true
same_itself name = rw (eq-eqb name.channel name.channel refl, eq-eqb name.service name.service refl, eq-eqb name.method name.method refl, eq-eqb name.call name.call refl) refl

-- a call of the name, by its number
pub record HasName (os : List Opening) (n c : ℕ) (name : CallName) : Type 0 where
  pub place : ℕ
  pub opening : Opening
  pub there : slice_get os place ≡ Some opening
  pub number : c ≡ n + place
  pub name_is : opening.name ≡ name

module _ (name : CallName) where
  abbrev named : ℕ → List Opening → List ℕ
  named n os = made_from n (λ c o. same_name o.name name) (λ c o. c) os

  named_in : (os : List Opening) (n place : ℕ) (o : Opening) → slice_get os place ≡ Some o → o.name ≡ name → IsIn (n + place) (named n os)
  named_in [] n place o there is = absurd cc
  named_in (x ∷ os) n zero o there is = at (same_name x.name name) own
    where
      same : x ≡ o
      same = some_same x o there

      own : same_name x.name name ≡ true
      own = ap (λ y. same_name y name) (ap (λ (z : Opening). z.name) same ∙ is) ∙ same_itself name

      at : (b : Bool) → b ≡ true → IsIn (n + zero) (if b then n ∷ named (n + 1) os else named (n + 1) os)
      at true e = inl (omega arith)
      at false e = absurd (false≢true e)
  named_in (x ∷ os) n (suc place) o there is = at (same_name x.name name) (subst (λ m. IsIn m (named (n + 1) os)) (omega arith) (named_in os (n + 1) place o there is))
    where
      at : (b : Bool) → IsIn (n + suc place) (named (n + 1) os) → IsIn (n + suc place) (if b then n ∷ named (n + 1) os else named (n + 1) os)
      at true rest = inr rest
      at false rest = rest

  in_named : (os : List Opening) (n c : ℕ) → IsIn c (named n os) → HasName os n c name
  in_named [] n c is = absurd is
  in_named (x ∷ os) n c is = at (same_name x.name name) refl is (λ later. behind (in_named os (n + 1) c later))
    where
      behind : HasName os (n + 1) c name → HasName (x ∷ os) n c name
      behind h = record { place = suc h.place; opening = h.opening; there = h.there; number = omega (arith, h.number); name_is = h.name_is }

      at : (b : Bool) → same_name x.name name ≡ b → IsIn c (if b then n ∷ named (n + 1) os else named (n + 1) os) → (IsIn c (named (n + 1) os) → HasName (x ∷ os) n c name) → HasName (x ∷ os) n c name
      at true e (inl here) more = record { place = zero; opening = x; there = refl; number = omega (arith, here); name_is = name_is x.name name e }
      at true e (inr later) more = more later
      at false e later more = more later

  pub call_named : (ds : List Deed) (c : ℕ) (o : Opening) → call_at ds c ≡ Some o → o.name ≡ name → IsIn c (calls_named name ds)
  call_named ds c o there is = subst (λ m. IsIn m (calls_named name ds)) (omega arith) (named_in (calls ds) zero c o there is)

  pub named_call : (ds : List Deed) (c : ℕ) → IsIn c (calls_named name ds) → (o : Opening) × (call_at ds c ≡ Some o) × (o.name ≡ name)
  named_call ds c is = let h = in_named (calls ds) zero c is in (h.opening, subst (λ m. call_at ds m ≡ Some h.opening) (sym (place_is c h.place h.number)) h.there, h.name_is)
    where
      place_is : (a b : ℕ) → a ≡ zero + b → a ≡ b
      place_is a b e = omega (arith, e)

-- where one gives a value, and each that gives one gives the same, the first that is given is that
pub first_given : (f : ℕ → Option ℕ) (n : ℕ) (cs : List ℕ) (c : ℕ) → IsIn c cs → f c ≡ Some n → ((x m : ℕ) → IsIn x cs → f x ≡ Some m → m ≡ n) → slice_get (filter_map f cs) 0 ≡ Some n
first_given f n [] c is gives each = absurd is
first_given f n (x ∷ cs) c is gives each = at (λ later. first_given f n cs c later gives (λ y m there. each y m (inr there))) (f x) refl
  where
    at : (IsIn c cs → slice_get (filter_map f cs) 0 ≡ Some n) → (o : Option ℕ) → f x ≡ o → slice_get (cons_option o (filter_map f cs)) 0 ≡ Some n
    at rest (Some m) e = ap Some (each x m (inl refl) e)
    at rest None e = by_place is
      where
        by_place : IsIn c (x ∷ cs) → slice_get (filter_map f cs) 0 ≡ Some n
        by_place (inl same) = absurd (none_some (sym e ∙ (ap f (sym same) ∙ gives)))
          where
            none_some : None ≡ Some n → ⊥
            none_some z = cc
        by_place (inr later) = rest later
