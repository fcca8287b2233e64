-- The newest call of each name, and the live one, over changes of the calls.
use Rattle.std.proofs.Common.{◌≡◌, ◌⊎◌, inl, inr, ◌==◌, nat_lt, ℕ, suc, ◌+◌, Bool, true, false, ◌&&◌, List, [], ◌∷◌, ◌++◌, length, slice_get, Some, if◌then◌else◌, cond, refl, ap, sym, ◌∙◌, subst, arith}
use Rattle.std.specs.Ordering.{nat_cmp, ordering_then, is_eq}
use Rattle.std.specs.declared.cmp.Ordering.{Ordering}
use Rattle.std.specs.declared.cmp.Ordering.TheVariants.{Less, Equal, Greater}
use Rattle.std.proofs.lemmas.Bool.{and_parts, eqb-true, eqb-false, eq-eqb, ne_eqb, ltb-true}
use Rattle.rpc_packet.specs.declared.call_name.CallName.{CallName}
use Rattle.rpc_journal.specs.declared.table.call_state.CallState.{CallState}
use Rattle.rpc_journal.specs.Calls.{same_name}
use Rattle.rpc_journal.specs.table.Newest.{IsNamed, Numbers, name_cmp, newest_of}
use Rattle.rpc_journal.proofs.PlaceLemmas.{some_same}
use Rattle.rpc_calls.specs.Names.{same_key}
use Rattle.rpc_calls.specs.Numbers.{named_from, numbers_of}

both_equal : (o p : Ordering) → is_eq (ordering_then o p) ≡ (is_eq o && is_eq p)
both_equal Less p = refl
both_equal Equal p = refl
both_equal Greater p = refl

nat_equal : (x y : ℕ) → is_eq (nat_cmp x y) ≡ (y == x)
nat_equal x y = at (nat_lt x y) (x == y) refl refl
  where
    at : (l e : Bool) → nat_lt x y ≡ l → (x == y) ≡ e → is_eq (cond l Less (cond e Equal Greater)) ≡ (y == x)
    at true e less is = sym (ne_eqb y x (λ same. absurd (omega (arith, same, ltb-true x y less))))
    at false true less is = sym (eq-eqb y x (sym (eqb-true x y is)))
    at false false less is = sym (ne_eqb y x (λ same. eqb-false x y is (sym same)))

-- names that compare as equal are one
cmp_same : (a b : CallName) → is_eq (name_cmp a b) ≡ same_key b a
cmp_same a b =
    both_equal (nat_cmp a.channel b.channel) (ordering_then (nat_cmp a.service b.service) (ordering_then (nat_cmp a.method b.method) (nat_cmp a.call b.call)))
    ∙ ap (λ t. is_eq (nat_cmp a.channel b.channel) && t)
    (both_equal (nat_cmp a.service b.service) (ordering_then (nat_cmp a.method b.method) (nat_cmp a.call b.call))
    ∙ ap (λ t. is_eq (nat_cmp a.service b.service) && t) (both_equal (nat_cmp a.method b.method) (nat_cmp a.call b.call)))
    ∙ rw (nat_equal a.channel b.channel, nat_equal a.service b.service, nat_equal a.method b.method, nat_equal a.call b.call) refl

-- the same test, nested the other way
nested : (p q r s : Bool) → (p && q && r && s) ≡ (p && (q && (r && s)))
nested true q r s = nested_three q r s
  where
    nested_three : (q r s : Bool) → (q && r && s) ≡ (q && (r && s))
    nested_three true r s = refl
    nested_three false r s = refl
nested false q r s = refl

pub same_as_key : (a b : CallName) → same_name a b ≡ same_key a b
same_as_key a b = nested (a.channel == b.channel) (a.service == b.service) (a.method == b.method) (a.call == b.call)

pub newest_more : (name : CallName) (n : ℕ) (m : Numbers) (other : CallName) → newest_of ((name, n) ∷ m) other ≡ (if same_key name other then Some n else newest_of m other)
newest_more name n m other = ap (λ b. if b then Some n else newest_of m other) (cmp_same other name)

-- names that are the same are one
pub one_name : (a b : CallName) → same_key a b ≡ true → a ≡ b
one_name a b is =
    let first = and_parts (a.channel == b.channel) _ is in
    let second = and_parts (a.service == b.service) _ first.1 in
    let third = and_parts (a.method == b.method) (a.call == b.call) second.1 in
    ap (λ k. record a { channel = k }) (eqb-true a.channel b.channel first.0)
    ∙ ap (λ k. record { channel = b.channel; service = k; method = a.method; call = a.call }) (eqb-true a.service b.service second.0)
    ∙ ap (λ k. record { channel = b.channel; service = b.service; method = k; call = a.call }) (eqb-true a.method b.method third.0)
    ∙ ap (λ k. record { channel = b.channel; service = b.service; method = b.method; call = k }) (eqb-true a.call b.call third.1)

pub own_name : (a : CallName) → same_key a a ≡ true
own_name a = rw (eq-eqb a.channel a.channel refl, eq-eqb a.service a.service refl, eq-eqb a.method a.method refl, eq-eqb a.call a.call refl) refl

-- the names are those of other calls, one for one
names_kept : (n : ℕ) (old new : List CallState) (others : Numbers) → length new ≡ length old
    → ((k : ℕ) (r x : CallState) → slice_get old k ≡ Some r → slice_get new k ≡ Some x → x.name ≡ r.name) → named_from n new others ≡ named_from n old others
names_kept n [] [] others many same = refl
names_kept n [] (x ∷ new) others many same = absurd (omega (arith, many))
names_kept n (r ∷ old) [] others many same = absurd (omega (arith, many))
names_kept n (r ∷ old) (x ∷ new) others many same =
    ap (λ name. named_from (n + 1) new ((name, n) ∷ others)) (same 0 r x refl refl)
    ∙ names_kept (n + 1) old new ((r.name, n) ∷ others) (omega (arith, many)) (λ k. same (suc k))

pub numbers_kept : (old new : List CallState) → length new ≡ length old
    → ((k : ℕ) (r x : CallState) → slice_get old k ≡ Some r → slice_get new k ≡ Some x → x.name ≡ r.name) → numbers_of new ≡ numbers_of old
numbers_kept old new many same = names_kept 0 old new [] many same

named_more : (n : ℕ) (states : List CallState) (x : CallState) (others : Numbers) → named_from n (states ++ x ∷ []) others ≡ (x.name, n + length states) ∷ named_from n states others
named_more n [] x others = let here : n ≡ n + 0 = omega arith in ap (λ k. (x.name, k) ∷ others) here
named_more n (r ∷ states) x others =
    let later : n + 1 + length states ≡ n + length (r ∷ states) = omega arith in
    named_more (n + 1) states x ((r.name, n) ∷ others) ∙ ap (λ k. (x.name, k) ∷ named_from (n + 1) states ((r.name, n) ∷ others)) later

pub numbers_more : (states : List CallState) (x : CallState) → numbers_of (states ++ x ∷ []) ≡ (x.name, length states) ∷ numbers_of states
numbers_more states x = let same : 0 + length states ≡ length states = omega arith in named_more 0 states x [] ∙ ap (λ n. (x.name, n) ∷ numbers_of states) same

pub newest_opened : (states : List CallState) (x : CallState) → IsNamed x.name (length states) (numbers_of states) (numbers_of (states ++ x ∷ []))
newest_opened states x = λ other.
    ap (λ m. newest_of m other) (numbers_more states x) ∙ newest_more x.name (length states) (numbers_of states) other
    ∙ ap (λ b. if b then Some (length states) else newest_of (numbers_of states) other) (sym (same_as_key x.name other))

-- the newest call of a name is there, and has this name
pub record IsNewestAt (states : List CallState) (name : CallName) (c : ℕ) : Type 0 where
  pub it : CallState
  pub there : slice_get states c ≡ Some it
  pub same : same_key it.name name ≡ true

record IsFrom (n : ℕ) (states : List CallState) (name : CallName) (c : ℕ) : Type 0 where
  pub place : ℕ
  pub number : c ≡ n + place
  pub at : IsNewestAt states name place

newest_from : (n : ℕ) (states : List CallState) (others : Numbers) (name : CallName) (c : ℕ) → newest_of (named_from n states others) name ≡ Some c
    → IsFrom n states name c ⊎ (newest_of others name ≡ Some c)
newest_from n [] others name c is = inr is
newest_from n (r ∷ states) others name c is = by (newest_from (n + 1) states ((r.name, n) ∷ others) name c is)
  where
    here : (b : Bool) → same_key r.name name ≡ b → (if b then Some n else newest_of others name) ≡ Some c → IsFrom n (r ∷ states) name c ⊎ (newest_of others name ≡ Some c)
    here true same found =
        let it = some_same n c found in
        inl (record { place = 0; number = omega (arith, it); at = record { it = r; there = refl; same = same } })
    here false same found = inr found

    by : IsFrom (n + 1) states name c ⊎ (newest_of ((r.name, n) ∷ others) name ≡ Some c) → IsFrom n (r ∷ states) name c ⊎ (newest_of others name ≡ Some c)
    by (inl later) = inl (record { place = suc later.place; number = omega (arith, later.number); at = record { it = later.at.it; there = later.at.there; same = later.at.same } })
    by (inr found) = here (same_key r.name name) refl (sym (newest_more r.name n others name) ∙ found)

pub newest_at : (states : List CallState) (name : CallName) (c : ℕ) → newest_of (numbers_of states) name ≡ Some c → IsNewestAt states name c
newest_at states name c is = by (newest_from 0 states [] name c is)
  where
    by : IsFrom 0 states name c ⊎ (newest_of [] name ≡ Some c) → IsNewestAt states name c
    by (inl from) = let same : c ≡ from.place = omega (arith, from.number) in subst (IsNewestAt states name) (sym same) from.at
    by (inr none) = absurd cc
