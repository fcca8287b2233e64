-- A book with one more format.
use Rattle.std.proofs.Common.{◌≡◌, ℕ, ◌&&◌, Bool, true, false, if◌then◌else◌, List, [], ◌∷◌, ◌++◌, Option, Some, None, is_none, IsNone, IsSome, refl, ap, ◌∙◌, eq-eqb, arith}
use Rattle.std.proofs.lemmas.Bool.{and_parts, false≢true}
use Rattle.std.proofs.lemmas.Bool.Decides.{nat_tests}
use Rattle.std.specs.Option.{is_some, option_copied}
use denote.Bor.{Bor}
use Rattle.std.specs.Prelude.{◌==◌}
use Rattle.rpc_ids.proofs.RegistryLemmas.{find_last, find_longer}
use Rattle.token_text.specs.Book.{Entry, format_of, has_own_tokens}

-- it is found
pub added_is_found : (book : List Entry) (e : Entry) → IsNone (format_of book e.token) → IsSome (format_of (book ++ e ∷ []) e.token)
added_is_found book e none = ap is_some (find_last (λ x. x.token == e.token) book e none (eq-eqb e.token e.token refl))

-- and each other one as before
pub others_are_found : (book : List Entry) (e : Entry) (token : ℕ) → IsSome (format_of book token) → format_of (book ++ e ∷ []) token ≡ format_of book token
others_are_found book e token h = find_longer (λ x. x.token == token) book (e ∷ []) h

-- what is lent is there where the value is
pub lent_is_there : {T : Type 0} (o : Option (Bor T)) → is_some (option_copied o) ≡ is_some o
lent_is_there None = refl
lent_is_there (Some x) = refl

pub none_is : {T : Type 0} (o : Option T) → IsNone o → is_none o ≡ true
none_is None none = refl
none_is (Some x) none = absurd (cc)

other_token : (a b : ℕ) → (a == b) ≡ false → (b == a) ≡ false
other_token a b e = grind (arith, nat_tests)

none_more : (book : List Entry) (e : Entry) (token : ℕ) → is_none (format_of book token) ≡ true → (e.token == token) ≡ false → is_none (format_of (book ++ e ∷ []) token) ≡ true
none_more [] e token none other = rw other refl
none_more (x ∷ book) e token none other = by_token (x.token == token) none (λ rest. none_more book e token rest other)
  where
    by_token : (b : Bool) → is_none (if b then Some x else format_of book token) ≡ true → (is_none (format_of book token) ≡ true → is_none (format_of (book ++ e ∷ []) token) ≡ true) →
        is_none (if b then Some x else format_of (book ++ e ∷ []) token) ≡ true
    by_token true none rest = none
    by_token false none rest = rest none

-- with a token that is new each token still stands once
pub own_tokens_more : (book : List Entry) (e : Entry) → is_none (format_of book e.token) ≡ true → has_own_tokens book ≡ true → has_own_tokens (book ++ e ∷ []) ≡ true
own_tokens_more [] e none own = refl
own_tokens_more (x ∷ book) e none own = by_token (x.token == e.token) refl none parts.0 (λ rest. own_tokens_more book e rest parts.1)
  where
    parts : (is_none (format_of book x.token) ≡ true) × (has_own_tokens book ≡ true)
    parts = and_parts (is_none (format_of book x.token)) (has_own_tokens book) own

    by_token : (b : Bool) → (x.token == e.token) ≡ b → is_none (if b then Some x else format_of book e.token) ≡ true → is_none (format_of book x.token) ≡ true →
        (is_none (format_of book e.token) ≡ true → has_own_tokens (book ++ e ∷ []) ≡ true) → (is_none (format_of (book ++ e ∷ []) x.token) && has_own_tokens (book ++ e ∷ [])) ≡ true
    by_token true is none first rest = absurd (false≢true none)
    by_token false is none first rest =
        ap (λ b. b && has_own_tokens (book ++ e ∷ [])) (none_more book e x.token first (other_token x.token e.token is)) ∙ rest none
