-- What is known of the rounds that have passed, while words are lost.
use Rattle.std.proofs.Common.{◌≡◌, ℕ, suc, ◌+◌, ◌*◌, ◌<◌, ◌≤◌, ◌==◌, ◌||◌, ◌⊎◌, inl, inr, min, Bool, true, false, if◌then◌else◌, List, [], ◌∷◌, ◌++◌, length, refl, ap, ◌∙◌, arith, length-append}
use Rattle.std.proofs.lemmas.Bool.Decides.{nat_tests}
use Rattle.transfer_base.specs.declared.limits.TheConstants.{TIMEOUT}
use Rattle.transfer_words.specs.Word.{Word}
use Rattle.transfer_laws.proofs.losses.Grid.{less_or_not}
use Rattle.transfer_laws.specs.losses.Drops.{Lost, lost_at, missing}
use Rattle.transfer_laws.specs.losses.Rounds.{HasCleanRound, LOSSY_ROUNDS, is_lossy, moment_of}

-- so many rounds have passed, and each has lost a word
pub record Passed (since times : ℕ) (lost : List Lost) (now : ℕ) : Type 0 where
  pub moment : now ≡ moment_of since times
  pub each : (number : ℕ) → number < times → is_lossy lost (moment_of since number) ≡ true
  pub few : times ≤ length lost

-- and so has the round that goes on
pub record IsLossy (times : ℕ) (lost : List Lost) (now : ℕ) : Type 0 where
  pub lossy : is_lossy lost now ≡ true
  pub more : times < length lost

pub none_passed : (since : ℕ) → Passed since 0 [] since
none_passed since = record { moment = omega arith; each = λ number less. absurd (omega (arith, less)); few = omega arith }

-- WHERE MORE WORDS ARE LOST

or_true : (a b : Bool) → b ≡ true → (a || b) ≡ true
or_true true b e = refl
or_true false b e = e

lossy_still : (ls lost : List Lost) (moment : ℕ) → is_lossy lost moment ≡ true → is_lossy (ls ++ lost) moment ≡ true
lossy_still [] lost moment e = e
lossy_still (l ∷ ls) lost moment e = or_true (l.moment == moment) (is_lossy (ls ++ lost) moment) (lossy_still ls lost moment e)

pub passed_more : {since times : ℕ} {lost : List Lost} {now : ℕ} (ls : List Lost) → Passed since times lost now → Passed since times (ls ++ lost) now
passed_more {since} {times} {lost} {now} ls p = record {
  moment = p.moment;
  each = λ number less. lossy_still ls lost (moment_of since number) (p.each number less);
  few = omega (arith, p.few, length-append ls lost);
}

pub still_lossy : {times : ℕ} {lost : List Lost} {now : ℕ} (ls : List Lost) → IsLossy times lost now → IsLossy times (ls ++ lost) now
still_lossy {times} {lost} {now} ls l = record { lossy = lossy_still ls lost now l.lossy; more = omega (arith, l.more, length-append ls lost) }

-- a word is lost now
pub just_lost : {since times : ℕ} {w : Word} {lost : List Lost} {now : ℕ} → Passed since times lost now → IsLossy times (lost_at now w ∷ lost) now
just_lost {since} {times} {w} {lost} {now} p = record { lossy = first (now == now) (is_lossy lost now) (same now); more = omega (arith, p.few) }
  where
    same : (n : ℕ) → (n == n) ≡ true
    same n = grind (arith, nat_tests)

    first : (a b : Bool) → a ≡ true → (a || b) ≡ true
    first true b e = refl
    first false b e = absurd (grind (arith, nat_tests, e))

pub one_lost : {since times : ℕ} {w : Word} {lost : List Lost} {now : ℕ} → Passed since times lost now → Passed since times (lost_at now w ∷ lost) now
one_lost {since} {times} {w} {lost} {now} p = passed_more (lost_at now w ∷ []) p

-- of these words some are
pub some_lost : (loses : ℕ → Bool) {since times : ℕ} {lost : List Lost} {now : ℕ} (said : ℕ) (ws : List Word) → 1 ≤ length (missing loses now said ws) → Passed since times lost now
    → IsLossy times (missing loses now said ws ++ lost) now
some_lost loses {since} {times} {lost} {now} said [] some p = absurd (omega (arith, some))
some_lost loses {since} {times} {lost} {now} said (w ∷ ws) some p = by_loss (loses (suc said)) (some_lost loses (suc said) ws) some
  where
    by_loss : (b : Bool) → (1 ≤ length (missing loses now (suc said) ws) → Passed since times lost now → IsLossy times ((missing loses now (suc said) ws) ++ lost) now)
        → 1 ≤ length (if b then lost_at now w ∷ (missing loses now (suc said) ws) else (missing loses now (suc said) ws)) → IsLossy times ((if b then lost_at now w ∷ (missing loses now (suc said) ws) else (missing loses now (suc said) ws)) ++ lost) now
    by_loss true later some = just_lost (passed_more (missing loses now (suc said) ws) p)
    by_loss false later some = later some p

-- TIME PASSES behind a lossy round

pub next_round : {since times : ℕ} {lost : List Lost} {now : ℕ} → Passed since times lost now → IsLossy times lost now → Passed since (suc times) lost (now + TIMEOUT)
next_round {since} {times} {lost} {now} p l = record { moment = omega (arith, p.moment); each = each; few = omega (arith, l.more) }
  where
    by : (number : ℕ) → number < suc times → (number < times) ⊎ (times ≤ number) → is_lossy lost (moment_of since number) ≡ true
    by number less (inl before) = p.each number before
    by number less (inr last) = let same : moment_of since number ≡ now = omega (arith, p.moment, less, last) in ap (is_lossy lost) same ∙ l.lossy

    each : (number : ℕ) → number < suc times → is_lossy lost (moment_of since number) ≡ true
    each number less = by number less (less_or_not number times)

-- WHERE ONE OF THE FIRST ROUNDS IS CLEAN

pub both : (b : Bool) → b ≡ true → b ≡ false → ⊥
both true e f = grind (arith, nat_tests, f)
both false e f = grind (arith, nat_tests, e)

-- it hasn't passed
not_past : {since times : ℕ} {lost : List Lost} {now : ℕ} (c : HasCleanRound since lost) → Passed since times lost now → times ≤ c.number
not_past {since} {times} {lost} {now} c p = by_order (less_or_not c.number times)
  where
    by_order : (c.number < times) ⊎ (times ≤ c.number) → times ≤ c.number
    by_order (inl past) = absurd (both (is_lossy lost (moment_of since c.number)) (p.each c.number past) c.clean)
    by_order (inr fits) = fits

pub at_most : {since times : ℕ} {lost : List Lost} {now : ℕ} → HasCleanRound since lost → Passed since times lost now → times ≤ 3
at_most c p = omega (arith, c.early, not_past c p)

-- and another one will come behind a lossy one
pub one_left : {since times : ℕ} {lost : List Lost} {now : ℕ} → HasCleanRound since lost → Passed since times lost now → IsLossy times lost now → times ≤ 2
one_left c p l = omega (arith, c.early, not_past c (next_round p l))

-- so it is soon
pub is_soon : {since times : ℕ} {lost : List Lost} {now : ℕ} → HasCleanRound since lost → Passed since times lost now → now ≤ since + TIMEOUT * min LOSSY_ROUNDS (length lost)
is_soon c p = omega (arith, p.moment, p.few, at_most c p)

pub each_lossy : {since times : ℕ} {lost : List Lost} {now : ℕ} → Passed since times lost now → (number : ℕ) → moment_of since number < now → is_lossy lost (moment_of since number) ≡ true
each_lossy p number before = p.each number (omega (arith, before, p.moment))

-- WHERE THE FIRST FOUR ROUNDS ARE LOSSY
abbrev pub FirstLossy : ℕ → List Lost → Type 0
FirstLossy since lost = (number : ℕ) → number < 4 → is_lossy lost (moment_of since number) ≡ true

pub first_passed : {since times : ℕ} {lost : List Lost} {now : ℕ} → 4 ≤ times → Passed since times lost now → FirstLossy since lost
first_passed many p number less = p.each number (omega (arith, less, many))

pub first_more : (since : ℕ) (ls lost : List Lost) → FirstLossy since lost → FirstLossy since (ls ++ lost)
first_more since ls lost four number less = lossy_still ls lost (moment_of since number) (four number less)

-- an end may ask once more, or it gives up
pub may_wait : (resends : ℕ) → (resends ≤ 2) ⊎ (3 ≤ resends)
may_wait resends = by (less_or_not resends 3)
  where
    by : (resends < 3) ⊎ (3 ≤ resends) → (resends ≤ 2) ⊎ (3 ≤ resends)
    by (inl less) = inl (omega (arith, less))
    by (inr many) = inr many
