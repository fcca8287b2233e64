-- Where at most three words are lost, one of the first four rounds is clean.
use Rattle.std.proofs.Common.{◌≡◌, ℕ, zero, suc, ◌+◌, ◌<◌, ◌≤◌, ◌==◌, ◌||◌, Bool, true, false, List, [], ◌∷◌, length, refl, subst, arith}
use Rattle.std.proofs.lemmas.Bool.{eqb-true}
use Rattle.transfer_resume.specs.Session.{Service}
use Rattle.transfer_client.specs.Machine.{Rules}
use Rattle.transfer_laws.specs.losses.Drops.{LeadsTo, Lost, LossyPair, step, steps}
use Rattle.transfer_laws.specs.losses.Rounds.{HasCleanRound, is_lossy, moment_of}
use Rattle.transfer_laws.specs.losses.Survives.{FewLossesKeepARoundClean}
use Rattle.transfer_laws.proofs.losses.Numbers.{one_if}

module _ (since : ℕ) where
  -- how many of the first n rounds are lossy
  abbrev lossy_before : ℕ → List Lost → ℕ
  lossy_before zero lost = 0
  lossy_before (suc n) lost = one_if (is_lossy lost (moment_of since n)) + lossy_before n lost

  -- and of how many this is the moment
  abbrev rounds_at : ℕ → ℕ → ℕ
  rounds_at zero moment = 0
  rounds_at (suc n) moment = one_if (moment == moment_of since n) + rounds_at n moment

  none_later : (n moment : ℕ) → moment_of since n ≤ moment → rounds_at n moment ≡ 0
  none_later zero moment late = omega arith
  none_later (suc n) moment late = omega (arith, other moment (moment_of since n) (omega (arith, late)), none_later n moment (omega (arith, late)))
    where
      other : (a b : ℕ) → b < a → one_if (a == b) ≡ 0
      other a b less = by_test (a == b) refl
        where
          by_test : (t : Bool) → (a == b) ≡ t → one_if t ≡ 0
          by_test true e = absurd (omega (arith, less, eqb-true a b e))
          by_test false e = omega arith

  one_round : (n moment : ℕ) → rounds_at n moment ≤ 1
  one_round zero moment = omega arith
  one_round (suc n) moment = by_test (moment == moment_of since n) refl (one_round n moment)
    where
      by_test : (t : Bool) → (moment == moment_of since n) ≡ t → rounds_at n moment ≤ 1 → one_if t + rounds_at n moment ≤ 1
      by_test true e rest = omega (arith, none_later n moment (omega (arith, eqb-true moment (moment_of since n) e)))
      by_test false e rest = omega (arith, rest)

  one_word_more : (n : ℕ) (l : Lost) (lost : List Lost) → lossy_before n (l ∷ lost) ≤ rounds_at n l.moment + lossy_before n lost
  one_word_more zero l lost = omega arith
  one_word_more (suc n) l lost = omega (arith, either (l.moment == moment_of since n) (is_lossy lost (moment_of since n)), one_word_more n l lost)
    where
      either : (a b : Bool) → one_if (a || b) ≤ one_if a + one_if b
      either true b = omega arith
      either false b = omega arith

  -- no more rounds than words
  no_more_rounds : (n : ℕ) (lost : List Lost) → lossy_before n lost ≤ length lost
  no_more_rounds n [] = none n
    where
      none : (n : ℕ) → lossy_before n [] ≤ 0
      none zero = omega arith
      none (suc n) = omega (arith, none n)
  no_more_rounds n (l ∷ lost) = omega (arith, one_word_more n l lost, one_round n l.moment, no_more_rounds n lost)

  record IsCleanBefore (n : ℕ) (lost : List Lost) : Type 0 where
    number : ℕ
    before : number < n
    clean : is_lossy lost (moment_of since number) ≡ false

  found : (n : ℕ) (lost : List Lost) → lossy_before n lost < n → IsCleanBefore n lost
  found zero lost less = absurd (omega (arith, less))
  found (suc n) lost less = by_test (is_lossy lost (moment_of since n)) refl less (found n lost)
    where
      by_test : (t : Bool) → is_lossy lost (moment_of since n) ≡ t → one_if t + lossy_before n lost < suc n → (lossy_before n lost < n → IsCleanBefore n lost) → IsCleanBefore (suc n) lost
      by_test true e less before = let c : IsCleanBefore n lost = before (omega (arith, less)) in record { number = c.number; before = omega (arith, c.before); clean = c.clean }
      by_test false e less before = record { number = n; before = omega arith; clean = e }

  pub clean_round : (lost : List Lost) → length lost ≤ 3 → HasCleanRound since lost
  clean_round lost few = let c : IsCleanBefore 4 lost = found 4 lost (omega (arith, no_more_rounds 4 lost, few)) in record { number = c.number; early = omega (arith, c.before); clean = c.clean }

-- the steps that lead there
pub leads_steps : {C : Type 0} (rules : Rules C) (service : Service) (loses : ℕ → Bool) (n : ℕ) (w last : LossyPair C) → LeadsTo service rules loses n w last → steps service rules loses n w ≡ last
leads_steps rules service loses zero w last same = same
leads_steps rules service loses (suc n) w last leads = leads_steps rules service loses n (step service rules loses w) last leads.1

pub few_losses_keep_a_round_clean : {C : Type 0} (rules : Rules C) → FewLossesKeepARoundClean rules
few_losses_keep_a_round_clean {C} rules service loses since w few count last way =
    clean_round since last.lost (subst (λ (v : LossyPair C). length v.lost ≤ 3) (leads_steps rules service loses count w last way) (few count))
