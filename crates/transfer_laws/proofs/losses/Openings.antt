-- The opening of a session, whatever is lost in it, at the service and at a client alike.
use Rattle.std.proofs.Common.{◌≡◌, ℕ, suc, ◌+◌, ◌≤◌, ◌==◌, ◌⊎◌, inl, inr, nat_le, Bool, true, false, if◌then◌else◌, List, [], ◌∷◌, ◌++◌, Option, Some, refl, sym, subst, arith}
use Rattle.std.proofs.lemmas.Bool.Decides.{nat_tests}
use Rattle.std.specs.List.{AllByRecursion}
use Rattle.rpc_ids.specs.declared.Status.TheVariants.{DeadlineExceeded}
use Rattle.transfer_base.specs.declared.limits.TheConstants.{TIMEOUT}
use Rattle.transfer_words.specs.Word.{Word, start, start_ack, data_comes, completion}
use Rattle.transfer_words.specs.Saying.{Stepped, says}
use Rattle.transfer_resume.specs.declared.side.Side.{Side}
use Rattle.transfer_resume.specs.declared.stage.Opening.{Opening}
use Rattle.transfer_resume.specs.declared.stage.Stage.{Stage}
use Rattle.transfer_resume.specs.declared.stage.Stage.TheVariants as stage
use Rattle.transfer_resume.specs.Opening.{leaving, opening_timeout}
use Rattle.transfer_resume.specs.Session.{staying, stepped}
use Rattle.transfer_client.specs.declared.stages.Wait.{Wait}
use Rattle.transfer_client.specs.Wait as waiting
use Rattle.transfer_laws.specs.losses.Drops.{Lost, lost_at, session_ticks}
use Rattle.transfer_laws.proofs.losses.Grid.{Setup}
use Rattle.transfer_laws.proofs.losses.Rounds.{IsLossy, Passed, just_lost, next_round, one_lost}
use Rattle.transfer_laws.proofs.losses.DataPhase.{IsData}

pub false_is : false ≡ true → ⊥
false_is e = grind (arith, nat_tests, e)

pub same : (n : ℕ) → (n == n) ≡ true
same n = grind (arith, nat_tests)

-- where it is told of a word whether it is on its way: how many steps it makes at most
abbrev pub bit : Bool → ℕ
bit true = 2
bit false = 0

-- the word brings a piece
abbrev pub IsPieceWord : Word → Type 0
IsPieceWord (data_comes p) = Unit {0}
IsPieceWord _ = ⊥

pub as_pieces : (k : Setup) (xs : List Word) → AllByRecursion (IsData k) xs → AllByRecursion IsPieceWord xs
as_pieces k [] all = tt
as_pieces k (y ∷ ys) all = (by_word y all.0, as_pieces k ys all.1)
  where
    by_word : (y : Word) → IsData k y → IsPieceWord y
    by_word (data_comes p) is = tt
    by_word _ is = absurd is

-- where the word is that the opening waits for
pub data Spot : Type 0 where
  nowhere : Spot
  coming : Spot
  back : Spot

abbrev pub IsSomewhere : Spot → Type 0
IsSomewhere nowhere = ⊥
IsSomewhere coming = Unit {0}
IsSomewhere back = Unit {0}

abbrev pub steps_of : Spot → ℕ
steps_of nowhere = 0
steps_of coming = 2
steps_of back = 1

pub lost_some : (Lossy : Type 0) → Lossy ⊎ IsSomewhere nowhere → Lossy
lost_some Lossy (inl some) = some
lost_some Lossy (inr is) = absurd is

-- the service has answered in this round, so that it has counted no timeout since
abbrev pub IsHeard : Spot → ℕ → Type 0
IsHeard nowhere timeouts = Unit {0}
IsHeard coming timeouts = Unit {0}
IsHeard back timeouts = timeouts ≡ 0

-- the service has opened the session, and the client may not know it
pub record Opens (since times : ℕ) (w : Wait) (timeouts : ℕ) (spot : Spot) (lost : List Lost) (now : ℕ) : Type 0 where
  pub resends : w.resends ≤ times
  pub timeouts_few : timeouts ≤ w.resends
  pub heard : IsHeard spot timeouts
  pub active : w.active ≤ now
  pub passed : Passed since times lost now
  pub fresh : IsLossy times lost now ⊎ IsSomewhere spot

-- the client asks, and a word is on its way where b tells it, unless the round has lost one
pub record Waits (since times : ℕ) (w : Wait) (timeouts : ℕ) (b : Bool) (lost : List Lost) (now : ℕ) : Type 0 where
  pub resends : w.resends ≤ times
  pub timeouts_few : timeouts ≤ w.resends
  pub active : w.active ≤ now
  pub passed : Passed since times lost now
  pub fresh : IsLossy times lost now ⊎ (b ≡ true)

pub lost_any : (Lossy : Type 0) → Lossy ⊎ (false ≡ true) → Lossy
lost_any Lossy (inl some) = some
lost_any Lossy (inr e) = absurd (false_is e)

-- Time has passed, and the client has asked again: what it said is lost, or goes on.
module _ (since times : ℕ) (w : Wait) (t t' : ℕ) (lost : List Lost) (now : ℕ) (lossy : IsLossy times lost now) (counted : t' ≤ t + 1) where
  abbrev pub again : Wait
  again = waiting.again w (now + TIMEOUT)

  pub opens_lost : (said : Word) → Opens since times w t nowhere lost now → Opens since (suc times) again t' nowhere (lost_at (now + TIMEOUT) said ∷ lost) (now + TIMEOUT)
  opens_lost said f =
      let next : Passed since (suc times) lost (now + TIMEOUT) = next_round f.passed lossy in
      record {
        resends = omega (arith, f.resends);
        timeouts_few = omega (arith, counted, f.timeouts_few);
        heard = tt;
        active = omega arith;
        passed = one_lost next;
        fresh = inl (just_lost next);
      }

  pub opens_on : Opens since times w t nowhere lost now → Opens since (suc times) again t' coming lost (now + TIMEOUT)
  opens_on f = record {
    resends = omega (arith, f.resends);
    timeouts_few = omega (arith, counted, f.timeouts_few);
    heard = tt;
    active = omega arith;
    passed = next_round f.passed lossy;
    fresh = inr tt;
  }

  pub waits_lost : (said : Word) → Waits since times w t false lost now → Waits since (suc times) again t' false (lost_at (now + TIMEOUT) said ∷ lost) (now + TIMEOUT)
  waits_lost said f =
      let next : Passed since (suc times) lost (now + TIMEOUT) = next_round f.passed lossy in
      record {
        resends = omega (arith, f.resends);
        timeouts_few = omega (arith, counted, f.timeouts_few);
        active = omega arith;
        passed = one_lost next;
        fresh = inl (just_lost next);
      }

  pub waits_on : Waits since times w t false lost now → Waits since (suc times) again t' true lost (now + TIMEOUT)
  waits_on f = record {
    resends = omega (arith, f.resends);
    timeouts_few = omega (arith, counted, f.timeouts_few);
    active = omega arith;
    passed = next_round f.passed lossy;
    fresh = inr refl;
  }

-- the resource, the offset that is asked for, and the one that is agreed
module _ (resource asked agreed : ℕ) where
  abbrev pub up_of : Spot → List Word
  up_of nowhere = []
  up_of coming = start resource asked ∷ []
  up_of back = []

  abbrev pub down_of : Spot → List Word
  down_of nowhere = []
  down_of coming = []
  down_of back = start_ack agreed ∷ []

  abbrev pub opening_at : ℕ → ℕ → Opening
  opening_at active timeouts = record { resource = resource; agreed = agreed; active = active; timeouts = timeouts }

  abbrev pub opening : ℕ → ℕ → Option Stage
  opening active timeouts = Some (stage.Opening (opening_at active timeouts))

  -- where time passes the service only counts
  pub opening_counts : (side : Side) (P : Stepped (Option Stage) → Type 0) (a t now : ℕ) → t ≤ 3 → ((a' t' : ℕ) → t' ≤ t + 1 → P (record { after = opening a' t'; sayings = [] }))
      → P (session_ticks side now (opening a t))
  opening_counts side P a t now few goes = by_late (nat_le (a + TIMEOUT) now)
    where
      goes_on : (t + 1 == 5) ≡ false
      goes_on = grind (arith, nat_tests, few)

      counted : P (record { after = opening now (t + 1); sayings = [] })
      counted = goes now (t + 1) (omega arith)

      by_late : (b : Bool) → P (stepped (if b then opening_timeout side now (opening_at a t) else staying (stage.Opening (opening_at a t))))
      by_late true =
          subst (λ b. P (stepped (if b then record { after = stage.Ended DeadlineExceeded; sayings = leaving side ++ says (completion DeadlineExceeded) ∷ [] } else staying (stage.Opening (opening_at now (t + 1))))))
          (sym goes_on) counted
      by_late false = goes a t (omega arith)
