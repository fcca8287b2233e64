-- What the two cores do where time has passed until the timeout, and how the data phase goes on then.
use Rattle.std.proofs.Common.{◌≡◌, ℕ, suc, ◌+◌, ◌≤◌, ◌==◌, ◌⊎◌, inl, inr, nat_le, nat_lt, Bool, true, false, if◌then◌else◌, [], ◌∷◌, Some, None, refl, sym, ap, ◌∙◌, subst, arith}
use Rattle.std.proofs.lemmas.Bool.Decides.{nat_tests}
use Rattle.rpc_ids.specs.declared.Status.{Status}
use Rattle.rpc_ids.specs.declared.Status.TheVariants.{DeadlineExceeded}
use Rattle.transfer_base.specs.declared.limits.TheConstants.{TIMEOUT}
use Rattle.transfer_receiver.specs.declared.answers.Ticked.TheVariants.{Resend, ResendEnd}
use Rattle.transfer_receiver.specs.declared.phase.Phase.{Phase}
use Rattle.transfer_receiver.specs.declared.phase.Phase.TheVariants.{Receiving, Recovering, Completing, Ended}
use Rattle.transfer_receiver.specs.declared.receiver.TheConstants.{MAX_RESENDS}
use Rattle.transfer_receiver.specs.Phase.{is_open}
use Rattle.transfer_receiver.specs.Receiver.{Receiver, ask_of, asking, span_of_ask}
use Rattle.transfer_receiver.specs.PieceRules.{active_at}
use Rattle.transfer_receiver.specs.TickRules.{giving_up, resending_ask, resending_end, staying, tick_outcome, timeout_outcome}
use Rattle.transfer_sender.specs.Sender.{Sender, end_by_timeouts, ticked}
use Rattle.transfer_words.specs.Word.{parameters}
use Rattle.transfer_laws.proofs.losses.Grid.{Setup}
use Rattle.transfer_laws.proofs.losses.DataPhase.{Flowing, IsClean, Takes, ends, flows, sender_at, sound_ask, takes_asked, waits}

-- it is late
pub is_past : (active now : ℕ) → active + TIMEOUT ≤ now → nat_le (active + TIMEOUT) now ≡ true
is_past active now late = grind (arith, nat_tests)

pub may_resend : (resends : ℕ) → resends ≤ 2 → nat_lt resends MAX_RESENDS ≡ true
may_resend resends few = grind (arith, nat_tests)

pub may_not_resend : (resends : ℕ) → 3 ≤ resends → nat_lt resends MAX_RESENDS ≡ false
may_not_resend resends many = grind (arith, nat_tests)

-- a receiver that has asked again
abbrev pub asked_again : ℕ → Receiver → Receiver
asked_again now r = record (asking true (active_at now r)) { resends = r.resends + 1 }

timeout_when_open : (r : Receiver) (phase : Phase) → is_open phase ≡ true → timeout_outcome r phase ≡ resending_ask r
timeout_when_open r Receiving e = refl
timeout_when_open r Recovering e = refl
timeout_when_open r (Completing status) e = absurd (grind (arith, nat_tests, e))
timeout_when_open r Ended e = absurd (grind (arith, nat_tests, e))

pub asks_again : (r : Receiver) (now : ℕ) → is_open r.phase ≡ true → r.resends ≤ 2 → r.active + TIMEOUT ≤ now
    → tick_outcome r now ≡ record { after = asked_again now r; answer = Resend (ask_of true (asked_again now r)) }
asks_again r now opens few late =
    ap (λ b. if b then timeout_outcome (active_at now r) r.phase else staying r) (is_past r.active now late)
    ∙ (timeout_when_open (active_at now r) r.phase opens
    ∙ ap (λ b. if b then record { after = asked_again now r; answer = Resend (ask_of true (asked_again now r)) } else giving_up (active_at now r) DeadlineExceeded) (may_resend r.resends few))

-- or gives up
pub asks_no_more : (r : Receiver) (now : ℕ) → is_open r.phase ≡ true → 3 ≤ r.resends → r.active + TIMEOUT ≤ now → tick_outcome r now ≡ giving_up (active_at now r) DeadlineExceeded
asks_no_more r now opens many late =
    ap (λ b. if b then timeout_outcome (active_at now r) r.phase else staying r) (is_past r.active now late)
    ∙ (timeout_when_open (active_at now r) r.phase opens
    ∙ ap (λ b. if b then record { after = asked_again now r; answer = Resend (ask_of true (asked_again now r)) } else giving_up (active_at now r) DeadlineExceeded) (may_not_resend r.resends many))

-- a receiver that has told its end
abbrev pub telling : Status → Receiver → Receiver
telling status r = record r { phase = Completing status }

abbrev pub told_again : ℕ → Receiver → Receiver
told_again now r = record r { active = now; resends = r.resends + 1 }

pub tells_again : (status : Status) (r : Receiver) (now : ℕ) → r.resends ≤ 2 → r.active + TIMEOUT ≤ now
    → tick_outcome (telling status r) now ≡ record { after = telling status (told_again now r); answer = ResendEnd status }
tells_again status r now few late =
    ap (λ b. if b then resending_end (active_at now (telling status r)) status else staying (telling status r)) (is_past r.active now late)
    ∙ ap (λ b. if b then record { after = telling status (told_again now r); answer = ResendEnd status } else giving_up (active_at now (telling status r)) status) (may_resend r.resends few)

pub tells_no_more : (status : Status) (r : Receiver) (now : ℕ) → 3 ≤ r.resends → r.active + TIMEOUT ≤ now → tick_outcome (telling status r) now ≡ giving_up (active_at now (telling status r)) status
tells_no_more status r now many late =
    ap (λ b. if b then resending_end (active_at now (telling status r)) status else staying (telling status r)) (is_past r.active now late)
    ∙ ap (λ b. if b then record { after = telling status (told_again now r); answer = ResendEnd status } else giving_up (active_at now (telling status r)) status) (may_not_resend r.resends many)

module _ (k : Setup) where
  -- a sender only counts
  pub sender_counts : (P : Sender → Type 0) (p active timeouts now : ℕ) → timeouts ≤ 3 → ((active' timeouts' : ℕ) → timeouts' ≤ timeouts + 1 → P (sender_at k p active' timeouts')) → P (ticked (sender_at k p active timeouts) now)
  sender_counts P p active timeouts now few goes = by_late (nat_le (active + TIMEOUT) now)
    where
      goes_on : (timeouts + 1 == 5) ≡ false
      goes_on = grind (arith, nat_tests, few)

      by_late : (b : Bool) → P (if b then record (sender_at k p active timeouts) { active = now; timeouts = timeouts + 1; ended = end_by_timeouts (timeouts + 1) } else sender_at k p active timeouts)
      by_late true = subst (λ b. P (record (sender_at k p active timeouts) { active = now; timeouts = timeouts + 1; ended = if b then Some DeadlineExceeded else None })) (sym goes_on) (goes now (timeouts + 1) (omega arith))
      by_late false = goes active timeouts (omega arith)

  -- one more, or the last one
  pub counts_on : (p active timeouts now : ℕ) → active + TIMEOUT ≤ now → timeouts ≤ 3 → ticked (sender_at k p active timeouts) now ≡ sender_at k p now (timeouts + 1)
  counts_on p active timeouts now late few =
      ap (λ b. if b then record (sender_at k p active timeouts) { active = now; timeouts = timeouts + 1; ended = end_by_timeouts (timeouts + 1) } else sender_at k p active timeouts) (is_past active now late)
      ∙ ap (λ b. record (sender_at k p active timeouts) { active = now; timeouts = timeouts + 1; ended = if b then Some DeadlineExceeded else None }) goes_on
    where
      goes_on : (timeouts + 1 == 5) ≡ false
      goes_on = grind (arith, nat_tests, few)

  pub counts_out : (p active now : ℕ) → active + TIMEOUT ≤ now → ticked (sender_at k p active 4) now ≡ record (sender_at k p now 5) { ended = Some DeadlineExceeded }
  counts_out p active now late =
      ap (λ b. if b then record (sender_at k p active 4) { active = now; timeouts = 5; ended = Some DeadlineExceeded } else sender_at k p active 4) (is_past active now late)

  module _ (times : ℕ) (Lossy : Type 0) (r : Receiver) (w p now : ℕ) (f : Flowing k times Lossy r w p [] []) where
    -- where no word is on its way, the round has lost one
    pub lost_some : Lossy
    lost_some = by_fresh f.fresh
      where
        by_clean : IsClean k r w p [] [] → ⊥
        by_clean (waits none one) = one
        by_clean (ends full one none) = one
        by_clean (flows u below position (inl come) ask) = omega (arith, come, ask, f.takes.low)
        by_clean (flows u below position (inr past) ask) = omega (arith, past, below)

        by_fresh : Lossy ⊎ IsClean k r w p [] [] → Lossy
        by_fresh (inl lost) = lost
        by_fresh (inr clean) = absurd (by_clean clean)

    abbrev pub span : ℕ
    span = span_of_ask true (active_at now r)

    takes_again : Takes k (asked_again now r) span
    takes_again = takes_asked k true (active_at now r) (asked_again now r) f.takes.begins f.takes.span_low f.takes.span_high f.takes.chunk f.takes.opens refl refl refl refl

    -- it asks again, and the ask goes on,
    pub flows_again : (Then : Type 0) → Flowing k (suc times) Then (asked_again now r) span p [] (parameters (ask_of true (asked_again now r)) ∷ [])
    flows_again Then = record {
      takes = takes_again;
      stands = f.stands;
      resends = omega (arith, f.resends);
      all_sent = tt;
      all_asked = (sound_ask k true true (asked_again now r) span takes_again, tt);
      fresh = inr (waits tt ((refl, refl, refl), tt));
    }

    -- or is lost
    pub waits_again : (Then : Type 0) → Then → Flowing k (suc times) Then (asked_again now r) span p [] []
    waits_again Then lost = record { takes = takes_again; stands = f.stands; resends = omega (arith, f.resends); all_sent = tt; all_asked = tt; fresh = inl lost }
