-- A client that waits for the answer to a read, and asks again where time has passed, whatever the service makes of that.
use Rattle.std.proofs.Common.{ℕ, ◌+◌, ◌≤◌, Bool, if◌then◌else◌, List, [], ◌∷◌, ◌++◌, Option, sym, subst, arith}
use Rattle.rpc_ids.specs.declared.Status.TheVariants.{DeadlineExceeded}
use Rattle.transfer_base.specs.declared.limits.TheConstants.{TIMEOUT}
use Rattle.transfer_words.specs.Word.{Word, start}
use Rattle.transfer_words.specs.Saying.{Stepped}
use Rattle.transfer_resume.specs.declared.stage.Stage.{Stage}
use Rattle.transfer_client.specs.declared.stages.Reading.TheVariants as reading
use Rattle.transfer_client.specs.declared.stages.Wait.{Wait}
use Rattle.transfer_client.specs.Machine.{staying}
use Rattle.transfer_client.specs.Read.{Download, asking_timeout, asks, at_stage, read_rules}
use Rattle.transfer_client.specs.Wait as waiting
use Rattle.transfer_laws.specs.losses.Drops.{Lost, LossyPair, lost_at, time_passed}
use Rattle.transfer_laws.proofs.losses.Late.{is_past, may_resend}
use Rattle.transfer_laws.proofs.losses.Losing.{one_word}

-- the two ends of a read, with these words on their way and these lost
abbrev pub state : Option Stage → Download → List Word → List Word → ℕ → List Lost → ℕ → ℕ → LossyPair Download
state server client up down m lost now time = record { pair = record { server = server; client = client; to_server = up; to_client = down; said = m }; lost = lost; now = now; time = time }

module _ (loses : ℕ → Bool) (d : Download) (w : Wait) where
  abbrev waits : Wait → Download
  waits w = at_stage d (reading.Asking w)

  -- what holds where the new START is lost, and where it goes on, holds behind the timeout
  pub asks_late : (P : LossyPair Download → Type 0) (service service' : Option Stage) (m : ℕ) (lost : List Lost) (now time : ℕ) → w.resends ≤ 2 → w.active ≤ now
      → P (state service' (waits (waiting.again w (now + TIMEOUT))) [] [] (m + 1 + 0) (lost_at (now + TIMEOUT) (start d.resource d.asked) ∷ lost) (now + TIMEOUT) (now + TIMEOUT))
      → P (state service' (waits (waiting.again w (now + TIMEOUT))) (start d.resource d.asked ∷ []) [] (m + 1 + 0) lost (now + TIMEOUT) (now + TIMEOUT))
      → P (time_passed loses (state service (waits w) [] [] m lost now time) (now + TIMEOUT) (read_rules.ticks (waits w) (now + TIMEOUT)) (record { after = service'; sayings = [] }))
  asks_late P service service' m lost now time few active is_lost goes_on =
      subst (λ b. P (late (if b then asking_timeout (waits w) w (now + TIMEOUT) else staying (waits w)))) (sym (is_past w.active (now + TIMEOUT) (omega (arith, active))))
      (subst (λ b. P (late (if b then asks (waits w) (waiting.again w (now + TIMEOUT)) else staying (at_stage (waits w) (reading.Over DeadlineExceeded))))) (sym (may_resend w.resends few))
      (one_word loses (now + TIMEOUT) (λ goes lost'. P (state service' (waits (waiting.again w (now + TIMEOUT))) goes [] (m + 1 + 0) (lost' ++ lost) (now + TIMEOUT) (now + TIMEOUT))) (start d.resource d.asked) m is_lost goes_on))
    where
      late : Stepped Download → LossyPair Download
      late t = time_passed loses (state service (waits w) [] [] m lost now time) (now + TIMEOUT) t (record { after = service'; sayings = [] })
