-- A transfer that waited in vain: at its timeout it moves on to the later moment, and what it says fits.
use Rattle.std.proofs.Common.{◌≡◌, ℕ, ◌+◌, ◌<◌, ◌≤◌, ◌==◌, ◌^◌, nat_le, nat_lt, Bool, true, false, if◌then◌else◌, [], length, Some, None, refl, sym, ap, ◌∙◌, subst, arith}
use Rattle.std.proofs.lemmas.Bool.Decides.{nat_tests}
use Rattle.rpc_ids.specs.declared.Status.TheVariants.{DeadlineExceeded}
use Rattle.transfer_base.specs.declared.limits.TheConstants.{MAX_RESOURCE, TIMEOUT}
use Rattle.transfer_receiver.specs.declared.answers.Ticked.{Ticked}
use Rattle.transfer_receiver.specs.declared.answers.Ticked.TheVariants.{Quiet, Resend, ResendEnd, Over}
use Rattle.transfer_receiver.specs.declared.phase.Phase.{Phase}
use Rattle.transfer_receiver.specs.declared.phase.Phase.TheVariants as phase
use Rattle.transfer_receiver.specs.declared.receiver.TheConstants.{MAX_RESENDS}
use Rattle.transfer_receiver.specs.Phase.{is_open}
use Rattle.transfer_receiver.specs.Receiver.{Receiver}
use Rattle.transfer_receiver.specs.PieceRules.{active_at}
use Rattle.transfer_receiver.specs.TickRules.{TickOutcome, staying as quiet, tick_outcome, timeout_outcome}
use Rattle.transfer_sender.specs.declared.sender.TheConstants.{MAX_TIMEOUTS}
use Rattle.transfer_sender.specs.Sender.{Sender, end_by_timeouts}
use Rattle.transfer_words.specs.Saying.{Stepped}
use Rattle.transfer_client.specs.declared.stages.Reading.{Reading}
use Rattle.transfer_client.specs.declared.stages.Reading.TheVariants as reading
use Rattle.transfer_client.specs.declared.stages.Writing.{Writing}
use Rattle.transfer_client.specs.declared.stages.Writing.TheVariants as writing
use Rattle.transfer_client.specs.Hearing.{GoesOn, all_of}
use Rattle.transfer_client.specs.Machine.{Rules, staying}
use Rattle.transfer_client.specs.Polling.{behind, polled, takes_all, ticked as timed}
use Rattle.transfer_client.specs.Read as read
use Rattle.transfer_client.specs.Write as write
use Rattle.transfer_client.specs.Wait.{has_resends}
use Rattle.transfer_laws.proofs.words.Receivers.{AllFit, IsBounded, tick_done}
use Rattle.link_laws.specs.lossless_transfer.Finishes.{ReadFits, WriteFits}
use Rattle.link_laws.proofs.lossless_transfer.Machines.{if_both}
use Rattle.link_laws.proofs.lossless_transfer.ReadSteps as reads
use Rattle.link_laws.proofs.lossless_transfer.WriteSteps as writes

is_past : (active now : ℕ) → active ≡ now → nat_le (active + TIMEOUT) (now + TIMEOUT) ≡ true
is_past active now same = grind (arith, nat_tests, same)

-- a poll without mail does just what the time does
pub polls_late : {A : Type 0} (rules : Rules A) (session : ℕ) (t : A) (now : ℕ) → GoesOn rules t → polled rules session t [] now ≡ all_of (rules.ticks t now)
polls_late rules session t now goes = ap (λ s. behind s.sayings (timed rules session (takes_all rules session s.after [] now) now)) (goes now).0

-- at a timeout of a receiver its moment is that
tick_active : (r : Receiver) (now : ℕ) → r.active ≡ now → (tick_outcome r (now + TIMEOUT)).after.active ≡ now + TIMEOUT
tick_active r now same =
    ap (λ b. (if b then timeout_outcome (active_at (now + TIMEOUT) r) r.phase else quiet r).after.active) (is_past r.active now same) ∙ by_phase r.phase
  where
    P : TickOutcome → Type 0
    P o = o.after.active ≡ now + TIMEOUT

    by_phase : (p : Phase) → (timeout_outcome (active_at (now + TIMEOUT) r) p).after.active ≡ now + TIMEOUT
    by_phase phase.Receiving = if_both P (nat_lt r.resends MAX_RESENDS) _ _ refl refl
    by_phase phase.Recovering = if_both P (nat_lt r.resends MAX_RESENDS) _ _ refl refl
    by_phase (phase.Completing status) = if_both P (nat_lt r.resends MAX_RESENDS) _ _ refl refl
    by_phase phase.Ended = refl

module _ (now : ℕ) (early : now + TIMEOUT < 2 ^ 63) (still_early : now + TIMEOUT + TIMEOUT < 2 ^ 63) where
  -- A READ

  abbrev Read : Stepped read.Download → Type 0
  Read t = reads.CanRead (now + TIMEOUT) still_early t.after × AllFit t.sayings

  read_moves : (d : read.Download) (stage : Reading) → ReadFits d → reads.At (now + TIMEOUT) still_early stage → reads.CanRead (now + TIMEOUT) still_early (read.at_stage d stage)
  read_moves d stage fits at = record { fits = record { resource = fits.resource; asked = fits.asked; window = fits.window; chunk = fits.chunk }; stands = at }

  receiving_late : (d : read.Download) (r : Receiver) (o : TickOutcome) → ReadFits d → IsBounded o.after → o.after.active ≡ now + TIMEOUT → (a : Ticked) → reads.CanRead (now + TIMEOUT) still_early (read.at_stage d (read.receiving_or_over o.after a))
  receiving_late d r o fits bounded active Quiet = read_moves d (reading.Receiving o.after) fits (bounded, active)
  receiving_late d r o fits bounded active (Resend ask) = read_moves d (reading.Receiving o.after) fits (bounded, active)
  receiving_late d r o fits bounded active (ResendEnd status) = read_moves d (reading.Receiving o.after) fits (bounded, active)
  receiving_late d r o fits bounded active (Over status) = read_moves d (reading.Over status) fits tt

  read_late_at : (d : read.Download) (stage : Reading) → ReadFits d → reads.At now early stage → Read (read.ticks_at (read.at_stage d stage) stage (now + TIMEOUT))
  read_late_at d reading.Unasked fits at = absurd at
  read_late_at d (reading.Asking w) fits at =
      let d' : read.Download = read.at_stage d (reading.Asking w) in
      subst (λ b. Read (if b then read.asking_timeout d' w (now + TIMEOUT) else staying d')) (sym (is_past w.active now at))
      (if_both Read (has_resends w) _ _ (read_moves d _ fits refl, ((fits.resource, asked_fits fits.asked), tt)) (read_moves d _ fits tt, tt))
    where
      asked_fits : d.asked ≤ MAX_RESOURCE → d.asked < 2 ^ 64
      asked_fits high = omega (arith, high)
  read_late_at d (reading.Receiving r) fits at =
      let o : TickOutcome = tick_outcome r (now + TIMEOUT) in
      let tick = tick_done (is_open r.phase) r (now + TIMEOUT) at.0 in
      (receiving_late d r o fits tick.0 (tick_active r now at.1) o.answer, tick.1)
  read_late_at d (reading.Over status) fits at = (read_moves d (reading.Over status) fits tt, tt)

  pub read_late : (d : read.Download) → reads.CanRead now early d → Read (read.read_rules.ticks d (now + TIMEOUT))
  read_late d can = read_late_at d d.stage can.fits can.stands

  -- A WRITE

  abbrev Written : Stepped write.Upload → Type 0
  Written t = writes.CanWrite (now + TIMEOUT) still_early t.after × AllFit t.sayings

  write_moves : (u : write.Upload) (stage : Writing) → WriteFits u → writes.At (now + TIMEOUT) still_early stage → writes.CanWrite (now + TIMEOUT) still_early (write.at_stage u stage)
  write_moves u stage fits at = record { fits = record { resource = fits.resource; size = fits.size; within = fits.within }; stands = at }

  write_late_at : (u : write.Upload) (stage : Writing) → WriteFits u → writes.At now early stage → Written (write.ticks_at (write.at_stage u stage) stage (now + TIMEOUT))
  write_late_at u writing.Unasked fits at = absurd at
  write_late_at u (writing.Asking w) fits at =
      let u' : write.Upload = write.at_stage u (writing.Asking w) in
      subst (λ b. Written (if b then write.asking_timeout u' w (now + TIMEOUT) else staying u')) (sym (is_past w.active now at))
      (if_both Written (has_resends w) _ _ (write_moves u _ fits refl, ((fits.resource, asked_fits fits.size fits.within), tt)) (write_moves u _ fits tt, tt))
    where
      asked_fits : length u.bytes ≤ MAX_RESOURCE → u.asked ≤ length u.bytes → u.asked < 2 ^ 64
      asked_fits size within = omega (arith, size, within)
  write_late_at u (writing.Confirming w) fits at =
      let u' : write.Upload = write.at_stage u (writing.Confirming w) in
      subst (λ b. Written (if b then write.confirming_timeout u' w (now + TIMEOUT) else staying u')) (sym (is_past w.active now at))
      (if_both Written (has_resends w) _ _ (write_moves u _ fits refl, (((omega arith, omega arith, omega arith), refl), tt)) (write_moves u _ fits tt, tt))
  write_late_at u (writing.Sending s) fits at =
      let u' : write.Upload = write.at_stage u (writing.Sending s) in
      let late : Sender = record s { active = now + TIMEOUT; timeouts = s.timeouts + 1; ended = end_by_timeouts (s.timeouts + 1) } in
      subst (λ b. Written (if b then write.sending_timeout u' (if b then late else s) else staying u')) (sym (is_past s.active now at.1)) (by_end (s.timeouts + 1 == MAX_TIMEOUTS))
    where
      by_end : (b : Bool)
          → Written (write.sending_timeout (write.at_stage u (writing.Sending s)) (record s { active = now + TIMEOUT; timeouts = s.timeouts + 1; ended = if b then Some DeadlineExceeded else None }))
      by_end true = (write_moves u _ fits tt, (tt, tt))
      by_end false = (write_moves u _ fits (at.0, refl), tt)
  write_late_at u (writing.Over status) fits at = (write_moves u (writing.Over status) fits tt, tt)

  pub write_late : (u : write.Upload) → writes.CanWrite now early u → Written (write.write_rules.ticks u (now + TIMEOUT))
  write_late u can = write_late_at u u.stage can.fits can.stands
