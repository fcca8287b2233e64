-- A read that has begun, at one moment: nothing times out, and what it says fits.
use Rattle.std.proofs.Common.{◌≡◌, ℕ, ◌+◌, ◌<◌, ◌≤◌, ◌==◌, ◌&&◌, ◌^◌, not, nat_lt, Bool, true, false, length, None, IfSome, refl, arith}
use Rattle.std.proofs.lemmas.Bool.Decides.{nat_tests}
use Rattle.rpc_ids.specs.declared.Status.{Status}
use Rattle.transfer_base.specs.declared.limits.TheConstants.{MAX_RESOURCE, TIMEOUT}
use Rattle.transfer_base.specs.Deadline.{deadline_after}
use Rattle.transfer_receiver.specs.declared.phase.Phase.{Phase}
use Rattle.transfer_receiver.specs.declared.phase.Phase.TheVariants as phase
use Rattle.transfer_receiver.specs.Phase.{is_open, is_recovering}
use Rattle.transfer_receiver.specs.Receiver.{Receiver, new_receiver}
use Rattle.transfer_receiver.specs.PieceRules.{PieceOutcome, active_at, is_half_used, keeping, piece_outcome}
use Rattle.transfer_words.specs.Word.{Word, start, start_ack, confirmation, parameters, data_comes, completion, completion_ack}
use Rattle.transfer_words.specs.Saying.{Stepped}
use Rattle.transfer_client.specs.declared.stages.Wait.{Wait}
use Rattle.transfer_client.specs.declared.stages.Reading.{Reading}
use Rattle.transfer_client.specs.declared.stages.Reading.TheVariants as reading
use Rattle.transfer_client.specs.Hearing.{GoesOn}
use Rattle.transfer_client.specs.Read.{Download, acknowledged, agrees, asking_hears, at_stage, completed, deadline_at, end_at, hears_at, read_rules, receiving_hears}
use Rattle.transfer_client.proofs.HearingLaws.{polls_hear, read_waits}
use Rattle.transfer_laws.proofs.words.Receivers.{AllFit, IsBounded, first_fits, new_bounded, piece_done}
use Rattle.link_laws.specs.world.World.{reads}
use Rattle.link_laws.specs.lossless_transfer.Finishes.{ReadFits}
use Rattle.link_laws.proofs.lossless_transfer.Machines.{IsWrapped, KeepsOn, if_both}

-- whatever a receiver does with a piece, its moment stays
piece_active : (r : Receiver) (offset size : ℕ) (last : Bool) → (piece_outcome r offset size last).after.active ≡ r.active
piece_active r offset size last =
    if_both P (is_open r.phase) _ _
    (if_both P (nat_lt offset r.next) _ _ refl
    (if_both P ((size == 0) && not last) _ _ refl
    (if_both P (nat_lt r.next offset) _ _ (if_both P (is_recovering r.phase) _ _ refl refl)
    (if_both P (nat_lt r.window_end (offset + size)) _ _ refl
    (if_both P (nat_lt MAX_RESOURCE (offset + size)) _ _ refl
    (if_both P last _ _ refl
    (if_both P (is_half_used (keeping r (offset + size))) _ _ refl refl)))))))
    refl
  where
    P : PieceOutcome → Type 0
    P o = o.after.active ≡ r.active

module _ (now : ℕ) (early : now + TIMEOUT < 2 ^ 63) where
  -- it has begun, and was last active now
  abbrev pub At : Reading → Type 0
  At reading.Unasked = ⊥
  At (reading.Asking w) = w.active ≡ now
  At (reading.Receiving r) = IsBounded r × (r.active ≡ now)
  At (reading.Over status) = Unit {0}

  pub record CanRead (d : Download) : Type 0 where
    pub fits : ReadFits d
    pub stands : At d.stage

  in_time : (active : ℕ) → active ≡ now → now < deadline_after active
  in_time active same = omega (arith, same, early)

  awake_at : (stage : Reading) → At stage → IfSome (deadline_at stage) (λ at. now < at)
  awake_at reading.Unasked at = tt
  awake_at (reading.Asking w) at = in_time w.active at
  awake_at (reading.Receiving r) at = in_time r.active at.1
  awake_at (reading.Over status) at = tt

  goes_on_at : (d : Download) (stage : Reading) → At stage → end_at stage ≡ None → GoesOn read_rules (at_stage d stage)
  goes_on_at d reading.Unasked at going = absurd at
  goes_on_at d (reading.Asking w) at going = λ t. (refl, refl)
  goes_on_at d (reading.Receiving r) at going = λ t. (refl, refl)
  goes_on_at d (reading.Over status) at going = absurd cc

  abbrev Hears : Stepped Download → Type 0
  Hears t = CanRead t.after × AllFit t.sayings

  moves : (d : Download) (stage : Reading) → ReadFits d → At stage → CanRead (at_stage d stage)
  moves d stage fits at = record { fits = record { resource = fits.resource; asked = fits.asked; window = fits.window; chunk = fits.chunk }; stands = at }

  agrees_by : (d : Download) (agreed : ℕ) (b : Bool) → nat_lt d.asked agreed ≡ b → ReadFits d → Hears (agrees d agreed now)
  agrees_by d agreed b e fits = at b e
    where
      not_past : (n : ℕ) → nat_lt n agreed ≡ false → agreed ≤ n
      not_past n e = grind (arith, nat_tests)

      at : (b : Bool) → nat_lt d.asked agreed ≡ b → Hears (agrees d agreed now)
      at true e = rw e (moves d _ fits tt, (tt, tt))
      at false e =
          let within : agreed ≤ MAX_RESOURCE = (let low = not_past d.asked e in let high = fits.asked in omega (arith, low, high)) in
          let bounded : IsBounded (new_receiver agreed d.window d.chunk now) = new_bounded agreed d.window d.chunk now within fits.window fits.chunk in
          rw e (
            record { fits = record { resource = fits.resource; asked = fits.asked; window = fits.window; chunk = fits.chunk }; stands = (bounded, refl) },
            (tt, ((first_fits (new_receiver agreed d.window d.chunk now) bounded, refl), tt)),
          )

  asking_on : (d : Download) (w : Wait) (word : Word) → ReadFits d → w.active ≡ now → Hears (asking_hears d w word now)
  asking_on d w (start_ack agreed) fits at = agrees_by d agreed (nat_lt d.asked agreed) refl fits
  asking_on d w (completion status) fits at = (moves d _ fits tt, (tt, tt))
  asking_on d w (start a b) fits at = (moves d _ fits refl, tt)
  asking_on d w (confirmation ask) fits at = (moves d _ fits refl, tt)
  asking_on d w (parameters ask) fits at = (moves d _ fits refl, tt)
  asking_on d w (data_comes p) fits at = (moves d _ fits refl, tt)
  asking_on d w completion_ack fits at = (moves d _ fits refl, tt)

  completed_on : (d : Download) (p : Phase) (status : Status) → CanRead d → Hears (completed d p status)
  completed_on d phase.Receiving status can = (moves d _ can.fits tt, (tt, (tt, tt)))
  completed_on d phase.Recovering status can = (moves d _ can.fits tt, (tt, (tt, tt)))
  completed_on d (phase.Completing own) status can = (can, (tt, tt))
  completed_on d phase.Ended status can = (moves d _ can.fits tt, (tt, (tt, tt)))

  acknowledged_on : (d : Download) (p : Phase) → CanRead d → Hears (acknowledged d p)
  acknowledged_on d phase.Receiving can = (can, tt)
  acknowledged_on d phase.Recovering can = (can, tt)
  acknowledged_on d (phase.Completing own) can = (moves d _ can.fits tt, tt)
  acknowledged_on d phase.Ended can = (can, tt)

  receiving_on : (d : Download) (r : Receiver) (word : Word) → CanRead d → IsBounded r × (r.active ≡ now) → Hears (receiving_hears d r word now)
  receiving_on d r (data_comes p) can at =
      let done = piece_done p.bytes r p.offset (length p.bytes) now p.last at.0 in
      (moves d _ can.fits (done.0, piece_active (active_at now r) p.offset (length p.bytes) p.last), done.1)
  receiving_on d r (completion status) can at = completed_on d r.phase status can
  receiving_on d r completion_ack can at = acknowledged_on d r.phase can
  receiving_on d r (start a b) can at = (can, tt)
  receiving_on d r (start_ack a) can at = (can, tt)
  receiving_on d r (confirmation ask) can at = (can, tt)
  receiving_on d r (parameters ask) can at = (can, tt)

  hears_on : (d : Download) (stage : Reading) (word : Word) → ReadFits d → At stage → Hears (hears_at (at_stage d stage) stage word now)
  hears_on d reading.Unasked word fits at = absurd at
  hears_on d (reading.Asking w) word fits at = asking_on (at_stage d (reading.Asking w)) w word (moves d (reading.Asking w) fits at).fits at
  hears_on d (reading.Receiving r) word fits at = receiving_on (at_stage d (reading.Receiving r)) r word (moves d (reading.Receiving r) fits at) at
  hears_on d (reading.Over status) word fits at = (moves d (reading.Over status) fits at, tt)

  pub read_keeps : KeepsOn read_rules now CanRead
  read_keeps = record {
    awake = λ d can. awake_at d.stage can.stands;
    goes_on = λ d can going. goes_on_at d d.stage can.stands going;
    hears = λ d word can. hears_on d d.stage word can.fits can.stands;
  }

pub reads_wrapped : IsWrapped read_rules reads
reads_wrapped = record {
  ends = λ d. refl;
  polls = λ session d mail now. refl;
  says = λ session d mail now. refl;
  waits = read_waits;
  hears = polls_hear read_rules read_waits;
}
