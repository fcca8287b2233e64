-- A write that has begun, at one moment: nothing times out, and what it says fits.
use Rattle.std.proofs.Common.{◌≡◌, ℕ, ◌+◌, ◌<◌, ◌≤◌, ◌^◌, nat_lt, length, Option, Some, None, IfSome, refl, arith}
use Rattle.rpc_ids.specs.declared.Status.{Status}
use Rattle.transfer_base.specs.declared.Ask.{Ask}
use Rattle.transfer_base.specs.declared.limits.TheConstants.{MAX_RESOURCE, TIMEOUT}
use Rattle.transfer_base.specs.Deadline.{deadline_after}
use Rattle.transfer_sender.specs.Answer.{Answer, answer_to, is_past_end}
use Rattle.transfer_sender.specs.Sender.{Sender, new_sender, touched}
use Rattle.transfer_words.specs.Word.{Word, start, start_ack, confirmation, parameters, data_comes, completion, completion_ack}
use Rattle.transfer_words.specs.Saying.{Stepped}
use Rattle.transfer_client.specs.declared.stages.Wait.{Wait}
use Rattle.transfer_client.specs.declared.stages.Writing.{Writing}
use Rattle.transfer_client.specs.declared.stages.Writing.TheVariants as writing
use Rattle.transfer_client.specs.Hearing.{GoesOn}
use Rattle.transfer_client.specs.Write.{Upload, agrees, asking_hears, at_stage, confirming_hears, deadline_at, end_at, hears_at, sending_hears, sending_or_over, sends, write_offset, write_rules}
use Rattle.transfer_client.proofs.HearingLaws.{polls_hear, write_waits}
use Rattle.transfer_laws.proofs.words.Receivers.{AllFit}
use Rattle.transfer_laws.proofs.words.ServiceFits.{answer_fits}
use Rattle.link_laws.specs.world.World.{writes}
use Rattle.link_laws.specs.lossless_transfer.Finishes.{WriteFits}
use Rattle.link_laws.proofs.lossless_transfer.Machines.{IsWrapped, KeepsOn, if_both}

-- a sender that answers stays at its moment
answer_active : (s : Sender) (ask : Ask) → (answer_to s ask).after.active ≡ s.active
answer_active s ask = if_both P (is_past_end s ask) _ _ refl refl
  where
    P : Answer → Type 0
    P a = a.after.active ≡ s.active

module _ (now : ℕ) (early : now + TIMEOUT < 2 ^ 63) where
  -- it has begun, and was last active now
  abbrev pub At : Writing → Type 0
  At writing.Unasked = ⊥
  At (writing.Asking w) = w.active ≡ now
  At (writing.Confirming w) = w.active ≡ now
  At (writing.Sending s) = (length s.bytes ≤ MAX_RESOURCE) × (s.active ≡ now)
  At (writing.Over status) = Unit {0}

  pub record CanWrite (u : Upload) : Type 0 where
    pub fits : WriteFits u
    pub stands : At u.stage

  in_time : (active : ℕ) → active ≡ now → now < deadline_after active
  in_time active same = omega (arith, same, early)

  awake_at : (stage : Writing) → At stage → IfSome (deadline_at stage) (λ at. now < at)
  awake_at writing.Unasked at = tt
  awake_at (writing.Asking w) at = in_time w.active at
  awake_at (writing.Confirming w) at = in_time w.active at
  awake_at (writing.Sending s) at = in_time s.active at.1
  awake_at (writing.Over status) at = tt

  goes_on_at : (u : Upload) (stage : Writing) → At stage → end_at stage ≡ None → GoesOn write_rules (at_stage u stage)
  goes_on_at u writing.Unasked at going = absurd at
  goes_on_at u (writing.Asking w) at going = λ t. (refl, refl)
  goes_on_at u (writing.Confirming w) at going = λ t. (refl, refl)
  goes_on_at u (writing.Sending s) at going = λ t. (refl, refl)
  goes_on_at u (writing.Over status) at going = absurd cc

  abbrev Hears : Stepped Upload → Type 0
  Hears t = CanWrite t.after × AllFit t.sayings

  moves : (u : Upload) (stage : Writing) → WriteFits u → At stage → CanWrite (at_stage u stage)
  moves u stage fits at = record { fits = record { resource = fits.resource; size = fits.size; within = fits.within }; stands = at }

  agrees_on : (u : Upload) (agreed : ℕ) → WriteFits u → Hears (agrees u agreed now)
  agrees_on u agreed fits =
      if_both Hears (nat_lt u.asked agreed) _ _ (moves u _ fits tt, (tt, tt))
      (record { fits = record { resource = fits.resource; size = fits.size; within = fits.within }; stands = refl }, (((omega arith, omega arith, omega arith), refl), tt))

  asking_on : (u : Upload) (w : Wait) (word : Word) → WriteFits u → Hears (asking_hears u w word now)
  asking_on u w (start_ack agreed) fits = agrees_on u agreed fits
  asking_on u w (completion status) fits = (moves u _ fits tt, (tt, tt))
  asking_on u w (start a b) fits = (moves u _ fits refl, tt)
  asking_on u w (confirmation ask) fits = (moves u _ fits refl, tt)
  asking_on u w (parameters ask) fits = (moves u _ fits refl, tt)
  asking_on u w (data_comes p) fits = (moves u _ fits refl, tt)
  asking_on u w completion_ack fits = (moves u _ fits refl, tt)

  sending_by : (u : Upload) (s : Sender) (o : Option Status) → WriteFits u → length s.bytes ≤ MAX_RESOURCE → s.active ≡ now → CanWrite (at_stage u (sending_or_over s o))
  sending_by u s None fits size active = moves u _ fits (size, active)
  sending_by u s (Some status) fits size active = moves u _ fits tt

  sends_on : (u : Upload) (s : Sender) (ask : Ask) → WriteFits u → length s.bytes ≤ MAX_RESOURCE → Hears (sends u s ask now)
  sends_on u s ask fits size =
      let a : Answer = answer_to (touched s now) ask in
      let done = answer_fits (touched s now) ask size in
      (sending_by u a.after a.after.ended fits done.0 (answer_active (touched s now) ask), done.1)

  confirming_on : (u : Upload) (w : Wait) (word : Word) → WriteFits u → Hears (confirming_hears u w word now)
  confirming_on u w (parameters ask) fits = sends_on u (new_sender u.bytes (write_offset u) now) ask fits fits.size
  confirming_on u w (completion status) fits = (moves u _ fits tt, (tt, tt))
  confirming_on u w (start a b) fits = (moves u _ fits refl, tt)
  confirming_on u w (start_ack a) fits = (moves u _ fits refl, tt)
  confirming_on u w (confirmation ask) fits = (moves u _ fits refl, tt)
  confirming_on u w (data_comes p) fits = (moves u _ fits refl, tt)
  confirming_on u w completion_ack fits = (moves u _ fits refl, tt)

  sending_on : (u : Upload) (s : Sender) (word : Word) → WriteFits u → length s.bytes ≤ MAX_RESOURCE → Hears (sending_hears u s word now)
  sending_on u s (parameters ask) fits size = sends_on u s ask fits size
  sending_on u s (completion status) fits size = (moves u _ fits tt, (tt, tt))
  sending_on u s (start a b) fits size = (moves u _ fits (size, refl), tt)
  sending_on u s (start_ack a) fits size = (moves u _ fits (size, refl), tt)
  sending_on u s (confirmation ask) fits size = (moves u _ fits (size, refl), tt)
  sending_on u s (data_comes p) fits size = (moves u _ fits (size, refl), tt)
  sending_on u s completion_ack fits size = (moves u _ fits (size, refl), tt)

  hears_on : (u : Upload) (stage : Writing) (word : Word) → WriteFits u → At stage → Hears (hears_at (at_stage u stage) stage word now)
  hears_on u writing.Unasked word fits at = absurd at
  hears_on u (writing.Asking w) word fits at = asking_on (at_stage u (writing.Asking w)) w word (moves u (writing.Asking w) fits at).fits
  hears_on u (writing.Confirming w) word fits at = confirming_on (at_stage u (writing.Confirming w)) w word (moves u (writing.Confirming w) fits at).fits
  hears_on u (writing.Sending s) word fits at = sending_on (at_stage u (writing.Sending s)) s word (moves u (writing.Sending s) fits at).fits at.0
  hears_on u (writing.Over status) word fits at = (moves u (writing.Over status) fits at, tt)

  pub write_keeps : KeepsOn write_rules now CanWrite
  write_keeps = record {
    awake = λ u can. awake_at u.stage can.stands;
    goes_on = λ u can going. goes_on_at u u.stage can.stands going;
    hears = λ u word can. hears_on u u.stage word can.fits can.stands;
  }

pub writes_wrapped : IsWrapped write_rules writes
writes_wrapped = record {
  ends = λ u. refl;
  polls = λ session u mail now. refl;
  says = λ session u mail now. refl;
  waits = write_waits;
  hears = polls_hear write_rules write_waits;
}
