-- What a poll of a transfer leaves as it is.
use Rattle.std.proofs.Common.{◌≡◌, ◌⊎◌, ℕ, Bool, true, false, if◌then◌else◌, List, [], ◌∷◌, Option, Some, None, is_some, refl, ap, sym, ◌∙◌, inl, inr}
use Rattle.std.proofs.lemmas.Bool.{false≢true}
use Rattle.std.specs.Prelude.{nat_lt}
use Rattle.rpc_ids.specs.declared.Status.{Status}
use Rattle.task_core.specs.declared.mail.Mail.{Mail}
use Rattle.task_core.specs.declared.mail.Mail.TheVariants.{Text, Closed}
use Rattle.transfer_receiver.specs.declared.phase.Phase.{Phase}
use Rattle.transfer_receiver.specs.declared.phase.Phase.TheVariants.{Receiving as receiving, Recovering, Completing, Ended}
use Rattle.transfer_words.specs.Word.{Word, start, start_ack, confirmation, parameters, data_comes, completion, completion_ack}
use Rattle.transfer_words.specs.Saying.{Stepped}
use Rattle.transfer_client.specs.declared.stages.Reading.{Reading}
use Rattle.transfer_client.specs.declared.stages.Reading.TheVariants as reading
use Rattle.transfer_client.specs.declared.stages.Writing.{Writing}
use Rattle.transfer_client.specs.declared.stages.Writing.TheVariants as writing
use Rattle.transfer_client.specs.Machine.{Rules, staying}
use Rattle.transfer_client.specs.Polling.{behind, heard_word, hears_any, polled, takes, takes_all, ticked}
use Rattle.transfer_client.specs.Read as read
use Rattle.transfer_client.specs.Read.{Download, read_rules}
use Rattle.transfer_client.specs.Write as write
use Rattle.transfer_client.specs.Write.{Upload, write_rules}
use Rattle.transfer_client.specs.Wait.{has_resends, is_late, is_late_since}

-- one that has ended stays as it is, and what it is about stays
pub record IsLasting {A : Type 0} (k : Rules A) (about : A → ℕ) : Type 0 where
  pub over_opens : (t : A) (now : ℕ) → is_some (k.end_of t) ≡ true → k.opens t now ≡ staying t
  pub over_ticks : (t : A) (now : ℕ) → is_some (k.end_of t) ≡ true → k.ticks t now ≡ staying t
  pub opens : (t : A) (now : ℕ) → about (k.opens t now).after ≡ about t
  pub hears : (t : A) (w : Word) (now : ℕ) → about (k.hears t w now).after ≡ about t
  pub closes : (t : A) (status : Status) → about (k.closes t status).after ≡ about t
  pub ticks : (t : A) (now : ℕ) → about (k.ticks t now).after ≡ about t

module _ {A : Type 0} (k : Rules A) (about : A → ℕ) (lasting : IsLasting k about) (session now : ℕ) where
  takes_about : (t : A) (m : Mail) → about (takes k session t m now).after ≡ about t
  takes_about t (Text text) = at (heard_word session text)
    where
      at : (o : Option Word) → about (hears_any k session t o now).after ≡ about t
      at None = refl
      at (Some w) = lasting.hears t w now
  takes_about t (Closed status) = lasting.closes t status

  all_about : (t : A) (mail : List Mail) → about (takes_all k session t mail now).after ≡ about t
  all_about t [] = refl
  all_about t (m ∷ mail) =
      at (is_some (k.end_of t)) (all_about (takes k session t m now).after mail)
    where
      at : (b : Bool) → about (takes_all k session (takes k session t m now).after mail now).after ≡ about (takes k session t m now).after
          → about (if b then record { after = t; sayings = []; left = m ∷ mail } else behind (takes k session t m now).sayings (takes_all k session (takes k session t m now).after mail now)).after ≡ about t
      at true rest = refl
      at false rest = rest ∙ takes_about t m

  -- a poll leaves what the transfer is about
  pub polled_about : (t : A) (mail : List Mail) → about (polled k session t mail now).after ≡ about t
  polled_about t mail =
      lasting.ticks (takes_all k session (k.opens t now).after mail now).after now ∙ (all_about (k.opens t now).after mail ∙ lasting.opens t now)

  over_takes : (t : A) (mail : List Mail) → is_some (k.end_of t) ≡ true → takes_all k session t mail now ≡ record { after = t; sayings = []; left = mail }
  over_takes t [] over = refl
  over_takes t (m ∷ mail) over =
      ap (λ b. if b then record { after = t; sayings = []; left = m ∷ mail } else behind (takes k session t m now).sayings (takes_all k session (takes k session t m now).after mail now)) over

  -- one that has ended isn't changed by a poll
  pub polled_over : (t : A) (mail : List Mail) → is_some (k.end_of t) ≡ true → polled k session t mail now ≡ record { after = t; sayings = []; left = mail }
  polled_over t mail over =
      ap (λ o. behind o.sayings (ticked k session (takes_all k session o.after mail now) now)) (lasting.over_opens t now over)
      ∙ (ap (λ all. ticked k session all now) (over_takes t mail over)
      ∙ ap (λ s. record { after = s.after; sayings = s.sayings; left = mail }) (lasting.over_ticks t now over))

  all_taken : (t : A) (mail : List Mail) → ((takes_all k session t mail now).left ≡ []) ⊎ (is_some (k.end_of (takes_all k session t mail now).after) ≡ true)
  all_taken t [] = inl refl
  all_taken t (m ∷ mail) = at (is_some (k.end_of t)) refl (all_taken (takes k session t m now).after mail)
    where
      at : (b : Bool) → is_some (k.end_of t) ≡ b
          → ((takes_all k session (takes k session t m now).after mail now).left ≡ []) ⊎ (is_some (k.end_of (takes_all k session (takes k session t m now).after mail now).after) ≡ true)
          → ((if b then record { after = t; sayings = []; left = m ∷ mail } else behind (takes k session t m now).sayings (takes_all k session (takes k session t m now).after mail now)).left ≡ [])
          ⊎ (is_some (k.end_of (if b then record { after = t; sayings = []; left = m ∷ mail } else behind (takes k session t m now).sayings (takes_all k session (takes k session t m now).after mail now)).after) ≡ true)
      at true over rest = inr over
      at false goes rest = rest

  -- one that goes on has taken all its mail
  pub polled_left : (t : A) (mail : List Mail) → k.end_of (polled k session t mail now).after ≡ None → (polled k session t mail now).left ≡ []
  polled_left t mail goes = at (all_taken (k.opens t now).after mail)
    where
      at : ((takes_all k session (k.opens t now).after mail now).left ≡ []) ⊎ (is_some (k.end_of (takes_all k session (k.opens t now).after mail now).after) ≡ true)
          → (takes_all k session (k.opens t now).after mail now).left ≡ []
      at (inl none) = none
      at (inr over) = absurd (false≢true (sym (ap is_some goes) ∙ (ap (λ s. is_some (k.end_of s.after)) (lasting.over_ticks (takes_all k session (k.opens t now).after mail now).after now over) ∙ over)))

-- a fact of both outcomes
either : {A B : Type 0} (f : A → B) (x : B) (b : Bool) (y z : A) → f y ≡ x → f z ≡ x → f (if b then y else z) ≡ x
either f x true y z left right = left
either f x false y z left right = right

-- Reads.

read_over_opens : (d : Download) (stage : Reading) (now : ℕ) → is_some (read.end_at stage) ≡ true → read.opens_at d stage now ≡ staying d
read_over_opens d reading.Unasked now over = absurd (false≢true over)
read_over_opens d (reading.Asking w) now over = refl
read_over_opens d (reading.Receiving r) now over = refl
read_over_opens d (reading.Over status) now over = refl

read_over_ticks : (d : Download) (stage : Reading) (now : ℕ) → is_some (read.end_at stage) ≡ true → read.ticks_at d stage now ≡ staying d
read_over_ticks d reading.Unasked now over = absurd (false≢true over)
read_over_ticks d (reading.Asking w) now over = absurd (false≢true over)
read_over_ticks d (reading.Receiving r) now over = absurd (false≢true over)
read_over_ticks d (reading.Over status) now over = refl

read_opens : (d : Download) (stage : Reading) (now : ℕ) → (read.opens_at d stage now).after.resource ≡ d.resource
read_opens d reading.Unasked now = refl
read_opens d (reading.Asking w) now = refl
read_opens d (reading.Receiving r) now = refl
read_opens d (reading.Over status) now = refl

read_completed : (d : Download) (phase : Phase) (status : Status) → (read.completed d phase status).after.resource ≡ d.resource
read_completed d receiving status = refl
read_completed d Recovering status = refl
read_completed d (Completing own) status = refl
read_completed d Ended status = refl

read_acknowledged : (d : Download) (phase : Phase) → (read.acknowledged d phase).after.resource ≡ d.resource
read_acknowledged d receiving = refl
read_acknowledged d Recovering = refl
read_acknowledged d (Completing own) = refl
read_acknowledged d Ended = refl

read_hears : (d : Download) (stage : Reading) (w : Word) (now : ℕ) → (read.hears_at d stage w now).after.resource ≡ d.resource
read_hears d reading.Unasked w now = refl
read_hears d (reading.Asking wait) (start resource offset) now = refl
read_hears d (reading.Asking wait) (start_ack agreed) now =
    either (λ (s : Stepped Download). s.after.resource) d.resource (nat_lt d.asked agreed) _ _ refl refl
read_hears d (reading.Asking wait) (confirmation ask) now = refl
read_hears d (reading.Asking wait) (parameters ask) now = refl
read_hears d (reading.Asking wait) (data_comes p) now = refl
read_hears d (reading.Asking wait) (completion status) now = refl
read_hears d (reading.Asking wait) completion_ack now = refl
read_hears d (reading.Receiving r) (start resource offset) now = refl
read_hears d (reading.Receiving r) (start_ack agreed) now = refl
read_hears d (reading.Receiving r) (confirmation ask) now = refl
read_hears d (reading.Receiving r) (parameters ask) now = refl
read_hears d (reading.Receiving r) (data_comes p) now = refl
read_hears d (reading.Receiving r) (completion status) now = read_completed d r.phase status
read_hears d (reading.Receiving r) completion_ack now = read_acknowledged d r.phase
read_hears d (reading.Over status) w now = refl

read_closes : (d : Download) (stage : Reading) (status : Status) → (read.closes_at d stage status).after.resource ≡ d.resource
read_closes d reading.Unasked status = refl
read_closes d (reading.Asking w) status = refl
read_closes d (reading.Receiving r) status = refl
read_closes d (reading.Over ended) status = refl

read_ticks : (d : Download) (stage : Reading) (now : ℕ) → (read.ticks_at d stage now).after.resource ≡ d.resource
read_ticks d reading.Unasked now = refl
read_ticks d (reading.Asking w) now =
    either (λ (s : Stepped Download). s.after.resource) d.resource (is_late w now) _ _
    (either (λ (s : Stepped Download). s.after.resource) d.resource (has_resends w) _ _ refl refl) refl
read_ticks d (reading.Receiving r) now = refl
read_ticks d (reading.Over status) now = refl

pub reads_last : IsLasting read_rules (λ d. d.resource)
reads_last = record {
  over_opens = λ d now over. read_over_opens d d.stage now over;
  over_ticks = λ d now over. read_over_ticks d d.stage now over;
  opens = λ d now. read_opens d d.stage now;
  hears = λ d w now. read_hears d d.stage w now;
  closes = λ d status. read_closes d d.stage status;
  ticks = λ d now. read_ticks d d.stage now;
}

-- Writes.

write_over_opens : (u : Upload) (stage : Writing) (now : ℕ) → is_some (write.end_at stage) ≡ true → write.opens_at u stage now ≡ staying u
write_over_opens u writing.Unasked now over = absurd (false≢true over)
write_over_opens u (writing.Asking w) now over = refl
write_over_opens u (writing.Confirming w) now over = refl
write_over_opens u (writing.Sending s) now over = refl
write_over_opens u (writing.Over status) now over = refl

write_over_ticks : (u : Upload) (stage : Writing) (now : ℕ) → is_some (write.end_at stage) ≡ true → write.ticks_at u stage now ≡ staying u
write_over_ticks u writing.Unasked now over = absurd (false≢true over)
write_over_ticks u (writing.Asking w) now over = absurd (false≢true over)
write_over_ticks u (writing.Confirming w) now over = absurd (false≢true over)
write_over_ticks u (writing.Sending s) now over = absurd (false≢true over)
write_over_ticks u (writing.Over status) now over = refl

write_opens : (u : Upload) (stage : Writing) (now : ℕ) → (write.opens_at u stage now).after.resource ≡ u.resource
write_opens u writing.Unasked now = refl
write_opens u (writing.Asking w) now = refl
write_opens u (writing.Confirming w) now = refl
write_opens u (writing.Sending s) now = refl
write_opens u (writing.Over status) now = refl

write_hears : (u : Upload) (stage : Writing) (w : Word) (now : ℕ) → (write.hears_at u stage w now).after.resource ≡ u.resource
write_hears u writing.Unasked w now = refl
write_hears u (writing.Asking wait) (start resource offset) now = refl
write_hears u (writing.Asking wait) (start_ack agreed) now =
    either (λ (s : Stepped Upload). s.after.resource) u.resource (nat_lt u.asked agreed) _ _ refl refl
write_hears u (writing.Asking wait) (confirmation ask) now = refl
write_hears u (writing.Asking wait) (parameters ask) now = refl
write_hears u (writing.Asking wait) (data_comes p) now = refl
write_hears u (writing.Asking wait) (completion status) now = refl
write_hears u (writing.Asking wait) completion_ack now = refl
write_hears u (writing.Confirming wait) (start resource offset) now = refl
write_hears u (writing.Confirming wait) (start_ack agreed) now = refl
write_hears u (writing.Confirming wait) (confirmation ask) now = refl
write_hears u (writing.Confirming wait) (parameters ask) now = refl
write_hears u (writing.Confirming wait) (data_comes p) now = refl
write_hears u (writing.Confirming wait) (completion status) now = refl
write_hears u (writing.Confirming wait) completion_ack now = refl
write_hears u (writing.Sending s) (start resource offset) now = refl
write_hears u (writing.Sending s) (start_ack agreed) now = refl
write_hears u (writing.Sending s) (confirmation ask) now = refl
write_hears u (writing.Sending s) (parameters ask) now = refl
write_hears u (writing.Sending s) (data_comes p) now = refl
write_hears u (writing.Sending s) (completion status) now = refl
write_hears u (writing.Sending s) completion_ack now = refl
write_hears u (writing.Over status) w now = refl

write_closes : (u : Upload) (stage : Writing) (status : Status) → (write.closes_at u stage status).after.resource ≡ u.resource
write_closes u writing.Unasked status = refl
write_closes u (writing.Asking w) status = refl
write_closes u (writing.Confirming w) status = refl
write_closes u (writing.Sending s) status = refl
write_closes u (writing.Over ended) status = refl

write_ticks : (u : Upload) (stage : Writing) (now : ℕ) → (write.ticks_at u stage now).after.resource ≡ u.resource
write_ticks u writing.Unasked now = refl
write_ticks u (writing.Asking w) now =
    either (λ (s : Stepped Upload). s.after.resource) u.resource (is_late w now) _ _
    (either (λ (s : Stepped Upload). s.after.resource) u.resource (has_resends w) _ _ refl refl) refl
write_ticks u (writing.Confirming w) now =
    either (λ (s : Stepped Upload). s.after.resource) u.resource (is_late w now) _ _
    (either (λ (s : Stepped Upload). s.after.resource) u.resource (has_resends w) _ _ refl refl) refl
write_ticks u (writing.Sending s) now =
    either (λ (s : Stepped Upload). s.after.resource) u.resource (is_late_since s.active now) _ _ refl refl
write_ticks u (writing.Over status) now = refl

pub writes_last : IsLasting write_rules (λ u. u.resource)
writes_last = record {
  over_opens = λ u now over. write_over_opens u u.stage now over;
  over_ticks = λ u now over. write_over_ticks u u.stage now over;
  opens = λ u now. write_opens u u.stage now;
  hears = λ u w now. write_hears u u.stage w now;
  closes = λ u status. write_closes u u.stage status;
  ticks = λ u now. write_ticks u u.stage now;
}
