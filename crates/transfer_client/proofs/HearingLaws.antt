-- Before its deadline a transfer does nothing by itself, and a poll with one word does just what the word does.
use Rattle.std.proofs.Common.{◌≡◌, ℕ, ◌+◌, ◌<◌, refl, ap, ◌∙◌, false, [], ◌∷◌, ◌++◌, Some, None, IfSome, Ok, arith}
use Rattle.std.proofs.lemmas.Bool.{lt-leb, eq-eqb}
use Rattle.std.proofs.lemmas.List.{append-nil}
use Rattle.task_core.specs.declared.mail.Mail.TheVariants.{Text}
use Rattle.transfer_base.specs.declared.limits.TheConstants.{TIMEOUT}
use Rattle.transfer_base.specs.Deadline.{deadline_after}
use Rattle.transfer_words.specs.Word.{Word, start, start_ack, confirmation, parameters, data_comes, completion, completion_ack}
use Rattle.transfer_words.specs.Spoken.{spoken, text_in, word_of, IsHeardBack}
use Rattle.transfer_words.specs.Saying.{Stepped}
use Rattle.transfer_words.proofs.SpokenLaws.{words_are_heard}
use Rattle.transfer_client.specs.declared.stages.Reading.{Reading}
use Rattle.transfer_client.specs.declared.stages.Reading.TheVariants as reading
use Rattle.transfer_client.specs.declared.stages.Writing.{Writing}
use Rattle.transfer_client.specs.declared.stages.Writing.TheVariants as writing
use Rattle.transfer_client.specs.Machine.{Rules, staying}
use Rattle.transfer_client.specs.Read as read
use Rattle.transfer_client.specs.Write as write
use Rattle.transfer_client.specs.Wait.{is_late_since}
use Rattle.transfer_client.specs.Polling.{heard_word, heard_in, takes_all, ticked, behind}
use Rattle.transfer_client.specs.Hearing.{IsOfSession, all_of, WordsAreHeardBack, WaitsInPeace, PollsHearWords}

not_late : (active now : ℕ) → now < deadline_after active → is_late_since active now ≡ false
not_late active now early = lt-leb (active + TIMEOUT) now (omega arith)

read_waits_at : (d : read.Download) (stage : Reading) (now : ℕ) → IfSome (read.deadline_at stage) (λ at. now < at) →
    read.ticks_at (read.at_stage d stage) stage now ≡ staying (read.at_stage d stage)
read_waits_at d reading.Unasked now early = refl
read_waits_at d (reading.Asking w) now early = rw (not_late w.active now early) refl
read_waits_at d (reading.Receiving r) now early = rw (not_late r.active now early) refl
read_waits_at d (reading.Over status) now early = refl

pub read_waits : WaitsInPeace read.read_rules
read_waits d now early = read_waits_at d d.stage now early

write_waits_at : (u : write.Upload) (stage : Writing) (now : ℕ) → IfSome (write.deadline_at stage) (λ at. now < at) →
    write.ticks_at (write.at_stage u stage) stage now ≡ staying (write.at_stage u stage)
write_waits_at u writing.Unasked now early = refl
write_waits_at u (writing.Asking w) now early = rw (not_late w.active now early) refl
write_waits_at u (writing.Confirming w) now early = rw (not_late w.active now early) refl
write_waits_at u (writing.Sending s) now early = rw (not_late s.active now early) refl
write_waits_at u (writing.Over status) now early = refl

pub write_waits : WaitsInPeace write.write_rules
write_waits u now early = write_waits_at u u.stage now early

-- each word but a START is said in its session
in_session : (session : ℕ) (w : Word) → IsOfSession w → (spoken session w).session ≡ Some session
in_session session (start resource offset) of = absurd of
in_session session (start_ack offset) of = refl
in_session session (confirmation ask) of = refl
in_session session (parameters ask) of = refl
in_session session (data_comes p) of = refl
in_session session (completion status) of = refl
in_session session completion_ack of = refl

word_in_session : (session : ℕ) (w : Word) → IsOfSession w → word_of (spoken session w) ≡ Some w →
    heard_in {E = ℕ} session (Ok (spoken session w)) ≡ Some w
word_in_session session w of says = rw (in_session session w of, eq-eqb session session refl) says

heard_back : WordsAreHeardBack
heard_back session w small fits of =
    let back : IsHeardBack session w = words_are_heard session w small fits in
    ap (λ r. heard_in session r) back.read ∙ word_in_session session w of back.says

module _ {A : Type 0} (k : Rules A) where
  -- one word is taken, and no mail is left
  one_taken : (session : ℕ) (t : A) (w : Word) (now : ℕ) → k.end_of t ≡ None → heard_word session (text_in session w) ≡ Some w →
      takes_all k session t (Text (text_in session w) ∷ []) now ≡ all_of (k.hears t w now)
  one_taken session t w now goes heard =
      rw (goes, heard)
      (ap (λ sayings. record { after = (k.hears t w now).after; sayings = sayings; left = [] }) (append-nil (k.hears t w now).sayings))

  -- the time changes nothing then
  all_ticked : (session : ℕ) (h : Stepped A) (now : ℕ) → k.ticks h.after now ≡ staying h.after → ticked k session (all_of h) now ≡ all_of h
  all_ticked session h now peace =
      ap (λ s. record { after = s.after; sayings = h.sayings ++ s.sayings; left = [] }) peace
      ∙ ap (λ sayings. record { after = h.after; sayings = sayings; left = [] }) (append-nil h.sayings)

  pub polls_hear : WaitsInPeace k → PollsHearWords k
  polls_hear waits session t w now small fits of goes early =
      ap (λ s. behind s.sayings (ticked k session (takes_all k session s.after (Text (text_in session w) ∷ []) now) now)) ((goes now).0)
      ∙ (ap (λ taken. ticked k session taken now) (one_taken session t w now ((goes now).1) (heard_back session w small fits of))
      ∙ all_ticked session (k.hears t w now) now (waits (k.hears t w now).after now early))
