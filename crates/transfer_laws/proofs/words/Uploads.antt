-- What a write has said over its polls.
use Rattle.std.proofs.Common.{◌≡◌, ℕ, ◌+◌, ◌<◌, ◌≤◌, ◌==◌, ◌^◌, nat_lt, nat_le, Bool, true, false, if◌then◌else◌, List, [], ◌∷◌, ◌++◌, length, Option, Some, None, inl, inr, refl, sym, ap, ◌∙◌, subst, arith}
use Rattle.std.proofs.lemmas.Bool.Decides.{nat_tests}
use Rattle.std.proofs.lemmas.List.{append-nil}
use Rattle.std.proofs.lemmas.List.Elements.{recursion_from_All}
use Rattle.std.specs.List.{AllByRecursion}
use Rattle.rpc_ids.specs.declared.Status.{Status}
use Rattle.rpc_ids.specs.declared.Status.TheVariants.{Okay, OutOfRange, DeadlineExceeded, Aborted}
use Rattle.task_core.specs.declared.mail.Mail.{Mail}
use Rattle.task_core.specs.declared.mail.Mail.TheVariants.{Text, Closed}
use Rattle.transfer_base.specs.declared.Ask.{Ask}
use Rattle.transfer_base.specs.declared.Piece.{Piece}
use Rattle.transfer_base.specs.declared.limits.TheConstants.{MAX_RESOURCE, TIMEOUT}
use Rattle.transfer_base.specs.PieceLists.{IsPartOf, end_of}
use Rattle.transfer_sender.specs.declared.sender.TheConstants.{MAX_TIMEOUTS}
use Rattle.transfer_sender.specs.Sender.{Sender, new_sender, ticked, touched}
use Rattle.transfer_sender.specs.Answer.{Answer, answer_to, is_past_end, pieces_for, start_of}
use Rattle.transfer_sender.specs.Run.{ask_comes}
use Rattle.transfer_sender.proofs.RunLaws.{sends_parts}
use Rattle.transfer_receiver.specs.Answers.{is_okay}
use Rattle.transfer_words.specs.Word.{Word, start, start_ack, confirmation, parameters, data_comes, completion, completion_ack}
use Rattle.transfer_words.specs.Saying.{Saying, Stepped, says}
use Rattle.transfer_words.specs.CoreAnswers.{of_answer, of_timeout, said_or_ended, said_pieces}
use Rattle.transfer_client.specs.declared.stages.Wait.{Wait}
use Rattle.transfer_client.specs.declared.stages.Writing.{Writing}
use Rattle.transfer_client.specs.declared.stages.Writing.TheVariants as writing
use Rattle.transfer_client.specs.Wait as waiting
use Rattle.transfer_client.specs.Write.{Upload, answers, asks, asking_hears, asking_timeout, at_stage, closes_at, completed, confirming_hears, confirming_timeout, confirms, end_at, gives_up, hears_at, new_upload, no_ask, opens_at, sending_hears, sending_or_over, sending_timeout, sends, ticks_at, write_offset, write_rules}
use Rattle.transfer_laws.specs.words.Said.{FitsSaying, SaysOkayWhere, SaysPiecesOf}
use Rattle.transfer_laws.specs.words.Tasks.{AsksFor, HeardBy, HeardIn, Poll, SaysNoData, WordsIn, Writes, WritesAreHonest, said_over, stood}
use Rattle.transfer_laws.proofs.words.Sessions.{all_join}
use Rattle.transfer_laws.proofs.words.ServiceFits.{answer_fits}
use Rattle.transfer_laws.proofs.words.Polls.{KeepsSteps, poll_keeps}

module _ (resource : ℕ) (bytes : List ℕ) (asked : ℕ) (H : Word → Type 0) (r_small : resource < 2 ^ 32) (size : length bytes ≤ MAX_RESOURCE) (within : asked ≤ length bytes) where
  -- where a write stands so; a sender sends once an offset is agreed
  abbrev IsSome : Option ℕ → Type 0
  IsSome o = (a : ℕ) × (o ≡ Some a)

  abbrev At : Option ℕ → Writing → List Saying → Type 0
  At agreed writing.Unasked said = AllByRecursion SaysNoData said
  At agreed (writing.Asking w) said = AllByRecursion SaysNoData said
  At agreed (writing.Confirming w) said = IsSome agreed
  At agreed (writing.Sending s) said = IsSome agreed × (s.bytes ≡ bytes) × (s.ended ≡ None)
  At agreed (writing.Over status) said = (agreed ≡ None → AllByRecursion SaysNoData said) × (status ≡ Okay → H (completion Okay))

  -- what one saying is
  record Good (x : Saying) : Type 0 where
    fits : FitsSaying x
    asks : AsksFor resource asked x
    honest : SaysPiecesOf (Some bytes) x
    no_end : SaysOkayWhere false x

  record J (u : Upload) (said : List Saying) : Type 0 where
    resource_is : u.resource ≡ resource
    bytes_are : u.bytes ≡ bytes
    asked_is : u.asked ≡ asked
    good : AllByRecursion Good said
    stands : At u.agreed u.stage said
    agreed : (offset : ℕ) → u.agreed ≡ Some offset → (offset ≤ asked) × H (start_ack offset)

  -- it goes on to another stage, and says more
  goes : (u : Upload) (said : List Saying) (stage : Writing) (more : List Saying) → J u said → AllByRecursion Good more → At u.agreed stage (said ++ more)
      → J (at_stage u stage) (said ++ more)
  goes u said stage more j good stands = record {
    resource_is = j.resource_is;
    bytes_are = j.bytes_are;
    asked_is = j.asked_is;
    good = all_join Good said more j.good good;
    stands = stands;
    agreed = j.agreed;
  }

  no_data : (said more : List Saying) → AllByRecursion SaysNoData said → AllByRecursion SaysNoData more → AllByRecursion SaysNoData (said ++ more)
  no_data said more a b = all_join SaysNoData said more a b

  same : (u : Upload) (said : List Saying) → J u said → J u (said ++ [])
  same u said j = subst (J u) (sym (append-nil said)) j

  good_start : (u : Upload) (said : List Saying) → J u said → Good (says (start u.resource u.asked))
  good_start u said j = record {
    fits = (subst (λ n. n < 2 ^ 32) (sym j.resource_is) r_small, subst (λ n. n < 2 ^ 64) (sym j.asked_is) (omega (arith, within, size)));
    asks = (j.resource_is, j.asked_is);
    honest = tt;
    no_end = tt;
  }

  good_end : (status : Status) → (status ≡ Okay → ⊥) → Good (says (completion status))
  good_end status other = record { fits = tt; asks = tt; honest = tt; no_end = λ is. absurd (other is) }

  good_ack : Good (says completion_ack)
  good_ack = record { fits = tt; asks = tt; honest = tt; no_end = tt }

  good_confirmation : Good (says (confirmation no_ask))
  good_confirmation = record { fits = ((omega arith, omega arith, omega arith), refl); asks = tt; honest = tt; no_end = tt }

  asks_on : (u : Upload) (said : List Saying) (w : Wait) → J u said → AllByRecursion SaysNoData said → J (asks u w).after (said ++ (asks u w).sayings)
  asks_on u said w j none = goes u said (writing.Asking w) _ j (good_start u said j, tt) (no_data said _ none (tt, tt))

  open_keeps : (u : Upload) (said : List Saying) (stage : Writing) (now : ℕ) → u.stage ≡ stage → J u said → J (opens_at u stage now).after (said ++ (opens_at u stage now).sayings)
  open_keeps u said writing.Unasked now e j = asks_on u said (waiting.new_wait now) j (subst (λ s. At u.agreed s said) e j.stands)
  open_keeps u said (writing.Asking w) now e j = same u said j
  open_keeps u said (writing.Confirming w) now e j = same u said j
  open_keeps u said (writing.Sending s) now e j = same u said j
  open_keeps u said (writing.Over status) now e j = same u said j

  before_any : (u : Upload) (said : List Saying) (stage : Writing) → At u.agreed stage said → u.agreed ≡ None → AllByRecursion SaysNoData said
  before_any u said writing.Unasked at none = at
  before_any u said (writing.Asking w) at none = at
  before_any u said (writing.Confirming w) at none = absurd (no_some u.agreed at none)
    where
      no_some : (o : Option ℕ) → IsSome o → o ≡ None → ⊥
      no_some None is none = let e : ◌≡◌ {A = Option ℕ} None (Some is.0) = is.1 in absurd (cc e)
      no_some (Some a) is none = absurd (cc none)
  before_any u said (writing.Sending s) at none = absurd (no_some u.agreed at.0 none)
    where
      no_some : (o : Option ℕ) → IsSome o → o ≡ None → ⊥
      no_some None is none = let e : ◌≡◌ {A = Option ℕ} None (Some is.0) = is.1 in absurd (cc e)
      no_some (Some a) is none = absurd (cc none)
  before_any u said (writing.Over status) at none = at.0 none

  -- it ends
  over : (u : Upload) (said : List Saying) (status : Status) (more : List Saying) → J u said → AllByRecursion Good more → AllByRecursion SaysNoData more
      → (status ≡ Okay → H (completion Okay)) → J (at_stage u (writing.Over status)) (said ++ more)
  over u said status more j good none okay =
      goes u said (writing.Over status) more j good (λ e. no_data said more (before_any u said u.stage j.stands e) none, okay)

  completes : (u : Upload) (said : List Saying) (status : Status) → J u said → H (completion status) → J (completed u status).after (said ++ (completed u status).sayings)
  completes u said status j h = over u said status _ j (good_ack, tt) (tt, tt) (λ is. subst (λ s. H (completion s)) is h)

  agrees_by : (u : Upload) (said : List Saying) (agreed now : ℕ) (b : Bool) → nat_lt u.asked agreed ≡ b → J u said → H (start_ack agreed)
      → let t : Stepped Upload = if b then record { after = at_stage u (writing.Over OutOfRange); sayings = says (completion OutOfRange) ∷ [] } else confirms (record u { agreed = Some agreed }) (waiting.new_wait now) in
      J t.after (said ++ t.sayings)
  agrees_by u said agreed now true e j h = over u said OutOfRange _ j (good_end OutOfRange (λ is. cc), tt) (tt, tt) (λ is. absurd cc)
  agrees_by u said agreed now false e j h = record {
    resource_is = j.resource_is;
    bytes_are = j.bytes_are;
    asked_is = j.asked_is;
    good = all_join Good said _ j.good (good_confirmation, tt);
    stands = (agreed, refl);
    agreed = λ offset is. (let is_it : agreed ≡ offset = cc in (subst (λ n. n ≤ asked) is_it (subst (λ n. agreed ≤ n) j.asked_is (not_past u.asked e)), subst (λ n. H (start_ack n)) is_it h));
  }
    where
      not_past : (n : ℕ) → nat_lt n agreed ≡ false → agreed ≤ n
      not_past n e = grind (arith, nat_tests)

  asking_keeps : (u : Upload) (said : List Saying) (w : Wait) (x : Word) (now : ℕ) → J u said → AllByRecursion SaysNoData said → H x
      → J (asking_hears u w x now).after (said ++ (asking_hears u w x now).sayings)
  asking_keeps u said w (start_ack agreed) now j none h = agrees_by u said agreed now (nat_lt u.asked agreed) refl j h
  asking_keeps u said w (completion status) now j none h = completes u said status j h
  asking_keeps u said w (start a b) now j none h = goes u said (writing.Asking (waiting.touched w now)) [] j tt (no_data said [] none tt)
  asking_keeps u said w (confirmation ask) now j none h = goes u said (writing.Asking (waiting.touched w now)) [] j tt (no_data said [] none tt)
  asking_keeps u said w (parameters ask) now j none h = goes u said (writing.Asking (waiting.touched w now)) [] j tt (no_data said [] none tt)
  asking_keeps u said w (data_comes p) now j none h = goes u said (writing.Asking (waiting.touched w now)) [] j tt (no_data said [] none tt)
  asking_keeps u said w completion_ack now j none h = goes u said (writing.Asking (waiting.touched w now)) [] j tt (no_data said [] none tt)

  -- A sender.
  good_pieces : (ps : List Piece) → AllByRecursion (IsPartOf bytes) ps → AllByRecursion FitsSaying (said_pieces ps) → AllByRecursion Good (said_pieces ps)
  good_pieces [] parts fits = tt
  good_pieces (p ∷ ps) parts fits = (record { fits = fits.0; asks = tt; honest = parts.0; no_end = tt }, good_pieces ps parts.1 fits.1)

  going_by : (u : Upload) (said : List Saying) (s : Sender) (ps : List Piece) (o : Option Status) → s.ended ≡ o → o ≡ None → s.bytes ≡ bytes → IsSome u.agreed → J u said
      → AllByRecursion (IsPartOf bytes) ps → AllByRecursion FitsSaying (said_or_ended ps o) → J (at_stage u (sending_or_over s o)) (said ++ said_or_ended ps o)
  going_by u said s ps None e none is some j parts fits = goes u said (writing.Sending s) (said_pieces ps) j (good_pieces ps parts fits) (some, is, e)
  going_by u said s ps (Some status) e none is some j parts fits = absurd cc

  answer_by : (u : Upload) (said : List Saying) (s : Sender) (ask : Ask) (b : Bool) → s.ended ≡ None → s.bytes ≡ bytes → IsSome u.agreed → J u said
      → let a : Answer = if b then record { after = record s { ended = Some OutOfRange }; pieces = [] } else record { after = record s { position = end_of (start_of s ask) (pieces_for s ask) }; pieces = pieces_for s ask } in
      AllByRecursion (IsPartOf s.bytes) a.pieces → AllByRecursion FitsSaying (of_answer a) → J (answers u a).after (said ++ (answers u a).sayings)
  answer_by u said s ask true none is some j parts fits = over u said OutOfRange _ j (good_end OutOfRange (λ is. cc), tt) (tt, tt) (λ is. absurd cc)
  answer_by u said s ask false none is some j parts fits =
      going_by u said (record s { position = end_of (start_of s ask) (pieces_for s ask) }) (pieces_for s ask) s.ended refl none is some j
      (subst (λ x. AllByRecursion (IsPartOf x) (pieces_for s ask)) is parts) fits

  sends_on : (u : Upload) (said : List Saying) (s : Sender) (ask : Ask) (now : ℕ) → s.ended ≡ None → s.bytes ≡ bytes → IsSome u.agreed → J u said
      → J (sends u s ask now).after (said ++ (sends u s ask now).sayings)
  sends_on u said s ask now none is some j =
      answer_by u said (touched s now) ask (is_past_end (touched s now) ask) none is some j
      (subst (AllByRecursion (IsPartOf s.bytes)) (append-nil (answer_to (touched s now) ask).pieces)
      (recursion_from_All (IsPartOf s.bytes) _ (sends_parts s (ask_comes ask now ∷ []))))
      (answer_fits (touched s now) ask (subst (λ x. length x ≤ MAX_RESOURCE) (sym is) size)).1

  confirming_keeps : (u : Upload) (said : List Saying) (w : Wait) (x : Word) (now : ℕ) → J u said → IsSome u.agreed → H x
      → J (confirming_hears u w x now).after (said ++ (confirming_hears u w x now).sayings)
  confirming_keeps u said w (parameters ask) now j some h = sends_on u said (new_sender u.bytes (write_offset u) now) ask now refl j.bytes_are some j
  confirming_keeps u said w (completion status) now j some h = completes u said status j h
  confirming_keeps u said w (start a b) now j some h = goes u said (writing.Confirming (waiting.touched w now)) [] j tt some
  confirming_keeps u said w (start_ack a) now j some h = goes u said (writing.Confirming (waiting.touched w now)) [] j tt some
  confirming_keeps u said w (confirmation ask) now j some h = goes u said (writing.Confirming (waiting.touched w now)) [] j tt some
  confirming_keeps u said w (data_comes p) now j some h = goes u said (writing.Confirming (waiting.touched w now)) [] j tt some
  confirming_keeps u said w completion_ack now j some h = goes u said (writing.Confirming (waiting.touched w now)) [] j tt some

  sending_keeps : (u : Upload) (said : List Saying) (s : Sender) (x : Word) (now : ℕ) → J u said → IsSome u.agreed × (s.bytes ≡ bytes) × (s.ended ≡ None) → H x
      → J (sending_hears u s x now).after (said ++ (sending_hears u s x now).sayings)
  sending_keeps u said s (parameters ask) now j at h = sends_on u said s ask now at.2 at.1 at.0 j
  sending_keeps u said s (completion status) now j at h = completes u said status j h
  sending_keeps u said s (start a b) now j at h = goes u said (writing.Sending (touched s now)) [] j tt at
  sending_keeps u said s (start_ack a) now j at h = goes u said (writing.Sending (touched s now)) [] j tt at
  sending_keeps u said s (confirmation ask) now j at h = goes u said (writing.Sending (touched s now)) [] j tt at
  sending_keeps u said s (data_comes p) now j at h = goes u said (writing.Sending (touched s now)) [] j tt at
  sending_keeps u said s completion_ack now j at h = goes u said (writing.Sending (touched s now)) [] j tt at

  hear_keeps : (u : Upload) (said : List Saying) (stage : Writing) (x : Word) (now : ℕ) → u.stage ≡ stage → J u said → H x
      → J (hears_at u stage x now).after (said ++ (hears_at u stage x now).sayings)
  hear_keeps u said writing.Unasked x now e j h = same u said j
  hear_keeps u said (writing.Asking w) x now e j h = asking_keeps u said w x now j (subst (λ s. At u.agreed s said) e j.stands) h
  hear_keeps u said (writing.Confirming w) x now e j h = confirming_keeps u said w x now j (subst (λ s. At u.agreed s said) e j.stands) h
  hear_keeps u said (writing.Sending s) x now e j h = sending_keeps u said s x now j (subst (λ s. At u.agreed s said) e j.stands) h
  hear_keeps u said (writing.Over status) x now e j h = same u said j

  not_okay : (status : Status) (b : Bool) → is_okay status ≡ b → (if b then Aborted else status) ≡ Okay → ⊥
  not_okay status true e is = absurd cc
  not_okay status false e is = absurd (cc (sym e ∙ ap is_okay is))

  closed : (u : Upload) (said : List Saying) (status : Status) → J u said → J (at_stage u (writing.Over (waiting.end_by_call status))) (said ++ [])
  closed u said status j = over u said (waiting.end_by_call status) [] j tt tt (λ is. absurd (not_okay status (is_okay status) refl is))

  close_keeps : (u : Upload) (said : List Saying) (stage : Writing) (status : Status) → u.stage ≡ stage → J u said
      → J (closes_at u stage status).after (said ++ (closes_at u stage status).sayings)
  close_keeps u said writing.Unasked status e j = closed u said status j
  close_keeps u said (writing.Asking w) status e j = closed u said status j
  close_keeps u said (writing.Confirming w) status e j = closed u said status j
  close_keeps u said (writing.Sending s) status e j = closed u said status j
  close_keeps u said (writing.Over ended) status e j = same u said j

  gives_it_up : (u : Upload) (said : List Saying) → J u said → J (gives_up u).after (said ++ (gives_up u).sayings)
  gives_it_up u said j = over u said DeadlineExceeded [] j tt tt (λ is. absurd cc)

  -- Time.
  asking_late : (u : Upload) (said : List Saying) (w : Wait) (now : ℕ) (b : Bool) → J u said → AllByRecursion SaysNoData said
      → let t : Stepped Upload = if b then asks u (waiting.again w now) else gives_up u in J t.after (said ++ t.sayings)
  asking_late u said w now true j none = asks_on u said (waiting.again w now) j none
  asking_late u said w now false j none = gives_it_up u said j

  asking_ticks : (u : Upload) (said : List Saying) (w : Wait) (now : ℕ) (b : Bool) → J u said → AllByRecursion SaysNoData said
      → let t : Stepped Upload = if b then asking_timeout u w now else record { after = u; sayings = [] } in J t.after (said ++ t.sayings)
  asking_ticks u said w now true j none = asking_late u said w now (waiting.has_resends w) j none
  asking_ticks u said w now false j none = same u said j

  confirming_late : (u : Upload) (said : List Saying) (w : Wait) (now : ℕ) (b : Bool) → J u said → IsSome u.agreed
      → let t : Stepped Upload = if b then confirms u (waiting.again w now) else gives_up u in J t.after (said ++ t.sayings)
  confirming_late u said w now true j some = goes u said (writing.Confirming (waiting.again w now)) _ j (good_confirmation, tt) some
  confirming_late u said w now false j some = gives_it_up u said j

  confirming_ticks : (u : Upload) (said : List Saying) (w : Wait) (now : ℕ) (b : Bool) → J u said → IsSome u.agreed
      → let t : Stepped Upload = if b then confirming_timeout u w now else record { after = u; sayings = [] } in J t.after (said ++ t.sayings)
  confirming_ticks u said w now true j some = confirming_late u said w now (waiting.has_resends w) j some
  confirming_ticks u said w now false j some = same u said j

  sending_late : (u : Upload) (said : List Saying) (s : Sender) (now : ℕ) (b : Bool) → J u said → IsSome u.agreed → s.bytes ≡ bytes
      → let e : Option Status = if b then Some DeadlineExceeded else None in
      let t : Sender = record s { active = now; timeouts = s.timeouts + 1; ended = e } in
      J (at_stage u (sending_or_over t e)) (said ++ of_timeout e)
  sending_late u said s now true j some is = over u said DeadlineExceeded _ j (good_end DeadlineExceeded (λ is. cc), tt) (tt, tt) (λ is. absurd cc)
  sending_late u said s now false j some is = goes u said _ [] j tt (some, is, refl)

  still_sending : (u : Upload) (said : List Saying) (s : Sender) (o : Option Status) → s.ended ≡ o → o ≡ None → J u said → IsSome u.agreed → s.bytes ≡ bytes
      → J (at_stage u (sending_or_over s o)) (said ++ of_timeout o)
  still_sending u said s None e none j some is = goes u said _ [] j tt (some, is, e)
  still_sending u said s (Some status) e none j some is = absurd cc

  sending_timed : (u : Upload) (said : List Saying) (s : Sender) (now : ℕ) (b : Bool) → J u said → IsSome u.agreed × (s.bytes ≡ bytes) × (s.ended ≡ None)
      → let t : Sender = if b then record s { active = now; timeouts = s.timeouts + 1; ended = if s.timeouts + 1 == MAX_TIMEOUTS then Some DeadlineExceeded else None } else s in
      J (sending_timeout u t).after (said ++ (sending_timeout u t).sayings)
  sending_timed u said s now true j at = sending_late u said s now (s.timeouts + 1 == MAX_TIMEOUTS) j at.0 at.1
  sending_timed u said s now false j at = still_sending u said s s.ended refl at.2 j at.0 at.1

  sending_ticks : (u : Upload) (said : List Saying) (s : Sender) (now : ℕ) (b : Bool) → J u said → IsSome u.agreed × (s.bytes ≡ bytes) × (s.ended ≡ None)
      → let t : Stepped Upload = if b then sending_timeout u (ticked s now) else record { after = u; sayings = [] } in J t.after (said ++ t.sayings)
  sending_ticks u said s now true j at = sending_timed u said s now (nat_le (s.active + TIMEOUT) now) j at
  sending_ticks u said s now false j at = same u said j

  tick_keeps : (u : Upload) (said : List Saying) (stage : Writing) (now : ℕ) → u.stage ≡ stage → J u said → J (ticks_at u stage now).after (said ++ (ticks_at u stage now).sayings)
  tick_keeps u said writing.Unasked now e j = same u said j
  tick_keeps u said (writing.Asking w) now e j = asking_ticks u said w now (waiting.is_late w now) j (subst (λ s. At u.agreed s said) e j.stands)
  tick_keeps u said (writing.Confirming w) now e j = confirming_ticks u said w now (waiting.is_late w now) j (subst (λ s. At u.agreed s said) e j.stands)
  tick_keeps u said (writing.Sending s) now e j = sending_ticks u said s now (waiting.is_late_since s.active now) j (subst (λ s. At u.agreed s said) e j.stands)
  tick_keeps u said (writing.Over status) now e j = same u said j

  keeps : (session : ℕ) → KeepsSteps write_rules session J H
  keeps session = record {
    opens = λ u said now j. open_keeps u said u.stage now refl j;
    hears = λ u said w now j h. hear_keeps u said u.stage w now refl j h;
    closes = λ u said status j. close_keeps u said u.stage status refl j;
    ticks = λ u said now j. tick_keeps u said u.stage now refl j;
  }

  over_polls : (session : ℕ) (ps : List Poll) → AllByRecursion (λ p. WordsIn session H p.mail) ps
      → J (stood write_rules session (new_upload resource bytes asked) ps) (said_over write_rules session (new_upload resource bytes asked) ps)
  over_polls session [] words = record { resource_is = refl; bytes_are = refl; asked_is = refl; good = tt; stands = tt; agreed = λ offset is. absurd cc }
  over_polls session (p ∷ ps) words = poll_keeps write_rules session J H (keeps session) _ _ p.mail p.moment words.0 (over_polls session ps words.1)

  ended_okay : (agreed : Option ℕ) (stage : Writing) (said : List Saying) → At agreed stage said → end_at stage ≡ Some Okay → H (completion Okay)
  ended_okay agreed writing.Unasked said at is = absurd cc
  ended_okay agreed (writing.Asking w) said at is = absurd cc
  ended_okay agreed (writing.Confirming w) said at is = absurd cc
  ended_okay agreed (writing.Sending s) said at is = absurd cc
  ended_okay agreed (writing.Over status) said at is = at.1 (let same_end : status ≡ Okay = cc in same_end)

  pick : (Q : Saying → Type 0) → ((x : Saying) → Good x → Q x) → (said : List Saying) → AllByRecursion Good said → AllByRecursion Q said
  pick Q f [] all = tt
  pick Q f (x ∷ xs) all = (f x all.0, pick Q f xs all.1)

module _ (session resource : ℕ) (bytes : List ℕ) (asked : ℕ) (ps : List Poll) where
  abbrev Heard : Word → Type 0
  Heard w = HeardIn session w ps

  in_mail : (mail : List Mail) → ((w : Word) → HeardBy session w mail → Heard w) → WordsIn session Heard mail
  in_mail [] f = tt
  in_mail (Text text ∷ mail) f = (λ w e. f w (inl e), in_mail mail (λ w h. f w (inr h)))
  in_mail (Closed status ∷ mail) f = in_mail mail f

  in_polls : (qs : List Poll) → ((w : Word) → HeardIn session w qs → Heard w) → AllByRecursion (λ p. WordsIn session Heard p.mail) qs
  in_polls [] f = tt
  in_polls (p ∷ qs) f = (in_mail p.mail (λ w h. f w (inl h)), in_polls qs (λ w h. f w (inr h)))

  writes_of : (r_small : resource < 2 ^ 32) (size : length bytes ≤ MAX_RESOURCE) (within : asked ≤ length bytes) (u : Upload) (said : List Saying)
      → J resource bytes asked Heard r_small size within u said → Writes session resource bytes asked ps u said
  writes_of r_small size within u said j = record {
    resource_is = j.resource_is;
    bytes_are = j.bytes_are;
    asked_is = j.asked_is;
    fits = pick resource bytes asked Heard r_small size within FitsSaying (λ x g. g.fits) said j.good;
    asks = pick resource bytes asked Heard r_small size within (AsksFor resource asked) (λ x g. g.asks) said j.good;
    honest = pick resource bytes asked Heard r_small size within (SaysPiecesOf (Some bytes)) (λ x g. g.honest) said j.good;
    no_end = pick resource bytes asked Heard r_small size within (SaysOkayWhere false) (λ x g. g.no_end) said j.good;
    before = before_any resource bytes asked Heard r_small size within u said u.stage j.stands;
    agreed = j.agreed;
    ended = ended_okay resource bytes asked Heard r_small size within u.agreed u.stage said j.stands;
  }

pub writes_are_honest : WritesAreHonest
writes_are_honest session resource bytes asked ps r_small size within =
    writes_of session resource bytes asked ps r_small size within _ _
    (over_polls resource bytes asked (Heard session resource bytes asked ps) r_small size within session ps (in_polls session resource bytes asked ps ps (λ w h. h)))
