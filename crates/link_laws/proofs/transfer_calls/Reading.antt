-- What a client hears of a call of Read.
use Rattle.std.proofs.Common.{◌≡◌, Bool, true, false, ◌||◌, List, [], ◌∷◌, inl, inr, refl, sym, ap, ◌∙◌, subst}
use Rattle.std.proofs.lemmas.Bool.{false≢true}
use Rattle.std.specs.List.{list_any}
use Rattle.rpc_ids.specs.declared.Status.{Status}
use Rattle.rpc_ids.specs.declared.Status.TheVariants.{Okay}
use Rattle.link_io.specs.Resources.{first_of}
use Rattle.transfer_receiver.specs.Answers.{is_okay}
use Rattle.transfer_words.specs.Word.{Word, start, start_ack, confirmation, parameters, data_comes, completion, completion_ack}
use Rattle.transfer_words.specs.Saying.{Saying, says, begins, appends, commits, leaves}
use Rattle.transfer_resume.specs.declared.side.Side.TheVariants.{Read}
use Rattle.history_laws.specs.messages.Messages.{IsIn}
use Rattle.history_laws.proofs.messages.Members.{all_in, in_all}
use Rattle.transfer_laws.specs.words.Said.{SaysOkayWhere, SaysPiecesOf}
use Rattle.transfer_laws.specs.words.Service.{StartsOn}
use Rattle.transfer_laws.specs.words.Tasks.{HasToldOkay, HearsOf}
use Rattle.transfer_laws.proofs.words.Service.{all_chunks, reads_are_honest, reads_end_as_told}
use Rattle.link_laws.specs.transfer_calls.Heard.{IsSaid}
use Rattle.link_laws.specs.transfer_calls.Transfers.{ReadsTellTheTruth}
use Rattle.link_laws.proofs.transfer_calls.Said.{said_okay, said_starts}
use Rattle.link_laws.proofs.transfer_calls.Answered.{Heard, chunks_said, came_in, heard_said, outs}

-- the end OK is told
abbrev tells : Saying → Bool
tells (says (completion status)) = is_okay status
tells _ = false

okay_is : (status : Status) → is_okay status ≡ true → status ≡ Okay
okay_is Okay is = refl
okay_is _ is = absurd (false≢true is)

told_by : (x : Saying) → tells x ≡ true → x ≡ says (completion Okay)
told_by (says (completion status)) is = ap (λ s. says (completion s)) (okay_is status is)
told_by (says (start r o)) is = absurd (false≢true is)
told_by (says (start_ack o)) is = absurd (false≢true is)
told_by (says (confirmation ask)) is = absurd (false≢true is)
told_by (says (parameters ask)) is = absurd (false≢true is)
told_by (says (data_comes p)) is = absurd (false≢true is)
told_by (says completion_ack) is = absurd (false≢true is)
told_by (begins r o) is = absurd (false≢true is)
told_by (appends bytes) is = absurd (false≢true is)
told_by commits is = absurd (false≢true is)
told_by leaves is = absurd (false≢true is)

has_told : (ss : List Saying) → list_any tells ss ≡ true → HasToldOkay ss
has_told [] is = absurd (false≢true is)
has_told (s ∷ ss) is = at (tells s) refl is (λ later. has_told ss later)
  where
    at : (b : Bool) → tells s ≡ b → (b || list_any tells ss) ≡ true → (list_any tells ss ≡ true → HasToldOkay ss) → HasToldOkay (s ∷ ss)
    at true e is rest = inl (told_by s e)
    at false e is rest = inr (rest is)

any_told : (ss : List Saying) (x : Saying) → IsIn x ss → tells x ≡ true → list_any tells ss ≡ true
any_told [] x is e = absurd is
any_told (s ∷ ss) x (inl same) e = rw (sym (ap tells same) ∙ e) refl
any_told (s ∷ ss) x (inr later) e = at (tells s) (any_told ss x later e)
  where
    at : (b : Bool) → list_any tells ss ≡ true → (b || list_any tells ss) ≡ true
    at true rest = refl
    at false rest = rest

may_tell : (ss : List Saying) (x : Saying) → IsIn x ss → SaysOkayWhere (list_any tells ss) x
may_tell ss (says (completion status)) is = λ okay. any_told ss (says (completion status)) is (ap is_okay okay)
may_tell ss (says (start r o)) is = tt
may_tell ss (says (start_ack o)) is = tt
may_tell ss (says (confirmation ask)) is = tt
may_tell ss (says (parameters ask)) is = tt
may_tell ss (says (data_comes p)) is = tt
may_tell ss (says completion_ack) is = tt
may_tell ss (begins r o) is = tt
may_tell ss (appends bytes) is = tt
may_tell ss commits is = tt
may_tell ss leaves is = tt

pub reads_tell_the_truth : ReadsTellTheTruth
reads_tell_the_truth shelf window chunk set h c session resource asked said payload w call from asks is heard =
    let found : Heard Read shelf window chunk set h c call session w = heard_said Read shelf window chunk set h c call session said payload w from is heard in
    let chunks = chunks_said Read shelf window chunk set h c call session said from in
    let es = came_in Read shelf window chunk set h c call in
    let os = outs Read shelf window chunk set h c call in
    let honest =
    reads_are_honest shelf window chunk session resource es
    (all_chunks (IsSaid session said) (StartsOn session resource (λ o. Unit {0})) (λ x s t d. ((said_starts session said resource asked asks x s t d).0, tt)) es chunks) in
    let ended =
    reads_end_as_told shelf window chunk session (list_any tells said) es
    (all_chunks (IsSaid session said) _ (λ x s. said_okay session said (list_any tells said) (all_in (SaysOkayWhere (list_any tells said)) said (may_tell said)) x s) es chunks) in
    truth w
    (subst (SaysPiecesOf (first_of resource shelf.full)) found.is (in_all _ os found.outgoing honest found.is_out found.in_session))
    (subst (SaysOkayWhere (list_any tells said)) found.is (in_all _ os found.outgoing ended found.is_out found.in_session))
  where
    truth : (x : Word) → SaysPiecesOf (first_of resource shelf.full) (says x) → SaysOkayWhere (list_any tells said) (says x) → HearsOf (first_of resource shelf.full) (HasToldOkay said) x
    truth (data_comes p) piece okay = piece
    truth (completion status) piece okay = λ e. has_told said (okay e)
    truth (start r o) piece okay = tt
    truth (start_ack o) piece okay = tt
    truth (confirmation ask) piece okay = tt
    truth (parameters ask) piece okay = tt
    truth completion_ack piece okay = tt
