-- What a live client's record tells of a fetch, and of a deadline.
use Rattle.std.proofs.Common.{◌≡◌, ◌⊎◌, ◌==◌, ◌&&◌, ℕ, not, Bool, true, false, List, [], ◌∷◌, ◌++◌, map, refl, ap, sym, ◌∙◌, subst, inl, inr, reverse}
use Rattle.std.proofs.lemmas.Bool.{false≢true, true≢false}
use Rattle.std.proofs.lemmas.List.{append-nil}
use Rattle.std.specs.List.{AllByRecursion}
use Rattle.rpc_ids.specs.declared.status.Status.TheVariants.{Okay}
use Rattle.rpc_handlers.specs.declared.answer.Out.{Out}
use Rattle.rpc_handlers.specs.declared.answer.Out.TheVariants.{Begin, Append, Commit, Leave}
use Rattle.rpc_journal.specs.declared.entry.Entry.{Entry}
use Rattle.rpc_journal.specs.declared.entry.EntryKind.{EntryKind}
use Rattle.rpc_journal.specs.declared.entry.EntryKind.TheVariants.{Cancel, Say}
use Rattle.rpc_journal.specs.declared.setting.Setting.{Setting}
use Rattle.rpc_journal.specs.Calls.{is_cancelled}
use Rattle.rpc_journal.specs.History.{history}
use Rattle.rpc_journal.proofs.Push.{all-reverse}
use Rattle.transfer_words.specs.Saying.{Saying, says, begins, appends, commits, leaves, out_of, outs_of}
use Rattle.transfer_client.specs.Read.{new_download, read_offset}
use Rattle.rpc_shared.specs.session.Sessions.{is_halted}
use Rattle.live_client.specs.declared.ask.Live.{Live}
use Rattle.live_client.specs.declared.ask.LiveAsk.TheVariants.{Get, Put, Watch, Call}
use Rattle.live_client.specs.Ask.{live_setting, read_method, write_method}
use Rattle.live_client.specs.Fetched.{DeadlinesTakeTime, FetchedWell, FetchesAreWhole, IsFetched, deeds_of, run_of}
use Rattle.live_client.specs.declared.asks.utterance.Utterance.{Utterance}
use Rattle.live_client.specs.declared.asks.utterance.Utterance.TheVariants.{Says, Completes}
use Rattle.live_client.specs.Histories.{AreActed, AreOfLive, AreSaid, is_cancel, is_entry_of, is_for_board, is_spoken, said_by, says_of, uttered_by, utterances_of}
use Rattle.live_client.specs.asks.Ends.{IsTold, TellsEnd}
use Rattle.live_client.specs.asks.Tasks.{Given, TaskRan}
use Rattle.transfer_client.specs.Tasks.{PollsRead, Reads}
use Rattle.live_client.proofs.ClientEntries.{uncancelled}
use Rattle.live_client.proofs.SaidLemmas.{long_for_board}
use Rattle.live_client.proofs.asks.EndLemmas.{HasMade, read_deadline, read_okay, write_deadline}
use Rattle.live_client.proofs.asks.FetchLemmas.{deeds}
use Rattle.live_client.proofs.asks.WalkLemmas.{bare, outs_by, outs_in, outs_in-append}

pub deadlines_take_time : DeadlinesTakeTime
deadlines_take_time (Get resource offset) start end l other asked is =
    read_deadline start end (run_of read_method l) (asked.outs ++ asked.unsaid) (is_halted (live_setting read_method) l.journal.entries) resource offset 4 256 asked.now l.ended asked.ran.0 is
deadlines_take_time (Put resource offset bytes) start end l other asked is =
    write_deadline start end (run_of write_method l) (asked.outs ++ asked.unsaid) (is_halted (live_setting write_method) l.journal.entries) resource bytes offset asked.now l.ended asked.ran.0 is
deadlines_take_time (Watch n limit) start end l other asked is = absurd (true≢false other)
deadlines_take_time (Call opening limit within) start end l other asked is = absurd (true≢false other)

-- ---- no call of a transfer is cancelled

uncancelling : (seat : ℕ) (kind : EntryKind) → is_entry_of false seat kind ≡ true → is_cancel kind ≡ false
uncancelling seat (Cancel c) is = absurd (false≢true (sym (and_off (seat == 1)) ∙ is))
  where
    and_off : (b : Bool) → (b && false) ≡ false
    and_off true = refl
    and_off false = refl
uncancelling seat _ is = refl

pub none_cancel : (h : List Entry) → AreOfLive false h → AllByRecursion (λ e. is_cancel e.kind ≡ false) h
none_cancel [] all = tt
none_cancel (e ∷ h) all = (uncancelling e.seat e.kind all.0, none_cancel h all.1)

-- ---- of what was said, the store actions are those of the task

outs_uttered : (kind : EntryKind) → outs_in (uttered_by kind) ≡ said_by kind
outs_uttered (Say c out) = refl
outs_uttered _ = refl

outs_are : (h : List Entry) → outs_in (utterances_of h) ≡ says_of h
outs_are [] = refl
outs_are (e ∷ h) = outs_in-append (uttered_by e.kind) (utterances_of h) ∙ (ap (λ outs. outs ++ outs_in (utterances_of h)) (outs_uttered e.kind) ∙ ap (λ outs. said_by e.kind ++ outs) (outs_are h))

module _ (set : Setting) (c : ℕ) (h : List Entry) (uncut : is_cancelled (history set h) c ≡ false) where
  spoken_off : (out : Out) (outs : List Out) → is_spoken out ≡ true → deeds_of (out ∷ outs) ≡ deeds_of outs
  spoken_off out outs is = rw is refl

  acted_on : (out : Out) (outs spoken : List Out) → deeds_of spoken ≡ deeds_of outs → deeds_of (out ∷ spoken) ≡ deeds_of (out ∷ outs)
  acted_on out outs spoken same = at (not (is_spoken out)) refl
    where
      at : (b : Bool) → not (is_spoken out) ≡ b → deeds_of (out ∷ spoken) ≡ deeds_of (out ∷ outs)
      at true is = rw is (ap (λ rest. out ∷ rest) same)
      at false is = rw is same

  board_off : (out : Utterance) (outs : List Out) → is_for_board out ≡ true → deeds_of (outs_by out ++ outs) ≡ deeds_of outs
  board_off (Says out) outs is = spoken_off out outs is
  board_off Completes outs is = refl

  uttered_on : (out : Utterance) (outs spoken : List Out) → deeds_of spoken ≡ deeds_of outs → deeds_of (outs_by out ++ spoken) ≡ deeds_of (outs_by out ++ outs)
  uttered_on (Says out) outs spoken same = acted_on out outs spoken same
  uttered_on Completes outs spoken same = same

  acted_deeds : (outs : List Given) (spoken : List Utterance) → AreActed set c h outs spoken → deeds_of (outs_in spoken) ≡ deeds_of (bare outs)
  acted_deeds [] spoken so = ap (λ spoken. deeds_of (outs_in spoken)) so
  acted_deeds (given ∷ outs) spoken (inl s) = acted_deeds outs spoken s.1 ∙ sym (board_off given.out (bare outs) s.0)
  acted_deeds (given ∷ outs) spoken (inr (inl s)) = ap (λ spoken. deeds_of (outs_in spoken)) s.2 ∙ uttered_on given.out (bare outs) (outs_in s.1) (acted_deeds outs s.1 s.3)
  acted_deeds (given ∷ outs) spoken (inr (inr s)) = absurd (true≢false (sym s.1 ∙ uncut))

  said_deeds : (outs : List Given) (spoken : List Utterance) → AreSaid set c h outs spoken → deeds_of (outs_in spoken) ≡ deeds_of (bare outs)
  said_deeds [] spoken so = ap (λ spoken. deeds_of (outs_in spoken)) so
  said_deeds (given ∷ outs) spoken (inl s) = ap (λ spoken. deeds_of (outs_in spoken)) s.1 ∙ uttered_on given.out (bare outs) (outs_in s.0) (said_deeds outs s.0 s.2)
  said_deeds (given ∷ outs) spoken (inr (inl s)) = said_deeds outs spoken s.1 ∙ sym (board_off given.out (bare outs) (long_for_board given.out s.0))
  said_deeds (given ∷ outs) spoken (inr (inr (inl s))) = absurd (true≢false (sym s.1 ∙ uncut))
  said_deeds (given ∷ outs) spoken (inr (inr (inr s))) = acted_deeds (given ∷ outs) spoken s.1

deeds-outs : (said : List Saying) → deeds_of (outs_of 1 said) ≡ map (out_of 1) (deeds said)
deeds-outs [] = refl
deeds-outs (says w ∷ said) = deeds-outs said
deeds-outs (begins r o ∷ said) = ap (λ rest. Begin 1 r o ∷ rest) (deeds-outs said)
deeds-outs (appends bytes ∷ said) = ap (λ rest. Append 1 bytes ∷ rest) (deeds-outs said)
deeds-outs (commits ∷ said) = ap (λ rest. Commit 1 ∷ rest) (deeds-outs said)
deeds-outs (leaves ∷ said) = ap (λ rest. Leave 1 ∷ rest) (deeds-outs said)

added-outs : (added : List (List ℕ)) → map (out_of 1) (map appends added ++ commits ∷ []) ≡ map (λ bytes. Append 1 bytes) added ++ Commit 1 ∷ []
added-outs [] = refl
added-outs (bytes ∷ added) = ap (λ rest. Append 1 bytes ∷ rest) (added-outs added)

-- ---- a fetch

module _ (resource offset start end : ℕ) (l : Live) (well : FetchedWell resource offset start end l) where
  abbrev h : List Entry
  h = l.journal.entries

  pub calls_on : is_cancelled (history (live_setting read_method) h) 0 ≡ false
  calls_on =
      uncancelled read_method (reverse h) 0
      (all-reverse (λ (e : Entry). is_cancel e.kind ≡ false) h
      (subst (AllByRecursion (λ e. is_cancel e.kind ≡ false)) (sym well.history.begins) (refl, none_cancel well.history.rest well.history.kinds)))

  outs_whole : well.ran.outs ++ well.ran.unsaid ≡ well.ran.outs
  outs_whole = ap (λ more. well.ran.outs ++ more) (well.ran.all_said well.calm) ∙ append-nil well.ran.outs

  abbrev asked : Reads
  asked = record { session = 1; download = new_download resource offset 4 256 }

  ran_whole : TaskRan PollsRead asked start end false (run_of read_method l) well.ran.outs well.ran.now l.ended
  ran_whole =
      subst (λ outs. TaskRan PollsRead asked start end false (run_of read_method l) outs well.ran.now l.ended) outs_whole
      (subst (λ b. TaskRan PollsRead asked start end b (run_of read_method l) (well.ran.outs ++ well.ran.unsaid) well.ran.now l.ended) well.calm well.ran.ran.0)

  fetched : HasMade start end (run_of read_method l) well.ran.outs false resource (read_offset well.ran.now.download) → IsFetched resource l.from (run_of read_method l) (says_of h)
  fetched made =
      let from : read_offset well.ran.now.download ≡ l.from = sym well.ran.ran.1 in
      subst (λ n. IsFetched resource n (run_of read_method l) (says_of h)) from
      (record {
        added = made.whole.added;
        deeds =
            ap deeds_of (sym (outs_are h)) ∙ said_deeds (live_setting read_method) 0 h calls_on well.ran.outs (utterances_of h) well.ran.said
            ∙ (ap deeds_of made.outs_are
            ∙ (deeds-outs made.said
            ∙ (ap (map (out_of 1)) made.whole.deeds_are
            ∙ ap (λ rest. Begin 1 resource (read_offset well.ran.now.download) ∷ rest) (added-outs made.whole.added))));
        joins = made.whole.joins;
      })

  whole_or_told : HasMade start end (run_of read_method l) well.ran.outs false resource (read_offset well.ran.now.download) ⊎ IsTold (TellsEnd 1 Okay) (run_of read_method l)
      → IsFetched resource l.from (run_of read_method l) (says_of h) ⊎ IsTold (TellsEnd 1 Okay) (run_of read_method l)
  whole_or_told (inl made) = inl (fetched made)
  whole_or_told (inr told) = inr told

  pub fetch_whole : IsFetched resource l.from (run_of read_method l) (says_of h) ⊎ IsTold (TellsEnd 1 Okay) (run_of read_method l)
  fetch_whole = whole_or_told (read_okay start end (run_of read_method l) well.ran.outs false resource offset 4 256 well.ran.now l.ended ran_whole well.okay)

pub fetches_are_whole : FetchesAreWhole
fetches_are_whole = fetch_whole
