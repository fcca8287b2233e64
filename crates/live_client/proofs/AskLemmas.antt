-- How what was asked went, from what the errand was told.
use Rattle.std.proofs.Common.{◌≡◌, ℕ, suc, if◌then◌else◌, All, ◌<◌, ◌≤◌, ◌==◌, ◌&&◌, ◌||◌, ◌⊎◌, Bool, true, false, List, [], ◌∷◌, ◌++◌, length, map, Option, Some, None, is_none, is_some, refl, ap, ap₂, sym, ◌∙◌, subst, inl, inr, arith, append_assoc, eq-eqb}
use Rattle.std.proofs.lemmas.List.{append-nil}
use Rattle.std.proofs.lemmas.List.Folds.{list_any-append}
use Rattle.std.specs.List.{AllByRecursion, list_any}
use mathlib.Core.List.{IsPrefix}
use Rattle.std.proofs.lemmas.Bool.{false≢true, true≢false}
use Rattle.rpc_ids.specs.declared.method.MethodRef.{MethodRef}
use Rattle.rpc_ids.specs.declared.status.Status.{Status}
use Rattle.rpc_handlers.specs.declared.answer.Out.{Out}
use Rattle.rpc_journal.specs.declared.entry.Entry.{Entry}
use Rattle.rpc_journal.specs.Calls.{end_of}
use Rattle.rpc_journal.specs.History.{history}
use Rattle.rpc_shared.specs.session.Sessions.{is_halted}
use Rattle.task_core.specs.bells.Bells.{Heard}
use Rattle.task_core.specs.Log.{Step, added, advanced, heard, polled, posted, took, woken, task_of}
use Rattle.task_core.specs.Tasks.{StandsFor, Tasks}
use Rattle.task_core.specs.Visit.{Visit}
use Rattle.live_client.specs.asks.Events.{first_end, messages_in}
use Rattle.live_client.specs.asks.Tasks.{Given, TaskRan, WantedIf, given_at, given_in, mail_in, mails, says_at}
use Rattle.live_client.specs.asks.Telling.{HasCome, Progress, Tells, gone_on, said_all, unknown, waiting}
use Rattle.live_client.specs.asks.Calling.{Called, EndsBy, HasGiven, HasPassed, Purpose, has_enough, has_passed, purpose_of}
use Rattle.live_client.specs.declared.asks.call.CallErrand.{CallErrand}
use Rattle.transfer_client.specs.Read.{Download}
use Rattle.transfer_client.specs.Tasks.{Reads, Writes}
use Rattle.transfer_client.specs.Write.{Upload}
use Rattle.rpc_ids.specs.declared.method.Kind.{Kind}
use Rattle.rpc_handlers.specs.Limits.{is_long}
use Rattle.rpc_journal.specs.Kinds.{streams_up}
use Rattle.live_client.specs.Ask.{all_said_of, call_method, live_setting, utterances_asked}
use Rattle.live_client.specs.declared.asks.utterance.Utterance.{Utterance}
use Rattle.live_client.specs.Driving.{CanEnd}
use Rattle.live_client.specs.Histories.{AreSaid, SaysFirst, cancels, events_run, is_completion, is_for_board, is_long_said, utterances_of}
use Rattle.live_client.specs.declared.ask.Live.{Live}
use Rattle.live_client.specs.Live.{CallRan, TransferRan}
use Rattle.live_client.specs.Told.{HasTold, IsCutSo, MaySay}
use Rattle.live_client.proofs.ClientEntries.{streams_always}
use Rattle.live_client.proofs.SaidLemmas.{first_said}
use Rattle.live_client.proofs.asks.TellLemmas.{whole_before}

-- ---- a transfer

-- a task that fell short of memory did so where the table was halted
wanted_so : {T : Type 0} (short halted : Bool) (log : List (Step T)) → (halted ≡ false → short ≡ false) → WantedIf short log → WantedIf halted log
wanted_so false false log calm so = so
wanted_so false true log calm so = whole_before log so
wanted_so true false log calm so = absurd (true≢false (calm refl))
wanted_so true true log calm so = so

-- a task ends no stream
abbrev ends_stream : Given → Bool
ends_stream given = is_completion given.out

says_no_end : (mail : ℕ) (said : List Out) → list_any ends_stream (map (says_at mail) said) ≡ false
says_no_end mail [] = refl
says_no_end mail (out ∷ said) = says_no_end mail said

or_off : (a b : Bool) → a ≡ false → b ≡ false → (a || b) ≡ false
or_off true b off more = absurd (true≢false off)
or_off false b off more = more

front_off : (a b : Bool) → (a || b) ≡ false → a ≡ false
front_off true b off = off
front_off false b off = refl

given_no_end : {T : Type 0} (log : List (Step T)) → list_any ends_stream (given_in log) ≡ false
given_no_end [] = refl
given_no_end (added key task ∷ log) = given_no_end log
given_no_end (posted key mail ∷ log) = given_no_end log
given_no_end (woken key ∷ log) = given_no_end log
given_no_end (advanced moment ∷ log) = given_no_end log
given_no_end (heard key total ∷ log) = given_no_end log
given_no_end (polled key visit short task ∷ log) =
    list_any-append ends_stream (given_in log) (map (says_at (length (mail_in log))) visit.said)
    ∙ or_off (list_any ends_stream (given_in log)) (list_any ends_stream (map (says_at (length (mail_in log))) visit.said)) (given_no_end log) (says_no_end (length (mail_in log)) visit.said)
given_no_end (took ∷ log) = given_no_end log

module _ (method : MethodRef) {T : Type 0} (polls : T → Visit → T → Type 0) (task : T) (tasks : Tasks T) (ear : Heard) (short : Bool) (start end : ℕ) (h : List Entry) (told : HasTold method (λ all. Tells polls task tasks ear short all start end) h) where
  -- what waits to be taken
  abbrev still : List Given
  still = map (says_at (mails (events_run (live_setting method) h 0))) (waiting tasks)

  no_end : list_any ends_stream told.outs ≡ true → ⊥
  no_end is =
      let none : list_any ends_stream (told.outs ++ (told.lost ++ still)) ≡ false =
      subst (λ outs. list_any ends_stream outs ≡ false) (told.heard.told.said ∙ append_assoc told.outs told.lost still) (given_no_end told.heard.told.log) in
      true≢false (sym is ∙ front_off (list_any ends_stream told.outs) (list_any ends_stream (told.lost ++ still)) (sym (list_any-append ends_stream told.outs (told.lost ++ still)) ∙ none))

  task_ran : (is_halted (live_setting method) h ≡ false → short ≡ false) → (now : T) → ((log : List (Step T)) → StandsFor tasks log → task_of log 0 ≡ Some now) → (ended : Option Status) → ended ≡ told.ended
      → TaskRan polls task start end (is_halted (live_setting method) h) (events_run (live_setting method) h 0) (told.outs ++ (told.lost ++ still)) now ended
  task_ran calm now is_now ended same =
      let so = told.heard.told in
      record {
        log = so.log;
        alone = so.alone;
        turns = so.turns;
        between = so.between;
        prompt = so.prompt;
        whole = wanted_so short (is_halted (live_setting method) h) so.log calm so.whole;
        mail = so.mail;
        said = so.said ∙ append_assoc told.outs told.lost still;
        last = is_now so.log so.stands;
        result = so.result ∙ sym same;
      }

  none_waits : (far : Progress) (log : List (Step T)) → far ≡ said_all → HasCome far tasks log → waiting tasks ≡ []
  none_waits said_all log is so = ap (map (λ (said : ℕ × Out). said.1)) so.1
  none_waits gone_on log is so = absurd (cc is)
  none_waits unknown log is so = absurd (cc is)

  pub transfer_ran : (is_halted (live_setting method) h ≡ false → short ≡ false) → (now : T) → ((log : List (Step T)) → StandsFor tasks log → task_of log 0 ≡ Some now) → (ended : Option Status) → ended ≡ told.ended → (Ran : List Given → T → Type 0)
      → ((outs : List Given) → TaskRan polls task start end (is_halted (live_setting method) h) (events_run (live_setting method) h 0) outs now ended → Ran outs now) → TransferRan method Ran h
  transfer_ran whole now is_now ended same Ran so = record {
    outs = told.outs;
    unsaid = told.lost ++ still;
    said = told.said (λ is. absurd (no_end is));
    all_said = λ calm.
        ap (λ lost. lost ++ still) (told.none_lost calm) ∙ ap (map (says_at (mails (events_run (live_setting method) h 0)))) (none_waits told.all told.heard.told.log (told.all_said calm) told.heard.come);
    now = now;
    ran = so (told.outs ++ (told.lost ++ still)) (task_ran whole now is_now ended same);
  }

  pub transfer_over : (ended : Option Status) → ended ≡ told.ended → is_halted (live_setting method) h ≡ false → is_some ended ≡ true
  transfer_over ended same calm = ap is_some same ∙ told.is_over calm

pub reads_is : (t : Reads) (session : ℕ) (d : Download) → t.session ≡ session → t.download ≡ d → t ≡ record { session = session; download = d }
reads_is t session d same is = ap (λ s. record { session = s; download = t.download }) same ∙ ap (λ x. record { session = session; download = x }) is

pub writes_is : (t : Writes) (session : ℕ) (u : Upload) → t.session ≡ session → t.upload ≡ u → t ≡ record { session = session; upload = u }
writes_is t session u same is = ap (λ s. record { session = s; upload = t.upload }) same ∙ ap (λ x. record { session = session; upload = x }) is

-- ---- a call

-- the utterances among outs that were given before the first mail
record Fronts (outs more : List Given) (says : List Utterance) : Type 0 where
  front : List Utterance
  back : List Utterance
  parts : says ≡ front ++ back
  first : outs ≡ map (given_at 0) front
  rest : more ≡ map (given_at 0) back

fronts_of : (outs more : List Given) (says : List Utterance) → outs ++ more ≡ map (given_at 0) says → Fronts outs more says
fronts_of [] more says is = record { front = []; back = says; parts = refl; first = refl; rest = is }
fronts_of (given ∷ outs) more [] is = absurd (cc is)
fronts_of (given ∷ outs) more (out ∷ says) is =
    let rest = fronts_of outs more says (cc is) in
    let same : given ≡ given_at 0 out = cc is in
    record { front = out ∷ rest.front; back = rest.back; parts = ap (λ xs. out ∷ xs) rest.parts; first = ap₂ ◌∷◌ same rest.first; rest = rest.rest }

none_given : (back : List Utterance) → [] ≡ map (given_at 0) back → back ≡ []
none_given [] is = refl
none_given (out ∷ back) is = absurd (cc is)

all_front : (P : Utterance → Type 0) (front back : List Utterance) → AllByRecursion P (front ++ back) → AllByRecursion P front
all_front P [] back all = tt
all_front P (out ∷ front) back all = (all.0, all_front P front back all.1)

-- where the end of the stream was given, it was asked for
ends_among : (front back : List Utterance) → list_any (λ given. is_completion given.out) (map (given_at 0) front) ≡ true → list_any is_completion (front ++ back) ≡ true
ends_among [] back is = absurd (false≢true is)
ends_among (out ∷ front) back is = at (is_completion out) is (λ more. ends_among front back more)
  where
    at : (b : Bool) → (b || list_any (λ given. is_completion given.out) (map (given_at 0) front)) ≡ true
        → (list_any (λ given. is_completion given.out) (map (given_at 0) front) ≡ true → list_any is_completion (front ++ back) ≡ true) → (b || list_any is_completion (front ++ back)) ≡ true
    at true is rest = refl
    at false is rest = rest is

module _ (method : MethodRef) (w : CallErrand) (says : List Utterance) (limit : ℕ) (within : Option ℕ) (start end : ℕ) (purpose : purpose_of w ≡ record { says = says; limit = limit; within = within }) (may : MaySay method says)
    (uncut : has_enough w ≡ false) (h : List Entry) (told : HasTold method (λ far. Called w far start end) h) where
  same : w.limit ≡ limit
  same = ap (λ (p : Purpose). p.limit) purpose

  abbrev fronts : Fronts told.outs (told.lost ++ map (given_at 0) w.rest.items) says
  fronts =
      fronts_of told.outs (told.lost ++ map (given_at 0) w.rest.items) says
      (sym (append_assoc told.outs told.lost (map (given_at 0) w.rest.items)) ∙ (told.heard.given ∙ ap (λ (p : Purpose). map (given_at 0) p.says) purpose))

  abbrev call_given : List Utterance
  call_given = fronts.front

  call_begins : IsPrefix call_given says
  call_begins = (fronts.back, sym fronts.parts)

  call_whole : is_halted (live_setting method) h ≡ false → call_given ≡ says
  call_whole calm =
      let none : fronts.back ≡ [] =
      none_given fronts.back (sym (ap (λ lost. lost ++ map (given_at 0) w.rest.items) (told.none_lost calm) ∙ ap (map (given_at 0)) (subst (λ far. HasGiven far w.rest.items) (told.all_said calm) told.heard.all_given)) ∙ fronts.rest) in
      sym (fronts.parts ∙ (ap (λ back. fronts.front ++ back) none ∙ append-nil fronts.front))

  call_said : SaysFirst (live_setting method) h call_given
  call_said =
      let can : CanEnd (live_setting method) 0 told.outs =
      λ is. streams_always method (may.streams (ap (list_any is_completion) fronts.parts ∙ ends_among fronts.front fronts.back (subst (λ outs. list_any (λ given. is_completion given.out) outs ≡ true) fronts.first is))) 0 in
      let found =
      first_said (live_setting method) (λ front. events_run (live_setting method) front 0) 0 h call_given (utterances_of h)
      (all_front (λ out. is_for_board out ≡ true) fronts.front fronts.back (subst (AllByRecursion (λ out. is_for_board out ≡ true)) fronts.parts may.for_board))
      (all_front (λ out. is_long_said out ≡ false) fronts.front fronts.back (subst (AllByRecursion (λ out. is_long_said out ≡ false)) fronts.parts may.short))
      (subst (λ outs. AreSaid (live_setting method) 0 h outs (utterances_of h)) fronts.first (told.said can)) in
      record { unsaid = found.0; parts = found.1; refused = found.2 }

  pub call_kept : w.messages.items ≡ messages_in (events_run (live_setting method) h 0)
  call_kept = told.heard.told

  pub call_most : length w.messages.items ≤ limit
  call_most = omega (arith, told.heard.most, same)

  below : (o : Option Status) → w.ended ≡ o → (is_some w.ended ≡ true → length w.messages.items < w.limit) → length w.messages.items ≡ limit → ⊥
  below None is some enough =
      true≢false
      (sym (ap (λ b. b || has_passed w.within w.opened w.moment) (eq-eqb (length w.messages.items) w.limit (enough ∙ sym same)))
      ∙ subst (λ o. (is_none o && ((length w.messages.items == w.limit) || has_passed w.within w.opened w.moment)) ≡ false → ((length w.messages.items == w.limit) || has_passed w.within w.opened w.moment) ≡ false) (sym is) (λ off. off) uncut)
  below (Some status) is some enough = let less = some (ap is_some is) in absurd (omega (arith, less, same, enough))

  enough_is : (cut : Option Status) → IsCutSo method h cut → EndsBy w start end cut (events_run (live_setting method) h 0) → length w.messages.items ≡ limit → cancels h ≡ true
  enough_is None off ends enough = absurd (below w.ended refl ends.1 enough)
  enough_is (Some status) on ends enough = on.0

  pub call_enough : length w.messages.items ≡ limit → cancels h ≡ true
  call_enough = enough_is told.cut told.is_cut told.heard.ends

  cut_is : (cut : Option Status) → IsCutSo method h cut → EndsBy w start end cut (events_run (live_setting method) h 0) → cancels h ≡ true → (length w.messages.items ≡ limit) ⊎ HasPassed within start end
  cut_is None off ends on = absurd (false≢true (sym off ∙ on))
  cut_is (Some status) on ends _ = at ends.0
    where
      at : (length w.messages.items ≡ w.limit) ⊎ HasPassed w.within start end → (length w.messages.items ≡ limit) ⊎ HasPassed within start end
      at (inl enough) = inl (enough ∙ same)
      at (inr late) = inr (subst (λ ms. HasPassed ms start end) (ap (λ (p : Purpose). p.within) purpose) late)

  pub call_cut : cancels h ≡ true → (length w.messages.items ≡ limit) ⊎ HasPassed within start end
  call_cut = cut_is told.cut told.is_cut told.heard.ends

  answered_is : (cut : Option Status) → IsCutSo method h cut → EndsBy w start end cut (events_run (live_setting method) h 0) → cancels h ≡ true → end_of (history (live_setting method) h) 0 ≡ w.ended
  answered_is None off ends on = absurd (false≢true (sym off ∙ on))
  answered_is (Some status) cut ends on = cut.1 ∙ sym ends.1

  pub call_answered : cancels h ≡ true → end_of (history (live_setting method) h) 0 ≡ w.ended
  call_answered = answered_is told.cut told.is_cut told.heard.ends

  told_is : (cut : Option Status) → IsCutSo method h cut → EndsBy w start end cut (events_run (live_setting method) h 0) → cancels h ≡ false → w.ended ≡ first_end (events_run (live_setting method) h 0)
  told_is None cut ends off = ends.0
  told_is (Some status) cut ends off = absurd (true≢false (sym cut.0 ∙ off))

  pub call_told : cancels h ≡ false → w.ended ≡ first_end (events_run (live_setting method) h 0)
  call_told = told_is told.cut told.is_cut told.heard.ends

  pub call_over : is_halted (live_setting method) h ≡ false → is_some w.ended ≡ true
  call_over calm = ap is_some told.heard.ended_is ∙ told.is_over calm

  pub call_ran : (l : Live) → l.journal.entries ≡ h → l.messages.items ≡ w.messages.items → l.ended ≡ w.ended → CallRan method says limit within start end l
  call_ran l journal messages ended = record {
    given = call_given;
    begins = call_begins;
    all_given = λ calm. call_whole (sym (ap (is_halted (live_setting method)) journal) ∙ calm);
    said = subst (λ es. SaysFirst (live_setting method) es call_given) (sym journal) call_said;
    told = messages ∙ (call_kept ∙ ap (λ es. messages_in (events_run (live_setting method) es 0)) (sym journal));
    most = subst (λ (xs : List (List ℕ)). length xs ≤ limit) (sym messages) call_most;
    enough = λ is. ap cancels journal ∙ call_enough (sym (ap length messages) ∙ is);
    cut = λ is. subst (λ (xs : List (List ℕ)). (length xs ≡ limit) ⊎ HasPassed within start end) (sym messages) (call_cut (sym (ap cancels journal) ∙ is));
    answered = λ is. ap (λ es. end_of (history (live_setting method) es) 0) journal ∙ (call_answered (sym (ap cancels journal) ∙ is) ∙ sym ended);
    ends = λ off. ended ∙ (call_told (sym (ap cancels journal) ∙ off) ∙ ap (λ es. first_end (events_run (live_setting method) es 0)) (sym journal));
  }

-- ---- what a call may be given to say

all_at : {A : Type 0} (P : A → Type 0) (xs : List A) → All P xs → AllByRecursion P xs
all_at P [] all = tt
all_at P (x ∷ xs) all = (all 0 x (omega arith), all_at P xs (λ k d below. all (suc k) d (omega (arith, below))))

says_short : (messages : List (List ℕ)) → AllByRecursion (λ message. is_long message ≡ false) messages → AllByRecursion (λ out. is_long_said out ≡ false) (all_said_of messages)
says_short [] all = (refl, tt)
says_short (message ∷ messages) all = (all.0, says_short messages all.1)

says_board : (messages : List (List ℕ)) → AllByRecursion (λ out. is_for_board out ≡ true) (all_said_of messages)
says_board [] = (refl, tt)
says_board (message ∷ messages) = (refl, says_board messages)

pub none_said : (method : MethodRef) → MaySay method []
none_said method = record { short = tt; for_board = tt; streams = λ is. absurd (false≢true is) }

pub may_say : (service method : ℕ) (kind : Kind) (messages : List (List ℕ)) → All (λ message. is_long message ≡ false) messages → MaySay (call_method service method kind) (utterances_asked kind messages)
may_say service method kind messages short = at (streams_up kind) refl
  where
    at : (b : Bool) → streams_up kind ≡ b → MaySay (call_method service method kind) (if b then all_said_of messages else [])
    at true up = record { short = says_short messages (all_at (λ message. is_long message ≡ false) messages short); for_board = says_board messages; streams = λ _. up }
    at false up = none_said (call_method service method kind)
