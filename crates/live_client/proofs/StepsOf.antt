-- What each call of the table is to the driver.
use Rattle.std.proofs.Common.{◌≡◌, ◌≢◌, ◌⊎◌, ◌&&◌, ◌||◌, if◌then◌else◌, ℕ, ◌≤◌, Bool, true, false, not, List, [], ◌∷◌, ◌++◌, length, slice_get, Option, Some, None, is_some, option_map, IfSome, IfNone, Result, Ok, Err, refl, ap, sym, ◌∙◌, subst, inl, inr, arith, length-append, eq-eqb, reverse}
use Rattle.std.proofs.lemmas.List.{append-nil, reverse-append}
use Rattle.std.proofs.lemmas.List.Folds.{list_any-append}
use Rattle.std.specs.List.{list_any}
use Rattle.std.specs.Option.{option_to_list}
use mathlib.Core.List.{IsPrefix}
use Rattle.entry_lists.specs.Entries.{made_by}
use Rattle.entry_lists.proofs.Makers.{none_behind}
use Rattle.entry_lists.proofs.Prefixes.{prefix_append, prefix_trans}
use Rattle.link_io.specs.declared.why.Why.{Why}
use Rattle.link_io.specs.declared.why.Why.TheVariants.{JournalLimit, Memory as Shortage}
use Rattle.rpc_ids.specs.declared.status.Status.{Status}
use Rattle.rpc_handlers.specs.declared.event.Memo.{Memo}
use Rattle.rpc_handlers.specs.declared.answer.Out.{Out}
use Rattle.rpc_handlers.specs.declared.event.Event.{Event}
use Rattle.rpc_handlers.specs.Limits.{is_long_out}
use Rattle.rpc_journal.specs.Ran.{Ran, run_in}
use Rattle.rpc_journal.specs.Runs.{IsRunning}
use Rattle.rpc_journal.specs.declared.answers.StartOfRefused as start_of
use Rattle.rpc_journal.specs.declared.answers.SayRefused as say
use Rattle.rpc_journal.specs.declared.entry.Entry.{Entry}
use Rattle.rpc_journal.specs.declared.entry.EntryKind.{EntryKind}
use Rattle.rpc_journal.specs.declared.entry.EntryKind.TheVariants.{Say, Done, Start, Finish, Cancel, Flush, Halt}
use Rattle.rpc_journal.specs.declared.entry.TheConstants.{MAX_ENTRIES}
use Rattle.rpc_journal.specs.declared.item.Item.{Item}
use Rattle.rpc_journal.specs.declared.setting.Setting.{Setting}
use Rattle.rpc_handlers.specs.declared.answer.Out.TheVariants.{Say as Message, Begin, Append, Commit, Leave}
use Rattle.rpc_journal.specs.Calls.{call_at, end_of, ends_of, is_cancelled}
use Rattle.rpc_journal.specs.Changes.{CancelDid, DoneDid, FinishDid, FlushDid, NothingToFlush, HaltDid, SayDid, StartOfDid}
use Rattle.rpc_journal.specs.Effect.{Deed}
use Rattle.rpc_journal.specs.History.{adding, deeds_of, deeds_with, entry_by, history}
use Rattle.rpc_journal.specs.Items.{flush_count, flushes, halt_reason, is_done, items_sent}
use Rattle.rpc_journal.specs.Kinds.{is_server, or_else}
use Rattle.rpc_journal.specs.Lawful.{AnsweredAll, IsLawful, has_stream, is_unary_call}
use Rattle.rpc_journal.specs.Laws.{seat_of}
use Rattle.rpc_journal.specs.Queues.{taken_event}
use Rattle.rpc_journal.specs.Refusals.{done_refusal, is_full, out_refusal, refused_where, say_refusal}
use Rattle.rpc_journal.proofs.ItemLemmas.{flushes_count, flushes_of_seat, items_begin}
use Rattle.rpc_journal.proofs.RunLemmas.{quiet_for_good, run_stands}
use Rattle.rpc_shared.specs.Steps.{Steps}
use Rattle.rpc_shared.specs.declared.look.Look.{Look}
use Rattle.rpc_shared.specs.Looks.{LookDid}
use Rattle.rpc_shared.specs.Waits.{CancelsAndWaits, IsQuietWith}
use Rattle.rpc_journal.specs.Quiet.{is_quiet}
use Rattle.turn_cell.proofs.Calls.{same_trans}
use Rattle.rpc_shared.specs.session.Crew.{Adds, AreOf, Lock, Seat, is_want}
use Rattle.rpc_shared.specs.session.Ring.{HaltsFor}
use Rattle.rpc_shared.specs.session.Sessions.{is_halted, is_halting}
use Rattle.rpc_shared.proofs.session.PassLemmas.{adds_none, adds_one, adds_trans, late_still, stands_after}
use Rattle.rpc_shared.proofs.session.StepLemmas.{full_length, look_adds}
use Rattle.live_client.specs.Driving.{Calm, CanDrive, CanEnd, Cuts, Drives, EndsRun, HasCut, Speaks, TakesItem, TakesNone, is_cutting, is_flushing, is_running, is_saying, runs_by, runs_in, want_by}
use Rattle.live_client.specs.declared.asks.utterance.Utterance.TheVariants.{Says, Completes}
use Rattle.live_client.specs.Histories.{AreSaidOver, cancels, is_cancel, is_completion, utterances_of}
use Rattle.live_client.specs.Silent.{is_silent, silent_rule}
use Rattle.live_client.specs.asks.Tasks.{Given, given_at, mails}
use Rattle.live_client.proofs.DriveLemmas.{cancels-append, drives_added, drives_calm, drives_kept, drives_sees, front_beyond, others_seat, runs_before, there_beyond}
use Rattle.live_client.proofs.SaidLemmas.{IsLeft, end_left, end_open, end_refusal, ends_begin, refused_left, said_later, said_left, said_more, taken_open}

-- an out more is said or refused
with_said : (watches : Bool) (opening : EntryKind) (r : Lock) (c : ℕ) (events : List Event) (outs outs' : List Given) (items : List Item) (q : Seat)
    → (CanEnd r.base c outs' → AreSaidOver r.base (runs_in r c) c q.view.known.seen outs' (utterances_of q.view.known.mine)) → Drives watches opening r c events outs items q → Drives watches opening r c events outs' items q
with_said watches opening r c events outs outs' items q said d = record {
  stands = d.stands;
  number = d.number;
  rest = d.rest;
  mine = d.mine;
  kinds = d.kinds;
  there = d.there;
  runs = d.runs;
  said = said;
  front = d.front;
  count = d.count;
}

-- what may be given behind fewer outs
any_more : {A : Type 0} (test : A → Bool) (xs : List A) (x : A) → list_any test xs ≡ true → list_any test (xs ++ x ∷ []) ≡ true
any_more test xs x is = list_any-append test xs (x ∷ []) ∙ rw is refl

can_less : (set : Setting) (c : ℕ) (outs : List Given) (given : Given) → CanEnd set c (outs ++ given ∷ []) → CanEnd set c outs
can_less set c outs given may is = may (any_more (λ given. is_completion given.out) outs given is)

any_last : {A : Type 0} (test : A → Bool) (xs : List A) (x : A) → test x ≡ true → list_any test (xs ++ x ∷ []) ≡ true
any_last test xs x is = list_any-append test xs (x ∷ []) ∙ at (list_any test xs)
  where
    at : (b : Bool) → (b || list_any test (x ∷ [])) ≡ true
    at true = refl
    at false = rw is refl

-- the state of a call never refuses for a full journal
kept_none : (b : Bool) (x : Status) → refused_where b (say.TheVariants.Closed x) ≡ Some say.TheVariants.JournalFull → ⊥
kept_none true x is = absurd (cc is)
kept_none false x is = absurd (cc is)

never_full : (set : Setting) (ds : List Deed) (c : ℕ) (out : Out) → out_refusal set ds c out ≡ Some say.TheVariants.JournalFull → ⊥
never_full set ds c (Message payload) is = at (end_of ds c) (not (has_stream set.role (call_at ds c))) (not (is_server set.role) && is_done ds c) is
  where
    at : (o : Option Status) (b d : Bool) → or_else (option_map say.TheVariants.Closed o) (or_else (refused_where b say.TheVariants.NoStream) (refused_where d say.TheVariants.Completed)) ≡ Some say.TheVariants.JournalFull → ⊥
    at (Some x) b d is = absurd (cc is)
    at None true d is = absurd (cc is)
    at None false true is = absurd (cc is)
    at None false false is = absurd (cc is)
never_full set ds c (Begin session resource offset) is = kept_none (is_cancelled ds c) _ is
never_full set ds c (Append session bytes) is = kept_none (is_cancelled ds c) _ is
never_full set ds c (Commit session) is = kept_none (is_cancelled ds c) _ is
never_full set ds c (Leave session) is = kept_none (is_cancelled ds c) _ is

module _ (r : Lock) (c : ℕ) (p q : Seat) (can : CanDrive r c p) where
  -- a Halt
  module _ (why : Why) (test : EntryKind → Bool) (s : Steps silent_rule r p q (λ set seat. HaltDid set seat why)) (halts : is_halting why ≡ true) (may : test (Halt why) ≡ true)
      (full : why ≡ JournalLimit → MAX_ENTRIES ≤ length p.view.known.seen) where
    pub halt_calm : Adds silent_rule r test p q → Calm r c test p q
    halt_calm adds = record { adds = adds; drives = λ watches opening events outs items d. at watches opening events outs items d (is_some (halt_reason (history r.base s.before))) refl }
      where
        at : (watches : Bool) (opening : EntryKind) (events : List Event) (outs : List Given) (items : List Item) → Drives watches opening r c events outs items p
            → (b : Bool) → is_some (halt_reason (history r.base s.before)) ≡ b → Drives watches opening r c events outs items q
        at watches opening events outs items d true is =
            drives_kept watches opening r c events outs items p q (λ set seat. HaltDid set seat why) d s
            (s.did.adds ∙ ap (λ b. if b then s.before else adding s.before p.view.known.number (Halt why)) is)
        at watches opening events outs items d false is =
            drives_calm watches opening r c events outs items p q (λ set seat. HaltDid set seat why) d s (Halt why)
            (s.did.adds ∙ ap (λ b. if b then s.before else adding s.before p.view.known.number (Halt why)) is) halts
            (λ same. longer (full (cc same))) refl refl refl
          where
            longer : MAX_ENTRIES ≤ length p.view.known.seen → MAX_ENTRIES ≤ length s.before
            longer many = omega (arith, many, ap length s.begins.1, length-append p.view.known.seen s.begins.0)

  -- a Start
  pub start_calm : (result : Result Ran start_of.StartOfRefused) → Steps silent_rule r p q (λ set seat. StartOfDid silent_rule run_in set seat c result) → Calm r c is_running p q
  start_calm (Ok x) s = record {
    adds = adds_one silent_rule r p q (λ set seat. StartOfDid silent_rule run_in set seat c (Ok x)) is_running (Start x.run.call) s s.did.begins.adds refl (λ is. absurd (cc is));
    drives = λ watches opening events outs items d.
        drives_calm watches opening r c events outs items p q (λ set seat. StartOfDid silent_rule run_in set seat c (Ok x)) d s (Start x.run.call) s.did.begins.adds refl
        (λ is. absurd (cc is)) refl refl refl;
  }
  start_calm (Err e) s = record {
    adds = adds_none silent_rule r p q (λ set seat. StartOfDid silent_rule run_in set seat c (Err e)) is_running s s.did.kept;
    drives = λ watches opening events outs items d. drives_kept watches opening r c events outs items p q (λ set seat. StartOfDid silent_rule run_in set seat c (Err e)) d s s.did.kept;
  }

  -- a Finish of the call's run
  module _ {H : Type 0} (x : Ran) (now : H → Memo) (result : Option H) (seat : x.run.seat ≡ p.view.known.number) (call : x.run.call ≡ c) (on : IsRunning silent_rule r.base p.view.known.seen x.run)
      (did : (h : H) × (now h ≡ x.moves) × Steps silent_rule r p q (λ set _. FinishDid set x.run x.gives h result)) where
    abbrev fs : Steps silent_rule r p q (λ set _. FinishDid set x.run x.gives did.0 result)
    fs = did.2

    finished : q.view.known.seen ≡ adding fs.before p.view.known.number (Finish x.run.call x.gives)
    finished = fs.did.adds ∙ ap (λ n. adding fs.before n (Finish x.run.call x.gives)) seat

    gap_others : made_by seat_of 1 fs.begins.0 ≡ []
    gap_others =
        none_behind seat_of 1 p.view.known.seen fs.begins.0
        (ap (made_by seat_of 1) fs.begins.1 ∙ subst (λ n. made_by seat_of n fs.before ≡ made_by seat_of n p.view.known.seen) can.number (fs.own ∙ sym fs.shown))

    still : IsRunning silent_rule r.base fs.before x.run
    still =
        subst (λ h. IsRunning silent_rule r.base h x.run) fs.begins.1
        (run_stands silent_rule r.base p.view.known.seen fs.begins.0 x.run (subst (IsLawful r.base) (sym fs.begins.1) fs.legal.lawful)
        (others_seat 1 x.run.seat (seat ∙ can.number) fs.begins.0 gap_others) on)

    taken : taken_event (history r.base fs.before) c ≡ Some x.run.event
    taken = subst (λ k. taken_event (history r.base fs.before) k ≡ Some x.run.event) call still.took

    silent : is_silent x.gives ≡ true
    silent =
        let answered : AnsweredAll silent_rule r.base (entry_by p.view.known.number (Finish x.run.call x.gives) ∷ reverse fs.before) =
        subst (AnsweredAll silent_rule r.base) (ap reverse finished ∙ reverse-append fs.before (entry_by p.view.known.number (Finish x.run.call x.gives) ∷ [])) fs.legal_after.answered in
        ap is_silent (answered.1 refl x.run.state x.run.event (still.had refl) still.took)

    pub finish_ends : EndsRun r c x.run.event p q
    finish_ends = record {
      adds = adds_one silent_rule r p q (λ set _. FinishDid set x.run x.gives did.0 result) is_running (Finish x.run.call x.gives) fs finished silent (λ is. absurd (cc is));
      drives = λ watches opening events outs items d.
          drives_added watches opening r c events outs items p q (λ set _. FinishDid set x.run x.gives did.0 result) d fs (Finish x.run.call x.gives) finished silent (λ is. absurd (cc is))
          (events ++ x.run.event ∷ []) outs items (ran watches opening events outs items d)
          (λ may. subst (AreSaidOver r.base (runs_in r c) c q.view.known.seen outs) (sym (append-nil (utterances_of p.view.known.mine))) (said_later r.base (runs_in r c) c p.view.known.seen q.view.known.seen later outs (utterances_of p.view.known.mine) (d.said may)))
          (front_beyond r.base c items p.view.known.seen q.view.known.seen later d.front)
          (d.count ∙ omega arith);
    }
      where
        later : IsPrefix p.view.known.seen q.view.known.seen
        later = prefix_trans p.view.known.seen fs.before q.view.known.seen fs.begins (subst (IsPrefix fs.before) (sym finished) (prefix_append fs.before _))

        ran : (watches : Bool) (opening : EntryKind) (events : List Event) (outs : List Given) (items : List Item) → (d : Drives watches opening r c events outs items p)
            → runs_by 1 (deeds_with r.base (history r.base fs.before) (entry_by 1 (Finish x.run.call x.gives))) c ≡ events ++ x.run.event ∷ []
        ran watches opening events outs items d =
            rw (eq-eqb x.run.call c call)
            (ap (λ es. es ++ option_to_list (taken_event (history r.base fs.before) c)) (runs_before watches opening r c events outs items p q (λ set _. FinishDid set x.run x.gives did.0 result) d fs)
            ∙ ap (λ o. events ++ option_to_list o) taken)

  -- a Say
  module _ (out : Out) where
    unrefused : (b : Bool) (o : Option say.SayRefused) → or_else (refused_where b say.TheVariants.JournalFull) o ≡ None → o ≡ None
    unrefused true o is = absurd (cc is)
    unrefused false o is = is

    pub say_speaks : (result : Result (Unit {0}) say.SayRefused) → Steps silent_rule r p q (λ set seat. SayDid set seat c out result) → result ≡ Ok tt → Speaks r c (Says out) p q
    say_speaks (Err e) s is = absurd (cc is)
    say_speaks (Ok a) s is = record {
      adds = adds_one silent_rule r p q (λ set seat. SayDid set seat c out (Ok a)) is_saying (Say c out) s s.did.adds refl (λ is. absurd (cc is));
      drives = λ watches opening events outs items _ d.
          drives_added watches opening r c events outs items p q (λ set seat. SayDid set seat c out (Ok a)) d s (Say c out) s.did.adds refl (λ is. absurd (cc is))
          events (outs ++ given_at (mails events) (Says out) ∷ []) items (runs_before watches opening r c events outs items p q (λ set seat. SayDid set seat c out (Ok a)) d s)
          (λ may. said_later r.base (runs_in r c) c s.before q.view.known.seen added (outs ++ given_at (mails events) (Says out) ∷ []) (utterances_of p.view.known.mine ++ Says out ∷ [])
          (said_more r.base (runs_in r c) c s.before (mails events) (Says out) outs (utterances_of p.view.known.mine) (taken_open r.base s.before c out taken)
          (said_later r.base (runs_in r c) c p.view.known.seen s.before s.begins outs (utterances_of p.view.known.mine) (d.said (can_less r.base c outs (given_at (mails events) (Says out)) may)))))
          (front_beyond r.base c items p.view.known.seen q.view.known.seen later d.front)
          (d.count ∙ omega arith);
    }
      where
        added : IsPrefix s.before q.view.known.seen
        added = subst (IsPrefix s.before) (sym s.did.adds) (prefix_append s.before _)

        later : IsPrefix p.view.known.seen q.view.known.seen
        later = prefix_trans p.view.known.seen s.before q.view.known.seen s.begins added

        taken : out_refusal r.base (history r.base s.before) c out ≡ None
        taken = unrefused (is_full s.before) (out_refusal r.base (history r.base s.before) c out) s.did.unrefused

    pub say_kept : (test : EntryKind → Bool) (result : Result (Unit {0}) say.SayRefused) (e : say.SayRefused) → Steps silent_rule r p q (λ set seat. SayDid set seat c out result) → result ≡ Err e → Calm r c test p q
    say_kept test (Ok a) e s is = absurd (cc is)
    say_kept test (Err x) e s is = record {
      adds = adds_none silent_rule r p q (λ set seat. SayDid set seat c out (Err x)) test s s.did.kept;
      drives = λ watches opening events outs items d. drives_kept watches opening r c events outs items p q (λ set seat. SayDid set seat c out (Err x)) d s s.did.kept;
    }

    not_full : (b : Bool) (o : Option say.SayRefused) (e : say.SayRefused) → e ≢ say.TheVariants.JournalFull → or_else (refused_where b say.TheVariants.JournalFull) o ≡ Some e → o ≡ Some e
    not_full true o e other is = absurd (other (cc is))
    not_full false o e other is = is

    -- refused as it is by the call's state
    pub say_refused : (result : Result (Unit {0}) say.SayRefused) (e : say.SayRefused) → Steps silent_rule r p q (λ set seat. SayDid set seat c out result) → result ≡ Err e
        → e ≢ say.TheVariants.JournalFull → e ≢ say.TheVariants.Memory → Speaks r c (Says out) p q
    say_refused (Ok a) e s is other short = absurd (cc is)
    say_refused (Err x) e s is other short = at s.did.cause
      where
        same : x ≡ e
        same = cc is

        calm : Calm r c is_saying p q
        calm = say_kept is_saying (Err x) x s refl

        told : say_refusal r.base s.before c out ≡ Some x → out_refusal r.base (history r.base s.before) c out ≡ Some x
        told refused = not_full (is_full s.before) (out_refusal r.base (history r.base s.before) c out) x (λ full. other (sym same ∙ full)) refused

        at : (x ≡ say.TheVariants.Memory) ⊎ (say_refusal r.base s.before c out ≡ Some x) → Speaks r c (Says out) p q
        at (inl memory) = absurd (short (sym same ∙ memory))
        at (inr refused) = record {
          adds = calm.adds;
          drives = λ watches opening events outs items _ d.
              let later = calm.drives watches opening events outs items d in
              with_said watches opening r c events outs (outs ++ given_at (mails events) (Says out) ∷ []) items q
              (λ may. said_left r.base (runs_in r c) c q.view.known.seen (mails events) (Says out) outs (utterances_of q.view.known.mine) (ap mails later.runs)
              (subst (λ h. IsLeft r.base c h (Says out)) (sym s.did.kept)
              (refused_left r.base s.before c out x (there_beyond r.base c p.view.known.seen s.before s.begins can.there) (told refused)))
              (later.said (can_less r.base c outs (given_at (mails events) (Says out)) may))) later;
        }

    pub say_full : (result : Result (Unit {0}) say.SayRefused) → Steps silent_rule r p q (λ set seat. SayDid set seat c out result)
        → result ≡ Err say.TheVariants.JournalFull → MAX_ENTRIES ≤ length q.view.known.seen
    say_full (Ok a) s is = absurd (cc is)
    say_full (Err x) s is = at s.did.cause
      where
        full_of : (b : Bool) (o : Option say.SayRefused) → (o ≡ Some say.TheVariants.JournalFull → ⊥) → or_else (refused_where b say.TheVariants.JournalFull) o ≡ Some say.TheVariants.JournalFull → b ≡ true
        full_of true o other is = refl
        full_of false o other is = absurd (other is)

        at : (x ≡ say.TheVariants.Memory) ⊎ (say_refusal r.base s.before c out ≡ Some x) → MAX_ENTRIES ≤ length q.view.known.seen
        at (inl memory) = absurd (cc (is, memory))
        at (inr refused) =
            subst (λ h. MAX_ENTRIES ≤ length h) (sym s.did.kept)
            (full_length s.before (full_of (is_full s.before) (out_refusal r.base (history r.base s.before) c out) (never_full r.base (history r.base s.before) c out) (refused ∙ ap Some (cc is))))

  -- a Done
  done_full : (o : Option Status) (b d : Bool) → or_else (option_map say.TheVariants.Closed o) (or_else (refused_where b say.TheVariants.NoStream) (refused_where d say.TheVariants.Completed)) ≡ Some say.TheVariants.JournalFull → ⊥
  done_full (Some x) b d is = absurd (cc is)
  done_full None true d is = absurd (cc is)
  done_full None false true is = absurd (cc is)
  done_full None false false is = absurd (cc is)

  unfull : (b : Bool) (o : Option say.SayRefused) → or_else (refused_where b say.TheVariants.JournalFull) o ≡ None → o ≡ None
  unfull true o is = absurd (cc is)
  unfull false o is = is

  past_full : (b : Bool) (o : Option say.SayRefused) (e : say.SayRefused) → e ≢ say.TheVariants.JournalFull → or_else (refused_where b say.TheVariants.JournalFull) o ≡ Some e → o ≡ Some e
  past_full true o e other is = absurd (other (cc is))
  past_full false o e other is = is

  full_by : (b : Bool) (o : Option say.SayRefused) → (o ≡ Some say.TheVariants.JournalFull → ⊥) → or_else (refused_where b say.TheVariants.JournalFull) o ≡ Some say.TheVariants.JournalFull → b ≡ true
  full_by true o other is = refl
  full_by false o other is = absurd (other is)

  abbrev ended : List Given → List Event → List Given
  ended outs events = outs ++ given_at (mails events) Completes ∷ []

  pub done_speaks : (result : Result (Unit {0}) say.SayRefused) → Steps silent_rule r p q (λ set seat. DoneDid set seat c result) → result ≡ Ok tt → Speaks r c Completes p q
  done_speaks (Err e) s is = absurd (cc is)
  done_speaks (Ok a) s is = record {
    adds = adds_one silent_rule r p q (λ set seat. DoneDid set seat c (Ok a)) is_saying (Done c) s s.did.adds refl (λ is. absurd (cc is));
    drives = λ watches opening events outs items watching d.
        drives_added watches opening r c events outs items p q (λ set seat. DoneDid set seat c (Ok a)) d s (Done c) s.did.adds (watching refl) (λ is. absurd (cc is))
        events (ended outs events) items (runs_before watches opening r c events outs items p q (λ set seat. DoneDid set seat c (Ok a)) d s)
        (λ may. said_later r.base (runs_in r c) c s.before q.view.known.seen added (ended outs events) (utterances_of p.view.known.mine ++ Completes ∷ [])
        (said_more r.base (runs_in r c) c s.before (mails events) Completes outs (utterances_of p.view.known.mine)
        (λ _. end_open r.base s.before c (may (any_last (λ given. is_completion given.out) outs (given_at (mails events) Completes) refl) s.before (there_beyond r.base c p.view.known.seen s.before s.begins can.there)) taken)
        (said_later r.base (runs_in r c) c p.view.known.seen s.before s.begins outs (utterances_of p.view.known.mine) (d.said (can_less r.base c outs (given_at (mails events) Completes) may)))))
        (front_beyond r.base c items p.view.known.seen q.view.known.seen later d.front)
        (d.count ∙ omega arith);
  }
    where
      added : IsPrefix s.before q.view.known.seen
      added = subst (IsPrefix s.before) (sym s.did.adds) (prefix_append s.before _)

      later : IsPrefix p.view.known.seen q.view.known.seen
      later = prefix_trans p.view.known.seen s.before q.view.known.seen s.begins added

      taken : end_refusal r.base s.before c ≡ None
      taken = unfull (is_full s.before) (end_refusal r.base s.before c) s.did.unrefused

  pub done_kept : (test : EntryKind → Bool) (result : Result (Unit {0}) say.SayRefused) (e : say.SayRefused) → Steps silent_rule r p q (λ set seat. DoneDid set seat c result) → result ≡ Err e → Calm r c test p q
  done_kept test (Ok a) e s is = absurd (cc is)
  done_kept test (Err x) e s is = record {
    adds = adds_none silent_rule r p q (λ set seat. DoneDid set seat c (Err x)) test s s.did.kept;
    drives = λ watches opening events outs items d. drives_kept watches opening r c events outs items p q (λ set seat. DoneDid set seat c (Err x)) d s s.did.kept;
  }

  pub done_refused : (result : Result (Unit {0}) say.SayRefused) (e : say.SayRefused) → Steps silent_rule r p q (λ set seat. DoneDid set seat c result) → result ≡ Err e
      → e ≢ say.TheVariants.JournalFull → e ≢ say.TheVariants.Memory → Speaks r c Completes p q
  done_refused (Ok a) e s is other short = absurd (cc is)
  done_refused (Err x) e s is other short = at s.did.cause
    where
      same : x ≡ e
      same = cc is

      calm : Calm r c is_saying p q
      calm = done_kept is_saying (Err x) x s refl

      told : done_refusal r.base s.before c ≡ Some x → end_refusal r.base s.before c ≡ Some x
      told refused = past_full (is_full s.before) (end_refusal r.base s.before c) x (λ full. other (sym same ∙ full)) refused

      at : (x ≡ say.TheVariants.Memory) ⊎ (done_refusal r.base s.before c ≡ Some x) → Speaks r c Completes p q
      at (inl memory) = absurd (short (sym same ∙ memory))
      at (inr refused) = record {
        adds = calm.adds;
        drives = λ watches opening events outs items _ d.
            let later = calm.drives watches opening events outs items d in
            with_said watches opening r c events outs (ended outs events) items q
            (λ may. said_left r.base (runs_in r c) c q.view.known.seen (mails events) Completes outs (utterances_of q.view.known.mine) (ap mails later.runs)
            (subst (λ h. IsLeft r.base c h Completes) (sym s.did.kept)
            (end_left r.base s.before c x can.client (there_beyond r.base c p.view.known.seen s.before s.begins can.there) (told refused)))
            (later.said (can_less r.base c outs (given_at (mails events) Completes) may))) later;
      }

  pub done_full_journal : (result : Result (Unit {0}) say.SayRefused) → Steps silent_rule r p q (λ set seat. DoneDid set seat c result)
      → result ≡ Err say.TheVariants.JournalFull → MAX_ENTRIES ≤ length q.view.known.seen
  done_full_journal (Ok a) s is = absurd (cc is)
  done_full_journal (Err x) s is = at s.did.cause
    where
      at : (x ≡ say.TheVariants.Memory) ⊎ (done_refusal r.base s.before c ≡ Some x) → MAX_ENTRIES ≤ length q.view.known.seen
      at (inl memory) = absurd (cc (is, memory))
      at (inr refused) =
          subst (λ h. MAX_ENTRIES ≤ length h) (sym s.did.kept)
          (full_length s.before
          (full_by (is_full s.before) (end_refusal r.base s.before c)
          (done_full (end_of (history r.base s.before) c) (is_unary_call (call_at (history r.base s.before) c)) (is_done (history r.base s.before) c)) (refused ∙ ap Some (cc is))))

-- what no frame takes is refused
pub long_speaks : (r : Lock) (c : ℕ) (p : Seat) (out : Out) → is_long_out out ≡ true → Adds silent_rule r is_saying p p → Speaks r c (Says out) p p
long_speaks r c p out long adds = record {
  adds = adds;
  drives = λ watches opening events outs items _ d.
      with_said watches opening r c events outs (outs ++ given_at (mails events) (Says out) ∷ []) items p
      (λ may. said_left r.base (runs_in r c) c p.view.known.seen (mails events) (Says out) outs (utterances_of p.view.known.mine) (ap mails d.runs) (inl long)
      (d.said (can_less r.base c outs (given_at (mails events) (Says out)) may))) d;
}

-- two calm steps
pub calm_trans : (r : Lock) (c : ℕ) (test : EntryKind → Bool) (p m q : Seat) → Calm r c test p m → Calm r c test m q → Calm r c test p q
calm_trans r c test p m q first second = record {
  adds = adds_trans silent_rule r test p m q first.adds second.adds;
  drives = λ watches opening events outs items d. second.drives watches opening events outs items (first.drives watches opening events outs items d);
}

-- the pass may go on
pub can_on : (r : Lock) (c : ℕ) (test : EntryKind → Bool) (p q : Seat) → CanDrive r c p → Adds silent_rule r test p q → CanDrive r c q
can_on r c test p q can adds = record {
  stands = stands_after silent_rule r test p q can.stands adds;
  number = adds.same.number ∙ can.number;
  there = there_beyond r.base c p.view.known.seen q.view.known.seen adds.begins can.there;
  client = can.client;
}

-- ---- a quiet call stays quiet

first_stays : {A : Type 0} (xs more : List A) (x : A) → slice_get xs 0 ≡ Some x → slice_get (xs ++ more) 0 ≡ Some x
first_stays [] more x is = absurd (cc is)
first_stays (y ∷ xs) more x is = is

pub end_stays : (set : Setting) (h later : List Entry) (c : ℕ) (status : Status) → IsPrefix h later → end_of (history set h) c ≡ Some status → end_of (history set later) c ≡ Some status
end_stays set h later c status begins is =
    let more = ends_begin set c (reverse begins.0) (reverse h) in
    subst (λ es. end_of (history set es) c ≡ Some status) begins.1
    (subst (λ es. end_of (deeds_of set es) c ≡ Some status) (sym (reverse-append h begins.0))
    (ap (λ s. slice_get s 0) more.1 ∙ first_stays (ends_of (history set h) c) more.0 status is))

pub quiet_on : (set : Setting) (c : ℕ) (status : Status) (p q : Seat) → IsPrefix p.view.known.seen q.view.known.seen → IsLawful set q.view.known.seen → IsQuietWith set c status p → IsQuietWith set c status q
quiet_on set c status p q begins lawful quiet = record {
  quiet = subst (λ h. is_quiet (history set h) c ≡ true) begins.1 (quiet_for_good set p.view.known.seen begins.0 c (subst (IsLawful set) (sym begins.1) lawful) quiet.quiet).quiet;
  status_is = end_stays set p.view.known.seen q.view.known.seen c status begins quiet.status_is;
}

-- what adds no Cancel leaves how the call was cut
no_cancels : (test : EntryKind → Bool) → ((kind : EntryKind) → test kind ≡ true → is_cancel kind ≡ false) → (es : List Entry) → AreOf test es → cancels es ≡ false
no_cancels test none [] all = refl
no_cancels test none (e ∷ es) all = rw (none e.kind all.0) (no_cancels test none es all.1)

or_right_off : (b c : Bool) → c ≡ false → (if b then true else c) ≡ b
or_right_off true c off = refl
or_right_off false c off = off

pub cut_on : (r : Lock) (c : ℕ) (test : EntryKind → Bool) (cut : Option Status) (p q : Seat) → ((kind : EntryKind) → test kind ≡ true → is_cancel kind ≡ false) → Adds silent_rule r test p q → HasCut r c cut p → HasCut r c cut q
cut_on r c test cut p q none adds has = at cut has
  where
    same : cancels q.view.known.mine ≡ cancels p.view.known.mine
    same = ap cancels adds.mine ∙ (cancels-append p.view.known.mine adds.added ∙ or_right_off (cancels p.view.known.mine) (cancels adds.added) (no_cancels test none adds.added adds.kinds))

    at : (cut : Option Status) → HasCut r c cut p → HasCut r c cut q
    at None has = same ∙ has
    at (Some status) has = quiet_on r.base c status p q adds.begins adds.legal.lawful has

-- a cancel, the wait for its run, and a look
module _ (r : Lock) (c : ℕ) (status : Status) (p m q : Seat) (can : CanDrive r c p) (look : Look) (cw : CancelsAndWaits silent_rule r c status p m) (s : Steps silent_rule r m q (λ set _. LookDid set look)) where
  abbrev mid : Seat
  mid = cw.middle

  abbrev was_cut : Bool
  was_cut = is_cancelled (history r.base cw.cancels.before) c

  seen_is : (b : Bool) → was_cut ≡ b → mid.view.known.seen ≡ (if b then cw.cancels.before else adding cw.cancels.before p.view.known.number (Cancel c))
  seen_is b is = cw.cancels.did.adds ∙ ap (λ x. if x then cw.cancels.before else adding cw.cancels.before p.view.known.number (Cancel c)) is

  first_adds : (b : Bool) → was_cut ≡ b → Adds silent_rule r is_cutting p mid
  first_adds true is = adds_none silent_rule r p mid (λ set seat. CancelDid set seat c cw.answer) is_cutting cw.cancels (seen_is true is)
  first_adds false is = adds_one silent_rule r p mid (λ set seat. CancelDid set seat c cw.answer) is_cutting (Cancel c) cw.cancels (seen_is false is) refl (λ same. absurd (cc same))

  first_drives : (opening : EntryKind) (events : List Event) (outs : List Given) (items : List Item) → (b : Bool) → was_cut ≡ b → Drives true opening r c events outs items p → Drives true opening r c events outs items mid
  first_drives opening events outs items true is d = drives_kept true opening r c events outs items p mid (λ set seat. CancelDid set seat c cw.answer) d cw.cancels (seen_is true is)
  first_drives opening events outs items false is d =
      drives_calm true opening r c events outs items p mid (λ set seat. CancelDid set seat c cw.answer) d cw.cancels (Cancel c) (seen_is false is) refl (λ same. absurd (cc same)) refl refl refl

  number_m : m.view.known.number ≡ 1
  number_m = cw.waits.same.number ∙ (cw.cancels.same.number ∙ can.number)

  shown_m : made_by seat_of 1 m.view.known.seen ≡ m.view.known.mine
  shown_m = subst (λ n. made_by seat_of n m.view.known.seen ≡ m.view.known.mine) number_m s.shown

  waited : (opening : EntryKind) (events : List Event) (outs : List Given) (items : List Item) → Drives true opening r c events outs items mid → Drives true opening r c events outs items m
  waited opening events outs items d = drives_sees true opening r c events outs items mid m d cw.waits.same cw.waits.own_still cw.waits.legal cw.waits.begins cw.waits.mine shown_m

  wait_adds : Adds silent_rule r is_cutting p mid → Adds silent_rule r is_cutting p m
  wait_adds first =
      let number : mid.view.known.number ≡ p.view.known.number = first.same.number in
      let shown_mid : made_by seat_of 1 mid.view.known.seen ≡ mid.view.known.mine = subst (λ n. made_by seat_of n mid.view.known.seen ≡ mid.view.known.mine) can.number first.shown in
      record {
        same = same_trans p mid m first.same cw.waits.same;
        own = cw.waits.own_still;
        legal = cw.waits.legal;
        shown = subst (λ n. made_by seat_of n m.view.known.seen ≡ m.view.known.mine) (sym can.number) shown_m;
        begins = prefix_trans p.view.known.seen mid.view.known.seen m.view.known.seen first.begins cw.waits.begins;
        added = first.added;
        mine = cw.waits.mine ∙ first.mine;
        kinds = first.kinds;
        late = λ late.
            late_still p.view.known.number mid.view.known.seen m.view.known.seen cw.waits.begins
            (subst (λ n. made_by seat_of n m.view.known.seen ≡ made_by seat_of n mid.view.known.seen) (sym can.number) (shown_m ∙ (cw.waits.mine ∙ sym shown_mid))) (first.late late);
      }

  looked : Adds silent_rule r is_cutting m q
  looked = look_adds silent_rule r m q look s is_cutting

  pub cuts_of : Cuts r c status p q
  cuts_of = record {
    adds = adds_trans silent_rule r is_cutting p m q (wait_adds (first_adds was_cut refl)) looked;
    cut = quiet_on r.base c status m q looked.begins looked.legal.lawful cw.ends;
    drives = λ opening events outs items d.
        drives_kept true opening r c events outs items m q (λ set _. LookDid set look) (waited opening events outs items (first_drives opening events outs items was_cut refl d)) s s.did.adds_nothing;
  }

-- ---- what was wanted

pub want_halts : (e : say.SayRefused) (why : Why) → want_by e ≡ Some why → is_halting why ≡ true
want_halts say.TheVariants.JournalFull why is = let same : why ≡ JournalLimit = cc is in ap is_halting same
want_halts say.TheVariants.Memory why is = let same : why ≡ Shortage = cc is in ap is_halting same
want_halts _ why is = absurd (cc is)

pub want_may : (e : say.SayRefused) (why : Why) → want_by e ≡ Some why → is_saying (Halt why) ≡ true
want_may say.TheVariants.JournalFull why is = let same : why ≡ JournalLimit = cc is in ap is_want same
want_may say.TheVariants.Memory why is = let same : why ≡ Shortage = cc is in ap is_want same
want_may _ why is = absurd (cc is)

pub want_full : (e : say.SayRefused) → want_by e ≡ Some JournalLimit → e ≡ say.TheVariants.JournalFull
want_full say.TheVariants.JournalFull is = refl
want_full _ is = absurd (cc is)

-- ---- the next item

next_of_front : {A : Type 0} (xs whole : List A) (x : A) → IsPrefix xs whole → slice_get whole (length xs) ≡ Some x → IsPrefix (xs ++ x ∷ []) whole
next_of_front [] [] x begins there = absurd (cc there)
next_of_front [] (y ∷ ys) x begins there = (ys, cc there)
next_of_front (z ∷ zs) [] x begins there = absurd (cc there)
next_of_front (z ∷ zs) (y ∷ ys) x begins there =
    let rest = next_of_front zs ys x (begins.0, cc (begins.1)) there in
    (rest.0, cc (begins.1, rest.1))

module _ (r : Lock) (c : ℕ) (p q : Seat) (can : CanDrive r c p) where
  module _ (item : Item) (s : Steps silent_rule r p q (λ set seat. FlushDid set seat (Some item))) where
    before_own : made_by seat_of 1 s.before ≡ p.view.known.mine
    before_own = subst (λ n. made_by seat_of n s.before ≡ p.view.known.mine) can.number s.own

    many : flush_count (history r.base s.before) ≡ flushes p.view.known.mine
    many = flushes_count r.base s.before ∙ (flushes_of_seat r.base s.before s.legal.lawful ∙ ap flushes before_own)

    later_items : IsPrefix (items_sent (history r.base s.before)) (items_sent (history r.base q.view.known.seen))
    later_items =
        subst (λ h. IsPrefix (items_sent (history r.base s.before)) (items_sent (history r.base h))) (sym s.did.adds)
        (items_begin r.base s.before (entry_by p.view.known.number Flush ∷ []))

    later : IsPrefix p.view.known.seen q.view.known.seen
    later = prefix_trans p.view.known.seen s.before q.view.known.seen s.begins (subst (IsPrefix s.before) (sym s.did.adds) (prefix_append s.before _))

    pub flush_takes : TakesItem r c item p q
    flush_takes = record {
      adds = adds_one silent_rule r p q (λ set seat. FlushDid set seat (Some item)) is_flushing Flush s s.did.adds refl (λ is. absurd (cc is));
      mine = s.mine (entry_by p.view.known.number Flush ∷ []) s.did.adds ∙ ap (λ n. p.view.known.mine ++ entry_by n Flush ∷ []) can.number;
      more = λ watches opening events outs items d.
          drives_added watches opening r c events outs items p q (λ set seat. FlushDid set seat (Some item)) d s Flush s.did.adds refl (λ is. absurd (cc is))
          events outs (items ++ item ∷ []) (runs_before watches opening r c events outs items p q (λ set seat. FlushDid set seat (Some item)) d s)
          (λ may. subst (AreSaidOver r.base (runs_in r c) c q.view.known.seen outs) (sym (append-nil (utterances_of p.view.known.mine))) (said_later r.base (runs_in r c) c p.view.known.seen q.view.known.seen later outs (utterances_of p.view.known.mine) (d.said may)))
          (prefix_trans (items ++ item ∷ []) (items_sent (history r.base s.before)) (items_sent (history r.base q.view.known.seen))
          (next_of_front items (items_sent (history r.base s.before)) item (front_beyond r.base c items p.view.known.seen s.before s.begins d.front)
          (subst (λ n. slice_get (items_sent (history r.base s.before)) n ≡ Some item) (many ∙ sym d.count) s.did.front)) later_items)
          (omega (arith, length-append items (item ∷ []), d.count));
    }

  pub flush_none : (s : Steps silent_rule r p q (λ set seat. FlushDid set seat None)) → TakesNone r c p q
  flush_none s = record {
    calm = record {
      adds = adds_none silent_rule r p q (λ set seat. FlushDid set seat None) is_flushing s s.did.kept;
      drives = λ watches opening events outs items d. drives_kept watches opening r c events outs items p q (λ set seat. FlushDid set seat None) d s s.did.kept;
    };
    mine = s.mine [] (s.did.kept ∙ sym (append-nil s.before)) ∙ append-nil p.view.known.mine;
    nothing = subst (λ h. NothingToFlush (history r.base h)) (sym s.did.kept) s.did.none;
  }

pub take_some : (r : Lock) (c : ℕ) (p q : Seat) (can : CanDrive r c p) (result : Option Item) → Steps silent_rule r p q (λ set seat. FlushDid set seat result) → IfSome result (λ item. TakesItem r c item p q)
take_some r c p q can None s = tt
take_some r c p q can (Some item) s = flush_takes r c p q can item s

pub take_none : (r : Lock) (c : ℕ) (p q : Seat) (can : CanDrive r c p) (result : Option Item) → Steps silent_rule r p q (λ set seat. FlushDid set seat result) → IfNone result (TakesNone r c p q)
take_none r c p q can None s = flush_none r c p q can s
take_none r c p q can (Some item) s = tt

-- ---- Halts among one's own entries

pub halts_split : (why : Why) (xs ys : List Entry) → HaltsFor why (xs ++ ys) → HaltsFor why xs ⊎ HaltsFor why ys
halts_split why [] ys halts = inr halts
halts_split why (x ∷ xs) ys (inl is) = inl (inl is)
halts_split why (x ∷ xs) ys (inr later) = at (halts_split why xs ys later)
  where
    at : HaltsFor why xs ⊎ HaltsFor why ys → HaltsFor why (x ∷ xs) ⊎ HaltsFor why ys
    at (inl halts) = inl (inr halts)
    at (inr halts) = inr halts

-- an entry of another kind halts nothing
pub halts_past : (why : Why) (mine more : List Entry) → more ≡ mine ++ entry_by 1 Flush ∷ [] → HaltsFor why more → HaltsFor why mine
halts_past why mine more is halts = at (halts_split why mine (entry_by 1 Flush ∷ []) (subst (HaltsFor why) is halts))
  where
    at : HaltsFor why mine ⊎ HaltsFor why (entry_by 1 Flush ∷ []) → HaltsFor why mine
    at (inl halts) = halts
    at (inr (inl is)) = absurd (cc is)
    at (inr (inr none)) = absurd none

pub halts_halt : (why reason : Why) (k : ℕ) (mine more : List Entry) → (more ≡ mine) ⊎ (more ≡ mine ++ entry_by k (Halt why) ∷ []) → HaltsFor reason more → HaltsFor reason mine ⊎ (why ≡ reason)
halts_halt why reason k mine more (inl same) halts = inl (subst (HaltsFor reason) same halts)
halts_halt why reason k mine more (inr is) halts = at (halts_split reason mine (entry_by k (Halt why) ∷ []) (subst (HaltsFor reason) is halts))
  where
    at : HaltsFor reason mine ⊎ HaltsFor reason (entry_by k (Halt why) ∷ []) → HaltsFor reason mine ⊎ (why ≡ reason)
    at (inl halts) = inl halts
    at (inr (inl is)) = inr (cc is)
    at (inr (inr none)) = absurd none

-- a look
pub look_calm : (r : Lock) (c : ℕ) (p q : Seat) (look : Look) (test : EntryKind → Bool) → Steps silent_rule r p q (λ set _. LookDid set look) → Calm r c test p q
look_calm r c p q look test s = record {
  adds = look_adds silent_rule r p q look s test;
  drives = λ watches opening events outs items d. drives_kept watches opening r c events outs items p q (λ set _. LookDid set look) d s s.did.adds_nothing;
}

pub look_unhalted : (r : Lock) (p q : Seat) (look : Look) → Steps silent_rule r p q (λ set _. LookDid set look) → is_some look.halted ≡ false → is_halted r.base q.view.known.seen ≡ false
look_unhalted r p q look s none = ap (is_halted r.base) s.did.adds_nothing ∙ (sym (ap is_some s.did.halted) ∙ none)

pub calm_self : (r : Lock) (c : ℕ) (test : EntryKind → Bool) (p : Seat) → Adds silent_rule r test p p → Calm r c test p p
calm_self r c test p adds = record { adds = adds; drives = λ watches opening events outs items d. d }
