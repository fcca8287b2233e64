-- What a call has said and where its run stands, over the entries of a legal history.
use Rattle.std.proofs.Common.{◌≡◌, ℕ, ◌≤◌, Bool, true, false, ◌&&◌, ◌||◌, ◌==◌, List, [], ◌∷◌, ◌++◌, fold, map, reverse, slice_get, Option, Some, None, is_some, option_map, option_to_list, unwrap_or, IsTrue, refl, ap, sym, ◌∙◌, subst, arith, append_assoc, length-append}
use Rattle.std.proofs.lemmas.Bool.{true≢false, false≢true, eqb-true, eq-eqb, eqb-false, ne_eqb, leb-false, not-false}
use Rattle.std.proofs.lemmas.List.{append-nil}
use Rattle.std.proofs.lemmas.Option.{slice_get_past, slice_get_within}
use mathlib.Core.List.{IsPrefix}
use Rattle.rpc_ids.specs.declared.method.Role.TheVariants.{Server}
use Rattle.rpc_handlers.specs.declared.answer.Answer.{Answer}
use Rattle.rpc_handlers.specs.declared.event.Event.{Event}
use Rattle.rpc_handlers.specs.declared.event.Memo.{Memo}
use Rattle.rpc_handlers.specs.HandlerRule.{HandlerRule}
use Rattle.rpc_journal.specs.declared.entry.Entry.{Entry}
use Rattle.rpc_journal.specs.declared.entry.EntryKind.{EntryKind}
use Rattle.rpc_journal.specs.declared.entry.EntryKind.TheVariants.{Arrive, Invoke, Say, Done, Start, Finish, Replace, Cancel, Tick, Flush, EndIn, Halt, Close}
use Rattle.rpc_journal.specs.declared.setting.Setting.{Setting}
use Rattle.rpc_journal.specs.declared.waiting.Waiting.{Waiting}
use Rattle.rpc_journal.specs.Calls.{calls, call_at, call_count, is_cancelled, is_finish_of, is_replace_of, is_start_of, runner_of}
use Rattle.rpc_journal.specs.Effect.{Deed, Effect, Opening}
use Rattle.rpc_journal.specs.Entries.{effect_of, finish_effect}
use Rattle.rpc_journal.specs.History.{entry_by, history, deeds_of}
use Rattle.rpc_journal.specs.Items.{is_for, is_ready, items_sent}
use Rattle.rpc_journal.specs.Lawful.{AllowedAll, AnsweredAll, IsAnsweredByRule, call_named, finishes_unrun, is_refused, is_unknown}
use Rattle.rpc_journal.specs.Kinds.{is_empty}
use Rattle.rpc_journal.specs.Queues.{taken_event, waiting_of}
use Rattle.rpc_journal.specs.Rows.{no_effect}
use Rattle.rpc_journal.specs.States.{began_since, finished_since, opened_state, opens_call, state_before_run, state_set}
use Rattle.rpc_journal.proofs.Allowed.{Allowed, allowed}
use Rattle.rpc_journal.proofs.PlaceLemmas.{get_front, get_last, get_none}
use Rattle.rpc_journal.proofs.Push.{all-reverse}
use Rattle.rpc_journal.proofs.RunLemmas.{started_ready}
use Rattle.rpc_schedule.proofs.PendingLemmas.{some_waits}
use Rattle.link_laws.specs.uploads.CallItems.{AllButMessages, CallsAreAnswered, HandlersAct, answers_over, is_handlers_own, outs_by}
use Rattle.link_laws.proofs.uploads.EntryItems.{arrival_silent, cancel_silent, close_silent, cancel_no_call, cut_silent, done_silent, finish_no_call, finish_silent, invoke_silent, own_finish, server_invokes, with_call_none}
use Rattle.history_laws.proofs.sizes.GoodStates.{row_opens}
use Rattle.link_laws.proofs.uploads.ItemLemmas.{answers-push, but_append, outs_by-append, silent_behind}

later_uncut : (a b : Bool) → (a || b) ≡ false → b ≡ false
later_uncut true b is = absurd (true≢false is)
later_uncut false b is = is

-- an event that waits is there
first_waits : (ws : List Waiting) → is_empty ws ≡ false → (event : Event) × (slice_get (map (λ (w : Waiting). w.event) ws) 0 ≡ Some event)
first_waits [] some = absurd (true≢false some)
first_waits (w ∷ ws) some = (w.event, refl)

runner_is : (seat : ℕ) (o : Option ℕ) → is_for seat o ≡ true → is_some o ≡ true
runner_is seat None is = absurd (false≢true is)
runner_is seat (Some x) is = refl

-- the deed begins and ends no run of c, replaces no handler, and says nothing of c
record Passes (c : ℕ) (d : Deed) : Type 0 where
  starts : is_start_of c d.entry.kind ≡ false
  finishes : is_finish_of c d.entry.kind ≡ false
  replaces : is_replace_of c d.entry.kind ≡ false
  silent : outs_by c d.does.says ≡ []

module _ (rule : HandlerRule) (set : Setting) where
  -- the run of c took this event, in the state that the events of the earlier runs left
  record Runs (c : ℕ) (o : Opening) (ds : List Deed) : Type 0 where
    event : Event
    took : taken_event ds c ≡ Some event
    before : state_before_run rule set ds c ≡ Some (fold rule.next (opened_state rule set o) (finished_since ds c))
    began : began_since ds c ≡ true

  -- a call that is there
  record Stands (c : ℕ) (o : Opening) (ds : List Deed) : Type 0 where
    given : o.given ≡ None
    state : state_set rule set ds c ≡ Some (opened_state rule set o)
    events : List Event
    begin : IsPrefix events (finished_since ds c)
    all : is_cancelled ds c ≡ false → events ≡ finished_since ds c
    answers : AllButMessages (answers_over rule (opened_state rule set o) events) (outs_by c (items_sent ds))
    runs : is_some (runner_of ds c) ≡ true → Runs c o ds

  -- a call that isn't there
  record Unopened (c : ℕ) (ds : List Deed) : Type 0 where
    silent : outs_by c (items_sent ds) ≡ []
    idle : runner_of ds c ≡ None

  abbrev At : ℕ → Option Opening → List Deed → Type 0
  At c None ds = Unopened c ds
  At c (Some o) ds = Stands c o ds

  -- an entry that is nothing to the call
  still : (ds : List Deed) (d : Deed) (c : ℕ) (o : Opening) → opens_call ds d c ≡ false → Passes c d → Stands c o ds → Stands c o (d ∷ ds)
  still ds d c o closed p st =
      let same : finished_since (d ∷ ds) c ≡ finished_since ds c = rw (closed, p.replaces, p.finishes) refl in
      let runner : runner_of (d ∷ ds) c ≡ runner_of ds c = rw (p.starts, p.finishes) refl in
      record {
        given = st.given;
        state = rw (p.replaces, closed) (st.state);
        events = st.events;
        begin = subst (IsPrefix st.events) (sym same) st.begin;
        all = λ uncut. st.all (later_uncut _ _ uncut) ∙ sym same;
        answers = subst (AllButMessages (answers_over rule (opened_state rule set o) st.events)) (sym (silent_behind c (items_sent ds) d.does.says p.silent)) st.answers;
        runs = λ on. still_runs same (st.runs (sym (ap is_some runner) ∙ on));
      }
    where
      still_runs : finished_since (d ∷ ds) c ≡ finished_since ds c → Runs c o ds → Runs c o (d ∷ ds)
      still_runs same run = record {
        event = run.event;
        took = rw (p.starts) (run.took);
        before = rw (p.starts) (run.before) ∙ ap (λ evs. Some (fold rule.next (opened_state rule set o) evs)) (sym same);
        began = rw (p.starts, closed, p.replaces) (run.began);
      }

  -- the call begins a run
  started : (ds : List Deed) (seat x c : ℕ) (o : Opening) → (x == c) ≡ true → is_ready ds c ≡ true → Stands c o ds
      → Stands c o (record { entry = entry_by seat (Start x); does = no_effect } ∷ ds)
  started ds seat x c o same ready st =
      let event = first_waits (waiting_of ds c) (some_waits ds c ready) in
      record {
        given = st.given;
        state = st.state;
        events = st.events;
        begin = st.begin;
        all = st.all;
        answers = subst (AllButMessages (answers_over rule (opened_state rule set o) st.events)) (sym (silent_behind c (items_sent ds) [] refl)) st.answers;
        runs = λ on. record {
          event = event.0;
          took = rw same (event.1);
          before = rw same (ap (option_map (λ m. fold rule.next m (finished_since ds c))) st.state);
          began = rw same refl;
        };
      }

  -- the call's run ends
  module _ (ds : List Deed) (seat c : ℕ) (a : Answer) (o : Opening) (role : set.role ≡ Server) (is_there : call_at ds c ≡ Some o) (st : Stands c o ds) (run : Runs c o ds) where
    abbrev d : Deed
    d = record { entry = entry_by seat (Finish c a); does = effect_of set ds (Finish c a) }

    own : (c == c) ≡ true
    own = eq-eqb c c refl

    closed : opens_call ds d c ≡ false
    closed = rw (finish_no_call set ds c a (call_at ds c) role) refl

    one_more : finished_since (d ∷ ds) c ≡ finished_since ds c ++ run.event ∷ []
    one_more = rw (closed, own, run.began, run.took) refl

    state_stays : state_set rule set (d ∷ ds) c ≡ Some (opened_state rule set o)
    state_stays = rw closed (st.state)

    no_run : is_some (runner_of (d ∷ ds) c) ≡ true → Runs c o (d ∷ ds)
    no_run on = absurd (false≢true (sym (rw own refl) ∙ on))

    ended_cut : is_cancelled ds c ≡ true → Stands c o (d ∷ ds)
    ended_cut cut = record {
      given = st.given;
      state = state_stays;
      events = st.events;
      begin = (st.begin.0 ++ run.event ∷ [], sym (append_assoc st.events st.begin.0 (run.event ∷ [])) ∙ (ap (λ evs. evs ++ run.event ∷ []) st.begin.1 ∙ sym one_more));
      all = λ uncut. absurd (true≢false (sym cut ∙ uncut));
      answers = subst (AllButMessages (answers_over rule (opened_state rule set o) st.events)) (sym (silent_behind c (items_sent ds) d.does.says (cut_silent c set ds c a (call_at ds c) cut))) st.answers;
      runs = no_run;
    }

    ended_well : is_cancelled ds c ≡ false → a ≡ rule.answer (fold rule.next (opened_state rule set o) (finished_since ds c)) run.event → Stands c o (d ∷ ds)
    ended_well uncut answer =
        let m : Memo = opened_state rule set o in
        let says : AllButMessages a.items (outs_by c d.does.says) =
        subst (λ q. AllButMessages a.items (outs_by c (effect_by q).says)) (sym is_there) (own_finish set ds c a o role uncut) in
        let before : AllButMessages (answers_over rule m (finished_since ds c)) (outs_by c (items_sent ds)) =
        subst (λ evs. AllButMessages (answers_over rule m evs) (outs_by c (items_sent ds))) (st.all uncut) st.answers in
        record {
          given = st.given;
          state = state_stays;
          events = finished_since ds c ++ run.event ∷ [];
          begin = ([], append-nil _ ∙ sym one_more);
          all = λ _. sym one_more;
          answers =
              subst (λ all. AllButMessages all (outs_by c (items_sent (d ∷ ds)))) (sym (answers-push rule m (finished_since ds c) run.event))
              (subst (AllButMessages (answers_over rule m (finished_since ds c) ++ (rule.answer (fold rule.next m (finished_since ds c)) run.event).items)) (sym (outs_by-append c (items_sent ds) d.does.says))
              (but_append (answers_over rule m (finished_since ds c)) _ _ _ before (subst (λ b. AllButMessages b.items (outs_by c d.does.says)) answer says)));
          runs = no_run;
        }
      where
        effect_by : Option Opening → Effect
        effect_by q = finish_effect set ds c a q

    ended : IsTrue rule.ruled → IsAnsweredByRule rule set ds (Finish c a) → Stands c o (d ∷ ds)
    ended ruled by_rule = at (is_cancelled ds c) refl
      where
        at : (b : Bool) → is_cancelled ds c ≡ b → Stands c o (d ∷ ds)
        at true cut = ended_cut cut
        at false uncut = ended_well uncut (by_rule ruled _ _ run.before run.took)

  abbrev deed_of : List Deed → ℕ → EntryKind → Deed
  deed_of ds seat kind = record { entry = entry_by seat kind; does = effect_of set ds kind }

  -- an entry that begins and ends no run of c is nothing to c
  passes : (ds : List Deed) (seat c : ℕ) (kind : EntryKind) → set.role ≡ Server → is_handlers_own kind ≡ true → is_refused set ds kind ≡ false
      → is_start_of c kind ≡ false → is_finish_of c kind ≡ false → Passes c (deed_of ds seat kind)
  passes ds seat c (Arrive p) role own accepted starts finishes = record { starts = refl; finishes = refl; replaces = refl; silent = arrival_silent c set ds p role }
  passes ds seat c (Invoke p m) role own accepted starts finishes = record { starts = refl; finishes = refl; replaces = refl; silent = invoke_silent c set ds p m role accepted }
  passes ds seat c (Say x out) role own accepted starts finishes = absurd (false≢true own)
  passes ds seat c (Done x) role own accepted starts finishes = record { starts = refl; finishes = refl; replaces = refl; silent = done_silent c x (call_at ds x) }
  passes ds seat c (Start x) role own accepted starts finishes = record { starts = starts; finishes = refl; replaces = refl; silent = refl }
  passes ds seat c (Finish x a) role own accepted starts finishes =
      record { starts = refl; finishes = finishes; replaces = refl; silent = finish_silent c set ds x a (call_at ds x) role finishes }
  passes ds seat c (Replace x m) role own accepted starts finishes = absurd (false≢true own)
  passes ds seat c (Cancel x) role own accepted starts finishes = record { starts = refl; finishes = refl; replaces = refl; silent = cancel_silent c set ds x (call_at ds x) role }
  passes ds seat c (Tick t) role own accepted starts finishes = record { starts = refl; finishes = refl; replaces = refl; silent = refl }
  passes ds seat c Flush role own accepted starts finishes = record { starts = refl; finishes = refl; replaces = refl; silent = refl }
  passes ds seat c EndIn role own accepted starts finishes = record { starts = refl; finishes = refl; replaces = refl; silent = refl }
  passes ds seat c (Halt why) role own accepted starts finishes = record { starts = refl; finishes = refl; replaces = refl; silent = refl }
  passes ds seat c (Close channel) role own accepted starts finishes = record { starts = refl; finishes = refl; replaces = refl; silent = close_silent c set ds channel role }

  -- an entry names no call that isn't there
  no_start_past : (count c : ℕ) (kind : EntryKind) → is_unknown count (call_named kind) ≡ false → count ≤ c → is_start_of c kind ≡ false
  no_start_past count c (Start x) known past = ne_eqb x c (λ same. omega (arith, same, leb-false _ _ known, past))
  no_start_past count c _ known past = refl

  no_finish_past : (count c : ℕ) (kind : EntryKind) → is_unknown count (call_named kind) ≡ false → count ≤ c → is_finish_of c kind ≡ false
  no_finish_past count c (Finish x a) known past = ne_eqb x c (λ same. omega (arith, same, leb-false _ _ known, past))
  no_finish_past count c _ known past = refl

  -- a server opens its calls without a state
  no_opening : {P : Type 0} (q : Option Opening) (o : Opening) → q ≡ None → q ≡ Some o → P
  no_opening q o none is = absurd (none_some (sym none ∙ is))
    where
      none_some : {x : Opening} → None ≡ Some x → ⊥
      none_some same = cc

  opens_without : (ds : List Deed) (kind : EntryKind) → set.role ≡ Server → is_refused set ds kind ≡ false
      → (o : Opening) → (effect_of set ds kind).opens ≡ Some o → o.given ≡ None
  opens_without ds (Arrive p) role accepted o is = (row_opens (λ (x : Opening). x.given ≡ None) p set ds role (λ m named. refl)).each o is
  opens_without ds (Invoke p m) role accepted o is = absurd (server_invokes set ds p role accepted)
  opens_without ds (Say c out) role accepted o is = no_opening _ o (with_call_none (call_at ds c) _) is
  opens_without ds (Done c) role accepted o is = no_opening _ o (with_call_none (call_at ds c) _) is
  opens_without ds (Finish c a) role accepted o is = no_opening _ o (finish_no_call set ds c a (call_at ds c) role) is
  opens_without ds (Cancel c) role accepted o is = no_opening _ o (cancel_no_call set ds c (call_at ds c)) is
  opens_without ds (Start c) role accepted o is = no_opening _ o refl is
  opens_without ds (Replace c m) role accepted o is = no_opening _ o refl is
  opens_without ds (Tick t) role accepted o is = no_opening _ o refl is
  opens_without ds Flush role accepted o is = no_opening _ o refl is
  opens_without ds EndIn role accepted o is = no_opening _ o refl is
  opens_without ds (Halt why) role accepted o is = no_opening _ o refl is
  opens_without ds (Close channel) role accepted o is = no_opening _ o refl is

  -- what an entry does that is allowed
  record Adds (ds : List Deed) (seat : ℕ) (kind : EntryKind) : Type 0 where
    is_server : set.role ≡ Server
    ruled : IsTrue rule.ruled
    own : is_handlers_own kind ≡ true
    allows : Allowed set ds (entry_by seat kind)
    by_rule : IsAnsweredByRule rule set ds kind

  -- a call that is there before an entry
  there : (ds : List Deed) (seat c : ℕ) (kind : EntryKind) (o : Opening) → Adds ds seat kind → call_at ds c ≡ Some o → Stands c o ds → Stands c o (deed_of ds seat kind ∷ ds)
  there ds seat c kind o adds is_there st = at (is_start_of c kind) refl (is_finish_of c kind) refl
    where
      closed : opens_call ds (deed_of ds seat kind) c ≡ false
      closed = not_both (is_some (effect_of set ds kind).opens) (call_count ds == c) (ne_eqb (call_count ds) c (λ same. omega (arith, same, slice_get_within (calls ds) c o is_there)))
        where
          not_both : (a b : Bool) → b ≡ false → (a && b) ≡ false
          not_both true b is = is
          not_both false b is = refl

      starting : (k : EntryKind) → k ≡ kind → is_start_of c k ≡ true → is_ready ds c ≡ true → Stands c o (deed_of ds seat k ∷ ds)
      starting (Start x) same is ready = started ds seat x c o is ready st
      starting _ same is ready = absurd (false≢true is)

      finishing : (k : EntryKind) → is_finish_of c k ≡ true → finishes_unrun ds seat k ≡ false → IsAnsweredByRule rule set ds k → Stands c o (deed_of ds seat k ∷ ds)
      finishing (Finish x a) is runs by_rule =
          subst (λ k. Stands c o (deed_of ds seat (Finish k a) ∷ ds)) (sym (eqb-true x c is))
          (ended ds seat c a o adds.is_server is_there st (st.runs (runner_is seat (runner_of ds c) (subst (λ k. is_for seat (runner_of ds k) ≡ true) (eqb-true x c is) (not-false _ runs)))) adds.ruled (subst (λ k. IsAnsweredByRule rule set ds (Finish k a)) (eqb-true x c is) by_rule))
      finishing _ is runs by_rule = absurd (false≢true is)

      at : (s : Bool) → is_start_of c kind ≡ s → (f : Bool) → is_finish_of c kind ≡ f → Stands c o (deed_of ds seat kind ∷ ds)
      at true starts f finishes = starting kind refl starts (started_ready ds c kind adds.allows.started starts)
      at false starts true finishes = finishing kind finishes adds.allows.finished adds.by_rule
      at false starts false finishes =
          still ds (deed_of ds seat kind) c o closed (passes ds seat c kind adds.is_server adds.own adds.allows.accepted starts finishes) st

  -- a call that isn't there before an entry
  module _ (ds : List Deed) (c : ℕ) (d : Deed) (past : call_count ds ≤ c) (p : Passes c d) (un : Unopened c ds) where
    silent_still : outs_by c (items_sent (d ∷ ds)) ≡ []
    silent_still = silent_behind c (items_sent ds) d.does.says p.silent ∙ un.silent

    idle_still : runner_of (d ∷ ds) c ≡ None
    idle_still = rw (p.starts, p.finishes) (un.idle)

    opening : (o : Opening) → o.given ≡ None → d.does.opens ≡ Some o → (call_count ds == c) ≡ true → Stands c o (d ∷ ds)
    opening o given opens here =
        let opened : opens_call ds d c ≡ true = rw (opens, here) refl in
        let none : finished_since (d ∷ ds) c ≡ [] = rw opened refl in
        record {
          given = given;
          state = rw (p.replaces, opened) (ap (option_map (opened_state rule set)) opens);
          events = [];
          begin = ([], sym none);
          all = λ uncut. sym none;
          answers = silent_still;
          runs = λ on. absurd (false≢true (sym (ap is_some idle_still) ∙ on));
        }

    unopened : ((o : Opening) → d.does.opens ≡ Some o → o.given ≡ None) → At c (call_at (d ∷ ds) c) (d ∷ ds)
    unopened given = at d.does.opens refl
      where
        still_none : Unopened c (d ∷ ds)
        still_none = record { silent = silent_still; idle = idle_still }

        at : (q : Option Opening) → d.does.opens ≡ q → At c (slice_get (calls ds ++ option_to_list q) c) (d ∷ ds)
        at None is = subst (λ x. At c x (d ∷ ds)) (sym (slice_get_past (calls ds ++ []) c (omega (arith, past, length-append (calls ds) [])))) still_none
        at (Some o) is = here (call_count ds == c) refl
          where
            here : (b : Bool) → (call_count ds == c) ≡ b → At c (slice_get (calls ds ++ o ∷ []) c) (d ∷ ds)
            here true same =
                subst (λ x. At c x (d ∷ ds)) (sym (ap (slice_get (calls ds ++ o ∷ [])) (sym (eqb-true (call_count ds) c same)) ∙ get_last (calls ds) o)) (opening o (given o is) is same)
            here false apart =
                subst (λ x. At c x (d ∷ ds)) (sym (slice_get_past (calls ds ++ o ∷ []) c (omega (arith, past, eqb-false (call_count ds) c apart, length-append (calls ds) (o ∷ []))))) still_none

  -- one more entry
  one_entry : (ds : List Deed) (seat c : ℕ) (kind : EntryKind) → Adds ds seat kind → At c (call_at ds c) ds → At c (call_at (deed_of ds seat kind ∷ ds) c) (deed_of ds seat kind ∷ ds)
  one_entry ds seat c kind adds before = at (call_at ds c) refl before
    where
      at : (q : Option Opening) → call_at ds c ≡ q → At c q ds → At c (call_at (deed_of ds seat kind ∷ ds) c) (deed_of ds seat kind ∷ ds)
      at None none un =
          let past : call_count ds ≤ c = get_none (calls ds) c none in
          unopened ds c (deed_of ds seat kind) past
          (passes ds seat c kind adds.is_server adds.own adds.allows.accepted (no_start_past (call_count ds) c kind adds.allows.known past) (no_finish_past (call_count ds) c kind adds.allows.known past)) un
          (opens_without ds kind adds.is_server adds.allows.accepted)
      at (Some o) is st =
          subst (λ x. At c x (deed_of ds seat kind ∷ ds)) (sym (get_front (calls ds) (option_to_list (effect_of set ds kind).opens) c (slice_get_within (calls ds) c o is) ∙ is))
          (there ds seat c kind o adds is st)

  all_stand : (h : List Entry) → set.role ≡ Server → IsTrue rule.ruled → AllowedAll set h → AnsweredAll rule set h → HandlersAct h → (c : ℕ) → At c (call_at (deeds_of set h) c) (deeds_of set h)
  all_stand [] role ruled allows answered acts c = subst (λ x. At c x []) (sym (slice_get_past [] c (omega arith))) (record { silent = refl; idle = refl })
  all_stand (e ∷ h) role ruled allows answered acts c =
      one_entry (deeds_of set h) e.seat c e.kind
      (record { is_server = role; ruled = ruled; own = acts.0; allows = allowed set (deeds_of set h) e allows.1; by_rule = answered.1 })
      (all_stand h role ruled allows.0 answered.0 acts.1 c)

pub calls_are_answered : CallsAreAnswered
calls_are_answered rule set h c o role ruled legal own is_there =
    let st = subst (λ q. At rule set c q (history set h)) is_there
    (all_stand rule set (reverse h) role ruled legal.lawful.allowed legal.answered (all-reverse _ h own) c) in
    let first : opened_state rule set o ≡ rule.first set.seed o.method = ap (λ g. unwrap_or g (rule.first set.seed o.method)) st.given in
    record {
      events = st.events;
      begin = st.begin;
      answers = subst (λ m. AllButMessages (answers_over rule m st.events) (outs_by c (items_sent (history set h)))) first st.answers;
    }
