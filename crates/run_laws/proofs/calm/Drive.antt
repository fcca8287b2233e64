-- A server's own history and that of one thread both go on by the steps that follow what packets put to each call.
use Rattle.std.proofs.Common.{◌≡◌, ℕ, zero, suc, ◌≤◌, Bool, true, false, not, ◌&&◌, ◌==◌, List, [], ◌∷◌, ◌++◌, length, map, reverse, Option, Some, None, is_some, IsTrue, option_and_then, option_map, if◌then◌else◌, refl, ap, sym, ◌∙◌, subst, arith, append_assoc}
use Rattle.std.proofs.lemmas.Bool.{true≢false, false≢true, eq-eqb, not-false}
use Rattle.std.proofs.lemmas.List.{append-nil, reverse-append, reverse-reverse}
use Rattle.std.specs.List.{AllByRecursion}
use Rattle.rpc_ids.specs.declared.method.Role.TheVariants.{Server}
use Rattle.rpc_packet.specs.declared.owned.Packet.{Packet}
use Rattle.rpc_handlers.specs.declared.answer.Answer.{Answer}
use Rattle.rpc_handlers.specs.declared.event.Event.{Event}
use Rattle.rpc_handlers.specs.declared.event.Memo.{Memo}
use Rattle.rpc_handlers.specs.HandlerRule.{HandlerRule}
use Rattle.rpc_journal.specs.declared.entry.Entry.{Entry}
use Rattle.rpc_journal.specs.declared.entry.EntryKind.{EntryKind}
use Rattle.rpc_journal.specs.declared.entry.EntryKind.TheVariants.{Arrive, Start, Finish, Tick, Flush, EndIn}
use Rattle.rpc_journal.specs.declared.setting.Setting.{Setting}
use Rattle.rpc_journal.specs.declared.waiting.Waiting.{Waiting}
use Rattle.rpc_journal.specs.Calls.{runner_of}
use Rattle.rpc_journal.specs.Effect.{Deed}
use Rattle.rpc_journal.specs.History.{adding, deeds_of, deeds_with, entry_by, history}
use Rattle.rpc_journal.specs.Items.{arrival_of, arrivals, flush_count, input_ended, is_for, is_ready, items_sent, items_waiting}
use Rattle.rpc_journal.specs.Kinds.{is_empty}
use Rattle.rpc_journal.specs.Lawful.{AllowedAll, AnsweredAll, IsAnsweredByRule}
use Rattle.rpc_journal.specs.Queues.{taken_event, waiting_of}
use Rattle.rpc_journal.specs.States.{state_before_run}
use Rattle.rpc_journal.proofs.Allowed.{Allowed, allowed}
use Rattle.rpc_journal.proofs.PlaceLemmas.{get_none, some_same}
use Rattle.rpc_journal.proofs.Push.{all-reverse, all-unreverse, history-push}
use Rattle.rpc_schedule.specs.OneThread.{Handled, IsOneThreadHistory}
use Rattle.rpc_schedule.specs.Schedule.{IsOver, Ran, Settles, Stage, Turn, Turns, answer_by_rule, flush_seat, input_seat, run_seat}
use Rattle.rpc_schedule.specs.Schedule.Stage.{running, flushing}
use Rattle.rpc_schedule.proofs.ScheduleLemmas.{entries_of}
use Rattle.run_laws.specs.calm.Calm.{AreCalm, IsCalmBehind}
use Rattle.run_laws.specs.calm.Taken.{IsServed, is_servers_own}
use Rattle.run_laws.proofs.calm.Follow.{Comes, Follows, Step, follows_nothing, follows_step}
use Rattle.run_laws.proofs.calm.Words.{waits}

-- of entries that stand the newest first: each is a step
abbrev pub AllSteps : HandlerRule → Setting → List Entry → Type 0
AllSteps rule set [] = Unit {0}
AllSteps rule set (e ∷ h) = AllSteps rule set h × Step rule set (deeds_of set h) (arrivals h) e.kind

pub follow_all : (rule : HandlerRule) (set : Setting) → set.role ≡ Server → (h : List Entry) → AllSteps rule set h → Follows rule set (deeds_of set h) (arrivals h)
follow_all rule set role [] steps = follows_nothing rule set
follow_all rule set role (e ∷ h) steps = follows_step rule set role (deeds_of set h) (arrivals h) e.seat e.kind (follow_all rule set role h steps.0) steps.1

-- of packets that stand the newest first: each comes calmly
abbrev pub AllCome : Setting → List Packet → Type 0
AllCome set [] = Unit {0}
AllCome set (p ∷ qs) = AllCome set qs × Comes set qs p

comes : (rule : HandlerRule) (set : Setting) (qs : List Packet) (p : Packet) → IsCalmBehind rule set (reverse qs) p → Comes set qs p
comes rule set qs p calm = record {
  no_error = calm.no_error;
  new_name = λ is. all-unreverse _ qs (calm.new_name is);
  no_tick = calm.no_tick;
}

reverse_last : (p : Packet) (qs later : List Packet) → reverse (p ∷ qs) ++ later ≡ reverse qs ++ p ∷ later
reverse_last p qs later = ap (λ xs. xs ++ later) (reverse-append (p ∷ []) qs) ∙ append_assoc (reverse qs) (p ∷ []) later

-- of packets that stand the newest first: each is calm behind the earlier ones
abbrev pub AllCalm : HandlerRule → Setting → List Packet → Type 0
AllCalm rule set [] = Unit {0}
AllCalm rule set (p ∷ qs) = AllCalm rule set qs × IsCalmBehind rule set (reverse qs) p

-- a beginning of calm packets, the newest first
pub all_calm : (rule : HandlerRule) (set : Setting) (packets : List Packet) → AreCalm rule set packets → (qs later : List Packet) → packets ≡ reverse qs ++ later → AllCalm rule set qs
all_calm rule set packets calm [] later is = tt
all_calm rule set packets calm (p ∷ qs) later is =
    let split : packets ≡ reverse qs ++ p ∷ later = is ∙ reverse_last p qs later in
    (all_calm rule set packets calm qs (p ∷ later) split, calm (reverse qs) later p split)

pub all_come : (rule : HandlerRule) (set : Setting) (qs : List Packet) → AllCalm rule set qs → AllCome set qs
all_come rule set [] calm = tt
all_come rule set (p ∷ qs) calm = (all_come rule set qs calm.0, comes rule set qs p calm.1)

-- calm packets, the newest first
pub calm_whole : (rule : HandlerRule) (set : Setting) (packets : List Packet) → AreCalm rule set packets → AllCalm rule set (reverse packets)
calm_whole rule set packets calm =
    all_calm rule set packets calm (reverse packets) [] (sym (append-nil (reverse (reverse packets)) ∙ reverse-reverse packets))

arrivals-append : (g h : List Entry) → arrivals (g ++ h) ≡ arrivals g ++ arrivals h
arrivals-append [] h = refl
arrivals-append (e ∷ g) h = ap (λ ps. arrival_of e.kind ++ ps) (arrivals-append g h) ∙ sym (append_assoc (arrival_of e.kind) (arrivals g) (arrivals h))

one_or_none : (kind : EntryKind) → reverse (arrival_of kind) ≡ arrival_of kind
one_or_none (Arrive p) = refl
one_or_none _ = refl

pub arrivals-reverse : (h : List Entry) → arrivals (reverse h) ≡ reverse (arrivals h)
arrivals-reverse [] = refl
arrivals-reverse (e ∷ h) =
    ap arrivals (reverse-append (e ∷ []) h)
    ∙ (arrivals-append (reverse h) (e ∷ [])
    ∙ (ap (λ ps. arrivals (reverse h) ++ ps) (append-nil (arrival_of e.kind) ∙ sym (one_or_none e.kind))
    ∙ (ap (λ ps. ps ++ reverse (arrival_of e.kind)) (arrivals-reverse h)
    ∙ sym (reverse-append (arrival_of e.kind) (arrivals h)))))

-- A legal history of a server's own entries.
module _ (rule : HandlerRule) (set : Setting) (ruled : IsTrue rule.ruled) where
  runs_on : (seat : ℕ) (o : Option ℕ) → is_for seat o ≡ true → is_some o ≡ true
  runs_on seat None is = absurd (false≢true is)
  runs_on seat (Some x) is = refl

  legal_step : (ds : List Deed) (qs : List Packet) (seat : ℕ) (kind : EntryKind) → is_servers_own kind ≡ true → Allowed set ds (entry_by seat kind) → IsAnsweredByRule rule set ds kind
      → AllCome set (arrival_of kind ++ qs) → Step rule set ds qs kind
  legal_step ds qs seat (Arrive p) own fits answered come = (fits.input, come.1)
  legal_step ds qs seat (Start c) own fits answered come = not-false _ fits.started
  legal_step ds qs seat (Finish c a) own fits answered come = (runs_on seat (runner_of ds c) (not-false _ fits.finished), answered ruled)
  legal_step ds qs seat (Tick t) own fits answered come = tt
  legal_step ds qs seat Flush own fits answered come = tt
  legal_step ds qs seat EndIn own fits answered come = fits.input
  legal_step ds qs seat _ own fits answered come = absurd (false≢true own)

  earlier_come : (kind : EntryKind) (qs : List Packet) → AllCome set (arrival_of kind ++ qs) → AllCome set qs
  earlier_come (Arrive p) qs come = come.0
  earlier_come _ qs come = come

  legal_steps : (h : List Entry) → AllByRecursion (λ e. is_servers_own e.kind ≡ true) h → AllowedAll set h → AnsweredAll rule set h → AllCome set (arrivals h) → AllSteps rule set h
  legal_steps [] own allows answered come = tt
  legal_steps (e ∷ h) own allows answered come = (
    legal_steps h own.1 allows.0 answered.0 (earlier_come e.kind (arrivals h) come),
    legal_step (deeds_of set h) (arrivals h) e.seat e.kind own.0 (allowed set (deeds_of set h) e allows.1) answered.1 come,
  )

  pub served_calm : (packets : List Packet) (h : List Entry) → AreCalm rule set packets → IsServed rule set packets h → AllCalm rule set (arrivals (reverse h))
  served_calm packets h calm served =
      let heard : arrivals h ≡ reverse (arrivals (reverse h)) = sym (ap reverse (arrivals-reverse h) ∙ reverse-reverse (arrivals h)) in
      let split : packets ≡ reverse (arrivals (reverse h)) ++ served.heard.0 = sym served.heard.1 ∙ ap (λ ps. ps ++ served.heard.0) heard in
      all_calm rule set packets calm (arrivals (reverse h)) served.heard.0 split

  pub served_steps : (packets : List Packet) (h : List Entry) → AreCalm rule set packets → IsServed rule set packets h → AllSteps rule set (reverse h)
  served_steps packets h calm served =
      legal_steps (reverse h) (all-reverse _ h served.kinds) served.legal.lawful.allowed served.legal.answered
      (all_come rule set (arrivals (reverse h)) (served_calm packets h calm served))

-- The history of one thread.
module _ (rule : HandlerRule) (set : Setting) (ruled : IsTrue rule.ruled) where
  -- where no call runs: these packets came, the newest first, and perhaps the end of the input
  pub record Rests (qs : List Packet) (ended : Bool) (h : List Entry) : Type 0 where
    pub steps : AllSteps rule set (reverse h)
    pub no_run : (c : ℕ) → runner_of (history set h) c ≡ None
    pub input : input_ended (history set h) ≡ ended
    pub heard : arrivals (reverse h) ≡ qs

  push : (h : List Entry) (seat : ℕ) (kind : EntryKind) → reverse (adding h seat kind) ≡ entry_by seat kind ∷ reverse h
  push h seat kind = reverse-append h (entry_by seat kind ∷ [])

  -- the same, of entries that stand the newest first
  record RestsNow (qs : List Packet) (ended : Bool) (g : List Entry) : Type 0 where
    steps : AllSteps rule set g
    no_run : (c : ℕ) → runner_of (deeds_of set g) c ≡ None
    input : input_ended (deeds_of set g) ≡ ended
    heard : arrivals g ≡ qs

  rests : (qs : List Packet) (ended : Bool) (h g : List Entry) → reverse h ≡ g → RestsNow qs ended g → Rests qs ended h
  rests qs ended h g is r = at (subst (RestsNow qs ended) (sym is) r)
    where
      at : RestsNow qs ended (reverse h) → Rests qs ended h
      at x = record { steps = x.steps; no_run = x.no_run; input = x.input; heard = x.heard }

  by_rule_is : (ds : List Deed) (c : ℕ) (a : Answer) → answer_by_rule rule set ds c ≡ Some a
      → (m : Memo) (event : Event) → state_before_run rule set ds c ≡ Some m → taken_event ds c ≡ Some event → a ≡ rule.answer m event
  by_rule_is ds c a is m event state took =
      some_same a (rule.answer m event)
      (sym is ∙ (ap (λ o. option_and_then (λ x. option_map (rule.answer x) (taken_event ds c)) o) state ∙ ap (option_map (rule.answer m)) took))

  ran_rests : (qs : List Packet) (ended : Bool) (h now : List Entry) → Rests qs ended h → Ran rule set h now → Rests qs ended now
  ran_rests qs ended h now r ran =
      let c : ℕ = ran.call in
      let a : Answer = ran.answer in
      let own : (c == c) ≡ true = eq-eqb c c refl in
      let answer : answer_by_rule rule set (deeds_with set (history set h) (entry_by run_seat (Start c))) c ≡ Some a =
      subst (λ ds. answer_by_rule rule set ds c ≡ Some a) (history-push set h (entry_by run_seat (Start c))) (ran.by_rule ruled) in
      rests qs ended now (entry_by run_seat (Finish c a) ∷ entry_by run_seat (Start c) ∷ reverse h)
      (ap reverse ran.adds ∙ (push (adding h run_seat (Start c)) run_seat (Finish c a) ∙ ap (λ g. entry_by run_seat (Finish c a) ∷ g) (push h run_seat (Start c))))
      (record {
        steps = ((r.steps, ran.first.ready), (rw own refl, by_rule_is (deeds_with set (history set h) (entry_by run_seat (Start c))) c a answer));
        no_run = λ k. at k (c == k);
        input = r.input;
        heard = r.heard;
      })
    where
      at : (k : ℕ) (b : Bool) → (if false then Some run_seat else if b then None else if b then Some run_seat else if false then None else runner_of (history set h) k) ≡ None
      at k true = refl
      at k false = r.no_run k

  turn_rests : (qs : List Packet) (ended : Bool) (a b : Stage) → Turn rule set a b → Rests qs ended (entries_of a) → Rests qs ended (entries_of b)
  turn_rests qs ended (running h) (running now) ran r = ran_rests qs ended h now r ran
  turn_rests qs ended (running h) (flushing now) turn r = subst (Rests qs ended) (sym turn.1) r
  turn_rests qs ended (flushing h) (flushing now) flushed r =
      rests qs ended now (entry_by flush_seat Flush ∷ reverse h) (ap reverse flushed.adds ∙ push h flush_seat Flush)
      (record { steps = (r.steps, tt); no_run = r.no_run; input = r.input; heard = r.heard })
  turn_rests qs ended (flushing h) (running now) turn r = subst (Rests qs ended) (sym turn.2) r

  turns_rest : (qs : List Packet) (ended : Bool) (n : ℕ) (a b : Stage) → Turns rule set n a b → Rests qs ended (entries_of a) → Rests qs ended (entries_of b)
  turns_rest qs ended zero a b same r = subst (λ s. Rests qs ended (entries_of s)) same r
  turns_rest qs ended (suc n) a b turns r = turns_rest qs ended n turns.0 b turns.2 (turn_rests qs ended a turns.0 turns.1 r)

  settles_rest : (qs : List Packet) (ended : Bool) (h now : List Entry) → Settles rule set h now → Rests qs ended h → Rests qs ended now
  settles_rest qs ended h now settles r = turns_rest qs ended settles.reaches.0 (running h) (flushing now) settles.reaches.1 r

  arrived_rests : (qs : List Packet) (p : Packet) (h : List Entry) → Comes set qs p → Rests qs false h → Rests (p ∷ qs) false (adding h input_seat (Arrive p))
  arrived_rests qs p h come r =
      rests (p ∷ qs) false (adding h input_seat (Arrive p)) (entry_by input_seat (Arrive p) ∷ reverse h) (push h input_seat (Arrive p))
      (record {
        steps = (r.steps, (r.input, subst (λ ps. Comes set ps p) (sym r.heard) come));
        no_run = r.no_run;
        input = r.input;
        heard = ap (λ ps. p ∷ ps) r.heard;
      })

  ended_rests : (qs : List Packet) (h : List Entry) → Rests qs false h → Rests qs true (adding h input_seat EndIn)
  ended_rests qs h r =
      rests qs true (adding h input_seat EndIn) (entry_by input_seat EndIn ∷ reverse h) (push h input_seat EndIn)
      (record { steps = (r.steps, r.input); no_run = r.no_run; input = refl; heard = r.heard })

  pub handled_rests : (qs : List Packet) (h : List Entry) → AllCome set qs → Handled rule set qs h → Rests qs false h
  handled_rests [] h come none = rests [] false h [] (ap reverse none) (record { steps = tt; no_run = λ c. refl; input = refl; heard = refl })
  handled_rests (p ∷ qs) h come handled =
      settles_rest (p ∷ qs) false (adding handled.0 input_seat (Arrive p)) h handled.2
      (arrived_rests qs p handled.0 come.1 (handled_rests qs handled.0 come.0 handled.1))

  pub whole_rests : (packets : List Packet) (h : List Entry) → AreCalm rule set packets → IsOneThreadHistory rule set packets h → Rests (reverse packets) true h
  whole_rests packets h calm history =
      let come = all_come rule set (reverse packets) (calm_whole rule set packets calm) in
      settles_rest (reverse packets) true (adding history.before input_seat EndIn) h history.settled
      (ended_rests (reverse packets) history.before (handled_rests (reverse packets) history.before come history.handled))

  pub handled_over : (qs : List Packet) (h : List Entry) → Handled rule set qs h → IsOver set h
  handled_over [] h none = subst (IsOver set) (sym none) (record { none_ready = λ c. refl; none_waits = refl })
  handled_over (p ∷ qs) h handled = handled.2.over

  -- no event waits where nothing is left to do
  pub over_waits : (h : List Entry) (qs : List Packet) → IsOver set h → ((c : ℕ) → runner_of (history set h) c ≡ None) → Follows rule set (history set h) qs
      → (c : ℕ) → waits (history set h) c ≡ []
  over_waits h qs over no_run follow c = empty (waiting_of (history set h) c) unready
    where
      few : items_waiting (history set h) ≡ 0
      few = let all : length (items_sent (history set h)) ≤ flush_count (history set h) = get_none (items_sent (history set h)) (flush_count (history set h)) over.none_waits in omega (arith, all)

      ready : is_ready (history set h) c ≡ (not (is_empty (waiting_of (history set h) c)) && true && true && true && true)
      ready = rw (no_run c, follow.uncancelled c, follow.unhalted, few) refl

      unready : (not (is_empty (waiting_of (history set h) c)) && true && true && true && true) ≡ false
      unready = sym ready ∙ over.none_ready c

      empty : (ws : List Waiting) → (not (is_empty ws) && true && true && true && true) ≡ false → map (λ (w : Waiting). w.event) ws ≡ []
      empty [] is = refl
      empty (w ∷ ws) is = absurd (true≢false is)
