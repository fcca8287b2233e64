-- Two servers that heard calm packets compared: what the runs of a call took in one begins what they took in the other.
use Rattle.std.proofs.Common.{◌≡◌, ◌⊎◌, ℕ, ◌<◌, ◌≤◌, Bool, true, false, List, [], ◌∷◌, ◌++◌, length, reverse, slice_get, Some, None, is_some, IsTrue, option_to_list, refl, ap, sym, ◌∙◌, subst, inl, inr, arith, length-append}
use Rattle.std.proofs.lemmas.Bool.{true≢false, false≢true, and_parts}
use Rattle.std.proofs.lemmas.List.{append-nil, reverse-append}
use Rattle.std.proofs.lemmas.Option.{slice_get_within}
use mathlib.Core.List.{IsPrefix}
use Rattle.entry_lists.proofs.Prefixes.{prefix_get, prefix_length, prefix_longer, prefix_self, prefix_shorter, prefix_trans}
use Rattle.rpc_ids.specs.declared.method.Role.TheVariants.{Server}
use Rattle.rpc_packet.specs.declared.owned.Packet.{Packet}
use Rattle.rpc_handlers.specs.declared.event.Event.{Event}
use Rattle.rpc_handlers.specs.declared.event.Memo.{Memo}
use Rattle.rpc_handlers.specs.HandlerRule.{HandlerRule}
use Rattle.rpc_journal.specs.declared.entry.Entry.{Entry}
use Rattle.rpc_journal.specs.declared.setting.Setting.{Setting}
use Rattle.rpc_journal.specs.Calls.{call_at, calls, runner_of}
use Rattle.rpc_journal.specs.Effect.{Deed, Opening}
use Rattle.rpc_journal.specs.Entries.{arrive_row}
use Rattle.rpc_journal.specs.History.{history}
use Rattle.rpc_journal.specs.Items.{arrivals, input_ended}
use Rattle.rpc_journal.specs.States.{finished_since, opened_state}
use Rattle.rpc_journal.proofs.PlaceLemmas.{below_or_not, some_same}
use Rattle.rpc_schedule.specs.OneThread.{IsOneThreadHistory}
use Rattle.run_laws.specs.calm.Alone.{arrived, leaves_open, puts_to, stays_open}
use Rattle.run_laws.specs.calm.Calm.{AreCalm}
use Rattle.run_laws.specs.calm.Taken.{IsServed, RunsBeginAlike, events_taken}
use Rattle.run_laws.proofs.calm.Drive.{arrivals-reverse, follow_all, over_waits, served_steps, whole_rests}
use Rattle.run_laws.proofs.calm.Follow.{Follows, last_word, reach}
use Rattle.run_laws.proofs.calm.Phases.{Phase, Standing}
use Rattle.run_laws.proofs.calm.Phases.Phase.{is_there, not_there}
use Rattle.run_laws.proofs.calm.Phases.Standing.{at_end, at_rest, at_work}
use Rattle.run_laws.proofs.calm.Words.{waits}

-- a beginning of events whose answers leave a call open
pub open_front : (rule : HandlerRule) (m : Memo) (front more : List Event) → stays_open rule m (front ++ more) ≡ true → stays_open rule m front ≡ true
open_front rule m [] more is = refl
open_front rule m (e ∷ front) more is =
    let parts = and_parts (leaves_open rule m e) (stays_open rule (rule.next m e) (front ++ more)) is in
    rw (parts.0) (open_front rule (rule.next m e) front more parts.1)

pub open_begin : (rule : HandlerRule) (m : Memo) (front whole : List Event) → IsPrefix front whole → stays_open rule m whole ≡ true → stays_open rule m front ≡ true
open_begin rule m front whole begin is = open_front rule m front begin.0 (subst (λ es. stays_open rule m es ≡ true) (sym begin.1) is)

-- what the runs of a call took: a beginning of all that can be put to it, and the answer to the newest alone may have ended it
pub record Takes (rule : HandlerRule) (m : Memo) (taken all : List Event) : Type 0 where
  pub begin : IsPrefix taken all
  pub inside : (front more : List Event) (event : Event) → taken ≡ front ++ event ∷ more → stays_open rule m front ≡ true

-- no more can be taken
abbrev pub TakesAll : HandlerRule → Memo → List Event → List Event → Type 0
TakesAll rule m taken all = (taken ≡ all) ⊎ (stays_open rule m taken ≡ false)

module _ (rule : HandlerRule) (m : Memo) where
  inside_open : (taken : List Event) → stays_open rule m taken ≡ true → (front more : List Event) (event : Event) → taken ≡ front ++ event ∷ more → stays_open rule m front ≡ true
  inside_open taken is front more event split = open_begin rule m front taken (event ∷ more, sym split) is

  inside_last : (taken before : List Event) (last : Event) → taken ≡ before ++ last ∷ [] → stays_open rule m before ≡ true
      → (front more : List Event) (event : Event) → taken ≡ front ++ event ∷ more → stays_open rule m front ≡ true
  inside_last taken before last is still front more event split =
      let size : length front ≤ length before =
      omega (arith, ap length (sym is ∙ split), length-append before (last ∷ []), length-append front (event ∷ more)) in
      open_begin rule m front before (prefix_shorter front before taken (event ∷ more, sym split) (last ∷ [], sym is) size) still

  -- of two that take of the same, the one that can take no more has taken what the other took
  pub takes_begin : (mine other all : List Event) → Takes rule m mine all → Takes rule m other all → TakesAll rule m other all → IsPrefix mine other
  takes_begin mine other all takes others done = at (below_or_not (length other) (length mine)) done
    where
      no_more : (rest : List Event) → other ++ rest ≡ mine → length other < length mine → stays_open rule m other ≡ false → IsPrefix mine other
      no_more [] is less shut = absurd (omega (arith, less, ap length is, length-append other []))
      no_more (e ∷ rest) is less shut = absurd (true≢false (sym (takes.inside other rest e (sym is)) ∙ shut))

      at : (length other < length mine) ⊎ (length mine ≤ length other) → TakesAll rule m other all → IsPrefix mine other
      at (inr within) done = prefix_shorter mine other all takes.begin others.begin within
      at (inl less) (inl whole) = absurd (omega (arith, less, prefix_length mine all takes.begin, ap length whole))
      at (inl less) (inr shut) =
          let longer = prefix_shorter other mine all others.begin takes.begin (omega (arith, less)) in
          no_more longer.0 longer.1 less shut

module _ (rule : HandlerRule) (set : Setting) where
  standing_takes : (m : Memo) (ds : List Deed) (c : ℕ) (all : List Event) → Standing rule set m ds c all → Takes rule m (events_taken ds c) all
  standing_takes m ds c all (at_rest i) = record { begin = (waits ds c, i.all); inside = inside_open rule m (events_taken ds c) i.still_open }
  standing_takes m ds c all (at_work b) = record { begin = (waits ds c, b.all); inside = inside_last rule m (events_taken ds c) (finished_since ds c) b.event b.taken b.still_open }
  standing_takes m ds c all (at_end k) = record { begin = k.begin; inside = inside_last rule m (events_taken ds c) k.front k.last k.taken k.still_open }

  -- what a call that is there took
  pub takes : (ds : List Deed) (c : ℕ) (all : List Event) (o : Opening) → call_at ds c ≡ Some o → Phase rule set ds c all → Takes rule (opened_state rule set o) (events_taken ds c) all
  takes ds c all o there (not_there a) = absurd (omega (arith, a.past, slice_get_within (calls ds) c o there))
  takes ds c all o there (is_there x is k) =
      subst (λ y. Takes rule (opened_state rule set y) (events_taken ds c) all) (some_same x o (sym is ∙ there))
      (standing_takes (opened_state rule set x) ds c all k.standing)

  -- and where nothing waits and it has no run
  record Ended (m : Memo) (ds : List Deed) (c : ℕ) (all : List Event) : Type 0 where
    done : finished_since ds c ≡ events_taken ds c
    takes_all : TakesAll rule m (events_taken ds c) all

  standing_ended : (m : Memo) (ds : List Deed) (c : ℕ) (all : List Event) → waits ds c ≡ [] → runner_of ds c ≡ None → Standing rule set m ds c all → Ended m ds c all
  standing_ended m ds c all none no_run (at_rest i) =
      record { done = i.done; takes_all = inl (sym (append-nil (events_taken ds c)) ∙ (ap (λ ws. events_taken ds c ++ ws) (sym none) ∙ i.all)) }
  standing_ended m ds c all none no_run (at_work b) = absurd (false≢true (sym (ap is_some no_run) ∙ b.on))
  standing_ended m ds c all none no_run (at_end k) = record { done = k.done; takes_all = inr k.shut }

  pub ended : (ds : List Deed) (c : ℕ) (all : List Event) (o : Opening) → call_at ds c ≡ Some o → waits ds c ≡ [] → runner_of ds c ≡ None → Phase rule set ds c all
      → (finished_since ds c ≡ events_taken ds c) × TakesAll rule (opened_state rule set o) (events_taken ds c) all
  ended ds c all o there none no_run (not_there a) = absurd (omega (arith, a.past, slice_get_within (calls ds) c o there))
  ended ds c all o there none no_run (is_there x is k) =
      let e = standing_ended (opened_state rule set x) ds c all none no_run k.standing in
      (e.done, subst (λ y. TakesAll rule (opened_state rule set y) (events_taken ds c) all) (some_same x o (sym is ∙ there)) e.takes_all)

-- more packets leave the calls and what was put to them
calls_more : (set : Setting) (new qs : List Packet) → IsPrefix (calls (arrived set qs)) (calls (arrived set (new ++ qs)))
calls_more set [] qs = prefix_self (calls (arrived set qs))
calls_more set (p ∷ new) qs =
    prefix_longer (calls (arrived set qs)) (calls (arrived set (new ++ qs))) (option_to_list (arrive_row set (arrived set (new ++ qs)) p).does.opens) (calls_more set new qs)

puts_more : (set : Setting) (c : ℕ) (new qs : List Packet) → IsPrefix (puts_to (arrived set qs) c) (puts_to (arrived set (new ++ qs)) c)
puts_more set c [] qs = prefix_self (puts_to (arrived set qs) c)
puts_more set c (p ∷ new) qs =
    prefix_longer (puts_to (arrived set qs) c) (puts_to (arrived set (new ++ qs)) c) _ (puts_more set c new qs)

-- A server's own history and the history of one thread, over the same calm packets.
pub record BothFollow (rule : HandlerRule) (set : Setting) (packets : List Packet) (h one : List Entry) : Type 0 where
  pub mine : Follows rule set (history set h) (arrivals (reverse h))
  pub other : Follows rule set (history set one) (reverse packets)
  pub newer : List Packet
  pub longer : reverse packets ≡ newer ++ arrivals (reverse h)
  pub whole : input_ended (history set h) ≡ true → arrivals (reverse h) ≡ reverse packets
  pub at_end : input_ended (history set one) ≡ true
  pub none_waits : (c : ℕ) → waits (history set one) c ≡ []
  pub no_run : (c : ℕ) → runner_of (history set one) c ≡ None

pub both_follow : (rule : HandlerRule) (set : Setting) (packets : List Packet) (h one : List Entry) → set.role ≡ Server → IsTrue rule.ruled → AreCalm rule set packets
    → IsServed rule set packets h → IsOneThreadHistory rule set packets one → BothFollow rule set packets h one
both_follow rule set packets h one role ruled calm served history_one =
    let rests = whole_rests rule set ruled packets one calm history_one in
    let other = subst (Follows rule set (history set one)) rests.heard (follow_all rule set role (reverse one) rests.steps) in
    record {
      mine = follow_all rule set role (reverse h) (served_steps rule set ruled packets h calm served);
      other = other;
      newer = reverse served.heard.0;
      longer = ap reverse (sym served.heard.1) ∙ (reverse-append (arrivals h) served.heard.0 ∙ ap (λ ps. reverse served.heard.0 ++ ps) (sym (arrivals-reverse h)));
      whole = λ e. arrivals-reverse h ∙ ap reverse (served.whole e);
      at_end = rests.input;
      none_waits = over_waits rule set ruled one (reverse packets) history_one.settled.over rests.no_run other;
      no_run = rests.no_run;
    }

module _ (rule : HandlerRule) (set : Setting) (packets : List Packet) (h one : List Entry) (b : BothFollow rule set packets h one) (c : ℕ) where
  same_call : (o : Opening) → call_at (history set h) c ≡ Some o → call_at (history set one) c ≡ Some o
  same_call o there =
      let before : call_at (arrived set (arrivals (reverse h))) c ≡ Some o = ap (λ xs. slice_get xs c) (sym b.mine.same_calls) ∙ there in
      let behind : call_at (arrived set (b.newer ++ arrivals (reverse h))) c ≡ Some o =
      prefix_get (calls (arrived set (arrivals (reverse h)))) (calls (arrived set (b.newer ++ arrivals (reverse h)))) c o (calls_more set b.newer (arrivals (reverse h))) before in
      ap (λ xs. slice_get xs c) b.other.same_calls ∙ (ap (λ qs. call_at (arrived set qs) c) b.longer ∙ behind)

  -- all that can be put to the call in one begins what can be put to it in the other
  pub reaches_further : IsPrefix (reach set (arrivals (reverse h)) (history set h) c) (reach set (reverse packets) (history set one) c)
  reaches_further = at (input_ended (history set h)) refl
    where
      at : (x : Bool) → input_ended (history set h) ≡ x → IsPrefix (reach set (arrivals (reverse h)) (history set h) c) (reach set (reverse packets) (history set one) c)
      at true is = rw (is, b.at_end, b.whole is) (prefix_self _)
      at false is =
          rw (is)
          (subst (λ es. IsPrefix es (reach set (reverse packets) (history set one) c)) (sym (append-nil (puts_to (arrived set (arrivals (reverse h))) c)))
          (prefix_longer (puts_to (arrived set (arrivals (reverse h))) c) (puts_to (arrived set (reverse packets)) c) (last_word (history set one))
          (subst (λ qs. IsPrefix (puts_to (arrived set (arrivals (reverse h))) c) (puts_to (arrived set qs) c)) (sym b.longer) (puts_more set c b.newer (arrivals (reverse h))))))

  begins : (o : Opening) → call_at (history set h) c ≡ Some o → IsPrefix (events_taken (history set h) c) (events_taken (history set one) c)
  begins o there =
      let all : List Event = reach set (reverse packets) (history set one) c in
      let other : call_at (history set one) c ≡ Some o = same_call o there in
      let mine = takes rule set (history set h) c _ o there (b.mine.each c) in
      takes_begin rule (opened_state rule set o) (events_taken (history set h) c) (events_taken (history set one) c) all
      (record { begin = prefix_trans _ _ all mine.begin reaches_further; inside = mine.inside })
      (takes rule set (history set one) c all o other (b.other.each c))
      (ended rule set (history set one) c all o other (b.none_waits c) (b.no_run c) (b.other.each c)).1

  runs_begin : IsPrefix (events_taken (history set h) c) (events_taken (history set one) c)
  runs_begin = at (b.mine.each c)
    where
      at : Phase rule set (history set h) c (reach set (arrivals (reverse h)) (history set h) c) → IsPrefix (events_taken (history set h) c) (events_taken (history set one) c)
      at (not_there a) = subst (λ es. IsPrefix es (events_taken (history set one) c)) (sym a.taken) (events_taken (history set one) c, refl)
      at (is_there o there k) = begins o there

pub runs_begin_alike : RunsBeginAlike
runs_begin_alike rule set packets h one c role ruled calm served history_one =
    runs_begin rule set packets h one (both_follow rule set packets h one role ruled calm served history_one) c
