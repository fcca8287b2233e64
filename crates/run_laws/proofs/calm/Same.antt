-- A settled history over calm packets tells what that of one thread tells.
use Rattle.std.proofs.Common.{◌≡◌, ◌⊎◌, ℕ, ◌<◌, ◌≤◌, true, ◌||◌, List, [], ◌∷◌, ◌++◌, length, map, reverse, slice_get, Option, Some, None, is_none, IsTrue, refl, ap, sym, ◌∙◌, subst, inl, inr, arith}
use Rattle.std.proofs.lemmas.Bool.{false≢true, and_parts}
use Rattle.std.proofs.lemmas.Option.{slice_get_within}
use Rattle.entry_lists.proofs.Prefixes.{prefix_length, prefix_whole}
use Rattle.rpc_ids.specs.declared.method.Role.TheVariants.{Server}
use Rattle.rpc_packet.specs.declared.owned.Packet.{Packet}
use Rattle.rpc_handlers.specs.declared.event.Event.{Event}
use Rattle.rpc_handlers.specs.HandlerRule.{HandlerRule}
use Rattle.rpc_journal.specs.declared.entry.Entry.{Entry}
use Rattle.rpc_journal.specs.declared.entry.EntryKind.{EntryKind}
use Rattle.rpc_journal.specs.declared.entry.EntryKind.TheVariants.{Arrive}
use Rattle.rpc_journal.specs.declared.setting.Setting.{Setting}
use Rattle.rpc_journal.specs.declared.waiting.Waiting.{Waiting}
use Rattle.rpc_journal.specs.Calls.{call_at, call_count, calls, is_cancelled, runner_of}
use Rattle.rpc_journal.specs.Effect.{Deed, Opening}
use Rattle.rpc_journal.specs.History.{deeds_of, history}
use Rattle.rpc_journal.specs.Items.{arrival_of, arrivals, input_ended}
use Rattle.rpc_journal.specs.Kinds.{is_empty}
use Rattle.rpc_journal.specs.Queues.{waiting_of}
use Rattle.rpc_journal.specs.Quiet.{is_settled, is_still}
use Rattle.rpc_journal.specs.States.{finished_since, opened_state}
use Rattle.rpc_journal.proofs.PlaceLemmas.{below_or_not, get_some}
use Rattle.rpc_journal.proofs.StayLemmas.{all_at}
use Rattle.rpc_schedule.specs.OneThread.{IsOneThreadHistory}
use Rattle.run_laws.specs.calm.Alike.{AreAlike, SettlesAlike}
use Rattle.run_laws.specs.calm.Alone.{arrived}
use Rattle.run_laws.specs.calm.Calm.{AreCalm}
use Rattle.run_laws.specs.calm.Taken.{IsServed, events_taken}
use Rattle.run_laws.proofs.calm.Compare.{BothFollow, both_follow, ended, takes, takes_begin}
use Rattle.run_laws.proofs.calm.Drive.{AllCalm, AllSteps, all_come, calm_whole, follow_all, served_calm, served_steps, whole_rests}
use Rattle.run_laws.proofs.calm.Follow.{Follows, Step, reach}
use Rattle.run_laws.proofs.calm.Handling.{name_open}
use Rattle.run_laws.proofs.calm.Phases.{Phase}
use Rattle.run_laws.proofs.calm.Phases.Phase.{is_there, not_there}
use Rattle.run_laws.proofs.calm.Said.{Says, StepOpen, ends_said_of, said_of, says_nothing, says_step}
use Rattle.run_laws.proofs.calm.Words.{waits}

module _ (rule : HandlerRule) (set : Setting) (role : set.role ≡ Server) (ruled : IsTrue rule.ruled) where
  opens_step : (ds : List Deed) (qs : List Packet) (kind : EntryKind) → Follows rule set ds qs → Step rule set ds qs kind → AllCalm rule set (arrival_of kind ++ qs) → StepOpen ds kind
  opens_step ds qs (Arrive p) follow step calm = name_open rule set role ruled ds qs p follow step.0 (all_come rule set qs calm.0) calm.1
  opens_step ds qs _ follow step calm = tt

  earlier_calm : (kind : EntryKind) (qs : List Packet) → AllCalm rule set (arrival_of kind ++ qs) → AllCalm rule set qs
  earlier_calm (Arrive p) qs calm = calm.0
  earlier_calm _ qs calm = calm

  says_all : (h : List Entry) → AllSteps rule set h → AllCalm rule set (arrivals h) → Says rule set (deeds_of set h) (arrivals h)
  says_all [] steps calm = says_nothing rule set
  says_all (e ∷ h) steps calm =
      let follow = follow_all rule set role h steps.0 in
      says_step rule set role (deeds_of set h) (arrivals h) e.seat e.kind follow (says_all h steps.0 (earlier_calm e.kind (arrivals h) calm)) steps.1
      (opens_step (deeds_of set h) (arrivals h) e.kind follow steps.1 calm)

  -- nothing runs and nothing waits in a settled history
  record Quiets (ds : List Deed) (c : ℕ) : Type 0 where
    no_run : runner_of ds c ≡ None
    none_waits : waits ds c ≡ []

  settled_quiets : (ds : List Deed) (qs : List Packet) → Follows rule set ds qs → is_settled ds ≡ true → (c : ℕ) → c < call_count ds → Quiets ds c
  settled_quiets ds qs follow settled c below =
      let all = (and_parts _ _ (and_parts _ _ settled).0).1 in
      let still = and_parts (is_none (runner_of ds c)) (is_cancelled ds c || is_empty (waiting_of ds c)) (all_at (call_count ds) c (is_still ds) all below) in
      record {
        no_run = idle (runner_of ds c) still.0;
        none_waits = empty (waiting_of ds c) (ap (λ b. b || is_empty (waiting_of ds c)) (sym (follow.uncancelled c)) ∙ still.1);
      }
    where
      idle : (o : Option ℕ) → is_none o ≡ true → o ≡ None
      idle None is = refl
      idle (Some x) is = absurd (false≢true is)

      empty : (ws : List Waiting) → is_empty ws ≡ true → map (λ (w : Waiting). w.event) ws ≡ []
      empty [] is = refl
      empty (w ∷ ws) is = absurd (false≢true is)

  module _ (packets : List Packet) (h one : List Entry) (calm : AreCalm rule set packets) (served : IsServed rule set packets h) (settled : is_settled (history set h) ≡ true)
      (history_one : IsOneThreadHistory rule set packets one) where
    both : BothFollow rule set packets h one
    both = both_follow rule set packets h one role ruled calm served history_one

    at_end : input_ended (history set h) ≡ true
    at_end = (and_parts _ _ (and_parts _ _ settled).0).0

    heard : arrivals (reverse h) ≡ reverse packets
    heard = both.whole at_end

    same_calls : calls (history set h) ≡ calls (history set one)
    same_calls = both.mine.same_calls ∙ (ap (λ qs. calls (arrived set qs)) heard ∙ sym both.other.same_calls)

    says_mine : Says rule set (history set h) (reverse packets)
    says_mine =
        subst (Says rule set (history set h)) heard
        (says_all (reverse h) (served_steps rule set ruled packets h calm served) (served_calm rule set ruled packets h calm served))

    says_other : Says rule set (history set one) (reverse packets)
    says_other =
        let rests = whole_rests rule set ruled packets one calm history_one in
        subst (Says rule set (history set one)) rests.heard
        (says_all (reverse one) rests.steps (subst (AllCalm rule set) (sym rests.heard) (calm_whole rule set packets calm)))

    -- all that can be put to a call is the same
    same_reach : (c : ℕ) → reach set (reverse packets) (history set h) c ≡ reach set (reverse packets) (history set one) c
    same_reach c = rw (at_end, both.at_end) refl

    mine_each : (c : ℕ) → Phase rule set (history set h) c (reach set (reverse packets) (history set one) c)
    mine_each c =
        subst (Phase rule set (history set h) c) (ap (λ qs. reach set qs (history set h) c) heard ∙ same_reach c) (both.mine.each c)

    done_there : (c : ℕ) (o : Opening) → call_at (history set h) c ≡ Some o → finished_since (history set h) c ≡ finished_since (history set one) c
    done_there c o there =
        let all : List Event = reach set (reverse packets) (history set one) c in
        let other : call_at (history set one) c ≡ Some o = ap (λ xs. slice_get xs c) (sym same_calls) ∙ there in
        let quiet = settled_quiets (history set h) (arrivals (reverse h)) both.mine settled c (slice_get_within (calls (history set h)) c o there) in
        let mine_ended = ended rule set (history set h) c all o there quiet.none_waits quiet.no_run (mine_each c) in
        let other_ended = ended rule set (history set one) c all o other (both.none_waits c) (both.no_run c) (both.other.each c) in
        let mine_takes = takes rule set (history set h) c all o there (mine_each c) in
        let other_takes = takes rule set (history set one) c all o other (both.other.each c) in
        let begins = takes_begin rule (opened_state rule set o) (events_taken (history set h) c) (events_taken (history set one) c) all mine_takes other_takes other_ended.1 in
        let back = takes_begin rule (opened_state rule set o) (events_taken (history set one) c) (events_taken (history set h) c) all other_takes mine_takes mine_ended.1 in
        let same : events_taken (history set h) c ≡ events_taken (history set one) c =
        prefix_whole (events_taken (history set h) c) (events_taken (history set one) c) begins (prefix_length (events_taken (history set one) c) (events_taken (history set h) c) back) in
        mine_ended.0 ∙ (same ∙ sym other_ended.0)

    -- of a call that is in neither
    none_done : (ds : List Deed) (c : ℕ) (all : List Event) → call_count ds ≤ c → Phase rule set ds c all → finished_since ds c ≡ []
    none_done ds c all past (not_there a) = a.done
    none_done ds c all past (is_there o there k) = absurd (omega (arith, past, slice_get_within (calls ds) c o there))

    same_done : (c : ℕ) → finished_since (history set h) c ≡ finished_since (history set one) c
    same_done c = at (below_or_not c (call_count (history set h)))
      where
        at : (c < call_count (history set h)) ⊎ (call_count (history set h) ≤ c) → finished_since (history set h) c ≡ finished_since (history set one) c
        at (inl below) = let found = get_some (calls (history set h)) c below in done_there c found.0 found.1
        at (inr past) =
            let past_one : call_count (history set one) ≤ c = omega (arith, past, ap length same_calls) in
            none_done (history set h) c _ past (both.mine.each c) ∙ sym (none_done (history set one) c _ past_one (both.other.each c))

    same_call : (c : ℕ) → call_at (history set h) c ≡ call_at (history set one) c
    same_call c = ap (λ xs. slice_get xs c) same_calls

    alike : AreAlike (history set h) (history set one)
    alike = record {
      same_calls = same_calls;
      same_ends = λ c.
          ap (λ xs. slice_get xs 0)
          (says_mine.ends c ∙ (ap (λ o. ends_said_of rule set c o (finished_since (history set h) c)) (same_call c)
          ∙ (ap (ends_said_of rule set c (call_at (history set one) c)) (same_done c) ∙ sym (says_other.ends c))));
      same_items = λ c.
          says_mine.items c ∙ (ap (λ o. said_of rule set c o (finished_since (history set h) c)) (same_call c)
          ∙ (ap (said_of rule set c (call_at (history set one) c)) (same_done c) ∙ sym (says_other.items c)));
      same_replies = says_mine.replies_are ∙ sym says_other.replies_are;
    }

pub settles_alike : SettlesAlike
settles_alike rule set packets h one role ruled calm served settled history_one = alike rule set role ruled packets h one calm served settled history_one
