-- No turn of a settling adds to the account.
use Rattle.std.proofs.Common.{◌≡◌, ℕ, zero, suc, ◌≤◌, Bool, true, List, Option, Some, None, IsTrue, option_and_then, option_map, refl, ap, sym, ◌∙◌, subst}
use Rattle.rpc_ids.specs.declared.method.Role.TheVariants.{Server}
use Rattle.rpc_handlers.specs.declared.answer.Answer.{Answer}
use Rattle.rpc_handlers.specs.declared.event.Event.{Event}
use Rattle.rpc_handlers.specs.declared.event.Memo.{Memo}
use Rattle.rpc_handlers.specs.HandlerRule.{HandlerRule}
use Rattle.rpc_journal.specs.declared.entry.Entry.{Entry}
use Rattle.rpc_journal.specs.declared.entry.EntryKind.TheVariants.{Start, Finish, Flush}
use Rattle.rpc_journal.specs.declared.setting.Setting.{Setting}
use Rattle.rpc_journal.specs.Effect.{Deed, Opening}
use Rattle.rpc_journal.specs.History.{adding, entry_by, history, deeds_with}
use Rattle.rpc_journal.specs.Queues.{taken_event}
use Rattle.rpc_journal.specs.States.{state_before_run}
use Rattle.rpc_journal.proofs.Push.{history-push}
use Rattle.rpc_journal.proofs.PlaceLemmas.{some_same}
use Rattle.rpc_schedule.specs.Schedule.{Ran, Settles, Stage, Turn, Turns, answer_by_rule, flush_seat, run_seat}
use Rattle.rpc_schedule.specs.Schedule.Stage.{running, flushing}
use Rattle.rpc_schedule.proofs.ScheduleLemmas.{entries_of}
use Rattle.history_laws.specs.sizes.Size.{AnswersWithin, answer_items}
use Rattle.history_laws.proofs.sizes.Books.{Books}
use Rattle.history_laws.proofs.sizes.GoodStates.{AreGood, before_run_good, good_still}
use Rattle.history_laws.proofs.sizes.RunLemmas.{finish_opens_none, flushed_one, ran}

-- an answer by the rule is one to a state and the event that was taken
record ByRule (rule : HandlerRule) (before : Option Memo) (taken : Option Event) (a : Answer) : Type 0 where
  state : Memo
  event : Event
  was : before ≡ Some state
  took : taken ≡ Some event
  is : rule.answer state event ≡ a

by_rule : (rule : HandlerRule) (before : Option Memo) (taken : Option Event) (a : Answer)
    → option_and_then (λ m. option_map (rule.answer m) taken) before ≡ Some a → ByRule rule before taken a
by_rule rule None taken a is = absurd cc
by_rule rule (Some m) None a is = absurd cc
by_rule rule (Some m) (Some event) a is = record { state = m; event = event; was = refl; took = refl; is = some_same _ a is }

module _ (rule : HandlerRule) (set : Setting) (good : Memo → Bool) (most : Event → ℕ) (role : set.role ≡ Server) (ruled : IsTrue rule.ruled)
    (answers : AnswersWithin rule good most) (owed : List Opening → ℕ) (budget : ℕ) where
  -- the account stands, and each call was opened in a good state
  pub record Stands (ds : List Deed) : Type 0 where
    pub books : Books most owed budget ds
    pub states : AreGood rule set good answers.stays ds

  abbrev pub Kept : List Entry → Type 0
  Kept h = Stands (history set h)

  ran_keeps : (h now : List Entry) → Ran rule set h now → Kept h → Kept now
  ran_keeps h now r stands =
      let ds : List Deed = history set h in
      let begun : List Deed = deeds_with set ds (entry_by run_seat (Start r.call)) in
      let start : history set (adding h run_seat (Start r.call)) ≡ begun = history-push set h (entry_by run_seat (Start r.call)) in
      let is : answer_by_rule rule set begun r.call ≡ Some r.answer =
      subst (λ (x : List Deed). answer_by_rule rule set x r.call ≡ Some r.answer) start (r.by_rule ruled) in
      let by = by_rule rule (state_before_run rule set begun r.call) (taken_event begun r.call) r.answer is in
      let whole : history set now ≡ deeds_with set begun (entry_by run_seat (Finish r.call r.answer)) =
      ap (history set) r.adds
      ∙ (history-push set (adding h run_seat (Start r.call)) (entry_by run_seat (Finish r.call r.answer))
      ∙ ap (λ x. deeds_with set x (entry_by run_seat (Finish r.call r.answer))) start) in
      let states : AreGood rule set good answers.stays begun = (good_still rule set good answers.stays _ refl (λ c. refl), stands.states) in
      let state : good by.state ≡ true = before_run_good rule set good answers.stays begun r.call by.state states by.was in
      subst Stands (sym whole)
      (record {
        books = ran most owed set budget ds stands.books r.call r.answer by.event role r.first.ready by.took
            (subst (λ a. answer_items a ≤ most by.event) by.is (answers.within by.state by.event state));
        states = (good_still rule set good answers.stays _ (finish_opens_none set begun r.call r.answer role (stands.books.uncancelled r.call)) (λ c. refl), states);
      })

  turn_keeps : (a b : Stage) → Turn rule set a b → Kept (entries_of a) → Kept (entries_of b)
  turn_keeps (running h) (running now) r stands = ran_keeps h now r stands
  turn_keeps (running h) (flushing now) turn stands = subst Kept (sym turn.1) stands
  turn_keeps (flushing h) (flushing now) flushed stands =
      subst Stands (sym (ap (history set) flushed.adds ∙ history-push set h (entry_by flush_seat Flush)))
      (record {
        books = flushed_one most owed set budget (history set h) stands.books flushed.item flushed.waits;
        states = (good_still rule set good answers.stays _ refl (λ c. refl), stands.states);
      })
  turn_keeps (flushing h) (running now) turn stands = subst Kept (sym turn.2) stands

  pub turns_keep : (n : ℕ) (a b : Stage) → Turns rule set n a b → Kept (entries_of a) → Kept (entries_of b)
  turns_keep zero a b same stands = subst (λ s. Kept (entries_of s)) same stands
  turns_keep (suc n) a b turns stands = turns_keep n turns.0 b turns.2 (turn_keeps a turns.0 turns.1 stands)

  pub settles_keep : (h now : List Entry) → Settles rule set h now → Kept h → Kept now
  settles_keep h now settles stands = turns_keep settles.reaches.0 (running h) (flushing now) settles.reaches.1 stands
