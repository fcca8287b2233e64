-- The run of a call for which one event waits, whatever waits for other calls.
use Rattle.std.proofs.Common.{◌≡◌, ℕ, true, false, not, ◌&&◌, ◌==◌, List, [], ◌∷◌, ◌++◌, map, fold, slice_get, Option, Some, None, option_map, option_to_list, if◌then◌else◌, refl, ap, ◌∙◌}
use Rattle.std.proofs.lemmas.Bool.{eq-eqb}
use Rattle.std.proofs.lemmas.List.{append-nil}
use Rattle.std.proofs.lemmas.List.Sums.{fold_push}
use Rattle.std.specs.List.{list_any}
use Rattle.rpc_ids.specs.declared.status.Status.{Status}
use Rattle.rpc_ids.specs.declared.method.Role.TheVariants.{Server}
use Rattle.rpc_handlers.specs.declared.answer.Answer.{Answer}
use Rattle.rpc_handlers.specs.declared.event.Event.{Event}
use Rattle.rpc_handlers.specs.declared.event.Memo.{Memo}
use Rattle.rpc_handlers.specs.HandlerRule.{HandlerRule}
use Rattle.rpc_journal.specs.declared.entry.EntryKind.TheVariants.{Finish, Start}
use Rattle.rpc_journal.specs.declared.item.Item.{Item}
use Rattle.rpc_journal.specs.declared.setting.Setting.{Setting}
use Rattle.rpc_journal.specs.declared.waiting.Waiting.{Waiting}
use Rattle.rpc_journal.specs.Calls.{call_at, ends_of, is_cancelled}
use Rattle.rpc_journal.specs.Effect.{Deed, Opening}
use Rattle.rpc_journal.specs.Entries.{answered, effect_of, end_effect, finish_effect, is_heard, leave_item, was_ended}
use Rattle.rpc_journal.specs.History.{entry_by}
use Rattle.rpc_journal.specs.Items.{is_done, is_for, items_sent, sends_completion}
use Rattle.rpc_journal.specs.Kinds.{is_empty}
use Rattle.rpc_journal.specs.Queues.{is_ended, taken_event, waiting_of}
use Rattle.rpc_journal.specs.Rows.{both_effects, no_effect, says_item}
use Rattle.rpc_journal.specs.States.{began_since, finished_since, state_before_run, state_of, state_set}
use Rattle.history_laws.specs.rounds.Streams.{items_of}
use Rattle.history_laws.proofs.rounds.RunLemmas.{finish_deed, start_deed}
use Rattle.history_laws.proofs.rounds.StreamLemmas.{plain-call_at, plain-ends_of}

-- c opened so, is live and wasn't cancelled, and this event alone waits for it
pub record WillRun (ds : List Deed) (c : ℕ) (o : Opening) (w : Waiting) : Type 0 where
  pub waits : waiting_of ds c ≡ w ∷ []
  pub opened : call_at ds c ≡ Some o
  pub unended : ends_of ds c ≡ []
  pub uncancelled : is_cancelled ds c ≡ false

module _ (ds : List Deed) (c : ℕ) (o : Opening) (w : Waiting) (run : WillRun ds c o w) where
  abbrev begun : List Deed
  begun = start_deed c ∷ ds

  own : (c == c) ≡ true
  own = eq-eqb c c refl

  pub own_event : taken_event begun c ≡ Some w.event
  own_event =
      ap (λ b. if b then slice_get (map (λ (x : Waiting). x.event) (waiting_of ds c)) 0 else taken_event ds c) own
      ∙ ap (λ ws. slice_get (map (λ (x : Waiting). x.event) ws) 0) run.waits

  -- the state before the run is the call's, and the event moves it on
  module _ (rule : HandlerRule) (set : Setting) where
    pub own_state : state_before_run rule set begun c ≡ state_of rule set ds c
    own_state = ap (λ b. if b then state_of rule set ds c else state_before_run rule set ds c) own

    moved : (state : Option Memo) (events : List Event) (event : Event)
        → option_map (λ m. fold rule.next m (events ++ event ∷ [])) state ≡ option_map (λ m. rule.next m event) (option_map (λ m. fold rule.next m events) state)
    moved None events event = refl
    moved (Some m) events event = ap Some (fold_push rule.next m events event)

    run_events : (a : Answer) (says : List Item) → finished_since (finish_deed c a says ∷ begun) c ≡ finished_since ds c ++ w.event ∷ []
    run_events a says =
        ap (λ b. if b && (if b then true else began_since ds c) then finished_since ds c ++ option_to_list (taken_event begun c) else finished_since ds c) own
        ∙ ap (λ event. finished_since ds c ++ option_to_list event) own_event

    pub run_state : (a : Answer) (says : List Item) → state_of rule set (finish_deed c a says ∷ begun) c ≡ option_map (λ m. rule.next m w.event) (state_of rule set ds c)
    run_state a says =
        ap (λ events. option_map (λ m. fold rule.next m events) (state_set rule set ds c)) (run_events a says)
        ∙ moved (state_set rule set ds c) (finished_since ds c) w.event

    pub other_state : (a : Answer) (says : List Item) (k : ℕ) → (c == k) ≡ false → state_of rule set (finish_deed c a says ∷ begun) k ≡ state_of rule set ds k
    other_state a says k apart = rw apart refl

  -- what an answer without an end does, where the event isn't Ended, at a server
  module _ (set : Setting) (server : set.role ≡ Server) (going : is_ended w.event ≡ false) (a : Answer) (endless : a.end ≡ None) where
    heard : is_heard begun c ≡ true
    heard =
        ap (λ (es : List Status). not (not (is_empty es)) && not (was_ended (taken_event begun c))) (plain-ends_of ds (entry_by 2 (Start c)) None [] [] c ∙ run.unended)
        ∙ (ap (λ event. not (was_ended event)) own_event ∙ ap not going)

    same_done : is_done begun c ≡ is_done ds c
    same_done = ap (λ (items : List Item). list_any (λ item. is_for c item.call && sends_completion item.act) items) (append-nil (items_sent ds))

    says_items : answered set.role c o true (is_done ds c) a ≡ record no_effect { says = items_of set ds c o a }
    says_items =
        ap (λ end. both_effects (record no_effect { says = items_of set ds c o a }) (end_effect set.role c o.name o.method.kind (is_done ds c) end)) endless
        ∙ (ap (λ role. both_effects (record no_effect { says = items_of set ds c o a }) (end_effect role c o.name o.method.kind (is_done ds c) None)) server
        ∙ ap (λ says. record no_effect { says = says }) (append-nil (items_of set ds c o a)))

    pub run_says : effect_of set begun (Finish c a) ≡ record no_effect { says = items_of set ds c o a }
    run_says =
        ap (finish_effect set begun c a) (plain-call_at ds (entry_by 2 (Start c)) [] [] c ∙ run.opened)
        ∙ (ap (λ b. if b then says_item (leave_item c) else answered set.role c o (is_heard begun c) (is_done begun c) a) run.uncancelled
        ∙ (ap (λ b. answered set.role c o b (is_done begun c) a) heard
        ∙ (ap (λ b. answered set.role c o true b a) same_done ∙ says_items)))
