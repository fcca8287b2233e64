-- What the table keeps of a call's handler, as the history goes on.
use Rattle.std.proofs.Common.{◌≡◌, ℕ, true, false, List, ◌∷◌, Option, Some, None, is_some, IsTrue, option_map, refl, ap, sym, ◌∙◌}
use Rattle.std.proofs.lemmas.Bool.{true≢false}
use Rattle.rpc_handlers.specs.declared.event.Event.{Event}
use Rattle.rpc_handlers.specs.declared.event.Memo.{Memo}
use Rattle.rpc_handlers.specs.HandlerRule.{HandlerRule}
use Rattle.rpc_journal.specs.declared.setting.Setting.{Setting}
use Rattle.rpc_journal.specs.Effect.{Deed}
use Rattle.rpc_journal.specs.Calls.{is_replaced}
use Rattle.rpc_journal.specs.Queues.{taken_event}
use Rattle.rpc_journal.specs.States.{state_of, state_before_run}
use Rattle.rpc_calls.specs.Handlers.{is_over, IsHandlerOf, Keeps}
use Rattle.rpc_calls.proofs.StateLemmas.{LeavesHandler, states_left, StartsHandler, states_started, FinishesHandler, state_finished, state_unmoved, ReplacesHandler, states_replaced}

module _ {H : Type 0} (now : H → Memo) (can_act : H → Type 0) (rule : HandlerRule) (set : Setting) where
  handler_left : (ds after : List Deed) (c : ℕ) (h : H) → state_of rule set after c ≡ state_of rule set ds c
      → IsHandlerOf now can_act rule set ds c h → IsHandlerOf now can_act rule set after c h
  handler_left ds after c h same is = record { able = is.able; state = λ ruled. same ∙ is.state ruled }

  -- an entry that leaves c's handler as it is
  pub keeps_left : (ds : List Deed) (d : Deed) (c : ℕ) (run : Option ℕ) (slot : Option H) → LeavesHandler ds d c
      → (is_over ds c ≡ true → is_over (d ∷ ds) c ≡ true)
      → Keeps now can_act rule set ds c run slot → Keeps now can_act rule set (d ∷ ds) c run slot
  keeps_left ds d c None None leaves over keeps = over keeps
  keeps_left ds d c None (Some h) leaves over keeps = handler_left ds (d ∷ ds) c h (states_left rule set ds d c leaves).state keeps
  keeps_left ds d c (Some seat) None leaves over keeps =
      let same = states_left rule set ds d c leaves in
      record { kept = same.replaced ∙ keeps.kept; began = same.began ∙ keeps.began; state = same.before_run ∙ keeps.state ∙ sym same.state }
  keeps_left ds d c (Some seat) (Some h) leaves over keeps =
      let same = states_left rule set ds d c leaves in
      (handler_left ds (d ∷ ds) c h same.state keeps.0, record { replaced = same.replaced ∙ keeps.1.replaced; later = same.began ∙ keeps.1.later })

  -- a Start takes the handler out
  pub keeps_started : (ds : List Deed) (d : Deed) (c seat : ℕ) → StartsHandler ds d c → Keeps now can_act rule set (d ∷ ds) c (Some seat) None
  keeps_started ds d c seat starts =
      let started = states_started rule set ds d c starts in
      record { kept = started.replaced; began = started.began; state = started.before_run ∙ sym started.state }

  -- a Finish brings the handler that ran back
  pub keeps_returned : (ds : List Deed) (d : Deed) (c seat : ℕ) (event : Event) (m : Memo) (h : H) → FinishesHandler ds d c
      → Keeps now can_act rule set ds c (Some seat) None → taken_event ds c ≡ Some event
      → (IsTrue rule.ruled → state_before_run rule set ds c ≡ Some m) → can_act h
      → (IsTrue rule.ruled → now h ≡ rule.next m event) → Keeps now can_act rule set (d ∷ ds) c None (Some h)
  keeps_returned ds d c seat event m h finishes keeps taken had able moved = record {
    able = able;
    state = λ ruled. state_finished rule set ds d c event finishes keeps.began taken
        ∙ ap (option_map (λ x. rule.next x event)) (sym keeps.state ∙ had ruled) ∙ ap Some (sym (moved ruled));
  }

  -- a Finish leaves the handler that came since
  pub keeps_newer : (ds : List Deed) (d : Deed) (c seat : ℕ) (h : H) → FinishesHandler ds d c
      → Keeps now can_act rule set ds c (Some seat) (Some h) → Keeps now can_act rule set (d ∷ ds) c None (Some h)
  keeps_newer ds d c seat h finishes keeps = handler_left ds (d ∷ ds) c h (state_unmoved rule set ds d c finishes keeps.1.later) keeps.0

  -- a Replace brings a handler
  pub keeps_replaced : (ds : List Deed) (d : Deed) (c : ℕ) (run : Option ℕ) (h : H) → ReplacesHandler d c (now h) → can_act h
      → Keeps now can_act rule set (d ∷ ds) c run (Some h)
  keeps_replaced ds d c None h replaces able =
      let replaced = states_replaced rule set ds d c (now h) replaces in
      record { able = able; state = λ ruled. replaced.state }
  keeps_replaced ds d c (Some seat) h replaces able =
      let replaced = states_replaced rule set ds d c (now h) replaces in
      (record { able = able; state = λ ruled. replaced.state }, record { replaced = replaced.replaced; later = replaced.later })

  -- where c runs, a Replace stands behind its Start exactly where a handler is kept
  pub replaced_is : (ds : List Deed) (c seat : ℕ) (slot : Option H) → Keeps now can_act rule set ds c (Some seat) slot
      → is_replaced ds c ≡ is_some slot
  replaced_is ds c seat None keeps = keeps.kept
  replaced_is ds c seat (Some h) keeps = keeps.1.replaced

  -- a call that isn't over and doesn't run has its handler
  pub has_handler : (ds : List Deed) (c : ℕ) (slot : Option H) → is_over ds c ≡ false → Keeps now can_act rule set ds c None slot
      → is_some slot ≡ true
  has_handler ds c None going keeps = absurd (true≢false (sym keeps ∙ going))
  has_handler ds c (Some h) going keeps = refl
