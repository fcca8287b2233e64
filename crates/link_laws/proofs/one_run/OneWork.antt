-- The work of an end in a turn leads to one history.
use Rattle.std.proofs.Common.{◌≡◌, ℕ, zero, suc, List, [], ◌∷◌, Option, IsTrue, refl, ap, sym, ◌∙◌, subst}
use Rattle.std.proofs.lemmas.Bool.{true≢false}
use Rattle.rpc_packet.specs.declared.owned.Packet.{Packet}
use Rattle.rpc_handlers.specs.HandlerRule.{HandlerRule}
use Rattle.rpc_journal.specs.declared.entry.Entry.{Entry}
use Rattle.rpc_journal.specs.declared.entry.EntryKind.TheVariants.{Arrive}
use Rattle.rpc_journal.specs.declared.setting.Setting.{Setting}
use Rattle.rpc_journal.specs.Choice.{NoneReady}
use Rattle.rpc_journal.specs.History.{adding, history}
use Rattle.rpc_schedule.specs.Schedule.{NoneWaits, input_seat, next_item}
use Rattle.rpc_schedule.proofs.ScheduleLemmas.{waits_and_not, ran_same, settles_same}
use Rattle.link_laws.specs.world.Client.{ClientSettles, ClientTakes, FlushesTo, RunsTo, task_after, task_said}
use Rattle.link_laws.specs.world.Setup.{quiet_rule}
use Rattle.link_laws.specs.world.Hearing.{ServerTakes}
use Rattle.link_laws.specs.world.World.{Tasked}

module _ (rule : HandlerRule) (set : Setting) (ruled : IsTrue rule.ruled) where
  pub server_takes_same : (ps : List Packet) (h a b : List Entry) → ServerTakes rule set ps h a → ServerTakes rule set ps h b → a ≡ b
  server_takes_same [] h a b x y = x ∙ sym y
  server_takes_same (p ∷ ps) h a b x y =
      server_takes_same ps x.0 a b x.2 (subst (λ mid. ServerTakes rule set ps mid b) (sym (settles_same rule set ruled (adding h input_seat (Arrive p)) (adding h input_seat (Arrive p)) x.0 y.0 refl x.1 y.1)) y.2)

  -- runs until none is ready
  runs_same : (n m : ℕ) (h a b : List Entry) → RunsTo rule set n h a → NoneReady (history set a) → RunsTo rule set m h b → NoneReady (history set b) → a ≡ b
  runs_same zero zero h a b x none_a y none_b = x ∙ sym y
  runs_same zero (suc m) h a b x none_a y none_b =
      absurd (true≢false (sym y.1.first.ready ∙ subst (λ t. NoneReady (history set t)) x none_a y.1.call))
  runs_same (suc n) zero h a b x none_a y none_b =
      absurd (true≢false (sym x.1.first.ready ∙ subst (λ t. NoneReady (history set t)) y none_b x.1.call))
  runs_same (suc n) (suc m) h a b x none_a y none_b =
      runs_same n m x.0 a b x.2 none_a (subst (λ t. RunsTo rule set m t b) (sym (ran_same rule set ruled h x.0 y.0 x.1 y.1)) y.2) none_b

module _ (set : Setting) where
  -- flushes until none waits
  flushes_same : (n m : ℕ) (h a b : List Entry) → FlushesTo set n h a → NoneWaits (history set a) → FlushesTo set m h b → NoneWaits (history set b) → a ≡ b
  flushes_same zero zero h a b x none_a y none_b = x ∙ sym y
  flushes_same zero (suc m) h a b x none_a y none_b =
      absurd (waits_and_not (next_item (history set h)) y.1.item y.1.waits (subst (λ t. NoneWaits (history set t)) x none_a))
  flushes_same (suc n) zero h a b x none_a y none_b =
      absurd (waits_and_not (next_item (history set h)) x.1.item x.1.waits (subst (λ t. NoneWaits (history set t)) y none_b))
  flushes_same (suc n) (suc m) h a b x none_a y none_b =
      flushes_same n m x.0 a b x.2 none_a (subst (λ t. FlushesTo set m t b) (y.1.adds ∙ sym x.1.adds) y.2) none_b

  module _ (now : ℕ) where
    pub client_settles_same : (h : List Entry) (task : Option Tasked) (a b : List Entry) (s t : Option Tasked) → ClientSettles set now h task a s → ClientSettles set now h task b t
        → (a ≡ b) × (s ≡ t)
    client_settles_same h task a b s t x y =
        let ran : x.ran ≡ y.ran = runs_same quiet_rule set refl x.run_count y.run_count h x.ran y.ran x.runs x.none_ready y.runs y.none_ready in (
          flushes_same x.flush_count y.flush_count (task_said set now h x.ran task) a b x.flushes x.none_waits
              (subst (λ r. FlushesTo set y.flush_count (task_said set now h r task) b) (sym ran) y.flushes) y.none_waits,
          x.task_is ∙ (ap (λ r. task_after set now h r task) ran ∙ sym y.task_is),
        )

    pub client_takes_same : (ps : List Packet) (h : List Entry) (task : Option Tasked) (a b : List Entry) (s t : Option Tasked)
        → ClientTakes set now ps h task a s → ClientTakes set now ps h task b t → (a ≡ b) × (s ≡ t)
    client_takes_same [] h task a b s t x y = (x.0 ∙ sym y.0, x.1 ∙ sym y.1)
    client_takes_same (p ∷ ps) h task a b s t x y =
        let mid = client_settles_same (adding h input_seat (Arrive p)) task x.0 y.0 x.1 y.1 x.2 y.2 in
        client_takes_same ps x.0 x.1 a b s t x.3
        (subst (λ r. ClientTakes set now ps x.0 r b t) (sym mid.1) (subst (λ e. ClientTakes set now ps e y.1 b t) (sym mid.0) y.3))
