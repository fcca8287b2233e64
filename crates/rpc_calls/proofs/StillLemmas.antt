-- Whether anything is left to do.
use Rattle.std.proofs.Common.{◌≡◌, ℕ, zero, suc, ◌-◌, ◌≤◌, Bool, true, false, ◌&&◌, ◌==◌, List, length, eq-eqb, length-drop, Option, is_none, refl, ap, sym, ◌∙◌, arith}
use Rattle.std.proofs.lemmas.Bool.{true≢false, eqb-true}
use Rattle.rpc_handlers.specs.declared.event.Memo.{Memo}
use Rattle.rpc_handlers.specs.HandlerRule.{HandlerRule}
use Rattle.rpc_journal.specs.declared.item.Item.{Item}
use Rattle.rpc_journal.specs.declared.setting.Setting.{Setting}
use Rattle.rpc_journal.specs.Items.{flush_count, input_ended, items_sent}
use Rattle.rpc_calls.specs.TableHolds.{StandsFor}
use Rattle.rpc_journal.specs.declared.table.call_states.CallStates.{CallStates}
use Rattle.rpc_journal.specs.Calls.{call_count, is_cancelled, runner_of}
use Rattle.rpc_journal.specs.declared.entry.Entry.{Entry}
use Rattle.rpc_journal.specs.Effect.{Deed}
use Rattle.rpc_journal.specs.History.{deeds_of}
use Rattle.rpc_journal.specs.Lawful.{AllowedAll}
use Rattle.rpc_journal.specs.Kinds.{is_empty}
use Rattle.rpc_journal.specs.Queues.{waiting_of}
use Rattle.rpc_journal.specs.Quiet.{all_below, is_settled, is_still, none_runs}
use Rattle.rpc_journal.proofs.EndedLemmas.{cancelled_waits_none}

both_below : (n : ℕ) (p q r : ℕ → Bool) → ((k : ℕ) → r k ≡ (p k && q k)) → all_below n r ≡ (all_below n p && all_below n q)
both_below zero p q r same = refl
both_below (suc n) p q r same = rw (both_below n p q r same, same n) (four (all_below n p) (all_below n q) (p n) (q n))
  where
    four : (a b c d : Bool) → ((a && b) && (c && d)) ≡ ((a && c) && (b && d))
    four true true c d = refl
    four true false true d = refl
    four true false false d = refl
    four false b c d = refl

-- since no event waits for a call that was cancelled, no call has anything to do where none runs and none waits
still_is : (set : Setting) (h : List Entry) → AllowedAll set h
    → all_below (call_count (deeds_of set h)) (is_still (deeds_of set h)) ≡ (none_runs (deeds_of set h) && all_below (call_count (deeds_of set h)) (λ c. is_empty (waiting_of (deeds_of set h) c)))
still_is set h all =
    both_below (call_count (deeds_of set h)) (λ c. is_none (runner_of (deeds_of set h) c)) (λ c. is_empty (waiting_of (deeds_of set h) c)) (is_still (deeds_of set h))
    (λ k. at k (is_cancelled (deeds_of set h) k) refl)
  where
    at : (k : ℕ) (b : Bool) → is_cancelled (deeds_of set h) k ≡ b → is_still (deeds_of set h) k ≡ (is_none (runner_of (deeds_of set h) k) && is_empty (waiting_of (deeds_of set h) k))
    at k true cut = rw (cut, cancelled_waits_none set h k all cut) refl
    at k false uncut = rw uncut refl

three : (a b c : Bool) → ((a && b) && c) ≡ (a && (b && c))
three true b c = refl
three false b c = refl

-- the items were all flushed where none waits
all_flushed : (a b n : ℕ) → a ≤ b → n ≡ b - a → (a == b) ≡ (n == 0)
all_flushed a b n within is = at (a == b) refl (n == 0) refl
  where
    at : (p : Bool) → (a == b) ≡ p → (q : Bool) → (n == 0) ≡ q → p ≡ q
    at true same true none = refl
    at false apart false some = refl
    at true same false some = absurd (true≢false (sym (eq-eqb n 0 (omega (arith, eqb-true a b same, is))) ∙ some))
    at false apart true none = absurd (true≢false (sym (eq-eqb a b (omega (arith, within, is, eqb-true n 0 none))) ∙ apart))

module _ {H : Type 0} (now : H → Memo) (can_act : H → Type 0) (rule : HandlerRule) (set : Setting) where
  pub settled_is : (h : List Entry) (states : CallStates) (handlers : List (Option H)) (items : List Item) (n : ℕ) (empty : Bool) → AllowedAll set h
      → StandsFor now can_act rule set (deeds_of set h) states handlers items → n ≡ length items → empty ≡ (n == 0)
      → ((input_ended (deeds_of set h) && none_runs (deeds_of set h) && all_below (call_count (deeds_of set h)) (λ c. is_empty (waiting_of (deeds_of set h) c))) && empty) ≡ is_settled (deeds_of set h)
  settled_is h states handlers items n empty all stands many is_none_left =
      let ds : List Deed = deeds_of set h in
      let within : flush_count ds ≤ length (items_sent ds) = omega (arith, stands.agrees.items) in
      let left : n ≡ length (items_sent ds) - flush_count ds = many ∙ ap length stands.queue ∙ length-drop (flush_count ds) (items_sent ds) in
      let flushed : empty ≡ (flush_count ds == length (items_sent ds)) = is_none_left ∙ sym (all_flushed (flush_count ds) (length (items_sent ds)) n within left) in
      ap (λ e. (input_ended ds && none_runs ds && all_below (call_count ds) (λ c. is_empty (waiting_of ds c))) && e) flushed
      ∙ ap (λ b. b && (flush_count ds == length (items_sent ds)))
      (three (input_ended ds) (none_runs ds) (all_below (call_count ds) (λ c. is_empty (waiting_of ds c))) ∙ ap (λ s. input_ended ds && s) (sym (still_is set h all)))
