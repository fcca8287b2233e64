-- A table without a call.
use Rattle.std.proofs.Common.{◌≡◌, ℕ, ◌≤◌, Bool, true, false, List, [], length, Option, if◌then◌else◌, is_some, refl, ap, sym, subst, arith}
use Rattle.rpc_handlers.specs.declared.event.Memo.{Memo}
use Rattle.rpc_handlers.specs.HandlerRule.{HandlerRule}
use Rattle.rpc_journal.specs.declared.table.call_states.CallStates.{CallStates}
use Rattle.rpc_journal.specs.declared.item.Item.{Item}
use Rattle.rpc_journal.specs.declared.setting.Setting.{Setting}
use Rattle.rpc_journal.specs.History.{history}
use Rattle.rpc_journal.specs.Lawful.{IsLegal}
use Rattle.rpc_journal.specs.Recorded.{Recorded}
use Rattle.rpc_journal.specs.table.Agrees.{Agrees}
use Rattle.rpc_calls.specs.Room.{HasPlaces, HasRoom}
use Rattle.rpc_calls.specs.TableHolds.{IsTable, StandsFor}

at_most_one : (b : Bool) → (if b then 0 else 1) ≤ 1
at_most_one true = omega arith
at_most_one false = omega arith

module _ {H : Type 0} (now : H → Memo) (can_act : H → Type 0) (rule : HandlerRule) (set : Setting) where
  pub new_table : (recorded : Recorded) (states : CallStates) (handlers : List (Option H)) (items : List Item) (capacity : ℕ) → recorded.entries ≡ [] → 2 ≤ recorded.spare
      → Agrees [] states → states.calls.items ≡ [] → handlers ≡ [] → items ≡ [] → IsTable now can_act rule set recorded states handlers items capacity
  new_table recorded states handlers items capacity entries spare agrees calls none empty = record {
    legal = subst (IsLegal rule set) (sym entries) (record { lawful = record { allowed = tt }; answered = tt });
    stands = subst (λ es. StandsFor now can_act rule set (history set es) states handlers items) (sym entries)
        (subst (λ hs. StandsFor now can_act rule set [] states hs items) (sym none)
        (subst (λ is. StandsFor now can_act rule set [] states [] is) (sym empty)
        (record { agrees = agrees; keeps = record { many = refl; each = λ c slot there. absurd cc }; queue = refl })));
    room = record {
      room = subst (λ rs. HasRoom rs (length items) states.input_ended (is_some states.halted) recorded.spare capacity) (sym calls)
          (subst (λ is. HasRoom [] (length is) states.input_ended (is_some states.halted) recorded.spare capacity) (sym empty)
          (record { items_fit = omega arith; entries_fit = omega (arith, spare, at_most_one states.input_ended, at_most_one (is_some states.halted)) }));
      places = subst (λ rs. HasPlaces rs states.input_ended) (sym calls) (record { one = λ c r there. absurd cc; free = λ c r there unended open_now. absurd cc });
      few = let none_yet : length states.calls.items ≡ 0 = ap length calls in omega (arith, none_yet);
    };
  }
