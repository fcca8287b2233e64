-- How what is shown of a call follows its state.
use Rattle.std.specs.Prelude.{◌≡◌, ℕ, true, List, Option, Some, None, is_some, slice_set}
use Rattle.rpc_journal.specs.declared.table.call_state.CallState.{CallState}
use Rattle.rpc_calls.specs.Names.{AreSameNames, IsSetTo, Names, call_under}

-- this state is shown of call c
abbrev pub ShowsAt : ℕ → Option CallState → List CallState → List CallState → Type 0
ShowsAt c None old new = new ≡ old
ShowsAt c (Some x) old new = new ≡ slice_set old c x

-- where the call has an end, its name is no live call's any more, but where a newer call has it
pub record NamesLeft (c : ℕ) (x : CallState) (before after : Names) : Type 0 where
  pub ended : is_some x.status ≡ true → call_under before x.name ≡ Some c → IsSetTo x.name None before after
  pub newer : (call_under before x.name ≡ Some c → ⊥) → AreSameNames before after
  pub live : (is_some x.status ≡ true → ⊥) → AreSameNames before after

abbrev pub NamesAfter : ℕ → Option CallState → Names → Names → Type 0
NamesAfter c None before after = after ≡ before
NamesAfter c (Some x) before after = NamesLeft c x before after
