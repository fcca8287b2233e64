-- The status of a call.
use Rattle.std.proofs.Common.{◌≡◌, ℕ, List, slice_get, Option, Some, None, option_map, option_to_list, refl, ap, sym, ◌∙◌}
use Rattle.rpc_ids.specs.declared.status.Status.{Status}
use Rattle.rpc_journal.specs.declared.table.call_state.CallState.{CallState}
use Rattle.rpc_journal.specs.declared.entry.Entry.{Entry}
use Rattle.rpc_journal.specs.declared.setting.Setting.{Setting}
use Rattle.rpc_journal.specs.History.{history}
use Rattle.rpc_journal.specs.Kinds.{or_else}
use Rattle.rpc_journal.specs.Refusals.{done_refusal}
use Rattle.rpc_journal.specs.Calls.{end_of}
use Rattle.rpc_journal.specs.Effect.{Deed}
use Rattle.rpc_journal.specs.table.Agrees.{AgreesOn}

first_status : (o : Option Status) → slice_get (option_to_list o) 0 ≡ o
first_status None = refl
first_status (Some s) = refl

pub end_is : (ds : List Deed) (c : ℕ) (r : CallState) → AgreesOn ds c r → end_of ds c ≡ r.status
end_is ds c r agrees = ap (λ xs. slice_get xs 0) agrees.ended ∙ first_status r.status

sooner : {A : Type 0} (a b : Option A) → or_else a b ≡ None → a ≡ None
sooner None b h = refl
sooner (Some x) b h = absurd cc

later : {A : Type 0} (a b : Option A) → or_else a b ≡ None → b ≡ None
later None b h = h
later (Some x) b h = absurd cc

unmapped : {A B : Type 0} (f : A → B) (o : Option A) → option_map f o ≡ None → o ≡ None
unmapped f None h = refl
unmapped f (Some x) h = absurd cc

-- a call that can be completed has no end
pub completed_live : (set : Setting) (h : List Entry) (c : ℕ) (r : CallState) → done_refusal set h c ≡ None → AgreesOn (history set h) c r → r.status ≡ None
completed_live set h c r unrefused agrees = sym (end_is (history set h) c r agrees) ∙ unmapped _ (end_of (history set h) c) (sooner _ _ (later _ _ unrefused))
