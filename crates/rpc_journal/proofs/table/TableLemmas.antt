-- What a plain table knows of the calls of its history.
use Rattle.std.proofs.Common.{◌≡◌, ℕ, false, not, List, Option, Some, None, is_some, option_to_list, refl, ap, ◌∙◌}
use Rattle.std.proofs.lemmas.Bool.{true≢false}
use Rattle.rpc_ids.specs.declared.status.Status.{Status}
use Rattle.rpc_journal.specs.declared.table.call_state.CallState.{CallState}
use Rattle.rpc_journal.specs.Calls.{call_at, has_end}
use Rattle.rpc_journal.specs.Effect.{Opening, Deed}
use Rattle.rpc_journal.specs.Kinds.{is_empty}
use Rattle.rpc_journal.specs.table.Agrees.{IsOpening, AgreesOn}

some_status : (o : Option Status) → not (is_empty (option_to_list o)) ≡ is_some o
some_status None = refl
some_status (Some s) = refl

pub no_status : (o : Option Status) → is_some o ≡ false → o ≡ None
no_status None is = refl
no_status (Some s) is = absurd (true≢false is)

-- whether the call has an end
pub ended_is : (ds : List Deed) (c : ℕ) (r : CallState) → AgreesOn ds c r → has_end ds c ≡ is_some r.status
ended_is ds c r agrees = ap (λ xs. not (is_empty xs)) agrees.ended ∙ some_status r.status

-- how the call opened
pub opening_is : (ds : List Deed) (c : ℕ) (r : CallState) → AgreesOn ds c r
    → (o : Opening) × (call_at ds c ≡ Some o) × (o.name ≡ r.name) × (o.method ≡ r.method)
opening_is ds c r agrees = at (call_at ds c) refl agrees.opening
  where
    at : (q : Option Opening) → call_at ds c ≡ q → IsOpening r q → (o : Opening) × (call_at ds c ≡ Some o) × (o.name ≡ r.name) × (o.method ≡ r.method)
    at None is opening = absurd opening
    at (Some o) is opening = (o, is, opening.0, opening.1)
