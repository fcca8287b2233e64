-- The name and the method of a call.
use Rattle.std.proofs.Common.{◌≡◌, ℕ, List, Option, Some, None, option_map, ap}
use Rattle.rpc_journal.specs.declared.table.call_state.CallState.{CallState}
use Rattle.rpc_journal.specs.Calls.{call_at}
use Rattle.rpc_journal.specs.Effect.{Opening, Deed}
use Rattle.rpc_journal.specs.table.Agrees.{IsOpening, AgreesOn}

named : (r : CallState) (o : Option Opening) → IsOpening r o → option_map (λ x. x.name) o ≡ Some r.name
named r None opens = absurd opens
named r (Some o) opens = ap Some opens.0

of_method : (r : CallState) (o : Option Opening) → IsOpening r o → option_map (λ x. x.method) o ≡ Some r.method
of_method r None opens = absurd opens
of_method r (Some o) opens = ap Some opens.1

pub name_is : (ds : List Deed) (c : ℕ) (r : CallState) → AgreesOn ds c r → option_map (λ o. o.name) (call_at ds c) ≡ Some r.name
name_is ds c r agrees = named r (call_at ds c) agrees.opening

pub method_is : (ds : List Deed) (c : ℕ) (r : CallState) → AgreesOn ds c r → option_map (λ o. o.method) (call_at ds c) ≡ Some r.method
method_is ds c r agrees = of_method r (call_at ds c) agrees.opening
