use Rattle.std.proofs.Common.{◌≡◌, ◌∙◌, Some, slice_get, ap, sym, subst}
use Rattle.rpc_calls.specs.Kept.{is_kept_at}
use Rattle.rpc_calls.proofs.LeaveSteps.{left_done, left_empty, state_kept}
use Rattle.rpc_calls.proofs.RecordSteps.{key_there}
use Rattle.rpc_calls.proofs.call_records.CallRecords.state.Goals as goal

pub state_under-requires : goal.state_under-requires
state_under-requires g c = key_there c.self.inside.records c.self.inside.places.items c.self.inside.shown.items c.self.inside.names c.args.call c.in-Some-Kept.key c.self.invariant (sym c.place_of.ensures ∙ c.in-Some-Kept.is ∙ ap (λ p. Some p) c.in-Some-Kept.field-0-is)

pub returns-in-Some-Kept-clause-state : goal.returns-in-Some-Kept-clause-state
returns-in-Some-Kept-clause-state g c =
    rw (sym c.self.view_is)
    (state_kept c.self.inside.records c.self.inside.places.items c.self.inside.shown.items c.self.inside.names c.args.call c.in-Some-Kept.key c.state_under.result.now c.self.invariant (sym c.place_of.ensures ∙ c.in-Some-Kept.is ∙ ap (λ p. Some p) c.in-Some-Kept.field-0-is) c.state_under.ensures)

pub returns-in-Some-Left-clause-left : goal.returns-in-Some-Left-clause-left
returns-in-Some-Left-clause-left g c = λ r there.
    left_done c.self.inside.records c.self.inside.places.items c.self.inside.shown.items c.self.inside.names c.args.call r c.self.invariant (subst (λ t. slice_get t.states.calls.items c.args.call ≡ Some r) (sym c.self.view_is) there)
    (ap is_kept_at (sym c.place_of.ensures ∙ c.in-Some-Left.is ∙ ap (λ p. Some p) c.in-Some-Left.field-0-is))

pub returns-in-Some-Left-clause-empty : goal.returns-in-Some-Left-clause-empty
returns-in-Some-Left-clause-empty g c = λ slot there.
    left_empty c.self.inside.records c.self.inside.places.items c.args.call slot (subst (λ t. slice_get t.handlers c.args.call ≡ Some slot) (sym c.self.view_is) there)
    (ap is_kept_at (sym c.place_of.ensures ∙ c.in-Some-Left.is ∙ ap (λ p. Some p) c.in-Some-Left.field-0-is))

pub returns-in-None-clause-left : goal.returns-in-None-clause-left
returns-in-None-clause-left g c = λ r there.
    left_done c.self.inside.records c.self.inside.places.items c.self.inside.shown.items c.self.inside.names c.args.call r c.self.invariant (subst (λ t. slice_get t.states.calls.items c.args.call ≡ Some r) (sym c.self.view_is) there)
    (ap is_kept_at (sym c.place_of.ensures ∙ c.in-None.is))

pub returns-in-None-clause-empty : goal.returns-in-None-clause-empty
returns-in-None-clause-empty g c = λ slot there.
    left_empty c.self.inside.records c.self.inside.places.items c.args.call slot (subst (λ t. slice_get t.handlers c.args.call ≡ Some slot) (sym c.self.view_is) there)
    (ap is_kept_at (sym c.place_of.ensures ∙ c.in-None.is))
