use Rattle.std.proofs.Common.{◌∙◌, Some, ap, sym}
use Rattle.rpc_calls.proofs.LeaveSteps.{facts_beyond, facts_kept, facts_left}
use Rattle.rpc_calls.proofs.RecordSteps.{key_there}
use Rattle.rpc_calls.proofs.call_records.CallRecords.facts.Goals as goal

pub state_under-requires : goal.state_under-requires
state_under-requires g c = key_there c.self.inside.records c.self.inside.places.items c.self.inside.shown.items c.self.inside.names c.args.call c.in-Some-Kept.key c.self.invariant (sym c.place_of.ensures ∙ c.in-Some-Kept.is ∙ ap (λ p. Some p) c.in-Some-Kept.field-0-is)

pub returns-in-Some-Kept : goal.returns-in-Some-Kept
returns-in-Some-Kept g c =
    rw (sym c.self.view_is)
    (facts_kept c.self.inside.records c.self.inside.places.items c.self.inside.shown.items c.self.inside.names c.args.call c.in-Some-Kept.key c.state_under.result.now c.of.result c.self.invariant (sym c.place_of.ensures ∙ c.in-Some-Kept.is ∙ ap (λ p. Some p) c.in-Some-Kept.field-0-is) c.state_under.ensures c.of.ensures)

pub returns-in-Some-Left : goal.returns-in-Some-Left
returns-in-Some-Left g c =
    rw (sym c.self.view_is) (facts_left c.self.inside.records c.self.inside.places.items c.self.inside.shown.items c.self.inside.names c.args.call c.in-Some-Left.facts c.self.invariant (sym c.place_of.ensures ∙ c.in-Some-Left.is ∙ ap (λ p. Some p) c.in-Some-Left.field-0-is))

pub returns-in-None : goal.returns-in-None
returns-in-None g c = rw (sym c.self.view_is) (facts_beyond c.self.inside.records c.self.inside.places.items c.self.inside.shown.items c.self.inside.names c.args.call c.self.invariant (sym c.place_of.ensures ∙ c.in-None.is))
