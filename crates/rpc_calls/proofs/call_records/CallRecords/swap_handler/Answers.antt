use Rattle.std.proofs.Common.{◌≡◌, ◌∙◌, Some, map, slice_get, slice_set, ap, sym, subst}
use Rattle.rpc_calls.specs.Roll.{handler_in}
use Rattle.rpc_calls.proofs.LeaveSteps.{handler_was, handlers_swapped, stands_swapped}
use Rattle.rpc_calls.proofs.RecordSteps.{key_there}
use Rattle.rpc_calls.proofs.call_records.CallRecords.swap_handler.Goals as goal

pub swap_under-requires : goal.swap_under-requires
swap_under-requires g c = key_there c.self.inside.records c.self.inside.places.items c.self.inside.shown.items c.self.inside.names c.args.call c.key_of-key.result c.self.invariant c.key_of-key.ensures

pub invariant_of-self : goal.invariant_of-self
invariant_of-self g c =
    stands_swapped c.self.inside.records c.swap_under.new.records c.self.inside.places.items c.self.inside.shown.items c.self.inside.names c.args.call c.key_of-key.result c.self.invariant c.key_of-key.ensures c.args.handler c.swap_under.ensures.change

pub returns-clause-was : goal.returns-clause-was
returns-clause-was g c =
    subst (λ t. slice_get t.handlers c.args.call ≡ Some c.swap_under.result) c.self.view_is
    (handler_was c.self.inside.records c.self.inside.records c.self.inside.places.items c.self.inside.shown.items c.self.inside.names c.args.call c.key_of-key.result c.self.invariant c.key_of-key.ensures ∙ ap (λ o. Some o) (sym c.swap_under.ensures.was))

pub returns-clause-handlers : goal.returns-clause-handlers
returns-clause-handlers g c =
    subst (λ t. map (handler_in c.swap_under.new.records) c.self.inside.places.items ≡ slice_set t.handlers c.args.call c.args.handler) c.self.view_is
    (handlers_swapped c.self.inside.records c.swap_under.new.records c.self.inside.places.items c.self.inside.shown.items c.self.inside.names c.args.call c.key_of-key.result c.self.invariant c.key_of-key.ensures c.args.handler c.swap_under.ensures.change)
