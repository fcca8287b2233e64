use Rattle.std.proofs.Common.{◌≡◌, ◌∙◌, Some, slice_get, is_some, ap, sym, subst}
use Rattle.rpc_journal.proofs.PlaceLemmas.{some_same}
use Rattle.rpc_calls.proofs.LeaveSteps.{handler_was}
use Rattle.rpc_calls.proofs.RecordSteps.{key_there}
use Rattle.rpc_calls.proofs.call_records.CallRecords.has_handler.Goals as goal

pub has_handler_under-requires : goal.has_handler_under-requires
has_handler_under-requires g c = key_there c.self.inside.records c.self.inside.places.items c.self.inside.shown.items c.self.inside.names c.args.call c.key_of.result c.self.invariant c.key_of.ensures

pub returns : goal.returns
returns g c = λ slot there.
    c.has_handler_under.ensures
    ∙ ap is_some (some_same _ slot (sym (handler_was c.self.inside.records c.self.inside.records c.self.inside.places.items c.self.inside.shown.items c.self.inside.names c.args.call c.key_of.result c.self.invariant c.key_of.ensures) ∙ subst (λ t. slice_get t.handlers c.args.call ≡ Some slot) (sym c.self.view_is) there))
