use Rattle.std.proofs.Common.{◌≡◌, Some, slice_get, IfSome, refl, sym, subst}
use Rattle.rpc_calls.specs.declared.call_place.CallPlace.TheVariants.{Left}
use Rattle.rpc_calls.proofs.LeaveSteps.{CutLeft, cut_left}
use Rattle.rpc_calls.proofs.call_records.CallRecords.cancel_left.Goals as goal

cut : (g : _) (c : goal.After-drop-index_mut g) → CutLeft c.self.inside.records c.self.inside.places.items c.self.inside.shown.items c.self.inside.names c.args.call c.unwrap-facts.result c.cancelled.result
cut g c = cut_left c.self.inside.records c.self.inside.places.items c.self.inside.shown.items c.self.inside.names c.args.call c.unwrap-facts.result c.index.result.now c.cancelled.result c.self.invariant (subst (λ o. IfSome o (λ f. slice_get c.self.inside.places.items c.args.call ≡ Some (Left f))) c.unwrap-facts.ensures c.facts_left.ensures.left) c.index.ensures c.cancelled.ensures

pub invariant_of-self : goal.invariant_of-self
invariant_of-self g c = (cut g c).stands

pub returns-clause-change : goal.returns-clause-change
returns-clause-change g c = rw (sym c.self.view_is) (cut g c).change

pub returns-clause-outside : goal.returns-clause-outside
returns-clause-outside g c = rw (sym c.self.view_is) (record { newest = (cut g c).newest; unflushed = refl; input = refl; halt = refl; closed = refl })

pub returns-clause-handlers : goal.returns-clause-handlers
returns-clause-handlers g c = rw (sym c.self.view_is) (cut g c).handlers

pub returns-clause-kept : goal.returns-clause-kept
returns-clause-kept g c = rw (sym c.self.view_is) (cut g c).kept
