use Rattle.std.proofs.Common.{◌≡◌, ◌∙◌, Some, slice_get, length-set, refl, ap, sym, subst, arith}
use Rattle.rpc_calls.specs.Facts.{facts_of}
use Rattle.std.proofs.lemmas.Option.{slice_get_within}
use Rattle.rpc_journal.proofs.PlaceLemmas.{some_same}
use Rattle.rpc_journal.proofs.table.StepLemmas.{get_other, get_set}
use Rattle.rpc_calls.specs.declared.call_place.CallPlace.TheVariants.{Kept, Left}
use Rattle.rpc_calls.specs.declared.call_record.CallRecord.{CallRecord}
use Rattle.rpc_calls.specs.Kept.{is_kept_at}
use Rattle.rpc_calls.proofs.LeaveSteps.{handlers_left, stands_left}
use Rattle.rpc_calls.proofs.RecordSteps.{key_there}
use Rattle.rpc_calls.proofs.call_records.CallRecords.leave.Goals as goal

pub remove-record-requires : goal.remove-record-requires
remove-record-requires g c = key_there c.self.inside.records c.self.inside.places.items c.self.inside.shown.items c.self.inside.names c.args.call c.key_of-key.result c.self.invariant c.key_of-key.ensures

pub index_mut-requires : goal.index_mut-requires
index_mut-requires g c = let within = slice_get_within c.self.inside.places.items c.args.call (Kept c.key_of-key.result) c.key_of-key.ensures in omega (arith, within, c.self.inside.places.ok.0)

pub invariant_of-self : goal.invariant_of-self
invariant_of-self g c =
    stands_left c.self.inside.records c.remove-record.new.self c.self.inside.places.items c.self.inside.shown.items c.self.inside.names c.args.call c.key_of-key.result c.self.invariant c.key_of-key.ensures c.of.result c.remove-record.ensures.updates
    (λ q is. c.of.ensures ∙ ap (λ (p : CallRecord _). facts_of p.state) (some_same c.remove-record.result q (sym c.remove-record.ensures.value ∙ is)))
    (λ r is. c.requires.done r (subst (λ t. slice_get t.states.calls.items c.args.call ≡ Some r) c.self.view_is is))

pub returns : goal.returns
returns g c =
    rw (sym c.self.view_is)
    (record {
      states = refl;
      handlers = handlers_left c.self.inside.records c.remove-record.new.self c.self.inside.places.items c.self.inside.shown.items c.self.inside.names c.args.call c.key_of-key.result c.self.invariant c.key_of-key.ensures c.of.result c.remove-record.ensures.updates;
      many = length-set c.self.inside.places.items c.args.call (Left c.of.result);
      others = λ k apart. get_other c.self.inside.places.items c.args.call k (Left c.of.result) apart;
      gone = ap is_kept_at (get_set c.self.inside.places.items c.args.call (Left c.of.result) (slice_get_within c.self.inside.places.items c.args.call (Kept c.key_of-key.result) c.key_of-key.ensures));
    })
