use Rattle.rtrb.specs.Ring.{SameConsumer, received}
use Rattle.rpc_crew.specs.declared.gathering.Behind.TheVariants.{Full}
use Rattle.rpc_crew.specs.Batches.{Gathers}
use Rattle.rpc_crew.proofs.gathering.gather.Given as goal

abbrev pub invariant-parcels : goal.invariant-parcels
invariant-parcels l = record {
  gathers : Gathers (received l.fn.ring) (received l.ring) l.batch Full l.fn.log l.log;
  ring : SameConsumer l.fn.ring l.ring;
}
