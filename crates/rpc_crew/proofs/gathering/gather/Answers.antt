use Rattle.std.proofs.Common.{◌≡◌, ◌∷◌, [], ◌++◌, length, Ok, refl, ap, sym, ◌∙◌, subst}
use Rattle.rtrb.specs.Ring.{received}
use Rattle.rpc_shared.specs.declared.session.parcel.Parcel.TheVariants.{Put}
use Rattle.rpc_crew.specs.declared.gathering.Behind.TheVariants.{Full, Unfit}
use Rattle.rpc_crew.specs.Batches.{Gathers}
use Rattle.rpc_crew.proofs.RingLemmas.{end_trans}
use Rattle.rpc_crew.proofs.WriterRounds.{gathers_end, gathers_more}
use Rattle.rpc_crew.proofs.gathering.gather.Goals as goal

pub returns-in-Err-add-clause-gathers : goal.returns-in-Err-add-clause-gathers
returns-in-Err-add-clause-gathers c =
    let item = c.in-Ok-Put.item in
    let g = c.parcels.invariant.gathers in
    let came : received c.pop.new.self ≡ received c.parcels.ring ++ Put item ∷ [] = c.in-Ok-Put.ensures.ok.0 ∙ ap (λ x. received c.parcels.ring ++ x ∷ []) c.in-Ok-Put.field-0-is in
    subst (λ b. Gathers (received c.args.ring.now) (received c.pop.new.self) b Unfit c.args.log.now c.add.new.log) (sym c.in-Err-add.ensures.err)
    (gathers_end (received c.args.ring.now) (received c.parcels.ring) (received c.pop.new.self) c.parcels.batch c.args.log.now c.parcels.log c.add.new.log g Unfit (Put item ∷ []) came (item, refl)
    c.in-Err-add.ensures.log (c.in-Err-add.ensures.still (length c.parcels.batch.framed) g.places))

pub parcels-preserved : goal.parcels-preserved
parcels-preserved c =
    let item = c.in-Ok-Put.item in
    let came : received c.pop.new.self ≡ received c.parcels.ring ++ Put item ∷ [] = c.in-Ok-Put.ensures.ok.0 ∙ ap (λ x. received c.parcels.ring ++ x ∷ []) c.in-Ok-Put.field-0-is in
    let added = c.in-Ok-None.ensures.added (ap Ok c.in-Ok-None.field-0-is) in
    record {
      gathers =
          subst (λ b. Gathers (received c.args.ring.now) (received c.pop.new.self) b Full c.args.log.now c.add.new.log) (sym added.1)
          (gathers_more (received c.args.ring.now) (received c.parcels.ring) (received c.pop.new.self) c.parcels.batch c.args.log.now c.parcels.log c.add.new.log c.parcels.invariant.gathers item came added.0
          c.in-Ok-None.ensures.log c.in-Ok-None.ensures.places);
      ring = end_trans c.args.ring.now c.parcels.ring c.pop.new.self c.parcels.invariant.ring c.in-Ok-Put.ensures.ring;
    }
