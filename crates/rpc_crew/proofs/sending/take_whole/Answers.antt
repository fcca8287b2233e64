use Rattle.std.proofs.Common.{◌+◌, length, ap, refl, arith}
use Rattle.rpc_crew.specs.declared.batch.Framed.{Framed}
use Rattle.rpc_crew.proofs.WriterRounds.{takes_more}
use Rattle.rpc_crew.proofs.sending.take_whole.Goals as goal

pub add-requires : goal.add-requires
add-requires c = λ keeps.
    omega (arith, c.items.invariant.places 0 (λ k. omega (arith, c.requires.places k)) keeps, ap length c.in-Some.ensures.first.2)

pub items-preserved : goal.items-preserved
items-preserved c =
    let first = c.in-Some.ensures.first in
    let f : Framed = record { item = c.in-Some.item; end = first.0 } in
    record {
      takes =
          takes_more c.args.written c.args.batch.now.framed c.items.batch.framed c.take_whole.new.self.framed f c.args.log.now c.items.log c.add.new.self c.items.count c.saturating_add-count.result
          c.items.invariant.takes first.2 first.1 c.add.ensures.logs c.saturating_add-count.ensures;
      places = λ n has. c.add.ensures.places (length c.take_whole.new.self.framed + n) (λ keeps. omega (arith, c.items.invariant.places n has keeps, ap length first.2));
    }

pub returns-clause-places : goal.returns-clause-places
returns-clause-places c = λ n has keeps. omega (arith, c.items.invariant.places n has keeps, ap length (c.in_default.ensures.none refl).0)
