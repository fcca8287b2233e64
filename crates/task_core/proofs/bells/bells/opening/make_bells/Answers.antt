use Rattle.std.proofs.Common.{ℕ, List, [], ◌∷◌, length, ap, ◌∙◌, sym, subst, arith, length-append}
use Rattle.atomic_table.specs.Table.{Me}
use Rattle.task_core.specs.declared.bells.view.View.{View}
use Rattle.task_core.specs.bells.Views.{making}
use Rattle.task_core.specs.bells.Bells.{Rung, AreNew}
use Rattle.task_core.proofs.bells.Closing.{new_more, new_of}
use Rattle.task_core.proofs.bells.Keeping.{splits}
use Rattle.task_core.proofs.bells.bells.opening.make_bells.Goals as goal

pub split_seat-fresh-requires : goal.split_seat-fresh-requires
split_seat-fresh-requires c =
    let so_far = c.loop-made.invariant in
    (so_far.table ∙ c.requires.table.0, c.requires.table.1, splits c.args.top.now.key c.loop-made.seat.id c.loop-made.seat.me.0 (ap (λ (m : Me ℕ View). m.0.is_ear) so_far.me ∙ c.requires.ear.0))

pub loop-made-preserved : goal.loop-made-preserved
loop-made-preserved c =
    let so_far = c.loop-made.invariant in
    let split = c.split_seat-fresh.ensures in
    let table = c.args.top.now.table_id in
    let fresh : Rung = record { table = c.split_seat-fresh.result.table_id; rings = c.split_seat-fresh.result.me.0.rings } in record {
      table = split.0 ∙ so_far.table;
      me = split.2 ∙ ap (λ (m : Me ℕ View). (making m.0, m.1)) so_far.me;
      bells = subst (λ (bs : List Rung). AreNew table bs) (sym c.push_reserved.ensures.items)
          (new_more table c.loop-made.bells.items fresh so_far.bells (split.3 ∙ so_far.table ∙ c.requires.table.0) (ap (λ (m : Me ℕ View). m.0.rings) split.4));
      count = omega (arith, ap length c.push_reserved.ensures.items, length-append c.loop-made.bells.items (fresh ∷ []), so_far.count);
      room = c.push_reserved.ensures.capacity ∙ so_far.room;
    }

pub returns-clause-of : goal.returns-clause-of
returns-clause-of c = new_of c.args.top.now.table_id c.loop-made.bells.items c.loop-made.invariant.bells
