use Rattle.std.proofs.Common.{ℕ, List, ap, sym, ◌∙◌, subst}
use Rattle.atomic_table.specs.Table.{Me}
use Rattle.task_core.specs.declared.bells.view.View.{View}
use Rattle.task_core.specs.bells.Bells.{Rung, AreOf}
use Rattle.task_core.proofs.bells.Keeping.{joins}
use Rattle.task_core.proofs.bells.Closing.{IsTaking, are_of_front, taking_next}
use Rattle.task_core.proofs.bells.bells.closing.gather.Goals as goal

pub join_seat-requires : goal.join_seat-requires
join_seat-requires c =
    let so_far = c.loop-bell.invariant in
    let table = c.args.top.now.table_id in
    let front = are_of_front table c.pop.new.self.items c.in-Some.bell (subst (λ (bs : List Rung). AreOf table bs) c.in-Some.ensures.items so_far.left) in (
      so_far.table ∙ c.requires.table.0,
      ap (λ (z : Rung). z.table) c.bell.view_is ∙ front.1,
      c.bell.invariant.2,
      c.requires.table.1,
      joins c.args.top.now.key c.loop-bell.seat.id c.loop-bell.seat.me.0 c.bell.inside.seat.id c.bell.inside.seat.me.0 (so_far.taking.is_ear ∙ c.requires.ear.0) c.bell.invariant.1,
    )

pub loop-bell-preserved : goal.loop-bell-preserved
loop-bell-preserved c =
    let so_far = c.loop-bell.invariant in
    let table = c.args.top.now.table_id in
    let left = c.pop.new.self.items in
    let all = c.args.bells.items in
    let first = c.args.seat.now.me.0 in
    let front = are_of_front table left c.in-Some.bell (subst (λ (bs : List Rung). AreOf table bs) c.in-Some.ensures.items so_far.left) in
    let taking = subst (λ (bs : List Rung). IsTaking all bs first c.loop-bell.seat.me.0) c.in-Some.ensures.items so_far.taking in
    let joined = c.join_seat.ensures in record {
      table = joined.0 ∙ so_far.table;
      free = ap (λ m. m.1) joined.2 ∙ so_far.free;
      left = front.0;
      taking = subst (λ (m : Me ℕ View). IsTaking all left first m.0) (sym joined.2)
          (taking_next all left c.in-Some.bell first c.loop-bell.seat.me.0 c.bell.inside.seat.me.0 taking (ap (λ (z : Rung). z.rings) c.bell.view_is));
    }
