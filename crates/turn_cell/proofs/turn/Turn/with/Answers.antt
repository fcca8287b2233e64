use Rattle.std.proofs.Common.{◌≡◌, ◌+◌, List, length, Option, ap, sym, ◌∙◌, subst, arith}
use Rattle.atomic_table.specs.Table.{Me}
use Rattle.turn_cell.specs.declared.view.View.{View}
use Rattle.turn_cell.specs.Views.{starting}
use Rattle.turn_cell.specs.Passes.{LockView, PassView, IsNew, AreAll}
use Rattle.turn_cell.proofs.Calls.{all_new}
use Rattle.turn_cell.proofs.turn.Turn.with.Goals as goal

pub returns-clause-passes : goal.returns-clause-passes
returns-clause-passes g c =
    let L = g.T.Logged in
    let laid = c.in_ok-table.ensures in
    let bare = c.first-first.result in
    let r : LockView g.row.T-Base.Denot = record { table = c.in_ok-table.table.shared.table_id; base = L.base c.in_ok-table.table.shared.key.value; count = c.args.n } in
    let table = ap (λ (z : PassView g.row.T-Entry.Denot g.row.T-Base.Denot). z.table) c.first-first.ensures ∙ laid.seat.0 in
    let view = ap (λ (z : PassView g.row.T-Entry.Denot g.row.T-Base.Denot). z.view) c.first-first.ensures
    ∙ (ap (λ (m : Me (Option g.row.T.Denot) (View g.row.T-Entry.Denot g.row.T-Base.Denot)). m.0) laid.seat.1 ∙ ap (λ (x : g.row.T.Denot). starting {E = g.row.T-Entry.Denot} (L.base x)) (sym laid.key)) in
    let count : length c.give_out.new.passes.items + 1 ≡ c.args.n = omega (arith, c.give_out.ensures.count, c.give_out.new.passes.ok) in
    subst (λ (ps : List (PassView g.row.T-Entry.Denot g.row.T-Base.Denot)). AreAll r (IsNew r) ps) (sym c.in-Ok-insert.ensures.items)
    (all_new r bare c.give_out.new.first c.give_out.new.passes.items table view c.give_out.ensures.first c.give_out.ensures.passes count)
