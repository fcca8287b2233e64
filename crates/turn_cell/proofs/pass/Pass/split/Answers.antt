use Rattle.std.proofs.Common.{ap, ◌∙◌}
use Rattle.turn_cell.specs.Passes.{PassView}
use Rattle.turn_cell.proofs.Counting.{splits}
use Rattle.turn_cell.proofs.pass.Pass.split.Goals as goal

pub split_seat-seat-requires : goal.split_seat-seat-requires
split_seat-seat-requires g c =
    let L = g.T.Logged in
    let me = c.self.inside.seat in
    let table = ap (λ (z : PassView g.row.T-Entry.Denot g.row.T-Base.Denot). z.table) c.self.view_is in
    let holds = ap (λ (z : PassView g.row.T-Entry.Denot g.row.T-Base.Denot). z.view.holds) c.self.view_is in
    let number = ap (λ (z : PassView g.row.T-Entry.Denot g.row.T-Base.Denot). z.view.known.number) c.self.view_is in (
      table ∙ c.requires.table.0,
      c.requires.table.1,
      splits L.log L.maker L.base (L.base c.args.top.now.key.value) me.id me.me.0 c.self.invariant.lives (holds ∙ c.requires.zero.1) (number ∙ c.requires.zero.0),
    )
