use Rattle.std.proofs.Common.{ap, sym, ◌∙◌}
use Rattle.turn_cell.specs.Passes.{PassView, carried}
use Rattle.turn_cell.proofs.Counting.{joins}
use Rattle.turn_cell.proofs.pass.Pass.absorb.Goals as goal

pub join_seat-requires : goal.join_seat-requires
join_seat-requires g c =
    let L = g.T.Logged in
    let me = c.self.inside.seat in
    let it = c.other.inside.seat in
    let table = ap (λ (z : PassView g.row.T-Entry.Denot g.row.T-Base.Denot). z.table) c.self.view_is in
    let table' = ap (λ (z : PassView g.row.T-Entry.Denot g.row.T-Base.Denot). z.table) c.other.view_is in
    let holds = ap (λ (z : PassView g.row.T-Entry.Denot g.row.T-Base.Denot). z.view.holds) c.self.view_is in
    let holds' = ap (λ (z : PassView g.row.T-Entry.Denot g.row.T-Base.Denot). z.view.holds) c.other.view_is in
    let number = ap (λ (z : PassView g.row.T-Entry.Denot g.row.T-Base.Denot). z.view.known.number) c.self.view_is in
    let free = holds' ∙ c.requires.idle in (
      table ∙ c.requires.table.0,
      table' ∙ c.requires.table.1,
      c.other.invariant.slots ∙ ap carried (sym c.other.invariant.holding_is ∙ free),
      c.requires.table.2,
      joins L.log L.maker L.base (L.base c.args.top.now.key.value) me.id me.me.0 it.id it.me.0 c.self.invariant.lives (holds ∙ c.requires.zero.1) (number ∙ c.requires.zero.0) c.other.invariant.lives free,
    )
