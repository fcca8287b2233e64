use Rattle.std.proofs.Common.{◌≡◌, ap, sym, ◌∙◌, arith}
use Rattle.task_core.specs.bells.Bells.{Tower, Rung}
use Rattle.task_core.proofs.bells.Keeping.{rings}
use Rattle.task_core.proofs.bells.bells.Bells.ring.Goals as goal

pub fetch_add-requires : goal.fetch_add-requires
fetch_add-requires c =
    let me = c.bell.inside.seat in
    let of = ap (λ (z : Rung). z.table) c.bell.view_is in
    let table = ap (λ (z : Tower). z.table) c.self.view_is in
    let tasks : c.self.inside.table.shared.table_id.words ≡ c.args.self.now.table.words = ap (λ (z : Tower). z.table.words) c.self.view_is in (
      of ∙ (c.requires.own ∙ sym table),
      omega (arith, tasks, c.requires.key),
      rings c.self.inside.table.shared.key c.self.inside.table.shared.table_id.slots me.id c.args.key me.me (omega (arith, c.self.invariant.0, tasks, c.requires.key)) c.bell.invariant.0 c.bell.invariant.1,
    )
