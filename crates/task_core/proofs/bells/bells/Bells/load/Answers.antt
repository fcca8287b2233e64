use Rattle.std.proofs.Common.{◌≡◌, ap, sym, ◌∙◌, arith}
use Rattle.task_core.specs.bells.Bells.{Tower, Heard}
use Rattle.task_core.proofs.bells.Keeping.{hears}
use Rattle.task_core.proofs.bells.bells.Bells.load.Goals as goal

pub load-requires : goal.load-requires
load-requires c =
    let me = c.ear.inside.seat in
    let of = ap (λ (z : Heard). z.table) c.ear.view_is in
    let table = ap (λ (z : Tower). z.table) c.self.view_is in
    let tasks : c.self.inside.table.shared.table_id.words ≡ c.args.self.now.table.words = ap (λ (z : Tower). z.table.words) c.self.view_is in (
      of ∙ (c.requires.own ∙ sym table),
      omega (arith, tasks, c.requires.key),
      hears c.self.inside.table.shared.key c.self.inside.table.shared.table_id.slots me.id c.args.key me.me (omega (arith, c.self.invariant.0, tasks, c.requires.key)) c.ear.invariant.0,
    )
