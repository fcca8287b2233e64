use Rattle.std.proofs.Common.{◌≡◌, ◌+◌, ◌%◌, Some, ap, sym, refl, ◌∙◌, arith}
use Rattle.turn_cell.specs.declared.view.View.{View}
use Rattle.turn_cell.specs.Passes.{PassView, LockView}
use Rattle.turn_cell.proofs.Keeping.{looks, grabs}
use Rattle.turn_cell.proofs.Calls.{taken_first}
use Rattle.turn_cell.proofs.turn.Turn.try_take.Goals as goal

pub load-loaded-requires : goal.load-loaded-requires
load-loaded-requires g c =
    let L = g.T.Logged in
    let me = c.pass.inside.seat in
    let of = ap (λ (z : PassView g.row.T-Entry.Denot g.row.T-Base.Denot). z.table) c.pass.view_is in
    let holds = ap (λ (z : PassView g.row.T-Entry.Denot g.row.T-Base.Denot). z.view.holds) c.pass.view_is in
    let table = ap (λ (z : LockView g.row.T-Base.Denot). z.table) c.self.view_is in
    let words = c.self.invariant.0 in (
      of ∙ (c.requires.own ∙ sym table),
      omega arith,
      looks L.log L.maker L.base (L.base c.self.inside.table.shared.key.value) c.self.inside.table.shared.table_id.slots me.id me.me c.pass.invariant.lives (holds ∙ c.requires.idle),
    )

pub compare_exchange-word-requires : goal.compare_exchange-word-requires
compare_exchange-word-requires g c =
    let L = g.T.Logged in
    let me = c.load-loaded.new.seat in
    let told = c.load-loaded.ensures in
    let of = ap (λ (z : PassView g.row.T-Entry.Denot g.row.T-Base.Denot). z.table) c.pass.view_is in
    let holds = ap (λ (z : PassView g.row.T-Entry.Denot g.row.T-Base.Denot). z.view.holds) c.pass.view_is in
    let table = ap (λ (z : LockView g.row.T-Base.Denot). z.table) c.self.view_is in
    let words = c.self.invariant.0 in
    let even : c.load-loaded.result % 2 ≡ 0 = omega arith in (
      told.0 ∙ (of ∙ (c.requires.own ∙ sym table)),
      omega arith,
      grabs
          L.log
          L.maker
          L.base
          (L.base c.self.inside.table.shared.key.value)
          c.load-loaded.result
          (c.load-loaded.result + 1)
          c.self.inside.table.shared.table_id.slots
          me.id
          me.me
          (ap (λ (v : View g.row.T-Entry.Denot g.row.T-Base.Denot). v.spent) told.2.0 ∙ c.pass.invariant.lives)
          (ap (λ (v : View g.row.T-Entry.Denot g.row.T-Base.Denot). v.holds) told.2.0 ∙ (holds ∙ c.requires.idle))
          even
          refl,
    )

pub exchange-slot-requires : goal.exchange-slot-requires
exchange-slot-requires g c =
    let me = c.compare_exchange-word.new.seat in
    let told = c.compare_exchange-word.ensures in
    let of = ap (λ (z : PassView g.row.T-Entry.Denot g.row.T-Base.Denot). z.table) c.pass.view_is in
    let table = ap (λ (z : LockView g.row.T-Base.Denot). z.table) c.self.view_is in
    let same : c.compare_exchange-word.result ≡ c.load-loaded.result = omega arith in
    let took = told.2.0 same in
    (told.0 ∙ (c.load-loaded.ensures.0 ∙ (of ∙ (c.requires.own ∙ sym table))), (Some took.0, taken_first me.me.1 c.load-loaded.new.seat.me.1 (Some took.0) took.3))
