use Rattle.std.proofs.Common.{◌≡◌, ◌*◌, ℕ, List, ◌∷◌, length, Option, Some, ap, sym, ◌∙◌, subst, arith}
use Rattle.atomic_table.specs.Table.{Me, rest}
use Rattle.entry_lists.specs.Entries.{made_by, GoesOn}
use Rattle.turn_cell.specs.declared.view.View.{View}
use Rattle.turn_cell.specs.Views.{giving_view}
use Rattle.turn_cell.specs.Passes.{PassView, LockView, carried}
use Rattle.turn_cell.proofs.Keeping.{leaves}
use Rattle.turn_cell.proofs.Calls.{given_back}
use Rattle.turn_cell.proofs.turn.Turn.give.Goals as goal

pub store-requires : goal.store-requires
store-requires g c =
    let L = g.T.Logged in
    let before = c.pass.inside.seat in
    let me = c.exchange-slot.new.seat in
    let told = c.exchange-slot.ensures in
    let x = c.held.inside.value in
    let of = ap (λ (z : PassView g.row.T-Entry.Denot g.row.T-Base.Denot). z.table) c.pass.view_is in
    let view = ap (λ (z : PassView g.row.T-Entry.Denot g.row.T-Base.Denot). z.view) c.pass.view_is in
    let table = ap (λ (z : LockView g.row.T-Base.Denot). z.table) c.self.view_is in
    let words = c.self.invariant.0 in
    let holds = ap (λ (v : View g.row.T-Entry.Denot g.row.T-Base.Denot). v.holds) view ∙ c.requires.holds in
    let slots = c.pass.invariant.slots ∙ ap carried (sym c.pass.invariant.holding_is ∙ holds) in
    let kept = ap (λ (m : Me (Option g.row.T.Denot) (View g.row.T-Entry.Denot g.row.T-Base.Denot)). m.0) told.3 in
    let out = ap (λ (m : Me (Option g.row.T.Denot) (View g.row.T-Entry.Denot g.row.T-Base.Denot)). m.1) told.3 ∙ ap (λ (l : List (ℕ × Option g.row.T.Denot)). (0, Some x) ∷ rest l) slots in
    let now = kept ∙ view in
    let goes = subst (λ (v : View g.row.T-Entry.Denot g.row.T-Base.Denot). GoesOn L.maker v.known.number v.known.seen (L.log x)) (sym now)
    (subst (λ (y : g.row.T.Denot). GoesOn L.maker c.args.pass.now.view.known.number c.args.pass.now.view.known.seen (L.log y)) (sym c.held.view_is) c.requires.log) in (
      told.0 ∙ (of ∙ (c.requires.own ∙ sym table)),
      omega arith,
      leaves
          L.log
          L.maker
          L.base
          (L.base c.self.inside.table.shared.key.value)
          c.self.inside.table.shared.table_id.slots
          me.id
          me.me
          (ap (λ (v : View g.row.T-Entry.Denot g.row.T-Base.Denot). v.spent) kept ∙ c.pass.invariant.lives)
          (ap (λ (v : View g.row.T-Entry.Denot g.row.T-Base.Denot). v.holds) kept ∙ holds)
          x
          out
          (ap (λ (y : g.row.T.Denot). Some (L.base y)) c.held.view_is ∙ (c.requires.base ∙ sym (ap (λ (v : View g.row.T-Entry.Denot g.row.T-Base.Denot). v.base) now)))
          goes
          (2 * c.log_len-length.result)
          (ap (λ (n : ℕ). 2 * n) (c.log_len-length.ensures.length ∙ ap (λ (y : g.row.T.Denot). length (L.log y)) c.get.ensures)),
    )

pub returns : goal.returns
returns g c =
    let L = g.T.Logged in
    let before = c.pass.inside.seat in
    let me = c.exchange-slot.new.seat in
    let told = c.exchange-slot.ensures in
    let stored = c.store.ensures in
    let x = c.held.inside.value in
    let view = ap (λ (z : PassView g.row.T-Entry.Denot g.row.T-Base.Denot). z.view) c.pass.view_is in
    let of = ap (λ (z : PassView g.row.T-Entry.Denot g.row.T-Base.Denot). z.table) c.pass.view_is in
    let seat = ap (λ (z : PassView g.row.T-Entry.Denot g.row.T-Base.Denot). z.seat) c.pass.view_is in
    let holds = ap (λ (v : View g.row.T-Entry.Denot g.row.T-Base.Denot). v.holds) view ∙ c.requires.holds in
    let slots = c.pass.invariant.slots ∙ ap carried (sym c.pass.invariant.holding_is ∙ holds) in
    let kept = ap (λ (m : Me (Option g.row.T.Denot) (View g.row.T-Entry.Denot g.row.T-Base.Denot)). m.0) told.3 in
    let out = ap (λ (m : Me (Option g.row.T.Denot) (View g.row.T-Entry.Denot g.row.T-Base.Denot)). m.1) told.3 ∙ ap (λ (l : List (ℕ × Option g.row.T.Denot)). (0, Some x) ∷ rest l) slots in
    let now = kept ∙ view in
    let outcome = stored.2 x out in record {
      given = given_back
          L.log
          L.maker
          c.args.pass.now
          record { table = c.store.new.seat.table_id; seat = c.store.new.seat.id; view = c.store.new.seat.me.0 }
          c.args.held
          c.requires.log
          (stored.0 ∙ (told.0 ∙ of))
          (stored.1 ∙ (told.1 ∙ seat))
          (outcome.0 ∙ (ap (λ (v : View g.row.T-Entry.Denot g.row.T-Base.Denot). giving_view L.maker (L.log x) v) now ∙ ap (λ (y : g.row.T.Denot). giving_view L.maker (L.log y) c.args.pass.now.view) c.held.view_is))
          (subst (λ (v : View g.row.T-Entry.Denot g.row.T-Base.Denot). made_by L.maker v.known.number v.known.seen ≡ v.known.mine) now outcome.2);
    }
