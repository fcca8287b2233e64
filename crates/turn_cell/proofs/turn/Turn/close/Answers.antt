use Rattle.std.proofs.Common.{◌≡◌, ◌<◌, List, ◌∷◌, length, Some, ap, sym, ◌∙◌, subst, arith}
use Rattle.std.specs.Slots.{slots_items}
use mathlib.Core.Option.{some, some-injective}
use Rattle.turn_cell.specs.Passes.{LockView, PassView, AllFit}
use Rattle.turn_cell.proofs.Closing.{split_first, parts_all, first_idle, others_free, closed_fit}
use Rattle.turn_cell.proofs.turn.Turn.close.Goals as goal

pub remove-first-requires : goal.remove-first-requires
remove-first-requires g c =
    let counted = ap (λ (z : LockView g.row.T-Base.Denot). z.count) c.self.view_is in
    omega (arith, c.requires.all.count, c.self.invariant.2, counted, c.args.passes.ok)

pub gather-requires-clause-table : goal.gather-requires-clause-table
gather-requires-clause-table g c =
    let counted = ap (λ (z : LockView g.row.T-Base.Denot). z.count) c.self.view_is in
    let table = ap (λ (z : LockView g.row.T-Base.Denot). z.table) c.self.view_is in
    let first = c.remove-first.result in
    let others = c.remove-first.new.self.items in
    let all = parts_all c.args.self c.args.passes.items first others c.requires.all (omega (arith, c.self.invariant.2, counted)) c.remove-first.ensures.value c.remove-first.ensures.items in
    ((first_idle c.args.self first others all).pass.table ∙ sym table, omega (arith, c.self.invariant.0))

pub gather-requires-clause-zero : goal.gather-requires-clause-zero
gather-requires-clause-zero g c =
    let counted = ap (λ (z : LockView g.row.T-Base.Denot). z.count) c.self.view_is in
    let first = c.remove-first.result in
    let others = c.remove-first.new.self.items in
    let all = parts_all c.args.self c.args.passes.items first others c.requires.all (omega (arith, c.self.invariant.2, counted)) c.remove-first.ensures.value c.remove-first.ensures.items in
    ((first_idle c.args.self first others all).pass.number, (first_idle c.args.self first others all).idle)

pub gather-requires-clause-free : goal.gather-requires-clause-free
gather-requires-clause-free g c =
    let counted = ap (λ (z : LockView g.row.T-Base.Denot). z.count) c.self.view_is in
    let table = ap (λ (z : LockView g.row.T-Base.Denot). z.table) c.self.view_is in
    let first = c.remove-first.result in
    let others = c.remove-first.new.self.items in
    let all = parts_all c.args.self c.args.passes.items first others c.requires.all (omega (arith, c.self.invariant.2, counted)) c.remove-first.ensures.value c.remove-first.ensures.items in
    others_free c.args.self first others all c.self.inside.table.shared.table_id (sym table)

pub into_seat-requires : goal.into_seat-requires
into_seat-requires g c =
    let counted = ap (λ (z : LockView g.row.T-Base.Denot). z.count) c.self.view_is in
    let first = c.remove-first.result in
    let others = c.remove-first.new.self.items in
    let all = parts_all c.args.self c.args.passes.items first others c.requires.all (omega (arith, c.self.invariant.2, counted)) c.remove-first.ensures.value c.remove-first.ensures.items in
    ap (λ (z : PassView g.row.T-Entry.Denot g.row.T-Base.Denot). z.view.holds) c.gather.ensures.first ∙ (first_idle c.args.self first others all).idle

pub close_with-closed-requires : goal.close_with-closed-requires
close_with-closed-requires g c =
    let counted = ap (λ (z : LockView g.row.T-Base.Denot). z.count) c.self.view_is in
    let table = ap (λ (z : LockView g.row.T-Base.Denot). z.table) c.self.view_is in
    let first = c.remove-first.result in
    let others = c.remove-first.new.self.items in
    let all = parts_all c.args.self c.args.passes.items first others c.requires.all (omega (arith, c.self.invariant.2, counted)) c.remove-first.ensures.value c.remove-first.ensures.items in
    ap (λ (z : PassView g.row.T-Entry.Denot g.row.T-Base.Denot). z.table) c.into_seat.ensures.0
    ∙ (ap (λ (z : PassView g.row.T-Entry.Denot g.row.T-Base.Denot). z.table) c.gather.ensures.first ∙ ((first_idle c.args.self first others all).pass.table ∙ sym table))

pub unreachable-requires : goal.unreachable-requires
unreachable-requires g c =
    let L = g.T.Logged in
    let counted = ap (λ (z : LockView g.row.T-Base.Denot). z.count) c.self.view_is in
    let first = c.remove-first.result in
    let others = c.remove-first.new.self.items in
    let all = parts_all c.args.self c.args.passes.items first others c.requires.all (omega (arith, c.self.invariant.2, counted)) c.remove-first.ensures.value c.remove-first.ensures.items in
    let seat = c.into_seat.result in
    let closed = c.close_with-closed.result in
    let found = closed_fit
    L.log
    L.maker
    L.base
    (L.base c.self.inside.table.shared.key.value)
    c.args.self
    first
    others
    all
    c.gather.new.first
    c.gather.ensures.first
    c.gather.ensures.ended
    seat.id
    seat.me.0
    (ap (λ (z : PassView g.row.T-Entry.Denot g.row.T-Base.Denot). z.view) c.into_seat.ensures.0)
    c.into_seat.ensures.1.lives
    (slots_items closed.words)
    (slots_items closed.slots)
    c.close_with-closed.ensures.values.2 in
    c.in_default.not-Some found.0 (some-injective c.take-slot.result (Some found.0) (sym c.take-slot.ensures.value ∙ found.1))

pub returns : goal.returns
returns g c =
    let L = g.T.Logged in
    let counted = ap (λ (z : LockView g.row.T-Base.Denot). z.count) c.self.view_is in
    let first = c.remove-first.result in
    let others = c.remove-first.new.self.items in
    let some_there : 0 < length c.args.passes.items = omega (arith, c.requires.all.count, c.self.invariant.2, counted) in
    let parts = split_first c.args.passes.items first others some_there c.remove-first.ensures.value c.remove-first.ensures.items in
    let all = parts_all c.args.self c.args.passes.items first others c.requires.all (omega (arith, c.self.invariant.2, counted)) c.remove-first.ensures.value c.remove-first.ensures.items in
    let seat = c.into_seat.result in
    let closed = c.close_with-closed.result in
    let found = closed_fit
    L.log
    L.maker
    L.base
    (L.base c.self.inside.table.shared.key.value)
    c.args.self
    first
    others
    all
    c.gather.new.first
    c.gather.ensures.first
    c.gather.ensures.ended
    seat.id
    seat.me.0
    (ap (λ (z : PassView g.row.T-Entry.Denot g.row.T-Base.Denot). z.view) c.into_seat.ensures.0)
    c.into_seat.ensures.1.lives
    (slots_items closed.words)
    (slots_items closed.slots)
    c.close_with-closed.ensures.values.2 in
    let slot : Some found.0 ≡ Some c.in-Some.value = some-injective (Some found.0) (Some c.in-Some.value) (sym found.1 ∙ (c.take-slot.ensures.value ∙ ap some c.in-Some.is)) in
    let same : found.0 ≡ c.into_inner.result = let taken = c.into_inner.ensures in cc in record {
      fits = subst (λ (ps : List (PassView g.row.T-Entry.Denot g.row.T-Base.Denot)). AllFit L.log L.maker L.base ps c.into_inner.result) (sym parts)
          (subst (λ (x : g.row.T.Denot). AllFit L.log L.maker L.base (first ∷ others) x) same found.2);
    }
