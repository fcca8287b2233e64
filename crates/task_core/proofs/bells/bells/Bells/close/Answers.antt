use Rattle.std.proofs.Common.{◌≡◌, ◌≢◌, ℕ, ◌<◌, length, get_or, set, ap, sym, ◌∙◌, arith, below_more, get_or-set_same, get_or-set_other}
use Rattle.std.specs.Slots.{slots_items}
use Rattle.task_core.specs.bells.Rings.{times}
use Rattle.task_core.specs.bells.Bells.{Heard, rung_by}
use Rattle.task_core.proofs.bells.Closing.{ended, elem_value, sums_closed, none_lost_closed}
use Rattle.task_core.proofs.bells.bells.Bells.close.Goals as goal

pub loop-key-preserved : goal.loop-key-preserved
loop-key-preserved c =
    let closed = slots_items c.close_with-closed.result.words in
    let here : c.loop-key.key < length c.loop-key.words = omega (arith, c.loop-key.auto.words, c.loop-key-test.true) in
    below_more (λ k. get_or (set c.loop-key.words c.loop-key.key c.word.result) k 0 ≡ get_or closed k 0) c.loop-key.key
    (λ k below. let differs : k ≢ c.loop-key.key = omega arith in get_or-set_other c.loop-key.words c.loop-key.key k c.word.result 0 differs ∙ c.loop-key.invariant k below)
    (get_or-set_same c.loop-key.words c.loop-key.key c.word.result 0 here ∙ sym (elem_value closed c.loop-key.key c.word.result c.word.ensures))

pub returns-clause-sums : goal.returns-clause-sums
returns-clause-sums c =
    let seat = c.gather.new.seat in
    let v = seat.me.0 in
    let closed = slots_items c.close_with-closed.result.words in
    let all_made : c.ear.inside.seat.me.0.made ≡ c.args.ear.bells = ap (λ (z : Heard). z.bells) c.ear.view_is in
    let back : v.back ≡ v.made = omega (arith, c.gather.ensures.gathered.back, c.gather.ensures.gathered.made, c.ear.invariant.2, all_made, c.requires.ear.1, c.requires.bells.1) in
    let end = ended c.self.inside.table.shared.key seat.id v closed (slots_items c.close_with-closed.result.slots) (c.gather.ensures.gathered.is_ear ∙ c.ear.invariant.0) back c.close_with-closed.ensures.values.2 in
    let all : (key : ℕ) → times key v.rings ≡ rung_by key c.args.bells.items = λ key. omega (arith, c.gather.ensures.gathered.rings key, ap (times key) c.ear.invariant.1) in
    let same : (key : ℕ) → key < length c.loop-key.words → get_or c.loop-key.words key 0 ≡ get_or closed key 0 = λ key below. c.loop-key.invariant key (omega (arith, below, c.loop-key.auto.words, c.loop-key-test.false)) in
    sums_closed c.loop-key.words closed c.args.bells.items v same end all

pub returns-clause-none_lost : goal.returns-clause-none_lost
returns-clause-none_lost c =
    let seat = c.gather.new.seat in
    let v = seat.me.0 in
    let closed = slots_items c.close_with-closed.result.words in
    let all_made : c.ear.inside.seat.me.0.made ≡ c.args.ear.bells = ap (λ (z : Heard). z.bells) c.ear.view_is in
    let back : v.back ≡ v.made = omega (arith, c.gather.ensures.gathered.back, c.gather.ensures.gathered.made, c.ear.invariant.2, all_made, c.requires.ear.1, c.requires.bells.1) in
    let end = ended c.self.inside.table.shared.key seat.id v closed (slots_items c.close_with-closed.result.slots) (c.gather.ensures.gathered.is_ear ∙ c.ear.invariant.0) back c.close_with-closed.ensures.values.2 in
    let all : (key : ℕ) → times key v.rings ≡ rung_by key c.args.bells.items = λ key. omega (arith, c.gather.ensures.gathered.rings key, ap (times key) c.ear.invariant.1) in
    let same : (key : ℕ) → key < length c.loop-key.words → get_or c.loop-key.words key 0 ≡ get_or closed key 0 = λ key below. c.loop-key.invariant key (omega (arith, below, c.loop-key.auto.words, c.loop-key-test.false)) in
    let looks : v.looks ≡ c.args.ear.looks = c.gather.ensures.gathered.looks ∙ ap (λ (z : Heard). z.looks) c.ear.view_is in
    none_lost_closed c.loop-key.words c.args.bells.items c.args.ear.looks closed v (sums_closed c.loop-key.words closed c.args.bells.items v same end all) end all looks
