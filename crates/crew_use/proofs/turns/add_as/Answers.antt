use Rattle.std.proofs.Common.{◌<◌, length, arith, ◌∙◌}
use Rattle.atomic_table.proofs.Lists.{at_index}
use Rattle.turn_cell.proofs.Calls.{same_trans}
use Rattle.turn_cell.proofs.Passes.{one_moved}
use Rattle.crew_use.proofs.turns.add_as.Goals as goal

pub try_take-requires-clause-own : goal.try_take-requires-clause-own
try_take-requires-clause-own c =
    let inside : c.args.k < length c.args.passes.now.items = omega (arith, c.requires.1, c.args.passes.now.ok) in
    (c.requires.0.each c.args.k c.index_mut-pass.result.now (at_index c.args.passes.now.items c.args.k c.index_mut-pass.result.now inside c.index_mut-pass.ensures.value)).pass.table

pub try_take-requires-clause-idle : goal.try_take-requires-clause-idle
try_take-requires-clause-idle c =
    let inside : c.args.k < length c.args.passes.now.items = omega (arith, c.requires.1, c.args.passes.now.ok) in
    (c.requires.0.each c.args.k c.index_mut-pass.result.now (at_index c.args.passes.now.items c.args.k c.index_mut-pass.result.now inside c.index_mut-pass.ensures.value)).idle

pub returns-in_err-held-clause-all : goal.returns-in_err-held-clause-all
returns-in_err-held-clause-all c =
    let inside : c.args.k < length c.args.passes.now.items = omega (arith, c.requires.1, c.args.passes.now.ok) in
    let at = at_index c.args.passes.now.items c.args.k c.index_mut-pass.result.now inside c.index_mut-pass.ensures.value in
    let away = c.in_err-held.ensures.busy in
    one_moved c.args.turn.now c.args.passes.now.items c.args.k c.index_mut-pass.result.now c.try_take.new.pass c.requires.0 at away.same away.idle

pub give-requires-clause-own : goal.give-requires-clause-own
give-requires-clause-own c =
    let inside : c.args.k < length c.args.passes.now.items = omega (arith, c.requires.1, c.args.passes.now.ok) in
    let at = at_index c.args.passes.now.items c.args.k c.index_mut-pass.result.now inside c.index_mut-pass.ensures.value in
    let took = c.in_ok-held.ensures.taken in
    took.same.table ∙ (c.requires.0.each c.args.k c.index_mut-pass.result.now at).pass.table

pub returns-clause-all : goal.returns-clause-all
returns-clause-all c =
    let inside : c.args.k < length c.args.passes.now.items = omega (arith, c.requires.1, c.args.passes.now.ok) in
    let at = at_index c.args.passes.now.items c.args.k c.index_mut-pass.result.now inside c.index_mut-pass.ensures.value in
    let took = c.in_ok-held.ensures.taken in
    let gave = c.give.ensures.given in
    one_moved c.args.turn.now c.args.passes.now.items c.args.k c.index_mut-pass.result.now c.give.new.pass c.requires.0 at (same_trans c.index_mut-pass.result.now c.try_take.new.pass c.give.new.pass took.same gave.same) gave.idle
