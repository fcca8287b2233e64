use Rattle.std.proofs.Common.{ℕ, ◌++◌, take, sym, subst, arith, length-take, length-drop}
use Rattle.std.proofs.lemmas.List.{append-nil, take_all}
use Rattle.turn_cell.proofs.Calls.{same_self, same_trans}
use Rattle.rpc_shared.specs.session.Crew.{Fed}
use Rattle.rpc_shared.proofs.session.ReaderLemmas.{cut_rest, fed_on, on_err_of}
use Rattle.rpc_crew.proofs.reading.feed_all.Goals as goal

pub frames-init : goal.frames-init
frames-init g c = record {
  within = omega arith;
  reader = c.requires.reader;
  same = same_self c.args.pass.now;
  role = c.requires.role;
  fed = λ bytes fed. subst (Fed c.args.listener.now c.args.pass.now) (sym (append-nil bytes)) fed;
}

pub frames-preserved : goal.frames-preserved
frames-preserved g c = record {
  within = omega (arith, c.in_ok-done.ensures.taken.1, c.frames.invariant.within, length-take {A = ℕ}, length-drop {A = ℕ});
  reader = c.in_ok-done.ensures.reader;
  same = same_trans c.args.pass.now c.frames.pass c.feed.new.pass c.frames.invariant.same c.in_ok-done.ensures.same;
  role = c.in_ok-done.ensures.role;
  fed = λ bytes fed.
      fed_on c.frames.listener c.feed.new.listener c.frames.pass c.feed.new.pass bytes c.args.piece.now c.frames.done c.in_ok-done.field-0
      (c.in_ok-done.ensures.fed (bytes ++ take c.frames.done c.args.piece.now) (c.frames.invariant.fed bytes fed));
}

pub returns-clause-fed : goal.returns-clause-fed
returns-clause-fed g c = λ bytes fed.
    subst (λ part. Fed c.frames.listener c.frames.pass (bytes ++ part)) (take_all c.frames.done c.args.piece.now (omega arith)) (c.frames.invariant.fed bytes fed)

pub returns-in_err-done-clause-cut : goal.returns-in_err-done-clause-cut
returns-in_err-done-clause-cut g c =
    on_err_of _ c.from_residual.result
    (λ bytes fed.
    cut_rest c.feed.new.listener c.feed.new.pass bytes c.args.piece.now c.frames.done
    (c.in_err-done.ensures.cut (bytes ++ take c.frames.done c.args.piece.now) (c.frames.invariant.fed bytes fed)))

pub returns-in_err-done-clause-same : goal.returns-in_err-done-clause-same
returns-in_err-done-clause-same g c = same_trans c.args.pass.now c.frames.pass c.feed.new.pass c.frames.invariant.same c.in_err-done.ensures.same

pub returns-in_err-done-clause-halted : goal.returns-in_err-done-clause-halted
returns-in_err-done-clause-halted g c = on_err_of _ c.from_residual.result c.in_err-done.ensures.halted
