use Rattle.std.proofs.Common.{◌≡◌, ◌+◌, ◌-◌, ◌≤◌, length, suc, arith, sym, ◌∙◌, ap}
use Rattle.transfer_base.specs.PieceLists.{end_of}
use Rattle.transfer_sender.specs.Cut.{pieces_of_window}
use Rattle.transfer_sender.proofs.CutLemmas.{cut-done, cut-more, end-more, pieces_up_to-done, pieces_up_to-zero}
use Rattle.transfer_sender.proofs.cut.cut_window.Goals as goal

-- the position has come to the stop
at_stop : (c : goal.Then-at-stop) → c.loop-turn.pieces ≡ pieces_of_window c.args.resource.now c.args.chunk c.args.window_end c.args.position
at_stop c =
    cut-done c.args.resource.now c.args.chunk c.min-stop.result c.args.window_end c.args.position c.loop-turn.at (64 - c.loop-turn._turn) c.loop-turn.pieces
    (omega arith)
    (pieces_up_to-done c.args.resource.now c.args.chunk c.min-stop.result c.loop-turn.at (64 - c.loop-turn._turn) (omega arith))
    c.loop-turn.invariant.rest

pub returns-then-at-stop-clause-pieces : goal.returns-then-at-stop-clause-pieces
returns-then-at-stop-clause-pieces c = at_stop c

pub returns-then-at-stop-clause-end : goal.returns-then-at-stop-clause-end
returns-then-at-stop-clause-end c = sym c.loop-turn.invariant.end ∙ ap (end_of c.args.position) (at_stop c)

pub loop-turn-preserved : goal.loop-turn-preserved
loop-turn-preserved c =
    let one_less : 64 - c.loop-turn._turn ≡ suc (64 - (c.loop-turn._turn + 1)) = omega arith in
    let is_pushed = c.in_ok-push.ensures.ok in
    let is_piece = c.in_ok-piece_at.ensures in
    let within : c.loop-turn.at + c.min-size.result ≤ length c.args.resource.now = omega arith in
    record {
      rest = cut-more c.args.resource.now c.args.chunk c.min-stop.result c.loop-turn.at c.min-size.result (64 - (c.loop-turn._turn + 1))
          c.loop-turn.pieces c.push.new.self _ c.in_ok-piece_at.field-0
          (omega arith) (omega arith) is_piece is_pushed
          (rw (one_less) at c.loop-turn.invariant.rest);
      end = end-more c.args.resource.now c.args.position c.loop-turn.at c.min-size.result c.loop-turn.pieces c.push.new.self c.in_ok-piece_at.field-0
          is_piece is_pushed within c.loop-turn.invariant.end;
      within = within;
    }

-- as many pieces as one answer may have
all_used : (c : goal.After-loop-turn) → c.loop-turn.pieces ≡ pieces_of_window c.args.resource.now c.args.chunk c.args.window_end c.args.position
all_used c =
    cut-done c.args.resource.now c.args.chunk c.min-stop.result c.args.window_end c.args.position c.loop-turn.at (64 - c.loop-turn._turn) c.loop-turn.pieces
    (omega arith)
    (pieces_up_to-zero c.args.resource.now c.args.chunk c.min-stop.result c.loop-turn.at (64 - c.loop-turn._turn) (omega arith))
    c.loop-turn.invariant.rest

pub returns-clause-pieces : goal.returns-clause-pieces
returns-clause-pieces c = all_used c

pub returns-clause-end : goal.returns-clause-end
returns-clause-end c = sym c.loop-turn.invariant.end ∙ ap (end_of c.args.position) (all_used c)
