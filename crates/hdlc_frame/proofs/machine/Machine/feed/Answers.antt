use Rattle.std.proofs.Common.{take, subst, arith}
use Rattle.hdlc_frame.specs.declared.closed.Closed.{Closed}
use Rattle.hdlc_frame.specs.Steps.{Moves, closed_found}
use Rattle.hdlc_frame.specs.Machine.{reading_at}
use Rattle.hdlc_frame.proofs.machine.Machine.feed.Goals as goal
use Rattle.hdlc_frame.proofs.Machines.{moves_more}

pub loop-at-preserved : goal.loop-at-preserved
loop-at-preserved c =
    let piece = c.args.piece.now in
    let at = c.loop-at.at in
    let step = c.step-end in
    let further = step.ensures.further in
    let P : Closed → Type 0 = λ closed. Moves (reading_at c.args.self.now c.args.buffer.now) (reading_at step.new.self step.new.buffer) (take step.result.0 piece) (closed_found (reading_at step.new.self step.new.buffer) piece closed) in
    record {
      kept = step.ensures.kept;
      within = step.ensures.taken;
      moves =
          subst P c.in-Open.is
          (moves_more (reading_at c.args.self.now c.args.buffer.now) (reading_at c.loop-at.self c.loop-at.buffer) (reading_at step.new.self step.new.buffer) piece at step.result.0 _ (omega arith) c.loop-at.invariant.moves step.ensures.moves);
    }

pub returns-in_default : goal.returns-in_default
returns-in_default c =
    let piece = c.args.piece.now in
    let at = c.loop-at.at in
    let step = c.step-end in
    let further = step.ensures.further in
    record {
      kept = step.ensures.kept;
      taken = step.ensures.taken;
      whole = λ is. absurd (c.in_default.not-Open is);
      progress = λ some. omega arith;
      within = step.ensures.within;
      moves =
          moves_more (reading_at c.args.self.now c.args.buffer.now) (reading_at c.loop-at.self c.loop-at.buffer) (reading_at step.new.self step.new.buffer) piece at step.result.0 _ (omega arith) c.loop-at.invariant.moves step.ensures.moves;
    }
