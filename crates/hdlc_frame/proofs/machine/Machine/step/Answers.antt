use Rattle.std.proofs.Common.{◌≡◌, ◌≢◌, ℕ, ◌+◌, ◌<◌, ◌-◌, ◌⊎◌, length, get_or, take, drop, ap, inl, inr, arith}
use Rattle.std.proofs.lemmas.List.{take_rest}
use Rattle.hdlc_frame.specs.declared.octets.TheConstants.{ESCAPE, FLAG}
use Rattle.hdlc_frame.specs.Machine.{reading_at}
use Rattle.hdlc_frame.proofs.machine.Machine.step.Goals as goal
use Rattle.hdlc_frame.proofs.Machines.{step_end, step_escape, step_flag, step_text, step_whole}

flag_else : (x : ℕ) → (x ≡ FLAG) ⊎ (x ≡ ESCAPE) → x ≢ ESCAPE → x ≡ FLAG
flag_else x (inl is) other = is
flag_else x (inr is) other = absurd (other is)

pub returns-then-n-rest-clause-moves : goal.returns-then-n-rest-clause-moves
returns-then-n-rest-clause-moves c =
    let piece = c.args.piece.now in
    let at = c.args.at in
    let rest = take (length piece - at) (drop at piece) in
    let n = c.ordinary_len-n.result in
    let below = c.requires.at in
    step_end (reading_at c.args.self.now c.args.buffer.now) (reading_at c.read_run.new.self c.read_run.new.buffer) piece rest at n (take_rest piece at) c.if-n-rest.true (omega arith)
    c.ordinary_len-n.ensures.ordinary c.read_run.ensures.read

pub returns-then-rest-n-eq-ESCAPE-clause-moves : goal.returns-then-rest-n-eq-ESCAPE-clause-moves
returns-then-rest-n-eq-ESCAPE-clause-moves c =
    let piece = c.args.piece.now in
    let at = c.args.at in
    let rest = take (length piece - at) (drop at piece) in
    let n = c.ordinary_len-n.result in
    let below : n < length rest = omega (arith, c.ordinary_len-n.ensures.within, c.if-n-rest.false) in
    let later = c.read_run-then-rest-n-eq-ESCAPE.new.buffer in
    let end = at + n + 1 in
    let escaped =
    step_escape (reading_at c.args.self.now c.args.buffer.now) (reading_at c.read_run-then-rest-n-eq-ESCAPE.new.self later)
    (reading_at c.read_escape.new.self later) piece rest at n (take_rest piece at) below
    c.if-rest-n-eq-ESCAPE.true c.ordinary_len-n.ensures.ordinary c.read_run-then-rest-n-eq-ESCAPE.ensures.read (c.read_escape.ensures.read later)
    in
    step_text (reading_at c.args.self.now c.args.buffer.now) (reading_at c.read_escape.new.self later)
    (reading_at c.read_text.new.self c.read_text.new.buffer) piece (take (length piece - end) (drop end piece)) at end c.read_text.result (omega arith)
    (take_rest piece end) escaped c.read_text.ensures.moves

pub returns-then-is_at_start-clause-moves : goal.returns-then-is_at_start-clause-moves
returns-then-is_at_start-clause-moves c =
    let piece = c.args.piece.now in
    let at = c.args.at in
    let rest = take (length piece - at) (drop at piece) in
    let n = c.ordinary_len-n.result in
    let below : n < length rest = omega (arith, c.ordinary_len-n.ensures.within, c.if-n-rest.false) in
    step_whole (reading_at c.args.self.now c.args.buffer.now) piece rest at n (take_rest piece at) below c.if-n-gt0.true
    (flag_else (get_or rest n 0) (c.ordinary_len-n.ensures.stop below) c.if-rest-n-eq-ESCAPE.false) c.ordinary_len-n.ensures.ordinary
    (c.is_at_start.ensures.0 c.if-is_at_start.true)

pub returns-clause-moves : goal.returns-clause-moves
returns-clause-moves c =
    let piece = c.args.piece.now in
    let at = c.args.at in
    let rest = take (length piece - at) (drop at piece) in
    let n = c.ordinary_len-n.result in
    let below : n < length rest = omega (arith, c.ordinary_len-n.ensures.within, c.if-n-rest.false) in
    let later = c.read_run-2.new.buffer in
    step_flag (reading_at c.args.self.now c.args.buffer.now) (reading_at c.read_run-2.new.self later) (reading_at c.read_flag.new.self later) piece rest at n c.read_flag.result (take_rest piece at) below
    (flag_else (get_or rest n 0) (c.ordinary_len-n.ensures.stop below) c.if-rest-n-eq-ESCAPE.false) c.ordinary_len-n.ensures.ordinary
    c.read_run-2.ensures.read (ap (λ m. reading_at m later) c.read_flag.ensures.after) c.read_flag.ensures.closed
