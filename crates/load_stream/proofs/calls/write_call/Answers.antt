use Rattle.std.proofs.Common.{◌≡◌, ◌%◌, arith}
use Rattle.load_stream.proofs.FrameSteps.{chat_frames, count_frames, echo_frames, sum_frames}
use Rattle.load_stream.proofs.calls.write_call.Goals as goal

pub returns-in-0 : goal.returns-in-0
returns-in-0 c =
    let turn : c.args.number % 4 ≡ 0 = omega (arith, c.in-0.is) in
    rw (echo_frames c.args.number c.args.x turn) (rw (c.name.ensures, c.top_bytes-sent.ensures) at c.write_request.ensures)

pub returns-in-1 : goal.returns-in-1
returns-in-1 c =
    let turn : c.args.number % 4 ≡ 1 = omega (arith, c.in-1.is) in
    rw (count_frames c.args.number c.args.x turn) (rw (c.name-in-1.ensures, c.count.ensures) at c.write_request-in-1.ensures)

pub returns-in-2 : goal.returns-in-2
returns-in-2 c =
    let turn : c.args.number % 4 ≡ 2 = omega (arith, c.in-2.is) in
    rw (sum_frames c.args.number c.args.x turn) (rw (c.name-in-2.ensures, c.top_bytes-sent.ensures) at c.write_streamed.ensures)

pub returns-in_default : goal.returns-in_default
returns-in_default c =
    let turn : c.args.number % 4 ≡ 3 = omega arith in
    rw (chat_frames c.args.number c.args.x turn) (rw (c.name-in_default.ensures, c.top_bytes-sent.ensures) at c.write_streamed-in_default.ensures)
