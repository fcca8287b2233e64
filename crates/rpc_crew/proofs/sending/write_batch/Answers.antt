use Rattle.std.proofs.Common.{◌+◌, ◌<◌, length, take, ap, ◌∙◌, subst, arith}
use Rattle.std.specs.Io.Iter.{u64_saturate}
use Rattle.std.specs.Io.KnownBytes.{Appends}
use Rattle.rpc_shared.specs.session.Log.{Logs}
use Rattle.rpc_crew.specs.Batches.{items_in}
use Rattle.rpc_crew.proofs.WriterRounds.{all_taken, some_part}
use Rattle.rpc_crew.proofs.sending.write_batch.Goals as goal

pub returns-in-Ok-clause-logged : goal.returns-in-Ok-clause-logged
returns-in-Ok-clause-logged g c =
    let takes = c.take_whole.ensures.takes in
    subst (λ fs. Logs c.args.log.now c.take_whole.new.log (items_in fs))
    (all_taken c.args.batch.now (length c.bytes-all.result.now) c.take_whole.new.batch.framed c.args.log.now c.take_whole.new.log c.args.done.now c.take_whole.new.done c.requires.batch takes
    c.take_whole.ensures.past (ap length c.bytes-all.ensures)) takes.logged

pub returns-in-Ok-clause-counted : goal.returns-in-Ok-clause-counted
returns-in-Ok-clause-counted g c =
    let takes = c.take_whole.ensures.takes in
    takes.counted ∙ ap (λ fs. u64_saturate (c.args.done.now + length fs))
    (all_taken c.args.batch.now (length c.bytes-all.result.now) c.take_whole.new.batch.framed c.args.log.now c.take_whole.new.log c.args.done.now c.take_whole.new.done c.requires.batch takes
    c.take_whole.ensures.past (ap length c.bytes-all.ensures))

pub returns-in-Ok-clause-places : goal.returns-in-Ok-clause-places
returns-in-Ok-clause-places g c = λ n has keeps. omega (arith, c.take_whole.ensures.places n has keeps)

pub returns-in-Err-clause-part : goal.returns-in-Err-clause-part
returns-in-Err-clause-part g c = λ d.
    let w0 = g.O.Sink.written c.args.output.now in
    let w = g.O.Sink.written c.write_bytes.new.output in
    let part = c.in-Err.ensures.part in
    some_part c.args.batch.now c.in-Err.written c.take_whole-in-Err.new.batch.framed c.args.log.now c.take_whole-in-Err.new.log c.args.done.now c.take_whole-in-Err.new.done c.requires.batch
    c.take_whole-in-Err.ensures.takes c.take_whole-in-Err.ensures.past w0 w d (subst (λ bs. c.in-Err.written < length bs) c.bytes.ensures part.0)
    (subst (λ bs. Appends w0 w (take c.in-Err.written bs)) c.bytes.ensures part.1)
