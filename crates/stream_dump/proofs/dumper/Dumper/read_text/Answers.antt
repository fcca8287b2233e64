use Rattle.std.proofs.Common.{refl}
use Rattle.hdlc_frame.specs.Machine.{reading_at}
use Rattle.stream_dump.proofs.DumpLemmas.{read_on}
use Rattle.stream_dump.proofs.dumper.Dumper.read_text.Goals as goal

pub returns : goal.returns
returns c =
    let inside = c.self.inside in
    rw (← c.self.view_is) (record {
      is = refl;
      limit = c.push.auto.buffer;
      read =
          read_on (reading_at inside.machine inside.buffer) (reading_at c.push.new.self c.push.new.buffer) c.args.text.now c.push.new.buffer c.push.result.taken
          c.push.result.segment c.requires.none c.push.ensures.whole c.push.ensures.read c.push.ensures.gives;
    })
