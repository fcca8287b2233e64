use Rattle.stream_dump.specs.Names.{names_of}
use Rattle.stream_dump.proofs.DumpLemmas.{none_dumped}
use Rattle.stream_dump.proofs.dumping.dump.Goals as goal

pub dump_stream-requires-clause-empty : goal.dump_stream-requires-clause-empty
dump_stream-requires-clause-empty g c =
    none_dumped (names_of c.args.names.now) c.new-dumper.result (g.O.Sink.written c.args.output.now) c.new-dumper.ensures.limit c.new-dumper.ensures.read c.new-dumper.ensures.state
