use Rattle.std.proofs.Common.{◌≡◌, ◌++◌, take}
use Rattle.rpc_frames.specs.Written.{frames_of_packets}
use Rattle.load_stream.specs.Load.{messages}
use Rattle.load_stream.proofs.calls.write_streamed.Given as goal

abbrev pub invariant-loop-byte : goal.invariant-loop-byte
invariant-loop-byte l = l.out.items ≡ l.initial.out.items ++ frames_of_packets (messages l.name (take l.byte-index l.bytes))
