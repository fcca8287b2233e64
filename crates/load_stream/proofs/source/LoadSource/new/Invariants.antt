use Rattle.std.proofs.Common.{◌≡◌}
use Rattle.link_script.specs.Generator.{number_after}
use Rattle.load_stream.specs.Load.{load_stream}
use Rattle.load_stream.proofs.source.LoadSource.new.Given as goal

abbrev pub invariant-loop-number : goal.invariant-loop-number
invariant-loop-number l = (l.stream.items ≡ load_stream l.number l.seed) × (l.x ≡ number_after l.number l.seed)
