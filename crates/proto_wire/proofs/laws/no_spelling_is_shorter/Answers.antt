use Rattle.proto_wire.proofs.ShortestLaws.{field_shortest}
use Rattle.proto_wire.proofs.laws.no_spelling_is_shorter.Goals as goal

pub returns : goal.returns
returns c = record { shortest = field_shortest }
