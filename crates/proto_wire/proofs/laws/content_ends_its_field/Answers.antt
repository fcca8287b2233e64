use Rattle.std.proofs.Common.{arith, refl}
use Rattle.proto_wire.proofs.PlaceLaws.{content_stands, moves_on}
use Rattle.proto_wire.proofs.laws.content_ends_its_field.Goals as goal

pub returns : goal.returns
returns c = record {
  start = λ bytes. record { within = omega arith; left = refl };
  moves = moves_on;
  stands = λ bytes old new number content is given. (content_stands bytes old new number content is given).1;
}
