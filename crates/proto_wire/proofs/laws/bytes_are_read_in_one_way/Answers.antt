use Rattle.proto_wire.proofs.UnreadLaws.{IsRead-fields_from, IsRead_same}
use Rattle.proto_wire.proofs.laws.bytes_are_read_in_one_way.Goals as goal

pub returns : goal.returns
returns c = record { a_way = IsRead-fields_from; one = λ at bytes m h. IsRead_same h }
