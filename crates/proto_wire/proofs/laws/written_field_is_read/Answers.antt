use Rattle.proto_wire.proofs.SpellingLaws.{field_text_spelled, field_text_reads}
use Rattle.proto_wire.proofs.laws.written_field_is_read.Goals as goal

pub returns : goal.returns
returns c = record { spelled = field_text_spelled; read = field_text_reads }
