-- What the values and fields of the program stand for on the wire.
use Rattle.proto_wire.specs.declared.field.Value.{Value}
use Rattle.proto_wire.specs.declared.field.Value.TheVariants as value
use Rattle.proto_wire.specs.declared.field.Field.{Field}
use Rattle.proto_wire.specs.Field.{WireValue, Varint, Fixed64, Bytes, Fixed32, WireField}

abbrev pub wire_value : Value → WireValue
wire_value (value.Varint n) = Varint n
wire_value (value.Fixed64 n) = Fixed64 n
wire_value (value.Bytes content) = Bytes content.now
wire_value (value.Fixed32 n) = Fixed32 n

abbrev pub wire_field : Field → WireField
wire_field f = record { number = f.number; value = wire_value f.value }
