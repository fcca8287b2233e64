use Rattle.std.proofs.Common.{◌≡◌, ◌++◌, ◌≤◌, drop, length, take}
use Rattle.proto_wire.specs.Entries.{AllNumbered, entries_of, present, fields_text}
use Rattle.proto_wire.proofs.slice_writer.write_fields_into.Given as goal

-- what was written, with the fields to come behind it, is the whole
abbrev pub invariant-loop-field : goal.invariant-loop-field
invariant-loop-field l = record {
  within : l.at ≤ length l.out;
  same : length l.out ≡ length l.fn.out;
  leads_on : take l.at l.out ++ fields_text (present (entries_of (drop l.field-index l.fields))) ≡ fields_text (present (entries_of l.fields));
  numbered : AllNumbered (entries_of (drop l.field-index l.fields));
}
