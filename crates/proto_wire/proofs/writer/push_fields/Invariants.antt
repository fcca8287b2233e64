use Rattle.std.proofs.Common.{◌≡◌, ◌++◌, ℕ, List, drop}
use Rattle.proto_wire.specs.Entries.{AllNumbered, entries_of, present, fields_text}
use Rattle.proto_wire.proofs.writer.push_fields.Given as goal

-- what was written, with the fields to come behind it, is the whole
abbrev pub invariant-loop-field : goal.invariant-loop-field
invariant-loop-field l = record {
  leads_on : l.out.items ++ fields_text (present (entries_of (drop l.field-index l.fields))) ≡ l.fn.out.items ++ fields_text (present (entries_of l.fields));
  numbered : AllNumbered (entries_of (drop l.field-index l.fields));
  begun : (part : List ℕ) × (l.out.items ≡ l.fn.out.items ++ part);
}
