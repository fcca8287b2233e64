use Rattle.std.proofs.Common.{◌++◌, None, ap, ◌∙◌, drop, ◌+◌, append_assoc, get_or}
use Rattle.proto_wire.specs.declared.writer.OptionalField.{OptionalField}
use Rattle.proto_wire.specs.Entries.{entries_of, entry_of, entry_text, present, fields_text}
use Rattle.proto_wire.proofs.EntryLaws.{text_more, numbered_more}
use Rattle.proto_wire.proofs.writer.push_fields.Goals as goal

pub push_entry-requires : goal.push_entry-requires
push_entry-requires c =
    (numbered_more c.args.fields.now c.loop-field.field-index (record { number = 0; value = None }) c.loop-field-test.true c.loop-field.invariant.numbered).0

pub loop-field-preserved : goal.loop-field-preserved
loop-field-preserved c =
    let fs = c.args.fields.now in
    let i = c.loop-field.field-index in
    let out = c.loop-field.out.items in
    let inv = c.loop-field.invariant in
    let none : OptionalField = record { number = 0; value = None } in
    let text = entry_text (entry_of (get_or fs i none)) in
    record {
      leads_on =
          ap (λ l. l ++ fields_text (present (entries_of (drop (i + 1) fs)))) c.in_ok-push_entry.ensures.ok
          ∙ (text_more out fs i none c.loop-field-test.true ∙ inv.leads_on);
      numbered = (numbered_more fs i none c.loop-field-test.true inv.numbered).1;
      begun = (
        inv.begun.0 ++ text,
        c.in_ok-push_entry.ensures.ok ∙ (ap (λ l. l ++ text) inv.begun.1 ∙ append_assoc _ inv.begun.0 text),
      );
    }
