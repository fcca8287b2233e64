-- The text of a journal, as it is printed.
use Rattle.std.specs.Prelude.{ℕ, Bool, true, false, List, [], ◌++◌, flat_map, codes, All, IsTrue, if◌then◌else◌}
use Rattle.rpc_journal.specs.declared.entry.Entry.{Entry}
use Rattle.rpc_journal.specs.declared.entry.EntryKind.{EntryKind}
use Rattle.rpc_journal.specs.declared.entry.EntryKind.TheVariants.{Invoke, Say, Done, Replace, Halt}
use Rattle.text_fields.specs.Lines.{ended}
use Rattle.journal_text.specs.Line.{line_of}

-- entries of this kind have a text: all but those that no recorded run makes
abbrev pub has_text : EntryKind → Bool
has_text (Invoke p m) = false
has_text (Say c out) = false
has_text (Done c) = false
has_text (Replace c m) = false
has_text (Halt why) = false
has_text _ = true

abbrev pub AllHaveText : List Entry → Type 0
AllHaveText entries = All (λ e. IsTrue (has_text e.kind)) entries

-- the line of an entry that has a text
abbrev pub entry_text : Entry → List ℕ
entry_text e = if has_text e.kind then ended (line_of e) else []

-- a first line `journal`, and then the entries, a line each
abbrev pub journal_text : List Entry → List ℕ
journal_text entries = ended (codes "journal") ++ flat_map entry_text entries
