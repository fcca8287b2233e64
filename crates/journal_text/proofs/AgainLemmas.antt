-- What is printed is read as what was printed.
use Rattle.std.proofs.Common.{◌≡◌, ℕ, ◌^◌, ◌<◌, true, List, [], ◌∷◌, ◌++◌, map, flat_map, codes, refl, ◌∙◌, ap, inl, arith}
use Rattle.std.specs.Prelude.{All, IsTrue}
use Rattle.std.specs.Fmt.{decimal}
use Rattle.std.proofs.lemmas.List.Elements.{All-head, All-tail, All-nil, All-cons}
use Rattle.rpc_handlers.specs.declared.answer.Out.{Out}
use Rattle.rpc_journal.specs.declared.entry.Entry.{Entry}
use Rattle.rpc_journal.specs.declared.entry.EntryKind.{EntryKind}
use Rattle.rpc_journal.specs.declared.entry.EntryKind.TheVariants.{Arrive, Invoke, Say, Done, Start, Finish, Replace, Cancel, Tick, Flush, EndIn, Halt, Close}
use Rattle.rpc_packet.specs.Message.{message_of}
use Rattle.rpc_packet.specs.Spelling.{spelling_of}
use Rattle.text_fields.specs.Lines.{ended, lines_of}
use Rattle.text_fields.specs.Splits.{Lacks}
use Rattle.text_fields.proofs.HexTexts.{encoded_lacks}
use Rattle.text_fields.proofs.LineLaws.{lines_of_ended}
use Rattle.journal_text.specs.Line.{item_text, items_text, kind_text, line_of}
use Rattle.journal_text.specs.Printed.{AllHaveText, entry_text, has_text, journal_text}
use Rattle.journal_text.specs.Reading.{AreLines, AreOuts, IsJournalText, IsKind, IsLine, IsOut}
use Rattle.journal_text.proofs.FieldLemmas.{end_lacks, has_none, item_lacks, join_lacks, number_lacks, plain_lacks}

-- no line has a newline
number_line : (n : ℕ) → n < 2 ^ 64 → Lacks 10 (decimal n)
number_line n small = number_lacks n 10 small (inl (omega arith))

word_line : (word text : List ℕ) → has_none 10 word ≡ true → Lacks 10 text → Lacks 10 (word ++ text)
word_line word text none lacks = join_lacks 10 word text (plain_lacks 10 word none) lacks

items_line : (items : List Out) → AreOuts items → Lacks 10 (items_text items)
items_line [] fit = plain_lacks 10 [] refl
items_line (item ∷ items) fit =
    join_lacks 10 (codes " " ++ item_text item) (items_text items)
    (word_line (codes " ") (item_text item) refl (item_lacks 10 item (omega arith) fit.0)) (items_line items fit.1)

kind_line : (text : List ℕ) (kind : EntryKind) → IsKind text kind → Lacks 10 text
kind_line text (Arrive p) is = rw is.0 (word_line (codes "arrive ") _ refl (encoded_lacks 10 (spelling_of (message_of p)) is.1.bytes refl))
kind_line text (Start c) is = rw is.0 (word_line (codes "start ") _ refl (number_line c (omega (arith, is.1))))
kind_line text (Cancel c) is = rw is.0 (word_line (codes "cancel ") _ refl (number_line c (omega (arith, is.1))))
kind_line text (Tick t) is = rw is.0 (word_line (codes "tick ") _ refl (number_line t is.1))
kind_line text (Finish c a) is =
    let end = end_lacks 10 is.answer.front a.end (omega arith) is.answer.ends in
    let items : Lacks 10 is.answer.rest = rw is.answer.items.spelled (items_line a.items is.answer.items.fit) in
    let answer : Lacks 10 is.rest = rw is.answer.spelled (join_lacks 10 is.answer.front is.answer.rest end items) in
    rw is.spelled
    (word_line (codes "finish ") _ refl
    (join_lacks 10 (decimal c) _ (number_line c (omega (arith, is.fits))) (word_line (codes " ") _ refl answer)))
kind_line text Flush is = rw is (plain_lacks 10 (codes "flush") refl)
kind_line text EndIn is = rw is (plain_lacks 10 (codes "endin") refl)
kind_line text (Invoke p m) is = absurd is
kind_line text (Say c out) is = absurd is
kind_line text (Done c) is = absurd is
kind_line text (Replace c m) is = absurd is
kind_line text (Halt why) is = absurd is
kind_line text (Close channel) is = rw is.0 (word_line (codes "close ") _ refl (number_line channel (omega (arith, is.1))))

line_lacks : (line : List ℕ) (e : Entry) → IsLine line e → Lacks 10 line
line_lacks line e is =
    rw is.spelled
    (join_lacks 10 (decimal e.seat) _ (number_line e.seat (omega (arith, is.seat)))
    (word_line (codes " ") _ refl (kind_line is.rest e.kind is.kind)))

-- the printed line says its entry
pub line_again : (e : Entry) → e.seat < 2 ^ 32 → IsKind (kind_text e.kind) e.kind → IsLine (line_of e) e
line_again e small kind = record { rest = kind_text e.kind; spelled = refl; seat = small; kind = kind }

-- of these entries each that has a text is said by its line
abbrev pub AllAgain : List Entry → Type 0
AllAgain [] = Unit {0}
AllAgain (e ∷ entries) = (IsTrue (has_text e.kind) → IsLine (line_of e) e) × AllAgain entries

pub push_again :
    (entries : List Entry) (e : Entry) → AllAgain entries → (IsTrue (has_text e.kind) → IsLine (line_of e) e) →
    AllAgain (entries ++ e ∷ [])
push_again [] e all again = (again, tt)
push_again (x ∷ entries) e all again = (all.0, push_again entries e all.1 again)

pub push_outs : (items : List Out) (item : Out) → AreOuts items → IsOut item → AreOuts (items ++ item ∷ [])
push_outs [] item all fits = (fits, tt)
push_outs (x ∷ items) item all fits = (all.0, push_outs items item all.1 fits)

abbrev HasText : Entry → Type 0
HasText e = IsTrue (has_text e.kind)

printed_lines :
    (entries : List Entry) → AllHaveText entries → flat_map entry_text entries ≡ flat_map ended (map line_of entries)
printed_lines [] have = refl
printed_lines (e ∷ entries) have =
    let first : has_text e.kind ≡ true = All-head HasText e entries have in
    let line : entry_text e ≡ ended (line_of e) = rw first refl in
    rw (line, printed_lines entries (All-tail HasText e entries have)) refl

lines_say : (entries : List Entry) → AllAgain entries → AllHaveText entries → AreLines (map line_of entries) entries
lines_say [] all have = tt
lines_say (e ∷ entries) all have = (all.0 (All-head HasText e entries have), lines_say entries all.1 (All-tail HasText e entries have))

lines_lack : (entries : List Entry) → AreLines (map line_of entries) entries → All (Lacks 10) (map line_of entries)
lines_lack [] says = All-nil (Lacks 10)
lines_lack (e ∷ entries) says = All-cons (Lacks 10) (line_of e) (map line_of entries) (line_lacks (line_of e) e says.0) (lines_lack entries says.1)

-- a printed journal is read as it was
pub journal_again :
    (entries : List Entry) → AllAgain entries → AllHaveText entries → IsJournalText (journal_text entries) entries
journal_again entries all have =
    let says = lines_say entries all have in
    let lack = All-cons (Lacks 10) (codes "journal") (map line_of entries) (plain_lacks 10 (codes "journal") refl)
    (lines_lack entries says) in
    record {
      lines = map line_of entries;
      whole = ap (λ text. lines_of (ended (codes "journal") ++ text)) (printed_lines entries have) ∙ lines_of_ended
          (codes "journal" ∷ map line_of entries) lack;
      says = says;
    }
