-- How the text of a journal grows, entry by entry.
use Rattle.std.proofs.Common.{◌≡◌, ℕ, ◌+◌, ◌<◌, List, [], ◌∷◌, ◌++◌, length, take, get_or, slice_get, Some, flat_map, codes, refl, sym, ap, ◌∙◌, append_assoc, append-nil}
use Rattle.std.specs.Prelude.{IsTrue}
use Rattle.std.proofs.lemmas.Grind.{flat_map-append}
use Rattle.std.proofs.lemmas.List.{take_more}
use Rattle.std.proofs.lemmas.Option.{get_or_from_slice_get, slice_get_read, slice_get_within}
use Rattle.rpc_journal.specs.declared.entry.Entry.{Entry}
use Rattle.rpc_handlers.specs.declared.answer.Out.{Out}
use Rattle.journal_text.specs.Line.{item_text, items_text, line_of}
use Rattle.text_fields.specs.Lines.{ended}
use Rattle.journal_text.specs.Printed.{entry_text, has_text, journal_text}
use Rattle.journal_text.specs.Reading.{AreOuts, IsLine, IsOut}
use Rattle.journal_text.proofs.AgainLemmas.{AllAgain, push_again, push_outs}

-- one more element
flat_map-more :
    {A : Type 0} (f : A → List ℕ) (xs : List A) (i : ℕ) (x : A) → slice_get xs i ≡ Some x →
    flat_map f (take (i + 1) xs) ≡ flat_map f (take i xs) ++ f x
flat_map-more f xs i x there =
    ap (flat_map f)
    (take_more xs i x (slice_get_within xs i x there) ∙ ap (λ y. take i xs ++ y ∷ []) (get_or_from_slice_get xs i x x there))
    ∙ flat_map-append f (take i xs) (x ∷ [])
    ∙ ap (λ text. flat_map f (take i xs) ++ text) (append-nil (f x))

pub journal_text-more :
    (entries : List Entry) (i : ℕ) (e : Entry) → slice_get entries i ≡ Some e →
    journal_text (take (i + 1) entries) ≡ journal_text (take i entries) ++ entry_text e
journal_text-more entries i e there = ap (λ text. ended (codes "journal") ++ text) (flat_map-more entry_text entries i e there)

pub items_text-more :
    (items : List Out) (i : ℕ) (item : Out) → i < length items → item ≡ get_or items i item →
    items_text (take (i + 1) items) ≡ items_text (take i items) ++ (codes " " ++ item_text item)
items_text-more items i item below is = flat_map-more (λ x. codes " " ++ item_text x) items i item (slice_get_read items (length items) i item refl below is)

-- a blank and an item behind what was printed
pub item_printed :
    (old : List ℕ) (items : List Out) (i : ℕ) (item : Out) (text blank new : List ℕ) → i < length items →
    item ≡ get_or items i item → text ≡ old ++ items_text (take i items) → blank ≡ text ++ 32 ∷ [] →
    new ≡ blank ++ item_text item → new ≡ old ++ items_text (take (i + 1) items)
item_printed old items i item text blank new below is printed space last =
    let words = items_text (take i items) in
    last ∙ ap (λ bytes. bytes ++ item_text item) (space ∙ ap (λ bytes. bytes ++ 32 ∷ []) printed)
    ∙
    (append_assoc (old ++ words) (32 ∷ []) (item_text item) ∙
    (append_assoc old words (32 ∷ item_text item) ∙ ap (λ bytes. old ++ bytes) (sym (items_text-more items i item below is))))

-- one more item fits
pub outs_more :
    (items : List Out) (i : ℕ) (item : Out) → i < length items → item ≡ get_or items i item → AreOuts (take i items) →
    IsOut item → AreOuts (take (i + 1) items)
outs_more items i item below is all fits = rw (take_more items i item below, ← is) (push_outs (take i items) item all fits)

-- one more entry is said by its line
pub again_more :
    (entries : List Entry) (i : ℕ) (e : Entry) → slice_get entries i ≡ Some e → AllAgain (take i entries) →
    (IsTrue (has_text e.kind) → IsLine (line_of e) e) → AllAgain (take (i + 1) entries)
again_more entries i e there all again =
    rw (take_more entries i e (slice_get_within entries i e there), get_or_from_slice_get entries i e e there)
    (push_again (take i entries) e all again)
