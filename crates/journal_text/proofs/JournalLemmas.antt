-- A journal is read line by line.
use Rattle.std.proofs.Common.{◌≡◌, ℕ, ◌+◌, List, [], ◌∷◌, ◌++◌, length, codes, refl, sym, ◌∙◌, ap, append_assoc, append-nil, Option, Some, None, inr, suc}
use Rattle.rpc_journal.specs.declared.entry.Entry.{Entry}
use Rattle.text_fields.specs.Lines.{lines_of}
use Rattle.journal_text.specs.Finds.{Finds}
use Rattle.journal_text.specs.Reading.{AreLines, IsFirstBadLine, IsJournalText, IsLine}
use Rattle.journal_text.proofs.FindLemmas.{none_is}

-- of the text's lines behind the head these are read as these entries, and are read as no others; the lines of the rest
-- are left
pub record HasRead (text rest : List ℕ) (entries : List Entry) : Type 0 where
  pub good : List (List ℕ)
  pub whole : lines_of text ≡ codes "journal" ∷ (good ++ lines_of rest)
  pub says : AreLines good entries
  pub only : (left : List (List ℕ)) (all : List Entry) → AreLines (good ++ left) all → (more : List Entry) × ((all ≡ entries ++ more) × AreLines left more)

pub nothing_read : (text rest : List ℕ) → lines_of text ≡ codes "journal" ∷ lines_of rest → HasRead text rest []
nothing_read text rest whole = record {
  good = [];
  whole = whole;
  says = tt;
  only = λ left all is. (all, (refl, is));
}

says_more :
    (good : List (List ℕ)) (entries : List Entry) (line : List ℕ) (e : Entry) → AreLines good entries → IsLine line e →
    AreLines (good ++ line ∷ []) (entries ++ e ∷ [])
says_more [] [] line e says is = (is, tt)
says_more [] (x ∷ entries) line e says is = absurd says
says_more (l ∷ good) [] line e says is = absurd says
says_more (l ∷ good) (x ∷ entries) line e says is = (says.0, says_more good entries line e says.1 is)

first_says :
    (line : List ℕ) (left : List (List ℕ)) (all : List Entry) (e : Entry) → Finds (Some e) (IsLine line) →
    AreLines (line ∷ left) all → (more : List Entry) × ((all ≡ e ∷ more) × AreLines left more)
first_says line left [] e finds is = absurd is
first_says line left (x ∷ more) e finds is =
    let same : e ≡ x = cc (finds.only x is.0) in
    (more, (ap (λ y. y ∷ more) (sym same), is.1))

-- one more line
pub line_read :
    (text rest line more : List ℕ) (entries : List Entry) (e : Entry) (found : Option Entry) → HasRead text rest entries →
    lines_of rest ≡ line ∷ lines_of more → Finds found (IsLine line) → found ≡ Some e → HasRead text more (entries ++ e ∷ [])
line_read text rest line more entries e found read first finds is =
    let here : Finds (Some e) (IsLine line) = rw is at finds in
    record {
      good = read.good ++ line ∷ [];
      whole = read.whole ∙ ap (λ lines. codes "journal" ∷ lines)
          (ap (λ lines. read.good ++ lines) first ∙ sym (append_assoc read.good (line ∷ []) (lines_of more)));
      says = says_more read.good entries line e read.says here.some;
      only = λ left all so.
          let before = read.only (line ∷ left) all (rw (append_assoc read.good (line ∷ []) left) at so) in
          let next = first_says line left before.0 e here before.1.1 in
          (next.0, (before.1.0 ∙ ap (λ xs. entries ++ xs) next.1.0 ∙ sym (append_assoc entries (e ∷ []) next.0), next.1.1));
    }

-- as many lines as entries
pub lines_length : (good : List (List ℕ)) (entries : List Entry) → AreLines good entries → length good ≡ length entries
lines_length [] [] says = refl
lines_length [] (x ∷ entries) says = absurd says
lines_length (l ∷ good) [] says = absurd says
lines_length (l ∷ good) (x ∷ entries) says = ap suc (lines_length good entries says.1)

-- a line that says no entry
pub line_unread :
    (text rest line more : List ℕ) (entries : List Entry) (found : Option Entry) → HasRead text rest entries →
    lines_of rest ≡ line ∷ lines_of more → Finds found (IsLine line) → found ≡ None → IsFirstBadLine text (length entries + 2)
line_unread text rest line more entries found read first finds is =
    let here : Finds None (IsLine line) = rw is at finds in
    inr (record {
      good = read.good;
      bad = line;
      more = lines_of more;
      entries = entries;
      whole = read.whole ∙ ap (λ lines. codes "journal" ∷ (read.good ++ lines)) first;
      says = read.says;
      none = λ e so. none_is (IsLine line) e here so;
      place = ap (λ n. n + 2) (sym (lines_length read.good entries read.says));
    })

first_none :
    (line : List ℕ) (left : List (List ℕ)) (all : List Entry) → Finds None (IsLine line) → AreLines (line ∷ left) all → ⊥
first_none line left [] finds is = is
first_none line left (x ∷ more) finds is = none_is (IsLine line) x finds is.0

-- a text with such a line is no journal
pub no_journal :
    (text rest line more : List ℕ) (entries : List Entry) (found : Option Entry) → HasRead text rest entries →
    lines_of rest ≡ line ∷ lines_of more → Finds found (IsLine line) → found ≡ None → (all : List Entry) →
    IsJournalText text all → ⊥
no_journal text rest line more entries found read first finds is all so =
    let here : Finds None (IsLine line) = rw is at finds in
    let same : so.lines ≡ read.good ++ line ∷ lines_of more = cc
    (sym so.whole ∙ read.whole ∙ ap (λ lines. codes "journal" ∷ (read.good ++ lines)) first) in
    let before = read.only (line ∷ lines_of more) all (rw same at so.says) in
    first_none line (lines_of more) before.0 here before.1.1

-- all lines are read
pub journal_read :
    (text rest : List ℕ) (entries : List Entry) → HasRead text rest entries → lines_of rest ≡ [] → IsJournalText text entries
journal_read text rest entries read none = record {
  lines = read.good;
  whole = read.whole ∙ ap (λ lines. codes "journal" ∷ lines) (ap (λ lines. read.good ++ lines) none ∙ append-nil read.good);
  says = read.says;
}

no_lines : (more : List Entry) → AreLines [] more → more ≡ []
no_lines [] is = refl
no_lines (x ∷ more) is = absurd is

pub journal_only :
    (text rest : List ℕ) (entries all : List Entry) → HasRead text rest entries → lines_of rest ≡ [] → IsJournalText text all →
    entries ≡ all
journal_only text rest entries all read none so =
    let same : so.lines ≡ read.good ++ [] = cc
    (sym so.whole ∙ read.whole ∙ ap (λ lines. codes "journal" ∷ (read.good ++ lines)) none) in
    let before = read.only [] all (rw same at so.says) in
    sym (append-nil entries) ∙ ap (λ xs. entries ++ xs) (sym (no_lines before.0 before.1.1)) ∙ sym before.1.0
