-- A text has one verdict.
use Rattle.std.proofs.Common.{◌≡◌, ℕ, zero, suc, ◌+◌, ◌<◌, List, [], ◌∷◌, ◌++◌, length, take, slice_get, Some, inl, inr, refl, sym, ◌∙◌, ap, arith}
use Rattle.std.proofs.lemmas.Bool.{cases_lt}
use Rattle.std.proofs.lemmas.List.{take-take}
use Rattle.rpc_journal.specs.declared.entry.Entry.{Entry}
use Rattle.rpc_journal.specs.declared.fault.Broken.{Broken}
use Rattle.rpc_journal.specs.declared.fault.Fault.{Fault}
use Rattle.rpc_journal.specs.declared.setting.Setting.{Setting}
use Rattle.rpc_journal.specs.Faults.{IsFirstFault}
use Rattle.rpc_journal.specs.History.{history}
use Rattle.rpc_journal.specs.Lawful.{IsLawful, broken}
use Rattle.rpc_journal.proofs.VerdictLemmas.{faulty}
use Rattle.text_fields.specs.Lines.{lines_of}
use Rattle.journal_text.specs.declared.verdict.Verdict.{Verdict}
use Rattle.journal_text.specs.declared.verdict.Verdict.TheVariants.{Legal, Faulty, NoJournal}
use Rattle.journal_text.specs.Reading.{AreLines, IsFirstBadLine, IsJournalText, IsLine}
use Rattle.journal_text.specs.Verdicts.{IsVerdict}
use Rattle.journal_text.proofs.JournalLemmas.{lines_length}

-- a line for each entry, and the line `journal`
pub lines_count :
    (text : List ℕ) (entries : List Entry) → IsJournalText text entries → length entries + 1 ≡ length (lines_of text)
lines_count text entries says =
    let same = lines_length says.lines entries says.says in
    let whole = ap length says.whole in
    omega (arith, same, whole)

-- a line among those that say entries says one
line_says :
    (good : List (List ℕ)) (bad : List ℕ) (more : List (List ℕ)) (entries : List Entry) →
    AreLines (good ++ bad ∷ more) entries → (e : Entry) × IsLine bad e
line_says [] bad more [] says = absurd says
line_says [] bad more (e ∷ entries) says = (e, says.0)
line_says (line ∷ good) bad more [] says = absurd says
line_says (line ∷ good) bad more (e ∷ entries) says = line_says good bad more entries says.1

-- a journal has no bad line
pub bad_journal :
    (text : List ℕ) (number : ℕ) (entries : List Entry) → IsFirstBadLine text number → IsJournalText text entries → ⊥
bad_journal text number entries (inl headless) says = headless.0 says.lines says.whole
bad_journal text number entries (inr bad) says =
    let same : says.lines ≡ bad.good ++ bad.bad ∷ bad.more = cc (sym says.whole ∙ bad.whole) in
    let line = line_says bad.good bad.bad bad.more entries (rw same at says.says) in
    bad.none line.0 line.1

-- lines have one first bad line
same_place :
    (good good' : List (List ℕ)) (bad bad' : List ℕ) (more more' : List (List ℕ)) (entries entries' : List Entry) →
    good ++ bad ∷ more ≡ good' ++ bad' ∷ more' → AreLines good entries → AreLines good' entries' →
    ((e : Entry) → IsLine bad e → ⊥) → ((e : Entry) → IsLine bad' e → ⊥) → length good ≡ length good'
same_place [] [] bad bad' more more' entries entries' same says says' none none' = refl
same_place [] (line ∷ good') bad bad' more more' entries [] same says says' none none' = absurd says'
same_place [] (line ∷ good') bad bad' more more' entries (e ∷ entries') same says says' none none' =
    let first : line ≡ bad = cc in
    absurd (none e (rw first at says'.0))
same_place (line ∷ good) [] bad bad' more more' [] entries' same says says' none none' = absurd says
same_place (line ∷ good) [] bad bad' more more' (e ∷ entries) entries' same says says' none none' =
    let first : line ≡ bad' = cc in
    absurd (none' e (rw first at says.0))
same_place (line ∷ good) (line' ∷ good') bad bad' more more' [] entries' same says says' none none' = absurd says
same_place (line ∷ good) (line' ∷ good') bad bad' more more' (e ∷ entries) [] same says says' none none' = absurd says'
same_place (line ∷ good) (line' ∷ good') bad bad' more more' (e ∷ entries) (e' ∷ entries') same says says' none none' =
    let rest : good ++ bad ∷ more ≡ good' ++ bad' ∷ more' = cc in
    ap suc (same_place good good' bad bad' more more' entries entries' rest says.1 says'.1 none none')

pub one_bad_line : (text : List ℕ) (m n : ℕ) → IsFirstBadLine text m → IsFirstBadLine text n → m ≡ n
one_bad_line text m n (inl first) (inl second) = first.1 ∙ sym second.1
one_bad_line text m n (inl first) (inr second) = absurd (first.0 (second.good ++ second.bad ∷ second.more) second.whole)
one_bad_line text m n (inr first) (inl second) = absurd (second.0 (first.good ++ first.bad ∷ first.more) first.whole)
one_bad_line text m n (inr first) (inr second) =
    let same : first.good ++ first.bad ∷ first.more ≡ second.good ++ second.bad ∷ second.more = cc
    (sym first.whole ∙ second.whole) in
    let place = same_place first.good second.good first.bad second.bad first.more second.more first.entries second.entries same
    first.says second.says first.none second.none in
    first.place ∙ ap (λ k. k + 2) place ∙ sym second.place

slice_get-take :
    {A : Type 0} (xs : List A) (k n : ℕ) (x : A) → k < n → slice_get xs k ≡ Some x → slice_get (take n xs) k ≡ Some x
slice_get-take [] k n x below there = absurd cc
slice_get-take (y ∷ xs) k zero x below there = absurd (omega arith)
slice_get-take (y ∷ xs) zero (suc n) x below there = there
slice_get-take (y ∷ xs) (suc k) (suc n) x below there = slice_get-take xs k n x (omega arith) there

-- no first fault stands in front of another
no_earlier : (set : Setting) (h : List Entry) (f g : Fault) → IsFirstFault set h f → IsFirstFault set h g → f.at < g.at → ⊥
no_earlier set h f g first second before =
    let front : take f.at (take g.at h) ≡ take f.at h = take-take f.at g.at h (omega arith) in
    faulty set (take g.at h) f (record {
      entry = first.entry;
      there = slice_get-take h f.at g.at first.entry before first.there;
      before = rw front first.before;
      breaks = rw front first.breaks;
    }) second.before

same_fault :
    (a b : ℕ) (r s : Broken) → a ≡ b → r ≡ s → ◌≡◌ {A = Fault} (record { at = a; rule = r }) (record { at = b; rule = s })
same_fault a b r s place rule = rw (place, rule) refl

same_rule :
    (set : Setting) (h : List Entry) (a b : ℕ) (r s : Broken) (x y : Entry) → a ≡ b → slice_get h a ≡ Some x →
    slice_get h b ≡ Some y → broken set (history set (take a h)) x ≡ Some r → broken set (history set (take b h)) y ≡ Some s →
    r ≡ s
same_rule set h a b r s x y place there there' breaks breaks' =
    let entries : Some x ≡ Some y = sym there ∙ ap (slice_get h) place ∙ there' in
    let one : x ≡ y = cc in
    let rules : Some r ≡ Some s = sym breaks ∙ (rw (place, one) breaks') in
    cc

-- a history has one first fault
pub one_fault : (set : Setting) (h : List Entry) (f g : Fault) → IsFirstFault set h f → IsFirstFault set h g → f ≡ g
one_fault set h f g first second =
    elim (cases_lt f.at g.at) [
      | inl less ↦ absurd (no_earlier set h f g first second less)
      | inr above ↦ elim (cases_lt g.at f.at) [
        | inl less ↦ absurd (no_earlier set h g f second first less)
        | inr below ↦
            let place : f.at ≡ g.at = omega arith in
            same_fault f.at g.at f.rule g.rule place
            (same_rule set h f.at g.at f.rule g.rule first.entry second.entry place first.there second.there first.breaks
            second.breaks)
      ]
    ]

-- the entries that a text says, if it says any
abbrev pub SaysOnly : List ℕ → List Entry → Type 0
SaysOnly text entries = (others : List Entry) → IsJournalText text others → entries ≡ others

pub only_legal :
    (set : Setting) (text : List ℕ) (entries : List Entry) (lines : ℕ) → IsJournalText text entries → SaysOnly text entries →
    IsLawful set entries → lines ≡ length (lines_of text) → (other : Verdict) → IsVerdict set text other → other ≡ Legal lines
only_legal set text entries lines says only lawful count (Legal k) is = ap Legal (is.count ∙ sym count)
only_legal set text entries lines says only lawful count (Faulty fault) is =
    absurd (faulty set entries fault (rw (only is.entries is.says) is.first) lawful)
only_legal set text entries lines says only lawful count (NoJournal number) is = absurd (bad_journal text number entries is says)

pub only_faulty :
    (set : Setting) (text : List ℕ) (entries : List Entry) (fault : Fault) → IsJournalText text entries →
    SaysOnly text entries → IsFirstFault set entries fault → (other : Verdict) → IsVerdict set text other → other ≡ Faulty fault
only_faulty set text entries fault says only first (Legal k) is =
    absurd (faulty set entries fault first (rw (only is.entries is.says) is.lawful))
only_faulty set text entries fault says only first (Faulty other) is =
    ap Faulty (one_fault set entries other fault (rw (only is.entries is.says) is.first) first)
only_faulty set text entries fault says only first (NoJournal number) is = absurd (bad_journal text number entries is says)

pub only_no_journal :
    (set : Setting) (text : List ℕ) (number : ℕ) → IsFirstBadLine text number → (other : Verdict) → IsVerdict set text other →
    other ≡ NoJournal number
only_no_journal set text number bad (Legal k) is = absurd (bad_journal text number is.entries bad is.says)
only_no_journal set text number bad (Faulty fault) is = absurd (bad_journal text number is.entries bad is.says)
only_no_journal set text number bad (NoJournal other) is = ap NoJournal (one_bad_line text other number is bad)
