-- How lines are read one by one.
use Rattle.std.proofs.Common.{◌≡◌, ℕ, suc, ◌+◌, ◌-◌, List, [], ◌∷◌, ◌++◌, Option, Some, None, ap, sym, ◌∙◌, arith, subst, append_assoc}
use Rattle.std.specs.Prelude.{codes, IfNone, IsSomeAnd}
use Rattle.hex.specs.Hex.{IsBytes, encode_lower}
use Rattle.std.proofs.lemmas.List.{append-nil}
use Rattle.token_text.specs.Book.{Entry}
use Rattle.token_text.specs.lines.Lines.{Adds, ArePrinted, no_lines, one_message, HasBadLine, bad_format, behind_format, HasNoMessageAt, stray_line, behind_message, IsAnswer, IsMessageLine, IsPrinted, one_format, MayNotAdd, format_line}

-- the messages of which some were printed, and these lines are left
pub record PrintsOn (book : List Entry) (lines rest : List (List ℕ)) (printed : List ℕ) (count : ℕ) : Type 0 where
  pub forth : (more : List ℕ) → ArePrinted book rest more → ArePrinted book lines (printed ++ more)
  pub wrong : (k : ℕ) → HasNoMessageAt rest k → HasNoMessageAt lines (count + k)

pub prints_start : (book : List Entry) (lines : List (List ℕ)) (count : ℕ) → count ≡ 0 → PrintsOn book lines lines [] count
prints_start book lines count none = record {
  forth = λ more h. h;
  wrong = λ k h. let e : k ≡ count + k = omega (arith, none) in subst (HasNoMessageAt lines) e h;
}

rejoined : (printed answer more : List ℕ) → printed ++ (answer ++ 10 ∷ more) ≡ (printed ++ (answer ++ 10 ∷ [])) ++ more
rejoined printed answer more =
    ap (λ l. printed ++ l) (sym (append_assoc answer (10 ∷ []) more)) ∙ sym (append_assoc printed (answer ++ 10 ∷ []) more)

-- one more message was printed
pub prints_more : (book : List Entry) (lines : List (List ℕ)) (line : List ℕ) (rest : List (List ℕ)) (printed message answer : List ℕ) (count next : ℕ) →
    PrintsOn book lines (line ∷ rest) printed count → IsMessageLine line message → IsAnswer book message answer → next ≡ count + 1 →
    PrintsOn book lines rest (printed ++ (answer ++ 10 ∷ [])) next
prints_more book lines line rest printed message answer count next prints spelled told step = record {
  forth = λ more h. subst (ArePrinted book lines) (rejoined printed answer more) (prints.forth (answer ++ 10 ∷ more) (one_message book line message answer rest more spelled told h));
  wrong = λ k h.
      let e : count + suc k ≡ next + k = omega (arith, step) in
      subst (HasNoMessageAt lines) e (prints.wrong (suc k) (behind_message line message rest k spelled h));
}

-- no line is left
pub prints_done : (book : List Entry) (lines rest : List (List ℕ)) (printed : List ℕ) (count : ℕ) → PrintsOn book lines rest printed count → rest ≡ [] → ArePrinted book lines printed
prints_done book lines rest printed count prints none =
    let P : List (List ℕ) → Type 0 = λ l. ArePrinted book l [] in
    subst (ArePrinted book lines) (append-nil printed) (prints.forth [] (subst P (sym none) (no_lines book)))

-- a line that is no message
pub prints_stray : (book : List Entry) (lines : List (List ℕ)) (line : List ℕ) (rest : List (List ℕ)) (printed : List ℕ) (count : ℕ) →
    PrintsOn book lines (line ∷ rest) printed count → ((message : List ℕ) → IsMessageLine line message → ⊥) → HasNoMessageAt lines count
prints_stray book lines line rest printed count prints none =
    let e : count + 0 ≡ count = omega arith in
    subst (HasNoMessageAt lines) e (prints.wrong 0 (stray_line line rest none))

-- the formats of which some came into the book, and these lines are left
pub record ReadsOn (first : List Entry) (lines : List (List ℕ)) (book : List Entry) (rest : List (List ℕ)) (count : ℕ) : Type 0 where
  pub forth : (printed : List ℕ) → IsPrinted book rest printed → IsPrinted first lines printed
  pub wrong : (k : ℕ) → HasBadLine book rest k → HasBadLine first lines (count + k)

pub reads_start : (book : List Entry) (lines : List (List ℕ)) (count : ℕ) → count ≡ 0 → ReadsOn book lines book lines count
reads_start book lines count none = record {
  forth = λ printed h. h;
  wrong = λ k h. let e : k ≡ count + k = omega (arith, none) in subst (HasBadLine book lines) e h;
}

-- one more format came into the book
pub reads_more : (first : List Entry) (lines : List (List ℕ)) (book after : List Entry) (line format : List ℕ) (rest : List (List ℕ)) (count next : ℕ) →
    ReadsOn first lines book (line ∷ rest) count → line ≡ format_line format → Adds book format after → next ≡ count + 1 →
    ReadsOn first lines after rest next
reads_more first lines book after line format rest count next reads is adds step = record {
  forth = λ printed h.
      let P : List ℕ → Type 0 = λ l. IsPrinted book (l ∷ rest) printed in
      reads.forth printed (subst P (sym is) (one_format book after format rest printed adds h));
  wrong = λ k h.
      let P : List ℕ → Type 0 = λ l. HasBadLine book (l ∷ rest) (suc k) in
      let e : count + suc k ≡ next + k = omega (arith, step) in
      subst (HasBadLine first lines) e (reads.wrong (suc k) (subst P (sym is) (behind_format book after format rest k adds h)));
}

-- a format that may not be added
pub reads_refused : (first : List Entry) (lines : List (List ℕ)) (book : List Entry) (line format : List ℕ) (rest : List (List ℕ)) (count : ℕ) →
    ReadsOn first lines book (line ∷ rest) count → line ≡ format_line format → MayNotAdd book format → HasBadLine first lines count
reads_refused first lines book line format rest count reads is refused =
    let P : List ℕ → Type 0 = λ l. HasBadLine book (l ∷ rest) 0 in
    let e : count + 0 ≡ count = omega arith in
    subst (HasBadLine first lines) e (reads.wrong 0 (subst P (sym is) (bad_format book format rest refused)))

-- digits that are no bytes are no message
pub message_none : {T : Type 0} (items : T → List ℕ) (line digits : List ℕ) (found : Option T) → line ≡ codes "text " ++ digits →
    ((bytes : List ℕ) → IsBytes bytes → digits ≡ encode_lower bytes → IsSomeAnd found (λ read. items read ≡ bytes)) →
    IfNone found ((message : List ℕ) → IsMessageLine line message → ⊥)
message_none items line digits None is only = λ message h.
    let whole : codes "text " ++ digits ≡ codes "text " ++ encode_lower message = sym is ∙ h.spelled in
    only message h.bytes cc
message_none items line digits (Some x) is only = tt
