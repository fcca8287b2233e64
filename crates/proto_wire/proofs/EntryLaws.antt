-- Fields that are written where they have a value.
use Rattle.std.proofs.Common.{◌≡◌, ℕ, ◌+◌, ◌<◌, ◌≤◌, List, [], ◌∷◌, ◌++◌, length, drop, get_or, map, Option, Some, None, refl, ap, sym, ◌∙◌, Bool, true, false, cond, eqb, subst, append_assoc, append-nil}
use Rattle.std.proofs.lemmas.List.{at_drop_more}
use Rattle.proto_wire.specs.Field.{WireValue, WireField}
use Rattle.proto_wire.specs.Entries.{Entry, entry_of, entries_of, with_entry, present, fields_text, entry_text, AllNumbered, IsFitting, AllFitting}
use Rattle.proto_wire.specs.Message.{Placed, wire_fields, fields_from, fields_of}
use Rattle.proto_wire.specs.Spelling.{field_text, IsWritable}
use Rattle.proto_wire.specs.Typed.{last_after, FieldType, may_have, fault_among, fault_of}
use Rattle.proto_wire.specs.declared.writer.OptionalField.{OptionalField}
use Rattle.proto_wire.proofs.SpellingLaws.{field_text_reads}
use Rattle.proto_wire.proofs.UnreadLaws.{fields_from-end}

text_by : (out : List ℕ) (number : ℕ) (value : Option WireValue) (es : List Entry) → (out ++ fields_text (with_entry number value [])) ++ fields_text (present es) ≡ out ++ fields_text (with_entry number value (present es))
text_by out number None es = ap (λ l. l ++ fields_text (present es)) (append-nil out)
text_by out number (Some v) es =
    ap (λ l. (out ++ l) ++ fields_text (present es)) (append-nil (field_text (record { number = number; value = v })))
    ∙ append_assoc out (field_text (record { number = number; value = v })) (fields_text (present es))

-- one more entry was written
pub text_more : (out : List ℕ) (fs : List OptionalField) (i : ℕ) (d : OptionalField) → i < length fs → (out ++ entry_text (entry_of (get_or fs i d))) ++ fields_text (present (entries_of (drop (i + 1) fs))) ≡ out ++ fields_text (present (entries_of (drop i fs)))
text_more out fs i d within =
    let e = entry_of (get_or fs i d) in
    text_by out e.number e.value (entries_of (drop (i + 1) fs))
    ∙ ap (λ es. out ++ fields_text (present es)) (sym (at_drop_more entries_of fs i d within))

pub numbered_more : (fs : List OptionalField) (i : ℕ) (d : OptionalField) → i < length fs → AllNumbered (entries_of (drop i fs)) → ((get_or fs i d).number ≤ 536870911) × AllNumbered (entries_of (drop (i + 1) fs))
numbered_more fs i d within h =
    let P : List Entry → Type 0 = AllNumbered in
    let both = subst P (at_drop_more entries_of fs i d within) h in
    (both.1, both.2)

-- all these fields have a spelling
abbrev AllWritable : List WireField → Type 0
AllWritable [] = Unit {0}
AllWritable (f ∷ fs) = IsWritable f × AllWritable fs

-- all these fields are as they are declared
abbrev AllSuit : (ℕ → FieldType) → List WireField → Type 0
AllSuit declared [] = Unit {0}
AllSuit declared (f ∷ fs) = (may_have (declared f.number) f.value ≡ true) × AllSuit declared fs

-- fields that were written are read, and nothing else
fields_read : (fs : List WireField) (at : ℕ) → AllWritable fs → ((fields_from at (fields_text fs)).fault ≡ None) × (wire_fields (fields_from at (fields_text fs)) ≡ fs)
fields_read [] at h = (ap (λ m. m.fault) (fields_from-end at), ap wire_fields (fields_from-end at))
fields_read (f ∷ fs) at h =
    let e = field_text_reads at f (fields_text fs) h.0 in
    let deeper = fields_read fs (at + length (field_text f)) h.1 in
    (ap (λ m. m.fault) e ∙ deeper.0, ap wire_fields e ∙ ap (λ l. f ∷ l) deeper.1)

no_fault_among : (declared : ℕ → FieldType) (ps : List Placed) (fault : Option ℕ) → AllSuit declared (map (λ p. p.field) ps) → fault_among declared ps fault ≡ fault
no_fault_among declared [] fault h = refl
no_fault_among declared (p ∷ ps) fault h = rw h.0 (no_fault_among declared ps fault h.1)

writable_by : (declared : ℕ → FieldType) (number : ℕ) (value : Option WireValue) (fs : List WireField) → IsFitting declared (record { number = number; value = value }) → AllWritable fs → AllWritable (with_entry number value fs)
writable_by declared number None fs h deeper = deeper
writable_by declared number (Some v) fs h deeper = (record { low = h.low; high = h.high; fits = h.fits }, deeper)

writable_present : (declared : ℕ → FieldType) (es : List Entry) → AllFitting declared es → AllWritable (present es)
writable_present declared [] h = tt
writable_present declared (e ∷ es) h = writable_by declared e.number e.value (present es) h.0 (writable_present declared es h.1)

suits_by : (declared : ℕ → FieldType) (number : ℕ) (value : Option WireValue) (fs : List WireField) → IsFitting declared (record { number = number; value = value }) → AllSuit declared fs → AllSuit declared (with_entry number value fs)
suits_by declared number None fs h deeper = deeper
suits_by declared number (Some v) fs h deeper = (h.suits, deeper)

suits_present : (declared : ℕ → FieldType) (es : List Entry) → AllFitting declared es → AllSuit declared (present es)
suits_present declared [] h = tt
suits_present declared (e ∷ es) h = suits_by declared e.number e.value (present es) h.0 (suits_present declared es h.1)

-- entries that were written are read, without a fault
pub written_fields : (declared : ℕ → FieldType) (es : List Entry) → AllFitting declared es → wire_fields (fields_of (fields_text (present es))) ≡ present es
written_fields declared es h = (fields_read (present es) 0 (writable_present declared es h)).1

pub written_fault : (declared : ℕ → FieldType) (es : List Entry) → AllFitting declared es → fault_of declared (fields_of (fields_text (present es))) ≡ None
written_fault declared es h =
    let m = fields_of (fields_text (present es)) in
    let P : List WireField → Type 0 = AllSuit declared in
    no_fault_among declared m.fields m.fault (subst P (sym (written_fields declared es h)) (suits_present declared es h))
    ∙ (fields_read (present es) 0 (writable_present declared es h)).0

-- what an entry has, or what was before it
abbrev pub value_or : {X : Type 0} → (WireValue → X) → X → Option WireValue → X
value_or read before None = before
value_or read before (Some v) = read v

-- the value of the entry with this number, or what was before
abbrev pub entry_after : {X : Type 0} → (WireValue → X) → X → ℕ → List Entry → X
entry_after read before number [] = before
entry_after read before number (e ∷ es) = entry_after read (cond (eqb e.number number) (value_or read before e.value) before) number es

same_before : {X : Type 0} (b : Bool) (before : X) → cond b before before ≡ before
same_before true before = refl
same_before false before = refl

after_by : {X : Type 0} (read : WireValue → X) (before : X) (number k : ℕ) (value : Option WireValue) (fs : List WireField) → last_after read before number (with_entry k value fs) ≡ last_after read (cond (eqb k number) (value_or read before value) before) number fs
after_by read before number k None fs = ap (λ b. last_after read b number fs) (sym (same_before (eqb k number) before))
after_by read before number k (Some v) fs = refl

-- the last field of a number, among entries
pub last_after-present : {X : Type 0} (read : WireValue → X) (before : X) (number : ℕ) (es : List Entry) → last_after read before number (present es) ≡ entry_after read before number es
last_after-present read before number [] = refl
last_after-present read before number (e ∷ es) =
    after_by read before number e.number e.value (present es)
    ∙ last_after-present read (cond (eqb e.number number) (value_or read before e.value) before) number es
