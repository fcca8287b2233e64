-- What a reading of fields will still give, before and after each step.
use Rattle.std.proofs.Common.{◌≡◌, ◌≢◌, ℕ, zero, suc, ◌+◌, ◌-◌, ◌<◌, ◌≤◌, List, [], ◌∷◌, ◌++◌, length, Option, Some, None, refl, ap, sym, ◌∙◌, arith, Bool, true, false, cond, subst, length-append, ◌⊎◌, inl, inr}
use Rattle.proto_wire.specs.Field.{WireField, IsField}
use Rattle.proto_wire.specs.Front.{FieldFront, field_front}
use Rattle.proto_wire.specs.Message.{Message, no_fields, faulty, with_field, then_more, fields_within, fields_from, fields_of, IsRead, ended, field, fault, HasNoField}
use Rattle.proto_wire.specs.Reading.{Reading, unread}
use Rattle.proto_wire.specs.Gives.{GivesField, GivesFault}
use Rattle.proto_wire.proofs.FrontLaws.{HasField, field_front_spelled, field_front_reads, field_long}
use Rattle.proto_wire.proofs.StepLaws.{field_front_shorter, no_field}

more_same : (k j at : ℕ) (bytes : List ℕ) (o : Option FieldFront) → field_front bytes ≡ o → length bytes ≤ suc k → length bytes ≤ suc j → ((a : ℕ) (rest : List ℕ) → length rest ≤ k → length rest ≤ j → fields_within k a rest ≡ fields_within j a rest) → then_more at bytes (fields_within k) o ≡ then_more at bytes (fields_within j) o
more_same k j at bytes None e p q deeper = refl
more_same k j at bytes (Some r) e p q deeper =
    let shorter = field_front_shorter bytes r e in
    ap (with_field at r.field) (deeper (at + (length bytes - length r.rest)) r.rest (omega (arith, shorter)) (omega (arith, shorter)))

-- more turns than bytes make no difference
turns_same : (k j : ℕ) (at : ℕ) (bytes : List ℕ) → length bytes ≤ k → length bytes ≤ j → fields_within k at bytes ≡ fields_within j at bytes
unfolding fields_within
turns_same k j at [] p q = refl
turns_same zero j at (b ∷ bytes) p q = absurd (omega arith)
turns_same (suc k) zero at (b ∷ bytes) p q = absurd (omega arith)
turns_same (suc k) (suc j) at (b ∷ bytes) p q =
    more_same k j at (b ∷ bytes) (field_front (b ∷ bytes)) refl p q (λ a rest x y. turns_same k j a rest x y)

-- nothing is read of no bytes
pub fields_from-end : (at : ℕ) → fields_from at [] ≡ no_fields
unfolding fields_from fields_within
fields_from-end at = refl

then_same : (k at : ℕ) (bytes : List ℕ) (o : Option FieldFront) → field_front bytes ≡ o → length bytes ≡ suc k → then_more at bytes (fields_within k) o ≡ then_more at bytes fields_from o
unfolding fields_from
then_same k at bytes None e long = refl
then_same k at bytes (Some r) e long =
    ap (with_field at r.field) (turns_same k (length r.rest) _ r.rest (omega (arith, field_front_shorter bytes r e)) (omega arith))

fields_from-more : (at : ℕ) (bytes : List ℕ) → 0 < length bytes → fields_from at bytes ≡ then_more at bytes fields_from (field_front bytes)
unfolding fields_from fields_within
fields_from-more at [] more = absurd (omega arith)
fields_from-more at (b ∷ bytes) more = then_same (length bytes) at (b ∷ bytes) (field_front (b ∷ bytes)) refl refl

-- what is read where a field stands at the front
pub fields_from-field : (at : ℕ) (text rest : List ℕ) (f : WireField) → IsField text f → fields_from at (text ++ rest) ≡ with_field at f (fields_from (at + length text) rest)
fields_from-field at text rest f h =
    let more : 0 < length (text ++ rest) = omega (arith, length-append text rest, field_long text f h) in
    let behind : at + (length (text ++ rest) - length rest) ≡ at + length text = omega (arith, length-append text rest) in
    fields_from-more at (text ++ rest) more
    ∙ (ap (then_more at (text ++ rest) fields_from) (field_front_reads text f rest h)
    ∙ ap (λ a. with_field at f (fields_from a rest)) behind)

-- what is read where no field stands at the front
pub fields_from-fault : (at : ℕ) (bytes : List ℕ) → 0 < length bytes → field_front bytes ≡ None → fields_from at bytes ≡ faulty at
fields_from-fault at bytes more none = fields_from-more at bytes more ∙ ap (then_more at bytes fields_from) none

-- where no field is spelled, none is read
none_read : (bytes : List ℕ) (o : Option FieldFront) → field_front bytes ≡ o → HasNoField bytes → o ≡ None
none_read bytes None e none = refl
none_read bytes (Some r) e none =
    let h : HasField bytes r = field_front_spelled bytes r e in
    absurd (none h.text r.rest r.field h.whole h.spelled)

some_bytes : (bytes : List ℕ) → bytes ≢ [] → 0 < length bytes
some_bytes [] more = absurd (more refl)
some_bytes (b ∷ bytes) more = omega arith

-- no bytes are read in two ways
pub IsRead_same : {at : ℕ} {bytes : List ℕ} {m : Message} → IsRead at bytes m → m ≡ fields_from at bytes
IsRead_same (ended at) = sym (fields_from-end at)
IsRead_same (field at text rest f m h deeper) = ap (with_field at f) (IsRead_same deeper) ∙ sym (fields_from-field at text rest f h)
IsRead_same (fault at bytes more none) = sym (fields_from-fault at bytes (some_bytes bytes more) (none_read bytes (field_front bytes) refl none))

read_field_first : (at : ℕ) (bytes : List ℕ) (r : FieldFront) → HasField bytes r → ((a : ℕ) → IsRead a r.rest (fields_from a r.rest)) → IsRead at bytes (fields_from at bytes)
read_field_first at bytes r h deeper =
    let P : Message → Type 0 = IsRead at (h.text ++ r.rest) in
    let Q : List ℕ → Type 0 = λ l. IsRead at l (fields_from at l) in
    subst Q (sym h.whole) (subst P (sym (fields_from-field at h.text r.rest r.field h.spelled)) (field at h.text r.rest r.field _ h.spelled (deeper (at + length h.text))))

read_none_first : (at : ℕ) (bytes : List ℕ) → 0 < length bytes → field_front bytes ≡ None → IsRead at bytes (fields_from at bytes)
read_none_first at bytes more none =
    let P : Message → Type 0 = IsRead at bytes in
    subst P (sym (fields_from-fault at bytes more none)) (fault at bytes (λ e. absurd (omega (arith, more, ap length e))) (no_field bytes none))

read_by : (k at : ℕ) (bytes : List ℕ) (o : Option FieldFront) → field_front bytes ≡ o → 0 < length bytes → length bytes ≤ suc k → ((a : ℕ) (rest : List ℕ) → length rest ≤ k → IsRead a rest (fields_from a rest)) → IsRead at bytes (fields_from at bytes)
read_by k at bytes None e more long deeper = read_none_first at bytes more e
read_by k at bytes (Some r) e more long deeper =
    read_field_first at bytes r (field_front_spelled bytes r e) (λ a. deeper a r.rest (omega (arith, field_front_shorter bytes r e)))

read_within : (k at : ℕ) (bytes : List ℕ) → length bytes ≤ k → IsRead at bytes (fields_from at bytes)
read_within k at [] long = let P : Message → Type 0 = IsRead at [] in subst P (sym (fields_from-end at)) (ended at)
read_within zero at (b ∷ bytes) long = absurd (omega arith)
read_within (suc k) at (b ∷ bytes) long =
    read_by k at (b ∷ bytes) (field_front (b ∷ bytes)) refl (omega arith) long (λ a rest l. read_within k a rest l)

-- all bytes are read in one way
pub IsRead-fields_from : (at : ℕ) (bytes : List ℕ) → IsRead at bytes (fields_from at bytes)
IsRead-fields_from at bytes = read_within (length bytes) at bytes (omega arith)

-- The steps of a reading, as it is given on.
pub unread_field : (old : Reading) (f : WireField) (new : Reading) → GivesField old f new → unread old ≡ with_field old.at f (unread new)
unfolding unread
unread_field old f new h =
    rw (h.going, h.well) (ap (fields_from old.at) h.left ∙ (fields_from-field old.at h.text new.left f h.spelled ∙ ap (λ a. with_field old.at f (fields_from a new.left)) (sym h.at)))

pub unread_fault : (old : Reading) (told : ℕ) (new : Reading) → GivesFault old told new → unread old ≡ faulty told
unfolding unread
unread_fault old told new h =
    rw h.going (fields_from-fault old.at old.left (some_bytes old.left h.more) (none_read old.left (field_front old.left) refl h.none) ∙ ap faulty (sym h.at))

ends_by : (failed : Bool) (at : ℕ) (left : List ℕ) → left ≡ [] → cond failed no_fields (fields_from at left) ≡ no_fields
ends_by true at left e = refl
ends_by false at left e = ap (fields_from at) e ∙ fields_from-end at

pub unread_end : (old : Reading) → (old.failed ≡ true) ⊎ (old.left ≡ []) → unread old ≡ no_fields
unfolding unread
unread_end old (inl failed) = rw failed refl
unread_end old (inr empty) = ends_by old.failed old.at old.left empty

-- a reading that begins
pub unread_start : (bytes : List ℕ) → unread (record { left = bytes; at = 0; failed = false }) ≡ fields_of bytes
unfolding unread
unread_start bytes = refl
