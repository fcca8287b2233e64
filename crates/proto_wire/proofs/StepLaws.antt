-- One step of a reading of fields.
use Rattle.std.proofs.Common.{◌≡◌, ℕ, ◌+◌, ◌-◌, ◌<◌, ◌≤◌, List, [], ◌∷◌, ◌++◌, length, drop, Some, None, refl, ap, sym, ◌∙◌, arith, Bool, true, false, eqb, length-append, length-drop}
use Rattle.std.proofs.Math.Seq.{drop-append_seam}
use Rattle.std.proofs.lemmas.Bool.{false≢true}
use Rattle.std.proofs.lemmas.List.{drop-drop}
use Rattle.proto_wire.specs.Front.{FieldFront, field_front}
use Rattle.proto_wire.specs.Message.{HasNoField}
use Rattle.proto_wire.specs.Gives.{GivesField, GivesFault}
use Rattle.proto_wire.proofs.FrontLaws.{HasField, field_front_spelled, field_front_reads, field_long}

-- where no field is read, none is spelled
pub no_field : (bytes : List ℕ) → field_front bytes ≡ None → HasNoField bytes
no_field bytes e = λ text rest f whole spelled.
    let read : field_front bytes ≡ Some (record { field = f; rest = rest }) = ap field_front whole ∙ field_front_reads text f rest spelled in
    let f : ⊥ = cc in f

-- the offset behind a field that was read
offset_behind : (bytes text rest : List ℕ) (at : ℕ) → at ≤ length bytes → drop at bytes ≡ text ++ rest → length bytes - length rest ≡ at + length text
offset_behind bytes text rest at within whole =
    omega (arith, ap length whole, length-drop at bytes, length-append text rest)

rest_behind : (bytes text rest : List ℕ) (at : ℕ) → drop at bytes ≡ text ++ rest → drop (at + length text) bytes ≡ rest
rest_behind bytes text rest at whole =
    sym (drop-drop (length text) at bytes) ∙ (ap (drop (length text)) whole ∙ drop-append_seam text rest)

pub gives_field : (bytes : List ℕ) (at : ℕ) (failed : Bool) (r : FieldFront) → at ≤ length bytes → failed ≡ false → field_front (drop at bytes) ≡ Some r → GivesField (record { left = drop at bytes; at = at; failed = failed }) r.field (record { left = drop (length bytes - length r.rest) bytes; at = length bytes - length r.rest; failed = failed })
gives_field bytes at failed r within going e =
    let h : HasField (drop at bytes) r = field_front_spelled (drop at bytes) r e in
    let behind = offset_behind bytes h.text r.rest at within h.whole in
    let left : drop (length bytes - length r.rest) bytes ≡ r.rest = ap (λ n. drop n bytes) behind ∙ rest_behind bytes h.text r.rest at h.whole in
    record {
      text = h.text;
      spelled = h.spelled;
      left = h.whole ∙ ap (λ l. h.text ++ l) (sym left);
      at = behind;
      going = going;
      well = going;
    }

-- a field that was read leaves fewer bytes
pub field_front_shorter : (bytes : List ℕ) (r : FieldFront) → field_front bytes ≡ Some r → length r.rest < length bytes
field_front_shorter bytes r e =
    let h : HasField bytes r = field_front_spelled bytes r e in
    rw h.whole (omega (arith, length-append h.text r.rest, field_long h.text r.field h.spelled))

pub gives_fault : (bytes : List ℕ) (at : ℕ) (failed : Bool) → failed ≡ false → 0 < length (drop at bytes) → field_front (drop at bytes) ≡ None → GivesFault (record { left = drop at bytes; at = at; failed = failed }) at (record { left = drop at bytes; at = at; failed = true })
gives_fault bytes at failed going more e = record {
  at = refl;
  more = λ none. absurd (omega (arith, more, ap length none));
  none = no_field (drop at bytes) e;
  going = going;
  ended = refl;
}

-- a list that isn't empty by a test
pub some_left : (xs ys : List ℕ) → xs ≡ ys → false ≡ eqb (length xs) 0 → 0 < length ys
some_left xs [] e test = absurd (false≢true (test ∙ ap (λ l. eqb (length l) 0) e))
some_left xs (y ∷ ys) e test = omega arith
