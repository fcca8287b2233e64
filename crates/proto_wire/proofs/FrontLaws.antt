-- What is read at the front of some bytes is spelled there, and what is spelled there is read.
use Rattle.std.proofs.Common.{◌≡◌, ℕ, zero, suc, ◌+◌, ◌-◌, ◌*◌, ◌<◌, ◌≤◌, ◌^◌, ◌/◌, ◌%◌, List, [], ◌∷◌, ◌++◌, length, take, drop, Some, option_map, option_and_then, refl, ap, sym, ◌∙◌, arith, true, cond, ltb, lt-ltb, le-ltb, subst, inl, inr, ◌⊎◌, length-append, append_assoc, eqb, leb, le-leb, ◌&&◌}
use Rattle.std.proofs.lemmas.Bool.{cases_lt, ltb-true, leb-true, eqb-true}
use Rattle.std.proofs.lemmas.Option.{option_and_then_some, same_Some}
use Rattle.std.proofs.lemmas.List.{length-take-le, take-append-drop}
use Rattle.std.proofs.lemmas.Nat.{div-add-mod', mod-mul-add, div-mul-add}
use Rattle.std.proofs.Math.Seq.{take-append_seam, drop-append_seam}
use Rattle.proto_wire.proofs.OptionLemmas.{option_map_some, tested_some, either_some, both_passed}
use Rattle.proto_wire.specs.Varint.{Groups, last, more, IsVarint, Number, groups_front, varint_front, within_64, below}
use Rattle.proto_wire.specs.Field.{WireValue, Varint, Fixed64, Bytes, Fixed32, wire_type, WireField, IsValue, IsField, tag_of}
use Rattle.proto_wire.specs.Front.{ValueFront, FieldFront, varint_value, sized_bytes, fixed64_front, fixed32_front, value_front, tagged_value, field_front}

-- a number that stands at the front of some bytes, in at most so many groups
pub record HasGroups (k : ℕ) (bytes : List ℕ) (r : Number) : Type 0 where
  pub text : List ℕ
  pub groups : Groups text r.value
  pub short : length text ≤ k
  pub whole : bytes ≡ text ++ r.rest

more_groups : (k b : ℕ) (rest : List ℕ) (x r : Number) → 128 ≤ b → HasGroups k rest x → below (b - 128) x ≡ r → HasGroups (suc k) (b ∷ rest) r
more_groups k b rest x r big h same =
    let P : Number → Type 0 = HasGroups (suc k) (b ∷ rest) in
    subst P same (record { text = b ∷ h.text; groups = more b x.value _ h.text big refl h.groups; short = omega (arith, h.short); whole = ap (λ l. b ∷ l) h.whole })

front_by : (k b : ℕ) (rest : List ℕ) (r : Number) → (b < 128) ⊎ (128 ≤ b) → cond (ltb b 128) (Some (record { value = b; rest = rest })) (option_map (below (b - 128)) (groups_front k rest)) ≡ Some r → ((x : Number) → groups_front k rest ≡ Some x → HasGroups k rest x) → HasGroups (suc k) (b ∷ rest) r
front_by k b rest r (inl small) e deeper =
    let q : Some (record { value = b; rest = rest }) ≡ Some r = rw (lt-ltb b 128 small) at e in
    let P : Number → Type 0 = HasGroups (suc k) (b ∷ rest) in
    subst P (same_Some _ r q) (record { text = b ∷ []; groups = last b small; short = omega arith; whole = refl })
front_by k b rest r (inr big) e deeper =
    let q : option_map (below (b - 128)) (groups_front k rest) ≡ Some r = rw (le-ltb b 128 big) at e in
    option_map_some (below (b - 128)) (groups_front k rest) r q (λ x is same. more_groups k b rest x r big (deeper x is) same)

pub groups_front_spelled : (k : ℕ) (bytes : List ℕ) (r : Number) → groups_front k bytes ≡ Some r → HasGroups k bytes r
unfolding groups_front
groups_front_spelled zero bytes r e = absurd (let f : ⊥ = cc in f)
groups_front_spelled (suc k) [] r e = absurd (let f : ⊥ = cc in f)
groups_front_spelled (suc k) (b ∷ rest) r e = front_by k b rest r (cases_lt b 128) e (groups_front_spelled k rest)

pub groups_front_reads : {text : List ℕ} {n : ℕ} → Groups text n → (k : ℕ) (rest : List ℕ) → length text ≤ k → groups_front k (text ++ rest) ≡ Some (record { value = n; rest = rest })
unfolding groups_front
groups_front_reads (last b small) zero rest short = absurd (omega arith)
groups_front_reads (last b small) (suc k) rest short = rw (lt-ltb b 128 small) refl
groups_front_reads (more b n m text big is g) zero rest short = absurd (omega arith)
groups_front_reads (more b n m text big is g) (suc k) rest short =
    let shorter : length text ≤ k = omega arith in
    rw (le-ltb b 128 big, groups_front_reads g k rest shorter) (ap (λ v. Some (record { value = v; rest = rest })) (sym is))

-- a varint that stands at the front of some bytes
pub record HasVarint (bytes : List ℕ) (r : Number) : Type 0 where
  pub text : List ℕ
  pub spelled : IsVarint text r.value
  pub whole : bytes ≡ text ++ r.rest

within_spelled : (bytes : List ℕ) (x r : Number) → HasGroups 10 bytes x → within_64 x ≡ Some r → HasVarint bytes r
within_spelled bytes x r h e =
    let P : Number → Type 0 = HasVarint bytes in
    tested_some (ltb x.value (2 ^ 64)) (Some x) r e (λ fits same. subst P (same_Some x r same) (record {
      text = h.text;
      spelled = record { groups = h.groups; short = h.short; fits = ltb-true x.value (2 ^ 64) fits };
      whole = h.whole;
    }))

pub varint_front_spelled : (bytes : List ℕ) (r : Number) → varint_front bytes ≡ Some r → HasVarint bytes r
unfolding varint_front
varint_front_spelled bytes r e =
    option_and_then_some within_64 (groups_front 10 bytes) r e (λ x is fits. within_spelled bytes x r (groups_front_spelled 10 bytes x is) fits)

pub varint_front_reads : (text : List ℕ) (n : ℕ) (rest : List ℕ) → IsVarint text n → varint_front (text ++ rest) ≡ Some (record { value = n; rest = rest })
unfolding varint_front
varint_front_reads text n rest h = rw (groups_front_reads h.groups 10 rest h.short, lt-ltb n (2 ^ 64) h.fits) refl

-- a value that stands at the front of some bytes
pub record HasValue (bytes : List ℕ) (r : ValueFront) : Type 0 where
  pub text : List ℕ
  pub spelled : IsValue r.value text
  pub whole : bytes ≡ text ++ r.rest

-- a value of this wire type
pub record HasValueOf (wire : ℕ) (bytes : List ℕ) (r : ValueFront) : Type 0 where
  pub type : wire_type r.value ≡ wire
  pub value : HasValue bytes r

-- so many bytes at the front, and the bytes behind them
parts_of : (n : ℕ) (bytes : List ℕ) → bytes ≡ take n bytes ++ drop n bytes
parts_of n bytes = sym (take-append-drop n bytes)

fixed64_spelled : (bytes : List ℕ) (r : ValueFront) → fixed64_front bytes ≡ Some r → HasValueOf 1 bytes r
fixed64_spelled bytes r e =
    let P : ValueFront → Type 0 = HasValueOf 1 bytes in
    tested_some (leb 8 (length bytes)) _ r e (λ enough same. subst P (same_Some _ r same) (record {
      type = refl;
      value = record { text = take 8 bytes; spelled = (length-take-le 8 bytes (leb-true 8 (length bytes) enough), refl); whole = parts_of 8 bytes };
    }))

fixed32_spelled : (bytes : List ℕ) (r : ValueFront) → fixed32_front bytes ≡ Some r → HasValueOf 5 bytes r
fixed32_spelled bytes r e =
    let P : ValueFront → Type 0 = HasValueOf 5 bytes in
    tested_some (leb 4 (length bytes)) _ r e (λ enough same. subst P (same_Some _ r same) (record {
      type = refl;
      value = record { text = take 4 bytes; spelled = (length-take-le 4 bytes (leb-true 4 (length bytes) enough), refl); whole = parts_of 4 bytes };
    }))

varint_spelled : (bytes : List ℕ) (r : ValueFront) → option_map varint_value (varint_front bytes) ≡ Some r → HasValueOf 0 bytes r
varint_spelled bytes r e =
    let P : ValueFront → Type 0 = HasValueOf 0 bytes in
    option_map_some varint_value (varint_front bytes) r e (λ x is same.
    let h : HasVarint bytes x = varint_front_spelled bytes x is in
    subst P same (record { type = refl; value = record { text = h.text; spelled = h.spelled; whole = h.whole } }))

sized_spelled : (bytes : List ℕ) (x : Number) (r : ValueFront) → HasVarint bytes x → sized_bytes x ≡ Some r → HasValueOf 2 bytes r
sized_spelled bytes x r h e =
    let P : ValueFront → Type 0 = HasValueOf 2 bytes in
    tested_some (leb x.value (length x.rest)) _ r e (λ enough same.
    let long : length (take x.value x.rest) ≡ x.value = length-take-le x.value x.rest (leb-true x.value (length x.rest) enough) in
    let size : IsVarint h.text (length (take x.value x.rest)) = subst (λ n. IsVarint h.text n) (sym long) h.spelled in
    let whole : bytes ≡ (h.text ++ take x.value x.rest) ++ drop x.value x.rest = h.whole ∙ (ap (λ l. h.text ++ l) (parts_of x.value x.rest) ∙ sym (append_assoc h.text (take x.value x.rest) (drop x.value x.rest))) in
    subst P (same_Some _ r same) (record {
      type = refl;
      value = record { text = h.text ++ take x.value x.rest; spelled = (h.text, size, refl); whole = whole };
    }))

bytes_spelled : (bytes : List ℕ) (r : ValueFront) → option_and_then sized_bytes (varint_front bytes) ≡ Some r → HasValueOf 2 bytes r
bytes_spelled bytes r e =
    option_and_then_some sized_bytes (varint_front bytes) r e (λ x is fits. sized_spelled bytes x r (varint_front_spelled bytes x is) fits)

of_type : (k w : ℕ) (bytes : List ℕ) (r : ValueFront) → w ≡ k → HasValueOf k bytes r → HasValueOf w bytes r
of_type k w bytes r e h = record { type = h.type ∙ sym e; value = h.value }

pub value_front_spelled : (w : ℕ) (bytes : List ℕ) (r : ValueFront) → value_front w bytes ≡ Some r → HasValueOf w bytes r
unfolding value_front
value_front_spelled w bytes r e =
    either_some (eqb w 0) _ _ r e (λ is e0. of_type 0 w bytes r (eqb-true w 0 is) (varint_spelled bytes r e0)) (λ no e1.
    either_some (eqb w 1) _ _ r e1 (λ is e2. of_type 1 w bytes r (eqb-true w 1 is) (fixed64_spelled bytes r e2)) (λ no2 e3.
    either_some (eqb w 2) _ _ r e3 (λ is e4. of_type 2 w bytes r (eqb-true w 2 is) (bytes_spelled bytes r e4)) (λ no3 e5.
    tested_some (eqb w 5) _ r e5 (λ is e6. of_type 5 w bytes r (eqb-true w 5 is) (fixed32_spelled bytes r e6)))))

-- the parts of a list whose front has this length
take_front : (n : ℕ) (text rest : List ℕ) → length text ≡ n → take n (text ++ rest) ≡ text
take_front n text rest e = ap (λ k. take k (text ++ rest)) (sym e) ∙ take-append_seam text rest

drop_front : (n : ℕ) (text rest : List ℕ) → length text ≡ n → drop n (text ++ rest) ≡ rest
drop_front n text rest e = ap (λ k. drop k (text ++ rest)) (sym e) ∙ drop-append_seam text rest

enough_in : (n : ℕ) (text rest : List ℕ) → length text ≡ n → leb n (length (text ++ rest)) ≡ true
enough_in n text rest e = le-leb n (length (text ++ rest)) (omega (arith, length-append text rest))

pub value_front_reads : (v : WireValue) (text rest : List ℕ) → IsValue v text → value_front (wire_type v) (text ++ rest) ≡ Some (record { value = v; rest = rest })
unfolding value_front
value_front_reads (Varint n) text rest h = rw (varint_front_reads text n rest h) refl
value_front_reads (Fixed64 n) text rest h = rw (enough_in 8 text rest h.0, take_front 8 text rest h.0, drop_front 8 text rest h.0) (ap (λ m. Some (record { value = Fixed64 m; rest = rest })) (sym h.1))
value_front_reads (Bytes content) text rest h =
    let e : text ++ rest ≡ h.0 ++ (content ++ rest) = ap (λ t. t ++ rest) h.2 ∙ append_assoc h.0 content rest in
    rw (e, varint_front_reads h.0 (length content) (content ++ rest) h.1, enough_in (length content) content rest refl, take_front (length content) content rest refl, drop_front (length content) content rest refl) refl
value_front_reads (Fixed32 n) text rest h = rw (enough_in 4 text rest h.0, take_front 4 text rest h.0, drop_front 4 text rest h.0) (ap (λ m. Some (record { value = Fixed32 m; rest = rest })) (sym h.1))

-- a field that stands at the front of some bytes
pub record HasField (bytes : List ℕ) (r : FieldFront) : Type 0 where
  pub text : List ℕ
  pub spelled : IsField text r.field
  pub whole : bytes ≡ text ++ r.rest

tagged_field : (bytes : List ℕ) (tag : Number) (v : ValueFront) → HasVarint bytes tag → 8 ≤ tag.value → tag.value < 2 ^ 32 → HasValueOf (tag.value % 8) tag.rest v → HasField bytes (record { field = record { number = tag.value / 8; value = v.value }; rest = v.rest })
tagged_field bytes tag v h low high hv =
    let e : tag.value ≡ tag.value / 8 * 8 + wire_type v.value = sym (div-add-mod' tag.value 8) ∙ ap (λ w. tag.value / 8 * 8 + w) (sym hv.type) in
    record {
      text = h.text ++ hv.value.text;
      spelled = record {
        tag = h.text;
        value = hv.value.text;
        whole = refl;
        tagged = subst (λ n. IsVarint h.text n) e h.spelled;
        low = omega (arith, low);
        high = subst (λ n. n < 2 ^ 32) e high;
        valued = hv.value.spelled;
      };
      whole = h.whole ∙ (ap (λ l. h.text ++ l) hv.value.whole ∙ sym (append_assoc h.text hv.value.text v.rest));
    }

tagged_spelled : (bytes : List ℕ) (tag : Number) (r : FieldFront) → HasVarint bytes tag → tagged_value tag ≡ Some r → HasField bytes r
tagged_spelled bytes tag r h e =
    let P : FieldFront → Type 0 = HasField bytes in
    tested_some (leb 8 tag.value && ltb tag.value (2 ^ 32)) _ r e (λ fits e2.
    let both = both_passed (leb 8 tag.value) (ltb tag.value (2 ^ 32)) fits in
    option_map_some _ (value_front (tag.value % 8) tag.rest) r e2 (λ v is same.
    subst P same (tagged_field bytes tag v h (leb-true 8 tag.value both.0) (ltb-true tag.value (2 ^ 32) both.1) (value_front_spelled (tag.value % 8) tag.rest v is))))

pub field_front_spelled : (bytes : List ℕ) (r : FieldFront) → field_front bytes ≡ Some r → HasField bytes r
unfolding field_front
field_front_spelled bytes r e =
    option_and_then_some tagged_value (varint_front bytes) r e (λ tag is e2. tagged_spelled bytes tag r (varint_front_spelled bytes tag is) e2)

wire_below : (v : WireValue) → wire_type v < 8
wire_below (Varint n) = omega arith
wire_below (Fixed64 n) = omega arith
wire_below (Bytes content) = omega arith
wire_below (Fixed32 n) = omega arith

tagged_reads : (f : WireField) (value rest : List ℕ) → 1 ≤ f.number → tag_of f < 2 ^ 32 → IsValue f.value value → tagged_value (record { value = tag_of f; rest = value ++ rest }) ≡ Some (record { field = f; rest = rest })
tagged_reads f value rest low high valued =
    let small : wire_type f.value < 8 = wire_below f.value in
    let front : 8 ≤ tag_of f = omega (arith, low) in
    rw (le-leb 8 (tag_of f) front, lt-ltb (tag_of f) (2 ^ 32) high, mod-mul-add f.number 8 (wire_type f.value) small, div-mul-add f.number 8 (wire_type f.value) small, value_front_reads f.value value rest valued) refl

pub field_front_reads : (text : List ℕ) (f : WireField) (rest : List ℕ) → IsField text f → field_front (text ++ rest) ≡ Some (record { field = f; rest = rest })
unfolding field_front
field_front_reads text f rest h =
    let e : text ++ rest ≡ h.tag ++ (h.value ++ rest) = ap (λ t. t ++ rest) h.whole ∙ append_assoc h.tag h.value rest in
    rw (e, varint_front_reads h.tag (tag_of f) (h.value ++ rest) h.tagged) (tagged_reads f h.value rest h.low h.high h.valued)

groups_long : {text : List ℕ} {n : ℕ} → Groups text n → 1 ≤ length text
groups_long (last b small) = omega arith
groups_long (more b n m text big is g) = omega arith

-- a field takes some bytes
pub field_long : (text : List ℕ) (f : WireField) → IsField text f → 1 ≤ length text
field_long text f h = rw h.whole (omega (arith, length-append h.tag h.value, groups_long h.tagged.groups))
