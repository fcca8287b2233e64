-- The shortest spelling of numbers and fields.
use Rattle.std.proofs.Common.{◌≡◌, ℕ, zero, suc, ◌+◌, ◌<◌, ◌≤◌, ◌^◌, ◌/◌, ◌%◌, List, [], ◌∷◌, ◌++◌, length, get_or, refl, ap, sym, arith, lt-ltb, le-ltb, subst, inl, inr, ◌⊎◌}
use Rattle.std.proofs.Math.Nat.{pow-suc}
use Rattle.std.proofs.lemmas.Bool.{cases_lt}
use Rattle.std.proofs.lemmas.Nat.{div_below}
use Rattle.byteorder.specs.Numbers.{little_number-reads_back, length-bytes_low_first}
use Rattle.proto_wire.specs.Varint.{Groups, last, more, IsVarint, groups_of, varint_text}
use Rattle.proto_wire.specs.Field.{WireValue, Varint, Fixed64, Bytes, Fixed32, wire_type, WireField, IsValue, IsField, tag_of}
use Rattle.proto_wire.specs.Message.{with_field, fields_from}
use Rattle.proto_wire.proofs.UnreadLaws.{fields_from-field}
use Rattle.proto_wire.specs.Spelling.{value_text, field_text, FitsWire, IsWritable}

-- a number of so many groups, without its lowest
quotient_below : (k n : ℕ) → n < 128 ^ suc k → n / 128 < 128 ^ k
quotient_below k n h = div_below n 128 (128 ^ k) (omega arith) (subst (λ m. n < m) (pow-suc 128 k) h)

-- one more group to spare makes no difference
same_by : (k n : ℕ) → (n < 128) ⊎ (128 ≤ n) → (128 ≤ n → groups_of k (n / 128) ≡ groups_of (suc k) (n / 128)) → groups_of (suc k) n ≡ groups_of (suc (suc k)) n
unfolding groups_of
same_by k n (inl small) deeper = rw (lt-ltb n 128 small) refl
same_by k n (inr big) deeper = rw (le-ltb n 128 big) (ap (λ l. (128 + n % 128) ∷ l) (deeper big))

groups_of_same : (k n : ℕ) → n < 128 ^ suc k → groups_of (suc k) n ≡ groups_of (suc (suc k)) n
groups_of_same zero n h = same_by zero n (cases_lt n 128) (λ big. absurd (omega (arith, h)))
groups_of_same (suc k) n h = same_by (suc k) n (cases_lt n 128) (λ big. groups_of_same k (n / 128) (quotient_below (suc k) n h))

nine_groups : (n : ℕ) → n < 2 ^ 64 → n / 128 < 128 ^ 9
nine_groups n h = quotient_below 9 n (omega (arith, h))

pub varint_text-more : (n : ℕ) → 128 ≤ n → n < 2 ^ 64 → varint_text n ≡ (128 + n % 128) ∷ varint_text (n / 128)
unfolding varint_text groups_of
varint_text-more n big fits = rw (le-ltb n 128 big) (ap (λ l. (128 + n % 128) ∷ l) (groups_of_same 8 (n / 128) (nine_groups n fits)))

pub varint_text-last : (n : ℕ) → n < 128 → varint_text n ≡ n ∷ []
unfolding varint_text groups_of
varint_text-last n h = rw (lt-ltb n 128 h) refl

spelled_by : (k n : ℕ) → (n < 128) ⊎ (128 ≤ n) → (128 ≤ n → Groups (groups_of k (n / 128)) (n / 128)) → Groups (groups_of (suc k) n) n
unfolding groups_of
spelled_by k n (inl small) deeper = rw (lt-ltb n 128 small) (last n small)
spelled_by k n (inr big) deeper = rw (le-ltb n 128 big) (more (128 + n % 128) (n / 128) n _ (omega arith) (omega arith) (deeper big))

groups_spelled : (k n : ℕ) → n < 128 ^ suc k → Groups (groups_of (suc k) n) n
groups_spelled zero n h = spelled_by zero n (cases_lt n 128) (λ big. absurd (omega (arith, h)))
groups_spelled (suc k) n h = spelled_by (suc k) n (cases_lt n 128) (λ big. groups_spelled k (n / 128) (quotient_below (suc k) n h))

short_by : (k n : ℕ) → (n < 128) ⊎ (128 ≤ n) → length (groups_of k (n / 128)) ≤ k → length (groups_of (suc k) n) ≤ suc k
unfolding groups_of
short_by k n (inl small) deeper = rw (lt-ltb n 128 small) (omega arith)
short_by k n (inr big) deeper = rw (le-ltb n 128 big) (omega (arith, deeper))

groups_short : (k n : ℕ) → length (groups_of k n) ≤ k
unfolding groups_of
groups_short zero n = omega arith
groups_short (suc k) n = short_by k n (cases_lt n 128) (groups_short k (n / 128))

pub varint_text_short : (n : ℕ) → length (varint_text n) ≤ 10
unfolding varint_text
varint_text_short n = groups_short 10 n

-- the shortest varint of a number is a varint of it
pub varint_text_spelled : (n : ℕ) → n < 2 ^ 64 → IsVarint (varint_text n) n
unfolding varint_text
varint_text_spelled n fits = record { groups = groups_spelled 9 n (omega (arith, fits)); short = groups_short 10 n; fits = fits }

nothing_shorter : (n : ℕ) (text : List ℕ) → length (groups_of 0 n) ≤ length text
unfolding groups_of
nothing_shorter n text = omega arith

longer_by : (k n : ℕ) (text : List ℕ) → (n < 128) ⊎ (128 ≤ n) → 1 ≤ length text → (128 ≤ n → length (groups_of k (n / 128)) + 1 ≤ length text) → length (groups_of (suc k) n) ≤ length text
unfolding groups_of
longer_by k n text (inl small) long deeper = rw (lt-ltb n 128 small) (omega (arith, long))
longer_by k n text (inr big) long deeper = rw (le-ltb n 128 big) (omega (arith, deeper big))

pub groups_shortest : {text : List ℕ} {n : ℕ} → Groups text n → ((i : ℕ) → get_or text i 0 < 256) → (k : ℕ) → length (groups_of k n) ≤ length text
groups_shortest g bytes zero = nothing_shorter _ _
groups_shortest (last b small) bytes (suc k) = longer_by k b (b ∷ []) (cases_lt b 128) (omega arith) (λ big. absurd (omega arith))
groups_shortest (more b n m text big is g) bytes (suc k) =
    let byte : b < 256 = bytes 0 in
    let high : m / 128 ≡ n = omega (arith, is) in
    let deeper : length (groups_of k n) ≤ length text = groups_shortest g (λ i. bytes (suc i)) k in
    longer_by k m (b ∷ text) (cases_lt m 128) (omega arith) (λ large. rw high (omega (arith, deeper)))

-- no other varint of a number is shorter than its shortest one
pub varint_text_shortest : (text : List ℕ) (n : ℕ) → IsVarint text n → ((i : ℕ) → get_or text i 0 < 256) → length (varint_text n) ≤ length text
unfolding varint_text
varint_text_shortest text n h bytes = groups_shortest h.groups bytes 10

pub value_spelled : (v : WireValue) → FitsWire v → IsValue v (value_text v)
value_spelled (Varint n) fits = varint_text_spelled n fits
value_spelled (Fixed64 n) fits = (length-bytes_low_first 0 8 n, sym (little_number-reads_back 8 n [] fits))
value_spelled (Bytes content) fits = (varint_text (length content), varint_text_spelled (length content) fits, refl)
value_spelled (Fixed32 n) fits = (length-bytes_low_first 0 4 n, sym (little_number-reads_back 4 n [] fits))

wire_small : (v : WireValue) → wire_type v ≤ 5
wire_small (Varint n) = omega arith
wire_small (Fixed64 n) = omega arith
wire_small (Bytes content) = omega arith
wire_small (Fixed32 n) = omega arith

-- what the writer writes spells the field
pub field_text_spelled : (f : WireField) → IsWritable f → IsField (field_text f) f
unfolding field_text
field_text_spelled f h =
    let small : wire_type f.value ≤ 5 = wire_small f.value in
    let high : tag_of f < 2 ^ 32 = omega (arith, h.high, small) in
    record {
      tag = varint_text (tag_of f);
      value = value_text f.value;
      whole = refl;
      tagged = varint_text_spelled (tag_of f) (omega (arith, high));
      low = h.low;
      high = high;
      valued = value_spelled f.value h.fits;
    }

-- what was written is read as the same field, whatever follows
pub field_text_reads : (at : ℕ) (f : WireField) (rest : List ℕ) → IsWritable f → fields_from at (field_text f ++ rest) ≡ with_field at f (fields_from (at + length (field_text f)) rest)
field_text_reads at f rest h = fields_from-field at (field_text f) rest f (field_text_spelled f h)
