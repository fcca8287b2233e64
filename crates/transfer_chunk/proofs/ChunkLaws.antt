-- A chunk that was written is read as itself.
use Rattle.std.proofs.Common.{◌≡◌, ℕ, ◌<◌, ◌≤◌, ◌^◌, true, false, eqb, List, [], ◌∷◌, length, Option, Some, None, option_map, IfSome, Ok, refl, sym, ap, ◌∙◌, arith, lt-ltb, inl, inr, ◌⊎◌, lit≤}
use Rattle.std.proofs.lemmas.Bool.Decides.{eqb_tells}
use Rattle.proto_wire.specs.Absent.{nonzero_varint, nonempty_bytes}
use Rattle.proto_wire.specs.Entries.{IsFitting, AllFitting, present, fields_text}
use Rattle.proto_wire.specs.Field.{WireValue, Varint, Bytes}
use Rattle.proto_wire.specs.Message.{fields_of, wire_fields}
use Rattle.proto_wire.specs.Spelling.{FitsWire}
use Rattle.proto_wire.specs.Reads.{unless_fault}
use Rattle.proto_wire.specs.Typed.{Uint64, Uint32, SomeBytes, may_have, number_in, some_number_in, content_in}
use Rattle.proto_wire.proofs.EntryLaws.{written_fields, written_fault, last_after-present, value_or}
use Rattle.transfer_chunk.specs.Chunk.{Chunk, chunk_after, declared, no_chunk}
use Rattle.transfer_chunk.specs.Reading.{chunk_of}
use Rattle.transfer_chunk.specs.ChunkText.{number_entry, kept_entry, data_entry, chunk_entries, chunk_text, HasWidths}

again_by : (n : ℕ) → ((eqb n 0 ≡ true) × (n ≡ 0)) ⊎ ((eqb n 0 ≡ false) × (n ≡ 0 → ⊥)) → value_or number_in 0 (nonzero_varint n) ≡ n
again_by n (inl zero) = rw zero.0 (sym zero.1)
again_by n (inr more) = rw more.0 refl

-- a number that may be left out is read again
number_again : (n : ℕ) → value_or number_in 0 (nonzero_varint n) ≡ n
number_again n = again_by n (eqb_tells n 0)

-- a number whose presence is kept is read again
kept_again : (o : Option ℕ) → value_or some_number_in None (option_map Varint o) ≡ o
kept_again None = refl
kept_again (Some n) = refl

some_by : (n : ℕ) → 0 < n → ((eqb n 0 ≡ true) × (n ≡ 0)) ⊎ ((eqb n 0 ≡ false) × (n ≡ 0 → ⊥)) → eqb n 0 ≡ false
some_by n some (inl zero) = absurd (omega (arith, zero.1))
some_by n some (inr more) = more.0

some_length : (b : ℕ) (content : List ℕ) → eqb (length (b ∷ content)) 0 ≡ false
some_length b content = some_by (length (b ∷ content)) (omega arith) (eqb_tells (length (b ∷ content)) 0)

-- data that may be left out is read again
data_again : (content : List ℕ) → value_or content_in [] (nonempty_bytes content) ≡ content
data_again [] = refl
data_again (b ∷ content) = rw (some_length b content) refl

-- Entries that suit their declaration.
module _ (k : ℕ) (low : 1 ≤ k) (high : k ≤ 536870911) where
  option_fits : (o : Option WireValue) → IfSome o FitsWire → IfSome o (λ v. may_have (declared k) v ≡ true) → IsFitting declared (record { number = k; value = o })
  option_fits o fits suits = record { low = low; high = high; fits = fits; suits = suits }

  number_by : (n : ℕ) → n < 2 ^ 64 → may_have (declared k) (Varint n) ≡ true → ((eqb n 0 ≡ true) × (n ≡ 0)) ⊎ ((eqb n 0 ≡ false) × (n ≡ 0 → ⊥)) → IsFitting declared (number_entry k n)
  number_by n fits suits (inl zero) = rw zero.0 (option_fits None tt tt)
  number_by n fits suits (inr more) = rw more.0 (option_fits (Some (Varint n)) fits suits)

  number_fits : (n : ℕ) → n < 2 ^ 64 → may_have (declared k) (Varint n) ≡ true → IsFitting declared (number_entry k n)
  number_fits n fits suits = number_by n fits suits (eqb_tells n 0)

  small_suits : (n : ℕ) → declared k ≡ Uint32 → n < 2 ^ 32 → may_have (declared k) (Varint n) ≡ true
  small_suits n type fits = rw (type, lt-ltb n (2 ^ 32) fits) refl

  wide_suits : (n : ℕ) → declared k ≡ Uint64 → may_have (declared k) (Varint n) ≡ true
  wide_suits n type = rw type refl

  small_number : declared k ≡ Uint32 → (n : ℕ) → n < 2 ^ 32 → IsFitting declared (number_entry k n)
  small_number type n fits = number_fits n (omega (arith, fits)) (small_suits n type fits)

  wide_number : declared k ≡ Uint64 → (n : ℕ) → n < 2 ^ 64 → IsFitting declared (number_entry k n)
  wide_number type n fits = number_fits n fits (wide_suits n type)

  small_kept : declared k ≡ Uint32 → (o : Option ℕ) → IfSome o (λ n. n < 2 ^ 32) → IsFitting declared (kept_entry k o)
  small_kept type None fits = option_fits None tt tt
  small_kept type (Some n) fits = option_fits (Some (Varint n)) (omega (arith, fits)) (small_suits n type fits)

  wide_kept : declared k ≡ Uint64 → (o : Option ℕ) → IfSome o (λ n. n < 2 ^ 64) → IsFitting declared (kept_entry k o)
  wide_kept type None fits = option_fits None tt tt
  wide_kept type (Some n) fits = option_fits (Some (Varint n)) fits (wide_suits n type)

  data_fits : declared k ≡ SomeBytes → (content : List ℕ) → length content < 2 ^ 64 → IsFitting declared (data_entry k content)
  data_fits type [] fits = option_fits None tt tt
  data_fits type (b ∷ content) fits = rw (some_length b content) (option_fits (Some (Bytes (b ∷ content))) fits (rw type refl))

all_fit : (c : Chunk) → HasWidths c → AllFitting declared (chunk_entries c)
unfolding declared
all_fit c h = (
  small_number 1 (lit≤ tt) (lit≤ tt) refl c.transfer_id h.transfer_id,
  (
    small_kept 2 (lit≤ tt) (lit≤ tt) refl c.pending h.pending,
    (
      small_kept 3 (lit≤ tt) (lit≤ tt) refl c.max_chunk h.max_chunk,
      (
        small_number 4 (lit≤ tt) (lit≤ tt) refl c.min_delay h.min_delay,
        (
          wide_number 5 (lit≤ tt) (lit≤ tt) refl c.offset h.offset,
          (
            data_fits 6 (lit≤ tt) (lit≤ tt) refl c.bytes h.bytes,
            (
              wide_kept 7 (lit≤ tt) (lit≤ tt) refl c.remaining h.remaining,
              (
                small_kept 8 (lit≤ tt) (lit≤ tt) refl c.status h.status,
                (
                  small_number 9 (lit≤ tt) (lit≤ tt) refl c.window_end h.window_end,
                  (
                    wide_kept 10 (lit≤ tt) (lit≤ tt) refl c.ctype h.ctype,
                    (
                      small_kept 11 (lit≤ tt) (lit≤ tt) refl c.resource h.resource,
                      (
                        small_kept 12 (lit≤ tt) (lit≤ tt) refl c.session h.session,
                        (
                          small_kept 13 (lit≤ tt) (lit≤ tt) refl c.version h.version,
                          (
                            small_kept 14 (lit≤ tt) (lit≤ tt) refl c.desired h.desired,
                            (wide_number 15 (lit≤ tt) (lit≤ tt) refl c.initial h.initial, tt),
                          ),
                        ),
                      ),
                    ),
                  ),
                ),
              ),
            ),
          ),
        ),
      ),
    ),
  ),
)

-- chunks with equal fields are equal
same_chunk : {a1 b1 : ℕ} {a2 b2 : Option ℕ} {a3 b3 : Option ℕ} {a4 b4 : ℕ} {a5 b5 : ℕ} {a6 b6 : List ℕ} {a7 b7 : Option ℕ} {a8 b8 : Option ℕ} {a9 b9 : ℕ} {a10 b10 : Option ℕ} {a11 b11 : Option ℕ} {a12 b12 : Option ℕ} {a13 b13 : Option ℕ} {a14 b14 : Option ℕ} {a15 b15 : ℕ} → a1 ≡ b1 → a2 ≡ b2 → a3 ≡ b3 → a4 ≡ b4 → a5 ≡ b5 → a6 ≡ b6 → a7 ≡ b7 → a8 ≡ b8 → a9 ≡ b9 → a10 ≡ b10 → a11 ≡ b11 → a12 ≡ b12 → a13 ≡ b13 → a14 ≡ b14 → a15 ≡ b15 → ◌≡◌ {A = Chunk} (record { transfer_id = a1; pending = a2; max_chunk = a3; min_delay = a4; offset = a5; bytes = a6; remaining = a7; status = a8; window_end = a9; ctype = a10; resource = a11; session = a12; version = a13; desired = a14; initial = a15 }) (record { transfer_id = b1; pending = b2; max_chunk = b3; min_delay = b4; offset = b5; bytes = b6; remaining = b7; status = b8; window_end = b9; ctype = b10; resource = b11; session = b12; version = b13; desired = b14; initial = b15 })
same_chunk e1 e2 e3 e4 e5 e6 e7 e8 e9 e10 e11 e12 e13 e14 e15 = rw (e1, e2, e3, e4, e5, e6, e7, e8, e9, e10, e11, e12, e13, e14, e15) refl

-- what the fields of a chunk give
fields_again : (c : Chunk) → chunk_after no_chunk (present (chunk_entries c)) ≡ c
fields_again c =
    let es = chunk_entries c in
    same_chunk
    (last_after-present number_in 0 1 es ∙ number_again c.transfer_id)
    (last_after-present some_number_in None 2 es ∙ kept_again c.pending)
    (last_after-present some_number_in None 3 es ∙ kept_again c.max_chunk)
    (last_after-present number_in 0 4 es ∙ number_again c.min_delay)
    (last_after-present number_in 0 5 es ∙ number_again c.offset)
    (last_after-present content_in [] 6 es ∙ data_again c.bytes)
    (last_after-present some_number_in None 7 es ∙ kept_again c.remaining)
    (last_after-present some_number_in None 8 es ∙ kept_again c.status)
    (last_after-present number_in 0 9 es ∙ number_again c.window_end)
    (last_after-present some_number_in None 10 es ∙ kept_again c.ctype)
    (last_after-present some_number_in None 11 es ∙ kept_again c.resource)
    (last_after-present some_number_in None 12 es ∙ kept_again c.session)
    (last_after-present some_number_in None 13 es ∙ kept_again c.version)
    (last_after-present some_number_in None 14 es ∙ kept_again c.desired)
    (last_after-present number_in 0 15 es ∙ number_again c.initial)

pub chunk_text_reads : (c : Chunk) → HasWidths c → chunk_of (chunk_text c) ≡ Ok c
unfolding chunk_of chunk_text
chunk_text_reads c h =
    let es = chunk_entries c in
    let fit = all_fit c h in
    ap (λ fault. unless_fault (chunk_after no_chunk (wire_fields (fields_of (fields_text (present es))))) fault) (written_fault declared es fit)
    ∙ (ap (λ fs. Ok (chunk_after no_chunk fs)) (written_fields declared es fit)
    ∙ ap Ok (fields_again c))
