-- What is said in a session is read as the chunk that was said, and says the same.
use Rattle.std.proofs.Common.{◌≡◌, ℕ, ◌<◌, ◌==◌, ◌^◌, refl, ap, sym, ◌∙◌, true, false, Bool, if◌then◌else◌, Some, None, IfSome, unwrap_or, arith}
use Rattle.std.proofs.lemmas.Bool.{eqb-true}
use Rattle.rpc_ids.specs.declared.Status.{Status}
use Rattle.rpc_ids.specs.declared.Status.TheVariants.{Okay, Cancelled, Unknown, InvalidArgument, DeadlineExceeded, NotFound, AlreadyExists, PermissionDenied, ResourceExhausted, FailedPrecondition, Aborted, OutOfRange, Unimplemented, Internal, Unavailable, DataLoss, Unauthenticated}
use Rattle.rpc_ids.specs.Status.{status_number, status_of}
use Rattle.transfer_chunk.specs.ChunkText.{HasWidths}
use Rattle.transfer_chunk.proofs.ChunkLaws.{chunk_text_reads}
use Rattle.transfer_words.specs.Word.{Word, start, start_ack, confirmation, parameters, data_comes, completion, completion_ack}
use Rattle.transfer_words.specs.Spoken.{spoken, word_of, asked_size, is_nothing, rest_after, FitsChunk, WordsAreHeard, WordsAreShort}
use Rattle.transfer_words.proofs.ChunkSizes.{chunk_short}

pub status_again : (status : Status) → status_of (status_number status) ≡ status
status_again Okay = refl
status_again Cancelled = refl
status_again Unknown = refl
status_again InvalidArgument = refl
status_again DeadlineExceeded = refl
status_again NotFound = refl
status_again AlreadyExists = refl
status_again PermissionDenied = refl
status_again ResourceExhausted = refl
status_again FailedPrecondition = refl
status_again Aborted = refl
status_again OutOfRange = refl
status_again Unimplemented = refl
status_again Internal = refl
status_again Unavailable = refl
status_again DataLoss = refl
status_again Unauthenticated = refl

small_number : (status : Status) → status_number status < 2 ^ 32
small_number Okay = omega arith
small_number Cancelled = omega arith
small_number Unknown = omega arith
small_number InvalidArgument = omega arith
small_number DeadlineExceeded = omega arith
small_number NotFound = omega arith
small_number AlreadyExists = omega arith
small_number PermissionDenied = omega arith
small_number ResourceExhausted = omega arith
small_number FailedPrecondition = omega arith
small_number Aborted = omega arith
small_number OutOfRange = omega arith
small_number Unimplemented = omega arith
small_number Internal = omega arith
small_number Unavailable = omega arith
small_number DataLoss = omega arith
small_number Unauthenticated = omega arith

size_by : (size : ℕ) (b : Bool) → (size == 0) ≡ b → unwrap_or (if b then None else Some size) 0 ≡ size
size_by size true e = sym (eqb-true size 0 e)
size_by size false e = refl

size_again : (size : ℕ) → unwrap_or (asked_size size) 0 ≡ size
size_again size = size_by size (size == 0) refl

size_small_by : (size : ℕ) (b : Bool) → size < 2 ^ 32 → IfSome (if b then None else Some size) (λ n. n < 2 ^ 32)
size_small_by size true fits = tt
size_small_by size false fits = fits

size_small : (size : ℕ) → size < 2 ^ 32 → IfSome (asked_size size) (λ n. n < 2 ^ 32)
size_small size fits = size_small_by size (size == 0) fits

rest_again : (last : Bool) → is_nothing (rest_after last) ≡ last
rest_again true = refl
rest_again false = refl

rest_small : (last : Bool) → IfSome (rest_after last) (λ n. n < 2 ^ 64)
rest_small true = omega arith
rest_small false = tt

pub says_again : (s : ℕ) (w : Word) → FitsChunk w → word_of (spoken s w) ≡ Some w
says_again s (start resource offset) fits = refl
says_again s (start_ack offset) fits = refl
says_again s (confirmation ask) fits =
    ap (λ size. Some (confirmation (record { again = true; offset = ask.offset; window_end = ask.window_end; max_chunk = size }))) (size_again ask.max_chunk)
    ∙ ap (λ again. Some (confirmation (record { again = again; offset = ask.offset; window_end = ask.window_end; max_chunk = ask.max_chunk }))) (sym fits.1)
says_again s (parameters ask) fits = asked ask.again
  where
    asked : (again : Bool) → word_of (spoken s (parameters (record ask { again = again }))) ≡ Some (parameters (record ask { again = again }))
    asked true = ap (λ size. Some (parameters (record { again = true; offset = ask.offset; window_end = ask.window_end; max_chunk = size }))) (size_again ask.max_chunk)
    asked false = ap (λ size. Some (parameters (record { again = false; offset = ask.offset; window_end = ask.window_end; max_chunk = size }))) (size_again ask.max_chunk)
says_again s (data_comes p) fits =
    ap (λ last. Some (data_comes (record { offset = p.offset; bytes = p.bytes; last = last }))) (rest_again p.last)
says_again s (completion status) fits = ap (λ told. Some (completion told)) (status_again status)
says_again s completion_ack fits = refl

-- the numbers of a chunk that says a word are those of its fields' types
widths : (s : ℕ) (w : Word) → s < 2 ^ 32 → FitsChunk w → HasWidths (spoken s w)
widths s (start resource offset) small fits = record {
  transfer_id = omega arith;
  pending = tt;
  max_chunk = tt;
  min_delay = omega arith;
  offset = omega arith;
  bytes = omega arith;
  remaining = tt;
  status = tt;
  window_end = omega arith;
  ctype = omega arith;
  resource = fits.0;
  session = tt;
  version = omega arith;
  desired = small;
  initial = fits.1;
}
widths s (start_ack offset) small fits = record {
  transfer_id = omega arith;
  pending = tt;
  max_chunk = tt;
  min_delay = omega arith;
  offset = omega arith;
  bytes = omega arith;
  remaining = tt;
  status = tt;
  window_end = omega arith;
  ctype = omega arith;
  resource = tt;
  session = small;
  version = omega arith;
  desired = tt;
  initial = fits;
}
widths s (confirmation ask) small fits = record {
  transfer_id = omega arith;
  pending = tt;
  max_chunk = size_small ask.max_chunk fits.0.2;
  min_delay = omega arith;
  offset = fits.0.0;
  bytes = omega arith;
  remaining = tt;
  status = tt;
  window_end = fits.0.1;
  ctype = omega arith;
  resource = tt;
  session = small;
  version = omega arith;
  desired = tt;
  initial = omega arith;
}
widths s (parameters ask) small fits = asked ask.again
  where
    asked : (again : Bool) → HasWidths (spoken s (parameters (record ask { again = again })))
    asked true = record {
      transfer_id = omega arith;
      pending = tt;
      max_chunk = size_small ask.max_chunk fits.2;
      min_delay = omega arith;
      offset = fits.0;
      bytes = omega arith;
      remaining = tt;
      status = tt;
      window_end = fits.1;
      ctype = omega arith;
      resource = tt;
      session = small;
      version = tt;
      desired = tt;
      initial = omega arith;
    }
    asked false = record {
      transfer_id = omega arith;
      pending = tt;
      max_chunk = size_small ask.max_chunk fits.2;
      min_delay = omega arith;
      offset = fits.0;
      bytes = omega arith;
      remaining = tt;
      status = tt;
      window_end = fits.1;
      ctype = omega arith;
      resource = tt;
      session = small;
      version = tt;
      desired = tt;
      initial = omega arith;
    }
widths s (data_comes p) small fits = record {
  transfer_id = omega arith;
  pending = tt;
  max_chunk = tt;
  min_delay = omega arith;
  offset = fits.0;
  bytes = fits.1;
  remaining = rest_small p.last;
  status = tt;
  window_end = omega arith;
  ctype = omega arith;
  resource = tt;
  session = small;
  version = tt;
  desired = tt;
  initial = omega arith;
}
widths s (completion status) small fits = record {
  transfer_id = omega arith;
  pending = tt;
  max_chunk = tt;
  min_delay = omega arith;
  offset = omega arith;
  bytes = omega arith;
  remaining = tt;
  status = small_number status;
  window_end = omega arith;
  ctype = omega arith;
  resource = tt;
  session = small;
  version = tt;
  desired = tt;
  initial = omega arith;
}
widths s completion_ack small fits = record {
  transfer_id = omega arith;
  pending = tt;
  max_chunk = tt;
  min_delay = omega arith;
  offset = omega arith;
  bytes = omega arith;
  remaining = tt;
  status = tt;
  window_end = omega arith;
  ctype = omega arith;
  resource = tt;
  session = small;
  version = tt;
  desired = tt;
  initial = omega arith;
}

pub words_are_heard : WordsAreHeard
words_are_heard s w small fits = record { read = chunk_text_reads (spoken s w) (widths s w small fits); says = says_again s w fits }

pub words_are_short : WordsAreShort
words_are_short s (start resource offset) = chunk_short (spoken s (start resource offset))
words_are_short s (start_ack offset) = chunk_short (spoken s (start_ack offset))
words_are_short s (confirmation ask) = chunk_short (spoken s (confirmation ask))
words_are_short s (parameters ask) = chunk_short (spoken s (parameters ask))
words_are_short s (data_comes p) = chunk_short (spoken s (data_comes p))
words_are_short s (completion status) = chunk_short (spoken s (completion status))
words_are_short s completion_ack = chunk_short (spoken s completion_ack)
