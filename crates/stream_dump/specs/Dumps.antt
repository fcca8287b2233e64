-- What a dump took from its source, and what it wrote.
use Rattle.std.specs.Prelude.{◌≡◌, ◌⊎◌, ℕ, ◌<◌, ◌≤◌, List, length, Option}
use Rattle.std.specs.Io.KnownBytes.{Appends, Consumes, IsAtEnd}
use Rattle.link_io.specs.declared.why.Why.{Why}
use Rattle.link_io.specs.declared.why.Why.TheVariants.{Settled, Source, InputLimit}
use Rattle.stream_dump.specs.Dump.{dump_text}
use Rattle.stream_dump.specs.Names.{Name}
use Rattle.stream_dump.specs.Progress.{DumpsPart}

-- the text of all bytes, or a beginning of it where a write failed
abbrev pub DumpsBy : Why → List Name → List ℕ → Option (List ℕ) → Option (List ℕ) → Type 0
DumpsBy Settled names bytes old new = Appends old new (dump_text names bytes)
DumpsBy Source names bytes old new = Appends old new (dump_text names bytes)
DumpsBy InputLimit names bytes old new = Appends old new (dump_text names bytes)
DumpsBy why names bytes old new = DumpsPart names bytes old new

-- What a dump did: the bytes that it took from its source, up to the limit, and what it wrote of them.
pub record Dumps (names : List Name) (left_old left_new written_old written_new : Option (List ℕ)) (why : Why) : Type 0 where
  pub bytes : List ℕ
  pub taken : Consumes left_old left_new bytes
  pub within : length bytes ≤ 67108864
  pub at_limit : why ≡ InputLimit → length bytes ≡ 67108864
  pub below : (why ≡ Settled) ⊎ (why ≡ Source) → length bytes < 67108864
  pub at_end : why ≡ Settled → IsAtEnd left_new
  pub wrote : DumpsBy why names bytes written_old written_new
