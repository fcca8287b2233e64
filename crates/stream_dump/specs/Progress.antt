-- How far a dump has come.
use Rattle.std.specs.Prelude.{◌≡◌, ℕ, ◌+◌, Bool, true, false, List, [], ◌∷◌, ◌++◌, length, codes, Option, unwrap_or}
use Rattle.std.specs.Io.KnownBytes.{Appends, Consumes}
use Rattle.std.specs.List.{slice_split}
use Rattle.hdlc_frame.specs.Machine.{HasRead, Reading}
use Rattle.hdlc_frame.specs.Segments.{but_last, is_flag, last_of}
use Rattle.link_io.specs.Device.{AppendsSome}
use Rattle.rpc_frames.specs.declared.counts.Counts.{Counts}
use Rattle.rpc_frames.specs.declared.limits.TheConstants.{LARGEST_CONTENT}
use Rattle.stream_dump.specs.Dump.{apart_line, dump_counts, dump_text, segment_line}
use Rattle.stream_dump.specs.Names.{Name}

-- a dumper: its decoder, where the text behind the last flag begins, how long it is, whether a flag came, and the counts
pub record Progress : Type 0 where
  pub reading : Reading
  pub start : ℕ
  pub len : ℕ
  pub flagged : Bool
  pub counts : Counts

-- a dumper, and what its sink holds
pub record Standing : Type 0 where
  pub dumper : Progress
  pub written : Option (List ℕ)

-- the lines of texts behind flags that are all ended by one
abbrev pub closed_behind : List Name → ℕ → List (List ℕ) → List ℕ
closed_behind names at [] = []
closed_behind names at (text ∷ texts) = segment_line names at text ++ closed_behind names (at + length text + 1) texts

abbrev pub closed_lines : List Name → List (List ℕ) → List ℕ
closed_lines names [] = []
closed_lines names (text ∷ texts) = apart_line (codes "skipped") 0 text ++ closed_behind names (length text + 1) texts

-- the offset behind these texts and the flag of each
abbrev pub behind_all : List (List ℕ) → ℕ
behind_all [] = 0
behind_all (text ∷ texts) = length text + 1 + behind_all texts

abbrev pub is_some_text : List (List ℕ) → Bool
is_some_text [] = false
is_some_text (text ∷ texts) = true

-- the texts of a stream that a flag ends
abbrev pub front_of : List ℕ → List (List ℕ)
front_of stream = but_last (slice_split is_flag stream)

-- the text behind the last flag, or all of it
abbrev pub last_text : List ℕ → List ℕ
last_text stream = unwrap_or (last_of (slice_split is_flag stream)) []

-- The stream came, and the line of each text that a flag ended was written.
pub record IsDumped (names : List Name) (now : Standing) (first : Option (List ℕ)) (stream : List ℕ) : Type 0 where
  pub limit : now.dumper.reading.limit ≡ LARGEST_CONTENT
  pub read : HasRead now.dumper.reading stream
  pub start : now.dumper.start ≡ behind_all (front_of stream)
  pub len : now.dumper.len ≡ length (last_text stream)
  pub flagged : now.dumper.flagged ≡ is_some_text (front_of stream)
  pub counts : now.dumper.counts ≡ dump_counts stream
  pub wrote : Appends first now.written (closed_lines names (front_of stream))

-- it went on over some bytes
abbrev pub DumpsOn : List Name → Standing → Standing → List ℕ → Type 0
DumpsOn names old new bytes =
    (first : Option (List ℕ)) (stream : List ℕ) → IsDumped names old first stream → IsDumped names new first (stream ++ bytes)

-- A write failed: what was written is a beginning of the text of a beginning of these bytes.
pub record DumpsPart (names : List Name) (bytes : List ℕ) (old new : Option (List ℕ)) : Type 0 where
  pub front : List ℕ
  pub behind : List ℕ
  pub begins : bytes ≡ front ++ behind
  pub wrote : AppendsSome old new (dump_text names front)

abbrev pub StopsIn : List Name → Standing → Option (List ℕ) → List ℕ → Type 0
StopsIn names old written piece =
    (first : Option (List ℕ)) (stream : List ℕ) → IsDumped names old first stream → DumpsPart names (stream ++ piece) first written

-- so many bytes were taken of a source, and dumped
pub record HasTaken (names : List Name) (now : Standing) (left_old left_new first : Option (List ℕ)) (total : ℕ) : Type 0 where
  pub bytes : List ℕ
  pub taken : Consumes left_old left_new bytes
  pub count : total ≡ length bytes
  pub dumped : IsDumped names now first bytes
