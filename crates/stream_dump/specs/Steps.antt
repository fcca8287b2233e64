-- The private steps of a dump.
use Rattle.std.specs.Prelude.{◌≡◌, ℕ, ◌+◌, ◌==◌, if◌then◌else◌, Bool, false, List, [], ◌∷◌, ◌++◌, length, codes}
use Rattle.std.specs.Fmt.{decimal}
use Rattle.std.specs.List.{All}
use Rattle.hdlc_frame.specs.Found.{Found}
use Rattle.hdlc_frame.specs.Machine.{HasRead}
use Rattle.hdlc_frame.specs.Segments.{is_flag}
use Rattle.stream_dump.specs.Dump.{counts_line, found_words}
use Rattle.stream_dump.specs.Lines.{line}
use Rattle.stream_dump.specs.Names.{Name}
use Rattle.stream_dump.specs.Progress.{Progress}

abbrev pub NoFlag : List ℕ → Type 0
NoFlag octets = All (λ octet. is_flag octet ≡ false) octets

-- some more of the text behind the last flag was read
pub record ReadsText (old new : Progress) (text : List ℕ) : Type 0 where
  pub is : new ≡ record old { reading = new.reading; len = old.len + length text }
  pub limit : new.reading.limit ≡ old.reading.limit
  pub read : (stream : List ℕ) → HasRead old.reading stream → HasRead new.reading (stream ++ text)

-- the line of so many bytes in no segment, where there are some
abbrev pub apart_text : List ℕ → ℕ → ℕ → List ℕ
apart_text word at len = if len == 0 then [] else line (decimal at ∷ word ∷ decimal len ∷ [])

-- the line of what a flag ends: of a segment, or of the bytes in front of the first flag
abbrev pub ended_line : List Name → ℕ → ℕ → Bool → List Found → List ℕ
ended_line names at len flagged (one ∷ more) = line (decimal at ∷ found_words names len one)
ended_line names at len flagged [] = if flagged then [] else apart_text (codes "skipped") at len

-- where the bytes behind the last flag stand
abbrev pub last_word : Bool → List ℕ
last_word flagged = if flagged then codes "open" else codes "skipped"

-- the line of the bytes behind the last flag, and the counts
abbrev pub last_lines : Progress → List ℕ
last_lines p = apart_text (last_word p.flagged) p.start p.len ++ counts_line p.counts
