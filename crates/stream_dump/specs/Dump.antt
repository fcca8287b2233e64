-- What is in a recorded stream, in lines of text.
use Rattle.std.specs.Prelude.{ℕ, ◌+◌, ◌&&◌, not, Bool, true, false, if◌then◌else◌, List, [], ◌∷◌, ◌++◌, length, count_by, codes, is_none}
use Rattle.std.specs.Fmt.{decimal}
use Rattle.std.specs.Io.Iter.{u64_saturate}
use Rattle.std.specs.List.{slice_split}
use Rattle.hdlc_frame.specs.declared.found.Bad.{Bad}
use Rattle.hdlc_frame.specs.declared.found.Bad.TheVariants.{Escape, Long, Short, Check, Address}
use Rattle.hdlc_frame.specs.Found.{FrameParts, Found, found, found_in}
use Rattle.hdlc_frame.specs.Found.Found.{fault, frame}
use Rattle.hdlc_frame.specs.Segments.{is_flag}
use Rattle.rpc_ids.specs.declared.method.Role.TheVariants.{Server, Client}
use Rattle.rpc_frames.specs.declared.counts.Counts.{Counts}
use Rattle.rpc_frames.specs.declared.limits.TheConstants.{LARGEST_CONTENT}
use Rattle.rpc_frames.specs.Heard.{is_handled, heard_in_payload}
use Rattle.stream_dump.specs.Lines.{line}
use Rattle.stream_dump.specs.Names.{Name}
use Rattle.stream_dump.specs.Packets.{packet_words}

abbrev pub bad_name : Bad → List ℕ
bad_name Escape = codes "Escape"
bad_name Long = codes "Long"
bad_name Short = codes "Short"
bad_name Check = codes "Check"
bad_name Address = codes "Address"

-- what a frame says: its packet, where its address and its control octet are those of frames with packets
abbrev pub frame_words : List Name → FrameParts → List (List ℕ)
frame_words names f = if is_handled f then packet_words names f.payload else codes "other" ∷ []

-- what is found in a segment of so many bytes
abbrev pub found_words : List Name → ℕ → Found → List (List ℕ)
found_words names len (fault bad) = codes "bad" ∷ bad_name bad ∷ decimal len ∷ []
found_words names len (frame f) = codes "frame" ∷ decimal f.address ∷ decimal len ∷ [] ++ frame_words names f

-- the line of a segment that begins at this offset; between two flags in a row is none
abbrev pub segment_line : List Name → ℕ → List ℕ → List ℕ
segment_line names at [] = []
segment_line names at (octet ∷ text) =
    line (decimal at ∷ found_words names (length (octet ∷ text)) (found_in LARGEST_CONTENT (octet ∷ text)))

-- the line of bytes in no segment, by a word for where they stand
abbrev pub apart_line : List ℕ → ℕ → List ℕ → List ℕ
apart_line word at [] = []
apart_line word at (octet ∷ text) = line (decimal at ∷ word ∷ decimal (length (octet ∷ text)) ∷ [])

-- the lines of the texts behind flags, the first of which begins at this offset: all but the last one are segments
abbrev pub lines_behind : List Name → ℕ → List (List ℕ) → List ℕ
lines_behind names at [] = []
lines_behind names at (text ∷ []) = apart_line (codes "open") at text
lines_behind names at (text ∷ next ∷ texts) = segment_line names at text ++ lines_behind names (at + length text + 1) (next ∷ texts)

-- the lines of the texts between flags, the first of which stands in front of the first flag
abbrev pub lines_of : List Name → List (List ℕ) → List ℕ
lines_of names [] = []
lines_of names (text ∷ texts) = apart_line (codes "skipped") 0 text ++ lines_behind names (length text + 1) texts

-- how segments are counted
abbrev pub is_frame : Found → Bool
is_frame (fault bad) = false
is_frame (frame f) = true

abbrev pub is_bad : Found → Bool
is_bad one = not (is_frame one)

abbrev pub is_other : Found → Bool
is_other (fault bad) = false
is_other (frame f) = not (is_handled f)

-- a frame for packets in which neither end hears one
abbrev pub is_dropped : Found → Bool
is_dropped (fault bad) = false
is_dropped (frame f) = is_handled f && (is_none (heard_in_payload Server f.payload) && is_none (heard_in_payload Client f.payload))

abbrev pub count_of : (Found → Bool) → List ℕ → ℕ
count_of p stream = u64_saturate (count_by p (found LARGEST_CONTENT stream))

-- how many segments of each kind the stream has: the frames, those with a fault, the frames for no packets, and those in which
-- neither a server nor a client hears a packet
abbrev pub dump_counts : List ℕ → Counts
dump_counts stream = record {
  valid = count_of is_frame stream;
  bad = count_of is_bad stream;
  other = count_of is_other stream;
  dropped = count_of is_dropped stream;
}

abbrev pub counts_line : Counts → List ℕ
counts_line counts =
    line (codes "frames" ∷ decimal counts.valid ∷ codes "bad" ∷ decimal counts.bad ∷
    codes "other" ∷ decimal counts.other ∷ codes "dropped" ∷ decimal counts.dropped ∷ [])

-- A line for each segment of the stream, for the bytes in front of its first flag and for those behind its last one, in order, each
-- with the offset of its first byte; and how the segments are counted.
abbrev pub dump_text : List Name → List ℕ → List ℕ
dump_text names stream = lines_of names (slice_split is_flag stream) ++ counts_line (dump_counts stream)
