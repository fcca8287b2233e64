-- The lines of a run's report.
use Rattle.std.specs.Prelude.{ℕ, List, [], ◌∷◌, ◌++◌, codes, Option, Some, None}
use Rattle.std.specs.Fmt.{decimal}
use Rattle.std.specs.Int.{to_be_bytes, w32}
use Rattle.std.specs.List.{join_with_byte}
use Rattle.hex.specs.Hex.{encode_lower}
use Rattle.rpc_ids.specs.declared.method.Kind.{Kind}
use Rattle.rpc_ids.specs.declared.method.Kind.TheVariants.{Unary, ServerStream, ClientStream, Bidi}
use Rattle.rpc_ids.specs.declared.status.Status.{Status}
use Rattle.rpc_ids.specs.Status.{status_name}
use Rattle.rpc_packet.specs.declared.call_name.CallName.{CallName}
use Rattle.rpc_packet.specs.declared.owned.Packet.{Packet}
use Rattle.rpc_packet.specs.Message.{message_of}
use Rattle.rpc_frames.specs.declared.counts.Counts.{Counts}
use Rattle.rpc_schedule.specs.declared.ending.Ending.{Ending}
use Rattle.rpc_schedule.specs.declared.ending.Ending.TheVariants.{AtEnd, SourceFault, StoreFault, InputLimit, JournalLimit}
use Rattle.link_io.specs.declared.why.Why.{Why}
use Rattle.link_io.specs.declared.why.Why.TheVariants as why
use Rattle.rpc_frames.specs.Written.{frame_of_packet}

-- these words with a blank between each two, and a newline
abbrev pub line : List (List ℕ) → List ℕ
line words = join_with_byte 32 words ++ 10 ∷ []

-- how the segments of the stream were counted
unfoldable pub frames_line : Counts → List ℕ
frames_line counts =
    line (codes "frames" ∷ decimal counts.valid ∷ codes "bad" ∷ decimal counts.bad ∷
    codes "other" ∷ decimal counts.other ∷ codes "dropped" ∷ decimal counts.dropped ∷ [])

-- the id of a service or a method, in eight hexadecimal digits
abbrev pub id_text : ℕ → List ℕ
id_text id = encode_lower (to_be_bytes w32 id)

abbrev pub kind_name : Kind → List ℕ
kind_name Unary = codes "unary"
kind_name ServerStream = codes "server"
kind_name ClientStream = codes "client"
kind_name Bidi = codes "bidi"

-- the status with which a call ended; a call without an end is open
abbrev pub end_name : Option Status → List ℕ
end_name (Some status) = status_name status
end_name None = codes "open"

-- a call: its number, its name, its method's kind, and its end
unfoldable pub call_line : ℕ → CallName → Kind → Option Status → List ℕ
call_line number name kind end =
    line (codes "call" ∷ decimal number ∷ decimal name.channel ∷ id_text name.service ∷ id_text name.method ∷
    decimal name.call ∷ kind_name kind ∷ end_name end ∷ [])

-- a packet that went out, as the digits of its frame
unfoldable pub out_line : Packet → List ℕ
out_line packet = line (codes "out" ∷ encode_lower (frame_of_packet (message_of packet)) ∷ [])

-- an upload that ended well: its resource, and the offset at which it began with all bytes appended to it
unfoldable pub stored_line : ℕ → ℕ → List ℕ
stored_line resource length = line (codes "stored" ∷ decimal resource ∷ decimal length ∷ [])

-- the number of a call; what belongs to no call has a dash
abbrev pub number_of : Option ℕ → List ℕ
number_of None = codes "-"
number_of (Some call) = decimal call

-- a packet that went out, behind the number of its call
unfoldable pub numbered_out_line : Option ℕ → Packet → List ℕ
numbered_out_line call packet =
    line (codes "out" ∷ number_of call ∷ encode_lower (frame_of_packet (message_of packet)) ∷ [])

-- an upload that ended well, behind the number of its call
unfoldable pub numbered_stored_line : ℕ → ℕ → ℕ → List ℕ
numbered_stored_line call resource length =
    line (codes "stored" ∷ decimal call ∷ decimal resource ∷ decimal length ∷ [])

-- a connection, by its number
unfoldable pub connection_line : ℕ → List ℕ
connection_line number = line (codes "conn" ∷ decimal number ∷ [])

-- how the reading of the stream ended
abbrev pub ending_text : Ending → List ℕ
ending_text AtEnd = codes "done"
ending_text SourceFault = codes "source fault"
ending_text StoreFault = codes "store fault"
ending_text InputLimit = codes "limit input 67108864"
ending_text JournalLimit = codes "limit journal 1000000"

abbrev pub ending_line : Ending → List ℕ
ending_line ending = line (ending_text ending ∷ [])

-- why a session ended, in the words of a stream's ending where it has some; want of memory has no line
abbrev pub why_line : Why → List ℕ
why_line why.Settled = ending_line AtEnd
why_line why.Source = ending_line SourceFault
why_line why.Sink = line (codes "sink fault" ∷ [])
why_line why.Store = ending_line StoreFault
why_line why.InputLimit = ending_line InputLimit
why_line why.JournalLimit = ending_line JournalLimit
why_line why.Memory = []
