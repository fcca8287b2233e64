-- The text of a report.
use Rattle.std.specs.Prelude.{ℕ, ◌==◌, if◌then◌else◌, List, ◌++◌, flat_map, length, codes, Option, Some, None}
use Rattle.std.specs.Fmt.{decimal}
use Rattle.hex.specs.Hex.{encode_lower}
use Rattle.rpc_ids.specs.declared.status.Status.{Status}
use Rattle.rpc_ids.specs.Status.{status_name}
use Rattle.text_fields.specs.Lines.{ended}
use Rattle.link_script.specs.declared.report.Report.{Report}
use Rattle.link_script.specs.declared.report.ReportLine.{ReportLine}
use Rattle.link_script.specs.declared.report.ReportLine.TheVariants.{Read, Write, Echo, Count, Sum, Chat, Close}

-- a transfer: its resource, where both ends began, how it ended, and how many bytes the store has of it since then
abbrev pub transfer_line : List ℕ → ℕ → ℕ → Status → ℕ → List ℕ
transfer_line word resource from status length =
    word ++ (codes " " ++ (decimal resource ++ (codes " " ++ (decimal from ++ (codes " " ++ (status_name status ++ (codes " " ++ decimal length)))))))

-- a call: how it ended, and how many messages came
abbrev pub count_line : List ℕ → Status → ℕ → List ℕ
count_line word status count = word ++ (codes " " ++ (status_name status ++ (codes " " ++ decimal count)))

-- the bytes that came in hexadecimal digits, and a dash where none came
abbrev pub bytes_text : List ℕ → List ℕ
bytes_text bytes = if length bytes == 0 then codes "-" else encode_lower bytes

-- a call: how it ended, and the bytes that came
abbrev pub bytes_line : List ℕ → Status → List ℕ → List ℕ
bytes_line word status bytes = word ++ (codes " " ++ (status_name status ++ (codes " " ++ bytes_text bytes)))

-- a channel: how many calls ended as it was closed; it may have been closed before
abbrev pub close_line : ℕ → Option ℕ → List ℕ
close_line channel (Some count) = codes "close " ++ (decimal channel ++ (codes " " ++ decimal count))
close_line channel None = codes "close " ++ (decimal channel ++ codes " NOT_IN")

-- the line of a command that has ended
abbrev pub line_text : ReportLine → List ℕ
line_text (Read resource from status length) = transfer_line (codes "read") resource from status length
line_text (Write resource from status length) = transfer_line (codes "write") resource from status length
line_text (Echo status bytes) = bytes_line (codes "echo") status bytes
line_text (Count status count) = count_line (codes "count") status count
line_text (Sum status bytes) = bytes_line (codes "sum") status bytes
line_text (Chat status count) = count_line (codes "chat") status count
line_text (Close channel ended) = close_line channel ended

-- the frames that were numbered, the deliveries, and the numbered frames that carry a chunk
abbrev pub counts_text : Report → List ℕ
counts_text r =
    ended (codes "frames " ++ (decimal r.frames ++ (codes " delivered " ++ decimal r.delivered)))
    ++ ended (codes "chunks " ++ decimal r.chunks)

abbrev pub server_line : ℕ × ℕ → List ℕ
server_line r = ended (codes "server " ++ (decimal r.0 ++ (codes " " ++ decimal r.1)))

abbrev pub server_lines : List (ℕ × ℕ) → List ℕ
server_lines resources = flat_map server_line resources

abbrev pub client_line : ℕ × ℕ → List ℕ
client_line r = ended (codes "client " ++ (decimal r.0 ++ (codes " " ++ decimal r.1)))

abbrev pub client_lines : List (ℕ × ℕ) → List ℕ
client_lines resources = flat_map client_line resources

abbrev pub command_line : ReportLine → List ℕ
command_line line = ended (line_text line)

abbrev pub command_lines : List ReportLine → List ℕ
command_lines lines = flat_map command_line lines

-- THE DEFINITION OF A REPORT'S TEXT
abbrev pub report_text : Report → List ℕ
report_text r = command_lines r.lines ++ (counts_text r ++ (server_lines r.server ++ client_lines r.client))

abbrev pub bad_line_text : ℕ → List ℕ
bad_line_text line = codes "script line " ++ decimal line
