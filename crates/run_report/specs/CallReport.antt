-- The report of a call of any method.
use Rattle.std.specs.Prelude.{ℕ, List, [], ◌∷◌, ◌++◌, codes, flat_map, length, Option, Some, None}
use Rattle.std.specs.Fmt.{decimal}
use Rattle.hex.specs.Hex.{encode_lower}
use Rattle.link_io.specs.declared.why.Why.{Why}
use Rattle.rpc_ids.specs.declared.status.Status.{Status}
use Rattle.rpc_ids.specs.Status.{status_name}
use Rattle.run_report.specs.Lines.{line, why_line}

-- a payload as a word: its digits, or a dash where it is empty
abbrev pub payload_word : List ℕ → List ℕ
payload_word [] = codes "-"
payload_word (byte ∷ bytes) = encode_lower (byte ∷ bytes)

unfoldable pub message_line : List ℕ → List ℕ
message_line payload = line (codes "message" ∷ payload_word payload ∷ [])

-- how the call ended, and how many messages came
unfoldable pub called_line : Status → ℕ → List ℕ
called_line status count = line (codes "call" ∷ status_name status ∷ decimal count ∷ [])

-- the same, where it ended
abbrev pub end_line : Option Status → ℕ → List ℕ
end_line None count = []
end_line (Some status) count = called_line status count

-- the messages in order, how the call ended, if it did, and why the client ended
abbrev pub call_report : List (List ℕ) → Option Status → Why → List ℕ
call_report messages ended why = flat_map message_line messages ++ end_line ended (length messages) ++ why_line why
