-- The report of a live client.
use Rattle.std.specs.Prelude.{ℕ, List, [], ◌∷◌, ◌++◌, codes, Option, Some, None}
use Rattle.std.specs.Fmt.{decimal}
use Rattle.link_io.specs.declared.why.Why.{Why}
use Rattle.rpc_ids.specs.declared.status.Status.{Status}
use Rattle.rpc_ids.specs.Status.{status_name}
use Rattle.run_report.specs.declared.live_report.LiveLine.{LiveLine}
use Rattle.run_report.specs.declared.live_report.LiveLine.TheVariants.{Get, Put, Watch}
use Rattle.run_report.specs.Lines.{line, why_line}

-- a transfer: its resource, where it began, how it ended, and how long the resource is that it made whole
unfoldable pub transfer_line : List ℕ → ℕ → ℕ → Status → ℕ → List ℕ
transfer_line word resource from status length =
    line (word ∷ decimal resource ∷ decimal from ∷ status_name status ∷ decimal length ∷ [])

-- a watch: how its call ended, and how many messages came
unfoldable pub watch_line : Status → ℕ → List ℕ
watch_line status messages = line (codes "watch" ∷ status_name status ∷ decimal messages ∷ [])

abbrev pub live_line : LiveLine → List ℕ
live_line (Get resource from status length) = transfer_line (codes "get") resource from status length
live_line (Put resource from status length) = transfer_line (codes "put") resource from status length
live_line (Watch status messages) = watch_line status messages

-- the line of what ended, if it did
abbrev pub ended_line : Option LiveLine → List ℕ
ended_line None = []
ended_line (Some told) = live_line told

-- how what was asked ended, if it did, and why the client ended
abbrev pub live_report : Option LiveLine → Why → List ℕ
live_report told why = ended_line told ++ why_line why
