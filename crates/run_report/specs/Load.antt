-- The report of a run over a generated stream.
use Rattle.std.specs.Prelude.{ℕ, List, [], ◌∷◌, ◌++◌, codes}
use Rattle.std.specs.Fmt.{decimal}
use Rattle.rpc_journal.specs.declared.item.Item.{Item}
use Rattle.run_report.specs.Items.{packet_count, payload_of_items}
use Rattle.run_report.specs.Lines.{line}

-- the calls of the stream and its seed, and what was answered: how many packets, with how many bytes of payload
unfoldable pub load_report : ℕ → ℕ → List Item → List ℕ
load_report calls seed items =
    line (codes "load" ∷ decimal calls ∷ decimal seed ∷ []) ++
    line (codes "calls" ∷ decimal calls ∷ []) ++
    line (codes "packets" ∷ decimal (packet_count items) ∷ []) ++
    line (codes "payload" ∷ decimal (payload_of_items items) ∷ [])
