-- What is heard in more of a stream.
use Rattle.std.proofs.Common.{◌≡◌, ℕ, List, ◌++◌, ap, sym, ◌∙◌, append_assoc}
use Rattle.rpc_ids.specs.declared.method.Role.{Role}
use Rattle.rpc_packet.specs.declared.owned.Packet.{Packet}
use Rattle.rpc_frames.specs.Heard.{heard_packets}
use Rattle.rpc_frames.proofs.Growing.{packets_begin}

-- the packets of the first bytes are heard first in all
pub heard_further :
    (role : Role) (fed part rest : List ℕ) (first : List Packet) → heard_packets role (fed ++ part) ≡ heard_packets role fed ++ first
    → (more : List Packet) × (heard_packets role (fed ++ (part ++ rest)) ≡ heard_packets role fed ++ (first ++ more))
heard_further role fed part rest first is =
    let begins = packets_begin role (fed ++ part) rest in (
      begins.0,
      ap (heard_packets role) (sym (append_assoc fed part rest))
          ∙ (sym begins.1 ∙ (ap (λ ps. ps ++ begins.0) is ∙ append_assoc (heard_packets role fed) first begins.0)),
    )
