-- What the end of a turn does where nothing is kept back.
use Rattle.std.proofs.Common.{◌≡◌, List, [], ◌∷◌, ◌++◌, Option, Some, None, option_map, ap, ◌∙◌}
use Rattle.rpc_ids.specs.declared.status.Status.{Status}
use Rattle.rpc_packet.specs.declared.owned.Packet.{Packet}
use Rattle.link_laws.specs.rounds.Carrying.{carrying}
use Rattle.link_laws.proofs.rounds.Carrying.{finished_under}
use Rattle.link_laws.specs.world.Lines.{finished, transfer_end, transfer_line, with_line}
use Rattle.link_laws.specs.world.World.{Setup, Tasked, World, transferring}

module _ (k : Setup) (w : World) (ups downs : List Packet) (to_server : w.to_server ≡ carrying ups) (to_client : w.to_client ≡ carrying downs) where
  -- no command is under way
  pub finished_idle : w.under ≡ None → finished k w ≡ w
  finished_idle idle = finished_under k w ups downs to_server to_client None idle

  -- the command under way goes on
  pub finished_on : (t : Tasked) → w.under ≡ Some (transferring t) → transfer_end t.transfer ≡ None → finished k w ≡ w
  finished_on t under going =
      finished_under k w ups downs to_server to_client (Some (transferring t)) under
      ∙ ap (λ (o : Option Status). with_line w (option_map (transfer_line k w t t.transfer) o)) going

  -- it ends, and its line is told
  pub finished_over : (t : Tasked) (status : Status) → w.under ≡ Some (transferring t) → transfer_end t.transfer ≡ Some status
      → finished k w ≡ record w { under = None; lines = w.lines ++ transfer_line k w t t.transfer status ∷ [] }
  finished_over t status under over =
      finished_under k w ups downs to_server to_client (Some (transferring t)) under
      ∙ ap (λ (o : Option Status). with_line w (option_map (transfer_line k w t t.transfer) o)) over
