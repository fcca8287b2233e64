-- The line of a command, by what both ends say.
use Rattle.std.proofs.Common.{◌≡◌, refl, ap, sym, ◌∙◌}
use Rattle.rpc_ids.specs.declared.status.Status.{Status}
use Rattle.rpc_journal.specs.History.{history}
use Rattle.rpc_schedule.specs.Serving.{deeds}
use Rattle.link_laws.specs.world.Lines.{length_made, line_telling, transfer_line}
use Rattle.link_laws.specs.world.World.{Setup, Tasked, Transfer, World, client_deeds, reads, writes}
use Rattle.link_world.specs.client.ClientSide.{ClientState}
use Rattle.link_world.specs.Showing.{ClientShows}

module _ (k : Setup) (w : World) where
  pub client_deeds_are : (c : ClientState) → ClientShows k c w.client w.fed_client → deeds c.end.serving ≡ client_deeds k w
  client_deeds_are c shows =
      ap (λ set. history set c.end.serving.table.entries) (shows.setting ∙ sym shows.fixed) ∙ ap (λ h. history k.client h) shows.entries

  line_with_is : (t : Tasked) (x : Transfer) (status : Status) → line_telling x status (length_made k w t x) ≡ transfer_line k w t x status
  line_with_is t (reads d) status = refl
  line_with_is t (writes u) status = refl
