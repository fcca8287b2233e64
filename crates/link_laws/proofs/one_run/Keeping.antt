-- What the end of a turn, and the frames that go out, leave as it is; and what they do to the links.
use Rattle.std.proofs.Common.{◌≡◌, ◌+◌, Bool, true, false, List, [], ◌∷◌, ◌++◌, length, Option, Some, None, if◌then◌else◌, refl, sym, ◌∙◌, subst}
use Rattle.std.specs.Prelude.{Contains}
use Rattle.std.specs.List.{AllByRecursion}
use Rattle.link_script.specs.declared.report.ReportLine.{ReportLine}
use Rattle.link_script.specs.lossy.Link.{Link, loss_of, released}
use Rattle.rpc_ids.specs.declared.method.Role.{Role}
use Rattle.rpc_ids.specs.declared.method.Role.TheVariants.{Server, Client}
use Rattle.rpc_packet.specs.declared.owned.Packet.{Packet}
use Rattle.link_laws.specs.world.Lines.{command_ended, finished, is_still, line_of, with_line, with_released}
use Rattle.link_laws.specs.world.Sound.{NoFlips}
use Rattle.link_laws.specs.world.Wiring.{with_sent}
use Rattle.link_laws.specs.world.World.{Setup, Under, World, all_sent_by, wiring_of, with_wiring}
use Rattle.link_laws.proofs.one_run.Links.{IsCarrying, no_flip, put_carries}

-- a packet goes out at this end
abbrev pub sent_by : Setup → Role → World → Packet → World
sent_by k role w p = with_wiring (with_sent role (wiring_of k w) p) w

module _ (k : Setup) {A : Type 0} (f : World → A) where
  -- what each packet that goes out leaves as it is, all leave so
  pub sends_keep : (role : Role) → ((v : World) (p : Packet) → f (sent_by k role v p) ≡ f v) → (ps : List Packet) (w : World) → f (all_sent_by k role ps w) ≡ f w
  sends_keep role each [] w = refl
  sends_keep Server each (p ∷ ps) w = sends_keep Server each ps (sent_by k Server w p) ∙ each w p
  sends_keep Client each (p ∷ ps) w = sends_keep Client each ps (sent_by k Client w p) ∙ each w p

  line_keeps : ((v : World) (lines : List ReportLine) → f (record v { under = None; lines = lines }) ≡ f v) → (o : Option ReportLine) (v : World) → f (with_line v o) ≡ f v
  line_keeps each None v = refl
  line_keeps each (Some told) v = each v (v.lines ++ told ∷ [])

  command_keeps : ((v : World) (lines : List ReportLine) → f (record v { under = None; lines = lines }) ≡ f v) → (u : Option Under) (v : World) → f (command_ended k v u) ≡ f v
  command_keeps each None v = refl
  command_keeps each (Some under) v = line_keeps each (line_of k v under) v

  release_keeps : ((v : World) (up down : Link) → f (record v { to_server = up; to_client = down }) ≡ f v) → (v : World) → f (with_released v) ≡ f v
  release_keeps each v = at (is_still v)
    where
      at : (b : Bool) → f (if b then record v { to_server = released v.to_server; to_client = released v.to_client } else v) ≡ f v
      at true = each v (released v.to_server) (released v.to_client)
      at false = refl

  -- what depends on no link, line and command
  pub finish_keeps : ((v : World) (lines : List ReportLine) → f (record v { under = None; lines = lines }) ≡ f v)
      → ((v : World) (up down : Link) → f (record v { to_server = up; to_client = down }) ≡ f v) → (v : World) → f (finished k v) ≡ f v
  finish_keeps lines links v = command_keeps lines v.under (with_released v) ∙ release_keeps links v

module _ (k : Setup) (sent : List Packet) where
  pub server_sends : NoFlips k.losses → (ps : List Packet) → AllByRecursion (Contains sent) ps → (w : World) → IsCarrying sent w.to_client
      → IsCarrying sent (all_sent_by k Server ps w).to_client
  server_sends calm [] in_sent w c = c
  server_sends calm (p ∷ ps) in_sent w c =
      server_sends calm ps in_sent.1 (sent_by k Server w p)
      (put_carries sent (loss_of (length w.numbered + 1) k.losses) p w.to_client (no_flip (length w.numbered + 1) k.losses calm) in_sent.0 c)

  pub client_sends : NoFlips k.losses → (ps : List Packet) → AllByRecursion (Contains sent) ps → (w : World) → IsCarrying sent w.to_server
      → IsCarrying sent (all_sent_by k Client ps w).to_server
  client_sends calm [] in_sent w c = c
  client_sends calm (p ∷ ps) in_sent w c =
      client_sends calm ps in_sent.1 (sent_by k Client w p)
      (put_carries sent (loss_of (length w.numbered + 1) k.losses) p w.to_server (no_flip (length w.numbered + 1) k.losses calm) in_sent.0 c)

-- what holds of a link holds of it behind the end of a turn
module _ (k : Setup) (P : Link → Type 0) (each : (l : Link) → P l → P (released l)) where
  link_behind : (g : World → Link) → ((v : World) (lines : List ReportLine) → g (record v { under = None; lines = lines }) ≡ g v)
      → (v : World) (u : Option Under) → P (g v) → P (g (command_ended k v u))
  link_behind g lines v u holds = subst P (sym (command_keeps k g lines u v)) holds

  pub up_behind : (v : World) → P v.to_server → P (finished k v).to_server
  up_behind v holds = link_behind (λ x. x.to_server) (λ x lines. refl) (with_released v) v.under (at (is_still v))
    where
      at : (b : Bool) → P (if b then record v { to_server = released v.to_server; to_client = released v.to_client } else v).to_server
      at true = each v.to_server holds
      at false = holds

  pub down_behind : (v : World) → P v.to_client → P (finished k v).to_client
  down_behind v holds = link_behind (λ x. x.to_client) (λ x lines. refl) (with_released v) v.under (at (is_still v))
    where
      at : (b : Bool) → P (if b then record v { to_server = released v.to_server; to_client = released v.to_client } else v).to_client
      at true = each v.to_client holds
      at false = holds
