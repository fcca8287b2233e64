-- The world of a script, before anything happens.
use Rattle.std.specs.Prelude.{◌≡◌, ◌≤◌, []}
use Rattle.std.specs.List.{AllByRecursion}
use Rattle.link_io.specs.Resources.{IsOnce}
use Rattle.link_script.specs.declared.script.Script.{Script}
use Rattle.link_script.specs.Script.{IsCommand}
use Rattle.link_script.specs.lossy.Link.{new_link}
use Rattle.rpc_ids.specs.declared.method.Role.TheVariants.{Server, Client}
use Rattle.rpc_schedule.specs.ends.EndState.{WasFed}
use Rattle.transfer_base.specs.declared.limits.TheConstants.{MAX_CHUNK, MAX_WINDOW}
use Rattle.transfer_base.specs.declared.tuning.Tuning.{Tuning}
use Rattle.link_laws.specs.transfers_fit.Scripts.{IsScript}
use Rattle.link_laws.specs.world.Setup.{made_resources, script_chunk, script_window, server_setting, stocked}
use Rattle.link_world.specs.client.ClientSide.{ClientRests, ClientState}
use Rattle.link_world.specs.server.ServerSide.{ServerRests, ServerState}
use Rattle.link_laws.specs.world.Wiring.{Wiring}

-- no resource stands twice under the same words, and the numbers of windows, chunks and commands fit
pub record IsWithinBounds (script : Script) : Type 0 where
  pub window : (1 ≤ script_window script) × (script_window script ≤ MAX_WINDOW)
  pub chunk : (1 ≤ script_chunk script) × (script_chunk script ≤ MAX_CHUNK)
  pub server : IsOnce (made_resources script.server)
  pub left_server : IsOnce (made_resources script.left_server)
  pub client : IsOnce (made_resources script.client)
  pub left_client : IsOnce (made_resources script.left_client)
  pub commands : AllByRecursion IsCommand script.commands

-- both ends and the link are those of a script whose numbers fit, before anything happens
pub record IsNew (script : Script) (tuning : Tuning) (s : ServerState) (c : ClientState) (x : Wiring) : Type 0 where
  pub window : tuning.window ≡ script_window script
  pub chunk : tuning.chunk ≡ script_chunk script
  pub fits : IsScript script
  pub server_rests : ServerRests s
  pub setting : s.end.serving.table.setting ≡ server_setting (stocked script.server script.left_server) (script_window script) (script_chunk script)
  pub server_entries : s.end.serving.table.entries ≡ []
  pub server_items : s.items ≡ []
  pub server_store : s.stored ≡ stocked script.server script.left_server
  pub server_fed : WasFed Server s.end []
  pub client_rests : ClientRests c
  pub client_entries : c.end.serving.table.entries ≡ []
  pub client_items : c.items ≡ []
  pub client_store : c.stored ≡ stocked script.client script.left_client
  pub client_fed : WasFed Client c.end []
  pub wires : x ≡ record { losses = script.losses; to_server = new_link; to_client = new_link; numbered = [] }
