-- How the world of a script begins.
use Rattle.std.specs.Prelude.{ℕ, zero, suc, ◌/◌, ◌^◌, true, List, [], ◌∷◌, map, unwrap_or}
use Rattle.link_io.specs.Resources.{Resources, with_resources}
use Rattle.link_io.specs.Stored.{Stored, shelf_of}
use Rattle.link_script.specs.declared.script.Script.{Script}
use Rattle.link_script.specs.declared.script.TheConstants.{DEFAULT_CHUNK, DEFAULT_WINDOW}
use Rattle.link_script.specs.declared.stock.Stock.{Stock}
use Rattle.link_script.specs.Generator.{number_behind}
use Rattle.rpc_ids.specs.declared.method.Role.TheVariants.{Server, Client}
use Rattle.rpc_handlers.specs.HandlerRule.{HandlerRule, empty_memo}
use Rattle.rpc_journal.specs.declared.setting.Setting.{Setting}
use Rattle.demo_services.specs.Answers.{empty_answer}
use Rattle.demo_services.specs.DemoRule.{demo_rule}
use Rattle.demo_services.specs.Methods.{demo_methods}
use Rattle.demo_services.specs.Transfer.{demo_seed}
use Rattle.link_laws.specs.world.World.{Setup}

-- so many bytes: each is the top byte of the next number that the generator gives, from a seed on
abbrev pub made_bytes : ℕ → ℕ → List ℕ
made_bytes zero x = []
made_bytes (suc n) x = number_behind x / 2 ^ 56 ∷ made_bytes n (number_behind x)

abbrev pub made_resources : List Stock → Resources
made_resources stocks = map (λ s. (s.id, made_bytes s.len s.seed)) stocks

-- a store with these whole resources, and these that were left
abbrev pub stocked : List Stock → List Stock → Stored
stocked full left = record { full = with_resources (made_resources full) []; left = with_resources (made_resources left) []; work = [] }

-- the client's handlers answer nothing: what comes to a call is for the task that speaks through it
abbrev pub quiet_rule : HandlerRule
quiet_rule = record { ruled = true; answer = λ state event. empty_answer; next = λ state event. state; first = λ seed method. empty_memo }

abbrev pub world_channels : List ℕ
world_channels = 1 ∷ 2 ∷ 3 ∷ 4 ∷ 5 ∷ 6 ∷ 7 ∷ 8 ∷ []

-- the server lists its store once, before anything happens
abbrev pub server_setting : Stored → ℕ → ℕ → Setting
server_setting store window chunk =
    record { role = Server; channels = world_channels; registry = demo_methods; seed = demo_seed (shelf_of store) window chunk }

abbrev pub client_setting : Setting
client_setting = record { role = Client; channels = world_channels; registry = demo_methods; seed = empty_memo }

abbrev pub script_chunk : Script → ℕ
script_chunk s = unwrap_or s.chunk DEFAULT_CHUNK

abbrev pub script_window : Script → ℕ
script_window s = unwrap_or s.window DEFAULT_WINDOW

abbrev pub setup_of : Script → Setup
setup_of s = record {
  rule = demo_rule;
  server = server_setting (stocked s.server s.left_server) (script_window s) (script_chunk s);
  client = client_setting;
  server_store = stocked s.server s.left_server;
  client_store = stocked s.client s.left_client;
  losses = s.losses;
  window = script_window s;
  chunk = script_chunk s;
}
