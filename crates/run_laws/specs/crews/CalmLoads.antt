-- Generated loads are calm.
use Rattle.std.specs.Prelude.{◌≡◌, ℕ, ◌^◌, ◌<◌, true}
use Rattle.rpc_ids.specs.declared.method.Role.TheVariants.{Server}
use Rattle.rpc_channel.specs.Rising.{has_id}
use Rattle.rpc_frames.specs.Heard.{heard_packets}
use Rattle.rpc_journal.specs.declared.setting.Setting.{Setting}
use Rattle.demo_services.specs.DemoRule.{demo_rule}
use Rattle.demo_services.specs.Methods.{demo_methods}
use Rattle.load_stream.specs.declared.calls.TheConstants.{CHANNEL}
use Rattle.load_stream.specs.Load.{load_stream}
use Rattle.run_laws.specs.calm.Calm.{AreCalm}

-- a server of the demo service on the load's channel hears calm packets in the stream of so many calls from a seed
abbrev pub LoadsAreCalm : Type 0
LoadsAreCalm =
    (calls seed : ℕ) (set : Setting) → calls < 2 ^ 32 → set.role ≡ Server → set.registry ≡ demo_methods → has_id set.channels CHANNEL ≡ true
    → AreCalm demo_rule set (heard_packets Server (load_stream calls seed))
