-- The laws of the stream. Each is the contract of a public function of `laws`.
use Rattle.std.specs.Prelude.{◌≡◌, ℕ, ◌+◌, ◌++◌}
use Rattle.rpc_frames.specs.Heard.{heard_packets}
use Rattle.rpc_frames.specs.Written.{frames_of_packets}
use Rattle.rpc_ids.specs.declared.method.Role.TheVariants.{Server}
use Rattle.link_script.specs.Generator.{number_after}
use Rattle.load_stream.specs.Load.{call_packets, load_packets, load_stream}

-- with one call more the stream goes on by the frames of that call
abbrev pub GoesOn : ℕ → ℕ → Type 0
GoesOn calls seed =
    load_stream (calls + 1) seed ≡ load_stream calls seed ++ frames_of_packets (call_packets calls (number_after (calls + 1) seed))

-- a server hears in the stream the packets of its calls and no other
abbrev pub IsHeard : ℕ → ℕ → Type 0
IsHeard calls seed = heard_packets Server (load_stream calls seed) ≡ load_packets calls seed
