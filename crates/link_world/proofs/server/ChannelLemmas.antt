-- The channels of the demo service, one after another.
use Rattle.std.proofs.Common.{◌≡◌, ℕ, zero, suc, ◌+◌, ◌<◌, take, refl, arith}
use Rattle.rpc_channel.specs.Rising.{with_id}
use Rattle.link_laws.specs.world.Setup.{world_channels}

pub channel_next : (n : ℕ) → n < 8 → with_id (n + 1) (take n world_channels) ≡ take (n + 1) world_channels
channel_next zero below = refl
channel_next (suc zero) below = refl
channel_next (suc (suc zero)) below = refl
channel_next (suc (suc (suc zero))) below = refl
channel_next (suc (suc (suc (suc zero)))) below = refl
channel_next (suc (suc (suc (suc (suc zero))))) below = refl
channel_next (suc (suc (suc (suc (suc (suc zero)))))) below = refl
channel_next (suc (suc (suc (suc (suc (suc (suc zero))))))) below = refl
channel_next (suc (suc (suc (suc (suc (suc (suc (suc n)))))))) below = absurd (omega arith)
