use Rattle.std.proofs.Common.{◌≡◌, ◌+◌, ◌-◌, ◌≤◌, ◌∙◌, ap, subst, take, arith}
use Rattle.rpc_channel.specs.Rising.{with_id}
use Rattle.link_laws.specs.world.Setup.{world_channels}
use Rattle.link_world.proofs.server.ChannelLemmas.{channel_next}
use Rattle.link_world.proofs.server.channels.world_channels.Goals as goal

pub loop-id-preserved : goal.loop-id-preserved
loop-id-preserved c =
    let id = c.loop-id.id in
    let within : id ≤ 8 = omega (arith, c.loop-id-test.true) in
    let back : id - 1 + 1 ≡ id = omega (arith, c.loop-id.invariant.0) in
    let next = channel_next (id - 1) (omega (arith, within, c.loop-id.invariant.0)) in (
      omega arith,
      omega (arith, within),
      c.in_ok-add.ensures ∙ ap (with_id id) c.loop-id.invariant.2 ∙
          subst (λ n. with_id n (take (id - 1) world_channels) ≡ take n world_channels) back next ∙
          ap (λ n. take n world_channels) (omega arith),
    )
