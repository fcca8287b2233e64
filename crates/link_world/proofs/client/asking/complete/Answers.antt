use Rattle.std.proofs.Common.{refl}
use Rattle.rpc_journal.specs.declared.entry.EntryKind.TheVariants.{Done}
use Rattle.link_world.proofs.client.AskLemmas.{adds_one}
use Rattle.link_world.proofs.RoomLemmas.{done_unfull}
use Rattle.rpc_ids.specs.declared.status.Status.TheVariants.{Okay}
use Rattle.rpc_packet.specs.declared.packet_type.PacketType.TheVariants.{Completion}
use Rattle.rpc_journal.specs.Calls.{call_at, call_count}
use Rattle.rpc_journal.specs.Rows.{packet_item, says_item, status_packet}
use Rattle.rpc_schedule.specs.Serving.{deeds}
use Rattle.link_world.proofs.client.NumberLemmas.{said_opens}
use Rattle.link_world.proofs.client.IdleLemmas.{done_says}
use Rattle.link_world.proofs.client.asking.complete.Goals as goal

pub returns-in-Ok-clause-adds : goal.returns-in-Ok-clause-adds
returns-in-Ok-clause-adds c =
    adds_one c.args.client.now c.done.new.self (Done c.args.call) c.done.ensures.aside c.in-Ok.ensures.did.adds c.requires.orderly
    (done_unfull c.args.client.now.serving.table.setting c.args.client.now.serving.table.entries c.args.call c.in-Ok.ensures.did.unrefused) (λ k. refl) (λ k. refl) (λ k. refl) refl refl refl (done_says c.args.client.now.serving.table.setting (deeds c.args.client.now.serving) c.args.call) refl
    (said_opens (call_count (deeds c.args.client.now.serving)) (call_at (deeds c.args.client.now.serving) c.args.call) (λ o. says_item (packet_item c.args.call (status_packet Completion o.name Okay))) (λ o. refl))
