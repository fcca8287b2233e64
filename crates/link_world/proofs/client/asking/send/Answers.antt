use Rattle.std.proofs.Common.{refl}
use Rattle.rpc_handlers.specs.declared.answer.Out.TheVariants.{Say as Message}
use Rattle.rpc_journal.specs.declared.entry.EntryKind.TheVariants.{Say}
use Rattle.link_world.proofs.client.AskLemmas.{adds_one}
use Rattle.link_world.proofs.RoomLemmas.{said_unfull}
use Rattle.rpc_journal.specs.Calls.{call_at, call_count}
use Rattle.rpc_journal.specs.Entries.{out_item}
use Rattle.rpc_journal.specs.Rows.{says_item}
use Rattle.rpc_schedule.specs.Serving.{deeds}
use Rattle.link_world.proofs.client.NumberLemmas.{said_opens}
use Rattle.link_world.proofs.client.IdleLemmas.{say_says}
use Rattle.link_world.proofs.client.SpeakLemmas.{said_can}
use Rattle.link_world.proofs.client.asking.send.Goals as goal

pub returns-in-Ok-clause-adds : goal.returns-in-Ok-clause-adds
returns-in-Ok-clause-adds c =
    adds_one c.args.client.now c.say.new.self (Say c.args.call (Message c.args.message)) c.say.ensures.aside c.in-Ok.ensures.did.adds c.requires.orderly
    (said_unfull c.args.client.now.serving.table.setting c.args.client.now.serving.table.entries c.args.call (Message c.args.message) c.in-Ok.ensures.did.unrefused) (λ k. refl) (λ k. refl) (λ k. refl) refl refl refl (say_says c.args.client.now.serving.table.setting (deeds c.args.client.now.serving) c.args.call (Message c.args.message)) refl
    (said_opens (call_count (deeds c.args.client.now.serving)) (call_at (deeds c.args.client.now.serving) c.args.call) (λ o. says_item (out_item c.args.client.now.serving.table.setting.role c.args.call o.name (Message c.args.message))) (λ o. refl))

pub returns-in-Ok-clause-speaks : goal.returns-in-Ok-clause-speaks
returns-in-Ok-clause-speaks c =
    said_can c.args.client.now.serving c.args.call c.requires.setting c.requires.speaks c.say.new.self.serving c.args.message (returns-in-Ok-clause-adds c)
