use Rattle.std.proofs.Common.{◌≡◌, [], flat_map, take}
use Rattle.rpc_journal.specs.Calls.{of_call}
use Rattle.link_laws.specs.world.Lines.{message_in}
use Rattle.link_world.proofs.client.questions.first_message.Given as goal

abbrev pub invariant-events : goal.invariant-events
invariant-events l = flat_map message_in (of_call l.call (take l.of-index l.events)) ≡ []
