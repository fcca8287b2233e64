use Rattle.std.proofs.Common.{◌≡◌, ◌≤◌, flat_map, length, take}
use Rattle.rpc_journal.specs.Calls.{of_call}
use Rattle.link_laws.specs.world.Lines.{message_in}
use Rattle.link_world.proofs.client.questions.count_messages.Given as goal

abbrev pub invariant-events : goal.invariant-events
invariant-events l = record {
  within : l.count ≤ l.of-index;
  counted : l.count ≡ length (flat_map message_in (of_call l.call (take l.of-index l.events)));
}
