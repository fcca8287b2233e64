use Rattle.std.proofs.Common.{◌≡◌, ◌&&◌, not, [], take}
use Rattle.rpc_journal.specs.Calls.{calls, has_end}
use Rattle.rpc_journal.specs.Entries.{made_from}
use Rattle.rpc_schedule.specs.Serving.{deeds}
use Rattle.link_laws.specs.world.Starts.{is_transfer_by}
use Rattle.link_world.proofs.client.asking.live_call.Given as goal

abbrev pub invariant-calls : goal.invariant-calls
invariant-calls l =
    made_from 0 (λ c o. is_transfer_by l.method o && not (has_end (deeds l.client.serving) c)) (λ c o. c) (take l.call (calls (deeds l.client.serving))) ≡ []
