use Rattle.std.proofs.Common.{◌≡◌, [], take}
use Rattle.std.specs.Prelude.{filter_map}
use Rattle.rpc_journal.specs.Calls.{calls, same_name}
use Rattle.rpc_journal.specs.Entries.{made_from}
use Rattle.rpc_schedule.specs.Serving.{deeds}
use Rattle.link_laws.specs.world.Committed.{committed}
use Rattle.link_world.proofs.server.server_end.ServerEnd.committed.Given as goal

abbrev pub invariant-calls : goal.invariant-calls
invariant-calls l =
    filter_map (committed l.self.items l.session) (made_from 0 (λ c o. same_name o.name l.name) (λ c o. c) (take l.call (calls (deeds l.self.end.serving)))) ≡ []
