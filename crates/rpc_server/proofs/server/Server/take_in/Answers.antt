use Rattle.std.proofs.Common.{◌≡◌, true, Err, sym, subst}
use Rattle.rpc_journal.specs.Changes.{ArriveDid}
use Rattle.rpc_schedule.specs.Serving.{is_idle}
use Rattle.rpc_schedule.proofs.ends.FedLemmas.{no_queue_full}
use Rattle.rpc_server.proofs.server.Server.take_in.Goals as goal

pub unreachable-requires : goal.unreachable-requires
unreachable-requires g c =
    no_queue_full _ _ _ c.self.inside.calls c.self.inside.kept _ c.in-Some.packet c.in-Err-QueueFull.field-0-0 c.arrive.new.self.entries c.self.invariant.0
    (subst (λ s. is_idle s.serving ≡ true) (sym c.self.view_is) c.requires.idle)
    (subst (λ e. ArriveDid c.self.inside.calls.setting 0 c.in-Some.packet (Err e) c.self.inside.calls.entries c.arrive.new.self.entries) c.in-Err-QueueFull.field-0-is c.in-Err-QueueFull.ensures.did)
