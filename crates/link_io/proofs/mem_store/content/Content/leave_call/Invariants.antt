use Rattle.std.proofs.Common.{◌≡◌}
use Rattle.link_io.specs.Stored.{left_by_call}
use Rattle.link_io.proofs.mem_store.content.Content.leave_call.Given as goal

abbrev pub invariant-works : goal.invariant-works
invariant-works l = left_by_call l.call l.key-iterator l.left.entries ≡ left_by_call l.call l.fn.self.work l.fn.self.left
