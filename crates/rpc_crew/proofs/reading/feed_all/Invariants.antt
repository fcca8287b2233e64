use Rattle.std.proofs.Common.{◌≡◌, ℕ, ◌-◌, ◌≤◌, List, ◌++◌, length, take}
use Rattle.turn_cell.specs.Passes.{IsSame}
use Rattle.rpc_ids.specs.declared.method.Role.TheVariants.{Server}
use Rattle.rpc_shared.specs.session.Crew.{Fed, Reader}
use Rattle.rpc_crew.proofs.reading.feed_all.Given as goal

abbrev pub invariant-frames : goal.invariant-frames
invariant-frames g l = record {
  within : l.done ≤ length l.piece;
  reader : Reader g.M.H.Handler.rule l.shared l.pass;
  same : IsSame l.fn.pass l.pass;
  role : l.listener.role ≡ Server;
  fed : (bytes : List ℕ) → Fed l.fn.listener l.fn.pass bytes → Fed l.listener l.pass (bytes ++ take l.done l.piece);
}

abbrev pub decreases-frames : goal.decreases-frames
decreases-frames g l = length l.piece - l.done
