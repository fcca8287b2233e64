use Rattle.std.proofs.Common.{ℕ, ◌-◌, ◌≤◌, ◌<◌, List, ◌++◌, length, take, Option, IfSome, Some}
use Rattle.link_io.specs.Stored.{Stored}
use Rattle.rpc_ids.specs.declared.method.Role.TheVariants.{Client as client_role}
use Rattle.rpc_journal.specs.Calls.{call_count}
use Rattle.rpc_schedule.specs.Kept.{Holds}
use Rattle.rpc_schedule.specs.Serving.{deeds}
use Rattle.rpc_schedule.specs.ends.EndState.{WasFed}
use Rattle.link_world.specs.server.Resting.{IsResting}
use Rattle.link_world.specs.server.GoesOut.{GoesOut}
use Rattle.link_world.specs.client.Underway.{call_seen, last_poll}
use Rattle.link_world.specs.client.Working.{IsKept, ClientTakesMore}
use Rattle.link_world.proofs.client.working.feed_all.Given as goal

abbrev pub invariant-frames : goal.invariant-frames
invariant-frames l = record {
  within : l.done ≤ length l.frame;
  rest : IsResting l.desk.client.serving;
  kept : IsKept l.desk.client.serving l.desk.items.items l.desk.events.items;
  takes : ClientTakesMore l.now l.fn.desk.client.serving l.fn.under l.desk.client.serving l.under;
  there : IfSome (call_seen l.under) (λ c. c < call_count (deeds l.desk.client.serving));
  past : last_poll l.under ≤ l.now;
  out : GoesOut client_role l.fn.desk.items.items l.fn.wires l.desk.items.items l.wires;
  holds : (st : Option Stored) → Holds l.fn.desk.items.items st (Some l.fn.desk.store) → Holds l.desk.items.items st (Some l.desk.store);
  fed : (bytes : List ℕ) → WasFed client_role l.fn.desk.client bytes → WasFed client_role l.desk.client (bytes ++ take l.done l.frame);
}

abbrev pub decreases-frames : goal.decreases-frames
decreases-frames l = length l.frame - l.done
