use Rattle.std.proofs.Common.{ℕ, List, take}
use Rattle.rpc_ids.specs.declared.method.Role.TheVariants.{Client as client_role}
use Rattle.rpc_schedule.specs.ends.EndState.{WasFed}
use Rattle.link_laws.specs.world.Client.{all_said_in}
use Rattle.link_world.specs.client.Working.{ClientSays}
use Rattle.link_world.proofs.client.working.say_all.Given as goal

abbrev pub invariant-outs : goal.invariant-outs
invariant-outs l = record {
  says : ClientSays l.fn.client.serving (all_said_in l.fn.client.serving.table.setting l.call (take l.out-index l.outs) l.fn.client.serving.table.entries) l.client.serving;
  fed : (bytes : List ℕ) → WasFed client_role l.fn.client bytes → WasFed client_role l.client bytes;
}
