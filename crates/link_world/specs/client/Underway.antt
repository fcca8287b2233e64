-- The command under way, as the client keeps it.
use Rattle.std.specs.Prelude.{ℕ, Option, Some, None, option_map, option_and_then}
use Rattle.link_laws.specs.world.World as world
use Rattle.link_laws.specs.world.World.{task_under}
use Rattle.link_world.specs.declared.client.under.Plain.{Plain}
use Rattle.link_world.specs.declared.client.under.Plain.TheVariants.{Echo, Count, Sum, Chat}
use Rattle.link_world.specs.declared.client.under.Under.{Under}
use Rattle.link_world.specs.declared.client.under.Under.TheVariants.{Transferring, Lacking, Calling, Closing}

abbrev pub plain_of : Plain → world.Plain
plain_of Echo = world.echo
plain_of Count = world.count
plain_of Sum = world.sum
plain_of Chat = world.chat

abbrev pub under_of : Under → world.Under
under_of (Transferring speaker) = world.transferring speaker.task
under_of (Lacking resource) = world.lacking resource
under_of (Calling plain call) = world.calling (plain_of plain) call
under_of (Closing channel ended) = world.closing channel ended

abbrev pub under_seen : Option Under → Option world.Under
under_seen under = option_map under_of under

-- the task that speaks
abbrev pub task_seen : Option Under → Option world.Tasked
task_seen under = task_under (under_seen under)

-- when the task was polled last
abbrev pub last_poll : Option Under → ℕ
last_poll (Some (Transferring speaker)) = speaker.polled_at
last_poll _ = 0

-- the call of the client that a command is about
abbrev pub call_under : world.Under → Option ℕ
call_under (world.transferring task) = Some task.call
call_under (world.calling plain call) = Some call
call_under _ = None

abbrev pub call_seen : Option Under → Option ℕ
call_seen under = option_and_then call_under (under_seen under)
