-- Why a world has no outcome, by why an end stops.
use Rattle.link_world.specs.declared.server.stopped.Stopped.{Stopped}
use Rattle.link_world.specs.declared.server.stopped.Stopped.TheVariants as stopped
use Rattle.link_world.specs.declared.outcome.WorldRefused.{WorldRefused}
use Rattle.link_world.specs.declared.outcome.WorldRefused.TheVariants.{Journal, Memory}

abbrev pub refused_by : Stopped → WorldRefused
refused_by stopped.Journal = Journal
refused_by stopped.Memory = Memory
