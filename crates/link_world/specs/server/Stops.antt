-- Why an end stops, by why its table refuses.
use Rattle.rpc_journal.specs.declared.answers.StartRefused.{StartRefused}
use Rattle.rpc_journal.specs.declared.answers.StartRefused.TheVariants as by
use Rattle.link_world.specs.declared.server.stopped.Stopped.{Stopped}
use Rattle.link_world.specs.declared.server.stopped.Stopped.TheVariants.{Journal, Memory}

abbrev pub stopped_by : StartRefused → Stopped
stopped_by by.JournalFull = Journal
stopped_by by.Memory = Memory
