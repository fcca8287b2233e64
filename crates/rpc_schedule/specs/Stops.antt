-- Why a server stopped, by what was refused.
use Rattle.link_io.specs.declared.store.StoreRefused.{StoreRefused}
use Rattle.link_io.specs.declared.store.StoreRefused.TheVariants.{Failed}
use Rattle.link_io.specs.declared.store.StoreRefused.TheVariants as store
use Rattle.rpc_journal.specs.declared.answers.StartRefused.{StartRefused}
use Rattle.rpc_journal.specs.declared.answers.StartRefused.TheVariants.{JournalFull}
use Rattle.rpc_journal.specs.declared.answers.StartRefused.TheVariants as start
use Rattle.rpc_schedule.specs.declared.stop.Stop.{Stop}
use Rattle.rpc_schedule.specs.declared.stop.Stop.TheVariants as stop

-- by the journal, or for want of memory
abbrev pub stop_of : StartRefused → Stop
stop_of JournalFull = stop.Journal
stop_of start.Memory = stop.Memory

-- by the store
abbrev pub stop_by_store : StoreRefused → Stop
stop_by_store Failed = stop.Store
stop_by_store store.Memory = stop.Memory
