-- The first half of the work of an end.
use Rattle.std.specs.Prelude.{◌≡◌, Bool, true, false, ◌⊎◌, is_some, Result, Ok, Err}
use Rattle.rpc_journal.specs.declared.answers.StartRefused.{StartRefused}
use Rattle.rpc_journal.specs.declared.answers.StartRefused.TheVariants.{JournalFull, Memory}
use Rattle.rpc_schedule.specs.Serving.{Begins, HasNoRoom, HasNoWork, Serving}

-- a run is kept, or begins and is kept; or there is nothing to run, or no room or no memory for a run
abbrev pub TakesRun : Serving → Result Bool StartRefused → Serving → Type 0
TakesRun old (Ok true) new = ((is_some old.kept ≡ true) × (new ≡ old)) ⊎ Begins old new
TakesRun old (Ok false) new = HasNoWork old new
TakesRun old (Err JournalFull) new = HasNoRoom old new
TakesRun old (Err Memory) new = new ≡ old
