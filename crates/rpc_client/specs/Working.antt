-- The work of a client: a run ends, and its event is handed on.
use Rattle.std.specs.Prelude.{◌≡◌, ℕ, ◌⊎◌, Option, Some, None, Result, Ok, Err}
use Rattle.rpc_handlers.specs.declared.event.Event.{Event}
use Rattle.rpc_handlers.specs.HandlerRule.{HandlerRule}
use Rattle.rpc_journal.specs.declared.answers.StartRefused.{StartRefused}
use Rattle.rpc_journal.specs.declared.answers.StartRefused.TheVariants.{JournalFull, Memory}
use Rattle.rpc_journal.specs.Queues.{taken_event}
use Rattle.rpc_schedule.specs.Serving.{Begins, Ends, HasNoRoom, HasNoWork, Serving, deeds}

-- the run that was kept ended, and this call and this event are those of the run
pub record HandsOn (rule : HandlerRule) (old : Serving) (handed : ℕ × Event) (new : Serving) : Type 0 where
  pub ends : Ends rule old new
  pub call : old.kept ≡ Some handed.0
  pub event : taken_event (deeds old) handed.0 ≡ Some handed.1

-- work: the kept run or else one of the first ready call ends, and its event is handed on, unless there is nothing to run
-- or no room. For want of memory nothing has changed, or a run began and is kept
abbrev pub WorksOn : HandlerRule → Serving → Result (Option (ℕ × Event)) StartRefused → Serving → Type 0
WorksOn rule old (Ok (Some handed)) new = HandsOn rule old handed new ⊎ ((begun : Serving) × Begins old begun × HandsOn rule begun handed new)
WorksOn rule old (Ok None) new = HasNoWork old new
WorksOn rule old (Err JournalFull) new = HasNoRoom old new
WorksOn rule old (Err Memory) new = (new ≡ old) ⊎ Begins old new
