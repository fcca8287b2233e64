-- The exit statuses of the program.
use Rattle.std.specs.Prelude.{ℕ}
use Rattle.rpc_schedule.specs.declared.ending.Ending.{Ending}
use Rattle.rpc_schedule.specs.declared.ending.Ending.TheVariants as ended
use Rattle.link_io.specs.declared.why.Why.{Why}
use Rattle.link_io.specs.declared.why.Why.TheVariants as reason
use Rattle.pw_run.specs.declared.outcome.Outcome.{Outcome}
use Rattle.pw_run.specs.declared.outcome.Outcome.TheVariants.{Done, NoMemory, BadWords, SourceFault, SinkFault, StoreFault, LinkFault, BadLine, InputLimit, JournalLimit, FrameLimit, NotOkay}

abbrev pub code_of : Outcome → ℕ
code_of Done = 0
code_of NoMemory = 1
code_of BadWords = 2
code_of SourceFault = 3
code_of SinkFault = 4
code_of StoreFault = 5
code_of LinkFault = 6
code_of BadLine = 7
code_of InputLimit = 8
code_of JournalLimit = 8
code_of FrameLimit = 8
code_of NotOkay = 9

-- the outcome of a run whose stream ended so, and whose text was written whole
abbrev pub outcome_of : Ending → Outcome
outcome_of ended.AtEnd = Done
outcome_of ended.SourceFault = SourceFault
outcome_of ended.StoreFault = StoreFault
outcome_of ended.InputLimit = InputLimit
outcome_of ended.JournalLimit = JournalLimit

-- the outcome of a session that ended for this reason, and whose text was written whole
abbrev pub outcome_for : Why → Outcome
outcome_for reason.Settled = Done
outcome_for reason.Source = SourceFault
outcome_for reason.Sink = SinkFault
outcome_for reason.Store = StoreFault
outcome_for reason.InputLimit = InputLimit
outcome_for reason.JournalLimit = JournalLimit
outcome_for reason.Memory = NoMemory

-- The outcome of a run of `host` whose connection ended for this reason, and whose lines were written whole. Where that is the link's
-- own, its input's limit or its journal's, the run goes on.
abbrev pub hosted_outcome : Why → Outcome
hosted_outcome reason.Store = StoreFault
hosted_outcome reason.Memory = NoMemory
hosted_outcome _ = Done

-- with these outcomes nothing was written
abbrev pub IsSilent : Outcome → Type 0
IsSilent NoMemory = Unit {0}
IsSilent BadWords = Unit {0}
IsSilent _ = ⊥
