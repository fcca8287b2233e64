-- Why a session ended.
use Rattle.std.specs.Prelude.{Option, Some, None}
use Rattle.link_io.specs.declared.reading.Ending.{Ending}
use Rattle.link_io.specs.declared.reading.Ending.TheVariants.{AtEnd, AtLimit, Failed}
use Rattle.link_io.specs.declared.why.Why.{Why}
use Rattle.link_io.specs.declared.why.Why.TheVariants.{Settled, Source, InputLimit, Memory}

-- as the reading of the source ended
abbrev pub reason_read : Option Ending → Why
reason_read (Some AtEnd) = Settled
reason_read (Some AtLimit) = InputLimit
reason_read (Some Failed) = Source
reason_read None = Memory

-- for the reason of the halt, where there is one
abbrev pub reason_of : Option Why → Option Ending → Why
reason_of (Some why) ending = why
reason_of None ending = reason_read ending
