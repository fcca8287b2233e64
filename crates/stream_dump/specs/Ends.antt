-- Why a dump may end.
use Rattle.link_io.specs.declared.why.Why.{Why}
use Rattle.link_io.specs.declared.why.Why.TheVariants.{Settled, Source, Sink, InputLimit}

abbrev pub IsEnding : Why → Type 0
IsEnding Settled = Unit {0}
IsEnding Source = Unit {0}
IsEnding Sink = Unit {0}
IsEnding InputLimit = Unit {0}
IsEnding _ = ⊥
