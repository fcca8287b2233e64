-- What is written of a text.
use Rattle.std.specs.Prelude.{◌≡◌, ℕ, List, Option, ◌⊎◌}
use Rattle.std.specs.Io.KnownBytes.{Appends}
use Rattle.link_io.specs.Causes.{Rose}
use Rattle.link_io.specs.Device.{AppendsSome}
use Rattle.pw_run.specs.declared.outcome.Outcome.{Outcome}
use Rattle.pw_run.specs.declared.outcome.Outcome.TheVariants.{SinkFault}

-- the text was written whole, and the outcome is the one that belongs to it; or a beginning of it was, and the output
-- failed
abbrev pub Writes : Option (List ℕ) → Option (List ℕ) → List ℕ → Outcome → Outcome → Type 0
Writes old new text own outcome =
    ((outcome ≡ own) × Appends old new text) ⊎ ((outcome ≡ SinkFault) × AppendsSome old new text)

-- The same where the text's own outcome may be the fault of another sink: where it wasn't written whole, a call of the output failed,
-- and was counted.
abbrev pub WritesOrFails : Option (List ℕ) → Option (List ℕ) → ℕ → ℕ → List ℕ → Outcome → Outcome → Type 0
WritesOrFails old new failed_old failed_new text own outcome =
    ((outcome ≡ own) × Appends old new text) ⊎ ((outcome ≡ SinkFault) × AppendsSome old new text × Rose failed_old failed_new)
