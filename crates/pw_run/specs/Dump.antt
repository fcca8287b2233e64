-- What a run of `dump` read and wrote.
use Rattle.std.specs.Prelude.{◌≡◌, ℕ, List, ◌++◌, Option}
use Rattle.link_io.specs.declared.why.Why.{Why}
use Rattle.stream_dump.specs.Dumps.{Dumps}
use Rattle.stream_dump.specs.Ends.{IsEnding}
use Rattle.stream_dump.specs.Names.{Name, known_names}
use Rattle.pw_run.specs.declared.outcome.Outcome.{Outcome}
use Rattle.pw_run.specs.Outcome.{outcome_for}

-- The input was dumped, with these names in front of those that the program knows, and the outcome is that of the reason for which
-- that ended, which is no want of memory.
pub record DidDump (names : List Name) (left_old left_new written_old written_new : Option (List ℕ)) (outcome : Outcome) : Type 0 where
  pub why : Why
  pub own : outcome ≡ outcome_for why
  pub ending : IsEnding why
  pub dumps : Dumps (names ++ known_names) left_old left_new written_old written_new why
