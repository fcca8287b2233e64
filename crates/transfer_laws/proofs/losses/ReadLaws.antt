-- A read ends in time, whatever is lost, and it ends well where one of its first four rounds is clean.
use Rattle.std.proofs.Common.{◌≡◌, ℕ, ◌+◌, ◌*◌, ◌≤◌, ◌⊎◌, inl, inr, Bool, List, length, Some, refl, sym, ap, subst, arith}
use Rattle.link_io.specs.Resources.{first_of}
use Rattle.rpc_ids.specs.declared.Status.TheVariants.{Okay, DeadlineExceeded}
use Rattle.transfer_base.specs.declared.limits.TheConstants.{MAX_RESOURCE, TIMEOUT}
use Rattle.transfer_resume.specs.declared.side.Side.TheVariants.{Read}
use Rattle.transfer_resume.specs.declared.stage.Stage.TheVariants as stage
use Rattle.transfer_resume.specs.Session.{Service}
use Rattle.transfer_client.specs.Read.{Download, new_download, read_rules}
use Rattle.transfer_laws.specs.pairs.Bound.{need}
use Rattle.transfer_laws.specs.pairs.EndsWell.{IsTuning, read_ended}
use Rattle.transfer_laws.specs.pairs.Pair.{TakesInSilence}
use Rattle.transfer_laws.proofs.pairs.Grid.{grid}
use Rattle.transfer_laws.specs.losses.Drops.{LossyPair, at_time, begun}
use Rattle.transfer_laws.specs.losses.InTime.{EndsInTime, EndsSo, LosesConfirmation, ReadsEndInTime, excused, late, read_turns, well}
use Rattle.transfer_laws.specs.losses.Survives.{EndsWell, KeepsARoundClean, ReadsSurvive, SparesConfirmations}
use Rattle.transfer_laws.proofs.losses.Grid.{Setup}
use Rattle.transfer_laws.proofs.losses.Rounds.{at_most, each_lossy, is_soon}
use Rattle.transfer_laws.proofs.losses.ReadEnds.{ends_somehow}
use Rattle.transfer_laws.proofs.losses.ReadTelling.{Ending, HasWaited, Outcome, known, unconfirmed, waited}

module _ (service : Service) (loses : ℕ → Bool) (since resource offset window chunk : ℕ) (bytes : List ℕ) (listed : first_of resource service.shelf.full ≡ Some bytes) (tuning : IsTuning window chunk)
    (size : length bytes ≤ MAX_RESOURCE) (within : offset ≤ length bytes) where
  abbrev k : Service
  k = record { side = Read; shelf = service.shelf; window = service.window; chunk = service.chunk; time = service.time }

  abbrev d : Download
  d = new_download resource offset window chunk

  abbrev turns : ℕ
  turns = read_turns (need (length bytes) offset chunk)

  module _ (time : ℕ) where
    abbrev w : LossyPair Download
    w = begun k read_rules loses since time d

    outcome : Outcome k loses since (read_ended d offset) (since + TIMEOUT * turns) w
    outcome =
        let x : Setup = record { bytes = bytes; chunk = chunk; offset = offset; some = tuning.chunk_low; high = tuning.chunk_high; size = size; within = within } in
        let pieces = grid (length bytes) offset chunk tuning.chunk_low within in
        ends_somehow x service.shelf service.window service.chunk service.time loses since (since + TIMEOUT * turns) resource window listed tuning.window_low tuning.window_high (need (length bytes) offset chunk) pieces.some pieces.outer time
        (omega arith)

    pub in_time : EndsInTime k read_rules loses (LosesConfirmation k read_rules loses w) since turns 0 w
    in_time = record { many = outcome.many; last = outcome.last; way = outcome.way; in_time = omega (arith, outcome.in_time); ending = by outcome.ending }
      where
        by_status : (is : HasWaited k loses since (read_ended d offset) outcome.last)
            → (read_rules.end_of outcome.last.pair.client ≡ Some Okay) ⊎ (read_rules.end_of outcome.last.pair.client ≡ Some DeadlineExceeded) → EndsSo k read_rules loses (LosesConfirmation k read_rules loses w) since turns outcome.last
        by_status is (inl ends) = well ends outcome.in_time (each_lossy is.passed)
        by_status is (inr ends) = late ends (λ number less. is.passed.each number (omega (arith, less, is.many)))

        by : Ending k loses since (read_ended d offset) w outcome.last → EndsSo k read_rules loses (LosesConfirmation k read_rules loses w) since turns outcome.last
        by (known is) = well (ap read_rules.end_of is.client) outcome.in_time (each_lossy is.passed)
        by (waited is) = by_status is is.ends
        by (unconfirmed is) = excused is.ends (record { count = is.count; mid = is.mid; way = is.way; lost = is.lost })

    pub survives : KeepsARoundClean k read_rules loses since w → SparesConfirmations k read_rules loses since w → EndsWell k read_rules loses since w (read_ended d offset)
    survives clean spares = by outcome.ending
      where
        by : Ending k loses since (read_ended d offset) w outcome.last → EndsWell k read_rules loses since w (read_ended d offset)
        by (known is) = record {
          many = outcome.many;
          last = outcome.last;
          way = outcome.way;
          client = is.client;
          to_client = is.to_client;
          session = Some (stage.Ended Okay);
          server = subst (λ ws. TakesInSilence (at_time k outcome.last.time) outcome.last.pair.server ws (Some (stage.Ended Okay))) (sym is.to_server) is.server;
          stood = refl;
          soon = is_soon (clean outcome.many outcome.last outcome.way) is.passed;
          lossy = each_lossy is.passed;
        }
        by (waited is) = absurd (omega (arith, is.many, at_most (clean outcome.many outcome.last outcome.way) is.passed))
        by (unconfirmed is) = absurd (is.lost (spares is.count is.mid is.way (is_soon (clean is.count is.mid is.way) is.passed)))

same_service : (service : Service) → service.side ≡ Read → record { side = Read; shelf = service.shelf; window = service.window; chunk = service.chunk; time = service.time } ≡ service
same_service service side = ap (λ z. record { side = z; shelf = service.shelf; window = service.window; chunk = service.chunk; time = service.time }) (sym side)

pub reads_survive : ReadsSurvive
reads_survive service loses now time resource offset window chunk bytes side listed tuning size within =
    let d : Download = new_download resource offset window chunk in
    subst
    (λ s. KeepsARoundClean s read_rules loses now (begun s read_rules loses now time d) → SparesConfirmations s read_rules loses now (begun s read_rules loses now time d)
    → EndsWell s read_rules loses now (begun s read_rules loses now time d) (read_ended d offset))
    (same_service service side) (survives service loses now resource offset window chunk bytes listed tuning size within time)

pub reads_end_in_time : ReadsEndInTime
reads_end_in_time service loses now time resource offset window chunk bytes side listed tuning size within =
    let d : Download = new_download resource offset window chunk in
    subst (λ s. EndsInTime s read_rules loses (LosesConfirmation s read_rules loses (begun s read_rules loses now time d)) now (read_turns (need (length bytes) offset chunk)) 0 (begun s read_rules loses now time d)) (same_service service side)
    (in_time service loses now resource offset window chunk bytes listed tuning size within time)
