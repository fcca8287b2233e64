-- A write ends in time, whatever is lost, and it ends well where one of its first four rounds is clean.
use Rattle.std.proofs.Common.{◌≡◌, ℕ, ◌+◌, ◌*◌, ◌≤◌, Bool, List, length, refl, sym, ap, subst, arith}
use Rattle.transfer_base.specs.declared.limits.TheConstants.{MAX_RESOURCE, TIMEOUT}
use Rattle.transfer_resume.specs.declared.side.Side.TheVariants.{Write}
use Rattle.transfer_resume.specs.Opening.{agreed_offset}
use Rattle.transfer_resume.specs.Session.{Service}
use Rattle.transfer_client.specs.Write.{Upload, new_upload, write_rules}
use Rattle.transfer_laws.specs.pairs.Bound.{need}
use Rattle.transfer_laws.specs.pairs.EndsWell.{IsTuning, write_ended}
use Rattle.transfer_laws.proofs.pairs.Grid.{grid}
use Rattle.transfer_laws.specs.losses.Drops.{LossyPair, begun}
use Rattle.transfer_laws.specs.losses.InTime.{EndsInTime, EndsSo, WRITE_WAITS, WritesEndInTime, late, well, write_turns}
use Rattle.transfer_laws.specs.losses.Rounds.{is_lossy, moment_of}
use Rattle.transfer_laws.specs.losses.Survives.{EndsWell, KeepsARoundClean, WritesSurvive}
use Rattle.transfer_laws.proofs.losses.Grid.{Setup}
use Rattle.transfer_laws.proofs.losses.Rounds.{both, each_lossy, is_soon}
use Rattle.transfer_laws.proofs.losses.WriteTelling.{Ending, HasWaited, Outcome, known, waited}
use Rattle.transfer_laws.proofs.losses.WriteEnds.{ends_somehow}

module _ (service : Service) (loses : ℕ → Bool) (since resource offset : ℕ) (bytes : List ℕ) (tuning : IsTuning service.window service.chunk) (size : length bytes ≤ MAX_RESOURCE) (within : offset ≤ length bytes) where
  abbrev k : Service
  k = record { side = Write; shelf = service.shelf; window = service.window; chunk = service.chunk; time = service.time }

  abbrev u : Upload
  u = new_upload resource bytes offset

  abbrev from : ℕ
  from = agreed_offset service.shelf resource offset

  abbrev turns : ℕ
  turns = write_turns (need (length bytes) from service.chunk)

  low : from ≤ offset
  low = omega arith

  module _ (time : ℕ) (punctual : time ≤ since) where
    abbrev w : LossyPair Upload
    w = begun k write_rules loses since time u

    abbrev limit : ℕ
    limit = since + TIMEOUT * (turns + WRITE_WAITS)

    outcome : Outcome k loses since limit (write_ended u from) w
    outcome =
        let inside : from ≤ length bytes = omega (arith, low, within) in
        let x : Setup = record { bytes = bytes; chunk = service.chunk; offset = from; some = tuning.chunk_low; high = tuning.chunk_high; size = size; within = inside } in
        let pieces = grid (length bytes) from service.chunk tuning.chunk_low inside in
        ends_somehow x service.shelf service.window service.time loses since limit resource offset refl low tuning.window_low tuning.window_high (need (length bytes) from service.chunk) pieces.some pieces.outer time punctual (omega arith)

    pub in_time : EndsInTime k write_rules loses ⊥ since turns WRITE_WAITS w
    in_time = record { many = outcome.many; last = outcome.last; way = outcome.way; in_time = outcome.in_time; ending = by outcome.ending }
      where
        by : Ending k loses since limit (write_ended u from) outcome.last → EndsSo k write_rules loses ⊥ since turns outcome.last
        by (known is) = well (ap write_rules.end_of is.client) (omega (arith, is.sooner)) (each_lossy is.passed)
        by (waited is) = late is.ends is.four

    pub survives : KeepsARoundClean k write_rules loses since w → EndsWell k write_rules loses since w (write_ended u from)
    survives clean = by outcome.ending
      where
        none_left : HasWaited k loses since limit (write_ended u from) outcome.last → ⊥
        none_left is =
            let c = clean outcome.many outcome.last outcome.way in both (is_lossy outcome.last.lost (moment_of since c.number)) (is.four c.number (omega (arith, c.early))) c.clean

        by : Ending k loses since limit (write_ended u from) outcome.last → EndsWell k write_rules loses since w (write_ended u from)
        by (known is) = record {
          many = outcome.many;
          last = outcome.last;
          way = outcome.way;
          client = is.client;
          to_client = is.to_client;
          session = is.session;
          server = is.server;
          stood = is.stood;
          soon = is_soon (clean outcome.many outcome.last outcome.way) is.passed;
          lossy = each_lossy is.passed;
        }
        by (waited is) = absurd (none_left is)

same_service : (service : Service) → service.side ≡ Write → record { side = Write; shelf = service.shelf; window = service.window; chunk = service.chunk; time = service.time } ≡ service
same_service service side = ap (λ z. record { side = z; shelf = service.shelf; window = service.window; chunk = service.chunk; time = service.time }) (sym side)

pub writes_survive : WritesSurvive
writes_survive service loses now time resource offset bytes side tuning size within punctual =
    let u : Upload = new_upload resource bytes offset in
    subst (λ s. KeepsARoundClean s write_rules loses now (begun s write_rules loses now time u) → EndsWell s write_rules loses now (begun s write_rules loses now time u) (write_ended u (agreed_offset service.shelf resource offset)))
    (same_service service side) (survives service loses now resource offset bytes tuning size within time punctual)

pub writes_end_in_time : WritesEndInTime
writes_end_in_time service loses now time resource offset bytes side tuning size within punctual =
    let u : Upload = new_upload resource bytes offset in
    subst (λ s. EndsInTime s write_rules loses ⊥ now (write_turns (need (length bytes) (agreed_offset service.shelf resource offset) service.chunk)) WRITE_WAITS (begun s write_rules loses now time u))
    (same_service service side) (in_time service loses now resource offset bytes tuning size within time punctual)
