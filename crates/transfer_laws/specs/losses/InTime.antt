-- How a transfer ends, and when at the latest, however many words are lost.
use Rattle.std.specs.Prelude.{◌≡◌, ℕ, ◌+◌, ◌*◌, ◌<◌, ◌≤◌, Bool, true, List, length, Some}
use Rattle.std.specs.List.{AllByRecursion}
use Rattle.link_io.specs.Resources.{first_of}
use Rattle.rpc_ids.specs.declared.Status.TheVariants.{Okay, DeadlineExceeded}
use Rattle.transfer_base.specs.declared.limits.TheConstants.{MAX_RESOURCE, TIMEOUT}
use Rattle.transfer_resume.specs.declared.side.Side.TheVariants.{Read, Write}
use Rattle.transfer_resume.specs.Opening.{agreed_offset}
use Rattle.transfer_resume.specs.Session.{Service}
use Rattle.transfer_client.specs.Machine.{Rules}
use Rattle.transfer_client.specs.Read.{new_download, read_rules}
use Rattle.transfer_client.specs.Write.{new_upload, write_rules}
use Rattle.transfer_laws.specs.pairs.Bound.{need}
use Rattle.transfer_laws.specs.pairs.EndsWell.{IsTuning}
use Rattle.transfer_laws.specs.losses.Drops.{LeadsTo, LossyPair, begun}
use Rattle.transfer_laws.specs.losses.Rounds.{is_lossy, moment_of}
use Rattle.transfer_laws.specs.losses.Survives.{IsNoConfirmation}

-- the turns of time that a read of so many pieces takes at most: three for the opening, three for each piece, four at the end
abbrev pub read_turns : ℕ → ℕ
read_turns pieces = 3 * pieces + 7

-- those of a write with OK: three for its opening and three for the confirmation, three for each piece, three at the end
abbrev pub write_turns : ℕ → ℕ
write_turns pieces = 3 * pieces + 9

-- and those that its client waits for more
abbrev pub WRITE_WAITS : ℕ
WRITE_WAITS = 2

-- the rounds that are lossy where an end gives up
abbrev pub GIVES_UP : ℕ
GIVES_UP = 4

module _ {C : Type 0} (service : Service) (rules : Rules C) (loses : ℕ → Bool) where
  -- each round before this pair's has lost a word
  abbrev pub AreLossyBefore : ℕ → LossyPair C → Type 0
  AreLossyBefore since w = (number : ℕ) → moment_of since number < w.now → is_lossy w.lost (moment_of since number) ≡ true

  -- each of the first four rounds has
  abbrev pub AreFirstLossy : ℕ → LossyPair C → Type 0
  AreFirstLossy since w = (number : ℕ) → number < GIVES_UP → is_lossy w.lost (moment_of since number) ≡ true

  -- a confirmation is lost in the run
  pub record LosesConfirmation (w : LossyPair C) : Type 0 where
    pub count : ℕ
    pub mid : LossyPair C
    pub way : LeadsTo service rules loses count w mid
    pub lost : AllByRecursion IsNoConfirmation mid.lost → ⊥

  -- The client ends with OK within so many turns of time, behind as many as rounds were lossy; or with DEADLINE_EXCEEDED, where each
  -- of the first four rounds was, or where this excuses it.
  pub data EndsSo (Excuse : Type 0) (since turns : ℕ) (last : LossyPair C) : Type 0 where
    well : rules.end_of last.pair.client ≡ Some Okay → last.now ≤ since + TIMEOUT * turns → AreLossyBefore since last → EndsSo Excuse since turns last
    late : rules.end_of last.pair.client ≡ Some DeadlineExceeded → AreFirstLossy since last → EndsSo Excuse since turns last
    excused : rules.end_of last.pair.client ≡ Some DeadlineExceeded → Excuse → EndsSo Excuse since turns last

  -- and it does so within so many more at most
  pub record EndsInTime (Excuse : Type 0) (since turns more : ℕ) (w : LossyPair C) : Type 0 where
    pub many : ℕ
    pub last : LossyPair C
    pub way : LeadsTo service rules loses many w last
    pub in_time : last.now ≤ since + TIMEOUT * (turns + more)
    pub ending : EndsSo Excuse since turns last

-- EACH READ ENDS IN TIME, whatever is lost, of a resource that the service lists, from an offset that isn't past its end
abbrev pub ReadsEndInTime : Type 0
ReadsEndInTime =
    (service : Service) (loses : ℕ → Bool) (now time resource offset window chunk : ℕ) (bytes : List ℕ) → service.side ≡ Read → first_of resource service.shelf.full ≡ Some bytes
    → IsTuning window chunk → length bytes ≤ MAX_RESOURCE → offset ≤ length bytes
    → let w = begun service read_rules loses now time (new_download resource offset window chunk) in
    EndsInTime service read_rules loses (LosesConfirmation service read_rules loses w) now (read_turns (need (length bytes) offset chunk)) 0 w

-- EACH WRITE ENDS IN TIME, from an offset that isn't past the end of its bytes; nothing excuses it
abbrev pub WritesEndInTime : Type 0
WritesEndInTime =
    (service : Service) (loses : ℕ → Bool) (now time resource offset : ℕ) (bytes : List ℕ) → service.side ≡ Write
    → IsTuning service.window service.chunk → length bytes ≤ MAX_RESOURCE → offset ≤ length bytes → time ≤ now
    → let agreed = agreed_offset service.shelf resource offset in
    EndsInTime service write_rules loses ⊥ now (write_turns (need (length bytes) agreed service.chunk)) WRITE_WAITS (begun service write_rules loses now time (new_upload resource bytes offset))
