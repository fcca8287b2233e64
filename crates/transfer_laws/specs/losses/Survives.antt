-- A transfer ends well where one of its first rounds loses no word, and so it does where it loses three.
use Rattle.std.specs.Prelude.{◌≡◌, ℕ, ◌+◌, ◌*◌, ◌≤◌, ◌<◌, ◌==◌, ◌||◌, min, Bool, true, false, List, [], ◌∷◌, length, Option, Some, None, Err}
use Rattle.std.specs.List.{AllByRecursion}
use Rattle.link_io.specs.Resources.{first_of}
use Rattle.rpc_ids.specs.declared.Status.{Status}
use Rattle.rpc_ids.specs.declared.Status.TheVariants.{Okay}
use Rattle.transfer_base.specs.declared.limits.TheConstants.{MAX_RESOURCE, TIMEOUT}
use Rattle.transfer_receiver.specs.declared.phase.Phase.TheVariants.{Completing}
use Rattle.transfer_words.specs.Word.{Word, confirmation}
use Rattle.transfer_resume.specs.declared.side.Side.TheVariants.{Read, Write}
use Rattle.transfer_resume.specs.declared.stage.Stage.{Stage}
use Rattle.transfer_resume.specs.declared.stage.Stage.TheVariants as stage
use Rattle.transfer_resume.specs.Opening.{agreed_offset, offer_of}
use Rattle.transfer_resume.specs.Session.{Service}
use Rattle.transfer_client.specs.Machine.{Rules}
use Rattle.transfer_client.specs.Read.{new_download, read_rules}
use Rattle.transfer_client.specs.Write.{new_upload, write_rules}
use Rattle.transfer_laws.specs.pairs.Pair.{TakesInSilence, turn}
use Rattle.transfer_laws.specs.pairs.EndsWell.{IsTuning, read_ended, read_refused, write_ended}
use Rattle.transfer_laws.specs.losses.Drops.{LeadsTo, Lost, LossyPair, at_time, begun, step, steps}
use Rattle.transfer_laws.specs.losses.Rounds.{HasCleanRound, LOSSY_ROUNDS, is_lossy, moment_of}

-- the session has ended OK, or has told so, and waits until that is acknowledged
abbrev pub HasEndedWell : Option Stage → Type 0
HasEndedWell None = ⊥
HasEndedWell (Some (stage.Opening o)) = ⊥
HasEndedWell (Some (stage.Sending s)) = ⊥
HasEndedWell (Some (stage.Receiving r)) = r.phase ≡ Completing Okay
HasEndedWell (Some (stage.Ended status)) = status ≡ Okay

-- the session has nothing to wait for but that its end is known
abbrev pub HasSettled : Stage → Type 0
HasSettled (stage.Opening o) = ⊥
HasSettled (stage.Sending s) = ⊥
HasSettled (stage.Receiving r) = r.phase ≡ Completing Okay
HasSettled (stage.Ended status) = Unit {0}

-- so it is, or it isn't there
abbrev pub IsSettled : Option Stage → Type 0
IsSettled None = Unit {0}
IsSettled (Some stage) = HasSettled stage

abbrev pub SaysNoConfirmation : Word → Type 0
SaysNoConfirmation (confirmation ask) = ⊥
SaysNoConfirmation _ = Unit {0}

abbrev pub IsNoConfirmation : Lost → Type 0
IsNoConfirmation lost = SaysNoConfirmation lost.word

-- the number is one of these
abbrev pub is_among : List ℕ → ℕ → Bool
is_among [] n = false
is_among (m ∷ ms) n = (m == n) || is_among ms n

module _ {C : Type 0} (service : Service) (rules : Rules C) (loses : ℕ → Bool) where
  -- however long it goes on, at most three words are lost
  abbrev pub LosesFew : LossyPair C → Type 0
  LosesFew w = (count : ℕ) → length (steps service rules loses count w).lost ≤ 3

  -- until the client has ended, one of the first four rounds is clean, however many words the others lose
  abbrev pub KeepsARoundClean : ℕ → LossyPair C → Type 0
  KeepsARoundClean since w = (count : ℕ) (last : LossyPair C) → LeadsTo service rules loses count w last → HasCleanRound since last.lost

  -- since this moment no more time has passed than one timeout for each word that was lost, and three at most
  abbrev pub IsSoon : ℕ → LossyPair C → Type 0
  IsSoon since w = w.now ≤ since + TIMEOUT * min LOSSY_ROUNDS (length w.lost)

  -- and until the client has ended, as long as it is soon, no confirmation is lost
  abbrev pub SparesConfirmations : ℕ → LossyPair C → Type 0
  SparesConfirmations since w = (count : ℕ) (last : LossyPair C) → LeadsTo service rules loses count w last → IsSoon since last → AllByRecursion IsNoConfirmation last.lost

  -- The client comes to this end, soon since a moment, and each round before the last one has lost a word. Nothing is on its way
  -- to it then, and what is on its way to the service is taken in silence: the session stands so behind it.
  pub record Ends (Stood : Option Stage → Type 0) (since : ℕ) (w : LossyPair C) (end : C) : Type 0 where
    pub many : ℕ
    pub last : LossyPair C
    pub way : LeadsTo service rules loses many w last
    pub client : last.pair.client ≡ end
    pub to_client : last.pair.to_client ≡ []
    pub session : Option Stage
    pub server : TakesInSilence (at_time service last.time) last.pair.server last.pair.to_server session
    pub stood : Stood session
    pub soon : IsSoon since last
    pub lossy : (number : ℕ) → moment_of since number < last.now → is_lossy last.lost (moment_of since number) ≡ true

  -- its session has ended well
  abbrev pub EndsWell : ℕ → LossyPair C → C → Type 0
  EndsWell = Ends HasEndedWell

-- EACH READ SURVIVES THREE LOSSY ROUNDS, of a resource that the service lists, from an offset that isn't past its end, where its
-- confirmation isn't lost
abbrev pub ReadsSurvive : Type 0
ReadsSurvive =
    (service : Service) (loses : ℕ → Bool) (now time resource offset window chunk : ℕ) (bytes : List ℕ) → service.side ≡ Read → first_of resource service.shelf.full ≡ Some bytes
    → IsTuning window chunk → length bytes ≤ MAX_RESOURCE → offset ≤ length bytes
    → let d = new_download resource offset window chunk in
    let w = begun service read_rules loses now time d in
    KeepsARoundClean service read_rules loses now w → SparesConfirmations service read_rules loses now w → EndsWell service read_rules loses now w (read_ended d offset)

-- EACH WRITE SURVIVES THREE LOSSY ROUNDS, from an offset that isn't past the end of its bytes
abbrev pub WritesSurvive : Type 0
WritesSurvive =
    (service : Service) (loses : ℕ → Bool) (now time resource offset : ℕ) (bytes : List ℕ) → service.side ≡ Write
    → IsTuning service.window service.chunk → length bytes ≤ MAX_RESOURCE → offset ≤ length bytes → time ≤ now
    → let u = new_upload resource bytes offset in
    let w = begun service write_rules loses now time u in
    KeepsARoundClean service write_rules loses now w → EndsWell service write_rules loses now w (write_ended u (agreed_offset service.shelf resource offset))

-- EACH READ THAT THE SERVICE CAN'T SERVE IS REFUSED all the same, of a resource that it doesn't list, or from an offset past the end
-- of one
abbrev pub RefusalsSurvive : Type 0
RefusalsSurvive =
    (service : Service) (loses : ℕ → Bool) (now time resource offset window chunk : ℕ) (status : Status) → service.side ≡ Read → offer_of service.shelf resource offset ≡ Err status
    → let d = new_download resource offset window chunk in
    let w = begun service read_rules loses now time d in
    KeepsARoundClean service read_rules loses now w → Ends service read_rules loses IsSettled now w (read_refused d status)

-- THREE LOSSES ARE SURVIVED, whichever they are: where at most three words are lost, one of the first four rounds is clean
abbrev pub FewLossesKeepARoundClean : {C : Type 0} → Rules C → Type 0
FewLossesKeepARoundClean {C} rules =
    (service : Service) (loses : ℕ → Bool) (since : ℕ) (w : LossyPair C) → LosesFew service rules loses w → KeepsARoundClean service rules loses since w

-- where the words of these numbers are lost, no more are
abbrev pub NumbersLoseFew : {C : Type 0} → Rules C → Type 0
NumbersLoseFew {C} rules =
    (service : Service) (numbers : List ℕ) (now time : ℕ) (t : C) (count : ℕ) → length (steps service rules (is_among numbers) count (begun service rules (is_among numbers) now time t)).lost ≤ length numbers

abbrev pub IsOnItsWay : List Word → List Word → Type 0
IsOnItsWay [] [] = ⊥
IsOnItsWay _ _ = Unit {0}

-- where nothing is lost, and a word is on its way, a step is a turn over links that lose nothing
pub record IsTurn {C : Type 0} (service : Service) (rules : Rules C) (w after : LossyPair C) : Type 0 where
  pub pair : turn (at_time service w.time) rules w.now w.pair ≡ Some after.pair
  pub lost : after.lost ≡ w.lost
  pub now : after.now ≡ w.now
  pub time : after.time ≡ w.time

abbrev pub StepsAreTurns : {C : Type 0} → Rules C → Type 0
StepsAreTurns {C} rules =
    (service : Service) (w : LossyPair C) → IsOnItsWay w.pair.to_server w.pair.to_client → IsTurn service rules w (step service rules (λ number. false) w)
