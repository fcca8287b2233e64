-- What is told of the run of a script.
use Rattle.std.specs.Prelude.{◌≡◌, ℕ, suc, ◌+◌, List, slice_get, Some, string_bytes}
use Rattle.link_script.specs.declared.command.Command.{Command}
use Rattle.link_script.specs.declared.script.Script.{Script}
use Rattle.link_script.specs.text.Report.{report_text}
use Rattle.link_laws.specs.world.Reports.{report_of}
use Rattle.link_laws.specs.world.Setup.{setup_of}
use Rattle.link_laws.specs.world.Sound.{IsSound}
use Rattle.link_laws.specs.world.Turns.{Turned}
use Rattle.link_laws.specs.world.World.{Setup, World, client_store, server_store}
use Rattle.link_laws.specs.plain_calls.Ended.{EndsSoon, HasEnded}
use Rattle.link_laws.specs.dropped_transfer.Dropped.{DropsChunks}
use Rattle.link_laws.specs.dropped_transfer.Rounds.{AreSparedBefore}
use Rattle.link_laws.specs.dropped_scripts.Losses.{HasEndedInRun}
use Rattle.link_laws.specs.one_run.InOrder.{HasAllArrived}
use Rattle.link_laws.specs.lossless_scripts.Lossless.{EndsAs, chunks_of}
use Rattle.link_laws.specs.lossless_scripts.Scripts.{BeginsFewWrites}
use Rattle.link_laws.specs.okay_means_bytes.Okay.{LinesHoldFrom, Throughout}
use Rattle.link_world.specs.declared.outcome.Outcome.{Outcome}
use Rattle.link_world.specs.Room.{StaysWithin}

-- the outcome is that of a run of these commands: both journals are its histories, the report is what is told of it and the text
-- the report's, and the stores hold what was kept
pub record IsRunBy (k : Setup) (commands : List Command) (outcome : Outcome) : Type 0 where
  pub now : World
  pub run : Turned k commands now
  pub report : outcome.report ≡ report_of k now
  pub text : string_bytes outcome.text ≡ report_text (report_of k now)
  pub server : outcome.server.entries ≡ now.server
  pub client : outcome.client.entries ≡ now.client
  pub server_store : outcome.server_store.stored ≡ server_store k now
  pub client_store : outcome.client_store.stored ≡ client_store k now

-- THE OUTCOME IS THAT OF THE RUN OF A SCRIPT
abbrev pub IsRunOf : Script → Outcome → Type 0
IsRunOf script outcome = IsRunBy (setup_of script) script.commands outcome

-- NEITHER JOURNAL WAS FULL where an entry wanted room
abbrev pub BothStayWithin : Outcome → Type 0
BothStayWithin outcome = StaysWithin outcome.server.entries × StaysWithin outcome.client.entries

-- the outcome is that of the run of a script, of whose last world this holds
pub record IsRunWith (Holds : Setup → List Command → World → Type 0) (script : Script) (outcome : Outcome) : Type 0 where
  pub run : IsRunOf script outcome
  pub holds : Holds (setup_of script) script.commands run.now

-- OK MEANS THE BYTES: each line with OK tells of a Commit of the session that its own command began, with the resource's bytes from
-- the line's offset on, and of the resource's length
abbrev pub LinesHold : Setup → List Command → World → Type 0
LinesHold k commands now = LinesHoldFrom k commands now 0 now.lines

-- so it is in each run in which, at each moment, what had arrived was sent by the other end, whatever the link does
abbrev pub SoundLinesHold : Setup → List Command → World → Type 0
SoundLinesHold k commands now = (run : Turned k commands now) → Throughout k commands now (IsSound k) run → LinesHold k commands now

-- WHAT ARRIVED WAS SENT by the other end
abbrev pub RunIsSound : Setup → List Command → World → Type 0
RunIsSound k commands now = IsSound k now

-- WHERE NOTHING IS LOST ALL ENDS WELL: where the run has begun no more writes than a call may have sessions, each command has come to
-- its line, and each transfer whose resource is there to a line with OK, with no more chunks than its bound
abbrev pub AllEndWell : Setup → List Command → World → Type 0
AllEndWell k commands now =
    BeginsFewWrites commands now → (number : ℕ) (command : Command) → slice_get commands number ≡ Some command → HasEnded k commands now number command (λ start end told. EndsAs k start command told (chunks_of (start.sessions + 1) now))

-- AND ALL ARRIVES: what has arrived at each end are the packets that the other end flushed, in order
abbrev pub AllArrive : Setup → List Command → World → Type 0
AllArrive k commands now = HasAllArrived k now

-- over a link that drops chunks
pub record EndsOverDrops (k : Setup) (commands : List Command) (now : World) : Type 0 where
  -- WITH ONE CLEAN ROUND IN FOUR ALL STILL ENDS WELL: where of each transfer up to this command one of the first four rounds loses no chunk,
  -- or three chunks are lost at most, it has come to its line, and a transfer whose resource is there to a line with OK, at most three turns
  -- of time after its start
  pub well : (number : ℕ) (command : Command) → AreSparedBefore (suc number) k commands now → slice_get commands number ≡ Some command
      → HasEnded k commands now number command (λ start end told. EndsSoon k start end command told)
  -- AND THE NEXT ENDS IN TIME, however many of its chunks are lost: with OK or DEADLINE_EXCEEDED
  pub in_time : (number : ℕ) (command : Command) → AreSparedBefore number k commands now → slice_get commands number ≡ Some command → HasEndedInRun k commands number command

-- WHAT LOSSES LEAVE: so it is where the run has begun no more writes, and where the script's losses are drops, as many as there are, of
-- frames that carry a chunk, none of them the START_ACK_CONFIRMATION of a read
abbrev pub LossesEndWell : Setup → List Command → World → Type 0
LossesEndWell k commands now = BeginsFewWrites commands now → DropsChunks k now → EndsOverDrops k commands now
