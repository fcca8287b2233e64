-- What `link` tells of a text.
use Rattle.std.specs.Prelude.{◌≡◌, ℕ, List, [], ◌∷◌, codes}
use Rattle.std.specs.Fmt.{decimal}
use Rattle.link_script.specs.declared.script.Script.{Script}
use Rattle.rpc_journal.specs.declared.entry.TheConstants.{MAX_ENTRIES}
use Rattle.run_report.specs.Lines.{line}
use Rattle.link_script.specs.text.Reading.{IsFirstBadLine, IsScriptText}
use Rattle.link_script.specs.text.Report.{bad_line_text, report_text}
use Rattle.text_fields.specs.Lines.{ended}
use Rattle.link_laws.specs.declared.world.limits.TheConstants.{MAX_DELIVERIES}
use Rattle.link_laws.specs.world.Limits.{IsPastFrames, IsPastJournal}
use Rattle.link_laws.specs.world.Reports.{report_of}
use Rattle.link_laws.specs.world.Setup.{setup_of}
use Rattle.link_laws.specs.world.Sound.{NoFlips}
use Rattle.link_laws.specs.world.Turns.{Turned}
use Rattle.link_laws.specs.world.World.{World}
use Rattle.link_laws.specs.lossless_scripts.Lossless.{IsLosslessScript}
use Rattle.link_laws.specs.lossless_scripts.Scripts.{IsOpenScript}
use Rattle.link_world.specs.Outcomes.{AllArrive, AllEndWell, LinesHold, LossesEndWell, RunIsSound, SoundLinesHold}
use Rattle.pw_run.specs.declared.told.Found.{Found}
use Rattle.pw_run.specs.declared.told.Found.TheVariants.{Good, BadLine, PastFrames, PastJournal}

-- a limit of a run was met
abbrev pub limit_text : List ℕ → ℕ → List ℕ
limit_text what limit = line (codes "limit" ∷ what ∷ decimal limit ∷ [])

-- The script was run to its end, and this is the report of its run. Where no loss damages a frame, the run is sound; in a run that is
-- sound throughout, OK means the bytes, whatever the link does; where nothing is lost, or chunks alone and of each transfer none in one
-- of its first four rounds, all end well, and the next one in time, whatever chunks it loses; and where nothing is lost all arrives.
pub record TellsReport (script : Script) (told : List ℕ) : Type 0 where
  pub now : World
  pub run : Turned (setup_of script) script.commands now
  pub report : told ≡ report_text (report_of (setup_of script) now)
  pub sound : NoFlips script.losses → RunIsSound (setup_of script) script.commands now
  pub sound_bytes : SoundLinesHold (setup_of script) script.commands now
  pub bytes : NoFlips script.losses → LinesHold (setup_of script) script.commands now
  pub lossless : IsLosslessScript script → AllEndWell (setup_of script) script.commands now
  pub arrives : IsLosslessScript script → AllArrive (setup_of script) script.commands now
  pub losses : IsOpenScript script → LossesEndWell (setup_of script) script.commands now

-- what is told of a script, by how its run ends
abbrev pub TellsRun : Script → List ℕ → Found → Type 0
TellsRun script told Good = TellsReport script told
TellsRun script told BadLine = ⊥
TellsRun script told PastFrames = IsPastFrames (setup_of script) script.commands × (told ≡ limit_text (codes "frames") MAX_DELIVERIES)
TellsRun script told PastJournal = IsPastJournal (setup_of script) script.commands × (told ≡ limit_text (codes "journal") MAX_ENTRIES)

-- the text says a script, and this is told of its run
pub record TellsScript (text told : List ℕ) (found : Found) : Type 0 where
  pub script : Script
  pub says : IsScriptText text script
  pub tells : TellsRun script told found

-- the text says none, and the number of its first bad line is told
pub record TellsBadScript (text told : List ℕ) : Type 0 where
  pub number : ℕ
  pub first : IsFirstBadLine text number
  pub line : told ≡ ended (bad_line_text number)

abbrev pub TellsLink : List ℕ → List ℕ → Found → Type 0
TellsLink text told BadLine = TellsBadScript text told
TellsLink text told found = TellsScript text told found
