-- What is told of the run of a script.
use Rattle.std.proofs.Common.{◌≡◌, List, ℕ, refl, subst, sym, ◌∙◌}
use Rattle.std.specs.Prelude.{string_bytes}
use Rattle.link_script.specs.declared.command.Command.{Command}
use Rattle.link_script.specs.declared.script.Script.{Script}
use Rattle.link_world.specs.declared.outcome.Outcome.{Outcome}
use Rattle.link_world.specs.Outcomes.{AllArrive, AllEndWell, IsRunOf, IsRunWith, LinesHold, LossesEndWell, RunIsSound, SoundLinesHold}
use Rattle.link_laws.proofs.one_run.OneRun.{runs_are_one}
use Rattle.link_laws.specs.lossless_scripts.Lossless.{IsLosslessScript}
use Rattle.link_laws.specs.lossless_scripts.Scripts.{IsOpenScript}
use Rattle.link_laws.specs.world.Setup.{setup_of}
use Rattle.link_laws.specs.world.Sound.{NoFlips}
use Rattle.link_laws.specs.world.World.{Setup, World}
use Rattle.pw_run.specs.declared.told.Found.{Found}
use Rattle.pw_run.specs.declared.told.Found.TheVariants.{Good}
use Rattle.pw_run.specs.Link.{TellsReport, TellsRun}

-- a script has one run, so what holds of one holds of that whose report is told
of_one : (Holds : Setup → List Command → World → Type 0) (script : Script) (outcome : Outcome) (run : IsRunOf script outcome) → IsRunWith Holds script outcome
    → Holds (setup_of script) script.commands run.now
of_one Holds script outcome run it =
    subst (Holds (setup_of script) script.commands) (runs_are_one (setup_of script) script.commands it.run.now run.now refl it.run.run run.run) it.holds

-- what a run of this script promises of its outcome
pub record Promises (script : Script) (outcome : Outcome) : Type 0 where
  pub run : IsRunOf script outcome
  pub sound : NoFlips script.losses → IsRunWith RunIsSound script outcome
  pub sound_bytes : IsRunWith SoundLinesHold script outcome
  pub bytes : NoFlips script.losses → IsRunWith LinesHold script outcome
  pub lossless : IsLosslessScript script → IsRunWith AllEndWell script outcome
  pub arrives : IsLosslessScript script → IsRunWith AllArrive script outcome
  pub losses : IsOpenScript script → IsRunWith LossesEndWell script outcome

reported : (script : Script) (outcome : Outcome) (told : List ℕ) → Promises script outcome → told ≡ string_bytes outcome.text → TellsReport script told
reported script outcome told p is = record {
  now = p.run.now;
  run = p.run.run;
  report = is ∙ p.run.text;
  sound = λ calm. of_one RunIsSound script outcome p.run (p.sound calm);
  sound_bytes = of_one SoundLinesHold script outcome p.run p.sound_bytes;
  bytes = λ calm. of_one LinesHold script outcome p.run (p.bytes calm);
  lossless = λ fits. of_one AllEndWell script outcome p.run (p.lossless fits);
  arrives = λ fits. of_one AllArrive script outcome p.run (p.arrives fits);
  losses = λ fits. of_one LossesEndWell script outcome p.run (p.losses fits);
}

pub ran : (script read : Script) (outcome : Outcome) (told : List ℕ) (found : Found) → read ≡ script → Promises read outcome → told ≡ string_bytes outcome.text
    → found ≡ Good → TellsRun script told found
ran script read outcome told found same promises is good =
    subst (TellsRun script told) (sym good) (reported script outcome told (subst (λ s. Promises s outcome) same promises) is)
