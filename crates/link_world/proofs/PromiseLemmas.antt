-- What the run of a script promises of its outcome.
use Rattle.std.proofs.Common.{refl, subst}
use Rattle.std.specs.Prelude.{IfOk, Result, Ok, Err}
use Rattle.demo_services.specs.DemoRule.{demo_rule}
use Rattle.link_script.specs.declared.script.Script.{Script}
use Rattle.rpc_journal.specs.Lawful.{IsLegal}
use Rattle.link_laws.specs.world.Setup.{client_setting, quiet_rule, setup_of}
use Rattle.link_laws.specs.world.Sound.{NoFlips}
use Rattle.link_laws.specs.transfers_fit.Scripts.{IsScript}
use Rattle.link_laws.proofs.one_run.Ways.{sound_without_flips}
use Rattle.link_laws.proofs.transfers_fit.OfScripts.{scripts_mean_the_bytes, sound_scripts_mean_the_bytes}
use Rattle.link_laws.proofs.transfers_fit.Sent.{runs_are_heard}
use Rattle.link_laws.specs.lossless_scripts.Lossless.{IsLosslessScript}
use Rattle.link_laws.specs.lossless_scripts.Scripts.{IsOpenScript}
use Rattle.link_laws.proofs.lossless_scripts.Arriving.{lossless_runs_arrive}
use Rattle.link_laws.proofs.lossless_scripts.Walking.{lossless_runs_end_well}
use Rattle.link_laws.proofs.dropped_scripts.Walking.{lossy_runs_end_well, next_ends_in_time}
use Rattle.link_world.specs.declared.outcome.Outcome.{Outcome}
use Rattle.link_world.specs.Outcomes.{AllArrive, AllEndWell, IsRunOf, IsRunWith, LinesHold, LossesEndWell, RunIsSound, SoundLinesHold}

-- the outcome is that of a run of the script, and both its journals are legal
pub record Runs (script : Script) (outcome : Outcome) : Type 0 where
  pub run : IsRunOf script outcome
  pub server : IsLegal demo_rule (setup_of script).server run.now.server
  pub client : IsLegal quiet_rule client_setting run.now.client

runs : (script : Script) (outcome : Outcome) → IsRunOf script outcome → IsLegal demo_rule (setup_of script).server outcome.server.entries
    → IsLegal quiet_rule client_setting outcome.client.entries → Runs script outcome
runs script outcome run server client = record {
  run = run;
  server = subst (IsLegal demo_rule (setup_of script).server) run.server server;
  client = subst (IsLegal quiet_rule client_setting) run.client client;
}

pub all_run : {E : Type 0} (script : Script) (result : Result Outcome E) → IfOk result (IsRunOf script)
    → IfOk result (λ outcome. IsLegal demo_rule (setup_of script).server outcome.server.entries) → IfOk result (λ outcome. IsLegal quiet_rule client_setting outcome.client.entries)
    → IfOk result (Runs script)
all_run script (Ok outcome) run server client = runs script outcome run server client
all_run script (Err e) run server client = tt

pub all_mean : {E : Type 0} (script : Script) (result : Result Outcome E) → IsScript script → NoFlips script.losses → IfOk result (Runs script)
    → IfOk result (IsRunWith LinesHold script)
all_mean script (Ok outcome) is calm r = record { run = r.run; holds = scripts_mean_the_bytes script r.run.now is calm r.run.run r.server r.client }
all_mean script (Err e) is calm r = tt

pub all_sound : {E : Type 0} (script : Script) (result : Result Outcome E) → IsScript script → NoFlips script.losses → IfOk result (Runs script)
    → IfOk result (IsRunWith RunIsSound script)
all_sound script (Ok outcome) is calm r = record {
  run = r.run;
  holds =
      sound_without_flips (setup_of script) script.commands r.run.now calm r.run.run
      (runs_are_heard (setup_of script) script.commands r.run.now refl refl calm is.few r.run.run r.server r.client);
}
all_sound script (Err e) is calm r = tt

pub all_mean_soundly : {E : Type 0} (script : Script) (result : Result Outcome E) → IsScript script → IfOk result (Runs script)
    → IfOk result (IsRunWith SoundLinesHold script)
all_mean_soundly script (Ok outcome) is r = record { run = r.run; holds = λ run sound. sound_scripts_mean_the_bytes script r.run.now is run r.server sound }
all_mean_soundly script (Err e) is r = tt

pub all_end_well : {E : Type 0} (script : Script) (result : Result Outcome E) → IsLosslessScript script → IfOk result (Runs script)
    → IfOk result (IsRunWith AllEndWell script)
all_end_well script (Ok outcome) is r =
    record { run = r.run; holds = λ few number command there. lossless_runs_end_well script r.run.now number command is r.run.run few r.server r.client there }
all_end_well script (Err e) is r = tt

pub all_arrive : {E : Type 0} (script : Script) (result : Result Outcome E) → IsLosslessScript script → IfOk result (Runs script)
    → IfOk result (IsRunWith AllArrive script)
all_arrive script (Ok outcome) is r = record { run = r.run; holds = lossless_runs_arrive script r.run.now is r.run.run r.server r.client }
all_arrive script (Err e) is r = tt

pub losses_end_well : {E : Type 0} (script : Script) (result : Result Outcome E) → IsOpenScript script → IfOk result (Runs script)
    → IfOk result (IsRunWith LossesEndWell script)
losses_end_well script (Ok outcome) is r =
    record {
      run = r.run;
      holds = λ few drops. record {
        well = λ number command spared there. lossy_runs_end_well script r.run.now number command is drops spared r.run.run few r.server r.client there;
        in_time = λ number command spared there. next_ends_in_time script r.run.now number command is drops spared r.run.run few r.server r.client there;
      };
    }
losses_end_well script (Err e) is r = tt
