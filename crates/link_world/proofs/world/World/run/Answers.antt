use Rattle.std.proofs.Common.{◌<◌, ◌^◌, List, length, ap, subst, sym, ◌∙◌}
use Rattle.std.specs.Prelude.{IfOk}
use Rattle.std.specs.List.{AllByRecursion}
use Rattle.link_script.specs.declared.command.Command.{Command}
use Rattle.link_script.specs.Script.{IsCommand}
use Rattle.demo_services.specs.DemoRule.{demo_rule}
use Rattle.rpc_journal.specs.Lawful.{IsLegal}
use Rattle.rpc_schedule.proofs.StreamLemmas.{handed_on}
use Rattle.link_laws.specs.transfers_fit.Fits.{BeginsSmall}
use Rattle.link_laws.specs.transfers_fit.Scripts.{IsScript}
use Rattle.link_laws.proofs.transfers_fit.OfScripts.{begins_small}
use Rattle.link_laws.specs.world.Limits.{IsPastJournal}
use Rattle.link_laws.specs.world.Setup.{quiet_rule, setup_of}
use Rattle.link_world.specs.declared.outcome.WorldRefused.TheVariants.{Journal}
use Rattle.link_world.specs.Outcomes.{IsRunOf}
use Rattle.link_world.specs.Running.{EndsWith, setup_by}
use Rattle.link_world.proofs.PromiseLemmas.{Runs, all_arrive, all_end_well, all_mean, all_mean_soundly, all_run, all_sound, losses_end_well}
use Rattle.link_world.proofs.NewLemmas.{end_stopped, if_ok_more, run_is, setup_is}
use Rattle.link_world.proofs.world.World.run.Goals as goal

pub returns-clause-ok : goal.returns-clause-ok
returns-clause-ok c =
    let i = c.self.inside in
    let t = c.run_turns.new in
    let k = setup_by i.server i.client i.wires i.tuning in
    let ends = subst (λ commands. EndsWith k commands t.server t.client t.wires t.course) c.as_slice.ensures c.in_ok-run_turns.ensures.ends in
    subst (λ script. IfOk c.end.result (IsRunOf script)) c.self.view_is
    (if_ok_more c.end.result
    (λ outcome ended. run_is i.script i.tuning i.server i.client i.wires c.self.invariant t.server t.client t.wires t.course outcome ends
    (ended k i.script.commands ends.comes.now ends.comes.shows))
    c.end.ensures.ends)

-- the outcome is that of the run, and both its journals are legal
runs : (c : goal.After-drop-script-2) → IfOk c.end.result (Runs c.args.self)
runs c =
    let i = c.self.inside in
    let t = c.run_turns.new in
    let k = setup_by i.server i.client i.wires i.tuning in
    let ends = subst (λ commands. EndsWith k commands t.server t.client t.wires t.course) c.as_slice.ensures c.in_ok-run_turns.ensures.ends in
    let shows = ends.comes.shows in
    let setting = shows.server.setting ∙ ap (λ k. k.server) (setup_is i.script i.tuning i.server i.client i.wires c.self.invariant) in
    all_run c.args.self c.end.result (returns-clause-ok c)
    (subst (λ set. IfOk c.end.result (λ outcome. IsLegal demo_rule set outcome.server.entries)) (setting ∙ ap (λ script. (setup_of script).server) c.self.view_is) c.end.ensures.server)
    (subst (λ set. IfOk c.end.result (λ outcome. IsLegal quiet_rule set outcome.client.entries)) shows.client.setting c.end.ensures.client)

fits : (c : goal.After-drop-script-2) → IsScript c.args.self
fits c = subst IsScript c.self.view_is c.self.invariant.fits

pub returns-clause-bytes : goal.returns-clause-bytes
returns-clause-bytes c = λ calm. all_mean c.args.self c.end.result (fits c) calm (runs c)

pub returns-clause-sound : goal.returns-clause-sound
returns-clause-sound c = λ calm. all_sound c.args.self c.end.result (fits c) calm (runs c)

pub returns-clause-sound_bytes : goal.returns-clause-sound_bytes
returns-clause-sound_bytes c = all_mean_soundly c.args.self c.end.result (fits c) (runs c)

pub returns-clause-lossless : goal.returns-clause-lossless
returns-clause-lossless c = λ is. all_end_well c.args.self c.end.result is (runs c)

pub returns-clause-arrives : goal.returns-clause-arrives
returns-clause-arrives c = λ is. all_arrive c.args.self c.end.result is (runs c)

pub returns-clause-losses : goal.returns-clause-losses
returns-clause-losses c = λ is. losses_end_well c.args.self c.end.result is (runs c)

pub returns-in_err-run_turns-clause-journal : goal.returns-in_err-run_turns-clause-journal
returns-in_err-run_turns-clause-journal c = λ is.
    let i = c.self.inside in
    let stopped = handed_on c.from_residual.result c.run_turns.result c.in_err-run_turns.field-0.0 Journal c.in_err-run_turns.was c.from_residual.ensures is in
    subst (λ script. IsPastJournal (setup_of script) script.commands) c.self.view_is
    (subst (λ k. IsPastJournal k i.script.commands) (setup_is i.script i.tuning i.server i.client i.wires c.self.invariant)
    (subst (λ commands. IsPastJournal (setup_by i.server i.client i.wires i.tuning) commands) c.as_slice.ensures (c.run_turns.ensures.journal stopped)))

pub returns-clause-journal : goal.returns-clause-journal
returns-clause-journal c = λ is.
    let i = c.self.inside in
    let t = c.run_turns.new in
    let k = setup_by i.server i.client i.wires i.tuning in
    let ends = subst (λ commands. EndsWith k commands t.server t.client t.wires t.course) c.as_slice.ensures c.in_ok-run_turns.ensures.ends in
    subst (λ script. IsPastJournal (setup_of script) script.commands) c.self.view_is
    (end_stopped i.script i.tuning i.server i.client i.wires c.self.invariant t.server t.client t.wires t.course ends
    (c.end.ensures.journal is k i.script.commands ends.comes.now ends.comes.shows))

pub run_turns-requires-clause-commands : goal.run_turns-requires-clause-commands
run_turns-requires-clause-commands c = subst (AllByRecursion IsCommand) (sym c.as_slice.ensures) c.self.invariant.fits.commands

pub run_turns-requires-clause-few : goal.run_turns-requires-clause-few
run_turns-requires-clause-few c = subst (λ (commands : List Command). length commands < 2 ^ 32) (sym c.as_slice.ensures) c.self.invariant.fits.few

pub run_turns-requires-clause-small : goal.run_turns-requires-clause-small
run_turns-requires-clause-small c =
    let i = c.self.inside in
    subst BeginsSmall (sym (setup_is i.script i.tuning i.server i.client i.wires c.self.invariant)) (begins_small i.script c.self.invariant.fits)
