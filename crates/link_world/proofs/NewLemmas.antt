-- The world of a script before anything happens, and its run.
use Rattle.std.proofs.Common.{◌≡◌, ℕ, List, [], refl, ap, sym, ◌∙◌, subst}
use Rattle.std.specs.Prelude.{IfOk, None, Result, Ok, Err}
use Rattle.link_io.specs.Stored.{Stored}
use Rattle.link_script.specs.declared.loss.Loss.{Loss}
use Rattle.link_script.specs.declared.script.Script.{Script}
use Rattle.demo_services.specs.DemoRule.{demo_rule}
use Rattle.rpc_journal.specs.declared.setting.Setting.{Setting}
use Rattle.rpc_schedule.specs.Kept.{kept}
use Rattle.transfer_base.specs.declared.tuning.Tuning.{Tuning}
use Rattle.link_laws.specs.world.Limits.{EndStops, IsPastJournal}
use Rattle.link_laws.specs.world.Setup.{client_setting, setup_of}
use Rattle.link_laws.specs.world.Turns.{ending}
use Rattle.link_laws.specs.world.World.{Setup, first_world, wiring_of}
use Rattle.link_world.specs.client.ClientSide.{ClientState}
use Rattle.link_world.specs.server.ServerSide.{ServerState}
use Rattle.link_laws.specs.world.Wiring.{Wiring}
use Rattle.link_world.specs.declared.course.Course.{Course}
use Rattle.link_world.specs.declared.outcome.Outcome.{Outcome}
use Rattle.link_world.specs.Outcomes.{IsRunBy, IsRunOf}
use Rattle.link_world.specs.Over.{LeadsToEnd}
use Rattle.link_world.specs.Running.{EndsWith, setup_by}
use Rattle.link_world.specs.Showing.{Shows}
use Rattle.link_world.specs.Starting.{IsNew}
use Rattle.link_world.proofs.StopLemmas.{next_stops, past_journal}

pub if_ok_more : {T E : Type 0} {P Q : T → Type 0} (r : Result T E) → ((x : T) → P x → Q x) → IfOk r P → IfOk r Q
if_ok_more (Ok x) more holds = more x holds
if_ok_more (Err e) more holds = tt

abbrev setup_with : Setting → Stored → Stored → List (ℕ × Loss) → ℕ → ℕ → Setup
setup_with server server_store client_store losses window chunk = record {
  rule = demo_rule;
  server = server;
  client = client_setting;
  server_store = server_store;
  client_store = client_store;
  losses = losses;
  window = window;
  chunk = chunk;
}

-- before anything happens
abbrev pub new_course : Course
new_course = record { started = 0; under = None; sessions = 0; delivered = 0; times = 0; lines = [] }

module _ (script : Script) (tuning : Tuning) (s : ServerState) (c : ClientState) (x : Wiring) (new : IsNew script tuning s c x) where
  -- what is fixed with it
  pub setup_is : setup_by s c x tuning ≡ setup_of script
  setup_is =
      let k : Setup = setup_of script in
      ap (λ set. setup_with set s.stored c.stored x.losses tuning.window tuning.chunk) new.setting
      ∙ (ap (λ st. setup_with k.server st c.stored x.losses tuning.window tuning.chunk) new.server_store
      ∙ (ap (λ st. setup_with k.server k.server_store st x.losses tuning.window tuning.chunk) new.client_store
      ∙ (ap (λ y. setup_with k.server k.server_store k.client_store y.losses tuning.window tuning.chunk) new.wires
      ∙ (ap (λ n. setup_with k.server k.server_store k.client_store k.losses n tuning.chunk) new.window
      ∙ ap (λ n. setup_with k.server k.server_store k.client_store k.losses k.window n) new.chunk))))

  -- what the parts show then
  pub shows_first : Shows (setup_by s c x tuning) script.commands s c x new_course (first_world script.commands)
  shows_first = record {
    server = record {
      rule = refl;
      role = ap (λ set. set.role) new.setting;
      setting = refl;
      entries = new.server_entries;
      items = new.server_rests.items;
      fed = new.server_fed;
      stored = ap (λ items. kept items s.stored) (sym new.server_items);
    };
    client = record {
      fixed = refl;
      setting = new.client_rests.setting;
      entries = new.client_entries;
      items = new.client_rests.items;
      fed = new.client_fed;
      stored = ap (λ items. kept items c.stored) (sym new.client_items);
    };
    wires = new.wires ∙ ap (λ y. wiring_of (setup_by s c y tuning) (first_world script.commands)) (sym new.wires);
    course = record { coming = refl; under = refl; sessions = refl; delivered = refl; times = refl; lines = refl };
  }

  -- a run to its end
  pub run_is : (server : ServerState) (client : ClientState) (y : Wiring) (d : Course) (outcome : Outcome)
      → (ends : EndsWith (setup_by s c x tuning) script.commands server client y d) → LeadsToEnd (setup_by s c x tuning) ends.comes.now outcome → IsRunOf script outcome
  run_is server client y d outcome ends ended = subst (λ k. IsRunBy k script.commands outcome) setup_is (record {
    now = ended.now;
    run = record { count = ends.comes.count; before = ends.comes.now; turns = ends.comes.turns; ends = ended.ends ends.last };
    report = ended.report;
    text = ended.text;
    server = ended.server;
    client = ended.client;
    server_store = ended.server_store;
    client_store = ended.client_store;
  })

  -- the end of a run stops
  pub end_stopped : (server : ServerState) (client : ClientState) (y : Wiring) (d : Course)
      → (ends : EndsWith (setup_by s c x tuning) script.commands server client y d) → EndStops (setup_by s c x tuning) ends.comes.now
      → IsPastJournal (setup_of script) script.commands
  end_stopped server client y d ends stops =
      let k : Setup = setup_by s c x tuning in
      subst (λ k. IsPastJournal k script.commands) setup_is
      (past_journal k script.commands server client y d ends.comes (next_stops k ends.comes.now ending ends.last stops) (λ other. absurd (other ends.last)))
