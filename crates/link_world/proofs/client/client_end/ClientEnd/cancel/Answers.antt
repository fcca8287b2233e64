use Rattle.std.proofs.Common.{◌≡◌, ◌∙◌, ◌<◌, IfErr, None, ap, refl, sym, subst}
use Rattle.rpc_journal.specs.declared.entry.EntryKind.TheVariants.{Cancel}
use Rattle.rpc_journal.specs.Calls.{end_of}
use Rattle.rpc_journal.specs.History.{adding}
use Rattle.rpc_schedule.specs.Schedule.{run_seat}
use Rattle.rpc_schedule.specs.Serving.{Serving, deeds}
use Rattle.link_laws.specs.world.Client.{ClientSettles}
use Rattle.link_laws.specs.world.Stops.{ClientStops}
use Rattle.link_laws.specs.world.Setup.{client_setting, quiet_rule}
use Rattle.link_world.specs.declared.server.stopped.Stopped.TheVariants.{Journal}
use Rattle.link_world.proofs.server.OutLemmas.{on_ok_one}
use Rattle.link_world.specs.client.ClientSide.{ClientRests, ClientState, state_of}
use Rattle.link_world.specs.client.Working.{IsKept}
use Rattle.link_world.proofs.client.EndLemmas.{cancel_opens, cancelled_is, entered_kept, kept_by, settles_alone}
use Rattle.rpc_journal.specs.Items.{items_waiting}
use Rattle.link_world.proofs.client.IdleLemmas.{few_cancelled}
use Rattle.link_world.proofs.client.client_end.ClientEnd.cancel.Goals as goal

pub work_alone-requires-clause-kept : goal.work_alone-requires-clause-kept
work_alone-requires-clause-kept c =
    let before : ClientState = state_of c.self.inside.desk in
    let rest : ClientRests before = subst ClientRests (sym c.self.view_is) c.requires.rest in
    let is = cancelled_is quiet_rule c.self.inside.desk.client c.cancel.new.self c.args.call c.cancel.result c.cancel.ensures.did c.cancel.ensures.aside c.calls-legal.ensures.legal
    (subst (λ (s : ClientState). end_of (deeds s.end.serving) c.args.call ≡ None) (sym c.self.view_is) c.requires.open) in
    subst (λ s. IsKept s c.self.inside.desk.items.items c.self.inside.desk.events.items) (sym is)
    (entered_kept c.self.inside.desk.client.serving c.self.inside.desk.items.items c.self.inside.desk.events.items run_seat (Cancel c.args.call) (kept_by before rest)
    (cancel_opens c.self.inside.desk.client.serving.table.setting (deeds c.self.inside.desk.client.serving) c.args.call) (λ k. refl) (λ k. refl) (λ k. refl) refl refl refl refl)

pub returns-clause-settles : goal.returns-clause-settles
returns-clause-settles c =
    let before : ClientState = state_of c.self.inside.desk in
    let rest : ClientRests before = subst ClientRests (sym c.self.view_is) c.requires.rest in
    let is = cancelled_is quiet_rule c.self.inside.desk.client c.cancel.new.self c.args.call c.cancel.result c.cancel.ensures.did c.cancel.ensures.aside c.calls-legal.ensures.legal
    (subst (λ (s : ClientState). end_of (deeds s.end.serving) c.args.call ≡ None) (sym c.self.view_is) c.requires.open) in
    let entries : c.cancel.new.self.serving.table.entries ≡ adding c.args.self.now.end.serving.table.entries run_seat (Cancel c.args.call) =
    ap (λ (s : Serving). s.table.entries) is ∙ ap (λ (s : ClientState). adding s.end.serving.table.entries run_seat (Cancel c.args.call)) c.self.view_is in
    let new = c.work_alone.new.self.end.serving.table.entries in
    on_ok_one c.work_alone.result
    (λ settled. subst (λ h. ClientSettles client_setting c.args.now h None new None) entries (settles_alone c.args.now c.cancel.new.self.serving.table.entries new settled.works))
    c.work_alone.ensures.settled

pub returns-clause-full : goal.returns-clause-full
returns-clause-full c =
    let before : ClientState = state_of c.self.inside.desk in
    let rest : ClientRests before = subst ClientRests (sym c.self.view_is) c.requires.rest in
    let is = cancelled_is quiet_rule c.self.inside.desk.client c.cancel.new.self c.args.call c.cancel.result c.cancel.ensures.did c.cancel.ensures.aside c.calls-legal.ensures.legal
    (subst (λ (s : ClientState). end_of (deeds s.end.serving) c.args.call ≡ None) (sym c.self.view_is) c.requires.open) in
    let entries : c.cancel.new.self.serving.table.entries ≡ adding c.args.self.now.end.serving.table.entries run_seat (Cancel c.args.call) =
    ap (λ (s : Serving). s.table.entries) is ∙ ap (λ (s : ClientState). adding s.end.serving.table.entries run_seat (Cancel c.args.call)) c.self.view_is in
    subst (λ h. IfErr c.work_alone.result (λ why. why ≡ Journal → ClientStops client_setting c.args.now h None)) entries c.work_alone.ensures.full

pub work_alone-requires-clause-few : goal.work_alone-requires-clause-few
work_alone-requires-clause-few c =
    let before : ClientState = state_of c.self.inside.desk in
    let rest : ClientRests before = subst ClientRests (sym c.self.view_is) c.requires.rest in
    let is = cancelled_is quiet_rule c.self.inside.desk.client c.cancel.new.self c.args.call c.cancel.result c.cancel.ensures.did c.cancel.ensures.aside c.calls-legal.ensures.legal
    (subst (λ (s : ClientState). end_of (deeds s.end.serving) c.args.call ≡ None) (sym c.self.view_is) c.requires.open) in
    subst (λ (s : Serving). items_waiting (deeds s) < 65536) (sym is) (few_cancelled c.self.inside.desk.client.serving run_seat c.args.call rest.resting)
