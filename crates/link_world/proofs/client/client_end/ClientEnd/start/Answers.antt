use Rattle.std.proofs.Common.{◌∙◌, Some, ap, inl, inr, sym, subst}
use Rattle.link_world.specs.client.ClientSide.{ClientRests, ClientState, ClientWorks, state_of}
use Rattle.link_world.proofs.client.AskLemmas.{asks_by, stops_by_work}
use Rattle.link_world.proofs.client.EndLemmas.{kept_by}
use Rattle.std.proofs.Common.{arith}
use Rattle.link_world.proofs.client.IdleLemmas.{few_at_rest}
use Rattle.link_world.proofs.client.client_end.ClientEnd.start.Goals as goal

pub work-requires-clause-kept : goal.work-requires-clause-kept
work-requires-clause-kept c =
    let before : ClientState = state_of c.self.inside.desk in
    let rest : ClientRests before = subst ClientRests (sym c.self.view_is) c.requires.rest in
    c.in-Ok.ensures.adds.kept c.self.inside.desk.items.items c.self.inside.desk.events.items (kept_by before rest)

pub returns-clause-asks : goal.returns-clause-asks
returns-clause-asks c = λ k w is.
    let begins = c.in-Ok.ensures.begins k w c.args.now (record {
      setting = is.setting;
      entries = is.entries ∙ ap (λ (s : ClientState). s.end.serving.table.entries) (sym c.self.view_is);
      stored = is.stored ∙ ap (λ (s : ClientState). s.stored) (sym c.self.view_is);
      sessions = is.sessions;
      window = is.window;
      chunk = is.chunk;
      moment = is.moment;
    }) in
    let after = c.work.new.self.end.serving.table.entries in
    asks_by k w c.args.command.now c.args.now c.begin-begun.new.client.serving.table.entries after c.in-Ok.way c.in-Some.way c.begin-begun.new.sessions begins is.setting is.moment
    (subst (λ u. ClientWorks c.args.now c.begin-begun.new.client.serving.table.entries (Some c.in-Ok.way) after u) c.in-Some.is c.in-Ok-work.ensures.settled.works)

pub returns-in-Err-clause-full : goal.returns-in-Err-clause-full
returns-in-Err-clause-full c = λ full k w is.
    inl (c.in-Err.ensures.full full k w c.args.now (record {
      setting = is.setting;
      entries = is.entries ∙ ap (λ (s : ClientState). s.end.serving.table.entries) (sym c.self.view_is);
      stored = is.stored ∙ ap (λ (s : ClientState). s.stored) (sym c.self.view_is);
      sessions = is.sessions;
      window = is.window;
      chunk = is.chunk;
      moment = is.moment;
    }))

pub returns-in-Err-work-clause-full : goal.returns-in-Err-work-clause-full
returns-in-Err-work-clause-full c = λ full k w is.
    let begins = c.in-Ok.ensures.begins k w c.args.now (record {
      setting = is.setting;
      entries = is.entries ∙ ap (λ (s : ClientState). s.end.serving.table.entries) (sym c.self.view_is);
      stored = is.stored ∙ ap (λ (s : ClientState). s.stored) (sym c.self.view_is);
      sessions = is.sessions;
      window = is.window;
      chunk = is.chunk;
      moment = is.moment;
    }) in
    inr (stops_by_work k w c.args.command.now c.args.now c.begin-begun.new.client.serving.table.entries c.in-Ok.way c.begin-begun.new.sessions begins is.setting is.moment (c.in-Err-work.ensures.full full))

pub work-requires-clause-few : goal.work-requires-clause-few
work-requires-clause-few c =
    let before : ClientState = state_of c.self.inside.desk in
    let rest : ClientRests before = subst ClientRests (sym c.self.view_is) c.requires.rest in
    omega (arith, few_at_rest c.self.inside.desk.client.serving rest.resting.over.none_waits, c.in-Ok.ensures.few)
