use Rattle.std.proofs.Common.{◌∙◌, sym, ap, subst, ◌++◌}
use Rattle.rpc_shared.specs.session.Sessions.{Begins, session_setting}
use Rattle.rpc_crew.proofs.serving.session_with_items.Goals as goal

pub returns-clause-begins : goal.returns-clause-begins
returns-clause-begins g c =
    let made = c.in_ok-served.ensures.begins in
    let same = made.2.added c.new-log.ensures.keeps ∙ ap (λ items. items ++ made.0) c.new-log.ensures.empty in
    subst (λ items. Begins (session_setting c.args.channels c.args.registry (g.M.Maker.seed_memo c.args.maker.now)) (g.I.Source.left c.args.link_in.now) (g.I.Source.left c.serve.new.link_in) (g.O.Sink.written c.args.link_out.now) (g.O.Sink.written c.serve.new.link_out) (g.S.Store.holds c.args.store.now) (g.S.Store.holds c.serve.new.store) c.in_ok-served.served.counts c.in_ok-served.served.read c.in_ok-served.served.done items c.in_ok-served.served.calls.entries) (sym same) made.1
