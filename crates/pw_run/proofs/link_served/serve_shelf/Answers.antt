use Rattle.std.proofs.lemmas.Result.{IfOk-at_ok}
use Rattle.pw_run.proofs.LinkLemmas.{if_ok_from, setting_is, shelf_served}
use Rattle.pw_run.proofs.link_served.serve_shelf.Goals as goal

pub returns-clause-serves : goal.returns-clause-serves
returns-clause-serves g c =
    let e = c.session_with_items.ensures in
    if_ok_from c.session_with_items.result _ (λ s is.
    shelf_served _ c.args.workers c.args.shelf _ _ s.why s.counts s.read s.done s.calls s.items.items
    (setting_is _ _ _ c.args.shelf c.in_ok-channels.ensures c.in_ok-registry.ensures.methods c.in_ok-maker.ensures)
    (IfOk-at_ok _ is e.setting) (IfOk-at_ok _ is e.history) (IfOk-at_ok _ is e.begins) (IfOk-at_ok _ is e.explains) (IfOk-at_ok _ is e.at_end)
    (IfOk-at_ok _ is e.at_limit) (IfOk-at_ok _ is e.below) (IfOk-at_ok _ is e.ticks)
    s.began (IfOk-at_ok _ is e.began) (IfOk-at_ok _ is e.due))
