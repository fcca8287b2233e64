use Rattle.std.proofs.Common.{[], ◌∷◌, ◌++◌, refl, sym, subst}
use Rattle.live_client.specs.declared.asks.transfer.TaskErrand.{TaskErrand}
use Rattle.live_client.specs.asks.Telling.{Tells, said_all, unknown}
use Rattle.live_client.proofs.asks.TellLemmas.{keeps_alone, on_err_map, on_ok_map, tells_heard, tells_kept, tells_over}
use Rattle.live_client.proofs.asks.transfer.TaskErrandErrand.hear.Goals as goal

pub returns-clause-heard : goal.returns-clause-heard
returns-clause-heard g c =
    let old = c.args.self.now in
    on_ok_map c.post.result
    (λ posts. λ start upto cut events outs ended so. (
      ended,
      subst (λ (x : TaskErrand g.row.T.Denot). Tells g.T.Task.polls x.first.value c.post.new.self.tasks x.ear x.short.value unknown start upto cut (events ++ c.args.event ∷ []) outs ended) (sym c.post.ensures.rest)
          (tells_heard g.T.Task.polls old.first.value old.tasks c.post.new.self.tasks old.ear old.short.value said_all start upto cut events outs ended c.args.event posts so),
      λ over. (
        refl,
        refl,
        subst (λ (x : TaskErrand g.row.T.Denot). Tells g.T.Task.polls x.first.value c.post.new.self.tasks x.ear x.short.value said_all start upto cut (events ++ c.args.event ∷ []) outs ended) (sym c.post.ensures.rest)
            (tells_over g.T.Task.polls old.first.value old.tasks c.post.new.self.tasks old.ear old.short.value said_all start upto cut events outs ended c.args.event posts so over),
      ),
    ))
    c.post.ensures.posts

pub returns-clause-kept : goal.returns-clause-kept
returns-clause-kept g c =
    let old = c.args.self.now in
    on_err_map c.post.result
    (λ adds. λ far start upto cut events outs ended so.
    subst (λ (x : TaskErrand g.row.T.Denot). Tells g.T.Task.polls x.first.value c.post.new.self.tasks x.ear x.short.value far start upto cut events outs ended) (sym c.post.ensures.rest)
    (tells_kept g.T.Task.polls old.first.value old.tasks c.post.new.self.tasks old.ear old.short.value far start upto cut events outs ended far adds so))
    c.post.ensures.refused

pub returns-clause-ready : goal.returns-clause-ready
returns-clause-ready g c = keeps_alone c.args.self.now.tasks c.post.new.self.tasks c.post.ensures.keeps.keys c.requires.ready
