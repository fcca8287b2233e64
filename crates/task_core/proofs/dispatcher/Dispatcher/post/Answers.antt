use Rattle.std.proofs.Common.{sym, subst}
use Rattle.std.proofs.lemmas.Result.{err_from_is_err_and}
use Rattle.task_core.specs.Context.{all_outs}
use Rattle.task_core.specs.Tasks.{Tasks, StandsFor}
use Rattle.task_core.proofs.LogLemmas.{posted_stands, unposted_stands}
use Rattle.task_core.proofs.dispatcher.Dispatcher.post.Goals as goal

pub returns-clause-posts : goal.returns-clause-posts
returns-clause-posts g c =
    let b : Tasks g.row.T.Denot = record { moment = c.self.inside.cx.moment; places = c.self.inside.places; outs = all_outs c.self.inside.cx } in
    λ log stands.
    let before : StandsFor b log = subst (λ v. StandsFor v log) (sym c.self.view_is) stands in
    posted_stands b log c.args.key c.args.mail c.index_mut.result.now c.post.new.self before c.index_mut.ensures.value c.in_ok-post.ensures.rest c.in_ok-post.ensures.mail

pub returns-in_err-post-clause-refused : goal.returns-in_err-post-clause-refused
returns-in_err-post-clause-refused g c =
    let b : Tasks g.row.T.Denot = record { moment = c.self.inside.cx.moment; places = c.self.inside.places; outs = all_outs c.self.inside.cx } in
    let p = err_from_is_err_and c.from_residual.result c.from_residual.ensures.1 in
    rw p.1 (λ log stands.
    let before : StandsFor b log = subst (λ v. StandsFor v log) (sym c.self.view_is) stands in
    unposted_stands b log c.args.key c.index_mut.result.now c.post.new.self before c.index_mut.ensures.value c.in_err-post.ensures.rest c.in_err-post.ensures.mail)
