use Rattle.std.proofs.Common.{◌≡◌, ◌∙◌, ◌∷◌, true}
use Rattle.task_core.specs.Log.{advanced, is_added, woken}
use Rattle.link_world.specs.client.Speaking.{PollsTransfer}
use Rattle.link_world.proofs.client.OnePollLemmas.{polls_alone}
use Rattle.link_world.proofs.client.polling.poll_once.Goals as goal

pub returns-clause-polls : goal.returns-clause-polls
returns-clause-polls c = λ log stands alone.
    let key = c.args.key in
    let now = c.args.now in
    let known : is_added log key ≡ true = stands.is_added key ∙ c.requires.there in
    let woken_then = c.wake.ensures.wakes (advanced now ∷ log) (c.advance.ensures.advances log stands) in
    polls_alone PollsTransfer key now log c.run_until_stalled.new.self alone known c.in_ok-_stop._stop
    (c.in_ok-_stop.ensures.ran (woken key ∷ advanced now ∷ log) woken_then)
