use Rattle.std.proofs.Common.{◌≡◌, false, sym, subst, ◌∙◌}
use Rattle.std.specs.List.{AllByRecursion}
use Rattle.rpc_handlers.specs.Limits.{is_long_out}
use Rattle.link_world.specs.client.Speaking.{mail_among}
use Rattle.link_world.proofs.client.ShortLemmas.{says_short}
use Rattle.link_world.proofs.client.working.speak.Goals as goal

pub say_all-requires-clause-short : goal.say_all-requires-clause-short
say_all-requires-clause-short c =
    let task = c.in-Some-Transferring.speaker.task in
    subst (AllByRecursion (λ out. is_long_out out ≡ false)) (sym (c.as_slice.ensures.value ∙ c.in_ok-speaker-in-Some-Transferring.ensures.says))
    (says_short task.session task.transfer (mail_among task.call c.args.events.now) c.args.now)
