use Rattle.std.proofs.Common.{refl, ◌∙◌}
use Rattle.live_client.proofs.AskLemmas.{call_ran}
use Rattle.live_client.proofs.calls.keep.Goals as goal

pub returns-clause-asked : goal.returns-clause-asked
returns-clause-asked g c =
    call_ran c.args.method c.run_live.new.errand c.args.says.items c.args.limit c.args.within (g.C.Clock.last c.args.clock.now) (g.C.Clock.last c.run_live.new.clock)
    (c.in_ok-run.ensures.origin ∙ c.new-errand.ensures.purpose) c.requires.may c.in_ok-run.ensures.uncut c.in_ok-run.run'.journal.entries c.in_ok-run.ensures.told _ refl refl refl
