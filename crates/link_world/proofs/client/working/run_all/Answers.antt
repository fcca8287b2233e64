use Rattle.link_world.proofs.client.RunLemmas.{runs_full, runs_ok}
use Rattle.link_world.proofs.client.working.run_all.Goals as goal

pub returns-clause-ran : goal.returns-clause-ran
returns-clause-ran c =
    runs_ok c.args.client.now.serving c.args.events.now.items c.work_until_idle.result c.work_until_idle.new.client.serving c.work_until_idle.new.handed.items c.requires
    c.work_until_idle.ensures.works

pub returns-clause-full : goal.returns-clause-full
returns-clause-full c =
    runs_full c.args.client.now.serving c.args.events.now.items c.work_until_idle.result c.work_until_idle.new.client.serving c.work_until_idle.new.handed.items c.requires
    c.work_until_idle.ensures.works
