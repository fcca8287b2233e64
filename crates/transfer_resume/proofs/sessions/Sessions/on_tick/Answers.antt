use Rattle.std.proofs.Common.{rules, ◌≡◌}
use Rattle.transfer_resume.specs.Book.{HasFew, spelled_all, tick_step}
use Rattle.transfer_resume.proofs.LimitLaws.{tick_outs_within}
use Rattle.transfer_resume.proofs.sessions.Sessions.on_tick.Goals as goal

pub returns-clause-limits : goal.returns-clause-limits
returns-clause-limits c =
    let outs : c.tick_rows.new.outs ≡ spelled_all (tick_step c.args.self.now c.args.now).outs = search rules in
    let few : HasFew c.args.self.now = search rules in
    tick_outs_within c.args.self.now c.args.now c.tick_rows.new.outs few outs
