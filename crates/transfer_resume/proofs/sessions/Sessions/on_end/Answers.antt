use Rattle.std.proofs.Common.{rules, ◌≡◌}
use Rattle.transfer_resume.specs.Book.{HasFew, spelled_all, end_step}
use Rattle.transfer_resume.proofs.LimitLaws.{end_outs_within}
use Rattle.transfer_resume.proofs.sessions.Sessions.on_end.Goals as goal

pub returns-clause-limits : goal.returns-clause-limits
returns-clause-limits c =
    let outs : c.stop_rows.new.outs ≡ spelled_all (end_step c.args.self.now).outs = search rules in
    let few : HasFew c.args.self.now = search rules in
    end_outs_within c.args.self.now c.stop_rows.new.outs few outs
