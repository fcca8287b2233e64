use Rattle.link_laws.proofs.transfer_calls.Writing.{ends_follow_commits}
use Rattle.link_laws.proofs.transfer_calls.laws.ends_follow_commits.Goals as goal

pub returns : goal.returns
returns c = ends_follow_commits
