use Rattle.link_laws.proofs.uploads.AnsweredLaws as answered_laws
use Rattle.link_laws.proofs.uploads.laws.calls_are_answered.Goals as goal

pub returns : goal.returns
returns c = answered_laws.calls_are_answered
