use Rattle.link_world.proofs.ScriptLemmas.{fitting}
use Rattle.link_world.proofs.laws.numbers_of_a_text_fit.Goals as goal

pub returns : goal.returns
returns c = fitting
