use Rattle.std.proofs.lemmas.Bool.Decides.{Decides-eqb}
use Rattle.std.proofs.lemmas.Slice.Eq.{strip_prefix_is}
use Rattle.text_fields.proofs.SplitLaws.{stripped, stripped_only}
use Rattle.text_fields.proofs.splits.strip_word.Goals as goal

pub returns-clause-some : goal.returns-clause-some
returns-clause-some c =
    stripped c.args.text.now c.args.word.now c.strip_prefix.result (strip_prefix_is Decides-eqb c.args.text.now c.args.word.now c.strip_prefix.result c.strip_prefix.ensures.cases)

pub returns-clause-only : goal.returns-clause-only
returns-clause-only c =
    stripped_only c.args.text.now c.args.word.now c.strip_prefix.result (strip_prefix_is Decides-eqb c.args.text.now c.args.word.now c.strip_prefix.result c.strip_prefix.ensures.cases)
