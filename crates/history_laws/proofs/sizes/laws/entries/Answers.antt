use Rattle.history_laws.proofs.sizes.HistoryLemmas.{full_entries, whole_entries}
use Rattle.history_laws.proofs.sizes.laws.entries.Goals as goal

pub returns : goal.returns
returns c = record {
  whole = λ rule set packets h good most role ruled answers begins history. whole_entries rule set good most role ruled answers packets h begins history;
  beginning = λ rule set packets h good most role ruled answers begins full. full_entries rule set good most role ruled answers packets h begins full;
}
