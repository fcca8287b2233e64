use Rattle.entry_lists.proofs.Makers.{made_by-own, made_by-all, made_by-other, none_behind, made_by-prefix}
use Rattle.entry_lists.proofs.laws.entries_of_one_maker.Goals as goal

pub returns-clause-own : goal.returns-clause-own
returns-clause-own g c = λ maker. made_by-own maker

pub returns-clause-all : goal.returns-clause-all
returns-clause-all g c = λ maker. made_by-all maker

pub returns-clause-none : goal.returns-clause-none
returns-clause-none g c = λ maker. made_by-other maker

pub returns-clause-behind : goal.returns-clause-behind
returns-clause-behind g c = λ maker. none_behind maker

pub returns-clause-begin : goal.returns-clause-begin
returns-clause-begin g c = λ maker. made_by-prefix maker
