use Rattle.std.proofs.Common.{◌∙◌, option_map, ap, sym}
use Rattle.rpc_journal.proofs.PlaceLemmas.{some_same}
use Rattle.rpc_calls.specs.declared.call_place.CallFacts.{CallFacts}
use Rattle.rpc_calls.specs.Facts.{facts_of}
use Rattle.rpc_calls.proofs.LeaveSteps.{left_marks}
use Rattle.rpc_calls.proofs.call_records.CallRecords.marks.Goals as goal

pub returns-in-Some-facts-clause-marks : goal.returns-in-Some-facts-clause-marks
returns-in-Some-facts-clause-marks g c = λ r there.
    c.left.ensures
    ∙ left_marks r c.in-Some-facts.facts.cancelled (c.in-None.ensures.left r there)
    (ap (λ (f : CallFacts). f.cancelled) (some_same c.in-Some-facts.facts (facts_of r) (sym c.in-Some-facts.is ∙ c.facts.ensures ∙ ap (option_map facts_of) there)))
