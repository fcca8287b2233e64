use Rattle.std.proofs.Common.{◌∙◌, ap, sym, unwrap_or}
use Rattle.rpc_ids.specs.declared.status.Status.TheVariants.{Cancelled}
use Rattle.rpc_journal.specs.declared.answers.Cancelled.TheVariants.{Running}
use Rattle.rpc_journal.specs.Calls.{end_of}
use Rattle.rpc_journal.specs.Changes.{cancel_answer}
use Rattle.rpc_journal.specs.CallTable.{past}
use Rattle.rpc_calls.proofs.calls.Calls.answer_cancel.Goals as goal

pub returns-in-Some : goal.returns-in-Some
returns-in-Some g c =
    ap (λ s. Running s c.in-Some.seat) (c.unwrap_or-status.ensures ∙ ap (λ o. unwrap_or o Cancelled) c.status.ensures)
    ∙ ap (cancel_answer (unwrap_or (end_of (past c.args.self.now) c.args.call) Cancelled)) (sym c.in-Some.is ∙ c.runner.ensures)
