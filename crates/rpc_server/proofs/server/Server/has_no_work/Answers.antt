use Rattle.std.proofs.Common.{◌≡◌, ℕ, true, false, Option, None, refl, sym, ap, ◌∙◌, subst}
use Rattle.rpc_ids.specs.declared.method.Role.TheVariants.{Server}
use Rattle.rpc_handlers.specs.declared.event.Memo.{Memo}
use Rattle.rpc_handlers.specs.HandlerRule.{HandlerRule}
use Rattle.rpc_journal.specs.declared.answers.StartRefused.{StartRefused}
use Rattle.rpc_journal.specs.Calls.{call_count}
use Rattle.rpc_journal.specs.CallTable.{Table, past}
use Rattle.rpc_journal.specs.Items.{is_ready}
use Rattle.rpc_journal.specs.Kinds.{is_empty}
use Rattle.rpc_journal.specs.Queues.{waiting_of}
use Rattle.rpc_journal.specs.Quiet.{all_below}
use Rattle.rpc_schedule.specs.Serving.{HasNoWork}
use Rattle.rpc_schedule.specs.ends.EndHolds.{IsEnd, kept_call}
use Rattle.rpc_schedule.proofs.ends.IdleLemmas.{none_waits}
use Rattle.rpc_server.proofs.server.Server.has_no_work.Goals as goal

-- a call for which no event waits isn't ready
not_ready : (rule : HandlerRule) (seed : Memo) (t : Table) (refused : Option StartRefused) (c : ℕ) → IsEnd Server rule seed t None refused
    → all_below (call_count (past t)) (λ k. is_empty (waiting_of (past t) k)) ≡ true → is_ready (past t) c ≡ false
not_ready rule seed t refused c is all = rw (none_waits Server rule seed t refused c is all) refl

pub returns-in-None : goal.returns-in-None
returns-in-None g c =
    let rule = g.M.H.Handler.rule in
    let seed = g.M.Maker.seed_memo c.self.inside.maker in
    let inside = c.self.inside in
    let idle : IsEnd Server rule seed inside.calls None inside.refused = subst (λ kept. IsEnd Server rule seed inside.calls kept inside.refused) c.in-None.is c.self.invariant.0 in
    subst (λ s. c.none_waiting.result ≡ true → HasNoWork s.serving s.serving) c.self.view_is
    (λ none. record {
      same = refl;
      unkept = ap kept_call c.in-None.is;
      none_ready = λ k. not_ready rule seed inside.calls inside.refused k idle (sym c.none_waiting.ensures ∙ none);
    })
