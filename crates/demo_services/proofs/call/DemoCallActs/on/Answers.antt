use Rattle.std.proofs.Common.{◌≡◌, false}
use Rattle.std.proofs.lemmas.Result.{IfOk-weaker}
use Rattle.rpc_handlers.specs.Limits.{is_past_limits}
use Rattle.demo_services.specs.Count.{count_answer}
use Rattle.demo_services.specs.declared.call.DemoCall.TheVariants.{Count, Log}
use Rattle.demo_services.specs.Log.{log_answer}
use Rattle.demo_services.proofs.Limits.{answer_limits}
use Rattle.demo_services.proofs.call.DemoCallActs.on.Goals as goal

pub returns-in-Count-clause-limits : goal.returns-in-Count-clause-limits
returns-in-Count-clause-limits c =
    IfOk-weaker c.on-in-Count.result (λ a. a ≡ count_answer c.args.ev.now) (λ a. is_past_limits a ≡ false) (λ a e. rw e (answer_limits (Count tt) c.args.ev.now tt)) c.on-in-Count.ensures

pub returns-in-Log-clause-limits : goal.returns-in-Log-clause-limits
returns-in-Log-clause-limits c =
    IfOk-weaker c.on-in-Log.result (λ a. a ≡ log_answer c.args.ev.now) (λ a. is_past_limits a ≡ false) (λ a e. rw e (answer_limits (Log tt) c.args.ev.now tt)) c.on-in-Log.ensures
