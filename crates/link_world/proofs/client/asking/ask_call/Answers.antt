use Rattle.std.proofs.Common.{◌≡◌, ℕ, Some, subst}
use Rattle.rpc_handlers.specs.HandlerRule.{empty_memo}
use Rattle.rpc_ids.specs.Names.{name_id}
use Rattle.rpc_ids.specs.declared.method.MethodRef.{MethodRef}
use Rattle.demo_services.specs.Methods.{demo_id}
use Rattle.rpc_journal.specs.Rows.{method_named}
use Rattle.rpc_schedule.specs.Serving.{deeds}
use Rattle.link_laws.specs.one_run.Speaking.{IsSpeaking, opening_by}
use Rattle.link_laws.specs.world.Starts.{next_name, request}
use Rattle.link_world.proofs.NewLemmas.{if_ok_more}
use Rattle.link_world.proofs.client.SpeakLemmas.{opened_can}
use Rattle.link_world.proofs.client.asking.ask_call.Goals as goal

pub returns-clause-speaks : goal.returns-clause-speaks
unfolding name_id
returns-clause-speaks c =
    let old = c.args.client.now.serving in
    let new = c.open.new.client.serving in
    if_ok_more c.open.result
    (λ n speaks streams. opened_can c.args.plain old.table.setting (deeds old) c.args.payload new n c.requires.setting
    (subst (λ (method : ℕ). (m : MethodRef) → method_named old.table.setting (next_name demo_id method (deeds old)) ≡ Some m
    → IsSpeaking (deeds new) n (opening_by (request (next_name demo_id method (deeds old)) c.args.payload) m empty_memo))
    c.method_of.ensures speaks) streams)
    c.open.ensures.speaks
