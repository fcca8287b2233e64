use Rattle.std.proofs.Common.{map, string_bytes}
use Rattle.std.proofs.lemmas.Bool.{false≢true}
use Rattle.pw_run.proofs.CallLemmas.{if_none, no_behind, no_method, no_service}
use Rattle.pw_run.proofs.call_words.with_head.Goals as goal

pub returns-in_err-service-clause-none : goal.returns-in_err-service-clause-none
returns-in_err-service-clause-none c =
    if_none c.from_residual.result
    (no_service c.args.path.now c.args.service.now c.args.method.now c.args.kind.now (map string_bytes c.args.rest.now) (λ id is. absurd (cc (c.in_err-service.ensures.only id is))))

pub returns-in_err-method-clause-none : goal.returns-in_err-method-clause-none
returns-in_err-method-clause-none c =
    if_none c.from_residual-in_err-method.result
    (no_method c.args.path.now c.args.service.now c.args.method.now c.args.kind.now (map string_bytes c.args.rest.now) (λ id is. absurd (cc (c.in_err-method.ensures.only id is))))

pub returns-in_err-said-clause-none : goal.returns-in_err-said-clause-none
returns-in_err-said-clause-none c =
    if_none c.from_residual-in_err-said.result
    (no_behind c.args.path.now c.args.service.now c.args.method.now c.args.kind.now (map string_bytes c.args.rest.now) c.in_ok-kind.kind c.in_ok-kind.ensures.some
    (λ payloads limit within is. absurd (false≢true (c.in_err-said.ensures.only payloads limit within is))))
