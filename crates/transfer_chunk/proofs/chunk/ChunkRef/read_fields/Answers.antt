use Rattle.std.proofs.Common.{sym}
use Rattle.std.proofs.lemmas.Result.{err_from_is_err_and}
use Rattle.transfer_chunk.proofs.ReadSteps.{starts, ends, fails, refuses, goes_on, given_field, given_fault}
use Rattle.transfer_chunk.proofs.chunk.ChunkRef.read_fields.Goals as goal

pub fields-init : goal.fields-init
fields-init c = starts c.new-fields.result c.args.bytes.now _ c.new-fields.ensures.unread c.empty-chunk.ensures

pub returns-in_default : goal.returns-in_default
returns-in_default c = ends c.fields.fields _ _ c.in_default.ensures.steps.1 c.fields.invariant

pub fields-preserved : goal.fields-preserved
fields-preserved c =
    let field = given_field c.fields.fields c.next.new.self c.in-Some.next c.in_ok-field.field (c.in_ok-field.was) c.in-Some.ensures.steps in
    goes_on c.fields.fields c.next.new.self _ _ _ _ field (sym (c.in-Some-with.ensures)) c.fields.invariant

pub returns-in_err-field : goal.returns-in_err-field
returns-in_err-field c =
    let error = err_from_is_err_and c.from_residual.result c.from_residual.ensures.1 in
    let fault = given_fault c.fields.fields c.next.new.self c.in-Some.next c.in_err-field.field-0.0 (c.in_err-field.was) c.in-Some.ensures.steps in
    rw (error.1, error.2) (fails c.fields.fields c.next.new.self _ _ _ fault c.fields.invariant)

pub returns-in_default-with : goal.returns-in_default-with
returns-in_default-with c =
    let field = given_field c.fields.fields c.next.new.self c.in-Some.next c.in_ok-field.field (c.in_ok-field.was) c.in-Some.ensures.steps in
    rw c.at-at.ensures (refuses c.fields.fields c.next.new.self _ _ _ field (sym (c.in_default-with.ensures)) c.fields.invariant)
