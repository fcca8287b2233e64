use Rattle.std.proofs.Common.{ℕ, List, refl, sym, ap, subst, arith}
use Rattle.std.proofs.lemmas.Result.{err_from_is_err_and}
use Rattle.proto_wire.specs.Field.{WireField, WireValue}
use Rattle.proto_wire.specs.Gives.{GivesField}
use Rattle.proto_wire.specs.Places.{IsReadingOf, StandsAt}
use Rattle.proto_wire.specs.Reading.{Reading}
use Rattle.proto_wire.specs.Views.{wire_field}
use Rattle.proto_wire.proofs.PlaceLaws.{content_stands, moves_on}
use Rattle.rpc_packet.proofs.Steps.{starts, ends, fails, refuses, goes_on, given_field, given_fault, payload_given, payload_kept}
use Rattle.rpc_packet.proofs.placed.read_placed.Goals as goal

pub fields-init : goal.fields-init
fields-init c =
    let bytes = c.args.bytes.now in
    let P : Reading → Type 0 = λ r. IsReadingOf bytes r in
    let Q : List ℕ → Type 0 = λ payload. StandsAt bytes payload 0 in
    record {
      says = starts c.new-fields.result bytes _ c.new-fields.ensures.start c.unsaid-packet.ensures;
      reading = subst P (sym c.new-fields.ensures.start) (record { within = omega arith; left = refl });
      stands = subst Q (sym (ap (λ m. m.payload) c.unsaid-packet.ensures)) (record { within = omega arith; same = refl });
    }

pub returns-in_default-clause-value : goal.returns-in_default-clause-value
returns-in_default-clause-value c = ends c.fields.fields _ _ c.in_default.ensures.steps.1 c.fields.invariant.says

pub returns-in_err-field-clause-value : goal.returns-in_err-field-clause-value
returns-in_err-field-clause-value c =
    let error = err_from_is_err_and c.from_residual.result c.from_residual.ensures.1 in
    let fault = given_fault c.fields.fields c.next.new.self c.in-Some.next c.in_err-field.field-0.0 (c.in_err-field.was) c.in-Some.ensures.steps in
    rw (error.1, error.2) (fails c.fields.fields c.next.new.self _ _ _ fault c.fields.invariant.says)

pub returns-in_default-with_field-clause-value : goal.returns-in_default-with_field-clause-value
returns-in_default-with_field-clause-value c =
    let field = given_field c.fields.fields c.next.new.self c.in-Some.next c.in_ok-field.field (c.in_ok-field.was) c.in-Some.ensures.steps in
    rw c.at-at.ensures (refuses c.fields.fields c.next.new.self _ _ _ field (sym (c.in_default-with_field.ensures)) c.fields.invariant.says)

pub overflow_sub-payload_at : goal.overflow_sub-payload_at
overflow_sub-payload_at c =
    let new = c.next.new.self in
    let field = given_field c.fields.fields new c.in-Some.next c.in_ok-field.field (c.in_ok-field.was) c.in-Some.ensures.steps in
    let wire = wire_field c.in_ok-field.field in
    let payload = c.in-Some-with_field.longer.payload.now in
    let V : WireValue → Type 0 = λ v. let f : WireField = record { number = wire.number; value = v } in GivesField c.fields.fields f new in
    let given = subst V (payload_given _ _ wire.number wire.value c.if-field-eq-PAYLOAD.true (sym (c.in-Some-with_field.ensures))) field in
    rw c.at.ensures (content_stands c.args.bytes.now c.fields.fields new wire.number payload c.fields.invariant.reading given).0

pub fields-preserved-then-field-eq-PAYLOAD : goal.fields-preserved-then-field-eq-PAYLOAD
fields-preserved-then-field-eq-PAYLOAD c =
    let bytes = c.args.bytes.now in
    let new = c.next.new.self in
    let field = given_field c.fields.fields new c.in-Some.next c.in_ok-field.field (c.in_ok-field.was) c.in-Some.ensures.steps in
    let wire = wire_field c.in_ok-field.field in
    let payload = c.in-Some-with_field.longer.payload.now in
    let V : WireValue → Type 0 = λ v. let f : WireField = record { number = wire.number; value = v } in GivesField c.fields.fields f new in
    let given = subst V (payload_given _ _ wire.number wire.value c.if-field-eq-PAYLOAD.true (sym (c.in-Some-with_field.ensures))) field in
    record {
      says = goes_on c.fields.fields new _ _ _ _ field (sym (c.in-Some-with_field.ensures)) c.fields.invariant.says;
      reading = moves_on bytes c.fields.fields new wire c.fields.invariant.reading field;
      stands = rw c.at.ensures (content_stands bytes c.fields.fields new wire.number payload c.fields.invariant.reading given).1;
    }

pub fields-preserved : goal.fields-preserved
fields-preserved c =
    let bytes = c.args.bytes.now in
    let new = c.next.new.self in
    let field = given_field c.fields.fields new c.in-Some.next c.in_ok-field.field (c.in_ok-field.was) c.in-Some.ensures.steps in
    let wire = wire_field c.in_ok-field.field in
    let Q : List ℕ → Type 0 = λ payload. StandsAt bytes payload c.fields.payload_at in
    record {
      says = goes_on c.fields.fields new _ _ _ _ field (sym (c.in-Some-with_field.ensures)) c.fields.invariant.says;
      reading = moves_on bytes c.fields.fields new wire c.fields.invariant.reading field;
      stands = subst Q (sym (payload_kept _ _ wire.number wire.value c.if-field-eq-PAYLOAD.false (sym (c.in-Some-with_field.ensures)))) c.fields.invariant.stands;
    }
