use Rattle.std.proofs.Common.{◌≡◌, ◌-◌, length, Some, None, ap, sym, ◌∙◌, drop, arith, length-drop}
use Rattle.proto_wire.specs.Front.{FieldFront, field_front}
use Rattle.proto_wire.specs.Views.{wire_field}
use Rattle.proto_wire.proofs.StepLaws.{gives_field, gives_fault, field_front_shorter, some_left}
use Rattle.proto_wire.proofs.fields.FieldsIterator.next.Goals as goal

pub overflow_sub-self : goal.overflow_sub-self
overflow_sub-self c =
    let bytes = c.self.inside.bytes.now in
    let e : field_front (drop c.self.inside.at bytes) ≡ Some (record { field = wire_field c.in-Some.field; rest = c.in-Some.rest.now }) = ap field_front (sym c.split_at.ensures.back) ∙ sym c.in-Some.ensures in
    omega (arith, field_front_shorter (drop c.self.inside.at bytes) _ e, length-drop c.self.inside.at bytes)

pub returns-in-Some-clause-steps : goal.returns-in-Some-clause-steps
returns-in-Some-clause-steps c =
    let bytes = c.self.inside.bytes.now in
    let r : FieldFront = record { field = wire_field c.in-Some.field; rest = c.in-Some.rest.now } in
    let e : field_front (drop c.self.inside.at bytes) ≡ Some r = ap field_front (sym c.split_at.ensures.back) ∙ sym c.in-Some.ensures in
    rw (← c.self.view_is) (gives_field bytes c.self.inside.at c.self.inside.failed r c.self.invariant c.if-self.false e)

pub returns-in-Some-clause-goes : goal.returns-in-Some-clause-goes
returns-in-Some-clause-goes c =
    let bytes = c.self.inside.bytes.now in
    let e : field_front (drop c.self.inside.at bytes) ≡ Some (record { field = wire_field c.in-Some.field; rest = c.in-Some.rest.now }) = ap field_front (sym c.split_at.ensures.back) ∙ sym c.in-Some.ensures in
    let shorter = field_front_shorter (drop c.self.inside.at bytes) _ e in
    rw (← c.self.view_is, c.if-self.false) (record { on = λ _. (tt, tt, omega (arith, shorter, length-drop c.self.inside.at bytes, length-drop (length bytes - length c.in-Some.rest.now) bytes)); keeps = tt; rests = λ _. tt })

pub returns-in-None-clause-steps : goal.returns-in-None-clause-steps
returns-in-None-clause-steps c =
    let bytes = c.self.inside.bytes.now in
    let e : field_front (drop c.self.inside.at bytes) ≡ None = ap field_front (sym c.split_at.ensures.back) ∙ sym c.in-None.ensures in
    rw (← c.self.view_is) (gives_fault bytes c.self.inside.at c.self.inside.failed c.if-self.false (some_left c.split_at.result.1.now (drop c.self.inside.at bytes) c.split_at.ensures.back c.if-is_empty.ensures) e)
