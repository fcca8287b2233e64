use Rattle.std.proofs.Common.{◌++◌, ◌∷◌, [], ◌+◌, ◌<◌, ◌%◌, ◌/◌, length, take, refl, ap, sym, ◌∙◌, append_assoc, arith}
use Rattle.std.proofs.lemmas.List.{length-set, take_more_set}
use Rattle.proto_wire.specs.Varint.{varint_text}
use Rattle.proto_wire.proofs.SpellingLaws.{varint_text-last, varint_text-more, varint_text_short}
use Rattle.proto_wire.proofs.varint.spell_varint.Goals as goal

pub loop-rest-init : goal.loop-rest-init
loop-rest-init c = let short = varint_text_short c.args.value in record { ten = omega arith; room = omega (arith, short); leads_on = refl }

pub bounds-bytes-len : goal.bounds-bytes-len
bounds-bytes-len c =
    let rest = c.loop-rest.rest in
    let room = c.loop-rest.invariant.room in
    omega (arith, room, ap length (varint_text-more rest c.loop-rest-test.true (omega (arith, c.loop-rest.auto.rest-fits))))

pub loop-rest-preserved : goal.loop-rest-preserved
loop-rest-preserved c =
    let bytes = c.loop-rest.bytes in
    let rest = c.loop-rest.rest in
    let len = c.loop-rest.len in
    let inv = c.loop-rest.invariant in
    let byte = 128 + rest % 128 in
    let room = inv.room in
    let ten = inv.ten in
    let more = varint_text-more rest c.loop-rest-test.true (omega (arith, c.loop-rest.auto.rest-fits)) in
    let below : len < length bytes = omega (arith, room, ten, ap length more) in
    record {
      ten = length-set bytes len byte ∙ ten;
      room = omega (arith, room, ap length more);
      leads_on =
          ap (λ l. l ++ varint_text (rest / 128)) (take_more_set bytes len byte below) ∙ append_assoc (take len bytes) (byte ∷ []) (varint_text (rest / 128)) ∙
          ap (λ l. take len bytes ++ l) (sym more) ∙ inv.leads_on;
    }

pub bounds-bytes-len-2 : goal.bounds-bytes-len-2
bounds-bytes-len-2 c =
    let room = c.loop-rest.invariant.room in
    omega (arith, room, ap length (varint_text-last c.loop-rest.rest c.loop-rest-test.false))

pub returns-clause-within : goal.returns-clause-within
returns-clause-within c =
    let room = c.loop-rest.invariant.room in
    let ten = c.loop-rest.invariant.ten in
    omega (arith, room, ten, ap length (varint_text-last c.loop-rest.rest c.loop-rest-test.false), length-set c.loop-rest.bytes c.loop-rest.len c.loop-rest.rest)

pub returns-clause-text : goal.returns-clause-text
returns-clause-text c =
    let bytes = c.loop-rest.bytes in
    let rest = c.loop-rest.rest in
    let len = c.loop-rest.len in
    let inv = c.loop-rest.invariant in
    let room = inv.room in
    let ten = inv.ten in
    let last = varint_text-last rest c.loop-rest-test.false in
    let below : len < length bytes = omega (arith, room, ten, ap length last) in
    take_more_set bytes len rest below ∙ ap (λ l. take len bytes ++ l) (sym last) ∙ inv.leads_on
