use Rattle.std.proofs.Common.{◌≡◌, ℕ, List, ◌+◌, ◌*◌, ◌/◌, ◌%◌, ◌<◌, ◌++◌, ◌∷◌, [], length, take, ap, sym, subst, ◌∙◌, arith}
use Rattle.std.proofs.lemmas.List.{length-append, length-set, length-take-le, take_more_set}
use Rattle.std.specs.Prelude.{slice_set}
use Rattle.hdlc_frame.specs.declared.octets.TheConstants.{UI_CONTROL}
use Rattle.hdlc_frame.proofs.Headers.{Begun, begun_more, begun_none, begun_room, header_is}
use Rattle.hdlc_frame.proofs.header.spell_header.Goals as goal

pub loop-rest-init : goal.loop-rest-init
loop-rest-init c = record { six = omega arith; len = omega arith; begun = begun_none c.args.address (omega arith) }

pub loop-rest-preserved : goal.loop-rest-preserved
loop-rest-preserved c =
    let octets = c.loop-rest.octets in
    let len = c.loop-rest.len in
    let rest = c.loop-rest.rest in
    let inv = c.loop-rest.invariant in
    let six = inv.six in
    let short = inv.len in
    let x = rest % 128 * 2 in
    let front = take len octets in
    let next = begun_more c.args.address rest front c.loop-rest-test.true inv.begun in
    let room = begun_room c.args.address (rest / 128) (front ++ x ∷ []) next in
    let below : len < length octets = omega (arith, six, short) in
    let P : List ℕ → Type 0 = λ l. Begun c.args.address (rest / 128) l in
    record {
      six = length-set octets len x ∙ six;
      len = omega (arith, room, length-append front (x ∷ []), length-take-le len octets (omega arith));
      begun = subst P (sym (take_more_set octets len x below)) next;
    }

pub returns-clause-header : goal.returns-clause-header
returns-clause-header c =
    let octets = c.loop-rest.octets in
    let len = c.loop-rest.len in
    let rest = c.loop-rest.rest in
    let inv = c.loop-rest.invariant in
    let six = inv.six in
    let short = inv.len in
    let last = rest * 2 + 1 in
    let first_set = slice_set octets len last in
    let both : len + 2 ≡ len + 1 + 1 = omega arith in
    let below : len < length octets = omega (arith, six, short) in
    let below_next : len + 1 < length first_set = omega (arith, six, short, length-set octets len last) in
    ap (λ n. take n (slice_set first_set (len + 1) UI_CONTROL)) both ∙ take_more_set first_set (len + 1) UI_CONTROL below_next ∙
    ap (λ l. l ++ UI_CONTROL ∷ []) (take_more_set octets len last below) ∙
    header_is c.args.address rest UI_CONTROL (take len octets) c.loop-rest-test.false inv.begun
