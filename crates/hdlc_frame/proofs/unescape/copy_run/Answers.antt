use Rattle.std.proofs.Common.{◌≡◌, ◌+◌, ◌-◌, length, take, drop, refl, ap, ◌∙◌, arith}
use Rattle.std.proofs.lemmas.List.{length-drop, length-take-le, take_rest}
use Rattle.std.proofs.lemmas.Slice.{take-put_mid}
use Rattle.hdlc_frame.proofs.Copied.{block_over, copied_on, ordinary_on}
use Rattle.hdlc_frame.proofs.unescape.copy_run.Goals as goal

pub returns-in-Some-clause-ordinary : goal.returns-in-Some-clause-ordinary
returns-in-Some-clause-ordinary c =
    let octets = c.args.octets.now in
    let done = c.copies.done in
    ordinary_on done c.in-Some.n octets (drop done octets) refl c.copies.invariant.ordinary c.in-Some.ensures.some.1

pub returns-in-Some-clause-copied : goal.returns-in-Some-clause-copied
returns-in-Some-clause-copied c =
    let octets = c.args.octets.now in
    let from = c.args.from in
    let done = c.copies.done in
    let buffer = c.copies.buffer in
    let within = c.copies.invariant.within in
    let whole : from + done + 32 - (from + done) ≡ 32 = omega arith in
    let over = block_over (from + done) done (from + done + 32 - (from + done)) buffer octets whole (omega arith) (omega arith) in
    let some = ap length over ∙ length-take-le 32 (drop done octets) (omega (arith, length-drop done octets)) in
    copied_on from done c.in-Some.n 32 c.args.buffer.now buffer _ octets (drop done octets) _ refl over
    (let below = c.in-Some.ensures.some.0 in omega arith) (omega arith) c.copies.invariant.copied
    (take-put_mid (from + done) (from + done + 32 - (from + done)) buffer _ (from + done + 32) (omega (arith, some)) (omega arith))

pub copies-preserved : goal.copies-preserved
copies-preserved c =
    let octets = c.args.octets.now in
    let from = c.args.from in
    let done = c.copies.done in
    let buffer = c.copies.buffer in
    let whole : from + done + 32 - (from + done) ≡ 32 = omega arith in
    let over = block_over (from + done) done (from + done + 32 - (from + done)) buffer octets whole (omega arith) (omega arith) in
    let some = ap length over ∙ length-take-le 32 (drop done octets) (omega (arith, length-drop done octets)) in
    record {
      within = omega arith;
      same = omega (arith, some);
      ordinary = ordinary_on done 32 octets (drop done octets) refl c.copies.invariant.ordinary (c.in-None.ensures.none refl);
      copied =
          copied_on from done 32 32 c.args.buffer.now buffer _ octets (drop done octets) _ refl over (omega arith) (omega arith) c.copies.invariant.copied
          (take-put_mid (from + done) (from + done + 32 - (from + done)) buffer _ (from + done + 32) (omega (arith, some)) (omega arith));
    }

pub returns-clause-ordinary : goal.returns-clause-ordinary
returns-clause-ordinary c =
    let octets = c.args.octets.now in
    let done = c.copies.done in
    ordinary_on done c.ordinary_len-n.result octets (take (length octets - done) (drop done octets)) (take_rest octets done) c.copies.invariant.ordinary
    c.ordinary_len-n.ensures.ordinary

pub returns-clause-copied : goal.returns-clause-copied
returns-clause-copied c =
    let octets = c.args.octets.now in
    let done = c.copies.done in
    let from = c.args.from in
    let n = c.ordinary_len-n.result in
    let rest = take (length octets - done) (drop done octets) in
    let buffer = c.copies.buffer in
    let part = c.copy_from_slice.new.self in
    let copied = c.copy_from_slice.ensures.after in
    let within = c.ordinary_len-n.ensures.within in
    let some : length part ≡ n = ap length copied ∙ length-take-le n rest within in
    copied_on from done n n c.args.buffer.now buffer _ octets rest part (take_rest octets done) copied (omega arith) (omega arith) c.copies.invariant.copied
    (take-put_mid (from + done) (from + done + n - (from + done)) buffer part (from + done + n) (omega (arith, some)) (omega arith))
