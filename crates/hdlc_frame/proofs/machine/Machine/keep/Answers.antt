use Rattle.std.proofs.Common.{◌≡◌, ◌+◌, ◌-◌, ◌++◌, length, take, ap, ◌∙◌, arith}
use Rattle.std.proofs.lemmas.List.{length-take}
use Rattle.std.proofs.lemmas.Slice.{take-put_mid}
use Rattle.hdlc_frame.proofs.Machines.{kept_in}
use Rattle.hdlc_frame.proofs.machine.Machine.keep.Goals as goal

pub returns-clause-kept : goal.returns-clause-kept
returns-clause-kept c =
    let machine = c.args.self.now in
    let buffer = c.args.buffer.now in
    let octets = c.args.octets.now in
    let n = c.min-n.result in
    let given = c.requires in
    let part = c.min-n.ensures in
    let copied = c.copy_from_slice.ensures.after in
    let some : length c.copy_from_slice.new.self ≡ n = ap length copied ∙ length-take n octets ∙ omega arith in
    kept_in machine buffer _ octets n given part (omega arith)
    (take-put_mid machine.len (machine.len + n - machine.len) buffer c.copy_from_slice.new.self (machine.len + n) (omega (arith, some)) given ∙
    ap (λ l. take machine.len buffer ++ l) copied)
