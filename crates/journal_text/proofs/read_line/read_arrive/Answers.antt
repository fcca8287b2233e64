use Rattle.journal_text.proofs.LineLemmas.{arrive_read, spelled_same}
use Rattle.journal_text.proofs.read_line.read_arrive.Goals as goal

pub returns : goal.returns
returns c =
    let some = rw c.in-Some.is at c.in_ok-bytes.ensures.some in
    let octets = rw c.in-Some.is at c.in_ok-bytes.ensures.bytes in
    let only = rw c.in-Some.is at c.in_ok-bytes.ensures.only in
    arrive_read c.args.text.now c.in-Some.bytes.items c.in_ok-packet.packet some octets (λ other small is. only other small is)
    (spelled_same c.in-Some.bytes.items c.write.new.out.items c.new-spelled.result.items _ c.if-ne.ensures
    c.new-spelled.ensures.items c.in_ok-write.ensures.ok)
    c.in_ok-write.ensures.again
