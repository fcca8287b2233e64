use Rattle.journal_text.proofs.print_answer.add_item.Goals as goal

pub returns-in_ok-payload-in-Say-clause-ok : goal.returns-in_ok-payload-in-Say-clause-ok
returns-in_ok-payload-in-Say-clause-ok c =
    rw (c.in-Say.is, ← c.as_slice.ensures, ← c.in_ok-payload-in-Say.ensures.ok) c.write.ensures.bytes

pub returns-in_ok-bytes-in-Append-clause-ok : goal.returns-in_ok-bytes-in-Append-clause-ok
returns-in_ok-bytes-in-Append-clause-ok c =
    rw (c.in-Append.is, ← c.as_slice-in-Append.ensures, ← c.in_ok-bytes-in-Append.ensures.ok) c.write-in-Append.ensures.bytes
