use Rattle.std.proofs.Common.{◌≡◌, ◌∙◌}
use Rattle.hex.specs.Hex.{IsBytes, encode_lower}
use Rattle.journal_text.proofs.FindLemmas.{finds_some}
use Rattle.journal_text.proofs.read_field.read_bytes.Goals as goal

pub returns : goal.returns
returns c =
    let same = c.in_ok-from_vec.ensures.ok in
    let some = rw c.in-Some.is at c.in_ok-bytes.ensures.some in
    let octets = rw c.in-Some.is at c.in_ok-bytes.ensures.bytes in
    finds_some (λ bytes. (c.args.text.now ≡ encode_lower bytes) × IsBytes bytes) _ (rw same (some, octets)) (λ bytes is.
    same ∙ (rw c.in-Some.is at (c.in_ok-bytes.ensures.only bytes is.1 is.0)))
