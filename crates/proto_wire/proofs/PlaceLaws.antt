-- Where the content of a field stands in the message.
use Rattle.std.proofs.Common.{◌≡◌, ℕ, ◌+◌, ◌-◌, ◌≤◌, List, ◌++◌, length, take, drop, sym, ap, ◌∙◌, append_assoc, arith}
use Rattle.std.proofs.lemmas.List.{length-append, length-drop, drop-drop, take-append-le, take_all}
use Rattle.std.proofs.Math.Seq.{drop-append_seam}
use Rattle.proto_wire.specs.Field.{Bytes, WireField}
use Rattle.proto_wire.specs.Gives.{GivesField}
use Rattle.proto_wire.specs.Places.{IsReadingOf, StandsAt}
use Rattle.proto_wire.specs.Reading.{Reading}

take_front : (xs ys : List ℕ) → take (length xs) (xs ++ ys) ≡ xs
take_front xs ys = take-append-le (length xs) xs ys (omega arith) ∙ take_all (length xs) xs (omega arith)

-- a step's field is behind what was read
pub moves_on : (bytes : List ℕ) (old new : Reading) (f : WireField) → IsReadingOf bytes old → GivesField old f new → IsReadingOf bytes new
moves_on bytes old new f is given =
    let parts : drop old.at bytes ≡ given.text ++ new.left = sym is.left ∙ given.left in
    let long : length (drop old.at bytes) ≡ length given.text + length new.left = ap length parts ∙ length-append given.text new.left in
    let old_within = is.within in
    let behind : drop (old.at + length given.text) bytes ≡ new.left =
    sym (drop-drop (length given.text) old.at bytes) ∙ ap (drop (length given.text)) parts ∙ drop-append_seam given.text new.left
    in
    record {
      within = omega (arith, given.at, long, length-drop old.at bytes);
      left = sym behind ∙ ap (λ n. drop n bytes) (sym given.at);
    }

-- the content of a field of wire type 2 ends where the field ends
pub content_stands :
    (bytes : List ℕ) (old new : Reading) (number : ℕ) (content : List ℕ) → IsReadingOf bytes old →
    (let f : WireField = record { number = number; value = Bytes content } in GivesField old f new) →
    (length content ≤ new.at) × StandsAt bytes content (new.at - length content)
content_stands bytes old new number content is given =
    let spelled = given.spelled in
    let size = spelled.valued.0 in
    let front = spelled.tag ++ size in
    let text : given.text ≡ front ++ content =
    spelled.whole ∙ ap (λ l. spelled.tag ++ l) spelled.valued.2 ∙ sym (append_assoc spelled.tag size content)
    in
    let parts : drop old.at bytes ≡ front ++ (content ++ new.left) =
    sym is.left ∙ given.left ∙ ap (λ l. l ++ new.left) text ∙ append_assoc front content new.left
    in
    let long : length given.text ≡ length front + length content = ap length text ∙ length-append front content in
    let start : new.at - length content ≡ old.at + length front = omega (arith, given.at, long) in
    let behind : drop (new.at - length content) bytes ≡ content ++ new.left =
    ap (λ n. drop n bytes) start ∙ sym (drop-drop (length front) old.at bytes) ∙ ap (drop (length front)) parts ∙ drop-append_seam front (content ++ new.left)
    in
    let after = moves_on bytes old new _ is given in
    let new_within = after.within in (
      omega (arith, given.at, long),
      record {
        within = omega (arith, given.at, long, new_within);
        same = ap (take (length content)) behind ∙ take_front content new.left;
      },
    )
