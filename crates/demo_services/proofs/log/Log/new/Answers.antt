use Rattle.std.proofs.Common.{List, [], ◌∷◌, codes, refl}
use Rattle.rpc_ids.specs.Names.{name_id}
use Rattle.token_text.specs.Book.{Entry}
use Rattle.token_text.specs.declared.part.Notation.TheVariants.{Signed, Unsigned, Hexadecimal}
use Rattle.token_text.specs.declared.part.Padding.TheVariants.{Bare}
use Rattle.token_text.specs.declared.part.Part.TheVariants as part
use Rattle.demo_services.specs.Log.{one_part}
use Rattle.demo_services.proofs.LogLemmas.{grown, letter_format, signed_format, unsigned_format, hexadecimal_format, text_format, new_token}
use Rattle.demo_services.proofs.log.Log.new.Goals as goal

-- the formats so far
abbrev first_1 : List Entry
first_1 = one_part (codes "a") (part.Byte 97) ∷ []

abbrev first_2 : List Entry
first_2 = one_part (codes "a") (part.Byte 97) ∷ one_part (codes "%d") (part.Number Bare Signed) ∷ []

abbrev first_3 : List Entry
first_3 = one_part (codes "a") (part.Byte 97) ∷ one_part (codes "%d") (part.Number Bare Signed) ∷ one_part (codes "%u") (part.Number Bare Unsigned) ∷ []

abbrev first_4 : List Entry
first_4 = one_part (codes "a") (part.Byte 97) ∷ one_part (codes "%d") (part.Number Bare Signed) ∷ one_part (codes "%u") (part.Number Bare Unsigned) ∷ one_part (codes "%x") (part.Number Bare Hexadecimal) ∷ []

pub add-requires-clause-well : goal.add-requires-clause-well
add-requires-clause-well c = (part.Byte 97 ∷ [], letter_format)

pub add-requires-2-clause-well : goal.add-requires-2-clause-well
add-requires-2-clause-well c = (part.Number Bare Signed ∷ [], signed_format)

pub add-requires-2-clause-new : goal.add-requires-2-clause-new
unfolding name_id
add-requires-2-clause-new c =
    let book_1 = grown c.new-book.result c.add.new.book [] (one_part (codes "a") (part.Byte 97)) c.new-book.ensures (c.in_ok-add.ensures (part.Byte 97 ∷ []) letter_format) in
    new_token c.add.new.book first_1 (name_id (codes "%d")) book_1 refl

pub add-requires-3-clause-well : goal.add-requires-3-clause-well
add-requires-3-clause-well c = (part.Number Bare Unsigned ∷ [], unsigned_format)

pub add-requires-3-clause-new : goal.add-requires-3-clause-new
unfolding name_id
add-requires-3-clause-new c =
    let book_1 = grown c.new-book.result c.add.new.book [] (one_part (codes "a") (part.Byte 97)) c.new-book.ensures (c.in_ok-add.ensures (part.Byte 97 ∷ []) letter_format) in
    let book_2 = grown c.add.new.book c.add-2.new.book first_1 (one_part (codes "%d") (part.Number Bare Signed)) book_1 (c.in_ok-add-2.ensures (part.Number Bare Signed ∷ []) signed_format) in
    new_token c.add-2.new.book first_2 (name_id (codes "%u")) book_2 refl

pub add-requires-4-clause-well : goal.add-requires-4-clause-well
add-requires-4-clause-well c = (part.Number Bare Hexadecimal ∷ [], hexadecimal_format)

pub add-requires-4-clause-new : goal.add-requires-4-clause-new
unfolding name_id
add-requires-4-clause-new c =
    let book_1 = grown c.new-book.result c.add.new.book [] (one_part (codes "a") (part.Byte 97)) c.new-book.ensures (c.in_ok-add.ensures (part.Byte 97 ∷ []) letter_format) in
    let book_2 = grown c.add.new.book c.add-2.new.book first_1 (one_part (codes "%d") (part.Number Bare Signed)) book_1 (c.in_ok-add-2.ensures (part.Number Bare Signed ∷ []) signed_format) in
    let book_3 = grown c.add-2.new.book c.add-3.new.book first_2 (one_part (codes "%u") (part.Number Bare Unsigned)) book_2 (c.in_ok-add-3.ensures (part.Number Bare Unsigned ∷ []) unsigned_format) in
    new_token c.add-3.new.book first_3 (name_id (codes "%x")) book_3 refl

pub add-requires-5-clause-well : goal.add-requires-5-clause-well
add-requires-5-clause-well c = (part.Text ∷ [], text_format)

pub add-requires-5-clause-new : goal.add-requires-5-clause-new
unfolding name_id
add-requires-5-clause-new c =
    let book_1 = grown c.new-book.result c.add.new.book [] (one_part (codes "a") (part.Byte 97)) c.new-book.ensures (c.in_ok-add.ensures (part.Byte 97 ∷ []) letter_format) in
    let book_2 = grown c.add.new.book c.add-2.new.book first_1 (one_part (codes "%d") (part.Number Bare Signed)) book_1 (c.in_ok-add-2.ensures (part.Number Bare Signed ∷ []) signed_format) in
    let book_3 = grown c.add-2.new.book c.add-3.new.book first_2 (one_part (codes "%u") (part.Number Bare Unsigned)) book_2 (c.in_ok-add-3.ensures (part.Number Bare Unsigned ∷ []) unsigned_format) in
    let book_4 = grown c.add-3.new.book c.add-4.new.book first_3 (one_part (codes "%x") (part.Number Bare Hexadecimal)) book_3 (c.in_ok-add-4.ensures (part.Number Bare Hexadecimal ∷ []) hexadecimal_format) in
    new_token c.add-4.new.book first_4 (name_id (codes "%s")) book_4 refl

pub invariant_of-result : goal.invariant_of-result
invariant_of-result c =
    let book_1 = grown c.new-book.result c.add.new.book [] (one_part (codes "a") (part.Byte 97)) c.new-book.ensures (c.in_ok-add.ensures (part.Byte 97 ∷ []) letter_format) in
    let book_2 = grown c.add.new.book c.add-2.new.book first_1 (one_part (codes "%d") (part.Number Bare Signed)) book_1 (c.in_ok-add-2.ensures (part.Number Bare Signed ∷ []) signed_format) in
    let book_3 = grown c.add-2.new.book c.add-3.new.book first_2 (one_part (codes "%u") (part.Number Bare Unsigned)) book_2 (c.in_ok-add-3.ensures (part.Number Bare Unsigned ∷ []) unsigned_format) in
    let book_4 = grown c.add-3.new.book c.add-4.new.book first_3 (one_part (codes "%x") (part.Number Bare Hexadecimal)) book_3 (c.in_ok-add-4.ensures (part.Number Bare Hexadecimal ∷ []) hexadecimal_format) in
    let book_5 = grown c.add-4.new.book c.add-5.new.book first_4 (one_part (codes "%s") part.Text) book_4 (c.in_ok-add-5.ensures (part.Text ∷ []) text_format) in
    book_5
