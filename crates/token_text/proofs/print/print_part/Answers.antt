use Rattle.std.proofs.Common.{◌++◌, ◌∙◌, ap, rules, sym, subst}
use Rattle.std.specs.Int.{w64}
use Rattle.std.proofs.lemmas.Int.{to_z-of_z}
use mir.Val.{SFits}
use Rattle.token_text.specs.Printing.{number_text, shown_text}
use Rattle.token_text.specs.Steps.{ReadsOne}
use Rattle.token_text.specs.declared.part.Part.{Part}
use Rattle.token_text.proofs.PrintLemmas.{number_reads, text_reads}
use Rattle.token_text.proofs.print.print_part.Goals as goal

pub returns-in_ok-push_number-in-Number-clause-some : goal.returns-in_ok-push_number-in-Number-clause-some
returns-in_ok-push_number-in-Number-clause-some c =
    let bytes = c.args.bytes.now in
    let rest = c.in-Some.rest.now in
    let fits : SFits w64 c.in-Some.number = search rules in
    let printed = number_text c.in-Number.padding c.in-Number.notation c.in-Some.number in
    let read = number_reads c.in-Number.padding c.in-Number.notation bytes rest c.in-Some.number c.in-Some.ensures.some c.in-Some.ensures.only c.in-Some.ensures.short in
    let P : Part → Type 0 = λ p. ReadsOne p bytes rest printed in
    (printed, c.in_ok-push_number-in-Number.ensures.ok ∙ ap (λ z. c.args.out.now.items ++ number_text c.in-Number.padding c.in-Number.notation z) (to_z-of_z w64 c.in-Some.number fits), subst P (sym c.in-Number.is) read)

pub returns-in_ok-push_text-in-Text-clause-some : goal.returns-in_ok-push_text-in-Text-clause-some
returns-in_ok-push_text-in-Text-clause-some c =
    let bytes = c.args.bytes.now in
    let rest = c.in-Some-read_text.rest.now in
    let text = c.in-Some-read_text.text.bytes.now in
    let cut = c.in-Some-read_text.text.cut in
    let some = c.in-Some-read_text.ensures.some in
    let read = text_reads bytes rest text cut some.0 some.1 c.in-Some-read_text.ensures.only c.in-Some-read_text.ensures.short in
    let P : Part → Type 0 = λ p. ReadsOne p bytes rest (shown_text text cut) in
    (shown_text text cut, c.in_ok-push_text-in-Text.ensures.ok, subst P (sym c.in-Text.is) read)
