use Rattle.std.proofs.Common.{◌≡◌, List, true, ap, arith, subst, sym}
use Rattle.token_text.specs.Arguments.{arguments_of, fits as fits_of}
use Rattle.token_text.specs.Spelling.{AreWords}
use Rattle.token_text.specs.declared.argument.Arg.{Arg}
use Rattle.token_text.specs.Book.{Entry}
use Rattle.token_text.proofs.MessageLemmas.{written_message}
use Rattle.token_text.proofs.book.TokenBook.message.Goals as goal

pub returns-in-Ok-clause-message : goal.returns-in-Ok-clause-message
returns-in-Ok-clause-message c =
    let format : Entry = c.in-Some.format.now in
    let parts : c.format.inside.parts.items ≡ format.parts = ap (λ (e : Entry). e.parts) c.format.view_is in
    let fit : fits_of format.parts c.args.args.now.items ≡ true = cc in
    let P : List Arg → Type 0 = λ l. AreWords (arguments_of l) in
    (format, written_message c.args.self.now c.args.token format c.args.args.now.items (omega arith) (sym c.in-Some.ensures) fit (subst P c.deref-3.ensures.value c.in-Ok.ensures.words))
