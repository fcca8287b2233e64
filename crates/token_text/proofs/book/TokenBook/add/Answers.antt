use Rattle.std.proofs.Common.{◌≡◌, ◌≤◌, true, List, IsNone, IsSome, ap, length, sym, ◌∙◌, subst}
use Rattle.token_text.specs.Book.{Entry, format_of, has_own_tokens}
use Rattle.token_text.specs.declared.part.Part.{Part}
use Rattle.token_text.proofs.BookLemmas.{added_is_found, lent_is_there, none_is, others_are_found, own_tokens_more}
use Rattle.token_text.proofs.FormatLemmas.{format_few}
use Rattle.token_text.proofs.book.TokenBook.add.Goals as goal

pub invariant_of-push : goal.invariant_of-push
invariant_of-push c =
    let read = c.in_default.ensures.format in
    let same : c.in-Ok.parts.items ≡ read.0 = c.in-Ok.ensures read.0 read.1 in
    let P : List Part → Type 0 = λ ps. length ps ≤ 256 in
    subst P (sym same) (format_few c.args.format.now read.0 read.1)

pub returns-in-Ok-push-clause-found : goal.returns-in-Ok-push-clause-found
returns-in-Ok-push-clause-found c =
    let entry : Entry = record { token = c.hash_name-token.result; parts = c.in-Ok.parts.items } in
    let there = lent_is_there c.find.result in
    let none : IsNone (format_of c.self.inside.formats.items entry.token) = cc in
    let P : List Entry → Type 0 = λ book. IsSome (format_of book entry.token) in
    subst P (sym c.in-Ok-push.ensures.items) (added_is_found c.self.inside.formats.items entry none)

pub returns-in-Ok-push-clause-others : goal.returns-in-Ok-push-clause-others
returns-in-Ok-push-clause-others c token known =
    let entry : Entry = record { token = c.hash_name-token.result; parts = c.in-Ok.parts.items } in
    let same : c.self.inside.formats.items ≡ c.args.self.now = c.self.view_is in
    let P : List Entry → Type 0 = λ book. IsSome (format_of book token) in
    let inside : IsSome (format_of c.self.inside.formats.items token) = subst P (sym same) known in
    ap (λ book. format_of book token) c.in-Ok-push.ensures.items
    ∙ (others_are_found c.self.inside.formats.items entry token inside ∙ ap (λ book. format_of book token) same)

pub invariant_of-self : goal.invariant_of-self
invariant_of-self c =
    let entry : Entry = record { token = c.hash_name-token.result; parts = c.in-Ok.parts.items } in
    let there = lent_is_there c.find.result in
    let none : IsNone (format_of c.self.inside.formats.items entry.token) = cc in
    let P : List Entry → Type 0 = λ book. has_own_tokens book ≡ true in
    subst P (sym c.in-Ok-push.ensures.items) (own_tokens_more c.self.inside.formats.items entry (none_is (format_of c.self.inside.formats.items entry.token) none) c.self.invariant)
