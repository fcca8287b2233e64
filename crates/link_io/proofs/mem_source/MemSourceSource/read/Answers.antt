use Rattle.std.proofs.Common.{sym, ◌∙◌, ap}
use Rattle.link_io.proofs.PieceLemmas.{next_copied, none_copied}
use Rattle.link_io.proofs.mem_source.MemSourceSource.read.Goals as goal

pub returns-clause-bytes : goal.returns-clause-bytes
returns-clause-bytes c =
    let count = rw c.deref-2.ensures.value at c.min-count.ensures in
    let front = rw c.deref-2.ensures.value at c.copy_from_slice.ensures.after in
    let old = ap (λ d. d.bytes) (sym c.self.view_is) in
    (old ∙ next_copied c.self.inside.content.items _ _ _ _ count front, λ none _. none_copied c.self.inside.content.items _ _ _ count c.requires none)
