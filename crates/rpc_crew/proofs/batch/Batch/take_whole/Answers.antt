use Rattle.std.proofs.Common.{◌≡◌, ap, ◌∙◌, arith, slice_index_or}
use Rattle.rpc_crew.specs.declared.batch.Framed.{Framed}
use Rattle.rpc_crew.proofs.batch.Batch.take_whole.Goals as goal

pub returns-clause-first : goal.returns-clause-first
returns-clause-first c =
    let items = c.in_ok-framed.ensures.items in
    let same : c.in_ok-first.first.now ≡ c.in_ok-framed.framed = c.in_ok-first.ensures.lookup ∙ ap (λ xs. slice_index_or xs 0 c.in_ok-first.first.now) items in
    rw (← c.self.view_is) (c.in_ok-framed.framed.end, omega (arith, c.if-first-written.false, ap (λ (f : Framed). f.end) same), items)
