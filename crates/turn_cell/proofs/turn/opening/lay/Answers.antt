use Rattle.std.proofs.Common.{List, [], ◌∷◌, ◌++◌, Option, Some, ap, sym, ◌∙◌, subst}
use Rattle.atomic_table.specs.Table.{opening}
use Rattle.turn_cell.specs.Views.{starting}
use Rattle.turn_cell.specs.Rule.{Ruled}
use Rattle.turn_cell.proofs.Counting.{opens}
use Rattle.turn_cell.proofs.turn.opening.lay.Goals as goal

pub new-requires-2 : goal.new-requires-2
new-requires-2 g c =
    let L = g.T.Logged in
    let fixed = L.base c.of-key.result.value in
    let kept = c.in-Ok.ensures.kept in
    let items = c.push_reserved.ensures.items ∙ ap (λ (l : List (Option g.row.T.Denot)). l ++ Some c.in-Ok.value ∷ []) c.in-Ok-with_capacity.ensures.items in
    subst (λ (xs : List (Option g.row.T.Denot)). Ruled L.log L.maker L.base fixed (opening (0 ∷ []) xs (starting fixed))) (sym items)
    (opens L.log L.maker L.base fixed c.in-Ok.value (ap L.log kept ∙ c.requires) (ap L.base (kept ∙ sym c.of-key.ensures)))
