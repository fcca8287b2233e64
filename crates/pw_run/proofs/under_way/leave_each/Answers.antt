use Rattle.std.proofs.Common.{rules, ◌≡◌, List, [], ◌∷◌, ◌++◌, append_assoc, ap, sym, ◌∙◌, arith}
use Rattle.link_io.specs.declared.store.StoreKey.{StoreKey}
use Rattle.pw_run.proofs.UnderWayLemmas.{left_more}
use Rattle.pw_run.proofs.under_way.leave_each.Goals as goal

pub uploads-preserved : goal.uploads-preserved
uploads-preserved g c =
    let before = c.uploads.invariant in
    let front = before.left.0 in
    let key = c.in-Some.key.now in
    let rest = c.next.new.self in
    let turn : c.uploads.key-iterator ≡ key ∷ rest = search rules in
    record {
      left = (
        front ++ key ∷ [],
        append_assoc front (key ∷ []) rest ∙ (ap (λ (keys : List StoreKey). front ++ keys) (sym turn) ∙ before.left.1),
        left_more front key _ _ _ before.left.2 c.in_ok-leave.ensures.change.made,
      );
      later = omega (arith, before.later, c.in_ok-leave.ensures.cause.later);
    }
