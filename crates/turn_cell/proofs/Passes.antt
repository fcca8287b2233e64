-- For crates above: what a pass keeps over several calls.
use Rattle.std.proofs.Common.{◌≡◌, ◌≢◌, ◌<◌, ℕ, zero, suc, false, List, [], ◌∷◌, ◌++◌, length, set, slice_index_or, refl, ap, sym, ◌∙◌, subst, ⊎_elim, arith, length-set, length-append}
use Rattle.std.specs.List.{remove}
use mathlib.Core.Option.{some, some-injective, some-ne-none}
use lib.ListN.{get_elem?}
use Rattle.atomic_table.proofs.Lists.{at_set, at_longer, at_last}
use Rattle.turn_cell.specs.Passes.{LockView, PassView, IsSame, IsPass, IsNew, IsIdle, AreAll, AreBack, HasTaken, HasGiven, HasChanged}
use Rattle.turn_cell.proofs.Places.{at_end}
use Rattle.turn_cell.proofs.Calls.{same_trans}
use Rattle.turn_cell.proofs.Closing.{there}

module _ {E B : Type 0} where
  pub new_is_idle : (r : LockView B) (k : ℕ) (p : PassView E B) → IsNew r k p → IsIdle r k p
  new_is_idle r k p new = record { pass = new.pass; idle = new.idle }

  pub same_pass : (r : LockView B) (k : ℕ) (p q : PassView E B) → IsPass r k p → IsSame p q → IsPass r k q
  same_pass r k p q pass same = record {
    table = same.table ∙ pass.table;
    number = same.number ∙ pass.number;
    base = same.base ∙ pass.base;
    rights = λ z. (same.given ∙ (pass.rights z).0, same.ended ∙ (pass.rights z).1);
  }

  -- a pass that is free again is as it may come back
  pub still_idle : (r : LockView B) (k : ℕ) (p q : PassView E B) → IsPass r k p → IsSame p q → q.view.holds ≡ false → IsIdle r k q
  still_idle r k p q pass same idle = record { pass = same_pass r k p q pass same; idle = idle }

  pub all_idle : (r : LockView B) (ps : List (PassView E B)) → AreAll r (IsNew r) ps → AreAll r (IsIdle r) ps
  all_idle r ps all = record { count = all.count; each = λ k p e. new_is_idle r k p (all.each k p e) }

  -- one of the passes made calls, and is free again
  pub one_moved : (r : LockView B) (ps : List (PassView E B)) (k : ℕ) (p q : PassView E B) → AreAll r (IsIdle r) ps → get_elem? ps k ≡ some p → IsSame p q → q.view.holds ≡ false → AreAll r (IsIdle r) (set ps k q)
  one_moved r ps k p q all at same idle = record {
    count = length-set ps k q ∙ all.count;
    each = λ j u e. ⊎_elim
        (λ (t : (j ≡ k) × (q ≡ u)). subst (λ (z : PassView E B). IsIdle r j z) t.1 (subst (λ (n : ℕ). IsIdle r n q) (sym t.0) (still_idle r k p q (all.each k p at).pass same idle)))
        (λ (t : (j ≢ k) × (get_elem? ps j ≡ some u)). all.each j u t.1)
        (at_set ps k j q u e);
  }

  -- all passes are back, and one more
  pub one_more_back : (ps qs : List (PassView E B)) (p q : PassView E B) → AreBack ps qs → IsSame p q → q.view.holds ≡ false → AreBack (ps ++ p ∷ []) (qs ++ q ∷ [])
  one_more_back ps qs p q back same idle = record {
    count = let counted = back.count in omega (arith, length-append ps (p ∷ []), length-append qs (q ∷ []));
    each = λ k u e. ⊎_elim
        (λ (t : get_elem? ps k ≡ some u). let b = back.each k u t in (b.0, at_longer qs (q ∷ []) k b.0 b.1, b.2, b.3))
        (λ (t : (k ≡ length ps) × (p ≡ u)). (q, at_last qs q k (back.count ∙ sym t.0), subst (λ (z : PassView E B). IsSame z q) t.1 same, idle))
        (at_end ps p u k e);
  }

  at_within : (l : List (PassView E B)) (i : ℕ) (p : PassView E B) → get_elem? l i ≡ some p → i < length l
  at_within [] i p e = absurd (some-ne-none p (sym e))
  at_within (x ∷ xs) zero p e = omega arith
  at_within (x ∷ xs) (suc i) p e = let h = at_within xs i p e in omega arith

  -- passes that were new and are back may end the lock
  pub all_back : (r : LockView B) (ps qs : List (PassView E B)) → AreAll r (IsNew r) ps → AreBack ps qs → AreAll r (IsIdle r) qs
  all_back r ps qs all back = record {
    count = back.count ∙ all.count;
    each = λ k q e.
        let h = at_within qs k q e in
        let counted = back.count in
        let p = there ps k (omega arith) in
        let b = back.each k p.0 p.1 in
        let is : b.0 ≡ q = some-injective b.0 q (sym b.1 ∙ e) in
        subst (λ (z : PassView E B). IsIdle r k z) is (still_idle r k p.0 b.0 (all.each k p.0 p.1).pass b.2 b.3);
  }

  -- the two passes of a lock that has just these, the second taken out first
  pub two_out : (r : LockView B) (ps : List (PassView E B)) (first second : PassView E B) → AreAll r (IsNew r) ps → r.count ≡ 2 → second ≡ slice_index_or ps 1 second → first ≡ slice_index_or (remove ps 1) 0 first → IsNew r 0 first × IsNew r 1 second
  two_out r [] first second all two at at' = let counted = all.count in absurd (omega arith)
  two_out r (a ∷ []) first second all two at at' = let counted = all.count in absurd (omega arith)
  two_out r (a ∷ b ∷ ps) first second all two at at' =
      (subst (λ (z : PassView E B). IsNew r 0 z) (sym at') (all.each 0 a refl), subst (λ (z : PassView E B). IsNew r 1 z) (sym at) (all.each 1 b refl))

module _ {X E B : Type 0} (log : X → List E) (maker : E → ℕ) (base : X → B) where
  -- taken, and then given back
  pub changed : (p m q : PassView E B) (x y : X) → HasTaken log maker base p m x → HasGiven log maker m q y → HasChanged log maker base p q x y
  changed p m q x y t g = record {
    same = same_trans p m q t.same g.same;
    begins = t.begins;
    own = t.own;
    shown = t.shown;
    based = t.based;
    seen = g.seen;
    mine = λ added is. g.mine added (is ∙ ap (λ (l : List E). l ++ added) (sym t.seen)) ∙ ap (λ (l : List E). l ++ added) t.mine;
    idle = g.idle;
  }
