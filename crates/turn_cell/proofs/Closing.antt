-- The end of a lock: pass 0 takes in the others, and then all fit the value.
use Rattle.std.proofs.Common.{◌≡◌, ◌⊎◌, ℕ, zero, suc, ◌<◌, ◌≤◌, false, List, [], ◌∷◌, ◌++◌, length, slice_index_or, Option, Some, refl, ap, sym, ◌∙◌, subst, inl, inr, ⊎_elim, arith}
use Rattle.std.specs.List.{remove}
use mathlib.Core.Option.{some, some-injective}
use lib.ListN.{get_elem?}
use Rattle.atomic_table.specs.Seated.{TableId}
use Rattle.atomic_table.proofs.Lists.{at_longer, at_last, at_snoc}
use Rattle.entry_lists.specs.Entries.{made_by}
use Rattle.entry_lists.proofs.Makers.{makers_below}
use Rattle.turn_cell.specs.declared.view.Known.{Known}
use Rattle.turn_cell.specs.declared.view.View.{View}
use Rattle.turn_cell.specs.Views.{Fits, keeping}
use Rattle.turn_cell.specs.Passes.{LockView, PassView, IsIdle, AreAll, FitsValue, AllFit}
use Rattle.turn_cell.specs.Helpers.{AreFree, AreEnded}
use Rattle.atomic_table.specs.Table.{Final, Seen}
use Rattle.turn_cell.specs.Rule.{Ruled}
use Rattle.turn_cell.proofs.Counting.{Ends, ends}

module _ {E B : Type 0} where
  -- each of the passes is still to be taken in, or what it knew is kept
  abbrev pub AreTaken : List (PassView E B) → List (PassView E B) → List (Known E) → Type 0
  AreTaken all left ended = (i : ℕ) (p : PassView E B) → get_elem? all i ≡ some p → (get_elem? left i ≡ some p) ⊎ ((j : ℕ) × (get_elem? ended j ≡ some p.view.known))

  pub none_taken : (all : List (PassView E B)) (ended : List (Known E)) → AreTaken all all ended
  none_taken all ended i p e = inl e

  pub all_taken : (all : List (PassView E B)) (ended : List (Known E)) → AreTaken all [] ended → AreEnded ended all
  all_taken all ended taken i p e = ⊎_elim (λ (t : get_elem? [] i ≡ some p). absurd cc) (λ (t : (j : ℕ) × (get_elem? ended j ≡ some p.view.known)). t) (taken i p e)

  pub one_taken : (all left : List (PassView E B)) (last : PassView E B) (ended : List (Known E)) → AreTaken all (left ++ last ∷ []) ended → AreTaken all left (ended ++ last.view.known ∷ [])
  one_taken all left last ended taken i p e = ⊎_elim
      (λ (t : get_elem? (left ++ last ∷ []) i ≡ some p). ⊎_elim
      (λ (u : get_elem? left i ≡ some p). inl u)
      (λ (u : last ≡ p). inr (length ended, at_last ended last.view.known (length ended) refl ∙ ap (λ (z : PassView E B). some z.view.known) u))
      (at_snoc left last p i t))
      (λ (t : (j : ℕ) × (get_elem? ended j ≡ some p.view.known)). inr (t.0, at_longer ended (last.view.known ∷ []) t.0 p.view.known t.1))
      (taken i p e)

  pub fewer_free : (table : TableId) (left : List (PassView E B)) (last : PassView E B) → AreFree table (left ++ last ∷ []) → AreFree table left
  fewer_free table left last free i p e = free i p (at_longer left (last ∷ []) i p e)

  pub last_free : (table : TableId) (left : List (PassView E B)) (last : PassView E B) → AreFree table (left ++ last ∷ []) → (last.table ≡ table) × (last.view.holds ≡ false)
  last_free table left last free = free (length left) last (at_last left last (length left) refl)

  pub kept_more : (bare first new : PassView E B) (last : View E B) → first ≡ record bare { view = record bare.view { ended = first.view.ended } } → new ≡ record first { view = keeping first.view last }
      → new ≡ record bare { view = record bare.view { ended = new.view.ended } }
  kept_more bare first new last so_far is =
      let ended : new.view.ended ≡ first.view.ended ++ last.known ∷ [] = ap (λ (z : PassView E B). z.view.ended) is in
      is
      ∙ (ap (λ (z : PassView E B). record z { view = record z.view { ended = first.view.ended ++ last.known ∷ [] } }) so_far
      ∙ ap (λ (l : List (Known E)). record bare { view = record bare.view { ended = l } }) (sym ended))

  -- the first of the passes, and the others
  pub split_first : (ps : List (PassView E B)) (first : PassView E B) (others : List (PassView E B)) → 0 < length ps → first ≡ slice_index_or ps 0 first → others ≡ remove ps 0 → ps ≡ first ∷ others
  split_first [] first others some_there at rest = absurd (omega arith)
  split_first (p ∷ ps) first others some_there at rest = cc

  pub parts_all : (r : LockView B) (ps : List (PassView E B)) (first : PassView E B) (others : List (PassView E B)) → AreAll r (IsIdle r) ps → (0 < r.count) → first ≡ slice_index_or ps 0 first → others ≡ remove ps 0 → AreAll r (IsIdle r) (first ∷ others)
  parts_all r ps first others all some_there at rest =
      let counted = all.count in
      subst (λ (l : List (PassView E B)). AreAll r (IsIdle r) l) (split_first ps first others (omega arith) at rest) all

  pub there : (l : List (PassView E B)) (i : ℕ) → i < length l → (p : PassView E B) × (get_elem? l i ≡ some p)
  there [] i h = absurd (omega arith)
  there (p ∷ ps) zero h = (p, refl)
  there (p ∷ ps) (suc i) h = there ps i (omega arith)

  module _ (r : LockView B) (first : PassView E B) (others : List (PassView E B)) (all : AreAll r (IsIdle r) (first ∷ others)) where
    pub first_idle : IsIdle r 0 first
    first_idle = all.each 0 first refl

    pub others_free : (table : TableId) → r.table ≡ table → AreFree table others
    others_free table is i p e = let idle = all.each (suc i) p e in (idle.pass.table ∙ is, idle.idle)

    pub all_ended : (ended : List (Known E)) (given : ℕ) → given ≡ r.count → AreEnded ended others → (number : ℕ) → 0 < number → number < given → (i : ℕ) × (p : Known E) × (get_elem? ended i ≡ some p) × (p.number ≡ number)
    all_ended ended given count kept zero up below = absurd (omega arith)
    all_ended ended given count kept (suc i) up below =
        let counted = all.count in
        let t = there others i (omega arith) in
        let idle = all.each (suc i) t.0 t.1 in
        let k = kept i t.0 t.1 in
        (k.0, t.0.view.known, k.1, idle.pass.number)

module _ {X E B : Type 0} (log : X → List E) (maker : E → ℕ) (base : X → B) where
  of_fits : (x : X) (given k : ℕ) (p : PassView E B) → Fits maker (log x) given p.view.known → p.view.known.number ≡ k → p.view.base ≡ Some (base x) → FitsValue log maker base k p x
  of_fits x given k p f number based = record {
    begins = f.begins;
    own = ap (λ (n : ℕ). made_by maker n (log x)) (sym number) ∙ f.own;
    shown = ap (λ (n : ℕ). made_by maker n p.view.known.seen) (sym number) ∙ f.shown;
    based = based;
  }

  pub all_fit : (fixed : B) (r : LockView B) (first : PassView E B) (others : List (PassView E B)) → AreAll r (IsIdle r) (first ∷ others) → (v : View E B) (xs : List (Option X)) → v ≡ record first.view { ended = v.ended } → AreEnded v.ended others
      → (e : Ends log maker base fixed v xs) → AllFit log maker base (first ∷ others) e.value
  all_fit fixed r first others all v xs is kept e = record { each = each; makers = makers_below maker (length (first ∷ others)) (log e.value) no_others; no_others = no_others }
    where
      idle : IsIdle r 0 first
      idle = all.each 0 first refl

      given : v.given ≡ r.count
      given = ap (λ (z : View E B). z.given) is ∙ (idle.pass.rights refl).0

      right : Some (base e.value) ≡ Some r.base
      right = e.based ∙ (ap (λ (z : View E B). z.base) is ∙ idle.pass.base)

      no_others : (k : ℕ) → length (first ∷ others) ≤ k → made_by maker k (log e.value) ≡ []
      no_others k big = let counted = all.count in e.ungiven_have_none k (omega (arith, given, counted, big))

      each : (k : ℕ) (p : PassView E B) → get_elem? (first ∷ others) k ≡ some p → FitsValue log maker base k p e.value
      each zero p at =
          let same : first ≡ p = some-injective first p at in
          subst (λ (z : PassView E B). FitsValue log maker base 0 z e.value) same
          (of_fits e.value v.given 0 first (subst (λ (z : View E B). Fits maker (log e.value) v.given z.known) is e.own) idle.pass.number (idle.pass.base ∙ sym right))
      each (suc i) p at =
          let mine = all.each (suc i) p at in
          let k = kept i p at in
          of_fits e.value v.given (suc i) p (e.ended_fit k.0 p.view.known k.1) mine.pass.number (mine.pass.base ∙ sym right)

  -- what `close` finds in the slot, and that all passes fit it
  pub closed_fit : (fixed : B) (r : LockView B) (first : PassView E B) (others : List (PassView E B)) → AreAll r (IsIdle r) (first ∷ others)
      → (after : PassView E B) → after ≡ record first { view = record first.view { ended = after.view.ended } } → AreEnded after.view.ended others
      → (id : ℕ) (v : View E B) → v ≡ after.view → v.spent ≡ false → (ws : List ℕ) (xs : List (Option X)) → Final (Seen (Ruled log maker base fixed) id v) ws xs
      → (x : X) × (get_elem? xs 0 ≡ some (Some x)) × AllFit log maker base (first ∷ others) x
  closed_fit fixed r first others all after so_far kept id v now live ws xs final =
      let idle : IsIdle r 0 first = all.each 0 first refl in
      let view : after.view ≡ record first.view { ended = after.view.ended } = ap (λ (z : PassView E B). z.view) so_far in
      let is : v ≡ record first.view { ended = v.ended } = now ∙ (view ∙ ap (λ (l : List (Known E)). record first.view { ended = l }) (sym (ap (λ (z : View E B). z.ended) now))) in
      let kept' : AreEnded v.ended others = subst (λ (z : View E B). AreEnded z.ended others) (sym now) kept in
      let given : v.given ≡ r.count = ap (λ (z : View E B). z.given) is ∙ (idle.pass.rights refl).0 in
      let e = ends log maker base fixed id v ws xs live (ap (λ (z : View E B). z.known.number) is ∙ idle.pass.number) (ap (λ (z : View E B). z.holds) is ∙ idle.idle) (all_ended r first others all v.ended v.given given kept') final in
      (e.value, e.here, all_fit fixed r first others all v xs is kept' e)
