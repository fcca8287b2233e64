-- What the calls say of a pass follows from what their steps told its seat.
use Rattle.std.proofs.Common.{◌≡◌, ⊎_elim, length, zero, suc, add-one, ℕ, ◌+◌, List, [], ◌∷◌, ◌++◌, refl, ap, sym, ◌∙◌, arith, le_refl}
use Rattle.std.proofs.lemmas.List.{append_cancel_left}
use Rattle.atomic_table.specs.Table.{rest}
use Rattle.entry_lists.specs.Entries.{made_by, GoesOn}
use Rattle.entry_lists.proofs.Makers.{goes_on_prefix, goes_on_own}
use Rattle.turn_cell.specs.declared.view.View.{View}
use mathlib.Core.Option.{some, some-injective}
use lib.ListN.{get_elem?}
use Rattle.turn_cell.specs.Views.{starting, giving_view, newcomer}
use Rattle.turn_cell.specs.Helpers.{AreNewcomers}
use Rattle.turn_cell.proofs.Places.{at_end}
use Rattle.turn_cell.specs.Passes.{LockView, PassView, IsSame, HasGiven, IsNew, AreAll}

-- the slot that was taken last is the first of the list
pub taken_first : {S : Type 0} (l m : List (ℕ × S)) (x : S) → l ≡ (0, x) ∷ m → l ≡ (0, x) ∷ rest l
taken_first {S} l m x e = e ∙ ap (λ (r : List (ℕ × S)). (0, x) ∷ r) (sym (ap rest e))

module _ {E B : Type 0} where
  pub same_self : (p : PassView E B) → IsSame p p
  same_self p = record { table = refl; seat = refl; number = refl; base = refl; given = refl; ended = refl; looks = le_refl p.view.looks }

  pub same_trans : (p q r : PassView E B) → IsSame p q → IsSame q r → IsSame p r
  same_trans p q r s t = let looks = s.looks in let looks' = t.looks in record {
    table = t.table ∙ s.table;
    seat = t.seat ∙ s.seat;
    number = t.number ∙ s.number;
    base = t.base ∙ s.base;
    given = t.given ∙ s.given;
    ended = t.ended ∙ s.ended;
    looks = omega arith;
  }

module _ {X E B : Type 0} (log : X → List E) (maker : E → ℕ) where
  pub given_back : (p q : PassView E B) (x : X) → GoesOn maker p.view.known.number p.view.known.seen (log x)
      → q.table ≡ p.table → q.seat ≡ p.seat → q.view ≡ giving_view maker (log x) p.view → made_by maker p.view.known.number p.view.known.seen ≡ p.view.known.mine
      → HasGiven log maker p q x
  given_back p q x goes table seat is shown = record {
    same = record {
      table = table;
      seat = seat;
      number = ap (λ (v : View E B). v.known.number) is;
      base = ap (λ (v : View E B). v.base) is;
      given = ap (λ (v : View E B). v.given) is;
      ended = ap (λ (v : View E B). v.ended) is;
      looks = let same = ap (λ (v : View E B). v.looks) is in omega arith;
    };
    begins = goes_on_prefix maker p.view.known.number p.view.known.seen (log x) goes;
    seen = ap (λ (v : View E B). v.known.seen) is;
    mine = λ added joins.
        let same : goes.added ≡ added = append_cancel_left p.view.known.seen goes.added added (sym goes.whole_is ∙ joins) in
        ap (λ (v : View E B). v.known.mine) is
        ∙ (goes_on_own maker p.view.known.number p.view.known.seen (log x) goes
        ∙ (ap (λ l. l ++ goes.added) shown ∙ ap (λ l. p.view.known.mine ++ l) same));
    no_look = ap (λ (v : View E B). v.looks) is;
    idle = ap (λ (v : View E B). v.holds) is;
  }

module _ {E B : Type 0} where
  pub newcomers_more : (first : PassView E B) (ps : List (PassView E B)) (new : PassView E B) (number : ℕ) → AreNewcomers first ps → length ps + 1 ≡ number → new.table ≡ first.table → new.view ≡ newcomer number first.view.base
      → AreNewcomers first (ps ++ new ∷ [])
  newcomers_more first ps new number all count table view i p e = ⊎_elim
      (all i p)
      (λ (t : (i ≡ length ps) × (new ≡ p)). let next : number ≡ i + 1 = let place = t.0 in omega arith in (
        ap (λ (z : PassView E B). z.table) (sym t.1) ∙ table,
        ap (λ (z : PassView E B). z.view) (sym t.1) ∙ (view ∙ ap (λ (n : ℕ). newcomer n first.view.base) next),
      ))
      (at_end ps new p i e)

  -- the passes that a lock is made with
  pub all_new : (r : LockView B) (bare first : PassView E B) (ps : List (PassView E B)) → bare.table ≡ r.table → bare.view ≡ starting r.base → first ≡ record bare { view = record bare.view { given = r.count } }
      → AreNewcomers bare ps → length ps + 1 ≡ r.count → AreAll r (IsNew r) (first ∷ ps)
  all_new r bare first ps table view is all count = record { count = omega arith; each = each }
    where
      at_first : first.view ≡ record (starting r.base) { given = r.count }
      at_first = ap (λ (z : PassView E B). z.view) is ∙ ap (λ (v : View E B). record v { given = r.count }) view

      each : (k : ℕ) (p : PassView E B) → get_elem? (first ∷ ps) k ≡ some p → IsNew r k p
      each zero p e =
          let same : first ≡ p = some-injective first p e in
          let v : p.view ≡ record (starting r.base) { given = r.count } = ap (λ (z : PassView E B). z.view) (sym same) ∙ at_first in record {
            pass = record {
              table = ap (λ (z : PassView E B). z.table) (sym same) ∙ (ap (λ (z : PassView E B). z.table) is ∙ table);
              number = ap (λ (u : View E B). u.known.number) v;
              base = ap (λ (u : View E B). u.base) v;
              rights = λ _. (ap (λ (u : View E B). u.given) v, ap (λ (u : View E B). u.ended) v);
            };
            seen = ap (λ (u : View E B). u.known.seen) v;
            mine = ap (λ (u : View E B). u.known.mine) v;
            looks = ap (λ (u : View E B). u.looks) v;
            idle = ap (λ (u : View E B). u.holds) v;
          }
      each (suc i) p e =
          let fresh = all i p e in
          let v = fresh.1 in record {
            pass = record {
              table = fresh.0 ∙ table;
              number = ap (λ (u : View E B). u.known.number) v ∙ add-one i;
              base = ap (λ (u : View E B). u.base) v ∙ ap (λ (u : View E B). u.base) view;
              rights = λ z. absurd (omega arith);
            };
            seen = ap (λ (u : View E B). u.known.seen) v;
            mine = ap (λ (u : View E B). u.known.mine) v;
            looks = ap (λ (u : View E B). u.looks) v;
            idle = ap (λ (u : View E B). u.holds) v;
          }
