-- One seat's view changes: what stays of the rule, whatever step changed it.
use Rattle.std.proofs.Common.{◌≡◌, ◌≢◌, ◌⊎◌, ℕ, zero, suc, ◌≤◌, true, false, List, [], ◌∷◌, ◌++◌, length, set, Option, refl, ap, sym, ◌∙◌, subst, inl, inr, ⊎_elim, arith}
use mathlib.Core.Option.{some, some-injective, some-ne-none}
use mathlib.Core.Option as maybe
use mathlib.Core.Logic.{dite}
use native.Mathlib.Decide.{ℕ_discrete}
use lib.ListN.{get_elem?}
use Rattle.atomic_table.proofs.Lists.{at_set, set_else, at_longer}
use Rattle.entry_lists.specs.Entries.{made_by}
use Rattle.turn_cell.specs.declared.view.Known.{Known}
use Rattle.turn_cell.specs.declared.view.View.{View}
use Rattle.turn_cell.specs.Views.{Fits}
use Rattle.turn_cell.specs.Rule.{IsFree, IsHeld, IsFirstPass, KeepsOneLog}

module _ {A : Type 0} where
  pub set_at : (l : List A) (i : ℕ) (a b : A) → get_elem? l i ≡ some b → get_elem? (set l i a) i ≡ some a
  set_at [] i a b e = absurd (some-ne-none b (sym e))
  set_at (x ∷ xs) zero a b e = refl
  set_at (x ∷ xs) (suc i) a b e = set_at xs i a b e

  pub at_end : (l : List A) (a b : A) (j : ℕ) → get_elem? (l ++ a ∷ []) j ≡ some b → (get_elem? l j ≡ some b) ⊎ ((j ≡ length l) × (a ≡ b))
  at_end [] a b zero e = inr (refl, some-injective a b e)
  at_end [] a b (suc j) e = absurd (some-ne-none b (sym e))
  at_end (x ∷ xs) a b zero e = inl e
  at_end (x ∷ xs) a b (suc j) e = ⊎_elim inl (λ (t : (j ≡ length xs) × (a ≡ b)). inr (let n = t.0 in omega arith, t.1)) (at_end xs a b j e)

module _ {E B : Type 0} where
  -- a step leaves of a view what the rule says of more than its own seat
  pub record Alike (v w : View E B) : Type 0 where
    pub before : v.spent ≡ false
    pub after : w.spent ≡ false
    pub base : w.base ≡ v.base
    pub number : w.known.number ≡ v.known.number
    pub given : w.given ≡ v.given
    pub ended : w.ended ≡ v.ended

  -- what the seat j knew before, if u is what it knows now
  pub record Was (vs : List (View E B)) (j : ℕ) (u : View E B) : Type 0 where
    pub old : View E B
    pub there : get_elem? vs j ≡ some old
    pub lived : old.spent ≡ false
    pub base : u.base ≡ old.base
    pub number : u.known.number ≡ old.known.number

  -- the same of a seat whose view says the same of the seat
  pub record Stayed (vs : List (View E B)) (j : ℕ) (u : View E B) : Type 0 where
    pub old : View E B
    pub there : get_elem? vs j ≡ some old
    pub spent : u.spent ≡ old.spent
    pub base : u.base ≡ old.base
    pub known : u.known ≡ old.known

  pub stayed : (vs : List (View E B)) (id : ℕ) (v w : View E B) → get_elem? vs id ≡ some v → w.spent ≡ v.spent → w.base ≡ v.base → w.known ≡ v.known
      → (j : ℕ) (u : View E B) → get_elem? (set vs id w) j ≡ some u → Stayed vs j u
  stayed vs id v w at spent base known j u e = ⊎_elim
      (λ (t : (j ≡ id) × (w ≡ u)). record {
        old = v;
        there = subst (λ i. get_elem? vs i ≡ some v) (sym t.0) at;
        spent = ap (λ (z : View E B). z.spent) (sym t.1) ∙ spent;
        base = ap (λ (z : View E B). z.base) (sym t.1) ∙ base;
        known = ap (λ (z : View E B). z.known) (sym t.1) ∙ known;
      })
      (λ (t : (j ≢ id) × (get_elem? vs j ≡ some u)). record { old = u; there = t.1; spent = refl; base = refl; known = refl })
      (at_set vs id j w u e)

  pub was : (vs : List (View E B)) (id : ℕ) (v w : View E B) → get_elem? vs id ≡ some v → v.spent ≡ false → w.base ≡ v.base → w.known.number ≡ v.known.number
      → (j : ℕ) (u : View E B) → get_elem? (set vs id w) j ≡ some u → u.spent ≡ false → Was vs j u
  was vs id v w at live base number j u e lives = ⊎_elim
      (λ (t : (j ≡ id) × (w ≡ u)). record {
        old = v;
        there = subst (λ i. get_elem? vs i ≡ some v) (sym t.0) at;
        lived = live;
        base = ap (λ (z : View E B). z.base) (sym t.1) ∙ base;
        number = ap (λ (z : View E B). z.known.number) (sym t.1) ∙ number;
      })
      (λ (t : (j ≢ id) × (get_elem? vs j ≡ some u)). record { old = u; there = t.1; lived = lives; base = refl; number = refl })
      (at_set vs id j w u e)

module _ {X E B : Type 0} (log : X → List E) (maker : E → ℕ) (base : X → B) (fixed : B) where
  abbrev pub Home : Type 0
  Home = maybe.Option (Option X)

  abbrev pub Places : List E → ℕ → Home → List (View E B) → Type 0
  Places whole n h vs = IsFree log maker base fixed whole n h vs ⊎ IsHeld log maker base fixed whole n vs

  -- a seat that doesn't hold before and after leaves the value where it is
  pub place_stays : (whole : List E) (n : ℕ) (h : maybe.Option (Option X)) (vs : List (View E B)) (id : ℕ) (v w : View E B) → get_elem? vs id ≡ some v → v.holds ≡ false → w.holds ≡ false → Places whole n h vs → Places whole n h (set vs id w)
  place_stays whole n h vs id v w at no_hold idle (inl a) = inl record {
    value = a.value;
    here = a.here;
    logged = a.logged;
    based = a.based;
    even = a.even;
    free = λ j u e. ⊎_elim (λ (t : (j ≡ id) × (w ≡ u)). ap (λ (z : View E B). z.holds) (sym t.1) ∙ idle) (λ (t : (j ≢ id) × (get_elem? vs j ≡ some u)). a.free j u t.1) (at_set vs id j w u e);
  }
  place_stays whole n h vs id v w at no_hold idle (inr a) =
      let other : a.seat ≢ id = λ e. let is : a.holder ≡ v = some-injective a.holder v (sym a.sits ∙ (ap (λ i. get_elem? vs i) e ∙ at)) in let q : true ≡ false = sym a.holds ∙ (ap (λ (z : View E B). z.holds) is ∙ no_hold) in absurd cc in
      inr record {
        seat = a.seat;
        holder = a.holder;
        sits = set_else vs id a.seat w other ∙ a.sits;
        holds = a.holds;
        lives = a.lives;
        knows = a.knows;
        odd = a.odd;
        only = λ j u e up. ⊎_elim (λ (t : (j ≡ id) × (w ≡ u)). let q : true ≡ false = sym up ∙ (ap (λ (z : View E B). z.holds) (sym t.1) ∙ idle) in absurd cc) (λ (t : (j ≢ id) × (get_elem? vs j ≡ some u)). a.only j u t.1 up) (at_set vs id j w u e);
      }

  -- a new seat that doesn't hold leaves it there too
  pub place_longer : (whole : List E) (n : ℕ) (h : maybe.Option (Option X)) (vs : List (View E B)) (w : View E B) → w.holds ≡ false → Places whole n h vs → Places whole n h (vs ++ w ∷ [])
  place_longer whole n h vs w idle (inl a) = inl record {
    value = a.value;
    here = a.here;
    logged = a.logged;
    based = a.based;
    even = a.even;
    free = λ j u e. ⊎_elim (a.free j u) (λ (t : (j ≡ length vs) × (w ≡ u)). ap (λ (z : View E B). z.holds) (sym t.1) ∙ idle) (at_end vs w u j e);
  }
  place_longer whole n h vs w idle (inr a) = inr record {
    seat = a.seat;
    holder = a.holder;
    sits = at_longer vs (w ∷ []) a.seat a.holder a.sits;
    holds = a.holds;
    lives = a.lives;
    knows = a.knows;
    odd = a.odd;
    only = λ j u e up. ⊎_elim (λ (t : get_elem? vs j ≡ some u). a.only j u t up) (λ (t : (j ≡ length vs) × (w ≡ u)). let q : true ≡ false = sym up ∙ (ap (λ (z : View E B). z.holds) (sym t.1) ∙ idle) in absurd cc) (at_end vs w u j e);
  }

  module _ (n : ℕ) (h : Home) (vs : List (View E B)) (k : KeepsOneLog log maker base fixed n h vs) (id : ℕ) (v w : View E B) (at : get_elem? vs id ≡ some v) where
    pub chief_after : Alike v w → (c : View E B) × (get_elem? (set vs id w) 0 ≡ some c) × IsFirstPass k.given k.ended c
    chief_after same = dite (ℕ_discrete id 0)
        (λ z. let at0 : get_elem? vs 0 ≡ some v = subst (λ i. get_elem? vs i ≡ some v) z at in
        let is : v ≡ k.first_pass = some-injective v k.first_pass (sym at0 ∙ k.first) in (
          w,
          subst (λ i. get_elem? (set vs i w) 0 ≡ some w) (sym z) (set_at vs 0 w v at0),
          record {
            lives = same.after;
            zero = same.number ∙ (ap (λ (z : View E B). z.known.number) is ∙ k.first_pass_is.zero);
            counts = same.given ∙ (ap (λ (z : View E B). z.given) is ∙ k.first_pass_is.counts);
            keeps = same.ended ∙ (ap (λ (z : View E B). z.ended) is ∙ k.first_pass_is.keeps);
          },
        ))
        (λ nz. (k.first_pass, set_else vs id 0 w (λ e. nz (sym e)) ∙ k.first, k.first_pass_is))

    -- the seat has a new view, and the log may have grown by entries of its number
    pub renew : Alike v w → (whole : List E) → Fits maker whole k.given w.known
        → ((p : Known E) → p.number ≢ v.known.number → Fits maker k.whole k.given p → Fits maker whole k.given p)
        → ((j : ℕ) → k.given ≤ j → made_by maker j whole ≡ [])
        → (n' : ℕ) (h' : Home) → Places whole n' h' (set vs id w) → KeepsOneLog log maker base fixed n' h' (set vs id w)
    renew same whole mine others ungiven_have_none n' h' place =
        let c = chief_after same in
        let before = was vs id v w at same.before same.base same.number in record {
          whole = whole;
          given = k.given;
          ended = k.ended;
          first_pass = c.0;
          first = c.1;
          first_pass_is = c.2;
          based = λ j u e live. let o = before j u e live in o.base ∙ k.based j o.old o.there o.lived;
          fits = λ j u e live. ⊎_elim
              (λ (t : (j ≡ id) × (w ≡ u)). subst (λ (z : View E B). Fits maker whole k.given z.known) t.1 mine)
              (λ (t : (j ≢ id) × (get_elem? vs j ≡ some u)). others u.known (λ is. t.0 (k.numbers_differ j id u v t.1 at live same.before is)) (k.fits j u t.1 live))
              (at_set vs id j w u e);
          numbers_differ = λ i j u u' e e' live live' is.
              let o = before i u e live in
              let o' = before j u' e' live' in
              k.numbers_differ i j o.old o'.old o.there o'.there o.lived o'.lived (sym o.number ∙ (is ∙ o'.number));
          ended_fit = λ i p e. others p (λ is. k.ended_differ id v at same.before i p e (sym is)) (k.ended_fit i p e);
          ended_differ = λ j u e live i p e'. let o = before j u e live in λ is. k.ended_differ j o.old o.there o.lived i p e' (sym o.number ∙ is);
          ungiven_have_none = ungiven_have_none;
          place = place;
        }
