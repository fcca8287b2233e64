-- The rule at the beginning and at the end, and where pass 0 gives out a number or takes a pass in.
use Rattle.std.proofs.Common.{◌≡◌, ◌≢◌, ℕ, zero, suc, ◌+◌, ◌<◌, ◌≤◌, true, false, List, [], ◌∷◌, ◌++◌, length, set, Option, Some, refl, ap, sym, ◌∙◌, subst, inl, inr, ⊎_elim, arith}
use mathlib.Core.Option.{some, some-injective, some-ne-none}
use mathlib.Core.Option as maybe
use mathlib.Core.Logic.{dite}
use native.Mathlib.Decide.{ℕ_discrete}
use lib.ListN.{get_elem?}
use Rattle.atomic_table.specs.Table.{State, Splits, Joins, opening, Final, Seen}
use Rattle.atomic_table.proofs.Lists.{at_set, set_else, at_longer, at_snoc}
use Rattle.entry_lists.specs.Entries.{made_by}
use Rattle.turn_cell.specs.declared.view.Known.{Known}
use Rattle.turn_cell.specs.declared.view.View.{View}
use Rattle.turn_cell.specs.Views.{Fits, starting, gone_view, giving, given_out, keeping}
use Rattle.turn_cell.specs.Rule.{IsFree, KeepsOneLog, Ruled}
use Rattle.turn_cell.proofs.Places.{set_at, at_end, Stayed, stayed, Places, place_stays, place_longer}

module _ {X E B : Type 0} (log : X → List E) (maker : E → ℕ) (base : X → B) (fixed : B) where
  abbrev Rule : State (Option X) (View E B) → Type 0
  Rule = Ruled log maker base fixed

  wider : (whole : List E) (given : ℕ) (p : Known E) → Fits maker whole given p → Fits maker whole (given + 1) p
  wider whole given p f = let below = f.below in record { below = omega arith; begins = f.begins; own = f.own; shown = f.shown }

  module _ (n : ℕ) (h : maybe.Option (Option X)) (vs : List (View E B)) (k : KeepsOneLog log maker base fixed n h vs) (id : ℕ) (v : View E B) (at : get_elem? vs id ≡ some v) (live : v.spent ≡ false) (zero_is : v.known.number ≡ 0) where
    -- the view with number 0 is the first
    first_is : id ≡ 0
    first_is = k.numbers_differ id 0 v k.first_pass at k.first live k.first_pass_is.lives (zero_is ∙ sym k.first_pass_is.zero)

    first_pass_is : v ≡ k.first_pass
    first_pass_is = some-injective v k.first_pass (sym at ∙ (ap (λ i. get_elem? vs i) first_is ∙ k.first))

    given_is : v.given ≡ k.given
    given_is = ap (λ (z : View E B). z.given) first_pass_is ∙ k.first_pass_is.counts

    ended_is : v.ended ≡ k.ended
    ended_is = ap (λ (z : View E B). z.ended) first_pass_is ∙ k.first_pass_is.keeps

    module _ (idle : v.holds ≡ false) where
      kept_split : KeepsOneLog log maker base fixed n h (set vs id (giving v) ++ given_out v ∷ [])
      kept_split =
          let w : View E B = giving v in
          let new : View E B = given_out v in
          let before = stayed vs id v w at refl refl refl in
          let is_new : (j : ℕ) (u : View E B) → (j ≡ length (set vs id w)) × (new ≡ u) → u.known.number ≡ k.given = λ j u t. ap (λ (z : View E B). z.known.number) (sym t.1) ∙ given_is in record {
            whole = k.whole;
            given = k.given + 1;
            ended = k.ended;
            first_pass = w;
            first = at_longer (set vs id w) (new ∷ []) 0 w (subst (λ i. get_elem? (set vs id w) i ≡ some w) first_is (set_at vs id w v at));
            first_pass_is = record { lives = live; zero = zero_is; counts = ap (λ (m : ℕ). m + 1) given_is; keeps = ended_is };
            based = λ j u e lives. ⊎_elim
                (λ (t : get_elem? (set vs id w) j ≡ some u). let o = before j u t in o.base ∙ k.based j o.old o.there (sym o.spent ∙ lives))
                (λ (t : (j ≡ length (set vs id w)) × (new ≡ u)). ap (λ (z : View E B). z.base) (sym t.1) ∙ k.based id v at live)
                (at_end (set vs id w) new u j e);
            fits = λ j u e lives. ⊎_elim
                (λ (t : get_elem? (set vs id w) j ≡ some u). let o = before j u t in wider k.whole k.given u.known (subst (λ p. Fits maker k.whole k.given p) (sym o.known) (k.fits j o.old o.there (sym o.spent ∙ lives))))
                (λ (t : (j ≡ length (set vs id w)) × (new ≡ u)). subst (λ (z : View E B). Fits maker k.whole (k.given + 1) z.known) t.1 record {
                  below = omega (arith, given_is);
                  begins = (k.whole, refl);
                  own = k.ungiven_have_none v.given (omega (arith, given_is));
                  shown = refl;
                })
                (at_end (set vs id w) new u j e);
            numbers_differ = λ i j u u' e e' lives lives' same.
                let old_below : (a : ℕ) (z : View E B) → get_elem? (set vs id w) a ≡ some z → z.spent ≡ false → z.known.number < k.given = λ a z t l. let o = before a z t in subst (λ (m : Known E). m.number < k.given) (sym o.known) (k.fits a o.old o.there (sym o.spent ∙ l)).below in
                ⊎_elim
                (λ (t : get_elem? (set vs id w) i ≡ some u). ⊎_elim
                (λ (t' : get_elem? (set vs id w) j ≡ some u'). let o = before i u t in let o' = before j u' t' in
                k.numbers_differ i j o.old o'.old o.there o'.there (sym o.spent ∙ lives) (sym o'.spent ∙ lives') (ap (λ (m : Known E). m.number) (sym o.known) ∙ (same ∙ ap (λ (m : Known E). m.number) o'.known)))
                (λ (t' : (j ≡ length (set vs id w)) × (new ≡ u')). let lt = old_below i u t lives in let eq = is_new j u' t' in absurd (omega (arith, lt, eq, same)))
                (at_end (set vs id w) new u' j e'))
                (λ (t : (i ≡ length (set vs id w)) × (new ≡ u)). ⊎_elim
                (λ (t' : get_elem? (set vs id w) j ≡ some u'). let lt = old_below j u' t' lives' in let eq = is_new i u t in absurd (omega (arith, lt, eq, same)))
                (λ (t' : (j ≡ length (set vs id w)) × (new ≡ u')). t.0 ∙ sym t'.0)
                (at_end (set vs id w) new u' j e'))
                (at_end (set vs id w) new u i e);
            ended_fit = λ i p e. wider k.whole k.given p (k.ended_fit i p e);
            ended_differ = λ j u e lives i p e'. ⊎_elim
                (λ (t : get_elem? (set vs id w) j ≡ some u). let o = before j u t in λ is. k.ended_differ j o.old o.there (sym o.spent ∙ lives) i p e' (ap (λ (m : Known E). m.number) (sym o.known) ∙ is))
                (λ (t : (j ≡ length (set vs id w)) × (new ≡ u)). let eq = is_new j u t in let lt = (k.ended_fit i p e').below in λ is. omega (arith, eq, lt, is))
                (at_end (set vs id w) new u j e);
            ungiven_have_none = λ j big. k.ungiven_have_none j (omega arith);
            place = place_longer log maker base fixed k.whole n h (set vs id w) new refl (place_stays log maker base fixed k.whole n h vs id v w at idle idle k.place);
          }

      module _ (other : ℕ) (w : View E B) (ne : other ≢ id) (there : get_elem? (set vs id (keeping v w)) other ≡ some w) (lived : w.spent ≡ false) (free : w.holds ≡ false) where
        -- a view that lives after the join, at another seat than the one that was taken in
        still : (j : ℕ) (u : View E B) → get_elem? (set (set vs id (keeping v w)) other gone_view) j ≡ some u → u.spent ≡ false → (j ≢ other) × Stayed vs j u
        still j u e lives = ⊎_elim
            (λ (t : (j ≡ other) × (gone_view ≡ u)). let q : true ≡ false = ap (λ (z : View E B). z.spent) t.1 ∙ lives in absurd cc)
            (λ (t : (j ≢ other) × (get_elem? (set vs id (keeping v w)) j ≡ some u)). (t.0, stayed vs id v (keeping v w) at refl refl refl j u t.1))
            (at_set (set vs id (keeping v w)) other j gone_view u e)

        was_there : get_elem? vs other ≡ some w
        was_there = sym (set_else vs id other (keeping v w) ne) ∙ there

        kept_join : KeepsOneLog log maker base fixed n h (set (set vs id (keeping v w)) other gone_view)
        kept_join = record {
          whole = k.whole;
          given = k.given;
          ended = k.ended ++ w.known ∷ [];
          first_pass = keeping v w;
          first =
              set_else (set vs id (keeping v w)) other 0 gone_view (λ e. ne (sym e ∙ sym first_is))
              ∙ subst (λ i. get_elem? (set vs id (keeping v w)) i ≡ some (keeping v w)) first_is (set_at vs id (keeping v w) v at);
          first_pass_is = record { lives = live; zero = zero_is; counts = given_is; keeps = ap (λ (l : List (Known E)). l ++ w.known ∷ []) ended_is };
          based = λ j u e lives. let o = (still j u e lives).1 in o.base ∙ k.based j o.old o.there (sym o.spent ∙ lives);
          fits = λ j u e lives. let o = (still j u e lives).1 in subst (λ p. Fits maker k.whole k.given p) (sym o.known) (k.fits j o.old o.there (sym o.spent ∙ lives));
          numbers_differ = λ i j u u' e e' lives lives' same. let o = (still i u e lives).1 in let o' = (still j u' e' lives').1 in
              k.numbers_differ i j o.old o'.old o.there o'.there (sym o.spent ∙ lives) (sym o'.spent ∙ lives') (ap (λ (m : Known E). m.number) (sym o.known) ∙ (same ∙ ap (λ (m : Known E). m.number) o'.known));
          ended_fit = λ i p e. ⊎_elim (k.ended_fit i p) (λ (t : w.known ≡ p). subst (λ z. Fits maker k.whole k.given z) t (k.fits other w was_there lived)) (at_snoc k.ended w.known p i e);
          ended_differ = λ j u e lives i p e'. let s = still j u e lives in let o = s.1 in let same : u.known.number ≡ o.old.known.number = ap (λ (m : Known E). m.number) o.known in λ is. ⊎_elim
              (λ (t : get_elem? k.ended i ≡ some p). k.ended_differ j o.old o.there (sym o.spent ∙ lives) i p t (sym same ∙ is))
              (λ (t : w.known ≡ p). s.0 (k.numbers_differ j other o.old w o.there was_there (sym o.spent ∙ lives) lived (sym same ∙ (is ∙ ap (λ (m : Known E). m.number) (sym t)))))
              (at_snoc k.ended w.known p i e');
          ungiven_have_none = k.ungiven_have_none;
          place = place_stays log maker base fixed k.whole n h (set vs id (keeping v w)) other w gone_view there free refl (place_stays log maker base fixed k.whole n h vs id v (keeping v w) at idle idle k.place);
        }

  pub splits : (id : ℕ) (v : View E B) → v.spent ≡ false → v.holds ≡ false → v.known.number ≡ 0 → Splits Rule id v (giving v) (given_out v)
  splits id v live idle zero_is s r at = record { word = r.word; home = r.home; words = r.words; homes = r.homes; kept = kept_split r.word r.home s.views r.kept id v at live zero_is idle }

  pub joins : (id : ℕ) (v : View E B) (other : ℕ) (w : View E B) → v.spent ≡ false → v.holds ≡ false → v.known.number ≡ 0 → w.spent ≡ false → w.holds ≡ false → Joins Rule id v other w (keeping v w) gone_view
  joins id v other w live idle zero_is lived free s r at ne there = record { word = r.word; home = r.home; words = r.words; homes = r.homes; kept = kept_join r.word r.home s.views r.kept id v at live zero_is idle other w ne there lived free }

  alone : {A : Type 0} (a b : A) (j : ℕ) → get_elem? (a ∷ []) j ≡ some b → (j ≡ 0) × (a ≡ b)
  alone a b zero e = (refl, some-injective a b e)
  alone a b (suc j) e = absurd (some-ne-none b (sym e))

  pub opens : (x : X) → log x ≡ [] → base x ≡ fixed → Rule (opening (0 ∷ []) (Some x ∷ []) (starting fixed))
  opens x empty right =
      let first : View E B = starting fixed in
      let only = λ (j : ℕ) (u : View E B) (e : get_elem? (first ∷ []) j ≡ some u). alone first u j e in record {
        word = 0;
        home = some (Some x);
        words = refl;
        homes = refl;
        kept = record {
          whole = [];
          given = 1;
          ended = [];
          first_pass = first;
          first = refl;
          first_pass_is = record { lives = refl; zero = refl; counts = refl; keeps = refl };
          based = λ j u e _. ap (λ (z : View E B). z.base) (sym (only j u e).1);
          fits = λ j u e _. subst (λ (z : View E B). Fits maker [] 1 z.known) (only j u e).1 record { below = omega arith; begins = ([], refl); own = refl; shown = refl };
          numbers_differ = λ i j u u' e e' _ _ _. (only i u e).0 ∙ sym (only j u' e').0;
          ended_fit = λ i p e. absurd (some-ne-none p (sym e));
          ended_differ = λ j u e _ i p e'. absurd (some-ne-none p (sym e'));
          ungiven_have_none = λ _ _. refl;
          place = inl record {
            value = x;
            here = refl;
            logged = empty;
            based = right;
            even = refl;
            free = λ j u e. ap (λ (z : View E B). z.holds) (sym (only j u e).1);
          };
        };
      }

  -- the lock at its end, where pass 0 has taken all others in: the value is at home, and all fits its log
  pub record Ends (v : View E B) (xs : List (Option X)) : Type 0 where
    pub value : X
    pub here : get_elem? xs 0 ≡ some (Some value)
    pub based : Some (base value) ≡ v.base
    pub own : Fits maker (log value) v.given v.known
    pub ended_fit : (i : ℕ) (p : Known E) → get_elem? v.ended i ≡ some p → Fits maker (log value) v.given p
    pub ungiven_have_none : (number : ℕ) → v.given ≤ number → made_by maker number (log value) ≡ []

  -- nobody holds where pass 0 doesn't and all other numbers have ended
  all_home : (n : ℕ) (h : maybe.Option (Option X)) (vs : List (View E B)) (k : KeepsOneLog log maker base fixed n h vs) (id : ℕ) (v : View E B) → get_elem? vs id ≡ some v → v.spent ≡ false → v.known.number ≡ 0 → v.holds ≡ false
      → ((number : ℕ) → 0 < number → number < k.given → (i : ℕ) × (p : Known E) × (get_elem? k.ended i ≡ some p) × (p.number ≡ number))
      → Places log maker base fixed k.whole n h vs → IsFree log maker base fixed k.whole n h vs
  all_home n h vs k id v at live zero_is idle all (inl a) = a
  all_home n h vs k id v at live zero_is idle all (inr a) =
      let number : ℕ = a.holder.known.number in
      let below : number < k.given = (k.fits a.seat a.holder a.sits a.lives).below in
      absurd (dite (ℕ_discrete number 0)
      (λ z. let same = k.numbers_differ a.seat id a.holder v a.sits at a.lives live (z ∙ sym zero_is) in
      let is : a.holder ≡ v = some-injective a.holder v (sym a.sits ∙ (ap (λ i. get_elem? vs i) same ∙ at)) in
      let q : true ≡ false = sym a.holds ∙ (ap (λ (z : View E B). z.holds) is ∙ idle) in absurd cc)
      (λ nz. let p = all number (omega arith) below in k.ended_differ a.seat a.holder a.sits a.lives p.0 p.1 p.2 (sym p.3)))

  pub ends : (id : ℕ) (v : View E B) (ws : List ℕ) (xs : List (Option X)) → v.spent ≡ false → v.known.number ≡ 0 → v.holds ≡ false
      → ((number : ℕ) → 0 < number → number < v.given → (i : ℕ) × (p : Known E) × (get_elem? v.ended i ≡ some p) × (p.number ≡ number))
      → Final (Seen Rule id v) ws xs → Ends v xs
  ends id v ws xs live zero_is idle all f =
      let s = f.0 in
      let r = f.1.0 in
      let at = f.1.1 in
      let k = r.kept in
      let given = given_is r.word r.home s.views k id v at live zero_is in
      let ended = ended_is r.word r.home s.views k id v at live zero_is in
      let all' : (number : ℕ) → 0 < number → number < k.given → (i : ℕ) × (p : Known E) × (get_elem? k.ended i ≡ some p) × (p.number ≡ number) =
      λ number up below. let p = all number up (omega (arith, given, below)) in (p.0, p.1, subst (λ l. get_elem? l p.0 ≡ some p.1) ended p.2, p.3) in
      let a = all_home r.word r.home s.views k id v at live zero_is idle all' k.place in
      let fit : (p : Known E) → Fits maker k.whole k.given p → Fits maker (log a.value) v.given p = λ p g. subst (λ l. Fits maker l v.given p) (sym a.logged) (subst (λ m. Fits maker k.whole m p) (sym given) g) in record {
        value = a.value;
        here = f.4 0 (Some a.value) (ap (λ hs. get_elem? hs 0) r.homes ∙ ap some a.here);
        based = ap Some a.based ∙ sym (k.based id v at live);
        own = fit v.known (k.fits id v at live);
        ended_fit = λ i p e. fit p (k.ended_fit i p (subst (λ l. get_elem? l i ≡ some p) ended e));
        ungiven_have_none = λ number big. ap (λ l. made_by maker number l) a.logged ∙ k.ungiven_have_none number (omega (arith, given, big));
      }
