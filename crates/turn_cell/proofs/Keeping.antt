-- Each kind of step keeps the rule.
use Rattle.std.proofs.Common.{◌≡◌, ◌≢◌, ℕ, ◌+◌, ◌*◌, ◌%◌, ◌≤◌, Bool, true, false, eqb, List, [], ◌∷◌, length, get_or, set, Option, Some, refl, ap, sym, ◌∙◌, subst, inl, inr, ⊎_elim, arith}
use mathlib.Core.Option.{some, none, some-injective}
use mathlib.Core.Option as maybe
use mathlib.Core.List.{IsPrefix}
use lib.ListN.{get_elem?}
use prog.Atomic.{either}
use Rattle.atomic_table.specs.Table.{State, Me, Act, keeps, takes, gives, step, Valid, homes_after, carried_after, Allows}
use Rattle.atomic_table.proofs.Lists.{at_set, exchanged}
use Rattle.entry_lists.specs.Entries.{made_by, GoesOn}
use Rattle.entry_lists.proofs.Prefixes.{prefix_self, prefix_trans, prefix_length}
use Rattle.entry_lists.proofs.Makers.{goes_on_other, goes_on_prefix}
use Rattle.turn_cell.specs.declared.view.View.{View}
use Rattle.turn_cell.specs.Views.{Fits, looked_view, lost_view, holding_view, giving_view}
use Rattle.turn_cell.specs.Rule.{IsFree, IsHeld, KeepsOneLog, Ruled}
use Rattle.turn_cell.specs.Steps.{looked, Took, grabbed, gave}
use Rattle.turn_cell.proofs.Places.{set_at, Alike, Places, place_stays, renew}

module _ {X E B : Type 0} (log : X → List E) (maker : E → ℕ) (base : X → B) (fixed : B) where
  abbrev V : Type 0
  V = View E B

  abbrev Home : Type 0
  Home = maybe.Option (Option X)

  abbrev K : ℕ → Home → List (View E B) → Type 0
  K = KeepsOneLog log maker base fixed

  abbrev Rule : State (Option X) (View E B) → Type 0
  Rule = Ruled log maker base fixed

  -- what a step owes where the table has these words, homes and views
  abbrev Goes : ℕ → View E B → List (ℕ × Option X) → (ℕ → ℕ) → (ℕ → Me (Option X) (View E B) → Type 0) → List ℕ → List (maybe.Option (Option X)) → List (View E B) → Type 0
  Goes id v c f then ws hs vs =
      (w : View E B) × (a : Act (Option X)) × Valid hs c a × Rule record { words = set ws 0 (f (get_or ws 0 0)); homes = homes_after hs c a; views = set vs id w } × then (get_or ws 0 0) (w, carried_after c a)

  allows : (slots id : ℕ) (me : Me (Option X) (View E B)) (f : ℕ → ℕ) (then : ℕ → Me (Option X) (View E B) → Type 0)
      → ((n : ℕ) (h : maybe.Option (Option X)) (vs : List (View E B)) → K n h vs → get_elem? vs id ≡ some me.0 → Goes id me.0 me.1 f then (n ∷ []) (h ∷ []) vs)
      → Allows Rule slots id me 0 f then
  allows slots id me f then each s r deep at small =
      subst (λ hs. Goes id me.0 me.1 f then s.words hs s.views) (sym r.homes)
      (subst (λ ws. Goes id me.0 me.1 f then ws (r.home ∷ []) s.views) (sym r.words) (each r.word r.home s.views r.kept at))

  -- the word is no less than twice what any view has seen
  seen_within : (n : ℕ) (h : maybe.Option (Option X)) (vs : List (View E B)) (k : K n h vs) (id : ℕ) (v : View E B) → get_elem? vs id ≡ some v → v.spent ≡ false
      → Places log maker base fixed k.whole n h vs → 2 * length v.known.seen ≤ n
  seen_within n h vs k id v at live (inl a) = let len = prefix_length v.known.seen k.whole (k.fits id v at live).begins in let even = a.even in omega arith
  seen_within n h vs k id v at live (inr a) = let len = prefix_length v.known.seen k.whole (k.fits id v at live).begins in let odd = a.odd in omega arith

  pub looks : (slots id : ℕ) (me : Me (Option X) (View E B)) → me.0.spent ≡ false → me.0.holds ≡ false
      → Allows Rule slots id me 0 (λ n. n) (looked (step slots 0 0 0 none) me)
  looks slots id me live idle = allows slots id me (λ n. n) (looked (step slots 0 0 0 none) me) λ n h vs k at.
      let w : View E B = looked_view n me.0 in
      let same : Alike me.0 w = record { before = live; after = live; base = refl; number = refl; given = refl; ended = refl } in (
        w,
        keeps,
        tt,
        record {
          word = n;
          home = h;
          words = refl;
          homes = refl;
          kept = renew log maker base fixed n h vs k id me.0 w at same k.whole (k.fits id me.0 at live) (λ p _ f. f) k.ungiven_have_none n h (place_stays log maker base fixed k.whole n h vs id me.0 w at idle idle k.place);
        },
        (refl, refl, seen_within n h vs k id me.0 at live k.place),
      )

  -- a held lock is found odd
  even_is_home : (n : ℕ) (h : maybe.Option (Option X)) (vs : List (View E B)) (whole : List E) → n % 2 ≡ 0 → Places log maker base fixed whole n h vs → IsFree log maker base fixed whole n h vs
  even_is_home n h vs whole even (inl a) = a
  even_is_home n h vs whole even (inr a) = let odd = a.odd in absurd (omega arith)

  module _ (old new : ℕ) (slots id : ℕ) (me : Me (Option X) (View E B)) (live : me.0.spent ≡ false) (idle : me.0.holds ≡ false) (even : old % 2 ≡ 0) (up : new ≡ old + 1) where
    abbrev Grabs : ℕ → Me (Option X) (View E B) → Type 0
    Grabs = grabbed log maker base (step slots 0 old new none) me

    -- the same, where the exchange leaves the word at this number
    abbrev Left : ℕ → maybe.Option (Option X) → List (View E B) → ℕ → Type 0
    Left n h vs z =
        (w : View E B) × (a : Act (Option X)) × Valid (h ∷ []) me.1 a × Rule record { words = z ∷ []; homes = homes_after (h ∷ []) me.1 a; views = set vs id w } × Grabs n (w, carried_after me.1 a)

    hits : (n : ℕ) (h : maybe.Option (Option X)) (vs : List (View E B)) (k : K n h vs) → get_elem? vs id ≡ some me.0 → n ≡ old → Left n h vs new
    hits n h vs k at hit =
        let home = even_is_home n h vs k.whole (ap (λ (z : ℕ). z % 2) hit ∙ even) k.place in
        let x = home.value in
        let w : View E B = holding_view (log x) me.0 in
        let same : Alike me.0 w = record { before = live; after = live; base = refl; number = refl; given = refl; ended = refl } in
        let f = k.fits id me.0 at live in
        let is : log x ≡ k.whole = home.logged in
        let mine : Fits maker k.whole k.given w.known = record { below = f.below; begins = subst (λ l. IsPrefix (log x) l) is (prefix_self (log x)); own = f.own; shown = ap (λ l. made_by maker me.0.known.number l) is ∙ f.own } in
        let took : Took log maker base me.0 x = record {
          begins = subst (λ l. IsPrefix me.0.known.seen l) (sym is) f.begins;
          own = ap (λ l. made_by maker me.0.known.number l) is ∙ f.own;
          shown = f.shown;
          based = ap Some home.based ∙ sym (k.based id me.0 at live);
        } in
        let even_word = home.even in (
          w,
          takes 0 (Some x),
          ap some home.here,
          record {
            word = new;
            home = none;
            words = refl;
            homes = refl;
            kept = renew log maker base fixed n h vs k id me.0 w at same k.whole mine (λ p _ g. g) k.ungiven_have_none new none (inr record {
              seat = id;
              holder = w;
              sits = set_at vs id w me.0 at;
              holds = refl;
              lives = live;
              knows = is;
              odd = omega arith;
              only = λ j u e holds. ⊎_elim (λ (t : (j ≡ id) × (w ≡ u)). t.0) (λ (t : (j ≢ id) × (get_elem? vs j ≡ some u)). let q : true ≡ false = sym holds ∙ home.free j u t.1 in absurd cc) (at_set vs id j w u e);
            });
          },
          ((λ _. (x, took, refl, refl)), (λ ne. absurd (ne hit))),
        )

    misses : (n : ℕ) (h : maybe.Option (Option X)) (vs : List (View E B)) (k : K n h vs) → get_elem? vs id ≡ some me.0 → n ≢ old → Left n h vs n
    misses n h vs k at miss =
        let w : View E B = lost_view n me.0 in
        let same : Alike me.0 w = record { before = live; after = live; base = refl; number = refl; given = refl; ended = refl } in (
          w,
          keeps,
          tt,
          record {
            word = n;
            home = h;
            words = refl;
            homes = refl;
            kept = renew log maker base fixed n h vs k id me.0 w at same k.whole (k.fits id me.0 at live) (λ p _ f. f) k.ungiven_have_none n h (place_stays log maker base fixed k.whole n h vs id me.0 w at idle idle k.place);
          },
          ((λ hit. absurd (miss hit)), (λ _. (refl, refl))),
        )

    pub grabs : Allows Rule slots id me 0 (λ n. either (eqb n old) new n) Grabs
    grabs = allows slots id me (λ n. either (eqb n old) new n) Grabs λ n h vs k at. exchanged n old new (Left n h vs) (hits n h vs k at) (misses n h vs k at)

  -- the seat that holds is the holder, and has seen the whole log
  holder_of : (n : ℕ) (h : maybe.Option (Option X)) (vs : List (View E B)) (whole : List E) (id : ℕ) (v : View E B) → get_elem? vs id ≡ some v → v.holds ≡ true → Places log maker base fixed whole n h vs
      → (a : IsHeld log maker base fixed whole n vs) × (id ≡ a.seat) × (v.known.seen ≡ whole)
  holder_of n h vs whole id v at holds (inl a) = let q : true ≡ false = sym holds ∙ a.free id v at in absurd cc
  holder_of n h vs whole id v at holds (inr a) =
      let here = a.only id v at holds in
      let is : v ≡ a.holder = some-injective v a.holder (sym at ∙ (ap (λ i. get_elem? vs i) here ∙ a.sits)) in
      (a, here, ap (λ (z : View E B). z.known.seen) is ∙ a.knows)

  same_pair : (p q : ℕ × Option X) → p ∷ [] ≡ q ∷ [] → p.1 ≡ q.1
  same_pair p q e = let same : p ≡ q = cc in ap (λ (z : ℕ × Option X). z.1) same

  same_value : (x y : X) → (let l : List (ℕ × Option X) = (0, Some x) ∷ [] in l) ≡ ((0, Some y) ∷ []) → x ≡ y
  same_value x y e = let same : Some x ≡ Some y = same_pair (0, Some x) (0, Some y) e in cc

  some_base : {b c : B} → Some b ≡ Some c → b ≡ c
  some_base e = cc

  not_held : (b : Bool) → b ≢ true → b ≡ false
  not_held true ne = absurd (ne refl)
  not_held false ne = refl

  module _ (slots id : ℕ) (me : Me (Option X) (View E B)) (live : me.0.spent ≡ false) (holds : me.0.holds ≡ true) (x : X) (out : me.1 ≡ (0, Some x) ∷ []) (right : Some (base x) ≡ me.0.base)
      (goes : GoesOn maker me.0.known.number me.0.known.seen (log x)) (new : ℕ) (twice : new ≡ 2 * length (log x)) where
    abbrev Leaves : ℕ → Me (Option X) (View E B) → Type 0
    Leaves _ = gave log maker base (step slots 0 new 0 none) me new

    pub leaves : Allows Rule slots id me 0 (λ _. new) Leaves
    leaves = allows slots id me (λ _. new) Leaves λ n h vs k at.
        subst (λ c. Goes id me.0 c (λ _. new) Leaves (n ∷ []) (h ∷ []) vs) (sym out)
        (let holder = holder_of n h vs k.whole id me.0 at holds k.place in
        let away = holder.0 in
        let w : View E B = giving_view maker (log x) me.0 in
        let same : Alike me.0 w = record { before = live; after = live; base = refl; number = refl; given = refl; ended = refl } in
        let f = k.fits id me.0 at live in
        let number : ℕ = me.0.known.number in
        let longer : GoesOn maker number k.whole (log x) = subst (λ l. GoesOn maker number l (log x)) holder.2 goes in
        let mine : Fits maker (log x) k.given w.known = record { below = f.below; begins = prefix_self (log x); own = refl; shown = refl } in
        let prefix = goes_on_prefix maker number k.whole (log x) longer in (
          w,
          gives,
          tt,
          record {
            word = new;
            home = some (Some x);
            words = refl;
            homes = refl;
            kept = renew log maker base fixed n h vs k id me.0 w at same (log x) mine
                (λ p ne g. record {
                  below = g.below;
                  begins = prefix_trans p.seen k.whole (log x) g.begins prefix;
                  own = goes_on_other maker number p.number k.whole (log x) longer ne ∙ g.own;
                  shown = g.shown;
                })
                (λ j big. goes_on_other maker number j k.whole (log x) longer (λ e. let below = f.below in absurd (omega arith)) ∙ k.ungiven_have_none j big)
                new
                (some (Some x))
                (inl record {
                  value = x;
                  here = refl;
                  logged = refl;
                  based = some_base (right ∙ k.based id me.0 at live);
                  even = twice;
                  free = λ j u e. ⊎_elim
                      (λ (t : (j ≡ id) × (w ≡ u)). ap (λ (z : View E B). z.holds) (sym t.1))
                      (λ (t : (j ≢ id) × (get_elem? vs j ≡ some u)). not_held u.holds (λ up. t.0 (away.only j u t.1 up ∙ sym holder.1)))
                      (at_set vs id j w u e);
                });
          },
          (λ y is. let eq : x ≡ y = same_value x y (sym out ∙ is) in (ap (λ z. giving_view maker (log z) me.0) eq, refl, f.shown)),
        ))
