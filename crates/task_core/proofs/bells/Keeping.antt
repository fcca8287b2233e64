-- Each kind of step keeps the rule.
use Rattle.std.proofs.Common.{◌≡◌, ◌≢◌, ◌==◌, ℕ, zero, suc, ◌+◌, ◌<◌, ◌%◌, ◌^◌, true, false, List, [], ◌∷◌, ◌++◌, length, get_or, set, replicate, refl, sym, ap, subst, ◌∙◌, inl, inr, arith}
use mathlib.Core.Option.{some, none}
use lib.ListN.{get_elem?}
use Rattle.std.proofs.lemmas.Bool.{cases_eq, cases_lt, eq-eqb, ne_eqb}
use Rattle.std.proofs.lemmas.List.{get_or-set_same, get_or-set_other, length-set, get_or-replicate, get_or_past, length-replicate}
use Rattle.atomic_table.specs.Table.{State, Me, keeps, step, opening, Allows, Splits, Joins}
use Rattle.task_core.specs.declared.bells.view.View.{View}
use Rattle.task_core.specs.bells.Rings.{one_if, times, rung_in}
use Rattle.task_core.specs.bells.Views.{gone, new_ear, new_bell, making, taking, rung_view, heard_view}
use Rattle.task_core.specs.bells.Rule.{RuledBy, Ruled}
use Rattle.task_core.specs.bells.Steps.{rang, heard}
use Rattle.task_core.proofs.bells.Counting.{times-append, rung_set, bells_set, are_set, rung_more, bells_more, are_more, is_first, is_other, set_same, within_more, last_within}

-- the ear's seat is the first
pub ear_seat : (tasks : ℕ) (s : State ℕ View) (id : ℕ) (v : View) → Ruled tasks s → get_elem? s.views id ≡ some v → v.is_ear ≡ true → (id ≡ 0) × (others : List View) × RuledBy tasks s v others
ear_seat tasks s id v r at is_ear =
    let first = is_first id r.ear r.others v r.by.bells (subst (λ vs. get_elem? vs id ≡ some v) r.by.views at) is_ear in
    (first.0, r.others, subst (λ e. RuledBy tasks s e r.others) first.1 r.by)

next_word : (word rung later : ℕ) → word ≡ rung % 2 ^ 64 → later ≡ rung + 1 → (word + 1) % 2 ^ 64 ≡ later % 2 ^ 64
next_word word rung later is more = omega arith

-- one key more in a list
times_more : (k key : ℕ) (xs : List ℕ) → (k == key) ≡ true → times k (key ∷ xs) ≡ times k xs + 1
times_more k key xs same = omega (arith, ap one_if same)

times_same : (k key : ℕ) (xs : List ℕ) → (k == key) ≡ false → times k (key ∷ xs) ≡ times k xs
times_same k key xs differs = omega (arith, ap one_if differs)

-- the words behind one addition
ring_words : (words : List ℕ) (key : ℕ) (rung later : ℕ → ℕ) → key < length words → ((k : ℕ) → get_or words k 0 ≡ rung k % 2 ^ 64) → later key ≡ rung key + 1 → ((k : ℕ) → k ≢ key → later k ≡ rung k) → (k : ℕ) → get_or (set words key ((get_or words key 0 + 1) % 2 ^ 64)) k 0 ≡ later k % 2 ^ 64
ring_words words key rung later here is more same k =
    let next : ℕ = (get_or words key 0 + 1) % 2 ^ 64 in
    elim (cases_eq k key) [
      | inl e ↦
          ap (λ j. get_or (set words key next) j 0) e ∙ get_or-set_same words key next 0 here
          ∙ next_word (get_or words key 0) (rung key) (later key) (is key) more ∙ ap (λ j. later j % 2 ^ 64) (sym e)
      | inr differs ↦ get_or-set_other words key k next 0 differs ∙ is k ∙ ap (λ n. n % 2 ^ 64) (sym (same k differs))
    ]

-- one ring more
pub rings : (tasks slots id key : ℕ) (me : Me ℕ View) → key < tasks → me.0.is_ear ≡ false → me.0.is_bell ≡ true → Allows (Ruled tasks) slots id me key (λ n. (n + 1) % 2 ^ 64) (rang (step slots key 1 0 none) me)
rings tasks slots id key me below no_ear bell s r deep at small =
    let w = rung_view key me.0 in
    let seat = is_other id r.ear r.others me.0 r.by.is_ear (subst (λ vs. get_elem? vs id ≡ some me.0) r.by.views at) no_ear in
    let others = set r.others seat.0 w in
    let here : key < length s.words = omega (arith, r.by.count) in
    let sum : (k : ℕ) → rung_in k others + times k me.0.rings ≡ rung_in k r.others + times k w.rings = λ k. rung_set k seat.0 r.others me.0 w seat.2 in
    let count = bells_set seat.0 r.others me.0 w seat.2 in (
      w,
      keeps,
      tt,
      record {
        ear = r.ear;
        others = others;
        by = record {
          count = length-set s.words key _ ∙ r.by.count;
          views = ap (λ vs. set vs id w) r.by.views ∙ ap (λ j. set (r.ear ∷ r.others) j w) seat.1;
          is_ear = r.by.is_ear;
          out = omega (arith, count, r.by.out);
          bells = are_set seat.0 r.others w r.by.bells no_ear (λ no. absurd (cc (no, bell)));
          words = ring_words s.words key (λ k. rung_in k (r.ear ∷ r.others)) (λ k. rung_in k (r.ear ∷ others)) here r.by.words
              (omega (arith, sum key, times_more key key me.0.rings (eq-eqb key key refl)))
              (λ k differs. omega (arith, sum k, times_same k key me.0.rings (ne_eqb k key differs)));
          looks = within_more (λ k. rung_in k (r.ear ∷ r.others)) (λ k. rung_in k (r.ear ∷ others)) r.ear.looks (λ k. omega (arith, sum k)) r.by.looks;
        };
      },
      (refl, refl),
    )

-- a load by the ear
pub hears : (tasks slots id key : ℕ) (me : Me ℕ View) → key < tasks → me.0.is_ear ≡ true → Allows (Ruled tasks) slots id me key (λ n. n) (heard (step slots key 0 0 none) me)
hears tasks slots id key me below is_ear s r deep at small =
    let seat = ear_seat tasks s id me.0 r at is_ear in
    let others = seat.1 in
    let by = seat.2 in
    let total = rung_in key (me.0 ∷ others) in
    let w = heard_view key total me.0 in (
      w,
      keeps,
      tt,
      record {
        ear = w;
        others = others;
        by = record {
          count = length-set s.words key _ ∙ by.count;
          views = ap (λ vs. set vs id w) by.views ∙ ap (λ j. set (me.0 ∷ others) j w) seat.0;
          is_ear = is_ear;
          out = by.out;
          bells = by.bells;
          words = λ k. set_same s.words key k (omega (arith, by.count)) ∙ by.words k;
          looks = (omega arith, by.looks);
        };
      },
      (total, by.words key, refl, refl, λ t last. last_within (λ k. rung_in k (me.0 ∷ others)) key t me.0.looks by.looks last),
    )

-- the ear gives out a bell
pub splits : (tasks id : ℕ) (v : View) → v.is_ear ≡ true → Splits (Ruled tasks) id v (making v) new_bell
splits tasks id v is_ear s r at =
    let seat = ear_seat tasks s id v r at is_ear in
    let by = seat.2 in
    let others = seat.1 ++ new_bell ∷ [] in
    let same : (k : ℕ) → rung_in k (making v ∷ others) ≡ rung_in k (v ∷ seat.1) = λ k. ap (λ n. times k v.rings + n) (rung_more k seat.1) in
    record {
      ear = making v;
      others = others;
      by = record {
        count = by.count;
        views = ap (λ vs. set vs id (making v) ++ new_bell ∷ []) by.views ∙ ap (λ j. set (v ∷ seat.1) j (making v) ++ new_bell ∷ []) seat.0;
        is_ear = is_ear;
        out = omega (arith, by.out, bells_more seat.1);
        bells = are_more seat.1 by.bells;
        words = λ k. by.words k ∙ ap (λ n. n % 2 ^ 64) (sym (same k));
        looks = within_more (λ k. rung_in k (v ∷ seat.1)) (λ k. rung_in k (making v ∷ others)) v.looks (λ k. omega (arith, same k)) by.looks;
      };
    }

other_seat : (other : ℕ) (both : View) (others : List View) (w : View) → (other ≡ 0 → ⊥) → get_elem? (both ∷ others) other ≡ some w → (i : ℕ) × (other ≡ suc i) × (get_elem? others i ≡ some w)
other_seat zero both others w not_first at = absurd (not_first refl)
other_seat (suc i) both others w not_first at = (i, refl, at)

-- the ear takes a bell back
pub joins : (tasks id : ℕ) (v : View) (other : ℕ) (w : View) → v.is_ear ≡ true → w.is_bell ≡ true → Joins (Ruled tasks) id v other w (taking v w) gone
joins tasks id v other w is_ear bell s r at apart there =
    let seat = ear_seat tasks s id v r at is_ear in
    let by = seat.2 in
    let both = taking v w in
    let views : set s.views id both ≡ both ∷ seat.1 = ap (λ vs. set vs id both) by.views ∙ ap (λ j. set (v ∷ seat.1) j both) seat.0 in
    let place = other_seat other both seat.1 w (λ zero_is. apart (zero_is ∙ sym seat.0)) (subst (λ vs. get_elem? vs other ≡ some w) views there) in
    let others = set seat.1 place.0 gone in
    let same : (k : ℕ) → rung_in k (both ∷ others) ≡ rung_in k (v ∷ seat.1) = λ k. omega (arith, times-append k w.rings v.rings, rung_set k place.0 seat.1 w gone place.2) in
    record {
      ear = both;
      others = others;
      by = record {
        count = by.count;
        views = ap (λ vs. set vs other gone) views ∙ ap (λ j. set (both ∷ seat.1) j gone) place.1;
        is_ear = is_ear;
        out = omega (arith, by.out, ap one_if bell, bells_set place.0 seat.1 w gone place.2);
        bells = are_set place.0 seat.1 gone by.bells refl (λ no. refl);
        words = λ k. by.words k ∙ ap (λ n. n % 2 ^ 64) (sym (same k));
        looks = within_more (λ k. rung_in k (v ∷ seat.1)) (λ k. rung_in k (both ∷ others)) v.looks (λ k. omega (arith, same k)) by.looks;
      };
    }

zeros : (n k : ℕ) → get_or (replicate n 0) k 0 ≡ (let z : ℕ = 0 in z)
zeros n k =
    elim (cases_lt k n) [
      | inl below ↦ get_or-replicate n k 0 0 below
      | inr past ↦ get_or_past (replicate n 0) k 0 (omega (arith, length-replicate n (let z : ℕ = 0 in z)))
    ]

-- the table at the start
pub opens : (tasks : ℕ) (words : List ℕ) → words ≡ replicate tasks 0 → Ruled tasks (opening words [] new_ear)
opens tasks words is =
    record {
      ear = new_ear;
      others = [];
      by = record {
        count = ap length is ∙ length-replicate tasks (let z : ℕ = 0 in z);
        views = refl;
        is_ear = refl;
        out = refl;
        bells = tt;
        words = λ k. ap (λ ws. get_or ws k 0) is ∙ zeros tasks k;
        looks = tt;
      };
    }
