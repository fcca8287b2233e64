-- What the words say at the end, and how the ear takes all bells in.
use Rattle.std.proofs.Common.{◌≡◌, ◌≢◌, ℕ, zero, suc, ◌+◌, ◌<◌, ◌≤◌, ◌%◌, ◌^◌, Bool, true, false, List, [], ◌∷◌, ◌++◌, length, get_or, Some, refl, sym, ap, subst, ◌∙◌, arith, length-append}
use mathlib.Core.Option.{some, some-injective, some-ne-none}
use lib.ListN.{get_elem?}
use Rattle.atomic_table.specs.Table.{Final, Seen}
use Rattle.atomic_table.specs.Seated.{TableId}
use Rattle.atomic_table.proofs.Lists.{one_turn}
use Rattle.std.specs.Prelude.{slice_get}
use Rattle.task_core.specs.declared.bells.view.Look.{Look}
use Rattle.task_core.specs.declared.bells.view.View.{View}
use Rattle.task_core.specs.bells.Rings.{one_if, times, rung_in, bells_in, AreWithin}
use Rattle.task_core.specs.bells.Views.{taking}
use Rattle.task_core.specs.bells.Rule.{AreBells, Ruled}
use Rattle.task_core.specs.bells.Bells.{Rung, rung_by, AreOf, AreNew, HasSums, NoneLost, IsGathered}
use Rattle.task_core.proofs.bells.Counting.{times-append}
use Rattle.task_core.proofs.bells.Keeping.{ear_seat}

-- without a bell nothing is rung
no_bell : (key : ℕ) (v : View) (is_bell : Bool) (n : ℕ) → v.is_bell ≡ is_bell → (v.is_bell ≡ false → v.rings ≡ []) → one_if is_bell + n ≡ 0 → (times key v.rings ≡ 0) × (n ≡ 0)
no_bell key v true n is calm none = absurd (omega arith)
no_bell key v false n is calm none = (ap (times key) (calm is), omega arith)

pub none_left : (key : ℕ) (vs : List View) → AreBells vs → bells_in vs ≡ 0 → rung_in key vs ≡ 0
none_left key [] are none = refl
none_left key (v ∷ vs) are none =
    let here = no_bell key v v.is_bell (bells_in vs) refl are.1 none in
    omega (arith, here.0, none_left key vs are.2 here.1)

-- at the end each word is what the ear has, once all bells are back
pub record Ended (words : List ℕ) (v : View) : Type 0 where
  pub sums : (key : ℕ) → get_or words key 0 ≡ times key v.rings % 2 ^ 64
  pub within : AreWithin (λ key. times key v.rings) v.looks

within_same : (f g : ℕ → ℕ) (looks : List Look) → ((key : ℕ) → f key ≡ g key) → AreWithin f looks → AreWithin g looks
within_same f g [] same within = tt
within_same f g (look ∷ looks) same within = (omega (arith, same look.key, within.0), within_same f g looks same within.1)

pub ended : (tasks id : ℕ) (v : View) (words slots : List ℕ) → v.is_ear ≡ true → v.back ≡ v.made → Final (Seen (Ruled tasks) id v) words slots → Ended words v
ended tasks id v words slots is_ear back final =
    let s = final.0 in
    let seat = ear_seat tasks s id v final.1.0 final.1.1 is_ear in
    let by = seat.2 in
    let none : bells_in seat.1 ≡ 0 = omega (arith, by.out, back) in
    let all : (key : ℕ) → rung_in key (v ∷ seat.1) ≡ times key v.rings = λ key. omega (arith, none_left key seat.1 by.bells none) in
    record {
      sums = λ key. ap (λ ws. get_or ws key 0) (sym final.2) ∙ by.words key ∙ ap (λ n. n % 2 ^ 64) (all key);
      within = within_same (λ key. rung_in key (v ∷ seat.1)) (λ key. times key v.rings) v.looks all by.looks;
    }

pub value_at : (words : List ℕ) (key word : ℕ) → slice_get words key ≡ Some word → get_or words key 0 ≡ word
value_at [] key word found = absurd (cc found)
value_at (w ∷ words) zero word found = cc found
value_at (w ∷ words) (suc key) word found = value_at words key word found

look_at : (most : ℕ → ℕ) (looks : List Look) (i : ℕ) (look : Look) → AreWithin most looks → slice_get looks i ≡ Some look → look.total ≤ most look.key
look_at most [] i look within found = absurd (cc found)
look_at most (l ∷ looks) zero look within found =
    let is : l ≡ look = cc found in subst (λ (z : Look). z.total ≤ most z.key) is within.0
look_at most (l ∷ looks) (suc i) look within found = look_at most looks i look within.1 found

below_length : (words : List ℕ) (key word : ℕ) → slice_get words key ≡ Some word → key < length words
below_length [] key word found = absurd (cc found)
below_length (w ∷ words) zero word found = omega arith
below_length (w ∷ words) (suc key) word found = let rest = below_length words key word found in omega (arith, rest)

pub elem_value : (words : List ℕ) (key word : ℕ) → get_elem? words key ≡ some word → get_or words key 0 ≡ word
elem_value [] key word found = absurd (some-ne-none word (sym found))
elem_value (w ∷ words) zero word found = some-injective w word found
elem_value (w ∷ words) (suc key) word found = elem_value words key word found

-- what the ear has is what the bells rang
pub sums_closed : (words closed : List ℕ) (bells : List Rung) (v : View) → ((key : ℕ) → key < length words → get_or words key 0 ≡ get_or closed key 0) → Ended closed v → ((key : ℕ) → times key v.rings ≡ rung_by key bells) → HasSums bells words
sums_closed words closed bells v same end all = λ key word found.
    sym (value_at words key word found) ∙ same key (below_length words key word found) ∙ end.sums key ∙ ap (λ n. n % 2 ^ 64) (all key)

pub none_lost_closed : (words : List ℕ) (bells : List Rung) (looks : List Look) (closed : List ℕ) (v : View) → HasSums bells words → Ended closed v → ((key : ℕ) → times key v.rings ≡ rung_by key bells) → v.looks ≡ looks → NoneLost looks bells words
none_lost_closed words bells looks closed v sums end all is = λ i look found.
    let within : AreWithin (λ key. times key v.rings) looks = subst (λ (ls : List Look). AreWithin (λ key. times key v.rings) ls) is end.within in
    let most : look.total ≤ rung_by look.key bells = omega (arith, look_at (λ key. times key v.rings) looks i look within found, all look.key) in (
      most,
      λ word at later few same.
          let one = one_turn look.total (rung_by look.key bells) (2 ^ 64) most few (sym same ∙ sums look.key word at) in
          omega (arith, one, later),
    )

-- ---- taking the bells in, the last one first
pub rung_by-append : (key : ℕ) (bs : List Rung) (b : Rung) → rung_by key (bs ++ b ∷ []) ≡ rung_by key bs + times key b.rings
rung_by-append key [] b = omega arith
rung_by-append key (x ∷ bs) b = omega (arith, rung_by-append key bs b)

pub are_of_front : (table : TableId) (bs : List Rung) (b : Rung) → AreOf table (bs ++ b ∷ []) → AreOf table bs × (b.table ≡ table)
are_of_front table [] b are = (tt, are.0)
are_of_front table (x ∷ bs) b are = let rest = are_of_front table bs b are.1 in ((are.0, rest.0), rest.1)

-- some bells are taken in, and these are left
pub record IsTaking (all left : List Rung) (v w : View) : Type 0 where
  pub is_ear : w.is_ear ≡ v.is_ear
  pub looks : w.looks ≡ v.looks
  pub made : w.made ≡ v.made
  pub back : w.back + length left ≡ v.back + length all
  pub rings : (key : ℕ) → times key w.rings + rung_by key left ≡ rung_by key all + times key v.rings

pub taking_next : (all left : List Rung) (b : Rung) (v w u : View) → IsTaking all (left ++ b ∷ []) v w → u.rings ≡ b.rings → IsTaking all left v (taking w u)
taking_next all left b v w u so_far same =
    record {
      is_ear = so_far.is_ear;
      looks = so_far.looks;
      made = so_far.made;
      back = omega (arith, so_far.back, length-append left (b ∷ []));
      rings = λ key. omega (arith, so_far.rings key, rung_by-append key left b, times-append key u.rings w.rings, ap (times key) same);
    }

pub taken_all : (all : List Rung) (v w : View) → IsTaking all [] v w → IsGathered v all w
taken_all all v w so =
    record {
      is_ear = so.is_ear;
      looks = so.looks;
      made = so.made;
      back = omega (arith, so.back);
      rings = λ key. omega (arith, so.rings key);
    }

-- one bell more that hasn't rung
pub new_more : (table : TableId) (bs : List Rung) (b : Rung) → AreNew table bs → b.table ≡ table → b.rings ≡ [] → AreNew table (bs ++ b ∷ [])
new_more table [] b are of calm = (of, calm, tt)
new_more table (x ∷ bs) b are of calm = (are.0, are.1, new_more table bs b are.2 of calm)

-- numbers that differ by less than 2^64 are different words
pub another_word : (a b : ℕ) → a < b → b < a + 2 ^ 64 → a % 2 ^ 64 ≢ b % 2 ^ 64
another_word a b less few same = let one = one_turn a b (2 ^ 64) (omega arith) few same in omega (arith, one, less)

pub value_there : (words : List ℕ) (key : ℕ) → key < length words → slice_get words key ≡ Some (get_or words key 0)
value_there [] key below = absurd (omega arith)
value_there (w ∷ words) zero below = refl
value_there (w ∷ words) (suc key) below = value_there words key (omega arith)

pub new_of : (table : TableId) (bs : List Rung) → AreNew table bs → AreOf table bs
new_of table [] are = tt
new_of table (b ∷ bs) are = (are.0, new_of table bs are.2)
