-- Where the sessions stand once one of them has moved.
use Rattle.std.proofs.Common.{◌≡◌, ℕ, suc, ◌<◌, ◌==◌, nat_lt, Bool, true, false, if◌then◌else◌, List, [], ◌∷◌, ◌++◌, map, length, take, drop, get_or, Option, Some, None, refl, sym, ap, subst, ◌∙◌, ◌⊎◌, inl, inr, arith}
use Rattle.std.proofs.Math.Seq.{drop-cons}
use Rattle.std.proofs.lemmas.List.{set_split}
use Rattle.std.proofs.lemmas.Bool.Decides.{nat_tests}
use Rattle.transfer_words.specs.Saying.{Stepped}
use Rattle.transfer_resume.specs.declared.stage.Stage.{Stage}
use Rattle.transfer_resume.specs.Session.{Row}
use Rattle.transfer_resume.specs.Book.{IsRowAt, stage_of, replaced, with_new, placed, row_by}
use Rattle.transfer_resume.specs.Alone.{moved_by}

-- a session is there, and it is true
abbrev Filled : Option Stage → Type 0
Filled None = ⊥
Filled (Some s) = Unit {0}

abbrev Holds : Bool → Type 0
Holds true = Unit {0}
Holds false = ⊥

pub none_some : (s : Stage) → None ≡ Some s → ⊥
none_some s e = subst Filled (sym e) tt

pub some_none : (s : Stage) → Some s ≡ None → ⊥
some_none s e = subst Filled e tt

pub true_false : true ≡ false → ⊥
true_false e = subst Holds e tt

pub same_id : (id : ℕ) → (id == id) ≡ true
same_id id = grind (arith, nat_tests)

pub not_other : (k id : ℕ) → (k == id) ≡ false → (id == k) ≡ false
not_other k id e = grind (arith, nat_tests)

-- an id that isn't k can't be that of a row which is k's
pub apart : (k id at : ℕ) → (k == id) ≡ false → (at == id) ≡ true → (at == k) ≡ false
apart k id at e f = grind (arith, nat_tests)

-- one that is there

replaced_own : (id : ℕ) (new old : Stage) (rows : List Row) → stage_of id rows ≡ Some old → stage_of id (replaced id new rows) ≡ Some new
replaced_own id new old [] there = absurd (none_some old there)
replaced_own id new old (r ∷ rows) there = by_row (r.id == id) refl there (λ t. replaced_own id new old rows t)
  where
    by_row : (b : Bool) → (r.id == id) ≡ b → (if b then Some r.stage else stage_of id rows) ≡ Some old → (stage_of id rows ≡ Some old → stage_of id (replaced id new rows) ≡ Some new) →
        stage_of id (if b then record { id = id; stage = new } ∷ rows else r ∷ replaced id new rows) ≡ Some new
    by_row true e t rest = rw (same_id id) refl
    by_row false e t rest = rw e (rest t)

pub replaced_other : (id k : ℕ) (new : Stage) (rows : List Row) → (k == id) ≡ false → stage_of k (replaced id new rows) ≡ stage_of k rows
replaced_other id k new [] other = refl
replaced_other id k new (r ∷ rows) other = by_row (r.id == id) refl (replaced_other id k new rows other)
  where
    by_row : (b : Bool) → (r.id == id) ≡ b → stage_of k (replaced id new rows) ≡ stage_of k rows → stage_of k (if b then record { id = id; stage = new } ∷ rows else r ∷ replaced id new rows) ≡ (if r.id == k then Some r.stage else stage_of k rows)
    by_row true e same = rw (not_other k id other, apart k id r.id other e) refl
    by_row false e same = ap (λ (rest : Option Stage). if r.id == k then Some r.stage else rest) same

-- a new one

new_own : (id : ℕ) (new : Stage) (rows : List Row) → stage_of id rows ≡ None → stage_of id (with_new id new rows) ≡ Some new
new_own id new [] there = rw (same_id id) refl
new_own id new (r ∷ rows) there = by_row (r.id == id) refl there (nat_lt id r.id) (λ t. new_own id new rows t)
  where
    by_row : (b : Bool) → (r.id == id) ≡ b → (if b then Some r.stage else stage_of id rows) ≡ None → (front : Bool) → (stage_of id rows ≡ None → stage_of id (with_new id new rows) ≡ Some new) →
        stage_of id (if front then record { id = id; stage = new } ∷ r ∷ rows else r ∷ with_new id new rows) ≡ Some new
    by_row true e t front rest = absurd (some_none r.stage t)
    by_row false e t true rest = rw (same_id id) refl
    by_row false e t false rest = rw e (rest t)

pub new_other : (id k : ℕ) (new : Stage) (rows : List Row) → (k == id) ≡ false → stage_of k (with_new id new rows) ≡ stage_of k rows
new_other id k new [] other = rw (not_other k id other) refl
new_other id k new (r ∷ rows) other = by_row (nat_lt id r.id) (new_other id k new rows other)
  where
    by_row : (front : Bool) → stage_of k (with_new id new rows) ≡ stage_of k rows → stage_of k (if front then record { id = id; stage = new } ∷ r ∷ rows else r ∷ with_new id new rows) ≡ (if r.id == k then Some r.stage else stage_of k rows)
    by_row true same = rw (not_other k id other) refl
    by_row false same = ap (λ (rest : Option Stage). if r.id == k then Some r.stage else rest) same

-- any

pub placed_own : (id : ℕ) (before after : Option Stage) (rows : List Row) → stage_of id rows ≡ before → (before ≡ None) ⊎ ((s : Stage) × (after ≡ Some s)) →
    stage_of id (placed id before after rows) ≡ after
placed_own id None None rows there moves = there
placed_own id None (Some new) rows there moves = new_own id new rows there
placed_own id (Some old) (Some new) rows there moves = replaced_own id new old rows there
placed_own id (Some old) None rows there (inl none) = absurd (some_none old none)
placed_own id (Some old) None rows there (inr some) = absurd (none_some some.0 some.1)

pub placed_other : (id k : ℕ) (before after : Option Stage) (rows : List Row) → (k == id) ≡ false → stage_of k (placed id before after rows) ≡ stage_of k rows
placed_other id k None None rows other = refl
placed_other id k (Some old) None rows other = refl
placed_other id k None (Some new) rows other = new_other id k new rows other
placed_other id k (Some old) (Some new) rows other = replaced_other id k new rows other

pub rows_moved : (f : Stage → Stepped Stage) (id : ℕ) (rows : List Row) → stage_of id (map (row_by f) rows) ≡ moved_by f (stage_of id rows)
rows_moved f id [] = refl
rows_moved f id (r ∷ rows) = by_row (r.id == id) (rows_moved f id rows)
  where
    by_row : (b : Bool) → stage_of id (map (row_by f) rows) ≡ moved_by f (stage_of id rows) → (if b then Some (f r.stage).after else stage_of id (map (row_by f) rows)) ≡ moved_by f (if b then Some r.stage else stage_of id rows)
    by_row true rest = refl
    by_row false rest = rest

-- the row that was found is replaced
pub row_hit : (id at : ℕ) (rows : List Row) (r : Row) → at < length rows → r ≡ get_or rows at r → r.id ≡ id →
    ((stage : Stage) → replaced id stage rows ≡ take at rows ++ replaced id stage (drop at rows)) → IsRowAt id rows (Some at)
row_hit id at rows r inside is same before = (
  inside,
  λ stage. before stage
      ∙ (ap (λ xs. take at rows ++ replaced id stage xs) here
      ∙ (ap (λ ys. take at rows ++ ys) (hit stage)
      ∙ sym (set_split rows at (record { id = id; stage = stage }) inside))),
)
  where
    here : drop at rows ≡ r ∷ drop (suc at) rows
    here = drop-cons rows at r inside ∙ ap (λ x. x ∷ drop (suc at) rows) (sym is)

    found : (r.id == id) ≡ true
    found = rw same (same_id id)

    hit : (stage : Stage) → replaced id stage (r ∷ drop (suc at) rows) ≡ record { id = id; stage = stage } ∷ drop (suc at) rows
    hit stage = rw found refl
