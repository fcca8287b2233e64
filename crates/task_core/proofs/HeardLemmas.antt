-- How a dispatcher stands for the loads of words.
use Rattle.std.proofs.Common.{◌≡◌, ◌≢◌, ◌==◌, ℕ, suc, ◌+◌, ◌<◌, ◌≤◌, ◌%◌, ◌^◌, Bool, true, false, not, ◌||◌, List, ◌∷◌, Option, Some, None, is_some, is_none, length, refl, sym, ap, subst, ◌∙◌, inl, inr, arith}
use Rattle.std.proofs.lemmas.Bool.{cond-true, cond-false, ne_eqb, or_left, or_right, and_from, not_from_false, cases_lt, cases_order}
use Rattle.slab.specs.Slab.{get, with_value}
use Rattle.slab.proofs.SlabLemmas.{Updates-with_value}
use Rattle.std.proofs.lemmas.List.{get_or_past}
use Rattle.task_core.specs.declared.bells.view.Look.{Look}
use Rattle.task_core.proofs.bells.Closing.{another_word}
use Rattle.task_core.specs.Visit.{Visit}
use Rattle.task_core.specs.Runs.{Turn}
use Rattle.task_core.specs.declared.place.Place.{Place}
use Rattle.task_core.specs.Log.{Step, heard, poll_heard, looks_of}
use Rattle.task_core.specs.Due.{lives, is_due, IsFirstDue}
use Rattle.task_core.specs.Places.{lives_in, due_in, due_with}
use Rattle.task_core.specs.Hearing.{HeardAt, HeardBelow, HeardTurn, IsHeard, HearsOne, Scanned}
use Rattle.task_core.specs.Tasks.{Tasks, Tells, StandsFor, Keeps, has_key}
use Rattle.task_core.proofs.PlaceLemmas.{there}
use Rattle.task_core.proofs.LogLemmas.{here, apart, Same, put_stands}
use Rattle.task_core.proofs.DueLemmas.{lives_is, due_is}
use Rattle.task_core.proofs.RunLemmas.{none_of}

module _ {T : Type 0} where
  other_heard : (log : List (Step T)) (key k total : ℕ) → k ≢ key → Same (heard key total ∷ log) log k
  other_heard log key k total differs =
      record { added = refl; task = refl; poll = refl; woken = refl; mail = refl; latest = cond-false (key == k) _ _ (apart key k differs); heard = refl }

  -- a load of the word of a task
  pub heard_stands : (b : Tasks T) (log : List (Step T)) (key total word : ℕ) (p : Place T) → StandsFor b log → get b.places key ≡ Some p → word ≡ total % 2 ^ 64 → StandsFor (record b { places = with_value b.places key (record p { latest = word }) }) (heard key total ∷ log)
  heard_stands b log key total word p stands found is =
      let before = stands.tells key p found in
      let after : Tells (record p { latest = word }) (heard key total ∷ log) key = record {
        task = before.task;
        result = before.result;
        living = λ alive.
            let l = before.living alive in
            record {
              mail = l.mail;
              marked = l.marked;
              alarm = l.alarm;
              awaits = l.awaits;
              latest = ap (λ n. n % 2 ^ 64) (cond-true (key == key) _ _ (here key)) ∙ sym is;
              heard = l.heard;
            };
      } in
      put_stands b b.outs log (heard key total ∷ log) key p (record p { latest = word }) stands found refl stands.outs refl refl (λ k. other_heard log key k total) after

  -- nothing is loaded for a task that doesn't live
  pub hears_none : (b : Tasks T) (key : ℕ) (looks : List Look) → lives_in (get b.places key) ≡ false → HearsOne key b b looks looks
  hears_none b key looks dead = λ log stands same.
      (log, subst (λ alive. HeardAt alive key log log) (sym (lives_is b log key stands ∙ dead)) refl, stands, same)

  -- the word of one that lives
  pub hears_word : (b : Tasks T) (key total word : ℕ) (p : Place T) (looks new_looks : List Look) → get b.places key ≡ Some p → lives_in (get b.places key) ≡ true → word ≡ total % 2 ^ 64 → new_looks ≡ (record { key = key; total = total }) ∷ looks
      → HearsOne key b (record b { places = with_value b.places key (record p { latest = word }) }) looks new_looks
  hears_word b key total word p looks new_looks found alive is adds = λ log stands same.
      (heard key total ∷ log, subst (λ living. HeardAt living key log (heard key total ∷ log)) (sym (lives_is b log key stands ∙ alive)) (total, refl), heard_stands b log key total word p stands found is, ap (λ ls. record { key = key; total = total } ∷ ls) same ∙ sym adds)

  pub scanned_none : (b : Tasks T) (looks : List Look) → Scanned 0 b b looks looks
  scanned_none b looks = λ log stands same. (log, refl, stands, same)

  -- one key more
  pub scanned_more : (key : ℕ) (b mid now : Tasks T) (looks mid_looks new_looks : List Look) → Scanned key b mid looks mid_looks → HearsOne key mid now mid_looks new_looks → Scanned (key + 1) b now looks new_looks
  scanned_more key b mid now looks mid_looks new_looks before one = λ log stands same.
      let so = before log stands same in
      let next = one so.0 so.2 so.3 in
      let more : suc key ≡ key + 1 = omega arith in
      (next.0, subst (λ n. HeardBelow n log next.0) more (so.0, so.1, next.1), next.2, next.3)

  -- no place that is not there is due
  pub past_due : (o : Option (Place T)) → is_some o ≡ false → due_in o ≡ false
  past_due None past = refl
  past_due (Some p) past = absurd (cc past)

  -- whether the task is due by this word
  pub due_heard : (b : Tasks T) (log : List (Step T)) (key total word : ℕ) (p : Place T) → StandsFor b log → get b.places key ≡ Some p → word ≡ total % 2 ^ 64 → due_with word p ≡ is_due (heard key total ∷ log) key
  due_heard b log key total word p stands found is =
      let q : Place T = record p { latest = word } in
      let now : Tasks T = record b { places = with_value b.places key q } in
      let updates = Updates-with_value b.places key q (there (get b.places key) p found) in
      sym (due_is now (heard key total ∷ log) key (heard_stands b log key total word p stands found is) ∙ ap due_in updates.changed)

  pub due_rung : (b : Tasks T) (log : List (Step T)) (key total word : ℕ) (p : Place T) → StandsFor b log → get b.places key ≡ Some p → word ≡ total % 2 ^ 64 → poll_heard log key < total → total < poll_heard log key + 2 ^ 64 → lives log key ≡ true → due_with word p ≡ true
  due_rung b log key total word p stands found is later few alive =
      let tells = stands.tells key p found in
      let lives_on : is_none p.result ≡ true = sym (lives_is b log key stands ∙ ap lives_in found) ∙ alive in
      let known = ((stands.tells key p found).living (none_of p.result lives_on)).heard in
      let differs : word ≢ p.heard = λ same. another_word (poll_heard log key) total later few (known ∙ sym same ∙ is) in
      and_from (is_none p.result) _ lives_on (or_left (p.marked || not (word == p.heard)) _ (or_right p.marked (not (word == p.heard)) (not_from_false (word == p.heard) (ne_eqb word p.heard differs))))

  -- a key past the end is none
  pub past_key : (b now : Tasks T) (n k : ℕ) → length b.places.slots ≤ n → n ≤ k → Keeps b now → has_key now k ≡ false
  past_key b now n k most past keeps = keeps.keys k ∙ ap is_some (get_or_past b.places.slots k None (omega arith))

  pub below_end : (b now : Tasks T) (n k : ℕ) → length b.places.slots ≤ n → Keeps b now → has_key now k ≡ true → k < n
  below_end b now n k most keeps has =
      elim (cases_lt k n) [
        | inl below ↦ below
        | inr past ↦ absurd (cc (has, past_key b now n k most past keeps))
      ]

  -- all keys were looked at, and no task is due
  pub none_due : (b now : Tasks T) (n : ℕ) → length b.places.slots ≤ n → Keeps b now → ((k : ℕ) → k < n → due_in (get now.places k) ≡ false) → (k : ℕ) → due_in (get now.places k) ≡ false
  none_due b now n most keeps calm k =
      elim (cases_lt k n) [
        | inl below ↦ calm k below
        | inr past ↦ past_due (get now.places k) (past_key b now n k most past keeps)
      ]

  -- the first task that is due is one
  pub first_one : (log : List (Step T)) (i j : ℕ) → IsFirstDue log i → IsFirstDue log j → i ≡ j
  first_one log i j first other =
      elim (cases_order i j) [
        | inl same ↦ same
        | inr apart_ ↦ elim apart_ [
          | inl below ↦ absurd (cc (first.0, other.1 i below))
          | inr above ↦ absurd (cc (other.0, first.1 j above))
        ]
      ]

  pub heard_turn : (polls : T → Visit → T → Type 0) (log mid new : List (Step T)) (key : ℕ) (short : Bool) → HeardBelow (key + 1) log mid → IsFirstDue mid key → Turn polls mid new short → HeardTurn polls log new short
  heard_turn polls log mid new key short below first turn =
      let more : key + 1 ≡ suc key = omega arith in
      record { key = key; mid = mid; heard = subst (λ n. HeardBelow n log mid) more below; turn = turn; same = first_one mid turn.key key turn.first first }

  pub turn_looks : (polls : T → Visit → T → Type 0) (log new : List (Step T)) (short : Bool) → Turn polls log new short → looks_of new ≡ looks_of log
  turn_looks polls log new short turn = ap looks_of turn.adds

  -- all words are loaded
  pub heard_all : (now : Tasks T) (new : List (Step T)) (upto : ℕ) → StandsFor now new → ((k : ℕ) → has_key now k ≡ true → k < upto) → IsHeard upto new
  heard_all now new upto stands all = λ k is_there past. let below = all k (sym (stands.is_added k) ∙ is_there) in absurd (omega (arith, below, past))

  -- the words up to one that is due
  pub heard_some : (new : List (Step T)) (key : ℕ) → is_due new key ≡ true → IsHeard (key + 1) new
  heard_some new key due = λ k is_there past. (key, omega arith, due)
