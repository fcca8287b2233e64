-- What each store action keeps of a store whose resources are small.
use Rattle.std.proofs.Common.{◌≡◌, ℕ, ◌+◌, ◌≤◌, ◌==◌, not, max, Bool, true, false, if◌then◌else◌, cond, List, [], ◌∷◌, ◌++◌, filter, length, take, Option, Some, None, unwrap_or, refl, sym, ◌∙◌, subst, arith, length-append}
use Rattle.std.proofs.lemmas.Bool.{false≢true}
use Rattle.std.proofs.lemmas.List.{length-take}
use Rattle.std.proofs.lemmas.Map.Lookups.{exact_unsigned}
use Rattle.std.specs.declared.cmp.Ordering.{Ordering}
use Rattle.std.specs.declared.cmp.Ordering.TheVariants.{Less, Equal, Greater}
use Rattle.std.specs.BTreeMap.{insert_entry, is_at}
use Rattle.std.specs.List.{AllByRecursion}
use Rattle.std.specs.Map.{lookup, remove_entry, set_value}
use Rattle.std.specs.Ordering.{is_eq, match_ordering, nat_cmp, ordering_then}
use Rattle.link_io.specs.declared.store.StoreKey.{StoreKey}
use Rattle.link_io.specs.Resources.{Resources, found, with_resource}
use Rattle.link_io.specs.Stored.{Stored, Work, Works, abandoned_of, appended_to, committed_of, is_key, key_cmp, left_by, left_by_call, longer, new_work, other_works, work_of}
use Rattle.transfer_base.specs.declared.limits.TheConstants.{MAX_RESOURCE}
use Rattle.transfer_words.specs.Saying.{Saying, says, begins, appends, commits, leaves, out_of}
use Rattle.rpc_journal.proofs.PlaceLemmas.{some_same}
use Rattle.rpc_schedule.specs.Kept.{change_by, key}
use Rattle.history_laws.proofs.messages.Members.{all_weaken}
use Rattle.link_laws.specs.transfers_fit.Fits.{AreSmall}

-- how many bytes a work has at most behind an action, where it had so many before
abbrev pub grown_by : ℕ → Saying → ℕ
grown_by m (says w) = m
grown_by m (begins resource offset) = max m offset
grown_by m (appends bytes) = m + length bytes
grown_by m commits = m
grown_by m leaves = m

abbrev pub grown : ℕ → List Saying → ℕ
grown m [] = m
grown m (s ∷ ss) = grown (grown_by m s) ss

pub grown_append : (m : ℕ) (xs ys : List Saying) → grown m (xs ++ ys) ≡ grown (grown m xs) ys
grown_append m [] ys = refl
grown_append m (x ∷ xs) ys = grown_append (grown_by m x) xs ys

pub grows : (m : ℕ) (s : Saying) → m ≤ grown_by m s
grows m (says w) = omega arith
grows m (begins r o) = omega arith
grows m (appends bytes) = omega arith
grows m commits = omega arith
grows m leaves = omega arith

pub grows_all : (m : ℕ) (ss : List Saying) → m ≤ grown m ss
grows_all m [] = omega arith
grows_all m (s ∷ ss) = omega (arith, grows m s, grows_all (grown_by m s) ss)

-- Lists by keys.
module _ {K X : Type 0} (P : K × X → Type 0) where
  pub insert_all : (cmp : K → K → Ordering) (es : List (K × X)) (k : K) (v : X) → AllByRecursion P es → P (k, v) → ((e : K × X) → P e → P (e.0, v)) → AllByRecursion P (insert_entry cmp es k v)
  insert_all cmp [] k v all new old = (new, tt)
  insert_all cmp (e ∷ es) k v all new old = at (cmp k e.0) (insert_all cmp es k v all.1 new old)
    where
      at : (r : Ordering) → AllByRecursion P (insert_entry cmp es k v) → AllByRecursion P (match_ordering r ((k, v) ∷ e ∷ es) ((e.0, v) ∷ es) (e ∷ insert_entry cmp es k v))
      at Less more = (new, all)
      at Equal more = (old e all.0, all.1)
      at Greater more = (all.0, more)

  set_all : (test : K → Bool) (es : List (K × X)) (v : X) → AllByRecursion P es → ((e : K × X) → P e → P (e.0, v)) → AllByRecursion P (set_value test es v)
  set_all test [] v all old = tt
  set_all test (e ∷ es) v all old = at (test e.0) (set_all test es v all.1 old)
    where
      at : (b : Bool) → AllByRecursion P (set_value test es v) → AllByRecursion P (cond b ((e.0, v) ∷ es) (e ∷ set_value test es v))
      at true more = (old e all.0, all.1)
      at false more = (all.0, more)

  remove_all : (test : K → Bool) (es : List (K × X)) → AllByRecursion P es → AllByRecursion P (remove_entry test es)
  remove_all test [] all = tt
  remove_all test (e ∷ es) all = at (test e.0) (remove_all test es all.1)
    where
      at : (b : Bool) → AllByRecursion P (remove_entry test es) → AllByRecursion P (cond b es (e ∷ remove_entry test es))
      at true more = all.1
      at false more = (all.0, more)

  filter_all : (test : K × X → Bool) (es : List (K × X)) → AllByRecursion P es → AllByRecursion P (filter test es)
  filter_all test [] all = tt
  filter_all test (e ∷ es) all = at (test e) (filter_all test es all.1)
    where
      at : (b : Bool) → AllByRecursion P (filter test es) → AllByRecursion P (if b then e ∷ filter test es else filter test es)
      at true more = (all.0, more)
      at false more = more

  -- what a look-up finds
  pub record Found (test : K → Bool) (v : X) : Type 0 where
    pub at_key : K
    pub passes : test at_key ≡ true
    pub holds : P (at_key, v)

  pub look_up : (test : K → Bool) (es : List (K × X)) (v : X) → lookup test es ≡ Some v → AllByRecursion P es → Found test v
  look_up test [] v is all = absurd (none_some is)
    where
      none_some : None ≡ Some v → ⊥
      none_some same = cc
  look_up test (e ∷ es) v is all = at (test e.0) refl is (λ later. look_up test es v later all.1)
    where
      at : (b : Bool) → test e.0 ≡ b → cond b (Some e.1) (lookup test es) ≡ Some v → (lookup test es ≡ Some v → Found test v) → Found test v
      at true passes is more = record { at_key = e.0; passes = passes; holds = subst (λ x. P (e.0, x)) (some_same e.1 v is) all.0 }
      at false passes is more = more is

then_equal : (a b : Ordering) → is_eq (ordering_then a b) ≡ true → is_eq b ≡ true
then_equal Less b is = absurd (false≢true is)
then_equal Equal b is = is
then_equal Greater b is = absurd (false≢true is)

equal_numbers : (x y : ℕ) → is_eq (nat_cmp x y) ≡ true → x ≡ y
equal_numbers x y is = at (nat_cmp x y) refl is
  where
    at : (r : Ordering) → nat_cmp x y ≡ r → is_eq r ≡ true → x ≡ y
    at Less e is = absurd (false≢true is)
    at Equal e is = exact_unsigned x y e
    at Greater e is = absurd (false≢true is)

key_session : (a b : StoreKey) → is_key a b ≡ true → b.session ≡ a.session
key_session a b is = sym (equal_numbers a.session b.session (then_equal (nat_cmp a.call b.call) (nat_cmp a.session b.session) is))

-- A work of one of so many sessions, which is small; of session i it has at most m bytes.
module _ (n i : ℕ) where
  pub record WorkFits (m : ℕ) (e : StoreKey × Work) : Type 0 where
    pub size : length e.1.bytes ≤ MAX_RESOURCE
    pub low : e.0.session ≤ n
    pub own : e.0.session ≡ i → length e.1.bytes ≤ m

  pub record StoreFits (m : ℕ) (s : Stored) : Type 0 where
    pub full : AreSmall s.full
    pub left : AreSmall s.left
    pub works : AllByRecursion (WorkFits m) s.work

  pub store_widens : (m more : ℕ) (s : Stored) → m ≤ more → StoreFits m s → StoreFits more s
  store_widens m more s within fits = record {
    full = fits.full;
    left = fits.left;
    works = all_weaken (WorkFits m) (WorkFits more) s.work (λ e f. record { size = f.size; low = f.low; own = λ same. omega (arith, within, f.own same) }) fits.works;
  }

  abbrev Small : ℕ × List ℕ → Type 0
  Small e = length e.1 ≤ MAX_RESOURCE

  with_small : (resource : ℕ) (bytes : List ℕ) (rows : Resources) → length bytes ≤ MAX_RESOURCE → AreSmall rows → AreSmall (with_resource resource bytes rows)
  with_small resource bytes rows few all = insert_all Small nat_cmp rows resource bytes all few (λ e old. few)

  left_small : (w : Work) (left : Resources) → length w.bytes ≤ MAX_RESOURCE → AreSmall left → AreSmall (left_by w left)
  left_small w left few all = at (w.appended == 0)
    where
      at : (b : Bool) → AreSmall (if b then left else with_resource w.resource w.bytes left)
      at true = all
      at false = with_small w.resource w.bytes left few all

  call_left : (c : ℕ) (m : ℕ) (works : Works) (left : Resources) → AllByRecursion (WorkFits m) works → AreSmall left → AreSmall (left_by_call c works left)
  call_left c m [] left all small = small
  call_left c m (e ∷ works) left all small = call_left c m works (if e.0.call == c then left_by e.1 left else left) all.1 (at (e.0.call == c))
    where
      at : (b : Bool) → AreSmall (if b then left_by e.1 left else left)
      at true = left_small e.1 left all.0.size small
      at false = small

  -- all works of a call are left
  pub call_fits : (c m : ℕ) (s : Stored) → StoreFits m s → StoreFits m (record s { left = left_by_call c s.work s.left; work = other_works c s.work })
  call_fits c m s fits = record {
    full = fits.full;
    left = call_left c m s.work s.left fits.works fits.left;
    works = filter_all (WorkFits m) (λ e. not (e.0.call == c)) s.work fits.works;
  }

  -- the work of a key is small
  found_fits : (k : StoreKey) (m : ℕ) (s : Stored) (w : Work) → work_of k s.work ≡ Some w → StoreFits m s → (length w.bytes ≤ MAX_RESOURCE) × (k.session ≡ i → length w.bytes ≤ m)
  found_fits k m s w is fits =
      let f : Found (WorkFits m) (is_key k) w = look_up (WorkFits m) (is_key k) s.work w is fits.works in
      (f.holds.size, λ same. f.holds.own (key_session k f.at_key f.passes ∙ same))

  commit_fits : (k : StoreKey) (m : ℕ) (s : Stored) (o : Option Work) → work_of k s.work ≡ o → StoreFits m s → StoreFits m (committed_of k o s)
  commit_fits k m s None is fits = fits
  commit_fits k m s (Some w) is fits = record {
    full = with_small w.resource w.bytes s.full (found_fits k m s w is fits).0 fits.full;
    left = remove_all Small (is_at (nat_cmp w.resource)) s.left fits.left;
    works = remove_all (WorkFits m) (is_key k) s.work fits.works;
  }

  leave_fits : (k : StoreKey) (m : ℕ) (s : Stored) (o : Option Work) → work_of k s.work ≡ o → StoreFits m s → StoreFits m (abandoned_of k o s)
  leave_fits k m s None is fits = fits
  leave_fits k m s (Some w) is fits = record {
    full = fits.full;
    left = left_small w s.left (found_fits k m s w is fits).0 fits.left;
    works = remove_all (WorkFits m) (is_key k) s.work fits.works;
  }

  append_fits : (k : StoreKey) (m : ℕ) (bytes : List ℕ) (s : Stored) (o : Option Work) → work_of k s.work ≡ o → k.session ≡ i → m + length bytes ≤ MAX_RESOURCE → StoreFits m s
      → StoreFits (m + length bytes) (appended_to k bytes o s)
  append_fits k m bytes s None is same within fits = store_widens m (m + length bytes) s (omega arith) fits
  append_fits k m bytes s (Some w) is same within fits =
      let wide : StoreFits (m + length bytes) s = store_widens m (m + length bytes) s (omega arith) fits in
      let long : length (w.bytes ++ bytes) ≤ m + length bytes = omega (arith, length-append w.bytes bytes, (found_fits k m s w is fits).1 same) in
      record {
        full = wide.full;
        left = wide.left;
        works = set_all (WorkFits (m + length bytes)) (is_key k) s.work (longer bytes w) wide.works (λ e f. record { size = omega (arith, long, within); low = f.low; own = λ own. long });
      }

  taken_short : (offset : ℕ) (bytes : List ℕ) → length (take offset bytes) ≤ offset
  taken_short offset bytes = omega (arith, length-take offset bytes)

  begin_fits : (k : StoreKey) (m resource offset : ℕ) (s : Stored) → k.session ≤ n → max m offset ≤ MAX_RESOURCE → StoreFits m s
      → StoreFits (max m offset) (record s { work = insert_entry key_cmp s.work k (new_work resource offset s.left) })
  begin_fits k m resource offset s low within fits =
      let wide : StoreFits (max m offset) s = store_widens m (max m offset) s (omega arith) fits in
      let short : length (take offset (unwrap_or (found resource s.left) [])) ≤ offset = taken_short offset (unwrap_or (found resource s.left) []) in
      record {
        full = wide.full;
        left = wide.left;
        works =
            insert_all (WorkFits (max m offset)) key_cmp s.work k (new_work resource offset s.left) wide.works
            (record { size = omega (arith, short, within); low = low; own = λ own. omega (arith, short) })
            (λ e f. record { size = omega (arith, short, within); low = f.low; own = λ own. omega (arith, short) });
      }

  -- AN ACTION OF SESSION i, in a call
  pub change_fits : (c m : ℕ) (x : Saying) (s : Stored) → i ≤ n → grown_by m x ≤ MAX_RESOURCE → StoreFits m s → StoreFits (grown_by m x) (change_by c (out_of i x) s)
  change_fits c m (says w) s low within fits = fits
  change_fits c m (begins resource offset) s low within fits = begin_fits (key c i) m resource offset s low within fits
  change_fits c m (appends bytes) s low within fits = append_fits (key c i) m bytes s (work_of (key c i) s.work) refl refl within fits
  change_fits c m commits s low within fits = commit_fits (key c i) m s (work_of (key c i) s.work) refl fits
  change_fits c m leaves s low within fits = leave_fits (key c i) m s (work_of (key c i) s.work) refl fits
