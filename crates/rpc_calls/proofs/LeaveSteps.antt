-- The records of a table over calls that leave, that are cancelled when they have left, and that open.
use Rattle.std.proofs.Common.{◌≡◌, ◌≢◌, ◌⊎◌, inl, inr, ℕ, zero, suc, ◌<◌, ◌≤◌, Bool, true, false, not, ◌||◌, List, [], ◌∷◌, ◌++◌, length, map, slice_get, slice_index_or, slice_set, length-set, Option, Some, None, option_map, is_some, is_none, if◌then◌else◌, refl, ap, sym, ◌∙◌, subst, arith, length-append}
use Rattle.slab.specs.Slab.{Slab, Updates, get}
use Rattle.std.proofs.lemmas.Option.{slice_get_within}
use Rattle.rpc_packet.specs.declared.call_name.CallName.{CallName}
use Rattle.rpc_journal.specs.declared.table.call_state.CallState.{CallState}
use Rattle.rpc_ids.specs.declared.status.Status.{Status}
use Rattle.rpc_ids.specs.declared.status.Status.TheVariants.{Cancelled}
use Rattle.rpc_journal.specs.Kinds.{or_else}
use Rattle.rpc_journal.specs.table.Newest.{newest_of}
use Rattle.rpc_journal.specs.table.Touch.{cancelling}
use Rattle.rpc_journal.specs.table.Turns.{Turns}
use Rattle.rpc_journal.proofs.PlaceLemmas.{below_or_not, get_front, get_last, get_none, get_read, get_some, some_same}
use Rattle.rpc_journal.proofs.table.StepLemmas.{get_other, get_set, same_or_not}
use Rattle.rpc_calls.specs.declared.call_place.CallFacts.{CallFacts}
use Rattle.rpc_calls.specs.declared.call_place.CallPlace.{CallPlace}
use Rattle.rpc_calls.specs.declared.call_place.CallPlace.TheVariants.{Kept, Left}
use Rattle.rpc_calls.specs.declared.call_record.CallRecord.{CallRecord}
use Rattle.rpc_calls.specs.Facts.{IsDoneWith, facts_of, is_done_with}
use Rattle.rpc_journal.specs.table.Newest.{IsNamed}
use Rattle.rpc_calls.specs.Marks.{marks_of, no_marks}
use Rattle.rpc_calls.specs.Names.{AreSameNames, IsSetTo, Names, call_under, same_key}
use Rattle.rpc_calls.specs.Numbers.{live_at, live_if, numbers_of}
use Rattle.rpc_calls.specs.Places.{ChangesAt}
use Rattle.rpc_calls.specs.Records.{ChangesHandler, handler_of, state_in}
use Rattle.rpc_calls.specs.Kept.{is_kept_at}
use Rattle.rpc_calls.specs.Roll.{IsLeft, IsRecordOf, Stands, handler_in}
use Rattle.rpc_calls.proofs.InUseSteps.{done_is}
use Rattle.rpc_calls.proofs.NumberLemmas.{newest_at, newest_more, newest_opened, numbers_kept, numbers_more}
use Rattle.rpc_calls.proofs.PlaceChanges.{same_list, set_changes}
use Rattle.rpc_calls.proofs.RecordSteps.{kept_left, kept_one, map_same}

left_one : (l m : CallFacts) (o : Option CallPlace) → o ≡ Some (Left l) → o ≡ Some (Left m) → l ≡ m
left_one l m None is also = absurd cc
left_one l m (Some (Kept k)) is also = absurd cc
left_one l m (Some (Left f)) is also = let a : f ≡ l = cc in let b : f ≡ m = cc in sym a ∙ b

pub get_map_all : {A B : Type 0} (f : A → B) (xs : List A) (k : ℕ) → slice_get (map f xs) k ≡ option_map f (slice_get xs k)
get_map_all f [] k = refl
get_map_all f (x ∷ xs) zero = refl
get_map_all f (x ∷ xs) (suc k) = get_map_all f xs k

pub length-map_all : {A B : Type 0} (f : A → B) (xs : List A) → length (map f xs) ≡ length xs
length-map_all f [] = refl
length-map_all f (x ∷ xs) = let rest = length-map_all f xs in omega (arith, rest)

still : (s : Option Status) → is_some s ≡ true → s ≡ or_else (if is_some s then None else Some Cancelled) s
still None over = absurd cc
still (Some s) over = refl

or_no : (b : Bool) → b ≡ (b || false)
or_no true = refl
or_no false = refl

never : (s : Option Status) → is_some s ≡ true → is_some (if is_some s then None else Some Cancelled) ≡ true → s ≡ None
never None over ends = refl
never (Some s) over ends = absurd cc

-- a place behind others is the last one
last_place : {A : Type 0} (xs : List A) (x y : A) (k : ℕ) → length xs ≤ k → slice_get (xs ++ x ∷ []) k ≡ Some y → (k ≡ length xs) × (x ≡ y)
last_place xs x y k from is =
    let within : k < length (xs ++ x ∷ []) = slice_get_within _ _ _ is in
    let here : k ≡ length xs = omega (arith, from, within, length-append xs (x ∷ [])) in
    (here, some_same x y (sym (get_last xs x) ∙ ap (slice_get (xs ++ x ∷ [])) (sym here) ∙ is))

module _ {H : Type 0} (records records' : Slab (CallRecord H)) (places : List CallPlace) (states : List CallState) (names : Names) (c key : ℕ)
    (stands : Stands records places states names) (is : slice_get places c ≡ Some (Kept key)) where
  at : IsRecordOf records states c key
  at = stands.has c key is

  number_is : (d : ℕ) → slice_get places d ≡ Some (Kept key) → d ≡ c
  number_is d there =
      let its = stands.has d key there in
      let same : its.it ≡ at.it = some_same its.it at.it (sym its.there ∙ at.there) in
      sym its.number ∙ ap (λ (q : CallRecord H). q.number) same ∙ at.number

  within : c < length places
  within = slice_get_within places c (Kept key) is

  other_key : (d k : ℕ) → d ≢ c → slice_get places d ≡ Some (Kept k) → k ≢ key
  other_key d k apart there same = apart (number_is d (there ∙ ap (λ j. Some (Kept j)) same))

  -- the call has left its record
  pub stands_left : (facts : CallFacts) → Updates records records' key None → ((q : CallRecord H) → get records key ≡ Some q → facts ≡ facts_of q.state)
      → ((r : CallState) → slice_get states c ≡ Some r → is_done_with r ≡ true) → Stands records' (slice_set places c (Left facts)) states names
  stands_left facts updates tells done = record {
    many = length-set places c (Left facts) ∙ stands.many;
    has = λ d k. has d k (same_or_not d c);
    owns = λ k q. owns k q (same_or_not k key);
    left = λ d l r. left d l r (same_or_not d c);
    found = stands.found;
  }
    where
      here : slice_get (slice_set places c (Left facts)) c ≡ Some (Left facts)
      here = get_set places c (Left facts) within

      has : (d k : ℕ) → (d ≡ c) ⊎ (d ≢ c) → slice_get (slice_set places c (Left facts)) d ≡ Some (Kept k) → IsRecordOf records' states d k
      has d k (inl same) there = kept_left k facts (slice_get (slice_set places c (Left facts)) c) here (ap (slice_get (slice_set places c (Left facts))) (sym same) ∙ there)
      has d k (inr apart) there =
          let was : slice_get places d ≡ Some (Kept k) = sym (get_other places c d (Left facts) apart) ∙ there in
          let its = stands.has d k was in
          record { it = its.it; there = updates.others k (other_key d k apart was) ∙ its.there; number = its.number; state = its.state }

      owns : (k : ℕ) (q : CallRecord H) → (k ≡ key) ⊎ (k ≢ key) → get records' k ≡ Some q → slice_get (slice_set places c (Left facts)) q.number ≡ Some (Kept k)
      owns k q (inl same) there = absurd (none_some (sym updates.changed ∙ ap (get records') (sym same) ∙ there))
        where
          none_some : None ≡ Some q → ⊥
          none_some h = absurd cc
      owns k q (inr apart) there =
          let was : slice_get places q.number ≡ Some (Kept k) = stands.owns k q (sym (updates.others k apart) ∙ there) in
          get_other places c q.number (Left facts) (λ same. apart (kept_one k key (slice_get places c) (ap (slice_get places) (sym same) ∙ was) is)) ∙ was

      left : (d : ℕ) (l : CallFacts) (r : CallState) → (d ≡ c) ⊎ (d ≢ c) → slice_get (slice_set places c (Left facts)) d ≡ Some (Left l) → slice_get states d ≡ Some r → IsLeft r l
      left d l r (inl same) gone now =
          let here_now : slice_get states c ≡ Some r = ap (slice_get states) (sym same) ∙ now in
          let it : at.it.state ≡ r = some_same at.it.state r (sym at.state ∙ here_now) in
          record {
            facts_are = left_one l facts (slice_get (slice_set places c (Left facts)) c) (ap (slice_get (slice_set places c (Left facts))) (sym same) ∙ gone) here ∙ tells at.it at.there ∙ ap facts_of it;
            over = done_is r (done r here_now);
          }
      left d l r (inr apart) gone now = stands.left d l r (sym (get_other places c d (Left facts) apart) ∙ gone) now

  -- and its handler with it
  pub handlers_left : (facts : CallFacts) → Updates records records' key None → map (handler_in records') (slice_set places c (Left facts)) ≡ slice_set (map (handler_in records) places) c None
  handlers_left facts updates = same_list _ _ many (λ k. each k (same_or_not k c))
    where
      many : length (map (handler_in records') (slice_set places c (Left facts))) ≡ length (slice_set (map (handler_in records) places) c None)
      many = length-map_all (handler_in records') (slice_set places c (Left facts)) ∙ length-set places c (Left facts) ∙ sym (length-map_all (handler_in records) places)
          ∙ sym (length-set (map (handler_in records) places) c None)

      others : (k : ℕ) → k ≢ c → (o : Option CallPlace) → slice_get places k ≡ o → option_map (handler_in records') o ≡ option_map (handler_in records) o
      others k apart None there = refl
      others k apart (Some (Left l)) there = refl
      others k apart (Some (Kept j)) there = ap (λ q. Some (handler_of q)) (updates.others j (other_key k j apart there))

      each : (k : ℕ) → (k ≡ c) ⊎ (k ≢ c) → slice_get (map (handler_in records') (slice_set places c (Left facts))) k ≡ slice_get (slice_set (map (handler_in records) places) c None) k
      each k (inl same) =
          get_map_all (handler_in records') (slice_set places c (Left facts)) k
          ∙ ap (λ j. option_map (handler_in records') (slice_get (slice_set places c (Left facts)) j)) same
          ∙ ap (option_map (handler_in records')) (get_set places c (Left facts) within)
          ∙ sym (get_set (map (handler_in records) places) c None (omega (arith, within, length-map_all (handler_in records) places)))
          ∙ ap (slice_get (slice_set (map (handler_in records) places) c None)) (sym same)
      each k (inr apart) =
          get_map_all (handler_in records') (slice_set places c (Left facts)) k
          ∙ ap (option_map (handler_in records')) (get_other places c k (Left facts) apart)
          ∙ others k apart (slice_get places k) refl
          ∙ sym (get_map_all (handler_in records) places k)
          ∙ sym (get_other (map (handler_in records) places) c k None apart)

  -- the call has another handler
  pub stands_swapped : (handler : Option H) → ChangesHandler key handler records records' → Stands records' places states names
  stands_swapped handler change = record {
    many = stands.many;
    has = λ d k. has d k (same_or_not k key);
    owns = λ k q. owns k q (same_or_not k key);
    left = stands.left;
    found = stands.found;
  }
    where
      updates : Updates records records' key (Some (record at.it { handler = handler }))
      updates = change.updates at.it at.there

      has : (d k : ℕ) → (k ≡ key) ⊎ (k ≢ key) → slice_get places d ≡ Some (Kept k) → IsRecordOf records' states d k
      has d k (inl same) there =
          let d_is : d ≡ c = number_is d (there ∙ ap (λ j. Some (Kept j)) same) in
          record { it = record at.it { handler = handler }; there = ap (get records') same ∙ updates.changed; number = at.number ∙ sym d_is; state = ap (slice_get states) d_is ∙ at.state }
      has d k (inr apart) there = let its = stands.has d k there in record { it = its.it; there = updates.others k apart ∙ its.there; number = its.number; state = its.state }

      owns : (k : ℕ) (q : CallRecord H) → (k ≡ key) ⊎ (k ≢ key) → get records' k ≡ Some q → slice_get places q.number ≡ Some (Kept k)
      owns k q (inl same) there =
          let it : record at.it { handler = handler } ≡ q = some_same (record at.it { handler = handler }) q (sym updates.changed ∙ ap (get records') (sym same) ∙ there) in
          ap (slice_get places) (ap (λ (p : CallRecord H). p.number) (sym it) ∙ at.number) ∙ is ∙ ap (λ j. Some (Kept j)) (sym same)
      owns k q (inr apart) there = stands.owns k q (sym (updates.others k apart) ∙ there)

  pub handlers_swapped : (handler : Option H) → ChangesHandler key handler records records' → map (handler_in records') places ≡ slice_set (map (handler_in records) places) c handler
  handlers_swapped handler change = same_list _ _ many (λ k. each k (same_or_not k c))
    where
      updates : Updates records records' key (Some (record at.it { handler = handler }))
      updates = change.updates at.it at.there

      many : length (map (handler_in records') places) ≡ length (slice_set (map (handler_in records) places) c handler)
      many = length-map_all (handler_in records') places ∙ sym (length-map_all (handler_in records) places) ∙ sym (length-set (map (handler_in records) places) c handler)

      others : (k : ℕ) → k ≢ c → (o : Option CallPlace) → slice_get places k ≡ o → option_map (handler_in records') o ≡ option_map (handler_in records) o
      others k apart None there = refl
      others k apart (Some (Left l)) there = refl
      others k apart (Some (Kept j)) there = ap (λ q. Some (handler_of q)) (updates.others j (other_key k j apart there))

      each : (k : ℕ) → (k ≡ c) ⊎ (k ≢ c) → slice_get (map (handler_in records') places) k ≡ slice_get (slice_set (map (handler_in records) places) c handler) k
      each k (inl same) =
          get_map_all (handler_in records') places k ∙ ap (λ j. option_map (handler_in records') (slice_get places j)) same ∙ ap (option_map (handler_in records')) is
          ∙ ap (λ q. Some (handler_of q)) updates.changed
          ∙ sym (get_set (map (handler_in records) places) c handler (omega (arith, within, length-map_all (handler_in records) places)))
          ∙ ap (slice_get (slice_set (map (handler_in records) places) c handler)) (sym same)
      each k (inr apart) =
          get_map_all (handler_in records') places k ∙ others k apart (slice_get places k) refl ∙ sym (get_map_all (handler_in records) places k)
          ∙ sym (get_other (map (handler_in records) places) c k handler apart)

  -- the handler that it had
  pub handler_was : slice_get (map (handler_in records) places) c ≡ Some (handler_of (get records key))
  handler_was = get_map_all (handler_in records) places c ∙ ap (option_map (handler_in records)) is

module _ {H : Type 0} (records : Slab (CallRecord H)) (places : List CallPlace) (states : List CallState) (names : Names) (c : ℕ) (facts : CallFacts) (r : CallState)
    (stands : Stands records places states names) (is : slice_get places c ≡ Some (Left facts)) (was : slice_get states c ≡ Some r) where
  there_is : c < length places
  there_is = slice_get_within places c (Left facts) is

  state_within : c < length states
  state_within = slice_get_within states c r was

  abbrev cut : CallState
  cut = record r { cancelled = true }

  abbrev gone : CallPlace
  gone = Left (record facts { cancelled = true })

  its : IsLeft r facts
  its = stands.left c facts r is was

  -- a call that has left is cancelled
  pub cut_turns : (at : ℕ) → Turns at (cancelling r.status) r cut
  cut_turns at = record {
    is = record {
      name = refl;
      method = refl;
      status = still r.status its.over.over;
      cancelled = refl;
      completed = refl;
      done = or_no r.done;
      run = refl;
      took_end = refl;
      waiting = its.over.empty;
      once = never r.status its.over.over;
      some = λ starts. absurd (no_start starts);
    };
    capacity = omega arith;
  }
    where
      no_start : false ≡ true → ⊥
      no_start h = absurd cc

  pub stands_cut : (states' : List CallState) → states' ≡ slice_set states c cut → Stands records (slice_set places c gone) states' names
  stands_cut states' shown = record {
    many = length-set places c gone ∙ stands.many ∙ sym changes.many;
    has = λ d k. has d k (same_or_not d c);
    owns = owns;
    left = λ d l x. left d l x (same_or_not d c);
    found = λ name. stands.found name ∙ live name (newest_of (numbers_of states) name) ∙ ap (λ m. live_at states' (newest_of m name)) (sym numbers);
  }
    where
      changes : ChangesAt c (λ x y. y ≡ record x { cancelled = true }) states states'
      changes = subst (λ xs. ChangesAt c (λ x y. y ≡ record x { cancelled = true }) states xs) (sym shown)
          (set_changes (λ x y. y ≡ record x { cancelled = true }) states c cut state_within (λ x now. ap (λ (q : CallState). record q { cancelled = true }) (some_same r x (sym was ∙ now))))

      here : slice_get states' c ≡ Some cut
      here = ap (λ xs. slice_get xs c) shown ∙ get_set states c cut state_within

      placed : slice_get (slice_set places c gone) c ≡ Some gone
      placed = get_set places c gone there_is

      named : (k : ℕ) (x y : CallState) → slice_get states k ≡ Some x → slice_get states' k ≡ Some y → (k ≡ c) ⊎ (k ≢ c) → y.name ≡ x.name
      named k x y before now (inl same) = ap (λ (q : CallState). q.name) (changes.here x y (ap (slice_get states) (sym same) ∙ before) (ap (slice_get states') (sym same) ∙ now))
      named k x y before now (inr apart) = ap (λ (q : CallState). q.name) (some_same y x (sym now ∙ changes.others k apart ∙ before))

      numbers : numbers_of states' ≡ numbers_of states
      numbers = numbers_kept states states' changes.many (λ k x y before now. named k x y before now (same_or_not k c))

      has : (d k : ℕ) → (d ≡ c) ⊎ (d ≢ c) → slice_get (slice_set places c gone) d ≡ Some (Kept k) → IsRecordOf records states' d k
      has d k (inl same) there = kept_left k (record facts { cancelled = true }) (slice_get (slice_set places c gone) c) placed (ap (slice_get (slice_set places c gone)) (sym same) ∙ there)
      has d k (inr apart) there =
          let one = stands.has d k (sym (get_other places c d gone apart) ∙ there) in
          record { it = one.it; there = one.there; number = one.number; state = changes.others d apart ∙ one.state }

      owns : (k : ℕ) (q : CallRecord H) → get records k ≡ Some q → slice_get (slice_set places c gone) q.number ≡ Some (Kept k)
      owns k q there =
          let one = stands.owns k q there in
          get_other places c q.number gone (λ same. kept_left k facts (slice_get places c) is (ap (slice_get places) (sym same) ∙ one)) ∙ one

      left : (d : ℕ) (l : CallFacts) (x : CallState) → (d ≡ c) ⊎ (d ≢ c) → slice_get (slice_set places c gone) d ≡ Some (Left l) → slice_get states' d ≡ Some x → IsLeft x l
      left d l x (inl same) there now =
          let it : cut ≡ x = some_same cut x (sym here ∙ ap (slice_get states') (sym same) ∙ now) in
          subst (λ y. IsLeft y l) it (record {
            facts_are = left_one l (record facts { cancelled = true }) (slice_get (slice_set places c gone) c) (ap (slice_get (slice_set places c gone)) (sym same) ∙ there) placed
                ∙ ap (λ (f : CallFacts). record f { cancelled = true }) its.facts_are;
            over = record { idle = its.over.idle; empty = its.over.empty; over = its.over.over };
          })
      left d l x (inr apart) there now = stands.left d l x (sym (get_other places c d gone apart) ∙ there) (sym (changes.others d apart) ∙ now)

      at : (d : ℕ) → (d ≡ c) ⊎ (d ≢ c) → live_if d (slice_get states d) ≡ live_if d (slice_get states' d)
      at d (inl same) = ap (λ k. live_if d (slice_get states k)) same ∙ ap (live_if d) was ∙ ap (live_if d) (sym here) ∙ ap (λ k. live_if d (slice_get states' k)) (sym same)
      at d (inr apart) = ap (live_if d) (sym (changes.others d apart))

      live : (name : CallName) (o : Option ℕ) → live_at states o ≡ live_at states' o
      live name None = refl
      live name (Some d) = at d (same_or_not d c)

  pub handlers_cut : map (handler_in records) (slice_set places c gone) ≡ map (handler_in records) places
  handlers_cut = same_list _ _ many (λ k. each k (same_or_not k c))
    where
      many : length (map (handler_in records) (slice_set places c gone)) ≡ length (map (handler_in records) places)
      many = length-map_all (handler_in records) (slice_set places c gone) ∙ length-set places c gone ∙ sym (length-map_all (handler_in records) places)

      each : (k : ℕ) → (k ≡ c) ⊎ (k ≢ c) → slice_get (map (handler_in records) (slice_set places c gone)) k ≡ slice_get (map (handler_in records) places) k
      each k (inl same) =
          get_map_all (handler_in records) (slice_set places c gone) k ∙ ap (λ j. option_map (handler_in records) (slice_get (slice_set places c gone) j)) same
          ∙ ap (option_map (handler_in records)) (get_set places c gone there_is) ∙ ap (option_map (handler_in records)) (sym is)
          ∙ ap (λ j. option_map (handler_in records) (slice_get places j)) (sym same) ∙ sym (get_map_all (handler_in records) places k)
      each k (inr apart) =
          get_map_all (handler_in records) (slice_set places c gone) k ∙ ap (option_map (handler_in records)) (get_other places c k gone apart) ∙ sym (get_map_all (handler_in records) places k)

module _ {H : Type 0} (records records' : Slab (CallRecord H)) (places : List CallPlace) (states : List CallState) (names names' : Names) (key n : ℕ) (x : CallState) (handler : H)
    (stands : Stands records places states names) (next : n ≡ length states) (live : x.status ≡ None) (vacant : get records key ≡ None)
    (updates : Updates records records' key (Some (record { number = n; state = x; handler = Some handler }))) (named : IsSetTo x.name (Some n) names names') where
  placed_at : n ≡ length places
  placed_at = next ∙ sym stands.many

  not_this : (k d : ℕ) → slice_get places d ≡ Some (Kept k) → k ≢ key
  not_this k d there same = absurd (none_some (sym vacant ∙ ap (get records) (sym same) ∙ (stands.has d k there).there))
    where
      none_some : {A : Type 0} {a : A} → None ≡ Some a → ⊥
      none_some h = absurd cc

  newest_name : (name : CallName) (b : Bool) → same_key x.name name ≡ b → call_under names' name ≡ live_at (states ++ x ∷ []) (if b then Some (length states) else newest_of (numbers_of states) name)
  newest_name name true same =
      named name ∙ ap (λ b. if b then Some n else call_under names name) same ∙ ap (λ k. Some k) next
      ∙ ap (λ (s : Option _). if is_none s then Some (length states) else None) (sym live)
      ∙ ap (live_if (length states)) (sym (get_last states x))
  newest_name name false same =
      named name ∙ ap (λ b. if b then Some n else call_under names name) same ∙ stands.found name ∙ older (newest_of (numbers_of states) name) refl
    where
      older : (o : Option ℕ) → newest_of (numbers_of states) name ≡ o → live_at states o ≡ live_at (states ++ x ∷ []) o
      older None is = refl
      older (Some d) is = let its = newest_at states name d is in ap (live_if d) (sym (get_front states (x ∷ []) d (slice_get_within states d its.it its.there)))

  -- one more call is kept
  pub stands_opened : Stands records' (places ++ Kept key ∷ []) (states ++ x ∷ []) names'
  stands_opened = record {
    many = omega (arith, stands.many, length-append places (Kept key ∷ []), length-append states (x ∷ []));
    has = λ d k. has d k (below_or_not d (length places));
    owns = λ k q. owns k q (same_or_not k key);
    left = λ d l r. left d l r (below_or_not d (length places));
    found = λ name. newest_name name (same_key x.name name) refl
        ∙ ap (live_at (states ++ x ∷ [])) (sym (ap (λ m. newest_of m name) (numbers_more states x) ∙ newest_more x.name (length states) (numbers_of states) name));
  }
    where
      has : (d k : ℕ) → (d < length places) ⊎ (length places ≤ d) → slice_get (places ++ Kept key ∷ []) d ≡ Some (Kept k) → IsRecordOf records' (states ++ x ∷ []) d k
      has d k (inl below) there =
          let was : slice_get places d ≡ Some (Kept k) = sym (get_front places (Kept key ∷ []) d below) ∙ there in
          let one = stands.has d k was in
          record { it = one.it; there = updates.others k (not_this k d was) ∙ one.there; number = one.number; state = get_front states (x ∷ []) d (omega (arith, below, stands.many)) ∙ one.state }
      has d k (inr past) there =
          let last = last_place places (Kept key) (Kept k) d past there in
          let same : key ≡ k = kept_one key k (Some (Kept key)) refl (ap (λ p. Some p) last.1) in
          record {
            it = record { number = n; state = x; handler = Some handler };
            there = ap (get records') (sym same) ∙ updates.changed;
            number = placed_at ∙ sym last.0;
            state = ap (slice_get (states ++ x ∷ [])) (last.0 ∙ stands.many) ∙ get_last states x;
          }

      owns : (k : ℕ) (q : CallRecord H) → (k ≡ key) ⊎ (k ≢ key) → get records' k ≡ Some q → slice_get (places ++ Kept key ∷ []) q.number ≡ Some (Kept k)
      owns k q (inl same) there =
          let it : record { number = n; state = x; handler = Some handler } ≡ q = some_same _ q (sym updates.changed ∙ ap (get records') (sym same) ∙ there) in
          ap (slice_get (places ++ Kept key ∷ [])) (ap (λ (p : CallRecord H). p.number) (sym it) ∙ placed_at) ∙ get_last places (Kept key) ∙ ap (λ j. Some (Kept j)) (sym same)
      owns k q (inr apart) there =
          let one = stands.owns k q (sym (updates.others k apart) ∙ there) in
          get_front places (Kept key ∷ []) q.number (slice_get_within places q.number (Kept k) one) ∙ one

      left : (d : ℕ) (l : CallFacts) (r : CallState) → (d < length places) ⊎ (length places ≤ d) → slice_get (places ++ Kept key ∷ []) d ≡ Some (Left l) → slice_get (states ++ x ∷ []) d ≡ Some r → IsLeft r l
      left d l r (inl below) there now =
          stands.left d l r (sym (get_front places (Kept key ∷ []) d below) ∙ there) (sym (get_front states (x ∷ []) d (omega (arith, below, stands.many))) ∙ now)
      left d l r (inr past) there now =
          let last = last_place places (Kept key) (Left l) d past there in
          kept_left key l (Some (Kept key)) (ap (λ p. Some p) last.1) refl

  pub handlers_opened : map (handler_in records') (places ++ Kept key ∷ []) ≡ map (handler_in records) places ++ Some handler ∷ []
  handlers_opened = go places (λ d p there. same p (λ k is. not_this k d (there ∙ ap (λ q. Some q) is)))
    where
      same : (p : CallPlace) → ((k : ℕ) → p ≡ Kept k → k ≢ key) → handler_in records' p ≡ handler_in records p
      same (Kept k) apart = ap handler_of (updates.others k (apart k refl))
      same (Left l) apart = refl

      go : (ps : List CallPlace) → ((d : ℕ) (p : CallPlace) → slice_get ps d ≡ Some p → handler_in records' p ≡ handler_in records p)
          → map (handler_in records') (ps ++ Kept key ∷ []) ≡ map (handler_in records) ps ++ Some handler ∷ []
      go [] each = ap (λ q. handler_of q ∷ []) updates.changed
      go (p ∷ ps) each = ap (λ o. o ∷ map (handler_in records') (ps ++ Kept key ∷ [])) (each 0 p refl) ∙ ap (λ os. handler_in records p ∷ os) (go ps (λ d. each (suc d)))

-- a call that isn't kept is done with
module _ {H : Type 0} where
  pub left_done : (records : Slab (CallRecord H)) (places : List CallPlace) (states : List CallState) (names : Names) (c : ℕ) (r : CallState) → Stands records places states names
      → slice_get states c ≡ Some r → is_kept_at (slice_get places c) ≡ false → IsDoneWith r
  left_done records places states names c r stands there gone = at (slice_get places c) refl gone
    where
      no : true ≡ false → ⊥
      no h = absurd cc

      at : (o : Option CallPlace) → slice_get places c ≡ o → is_kept_at o ≡ false → IsDoneWith r
      at None none out = absurd (omega (arith, get_none places c none, stands.many, slice_get_within states c r there))
      at (Some (Kept k)) is out = absurd (no out)
      at (Some (Left facts)) is out = (stands.left c facts r is there).over

  pub left_empty : (records : Slab (CallRecord H)) (places : List CallPlace) (c : ℕ) (slot : Option H) → slice_get (map (handler_in records) places) c ≡ Some slot
      → is_kept_at (slice_get places c) ≡ false → slot ≡ None
  left_empty records places c slot there gone = at (slice_get places c) refl gone
    where
      no : true ≡ false → ⊥
      no h = absurd cc

      at : (o : Option CallPlace) → slice_get places c ≡ o → is_kept_at o ≡ false → slot ≡ None
      at None none out = absurd (none_some (sym (get_map_all (handler_in records) places c ∙ ap (option_map (handler_in records)) none) ∙ there))
        where
          none_some : {A : Type 0} {a : A} → None ≡ Some a → ⊥
          none_some h = absurd cc
      at (Some (Kept k)) is out = absurd (no out)
      at (Some (Left facts)) is out = sym (some_same None slot (sym (get_map_all (handler_in records) places c ∙ ap (option_map (handler_in records)) is) ∙ there))

  pub state_kept : (records : Slab (CallRecord H)) (places : List CallPlace) (states : List CallState) (names : Names) (c key : ℕ) (r : CallState) → Stands records places states names
      → slice_get places c ≡ Some (Kept key) → state_in (get records key) ≡ Some r → slice_get states c ≡ Some r
  state_kept records places states names c key r stands is reads =
      let at = stands.has c key is in
      at.state ∙ ap state_in (sym at.there) ∙ reads

  pub facts_kept : (records : Slab (CallRecord H)) (places : List CallPlace) (states : List CallState) (names : Names) (c key : ℕ) (r : CallState) (facts : CallFacts) → Stands records places states names
      → slice_get places c ≡ Some (Kept key) → state_in (get records key) ≡ Some r → facts ≡ facts_of r → Some facts ≡ option_map facts_of (slice_get states c)
  facts_kept records places states names c key r facts stands is reads tells =
      ap (λ f. Some f) tells ∙ ap (option_map facts_of) (sym (state_kept records places states names c key r stands is reads))

  pub facts_left : (records : Slab (CallRecord H)) (places : List CallPlace) (states : List CallState) (names : Names) (c : ℕ) (facts : CallFacts) → Stands records places states names
      → slice_get places c ≡ Some (Left facts) → Some facts ≡ option_map facts_of (slice_get states c)
  facts_left records places states names c facts stands is =
      let row = get_some states c (omega (arith, slice_get_within places c (Left facts) is, stands.many)) in
      ap (λ f. Some f) (stands.left c facts row.0 is row.1).facts_are ∙ ap (option_map facts_of) (sym row.1)

  pub facts_beyond : (records : Slab (CallRecord H)) (places : List CallPlace) (states : List CallState) (names : Names) (c : ℕ) → Stands records places states names
      → slice_get places c ≡ None → None ≡ option_map facts_of (slice_get states c)
  facts_beyond records places states names c stands is = at (slice_get states c) refl
    where
      at : (o : Option CallState) → slice_get states c ≡ o → None ≡ option_map facts_of (slice_get states c)
      at None none = ap (option_map facts_of) (sym none)
      at (Some r) there = absurd (omega (arith, get_none places c is, stands.many, slice_get_within states c r there))

  -- a call that has left is cancelled
  pub record CutLeft (records : Slab (CallRecord H)) (places : List CallPlace) (states : List CallState) (names : Names) (c : ℕ) (facts : CallFacts) (x : CallState) : Type 0 where
    pub stands : Stands records (slice_set places c (Left (record facts { cancelled = true }))) (slice_set states c x) names
    pub change : (at : ℕ) → ChangesAt c (λ r y. Turns at (cancelling r.status) r y) states (slice_set states c x)
    pub newest : numbers_of (slice_set states c x) ≡ numbers_of states
    pub handlers : map (handler_in records) (slice_set places c (Left (record facts { cancelled = true }))) ≡ map (handler_in records) places
    pub kept : (k : ℕ) → is_kept_at (slice_get (slice_set places c (Left (record facts { cancelled = true }))) k) ≡ is_kept_at (slice_get places k)

  pub cut_left : (records : Slab (CallRecord H)) (places : List CallPlace) (states : List CallState) (names : Names) (c : ℕ) (facts : CallFacts) (r x : CallState) → Stands records places states names
      → slice_get places c ≡ Some (Left facts) → r ≡ slice_index_or states c r → x ≡ record r { cancelled = true } → CutLeft records places states names c facts x
  cut_left records places states names c facts r x stands is reads cuts = record {
    stands = stands_cut records places states names c facts r stands is was (slice_set states c x) (ap (slice_set states c) cuts);
    change = λ at. set_changes (λ p y. Turns at (cancelling p.status) p y) states c x within (λ p there.
        subst (λ q. Turns at (cancelling q.status) q x) (some_same r p (sym was ∙ there))
        (subst (λ y. Turns at (cancelling r.status) r y) (sym cuts) (cut_turns records places states names c facts r stands is was at)));
    newest = numbers_kept states (slice_set states c x) (length-set states c x) (λ k p y before now. named k p y before now (same_or_not k c));
    handlers = handlers_cut records places states names c facts r stands is was;
    kept = λ k. kept k (same_or_not k c);
  }
    where
      within : c < length states
      within = omega (arith, slice_get_within places c (Left facts) is, stands.many)

      was : slice_get states c ≡ Some r
      was = get_read states c r within reads

      named : (k : ℕ) (p y : CallState) → slice_get states k ≡ Some p → slice_get (slice_set states c x) k ≡ Some y → (k ≡ c) ⊎ (k ≢ c) → y.name ≡ p.name
      named k p y before now (inl same) =
          ap (λ (q : CallState). q.name) (some_same y x (sym now ∙ ap (slice_get (slice_set states c x)) same ∙ get_set states c x within) ∙ cuts)
          ∙ ap (λ (q : CallState). q.name) (some_same r p (sym was ∙ ap (slice_get states) (sym same) ∙ before))
      named k p y before now (inr apart) = ap (λ (q : CallState). q.name) (some_same y p (sym now ∙ get_other states c k x apart ∙ before))

      kept : (k : ℕ) → (k ≡ c) ⊎ (k ≢ c) → is_kept_at (slice_get (slice_set places c (Left (record facts { cancelled = true }))) k) ≡ is_kept_at (slice_get places k)
      kept k (inl same) =
          ap (λ j. is_kept_at (slice_get (slice_set places c (Left (record facts { cancelled = true }))) j)) same
          ∙ ap is_kept_at (get_set places c (Left (record facts { cancelled = true })) (slice_get_within places c (Left facts) is))
          ∙ ap is_kept_at (sym is) ∙ ap (λ j. is_kept_at (slice_get places j)) (sym same)
      kept k (inr apart) = ap is_kept_at (get_other places c k (Left (record facts { cancelled = true })) apart)

-- the marks of a call that is done with
pub left_marks : (r : CallState) (b : Bool) → IsDoneWith r → b ≡ r.cancelled → record no_marks { uncancelled = not b } ≡ marks_of r
left_marks r b done same = rw (same, done.idle, done.empty) refl

module _ {H : Type 0} where
  -- the records tell of the same calls
  pub stands_roomier : (records mid : Slab (CallRecord H)) (places placesM : List CallPlace) (states statesM : List CallState) (names namesM : Names) → Stands records places states names
      → ((k : ℕ) → get mid k ≡ get records k) → placesM ≡ places → statesM ≡ states → AreSameNames names namesM → Stands mid placesM statesM namesM
  stands_roomier records mid places placesM states statesM names namesM stands same places_are states_are named =
      subst (λ ps. Stands mid ps statesM namesM) (sym places_are) (subst (λ ss. Stands mid places ss namesM) (sym states_are) (record {
        many = stands.many;
        has = λ c key is. let at = stands.has c key is in record { it = at.it; there = same key ∙ at.there; number = at.number; state = at.state };
        owns = λ key q there. stands.owns key q (sym (same key) ∙ there);
        left = stands.left;
        found = λ name. named name ∙ stands.found name;
      }))

  pub record OpenedSo (records records' : Slab (CallRecord H)) (places places' : List CallPlace) (states states' : List CallState) (names' : Names) (key : ℕ) (x : CallState) (h : H) : Type 0 where
    pub stands : Stands records' places' states' names'
    pub calls : states' ≡ states ++ x ∷ []
    pub newest : IsNamed x.name (length states) (numbers_of states) (numbers_of states')
    pub handlers : map (handler_in records') places' ≡ map (handler_in records) places ++ Some h ∷ []
    pub placed : places' ≡ places ++ Kept key ∷ []

  pub opened_so : (records mid records' : Slab (CallRecord H)) (places placesM places' : List CallPlace) (states statesM states' : List CallState) (names names' : Names) (key n : ℕ) (x y : CallState) (h : H)
      → Stands records places states names → ((k : ℕ) → get mid k ≡ get records k) → placesM ≡ places → statesM ≡ states → n ≡ length placesM → x.status ≡ None → get mid key ≡ None
      → Updates mid records' key (Some (record { number = n; state = x; handler = Some h })) → y ≡ x → states' ≡ statesM ++ y ∷ [] → places' ≡ placesM ++ Kept key ∷ []
      → IsSetTo x.name (Some n) names names' → OpenedSo records records' places places' states states' names' key x h
  opened_so records mid records' places placesM places' states statesM states' names names' key n x y h stands same places_are states_are number live vacant updates shown pushed placed named =
      let stood : Stands mid places states names = stands_roomier records mid places places states states names names stands same refl refl (λ name. refl) in
      let next : n ≡ length states = number ∙ ap length places_are ∙ stands.many in
      let calls : states' ≡ states ++ x ∷ [] = pushed ∙ ap (λ ss. ss ++ y ∷ []) states_are ∙ ap (λ q. states ++ q ∷ []) shown in
      let there : places' ≡ places ++ Kept key ∷ [] = placed ∙ ap (λ ps. ps ++ Kept key ∷ []) places_are in
      record {
        stands = subst (λ ps. Stands records' ps states' names') (sym there) (subst (λ ss. Stands records' (places ++ Kept key ∷ []) ss names') (sym calls)
            (stands_opened mid records' places states names names' key n x h stood next live vacant updates named));
        calls = calls;
        newest = subst (λ ss. IsNamed x.name (length states) (numbers_of states) (numbers_of ss)) (sym calls) (newest_opened states x);
        handlers = ap (map (handler_in records')) there ∙ handlers_opened mid records' places states names names' key n x h stood next live vacant updates named
            ∙ ap (λ os. os ++ Some h ∷ []) (map_same (handler_in mid) (handler_in records) places each);
        placed = there;
      }
    where
      each : (p : CallPlace) → handler_in mid p ≡ handler_in records p
      each (Kept k) = ap handler_of (same k)
      each (Left l) = refl
