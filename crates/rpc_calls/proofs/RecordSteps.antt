-- The records of a table over a change of one call.
use Rattle.std.proofs.Common.{◌≡◌, ◌≢◌, ◌⊎◌, inl, inr, ℕ, zero, suc, ◌<◌, Bool, true, false, List, [], ◌∷◌, length, map, slice_get, slice_set, Option, Some, None, is_some, is_none, IsSome, IfSome, if◌then◌else◌, refl, ap, sym, ◌∙◌, subst}
use Rattle.slab.specs.Slab.{ContainsKey, Slab, Updates, get, with_value}
use Rattle.slab.proofs.SlabLemmas.{Updates-with_value}
use Rattle.std.proofs.lemmas.Option.{slice_get_within}
use Rattle.rpc_packet.specs.declared.call_name.CallName.{CallName}
use Rattle.rpc_ids.specs.declared.status.Status.{Status}
use Rattle.rpc_journal.specs.declared.table.call_state.CallState.{CallState}
use Rattle.rpc_journal.specs.table.Newest.{newest_of}
use Rattle.rpc_journal.specs.table.Touch.{Touch}
use Rattle.rpc_journal.specs.table.Turns.{Turns}
use Rattle.rpc_journal.specs.Kinds.{or_else}
use Rattle.rpc_journal.proofs.PlaceLemmas.{some_same}
use Rattle.rpc_journal.proofs.table.StepLemmas.{get_set, same_or_not}
use Rattle.rpc_calls.specs.declared.call_place.CallFacts.{CallFacts}
use Rattle.rpc_calls.specs.declared.call_place.CallPlace.{CallPlace}
use Rattle.rpc_calls.specs.declared.call_place.CallPlace.TheVariants.{Kept, Left}
use Rattle.rpc_calls.specs.declared.call_record.CallRecord.{CallRecord}
use Rattle.rpc_calls.specs.Names.{Names, call_under, same_key}
use Rattle.rpc_calls.specs.Numbers.{live_at, live_if, live_in, numbers_of}
use Rattle.rpc_calls.specs.Places.{ChangesAt}
use Rattle.rpc_calls.specs.Records.{CanTurnUnder, ChangesRecord, TakesOldest, handler_of, state_in}
use Rattle.rpc_calls.specs.StateChanges.{CanTurn}
use Rattle.rpc_calls.specs.declared.state_change.StateChange.{StateChange}
use Rattle.rpc_journal.specs.declared.waiting.Waiting.{Waiting}
use Rattle.rpc_calls.specs.Roll.{IsLeft, IsRecordOf, Stands, handler_in}
use Rattle.rpc_calls.specs.Shown.{NamesAfter, NamesLeft, ShowsAt}
use Rattle.rpc_calls.specs.Widened.{IsWider}
use Rattle.rpc_calls.proofs.NumberLemmas.{newest_at, numbers_kept, one_name, own_name}
use Rattle.rpc_calls.proofs.PlaceChanges.{set_changes}

pub kept_one : (k key : ℕ) (o : Option CallPlace) → o ≡ Some (Kept k) → o ≡ Some (Kept key) → k ≡ key
kept_one k key None is also = absurd cc
kept_one k key (Some (Kept j)) is also = let a : j ≡ k = cc in let b : j ≡ key = cc in sym a ∙ b
kept_one k key (Some (Left facts)) is also = absurd cc

pub kept_left : {A : Type 0} (key : ℕ) (facts : CallFacts) (o : Option CallPlace) → o ≡ Some (Left facts) → o ≡ Some (Kept key) → A
kept_left key facts None is also = absurd cc
kept_left key facts (Some (Kept k)) is also = absurd cc
kept_left key facts (Some (Left l)) is also = absurd cc

-- a change of a call that keeps its name, and takes no end away
pub record KeepsName (r x : CallState) : Type 0 where
  pub name : x.name ≡ r.name
  pub unended : is_none x.status ≡ true → is_none r.status ≡ true

none_before : (e s : Option Status) → is_none (or_else e s) ≡ true → is_none s ≡ true
none_before None s is = is
none_before (Some e) s is = absurd cc

pub turns_keep : (at : ℕ) (t : Touch) (r x : CallState) → Turns at t r x → KeepsName r x
turns_keep at t r x turns = record {
  name = turns.is.name;
  unended = λ unended. none_before t.ends r.status (ap is_none (sym turns.is.status) ∙ unended);
}

pub wider_keeps : (r x : CallState) → IsWider r x → KeepsName r x
wider_keeps r x wider = record { name = wider.same.name; unended = λ unended. ap is_none (sym wider.same.status) ∙ unended }

pub some_of : {A : Type 0} (o : Option A) → is_none o ≡ false → is_some o ≡ true
some_of None is = absurd cc
some_of (Some a) is = refl

pub not_some : {A : Type 0} (o : Option A) → is_none o ≡ true → is_some o ≡ true → ⊥
not_some None is also = absurd cc
not_some (Some a) is also = absurd cc

live_one : (d c : ℕ) (o : Option CallState) → live_if d o ≡ Some c → d ≡ c
live_one d c None is = absurd cc
live_one d c (Some r) is = at (is_none r.status) is
  where
    at : (b : Bool) → (if b then Some d else None) ≡ Some c → d ≡ c
    at true is = some_same d c is
    at false is = absurd cc

this_or_not : (c : ℕ) (o : Option ℕ) → (o ≡ Some c) ⊎ (o ≡ Some c → ⊥)
this_or_not c None = inr (λ is. absurd cc)
this_or_not c (Some d) = by (same_or_not d c)
  where
    by : (d ≡ c) ⊎ (d ≢ c) → (Some d ≡ Some c) ⊎ (Some d ≡ Some c → ⊥)
    by (inl same) = inl (ap (λ k. Some k) same)
    by (inr apart) = inr (λ is. apart (some_same d c is))

-- call c was under its own name, and no call is any more
record IsGone (c : ℕ) (x : CallState) (names names' : Names) (name : CallName) : Type 0 where
  pub under : call_under names x.name ≡ Some c
  pub none : call_under names' name ≡ None
  pub named : x.name ≡ name

names_turn : (c : ℕ) (x : CallState) (names names' : Names) (name : CallName) → NamesLeft c x names names'
    → (call_under names' name ≡ call_under names name) ⊎ IsGone c x names names' name
names_turn c x names names' name turn = at (is_none x.status) refl
  where
    set : call_under names x.name ≡ Some c → (b : Bool) → same_key x.name name ≡ b → call_under names' name ≡ (if b then None else call_under names name)
        → (call_under names' name ≡ call_under names name) ⊎ IsGone c x names names' name
    set under true same is = inr (record { under = under; none = is; named = one_name x.name name same })
    set under false same is = inl is

    ended : is_some x.status ≡ true → (call_under names x.name ≡ Some c) ⊎ (call_under names x.name ≡ Some c → ⊥)
        → (call_under names' name ≡ call_under names name) ⊎ IsGone c x names names' name
    ended over (inl under) = set under (same_key x.name name) refl (turn.ended over under name)
    ended over (inr apart) = inl (turn.newer apart name)

    at : (b : Bool) → is_none x.status ≡ b → (call_under names' name ≡ call_under names name) ⊎ IsGone c x names names' name
    at true is = inl (turn.live (not_some x.status is) name)
    at false is = ended (some_of x.status is) (this_or_not c (call_under names x.name))

found_after : (states states' : List CallState) (c : ℕ) (r x : CallState) (names names' : Names) (name : CallName)
    → slice_get states c ≡ Some r → slice_get states' c ≡ Some x → ((k : ℕ) → k ≢ c → slice_get states' k ≡ slice_get states k)
    → numbers_of states' ≡ numbers_of states → KeepsName r x → ((other : CallName) → call_under names other ≡ live_in states other)
    → NamesLeft c x names names' → call_under names' name ≡ live_in states' name
found_after states states' c r x names names' name was is others numbers keeps found turn =
    by (newest_of (numbers_of states) name) refl ∙ ap (λ m. live_at states' (newest_of m name)) (sym numbers)
  where
    -- what was under the name
    before : (o : Option ℕ) → newest_of (numbers_of states) name ≡ o → call_under names name ≡ live_at states o
    before o newest = found name ∙ ap (live_at states) newest

    none : newest_of (numbers_of states) name ≡ None → (call_under names' name ≡ call_under names name) ⊎ IsGone c x names names' name → call_under names' name ≡ None
    none newest (inl same) = same ∙ before None newest
    none newest (inr gone) = gone.none

    other : (d : ℕ) → d ≢ c → newest_of (numbers_of states) name ≡ Some d → (call_under names' name ≡ call_under names name) ⊎ IsGone c x names names' name
        → call_under names' name ≡ live_if d (slice_get states' d)
    other d apart newest (inl same) = same ∙ before (Some d) newest ∙ ap (live_if d) (sym (others d apart))
    other d apart newest (inr gone) =
        absurd (apart (live_one d c (slice_get states d) (sym (before (Some d) newest) ∙ subst (λ n. call_under names n ≡ Some c) gone.named gone.under)))

    -- the call itself
    own : (b e : Bool) → is_none x.status ≡ b → is_none r.status ≡ e → x.name ≡ name → call_under names name ≡ (if e then Some c else None) → call_under names' name ≡ (if b then Some c else None)
    own true true live was_live named under = turn.live (not_some x.status live) name ∙ under
    own true false live was_over named under = absurd (absurd_bool (sym (keeps.unended live) ∙ was_over))
      where
        absurd_bool : true ≡ false → ⊥
        absurd_bool h = absurd cc
    own false true over was_live named under =
        turn.ended (some_of x.status over) (subst (λ n. call_under names n ≡ Some c) (sym named) under) name
        ∙ ap (λ b. if b then None else call_under names name) (subst (λ n. same_key x.name n ≡ true) named (own_name x.name))
    own false false over was_over named under =
        turn.newer (λ it. absurd (none_some (sym under ∙ subst (λ n. call_under names n ≡ Some c) named it))) name ∙ under
      where
        none_some : None ≡ Some c → ⊥
        none_some h = absurd cc

    at : (d : ℕ) → (d ≡ c) ⊎ (d ≢ c) → newest_of (numbers_of states) name ≡ Some d → call_under names' name ≡ live_if d (slice_get states' d)
    at d (inr apart) newest = other d apart newest (names_turn c x names names' name turn)
    at d (inl same) newest =
        let here : newest_of (numbers_of states) name ≡ Some c = newest ∙ ap (λ k. Some k) same in
        let its = newest_at states name c here in
        let it : its.it ≡ r = some_same its.it r (sym its.there ∙ was) in
        let named : x.name ≡ name = keeps.name ∙ ap (λ (q : CallState). q.name) (sym it) ∙ one_name its.it.name name its.same in
        own (is_none x.status) (is_none r.status) refl refl named (before (Some c) here ∙ ap (live_if c) was)
        ∙ ap (live_if c) (sym is) ∙ ap (λ k. live_if k (slice_get states' k)) (sym same)

    by : (o : Option ℕ) → newest_of (numbers_of states) name ≡ o → call_under names' name ≡ live_at states' o
    by None newest = none newest (names_turn c x names names' name turn)
    by (Some d) newest = at d (same_or_not d c) newest

module _ {H : Type 0} where
  -- a call that is kept has its record
  pub key_there : (records : Slab (CallRecord H)) (places : List CallPlace) (states : List CallState) (names : Names) (c key : ℕ) → Stands records places states names
      → slice_get places c ≡ Some (Kept key) → ContainsKey records key
  key_there records places states names c key stands is = subst IsSome (sym (stands.has c key is).there) refl

  pub record Changed (R : CallState → CallState → Type 0) (c : ℕ) (records : Slab (CallRecord H)) (places : List CallPlace) (states states' : List CallState) (names : Names) : Type 0 where
    pub stands : Stands records places states' names
    pub change : ChangesAt c R states states'
    pub newest : numbers_of states' ≡ numbers_of states

  -- the state in the record of call c has changed, and is shown, and its name is no live call's where it has an end
  pub stands_changed : (R : CallState → CallState → Type 0) (records records' : Slab (CallRecord H)) (places : List CallPlace) (states states' : List CallState) (names names' : Names) (c key : ℕ)
      → Stands records places states names → slice_get places c ≡ Some (Kept key) → ChangesRecord key R records records' → ((r x : CallState) → R r x → KeepsName r x)
      → ShowsAt c (state_in (get records' key)) states states' → NamesAfter c (state_in (get records' key)) names names'
      → Changed R c records' places states states' names'
  stands_changed R records records' places states states' names names' c key stands is change keeps shows turns =
      record { stands = stands'; change = changes; newest = numbers }
    where
      at : IsRecordOf records states c key
      at = stands.has c key is

      x : CallState
      x = change.state at.it at.there

      updates : Updates records records' key (Some (record at.it { state = x }))
      updates = change.updates at.it at.there

      shown : states' ≡ slice_set states c x
      shown = subst (λ o. ShowsAt c (state_in o) states states') updates.changed shows

      turn : NamesLeft c x names names'
      turn = subst (λ o. NamesAfter c (state_in o) names names') updates.changed turns

      within : c < length states
      within = slice_get_within states c at.it.state at.state

      changes : ChangesAt c R states states'
      changes = subst (λ xs. ChangesAt c R states xs) (sym shown)
          (set_changes R states c x within (λ r was. subst (λ q. R q x) (some_same at.it.state r (sym at.state ∙ was)) (change.turns at.it at.there)))

      here : slice_get states' c ≡ Some x
      here = subst (λ xs. slice_get xs c ≡ Some x) (sym shown) (get_set states c x within)

      named : (k : ℕ) (r y : CallState) → slice_get states k ≡ Some r → slice_get states' k ≡ Some y → (k ≡ c) ⊎ (k ≢ c) → y.name ≡ r.name
      named k r y was now (inl same) = (keeps r y (changes.here r y (subst (λ j. slice_get states j ≡ Some r) same was) (subst (λ j. slice_get states' j ≡ Some y) same now))).name
      named k r y was now (inr apart) = ap (λ (q : CallState). q.name) (some_same y r (sym now ∙ changes.others k apart ∙ was))

      numbers : numbers_of states' ≡ numbers_of states
      numbers = numbers_kept states states' changes.many (λ k r y was now. named k r y was now (same_or_not k c))

      number_is : (d : ℕ) → slice_get places d ≡ Some (Kept key) → d ≡ c
      number_is d there =
          let its = stands.has d key there in
          let same : its.it ≡ at.it = some_same its.it at.it (sym its.there ∙ at.there) in
          sym its.number ∙ ap (λ (q : CallRecord H). q.number) same ∙ at.number

      has : (d k : ℕ) → (k ≡ key) ⊎ (k ≢ key) → slice_get places d ≡ Some (Kept k) → IsRecordOf records' states' d k
      has d k (inl same) there =
          let d_is : d ≡ c = number_is d (there ∙ ap (λ j. Some (Kept j)) same) in
          record {
            it = record at.it { state = x };
            there = ap (get records') same ∙ updates.changed;
            number = at.number ∙ sym d_is;
            state = ap (slice_get states') d_is ∙ here;
          }
      has d k (inr apart) there =
          let its = stands.has d k there in
          record {
            it = its.it;
            there = updates.others k apart ∙ its.there;
            number = its.number;
            state = changes.others d (λ same. apart (kept_one k key (slice_get places c) (ap (slice_get places) (sym same) ∙ there) is)) ∙ its.state;
          }

      owns : (k : ℕ) (p : CallRecord H) → (k ≡ key) ⊎ (k ≢ key) → get records' k ≡ Some p → slice_get places p.number ≡ Some (Kept k)
      owns k p (inl same) there =
          let it : record at.it { state = x } ≡ p = some_same (record at.it { state = x }) p (sym updates.changed ∙ ap (get records') (sym same) ∙ there) in
          ap (slice_get places) (ap (λ (q : CallRecord H). q.number) (sym it) ∙ at.number) ∙ is ∙ ap (λ j. Some (Kept j)) (sym same)
      owns k p (inr apart) there = stands.owns k p (sym (updates.others k apart) ∙ there)

      left : (d : ℕ) (facts : CallFacts) (r : CallState) → slice_get places d ≡ Some (Left facts) → slice_get states' d ≡ Some r → IsLeft r facts
      left d facts r gone now =
          stands.left d facts r gone (sym (changes.others d (λ same. kept_left key facts (slice_get places c) (ap (slice_get places) (sym same) ∙ gone) is)) ∙ now)

      stands' : Stands records' places states' names'
      stands' = record {
        many = stands.many ∙ sym changes.many;
        has = λ d k. has d k (same_or_not k key);
        owns = λ k p. owns k p (same_or_not k key);
        left = left;
        found = λ name. found_after states states' c at.it.state x names names' name at.state here changes.others numbers (keeps at.it.state x (change.turns at.it at.there)) stands.found turn;
      }

  pub map_same : (f g : CallPlace → Option H) (places : List CallPlace) → ((p : CallPlace) → f p ≡ g p) → map f places ≡ map g places
  map_same f g [] same = refl
  map_same f g (p ∷ places) same = ap (λ o. o ∷ map f places) (same p) ∙ ap (λ os. g p ∷ os) (map_same f g places same)

  -- a change of a state changes no handler
  pub handlers_kept : (R : CallState → CallState → Type 0) (records records' : Slab (CallRecord H)) (places : List CallPlace) (states : List CallState) (names : Names) (c key : ℕ)
      → Stands records places states names → slice_get places c ≡ Some (Kept key) → ChangesRecord key R records records' → map (handler_in records') places ≡ map (handler_in records) places
  handlers_kept R records records' places states names c key stands is change = map_same (handler_in records') (handler_in records) places each
    where
      at : IsRecordOf records states c key
      at = stands.has c key is

      updates : Updates records records' key (Some (record at.it { state = change.state at.it at.there }))
      updates = change.updates at.it at.there

      by : (k : ℕ) → (k ≡ key) ⊎ (k ≢ key) → handler_of (get records' k) ≡ handler_of (get records k)
      by k (inl same) = ap handler_of (ap (get records') same ∙ updates.changed) ∙ ap handler_of (sym at.there ∙ ap (get records) (sym same))
      by k (inr apart) = ap handler_of (updates.others k apart)

      each : (p : CallPlace) → handler_in records' p ≡ handler_in records p
      each (Kept k) = by k (same_or_not k key)
      each (Left facts) = refl

  get_map : (f : CallPlace → Option H) (places : List CallPlace) (c : ℕ) (p : CallPlace) → slice_get places c ≡ Some p → slice_get (map f places) c ≡ Some (f p)
  get_map f [] c p is = absurd cc
  get_map f (q ∷ places) zero p is = ap (λ r. Some (f r)) (some_same q p is)
  get_map f (q ∷ places) (suc c) p is = get_map f places c p is

  -- the record of the call can change so
  pub can_under : (change : StateChange) (records : Slab (CallRecord H)) (places : List CallPlace) (states : List CallState) (names : Names) (c key : ℕ) → Stands records places states names
      → slice_get places c ≡ Some (Kept key) → ((r : CallState) → slice_get states c ≡ Some r → CanTurn change r) → CanTurnUnder change (get records key)
  can_under change records places states names c key stands is can =
      let at = stands.has c key is in
      subst (CanTurnUnder change) (sym at.there) (can at.it.state at.state)

  -- it has its state still
  pub still_there : (R : CallState → CallState → Type 0) (records records' : Slab (CallRecord H)) (places : List CallPlace) (states : List CallState) (names : Names) (c key : ℕ)
      → Stands records places states names → slice_get places c ≡ Some (Kept key) → ChangesRecord key R records records' → ContainsKey records' key
  still_there R records records' places states names c key stands is change =
      let at = stands.has c key is in
      subst IsSome (sym (change.updates at.it at.there).changed) refl

  pub call_there : (records : Slab (CallRecord H)) (places : List CallPlace) (states : List CallState) (names : Names) (c key : ℕ) → Stands records places states names
      → slice_get places c ≡ Some (Kept key) → c < length states
  call_there records places states names c key stands is = slice_get_within states c (stands.has c key is).it.state (stands.has c key is).state

  -- what was taken was the oldest event of the call
  pub oldest_taken : (R : CallState → CallState → Type 0) (records records' : Slab (CallRecord H)) (places : List CallPlace) (states states' : List CallState) (names : Names) (c key : ℕ) (oldest : Option Waiting)
      → Stands records places states names → slice_get places c ≡ Some (Kept key) → ChangesRecord key R records records' → ShowsAt c (state_in (get records' key)) states states'
      → TakesOldest oldest (get records key) (get records' key) → (r x : CallState) → slice_get states c ≡ Some r → slice_get states' c ≡ Some x
      → IfSome oldest (λ w. r.waiting.items ≡ w ∷ x.waiting.items)
  oldest_taken R records records' places states states' names c key oldest stands is change shows takes r x was now =
      let at = stands.has c key is in
      let updates = change.updates at.it at.there in
      let y : CallState = change.state at.it at.there in
      let shown : states' ≡ slice_set states c y = subst (λ o. ShowsAt c (state_in o) states states') updates.changed shows in
      let here : slice_get states' c ≡ Some y = ap (λ xs. slice_get xs c) shown ∙ get_set states c y (slice_get_within states c at.it.state at.state) in
      let took : TakesOldest oldest (Some at.it) (Some (record at.it { state = y })) =
      subst (λ o. TakesOldest oldest o (Some (record at.it { state = y }))) at.there (subst (TakesOldest oldest (get records key)) updates.changed takes) in
      subst (λ q. IfSome oldest (λ w. q.waiting.items ≡ w ∷ x.waiting.items)) (some_same at.it.state r (sym at.state ∙ was))
      (subst (λ q. IfSome oldest (λ w. at.it.state.waiting.items ≡ w ∷ q.waiting.items)) (some_same y x (sym here ∙ now)) took)

  -- there are places for two events in what is shown, where there are in the record
  pub room_shown : (R : CallState → CallState → Type 0) (P : CallState → Type 0) (records records' : Slab (CallRecord H)) (places : List CallPlace) (states states' : List CallState) (names : Names) (c key : ℕ)
      → Stands records places states names → slice_get places c ≡ Some (Kept key) → ChangesRecord key R records records' → ShowsAt c (state_in (get records' key)) states states'
      → IfSome (state_in (get records' key)) P → (x : CallState) → slice_get states' c ≡ Some x → P x
  room_shown R P records records' places states states' names c key stands is change shows holds x now =
      let at = stands.has c key is in
      let updates = change.updates at.it at.there in
      let y : CallState = change.state at.it at.there in
      let shown : states' ≡ slice_set states c y = subst (λ o. ShowsAt c (state_in o) states states') updates.changed shows in
      let here : slice_get states' c ≡ Some y = ap (λ xs. slice_get xs c) shown ∙ get_set states c y (slice_get_within states c at.it.state at.state) in
      subst P (some_same y x (sym here ∙ now)) (subst (λ o. IfSome (state_in o) P) updates.changed holds)

  -- one record has another state
  pub record_set : (R : CallState → CallState → Type 0) (records : Slab (CallRecord H)) (key : ℕ) (it : CallRecord H) (x : CallState) → ContainsKey records key
      → get records key ≡ Some it → R it.state x → ChangesRecord key R records (with_value records key (record it { state = x }))
  record_set R records key it x there is changes = record {
    state = λ q was. x;
    turns = λ q was. subst (λ (p : CallRecord H). R p.state x) (some_same it q (sym is ∙ was)) changes;
    updates = λ q was. subst (λ (p : CallRecord H). Updates records (with_value records key (record it { state = x })) key (Some (record p { state = x }))) (some_same it q (sym is ∙ was))
        (Updates-with_value records key (record it { state = x }) there);
  }
