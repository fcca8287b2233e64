-- What a call has said and heard, with one step more.
use Rattle.std.proofs.Common.{◌≡◌, ◌⊎◌, ℕ, ◌+◌, ◌-◌, ◌<◌, ◌≤◌, ◌&&◌, ◌||◌, ◌==◌, Bool, true, false, List, [], ◌∷◌, ◌++◌, length, map, Option, Some, None, IfSome, is_some, is_none, unwrap_or, refl, ap, sym, ◌∙◌, subst, inl, inr, arith, append_assoc, length-append, nat_lt, ne_eqb}
use Rattle.std.proofs.lemmas.Bool.{and_parts, eqb-true, leb-true, ltb-true, false≢true, true≢false}
use Rattle.std.proofs.lemmas.List.{append-nil}
use Rattle.rpc_ids.specs.declared.status.Status.{Status}
use Rattle.rpc_handlers.specs.declared.event.Event.{Event}
use Rattle.rpc_handlers.specs.declared.event.Event.TheVariants.{Message, Ended}
use Rattle.live_client.specs.asks.Events.{end_by, first_end, message_by, messages_in, or_else}
use Rattle.live_client.specs.asks.Tasks.{Given, given_at, mails}
use Rattle.live_client.specs.asks.Telling.{Progress, gone_on, said_all, unknown}
use Rattle.live_client.specs.asks.Calling.{Called, EndsBy, HasGiven, HasHeard, HasKept, HasLooked, HasPassed, Stays, has_enough, has_passed, takes_more}
use Rattle.live_client.specs.declared.asks.call.CallErrand.{CallErrand}
use Rattle.live_client.specs.declared.asks.utterance.Utterance.{Utterance}

messages_more : (events : List Event) (event : Event) → messages_in (events ++ event ∷ []) ≡ messages_in events ++ message_by event
messages_more [] event = append-nil (message_by event)
messages_more (x ∷ events) event = ap (λ xs. message_by x ++ xs) (messages_more events event) ∙ sym (append_assoc (message_by x) (messages_in events) (message_by event))

end_more : (events : List Event) (event : Event) → first_end (events ++ event ∷ []) ≡ or_else (first_end events) (end_by event)
end_more [] event = at (end_by event)
  where
    at : (o : Option Status) → or_else o None ≡ o
    at None = refl
    at (Some s) = refl
end_more (x ∷ events) event = at (end_by x) (end_more events event)
  where
    at : (o : Option Status) → first_end (events ++ event ∷ []) ≡ or_else (first_end events) (end_by event) → or_else o (first_end (events ++ event ∷ [])) ≡ or_else (or_else o (first_end events)) (end_by event)
    at None is = is
    at (Some s) is = refl

one_message : (event : Event) → length (message_by event) ≤ 1
one_message (Message payload) = omega arith
one_message _ = omega arith

-- an end is no message
no_message : (event : Event) → is_some (end_by event) ≡ true → message_by event ≡ []
no_message (Ended status) is = refl
no_message _ is = absurd (false≢true is)

not_yet : {A : Type 0} (o : Option A) → is_none o ≡ true → o ≡ None
not_yet None none = refl
not_yet (Some s) none = absurd (false≢true none)

-- it listens: it hasn't ended, and has fewer messages than its limit
pub record Listens (w : CallErrand) : Type 0 where
  pub on : w.ended ≡ None
  pub below : length w.messages.items < w.limit

listening : (w : CallErrand) → takes_more w ≡ true → Listens w
listening w is =
    let parts = and_parts (is_none w.ended) (nat_lt (length w.messages.items) w.limit) is in
    record { on = not_yet w.ended parts.0; below = ltb-true (length w.messages.items) w.limit parts.1 }

-- what stays of what it says, and of its time
given_still : (w v : CallErrand) (outs : List Given) → v.first.value ≡ w.first.value → v.rest.items ≡ w.rest.items → outs ++ map (given_at 0) w.rest.items ≡ map (given_at 0) w.first.value.items
    → outs ++ map (given_at 0) v.rest.items ≡ map (given_at 0) v.first.value.items
given_still w v outs first rest so =
    ap (λ (xs : List Utterance). outs ++ map (given_at 0) xs) rest ∙ (so ∙ ap (λ first. map (given_at 0) first.items) (sym first))

opened_still : (start moment moment' : ℕ) (opened opened' : Option ℕ) → opened' ≡ opened → moment' ≡ moment → IfSome opened (λ at. (start ≤ at) × (at ≤ moment)) → IfSome opened' (λ at. (start ≤ at) × (at ≤ moment'))
opened_still start moment moment' opened opened' same is so = rw (same, is) so

module _ (w v : CallErrand) (start upto : ℕ) (cut : Option Status) (events : List Event) (outs : List Given) (ended : Option Status) (event : Event) (more : takes_more w ≡ true) (heard : HasHeard event w v) (stays : Stays w v) (so : Called w said_all start upto cut events outs ended) where
  going : ended ≡ None
  going = sym so.ended_is ∙ (listening w more).on

  longer : length v.messages.items ≡ length w.messages.items + length (message_by event)
  longer = ap length heard.messages ∙ length-append w.messages.items (message_by event)

  end_now : v.ended ≡ end_by event
  end_now = heard.ended ∙ ap (λ o. or_else o (end_by event)) (listening w more).on

  ends_below : is_some v.ended ≡ true → length v.messages.items < v.limit
  ends_below is =
      let none = ap length (no_message event (sym (ap is_some end_now) ∙ is)) in
      let l = listening w more in
      omega (arith, longer, none, l.below, stays.limit)

  ends_so : (c : Option Status) → EndsBy w start upto c events → EndsBy v start upto c (events ++ event ∷ [])
  ends_so None ends = (heard.ended ∙ (ap (λ o. or_else o (end_by event)) ends.0 ∙ sym (end_more events event)), ends_below)
  ends_so (Some s) ends = let l = listening w more in absurd (cc (ends.1, l.on))

  pub hears : (next : Option Status) × Called v unknown start upto cut (events ++ event ∷ []) outs next
      × (is_some ended ≡ true → (next ≡ ended) × (has_enough v ≡ false) × Called v said_all start upto cut (events ++ event ∷ []) outs next)
  hears = (
    v.ended,
    record {
      told = heard.messages ∙ (ap (λ xs. xs ++ message_by event) so.told ∙ sym (messages_more events event));
      most = let l = listening w more in omega (arith, longer, one_message event, l.below, stays.limit);
      given = given_still w v outs stays.first stays.rest so.given;
      unheard = inl (stays.rest ∙ so.all_given);
      all_given = tt;
      opened = opened_still start w.moment v.moment w.opened v.opened stays.opened stays.moment so.opened;
      moment = subst (λ n. n ≤ upto) (sym stays.moment) so.moment;
      ended_is = refl;
      ends = ends_so cut so.ends;
    },
    λ is. absurd (true≢false (sym is ∙ ap is_some going)),
  )

-- it heard nothing
module _ (w v : CallErrand) (kept : HasKept w v) (stays : Stays w v) where
  ends_kept : (start upto : ℕ) (cut : Option Status) (events : List Event) → EndsBy w start upto cut events → EndsBy v start upto cut events
  ends_kept start upto None events ends = (kept.ended ∙ ends.0, λ is. let below = ends.1 (sym (ap is_some kept.ended) ∙ is) in let longer = ap length kept.messages in omega (arith, below, longer, stays.limit))
  ends_kept start upto (Some status) events ends = (at ends.0, kept.ended ∙ ends.1)
    where
      at : (length w.messages.items ≡ w.limit) ⊎ HasPassed w.within start upto → (length v.messages.items ≡ v.limit) ⊎ HasPassed v.within start upto
      at (inl enough) = inl (ap length kept.messages ∙ (enough ∙ sym stays.limit))
      at (inr late) = inr (subst (λ within. HasPassed within start upto) (sym stays.within) late)

  pub called_kept : (far : Progress) (start upto : ℕ) (cut : Option Status) (events : List Event) (outs : List Given) (ended : Option Status) → Called w far start upto cut events outs ended → Called v far start upto cut events outs ended
  called_kept far start upto cut events outs ended so = record {
    told = kept.messages ∙ so.told;
    most = let longer = ap length kept.messages in omega (arith, so.most, longer, stays.limit);
    given = given_still w v outs stays.first stays.rest so.given;
    unheard = subst (λ (xs : List Utterance). (xs ≡ []) ⊎ (events ≡ [])) (sym stays.rest) so.unheard;
    all_given = subst (HasGiven far) (sym stays.rest) so.all_given;
    opened = opened_still start w.moment v.moment w.opened v.opened stays.opened stays.moment so.opened;
    moment = subst (λ n. n ≤ upto) (sym stays.moment) so.moment;
    ended_is = kept.ended ∙ so.ended_is;
    ends = ends_kept start upto cut events so.ends;
  }

  pub enough_kept : has_enough w ≡ false → has_enough v ≡ false
  enough_kept off =
      ap (λ o. is_none o && ((length v.messages.items == v.limit) || has_passed v.within v.opened v.moment)) kept.ended
      ∙ (ap (λ (xs : List (List ℕ)). is_none w.ended && ((length xs == v.limit) || has_passed v.within v.opened v.moment)) kept.messages
      ∙ (ap (λ n. is_none w.ended && ((length w.messages.items == n) || has_passed v.within v.opened v.moment)) stays.limit
      ∙ (ap (λ o. is_none w.ended && ((length w.messages.items == w.limit) || has_passed o v.opened v.moment)) stays.within
      ∙ (ap (λ o. is_none w.ended && ((length w.messages.items == w.limit) || has_passed w.within o v.moment)) stays.opened
      ∙ (ap (λ n. is_none w.ended && ((length w.messages.items == w.limit) || has_passed w.within w.opened n)) stays.moment ∙ off)))))

-- it looks at the clock
module _ (w v : CallErrand) (now : ℕ) (looks : HasLooked now w v) (past : w.moment ≤ now) where
  passed_later : (within : Option ℕ) (start upto : ℕ) → upto ≤ now → HasPassed within start upto → HasPassed within start now
  passed_later None start upto late passed = passed
  passed_later (Some ms) start upto late passed = omega (arith, late, passed)

  ends_later : (start upto : ℕ) (cut : Option Status) (events : List Event) → upto ≤ now → EndsBy w start upto cut events → EndsBy v start now cut events
  ends_later start upto None events late ends = (looks.ended ∙ ends.0, λ is. let below = ends.1 (sym (ap is_some looks.ended) ∙ is) in let longer = ap length looks.messages in omega (arith, below, longer, looks.limit))
  ends_later start upto (Some status) events late ends = (at ends.0, looks.ended ∙ ends.1)
    where
      at : (length w.messages.items ≡ w.limit) ⊎ HasPassed w.within start upto → (length v.messages.items ≡ v.limit) ⊎ HasPassed v.within start now
      at (inl enough) = inl (ap length looks.messages ∙ (enough ∙ sym looks.limit))
      at (inr passed) = inr (passed_later v.within start upto late (subst (λ within. HasPassed within start upto) (sym looks.within) passed))

  opens_between : (start : ℕ) (o : Option ℕ) → start ≤ now → IfSome o (λ at. (start ≤ at) × (at ≤ w.moment)) → (start ≤ unwrap_or o now) × (unwrap_or o now ≤ now)
  opens_between start None early so = (early, omega arith)
  opens_between start (Some at) early so = (so.0, omega (arith, so.1, past))

  pub goes_on : (far : Progress) (start upto : ℕ) (cut : Option Status) (events : List Event) (outs : List Given) (ended : Option Status) → start ≤ now → upto ≤ now → Called w far start upto cut events outs ended
      → (next : Option Status) × Called v gone_on start now cut events outs next
  goes_on far start upto cut events outs ended early late so = (
    ended,
    record {
      told = looks.messages ∙ so.told;
      most = let longer = ap length looks.messages in omega (arith, so.most, longer, looks.limit);
      given = given_still w v outs looks.first looks.rest so.given;
      unheard = subst (λ (xs : List Utterance). (xs ≡ []) ⊎ (events ≡ [])) (sym looks.rest) so.unheard;
      all_given = tt;
      opened = rw (looks.opened, looks.moment) (opens_between start w.opened early so.opened);
      moment = rw looks.moment (omega arith);
      ended_is = looks.ended ∙ so.ended_is;
      ends = ends_later start upto cut events late so.ends;
    },
  )

-- it gives what is to be said next, or has nothing
module _ (w v : CallErrand) (same : v ≡ record w { rest = v.rest }) where
  pub gives : (out : Utterance) → w.rest.items ≡ out ∷ v.rest.items → (far : Progress) (start upto : ℕ) (cut : Option Status) (events : List Event) (outs : List Given) (ended : Option Status) → Called w far start upto cut events outs ended
      → Called v unknown start upto cut events (outs ++ given_at (mails events) out ∷ []) ended
  gives out next far start upto cut events outs ended so =
      subst (λ (x : CallErrand). Called x unknown start upto cut events (outs ++ given_at (mails events) out ∷ []) ended) (sym same)
      (record {
        told = so.told;
        most = so.most;
        given =
            append_assoc outs (given_at (mails events) out ∷ []) (map (given_at 0) v.rest.items)
            ∙ (ap (λ n. outs ++ given_at n out ∷ map (given_at 0) v.rest.items) (ap mails unheard)
            ∙ (ap (λ xs. outs ++ map (given_at 0) xs) (sym next) ∙ so.given));
        unheard = inr unheard;
        all_given = tt;
        opened = so.opened;
        moment = so.moment;
        ended_is = so.ended_is;
        ends = so.ends;
      })
    where
      unheard : events ≡ []
      unheard = at so.unheard
        where
          at : (w.rest.items ≡ []) ⊎ (events ≡ []) → events ≡ []
          at (inl none) = absurd (cc (none, next))
          at (inr none) = none

  pub gives_none : w.rest.items ≡ [] → v.rest.items ≡ [] → (far : Progress) (start upto : ℕ) (cut : Option Status) (events : List Event) (outs : List Given) (ended : Option Status) → Called w far start upto cut events outs ended
      → Called v said_all start upto cut events outs ended
  gives_none none still far start upto cut events outs ended so =
      subst (λ (x : CallErrand). Called x said_all start upto cut events outs ended) (sym same)
      (record {
        told = so.told;
        most = so.most;
        given = ap (λ (xs : List Utterance). outs ++ map (given_at 0) xs) (still ∙ sym none) ∙ so.given;
        unheard = inl still;
        all_given = still;
        opened = so.opened;
        moment = so.moment;
        ended_is = so.ended_is;
        ends = so.ends;
      })

-- it is cancelled
enough_parts : (a b : Bool) → (a || b) ≡ true → (a ≡ true) ⊎ (b ≡ true)
enough_parts true b is = inl refl
enough_parts false b is = inr is

passed_since : (within opened : Option ℕ) (moment start upto : ℕ) → IfSome opened (λ at. (start ≤ at) × (at ≤ moment)) → moment ≤ upto → has_passed within opened moment ≡ true → HasPassed within start upto
passed_since None opened moment start upto so late is = absurd (false≢true is)
passed_since (Some ms) None moment start upto so late is = absurd (false≢true is)
passed_since (Some ms) (Some at) moment start upto so late is =
    let long : ms ≤ moment - at = leb-true ms (moment - at) is in omega (arith, long, so.0, so.1, late)

pub called_cut : (w : CallErrand) (status : Status) → has_enough w ≡ true → (far : Progress) (start upto : ℕ) (before : Option Status) (events : List Event) (outs : List Given) (ended : Option Status) → Called w far start upto before events outs ended
    → Called (record w { ended = Some status }) far start upto (Some status) events outs (Some status)
called_cut w status is far start upto before events outs ended so = record {
  told = so.told;
  most = so.most;
  given = so.given;
  unheard = so.unheard;
  all_given = so.all_given;
  opened = so.opened;
  moment = so.moment;
  ended_is = refl;
  ends = (at (enough_parts (length w.messages.items == w.limit) (has_passed w.within w.opened w.moment) (and_parts (is_none w.ended) _ is).1), refl);
}
  where
    at : ((length w.messages.items == w.limit) ≡ true) ⊎ (has_passed w.within w.opened w.moment ≡ true) → (length w.messages.items ≡ w.limit) ⊎ HasPassed w.within start upto
    at (inl enough) = inl (eqb-true (length w.messages.items) w.limit enough)
    at (inr late) = inr (passed_since w.within w.opened w.moment start upto so.opened so.moment late)

-- before anything was said or heard
pub called_new : (w : CallErrand) → w.messages.items ≡ [] → w.ended ≡ None → w.opened ≡ None → w.moment ≡ 0 → w.rest.items ≡ w.first.value.items → (start upto : ℕ) → Called w unknown start upto None [] [] None
called_new w none ended opened moment rest start upto = record {
  told = none;
  most = let n = ap length none in omega (arith, n);
  given = ap (map (given_at 0)) rest;
  unheard = inr refl;
  all_given = tt;
  opened = rw opened tt;
  moment = omega (arith, moment);
  ended_is = ended;
  ends = (ended, λ is. absurd (false≢true (sym (ap is_some ended) ∙ is)));
}

pub not_enough_yet : (w : CallErrand) → w.messages.items ≡ [] → w.opened ≡ None → 0 < w.limit → has_enough w ≡ false
not_enough_yet w none opened below =
    ap (λ o. is_none w.ended && ((length w.messages.items == w.limit) || has_passed w.within o w.moment)) opened
    ∙ (ap (λ b. is_none w.ended && (b || has_passed w.within None w.moment)) (ne_eqb (length w.messages.items) w.limit (λ same. let n = ap length none in omega (arith, n, same, below)))
    ∙ (ap (λ b. is_none w.ended && b) (never w.within) ∙ off (is_none w.ended)))
  where
    never : (within : Option ℕ) → has_passed within None w.moment ≡ false
    never None = refl
    never (Some ms) = refl

    off : (b : Bool) → (b && false) ≡ false
    off true = refl
    off false = refl
