-- A call whose messages are kept.
use Rattle.std.specs.Prelude.{◌≡◌, ◌⊎◌, ℕ, ◌+◌, ◌-◌, ◌<◌, ◌≤◌, ◌==◌, ◌&&◌, ◌||◌, Bool, true, false, List, [], ◌++◌, length, map, Option, Some, None, IfSome, is_none, is_some, nat_le, nat_lt, unwrap_or}
use Rattle.rpc_ids.specs.declared.status.Status.{Status}
use Rattle.rpc_handlers.specs.declared.event.Event.{Event}
use Rattle.live_client.specs.asks.Events.{end_by, first_end, message_by, messages_in, or_else}
use Rattle.live_client.specs.asks.Tasks.{Given, given_at}
use Rattle.live_client.specs.asks.Telling.{Progress, gone_on, said_all, unknown}
use Rattle.live_client.specs.declared.asks.call.CallErrand.{CallErrand}
use Rattle.live_client.specs.declared.asks.utterance.Utterance.{Utterance}

-- the clock has gone on by so many milliseconds between two moments
abbrev pub HasPassed : Option ℕ → ℕ → ℕ → Type 0
HasPassed None start end = ⊥
HasPassed (Some ms) start end = start + ms ≤ end

-- it was cancelled at its limit, or when its time had passed, and ended with the answer; or its call has ended below the limit, if it
-- has
abbrev pub EndsBy : CallErrand → ℕ → ℕ → Option Status → List Event → Type 0
EndsBy w start upto (Some status) events = ((length w.messages.items ≡ w.limit) ⊎ HasPassed w.within start upto) × (w.ended ≡ Some status)
EndsBy w start upto None events = (w.ended ≡ first_end events) × (is_some w.ended ≡ true → length w.messages.items < w.limit)

-- where it has said all, nothing is left
abbrev pub HasGiven : Progress → List Utterance → Type 0
HasGiven unknown rest = Unit {0}
HasGiven gone_on rest = Unit {0}
HasGiven said_all rest = rest ≡ []

-- it keeps the messages among these events, and gives what it is to say before it hears any
pub record Called (w : CallErrand) (far : Progress) (start upto : ℕ) (cut : Option Status) (events : List Event) (outs : List Given) (ended : Option Status) : Type 0 where
  pub told : w.messages.items ≡ messages_in events
  pub most : length w.messages.items ≤ w.limit
  pub given : outs ++ map (given_at 0) w.rest.items ≡ map (given_at 0) w.first.value.items
  pub unheard : (w.rest.items ≡ []) ⊎ (events ≡ [])
  pub all_given : HasGiven far w.rest.items
  pub opened : IfSome w.opened (λ at. (start ≤ at) × (at ≤ w.moment))
  pub moment : w.moment ≤ upto
  pub ended_is : w.ended ≡ ended
  pub ends : EndsBy w start upto cut events

-- less is known of it
abbrev pub called_weaker :
    (w : CallErrand) (far : Progress) (start upto : ℕ) (cut : Option Status) (events : List Event) (outs : List Given) (ended : Option Status)
    → Called w far start upto cut events outs ended → Called w unknown start upto cut events outs ended
called_weaker w far start upto cut events outs ended so = record {
  told = so.told;
  most = so.most;
  given = so.given;
  unheard = so.unheard;
  all_given = tt;
  opened = so.opened;
  moment = so.moment;
  ended_is = so.ended_is;
  ends = so.ends;
}

-- its time has passed at the moment of its last step
abbrev pub has_passed : Option ℕ → Option ℕ → ℕ → Bool
has_passed (Some ms) (Some opened) moment = nat_le ms (moment - opened)
has_passed _ _ moment = false

-- it is to be cancelled: so many messages came, or its time has passed, and it hasn't ended
abbrev pub has_enough : CallErrand → Bool
has_enough w = is_none w.ended && ((length w.messages.items == w.limit) || has_passed w.within w.opened w.moment)

abbrev pub takes_more : CallErrand → Bool
takes_more w = is_none w.ended && nat_lt (length w.messages.items) w.limit

-- it hears an event
pub record HasHeard (event : Event) (old new : CallErrand) : Type 0 where
  pub messages : new.messages.items ≡ old.messages.items ++ message_by event
  pub ended : new.ended ≡ or_else old.ended (end_by event)

-- it heard nothing
pub record HasKept (old new : CallErrand) : Type 0 where
  pub messages : new.messages.items ≡ old.messages.items
  pub ended : new.ended ≡ old.ended

-- it has looked at the clock, which is at this moment
pub record HasLooked (now : ℕ) (old new : CallErrand) : Type 0 where
  pub messages : new.messages.items ≡ old.messages.items
  pub ended : new.ended ≡ old.ended
  pub limit : new.limit ≡ old.limit
  pub within : new.within ≡ old.within
  pub first : new.first.value ≡ old.first.value
  pub rest : new.rest.items ≡ old.rest.items
  pub opened : new.opened ≡ Some (unwrap_or old.opened now)
  pub moment : new.moment ≡ now

-- what it was made for, and all else that an event leaves as it was
pub record Stays (old new : CallErrand) : Type 0 where
  pub limit : new.limit ≡ old.limit
  pub within : new.within ≡ old.within
  pub first : new.first.value ≡ old.first.value
  pub rest : new.rest.items ≡ old.rest.items
  pub opened : new.opened ≡ old.opened
  pub moment : new.moment ≡ old.moment

-- WHAT A CALL IS MADE FOR: what it is to say, how many messages are enough, and how much time
pub record Purpose : Type 0 where
  pub says : List Utterance
  pub limit : ℕ
  pub within : Option ℕ

abbrev pub purpose_of : CallErrand → Purpose
purpose_of w = record { says = w.first.value.items; limit = w.limit; within = w.within }
