-- The calls of a table: their states, their handlers, and where each is found.
use Rattle.std.specs.Prelude.{◌≡◌, ◌≢◌, ℕ, false, List, length, slice_get, slice_set, Option, Some, None}
use Rattle.slab.specs.Slab.{Slab, get}
use Rattle.rpc_packet.specs.declared.call_name.CallName.{CallName}
use Rattle.rpc_journal.specs.declared.table.call_state.CallState.{CallState}
use Rattle.rpc_journal.specs.declared.table.call_states.CallStates.{CallStates}
use Rattle.rpc_calls.specs.declared.call_place.CallFacts.{CallFacts}
use Rattle.rpc_calls.specs.declared.call_place.CallPlace.{CallPlace}
use Rattle.rpc_calls.specs.declared.call_place.CallPlace.TheVariants.{Kept, Left}
use Rattle.rpc_calls.specs.declared.call_record.CallRecord.{CallRecord}
use Rattle.rpc_calls.specs.Facts.{IsDoneWith, facts_of}
use Rattle.rpc_calls.specs.Kept.{is_kept_at}
use Rattle.rpc_calls.specs.Names.{Names, call_under}
use Rattle.rpc_calls.specs.Numbers.{live_in}
use Rattle.rpc_calls.specs.Outside.{SameOutside}
use Rattle.rpc_calls.specs.Places.{ChangesAll, ChangesAt}
use Rattle.rpc_calls.specs.Records.{handler_of}

pub record Roll (H : Type 0) : Type 0 where
  pub states : CallStates
  pub handlers : List (Option H)
  pub places : List CallPlace

-- this is left of a call in this state, which is done with
pub record IsLeft (r : CallState) (facts : CallFacts) : Type 0 where
  pub facts_are : facts ≡ facts_of r
  pub over : IsDoneWith r

module _ {H : Type 0} where
  abbrev pub handler_in : Slab (CallRecord H) → CallPlace → Option H
  handler_in records (Kept key) = handler_of (get records key)
  handler_in records (Left facts) = None

  -- the record under this key is that of call c
  pub record IsRecordOf (records : Slab (CallRecord H)) (states : List CallState) (c key : ℕ) : Type 0 where
    pub it : CallRecord H
    pub there : get records key ≡ Some it
    pub number : it.number ≡ c
    pub state : slice_get states c ≡ Some it.state

  -- each call is found in its record, or has left; each record is that of a call; and the names are those of the live calls
  pub record Stands (records : Slab (CallRecord H)) (places : List CallPlace) (states : List CallState) (names : Names) : Type 0 where
    pub many : length places ≡ length states
    pub has : (c key : ℕ) → slice_get places c ≡ Some (Kept key) → IsRecordOf records states c key
    pub owns : (key : ℕ) (q : CallRecord H) → get records key ≡ Some q → slice_get places q.number ≡ Some (Kept key)
    pub left : (c : ℕ) (facts : CallFacts) (r : CallState) → slice_get places c ≡ Some (Left facts) → slice_get states c ≡ Some r → IsLeft r facts
    pub found : (name : CallName) → call_under names name ≡ live_in states name

  -- the state of call c changes so, and nothing else does
  pub record Changes (c : ℕ) (R : CallState → CallState → Type 0) (old new : Roll H) : Type 0 where
    pub change : ChangesAt c R old.states.calls.items new.states.calls.items
    pub outside : SameOutside old.states new.states
    pub handlers : new.handlers ≡ old.handlers
    pub places : new.places ≡ old.places

  -- the state of each call changes so, and nothing else does
  pub record ChangesEach (R : CallState → CallState → Type 0) (old new : Roll H) : Type 0 where
    pub calls : ChangesAll R old.states.calls.items new.states.calls.items
    pub outside : SameOutside old.states new.states
    pub handlers : new.handlers ≡ old.handlers

  -- call c has left its record, and its handler with it
  pub record Leaves (c : ℕ) (old new : Roll H) : Type 0 where
    pub states : new.states ≡ old.states
    pub handlers : new.handlers ≡ slice_set old.handlers c None
    pub many : length new.places ≡ length old.places
    pub others : (k : ℕ) → k ≢ c → slice_get new.places k ≡ slice_get old.places k
    pub gone : is_kept_at (slice_get new.places c) ≡ false
