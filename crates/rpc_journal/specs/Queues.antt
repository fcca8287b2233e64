-- The events that wait for the calls of a history.
use Rattle.std.specs.Prelude.{ℕ, ◌+◌, Bool, true, false, not, ◌||◌, ◌==◌, List, [], ◌∷◌, ◌++◌, length, map, drop, slice_get, count_by, Option, None, if◌then◌else◌}
use Rattle.std.specs.List.{list_any}
use Rattle.rpc_handlers.specs.declared.event.Event.{Event}
use Rattle.rpc_handlers.specs.declared.event.Event.TheVariants.{Completion, Ended, Tick}
use Rattle.rpc_journal.specs.declared.waiting.Waiting.{Waiting}
use Rattle.rpc_journal.specs.Effect.{Deed}
use Rattle.rpc_journal.specs.Calls.{of_call, is_start_of}

abbrev pub is_completion : Event → Bool
is_completion Completion = true
is_completion _ = false

abbrev pub is_ended : Event → Bool
is_ended (Ended s) = true
is_ended _ = false

abbrev pub is_tick : Event → Bool
is_tick (Tick t) = true
is_tick _ = false

abbrev pub drops_of : Deed → ℕ → Bool
drops_of d c = list_any (λ x. x == c) d.does.drops

-- these events, put by the entry at this place
abbrev pub put_at : ℕ → List Event → List Waiting
put_at at events = map (λ event. record { at = at; event = event }) events

-- the events put to c by the last entry that drops c's waiting events and by all later ones
abbrev pub puts_since : List Deed → ℕ → List Waiting
puts_since [] c = []
puts_since (d ∷ ds) c =
    (if drops_of d c then [] else puts_since ds c)
    ++ put_at (length ds) (of_call c d.does.puts)

-- how many Starts of c are later than that entry
abbrev pub starts_since : List Deed → ℕ → ℕ
starts_since [] c = 0
starts_since (d ∷ ds) c =
    if drops_of d c then 0
    else if is_start_of c d.entry.kind then starts_since ds c + 1
    else starts_since ds c

-- the events that wait for c: those put, without as many from the front as there are later Starts
abbrev pub waiting_of : List Deed → ℕ → List Waiting
waiting_of ds c = drop (starts_since ds c) (puts_since ds c)

-- how many events other than Ended wait for c
abbrev pub messages_waiting : List Deed → ℕ → ℕ
messages_waiting ds c = count_by (λ w. not (is_ended w.event)) (waiting_of ds c)

-- the event that the last Start of c took: the oldest that waited before it
abbrev pub taken_event : List Deed → ℕ → Option Event
taken_event [] c = None
taken_event (d ∷ ds) c =
    if is_start_of c d.entry.kind then slice_get (map (λ w. w.event) (waiting_of ds c)) 0
    else taken_event ds c

-- the client has completed its stream of c: a Completion was put to c
abbrev pub is_completed : List Deed → ℕ → Bool
is_completed [] c = false
is_completed (d ∷ ds) c = list_any is_completion (of_call c d.does.puts) || is_completed ds c
