-- What the events of a call tell.
use Rattle.std.specs.Prelude.{ℕ, List, [], ◌∷◌, ◌++◌, Option, Some, None}
use Rattle.rpc_ids.specs.declared.status.Status.{Status}
use Rattle.rpc_handlers.specs.declared.event.Event.{Event}
use Rattle.rpc_handlers.specs.declared.event.Event.TheVariants.{Message, Ended}

-- the first value, or else the second
abbrev pub or_else : {A : Type 0} → Option A → Option A → Option A
or_else None second = second
or_else (Some x) second = Some x

-- the message that an event is, if it is one
abbrev pub message_by : Event → List (List ℕ)
message_by (Message payload) = payload ∷ []
message_by _ = []

-- the messages among these events, in order
abbrev pub messages_in : List Event → List (List ℕ)
messages_in [] = []
messages_in (event ∷ events) = message_by event ++ messages_in events

abbrev pub end_by : Event → Option Status
end_by (Ended status) = Some status
end_by _ = None

-- the status of the first end among them
abbrev pub first_end : List Event → Option Status
first_end [] = None
first_end (event ∷ events) = or_else (end_by event) (first_end events)
