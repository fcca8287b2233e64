-- What the loop does to a client, and what it hands on.
use Rattle.std.specs.Prelude.{◌≡◌, ℕ, Bool, true, false, List, [], ◌∷◌, ◌++◌, Option, Some, None, Result, Ok, Err}
use Rattle.rpc_handlers.specs.declared.event.Event.{Event}
use Rattle.rpc_handlers.specs.HandlerRule.{HandlerRule}
use Rattle.rpc_journal.specs.declared.answers.StartRefused.{StartRefused}
use Rattle.rpc_schedule.specs.Serving.{Serving}
use Rattle.rpc_client.specs.Working.{WorksOn}

-- runs ended one after another, and each handed on its event of this list
abbrev pub HandsOnAll : HandlerRule → Serving → List (ℕ × Event) → Serving → Type 0
HandsOnAll rule old [] new = new ≡ old
HandsOnAll rule old (handed ∷ more) new = (next : Serving) × WorksOn rule old (Ok (Some handed)) next × HandsOnAll rule next more new

-- runs ended, and then this came of the last work; behind what was in the list stands what was handed on
pub record HandsOnUntil (rule : HandlerRule) (last : Result (Option (ℕ × Event)) StartRefused) (old : Serving) (before : List (ℕ × Event)) (new : Serving) (after : List (ℕ × Event)) : Type 0 where
  pub handed : List (ℕ × Event)
  pub now : Serving
  pub all : HandsOnAll rule old handed now
  pub stops : WorksOn rule now last new
  pub list : after ≡ before ++ handed

-- until there is nothing to run, or a run is refused
abbrev pub WorksUntilIdle : HandlerRule → Serving → List (ℕ × Event) → Result (Unit {0}) StartRefused → Serving → List (ℕ × Event) → Type 0
WorksUntilIdle rule old before (Ok done) new after = HandsOnUntil rule (Ok None) old before new after
WorksUntilIdle rule old before (Err why) new after = HandsOnUntil rule (Err why) old before new after

-- one work of the loop: whether it handed on an event, which then stands last in the list
abbrev pub Lists : HandlerRule → Serving → List (ℕ × Event) → Result Bool StartRefused → Serving → List (ℕ × Event) → Type 0
Lists rule old before (Ok true) new after = (handed : ℕ × Event) × WorksOn rule old (Ok (Some handed)) new × (after ≡ before ++ handed ∷ [])
Lists rule old before (Ok false) new after = WorksOn rule old (Ok None) new × (after ≡ before)
Lists rule old before (Err why) new after = WorksOn rule old (Err why) new × (after ≡ before)
