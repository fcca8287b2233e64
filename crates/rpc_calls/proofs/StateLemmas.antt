-- How the states of handlers follow a history.
use Rattle.std.proofs.Common.{◌≡◌, ℕ, Bool, true, false, ◌||◌, List, [], ◌∷◌, ◌++◌, fold, Option, Some, None, option_map, option_to_list, refl, ap}
use Rattle.rpc_handlers.specs.declared.event.Event.{Event}
use Rattle.rpc_handlers.specs.declared.event.Memo.{Memo}
use Rattle.rpc_handlers.specs.HandlerRule.{HandlerRule}
use Rattle.rpc_journal.specs.declared.setting.Setting.{Setting}
use Rattle.rpc_journal.specs.Effect.{Deed}
use Rattle.rpc_journal.specs.Calls.{is_start_of, is_finish_of, is_replace_of, is_replaced}
use Rattle.rpc_journal.specs.Queues.{taken_event}
use Rattle.rpc_journal.specs.States.{opens_call, state_set, finished_since, began_since, state_of, state_before_run, replacing_state}

-- the states of c's handler are the same in two histories
pub record SameStates (rule : HandlerRule) (set : Setting) (c : ℕ) (before after : List Deed) : Type 0 where
  pub state : state_of rule set after c ≡ state_of rule set before c
  pub began : began_since after c ≡ began_since before c
  pub before_run : state_before_run rule set after c ≡ state_before_run rule set before c
  pub replaced : is_replaced after c ≡ is_replaced before c

-- the deed neither opens c nor begins or ends a run of it, nor replaces its handler
pub record LeavesHandler (ds : List Deed) (d : Deed) (c : ℕ) : Type 0 where
  pub start : is_start_of c d.entry.kind ≡ false
  pub finish : is_finish_of c d.entry.kind ≡ false
  pub replace : is_replace_of c d.entry.kind ≡ false
  pub opens : opens_call ds d c ≡ false

pub states_left : (rule : HandlerRule) (set : Setting) (ds : List Deed) (d : Deed) (c : ℕ) → LeavesHandler ds d c → SameStates rule set c ds (d ∷ ds)
states_left rule set ds d c is = record {
  state = rw (is.replace, is.opens, is.finish) refl;
  began = rw (is.start, is.opens, is.replace) refl;
  before_run = rw is.start refl;
  replaced = rw (is.start, is.replace) refl;
}

-- a Start of c
pub record StartsHandler (ds : List Deed) (d : Deed) (c : ℕ) : Type 0 where
  pub start : is_start_of c d.entry.kind ≡ true
  pub finish : is_finish_of c d.entry.kind ≡ false
  pub replace : is_replace_of c d.entry.kind ≡ false
  pub opens : opens_call ds d c ≡ false

pub record StatesStarted (rule : HandlerRule) (set : Setting) (c : ℕ) (before after : List Deed) : Type 0 where
  pub state : state_of rule set after c ≡ state_of rule set before c
  pub began : began_since after c ≡ true
  pub before_run : state_before_run rule set after c ≡ state_of rule set before c
  pub replaced : is_replaced after c ≡ false

pub states_started : (rule : HandlerRule) (set : Setting) (ds : List Deed) (d : Deed) (c : ℕ) → StartsHandler ds d c → StatesStarted rule set c ds (d ∷ ds)
states_started rule set ds d c is = record {
  state = rw (is.replace, is.opens, is.finish) refl;
  began = rw is.start refl;
  before_run = rw is.start refl;
  replaced = rw is.start refl;
}

-- a Finish of c
pub record FinishesHandler (ds : List Deed) (d : Deed) (c : ℕ) : Type 0 where
  pub start : is_start_of c d.entry.kind ≡ false
  pub finish : is_finish_of c d.entry.kind ≡ true
  pub replace : is_replace_of c d.entry.kind ≡ false
  pub opens : opens_call ds d c ≡ false

fold-push : (next : Memo → Event → Memo) (m : Memo) (xs : List Event) (x : Event) → fold next m (xs ++ x ∷ []) ≡ next (fold next m xs) x
fold-push next m [] x = refl
fold-push next m (y ∷ ys) x = fold-push next (next m y) ys x

moved_on : (next : Memo → Event → Memo) (o : Option Memo) (xs : List Event) (x : Event) (taken : Option Event) → taken ≡ Some x
    → option_map (λ m. fold next m (xs ++ option_to_list taken)) o ≡ option_map (λ m. next m x) (option_map (λ m. fold next m xs) o)
moved_on next None xs x taken is = refl
moved_on next (Some m) xs x taken is = rw is (ap Some (fold-push next m xs x))

-- where no Replace came since the Start, the handler has moved on by the event of the run
pub state_finished : (rule : HandlerRule) (set : Setting) (ds : List Deed) (d : Deed) (c : ℕ) (event : Event) → FinishesHandler ds d c
    → began_since ds c ≡ true → taken_event ds c ≡ Some event
    → state_of rule set (d ∷ ds) c ≡ option_map (λ m. rule.next m event) (state_of rule set ds c)
state_finished rule set ds d c event is began taken =
    rw (is.replace, is.opens, is.finish, began) (moved_on rule.next (state_set rule set ds c) (finished_since ds c) event (taken_event ds c) taken)

-- where one came, the new one stays as it was
pub state_unmoved : (rule : HandlerRule) (set : Setting) (ds : List Deed) (d : Deed) (c : ℕ) → FinishesHandler ds d c
    → began_since ds c ≡ false → state_of rule set (d ∷ ds) c ≡ state_of rule set ds c
state_unmoved rule set ds d c is later = rw (is.replace, is.opens, is.finish, later) refl

-- a Replace of c by a handler in this state
pub record ReplacesHandler (d : Deed) (c : ℕ) (m : Memo) : Type 0 where
  pub start : is_start_of c d.entry.kind ≡ false
  pub replace : is_replace_of c d.entry.kind ≡ true
  pub state : replacing_state d.entry.kind ≡ Some m

pub record StatesReplaced (rule : HandlerRule) (set : Setting) (c : ℕ) (m : Memo) (before after : List Deed) : Type 0 where
  pub state : state_of rule set after c ≡ Some m
  pub later : began_since after c ≡ false
  pub replaced : is_replaced after c ≡ true

or_true : (b : Bool) → (b || true) ≡ true
or_true true = refl
or_true false = refl

pub states_replaced : (rule : HandlerRule) (set : Setting) (ds : List Deed) (d : Deed) (c : ℕ) (m : Memo) → ReplacesHandler d c m → StatesReplaced rule set c m ds (d ∷ ds)
states_replaced rule set ds d c m is = record {
  state = rw (is.replace, or_true (opens_call ds d c), is.state) refl;
  later = rw (is.start, is.replace, or_true (opens_call ds d c)) refl;
  replaced = rw (is.start, is.replace) refl;
}
