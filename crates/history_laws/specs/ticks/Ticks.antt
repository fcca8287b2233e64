-- A Tick comes to a server at rest, and all that follows from it is done.
use Rattle.std.specs.Prelude.{◌≡◌, ◌≢◌, ℕ, ◌<◌, Bool, true, false, not, ◌&&◌, List, [], ◌∷◌, ◌++◌, length, replicate, flat_map, Some, None, unwrap_or, option_map, IsTrue, if◌then◌else◌}
use Rattle.rpc_ids.specs.declared.method.Role.TheVariants.{Server}
use Rattle.rpc_handlers.specs.declared.answer.Answer.{Answer}
use Rattle.rpc_handlers.specs.declared.event.Event.TheVariants.{Tick as Ticked}
use Rattle.rpc_handlers.specs.declared.event.Memo.{Memo}
use Rattle.rpc_handlers.specs.HandlerRule.{HandlerRule}
use Rattle.rpc_journal.specs.declared.entry.Entry.{Entry}
use Rattle.rpc_journal.specs.declared.entry.EntryKind.TheVariants.{Start, Finish, Tick, Flush}
use Rattle.rpc_journal.specs.declared.item.Item.{Item}
use Rattle.rpc_journal.specs.declared.setting.Setting.{Setting}
use Rattle.rpc_journal.specs.Calls.{call_at, calls, has_end, is_cancelled}
use Rattle.rpc_journal.specs.Effect.{Deed, Effect, Opening}
use Rattle.rpc_journal.specs.Entries.{each_from, effect_of, made_from}
use Rattle.rpc_journal.specs.History.{adding, entry_by, history}
use Rattle.rpc_journal.specs.Items.{items_sent}
use Rattle.rpc_journal.specs.Lawful.{IsLawful}
use Rattle.rpc_journal.specs.States.{opened_state, state_of}
use Rattle.rpc_schedule.specs.Schedule.{Settles, flush_seat, run_seat}
use Rattle.history_laws.specs.rounds.Streams.{HasStream, IsAtRest, items_of}

-- c is a live call of a ticking method
abbrev pub is_ticking : List Deed → ℕ → Opening → Bool
is_ticking ds c o = o.method.ticks && not (has_end ds c)

-- these calls, each with its number, by rising number
abbrev pub ticking_calls : List Deed → List (ℕ × Opening)
ticking_calls ds = made_from 0 (is_ticking ds) (λ c o. (c, o)) (calls ds)

-- an entry puts the Tick of this moment to each of them, and does nothing else
abbrev pub PutsTicks : List Deed → ℕ → Effect → Type 0
PutsTicks ds t effect =
    effect ≡ record { opens = None; ends = []; drops = []; puts = each_from 0 (is_ticking ds) (Ticked t) (calls ds); says = [] }

-- the state of c's handler; each call that is there has one
abbrev pub handler_state : HandlerRule → Setting → List Deed → ℕ → Opening → Memo
handler_state rule set ds c o = unwrap_or (state_of rule set ds c) (opened_state rule set o)

-- what a call answers to the Tick, by its rule and its state, and what is said of that
abbrev pub tick_answer : HandlerRule → Setting → List Deed → ℕ → ℕ × Opening → Answer
tick_answer rule set ds t x = rule.answer (handler_state rule set ds x.0 x.1) (Ticked t)

abbrev pub tick_items : HandlerRule → Setting → List Deed → ℕ → ℕ × Opening → List Item
tick_items rule set ds t x = items_of set ds x.0 x.1 (tick_answer rule set ds t x)

-- what all ticking calls say, by rising number
abbrev pub all_tick_items : HandlerRule → Setting → List Deed → ℕ → List Item
all_tick_items rule set ds t = flat_map (tick_items rule set ds t) (ticking_calls ds)

-- the entries of a call's run
abbrev pub tick_run : HandlerRule → Setting → List Deed → ℕ → ℕ × Opening → List Entry
tick_run rule set ds t x = entry_by run_seat (Start x.0) ∷ entry_by run_seat (Finish x.0 (tick_answer rule set ds t x)) ∷ []

abbrev pub all_tick_runs : HandlerRule → Setting → List Deed → ℕ → List Entry
all_tick_runs rule set ds t = flat_map (tick_run rule set ds t) (ticking_calls ds)

-- the entries with those of a Tick behind them: each ticking call runs once, by rising number, and what they said is flushed
abbrev pub with_tick : HandlerRule → Setting → List Entry → ℕ → List Entry
with_tick rule set h t =
    (adding h flush_seat (Tick t) ++ all_tick_runs rule set (history set h) t)
    ++ replicate (length (all_tick_items rule set (history set h) t)) (entry_by flush_seat Flush)

-- what the Tick makes of the state of a live call
abbrev pub ticked_state : HandlerRule → ℕ → Opening → Memo → Memo
ticked_state rule t o m = if o.method.ticks then rule.next m (Ticked t) else m

-- WHAT A TICK DOES. Each ticking call runs once, by rising number, and answers by its rule; all that is said goes out, and
-- nothing else. The table is at rest then; each live call is in the state that the Tick leads to, and each stream goes on in it.
pub record IsTicked (rule : HandlerRule) (set : Setting) (h : List Entry) (t : ℕ) (after : List Entry) : Type 0 where
  pub entries : after ≡ with_tick rule set h t
  pub said : items_sent (history set after) ≡ items_sent (history set h) ++ all_tick_items rule set (history set h) t
  pub rest : IsAtRest (history set after)
  pub calls_stay : calls (history set after) ≡ calls (history set h)
  pub states : (c : ℕ) (o : Opening) → call_at (history set h) c ≡ Some o → has_end (history set h) c ≡ false
      → state_of rule set (history set after) c ≡ option_map (ticked_state rule t o) (state_of rule set (history set h) c)
  pub streams : (c : ℕ) (o : Opening) (m : Memo) → HasStream rule set (history set h) c o m
      → HasStream rule set (history set after) c o (ticked_state rule t o m)

-- A Tick comes to a server at rest. None of the ticking calls was cancelled, as no live call of a lawful history was; none answers
-- with an end, and what they say isn't too much to wait at once.
pub record TicksAtRest (rule : HandlerRule) (set : Setting) (h : List Entry) (t : ℕ) : Type 0 where
  pub role : set.role ≡ Server
  pub rest : IsAtRest (history set h)
  pub uncut : (c : ℕ) (o : Opening) → call_at (history set h) c ≡ Some o → is_ticking (history set h) c o ≡ true → is_cancelled (history set h) c ≡ false
  pub endless : (c : ℕ) (o : Opening) → call_at (history set h) c ≡ Some o → is_ticking (history set h) c o ≡ true
      → (tick_answer rule set (history set h) t (c, o)).end ≡ None
  pub few : length (all_tick_items rule set (history set h) t) < 65536

-- at rest a Tick waits for each live call of a ticking method
abbrev pub TicksArePut : Type 0
TicksArePut = (set : Setting) (ds : List Deed) (t : ℕ) → IsAtRest ds → PutsTicks ds t (effect_of set ds (Tick t))

-- a Tick settles so, and in no other way, where the handlers' type is ruled
abbrev pub TicksSettle : Type 0
TicksSettle = (rule : HandlerRule) (set : Setting) (h after : List Entry) (t : ℕ) → IsTrue rule.ruled → TicksAtRest rule set h t
    → Settles rule set (adding h flush_seat (Tick t)) after → IsTicked rule set h t after

-- it does settle so
abbrev pub TicksAreThere : Type 0
TicksAreThere = (rule : HandlerRule) (set : Setting) (h : List Entry) (t : ℕ) → TicksAtRest rule set h t
    → (after : List Entry) × Settles rule set (adding h flush_seat (Tick t)) after × IsTicked rule set h t after

-- in a lawful history no live call was cancelled
abbrev pub LiveCallsAreUncut : Type 0
LiveCallsAreUncut = (set : Setting) (h : List Entry) (c : ℕ) → IsLawful set h → has_end (history set h) c ≡ false → is_cancelled (history set h) c ≡ false

-- where one ticking call alone says anything, that is all that is said
abbrev pub OneSpeaks : Type 0
OneSpeaks =
    (rule : HandlerRule) (set : Setting) (ds : List Deed) (t c : ℕ) (o : Opening) → call_at ds c ≡ Some o → is_ticking ds c o ≡ true
    → ((k : ℕ) (other : Opening) → k ≢ c → call_at ds k ≡ Some other → is_ticking ds k other ≡ true → tick_items rule set ds t (k, other) ≡ [])
    → all_tick_items rule set ds t ≡ tick_items rule set ds t (c, o)
