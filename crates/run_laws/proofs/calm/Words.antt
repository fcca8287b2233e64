-- What one more deed does to the words on one call.
use Rattle.std.proofs.Common.{◌≡◌, ℕ, ◌≤◌, true, false, not, List, [], ◌∷◌, ◌++◌, length, map, drop, if◌then◌else◌, refl, ap, sym, ◌∙◌}
use Rattle.std.proofs.lemmas.Bool.{false≢true}
use Rattle.std.proofs.lemmas.List.{append-nil, map-append}
use Rattle.rpc_handlers.specs.declared.event.Event.{Event}
use Rattle.rpc_handlers.specs.HandlerRule.{HandlerRule}
use Rattle.rpc_journal.specs.declared.setting.Setting.{Setting}
use Rattle.rpc_journal.specs.declared.waiting.Waiting.{Waiting}
use Rattle.rpc_journal.specs.Calls.{ends_of, has_end, is_finish_of, is_replace_of, is_start_of, of_call, runner_of}
use Rattle.rpc_journal.specs.Effect.{Deed}
use Rattle.rpc_journal.specs.Kinds.{is_empty}
use Rattle.rpc_journal.specs.Queues.{drops_of, put_at, puts_since, starts_since, taken_event, waiting_of}
use Rattle.rpc_journal.specs.States.{began_since, finished_since, opens_call, state_before_run, state_set}
use Rattle.rpc_journal.proofs.QueueLemmas.{put_is, queue_is, some_left}
use Rattle.run_laws.specs.calm.Taken.{events_taken}

-- the events that wait for c
abbrev pub waits : List Deed → ℕ → List Event
waits ds c = map (λ (w : Waiting). w.event) (waiting_of ds c)

-- no more runs of c began than events were put to it
abbrev pub IsEven : List Deed → ℕ → Type 0
IsEven ds c = starts_since ds c ≤ length (puts_since ds c)

events_put : (at : ℕ) (events : List Event) → map (λ (w : Waiting). w.event) (put_at at events) ≡ events
events_put at [] = refl
events_put at (event ∷ events) = ap (λ rest. event ∷ rest) (events_put at events)

-- a Start drops nothing and puts nothing
abbrev pub StartsAlone : Deed → ℕ → Type 0
StartsAlone d c = is_start_of c d.entry.kind ≡ true → (drops_of d c ≡ false) × (of_call c d.does.puts ≡ [])

module _ (ds : List Deed) (d : Deed) (c : ℕ) (even : IsEven ds c) where
  waiting_step : StartsAlone d c
      → waiting_of (d ∷ ds) c ≡ (if is_start_of c d.entry.kind then drop 1 (waiting_of ds c) else (if drops_of d c then [] else waiting_of ds c) ++ put_at (length ds) (of_call c d.does.puts))
  waiting_step alone =
      queue_is (drops_of d c) (is_start_of c d.entry.kind) (starts_since ds c) (puts_since ds c) (put_at (length ds) (of_call c d.does.puts)) (waiting_of ds c)
      (λ starts. ((alone starts).0, ap (put_at (length ds)) (alone starts).1)) even refl

  -- what is put waits behind
  pub waits_more : is_start_of c d.entry.kind ≡ false → drops_of d c ≡ false → waits (d ∷ ds) c ≡ waits ds c ++ of_call c d.does.puts
  waits_more starts kept =
      let now : waiting_of (d ∷ ds) c ≡ waiting_of ds c ++ put_at (length ds) (of_call c d.does.puts) =
      waiting_step (λ is. absurd (false≢true (sym starts ∙ is))) ∙ rw (starts, kept) refl in
      ap (map (λ (w : Waiting). w.event)) now
      ∙ (map-append (λ (w : Waiting). w.event) (waiting_of ds c) (put_at (length ds) (of_call c d.does.puts))
      ∙ ap (λ es. waits ds c ++ es) (events_put (length ds) (of_call c d.does.puts)))

  -- what waits is dropped
  pub waits_none : is_start_of c d.entry.kind ≡ false → drops_of d c ≡ true → of_call c d.does.puts ≡ [] → waits (d ∷ ds) c ≡ []
  waits_none starts dropped none =
      let now : waiting_of (d ∷ ds) c ≡ [] = waiting_step (λ is. absurd (false≢true (sym starts ∙ is))) ∙ rw (starts, dropped, none) refl in
      ap (map (λ (w : Waiting). w.event)) now

  -- a Start takes the event in front
  pub waits_fewer : is_start_of c d.entry.kind ≡ true → StartsAlone d c → waiting_of (d ∷ ds) c ≡ drop 1 (waiting_of ds c)
  waits_fewer starts alone = waiting_step alone ∙ rw starts refl

  pub even_step : (is_start_of c d.entry.kind ≡ true → is_empty (waiting_of ds c) ≡ false) → IsEven (d ∷ ds) c
  even_step some =
      put_is (drops_of d c) (is_start_of c d.entry.kind) (starts_since ds c) (puts_since ds c) (put_at (length ds) (of_call c d.does.puts)) even
      (λ starts. some_left (starts_since ds c) (puts_since ds c) (waiting_of ds c) refl (some starts))

-- a deed gives c no end
pub ends_same : (ds : List Deed) (d : Deed) (c : ℕ) → of_call c d.does.ends ≡ [] → ends_of (d ∷ ds) c ≡ ends_of ds c
ends_same ds d c none = ap (λ xs. ends_of ds c ++ xs) none ∙ append-nil (ends_of ds c)

pub ended_same : (ds : List Deed) (d : Deed) (c : ℕ) → of_call c d.does.ends ≡ [] → has_end (d ∷ ds) c ≡ has_end ds c
ended_same ds d c none = ap (λ xs. not (is_empty xs)) (ends_same ds d c none)

-- the deed begins and ends no run of c, replaces no handler of it and drops nothing of it
pub record Passes (d : Deed) (c : ℕ) : Type 0 where
  pub starts : is_start_of c d.entry.kind ≡ false
  pub finishes : is_finish_of c d.entry.kind ≡ false
  pub replaces : is_replace_of c d.entry.kind ≡ false
  pub kept : drops_of d c ≡ false

-- the runs of c are as they were
pub record SameRuns (rule : HandlerRule) (set : Setting) (ds : List Deed) (d : Deed) (c : ℕ) : Type 0 where
  pub taken : events_taken (d ∷ ds) c ≡ events_taken ds c
  pub runner : runner_of (d ∷ ds) c ≡ runner_of ds c
  pub took : taken_event (d ∷ ds) c ≡ taken_event ds c
  pub before : state_before_run rule set (d ∷ ds) c ≡ state_before_run rule set ds c
  pub began : began_since (d ∷ ds) c ≡ began_since ds c
  pub done : finished_since (d ∷ ds) c ≡ finished_since ds c
  pub state : state_set rule set (d ∷ ds) c ≡ state_set rule set ds c

pub same_runs : (rule : HandlerRule) (set : Setting) (ds : List Deed) (d : Deed) (c : ℕ) → Passes d c → opens_call ds d c ≡ false → SameRuns rule set ds d c
same_runs rule set ds d c p closed = record {
  taken = rw p.starts refl;
  runner = rw (p.starts, p.finishes) refl;
  took = rw p.starts refl;
  before = rw p.starts refl;
  began = rw (p.starts, closed, p.replaces) refl;
  done = rw (closed, p.replaces, p.finishes) refl;
  state = rw (p.replaces, closed) refl;
}
