-- The run of a call for which one event waits, at a table where nothing else does.
use Rattle.std.proofs.Common.{◌≡◌, ℕ, zero, suc, ◌+◌, Bool, true, false, not, ◌&&◌, ◌==◌, List, [], ◌∷◌, ◌++◌, length, map, drop, fold, slice_get, Option, Some, None, option_map, option_to_list, if◌then◌else◌, refl, ap, sym, ◌∙◌, inr, arith, length-append}
use Rattle.std.proofs.lemmas.Bool.{true≢false, eqb-true, eq-eqb}
use Rattle.std.proofs.lemmas.List.{append-nil}
use Rattle.std.proofs.lemmas.List.Sums.{fold_push}
use Rattle.std.proofs.Math.Seq.{drop-length}
use Rattle.std.specs.List.{list_any}
use Rattle.rpc_ids.specs.declared.status.Status.{Status}
use Rattle.rpc_ids.specs.declared.method.Role.{Role}
use Rattle.rpc_ids.specs.declared.method.Role.TheVariants.{Server, Client}
use Rattle.rpc_handlers.specs.declared.answer.Answer.{Answer}
use Rattle.rpc_handlers.specs.declared.event.Event.{Event}
use Rattle.rpc_handlers.specs.declared.event.Memo.{Memo}
use Rattle.rpc_handlers.specs.HandlerRule.{HandlerRule}
use Rattle.rpc_journal.specs.declared.entry.EntryKind.TheVariants.{Start, Finish, Flush}
use Rattle.rpc_journal.specs.declared.item.Item.{Item}
use Rattle.rpc_journal.specs.declared.setting.Setting.{Setting}
use Rattle.rpc_journal.specs.declared.waiting.Waiting.{Waiting}
use Rattle.rpc_journal.specs.Calls.{is_cancelled, runner_of}
use Rattle.rpc_journal.specs.Choice.{GoesBefore, IsFirstReady, NoneReady, oldest_place}
use Rattle.rpc_journal.specs.Effect.{Deed, Opening}
use Rattle.rpc_journal.specs.Entries.{answered, effect_of, end_effect, finish_effect, is_heard, leave_item, was_ended}
use Rattle.rpc_journal.specs.History.{entry_by}
use Rattle.rpc_journal.specs.Items.{flush_count, halt_reason, is_done, is_for, is_ready, items_sent, items_waiting, sends_completion}
use Rattle.rpc_journal.specs.Kinds.{is_empty}
use Rattle.rpc_journal.specs.Queues.{is_ended, puts_since, starts_since, taken_event, waiting_of}
use Rattle.rpc_journal.specs.Rows.{both_effects, no_effect, says_item}
use Rattle.rpc_journal.specs.States.{began_since, finished_since, state_before_run, state_of, state_set}
use Rattle.rpc_journal.proofs.PlaceLemmas.{some_same}
use Rattle.history_laws.specs.rounds.Streams.{HasStream, IsAtRest, items_of}
use Rattle.history_laws.proofs.rounds.StreamLemmas.{plain_deed, plain-call_at, plain-ends_of, plain_stream}

-- c's run begins, it finishes, and an item is flushed
abbrev pub start_deed : ℕ → Deed
start_deed c = plain_deed (entry_by 2 (Start c)) None [] []

abbrev pub finish_deed : ℕ → Answer → List Item → Deed
finish_deed c a says = plain_deed (entry_by 2 (Finish c a)) None [] says

abbrev pub flush_deed : Deed
flush_deed = plain_deed (entry_by 1 Flush) None [] []

-- where all that was put was taken nothing waits
pub none_left : (ds : List Deed) (k : ℕ) → starts_since ds k ≡ length (puts_since ds k) → waiting_of ds k ≡ []
none_left ds k taken = ap (λ n. drop n (puts_since ds k)) taken ∙ drop-length (puts_since ds k)

pub none_ready : (ds : List Deed) (k : ℕ) → waiting_of ds k ≡ [] → is_ready ds k ≡ false
none_ready ds k none = rw none refl

-- an event waits for c, nothing else waits or runs, and nothing was halted
pub record WaitsAlone (ds : List Deed) (c : ℕ) (w : Waiting) : Type 0 where
  pub waits : waiting_of ds c ≡ w ∷ []
  pub one : starts_since ds c + 1 ≡ length (puts_since ds c)
  pub taken : (k : ℕ) → (c == k) ≡ false → starts_since ds k ≡ length (puts_since ds k)
  pub idle : (k : ℕ) → runner_of ds k ≡ None
  pub flushed : flush_count ds ≡ length (items_sent ds)
  pub unhalted : halt_reason ds ≡ None

module _ (ds : List Deed) (c : ℕ) (w : Waiting) (alone : WaitsAlone ds c w) where
  none_waiting : items_waiting ds ≡ 0
  none_waiting = omega (arith, alone.flushed)

  is_alone : is_cancelled ds c ≡ false → is_ready ds c ≡ true
  is_alone uncancelled = rw (alone.waits, alone.idle c, uncancelled, none_waiting, alone.unhalted) refl

  goes_before : (k : ℕ) → is_ready ds k ≡ true → GoesBefore ds c k
  goes_before k ready = at (c == k) refl
    where
      at : (b : Bool) → (c == k) ≡ b → GoesBefore ds c k
      at true same = inr (ap (oldest_place ds) (eqb-true c k same), omega (arith, eqb-true c k same))
      at false apart = absurd (true≢false (sym ready ∙ none_ready ds k (none_left ds k (alone.taken k apart))))

  pub alone_first : is_cancelled ds c ≡ false → IsFirstReady ds c
  alone_first uncancelled = record { ready = is_alone uncancelled; first = goes_before }

-- c's run, between its deeds
module _ (rule : HandlerRule) (set : Setting) (ds : List Deed) (c : ℕ) (w : Waiting) (alone : WaitsAlone ds c w) (o : Opening) (m : Memo) (stream : HasStream rule set ds c o m) where
  abbrev begun : List Deed
  begun = start_deed c ∷ ds

  own : (c == c) ≡ true
  own = eq-eqb c c refl

  pub took : taken_event begun c ≡ Some w.event
  took =
      ap (λ b. if b then slice_get (map (λ (x : Waiting). x.event) (waiting_of ds c)) 0 else taken_event ds c) own
      ∙ ap (λ ws. slice_get (map (λ (x : Waiting). x.event) ws) 0) alone.waits

  pub before_run : state_before_run rule set begun c ≡ Some m
  before_run = ap (λ b. if b then state_of rule set ds c else state_before_run rule set ds c) own ∙ stream.state

  done : is_done begun c ≡ is_done ds c
  done = ap (λ (items : List Item). list_any (λ item. is_for c item.call && sends_completion item.act) items) (append-nil (items_sent ds))

  end_none : (role : Role) (b : Bool) → end_effect role c o.name o.method.kind b None ≡ no_effect
  end_none Server b = refl
  end_none Client b = refl

  module _ (going : is_ended w.event ≡ false) (a : Answer) (endless : a.end ≡ None) where
    heard : is_heard begun c ≡ true
    heard =
        ap (λ (es : List Status). not (not (is_empty es)) && not (was_ended (taken_event begun c))) (plain-ends_of ds (entry_by 2 (Start c)) None [] [] c ∙ stream.unended)
        ∙ (ap (λ t. not (was_ended t)) took ∙ ap not going)

    said : answered set.role c o true (is_done ds c) a ≡ record no_effect { says = items_of set ds c o a }
    said =
        ap (λ e. both_effects (record no_effect { says = items_of set ds c o a }) (end_effect set.role c o.name o.method.kind (is_done ds c) e)) endless
        ∙ (ap (both_effects (record no_effect { says = items_of set ds c o a })) (end_none set.role (is_done ds c))
        ∙ ap (λ says. record no_effect { says = says }) (append-nil (items_of set ds c o a)))

    pub finish_says : effect_of set begun (Finish c a) ≡ record no_effect { says = items_of set ds c o a }
    finish_says =
        ap (finish_effect set begun c a) (plain-call_at ds (entry_by 2 (Start c)) [] [] c ∙ stream.opened)
        ∙ (ap (λ b. if b then says_item (leave_item c) else answered set.role c o (is_heard begun c) (is_done begun c) a) stream.uncancelled
        ∙ (ap (λ b. answered set.role c o b (is_done begun c) a) heard
        ∙ (ap (λ b. answered set.role c o true b a) done ∙ said)))

-- where c has run nothing waits and nothing runs
module _ (ds : List Deed) (c : ℕ) (w : Waiting) (alone : WaitsAlone ds c w) (a : Answer) (says : List Item) where
  abbrev pub ended : List Deed
  ended = finish_deed c a says ∷ start_deed c ∷ ds

  pub ended_taken : (k : ℕ) → starts_since ended k ≡ length (puts_since ended k)
  ended_taken k = at (c == k) refl
    where
      at : (b : Bool) → (c == k) ≡ b → (if b then starts_since ds k + 1 else starts_since ds k) ≡ length ((puts_since ds k ++ []) ++ [])
      at true same =
          ap (λ x. starts_since ds x + 1) (sym (eqb-true c k same))
          ∙ (alone.one ∙ (ap (λ x. length (puts_since ds x)) (eqb-true c k same) ∙ ap length (sym (append-nil (puts_since ds k ++ []) ∙ append-nil (puts_since ds k)))))
      at false apart = alone.taken k apart ∙ ap length (sym (append-nil (puts_since ds k ++ []) ∙ append-nil (puts_since ds k)))

  pub ended_idle : (k : ℕ) → runner_of ended k ≡ None
  ended_idle k = at (c == k)
    where
      at : (b : Bool) → (if b then None else if b then Some 2 else runner_of ds k) ≡ None
      at true = refl
      at false = alone.idle k

  pub ended_ready : NoneReady ended
  ended_ready k = none_ready ended k (none_left ended k (ended_taken k))

  pub ended_sent : items_sent ended ≡ items_sent ds ++ says
  ended_sent = ap (λ items. items ++ says) (append-nil (items_sent ds))

  pub ended_waiting : flush_count ended + length says ≡ length (items_sent ended)
  ended_waiting = rw ended_sent (omega (arith, alone.flushed, length-append (items_sent ds) says))

-- the streams once c has run
module _ (rule : HandlerRule) (set : Setting) (ds : List Deed) (c : ℕ) (w : Waiting) (alone : WaitsAlone ds c w) (a : Answer) (says : List Item) where
  begun_stream : (k : ℕ) (o : Opening) (m : Memo) → HasStream rule set ds k o m → HasStream rule set (start_deed c ∷ ds) k o m
  begun_stream k o m stream =
      plain_stream ds (entry_by 2 (Start c)) None [] [] rule set k o m m stream (plain-call_at ds (entry_by 2 (Start c)) [] [] k) refl refl refl refl stream.state

  finished_stream : (k : ℕ) (o : Opening) (m next : Memo) → HasStream rule set ds k o m → state_of rule set (ended ds c w alone a says) k ≡ Some next
      → HasStream rule set (ended ds c w alone a says) k o next
  finished_stream k o m next stream state =
      plain_stream (start_deed c ∷ ds) (entry_by 2 (Finish c a)) None [] says rule set k o m next (begun_stream k o m stream)
      (plain-call_at (start_deed c ∷ ds) (entry_by 2 (Finish c a)) [] says k) refl refl refl refl state

  next_state : (state : Option Memo) (events : List Event) (event : Event) (m : Memo) → option_map (λ x. fold rule.next x events) state ≡ Some m
      → option_map (λ x. fold rule.next x (events ++ event ∷ [])) state ≡ Some (rule.next m event)
  next_state None events event m is = absurd cc
  next_state (Some x) events event m is = ap Some (fold_push rule.next x events event ∙ ap (λ y. rule.next y event) (some_same (fold rule.next x events) m is))

  pub run_events : taken_event (start_deed c ∷ ds) c ≡ Some w.event → finished_since (ended ds c w alone a says) c ≡ finished_since ds c ++ w.event ∷ []
  run_events event =
      ap (λ b. if b && (if b then true else began_since ds c) then finished_since ds c ++ option_to_list (taken_event (start_deed c ∷ ds) c) else finished_since ds c) (eq-eqb c c refl)
      ∙ ap (λ t. finished_since ds c ++ option_to_list t) event

  pub ended_stream : (o : Opening) (m : Memo) → HasStream rule set ds c o m → HasStream rule set (ended ds c w alone a says) c o (rule.next m w.event)
  ended_stream o m stream =
      finished_stream c o m (rule.next m w.event) stream
      (ap (λ events. option_map (λ x. fold rule.next x events) (state_set rule set ds c)) (run_events (took rule set ds c w alone o m stream))
      ∙ next_state (state_set rule set ds c) (finished_since ds c) w.event m stream.state)

  pub ended_other : (k : ℕ) (o : Opening) (m : Memo) → (c == k) ≡ false → HasStream rule set ds k o m → HasStream rule set (ended ds c w alone a says) k o m
  ended_other k o m apart stream = finished_stream k o m m stream (rw apart stream.state)

-- so many flushes
abbrev pub after_flushes : ℕ → List Deed → List Deed
after_flushes zero ds = ds
after_flushes (suc n) ds = after_flushes n (flush_deed ∷ ds)

pub flushes_rest : (n : ℕ) (ds : List Deed) → ((k : ℕ) → starts_since ds k ≡ length (puts_since ds k)) → ((k : ℕ) → runner_of ds k ≡ None)
    → flush_count ds + n ≡ length (items_sent ds) → halt_reason ds ≡ None → IsAtRest (after_flushes n ds)
flushes_rest zero ds taken idle flushed unhalted = record { taken = taken; idle = idle; flushed = omega (arith, flushed); unhalted = unhalted }
flushes_rest (suc n) ds taken idle flushed unhalted =
    flushes_rest n (flush_deed ∷ ds) (λ k. taken k ∙ ap length (sym (append-nil (puts_since ds k)))) idle
    (omega (arith, flushed, length-append (items_sent ds) [])) unhalted

pub flushes_sent : (n : ℕ) (ds : List Deed) → items_sent (after_flushes n ds) ≡ items_sent ds
flushes_sent zero ds = refl
flushes_sent (suc n) ds = flushes_sent n (flush_deed ∷ ds) ∙ append-nil (items_sent ds)

pub flushes_stream : (rule : HandlerRule) (set : Setting) (n : ℕ) (ds : List Deed) (k : ℕ) (o : Opening) (m : Memo) → HasStream rule set ds k o m
    → HasStream rule set (after_flushes n ds) k o m
flushes_stream rule set zero ds k o m stream = stream
flushes_stream rule set (suc n) ds k o m stream =
    flushes_stream rule set n (flush_deed ∷ ds) k o m
    (plain_stream ds (entry_by 1 Flush) None [] [] rule set k o m m stream (plain-call_at ds (entry_by 1 Flush) [] [] k) refl refl refl refl stream.state)
