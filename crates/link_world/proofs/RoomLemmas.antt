-- Which entries had room.
use Rattle.std.proofs.Common.{◌≡◌, ◌⊎◌, ℕ, zero, suc, ◌<◌, Bool, true, false, List, [], ◌∷◌, ◌++◌, length, slice_get, Option, Some, None, is_none, option_map, not, refl, ap, sym, subst, inl, inr, arith, ◌∙◌}
use Rattle.std.proofs.lemmas.Bool.{true≢false}
use Rattle.rpc_channel.specs.Rising.{has_id}
use Rattle.rpc_handlers.specs.declared.answer.Out.{Out}
use Rattle.rpc_handlers.specs.HandlerRule.{HandlerRule}
use Rattle.rpc_packet.specs.declared.call_name.CallName.{CallName}
use Rattle.rpc_journal.specs.declared.entry.Entry.{Entry}
use Rattle.rpc_journal.specs.declared.entry.EntryKind.{EntryKind}
use Rattle.rpc_journal.specs.declared.entry.EntryKind.TheVariants.{Finish, Flush, Start}
use Rattle.rpc_journal.specs.declared.entry.TheConstants.{MAX_ENTRIES}
use Rattle.rpc_journal.specs.declared.setting.Setting.{Setting}
use Rattle.rpc_journal.specs.declared.answers.CloseRefused.TheVariants as close
use Rattle.rpc_journal.specs.declared.answers.InvokeRefused.TheVariants as invoke
use Rattle.rpc_journal.specs.declared.answers.SayRefused.TheVariants as say
use Rattle.rpc_journal.specs.declared.answers.StartRefused.TheVariants as start
use Rattle.rpc_journal.specs.Calls.{call_at, end_of, live_call}
use Rattle.rpc_journal.specs.History.{adding, entry_by, history}
use Rattle.rpc_journal.specs.Items.{is_done}
use Rattle.rpc_journal.specs.Kinds.{or_else}
use Rattle.rpc_journal.specs.Lawful.{is_unary_call}
use Rattle.rpc_journal.specs.Refusals.{close_refusal, done_refusal, invoke_refusal, is_full, out_refusal, refused_where, say_refusal, tick_refusal}
use Rattle.rpc_journal.specs.Rows.{channels_in, method_named}
use Rattle.rpc_schedule.specs.OneThread.{HasRoom, takes_room}
use Rattle.rpc_schedule.specs.Schedule.{Ran, Stage, Turn, Turns, flush_seat, run_seat}
use Rattle.rpc_schedule.specs.Schedule.Stage.{flushing, running}
use Rattle.rpc_schedule.specs.Serving.{Serving}
use Rattle.rpc_schedule.specs.Settling.{SettlesAll}
use Rattle.rpc_schedule.proofs.ServingLemmas.{below_full}
use Rattle.link_laws.specs.world.Client.{RunsTo}
use Rattle.link_world.specs.Room.{StaysWithin, has_kept_room}

-- of these entries all but arrivals and runs
abbrev OthersWithin : List Entry → Type 0
OthersWithin h = (at : ℕ) (e : Entry) → slice_get h at ≡ Some e → has_kept_room e.kind ≡ false → takes_room e.kind ≡ false → at < MAX_ENTRIES

others_in : (h : List Entry) → StaysWithin h → OthersWithin h
others_in h all at e there asks other = all at e there asks

all_in : (h : List Entry) → HasRoom h → OthersWithin h → StaysWithin h
all_in h room others at e there asks = by (takes_room e.kind) refl
  where
    by : (b : Bool) → takes_room e.kind ≡ b → at < MAX_ENTRIES
    by true takes = room at e there takes
    by false other = others at e there asks other

-- what stands in a history with one more entry stands in the history, or is that entry
get_push : (h : List Entry) (e x : Entry) (at : ℕ) → slice_get (h ++ e ∷ []) at ≡ Some x
    → (slice_get h at ≡ Some x) ⊎ ((at ≡ length h) × (e ≡ x))
get_push [] e x zero is = inr (refl, cc)
get_push [] e x (suc at) is = absurd cc
get_push (y ∷ h) e x zero is = inl is
get_push (y ∷ h) e x (suc at) is = later (get_push h e x at is)
  where
    later : (slice_get h at ≡ Some x) ⊎ ((at ≡ length h) × (e ≡ x)) → (slice_get (y ∷ h) (suc at) ≡ Some x) ⊎ ((suc at ≡ length (y ∷ h)) × (e ≡ x))
    later (inl there) = inl there
    later (inr last) = inr (ap suc last.0, last.1)

others_push : (h : List Entry) (e : Entry) → OthersWithin h → (has_kept_room e.kind ≡ false → takes_room e.kind ≡ false → length h < MAX_ENTRIES) → OthersWithin (h ++ e ∷ [])
others_push h e others fits at x there asks other = by_place (get_push h e x at there)
  where
    by_place : (slice_get h at ≡ Some x) ⊎ ((at ≡ length h) × (e ≡ x)) → at < MAX_ENTRIES
    by_place (inl before) = others at x before asks other
    by_place (inr last) =
        omega (arith, last.0, fits (subst (λ y. has_kept_room y.kind ≡ false) (sym last.1) asks) (subst (λ y. takes_room y.kind ≡ false) (sym last.1) other))

-- an entry more, which had room or whose room was kept
pub within_push : (h : List Entry) (e : Entry) → StaysWithin h → (has_kept_room e.kind ≡ false → length h < MAX_ENTRIES) → StaysWithin (h ++ e ∷ [])
within_push h e all fits at x there asks = by_place (get_push h e x at there)
  where
    by_place : (slice_get h at ≡ Some x) ⊎ ((at ≡ length h) × (e ≡ x)) → at < MAX_ENTRIES
    by_place (inl before) = all at x before asks
    by_place (inr last) = omega (arith, last.0, fits (subst (λ y. has_kept_room y.kind ≡ false) (sym last.1) asks))

pub within_adding : (h : List Entry) (seat : ℕ) (kind : EntryKind) → StaysWithin h → is_full h ≡ false → StaysWithin (adding h seat kind)
within_adding h seat kind all room = within_push h (entry_by seat kind) all (λ asks. below_full h room)

pub within_kept : (h : List Entry) (seat : ℕ) (kind : EntryKind) → StaysWithin h → has_kept_room kind ≡ true → StaysWithin (adding h seat kind)
within_kept h seat kind all kept = within_push h (entry_by seat kind) all (λ asks. absurd (true≢false (sym kept ∙ asks)))

pub within_none : (h : List Entry) → h ≡ [] → StaysWithin h
within_none h none = subst StaysWithin (sym none) (λ at e there asks. absurd cc)

ran_others : (rule : HandlerRule) (set : Setting) (h after : List Entry) → Ran rule set h after → OthersWithin h → OthersWithin after
ran_others rule set h after ran others =
    subst OthersWithin (sym ran.adds)
    (others_push (adding h run_seat (Start ran.call)) (entry_by run_seat (Finish ran.call ran.answer))
    (others_push h (entry_by run_seat (Start ran.call)) others (λ asks other. absurd (true≢false other)))
    (λ asks other. absurd (true≢false asks)))

runs_others : (rule : HandlerRule) (set : Setting) (n : ℕ) (h after : List Entry) → RunsTo rule set n h after → OthersWithin h → OthersWithin after
runs_others rule set zero h after same others = subst OthersWithin (sym same) others
runs_others rule set (suc n) h after runs others = runs_others rule set n runs.0 after runs.2 (ran_others rule set h runs.0 runs.1 others)

-- runs had room, where each Start had
pub runs_within : (rule : HandlerRule) (set : Setting) (n : ℕ) (h after : List Entry) → RunsTo rule set n h after → HasRoom after → StaysWithin h → StaysWithin after
runs_within rule set n h after runs room all = all_in after room (runs_others rule set n h after runs (others_in h all))

abbrev entries_at : Stage → List Entry
entries_at (running h) = h
entries_at (flushing h) = h

turn_others : (rule : HandlerRule) (set : Setting) (a b : Stage) → Turn rule set a b → OthersWithin (entries_at a) → OthersWithin (entries_at b)
turn_others rule set (running h) (running now) ran others = ran_others rule set h now ran others
turn_others rule set (running h) (flushing now) turn others = subst OthersWithin (sym turn.1) others
turn_others rule set (flushing h) (flushing now) flushed others =
    subst OthersWithin (sym flushed.adds) (others_push h (entry_by flush_seat Flush) others (λ asks other. absurd (true≢false asks)))
turn_others rule set (flushing h) (running now) turn others = subst OthersWithin (sym turn.2) others

turns_others : (rule : HandlerRule) (set : Setting) (n : ℕ) (a b : Stage) → Turns rule set n a b → OthersWithin (entries_at a) → OthersWithin (entries_at b)
turns_others rule set zero a b same others = subst (λ s. OthersWithin (entries_at s)) same others
turns_others rule set (suc n) a b turns others = turns_others rule set n turns.0 b turns.2 (turn_others rule set a turns.0 turns.1 others)

-- and so a settling
pub settled_within : (rule : HandlerRule) (mid new : Serving) → SettlesAll rule mid new → StaysWithin mid.table.entries → StaysWithin new.table.entries
settled_within rule mid new settles all =
    all_in new.table.entries settles.orderly.room
    (turns_others rule mid.table.setting settles.settles.reaches.0 (running mid.table.entries) (flushing new.table.entries) settles.settles.reaches.1 (others_in mid.table.entries all))

-- A table that refuses nothing isn't full.

pub unfull : {E : Type 0} (full : Bool) (why : E) (other : Option E) → or_else (refused_where full why) other ≡ None → full ≡ false
unfull true why other is = absurd cc
unfull false why other is = refl

pub invoked_unfull : (set : Setting) (h : List Entry) (name : CallName) → invoke_refusal set h name ≡ None → is_full h ≡ false
invoked_unfull set h name is =
    unfull (is_full h) invoke.JournalFull
    (or_else (refused_where (not (has_id (channels_in set (history set h)) name.channel)) invoke.NoChannel)
    (or_else (refused_where (is_none (method_named set name)) invoke.NoMethod)
    (option_map invoke.Live (live_call (history set h) name)))) is

pub said_unfull : (set : Setting) (h : List Entry) (c : ℕ) (out : Out) → say_refusal set h c out ≡ None → is_full h ≡ false
said_unfull set h c out is = unfull (is_full h) say.JournalFull (out_refusal set (history set h) c out) is

pub done_unfull : (set : Setting) (h : List Entry) (c : ℕ) → done_refusal set h c ≡ None → is_full h ≡ false
done_unfull set h c is =
    unfull (is_full h) say.JournalFull
    (or_else (option_map say.Closed (end_of (history set h) c))
    (or_else (refused_where (is_unary_call (call_at (history set h) c)) say.NoStream)
    (refused_where (is_done (history set h) c) say.Completed))) is

pub ticked_unfull : (h : List Entry) → tick_refusal h ≡ None → is_full h ≡ false
ticked_unfull h is = at (is_full h) is
  where
    at : (full : Bool) → refused_where full start.JournalFull ≡ None → full ≡ false
    at true none = absurd cc
    at false none = refl

pub closed_unfull : (set : Setting) (h : List Entry) (channel : ℕ) → close_refusal set h channel ≡ None → is_full h ≡ false
closed_unfull set h channel is = unfull (is_full h) close.JournalFull (refused_where (not (has_id (channels_in set (history set h)) channel)) close.NotIn) is
