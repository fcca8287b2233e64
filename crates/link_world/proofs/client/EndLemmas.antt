-- The client's end between two things that come to it.
use Rattle.std.proofs.Common.{◌≡◌, ℕ, ◌<◌, Bool, true, false, List, [], ◌∷◌, reverse, not, slice_get, Option, Some, None, if◌then◌else◌, refl, ap, sym, ◌∙◌, subst, append-nil}
use Rattle.std.proofs.lemmas.Bool.{true≢false}
use Rattle.link_io.specs.Stored.{Stored}
use Rattle.rpc_ids.specs.declared.status.Status.{Status}
use Rattle.rpc_handlers.specs.HandlerRule.{HandlerRule}
use Rattle.rpc_journal.specs.declared.answers.Cancelled.{Cancelled}
use Rattle.rpc_journal.specs.Changes.{CancelDid}
use Rattle.rpc_journal.specs.Kinds.{is_empty}
use Rattle.rpc_journal.specs.Lawful.{IsLegal}
use Rattle.rpc_journal.proofs.EndLemmas.{ended_known}
use Rattle.rpc_journal.proofs.EndedLemmas.{cancelled_ends}
use Rattle.rpc_schedule.specs.Schedule.{run_seat}
use Rattle.rpc_schedule.specs.ends.EndState.{EndState, KeepsAside}
use Rattle.rpc_ids.specs.declared.method.Role.TheVariants.{Client}
use Rattle.rpc_handlers.specs.declared.event.Event.{Event}
use Rattle.rpc_journal.specs.declared.entry.Entry.{Entry}
use Rattle.rpc_journal.specs.declared.entry.EntryKind.{EntryKind}
use Rattle.rpc_journal.specs.declared.entry.EntryKind.TheVariants.{Cancel}
use Rattle.rpc_journal.specs.declared.item.Item.{Item}
use Rattle.rpc_journal.specs.declared.setting.Setting.{Setting}
use Rattle.rpc_journal.specs.Calls.{call_at, call_count, calls, end_of, ends_of, has_end, is_cancelled, is_finish_of, is_replace_of, is_start_of}
use Rattle.rpc_journal.specs.Effect.{Deed, Opening}
use Rattle.rpc_journal.specs.Entries.{cancel_effect, effect_of}
use Rattle.rpc_journal.specs.History.{adding, entry_by, history}
use Rattle.rpc_journal.specs.Items.{input_ended, is_flush, is_for}
use Rattle.rpc_journal.specs.Rows.{channel_closed}
use Rattle.rpc_journal.specs.States.{finished_since}
use Rattle.rpc_journal.proofs.PlaceLemmas.{some_same}
use Rattle.rpc_journal.proofs.Push.{history-push}
use Rattle.rpc_schedule.specs.Kept.{Holds, kept}
use Rattle.rpc_schedule.specs.OneThread.{takes_room}
use Rattle.rpc_schedule.specs.Serving.{Serving, deeds, with_entry}
use Rattle.link_laws.specs.world.Client.{ClientSettles}
use Rattle.link_laws.specs.world.Setup.{client_setting}
use Rattle.link_world.specs.server.Resting.{IsResting}
use Rattle.link_world.specs.server.GoesOut.{GoesOut}
use Rattle.link_laws.specs.world.Wiring.{Wiring}
use Rattle.link_world.proofs.server.RestLemmas.{entered_is, enters}
use Rattle.link_world.specs.declared.client.under.Under.{Under}
use Rattle.link_world.specs.client.ClientSide.{ClientMoves, ClientRests, ClientState, ClientWorks}
use Rattle.link_world.specs.client.Working.{IsKept, Settled}
use Rattle.link_world.specs.Room.{has_kept_room}
use Rattle.link_world.proofs.RoomLemmas.{within_kept}
use Rattle.link_world.proofs.client.NumberLemmas.{numbered_entry}

pub moves_by : (before after : ClientState) (old new : Wiring) → after.end.serving.table.setting ≡ before.end.serving.table.setting
    → GoesOut Client before.items old after.items new
    → ((st : Option Stored) → Holds before.items st (Some before.stored) → Holds after.items st (Some after.stored))
    → ClientMoves before old after new
moves_by before after old new setting out holds = record {
  setting = setting;
  out = out;
  kept = λ st was. some_same after.stored (kept after.items st) (holds (Some st) (ap Some was));
}

pub rests_by : (s : ClientState) → IsResting s.end.serving → IsKept s.end.serving s.items s.events → ClientRests s
rests_by s rest k = record { resting = rest; setting = k.setting; items = k.items; events = k.events; numbered = k.numbered }

pub kept_by : (s : ClientState) → ClientRests s → IsKept s.end.serving s.items s.events
kept_by s rest = record { orderly = rest.resting.orderly; room = rest.resting.room; setting = rest.setting; items = rest.items; events = rest.events; numbered = rest.numbered }

-- the client is at rest behind its work
pub rests_then : (now : ℕ) (old new : Serving) (u1 u2 : Option Under) (items : List Item) (events : List (ℕ × Event)) → old.refused ≡ None → input_ended (deeds old) ≡ false
    → Settled now old u1 new u2 → IsKept new items events → IsResting new
rests_then now old new u1 u2 items events accepts unended settled k = record {
  orderly = k.orderly;
  accepts = settled.stays.refused ∙ accepts;
  idle = settled.idle;
  unended = settled.stays.input ∙ unended;
  over = settled.over;
  room = k.room;
}

-- an entry that opens no call, ends no run and closes no channel 1: what is kept is as it was
pub entered_kept : (old : Serving) (items : List Item) (events : List (ℕ × Event)) (seat : ℕ) (kind : EntryKind) → IsKept old items events
    → (effect_of old.table.setting (deeds old) kind).opens ≡ None
    → ((k : ℕ) → is_start_of k kind ≡ false) → ((k : ℕ) → is_finish_of k kind ≡ false) → ((k : ℕ) → is_replace_of k kind ≡ false)
    → is_flush kind ≡ false → takes_room kind ≡ false → has_kept_room kind ≡ true → is_for 1 (channel_closed kind) ≡ false
    → IsKept (with_entry old seat kind) items events
entered_kept old items events seat kind k opens start finish replace flush room kept closes =
    let set = old.table.setting in
    let h = old.table.entries in
    let enter = enters old seat kind k.orderly start finish flush room in
    record {
      orderly = enter.orderly;
      room = within_kept h seat kind k.room kept;
      setting = k.setting;
      items = k.items ∙ sym enter.items;
      events = λ c. ap (λ ds. finished_since ds c) (history-push set h (entry_by seat kind)) ∙ (rw (opens, replace c, finish c) refl ∙ k.events c);
      numbered = numbered_entry set h (entry_by seat kind) closes (rw opens tt) k.numbered;
    }

pub entered_calls : (old : Serving) (seat : ℕ) (kind : EntryKind) → (effect_of old.table.setting (deeds old) kind).opens ≡ None
    → calls (deeds (with_entry old seat kind)) ≡ calls (deeds old)
entered_calls old seat kind opens =
    let set = old.table.setting in
    let h = old.table.entries in
    ap calls (history-push set h (entry_by seat kind)) ∙ rw opens (append-nil (calls (history set h)))

cut_opens : (set : Setting) (ds : List Deed) (c : ℕ) (o : Option Opening) → (cancel_effect set ds c o).opens ≡ None
cut_opens set ds c None = refl
cut_opens set ds c (Some o) = refl

pub cancel_opens : (set : Setting) (ds : List Deed) (c : ℕ) → (effect_of set ds (Cancel c)).opens ≡ None
cancel_opens set ds c = cut_opens set ds c (call_at ds c)

-- the work while no task speaks
pub settles_alone : (now : ℕ) (before after : List Entry) → ClientWorks now before None after None → ClientSettles client_setting now before None after None
settles_alone now before after w = subst (ClientSettles client_setting now before None after) w.settles.task_is w.settles

unended_none : (ends : List Status) → not (is_empty ends) ≡ false → None ≡ slice_get ends 0
unended_none [] none = refl
unended_none (x ∷ ends) some = absurd (true≢false some)

-- a call that isn't there has no end
pub end_none : (set : Setting) (h : List Entry) (c : ℕ) → (c < call_count (history set h) → ⊥) → None ≡ end_of (history set h) c
end_none set h c beyond = unended_none (ends_of (history set h) c) (at (has_end (history set h) c) refl)
  where
    at : (b : Bool) → has_end (history set h) c ≡ b → has_end (history set h) c ≡ false
    at true is = absurd (beyond (ended_known set (reverse h) c is))
    at false is = is

none_empty : (ends : List Status) → slice_get ends 0 ≡ None → not (is_empty ends) ≡ false
none_empty [] none = refl
none_empty (x ∷ ends) some = absurd cc

-- a call without an end wasn't cancelled
pub open_uncancelled : (rule : HandlerRule) (set : Setting) (h : List Entry) (c : ℕ) → IsLegal rule set h → end_of (history set h) c ≡ None → is_cancelled (history set h) c ≡ false
open_uncancelled rule set h c legal open_still = at (is_cancelled (history set h) c) refl
  where
    at : (b : Bool) → is_cancelled (history set h) c ≡ b → is_cancelled (history set h) c ≡ false
    at true is = absurd (true≢false (sym (cancelled_ends set (reverse h) c legal.lawful.allowed is) ∙ none_empty (ends_of (history set h) c) open_still))
    at false is = is

-- the client behind a Cancel
pub cancelled_is : (rule : HandlerRule) (old new : EndState) (c : ℕ) (result : Cancelled) → CancelDid old.serving.table.setting run_seat c result old.serving.table.entries new.serving.table.entries
    → KeepsAside old new → IsLegal rule old.serving.table.setting old.serving.table.entries → end_of (deeds old.serving) c ≡ None
    → new.serving ≡ with_entry old.serving run_seat (Cancel c)
cancelled_is rule old new c result did aside legal open_still =
    entered_is old new run_seat (Cancel c) aside
    (did.adds ∙ ap (λ b. if b then old.serving.table.entries else adding old.serving.table.entries run_seat (Cancel c))
    (open_uncancelled rule old.serving.table.setting old.serving.table.entries c legal open_still))
