-- What each kind of entry does to each call.
use Rattle.std.proofs.Common.{◌≡◌, ℕ, Bool, true, false, ◌&&◌, ◌||◌, ◌==◌, [], ◌∷◌, Some, if◌then◌else◌, refl, ◌∙◌}
use Rattle.std.proofs.lemmas.Bool.{false≢true}
use Rattle.std.specs.List.{list_any}
use Rattle.rpc_ids.specs.declared.status.Status.{Status}
use Rattle.rpc_ids.specs.declared.status.Status.TheVariants.{Cancelled, InvalidArgument}
use Rattle.rpc_ids.specs.declared.method.MethodRef.{MethodRef}
use Rattle.rpc_packet.specs.declared.owned.Packet.{Packet}
use Rattle.rpc_packet.specs.declared.packet_type.PacketType.TheVariants.{Request}
use Rattle.rpc_handlers.specs.declared.event.Event.{Event}
use Rattle.rpc_handlers.specs.declared.event.Event.TheVariants.{Request as Requested}
use Rattle.rpc_handlers.specs.declared.event.Memo.{Memo}
use Rattle.rpc_journal.specs.declared.entry.EntryKind.TheVariants.{Arrive, Invoke, Start}
use Rattle.rpc_journal.specs.Calls.{is_start_of, is_finish_of, is_cancel_of}
use Rattle.rpc_journal.specs.ClientTable.{refuses_stream}
use Rattle.rpc_journal.specs.Effect.{Deed, Effect}
use Rattle.rpc_journal.specs.Items.{is_for, sends_completion}
use Rattle.rpc_journal.specs.Rows.{both_effects, ends_and_clears, ends_call, no_effect, opens_served, puts_event, packet_item}
use Rattle.rpc_journal.specs.table.Touch.{Touches, untouched, starting, closing, putting, ending, answering}
use Rattle.rpc_journal.specs.History.{deed_by}

pub never : {A : Type 0} → false ≡ true → A
never h = absurd (false≢true h)

-- an entry that starts, ends and cancels no run, and whose effect says that it does nothing to a call
pub record IsIdle (d : Deed) : Type 0 where
  pub start : (k : ℕ) → is_start_of k d.entry.kind ≡ false
  pub finish : (k : ℕ) → is_finish_of k d.entry.kind ≡ false
  pub cancel : (k : ℕ) → is_cancel_of k d.entry.kind ≡ false
  pub ends : d.does.ends ≡ []
  pub drops : d.does.drops ≡ []
  pub puts : d.does.puts ≡ []
  pub says : (k : ℕ) → list_any (λ item. is_for k item.call && sends_completion item.act) d.does.says ≡ false

pub idle_touches : (d : Deed) (k : ℕ) → IsIdle d → Touches d k untouched
idle_touches d k idle = record {
  starts = rw (idle.start k) refl;
  finishes = idle.finish k;
  cancels = idle.cancel k;
  completes = idle.says k;
  ends = rw (idle.ends) refl;
  clears = rw (idle.drops) refl;
  puts = rw (idle.puts) refl;
  alone = never;
}

pub start_touches : (seat c k : ℕ) (b : Bool) → (c == k) ≡ b → Touches (deed_by seat (Start c) no_effect) k (if b then starting seat else untouched)
start_touches seat c k true is =
    record { starts = rw is refl; finishes = refl; cancels = refl; completes = refl; ends = refl; clears = refl; puts = refl; alone = λ h. (refl, refl) }
start_touches seat c k false is =
    record { starts = rw is refl; finishes = refl; cancels = refl; completes = refl; ends = refl; clears = refl; puts = refl; alone = never }

pub close_touches : (seat c k : ℕ) (p : Packet) (s : Status) (b : Bool) → (c == k) ≡ b
    → Touches (deed_by seat (Arrive p) (ends_and_clears c s)) k (if b then closing s else untouched)
close_touches seat c k p s true is =
    record { starts = refl; finishes = refl; cancels = refl; completes = refl; ends = rw is refl; clears = rw is refl; puts = rw is refl; alone = never }
close_touches seat c k p s false is =
    record { starts = refl; finishes = refl; cancels = refl; completes = refl; ends = rw is refl; clears = rw is refl; puts = rw is refl; alone = never }

pub put_touches : (seat c k : ℕ) (p : Packet) (event : Event) (b : Bool) → (c == k) ≡ b
    → Touches (deed_by seat (Arrive p) (puts_event c event)) k (if b then putting event else untouched)
put_touches seat c k p event true is =
    record { starts = refl; finishes = refl; cancels = refl; completes = refl; ends = refl; clears = refl; puts = rw is refl; alone = never }
put_touches seat c k p event false is =
    record { starts = refl; finishes = refl; cancels = refl; completes = refl; ends = refl; clears = refl; puts = rw is refl; alone = never }

pub open_touches : (seat n k : ℕ) (p : Packet) (m : MethodRef) (b : Bool) → (n == k) ≡ b
    → Touches (deed_by seat (Arrive p) (opens_served p m n)) k (if b then putting (Requested p.payload) else untouched)
open_touches seat n k p m true is =
    record { starts = refl; finishes = refl; cancels = refl; completes = refl; ends = refl; clears = refl; puts = rw is refl; alone = never }
open_touches seat n k p m false is =
    record { starts = refl; finishes = refl; cancels = refl; completes = refl; ends = refl; clears = refl; puts = rw is refl; alone = never }

-- a call opens in the place of another one of its name
pub anew_touches : (seat n c k : ℕ) (p : Packet) (m : MethodRef) (b q : Bool) → (c == k) ≡ b → (n == k) ≡ q → (b ≡ true → q ≡ false)
    → Touches (deed_by seat (Arrive p) (both_effects (ends_and_clears c Cancelled) (opens_served p m n))) k
    (if b then closing Cancelled else if q then putting (Requested p.payload) else untouched)
anew_touches seat n c k p m true q is at apart =
    let other : (n == k) ≡ false = at ∙ apart refl in
    record { starts = refl; finishes = refl; cancels = refl; completes = refl; ends = rw is refl; clears = rw is refl; puts = rw (is, other) refl; alone = never }
anew_touches seat n c k p m false true is at apart =
    record { starts = refl; finishes = refl; cancels = refl; completes = refl; ends = rw is refl; clears = rw is refl; puts = rw (is, at) refl; alone = never }
anew_touches seat n c k p m false false is at apart =
    record { starts = refl; finishes = refl; cancels = refl; completes = refl; ends = rw is refl; clears = rw is refl; puts = rw (is, at) refl; alone = never }

-- an arrival ends a call behind what waits for it
pub end_touches : (seat c k : ℕ) (p : Packet) (s : Status) (b : Bool) → (c == k) ≡ b
    → Touches (deed_by seat (Arrive p) (ends_call c s)) k (if b then ending s else untouched)
end_touches seat c k p s true is =
    record { starts = refl; finishes = refl; cancels = refl; completes = refl; ends = rw is refl; clears = refl; puts = rw is refl; alone = never }
end_touches seat c k p s false is =
    record { starts = refl; finishes = refl; cancels = refl; completes = refl; ends = rw is refl; clears = refl; puts = rw is refl; alone = never }

none_either : (b : Bool) → ((b && false) || false) ≡ false
none_either true = refl
none_either false = refl

-- the same, and the server is told
pub refuse_touches : (seat c k : ℕ) (p : Packet) (b : Bool) → (c == k) ≡ b
    → Touches (deed_by seat (Arrive p) (refuses_stream p c)) k (if b then ending InvalidArgument else untouched)
refuse_touches seat c k p true is =
    record { starts = refl; finishes = refl; cancels = refl; completes = none_either (c == k); ends = rw is refl; clears = refl; puts = rw is refl; alone = never }
refuse_touches seat c k p false is =
    record { starts = refl; finishes = refl; cancels = refl; completes = none_either (c == k); ends = rw is refl; clears = refl; puts = rw is refl; alone = never }

-- the same, and an event waits before the end
pub answer_touches : (seat c k : ℕ) (p : Packet) (event : Event) (s : Status) (b : Bool) → (c == k) ≡ b
    → Touches (deed_by seat (Arrive p) (both_effects (puts_event c event) (ends_call c s))) k (if b then answering event s else untouched)
answer_touches seat c k p event s true is =
    record { starts = refl; finishes = refl; cancels = refl; completes = refl; ends = rw is refl; clears = refl; puts = rw is refl; alone = never }
answer_touches seat c k p event s false is =
    record { starts = refl; finishes = refl; cancels = refl; completes = refl; ends = rw is refl; clears = refl; puts = rw is refl; alone = never }

-- what a client's Invoke does where it opens a call
abbrev pub invoked_effect : ℕ → Packet → Memo → MethodRef → Effect
invoked_effect n p memo m =
    record no_effect { opens = Some (record { name = p.name; method = m; given = Some memo }); says = packet_item n p ∷ [] }

-- a REQUEST completes no stream
pub invoke_touches : (seat n k : ℕ) (p : Packet) (memo : Memo) (m : MethodRef) → p.ptype ≡ Request
    → Touches (deed_by seat (Invoke p memo) (invoked_effect n p memo m)) k untouched
invoke_touches seat n k p memo m request = record {
  starts = refl;
  finishes = refl;
  cancels = refl;
  completes = rw request (none_either (n == k));
  ends = refl;
  clears = refl;
  puts = refl;
  alone = never;
}
