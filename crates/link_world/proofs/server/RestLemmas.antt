-- Something comes to a server at rest, and it settles.
use Rattle.std.proofs.Common.{◌≡◌, ℕ, ◌+◌, ◌≤◌, Bool, true, false, ◌||◌, List, [], ◌∷◌, ◌++◌, length, take, Option, Some, None, Ok, if◌then◌else◌, refl, ap, sym, ◌∙◌, subst, inl, inr, arith, append_assoc, length-append}
use Rattle.std.proofs.lemmas.Bool.{true≢false, false≢true}
use Rattle.std.proofs.lemmas.List.{append-nil, take-append-le}
use Rattle.rpc_packet.specs.declared.owned.Packet.{Packet}
use Rattle.rpc_handlers.specs.HandlerRule.{HandlerRule}
use Rattle.rpc_journal.specs.declared.answers.StartRefused.{StartRefused}
use Rattle.rpc_journal.specs.declared.entry.Entry.{Entry}
use Rattle.rpc_journal.specs.declared.entry.EntryKind.{EntryKind}
use Rattle.rpc_journal.specs.declared.entry.EntryKind.TheVariants.{Arrive}
use Rattle.rpc_journal.specs.declared.item.Item.{Item}
use Rattle.rpc_journal.specs.declared.setting.Setting.{Setting}
use Rattle.rpc_journal.specs.Calls.{runner_of, is_start_of, is_finish_of}
use Rattle.rpc_journal.specs.Effect.{Deed}
use Rattle.rpc_journal.specs.Entries.{effect_of}
use Rattle.rpc_journal.specs.History.{history, adding, entry_by, deeds_with}
use Rattle.rpc_journal.specs.Items.{arrivals, flush_count, input_ended, is_end_in, is_flush, items_flushed, items_sent}
use Rattle.rpc_journal.proofs.Push.{history-push}
use Rattle.rpc_schedule.specs.OneThread.{takes_room}
use Rattle.rpc_schedule.specs.Schedule.{IsOver, Settles, input_seat}
use Rattle.rpc_schedule.specs.Serving.{Feeds, Serving, deeds, with_entry}
use Rattle.rpc_schedule.specs.Schedule.Stage.{flushing}
use Rattle.rpc_schedule.specs.ends.EndState.{EndState, KeepsAside}
use Rattle.rpc_schedule.specs.Settling.{IsOrderly, SettlesAll}
use Rattle.rpc_schedule.proofs.EntryLemmas.{arrivals-push, room-push}
use Rattle.rpc_schedule.proofs.ScheduleLemmas.{over_stays}
use Rattle.link_laws.specs.world.Hearing.{ServerTakes}
use Rattle.link_world.specs.Room.{StaysWithin}
use Rattle.link_world.specs.server.Resting.{IsResting, ServerTakesMore}
use Rattle.link_world.proofs.RoomLemmas.{settled_within, within_adding}

-- a settled server is at rest, where nothing was refused and the input goes on
pub resting_after : (rule : HandlerRule) (mid new : Serving) → SettlesAll rule mid new → mid.refused ≡ None → input_ended (deeds mid) ≡ false
    → StaysWithin mid.table.entries → IsResting new
resting_after rule mid new settles accepts unended room = record {
  orderly = settles.orderly;
  accepts = settles.stays.refused ∙ accepts;
  idle = settles.idle;
  unended = settles.stays.input ∙ unended;
  over = subst (λ set. IsOver set new.table.entries) (sym settles.stays.setting) settles.settles.over;
  room = settled_within rule mid new settles room;
}

arrive_unended : (set : Setting) (h : List Entry) (p : Packet) → input_ended (history set h) ≡ false → input_ended (history set (adding h input_seat (Arrive p))) ≡ false
arrive_unended set h p unended = ap input_ended (history-push set h (entry_by input_seat (Arrive p))) ∙ unended

pub resting_fed : (rule : HandlerRule) (old mid new : Serving) (n : ℕ) → IsResting old → Feeds old (Ok n) mid → SettlesAll rule mid new → IsResting new
resting_fed rule old mid new n rest (accepts, inl same) settles =
    resting_after rule old new (subst (λ s. SettlesAll rule s new) same settles) rest.accepts rest.unended rest.room
resting_fed rule old mid new n rest (accepts, inr takes) settles =
    let after = with_entry old input_seat (Arrive takes.packet) in
    resting_after rule after new (subst (λ s. SettlesAll rule s new) takes.adds settles) rest.accepts
    (arrive_unended old.table.setting old.table.entries takes.packet rest.unended) (within_adding old.table.entries input_seat (Arrive takes.packet) rest.room takes.room)

-- one packet more
pub takes_then : (rule : HandlerRule) (set : Setting) (packets : List Packet) (p : Packet) (a b c : List Entry) → ServerTakes rule set packets a b
    → Settles rule set (adding b input_seat (Arrive p)) c → ServerTakes rule set (packets ++ p ∷ []) a c
takes_then rule set [] p a b c same settles = (c, subst (λ h. Settles rule set (adding h input_seat (Arrive p)) c) same settles, refl)
takes_then rule set (first ∷ packets) p a b c takes settles = (takes.0, takes.1, takes_then rule set packets p takes.0 b c takes.2 settles)

pub takes_none : (rule : HandlerRule) (s : Serving) → ServerTakesMore rule s s
takes_none rule s = record { packets = []; takes = refl; arrived = sym (append-nil (arrivals s.table.entries)); setting = refl }

takes_same : (rule : HandlerRule) (first old new : Serving) → IsResting old → ServerTakesMore rule first old → SettlesAll rule old new → ServerTakesMore rule first new
takes_same rule first old new rest takes settles =
    let same : old.table.entries ≡ new.table.entries =
    over_stays rule old.table.setting settles.settles.reaches.0 old.table.entries new.table.entries rest.over settles.settles.reaches.1 in
    record {
      packets = takes.packets;
      takes = subst (ServerTakes rule first.table.setting takes.packets first.table.entries) same takes.takes;
      arrived = settles.stays.arrived ∙ takes.arrived;
      setting = settles.stays.setting ∙ takes.setting;
    }

takes_packet : (rule : HandlerRule) (first old new : Serving) (p : Packet) → ServerTakesMore rule first old → SettlesAll rule (with_entry old input_seat (Arrive p)) new
    → ServerTakesMore rule first new
takes_packet rule first old new p takes settles = record {
  packets = takes.packets ++ p ∷ [];
  takes = takes_then rule first.table.setting takes.packets p first.table.entries old.table.entries new.table.entries takes.takes
      (subst (λ set. Settles rule set (adding old.table.entries input_seat (Arrive p)) new.table.entries) takes.setting settles.settles);
  arrived = settles.stays.arrived ∙ (arrivals-push old.table.entries (entry_by input_seat (Arrive p))
      ∙ (ap (λ ps. ps ++ p ∷ []) takes.arrived ∙ append_assoc (arrivals first.table.entries) takes.packets (p ∷ [])));
  setting = settles.stays.setting ∙ takes.setting;
}

pub takes_fed : (rule : HandlerRule) (first old mid new : Serving) (n : ℕ) → IsResting old → ServerTakesMore rule first old → Feeds old (Ok n) mid → SettlesAll rule mid new
    → ServerTakesMore rule first new
takes_fed rule first old mid new n rest takes (accepts, inl same) settles =
    takes_same rule first old new rest takes (subst (λ s. SettlesAll rule s new) same settles)
takes_fed rule first old mid new n rest takes (accepts, inr packet) settles =
    takes_packet rule first old new packet.packet takes (subst (λ s. SettlesAll rule s new) packet.adds settles)

-- an entry that is no run, no flush and takes no room: it flushes nothing
pub record Enters (old mid : Serving) (kind : EntryKind) : Type 0 where
  pub orderly : IsOrderly mid
  pub items : items_flushed (deeds mid) ≡ items_flushed (deeds old)
  pub input : input_ended (deeds mid) ≡ is_end_in kind || input_ended (deeds old)

more_within : (n : ℕ) (xs ys : List Item) → n ≤ length xs → n ≤ length (xs ++ ys)
more_within n xs ys within = omega (arith, length-append xs ys, within)

pub enters : (old : Serving) (seat : ℕ) (kind : EntryKind) → IsOrderly old → ((k : ℕ) → is_start_of k kind ≡ false) → ((k : ℕ) → is_finish_of k kind ≡ false)
    → is_flush kind ≡ false → takes_room kind ≡ false → Enters old (with_entry old seat kind) kind
enters old seat kind orderly not_start not_finish not_flush no_room =
    let set = old.table.setting in
    let h = old.table.entries in
    let ds : List Deed = history set h in
    let e = entry_by seat kind in
    let says : List Item = (effect_of set ds kind).says in
    let is = history-push set h e in
    let count : flush_count (deeds_with set ds e) ≡ flush_count ds = ap (λ b. if b then flush_count ds + 1 else flush_count ds) not_flush in
    record {
      orderly = record {
        unkept = orderly.unkept;
        none_runs = λ k. subst (λ now. runner_of now k ≡ None) (sym is) (at (is_start_of k kind) (is_finish_of k kind) k (not_start k) (not_finish k));
        within = subst (λ now. flush_count now ≤ length (items_sent now)) (sym is)
            (subst (λ n. n ≤ length (items_sent ds ++ says)) (sym count) (more_within (flush_count ds) (items_sent ds) says orderly.within));
        room = room-push h e orderly.room (λ takes. absurd (false≢true (sym no_room ∙ takes)));
      };
      items = ap items_flushed is ∙ (ap (λ n. take n (items_sent ds ++ says)) count ∙ take-append-le (flush_count ds) (items_sent ds) says orderly.within);
      input = ap input_ended is;
    }
  where
    at : (b f : Bool) (k : ℕ) → b ≡ false → f ≡ false
        → (if b then Some seat else if f then None else runner_of (history old.table.setting old.table.entries) k) ≡ None
    at true f k start finish = absurd (true≢false start)
    at false true k start finish = absurd (true≢false finish)
    at false false k start finish = orderly.none_runs k

serving_of : Setting → List Entry → Option ℕ → Option StartRefused → Serving
serving_of set h kept refused = record { table = record { setting = set; entries = h }; kept = kept; refused = refused }

-- the server behind an entry that changes nothing else
pub entered_is : (old new : EndState) (seat : ℕ) (kind : EntryKind) → KeepsAside old new → new.serving.table.entries ≡ adding old.serving.table.entries seat kind
    → new.serving ≡ with_entry old.serving seat kind
unfolding serving_of
entered_is old new seat kind aside adds =
    ap (λ set. serving_of set new.serving.table.entries new.serving.kept new.serving.refused) aside.setting
    ∙ (ap (λ h. serving_of old.serving.table.setting h new.serving.kept new.serving.refused) adds
    ∙ (ap (λ kept. serving_of old.serving.table.setting (adding old.serving.table.entries seat kind) kept new.serving.refused) aside.kept
    ∙ ap (λ refused. serving_of old.serving.table.setting (adding old.serving.table.entries seat kind) old.serving.kept refused) aside.refused))

pub entered : (old new : EndState) (seat : ℕ) (kind : EntryKind) → KeepsAside old new → new.serving.table.entries ≡ adding old.serving.table.entries seat kind
    → IsOrderly old.serving → ((k : ℕ) → is_start_of k kind ≡ false) → ((k : ℕ) → is_finish_of k kind ≡ false)
    → is_flush kind ≡ false → takes_room kind ≡ false → Enters old.serving new.serving kind
entered old new seat kind aside adds orderly not_start not_finish not_flush no_room =
    subst (λ s. Enters old.serving s kind) (sym (entered_is old new seat kind aside adds)) (enters old.serving seat kind orderly not_start not_finish not_flush no_room)

-- a settling that added nothing
pub settles_none : (rule : HandlerRule) (set : Setting) (h : List Entry) → IsOver set h → Settles rule set h h
settles_none rule set h over = record { reaches = (1, (flushing h, (over.none_ready, refl), refl)); over = over }

-- the server where no entry was added
pub unentered_is : (old new : EndState) → KeepsAside old new → new.serving.table.entries ≡ old.serving.table.entries → new.serving ≡ old.serving
unfolding serving_of
unentered_is old new aside same =
    ap (λ set. serving_of set new.serving.table.entries new.serving.kept new.serving.refused) aside.setting
    ∙ (ap (λ h. serving_of old.serving.table.setting h new.serving.kept new.serving.refused) same
    ∙ (ap (λ kept. serving_of old.serving.table.setting old.serving.table.entries kept new.serving.refused) aside.kept
    ∙ ap (λ refused. serving_of old.serving.table.setting old.serving.table.entries old.serving.kept refused) aside.refused))
