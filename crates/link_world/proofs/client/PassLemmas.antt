-- Entries that open no call, and neither put nor take an event: what is said, and flushes.
use Rattle.std.proofs.Common.{◌≡◌, ℕ, zero, suc, ◌<◌, Bool, true, false, List, [], ◌∷◌, ◌++◌, drop, get_or, length, take, Option, Some, None, is_none, option_map, not, ◌&&◌, ◌||◌, ◌⊎◌, if◌then◌else◌, Ok, Err, inl, inr, refl, ap, sym, ◌∙◌, subst, arith, append-nil}
use Rattle.rpc_handlers.specs.declared.answer.Out.{Out}
use Rattle.rpc_handlers.specs.declared.answer.Out.TheVariants.{Append, Begin, Commit, Leave, Say as Message}
use Rattle.std.proofs.Math.Seq.{drop-cons}
use Rattle.std.proofs.lemmas.List.{take-append-drop}
use Rattle.rpc_ids.specs.declared.status.Status.{Status}
use Rattle.rpc_journal.specs.declared.answers.SayRefused.{SayRefused}
use Rattle.rpc_journal.specs.declared.answers.SayRefused.TheVariants.{Closed, Completed, JournalFull, Memory as NoMemory, NoStream}
use Rattle.rpc_journal.specs.declared.entry.Entry.{Entry}
use Rattle.rpc_journal.specs.declared.entry.EntryKind.{EntryKind}
use Rattle.rpc_journal.specs.declared.entry.EntryKind.TheVariants.{Flush, Say}
use Rattle.rpc_journal.specs.declared.item.Item.{Item}
use Rattle.rpc_journal.specs.declared.setting.Setting.{Setting}
use Rattle.rpc_journal.specs.Changes.{SayDid}
use Rattle.rpc_journal.specs.Kinds.{is_server, or_else}
use Rattle.rpc_journal.specs.Lawful.{has_stream}
use Rattle.rpc_journal.specs.Calls.{call_at, calls, end_of, is_cancelled, is_finish_of, is_replace_of, is_start_of}
use Rattle.rpc_journal.specs.Effect.{Deed, Effect, Opening}
use Rattle.rpc_journal.specs.Entries.{effect_of, out_item, with_call}
use Rattle.rpc_journal.specs.History.{adding, deeds_with, entry_by, history}
use Rattle.rpc_journal.specs.Items.{arrivals, is_done, is_for}
use Rattle.rpc_journal.specs.Queues.{puts_since, starts_since, waiting_of}
use Rattle.rpc_journal.specs.Refusals.{is_full, out_refusal, refused_where, say_refusal}
use Rattle.rpc_journal.specs.Rows.{channel_closed, is_closed, says_item}
use Rattle.rpc_journal.specs.States.{finished_since}
use Rattle.rpc_journal.proofs.PlaceLemmas.{some_same}
use Rattle.rpc_journal.proofs.Push.{history-push}
use Rattle.rpc_schedule.specs.ends.EndState.{EndState, KeepsAside}
use Rattle.std.proofs.lemmas.Bool.{or_left, or_right}
use Rattle.rpc_schedule.specs.Schedule.{Flushed, flush_seat, run_seat}
use Rattle.rpc_schedule.specs.Serving.{Gives, Serving, deeds, with_entry}
use Rattle.rpc_schedule.specs.Settling.{IsOrderly}
use Rattle.rpc_schedule.proofs.EntryLemmas.{arrivals-push, length-push}
use Rattle.rpc_schedule.proofs.LoopLemmas.{stays_itself, stays_then}
use Rattle.rpc_schedule.proofs.ServingLemmas.{StepsFlush, flush_steps}
use Rattle.link_world.proofs.server.RestLemmas.{entered_is, enters, unentered_is}
use Rattle.link_laws.specs.world.Client.{FlushesTo, all_said_in, said_in}
use Rattle.link_laws.specs.world.Stops.{saying_stops}
use Rattle.link_world.specs.declared.server.stopped.Stopped.TheVariants.{Journal}
use Rattle.link_world.specs.Room.{StaysWithin}
use Rattle.link_world.specs.client.Working.{ClientFlushes, ClientSays, PassesBy, stop_of}
use Rattle.link_world.proofs.RoomLemmas.{unfull, within_adding, within_kept}

-- the entry leaves the calls and their events alone
record IsPassing (kind : EntryKind) (does : Effect) : Type 0 where
  opens : does.opens ≡ None
  closes : is_for 1 (channel_closed kind) ≡ false
  drops : does.drops ≡ []
  puts : does.puts ≡ []
  start : (c : ℕ) → is_start_of c kind ≡ false
  finish : (c : ℕ) → is_finish_of c kind ≡ false
  replace : (c : ℕ) → is_replace_of c kind ≡ false

record LeavesAlone (before after : List Deed) : Type 0 where
  calls : calls after ≡ calls before
  closed : is_closed after 1 ≡ is_closed before 1
  took : (c : ℕ) → finished_since after c ≡ finished_since before c
  waiting : (c : ℕ) → waiting_of after c ≡ waiting_of before c

leaves_alone : (set : Setting) (ds : List Deed) (e : Entry) → IsPassing e.kind (effect_of set ds e.kind) → LeavesAlone ds (deeds_with set ds e)
leaves_alone set ds e p = record {
  calls = rw p.opens (append-nil (calls ds));
  closed = ap (λ b. b || is_closed ds 1) p.closes;
  took = λ c. rw (p.opens, p.replace c, p.finish c) refl;
  waiting = λ c. rw (p.drops, p.puts, p.start c) (ap (drop (starts_since ds c)) (append-nil (puts_since ds c)));
}

pub passes_none : (s : Serving) → IsOrderly s → PassesBy s s
passes_none s orderly = record { stays = stays_itself s; orderly = orderly; calls = refl; closed = refl; took = λ c. refl; waiting = λ c. refl; room = λ all. all }

pub passes_then : (a b c : Serving) → PassesBy a b → PassesBy b c → PassesBy a c
passes_then a b c first more = record {
  stays = stays_then a b c first.stays more.stays;
  orderly = more.orderly;
  calls = more.calls ∙ first.calls;
  closed = more.closed ∙ first.closed;
  took = λ k. more.took k ∙ first.took k;
  waiting = λ k. more.waiting k ∙ first.waiting k;
  room = λ all. more.room (first.room all);
}

said_effect : (o : Option Opening) (f : Opening → Item) (c : ℕ) (out : Out) → IsPassing (Say c out) (with_call o (λ opening. says_item (f opening)))
said_effect None f c out = record { opens = refl; closes = refl; drops = refl; puts = refl; start = λ k. refl; finish = λ k. refl; replace = λ k. refl }
said_effect (Some o) f c out = record { opens = refl; closes = refl; drops = refl; puts = refl; start = λ k. refl; finish = λ k. refl; replace = λ k. refl }

-- one thing was said
said_passes : (s : Serving) (c : ℕ) (out : Out) → IsOrderly s → is_full s.table.entries ≡ false → ClientSays s (adding s.table.entries run_seat (Say c out)) (with_entry s run_seat (Say c out))
said_passes s c out orderly free =
    let set = s.table.setting in
    let h = s.table.entries in
    let e = entry_by run_seat (Say c out) in
    let enter = enters s run_seat (Say c out) orderly (λ k. refl) (λ k. refl) refl refl in
    let is = history-push set h e in
    let alone = leaves_alone set (history set h) e (said_effect (call_at (history set h) c) (λ o. out_item set.role c o.name out) c out) in
    record {
      passes = record {
        stays = record {
          setting = refl;
          refused = refl;
          arrived = arrivals-push h e ∙ append-nil (arrivals h);
          input = enter.input;
          longer = omega (arith, length-push h e);
        };
        orderly = enter.orderly;
        calls = ap calls is ∙ alone.calls;
        closed = ap (λ ds. is_closed ds 1) is ∙ alone.closed;
        took = λ k. ap (λ ds. finished_since ds k) is ∙ alone.took k;
        waiting = λ k. ap (λ ds. waiting_of ds k) is ∙ alone.waiting k;
        room = λ all. within_adding h run_seat (Say c out) all free;
      };
      same_items = enter.items;
      said = refl;
    }

-- it was said, unless it was refused
pub says_or_not : (s new : Serving) (c : ℕ) (out : Out) (refusal : Option SayRefused) → out_refusal s.table.setting (deeds s) c out ≡ refusal → IsOrderly s
    → is_full s.table.entries ≡ false → new ≡ (if is_none refusal then with_entry s run_seat (Say c out) else s) → ClientSays s (said_in s.table.setting c s.table.entries out) new
says_or_not s new c out None unrefused orderly free same =
    subst (λ n. ClientSays s (said_in s.table.setting c s.table.entries out) n) (sym same)
    (subst (λ h. ClientSays s h (with_entry s run_seat (Say c out)))
    (ap (λ r. if is_none r then adding s.table.entries run_seat (Say c out) else s.table.entries) (sym unrefused)) (said_passes s c out orderly free))
says_or_not s new c out (Some why) refused orderly free same =
    subst (λ n. ClientSays s (said_in s.table.setting c s.table.entries out) n) (sym same)
    (subst (λ h. ClientSays s h s)
    (ap (λ r. if is_none r then adding s.table.entries run_seat (Say c out) else s.table.entries) (sym refused))
    (record { passes = passes_none s orderly; same_items = refl; said = refl }))

-- what a `say` that was taken did
pub say_taken : (old new : EndState) (c : ℕ) (out : Out) → SayDid old.serving.table.setting run_seat c out (Ok tt) old.serving.table.entries new.serving.table.entries
    → KeepsAside old new → IsOrderly old.serving
    → ClientSays old.serving (said_in old.serving.table.setting c old.serving.table.entries out) new.serving
say_taken old new c out did aside orderly =
    says_or_not old.serving new.serving c out None (unrefused (is_full old.serving.table.entries) did.unrefused) orderly
    (unfull (is_full old.serving.table.entries) JournalFull (out_refusal old.serving.table.setting (deeds old.serving) c out) did.unrefused)
    (entered_is old new run_seat (Say c out) aside did.adds)
  where
    unrefused : (full : Bool) → or_else (refused_where full JournalFull) (out_refusal old.serving.table.setting (deeds old.serving) c out) ≡ None
        → out_refusal old.serving.table.setting (deeds old.serving) c out ≡ None
    unrefused true is = absurd cc
    unrefused false is = is

-- what a `say` that was refused did, where the client goes on
pub say_refused : (old new : EndState) (c : ℕ) (out : Out) (why : SayRefused) → stop_of why ≡ None
    → SayDid old.serving.table.setting run_seat c out (Err why) old.serving.table.entries new.serving.table.entries → KeepsAside old new → IsOrderly old.serving
    → ClientSays old.serving (said_in old.serving.table.setting c old.serving.table.entries out) new.serving
say_refused old new c out why goes did aside orderly = at did.cause
  where
    refused : (full : Bool) → or_else (refused_where full JournalFull) (out_refusal old.serving.table.setting (deeds old.serving) c out) ≡ Some why
        → out_refusal old.serving.table.setting (deeds old.serving) c out ≡ Some why
    refused true is = absurd (stopped (some_same _ _ is) goes)
      where
        stopped : JournalFull ≡ why → stop_of why ≡ None → ⊥
        stopped same none = absurd (let n = subst (λ w. stop_of w ≡ None) (sym same) none in cc)
    refused false is = is

    free : (full : Bool) → or_else (refused_where full JournalFull) (out_refusal old.serving.table.setting (deeds old.serving) c out) ≡ Some why → full ≡ false
    free true is = absurd (stopped (some_same _ _ is) goes)
      where
        stopped : JournalFull ≡ why → stop_of why ≡ None → ⊥
        stopped same none = absurd (let n = subst (λ w. stop_of w ≡ None) (sym same) none in cc)
    free false is = refl

    at : (why ≡ NoMemory) ⊎ (say_refusal old.serving.table.setting old.serving.table.entries c out ≡ Some why)
        → ClientSays old.serving (said_in old.serving.table.setting c old.serving.table.entries out) new.serving
    at (inl memory) = absurd (let n = subst (λ w. stop_of w ≡ None) memory goes in cc)
    at (inr is) =
        says_or_not old.serving new.serving c out (Some why) (refused (is_full old.serving.table.entries) is) orderly (free (is_full old.serving.table.entries) is) (unentered_is old new aside did.kept)

cut_unfull : (cut : Bool) (status : Status) → refused_where cut (Closed status) ≡ Some JournalFull → ⊥
cut_unfull true status is = absurd cc
cut_unfull false status is = absurd cc

-- the table refuses nothing but an entry because the journal is full
out_unfull : (set : Setting) (ds : List Deed) (c : ℕ) (out : Out) → out_refusal set ds c out ≡ Some JournalFull → ⊥
out_unfull set ds c (Message payload) is = at (end_of ds c) (not (has_stream set.role (call_at ds c))) (not (is_server set.role) && is_done ds c) is
  where
    at : (end : Option Status) (no_stream done : Bool)
        → or_else (option_map Closed end) (or_else (refused_where no_stream NoStream) (refused_where done Completed)) ≡ Some JournalFull → ⊥
    at (Some status) no_stream done is = absurd cc
    at None true done is = absurd cc
    at None false true is = absurd cc
    at None false false is = absurd cc
out_unfull set ds c (Begin session resource offset) is = cut_unfull (is_cancelled ds c) _ is
out_unfull set ds c (Append session bytes) is = cut_unfull (is_cancelled ds c) _ is
out_unfull set ds c (Commit session) is = cut_unfull (is_cancelled ds c) _ is
out_unfull set ds c (Leave session) is = cut_unfull (is_cancelled ds c) _ is

-- a `say` that stops the client for want of room
pub say_full : (old new : EndState) (c : ℕ) (out : Out) (why : SayRefused) → stop_of why ≡ Some Journal
    → SayDid old.serving.table.setting run_seat c out (Err why) old.serving.table.entries new.serving.table.entries → is_full old.serving.table.entries ≡ true
say_full old new c out why stops did = at (is_full old.serving.table.entries) refl
  where
    full_why : (w : SayRefused) → stop_of w ≡ Some Journal → w ≡ JournalFull
    full_why JournalFull is = refl
    full_why NoMemory is = absurd cc
    full_why (Closed status) is = absurd cc
    full_why NoStream is = absurd cc
    full_why Completed is = absurd cc

    cause : (full : Bool) → (why ≡ NoMemory) ⊎ (or_else (refused_where full JournalFull) (out_refusal old.serving.table.setting (deeds old.serving) c out) ≡ Some why) → full ≡ true
    cause true is = refl
    cause false (inl memory) = absurd (let n = subst (λ w. stop_of w ≡ Some Journal) memory stops in cc)
    cause false (inr is) = absurd (out_unfull old.serving.table.setting (deeds old.serving) c out (is ∙ ap Some (full_why why stops)))

    at : (full : Bool) → is_full old.serving.table.entries ≡ full → is_full old.serving.table.entries ≡ true
    at full is = cause (is_full old.serving.table.entries) did.cause

pub says_none : (s : Serving) → IsOrderly s → ClientSays s s.table.entries s
says_none s orderly = record { passes = passes_none s orderly; same_items = refl; said = refl }

said-push : (set : Setting) (c : ℕ) (outs : List Out) (out : Out) (h : List Entry) → all_said_in set c (outs ++ out ∷ []) h ≡ said_in set c (all_said_in set c outs h) out
said-push set c [] out h = refl
said-push set c (x ∷ outs) out h = said-push set c outs out (said_in set c h x)

-- one thing more
pub says_more : (first s new : Serving) (c : ℕ) (outs : List Out) (out : Out)
    → ClientSays first (all_said_in first.table.setting c outs first.table.entries) s → ClientSays s (said_in s.table.setting c s.table.entries out) new
    → ClientSays first (all_said_in first.table.setting c (outs ++ out ∷ []) first.table.entries) new
says_more first s new c outs out before says = record {
  passes = passes_then first s new before.passes says.passes;
  same_items = says.same_items ∙ before.same_items;
  said = says.said ∙ (ap (λ set. said_in set c s.table.entries out) before.passes.stays.setting
      ∙ (ap (λ h. said_in first.table.setting c h out) before.said ∙ sym (said-push first.table.setting c outs out first.table.entries)));
}

-- Flushes.

flush_passes : (old new : Serving) (item : Item) → StepsFlush item old new → Gives old (Some item) new → PassesBy old new
flush_passes old new item steps gives =
    let set = old.table.setting in
    let h = old.table.entries in
    let e = entry_by flush_seat Flush in
    let is : deeds new ≡ deeds_with set (history set h) e = ap deeds gives.1 ∙ history-push set h e in
    let alone = leaves_alone set (history set h) e (record { opens = refl; closes = refl; drops = refl; puts = refl; start = λ k. refl; finish = λ k. refl; replace = λ k. refl }) in
    record {
      stays = steps.stays;
      orderly = steps.orderly;
      calls = ap calls is ∙ alone.calls;
      closed = ap (λ ds. is_closed ds 1) is ∙ alone.closed;
      took = λ k. ap (λ ds. finished_since ds k) is ∙ alone.took k;
      waiting = λ k. ap (λ ds. waiting_of ds k) is ∙ alone.waiting k;
      room = λ all. subst (λ s. StaysWithin s.table.entries) (sym gives.1) (within_kept h flush_seat Flush all refl);
    }

-- flushes so far
pub record FlushesSo (old now : Serving) : Type 0 where
  pub passes : PassesBy old now
  pub count : ℕ
  pub flushes : FlushesTo old.table.setting count old.table.entries now.table.entries

pub flushes_none : (s : Serving) → IsOrderly s → FlushesSo s s
flushes_none s orderly = record { passes = passes_none s orderly; count = 0; flushes = refl }

flushes-push : (set : Setting) (n : ℕ) (a b c : List Entry) → FlushesTo set n a b → Flushed set b c → FlushesTo set (suc n) a c
flushes-push set zero a b c same flushed = (c, subst (λ h. Flushed set h c) same flushed, refl)
flushes-push set (suc n) a b c first flushed = (first.0, first.1, flushes-push set n first.0 b c first.2 flushed)

pub flushes_more : (old now new : Serving) (item : Item) → FlushesSo old now → Gives now (Some item) new → FlushesSo old new
flushes_more old now new item so gives =
    let steps = flush_steps now new item so.passes.orderly gives in
    record {
      passes = passes_then old now new so.passes (flush_passes now new item steps gives);
      count = suc so.count;
      flushes = flushes-push old.table.setting so.count old.table.entries now.table.entries new.table.entries so.flushes
          (subst (λ set. Flushed set now.table.entries new.table.entries) so.passes.stays.setting steps.flushed);
    }

pub flushes_all : (old now new : Serving) → FlushesSo old now → Gives now None new → ClientFlushes old new
flushes_all old now new so gives = subst (ClientFlushes old) (sym gives.1) record {
  passes = so.passes;
  flush_count = so.count;
  flushes = so.flushes;
  none_waits = gives.0;
}

-- One of these has no room.

pub stops_at : (set : Setting) (c : ℕ) (first : List Out) (out : Out) (more : List Out) (h : List Entry) → is_full (all_said_in set c first h) ≡ true
    → saying_stops set c (first ++ out ∷ more) h ≡ true
stops_at set c [] out more h full = or_left (is_full h) (saying_stops set c more (said_in set c h out)) full
stops_at set c (x ∷ first) out more h full = or_right (is_full h) (saying_stops set c (first ++ out ∷ more) (said_in set c h x)) (stops_at set c first out more (said_in set c h x) full)

pub stops_in : (set : Setting) (c : ℕ) (outs : List Out) (i : ℕ) (out : Out) (h : List Entry) → i < length outs → is_full (all_said_in set c (take i outs) h) ≡ true
    → saying_stops set c outs h ≡ true
stops_in set c outs i out h within full =
    subst (λ xs. saying_stops set c xs h ≡ true) (ap (λ rest. take i outs ++ rest) (sym (drop-cons outs i out within)) ∙ take-append-drop i outs)
    (stops_at set c (take i outs) (get_or outs i out) (drop (suc i) outs) h full)
