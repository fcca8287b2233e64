-- The client does its work once.
use Rattle.std.proofs.Common.{◌≡◌, ℕ, zero, suc, Bool, true, false, ◌==◌, ◌&&◌, if◌then◌else◌, List, [], ◌∷◌, ◌++◌, drop, flat_map, length, length-drop, take, take_all, ◌-◌, arith, Option, Some, None, is_none, refl, ap, sym, ◌∙◌, subst, inl, inr}
use Rattle.std.proofs.lemmas.Bool.{and_parts}
use Rattle.std.proofs.Math.Seq.{drop-append_seam}
use Rattle.rpc_handlers.specs.declared.event.Event.{Event}
use Rattle.rpc_journal.specs.declared.entry.Entry.{Entry}
use Rattle.rpc_journal.specs.declared.item.Item.{Item}
use Rattle.rpc_journal.specs.declared.setting.Setting.{Setting}
use Rattle.rpc_journal.specs.Calls.{call_count, calls, of_call}
use Rattle.rpc_journal.specs.Choice.{NoneReady}
use Rattle.rpc_journal.specs.Effect.{Opening}
use Rattle.rpc_journal.specs.History.{history}
use Rattle.rpc_journal.specs.Items.{items_flushed}
use Rattle.rpc_journal.specs.Kinds.{is_empty}
use Rattle.rpc_journal.specs.Queues.{waiting_of}
use Rattle.rpc_journal.specs.Quiet.{all_below}
use Rattle.rpc_journal.specs.States.{finished_since}
use Rattle.rpc_schedule.specs.Schedule.{NoneWaits}
use Rattle.rpc_schedule.specs.Serving.{Serving, deeds, is_idle, none_waiting}
use Rattle.rpc_schedule.proofs.EntryLemmas.{none_ready}
use Rattle.rpc_schedule.proofs.LoopLemmas.{stays_then}
use Rattle.link_laws.specs.world.Client.{ClientSettles, FlushesTo, all_said_in, mail_between, mail_of, task_after, task_polled, task_said, transfer_says}
use Rattle.link_laws.specs.world.Stops.{ClientStops, TaskStops, saying_stops}
use Rattle.link_laws.specs.world.Setup.{client_setting, quiet_rule}
use Rattle.link_laws.specs.world.World.{under_with, Tasked}
use Rattle.link_world.specs.declared.client.under.Under.{Under}
use Rattle.link_world.specs.client.Speaking.{SayingStops, mail_among, polled_with, said_with}
use Rattle.link_world.specs.client.Underway.{task_seen, under_seen}
use Rattle.link_world.specs.client.Working.{ClientFlushes, ClientRuns, ClientRunsFull, ClientSays, IsKept, Settled}
use Rattle.link_world.proofs.RoomLemmas.{runs_within}
use Rattle.link_world.proofs.client.NumberLemmas.{numbered_still}

-- a slice from a place on
pub rest_is : {A : Type 0} (xs : List A) (n : ℕ) → take (length xs - n) (drop n xs) ≡ drop n xs
rest_is xs n = take_all (length xs - n) (drop n xs) (omega (arith, length-drop n xs))

of_call_append : {A : Type 0} (c : ℕ) (xs ys : List (ℕ × A)) → of_call c (xs ++ ys) ≡ of_call c xs ++ of_call c ys
of_call_append c [] ys = refl
of_call_append c (x ∷ xs) ys = at (x.0 == c) (of_call_append c xs ys)
  where
    at : (b : Bool) → of_call c (xs ++ ys) ≡ of_call c xs ++ of_call c ys
        → (if b then x.1 ∷ of_call c (xs ++ ys) else of_call c (xs ++ ys)) ≡ (if b then x.1 ∷ of_call c xs else of_call c xs) ++ of_call c ys
    at true rest = ap (λ more. x.1 ∷ more) rest
    at false rest = rest

all_same : (n : ℕ) (f g : ℕ → Bool) → ((k : ℕ) → f k ≡ g k) → all_below n f ≡ all_below n g
all_same zero f g same = refl
all_same (suc n) f g same = ap (λ b. b && f n) (all_same n f g same) ∙ ap (λ b. all_below n g && b) (same n)

-- no event waits where none did
none_still : (old new : Serving) → calls (deeds new) ≡ calls (deeds old) → ((c : ℕ) → waiting_of (deeds new) c ≡ waiting_of (deeds old) c)
    → none_waiting (deeds new) ≡ none_waiting (deeds old)
none_still old new same waiting =
    ap (λ (os : List Opening). all_below (length os) (λ c. is_empty (waiting_of (deeds new) c))) same
    ∙ all_same (call_count (deeds old)) (λ c. is_empty (waiting_of (deeds new) c)) (λ c. is_empty (waiting_of (deeds old) c)) (λ c. ap is_empty (waiting c))

-- what came to a call is what runs took behind the events of the list
mail_same : (set : Setting) (old ran : List Entry) (c : ℕ) (more : List (ℕ × Event))
    → finished_since (history set ran) c ≡ finished_since (history set old) c ++ of_call c more → mail_between set old ran c ≡ mail_among c more
mail_same set old ran c more took =
    ap (λ events. flat_map mail_of (drop (length (finished_since (history set old) c)) events)) took
    ∙ ap (λ events. flat_map mail_of events) (drop-append_seam (finished_since (history set old) c) (of_call c more))

module _ (set : Setting) (now : ℕ) (old ran : List Entry) (more : List (ℕ × Event)) (mail : (c : ℕ) → mail_between set old ran c ≡ mail_among c more) where
  task_same : (task : Option Tasked) → polled_with now more task ≡ task_after set now old ran task
  task_same None = refl
  task_same (Some t) = ap (λ m. Some (task_polled t m now)) (sym (mail t.call))

  said_same : (task : Option Tasked) → said_with set now more task ran ≡ task_said set now old ran task
  said_same None = refl
  said_same (Some t) = ap (λ m. all_said_in set t.call (transfer_says t.session t.transfer m now) ran) (sym (mail t.call))

  stops_same : (task : Option Tasked) → SayingStops set now more task ran → TaskStops set now old ran task
  stops_same None stops = stops
  stops_same (Some t) stops = subst (λ m. saying_stops set t.call (transfer_says t.session t.transfer m now) ran ≡ true) (sym (mail t.call)) stops

module _ (now : ℕ) (old ran : Serving) (before after : List (ℕ × Event)) (runs : ClientRuns old before ran after) where
  -- the mail, by the list
  mail_is : (more : List (ℕ × Event)) → more ≡ drop (length before) after
      → (c : ℕ) → mail_between old.table.setting old.table.entries ran.table.entries c ≡ mail_among c more
  mail_is more is c =
      let same : more ≡ runs.more = is ∙ (ap (drop (length before)) runs.events ∙ drop-append_seam before runs.more) in
      subst (λ events. mail_between old.table.setting old.table.entries ran.table.entries c ≡ mail_among c events) (sym same)
      (mail_same old.table.setting old.table.entries ran.table.entries c runs.more
      (subst (λ set. finished_since (history set ran.table.entries) c ≡ finished_since (deeds old) c ++ of_call c runs.more) runs.stays.setting (runs.took c)))

  ready_none : NoneReady (history old.table.setting ran.table.entries)
  ready_none = subst (λ set. NoneReady (history set ran.table.entries)) runs.stays.setting runs.none_ready

  -- the parts are the work
  settles_so : (more : List (ℕ × Event)) → more ≡ drop (length before) after → (task : Option Tasked) (said new : Serving)
      → ClientSays ran (said_with ran.table.setting now more task ran.table.entries) said → ClientFlushes said new
      → ClientSettles old.table.setting now old.table.entries task new.table.entries (polled_with now more task)
  settles_so more is task said new says flushes =
      let set = old.table.setting in
      let mail = mail_is more is in
      let same : said.table.setting ≡ old.table.setting = says.passes.stays.setting ∙ runs.stays.setting in
      record {
        ran = ran.table.entries;
        run_count = runs.run_count;
        runs = runs.runs;
        none_ready = ready_none;
        task_is = task_same set now old.table.entries ran.table.entries more mail task;
        flush_count = flushes.flush_count;
        flushes = subst (λ h. FlushesTo set flushes.flush_count h new.table.entries)
            (says.said ∙ (ap (λ s. said_with s now more task ran.table.entries) runs.stays.setting ∙ said_same set now old.table.entries ran.table.entries more mail task))
            (subst (λ s. FlushesTo s flushes.flush_count said.table.entries new.table.entries) same flushes.flushes);
        none_waits = subst (λ s. NoneWaits (history s new.table.entries)) (flushes.passes.stays.setting ∙ same) flushes.none_waits;
      }

  -- a run, or what the task says, has no room
  pub stops_running : old.table.setting ≡ client_setting → ClientRunsFull old ran → (task : Option Tasked) → ClientStops client_setting now old.table.entries task
  stops_running setting full task = subst (λ set. ClientStops set now old.table.entries task) setting (record {
    ran = ran.table.entries;
    run_count = full.run_count;
    runs = full.runs;
    stops = inl full.stops;
  })

  pub stops_speaking : old.table.setting ≡ client_setting → (more : List (ℕ × Event)) → more ≡ drop (length before) after → (task : Option Tasked)
      → SayingStops ran.table.setting now more task ran.table.entries → ClientStops client_setting now old.table.entries task
  stops_speaking setting more is task stops = subst (λ set. ClientStops set now old.table.entries task) setting (record {
    ran = ran.table.entries;
    run_count = runs.run_count;
    runs = runs.runs;
    stops = inr (
      ready_none,
      stops_same old.table.setting now old.table.entries ran.table.entries more (mail_is more is) task
          (subst (λ set. SayingStops set now more task ran.table.entries) runs.stays.setting stops),
    );
  })

  pub settled : old.table.setting ≡ client_setting → is_idle ran ≡ true → (more : List (ℕ × Event)) → more ≡ drop (length before) after → (under next : Option Under)
      (said new : Serving) → ClientSays ran (said_with ran.table.setting now more (task_seen under) ran.table.entries) said → ClientFlushes said new
      → under_seen next ≡ under_with (polled_with now more (task_seen under)) (under_seen under) → Settled now old under new next
  settled setting idle more is under next said new says flushes becomes =
      let none : none_waiting (deeds new) ≡ true =
      none_still said new flushes.passes.calls flushes.passes.waiting ∙ (none_still ran said says.passes.calls says.passes.waiting
      ∙ (and_parts (is_none ran.kept) (none_waiting (deeds ran)) idle).1) in
      record {
        stays = stays_then old ran new runs.stays (stays_then ran said new says.passes.stays flushes.passes.stays);
        idle = ap (λ k. is_none k && none_waiting (deeds new)) flushes.passes.orderly.unkept ∙ none;
        over = record { none_ready = none_ready new.table.setting new.table.entries none; none_waits = flushes.none_waits };
        calls = flushes.passes.calls ∙ (says.passes.calls ∙ runs.calls);
        works = record {
          next = polled_with now more (task_seen under);
          settles = subst (λ set. ClientSettles set now old.table.entries (task_seen under) new.table.entries (polled_with now more (task_seen under))) setting
              (settles_so more is (task_seen under) said new says flushes);
          under = becomes;
        };
      }

  pub kept_then : (out items : List Item) → IsKept old out before → (more : List (ℕ × Event)) → (said new : Serving) (entries : List Entry) → ClientSays ran entries said
      → ClientFlushes said new → items ≡ items_flushed (deeds new) → IsKept new items after
  kept_then out items kept more said new entries says flushes are = record {
    orderly = flushes.passes.orderly;
    room = flushes.passes.room (says.passes.room (runs_within quiet_rule old.table.setting runs.run_count old.table.entries ran.table.entries runs.runs runs.orderly.room kept.room));
    setting = flushes.passes.stays.setting ∙ (says.passes.stays.setting ∙ (runs.stays.setting ∙ kept.setting));
    items = are;
    events = λ c. flushes.passes.took c ∙ (says.passes.took c ∙ (runs.took c ∙ (ap (λ events. events ++ of_call c runs.more) (kept.events c)
        ∙ (sym (of_call_append c before runs.more) ∙ ap (of_call c) (sym runs.events)))));
    numbered = numbered_still (deeds old) (deeds new) (flushes.passes.calls ∙ (says.passes.calls ∙ runs.calls)) (flushes.passes.closed ∙ (says.passes.closed ∙ runs.closed)) kept.numbered;
  }
