-- Each list of packets has a history of one thread: a run takes one of the events that wait and puts none.
use Rattle.std.proofs.Common.{◌≡◌, ◌⊎◌, ℕ, zero, suc, ◌+◌, ◌<◌, ◌≤◌, false, List, [], ◌∷◌, length, reverse, Option, Some, None, if◌then◌else◌, refl, ap, sym, ◌∙◌, subst, inl, inr, arith, length-append}
use Rattle.std.proofs.lemmas.Bool.{false≢true}
use Rattle.std.proofs.lemmas.Option.{slice_get_within}
use Rattle.rpc_packet.specs.declared.owned.Packet.{Packet}
use Rattle.rpc_handlers.specs.HandlerRule.{HandlerRule}
use Rattle.rpc_journal.specs.declared.entry.Entry.{Entry}
use Rattle.rpc_journal.specs.declared.entry.EntryKind.{EntryKind}
use Rattle.rpc_journal.specs.declared.entry.EntryKind.TheVariants.{Arrive, Flush, EndIn}
use Rattle.rpc_journal.specs.declared.item.Item.{Item}
use Rattle.rpc_journal.specs.declared.setting.Setting.{Setting}
use Rattle.rpc_journal.specs.Calls.{is_start_of}
use Rattle.rpc_journal.specs.Choice.{IsFirstReady, NoneReady}
use Rattle.rpc_journal.specs.Effect.{Deed}
use Rattle.rpc_journal.specs.Entries.{effect_of}
use Rattle.rpc_journal.specs.History.{adding, entry_by, history}
use Rattle.rpc_journal.specs.Items.{flush_count, is_flush, items_sent}
use Rattle.rpc_journal.proofs.Push.{history-push}
use Rattle.rpc_schedule.specs.OneThread.{Handled, IsOneThreadHistory}
use Rattle.rpc_schedule.specs.Schedule.{NoneWaits, Reaches, Settles, flush_seat, input_seat, next_item}
use Rattle.rpc_schedule.specs.Schedule.Stage.{running, flushing}
use Rattle.rpc_schedule.proofs.ChoiceLemmas.{first_or_none}
use Rattle.rpc_schedule.proofs.PendingLemmas.{no_deed, pending_after, pending_step}
use Rattle.rpc_schedule.proofs.RunOnce.{RunsOnce, Stands, run_once, stands_still}
use Rattle.rpc_schedule.proofs.ScheduleLemmas.{reaches_itself, reaches_then, reaches_turn}

module _ (rule : HandlerRule) (set : Setting) where
  -- where a settling leads, with no more events that wait than these
  record Empties (h : List Entry) (n : ℕ) : Type 0 where
    now : List Entry
    reaches : Reaches rule set (flushing h) (flushing now)
    none_waits : NoneWaits (history set now)
    after : Stands (history set now)
    fewer : length after.waiting ≤ n

  flush_next : (h : List Entry) (w : Stands (history set h)) (item : Item) → next_item (history set h) ≡ Some item
      → (after : Stands (history set (adding h flush_seat Flush))) × (length after.waiting ≤ length w.waiting)
  flush_next h w item waits =
      let ds : List Deed = history set h in
      let e = entry_by flush_seat Flush in
      let below = slice_get_within (items_sent ds) (flush_count ds) item waits in
      subst (λ x. (after : Stands x) × (length after.waiting ≤ length w.waiting)) (sym (history-push set h e))
      (stands_still ds (record { entry = e; does = effect_of set ds Flush }) w (λ c. refl) refl refl (omega (arith, below, length-append (items_sent ds) [])))

  -- an item was flushed, and then the others
  flushed_then : (h : List Entry) (w : Stands (history set h)) (item : Item) → next_item (history set h) ≡ Some item
      → ((w : Stands (history set (adding h flush_seat Flush))) → Empties (adding h flush_seat Flush) (length w.waiting)) → Empties h (length w.waiting)
  flushed_then h w item waits rest =
      let once = flush_next h w item waits in
      let others = rest once.0 in
      record {
        now = others.now;
        reaches = reaches_then rule set (flushing h) (flushing (adding h flush_seat Flush)) (flushing others.now)
            (reaches_turn rule set (flushing h) (flushing h) (flushing (adding h flush_seat Flush)) (reaches_itself rule set (flushing h))
            (record { item = item; waits = waits; adds = refl })) others.reaches;
        none_waits = others.none_waits;
        after = others.after;
        fewer = omega (arith, others.fewer, once.1);
      }

  few_left : (h : List Entry) (k : ℕ) → length (items_sent (history set h)) ≤ suc k + flush_count (history set h)
      → length (items_sent (history set (adding h flush_seat Flush))) ≤ k + flush_count (history set (adding h flush_seat Flush))
  few_left h k few =
      let ds : List Deed = history set h in
      subst (λ x. length (items_sent x) ≤ k + flush_count x) (sym (history-push set h (entry_by flush_seat Flush)))
      (omega (arith, few, length-append (items_sent ds) []))

  none_left : (h : List Entry) (w : Stands (history set h)) → NoneWaits (history set h) → Empties h (length w.waiting)
  none_left h w none = record { now = h; reaches = reaches_itself rule set (flushing h); none_waits = none; after = w; fewer = omega arith }

  -- each item that waits is flushed
  drain : (k : ℕ) (h : List Entry) (w : Stands (history set h)) → length (items_sent (history set h)) ≤ k + flush_count (history set h) → Empties h (length w.waiting)
  drain zero h w few = at (next_item (history set h)) refl
    where
      at : (o : Option Item) → next_item (history set h) ≡ o → Empties h (length w.waiting)
      at None none = none_left h w none
      at (Some item) some = absurd (omega (arith, few, slice_get_within (items_sent (history set h)) (flush_count (history set h)) item some))
  drain (suc k) h w few = at (λ x. drain k (adding h flush_seat Flush) x (few_left h k few)) (next_item (history set h)) refl
    where
      at : ((x : Stands (history set (adding h flush_seat Flush))) → Empties (adding h flush_seat Flush) (length x.waiting))
          → (o : Option Item) → next_item (history set h) ≡ o → Empties h (length w.waiting)
      at rest None none = none_left h w none
      at rest (Some item) some = flushed_then h w item some rest

  -- where a settling ends
  record Ends (h : List Entry) : Type 0 where
    now : List Entry
    settles : Settles rule set h now
    after : Stands (history set now)

  -- a call runs, and then the others
  run_then : (h : List Entry) (w : Stands (history set h)) (c : ℕ) → IsFirstReady (history set h) c
      → ((k : List Entry) (x : Stands (history set k)) → length x.waiting < length w.waiting → Ends k) → Ends h
  run_then h w c first rest =
      let run : RunsOnce rule set h w = run_once rule set h w c first in
      let others = rest run.now run.after run.fewer in
      record {
        now = others.now;
        settles = record {
          reaches = reaches_then rule set (running h) (running run.now) (flushing others.now)
              (reaches_turn rule set (running h) (running h) (running run.now) (reaches_itself rule set (running h)) run.ran) others.settles.reaches;
          over = others.settles.over;
        };
        after = others.after;
      }

  -- where items were flushed, and calls run again
  again : (h : List Entry) (now : List Entry) → NoneReady (history set h) → Reaches rule set (flushing h) (flushing now) → NoneWaits (history set now)
      → (c : ℕ) → IsFirstReady (history set now) c → Ends now → Ends h
  again h now none flushes empty c first others = record {
    now = others.now;
    settles = record {
      reaches = reaches_then rule set (running h) (running now) (flushing others.now)
          (reaches_turn rule set (running h) (flushing now) (running now)
          (reaches_then rule set (running h) (flushing h) (flushing now)
          (reaches_turn rule set (running h) (running h) (flushing h) (reaches_itself rule set (running h)) (none, refl)) flushes)
          (empty, (c, first.ready), refl)) others.settles.reaches;
      over = others.settles.over;
    };
    after = others.after;
  }

  over_here : (h : List Entry) (now : List Entry) → NoneReady (history set h) → Reaches rule set (flushing h) (flushing now) → NoneWaits (history set now)
      → Stands (history set now) → NoneReady (history set now) → Ends h
  over_here h now none flushes empty after over = record {
    now = now;
    settles = record {
      reaches = reaches_then rule set (running h) (flushing h) (flushing now)
          (reaches_turn rule set (running h) (running h) (flushing h) (reaches_itself rule set (running h)) (none, refl)) flushes;
      over = record { none_ready = over; none_waits = empty };
    };
    after = after;
  }

  -- one round, where what is left of fewer events ends
  round : (h : List Entry) (w : Stands (history set h)) → ((k : List Entry) (x : Stands (history set k)) → length x.waiting < length w.waiting → Ends k) → Ends h
  round h w rest = at (first_or_none set h)
    where
      behind : NoneReady (history set h) → (e : Empties h (length w.waiting)) → ((c : ℕ) × IsFirstReady (history set e.now) c) ⊎ NoneReady (history set e.now) → Ends h
      behind none e (inl some) =
          again h e.now none e.reaches e.none_waits some.0 some.1
          (run_then e.now e.after some.0 some.1 (λ k x less. rest k x (omega (arith, less, e.fewer))))
      behind none e (inr over) = over_here h e.now none e.reaches e.none_waits e.after over

      drained : Empties h (length w.waiting)
      drained = drain (length (items_sent (history set h))) h w (omega arith)

      at : ((c : ℕ) × IsFirstReady (history set h) c) ⊎ NoneReady (history set h) → Ends h
      at (inl some) = run_then h w some.0 some.1 rest
      at (inr none) = behind none drained (first_or_none set drained.now)

  settle : (n : ℕ) (h : List Entry) (w : Stands (history set h)) → length w.waiting ≤ n → Ends h
  settle zero h w few = round h w (λ k x less. absurd (omega (arith, less, few)))
  settle (suc n) h w few = round h w (λ k x less. settle n k x (omega (arith, less, few)))

  -- an entry of the input
  opening : (h : List Entry) (kind : EntryKind) → ((c : ℕ) → is_start_of c kind ≡ false) → is_flush kind ≡ false → Stands (history set h)
      → Stands (history set (adding h input_seat kind))
  opening h kind not_start not_flush w =
      let ds : List Deed = history set h in
      let e = entry_by input_seat kind in
      let d : Deed = record { entry = e; does = effect_of set ds kind } in
      let count : flush_count (d ∷ ds) ≡ flush_count ds = ap (λ b. if b then flush_count ds + 1 else flush_count ds) not_flush in
      subst Stands (sym (history-push set h e))
      (record {
        waiting = pending_after d w.waiting;
        tells = pending_step ds d w.waiting w.tells (λ c starts. absurd (false≢true (sym (not_start c) ∙ starts)));
        flushed = omega (arith, w.flushed, count, length-append (items_sent ds) d.does.says);
      })

  settled : (h : List Entry) → Stands (history set h) → Ends h
  settled h w = settle (length w.waiting) h w (omega arith)

  -- each of these packets, the newest first, can be handled
  record IsHandled (packets : List Packet) : Type 0 where
    h : List Entry
    handled : Handled rule set packets h
    stands : Stands (history set h)

  handles : (packets : List Packet) → IsHandled packets
  handles [] = record { h = []; handled = refl; stands = record { waiting = []; tells = no_deed; flushed = omega arith } }
  handles (p ∷ earlier) = next (handles earlier)
    where
      next : IsHandled earlier → IsHandled (p ∷ earlier)
      next before =
          let ends = settled (adding before.h input_seat (Arrive p)) (opening before.h (Arrive p) (λ c. refl) refl before.stands) in
          record { h = ends.now; handled = (before.h, before.handled, ends.settles); stands = ends.after }

pub history_is_there : (rule : HandlerRule) (set : Setting) (packets : List Packet) → (h : List Entry) × IsOneThreadHistory rule set packets h
history_is_there rule set packets =
    let before = handles rule set (reverse packets) in
    let ends = settled rule set (adding before.h input_seat EndIn) (opening rule set before.h EndIn (λ c. refl) refl before.stands) in
    (ends.now, record { before = before.h; handled = before.handled; settled = ends.settles })
