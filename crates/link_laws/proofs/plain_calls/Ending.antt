-- As a run ends no packet goes out.
use Rattle.std.proofs.Common.{◌≡◌, ℕ, zero, suc, ◌+◌, Bool, true, false, not, ◌&&◌, ◌==◌, List, [], ◌∷◌, ◌++◌, drop, flat_map, length, map, slice_get, Option, Some, None, if◌then◌else◌, refl, ap, sym, ◌∙◌, subst, inr, arith, append_assoc}
use Rattle.std.proofs.lemmas.Bool.{and_right, eq-eqb, true≢false}
use Rattle.std.proofs.Math.Seq.{drop-append_seam}
use Rattle.std.proofs.lemmas.List.{append-nil}
use Rattle.std.proofs.lemmas.List.Concat.{flat_map-append}
use Rattle.std.specs.List.{AllByRecursion}
use Rattle.rpc_ids.specs.declared.method.Role.{Role}
use Rattle.rpc_ids.specs.declared.method.Role.TheVariants.{Server, Client}
use Rattle.rpc_packet.specs.declared.call_name.CallName.{CallName}
use Rattle.rpc_handlers.specs.declared.answer.Answer.{Answer}
use Rattle.rpc_handlers.specs.declared.answer.Out.{Out}
use Rattle.rpc_handlers.specs.declared.answer.Out.TheVariants.{Say as Message, Begin, Append, Commit, Leave}
use Rattle.rpc_handlers.specs.declared.event.Event.{Event}
use Rattle.rpc_handlers.specs.declared.event.Event.TheVariants.{Ended}
use Rattle.rpc_handlers.specs.HandlerRule.{HandlerRule}
use Rattle.rpc_ids.specs.declared.status.Status.TheVariants.{Unavailable}
use Rattle.rpc_journal.specs.declared.entry.Entry.{Entry}
use Rattle.rpc_journal.specs.declared.entry.EntryKind.TheVariants.{EndIn, Finish, Flush, Start}
use Rattle.rpc_journal.specs.declared.item.Item.{Item}
use Rattle.rpc_journal.specs.declared.setting.Setting.{Setting}
use Rattle.rpc_journal.specs.declared.waiting.Waiting.{Waiting}
use Rattle.rpc_journal.specs.Calls.{call_at, calls, has_end, is_cancelled, of_call}
use Rattle.rpc_journal.specs.Effect.{Deed, Opening}
use Rattle.rpc_journal.specs.Entries.{answer_item, answered, each_from, finish_effect, is_heard, is_live, leave_item, messages_go, was_ended}
use Rattle.rpc_journal.specs.Rows.{says_item}
use Rattle.rpc_journal.proofs.KnownLemmas.{finish-puts}
use Rattle.rpc_journal.specs.Calls.{runner_of}
use Rattle.rpc_journal.specs.Items.{halt_reason}
use Rattle.rpc_journal.specs.History.{adding, deeds_with, entry_by, history}
use Rattle.rpc_journal.specs.Items.{is_done, is_ready, items_sent, packet_of, packets_of}
use Rattle.rpc_journal.specs.Lawful.{IsLawful}
use Rattle.rpc_journal.specs.Queues.{drops_of, is_ended, put_at, puts_since, starts_since, taken_event, waiting_of}
use Rattle.rpc_journal.proofs.Push.{history-push}
use Rattle.rpc_schedule.specs.Schedule.{Flushed, Ran, Stage, Turn, Turns, flush_seat, input_seat, run_seat}
use Rattle.rpc_schedule.specs.Schedule.Stage.{running, flushing}
use Rattle.rpc_schedule.proofs.ScheduleLemmas.{entries_of}
use Rattle.rpc_schedule.proofs.ServingLemmas.{run_history}
use Rattle.history_laws.specs.rounds.Streams.{IsAtRest}
use Rattle.history_laws.proofs.rounds.RestLemmas.{settled_is_at_rest}
use Rattle.history_laws.proofs.rounds.RunLemmas.{none_ready}
use Rattle.link_laws.specs.world.Client.{FlushesTo, RunsTo}
use Rattle.link_laws.specs.world.Setup.{quiet_rule}
use Rattle.link_laws.specs.world.World.{World, flushed_since, moment, with_server}
use Rattle.link_laws.proofs.one_run.Parts.{client_keeps, server_keeps}
use Rattle.link_laws.proofs.rounds.Carrying.{all_numbered, gone_out}
use Rattle.link_laws.specs.plain_calls.Rests.{EndsAreQuiet}
use Rattle.link_laws.proofs.plain_calls.ClientRest.{CanWork, client_rests}

abbrev IsEnd : Waiting → Type 0
IsEnd w = is_ended w.event ≡ true

-- only the ends of calls wait
abbrev OnlyEnds : List Deed → Type 0
OnlyEnds ds = (c : ℕ) → AllByRecursion IsEnd (waiting_of ds c)

-- what was sent since then has no packets
record IsSilent (before ds : List Deed) : Type 0 where
  ends : OnlyEnds ds
  more : List Item
  sent : items_sent ds ≡ items_sent before ++ more
  silent : packets_of more ≡ []

first_ends : (ws : List Waiting) → AllByRecursion IsEnd ws → (e : Event) → slice_get (map (λ (w : Waiting). w.event) ws) 0 ≡ Some e → is_ended e ≡ true
first_ends [] all e is = absurd cc
first_ends (w ∷ ws) all e is = (let same : w.event ≡ e = cc in ap is_ended (sym same) ∙ all.0)

-- one more was taken
dropped_next : (P : Waiting → Type 0) (n : ℕ) (ws : List Waiting) → AllByRecursion P (drop n ws) → AllByRecursion P (drop (suc n) ws)
dropped_next P zero [] all = tt
dropped_next P zero (w ∷ ws) all = all.1
dropped_next P (suc n) [] all = tt
dropped_next P (suc n) (w ∷ ws) all = dropped_next P n ws all

dropped_more : (P : Waiting → Type 0) (n : ℕ) (ws : List Waiting) → AllByRecursion P (drop n ws) → AllByRecursion P (drop (n + 1) ws)
dropped_more P n ws all = subst (λ m. AllByRecursion P (drop m ws)) (one_more n) (dropped_next P n ws all)
  where
    one_more : (n : ℕ) → suc n ≡ n + 1
    one_more n = omega arith

-- an answer whose messages don't go has none
store_only : (role : Role) (c : ℕ) (name : CallName) (outs : List Out) → packets_of (flat_map (answer_item role c name false) outs) ≡ []
store_only role c name [] = refl
store_only role c name (Message payload ∷ outs) = store_only role c name outs
store_only role c name (Begin session resource offset ∷ outs) = store_only role c name outs
store_only role c name (Append session bytes ∷ outs) = store_only role c name outs
store_only role c name (Commit session ∷ outs) = store_only role c name outs
store_only role c name (Leave session ∷ outs) = store_only role c name outs

module _ (rule : HandlerRule) (set : Setting) (before : List Deed) where
  abbrev Silent : List Entry → Type 0
  Silent h = IsSilent before (history set h)

  -- the run of a call that took its end
  module _ (ds : List Deed) (c : ℕ) (a : Answer) (x : IsSilent before ds) (ready : is_ready ds c ≡ true) where
    abbrev begun : List Deed
    begun = deeds_with set ds (entry_by run_seat (Start c))

    some_first : (ws : List Waiting) → waiting_of ds c ≡ ws → AllByRecursion IsEnd ws → was_ended (slice_get (map (λ (w : Waiting). w.event) ws) 0) ≡ true
    some_first [] none all = absurd (true≢false (sym ready ∙ none_ready ds c none))
    some_first (w ∷ ws) is all = all.0

    took : was_ended (taken_event begun c) ≡ true
    took =
        ap (λ b. was_ended (if b then slice_get (map (λ (w : Waiting). w.event) (waiting_of ds c)) 0 else taken_event ds c)) (eq-eqb c c refl)
        ∙ some_first (waiting_of ds c) refl (x.ends c)

    unheard : is_heard begun c ≡ false
    unheard = ap (λ b. not (has_end begun c) && not b) took ∙ and_right (not (has_end begun c)) false refl

    says : (there : Option Opening) → packets_of (finish_effect set begun c a there).says ≡ []
    says None = refl
    says (Some o) = at (is_cancelled begun c)
      where
        at : (b : Bool) → packets_of (if b then says_item (leave_item c) else answered set.role c o (is_heard begun c) (is_done begun c) a).says ≡ []
        at true = refl
        at false =
            ap (λ h. packets_of (answered set.role c o h (is_done begun c) a).says) unheard
            ∙ (ap packets_of (append-nil (flat_map (answer_item set.role c o.name (messages_go set.role o.method.kind false (is_done begun c))) a.items)) ∙ store_only set.role c o.name a.items)

    start_silent : IsSilent before begun
    start_silent = record {
      ends = λ k. at k (c == k);
      more = x.more;
      sent = append-nil (items_sent ds) ∙ x.sent;
      silent = x.silent;
    }
      where
        at : (k : ℕ) (b : Bool) → AllByRecursion IsEnd (drop (if b then starts_since ds k + 1 else starts_since ds k) (puts_since ds k ++ []))
        at k true = subst (λ ws. AllByRecursion IsEnd (drop (starts_since ds k + 1) ws)) (sym (append-nil (puts_since ds k))) (dropped_more IsEnd (starts_since ds k) (puts_since ds k) (x.ends k))
        at k false = subst (λ ws. AllByRecursion IsEnd (drop (starts_since ds k) ws)) (sym (append-nil (puts_since ds k))) (x.ends k)

    finish_silent : IsSilent before (deeds_with set begun (entry_by run_seat (Finish c a)))
    finish_silent =
        let s : IsSilent before begun = start_silent in
        let there : Option Opening = call_at begun c in
        record {
          ends = λ k. subst (λ ps. AllByRecursion IsEnd (drop (if drops_of (record { entry = entry_by run_seat (Finish c a); does = finish_effect set begun c a there }) k then 0 else starts_since begun k)
              ((if drops_of (record { entry = entry_by run_seat (Finish c a); does = finish_effect set begun c a there }) k then [] else puts_since begun k) ++ put_at (length begun) (of_call k ps))))
              (sym (finish-puts set begun c a there)) (at k (drops_of (record { entry = entry_by run_seat (Finish c a); does = finish_effect set begun c a there }) k) (s.ends k));
          more = s.more ++ (finish_effect set begun c a there).says;
          sent = ap (λ items. items ++ (finish_effect set begun c a there).says) s.sent ∙ append_assoc (items_sent before) s.more (finish_effect set begun c a there).says;
          silent =
              flat_map-append (λ (item : Item). packet_of item.act) s.more (finish_effect set begun c a there).says
              ∙ (ap (λ ps. ps ++ packets_of (finish_effect set begun c a there).says) s.silent ∙ says there);
        }
      where
        at : (k : ℕ) (b : Bool) → AllByRecursion IsEnd (waiting_of begun k) → AllByRecursion IsEnd (drop (if b then 0 else starts_since begun k) ((if b then [] else puts_since begun k) ++ []))
        at k true all = tt
        at k false all = subst (λ ws. AllByRecursion IsEnd (drop (starts_since begun k) ws)) (sym (append-nil (puts_since begun k))) all

  run_silent : (h after : List Entry) → Ran rule set h after → Silent h → Silent after
  run_silent h after ran x =
      subst (λ l. IsSilent before (history set l)) (sym ran.adds)
      (subst (IsSilent before) (sym (run_history set h ran.call ran.answer)) (finish_silent (history set h) ran.call ran.answer x ran.first.ready))

  flush_silent : (h after : List Entry) → Flushed set h after → Silent h → Silent after
  flush_silent h after flushed x =
      subst (λ l. IsSilent before (history set l)) (sym flushed.adds)
      (subst (IsSilent before) (sym (history-push set h (entry_by flush_seat Flush)))
      (record {
        ends = λ k. subst (λ ws. AllByRecursion IsEnd (drop (starts_since (history set h) k) ws)) (sym (append-nil (puts_since (history set h) k))) (x.ends k);
        more = x.more;
        sent = append-nil (items_sent (history set h)) ∙ x.sent;
        silent = x.silent;
      }))

  turn_silent : (a b : Stage) → Turn rule set a b → Silent (entries_of a) → Silent (entries_of b)
  turn_silent (running h) (running now) ran x = run_silent h now ran x
  turn_silent (running h) (flushing now) turn x = subst (λ l. Silent l) (sym turn.1) x
  turn_silent (flushing h) (flushing now) flushed x = flush_silent h now flushed x
  turn_silent (flushing h) (running now) turn x = subst (λ l. Silent l) (sym turn.2) x

  turns_silent : (n : ℕ) (a b : Stage) → Turns rule set n a b → Silent (entries_of a) → Silent (entries_of b)
  turns_silent zero a b same x = subst (λ s. Silent (entries_of s)) same x
  turns_silent (suc n) a b turns x = turns_silent n turns.0 b turns.2 (turn_silent a turns.0 turns.1 x)

  runs_silent : (n : ℕ) (h after : List Entry) → RunsTo rule set n h after → Silent h → Silent after
  runs_silent zero h after same x = subst Silent (sym same) x
  runs_silent (suc n) h after runs x = runs_silent n runs.0 after runs.2 (run_silent h runs.0 runs.1 x)

  flushes_silent : (n : ℕ) (h after : List Entry) → FlushesTo set n h after → Silent h → Silent after
  flushes_silent zero h after same x = subst Silent (sym same) x
  flushes_silent (suc n) h after flushes x = flushes_silent n flushes.0 after flushes.2 (flush_silent h flushes.0 flushes.1 x)

-- the end of the input puts only ends to calls
each_ends : (test : ℕ → Opening → Bool) (os : List Opening) (c k at : ℕ) → AllByRecursion IsEnd (put_at at (of_call k (each_from c test (Ended Unavailable) os)))
each_ends test [] c k at = tt
each_ends test (o ∷ os) c k at = by (test c o) (each_ends test os (c + 1) k at)
  where
    own : (b : Bool) → AllByRecursion IsEnd (put_at at (of_call k (each_from (c + 1) test (Ended Unavailable) os)))
        → AllByRecursion IsEnd (put_at at (if b then Ended Unavailable ∷ of_call k (each_from (c + 1) test (Ended Unavailable) os) else of_call k (each_from (c + 1) test (Ended Unavailable) os)))
    own true rest = (refl, rest)
    own false rest = rest

    by : (b : Bool) → AllByRecursion IsEnd (put_at at (of_call k (each_from (c + 1) test (Ended Unavailable) os)))
        → AllByRecursion IsEnd (put_at at (of_call k (if b then (c, Ended Unavailable) ∷ each_from (c + 1) test (Ended Unavailable) os else each_from (c + 1) test (Ended Unavailable) os)))
    by true rest = own (c == k) rest
    by false rest = rest

end_in_silent : (set : Setting) (h : List Entry) → IsAtRest (history set h) → IsSilent (history set h) (history set (adding h input_seat EndIn))
end_in_silent set h rest =
    subst (IsSilent (history set h)) (sym (history-push set h (entry_by input_seat EndIn)))
    (record {
      ends = λ k. subst (AllByRecursion IsEnd) (sym (only_new k)) (each_ends (is_live (history set h)) (calls (history set h)) 0 k (length (history set h)));
      more = [];
      sent = refl;
      silent = refl;
    })
  where
    only_new : (k : ℕ) → drop (starts_since (history set h) k) (puts_since (history set h) k ++ put_at (length (history set h)) (of_call k (each_from 0 (is_live (history set h)) (Ended Unavailable) (calls (history set h)))))
        ≡ put_at (length (history set h)) (of_call k (each_from 0 (is_live (history set h)) (Ended Unavailable) (calls (history set h))))
    only_new k = ap (λ n. drop n (puts_since (history set h) k ++ put_at (length (history set h)) (of_call k (each_from 0 (is_live (history set h)) (Ended Unavailable) (calls (history set h)))))) (rest.taken k)
        ∙ drop-append_seam (puts_since (history set h) k) _

-- AS A RUN ENDS NO FRAME IS NUMBERED
pub ends_are_quiet : EndsAreQuiet
ends_are_quiet k w now rest e server_lawful client_lawful = numbered
  where
    server_rest : IsAtRest (history k.server w.server)
    server_rest = rest.server

    client_rest : IsAtRest (history k.client w.client)
    client_rest = rest.client

    v : World
    v = with_server k w e.server

    v_client : v.client ≡ w.client
    v_client = server_keeps k (λ z. z.client) (λ z p. refl) w e.server

    now_server : now.server ≡ e.server
    now_server = ap (λ z. z.server) e.is ∙ (client_keeps k (λ z. z.server) (λ z p. refl) v e.client ∙ server_keeps k (λ z. z.server) (λ z p. refl) w e.server)

    now_client : now.client ≡ e.client
    now_client = ap (λ z. z.client) e.is ∙ client_keeps k (λ z. z.client) (λ z p. refl) v e.client

    server_silent : IsSilent (history k.server w.server) (history k.server e.server)
    server_silent =
        turns_silent k.rule k.server (history k.server w.server) e.server_settles.reaches.0 (running (adding w.server input_seat EndIn)) (flushing e.server) e.server_settles.reaches.1
        (end_in_silent k.server w.server server_rest)

    client_silent : IsSilent (history k.client w.client) (history k.client e.client)
    client_silent =
        let s = e.client_settles in
        flushes_silent quiet_rule k.client (history k.client w.client) s.flush_count s.ran e.client s.flushes
        (runs_silent quiet_rule k.client (history k.client w.client) s.run_count (adding w.client input_seat EndIn) s.ran s.runs (end_in_silent k.client w.client client_rest))

    deeds_are : (set : Setting) (h : List Entry) → history set (adding h input_seat EndIn) ≡ deeds_with set (history set h) (entry_by input_seat EndIn)
    deeds_are set h = history-push set h (entry_by input_seat EndIn)

    server_rests : IsAtRest (history k.server e.server)
    server_rests =
        settled_is_at_rest k.rule k.server (adding w.server input_seat EndIn) e.server
        (λ c. ap (λ ds. runner_of ds c) (deeds_are k.server w.server) ∙ server_rest.idle c)
        (ap halt_reason (deeds_are k.server w.server) ∙ server_rest.unhalted)
        e.server_settles (subst (IsLawful k.server) now_server server_lawful)

    client_can : CanWork k.client (history k.client (adding w.client input_seat EndIn))
    client_can =
        subst (CanWork k.client) (sym (deeds_are k.client w.client))
        (record {
          idle = client_rest.idle;
          unhalted = client_rest.unhalted;
          room = inr (let flushed = client_rest.flushed in omega (arith, flushed, ap length (append-nil (items_sent (history k.client w.client)))));
        })

    client_rests_then : IsAtRest (history k.client e.client)
    client_rests_then =
        client_rests k.client (moment w) (adding w.client input_seat EndIn) None e.client None e.client_settles client_can (subst (IsLawful k.client) now_client client_lawful)

    none_up : flushed_since k.client v.client e.client ≡ []
    none_up =
        ap (λ h. flushed_since k.client h e.client) v_client
        ∙ (gone_out k.client w.client e.client client_silent.more client_rest client_rests_then client_silent.sent ∙ client_silent.silent)

    none_down : flushed_since k.server w.server e.server ≡ []
    none_down = gone_out k.server w.server e.server server_silent.more server_rest server_rests server_silent.sent ∙ server_silent.silent

    numbered : now.numbered ≡ w.numbered
    numbered =
        ap (λ (z : World). z.numbered) e.is
        ∙ (all_numbered k Client (flushed_since k.client v.client e.client) (record v { client = e.client })
        ∙ (ap (λ ps. v.numbered ++ ps) none_up ∙ (append-nil v.numbered
        ∙ (all_numbered k Server (flushed_since k.server w.server e.server) (record w { server = e.server }) ∙ (ap (λ ps. w.numbered ++ ps) none_down ∙ append-nil w.numbered)))))
