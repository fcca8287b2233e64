-- A message comes to the client, and not to a task: there is none, or it speaks through another call. The call of the message
-- runs once, and nothing comes of that.
use Rattle.std.proofs.Common.{◌≡◌, ◌≢◌, ℕ, zero, suc, Bool, true, false, ◌&&◌, ◌==◌, List, [], ◌∷◌, ◌++◌, length, drop, flat_map, Option, Some, None, refl, ap, sym, ◌∙◌, subst, arith}
use Rattle.std.proofs.lemmas.Bool.{eqb-true, ne_eqb, true≢false}
use Rattle.std.proofs.lemmas.List.{append-nil}
use Rattle.std.proofs.lemmas.Option.{slice_get_within}
use Rattle.std.proofs.Math.Seq.{drop-length}
use Rattle.std.specs.List.{list_any}
use Rattle.rpc_packet.specs.declared.owned.Packet.{Packet}
use Rattle.rpc_handlers.specs.declared.event.Event.{Event}
use Rattle.rpc_handlers.specs.declared.event.Event.TheVariants.{Message}
use Rattle.rpc_handlers.specs.declared.event.Memo.{Memo}
use Rattle.rpc_journal.specs.declared.entry.Entry.{Entry}
use Rattle.rpc_journal.specs.declared.entry.EntryKind.TheVariants.{Arrive}
use Rattle.rpc_journal.specs.declared.item.Item.{Item}
use Rattle.rpc_journal.specs.declared.setting.Setting.{Setting}
use Rattle.rpc_journal.specs.declared.waiting.Waiting.{Waiting}
use Rattle.rpc_journal.specs.Choice.{NoneReady}
use Rattle.rpc_journal.specs.Effect.{Deed, Opening}
use Rattle.rpc_journal.specs.History.{adding, history}
use Rattle.rpc_journal.specs.Items.{flush_count, is_done, is_for, items_sent, sends_completion}
use Rattle.rpc_journal.specs.States.{finished_since}
use Rattle.rpc_schedule.specs.Schedule.{Flushed, Ran, input_seat}
use Rattle.rpc_schedule.proofs.ScheduleLemmas.{ran_same}
use Rattle.demo_services.specs.Answers.{empty_answer}
use Rattle.history_laws.specs.rounds.Rounds.{ComesToStream}
use Rattle.history_laws.specs.rounds.Streams.{HasStream, IsAtRest}
use Rattle.history_laws.proofs.rounds.RoundLemmas.{Puts, alone, message_is_put, put, ran, ran_deeds, runs, waiting}
use Rattle.history_laws.proofs.rounds.RunLemmas.{WaitsAlone, ended_idle, ended_other, ended_ready, ended_sent, ended_stream, ended_taken, ended_waiting, finish_deed, start_deed}
use Rattle.link_laws.specs.world.Client.{ClientSettles, FlushesTo, RunsTo, mail_between, mail_of}
use Rattle.link_laws.specs.world.Setup.{quiet_rule}
use Rattle.link_laws.specs.world.World.{Tasked}
use Rattle.link_laws.specs.rounds.Polls.{IsPoll, MaySay}
use Rattle.link_laws.proofs.rounds.Polling.{polled_so, stays}
use Rattle.link_laws.proofs.rounds.Saying.{Speaks}

-- the client has done its work, has said nothing, and is at rest, with each stream as it was
pub record IsQuiet (set : Setting) (h after : List Entry) (next : Option Tasked) : Type 0 where
  pub none : next ≡ None
  pub said : items_sent (history set after) ≡ items_sent (history set h)
  pub rest : IsAtRest (history set after)
  pub streams : (c : ℕ) (o : Opening) (m : Memo) → HasStream quiet_rule set (history set h) c o m → HasStream quiet_rule set (history set after) c o m

-- where nothing waits to go out nothing does
no_flush : (set : Setting) (n : ℕ) (h after : List Entry) → flush_count (history set h) ≡ length (items_sent (history set h)) → FlushesTo set n h after → after ≡ h
no_flush set zero h after all same = same
no_flush set (suc n) h after all flushes =
    let first : Flushed set h flushes.0 = flushes.1 in
    absurd (omega (arith, all, slice_get_within (items_sent (history set h)) (flush_count (history set h)) first.item first.waits))

-- which items complete a stream depends on the items alone
pub done_same : (before after : List Deed) (c : ℕ) → items_sent after ≡ items_sent before → is_done after c ≡ is_done before c
done_same before after c sent = ap (λ (items : List Item). list_any (λ item. is_for c item.call && sends_completion item.act) items) sent

-- the run of the call to which the message comes
module _ (set : Setting) (h : List Entry) (c : ℕ) (o : Opening) (m : Memo) (p : Packet) (comes : ComesToStream quiet_rule set h c o m p) where
  puts : Puts quiet_rule set h p c o m (Message p.payload)
  puts = message_is_put quiet_rule set h c o m p comes

  abbrev arrived : List Entry
  arrived = adding h input_seat (Arrive p)

  abbrev run : List Entry
  run = ran quiet_rule set h p c o m (Message p.payload) puts

  abbrev put_deeds : List Deed
  put_deeds = put quiet_rule set h p c o m (Message p.payload) puts

  abbrev w : Waiting
  w = waiting quiet_rule set h p c o m (Message p.payload) puts

  abbrev ran_so : List Deed
  ran_so = finish_deed c empty_answer [] ∷ start_deed c ∷ put_deeds

  deeds : history set run ≡ ran_so
  deeds = ran_deeds quiet_rule set h p c o m (Message p.payload) puts

  by_itself : WaitsAlone put_deeds c w
  by_itself = alone quiet_rule set h p c o m (Message p.payload) puts

  runs_once : (n : ℕ) (now : List Entry) → NoneReady (history set now) → RunsTo quiet_rule set n arrived now → now ≡ run
  runs_once zero now none same =
      let does : Ran quiet_rule set arrived run = runs quiet_rule set h p c o m (Message p.payload) puts in
      absurd (true≢false (sym does.first.ready ∙ subst (λ l. NoneReady (history set l)) same none does.call))
  runs_once (suc n) now none more =
      let first : more.0 ≡ run = ran_same quiet_rule set refl arrived more.0 run more.1 (runs quiet_rule set h p c o m (Message p.payload) puts) in
      let ready : NoneReady (history set run) = subst NoneReady (sym deeds) (ended_ready put_deeds c w by_itself empty_answer []) in
      stays set n run now ready (subst (λ l. RunsTo quiet_rule set n l now) first more.2)

  run_sent : items_sent (history set run) ≡ items_sent (history set h)
  run_sent =
      ap items_sent deeds
      ∙ (ended_sent put_deeds c w by_itself empty_answer [] ∙ (append-nil (items_sent put_deeds) ∙ append-nil (items_sent (history set h))))

  run_rests : IsAtRest (history set run)
  run_rests =
      subst IsAtRest (sym deeds)
      (record {
        taken = ended_taken put_deeds c w by_itself empty_answer [];
        idle = ended_idle put_deeds c w by_itself empty_answer [];
        flushed = omega (arith, ended_waiting put_deeds c w by_itself empty_answer []);
        unhalted = comes.rest.unhalted;
      })

  run_streams : (d : ℕ) (other : Opening) (state : Memo) → HasStream quiet_rule set (history set h) d other state → HasStream quiet_rule set (history set run) d other state
  run_streams d other state there = subst (λ ds. HasStream quiet_rule set ds d other state) (sym deeds) (at (c == d) refl)
    where
      arrives : HasStream quiet_rule set put_deeds d other state
      arrives = puts.others d other state there

      at : (b : Bool) → (c == d) ≡ b → HasStream quiet_rule set ran_so d other state
      at true same =
          let is : c ≡ d = eqb-true c d same in
          subst (λ e. HasStream quiet_rule set ran_so e other state) is
          (ended_stream quiet_rule set put_deeds c w by_itself empty_answer [] other state (subst (λ e. HasStream quiet_rule set put_deeds e other state) (sym is) arrives))
      at false apart = ended_other quiet_rule set put_deeds c w by_itself empty_answer [] d other state apart arrives

  -- nothing comes to another call
  others_hear : (d : ℕ) → c ≢ d → mail_between set arrived run d ≡ []
  others_hear d apart =
      let as_before : finished_since ran_so d ≡ finished_since put_deeds d = rw (ne_eqb c d apart) refl in
      let same : finished_since (history set run) d ≡ finished_since (history set arrived) d
      = ap (λ ds. finished_since ds d) deeds ∙ (as_before ∙ ap (λ ds. finished_since ds d) (sym puts.deeds)) in
      ap (λ (es : List Event). flat_map mail_of (drop (length (finished_since (history set arrived) d)) es)) same
      ∙ ap (flat_map mail_of) (drop-length (finished_since (history set arrived) d))

-- A MESSAGE COMES WHERE NO TASK SPEAKS
pub quiet_round : (set : Setting) (now : ℕ) (h after : List Entry) (next : Option Tasked) (c : ℕ) (o : Opening) (m : Memo) (p : Packet) → ComesToStream quiet_rule set h c o m p
    → ClientSettles set now (adding h input_seat (Arrive p)) None after next → IsQuiet set h after next
quiet_round set now h after next c o m p comes s =
    let one : s.ran ≡ run set h c o m p comes = runs_once set h c o m p comes s.run_count s.ran s.none_ready s.runs in
    let flushes : FlushesTo set s.flush_count (run set h c o m p comes) after = subst (λ l. FlushesTo set s.flush_count l after) one s.flushes in
    let is : after ≡ run set h c o m p comes = no_flush set s.flush_count (run set h c o m p comes) after (run_rests set h c o m p comes).flushed flushes in
    record {
      none = s.task_is;
      said = ap (λ l. items_sent (history set l)) is ∙ run_sent set h c o m p comes;
      rest = subst (λ l. IsAtRest (history set l)) (sym is) (run_rests set h c o m p comes);
      streams = λ d other state there. subst (λ l. HasStream quiet_rule set (history set l) d other state) (sym is) (run_streams set h c o m p comes d other state there);
    }

-- A MESSAGE COMES TO A CALL BESIDE THE TASK'S: the task is polled without mail
pub polled_beside : (set : Setting) (now : ℕ) (h after : List Entry) (t : Tasked) (next : Option Tasked) (own : Opening) (state : Memo) (c : ℕ) (o : Opening) (m : Memo) (p : Packet)
    → ComesToStream quiet_rule set h c o m p → c ≢ t.call → HasStream quiet_rule set (history set h) t.call own state → MaySay set h t.call own
    → ClientSettles set now (adding h input_seat (Arrive p)) (Some t) after next → IsPoll set now h t own state [] [] after next
polled_beside set now h after t next own state c o m p comes apart stream can s =
    polled_so set now h (adding h input_seat (Arrive p)) (run set h c o m p comes) after t next own state [] [] (record { role = can.role; speaks = can.speaks }) stands s
    (runs_once set h c o m p comes s.run_count s.ran s.none_ready s.runs) (others_hear set h c o m p comes t.call apart)
  where
    rests : IsAtRest (history set (run set h c o m p comes))
    rests = run_rests set h c o m p comes

    stands : Speaks set can.role t.call own state can.speaks (history set h) (history set (run set h c o m p comes)) (items_sent (history set h) ++ [])
    stands = record {
      stream = run_streams set h c o m p comes t.call own state stream;
      undone = done_same (history set h) (history set (run set h c o m p comes)) t.call (run_sent set h c o m p comes) ∙ can.undone;
      taken = rests.taken;
      idle = rests.idle;
      flushed = omega (arith, rests.flushed);
      unhalted = rests.unhalted;
      sent = run_sent set h c o m p comes ∙ sym (append-nil (items_sent (history set h)));
      others = λ d other kept far there. run_streams set h c o m p comes d other kept there;
    }
