-- A round of the client.
use Rattle.std.proofs.Common.{◌≡◌, ℕ, zero, suc, true, ◌&&◌, List, [], ◌∷◌, ◌++◌, length, drop, flat_map, Option, Some, refl, ap, sym, ◌∙◌, subst, arith, append_assoc, map}
use Rattle.std.proofs.lemmas.Bool.{true≢false, ne_eqb}
use Rattle.std.proofs.lemmas.List.{append-nil}
use Rattle.std.proofs.Math.Seq.{drop-append_seam, drop-length}
use Rattle.std.specs.List.{list_any}
use Rattle.rpc_ids.specs.declared.method.Role.TheVariants.{Client}
use Rattle.rpc_packet.specs.declared.owned.Packet.{Packet}
use Rattle.rpc_handlers.specs.declared.event.Event.TheVariants.{Message}
use Rattle.rpc_handlers.specs.declared.event.Memo.{Memo}
use Rattle.rpc_journal.specs.declared.entry.Entry.{Entry}
use Rattle.rpc_journal.specs.declared.entry.EntryKind.TheVariants.{Arrive}
use Rattle.rpc_journal.specs.declared.item.Item.{Item}
use Rattle.rpc_journal.specs.declared.setting.Setting.{Setting}
use Rattle.rpc_journal.specs.Choice.{NoneReady}
use Rattle.rpc_journal.specs.Effect.{Deed, Opening}
use Rattle.rpc_journal.specs.Entries.{out_item}
use Rattle.rpc_journal.specs.Kinds.{streams_up}
use Rattle.rpc_journal.specs.History.{adding, history}
use Rattle.rpc_journal.specs.Items.{is_for, items_sent, sends_completion}
use Rattle.rpc_journal.specs.States.{finished_since}
use Rattle.rpc_schedule.specs.Schedule.{Ran, input_seat}
use Rattle.rpc_schedule.proofs.ScheduleLemmas.{ran_same}
use Rattle.task_core.specs.declared.mail.Mail.{Mail}
use Rattle.task_core.specs.declared.mail.Mail.TheVariants.{Text}
use Rattle.demo_services.specs.Answers.{empty_answer}
use Rattle.history_laws.specs.rounds.Rounds.{ComesToStream}
use Rattle.history_laws.proofs.rounds.RoundLemmas.{Puts, alone, message_is_put, put, ran, ran_deeds, runs, waiting}
use Rattle.history_laws.proofs.rounds.RunLemmas.{WaitsAlone, ended_idle, ended_other, ended_ready, ended_sent, ended_stream, ended_taken, ended_waiting, finish_deed, none_left, none_ready, run_events, start_deed, took}
use Rattle.link_laws.specs.world.Setup.{quiet_rule}
use Rattle.link_laws.specs.world.World.{Tasked}
use Rattle.link_laws.specs.world.Client.{ClientSettles, FlushesTo, RunsTo, all_said_in, mail_between, mail_of, task_polled, transfer_says}
use Rattle.link_laws.specs.rounds.Polls.{IsPoll, MaySay, MessagesArePolled, TasksBegin}
use Rattle.link_laws.proofs.rounds.Saying.{Speaks, all_flushed, all_said, rests}

-- a client may say messages on a call that opened so
pub record MaySpeak (set : Setting) (o : Opening) : Type 0 where
  pub role : set.role ≡ Client
  pub speaks : streams_up o.method.kind ≡ true

-- where no call is ready none runs
pub stays : (set : Setting) (n : ℕ) (h now : List Entry) → NoneReady (history set h) → RunsTo quiet_rule set n h now → now ≡ h
stays set zero h now none same = same
stays set (suc n) h now none more = (let first : Ran quiet_rule set h more.0 = more.1 in absurd (true≢false (sym first.first.ready ∙ none first.call)))

-- once all runs are done the poll is made, and what it says goes out
pub polled_so :
    (set : Setting) (now : ℕ) (h arrived ran after : List Entry) (t : Tasked) (next : Option Tasked) (o : Opening) (m : Memo) (items : List Item) (mail : List Mail) (can : MaySpeak set o)
    → Speaks set can.role t.call o m can.speaks (history set h) (history set ran) (items_sent (history set h) ++ items)
    → (s : ClientSettles set now arrived (Some t) after next) → s.ran ≡ ran → mail_between set arrived ran t.call ≡ mail
    → IsPoll set now h t o m items mail after next
polled_so set now h arrived ran after t next o m items mail can stands s same came =
    let says = transfer_says t.session t.transfer mail now in
    let role = can.role in
    let before = history set h in
    let mail_is : mail_between set arrived s.ran t.call ≡ mail = ap (λ l. mail_between set arrived l t.call) same ∙ came in
    let flushes : FlushesTo set s.flush_count (all_said_in set t.call says ran) after
    = subst (λ l. FlushesTo set s.flush_count (all_said_in set t.call says l) after) same
    (subst (λ l. FlushesTo set s.flush_count (all_said_in set t.call (transfer_says t.session t.transfer l now) s.ran) after) mail_is s.flushes) in
    let done = all_flushed set role t.call o m can.speaks before s.flush_count (all_said_in set t.call says ran) after _ flushes
    (all_said set role t.call o m can.speaks before says ran (items_sent before ++ items) stands) in
    record {
      polled = s.task_is ∙ ap (λ l. Some (task_polled t l now)) mail_is;
      said = done.sent ∙ append_assoc (items_sent before) items (map (out_item Client t.call o.name) says);
      rest = rests set role t.call o m can.speaks before (history set after) _ done s.none_waits;
      stream = done.stream;
      undone = done.undone;
      others = done.others;
    }

-- a run of a call for which one message waits
module _ (set : Setting) (h : List Entry) (c : ℕ) (o : Opening) (m : Memo) (p : Packet) (comes : ComesToStream quiet_rule set h c o m p) (can : MaySay set h c o) where
  puts : Puts quiet_rule set h p c o m (Message p.payload)
  puts = message_is_put quiet_rule set h c o m p comes

  abbrev arrived : List Entry
  arrived = adding h input_seat (Arrive p)

  abbrev run : List Entry
  run = ran quiet_rule set h p c o m (Message p.payload) puts

  abbrev put_deeds : List Deed
  put_deeds = put quiet_rule set h p c o m (Message p.payload) puts

  abbrev ran_so : List Deed
  ran_so = finish_deed c empty_answer [] ∷ start_deed c ∷ put_deeds

  deeds : history set run ≡ ran_so
  deeds = ran_deeds quiet_rule set h p c o m (Message p.payload) puts

  by_itself : WaitsAlone put_deeds c (waiting quiet_rule set h p c o m (Message p.payload) puts)
  by_itself = alone quiet_rule set h p c o m (Message p.payload) puts

  runs_once : (n : ℕ) (now : List Entry) → NoneReady (history set now) → RunsTo quiet_rule set n arrived now → now ≡ run
  runs_once zero now none same =
      let does : Ran quiet_rule set arrived run = runs quiet_rule set h p c o m (Message p.payload) puts in
      absurd (true≢false (sym does.first.ready ∙ subst (λ l. NoneReady (history set l)) same none does.call))
  runs_once (suc n) now none more =
      let first : more.0 ≡ run = ran_same quiet_rule set refl arrived more.0 run more.1 (runs quiet_rule set h p c o m (Message p.payload) puts) in
      let ready : NoneReady (history set run) = subst NoneReady (sym deeds) (ended_ready put_deeds c (waiting quiet_rule set h p c o m (Message p.payload) puts) by_itself empty_answer []) in
      stays set n run now ready (subst (λ l. RunsTo quiet_rule set n l now) first more.2)

  stands : Speaks set can.role c o m can.speaks (history set h) (history set run) (items_sent (history set h))
  stands =
      let w = waiting quiet_rule set h p c o m (Message p.payload) puts in
      let sent : items_sent ran_so ≡ items_sent (history set h) = ended_sent put_deeds c w by_itself empty_answer [] ∙ (append-nil (items_sent put_deeds) ∙ append-nil (items_sent (history set h))) in
      subst (λ ds. Speaks set can.role c o m can.speaks (history set h) ds (items_sent (history set h))) (sym deeds)
      (record {
        stream = ended_stream quiet_rule set put_deeds c w by_itself empty_answer [] o m puts.stream;
        undone = ap (list_any (λ item. is_for c item.call && sends_completion item.act)) sent ∙ can.undone;
        taken = ended_taken put_deeds c w by_itself empty_answer [];
        idle = ended_idle put_deeds c w by_itself empty_answer [];
        flushed = omega (arith, ended_waiting put_deeds c w by_itself empty_answer []);
        unhalted = comes.rest.unhalted;
        sent = sent;
        others = λ k other state apart there.
            ended_other quiet_rule set put_deeds c w by_itself empty_answer [] k other state (ne_eqb c k (λ same. apart (sym same))) (puts.others k other state there);
      })

  -- the message is all that came between
  came : mail_between set arrived run c ≡ Text p.payload ∷ []
  came =
      let w = waiting quiet_rule set h p c o m (Message p.payload) puts in
      let events : finished_since (history set run) c ≡ finished_since put_deeds c ++ Message p.payload ∷ []
      = ap (λ ds. finished_since ds c) deeds ∙ run_events quiet_rule set put_deeds c w by_itself empty_answer [] (took quiet_rule set put_deeds c w by_itself o m puts.stream) in
      let begun : finished_since (history set arrived) c ≡ finished_since put_deeds c = ap (λ ds. finished_since ds c) puts.deeds in
      ap (λ es. flat_map mail_of (drop (length es) (finished_since (history set run) c))) begun
      ∙ (ap (λ es. flat_map mail_of (drop (length (finished_since put_deeds c)) es)) events
      ∙ ap (flat_map mail_of) (drop-append_seam (finished_since put_deeds c) (Message p.payload ∷ [])))

pub messages_are_polled : MessagesArePolled
messages_are_polled set now h after t next o m p comes can s =
    let run : List Entry = ran quiet_rule set h p t.call o m (Message p.payload) (message_is_put quiet_rule set h t.call o m p comes) in
    polled_so set now h (adding h input_seat (Arrive p)) run after t next o m [] (Text p.payload ∷ []) (record { role = can.role; speaks = can.speaks })
    (subst (Speaks set can.role t.call o m can.speaks (history set h) (history set run)) (sym (append-nil (items_sent (history set h)))) (stands set h t.call o m p comes can))
    s (runs_once set h t.call o m p comes can s.run_count s.ran s.none_ready s.runs) (came set h t.call o m p comes can)

pub tasks_begin : TasksBegin
tasks_begin set now h after t next o m rest stream can s =
    let none : NoneReady (history set h) = λ k. none_ready (history set h) k (none_left (history set h) k (rest.taken k)) in
    let nothing : mail_between set h h t.call ≡ [] = ap (flat_map mail_of) (drop-length (finished_since (history set h) t.call)) in
    polled_so set now h h h after t next o m [] [] (record { role = can.role; speaks = can.speaks })
    (record {
      stream = stream;
      undone = can.undone;
      taken = rest.taken;
      idle = rest.idle;
      flushed = omega (arith, rest.flushed);
      unhalted = rest.unhalted;
      sent = sym (append-nil (items_sent (history set h)));
      others = λ k other state apart there. there;
    })
    s (stays set s.run_count h s.ran none s.runs) nothing
