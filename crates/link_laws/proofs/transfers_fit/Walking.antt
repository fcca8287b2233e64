-- Each turn keeps the client's store small.
use Rattle.std.proofs.Common.{◌≡◌, ℕ, zero, suc, ◌+◌, ◌≤◌, min, Bool, true, false, if◌then◌else◌, List, [], ◌∷◌, ◌++◌, codes, length, map, Option, Some, None, refl, sym, ap, ◌∙◌, subst, arith, is_some}
use Rattle.std.proofs.lemmas.Bool.{false≢true}
use Rattle.std.specs.List.{AllByRecursion}
use Rattle.link_io.specs.Resources.{found}
use Rattle.link_io.specs.Stored.{Stored}
use Rattle.link_script.specs.declared.command.Command.{Command}
use Rattle.link_script.specs.declared.command.Command.TheVariants.{Read, Write, Echo, Count, Sum, Chat, Close}
use Rattle.link_script.specs.declared.report.ReportLine.{ReportLine}
use Rattle.link_script.specs.Script.{IsCommand}
use Rattle.link_script.specs.lossy.Link.{released}
use Rattle.rpc_ids.specs.declared.method.Role.TheVariants.{Client}
use Rattle.rpc_ids.specs.Names.{name_id}
use Rattle.rpc_packet.specs.declared.owned.Packet.{Packet}
use Rattle.rpc_handlers.specs.declared.answer.Out.TheVariants.{Say as Message, Begin, Append, Commit, Leave}
use Rattle.rpc_journal.specs.declared.entry.Entry.{Entry}
use Rattle.rpc_journal.specs.declared.entry.EntryKind.{EntryKind}
use Rattle.rpc_journal.specs.declared.entry.EntryKind.TheVariants.{Arrive, Invoke, Say, Done, Start, Finish, Replace, Cancel, Tick, Flush, EndIn, Halt, Close as Closing}
use Rattle.rpc_journal.specs.Calls.{call_count}
use Rattle.rpc_journal.specs.Effect.{Deed}
use Rattle.rpc_journal.specs.History.{adding, history}
use Rattle.rpc_schedule.specs.Schedule.{NoneWaits, input_seat, run_seat}
use Rattle.demo_services.specs.Methods.{demo_id, transfer_id}
use Rattle.transfer_client.specs.Read.{new_download}
use Rattle.transfer_client.specs.Write.{new_upload}
use Rattle.link_laws.specs.world.Client.{ClientSettles, ClientTakes, all_said_in, mail_between, task_after, task_said, transfer_polled}
use Rattle.link_laws.specs.world.Lines.{command_ended, finished, is_still, line_of, with_line}
use Rattle.link_laws.specs.world.Starts.{Started, all_added, left_length, live_transfers, message_kinds, opens_with, starts, starts_plain, starts_write, transfer_by, Asks, StartTurn, with_command}
use Rattle.link_laws.specs.world.Turns.{Cancels, ClientHears, ServerHears, TimePasses, Turn, TurnOf, Turns, kind_by, later, with_frame_at_client, with_frame_at_server}
use Rattle.link_laws.specs.world.World.{task_of, task_under, under_with, with_task, Plain, count as plain_count, echo, chat, sum, Setup, Tasked, Transfer, Under, World, calling, client_deeds, client_store, closing, lacking, moment, reads, transferring, with_client, with_server, writes}
use Rattle.history_laws.proofs.messages.Members.{all_weaken}
use Rattle.link_laws.proofs.one_run.Parts.{client_keeps, server_keeps}
use Rattle.link_laws.proofs.okay_means_bytes.Items.{Quiet}
use Rattle.link_laws.proofs.okay_means_bytes.Speaks.{flushes_keep, runs_keep, sayings_of, says_outs}
use Rattle.link_laws.proofs.transfers_fit.Stores.{StoreFits, WorkFits, grown}
use Rattle.link_laws.proofs.transfers_fit.Added.{Calm, Fits, all_said_fits, calm_fits, stored_by}
use Rattle.link_laws.proofs.transfers_fit.Tasks.{TransferFits, poll_fits, transfer_small}

-- a fresh session has no work
loosened : (n i m : ℕ) (s : Stored) → StoreFits n i m s → StoreFits n (n + 1) 0 s
loosened n i m s fits = record {
  full = fits.full;
  left = fits.left;
  works = all_weaken (WorkFits n i m) (WorkFits n (n + 1) 0) s.work (λ e f. record { size = f.size; low = f.low; own = λ same. absurd (omega (arith, same, f.low)) }) fits.works;
}

-- one session more
widened : (n i m : ℕ) (s : Stored) → StoreFits n i m s → StoreFits (n + 1) i m s
widened n i m s fits = record {
  full = fits.full;
  left = fits.left;
  works = all_weaken (WorkFits n i m) (WorkFits (n + 1) i m) s.work (λ e f. record { size = f.size; low = omega (arith, f.low); own = f.own }) fits.works;
}

quiet_calm : (ds : List Deed) (kind : EntryKind) → Quiet ds kind → Calm kind
quiet_calm ds (Arrive p) q = tt
quiet_calm ds (Invoke p m) q = tt
quiet_calm ds (Say c (Message payload)) q = tt
quiet_calm ds (Say c (Begin s r o)) q = q
quiet_calm ds (Say c (Append s b)) q = q
quiet_calm ds (Say c (Commit s)) q = q
quiet_calm ds (Say c (Leave s)) q = q
quiet_calm ds (Done c) q = tt
quiet_calm ds (Start c) q = tt
quiet_calm ds (Finish c a) q = q
quiet_calm ds (Replace c m) q = q
quiet_calm ds (Cancel c) q = tt
quiet_calm ds (Tick t) q = tt
quiet_calm ds Flush q = tt
quiet_calm ds EndIn q = tt
quiet_calm ds (Halt why) q = tt
quiet_calm ds (Closing channel) q = q

module _ (k : Setup) (role : k.client.role ≡ Client) where
  abbrev HasFits : ℕ → ℕ → ℕ → List Entry → Type 0
  HasFits n i m h = Fits k.client role k.client_store n i m h

  -- THE STORE IS SMALL, and the work of the task that speaks is within what the task has kept
  pub record TaskHolds (n : ℕ) (h : List Entry) (t : Tasked) : Type 0 where
    pub low : t.session ≤ n
    pub most : ℕ
    pub fits : HasFits n t.session most h
    pub stands : TransferFits t.transfer most

  abbrev pub Holds : ℕ → List Entry → Option Tasked → Type 0
  Holds n h None = HasFits n (n + 1) 0 h
  Holds n h (Some t) = TaskHolds n h t

  pub idle : (n : ℕ) (h : List Entry) (task : Option Tasked) → Holds n h task → Holds n h None
  idle n h None holds = holds
  idle n h (Some t) holds = loosened n t.session holds.most (stored_by k.client role k.client_store h) holds.fits

  calm_holds : (n : ℕ) (task : Option Tasked) (h : List Entry) (seat : ℕ) (kind : EntryKind) → Calm kind → Holds n h task → Holds n (adding h seat kind) task
  calm_holds n None h seat kind calm holds = calm_fits k.client role k.client_store n (n + 1) 0 h seat kind calm holds
  calm_holds n (Some t) h seat kind calm holds = record {
    low = holds.low;
    most = holds.most;
    fits = calm_fits k.client role k.client_store n t.session holds.most h seat kind calm holds.fits;
    stands = holds.stands;
  }

  quiet_holds : (n : ℕ) (task : Option Tasked) (h : List Entry) (seat : ℕ) (kind : EntryKind) → Quiet (history k.client h) kind → Holds n h task → Holds n (adding h seat kind) task
  quiet_holds n task h seat kind quiet holds = calm_holds n task h seat kind (quiet_calm (history k.client h) kind quiet) holds

  said_holds : (n : ℕ) (t : Tasked) (now : ℕ) (before ran : List Entry) → TaskHolds n ran t → Holds n (task_said k.client now before ran (Some t)) (task_after k.client now before ran (Some t))
  said_holds n t now before ran holds =
      let mail = mail_between k.client before ran t.call in
      let stands : TransferFits (transfer_polled t.session t.transfer mail now) (grown holds.most (sayings_of t.session t.transfer mail now)) =
      poll_fits t.session t.transfer holds.most mail now holds.stands in
      record {
        low = holds.low;
        most = grown holds.most (sayings_of t.session t.transfer mail now);
        fits =
            subst (λ outs. HasFits n t.session (grown holds.most (sayings_of t.session t.transfer mail now)) (all_said_in k.client t.call outs ran)) (sym (says_outs t.session t.transfer mail now))
            (all_said_fits k.client role k.client_store n t.session t.call (sayings_of t.session t.transfer mail now) holds.most ran holds.low (transfer_small _ _ stands) holds.fits);
        stands = stands;
      }

  polled_holds : (n : ℕ) (task : Option Tasked) (now : ℕ) (before ran : List Entry) → Holds n ran task → Holds n (task_said k.client now before ran task) (task_after k.client now before ran task)
  polled_holds n None now before ran holds = holds
  polled_holds n (Some t) now before ran holds = said_holds n t now before ran holds

  -- the client's work in a turn
  pub settles_holds : (n : ℕ) (task : Option Tasked) (now : ℕ) (h after : List Entry) (next : Option Tasked) → ClientSettles k.client now h task after next → Holds n h task → Holds n after next
  settles_holds n task now h after next s holds =
      let ran : Holds n s.ran task = runs_keep k.client (λ g. Holds n g task) (quiet_holds n task) s.run_count h s.ran s.runs holds in
      let task' : Option Tasked = task_after k.client now h s.ran task in
      subst (Holds n after) (sym s.task_is)
      (flushes_keep k.client (λ g. Holds n g task') (quiet_holds n task') s.flush_count (task_said k.client now h s.ran task) after s.flushes (polled_holds n task now h s.ran ran))

  takes_holds : (n : ℕ) (qs : List Packet) (task : Option Tasked) (now : ℕ) (h after : List Entry) (next : Option Tasked) → ClientTakes k.client now qs h task after next → Holds n h task → Holds n after next
  takes_holds n [] task now h after next takes holds = subst (λ g. Holds n g next) (sym takes.0) (subst (Holds n h) (sym takes.1) holds)
  takes_holds n (q ∷ qs) task now h after next takes holds =
      takes_holds n qs takes.1 now takes.0 after next takes.3 (settles_holds n task now (adding h input_seat (Arrive q)) takes.0 takes.1 takes.2 (calm_holds n task h input_seat (Arrive q) tt holds))

  takes_out : (qs : List Packet) (task : Option Tasked) (now : ℕ) (h after : List Entry) (next : Option Tasked) → ClientTakes k.client now qs h task after next → NoneWaits (history k.client h) → NoneWaits (history k.client after)
  takes_out [] task now h after next takes out = subst (λ g. NoneWaits (history k.client g)) (sym takes.0) out
  takes_out (q ∷ qs) task now h after next takes out = takes_out qs takes.1 now takes.0 after next takes.3 takes.2.none_waits

  -- THE WORLD
  module _ (total : ℕ) where
    pub record Stands (w : World) : Type 0 where
      pub holds : Holds w.sessions w.client (task_under w.under)
      pub out : NoneWaits (history k.client w.client)
      pub coming : AllByRecursion IsCommand w.coming
      pub room : w.sessions + length w.coming ≤ total

    -- the end of a turn
    lined : (v : World) (o : Option ReportLine) → Stands v → Stands (with_line v o)
    lined v None s = s
    lined v (Some told) s = record { holds = idle v.sessions v.client (task_under v.under) s.holds; out = s.out; coming = s.coming; room = s.room }

    ended : (v : World) (under : Option Under) → Stands v → Stands (command_ended k v under)
    ended v None s = s
    ended v (Some under) s = lined v (line_of k v under) s

    finishes : (v : World) → Stands v → Stands (finished k v)
    finishes v s = by_still (is_still v)
      where
        by_still : (b : Bool) → Stands (command_ended k (if b then record v { to_server = released v.to_server; to_client = released v.to_client } else v) v.under)
        by_still true = ended (record v { to_server = released v.to_server; to_client = released v.to_client }) v.under (record { holds = s.holds; out = s.out; coming = s.coming; room = s.room })
        by_still false = ended v v.under s

    -- what goes out changes none of it
    record IsAt (v : World) (client : List Entry) (n : ℕ) (under : Option Under) (coming : List Command) : Type 0 where
      client_is : v.client ≡ client
      sessions_are : v.sessions ≡ n
      under_is : v.under ≡ under
      coming_is : v.coming ≡ coming

    client_at : (b : World) (after : List Entry) → IsAt (with_client k b after) after b.sessions b.under b.coming
    client_at b after = record {
      client_is = client_keeps k (λ x. x.client) (λ x p. refl) b after;
      sessions_are = client_keeps k (λ x. x.sessions) (λ x p. refl) b after;
      under_is = client_keeps k (λ x. x.under) (λ x p. refl) b after;
      coming_is = client_keeps k (λ x. x.coming) (λ x p. refl) b after;
    }

    server_at : (b : World) (after : List Entry) → IsAt (with_server k b after) b.client b.sessions b.under b.coming
    server_at b after = record {
      client_is = server_keeps k (λ x. x.client) (λ x p. refl) b after;
      sessions_are = server_keeps k (λ x. x.sessions) (λ x p. refl) b after;
      under_is = server_keeps k (λ x. x.under) (λ x p. refl) b after;
      coming_is = server_keeps k (λ x. x.coming) (λ x p. refl) b after;
    }

    both_at : (b : World) (client server : List Entry) → IsAt (with_server k (with_client k b client) server) client b.sessions b.under b.coming
    both_at b client server =
        let s = server_at (with_client k b client) server in
        let c = client_at b client in
        record {
          client_is = s.client_is ∙ c.client_is;
          sessions_are = s.sessions_are ∙ c.sessions_are;
          under_is = s.under_is ∙ c.under_is;
          coming_is = s.coming_is ∙ c.coming_is;
        }

    there : (v now : World) (client : List Entry) (n : ℕ) (under : Option Under) (coming : List Command) → now ≡ finished k v → IsAt v client n under coming → Holds n client (task_under under)
        → NoneWaits (history k.client client) → AllByRecursion IsCommand coming → n + length coming ≤ total → Stands now
    there v now client n under coming is at holds out all room =
        subst Stands (sym is)
        (finishes v (record {
          holds =
              subst (λ m. Holds m v.client (task_under v.under)) (sym at.sessions_are)
              (subst (λ h. Holds n h (task_under v.under)) (sym at.client_is) (subst (λ u. Holds n client (task_under u)) (sym at.under_is) holds));
          out = subst (λ h. NoneWaits (history k.client h)) (sym at.client_is) out;
          coming = subst (AllByRecursion IsCommand) (sym at.coming_is) all;
          room = subst (λ m. m + length v.coming ≤ total) (sym at.sessions_are) (subst (λ l. n + length l ≤ total) (sym at.coming_is) room);
        }))

    -- a task that goes on is the one under way
    under_is_next : (next : Option Tasked) (under : Option Under) → is_some next ≡ is_some (task_under under) → task_under (under_with next under) ≡ next
    under_is_next (Some t) (Some (transferring old)) alike = refl
    under_is_next None (Some (transferring old)) alike = absurd (false≢true alike)
    under_is_next (Some t) None alike = absurd (false≢true (sym alike))
    under_is_next None None alike = refl
    under_is_next (Some t) (Some (lacking r)) alike = absurd (false≢true (sym alike))
    under_is_next None (Some (lacking r)) alike = refl
    under_is_next (Some t) (Some (calling p c)) alike = absurd (false≢true (sym alike))
    under_is_next None (Some (calling p c)) alike = refl
    under_is_next (Some t) (Some (closing c e)) alike = absurd (false≢true (sym alike))
    under_is_next None (Some (closing c e)) alike = refl

    settles_alike : (task : Option Tasked) (now : ℕ) (h after : List Entry) (next : Option Tasked) → ClientSettles k.client now h task after next → is_some next ≡ is_some task
    settles_alike task now h after next s = ap is_some s.task_is ∙ at task
      where
        at : (o : Option Tasked) → is_some (task_after k.client now h s.ran o) ≡ is_some o
        at None = refl
        at (Some t) = refl

    takes_alike : (qs : List Packet) (task : Option Tasked) (now : ℕ) (h after : List Entry) (next : Option Tasked) → ClientTakes k.client now qs h task after next → is_some next ≡ is_some task
    takes_alike [] task now h after next takes = ap is_some takes.1
    takes_alike (q ∷ qs) task now h after next takes =
        takes_alike qs takes.1 now takes.0 after next takes.3 ∙ settles_alike task now (adding h input_seat (Arrive q)) takes.0 takes.1 takes.2

    -- the task that is under way then
    under_holds : (n : ℕ) (h : List Entry) (next : Option Tasked) (under : Option Under) → is_some next ≡ is_some (task_under under) → Holds n h next → Holds n h (task_under (under_with next under))
    under_holds n h next under alike holds = subst (Holds n h) (sym (under_is_next next under alike)) holds

    -- A START
    transfer_starts : (w : World) (l : List ℕ) (method : List ℕ) (t : Transfer) → Holds w.sessions w.client None → TransferFits t 0
        → let s : Started = transfer_by w l (opens_with transfer_id (name_id method) [] (client_deeds k w)) (call_count (client_deeds k w)) t in
        Holds s.sessions (all_added s.adds w.client) (task_under (Some s.under))
    transfer_starts w [] method t holds fits =
        let n : ℕ = w.sessions in
        let opened = opens_with transfer_id (name_id method) [] (client_deeds k w) in
        record {
          low = omega arith;
          most = 0;
          fits = widened n (n + 1) 0 (stored_by k.client role k.client_store (adding w.client run_seat opened)) (calm_holds n None w.client run_seat opened tt holds);
          stands = fits;
        }
    transfer_starts w (c ∷ cs) method t holds fits = record {
      low = omega arith;
      most = 0;
      fits = widened w.sessions (w.sessions + 1) 0 (stored_by k.client role k.client_store w.client) holds;
      stands = fits;
    }

    says_holds : (n c : ℕ) (bytes : List ℕ) (h : List Entry) → Holds n h None → Holds n (all_added (map (λ byte. Say c (Message (byte ∷ []))) bytes ++ Done c ∷ []) h) None
    says_holds n c [] h holds = calm_holds n None h run_seat (Done c) tt holds
    says_holds n c (byte ∷ bytes) h holds =
        says_holds n c bytes (adding h run_seat (Say c (Message (byte ∷ [])))) (calm_holds n None h run_seat (Say c (Message (byte ∷ []))) tt holds)

    messages_hold : (w : World) (messages : Option (List ℕ)) (h : List Entry) → Holds w.sessions h None → Holds w.sessions (all_added (message_kinds k w messages) h) None
    messages_hold w None h holds = holds
    messages_hold w (Some bytes) h holds = says_holds w.sessions (call_count (client_deeds k w)) bytes h holds

    plain_starts : (w : World) (plain : Plain) (method payload : List ℕ) (messages : Option (List ℕ)) → Holds w.sessions w.client None
        → Holds w.sessions (all_added (starts_plain k w plain method payload messages).adds w.client) None
    plain_starts w plain method payload messages holds =
        let opened = opens_with demo_id (name_id method) payload (client_deeds k w) in
        messages_hold w messages (adding w.client run_seat opened) (calm_holds w.sessions None w.client run_seat opened tt holds)

    starts_holds : (w : World) (command : Command) → IsCommand command → Holds w.sessions w.client None → Holds (starts k w command).sessions (all_added (starts k w command).adds w.client) (task_under (Some (starts k w command).under))
    starts_holds w (Read resource offset) fits holds =
        transfer_starts w (live_transfers (name_id (codes "Read")) (client_deeds k w)) (codes "Read") (reads (new_download resource (min offset (left_length k w resource)) k.window k.chunk)) holds
        (omega (arith, fits.1), refl)
    starts_holds w (Write resource offset) fits holds = by_bytes (found resource (client_store k w).full)
      where
        by_bytes : (o : Option (List ℕ)) → Holds (starts_write k w resource offset o).sessions (all_added (starts_write k w resource offset o).adds w.client) (task_under (Some (starts_write k w resource offset o).under))
        by_bytes None = holds
        by_bytes (Some bytes) =
            transfer_starts w (live_transfers (name_id (codes "Write")) (client_deeds k w)) (codes "Write") (writes (new_upload resource bytes (min offset (length bytes)))) holds (omega arith)
    starts_holds w (Echo bytes) fits holds = plain_starts w echo (codes "Echo") bytes None holds
    starts_holds w (Count n) fits holds = plain_starts w plain_count (codes "Count") (n ∷ []) None holds
    starts_holds w (Sum bytes) fits holds = plain_starts w sum (codes "Sum") [] (Some bytes) holds
    starts_holds w (Chat bytes) fits holds = plain_starts w chat (codes "Chat") [] (Some bytes) holds
    starts_holds w (Close channel) fits holds = holds

    -- at most one session more
    one_more : (w : World) (l : List ℕ) (opening : EntryKind) (next : ℕ) (t : Transfer) → (transfer_by w l opening next t).sessions ≤ w.sessions + 1
    one_more w [] opening next t = omega arith
    one_more w (c ∷ cs) opening next t = omega arith

    sessions_rise : (w : World) (command : Command) → (starts k w command).sessions ≤ w.sessions + 1
    sessions_rise w (Read resource offset) = one_more w (live_transfers (name_id (codes "Read")) (client_deeds k w)) _ _ _
    sessions_rise w (Write resource offset) = by_bytes (found resource (client_store k w).full)
      where
        by_bytes : (o : Option (List ℕ)) → (starts_write k w resource offset o).sessions ≤ w.sessions + 1
        by_bytes None = omega arith
        by_bytes (Some bytes) = one_more w (live_transfers (name_id (codes "Write")) (client_deeds k w)) _ _ _
    sessions_rise w (Echo bytes) = omega arith
    sessions_rise w (Count n) = omega arith
    sessions_rise w (Sum bytes) = omega arith
    sessions_rise w (Chat bytes) = omega arith
    sessions_rise w (Close channel) = omega arith

    asks : (w now : World) (command : Command) (rest : List Command) → w.coming ≡ command ∷ rest → Asks k w command rest now → Stands w → Stands now
    asks w now command rest c t s =
        let st : Started = starts k w command in
        let all : AllByRecursion IsCommand (command ∷ rest) = subst (AllByRecursion IsCommand) c s.coming in
        let b : World = with_task t.task (with_command w rest st) in
        there (with_client k b t.after) now t.after st.sessions (under_with t.task (Some st.under)) rest t.is (client_at b t.after)
        (under_holds st.sessions t.after t.task (Some st.under) (settles_alike (task_under (Some st.under)) (moment w) (all_added st.adds w.client) t.after t.task t.settles)
        (settles_holds st.sessions (task_under (Some st.under)) (moment w) (all_added st.adds w.client) t.after t.task t.settles
        (starts_holds w command all.0 (idle w.sessions w.client (task_under w.under) s.holds))))
        t.settles.none_waits all.1 (omega (arith, sessions_rise w command, subst (λ l. w.sessions + length l ≤ total) c s.room))

    starts_step : (w now : World) (command : Command) (rest : List Command) → w.coming ≡ command ∷ rest → StartTurn k w command rest now → Stands w → Stands now
    starts_step w now (Close channel) rest c t s =
        let st : Started = starts k w (Close channel) in
        let all : AllByRecursion IsCommand (Close channel ∷ rest) = subst (AllByRecursion IsCommand) c s.coming in
        there (with_server k (with_command w rest st) t.after) now w.client w.sessions (Some st.under) rest t.is (server_at (with_command w rest st) t.after)
        (idle w.sessions w.client (task_under w.under) s.holds) s.out all.1 (omega (arith, subst (λ l. w.sessions + length l ≤ total) c s.room))
    starts_step w now (Read resource offset) rest c t s = asks w now (Read resource offset) rest c t s
    starts_step w now (Write resource offset) rest c t s = asks w now (Write resource offset) rest c t s
    starts_step w now (Echo bytes) rest c t s = asks w now (Echo bytes) rest c t s
    starts_step w now (Count n) rest c t s = asks w now (Count n) rest c t s
    starts_step w now (Sum bytes) rest c t s = asks w now (Sum bytes) rest c t s
    starts_step w now (Chat bytes) rest c t s = asks w now (Chat bytes) rest c t s

    server_hears : (w now : World) (frame : List ℕ) (rest : List (List ℕ)) → ServerHears k w frame rest now → Stands w → Stands now
    server_hears w now frame rest t s =
        let b : World = with_frame_at_server w frame rest in
        there (with_server k b t.after) now w.client w.sessions w.under w.coming t.is (server_at b t.after) s.holds s.out s.coming s.room

    client_hears : (w now : World) (frame : List ℕ) (rest : List (List ℕ)) → ClientHears k w frame rest now → Stands w → Stands now
    client_hears w now frame rest t s =
        let b : World = with_task t.task (with_frame_at_client w frame rest) in
        there (with_client k b t.after) now t.after w.sessions (under_with t.task w.under) w.coming t.is (client_at b t.after)
        (under_holds w.sessions t.after t.task w.under (takes_alike t.hears.packets (task_of w) (moment w) w.client t.after t.task t.hears.holds)
        (takes_holds w.sessions t.hears.packets (task_of w) (moment w) w.client t.after t.task t.hears.holds s.holds))
        (takes_out t.hears.packets (task_of w) (moment w) w.client t.after t.task t.hears.holds s.out) s.coming s.room

    time_passes : (w now : World) → TimePasses k w now → Stands w → Stands now
    time_passes w now t s =
        let b : World = with_task t.task (later w) in
        there (with_server k (with_client k b t.client) t.server) now t.client w.sessions (under_with t.task w.under) w.coming t.is (both_at b t.client t.server)
        (under_holds w.sessions t.client t.task w.under (settles_alike (task_of w) (moment (later w)) w.client t.client t.task t.polls)
        (settles_holds w.sessions (task_of w) (moment (later w)) w.client t.client t.task t.polls s.holds))
        t.polls.none_waits s.coming s.room

    cancels : (w now : World) (plain : Plain) (c : ℕ) → w.under ≡ Some (calling plain c) → Cancels k w c now → Stands w → Stands now
    cancels w now plain c under t s =
        let holds : Holds w.sessions w.client None = idle w.sessions w.client (task_under w.under) s.holds in
        there (with_client k w t.after) now t.after w.sessions w.under w.coming t.is (client_at w t.after)
        (subst (λ u. Holds w.sessions t.after (task_under u)) (sym under)
        (settles_holds w.sessions None (moment w) (adding w.client run_seat (Cancel c)) t.after None t.settles (calm_holds w.sessions None w.client run_seat (Cancel c) tt holds)))
        t.settles.none_waits s.coming s.room

    pub turn_step : (w now : World) → Turn k w now → Stands w → Stands now
    turn_step w now turn s = by_kind w.to_server.frames w.to_client.frames w.under refl w.coming refl turn
      where
        by_kind : (ups downs : List (List ℕ)) (under : Option Under) → w.under ≡ under → (coming : List Command) → w.coming ≡ coming → TurnOf k w (kind_by ups downs under coming) now → Stands now
        by_kind (frame ∷ rest) downs under u coming c t = server_hears w now frame rest t s
        by_kind [] (frame ∷ rest) under u coming c t = client_hears w now frame rest t s
        by_kind [] [] None u [] c t = absurd t
        by_kind [] [] None u (command ∷ rest) c t = starts_step w now command rest c t s
        by_kind [] [] (Some (transferring task)) u coming c t = time_passes w now t s
        by_kind [] [] (Some (lacking resource)) u coming c t = time_passes w now t s
        by_kind [] [] (Some (calling plain call)) u coming c t = cancels w now plain call u t s
        by_kind [] [] (Some (closing channel e)) u coming c t = time_passes w now t s

    pub turns_stand : (n : ℕ) (w now : World) → Turns k n w now → Stands w → Stands now
    turns_stand zero w now same s = subst Stands same s
    turns_stand (suc n) w now turns s = turns_stand n turns.0 now turns.2 (turn_step w turns.0 turns.1.turn s)
