-- Each turn keeps what stands of the world.
use Rattle.std.proofs.Common.{◌≡◌, ℕ, zero, suc, ◌+◌, min, List, [], ◌∷◌, ◌++◌, codes, length, map, Option, Some, None, refl, sym, ap, ◌∙◌, subst, arith}
use Rattle.std.proofs.lemmas.Bool.{false≢true}
use Rattle.std.proofs.lemmas.List.{append-nil}
use Rattle.std.specs.Prelude.{All, Contains}
use mathlib.Core.List.{IsPrefix}
use Rattle.link_io.specs.Resources.{found}
use Rattle.link_script.specs.declared.command.Command.{Command}
use Rattle.link_script.specs.declared.command.Command.TheVariants.{Read, Write, Echo, Count, Sum, Chat, Close}
use Rattle.link_script.specs.declared.report.ReportLine.{ReportLine}
use Rattle.rpc_ids.specs.declared.method.MethodRef.{MethodRef}
use Rattle.rpc_ids.specs.Names.{name_id}
use Rattle.rpc_ids.specs.Registry.{method_of}
use Rattle.rpc_packet.specs.declared.owned.Packet.{Packet}
use Rattle.rpc_handlers.specs.declared.answer.Out.TheVariants.{Say as Message}
use Rattle.rpc_handlers.specs.HandlerRule.{empty_memo}
use Rattle.rpc_journal.specs.declared.entry.Entry.{Entry}
use Rattle.rpc_journal.specs.declared.entry.EntryKind.{EntryKind}
use Rattle.rpc_journal.specs.declared.entry.EntryKind.TheVariants.{Arrive, Cancel, Done, Invoke, Say, Tick, Close as Closing}
use Rattle.rpc_journal.specs.declared.setting.Setting.{Setting}
use Rattle.rpc_journal.specs.Calls.{call_count}
use Rattle.rpc_journal.specs.Effect.{Deed, Opening}
use Rattle.rpc_journal.specs.History.{adding, history}
use Rattle.rpc_journal.specs.Items.{arrivals, items_sent}
use Rattle.rpc_journal.specs.Lawful.{IsLegal}
use Rattle.rpc_journal.specs.Rows.{method_named}
use Rattle.rpc_journal.proofs.Push.{beginning_is_legal}
use Rattle.rpc_schedule.specs.Schedule.{NoneWaits, Settles, flush_seat, input_seat, run_seat}
use Rattle.transfer_client.specs.Read.{new_download}
use Rattle.transfer_client.specs.Write.{new_upload}
use Rattle.demo_services.specs.Methods.{demo_id, demo_methods, transfer_id, transfer_method}
use Rattle.history_laws.specs.messages.Messages.{IsIn}
use Rattle.history_laws.proofs.messages.Members.{in_back}
use Rattle.transfer_laws.specs.words.Tasks.{HasToldOkay}
use Rattle.link_laws.specs.world.Client.{ClientSettles, ClientTakes}
use Rattle.link_laws.specs.world.Lines.{finished}
use Rattle.link_laws.specs.world.Sound.{IsSound}
use Rattle.link_laws.specs.world.Starts.{Started, all_added, left_length, live_transfers, message_kinds, next_name, opens_with, request, starts, starts_plain, starts_write, transfer_by, Asks, Closes, StartTurn, closed_by, with_command, ended_by_close}
use Rattle.link_laws.specs.world.Turns.{Cancels, ClientHears, MakesTurn, ServerHears, TimePasses, Turn, TurnOf, Turns, kind_by, later, next_kind, starting, with_frame_at_client, with_frame_at_server}
use Rattle.link_laws.specs.world.World.{task_of, task_under, under_with, with_task, Plain, Setup, Tasked, Transfer, Under, World, calling, chat, client_deeds, client_store, closing, count as plain_count, echo, first_world, lacking, moment, packets_flushed, reads, sum, transferring, with_client, with_server, writes, server_deeds}
use Rattle.link_laws.proofs.one_run.Growing.{GoesOnWith, all_added_go, begins, client_opened_goes, client_settles_goes, client_takes_goes, goes_then, opened_goes, server_takes_goes, settles_goes}
use Rattle.link_laws.proofs.one_run.Parts.{client_keeps, finished_client, finished_server, server_keeps, starts_quiet}
use Rattle.link_laws.specs.okay_means_bytes.Okay.{FitsStart, FitsTask, FitsTransfer, IsDemo, LinesHoldFrom, NextFits, OnTheWay}
use Rattle.link_laws.proofs.okay_means_bytes.Items.{NotTransfer, Quiet, added_deed, deed_at, not_later, quiet_deeds, quiet_inv}
use Rattle.link_laws.proofs.okay_means_bytes.Openings.{IsLiveTransfer, fresh_deeds, fresh_inv, live_at, named_chat, named_count, named_echo, named_sum, opened_at, services_differ}
use Rattle.link_laws.proofs.okay_means_bytes.Runs.{Busy, Idle, Inv, Side, all_later, came_down, came_up, finish_inv, flushed_in, idle, prefix_then}
use Rattle.link_laws.proofs.okay_means_bytes.ServerSide.{Serves, named_read, named_write, serves_more, settles_serves, takes_serves}
use Rattle.link_laws.proofs.okay_means_bytes.Settles.{Spoke, TellTruth, client_role, server_truth, settles_speaks, takes_speaks}
use Rattle.link_laws.proofs.okay_means_bytes.Speaks.{How, flushes_keep, runs_keep, said_t}

-- what arrived was sent, and what starts next fits
pub record GoesWell (k : Setup) (w : World) : Type 0 where
  pub sound : IsSound k w
  pub fits : NextFits k w

-- the fields of a world that the invariant speaks of
record IsAt (v : World) (server client : List Entry) (n : ℕ) (under : Option Under) (lines : List ReportLine) : Type 0 where
  server_is : v.server ≡ server
  client_is : v.client ≡ client
  sessions_are : v.sessions ≡ n
  under_is : v.under ≡ under
  lines_are : v.lines ≡ lines

pub turns_then : (k : Setup) (n : ℕ) (a b c : World) → Turns k n a b → MakesTurn k b c → Turns k (suc n) a c
turns_then k zero a b c same t = (c, subst (λ x. MakesTurn k x c) (sym same) t, refl)
turns_then k (suc n) a b c turns t = (turns.0, turns.1, turns_then k n turns.0 b c turns.2 t)

module _ (k : Setup) where
  server_at : (b : World) (after : List Entry) → IsAt (with_server k b after) after b.client b.sessions b.under b.lines
  server_at b after = record {
    server_is = server_keeps k (λ x. x.server) (λ x p. refl) b after;
    client_is = server_keeps k (λ x. x.client) (λ x p. refl) b after;
    sessions_are = server_keeps k (λ x. x.sessions) (λ x p. refl) b after;
    under_is = server_keeps k (λ x. x.under) (λ x p. refl) b after;
    lines_are = server_keeps k (λ x. x.lines) (λ x p. refl) b after;
  }

  client_at : (b : World) (after : List Entry) → IsAt (with_client k b after) b.server after b.sessions b.under b.lines
  client_at b after = record {
    server_is = client_keeps k (λ x. x.server) (λ x p. refl) b after;
    client_is = client_keeps k (λ x. x.client) (λ x p. refl) b after;
    sessions_are = client_keeps k (λ x. x.sessions) (λ x p. refl) b after;
    under_is = client_keeps k (λ x. x.under) (λ x p. refl) b after;
    lines_are = client_keeps k (λ x. x.lines) (λ x p. refl) b after;
  }

  both_at : (b : World) (client server : List Entry) → IsAt (with_server k (with_client k b client) server) server client b.sessions b.under b.lines
  both_at b client server =
      let s = server_at (with_client k b client) server in
      let c = client_at b client in
      record {
        server_is = s.server_is;
        client_is = s.client_is ∙ c.client_is;
        sessions_are = s.sessions_are ∙ c.sessions_are;
        under_is = s.under_is ∙ c.under_is;
        lines_are = s.lines_are ∙ c.lines_are;
      }

module _ (k : Setup) (commands : List Command) (demo : IsDemo k) where
  -- WHAT A TURN KEEPS
  record Steps (w now : World) : Type 0 where
    server_on : IsPrefix w.server now.server
    kept : IsLegal k.rule k.server now.server → GoesWell k w → IsSound k now → Inv k commands demo w → Inv k commands demo now

  -- a turn that leads to the end of a turn
  stepped : (w v now : World) (server client : List Entry) (n : ℕ) (under : Option Under) → now ≡ finished k v → IsAt v server client n under w.lines → IsPrefix w.server server → IsPrefix w.client client
      → (IsLegal k.rule k.server w.server → GoesWell k w → IsSound k now → Inv k commands demo w → Serves server × Side k commands demo client n (length w.lines) under × NoneWaits (history k.client client)) → Steps w now
  stepped w v now server client n under is at server_on client_on inv =
      let now_server : now.server ≡ server = ap (λ x. x.server) is ∙ (finished_server k v ∙ at.server_is) in
      let now_client : now.client ≡ client = ap (λ x. x.client) is ∙ (finished_client k v ∙ at.client_is) in
      record {
        server_on = subst (IsPrefix w.server) (sym now_server) server_on;
        kept = λ legal well sound i.
            (let parts = inv (beginning_is_legal k.rule k.server w.server now.server (subst (IsPrefix w.server) (sym now_server) server_on) legal) well sound i in
            subst (Inv k commands demo) (sym is)
            (finish_inv k commands demo v (subst (IsLegal k.rule k.server) (now_server ∙ sym at.server_is) legal) (sound_at v now sound (now_server ∙ sym at.server_is) (now_client ∙ sym at.client_is))
            (record {
              serves = subst Serves (sym at.server_is) parts.0;
              side =
                  subst (λ h. Side k commands demo h v.sessions (length v.lines) v.under) (sym at.client_is)
                  (subst (λ m. Side k commands demo client m (length v.lines) v.under) (sym at.sessions_are)
                  (subst (λ ls. Side k commands demo client n (length ls) v.under) (sym at.lines_are) (subst (Side k commands demo client n (length w.lines)) (sym at.under_is) parts.1)));
              out = subst (λ h. NoneWaits (history k.client h)) (sym at.client_is) parts.2;
              lines =
                  subst (LinesHoldFrom k commands v 0) (sym at.lines_are)
                  (all_later k commands demo w v (subst (IsPrefix w.server) (sym at.server_is) server_on) (subst (IsPrefix w.client) (sym at.client_is) client_on) 0 w.lines i.lines);
            })));
      }
    where
      sound_at : (v now : World) → IsSound k now → now.server ≡ v.server → now.client ≡ v.client → IsSound k v
      sound_at v now sound server client = record {
        server = subst (λ h. All (Contains (packets_flushed k.client h)) (arrivals v.server)) client (subst (λ h. All (Contains (packets_flushed k.client now.client)) (arrivals h)) server sound.server);
        client = subst (λ h. All (Contains (packets_flushed k.server h)) (arrivals v.client)) server (subst (λ h. All (Contains (packets_flushed k.server now.server)) (arrivals h)) client sound.client);
      }

  same_prefix : (h : List Entry) → IsPrefix h h
  same_prefix h = ([], append-nil h)

  -- A frame comes to the server.
  server_hears : (w now : World) (frame : List ℕ) (rest : List (List ℕ)) → ServerHears k w frame rest now → Steps w now
  server_hears w now frame rest t =
      let b : World = with_frame_at_server w frame rest in
      stepped w (with_server k b t.after) now t.after w.client w.sessions w.under t.is (server_at k b t.after)
      (begins w.server t.hears.packets t.after (server_takes_goes k.rule k.server t.hears.packets w.server t.after t.hears.holds)) (same_prefix w.client)
      (λ legal well sound i. (takes_serves k.rule k.server t.hears.packets w.server t.after t.hears.holds i.serves, i.side, i.out))

  -- no task speaks, and what quiet entries keep is kept
  module _ (P : List Entry → Type 0) (keep : (h : List Entry) (seat : ℕ) (kind : EntryKind) → Quiet (history k.client h) kind → P h → P (adding h seat kind)) where
    settles_quiet : (now : ℕ) (before after : List Entry) (next : Option Tasked) → ClientSettles k.client now before None after next → P before → P after
    settles_quiet now before after next s p = flushes_keep k.client P keep s.flush_count s.ran after s.flushes (runs_keep k.client P keep s.run_count before s.ran s.runs p)

    takes_quiet : (now : ℕ) (qs : List Packet) (h after : List Entry) (next : Option Tasked) → ClientTakes k.client now qs h None after next → P h → P after
    takes_quiet now [] h after next takes p = subst P (sym takes.0) p
    takes_quiet now (q ∷ qs) h after next takes p =
        takes_quiet now qs takes.0 after next (subst (λ y. ClientTakes k.client now qs takes.0 y after next) takes.2.task_is takes.3)
        (settles_quiet now (adding h input_seat (Arrive q)) takes.0 takes.1 takes.2 (keep h input_seat (Arrive q) tt p))

  takes_none : (now : ℕ) (qs : List Packet) (h after : List Entry) (next : Option Tasked) → ClientTakes k.client now qs h None after next → next ≡ None
  takes_none now [] h after next takes = takes.1
  takes_none now (q ∷ qs) h after next takes = takes_none now qs takes.0 after next (subst (λ y. ClientTakes k.client now qs takes.0 y after next) takes.2.task_is takes.3)

  keep_idle : (n : ℕ) (h : List Entry) (seat : ℕ) (kind : EntryKind) → Quiet (history k.client h) kind → Idle k commands demo h n → Idle k commands demo (adding h seat kind) n
  keep_idle n h seat kind quiet i = record { session = i.session; said = i.said; inv = quiet_inv k.client (client_role k commands demo) h seat kind quiet n i.session i.said i.inv }

  keep_call : (n c : ℕ) (h : List Entry) (seat : ℕ) (kind : EntryKind) → Quiet (history k.client h) kind → Idle k commands demo h n × NotTransfer (history k.client h) c
      → Idle k commands demo (adding h seat kind) n × NotTransfer (history k.client (adding h seat kind)) c
  keep_call n c h seat kind quiet both =
      (keep_idle n h seat kind quiet both.0, subst (λ ds. NotTransfer ds c) (sym (added_deed k.client h seat kind)) (not_later (deed_at k.client h seat kind) (history k.client h) c both.1))

  -- nothing is out at the client's end of a settling, or where nothing came
  takes_out : (now : ℕ) (qs : List Packet) (h : List Entry) (task : Option Tasked) (after : List Entry) (next : Option Tasked) → ClientTakes k.client now qs h task after next → NoneWaits (history k.client h)
      → NoneWaits (history k.client after)
  takes_out now [] h task after next takes out = subst (λ g. NoneWaits (history k.client g)) (sym takes.0) out
  takes_out now (q ∷ qs) h task after next takes out = takes_out now qs takes.0 takes.1 after next takes.3 takes.2.none_waits

  -- what a client's task takes
  module _ (w : World) (legal : IsLegal k.rule k.server w.server) (well : GoesWell k w) (i : Inv k commands demo w) where
    abbrev down : List Packet
    down = packets_flushed k.server w.server

    busy_truth : (t : Tasked) (busy : Busy k commands demo w.client w.sessions (length w.lines) t) → TellTruth k commands demo busy.speech (HasToldOkay (said_t busy.speech.session busy.speech.begun busy.polls)) down
    busy_truth t busy =
        server_truth k commands demo w.server w.client w.sessions busy.speech t busy.polls busy.speaks legal i.serves (came_up k w well.sound)

    -- packets come
    takes_side : (now : ℕ) (qs : List Packet) (after : List Entry) (next : Option Tasked) → ((p : Packet) → IsIn p qs → IsIn p down) → (under : Option Under) → Side k commands demo w.client w.sessions (length w.lines) under
        → ClientTakes k.client now qs w.client (task_under under) after next → Side k commands demo after w.sessions (length w.lines) (under_with next under)
    takes_side now qs after next new (Some (transferring t)) busy takes =
        let spoke : Spoke k commands demo after next w.sessions busy.speech (HasToldOkay (said_t busy.speech.session busy.speech.begun busy.polls)) =
        takes_speaks k commands demo qs w.client w.sessions busy.speech t busy.polls now (HasToldOkay (said_t busy.speech.session busy.speech.begun busy.polls)) down after next busy.speaks (λ h. h)
        (came_down k w well.sound) new (busy_truth t busy) takes in
        subst (λ y. Side k commands demo after w.sessions (length w.lines) (under_with y (Some (transferring t)))) (sym spoke.next_is) (record { speech = busy.speech; polls = spoke.ps; speaks = spoke.speaks; placed = busy.placed })
    takes_side now qs after next new None side takes =
        subst (λ y. Side k commands demo after w.sessions (length w.lines) (under_with y None)) (sym (takes_none now qs w.client after next takes))
        (takes_quiet (λ h. Idle k commands demo h w.sessions) (keep_idle w.sessions) now qs w.client after next takes side)
    takes_side now qs after next new (Some (lacking resource)) side takes =
        subst (λ y. Side k commands demo after w.sessions (length w.lines) (under_with y (Some (lacking resource)))) (sym (takes_none now qs w.client after next takes))
        (takes_quiet (λ h. Idle k commands demo h w.sessions) (keep_idle w.sessions) now qs w.client after next takes side)
    takes_side now qs after next new (Some (calling plain c)) side takes =
        subst (λ y. Side k commands demo after w.sessions (length w.lines) (under_with y (Some (calling plain c)))) (sym (takes_none now qs w.client after next takes))
        (takes_quiet (λ h. Idle k commands demo h w.sessions × NotTransfer (history k.client h) c) (keep_call w.sessions c) now qs w.client after next takes side)
    takes_side now qs after next new (Some (closing channel ended)) side takes =
        subst (λ y. Side k commands demo after w.sessions (length w.lines) (under_with y (Some (closing channel ended)))) (sym (takes_none now qs w.client after next takes))
        (takes_quiet (λ h. Idle k commands demo h w.sessions) (keep_idle w.sessions) now qs w.client after next takes side)

  -- the client works where nothing came
  side_settles : (server h : List Entry) (n lines : ℕ) → IsLegal k.rule k.server server → Serves server → ((p : Packet) → IsIn p (arrivals server) → IsIn p (packets_flushed k.client h))
      → ((p : Packet) → IsIn p (arrivals h) → IsIn p (packets_flushed k.server server)) → (now : ℕ) (after : List Entry) (next : Option Tasked) (under : Option Under) → Side k commands demo h n lines under
      → ClientSettles k.client now h (task_under under) after next → Side k commands demo after n lines (under_with next under)
  side_settles server h n lines legal own up dn now after next (Some (transferring t)) busy s =
      let T : Type 0 = HasToldOkay (said_t busy.speech.session busy.speech.begun busy.polls) in
      let spoke : Spoke k commands demo after next n busy.speech T =
      settles_speaks k commands demo h n busy.speech t busy.polls now T (packets_flushed k.server server) after next busy.speaks (λ x. x) dn
      (server_truth k commands demo server h n busy.speech t busy.polls busy.speaks legal own up) s in
      subst (λ y. Side k commands demo after n lines (under_with y (Some (transferring t)))) (sym spoke.next_is) (record { speech = busy.speech; polls = spoke.ps; speaks = spoke.speaks; placed = busy.placed })
  side_settles server h n lines legal own up dn now after next None side s =
      subst (λ y. Side k commands demo after n lines (under_with y None)) (sym s.task_is) (settles_quiet (λ g. Idle k commands demo g n) (keep_idle n) now h after next s side)
  side_settles server h n lines legal own up dn now after next (Some (lacking resource)) side s =
      subst (λ y. Side k commands demo after n lines (under_with y (Some (lacking resource)))) (sym s.task_is) (settles_quiet (λ g. Idle k commands demo g n) (keep_idle n) now h after next s side)
  side_settles server h n lines legal own up dn now after next (Some (calling plain c)) side s =
      subst (λ y. Side k commands demo after n lines (under_with y (Some (calling plain c)))) (sym s.task_is)
      (settles_quiet (λ g. Idle k commands demo g n × NotTransfer (history k.client g) c) (keep_call n c) now h after next s side)
  side_settles server h n lines legal own up dn now after next (Some (closing channel ended)) side s =
      subst (λ y. Side k commands demo after n lines (under_with y (Some (closing channel ended)))) (sym s.task_is) (settles_quiet (λ g. Idle k commands demo g n) (keep_idle n) now h after next s side)

  -- A frame comes to the client.
  client_hears : (w now : World) (frame : List ℕ) (rest : List (List ℕ)) → ClientHears k w frame rest now → Steps w now
  client_hears w now frame rest t =
      let b : World = with_task t.task (with_frame_at_client w frame rest) in
      let goes : GoesOnWith w.client t.hears.packets t.after = client_takes_goes k.client (moment w) t.hears.packets w.client (task_of w) t.after t.task t.hears.holds in
      let at = client_at k b t.after in
      let now_server : now.server ≡ w.server = ap (λ x. x.server) t.is ∙ (finished_server k (with_client k b t.after) ∙ at.server_is) in
      let now_client : now.client ≡ t.after = ap (λ x. x.client) t.is ∙ (finished_client k (with_client k b t.after) ∙ at.client_is) in
      stepped w (with_client k b t.after) now w.server t.after w.sessions (under_with t.task w.under) t.is at (same_prefix w.server) (begins w.client t.hears.packets t.after goes)
      (λ legal well sound i. (
        i.serves,
        takes_side w legal well i (moment w) t.hears.packets t.after t.task
            (λ p is. subst (λ h. IsIn p (packets_flushed k.server h)) now_server
            (came_down k now sound p (subst (λ h. IsIn p (arrivals h)) (sym now_client) (subst (IsIn p) (sym goes.arrived) (in_back p (arrivals w.client) t.hears.packets is))))) w.under i.side t.hears.holds,
        takes_out (moment w) t.hears.packets w.client (task_of w) t.after t.task t.hears.holds i.out,
      ))

  -- Time passes.
  time_passes : (w now : World) → TimePasses k w now → Steps w now
  time_passes w now t =
      let b : World = with_task t.task (later w) in
      stepped w (with_server k (with_client k b t.client) t.server) now t.server t.client w.sessions (under_with t.task w.under) t.is (both_at k b t.client t.server)
      (begins w.server [] t.server (opened_goes k.rule k.server w.server flush_seat (Tick (moment (later w))) t.server t.ticks))
      (begins w.client [] t.client (client_settles_goes k.client (moment (later w)) w.client (task_of w) t.client t.task t.polls))
      (λ legal well sound i. (
        settles_serves k.rule k.server _ t.server t.ticks (serves_more w.server flush_seat (Tick (moment (later w))) refl i.serves),
        side_settles w.server w.client w.sessions (length w.lines) legal i.serves (came_up k w well.sound) (came_down k w well.sound) (moment (later w)) t.client t.task w.under i.side t.polls,
        t.polls.none_waits,
      ))

  -- The call under way is cancelled.
  cancels : (w now : World) (plain : Plain) (c : ℕ) → w.under ≡ Some (calling plain c) → Cancels k w c now → Steps w now
  cancels w now plain c under t =
      stepped w (with_client k w t.after) now w.server t.after w.sessions w.under t.is (client_at k w t.after) (same_prefix w.server)
      (begins w.client [] t.after (client_opened_goes k.client (moment w) w.client run_seat (Cancel c) None t.after None t.settles))
      (λ legal well sound i. (
        i.serves,
        (let side : Idle k commands demo w.client w.sessions × NotTransfer (history k.client w.client) c = subst (Side k commands demo w.client w.sessions (length w.lines)) under i.side in
            subst (Side k commands demo t.after w.sessions (length w.lines)) (sym under)
            (settles_quiet (λ h. Idle k commands demo h w.sessions × NotTransfer (history k.client h) c) (keep_call w.sessions c) (moment w) (adding w.client run_seat (Cancel c)) t.after None t.settles
            (keep_call w.sessions c w.client run_seat (Cancel c) side.1 side))),
        t.settles.none_waits,
      ))

  -- The server closes a channel.
  closes : (w now : World) (channel : ℕ) (rest : List Command) → Closes k w channel rest now → Steps w now
  closes w now channel rest t =
      let s : Started = starts k w (Close channel) in
      let b : World = with_command w rest s in
      stepped w (with_server k b t.after) now t.after w.client w.sessions (Some s.under) t.is (server_at k b t.after) (goes_on (ended_by_close k.server (server_deeds k w) channel) t.settles) (same_prefix w.client)
      (λ legal well sound i. (closed_serves (ended_by_close k.server (server_deeds k w) channel) t.settles i.serves, idle k commands demo w.client w.sessions (length w.lines) w.under i.side, i.out))
    where
      goes_on : (ended : Option ℕ) → Settles k.rule k.server (closed_by channel ended w.server) t.after → IsPrefix w.server t.after
      goes_on None settles = begins w.server [] t.after (settles_goes k.rule k.server w.server t.after settles)
      goes_on (Some n) settles = begins w.server [] t.after (opened_goes k.rule k.server w.server run_seat (Closing channel) t.after settles)

      closed_serves : (ended : Option ℕ) → Settles k.rule k.server (closed_by channel ended w.server) t.after → Serves w.server → Serves t.after
      closed_serves None settles own = settles_serves k.rule k.server w.server t.after settles own
      closed_serves (Some n) settles own = settles_serves k.rule k.server (adding w.server run_seat (Closing channel)) t.after settles (serves_more w.server run_seat (Closing channel) refl own)

  -- A command starts at the client.
  named_at : (service : ℕ) (method : List ℕ) (m : MethodRef) (ds : List Deed) → method_of demo_methods service (name_id method) ≡ Some m → method_named k.client (next_name service (name_id method) ds) ≡ Some m
  named_at service method m ds named = ap (λ (x : Setting). method_of x.registry service (name_id method)) demo.client ∙ named

  module _ (w : World) (i : Idle k commands demo w.client w.sessions) where
    abbrev ds : List Deed
    ds = client_deeds k w

    abbrev fresh : ℕ
    fresh = w.sessions + 1

    -- a transfer begins in a new call, or in one that is live
    ready_transfer : (method : List ℕ) → method_of demo_methods transfer_id (name_id method) ≡ Some (transfer_method method) → (t : Transfer)
        → ((o : Opening) → o.name.method ≡ name_id method → FitsTransfer t → How k commands (length w.lines) fresh o [] t) → (l : List ℕ) → live_transfers (name_id method) ds ≡ l
        → let s : Started = transfer_by w l (opens_with transfer_id (name_id method) [] ds) (call_count ds) t in
        FitsTask (task_under (Some s.under)) → Side k commands demo (all_added s.adds w.client) s.sessions (length w.lines) (Some s.under)
    ready_transfer method named t how [] live fits =
        let p : Packet = request (next_name transfer_id (name_id method) ds) [] in
        let o : Opening = record { name = p.name; method = transfer_method method; given = Some empty_memo } in
        let h : List Entry = adding w.client run_seat (Invoke p empty_memo) in
        record {
          speech = record { call = call_count ds; number = length w.lines; session = fresh; begun = t; opening = o };
          polls = [];
          speaks = record {
            is = refl;
            inv = quiet_inv k.client (client_role k commands demo) w.client run_seat (Invoke p empty_memo) refl fresh fresh [] (fresh_inv k.client w.client w.sessions i.session i.said i.inv);
            low = omega arith;
            small = fits.0;
            there = opened_at k.client w.client run_seat p empty_memo (transfer_method method) (named_at transfer_id method (transfer_method method) ds named);
            service = refl;
            mails = tt;
            deeds =
                quiet_deeds k.client (client_role k commands demo) w.client run_seat (Invoke p empty_memo) refl (call_count ds) fresh
                ∙ fresh_deeds (call_count ds) w.sessions i.session i.said (items_sent ds) i.inv.items;
            how = how o refl fits.1;
          };
          placed = refl;
        }
    ready_transfer method named t how (c ∷ cs) live fits =
        let l : IsLiveTransfer ds (name_id method) c = live_at ds (name_id method) c cs live in
        record {
          speech = record { call = c; number = length w.lines; session = fresh; begun = t; opening = l.opening };
          polls = [];
          speaks = record {
            is = refl;
            inv = fresh_inv k.client w.client w.sessions i.session i.said i.inv;
            low = omega arith;
            small = fits.0;
            there = l.there;
            service = l.service;
            mails = tt;
            deeds = fresh_deeds c w.sessions i.session i.said (items_sent ds) i.inv.items;
            how = how l.opening l.method_is fits.1;
          };
          placed = refl;
        }

    -- a plain call opens, and says its messages
    abbrev Calls : List Entry → Type 0
    Calls h = Idle k commands demo h w.sessions × NotTransfer (history k.client h) (call_count ds)

    says_messages : (bytes : List ℕ) (h : List Entry) → Calls h → Calls (all_added (map (λ byte. Say (call_count ds) (Message (byte ∷ []))) bytes ++ Done (call_count ds) ∷ []) h)
    says_messages [] h calls = keep_call w.sessions (call_count ds) h run_seat (Done (call_count ds)) tt calls
    says_messages (byte ∷ bytes) h calls =
        says_messages bytes (adding h run_seat (Say (call_count ds) (Message (byte ∷ []))))
        (keep_call w.sessions (call_count ds) h run_seat (Say (call_count ds) (Message (byte ∷ []))) calls.1 calls)

    all_messages : (messages : Option (List ℕ)) (h : List Entry) → Calls h → Calls (all_added (message_kinds k w messages) h)
    all_messages None h calls = calls
    all_messages (Some bytes) h calls = says_messages bytes h calls

    ready_plain : (plain : Plain) (method payload : List ℕ) (m : MethodRef) (messages : Option (List ℕ)) → method_of demo_methods demo_id (name_id method) ≡ Some m
        → Side k commands demo (all_added (starts_plain k w plain method payload messages).adds w.client) w.sessions (length w.lines) (Some (calling plain (call_count ds)))
    ready_plain plain method payload m messages named =
        let p : Packet = request (next_name demo_id (name_id method) ds) payload in
        let h : List Entry = adding w.client run_seat (Invoke p empty_memo) in
        all_messages messages h (
          keep_idle w.sessions w.client run_seat (Invoke p empty_memo) refl i,
          record {
            opening = record { name = p.name; method = m; given = Some empty_memo };
            there = opened_at k.client w.client run_seat p empty_memo m (named_at demo_id method m ds named);
            other = services_differ;
          },
        )

    -- where the world was reached so
    module _ (count : ℕ) (way : Turns k count (first_world commands) w) where
      ready : (command : Command) (rest : List Command) → next_kind w ≡ starting command rest → FitsTask (task_under (Some (starts k w command).under))
          → Side k commands demo (all_added (starts k w command).adds w.client) (starts k w command).sessions (length w.lines) (Some (starts k w command).under)
      ready (Read resource offset) rest next fits =
          ready_transfer (codes "Read") named_read (reads (new_download resource (min offset (left_length k w resource)) k.window k.chunk))
          (λ o method small. record { resource = resource; asked = min offset (left_length k w resource); is = refl; r_small = small.0; a_small = small.1; method = method; hears = tt; offered = offset; started = record { count = count; world = w; rest = rest; way = way; next = next; place = refl }; session_is = refl })
          (live_transfers (name_id (codes "Read")) ds) refl fits
      ready (Write resource offset) rest next fits = by_bytes (found resource (client_store k w).full) refl fits
        where
          by_bytes : (o : Option (List ℕ)) → found resource (client_store k w).full ≡ o → FitsTask (task_under (Some (starts_write k w resource offset o).under))
              → Side k commands demo (all_added (starts_write k w resource offset o).adds w.client) (starts_write k w resource offset o).sessions (length w.lines) (Some (starts_write k w resource offset o).under)
          by_bytes None e fits = i
          by_bytes (Some bytes) e fits =
              ready_transfer (codes "Write") named_write (writes (new_upload resource bytes (min offset (length bytes))))
              (λ o method small. record {
                resource = resource;
                bytes = bytes;
                offset = min offset (length bytes);
                is = refl;
                r_small = small.0;
                size = small.1;
                within = omega arith;
                method = method;
                asked = offset;
                started = record { count = count; world = w; rest = rest; way = way; next = next; place = refl };
                session_is = refl;
                had = e;
              })
              (live_transfers (name_id (codes "Write")) ds) refl fits
      ready (Echo bytes) rest next fits = ready_plain echo (codes "Echo") bytes _ None named_echo
      ready (Count n) rest next fits = ready_plain plain_count (codes "Count") (n ∷ []) _ None named_count
      ready (Sum bytes) rest next fits = ready_plain sum (codes "Sum") [] _ (Some bytes) named_sum
      ready (Chat bytes) rest next fits = ready_plain chat (codes "Chat") [] _ (Some bytes) named_chat
      ready (Close channel) rest next fits = i

  no_arrivals : (kinds : List EntryKind) (h : List Entry) → GoesOnWith h [] (all_added kinds h) → (down : List Packet) → ((p : Packet) → IsIn p (arrivals h) → IsIn p down)
      → (p : Packet) → IsIn p (arrivals (all_added kinds h)) → IsIn p down
  no_arrivals kinds h goes downs within p is = within p (subst (IsIn p) (append-nil (arrivals h)) (subst (IsIn p) goes.arrived is))

  asks : (count : ℕ) (w now : World) (command : Command) (rest : List Command) → Turns k count (first_world commands) w → next_kind w ≡ starting command rest → Asks k w command rest now → Steps w now
  asks count w now command rest way next t =
      let s : Started = starts k w command in
      let added : List Entry = all_added s.adds w.client in
      let b : World = with_task t.task (with_command w rest s) in
      let first : GoesOnWith w.client [] added = all_added_go s.adds w.client (starts_quiet k w command) in
      stepped w (with_client k b t.after) now w.server t.after s.sessions (under_with t.task (Some s.under)) t.is (client_at k b t.after) (same_prefix w.server)
      (begins w.client [] t.after (goes_then w.client added t.after [] [] first (client_settles_goes k.client (moment w) added (task_under (Some s.under)) t.after t.task t.settles)))
      (λ legal well sound i. (
        i.serves,
        side_settles w.server added s.sessions (length w.lines) legal i.serves
            (λ p is. flushed_in k.client w.client added (begins w.client [] added first) p (came_up k w well.sound p is))
            (no_arrivals s.adds w.client first (packets_flushed k.server w.server) (came_down k w well.sound)) (moment w) t.after t.task (Some s.under)
            (ready w (idle k commands demo w.client w.sessions (length w.lines) w.under i.side) count way command rest next (subst (FitsStart k w) next well.fits)) t.settles,
        t.settles.none_waits,
      ))

  starts_step : (count : ℕ) (w now : World) (command : Command) (rest : List Command) → Turns k count (first_world commands) w → next_kind w ≡ starting command rest → StartTurn k w command rest now → Steps w now
  starts_step count w now (Close channel) rest way next t = closes w now channel rest t
  starts_step count w now (Read resource offset) rest way next t = asks count w now (Read resource offset) rest way next t
  starts_step count w now (Write resource offset) rest way next t = asks count w now (Write resource offset) rest way next t
  starts_step count w now (Echo bytes) rest way next t = asks count w now (Echo bytes) rest way next t
  starts_step count w now (Count n) rest way next t = asks count w now (Count n) rest way next t
  starts_step count w now (Sum bytes) rest way next t = asks count w now (Sum bytes) rest way next t
  starts_step count w now (Chat bytes) rest way next t = asks count w now (Chat bytes) rest way next t

  turn_step : (count : ℕ) (w now : World) → Turns k count (first_world commands) w → Turn k w now → Steps w now
  turn_step count w now way turn = by_kind w.to_server.frames refl w.to_client.frames refl w.under refl w.coming refl turn
    where
      by_kind : (ups : List (List ℕ)) → w.to_server.frames ≡ ups → (downs : List (List ℕ)) → w.to_client.frames ≡ downs → (under : Option Under) → w.under ≡ under → (coming : List Command) → w.coming ≡ coming
          → TurnOf k w (kind_by ups downs under coming) now → Steps w now
      by_kind (frame ∷ rest) front downs there under u coming c t = server_hears w now frame rest t
      by_kind [] none (frame ∷ rest) front under u coming c t = client_hears w now frame rest t
      by_kind [] none [] nothing None u [] c t = absurd t
      by_kind [] none [] nothing None u (command ∷ rest) c t =
          starts_step count w now command rest way
          (ap (λ f. kind_by f w.to_client.frames w.under w.coming) none ∙ (ap (λ f. kind_by [] f w.under w.coming) nothing ∙ (ap (λ x. kind_by [] [] x w.coming) u ∙ ap (kind_by [] [] None) c))) t
      by_kind [] none [] nothing (Some (transferring task)) u coming c t = time_passes w now t
      by_kind [] none [] nothing (Some (lacking resource)) u coming c t = time_passes w now t
      by_kind [] none [] nothing (Some (calling plain call)) u coming c t = cancels w now plain call u t
      by_kind [] none [] nothing (Some (closing channel ended)) u coming c t = time_passes w now t

  here : (P : World → Type 0) (n : ℕ) (w now : World) (turns : Turns k n w now) → OnTheWay k P n w now turns → P w
  here P zero w now turns all = all
  here P (suc n) w now turns all = all.0

  -- ALL TURNS
  pub record Walks (w now : World) : Type 0 where
    pub server_on : IsPrefix w.server now.server
    pub kept : IsLegal k.rule k.server now.server → Inv k commands demo w → Inv k commands demo now

  pub turns_walk : (n count : ℕ) (w now : World) → Turns k count (first_world commands) w → (turns : Turns k n w now) → OnTheWay k (IsSound k) n w now turns → OnTheWay k (NextFits k) n w now turns → Walks w now
  turns_walk zero count w now way same sound fits = subst (Walks w) same (record { server_on = same_prefix w.server; kept = λ legal i. i })
  turns_walk (suc n) count w now way turns sound fits =
      let step : Steps w turns.0 = turn_step count w turns.0 way turns.1.turn in
      let more : Walks turns.0 now = turns_walk n (suc count) turns.0 now (turns_then k count (first_world commands) w turns.0 way turns.1) turns.2 sound.1 fits.1 in
      record {
        server_on = prefix_then w.server turns.0.server now.server step.server_on more.server_on;
        kept = λ legal i.
            more.kept legal
            (step.kept (beginning_is_legal k.rule k.server turns.0.server now.server more.server_on legal) (record { sound = sound.0; fits = fits.0 }) (here (IsSound k) n turns.0 now turns.2 sound.1) i);
      }

  pub first_inv : Inv k commands demo (first_world commands)
  first_inv = record {
    serves = tt;
    side = record { session = 0; said = []; inv = record { items = tt; cuts = λ c is. absurd (false≢true is) } };
    out = refl;
    lines = tt;
  }
