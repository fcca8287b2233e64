-- Over links that damage nothing all that goes out is heard.
use Rattle.std.proofs.Common.{◌≡◌, ℕ, zero, suc, ◌+◌, ◌<◌, ◌≤◌, ◌^◌, min, List, [], ◌∷◌, ◌++◌, codes, length, map, Option, Some, None, refl, sym, ap, ◌∙◌, subst, arith}
use Rattle.std.specs.List.{AllByRecursion}
use Rattle.link_io.specs.Resources.{found}
use Rattle.link_script.specs.declared.command.Command.{Command}
use Rattle.link_script.specs.declared.command.Command.TheVariants.{Read, Write, Echo, Count, Sum, Chat, Close}
use Rattle.rpc_ids.specs.declared.method.Role.{Role}
use Rattle.rpc_ids.specs.declared.method.Role.TheVariants.{Server, Client}
use Rattle.rpc_ids.specs.Names.{name_id}
use Rattle.rpc_packet.specs.declared.owned.Packet.{Packet}
use Rattle.rpc_frames.specs.Written.{IsSendable}
use Rattle.rpc_handlers.specs.declared.answer.Out.TheVariants.{Say as Message}
use Rattle.rpc_journal.specs.declared.entry.Entry.{Entry}
use Rattle.rpc_journal.specs.declared.entry.EntryKind.TheVariants.{Cancel, Done, EndIn, Say, Tick, Close as Closing}
use Rattle.rpc_journal.specs.Calls.{call_count}
use Rattle.rpc_journal.specs.Effect.{Opening}
use Rattle.rpc_journal.specs.History.{adding}
use Rattle.rpc_journal.specs.Items.{arrivals}
use Rattle.rpc_journal.specs.Lawful.{IsLegal}
use Rattle.rpc_journal.proofs.Push.{beginning_is_legal}
use Rattle.rpc_schedule.specs.Schedule.{Settles, flush_seat, input_seat, run_seat}
use Rattle.demo_services.specs.Methods.{demo_id, transfer_id}
use Rattle.transfer_client.specs.Read.{new_download}
use Rattle.transfer_client.specs.Write.{new_upload}
use Rattle.history_laws.proofs.messages.Members.{all_join, all_weaken}
use Rattle.history_laws.specs.sends.Sends.{NameFits, peer}
use Rattle.history_laws.proofs.sends.Sending.{sends_are_heard}
use Rattle.link_laws.specs.world.Lines.{finished}
use Rattle.link_laws.specs.world.Setup.{quiet_rule}
use Rattle.link_laws.specs.world.Sound.{AreSendable, NoFlips}
use Rattle.link_laws.specs.world.Starts.{Started, all_added, left_length, live_transfers, message_kinds, opens_with, starts, starts_plain, starts_write, transfer_by, Asks, Closes, StartTurn, closed_by, with_command, ended_by_close}
use Rattle.link_laws.specs.world.Turns.{Cancels, ClientHears, Ends, ServerHears, TimePasses, Turn, TurnOf, Turns, kind_by, later, with_frame_at_client, with_frame_at_server}
use Rattle.link_laws.specs.world.World.{task_of, task_under, with_task, Plain, Setup, Transfer, Under, World, calling, chat, client_deeds, client_store, closing, count as plain_count, echo, first_world, lacking, moment, packets_flushed, reads, sum, transferring, with_client, with_server, writes, server_deeds}
use Rattle.link_laws.proofs.one_run.Growing.{GoesOnWith, all_added_go, client_opened_goes, client_settles_goes, client_takes_goes, goes_then, opened_goes, server_takes_goes, settles_goes}
use Rattle.link_laws.proofs.one_run.Keeping.{finish_keeps}
use Rattle.link_laws.proofs.one_run.Parts.{GoesOn, client_keeps, ends_on, finished_client, finished_server, server_keeps, starts_quiet}
use Rattle.link_laws.proofs.one_run.Ways.{client_brings, server_brings, turns_go_on}
use Rattle.link_laws.proofs.okay_means_bytes.Turning.{turns_then}
use Rattle.link_laws.specs.transfers_fit.Scripts.{RunsAreHeard}
use Rattle.link_laws.proofs.transfers_fit.Names.{NamesUpTo, called, called_same, name_small, opened_names, settles_same, takes_same}

-- the client of a world, and that its histories are legal up to here
module _ (k : Setup) (server_role : k.server.role ≡ Server) (client_role : k.client.role ≡ Client) (total : ℕ) (few : total < 2 ^ 32) where
  abbrev CalledBy : List Entry → List Opening
  CalledBy h = called k.client client_role h

  -- WHAT STANDS OF A WORLD
  record Knows (w : World) : Type 0 where
    server : AllByRecursion (λ p. NameFits p.name) (arrivals w.server)
    client : AllByRecursion (λ p. NameFits p.name) (arrivals w.client)
    names : AllByRecursion (λ o. NameFits o.name) (CalledBy w.client)
    room : length (CalledBy w.client) + length w.coming ≤ total

  -- so all that has gone out by now is heard
  heard_then : (w : World) → IsLegal k.rule k.server w.server → IsLegal quiet_rule k.client w.client → AllByRecursion (λ p. NameFits p.name) (arrivals w.server) → AllByRecursion (λ p. NameFits p.name) (arrivals w.client)
      → AllByRecursion (λ o. NameFits o.name) (CalledBy w.client) → AreSendable k w
  heard_then w server client at_server at_client names = record {
    server =
        subst (λ r. AllByRecursion (IsSendable r) (packets_flushed k.server w.server)) (peer_is_client k.server.role server_role)
        (sends_are_heard k.rule k.server w.server server (record { arrived = at_server; called = λ is. absurd (apart server_role is) }));
    client =
        subst (λ r. AllByRecursion (IsSendable r) (packets_flushed k.client w.client)) (peer_is_server k.client.role client_role)
        (sends_are_heard quiet_rule k.client w.client client (record { arrived = at_client; called = λ is. names }));
  }
    where
      two : Server ≡ Client → ⊥
      two same = cc

      apart : k.server.role ≡ Server → k.server.role ≡ Client → ⊥
      apart a b = two (sym a ∙ b)

      peer_is_client : (r : Role) → r ≡ Server → peer r ≡ Client
      peer_is_client Server e = refl
      peer_is_client Client e = absurd (two (sym e))

      peer_is_server : (r : Role) → r ≡ Client → peer r ≡ Server
      peer_is_server Client e = refl
      peer_is_server Server e = absurd (two e)

  sendable_at : (w : World) → IsLegal k.rule k.server w.server → IsLegal quiet_rule k.client w.client → Knows w → AreSendable k w
  sendable_at w server client knows = heard_then w server client knows.server knows.client knows.names

  names_in : (role : Role) (ps : List Packet) → AllByRecursion (IsSendable role) ps → AllByRecursion (λ p. NameFits p.name) ps
  names_in role ps all = all_weaken (IsSendable role) (λ p. NameFits p.name) ps (λ p s. record { channel = s.within.channel; service = s.within.service; method = s.within.method; call = s.within.call }) all

  arrived_then : (before after : List Entry) (ps : List Packet) → GoesOnWith before ps after → AllByRecursion (λ p. NameFits p.name) (arrivals before) → AllByRecursion (λ p. NameFits p.name) ps
      → AllByRecursion (λ p. NameFits p.name) (arrivals after)
  arrived_then before after ps goes old new = subst (AllByRecursion (λ p. NameFits p.name)) (sym goes.arrived) (all_join (λ (p : Packet). NameFits p.name) (arrivals before) ps old new)

  -- a turn has led to here
  there : (v now : World) (server client : List Entry) (coming : List Command) → now ≡ finished k v → v.server ≡ server → v.client ≡ client → v.coming ≡ coming
      → AllByRecursion (λ p. NameFits p.name) (arrivals server) → AllByRecursion (λ p. NameFits p.name) (arrivals client) → AllByRecursion (λ o. NameFits o.name) (CalledBy client) → length (CalledBy client) + length coming ≤ total
      → Knows now
  there v now server client coming is s c m at_server at_client names room =
      let s_is : now.server ≡ server = ap (λ x. x.server) is ∙ (finished_server k v ∙ s) in
      let c_is : now.client ≡ client = ap (λ x. x.client) is ∙ (finished_client k v ∙ c) in
      let m_is : now.coming ≡ coming = ap (λ x. x.coming) is ∙ (finish_keeps k (λ x. x.coming) (λ x lines. refl) (λ x a b. refl) v ∙ m) in
      record {
        server = subst (λ h. AllByRecursion (λ p. NameFits p.name) (arrivals h)) (sym s_is) at_server;
        client = subst (λ h. AllByRecursion (λ p. NameFits p.name) (arrivals h)) (sym c_is) at_client;
        names = subst (λ h. AllByRecursion (λ o. NameFits o.name) (CalledBy h)) (sym c_is) names;
        room = subst (λ h. length (CalledBy h) + length now.coming ≤ total) (sym c_is) (subst (λ l. length (CalledBy client) + length l ≤ total) (sym m_is) room);
      }

  same_names : (w : World) (client : List Entry) → CalledBy client ≡ CalledBy w.client → Knows w → AllByRecursion (λ o. NameFits o.name) (CalledBy client) × (length (CalledBy client) + length w.coming ≤ total)
  same_names w client same knows = (subst (AllByRecursion (λ o. NameFits o.name)) (sym same) knows.names, subst (λ os. length os + length w.coming ≤ total) (sym same) knows.room)

  -- A START
  more_up : (m : ℕ) (h : List Entry) → NamesUpTo k.client client_role m (CalledBy h) → NamesUpTo k.client client_role (m + 1) (CalledBy h)
  more_up m h names = record { few = omega (arith, names.few); fit = names.fit }

  says_names : (m c : ℕ) (bytes : List ℕ) (h : List Entry) → NamesUpTo k.client client_role m (CalledBy h)
      → NamesUpTo k.client client_role m (CalledBy (all_added (map (λ byte. Say c (Message (byte ∷ []))) bytes ++ Done c ∷ []) h))
  says_names m c [] h names = subst (NamesUpTo k.client client_role m) (sym (called_same k.client client_role h run_seat (Done c) tt)) names
  says_names m c (byte ∷ bytes) h names =
      says_names m c bytes (adding h run_seat (Say c (Message (byte ∷ [])))) (subst (NamesUpTo k.client client_role m) (sym (called_same k.client client_role h run_seat (Say c (Message (byte ∷ []))) tt)) names)

  module _ (w : World) (m : ℕ) (room : m + 1 < 2 ^ 32) (names : NamesUpTo k.client client_role m (CalledBy w.client)) where
    transfer_names : (l : List ℕ) (method : List ℕ) (t : Transfer)
        → NamesUpTo k.client client_role (m + 1) (CalledBy (all_added (transfer_by w l (opens_with transfer_id (name_id method) [] (client_deeds k w)) (call_count (client_deeds k w)) t).adds w.client))
    transfer_names [] method t = opened_names k.client client_role m w.client transfer_id method [] (name_small (codes "pw.transfer.Transfer")) room names
    transfer_names (c ∷ cs) method t = more_up m w.client names

    messages_names : (messages : Option (List ℕ)) (h : List Entry) → NamesUpTo k.client client_role (m + 1) (CalledBy h) → NamesUpTo k.client client_role (m + 1) (CalledBy (all_added (message_kinds k w messages) h))
    messages_names None h names = names
    messages_names (Some bytes) h names = says_names (m + 1) (call_count (client_deeds k w)) bytes h names

    plain_names : (plain : Plain) (method payload : List ℕ) (messages : Option (List ℕ)) → NamesUpTo k.client client_role (m + 1) (CalledBy (all_added (starts_plain k w plain method payload messages).adds w.client))
    plain_names plain method payload messages =
        messages_names messages (adding w.client run_seat (opens_with demo_id (name_id method) payload (client_deeds k w)))
        (opened_names k.client client_role m w.client demo_id method payload (name_small (codes "demo.Demo")) room names)

    starts_names : (command : Command) → NamesUpTo k.client client_role (m + 1) (CalledBy (all_added (starts k w command).adds w.client))
    starts_names (Read resource offset) = transfer_names (live_transfers (name_id (codes "Read")) (client_deeds k w)) (codes "Read") (reads (new_download resource (min offset (left_length k w resource)) k.window k.chunk))
    starts_names (Write resource offset) = by_bytes (found resource (client_store k w).full)
      where
        by_bytes : (o : Option (List ℕ)) → NamesUpTo k.client client_role (m + 1) (CalledBy (all_added (starts_write k w resource offset o).adds w.client))
        by_bytes None = more_up m w.client names
        by_bytes (Some bytes) = transfer_names (live_transfers (name_id (codes "Write")) (client_deeds k w)) (codes "Write") (writes (new_upload resource bytes (min offset (length bytes))))
    starts_names (Echo bytes) = plain_names echo (codes "Echo") bytes None
    starts_names (Count n) = plain_names plain_count (codes "Count") (n ∷ []) None
    starts_names (Sum bytes) = plain_names sum (codes "Sum") [] (Some bytes)
    starts_names (Chat bytes) = plain_names chat (codes "Chat") [] (Some bytes)
    starts_names (Close channel) = more_up m w.client names

  -- A TURN
  module _ (commands : List Command) (calm : NoFlips k.losses) where
    asks : (w now : World) (command : Command) (rest : List Command) → w.coming ≡ command ∷ rest → Asks k w command rest now → Knows w → Knows now
    asks w now command rest c t knows =
        let st : Started = starts k w command in
        let added : List Entry = all_added st.adds w.client in
        let b : World = with_task t.task (with_command w rest st) in
        let m : ℕ = length (CalledBy w.client) in
        let room : m + length (command ∷ rest) ≤ total = subst (λ l. m + length l ≤ total) c knows.room in
        let names : NamesUpTo k.client client_role (m + 1) (CalledBy added) = starts_names w m (omega (arith, room, few)) (record { few = omega arith; fit = knows.names }) command in
        let same : CalledBy t.after ≡ CalledBy added = settles_same k.client client_role (moment w) added (task_under (Some st.under)) t.after t.task t.settles in
        let goes : GoesOnWith w.client [] t.after =
        goes_then w.client added t.after [] [] (all_added_go st.adds w.client (starts_quiet k w command)) (client_settles_goes k.client (moment w) added (task_under (Some st.under)) t.after t.task t.settles) in
        there (with_client k b t.after) now w.server t.after rest t.is (client_keeps k (λ x. x.server) (λ x p. refl) b t.after) (client_keeps k (λ x. x.client) (λ x p. refl) b t.after)
        (client_keeps k (λ x. x.coming) (λ x p. refl) b t.after) knows.server (arrived_then w.client t.after [] goes knows.client tt)
        (subst (AllByRecursion (λ o. NameFits o.name)) (sym same) names.fit) (subst (λ os. length os + length rest ≤ total) (sym same) (omega (arith, names.few, room)))

    closes : (w now : World) (channel : ℕ) (rest : List Command) → w.coming ≡ Close channel ∷ rest → Closes k w channel rest now → Knows w → Knows now
    closes w now channel rest c t knows =
        let st : Started = starts k w (Close channel) in
        let b : World = with_command w rest st in
        there (with_server k b t.after) now t.after w.client rest t.is (server_keeps k (λ x. x.server) (λ x p. refl) b t.after) (server_keeps k (λ x. x.client) (λ x p. refl) b t.after)
        (server_keeps k (λ x. x.coming) (λ x p. refl) b t.after) (arrived_then w.server t.after [] (goes (ended_by_close k.server (server_deeds k w) channel) t.settles) knows.server tt) knows.client knows.names
        (omega (arith, subst (λ l. length (CalledBy w.client) + length l ≤ total) c knows.room))
      where
        goes : (ended : Option ℕ) → Settles k.rule k.server (closed_by channel ended w.server) t.after → GoesOnWith w.server [] t.after
        goes None settles = settles_goes k.rule k.server w.server t.after settles
        goes (Some count) settles = opened_goes k.rule k.server w.server run_seat (Closing channel) t.after settles

    starts_step : (w now : World) (command : Command) (rest : List Command) → w.coming ≡ command ∷ rest → StartTurn k w command rest now → Knows w → Knows now
    starts_step w now (Close channel) rest c t knows = closes w now channel rest c t knows
    starts_step w now (Read resource offset) rest c t knows = asks w now (Read resource offset) rest c t knows
    starts_step w now (Write resource offset) rest c t knows = asks w now (Write resource offset) rest c t knows
    starts_step w now (Echo bytes) rest c t knows = asks w now (Echo bytes) rest c t knows
    starts_step w now (Count n) rest c t knows = asks w now (Count n) rest c t knows
    starts_step w now (Sum bytes) rest c t knows = asks w now (Sum bytes) rest c t knows
    starts_step w now (Chat bytes) rest c t knows = asks w now (Chat bytes) rest c t knows

    server_hears : (w now : World) (frame : List ℕ) (rest : List (List ℕ)) (t : ServerHears k w frame rest now) → AllByRecursion (IsSendable Server) t.hears.packets → Knows w → Knows now
    server_hears w now frame rest t came knows =
        let b : World = with_frame_at_server w frame rest in
        there (with_server k b t.after) now t.after w.client w.coming t.is (server_keeps k (λ x. x.server) (λ x p. refl) b t.after) (server_keeps k (λ x. x.client) (λ x p. refl) b t.after)
        (server_keeps k (λ x. x.coming) (λ x p. refl) b t.after)
        (arrived_then w.server t.after t.hears.packets (server_takes_goes k.rule k.server t.hears.packets w.server t.after t.hears.holds) knows.server (names_in Server t.hears.packets came)) knows.client knows.names knows.room

    client_hears : (w now : World) (frame : List ℕ) (rest : List (List ℕ)) (t : ClientHears k w frame rest now) → AllByRecursion (IsSendable Client) t.hears.packets → Knows w → Knows now
    client_hears w now frame rest t came knows =
        let b : World = with_task t.task (with_frame_at_client w frame rest) in
        let names = same_names w t.after (takes_same k.client client_role (moment w) t.hears.packets w.client (task_of w) t.after t.task t.hears.holds) knows in
        there (with_client k b t.after) now w.server t.after w.coming t.is (client_keeps k (λ x. x.server) (λ x p. refl) b t.after) (client_keeps k (λ x. x.client) (λ x p. refl) b t.after)
        (client_keeps k (λ x. x.coming) (λ x p. refl) b t.after) knows.server
        (arrived_then w.client t.after t.hears.packets (client_takes_goes k.client (moment w) t.hears.packets w.client (task_of w) t.after t.task t.hears.holds) knows.client (names_in Client t.hears.packets came)) names.0 names.1

    cancels : (w now : World) (call : ℕ) → Cancels k w call now → Knows w → Knows now
    cancels w now call t knows =
        let names = same_names w t.after (settles_same k.client client_role (moment w) (adding w.client run_seat (Cancel call)) None t.after None t.settles ∙ called_same k.client client_role w.client run_seat (Cancel call) tt) knows in
        there (with_client k w t.after) now w.server t.after w.coming t.is (client_keeps k (λ x. x.server) (λ x p. refl) w t.after) (client_keeps k (λ x. x.client) (λ x p. refl) w t.after)
        (client_keeps k (λ x. x.coming) (λ x p. refl) w t.after) knows.server
        (arrived_then w.client t.after [] (client_opened_goes k.client (moment w) w.client run_seat (Cancel call) None t.after None t.settles) knows.client tt) names.0 names.1

    time_passes : (w now : World) → TimePasses k w now → Knows w → Knows now
    time_passes w now t knows =
        let b : World = with_task t.task (later w) in
        let x : World = with_client k b t.client in
        let names = same_names w t.client (settles_same k.client client_role (moment (later w)) w.client (task_of w) t.client t.task t.polls) knows in
        there (with_server k x t.server) now t.server t.client w.coming t.is (server_keeps k (λ z. z.server) (λ z p. refl) x t.server)
        (server_keeps k (λ z. z.client) (λ z p. refl) x t.server ∙ client_keeps k (λ z. z.client) (λ z p. refl) b t.client)
        (server_keeps k (λ z. z.coming) (λ z p. refl) x t.server ∙ client_keeps k (λ z. z.coming) (λ z p. refl) b t.client)
        (arrived_then w.server t.server [] (opened_goes k.rule k.server w.server flush_seat (Tick (moment (later w))) t.server t.ticks) knows.server tt)
        (arrived_then w.client t.client [] (client_settles_goes k.client (moment (later w)) w.client (task_of w) t.client t.task t.polls) knows.client tt) names.0 names.1

    turn_step : (n : ℕ) (w now : World) → Turns k n (first_world commands) w → AreSendable k w → Turn k w now → Knows w → Knows now
    turn_step n w now way sendable turn knows = by_kind w.to_server.frames refl w.to_client.frames refl w.under w.coming refl turn
      where
        by_kind : (ups : List (List ℕ)) → w.to_server.frames ≡ ups → (downs : List (List ℕ)) → w.to_client.frames ≡ downs → (under : Option Under) (coming : List Command) → w.coming ≡ coming
            → TurnOf k w (kind_by ups downs under coming) now → Knows now
        by_kind (frame ∷ rest) front downs below under coming c t = server_hears w now frame rest t (server_brings k commands n w now calm way sendable frame rest front t) knows
        by_kind [] none (frame ∷ rest) front under coming c t = client_hears w now frame rest t (client_brings k commands n w now calm way sendable frame rest front t) knows
        by_kind [] none [] nothing None [] c t = absurd t
        by_kind [] none [] nothing None (command ∷ rest) c t = starts_step w now command rest c t knows
        by_kind [] none [] nothing (Some (transferring task)) coming c t = time_passes w now t knows
        by_kind [] none [] nothing (Some (lacking resource)) coming c t = time_passes w now t knows
        by_kind [] none [] nothing (Some (calling plain call)) coming c t = cancels w now call t knows
        by_kind [] none [] nothing (Some (closing channel ended)) coming c t = time_passes w now t knows

    walk : (n count : ℕ) (w now : World) → Turns k count (first_world commands) w → Turns k n w now → IsLegal k.rule k.server now.server → IsLegal quiet_rule k.client now.client → Knows w → Knows now
    walk zero count w now way same server client knows = subst Knows same knows
    walk (suc n) count w now way turns server client knows =
        let on : GoesOn w now = turns_go_on k calm (suc n) w now turns in
        let sendable : AreSendable k w =
        sendable_at w (beginning_is_legal k.rule k.server w.server now.server on.server server) (beginning_is_legal quiet_rule k.client w.client now.client on.client client) knows in
        walk n (suc count) turns.0 now (turns_then k count (first_world commands) w turns.0 way turns.1) turns.2 server client (turn_step count w turns.0 way sendable turns.1.turn knows)

    -- the end of the run
    ended : (w now : World) → Ends k w now → Knows w → AllByRecursion (λ p. NameFits p.name) (arrivals now.server) × AllByRecursion (λ p. NameFits p.name) (arrivals now.client) × AllByRecursion (λ o. NameFits o.name) (CalledBy now.client)
    ended w now t knows =
        let x : World = with_server k w t.server in
        let server_is : now.server ≡ t.server = ap (λ z. z.server) t.is ∙ (client_keeps k (λ z. z.server) (λ z p. refl) x t.client ∙ server_keeps k (λ z. z.server) (λ z p. refl) w t.server) in
        let client_is : now.client ≡ t.client = ap (λ z. z.client) t.is ∙ client_keeps k (λ z. z.client) (λ z p. refl) x t.client in
        let names = same_names w t.client (settles_same k.client client_role (moment w) (adding w.client input_seat EndIn) None t.client None t.client_settles ∙ called_same k.client client_role w.client input_seat EndIn tt) knows in (
          subst (λ h. AllByRecursion (λ p. NameFits p.name) (arrivals h)) (sym server_is) (arrived_then w.server t.server [] (opened_goes k.rule k.server w.server input_seat EndIn t.server t.server_settles) knows.server tt),
          subst (λ h. AllByRecursion (λ p. NameFits p.name) (arrivals h)) (sym client_is) (arrived_then w.client t.client [] (client_opened_goes k.client (moment w) w.client input_seat EndIn None t.client None t.client_settles) knows.client tt),
          subst (λ h. AllByRecursion (λ o. NameFits o.name) (CalledBy h)) (sym client_is) names.0,
        )

pub runs_are_heard : RunsAreHeard
runs_are_heard k commands now server_role client_role calm few run server client =
    let on : GoesOn run.before now = ends_on k run.before now run.ends in
    let knows : Knows k server_role client_role (length commands) few run.before =
    walk k server_role client_role (length commands) few commands calm run.count 0 (first_world commands) run.before refl run.turns
    (beginning_is_legal k.rule k.server run.before.server now.server on.server server) (beginning_is_legal quiet_rule k.client run.before.client now.client on.client client)
    (record { server = tt; client = tt; names = tt; room = omega arith }) in
    let last = ended k server_role client_role (length commands) few commands calm run.before now run.ends knows in
    heard_then k server_role client_role (length commands) few now server client last.0 last.1 last.2
