-- Both ways of the link, in a run in which nothing is damaged.
use Rattle.std.proofs.Common.{◌≡◌, ℕ, zero, suc, List, [], ◌∷◌, Option, Some, None, refl, ap, sym, ◌∙◌, subst, inl}
use Rattle.std.specs.Prelude.{All, Contains, get_or}
use Rattle.std.specs.List.{AllByRecursion}
use Rattle.std.proofs.lemmas.List.{append-nil, get_or_default}
use Rattle.std.proofs.lemmas.List.Elements.{All-from_recursion, recursion_from_All}
use Rattle.hdlc_frame.specs.Segments.{open_text, texts_behind_flags}
use Rattle.link_script.specs.declared.command.Command.{Command}
use Rattle.link_script.specs.declared.command.Command.TheVariants.{Read, Write, Echo, Count, Sum, Chat, Close}
use Rattle.link_script.specs.lossy.Link.{new_link}
use Rattle.rpc_ids.specs.declared.method.Role.TheVariants.{Server, Client}
use Rattle.rpc_packet.specs.declared.owned.Packet.{Packet}
use Rattle.rpc_frames.specs.Written.{IsBetweenFrames, IsSendable}
use Rattle.rpc_journal.specs.declared.entry.Entry.{Entry}
use Rattle.rpc_journal.specs.declared.entry.EntryKind.TheVariants.{Cancel, Tick, EndIn, Close as Closing}
use Rattle.rpc_journal.specs.Items.{arrivals}
use Rattle.rpc_schedule.specs.Schedule.{Settles, flush_seat, input_seat, run_seat}
use Rattle.link_laws.specs.world.Lines.{finished}
use Rattle.link_laws.specs.world.Sound.{AreSendable, IsSound, NoFlips, SoundWithoutFlips}
use Rattle.link_laws.specs.world.Starts.{Started, all_added, starts, Asks, Closes, StartTurn, closed_by, with_command, ended_by_close}
use Rattle.link_laws.specs.world.Turns.{Cancels, ClientHears, Ends, ServerHears, TimePasses, Turn, TurnOf, Turned, Turns, kind_by, later, with_frame_at_client, with_frame_at_server}
use Rattle.link_laws.specs.world.World.{task_of, task_under, with_task, Setup, Under, World, calling, closing, first_world, flushed_since, lacking, moment, packets_flushed, transferring, with_client, with_server, server_deeds}
use Rattle.link_laws.proofs.one_run.Growing.{GoesOnWith, all_added_go, begins, client_opened_goes, client_settles_goes, client_takes_goes, goes_then, opened_goes, server_takes_goes, settles_goes}
use Rattle.link_laws.proofs.one_run.Parts.{GoesOn, client_keeps, closed_by_front, finished_client, finished_server, flushed_before, flushed_later, heard_front, on_to, server_keeps, starts_quiet, then_on}
use Rattle.link_laws.proofs.one_run.Keeping.{client_sends, down_behind, finish_keeps, server_sends, up_behind}
use Rattle.link_laws.proofs.one_run.Links.{IsCarrying, IsFront, all_append, front_of, released_carries}

-- The frames on both ways are those of packets among given ones, and only such packets have arrived; no segment is open
-- at either end.
record AreWays (up down : List Packet) (w : World) : Type 0 where
  to_server : IsCarrying up w.to_server
  to_client : IsCarrying down w.to_client
  fed_server : IsBetweenFrames w.fed_server
  fed_client : IsBetweenFrames w.fed_client
  server : AllByRecursion (Contains up) (arrivals w.server)
  client : AllByRecursion (Contains down) (arrivals w.client)

-- what was flushed at both ends is among the given packets
record AreAmong (k : Setup) (up down : List Packet) (server client : List Entry) : Type 0 where
  server_sent : AllByRecursion (Contains down) (packets_flushed k.server server)
  client_sent : AllByRecursion (Contains up) (packets_flushed k.client client)

-- where both links, what was fed, and both histories are those of another world, its ways are the same
same_ways : {up down : List Packet} (w v : World) → v.to_server ≡ w.to_server → v.to_client ≡ w.to_client → v.fed_server ≡ w.fed_server → v.fed_client ≡ w.fed_client
    → v.server ≡ w.server → v.client ≡ w.client → AreWays up down w → AreWays up down v
same_ways {up = up} {down = down} w v a b c d e f ways = record {
  to_server = subst (IsCarrying up) (sym a) ways.to_server;
  to_client = subst (IsCarrying down) (sym b) ways.to_client;
  fed_server = subst IsBetweenFrames (sym c) ways.fed_server;
  fed_client = subst IsBetweenFrames (sym d) ways.fed_client;
  server = subst (λ h. AllByRecursion (Contains up) (arrivals h)) (sym e) ways.server;
  client = subst (λ h. AllByRecursion (Contains down) (arrivals h)) (sym f) ways.client;
}

module _ (k : Setup) (calm : NoFlips k.losses) (up down : List Packet) (up_fits : All (IsSendable Server) up) (down_fits : All (IsSendable Client) down) where
  fits_up : (p : Packet) → Contains up p → IsSendable Server p
  fits_up p there = subst (IsSendable Server) there.2 (up_fits there.0 p there.1)

  fits_down : (p : Packet) → Contains down p → IsSendable Client p
  fits_down p there = subst (IsSendable Client) there.2 (down_fits there.0 p there.1)

  finished_ways : (v : World) → AreWays up down v → AreWays up down (finished k v)
  finished_ways v ways = record {
    to_server = up_behind k (IsCarrying up) (released_carries up) v ways.to_server;
    to_client = down_behind k (IsCarrying down) (released_carries down) v ways.to_client;
    fed_server = subst IsBetweenFrames (sym (finish_keeps k (λ x. x.fed_server) (λ x lines. refl) (λ x a b. refl) v)) ways.fed_server;
    fed_client = subst IsBetweenFrames (sym (finish_keeps k (λ x. x.fed_client) (λ x lines. refl) (λ x a b. refl) v)) ways.fed_client;
    server = subst (λ h. AllByRecursion (Contains up) (arrivals h)) (sym (finish_keeps k (λ x. x.server) (λ x lines. refl) (λ x a b. refl) v)) ways.server;
    client = subst (λ h. AllByRecursion (Contains down) (arrivals h)) (sym (finish_keeps k (λ x. x.client) (λ x lines. refl) (λ x a b. refl) v)) ways.client;
  }

  server_ways : (v : World) (after : List Entry) → AllByRecursion (Contains down) (packets_flushed k.server after) → AllByRecursion (Contains up) (arrivals after)
      → AreWays up down v → AreWays up down (with_server k v after)
  server_ways v after sent arrived ways = record {
    to_server = subst (IsCarrying up) (sym (server_keeps k (λ x. x.to_server) (λ x p. refl) v after)) ways.to_server;
    to_client = server_sends k down calm (flushed_since k.server v.server after) (flushed_later (Contains down) k.server v.server after sent) (record v { server = after }) ways.to_client;
    fed_server = subst IsBetweenFrames (sym (server_keeps k (λ x. x.fed_server) (λ x p. refl) v after)) ways.fed_server;
    fed_client = subst IsBetweenFrames (sym (server_keeps k (λ x. x.fed_client) (λ x p. refl) v after)) ways.fed_client;
    server = subst (λ h. AllByRecursion (Contains up) (arrivals h)) (sym (server_keeps k (λ x. x.server) (λ x p. refl) v after)) arrived;
    client = subst (λ h. AllByRecursion (Contains down) (arrivals h)) (sym (server_keeps k (λ x. x.client) (λ x p. refl) v after)) ways.client;
  }

  client_ways : (v : World) (after : List Entry) → AllByRecursion (Contains up) (packets_flushed k.client after) → AllByRecursion (Contains down) (arrivals after)
      → AreWays up down v → AreWays up down (with_client k v after)
  client_ways v after sent arrived ways = record {
    to_server = client_sends k up calm (flushed_since k.client v.client after) (flushed_later (Contains up) k.client v.client after sent) (record v { client = after }) ways.to_server;
    to_client = subst (IsCarrying down) (sym (client_keeps k (λ x. x.to_client) (λ x p. refl) v after)) ways.to_client;
    fed_server = subst IsBetweenFrames (sym (client_keeps k (λ x. x.fed_server) (λ x p. refl) v after)) ways.fed_server;
    fed_client = subst IsBetweenFrames (sym (client_keeps k (λ x. x.fed_client) (λ x p. refl) v after)) ways.fed_client;
    server = subst (λ h. AllByRecursion (Contains up) (arrivals h)) (sym (client_keeps k (λ x. x.server) (λ x p. refl) v after)) ways.server;
    client = subst (λ h. AllByRecursion (Contains down) (arrivals h)) (sym (client_keeps k (λ x. x.client) (λ x p. refl) v after)) arrived;
  }

  -- from one world to another, where what is flushed by then is among the given packets
  record Carries (w now : World) : Type 0 where
    on : GoesOn w now
    ways : AreAmong k up down now.server now.client → AreWays up down w → AreWays up down now

  all_arrived : (P : Packet → Type 0) (before after : List Entry) (ps : List Packet) → GoesOnWith before ps after → AllByRecursion P (arrivals before)
      → AllByRecursion P ps → AllByRecursion P (arrivals after)
  all_arrived P before after ps goes old new = subst (AllByRecursion P) (sym goes.arrived) (all_append P (arrivals before) ps old new)

  -- the server has done its work, and the turn ends
  server_worked : (w v : World) (ps : List Packet) (after : List Entry) (now : World) → GoesOnWith w.server ps after → now ≡ finished k (with_server k v after)
      → v.client ≡ w.client → (AreWays up down w → AreWays up down v) → (AreWays up down w → AllByRecursion (Contains up) ps) → Carries w now
  server_worked w v ps after now goes is client before came =
      let server_is : now.server ≡ after = ap (λ x. x.server) is ∙ (finished_server k (with_server k v after) ∙ server_keeps k (λ x. x.server) (λ x p. refl) v after) in
      let client_is : now.client ≡ w.client = ap (λ x. x.client) is ∙ (finished_client k (with_server k v after) ∙ (server_keeps k (λ x. x.client) (λ x p. refl) v after ∙ client)) in
      record {
        on = record { server = on_to w.server after now.server (begins w.server ps after goes) server_is; client = ([], append-nil w.client ∙ sym client_is) };
        ways = λ among ways.
            subst (AreWays up down) (sym is)
            (finished_ways (with_server k v after)
            (server_ways v after (subst (λ h. AllByRecursion (Contains down) (packets_flushed k.server h)) server_is among.server_sent)
            (all_arrived (Contains up) w.server after ps goes ways.server (came ways)) (before ways)));
      }

  -- the client has done its work, and the turn ends
  client_worked : (w v : World) (ps : List Packet) (after : List Entry) (now : World) → GoesOnWith w.client ps after → now ≡ finished k (with_client k v after)
      → v.server ≡ w.server → (AreWays up down w → AreWays up down v) → (AreWays up down w → AllByRecursion (Contains down) ps) → Carries w now
  client_worked w v ps after now goes is server before came =
      let client_is : now.client ≡ after = ap (λ x. x.client) is ∙ (finished_client k (with_client k v after) ∙ client_keeps k (λ x. x.client) (λ x p. refl) v after) in
      let server_is : now.server ≡ w.server = ap (λ x. x.server) is ∙ (finished_server k (with_client k v after) ∙ (client_keeps k (λ x. x.server) (λ x p. refl) v after ∙ server)) in
      record {
        on = record { client = on_to w.client after now.client (begins w.client ps after goes) client_is; server = ([], append-nil w.server ∙ sym server_is) };
        ways = λ among ways.
            subst (AreWays up down) (sym is)
            (finished_ways (with_client k v after)
            (client_ways v after (subst (λ h. AllByRecursion (Contains up) (packets_flushed k.client h)) client_is among.client_sent)
            (all_arrived (Contains down) w.client after ps goes ways.client (came ways)) (before ways)));
      }

  server_hears : (w now : World) (frame : List ℕ) (rest : List (List ℕ)) → w.to_server.frames ≡ frame ∷ rest → ServerHears k w frame rest now → Carries w now
  server_hears w now frame rest front t =
      server_worked w (with_frame_at_server w frame rest) t.hears.packets t.after now (server_takes_goes k.rule k.server t.hears.packets w.server t.after t.hears.holds) t.is refl before came
    where
      first : AreWays up down w → IsFront up w.to_server frame rest
      first ways = front_of up w.to_server frame rest front ways.to_server

      before : AreWays up down w → AreWays up down (with_frame_at_server w frame rest)
      before ways =
          let f = first ways in
          record {
            to_server = f.others;
            to_client = ways.to_client;
            fed_server = closed_by_front Server w.fed_server frame f.packet (fits_up f.packet f.is_sent) f.is;
            fed_client = ways.fed_client;
            server = ways.server;
            client = ways.client;
          }

      came : AreWays up down w → AllByRecursion (Contains up) t.hears.packets
      came ways =
          let f = first ways in
          subst (AllByRecursion (Contains up))
          (sym (heard_front Server w.fed_server frame f.packet t.hears.packets (fits_up f.packet f.is_sent) ways.fed_server f.is t.hears.heard)) (f.is_sent, tt)

  client_hears : (w now : World) (frame : List ℕ) (rest : List (List ℕ)) → w.to_client.frames ≡ frame ∷ rest → ClientHears k w frame rest now → Carries w now
  client_hears w now frame rest front t =
      client_worked w (with_task t.task (with_frame_at_client w frame rest)) t.hears.packets t.after now
      (client_takes_goes k.client (moment w) t.hears.packets w.client (task_of w) t.after t.task t.hears.holds) t.is refl before came
    where
      first : AreWays up down w → IsFront down w.to_client frame rest
      first ways = front_of down w.to_client frame rest front ways.to_client

      before : AreWays up down w → AreWays up down (with_task t.task (with_frame_at_client w frame rest))
      before ways =
          let f = first ways in
          record {
            to_server = ways.to_server;
            to_client = f.others;
            fed_server = ways.fed_server;
            fed_client = closed_by_front Client w.fed_client frame f.packet (fits_down f.packet f.is_sent) f.is;
            server = ways.server;
            client = ways.client;
          }

      came : AreWays up down w → AllByRecursion (Contains down) t.hears.packets
      came ways =
          let f = first ways in
          subst (AllByRecursion (Contains down))
          (sym (heard_front Client w.fed_client frame f.packet t.hears.packets (fits_down f.packet f.is_sent) ways.fed_client f.is t.hears.heard)) (f.is_sent, tt)

  asks : (w now : World) (command : Command) (rest : List Command) → Asks k w command rest now → Carries w now
  asks w now command rest t =
      let s : Started = starts k w command in
      let added : List Entry = all_added s.adds w.client in
      client_worked w (with_task t.task (with_command w rest s)) [] t.after now
      (goes_then w.client added t.after [] [] (all_added_go s.adds w.client (starts_quiet k w command))
      (client_settles_goes k.client (moment w) added (task_under (Some s.under)) t.after t.task t.settles))
      t.is refl (λ ways. same_ways w (with_task t.task (with_command w rest s)) refl refl refl refl refl refl ways) (λ ways. tt)

  closes : (w now : World) (channel : ℕ) (rest : List Command) → Closes k w channel rest now → Carries w now
  closes w now channel rest t =
      let s : Started = starts k w (Close channel) in
      server_worked w (with_command w rest s) [] t.after now (goes (ended_by_close k.server (server_deeds k w) channel) t.settles)
      t.is refl (λ ways. same_ways w (with_command w rest s) refl refl refl refl refl refl ways) (λ ways. tt)
    where
      goes : (ended : Option ℕ) → Settles k.rule k.server (closed_by channel ended w.server) t.after → GoesOnWith w.server [] t.after
      goes None settles = settles_goes k.rule k.server w.server t.after settles
      goes (Some count) settles = opened_goes k.rule k.server w.server run_seat (Closing channel) t.after settles

  cancels : (w now : World) (call : ℕ) → Cancels k w call now → Carries w now
  cancels w now call t =
      client_worked w w [] t.after now (client_opened_goes k.client (moment w) w.client run_seat (Cancel call) None t.after None t.settles)
      t.is refl (λ ways. ways) (λ ways. tt)

  time_passes : (w now : World) → TimePasses k w now → Carries w now
  time_passes w now t =
      let v : World = with_task t.task (later w) in
      let x : World = with_client k v t.client in
      let y : World = with_server k x t.server in
      let client_goes = client_settles_goes k.client (moment (later w)) w.client (task_of w) t.client t.task t.polls in
      let server_goes = opened_goes k.rule k.server w.server flush_seat (Tick (moment (later w))) t.server t.ticks in
      let server_is : now.server ≡ t.server = ap (λ z. z.server) t.is ∙ (finished_server k y ∙ server_keeps k (λ z. z.server) (λ z p. refl) x t.server) in
      let client_is : now.client ≡ t.client = ap (λ z. z.client) t.is ∙ (finished_client k y ∙ (server_keeps k (λ z. z.client) (λ z p. refl) x t.server ∙ client_keeps k (λ z. z.client) (λ z p. refl) v t.client)) in
      record {
        on = record {
          server = on_to w.server t.server now.server (begins w.server [] t.server server_goes) server_is;
          client = on_to w.client t.client now.client (begins w.client [] t.client client_goes) client_is;
        };
        ways = λ among ways.
            subst (AreWays up down) (sym t.is)
            (finished_ways y
            (server_ways x t.server (subst (λ h. AllByRecursion (Contains down) (packets_flushed k.server h)) server_is among.server_sent)
            (all_arrived (Contains up) w.server t.server [] server_goes ways.server tt)
            (client_ways v t.client (subst (λ h. AllByRecursion (Contains up) (packets_flushed k.client h)) client_is among.client_sent)
            (all_arrived (Contains down) w.client t.client [] client_goes ways.client tt)
            (same_ways w v refl refl refl refl refl refl ways))));
      }

  ends : (w now : World) → Ends k w now → Carries w now
  ends w now t =
      let x : World = with_server k w t.server in
      let client_goes = client_opened_goes k.client (moment w) w.client input_seat EndIn None t.client None t.client_settles in
      let server_goes = opened_goes k.rule k.server w.server input_seat EndIn t.server t.server_settles in
      let server_is : now.server ≡ t.server = ap (λ z. z.server) t.is ∙ (client_keeps k (λ z. z.server) (λ z p. refl) x t.client ∙ server_keeps k (λ z. z.server) (λ z p. refl) w t.server) in
      let client_is : now.client ≡ t.client = ap (λ z. z.client) t.is ∙ client_keeps k (λ z. z.client) (λ z p. refl) x t.client in
      record {
        on = record {
          server = on_to w.server t.server now.server (begins w.server [] t.server server_goes) server_is;
          client = on_to w.client t.client now.client (begins w.client [] t.client client_goes) client_is;
        };
        ways = λ among ways.
            subst (AreWays up down) (sym t.is)
            (client_ways x t.client (subst (λ h. AllByRecursion (Contains up) (packets_flushed k.client h)) client_is among.client_sent)
            (all_arrived (Contains down) w.client t.client [] client_goes ways.client tt)
            (server_ways w t.server (subst (λ h. AllByRecursion (Contains down) (packets_flushed k.server h)) server_is among.server_sent)
            (all_arrived (Contains up) w.server t.server [] server_goes ways.server tt) ways));
      }

  starts_carry : (w now : World) (command : Command) (rest : List Command) → StartTurn k w command rest now → Carries w now
  starts_carry w now (Close channel) rest t = closes w now channel rest t
  starts_carry w now (Read resource offset) rest t = asks w now (Read resource offset) rest t
  starts_carry w now (Write resource offset) rest t = asks w now (Write resource offset) rest t
  starts_carry w now (Echo bytes) rest t = asks w now (Echo bytes) rest t
  starts_carry w now (Count n) rest t = asks w now (Count n) rest t
  starts_carry w now (Sum bytes) rest t = asks w now (Sum bytes) rest t
  starts_carry w now (Chat bytes) rest t = asks w now (Chat bytes) rest t

  turn_carries : (w now : World) → Turn k w now → Carries w now
  turn_carries w now turn = by_kind w.to_server.frames refl w.to_client.frames refl w.under w.coming turn
    where
      by_kind : (ups : List (List ℕ)) → w.to_server.frames ≡ ups → (downs : List (List ℕ)) → w.to_client.frames ≡ downs → (under : Option Under) (coming : List Command)
          → TurnOf k w (kind_by ups downs under coming) now → Carries w now
      by_kind (frame ∷ rest) front downs there under coming t = server_hears w now frame rest front t
      by_kind [] none (frame ∷ rest) front under coming t = client_hears w now frame rest front t
      by_kind [] none [] nothing None [] t = absurd t
      by_kind [] none [] nothing None (command ∷ rest) t = starts_carry w now command rest t
      by_kind [] none [] nothing (Some (transferring task)) coming t = time_passes w now t
      by_kind [] none [] nothing (Some (lacking resource)) coming t = time_passes w now t
      by_kind [] none [] nothing (Some (calling plain call)) coming t = cancels w now call t
      by_kind [] none [] nothing (Some (closing channel ended)) coming t = time_passes w now t

  among_before : (w now : World) → GoesOn w now → AreAmong k up down now.server now.client → AreAmong k up down w.server w.client
  among_before w now on among = record {
    server_sent = flushed_before (Contains down) k.server w.server now.server on.server among.server_sent;
    client_sent = flushed_before (Contains up) k.client w.client now.client on.client among.client_sent;
  }

  then_carries : (w mid now : World) → Carries w mid → Carries mid now → Carries w now
  then_carries w mid now first more = record {
    on = then_on w mid now first.on more.on;
    ways = λ among ways. more.ways among (first.ways (among_before mid now more.on among) ways);
  }

  turns_carry : (n : ℕ) (w now : World) → Turns k n w now → Carries w now
  turns_carry zero w now same = subst (Carries w) same (record { on = record { server = ([], append-nil w.server); client = ([], append-nil w.client) }; ways = λ among ways. ways })
  turns_carry (suc n) w now turns = then_carries w turns.0 now (turn_carries w turns.0 turns.1.turn) (turns_carry n turns.0 now turns.2)

  run_carries : (commands : List Command) (now : World) → Turned k commands now → Carries (first_world commands) now
  run_carries commands now run =
      then_carries (first_world commands) run.before now (turns_carry run.count (first_world commands) run.before run.turns) (ends run.before now run.ends)

-- each of these is among these
among_themselves : {A : Type 0} (xs : List A) → AllByRecursion (Contains xs) xs
among_themselves xs = recursion_from_All (Contains xs) xs (λ i d within. (i, within, get_or_default xs i (get_or xs i d) d within))

first_ways : (up down : List Packet) (commands : List Command) → AreWays up down (first_world commands)
unfolding open_text texts_behind_flags
first_ways up down commands = record {
  to_server = nothing_carried up;
  to_client = nothing_carried down;
  fed_server = inl refl;
  fed_client = inl refl;
  server = tt;
  client = tt;
}
  where
    nothing_carried : (sent : List Packet) → IsCarrying sent new_link
    nothing_carried sent = record { carried = []; kept = []; frames = refl; kept_back = refl; carried_in = tt; kept_in = tt }

-- a run goes on
pub turns_go_on : (k : Setup) → NoFlips k.losses → (n : ℕ) (w now : World) → Turns k n w now → GoesOn w now
turns_go_on k calm n w now turns = (turns_carry k calm [] [] (All-from_recursion (IsSendable Server) [] tt) (All-from_recursion (IsSendable Client) [] tt) n w now turns).on

-- a world that was reached without damage is sound
pub reached_is_sound : (k : Setup) (commands : List Command) (n : ℕ) (w : World) → NoFlips k.losses → Turns k n (first_world commands) w → AreSendable k w → IsSound k w
reached_is_sound k commands n w calm turns fits =
    let up : List Packet = packets_flushed k.client w.client in
    let down : List Packet = packets_flushed k.server w.server in
    let carries = turns_carry k calm up down (All-from_recursion (IsSendable Server) up fits.client) (All-from_recursion (IsSendable Client) down fits.server) n (first_world commands) w turns in
    let ways = carries.ways (record { server_sent = among_themselves down; client_sent = among_themselves up }) (first_ways up down commands) in
    record { server = All-from_recursion (Contains up) (arrivals w.server) ways.server; client = All-from_recursion (Contains down) (arrivals w.client) ways.client }

pub sound_without_flips : SoundWithoutFlips
sound_without_flips k commands now calm run fits =
    let up : List Packet = packets_flushed k.client now.client in
    let down : List Packet = packets_flushed k.server now.server in
    let carries = run_carries k calm up down (All-from_recursion (IsSendable Server) up fits.client) (All-from_recursion (IsSendable Client) down fits.server) commands now run in
    let ways = carries.ways (record { server_sent = among_themselves down; client_sent = among_themselves up }) (first_ways up down commands) in
    record { server = All-from_recursion (Contains up) (arrivals now.server) ways.server; client = All-from_recursion (Contains down) (arrivals now.client) ways.client }

-- what a frame brings to an end was sent by the other
module _ (k : Setup) (commands : List Command) (n : ℕ) (w now : World) (calm : NoFlips k.losses) (turns : Turns k n (first_world commands) w) (sendable : AreSendable k w) where
  abbrev sent_up : List Packet
  sent_up = packets_flushed k.client w.client

  abbrev sent_down : List Packet
  sent_down = packets_flushed k.server w.server

  ways_at : AreWays sent_up sent_down w
  ways_at =
      (turns_carry k calm sent_up sent_down (All-from_recursion (IsSendable Server) sent_up sendable.client) (All-from_recursion (IsSendable Client) sent_down sendable.server) n (first_world commands) w turns).ways
      (record { server_sent = among_themselves sent_down; client_sent = among_themselves sent_up }) (first_ways sent_up sent_down commands)

  pub server_brings : (frame : List ℕ) (rest : List (List ℕ)) → w.to_server.frames ≡ frame ∷ rest → (t : ServerHears k w frame rest now) → AllByRecursion (IsSendable Server) t.hears.packets
  server_brings frame rest front t =
      let f : IsFront sent_up w.to_server frame rest = front_of sent_up w.to_server frame rest front ways_at.to_server in
      let fits : IsSendable Server f.packet = subst (IsSendable Server) f.is_sent.2 (All-from_recursion (IsSendable Server) sent_up sendable.client f.is_sent.0 f.packet f.is_sent.1) in
      subst (AllByRecursion (IsSendable Server)) (sym (heard_front Server w.fed_server frame f.packet t.hears.packets fits ways_at.fed_server f.is t.hears.heard)) (fits, tt)

  pub client_brings : (frame : List ℕ) (rest : List (List ℕ)) → w.to_client.frames ≡ frame ∷ rest → (t : ClientHears k w frame rest now) → AllByRecursion (IsSendable Client) t.hears.packets
  client_brings frame rest front t =
      let f : IsFront sent_down w.to_client frame rest = front_of sent_down w.to_client frame rest front ways_at.to_client in
      let fits : IsSendable Client f.packet = subst (IsSendable Client) f.is_sent.2 (All-from_recursion (IsSendable Client) sent_down sendable.server f.is_sent.0 f.packet f.is_sent.1) in
      subst (AllByRecursion (IsSendable Client)) (sym (heard_front Client w.fed_client frame f.packet t.hears.packets fits ways_at.fed_client f.is t.hears.heard)) (fits, tt)
