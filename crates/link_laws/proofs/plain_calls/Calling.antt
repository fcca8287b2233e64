-- A plain call is under way: a turn leaves both ends at rest, and all that is on the links is of plain calls.
use Rattle.std.proofs.Common.{◌≡◌, ◌⊎◌, ℕ, ◌≤◌, true, List, [], ◌∷◌, ◌++◌, length, map, Option, Some, None, option_map, refl, ap, sym, ◌∙◌, subst, inl, inr, arith, length-append, append_assoc}
use Rattle.std.specs.List.{AllByRecursion}
use Rattle.link_script.specs.declared.command.Command.{Command}
use Rattle.link_script.specs.declared.report.ReportLine.{ReportLine}
use Rattle.link_script.specs.lossy.Link.{Link}
use Rattle.rpc_channel.specs.Rising.{has_id}
use Rattle.rpc_ids.specs.declared.status.Status.{Status}
use Rattle.rpc_ids.specs.declared.method.Role.TheVariants.{Server, Client}
use Rattle.rpc_packet.specs.declared.owned.Packet.{Packet}
use Rattle.rpc_frames.specs.Written.{IsBetweenFrames, IsSendable}
use Rattle.rpc_journal.specs.declared.entry.Entry.{Entry}
use Rattle.rpc_journal.specs.declared.entry.EntryKind.TheVariants.{Arrive, Cancel}
use Rattle.rpc_journal.specs.Calls.{call_at, call_count, calls, end_of}
use Rattle.rpc_journal.specs.Effect.{Deed}
use Rattle.rpc_journal.specs.History.{adding, history}
use Rattle.rpc_journal.specs.Lawful.{IsLawful}
use Rattle.rpc_schedule.specs.Schedule.{input_seat, run_seat}
use Rattle.transfer_resume.specs.declared.side.Side.{Side}
use Rattle.transfer_resume.specs.Book.{Book}
use Rattle.history_laws.specs.rounds.Streams.{IsAtRest}
use Rattle.history_laws.proofs.messages.Members.{all_join}
use Rattle.link_laws.specs.world.Client.{ClientSettles, ClientTakes}
use Rattle.link_laws.specs.world.Lines.{finished, plain_line, with_line}
use Rattle.link_laws.specs.world.Setup.{quiet_rule}
use Rattle.link_laws.specs.world.Turns.{Cancels, ClientHears, ServerHears, with_frame_at_client, with_frame_at_server}
use Rattle.link_laws.specs.world.Hearing.{ServerTakes}
use Rattle.link_laws.specs.world.World.{task_of, task_under, with_task, Plain, Setup, Tasked, Under, World, calling, client_deeds, flushed_since, moment, packets_flushed, server_deeds, with_client, with_server}
use Rattle.link_laws.proofs.one_run.Links.{frame_of}
use Rattle.link_laws.proofs.one_run.Parts.{client_keeps, closed_by_front, finished_client, finished_server, flushed_later, heard_front, server_keeps}
use Rattle.link_laws.specs.plain_calls.Between.{AreUpTo, HasChannel, MayTransfer}
use Rattle.link_laws.specs.plain_calls.Commands.{HasGoneWell}
use Rattle.link_laws.proofs.plain_calls.Concerns.{IsSuch}
use Rattle.link_laws.proofs.plain_calls.Beside.{IsBeside, adding_beside, beside_then, settles_beside}
use Rattle.link_laws.specs.rounds.Carrying.{carrying}
use Rattle.link_laws.proofs.rounds.Carrying.{all_numbered, finished_under, gone_out, link_of}
use Rattle.link_laws.proofs.plain_calls.ClientBeside.{all_quiet, client_keeps_transfer, client_settles_beside, names_stay, packets_such, plain_name, rest_waits, server_keeps_transfer, such_stays}
use Rattle.link_laws.proofs.plain_calls.ClientRest.{client_rests}
use Rattle.link_laws.proofs.plain_calls.EndsRest.{client_takes_rest, input_works, server_takes_rest, cancel_few}
use Rattle.link_laws.proofs.plain_calls.Spared.{IsSpared, client_says, server_says, unfinished}

module _ (k : Setup) (fits : Side → Book → Type 0) (n : ℕ) (base : List Packet) (times : ℕ) where
  abbrev IsOfPlain : Packet → Type 0
  IsOfPlain p = plain_name n p.name ≡ true

  -- the ends and the links
  pub record Stands (v : World) : Type 0 where
    pub server : IsAtRest (server_deeds k v)
    pub client : IsAtRest (client_deeds k v)
    pub up : List Packet
    pub down : List Packet
    pub to_server : v.to_server ≡ carrying up
    pub to_client : v.to_client ≡ carrying down
    pub up_plain : AllByRecursion IsOfPlain up
    pub down_plain : AllByRecursion IsOfPlain down
    pub up_heard : AllByRecursion (IsSendable Server) up
    pub down_heard : AllByRecursion (IsSendable Client) down
    pub fed_server : IsBetweenFrames v.fed_server
    pub fed_client : IsBetweenFrames v.fed_client
    pub times_are : v.times ≡ times
    pub said : List Packet
    pub numbered_are : v.numbered ≡ base ++ said
    pub said_plain : AllByRecursion IsOfPlain said
    pub server_channel : HasChannel k.server (server_deeds k v)
    pub client_channel : HasChannel k.client (client_deeds k v)
    pub server_names : AreUpTo n (server_deeds k v)
    pub client_names : AreUpTo n (client_deeds k v)
    pub transfers : (side : Side) → MayTransfer k (server_deeds k v) (client_deeds k v) (fits side) side

  -- the same histories, links and counts
  pub told_stands : (v : World) (under : Option Under) (lines : List ReportLine) → Stands v → Stands (record v { under = under; lines = lines })
  told_stands v under lines x = record {
    server = x.server;
    client = x.client;
    up = x.up;
    down = x.down;
    to_server = x.to_server;
    to_client = x.to_client;
    up_plain = x.up_plain;
    down_plain = x.down_plain;
    up_heard = x.up_heard;
    down_heard = x.down_heard;
    fed_server = x.fed_server;
    fed_client = x.fed_client;
    times_are = x.times_are;
    said = x.said;
    numbered_are = x.numbered_are;
    said_plain = x.said_plain;
    server_channel = x.server_channel;
    client_channel = x.client_channel;
    server_names = x.server_names;
    client_names = x.client_names;
    transfers = x.transfers;
  }

  -- THE SERVER HAS MOVED ON
  module _ (v : World) (after : List Entry) (x : Stands v) (b : IsBeside (plain_name n) k.rule k.server (history k.server v.server) (history k.server after))
      (rest : IsAtRest (history k.server after)) (heard : AllByRecursion (IsSendable Client) (flushed_since k.server v.server after)) (spared : IsSpared k (with_server k v after)) where
    server_moves : Stands (with_server k v after)
    server_moves =
        let y : World = with_server k v after in
        let more : List Packet = flushed_since k.server v.server after in
        let server_is : y.server ≡ after = server_keeps k (λ z. z.server) (λ z p. refl) v after in
        let client_is : y.client ≡ v.client = server_keeps k (λ z. z.client) (λ z p. refl) v after in
        let plain : AllByRecursion IsOfPlain more = subst (AllByRecursion IsOfPlain) (sym (gone_out k.server v.server after b.sent x.server rest b.items_are)) (packets_such (plain_name n) b.sent b.sent_such) in
        record {
          server = subst (λ h. IsAtRest (history k.server h)) (sym server_is) rest;
          client = subst (λ h. IsAtRest (history k.client h)) (sym client_is) x.client;
          up = x.up;
          down = x.down ++ more;
          to_server = server_keeps k (λ z. z.to_server) (λ z p. refl) v after ∙ x.to_server;
          to_client = server_says k v after x.down spared (all_quiet n more plain) x.to_client;
          up_plain = x.up_plain;
          down_plain = all_join IsOfPlain x.down more x.down_plain plain;
          up_heard = x.up_heard;
          down_heard = all_join (IsSendable Client) x.down more x.down_heard heard;
          fed_server = subst IsBetweenFrames (sym (server_keeps k (λ z. z.fed_server) (λ z p. refl) v after)) x.fed_server;
          fed_client = subst IsBetweenFrames (sym (server_keeps k (λ z. z.fed_client) (λ z p. refl) v after)) x.fed_client;
          times_are = server_keeps k (λ z. z.times) (λ z p. refl) v after ∙ x.times_are;
          said = x.said ++ more;
          numbered_are = all_numbered k Server more (record v { server = after }) ∙ (ap (λ ps. ps ++ more) x.numbered_are ∙ append_assoc base x.said more);
          said_plain = all_join IsOfPlain x.said more x.said_plain plain;
          server_channel = subst (λ h. HasChannel k.server (history k.server h)) (sym server_is) (ap (λ ids. has_id ids 1) b.channels ∙ x.server_channel);
          client_channel = subst (λ h. HasChannel k.client (history k.client h)) (sym client_is) x.client_channel;
          server_names = subst (λ h. AreUpTo n (history k.server h)) (sym server_is) (names_stay n k.rule k.server (history k.server v.server) (history k.server after) b x.server_names);
          client_names = subst (λ h. AreUpTo n (history k.client h)) (sym client_is) x.client_names;
          transfers = λ side.
              subst (λ h. MayTransfer k (history k.server h) (client_deeds k y) (fits side) side) (sym server_is)
              (subst (λ h. MayTransfer k (history k.server after) (history k.client h) (fits side) side) (sym client_is)
              (server_keeps_transfer k n (fits side) side (history k.server v.server) (history k.server after) (client_deeds k v) b x.server (x.transfers side)));
        }

  -- THE CLIENT HAS MOVED ON
  module _ (v : World) (after : List Entry) (x : Stands v) (b : IsBeside (plain_name n) quiet_rule k.client (history k.client v.client) (history k.client after))
      (rest : IsAtRest (history k.client after)) (heard : AllByRecursion (IsSendable Server) (flushed_since k.client v.client after)) (spared : IsSpared k (with_client k v after)) where
    pub client_moves : Stands (with_client k v after)
    client_moves =
        let y : World = with_client k v after in
        let more : List Packet = flushed_since k.client v.client after in
        let client_is : y.client ≡ after = client_keeps k (λ z. z.client) (λ z p. refl) v after in
        let server_is : y.server ≡ v.server = client_keeps k (λ z. z.server) (λ z p. refl) v after in
        let plain : AllByRecursion IsOfPlain more = subst (AllByRecursion IsOfPlain) (sym (gone_out k.client v.client after b.sent x.client rest b.items_are)) (packets_such (plain_name n) b.sent b.sent_such) in
        record {
          client = subst (λ h. IsAtRest (history k.client h)) (sym client_is) rest;
          server = subst (λ h. IsAtRest (history k.server h)) (sym server_is) x.server;
          up = x.up ++ more;
          down = x.down;
          to_client = client_keeps k (λ z. z.to_client) (λ z p. refl) v after ∙ x.to_client;
          to_server = client_says k v after x.up spared (all_quiet n more plain) x.to_server;
          down_plain = x.down_plain;
          up_plain = all_join IsOfPlain x.up more x.up_plain plain;
          down_heard = x.down_heard;
          up_heard = all_join (IsSendable Server) x.up more x.up_heard heard;
          fed_server = subst IsBetweenFrames (sym (client_keeps k (λ z. z.fed_server) (λ z p. refl) v after)) x.fed_server;
          fed_client = subst IsBetweenFrames (sym (client_keeps k (λ z. z.fed_client) (λ z p. refl) v after)) x.fed_client;
          times_are = client_keeps k (λ z. z.times) (λ z p. refl) v after ∙ x.times_are;
          said = x.said ++ more;
          numbered_are = all_numbered k Client more (record v { client = after }) ∙ (ap (λ ps. ps ++ more) x.numbered_are ∙ append_assoc base x.said more);
          said_plain = all_join IsOfPlain x.said more x.said_plain plain;
          server_channel = subst (λ h. HasChannel k.server (history k.server h)) (sym server_is) x.server_channel;
          client_channel = subst (λ h. HasChannel k.client (history k.client h)) (sym client_is) (ap (λ ids. has_id ids 1) b.channels ∙ x.client_channel);
          server_names = subst (λ h. AreUpTo n (history k.server h)) (sym server_is) x.server_names;
          client_names = subst (λ h. AreUpTo n (history k.client h)) (sym client_is) (names_stay n quiet_rule k.client (history k.client v.client) (history k.client after) b x.client_names);
          transfers = λ side.
              subst (λ h. MayTransfer k (history k.server h) (client_deeds k y) (fits side) side) (sym server_is)
              (subst (λ h. MayTransfer k (server_deeds k v) (history k.client h) (fits side) side) (sym client_is)
              (client_keeps_transfer k n (fits side) side (server_deeds k v) (history k.client v.client) (history k.client after) b x.client (x.transfers side)));
        }

  -- WHAT THE COMMAND LEAVES, and whether it is under way
  module _ (sessions : ℕ) (coming : List Command) (lines : List ReportLine) (Tells : ReportLine → Type 0) where
    pub record IsOpen (v : World) : Type 0 where
      pub plain : Plain
      pub call : ℕ
      pub under : v.under ≡ Some (calling plain call)
      pub own : IsSuch (plain_name n) (client_deeds k v) call
      pub lines_are : v.lines ≡ lines
      pub tells : (then : World) (status : Status) → Tells (plain_line k then plain call status)

    pub record IsTold (v : World) : Type 0 where
      pub under : v.under ≡ None
      pub line : ReportLine
      pub lines_are : v.lines ≡ lines ++ line ∷ []
      pub tells : Tells line

    pub record Goes (v : World) : Type 0 where
      pub sessions_are : v.sessions ≡ sessions
      pub coming_is : v.coming ≡ coming
      pub called : n ≤ call_count (client_deeds k v)
      pub command : IsOpen v ⊎ IsTold v

    pub record Calling (v : World) : Type 0 where
      pub stands : Stands v
      pub goes : Goes v

    -- the turn ends
    ends_open : (y : World) → Stands y → Goes y → (o : IsOpen y) → Calling (finished k y)
    ends_open y x g o = subst Calling (sym (finished_under k y x.up x.down x.to_server x.to_client (Some (calling o.plain o.call)) o.under)) (at (end_of (client_deeds k y) o.call))
      where
        at : (end : Option Status) → Calling (with_line y (option_map (plain_line k y o.plain o.call) end))
        at None = record { stands = x; goes = g }
        at (Some status) =
            let line : ReportLine = plain_line k y o.plain o.call status in
            record {
              stands = told_stands y None (y.lines ++ line ∷ []) x;
              goes = record {
                sessions_are = g.sessions_are;
                coming_is = g.coming_is;
                called = g.called;
                command = inr (record { under = refl; line = line; lines_are = ap (λ ls. ls ++ line ∷ []) o.lines_are; tells = o.tells y status });
              };
            }

    ends_turn : (y : World) → Stands y → Goes y → Calling (finished k y)
    ends_turn y x g = at g.command
      where
        at : IsOpen y ⊎ IsTold y → Calling (finished k y)
        at (inl o) = ends_open y x g o
        at (inr told) = subst Calling (sym (finished_under k y x.up x.down x.to_server x.to_client None told.under)) (record { stands = x; goes = g })

    -- nothing of it depends on the server and on what was numbered
    server_goes : (v : World) (after : List Entry) → Goes v → Goes (with_server k v after)
    server_goes v after g =
        let y : World = with_server k v after in
        let client_is : y.client ≡ v.client = server_keeps k (λ z. z.client) (λ z p. refl) v after in
        let under_is : y.under ≡ v.under = server_keeps k (λ z. z.under) (λ z p. refl) v after in
        let lines_are : y.lines ≡ v.lines = server_keeps k (λ z. z.lines) (λ z p. refl) v after in
        record {
          sessions_are = server_keeps k (λ z. z.sessions) (λ z p. refl) v after ∙ g.sessions_are;
          coming_is = server_keeps k (λ z. z.coming) (λ z p. refl) v after ∙ g.coming_is;
          called = subst (λ h. n ≤ call_count (history k.client h)) (sym client_is) g.called;
          command = at client_is under_is lines_are g.command;
        }
      where
        at : (with_server k v after).client ≡ v.client → (with_server k v after).under ≡ v.under → (with_server k v after).lines ≡ v.lines
            → IsOpen v ⊎ IsTold v → IsOpen (with_server k v after) ⊎ IsTold (with_server k v after)
        at client_is under_is lines_are (inl o) = inl (record {
          plain = o.plain;
          call = o.call;
          under = under_is ∙ o.under;
          own = subst (λ h. IsSuch (plain_name n) (history k.client h) o.call) (sym client_is) o.own;
          lines_are = lines_are ∙ o.lines_are;
          tells = o.tells;
        })
        at client_is under_is lines_are (inr told) = inr (record { under = under_is ∙ told.under; line = told.line; lines_are = lines_are ∙ told.lines_are; tells = told.tells })

    pub client_goes : (v : World) (after : List Entry) → IsBeside (plain_name n) quiet_rule k.client (history k.client v.client) (history k.client after)
        → n ≤ call_count (history k.client after) → v.sessions ≡ sessions → v.coming ≡ coming → IsOpen v ⊎ IsTold v → Goes (with_client k v after)
    client_goes v after b called sessions_are coming_is command =
        let y : World = with_client k v after in
        let client_is : y.client ≡ after = client_keeps k (λ z. z.client) (λ z p. refl) v after in
        let under_is : y.under ≡ v.under = client_keeps k (λ z. z.under) (λ z p. refl) v after in
        let lines_are : y.lines ≡ v.lines = client_keeps k (λ z. z.lines) (λ z p. refl) v after in
        record {
          sessions_are = client_keeps k (λ z. z.sessions) (λ z p. refl) v after ∙ sessions_are;
          coming_is = client_keeps k (λ z. z.coming) (λ z p. refl) v after ∙ coming_is;
          called = subst (λ h. n ≤ call_count (history k.client h)) (sym client_is) called;
          command = at client_is under_is lines_are command;
        }
      where
        at : (with_client k v after).client ≡ after → (with_client k v after).under ≡ v.under → (with_client k v after).lines ≡ v.lines
            → IsOpen v ⊎ IsTold v → IsOpen (with_client k v after) ⊎ IsTold (with_client k v after)
        at client_is under_is lines_are (inl o) = inl (record {
          plain = o.plain;
          call = o.call;
          under = under_is ∙ o.under;
          own = subst (λ h. IsSuch (plain_name n) (history k.client h) o.call) (sym client_is)
              (such_stays (plain_name n) quiet_rule k.client (history k.client v.client) (history k.client after) b o.call o.own);
          lines_are = lines_are ∙ o.lines_are;
          tells = o.tells;
        })
        at client_is under_is lines_are (inr told) = inr (record { under = under_is ∙ told.under; line = told.line; lines_are = lines_are ∙ told.lines_are; tells = told.tells })

    -- more calls of the client may be there
    pub more_called : (ds now : List Deed) → IsBeside (plain_name n) quiet_rule k.client ds now → n ≤ call_count ds → n ≤ call_count now
    more_called ds now b called = omega (arith, called, ap length b.calls_are, length-append (calls ds) b.opened)

    -- THE CLIENT'S TURN ENDS where it has moved on from this world
    pub client_turned : (v now : World) (after : List Entry) → Stands v → v.sessions ≡ sessions → v.coming ≡ coming → IsOpen v ⊎ IsTold v → now ≡ finished k (with_client k v after)
        → IsBeside (plain_name n) quiet_rule k.client (history k.client v.client) (history k.client after) → n ≤ call_count (history k.client after)
        → (IsLawful k.client after → IsAtRest (history k.client after)) → HasGoneWell k now → IsSpared k now → Calling now
    client_turned v now after x sessions_are coming_is command is b called rests good spared =
        let y : World = with_client k v after in
        let client_is : now.client ≡ after = ap (λ z. z.client) is ∙ (finished_client k y ∙ client_keeps k (λ z. z.client) (λ z p. refl) v after) in
        let lawful : IsLawful k.client after = subst (IsLawful k.client) client_is good.client in
        let heard : AllByRecursion (IsSendable Server) (flushed_since k.client v.client after) =
        flushed_later (IsSendable Server) k.client v.client after (subst (λ h. AllByRecursion (IsSendable Server) (packets_flushed k.client h)) client_is good.heard.client) in
        subst Calling (sym is) (ends_turn y (client_moves v after x b (rests lawful) heard (unfinished k now y is spared)) (client_goes v after b called sessions_are coming_is command))

    -- THE OLDEST FRAME ON A LINK
    record IsOldest (ps : List Packet) (l : Link) (frame : List ℕ) (rest : List (List ℕ)) : Type 0 where
      packet : Packet
      others : List Packet
      are : ps ≡ packet ∷ others
      is : frame ≡ frame_of packet
      left : record l { frames = rest } ≡ carrying others

    oldest_of : (ps : List Packet) (l : Link) (frame : List ℕ) (rest : List (List ℕ)) → l.frames ≡ frame ∷ rest → l ≡ carrying ps → IsOldest ps l frame rest
    oldest_of [] l frame rest front on = absurd (no_frame (sym front ∙ ap (λ (x : Link). x.frames) on))
      where
        no_frame : frame ∷ rest ≡ [] → ⊥
        no_frame is = cc
    oldest_of (p ∷ ps) l frame rest front on =
        let both : frame ∷ rest ≡ frame_of p ∷ map frame_of ps = sym front ∙ ap (λ (x : Link). x.frames) on in
        let first : frame ≡ frame_of p = cc in
        let others : rest ≡ map frame_of ps = cc in
        record {
          packet = p;
          others = ps;
          are = refl;
          is = first;
          left = ap {A = Link} {B = Link} (λ x. record x { frames = rest }) on ∙ ap link_of others;
        }

    -- THE SERVER HEARS A FRAME
    pub server_hears : (w now : World) (frame : List ℕ) (rest : List (List ℕ)) → w.to_server.frames ≡ frame ∷ rest → ServerHears k w frame rest now → HasGoneWell k now → IsSpared k now → Calling w → Calling now
    server_hears w now frame rest front t good spared c =
        let x : Stands w = c.stands in
        let old = oldest_of x.up w.to_server frame rest front x.to_server in
        let plain : AllByRecursion IsOfPlain (old.packet ∷ old.others) = subst (AllByRecursion IsOfPlain) old.are x.up_plain in
        let fit : AllByRecursion (IsSendable Server) (old.packet ∷ old.others) = subst (AllByRecursion (IsSendable Server)) old.are x.up_heard in
        let v : World = with_frame_at_server w frame rest in
        let y : World = with_server k v t.after in
        let heard : t.hears.packets ≡ old.packet ∷ [] = heard_front Server w.fed_server frame old.packet t.hears.packets fit.0 x.fed_server old.is t.hears.heard in
        let takes : ServerTakes k.rule k.server (old.packet ∷ []) w.server t.after = subst (λ ps. ServerTakes k.rule k.server ps w.server t.after) heard t.hears.holds in
        let begun : List Entry = adding w.server input_seat (Arrive old.packet) in
        let first : IsBeside (plain_name n) k.rule k.server (history k.server w.server) (history k.server begun) = adding_beside (plain_name n) k.rule k.server w.server input_seat (Arrive old.packet) plain.0 in
        let settled : IsBeside (plain_name n) k.rule k.server (history k.server begun) (history k.server takes.0) =
        settles_beside (plain_name n) k.rule k.server begun takes.0 takes.1 (first.waits (rest_waits (plain_name n) (history k.server w.server) x.server)) in
        let b : IsBeside (plain_name n) k.rule k.server (history k.server w.server) (history k.server t.after) =
        subst (λ h. IsBeside (plain_name n) k.rule k.server (history k.server w.server) (history k.server h)) (sym takes.2)
        (beside_then (plain_name n) k.rule k.server (history k.server w.server) (history k.server begun) (history k.server takes.0) first settled) in
        let server_is : now.server ≡ t.after = ap (λ z. z.server) t.is ∙ (finished_server k y ∙ server_keeps k (λ z. z.server) (λ z p. refl) v t.after) in
        let rested : IsAtRest (history k.server t.after) = server_takes_rest k.server k.rule t.hears.packets w.server t.after t.hears.holds (subst (IsLawful k.server) server_is good.server) x.server in
        let sent : AllByRecursion (IsSendable Client) (flushed_since k.server w.server t.after) =
        flushed_later (IsSendable Client) k.server w.server t.after (subst (λ h. AllByRecursion (IsSendable Client) (packets_flushed k.server h)) server_is good.heard.server) in
        let delivered : Stands v = record {
          server = x.server;
          client = x.client;
          up = old.others;
          down = x.down;
          to_server = old.left;
          to_client = x.to_client;
          up_plain = plain.1;
          down_plain = x.down_plain;
          up_heard = fit.1;
          down_heard = x.down_heard;
          fed_server = closed_by_front Server w.fed_server frame old.packet fit.0 old.is;
          fed_client = x.fed_client;
          times_are = x.times_are;
          said = x.said;
          numbered_are = x.numbered_are;
          said_plain = x.said_plain;
          server_channel = x.server_channel;
          client_channel = x.client_channel;
          server_names = x.server_names;
          client_names = x.client_names;
          transfers = x.transfers;
        } in
        let goes : Goes v = record { sessions_are = c.goes.sessions_are; coming_is = c.goes.coming_is; called = c.goes.called; command = at c.goes.command } in
        subst Calling (sym t.is) (ends_turn y (server_moves v t.after delivered b rested sent (unfinished k now y t.is spared)) (server_goes v t.after goes))
      where
        at : IsOpen w ⊎ IsTold w → IsOpen (with_frame_at_server w frame rest) ⊎ IsTold (with_frame_at_server w frame rest)
        at (inl o) = inl (record { plain = o.plain; call = o.call; under = o.under; own = o.own; lines_are = o.lines_are; tells = o.tells })
        at (inr told) = inr (record { under = told.under; line = told.line; lines_are = told.lines_are; tells = told.tells })

    -- no task speaks
    no_task : (w : World) → IsOpen w ⊎ IsTold w → task_of w ≡ None
    no_task w (inl o) = ap task_under o.under
    no_task w (inr told) = ap task_under told.under

    -- THE CLIENT HEARS A FRAME
    pub client_hears : (w now : World) (frame : List ℕ) (rest : List (List ℕ)) → w.to_client.frames ≡ frame ∷ rest → ClientHears k w frame rest now → HasGoneWell k now → IsSpared k now → Calling w → Calling now
    client_hears w now frame rest front t good spared c =
        let x : Stands w = c.stands in
        let old = oldest_of x.down w.to_client frame rest front x.to_client in
        let plain : AllByRecursion IsOfPlain (old.packet ∷ old.others) = subst (AllByRecursion IsOfPlain) old.are x.down_plain in
        let fit : AllByRecursion (IsSendable Client) (old.packet ∷ old.others) = subst (AllByRecursion (IsSendable Client)) old.are x.down_heard in
        let v : World = with_frame_at_client w frame rest in
        let heard : t.hears.packets ≡ old.packet ∷ [] = heard_front Client w.fed_client frame old.packet t.hears.packets fit.0 x.fed_client old.is t.hears.heard in
        let untasked : ClientTakes k.client (moment w) t.hears.packets w.client None t.after t.task = subst (λ task. ClientTakes k.client (moment w) t.hears.packets w.client task t.after t.task) (no_task w c.goes.command) t.hears.holds in
        let takes : ClientTakes k.client (moment w) (old.packet ∷ []) w.client None t.after t.task = subst (λ ps. ClientTakes k.client (moment w) ps w.client None t.after t.task) heard untasked in
        let begun : List Entry = adding w.client input_seat (Arrive old.packet) in
        let settles : ClientSettles k.client (moment w) begun None takes.0 takes.1 = takes.2 in
        let first : IsBeside (plain_name n) quiet_rule k.client (history k.client w.client) (history k.client begun) = adding_beside (plain_name n) quiet_rule k.client w.client input_seat (Arrive old.packet) plain.0 in
        let settled : IsBeside (plain_name n) quiet_rule k.client (history k.client begun) (history k.client takes.0) =
        client_settles_beside (plain_name n) k.client (moment w) begun takes.0 takes.1 settles (first.waits (rest_waits (plain_name n) (history k.client w.client) x.client)) in
        let b : IsBeside (plain_name n) quiet_rule k.client (history k.client w.client) (history k.client t.after) =
        subst (λ h. IsBeside (plain_name n) quiet_rule k.client (history k.client w.client) (history k.client h)) (sym takes.3.0)
        (beside_then (plain_name n) quiet_rule k.client (history k.client w.client) (history k.client begun) (history k.client takes.0) first settled) in
        let silent : t.task ≡ None = takes.3.1 ∙ settles.task_is in
        let is : now ≡ finished k (with_client k v t.after) = t.is ∙ ap {A = Option Tasked} {B = World} (λ task. finished k (with_client k (with_task task v) t.after)) silent in
        let delivered : Stands v = record {
          server = x.server;
          client = x.client;
          up = x.up;
          down = old.others;
          to_server = x.to_server;
          to_client = old.left;
          up_plain = x.up_plain;
          down_plain = plain.1;
          up_heard = x.up_heard;
          down_heard = fit.1;
          fed_server = x.fed_server;
          fed_client = closed_by_front Client w.fed_client frame old.packet fit.0 old.is;
          times_are = x.times_are;
          said = x.said;
          numbered_are = x.numbered_are;
          said_plain = x.said_plain;
          server_channel = x.server_channel;
          client_channel = x.client_channel;
          server_names = x.server_names;
          client_names = x.client_names;
          transfers = x.transfers;
        } in
        client_turned v now t.after delivered c.goes.sessions_are c.goes.coming_is (at c.goes.command) is b (more_called (history k.client w.client) (history k.client t.after) b c.goes.called)
        (λ lawful. client_takes_rest k.client (moment w) t.hears.packets w.client None t.after t.task untasked lawful x.client) good spared
      where
        at : IsOpen w ⊎ IsTold w → IsOpen (with_frame_at_client w frame rest) ⊎ IsTold (with_frame_at_client w frame rest)
        at (inl o) = inl (record { plain = o.plain; call = o.call; under = o.under; own = o.own; lines_are = o.lines_are; tells = o.tells })
        at (inr told) = inr (record { under = told.under; line = told.line; lines_are = told.lines_are; tells = told.tells })

    -- THE OPEN CALL IS CANCELLED
    pub cancels : (w now : World) (call : ℕ) → IsSuch (plain_name n) (client_deeds k w) call → Cancels k w call now → HasGoneWell k now → IsSpared k now → Calling w → Calling now
    cancels w now call own t good spared c =
        let x : Stands w = c.stands in
        let begun : List Entry = adding w.client run_seat (Cancel call) in
        let first : IsBeside (plain_name n) quiet_rule k.client (history k.client w.client) (history k.client begun) = adding_beside (plain_name n) quiet_rule k.client w.client run_seat (Cancel call) own in
        let b : IsBeside (plain_name n) quiet_rule k.client (history k.client w.client) (history k.client t.after) =
        beside_then (plain_name n) quiet_rule k.client (history k.client w.client) (history k.client begun) (history k.client t.after) first
        (client_settles_beside (plain_name n) k.client (moment w) begun t.after None t.settles (first.waits (rest_waits (plain_name n) (history k.client w.client) x.client))) in
        client_turned w now t.after x c.goes.sessions_are c.goes.coming_is c.goes.command t.is b (more_called (history k.client w.client) (history k.client t.after) b c.goes.called)
        (λ lawful. client_rests k.client (moment w) begun None t.after None t.settles
        (input_works k.client w.client run_seat (Cancel call) tt x.client (cancel_few k.client (history k.client w.client) call (call_at (history k.client w.client) call))) lawful) good spared
