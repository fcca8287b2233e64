-- From command to command, where none needs a transfer.
use Rattle.std.proofs.Common.{◌≡◌, ◌⊎◌, ℕ, zero, suc, ◌+◌, ◌≤◌, true, List, [], ◌∷◌, ◌++◌, codes, length, map, Option, Some, None, option_to_list, refl, ap, sym, ◌∙◌, subst, inl, inr, arith, length-append}
use Rattle.std.proofs.lemmas.List.{append-nil}
use Rattle.std.proofs.lemmas.Bool.{eq-eqb, le-leb}
use Rattle.std.specs.List.{AllByRecursion}
use Rattle.link_io.specs.Resources.{found}
use Rattle.link_script.specs.declared.command.Command.{Command}
use Rattle.link_script.specs.declared.command.Command.TheVariants.{Read, Write, Echo, Count, Sum, Chat, Close}
use Rattle.link_script.specs.declared.report.ReportLine.{ReportLine}
use Rattle.link_script.specs.declared.report.ReportLine.TheVariants as line
use Rattle.link_script.specs.lossy.Link.{Link, new_link}
use Rattle.rpc_ids.specs.Names.{name_id}
use Rattle.rpc_ids.specs.declared.method.MethodRef.{MethodRef}
use Rattle.rpc_ids.specs.declared.method.Kind.TheVariants.{Unary, ServerStream, ClientStream, Bidi}
use Rattle.rpc_ids.specs.declared.status.Status.{Status}
use Rattle.rpc_ids.specs.declared.status.Status.TheVariants.{NotFound}
use Rattle.rpc_ids.specs.declared.method.Role.TheVariants.{Server, Client}
use Rattle.rpc_packet.specs.declared.owned.Packet.{Packet}
use Rattle.rpc_frames.specs.Written.{IsSendable}
use Rattle.rpc_handlers.specs.declared.answer.Out.TheVariants.{Say as Message}
use Rattle.rpc_handlers.specs.HandlerRule.{empty_memo}
use Rattle.rpc_journal.specs.declared.entry.Entry.{Entry}
use Rattle.rpc_journal.specs.declared.entry.EntryKind.TheVariants.{Invoke, Say, Done}
use Rattle.rpc_journal.specs.declared.setting.Setting.{Setting}
use Rattle.rpc_journal.specs.Calls.{call_count, calls}
use Rattle.rpc_journal.specs.Effect.{Deed, Opening}
use Rattle.rpc_journal.specs.Entries.{invoke_effect}
use Rattle.rpc_journal.specs.History.{adding, entry_by, history}
use Rattle.rpc_journal.specs.Rows.{method_named}
use Rattle.rpc_journal.proofs.Push.{beginning_is_lawful, history-push}
use Rattle.rpc_schedule.specs.Schedule.{run_seat}
use Rattle.demo_services.specs.Methods.{demo_id, demo_method}
use Rattle.history_laws.proofs.messages.Members.{all_weaken}
use Rattle.transfer_resume.specs.declared.side.Side.{Side}
use Rattle.transfer_resume.specs.Book.{Book}
use Rattle.link_laws.specs.world.Client.{ClientSettles}
use Rattle.link_laws.specs.world.Lines.{finished, plain_line}
use Rattle.link_laws.specs.world.Setup.{client_setting, quiet_rule}
use Rattle.link_laws.specs.world.Sound.{NoFlips}
use Rattle.link_laws.specs.world.Starts.{Started, all_added, message_kinds, next_name, request, starts, starts_plain, starts_write, unasked, with_command}
use Rattle.link_laws.specs.world.Turns.{MakesTurn, TurnOf, Turns, ending, kind_at_rest, kind_by, next_kind, starting}
use Rattle.link_laws.specs.world.World.{task_under, with_task, Plain, Setup, Tasked, Under, World, calling, client_deeds, client_store, closing, flushed_since, lacking, moment, packets_flushed, server_deeds, transferring, with_client, echo, count as counting, sum, chat}
use Rattle.link_laws.proofs.one_run.Links.{frame_of}
use Rattle.link_laws.proofs.one_run.Parts.{GoesOn, client_keeps, finished_client, flushed_before, flushed_later}
use Rattle.rpc_journal.specs.Lawful.{IsLawful}
use Rattle.link_laws.proofs.one_run.Ways.{turns_go_on}
use Rattle.link_laws.specs.plain_calls.Between.{IsClean}
use Rattle.link_laws.specs.plain_calls.Commands.{HasGoneWell, IsLineOf, LackingPasses, PassesQuietly, PlainPasses, RunsOn, SparesOthers}
use Rattle.link_laws.proofs.plain_calls.Beside.{IsBeside, adding_beside, beside_itself, beside_then}
use Rattle.link_laws.proofs.plain_calls.Calling.{Calling, IsOpen, IsTold, Stands, cancels, client_hears, client_moves, client_turned, more_called, server_hears, told_stands}
use Rattle.link_laws.specs.rounds.Carrying.{carrying}
use Rattle.link_laws.proofs.rounds.Carrying.{finished_under}
use Rattle.link_laws.proofs.plain_calls.ClientBeside.{all_quiet, client_settles_beside, plain_name, rest_waits, such_stays}
use Rattle.link_laws.proofs.plain_calls.ClientRest.{client_rests}
use Rattle.link_laws.proofs.plain_calls.Concerns.{IsSuch, next_such}
use Rattle.link_laws.proofs.plain_calls.EndsRest.{IsAsking, asked_works, starts_ask}
use Rattle.link_laws.proofs.plain_calls.Numbers.{numbered_grow}
use Rattle.link_laws.proofs.plain_calls.Spared.{AreQuiet, IsSpared, unfinished}

-- what has gone well has gone well before
pub well_before : (k : Setup) (w now : World) → GoesOn w now → HasGoneWell k now → HasGoneWell k w
well_before k w now on well = record {
  server = beginning_is_lawful k.server w.server now.server on.server well.server;
  client = beginning_is_lawful k.client w.client now.client on.client well.client;
  heard = record {
    server = flushed_before (IsSendable Client) k.server w.server now.server on.server well.heard.server;
    client = flushed_before (IsSendable Server) k.client w.client now.client on.client well.heard.client;
  };
}

-- between two commands the next one starts, or the run ends
pub next_by : (k : Setup) (fits : Side → Book → Type 0) (w : World) (coming : List Command) → IsClean k fits w → w.coming ≡ coming → next_kind w ≡ kind_at_rest None coming
next_by k fits w coming c is =
    ap (λ (l : Link). kind_by l.frames w.to_client.frames w.under w.coming) c.to_server
    ∙ (ap (λ (l : Link). kind_by [] l.frames w.under w.coming) c.to_client
    ∙ (ap (λ (u : Option Under). kind_by [] [] u w.coming) c.under ∙ ap (kind_by [] [] None) is))

module _ (k : Setup) (calm : NoFlips k.losses) (fits : Side → Book → Type 0) where
  -- A CALL THAT IS UNDER WAY comes to its end
  module _ (n : ℕ) (base : List Packet) (times sessions : ℕ) (command : Command) (rest : List Command) (lines : List ReportLine) (end : World) (spares : SparesOthers k end) where
    -- the run comes to a world between two commands
    record ComesOut (w : World) : Type 0 where
      mid : World
      count : ℕ
      way : Turns k count w mid
      more : RunsOn k mid end
      clean : IsClean k fits mid
      sessions_are : mid.sessions ≡ sessions
      coming : mid.coming ≡ rest
      told : ReportLine
      lines_are : mid.lines ≡ lines ++ told ∷ []
      tells : IsLineOf command told
      said : List Packet
      numbered : mid.numbered ≡ base ++ said
      quiet : AreQuiet said
      times_are : mid.times ≡ times

    abbrev Calls : World → Type 0
    Calls w = Calling k fits n base times sessions rest lines (IsLineOf command) w

    out_then : (w next : World) → MakesTurn k w next → ComesOut next → ComesOut w
    out_then w next turn out = record {
      mid = out.mid;
      count = suc out.count;
      way = (next, turn, out.way);
      more = out.more;
      clean = out.clean;
      sessions_are = out.sessions_are;
      coming = out.coming;
      told = out.told;
      lines_are = out.lines_are;
      tells = out.tells;
      said = out.said;
      numbered = out.numbered;
      quiet = out.quiet;
      times_are = out.times_are;
    }

    no_frames : (ps : List Packet) (l : Link) → l ≡ carrying ps → l.frames ≡ [] → l ≡ new_link
    no_frames [] l on none = on
    no_frames (p ∷ ps) l on none = absurd (some_frame (sym none ∙ ap (λ (x : Link). x.frames) on))
      where
        some_frame : [] ≡ frame_of p ∷ map frame_of ps → ⊥
        some_frame is = cc

    -- nothing is on the links and no command is under way
    comes_out : (w : World) → Calls w → w.to_server.frames ≡ [] → w.to_client.frames ≡ [] → w.under ≡ None → RunsOn k w end → ComesOut w
    comes_out w c up down idle more = at c.goes.command
      where
        clean : IsClean k fits w
        clean =
            let x : Stands k fits n base times w = c.stands in
            let called : n ≤ call_count (client_deeds k w) = c.goes.called in
            record {
              under = idle;
              to_server = no_frames x.up w.to_server x.to_server up;
              to_client = no_frames x.down w.to_client x.to_client down;
              fed_server = x.fed_server;
              fed_client = x.fed_client;
              server = x.server;
              client = x.client;
              server_channel = x.server_channel;
              client_channel = x.client_channel;
              server_names = all_weaken (λ (o : Opening). o.name.call ≤ n) (λ (o : Opening). o.name.call ≤ call_count (client_deeds k w)) (calls (server_deeds k w)) (λ o small. omega (arith, small, called)) x.server_names;
              client_names = all_weaken (λ (o : Opening). o.name.call ≤ n) (λ (o : Opening). o.name.call ≤ call_count (client_deeds k w)) (calls (client_deeds k w)) (λ o small. omega (arith, small, called)) x.client_names;
              transfers = x.transfers;
            }

        at : IsOpen k fits n base times sessions rest lines (IsLineOf command) w ⊎ IsTold k fits n base times sessions rest lines (IsLineOf command) w → ComesOut w
        at (inl o) = absurd (not_under (sym idle ∙ o.under))
          where
            not_under : None ≡ Some (calling o.plain o.call) → ⊥
            not_under is = cc
        at (inr told) =
            record { mid = w; count = zero; way = refl; more = more; clean = clean; sessions_are = c.goes.sessions_are; coming = c.goes.coming_is; told = told.line; lines_are = told.lines_are; tells = told.tells; said = c.stands.said; numbered = c.stands.numbered_are; quiet = all_quiet n c.stands.said c.stands.said_plain; times_are = c.stands.times_are }

    -- no other command is under way
    only_calls : (w : World) (under : Under) → Calls w → w.under ≡ Some under → (o : IsOpen k fits n base times sessions rest lines (IsLineOf command) w) × (under ≡ calling o.plain o.call)
    only_calls w under c is = at c.goes.command
      where
        at : IsOpen k fits n base times sessions rest lines (IsLineOf command) w ⊎ IsTold k fits n base times sessions rest lines (IsLineOf command) w → (o : IsOpen k fits n base times sessions rest lines (IsLineOf command) w) × (under ≡ calling o.plain o.call)
        at (inl o) = (let same : Some under ≡ Some (calling o.plain o.call) = sym is ∙ o.under in let it : under ≡ calling o.plain o.call = cc in (o, it))
        at (inr told) = absurd (not_under (sym told.under ∙ is))
          where
            not_under : None ≡ Some under → ⊥
            not_under e = cc

    own_call : (w : World) (plain : Plain) (call : ℕ) → Calls w → w.under ≡ Some (calling plain call) → IsSuch (plain_name n) (client_deeds k w) call
    own_call w plain call c is =
        let o = only_calls w (calling plain call) c is in
        subst (IsSuch (plain_name n) (client_deeds k w)) (sym (the_call plain o.0.plain call o.0.call o.1)) o.0.own
      where
        the_call : (a b : Plain) (x y : ℕ) → calling a x ≡ calling b y → x ≡ y
        the_call a b x y e = cc

    -- a run from such a world on
    abbrev From : ℕ → Type 0
    From count = (w : World) → Calls w → Turns k count w end → next_kind end ≡ ending → HasGoneWell k end → ComesOut w

    last : From zero
    last w c same is_last well = by_kind w.to_server.frames refl w.to_client.frames refl w.under refl w.coming (ap next_kind same ∙ is_last)
      where
        by_kind : (ups : List (List ℕ)) → w.to_server.frames ≡ ups → (downs : List (List ℕ)) → w.to_client.frames ≡ downs → (under : Option Under) → w.under ≡ under → (coming : List Command)
            → kind_by ups downs under coming ≡ ending → ComesOut w
        by_kind (frame ∷ more) up downs down under u coming is = absurd cc
        by_kind [] up (frame ∷ more) down under u coming is = absurd cc
        by_kind [] up [] down None u coming is = comes_out w c up down u (record { count = zero; turns = same; is_last = is_last; well = well })
        by_kind [] up [] down (Some (transferring task)) u coming is = absurd cc
        by_kind [] up [] down (Some (lacking resource)) u coming is = absurd cc
        by_kind [] up [] down (Some (calling plain call)) u coming is = absurd cc
        by_kind [] up [] down (Some (closing channel ended)) u coming is = absurd cc

    step : (count : ℕ) → From count → From (suc count)
    step count later w c turns is_last well =
        by_kind w.to_server.frames refl w.to_client.frames refl w.under refl w.coming turns.1.turn
      where
        next : World
        next = turns.0

        good : HasGoneWell k next
        good = well_before k next end (turns_go_on k calm count next end turns.2) well

        spared : IsSpared k next
        spared = record { end = end; spares = spares; grows = numbered_grow k count next end turns.2 }

        on : Calls next → ComesOut w
        on there = out_then w next turns.1 (later next there turns.2 is_last well)

        not_this : (under : Under) → w.under ≡ Some under → ((plain : Plain) (call : ℕ) → under ≡ calling plain call → ⊥) → ComesOut w
        not_this under u differs = (let o = only_calls w under c u in absurd (differs o.0.plain o.0.call o.1))

        by_kind : (ups : List (List ℕ)) → w.to_server.frames ≡ ups → (downs : List (List ℕ)) → w.to_client.frames ≡ downs → (under : Option Under) → w.under ≡ under → (coming : List Command)
            → TurnOf k w (kind_by ups downs under coming) next → ComesOut w
        by_kind (frame ∷ more) up downs down under u coming t = on (server_hears k fits n base times sessions rest lines (IsLineOf command) w next frame more up t good spared c)
        by_kind [] up (frame ∷ more) down under u coming t = on (client_hears k fits n base times sessions rest lines (IsLineOf command) w next frame more down t good spared c)
        by_kind [] up [] down None u coming t = comes_out w c up down u (record { count = suc count; turns = turns; is_last = is_last; well = well })
        by_kind [] up [] down (Some (transferring task)) u coming t = not_this (transferring task) u (λ plain call is. cc)
        by_kind [] up [] down (Some (lacking resource)) u coming t = not_this (lacking resource) u (λ plain call is. cc)
        by_kind [] up [] down (Some (calling plain call)) u coming t = on (cancels k fits n base times sessions rest lines (IsLineOf command) w next call (own_call w plain call c u) t good spared c)
        by_kind [] up [] down (Some (closing channel ended)) u coming t = not_this (closing channel ended) u (λ plain call is. cc)

    calls_end : (count : ℕ) → From count
    calls_end zero = last
    calls_end (suc count) = step count (calls_end count)

  -- A COMMAND STARTS
  module _ (w : World) (clean : IsClean k fits w) where
    abbrev ds : List Deed
    ds = client_deeds k w

    -- the world stands so for a larger number
    clean_stands : (n : ℕ) (coming : List Command) (under : Option Under) (sessions : ℕ) → call_count ds ≤ n → Stands k fits n w.numbered w.times (record w { coming = coming; under = under; sessions = sessions })
    clean_stands n coming under sessions more = record {
      server = clean.server;
      client = clean.client;
      up = [];
      down = [];
      to_server = clean.to_server;
      to_client = clean.to_client;
      up_plain = tt;
      down_plain = tt;
      up_heard = tt;
      down_heard = tt;
      fed_server = clean.fed_server;
      fed_client = clean.fed_client;
      times_are = refl;
      said = [];
      numbered_are = sym (append-nil w.numbered);
      said_plain = tt;
      server_channel = clean.server_channel;
      client_channel = clean.client_channel;
      server_names = all_weaken (λ (o : Opening). o.name.call ≤ call_count ds) (λ (o : Opening). o.name.call ≤ n) (calls (server_deeds k w)) (λ o small. omega (arith, small, more)) clean.server_names;
      client_names = all_weaken (λ (o : Opening). o.name.call ≤ call_count ds) (λ (o : Opening). o.name.call ≤ n) (calls ds) (λ o small. omega (arith, small, more)) clean.client_names;
      transfers = clean.transfers;
    }

    -- what a plain command adds is of its call
    module _ (n : ℕ) where
      abbrev Besides : List Entry → List Entry → Type 0
      Besides a b = IsBeside (plain_name n) quiet_rule k.client (history k.client a) (history k.client b)

      abbrev Own : List Entry → ℕ → Type 0
      Own h c = IsSuch (plain_name n) (history k.client h) c

      messages_beside : (bytes : List ℕ) (h : List Entry) (c : ℕ) → Own h c → Besides h (all_added (map (λ byte. Say c (Message (byte ∷ []))) bytes ++ Done c ∷ []) h)
      messages_beside [] h c own = adding_beside (plain_name n) quiet_rule k.client h run_seat (Done c) own
      messages_beside (byte ∷ bytes) h c own =
          let said : List Entry = adding h run_seat (Say c (Message (byte ∷ []))) in
          let first : Besides h said = adding_beside (plain_name n) quiet_rule k.client h run_seat (Say c (Message (byte ∷ []))) own in
          beside_then (plain_name n) quiet_rule k.client (history k.client h) (history k.client said) (history k.client (all_added (map (λ b. Say c (Message (b ∷ []))) bytes ++ Done c ∷ []) said)) first
          (messages_beside bytes said c (such_stays (plain_name n) quiet_rule k.client (history k.client h) (history k.client said) first c own))

      kinds_beside : (messages : Option (List ℕ)) (h : List Entry) → Own h (call_count ds) → Besides h (all_added (message_kinds k w messages) h)
      kinds_beside None h own = beside_itself (plain_name n) quiet_rule k.client (history k.client h)
      kinds_beside (Some bytes) h own = messages_beside bytes h (call_count ds) own

    -- a plain call
    module _ (plain : Plain) (method payload : List ℕ) (messages : Option (List ℕ)) (ref : MethodRef) (command : Command) (rest : List Command) where
      abbrev n : ℕ
      n = call_count ds + 1

      abbrev s : Started
      s = starts_plain k w plain method payload messages

      abbrev p : Packet
      p = request (next_name demo_id (name_id method) ds) payload

      abbrev opened : List Entry
      opened = adding w.client run_seat (Invoke p empty_memo)

      named : plain_name n p.name ≡ true
      named = rw (eq-eqb demo_id demo_id refl, le-leb n n (omega arith)) refl

      first : Besides n w.client opened
      first = adding_beside (plain_name n) quiet_rule k.client w.client run_seat (Invoke p empty_memo) named

      own : Own n opened (call_count ds)
      own = such_stays (plain_name n) quiet_rule k.client ds (history k.client opened) first (call_count ds) (next_such (plain_name n) ds)

      added : Besides n w.client (all_added s.adds w.client)
      added = beside_then (plain_name n) quiet_rule k.client ds (history k.client opened) (history k.client (all_added s.adds w.client)) first (kinds_beside n messages opened own)

      begun_count : method_named k.client p.name ≡ Some ref → n ≤ call_count (history k.client opened)
      begun_count known =
          let more : calls (history k.client opened) ≡ calls ds ++ record { name = p.name; method = ref; given = Some empty_memo } ∷ [] =
          ap calls (history-push k.client w.client (entry_by run_seat (Invoke p empty_memo)))
          ∙ ap (λ o. calls ds ++ option_to_list (invoke_effect ds p empty_memo o).opens) known in
          omega (arith, ap length more, length-append (calls ds) (record { name = p.name; method = ref; given = Some empty_memo } ∷ []))

      plain_asks : (next : World) (after : List Entry) (task : Option Tasked) → method_named k.client p.name ≡ Some ref → AllByRecursion (IsAsking k.client) s.adds
          → ClientSettles k.client (moment w) (all_added s.adds w.client) None after task → next ≡ finished k (with_client k (with_task task (with_command w rest s)) after)
          → ((then : World) (status : Status) → IsLineOf command (plain_line k then plain (call_count ds) status)) → HasGoneWell k next → IsSpared k next → Calling k fits n w.numbered w.times w.sessions rest w.lines (IsLineOf command) next
      plain_asks next after task known asks settles is tells good spared =
          let v : World = with_command w rest s in
          let silent : task ≡ None = settles.task_is in
          let at_once : next ≡ finished k (with_client k v after) = is ∙ ap {A = Option Tasked} {B = World} (λ t. finished k (with_client k (with_task t v) after)) silent in
          let settled : Besides n (all_added s.adds w.client) after =
          client_settles_beside (plain_name n) k.client (moment w) (all_added s.adds w.client) after task settles (added.waits (rest_waits (plain_name n) ds clean.client)) in
          let b : Besides n w.client after = beside_then (plain_name n) quiet_rule k.client ds (history k.client (all_added s.adds w.client)) (history k.client after) added settled in
          let on : Besides n opened after = beside_then (plain_name n) quiet_rule k.client (history k.client opened) (history k.client (all_added s.adds w.client)) (history k.client after) (kinds_beside n messages opened own) settled in
          client_turned k fits n w.numbered w.times w.sessions rest w.lines (IsLineOf command) v next after (clean_stands n rest (Some s.under) w.sessions (omega arith)) refl refl
          (inl (record { plain = plain; call = call_count ds; under = refl; own = next_such (plain_name n) ds; lines_are = refl; tells = tells })) at_once b
          (more_called k fits n w.numbered w.times w.sessions rest w.lines (IsLineOf command) (history k.client opened) (history k.client after) on (begun_count known))
          (λ lawful. client_rests k.client (moment w) (all_added s.adds w.client) None after task settles (asked_works k.client s.adds w.client asks clean.client) lawful) good spared

    -- a write of a resource that isn't there
    lacks : (next : World) (resource offset : ℕ) (rest : List Command) (after : List Entry) (task : Option Tasked) → ClientSettles k.client (moment w) w.client None after task
        → next ≡ finished k (with_client k (with_task task (with_command w rest (unasked w (lacking resource)))) after) → HasGoneWell k next
        → IsSpared k next → Calling k fits (call_count ds) w.numbered w.times w.sessions rest w.lines (IsLineOf (Write resource offset)) next
    lacks next resource offset rest after task settles is good spared =
        let m : ℕ = call_count ds in
        let v : World = with_command w rest (unasked w (lacking resource)) in
        let y : World = with_client k v after in
        let told : ReportLine = line.Write resource 0 NotFound 0 in
        let silent : task ≡ None = settles.task_is in
        let at_once : next ≡ finished k y = is ∙ ap {A = Option Tasked} {B = World} (λ t. finished k (with_client k (with_task t v) after)) silent in
        let b : Besides m w.client after = client_settles_beside (plain_name m) k.client (moment w) w.client after task settles (rest_waits (plain_name m) ds clean.client) in
        let client_is : next.client ≡ after = ap (λ z. z.client) at_once ∙ (finished_client k y ∙ client_keeps k (λ z. z.client) (λ z q. refl) v after) in
        let lawful = subst (IsLawful k.client) client_is good.client in
        let rested = client_rests k.client (moment w) w.client None after task settles (record { idle = clean.client.idle; unhalted = clean.client.unhalted; room = inl clean.client.taken }) lawful in
        let heard : AllByRecursion (IsSendable Server) (flushed_since k.client v.client after) =
        flushed_later (IsSendable Server) k.client v.client after (subst (λ h. AllByRecursion (IsSendable Server) (packets_flushed k.client h)) client_is good.heard.client) in
        let x : Stands k fits m w.numbered w.times y = client_moves k fits m w.numbered w.times v after (clean_stands m rest (Some (lacking resource)) w.sessions (omega arith)) b rested heard (unfinished k next y at_once spared) in
        let under_is : y.under ≡ Some (lacking resource) = client_keeps k (λ z. z.under) (λ z q. refl) v after in
        let lines_are : y.lines ≡ w.lines = client_keeps k (λ z. z.lines) (λ z q. refl) v after in
        let y_client : y.client ≡ after = client_keeps k (λ z. z.client) (λ z q. refl) v after in
        let called : m ≤ call_count (history k.client after) = more_called k fits m w.numbered w.times w.sessions rest w.lines (IsLineOf (Write resource offset)) ds (history k.client after) b (omega arith) in
        subst (Calling k fits m w.numbered w.times w.sessions rest w.lines (IsLineOf (Write resource offset))) (sym (at_once ∙ finished_under k y x.up x.down x.to_server x.to_client (Some (lacking resource)) under_is))
        (record {
          stands = told_stands k fits m w.numbered w.times y None (y.lines ++ told ∷ []) x;
          goes = record {
            sessions_are = client_keeps k (λ z. z.sessions) (λ z q. refl) v after;
            coming_is = client_keeps k (λ z. z.coming) (λ z q. refl) v after;
            called = subst (λ h. m ≤ call_count (history k.client h)) (sym y_client) called;
            command = inr (record { under = refl; line = told; lines_are = ap (λ ls. ls ++ told ∷ []) lines_are; tells = refl });
          };
        })

-- THE METHODS ARE KNOWN
module _ (k : Setup) (set : k.client ≡ client_setting) (ds : List Deed) where
  abbrev Known : List ℕ → MethodRef → Type 0
  Known method ref = (payload : List ℕ) → method_named k.client (request (next_name demo_id (name_id method) ds) payload).name ≡ Some ref

  knows_by : (method : List ℕ) (ref : MethodRef) → method_named client_setting (next_name demo_id (name_id method) ds) ≡ Some ref → Known method ref
  knows_by method ref is payload = ap (λ (x : Setting). method_named x (next_name demo_id (name_id method) ds)) set ∙ is

  knows_echo : Known (codes "Echo") (demo_method (codes "Echo") Unary)
  unfolding name_id
  knows_echo = knows_by (codes "Echo") _ refl

  knows_count : Known (codes "Count") (demo_method (codes "Count") ServerStream)
  unfolding name_id
  knows_count = knows_by (codes "Count") _ refl

  knows_sum : Known (codes "Sum") (demo_method (codes "Sum") ClientStream)
  unfolding name_id
  knows_sum = knows_by (codes "Sum") _ refl

  knows_chat : Known (codes "Chat") (demo_method (codes "Chat") Bidi)
  unfolding name_id
  knows_chat = knows_by (codes "Chat") _ refl

-- a run that has come out of a command
passes : (k : Setup) (calm : NoFlips k.losses) (fits : Side → Book → Type 0) (n sessions : ℕ) (command : Command) (rest : List Command) (w next end : World) (spares : SparesOthers k end)
    → MakesTurn k w next → ComesOut k calm fits n w.numbered w.times sessions command rest w.lines end spares next → PassesQuietly k fits w end sessions command rest
passes k calm fits n sessions command rest w next end spares turn out = record {
  passes = record {
    mid = out.mid;
    count = suc out.count;
    way = (next, turn, out.way);
    more = out.more;
    clean = out.clean;
    sessions_are = out.sessions_are;
    coming = out.coming;
    told = out.told;
    lines = out.lines_are;
    is_of = out.tells;
    said = out.said;
    numbered = out.numbered;
  };
  quiet = out.quiet;
  times_are = out.times_are;
}

-- the command starts in the first turn
module _ (k : Setup) (calm : NoFlips k.losses) (fits : Side → Book → Type 0) (w end : World) (spares : SparesOthers k end) (command : Command) (rest : List Command) (clean : IsClean k fits w)
    (coming : w.coming ≡ command ∷ rest) where
  begins_by : (n : ℕ) (run : RunsOn k w end) → ((next : World) → TurnOf k w (starting command rest) next → HasGoneWell k next → IsSpared k next → Calling k fits n w.numbered w.times w.sessions rest w.lines (IsLineOf command) next)
      → PassesQuietly k fits w end w.sessions command rest
  begins_by n run starts = at run.count run.turns
    where
      at : (count : ℕ) → Turns k count w end → PassesQuietly k fits w end w.sessions command rest
      at zero same = absurd (not_last (sym (next_by k fits w (command ∷ rest) clean coming) ∙ (ap next_kind same ∙ run.is_last)))
        where
          not_last : starting command rest ≡ ending → ⊥
          not_last is = cc
      at (suc count) turns =
          let next : World = turns.0 in
          let good : HasGoneWell k next = well_before k next end (turns_go_on k calm count next end turns.2) run.well in
          let spared : IsSpared k next = record { end = end; spares = spares; grows = numbered_grow k count next end turns.2 } in
          let t : TurnOf k w (starting command rest) next = subst (λ kind. TurnOf k w kind next) (next_by k fits w (command ∷ rest) clean coming) turns.1.turn in
          passes k calm fits n w.sessions command rest w next end spares turns.1
          (calls_end k calm fits n w.numbered w.times w.sessions command rest w.lines end spares count next (starts next t good spared) turns.2 run.is_last run.well)

pub plain_commands_pass : (k : Setup) (fits : Side → Book → Type 0) → PlainPasses k fits
plain_commands_pass k fits w end (Echo bytes) rest calm spares set plain clean coming run =
    begins_by k calm fits w end spares (Echo bytes) rest clean coming (call_count (client_deeds k w) + 1) run
    (λ next t good spared. plain_asks k calm fits w clean echo (codes "Echo") bytes None (demo_method (codes "Echo") Unary) (Echo bytes) rest next t.after t.task (knows_echo k set (client_deeds k w) bytes) (starts_ask k.client k w (Echo bytes)) t.settles t.is (λ then status. tt) good spared)
plain_commands_pass k fits w end (Count n) rest calm spares set plain clean coming run =
    begins_by k calm fits w end spares (Count n) rest clean coming (call_count (client_deeds k w) + 1) run
    (λ next t good spared. plain_asks k calm fits w clean counting (codes "Count") (n ∷ []) None (demo_method (codes "Count") ServerStream) (Count n) rest next t.after t.task (knows_count k set (client_deeds k w) (n ∷ [])) (starts_ask k.client k w (Count n)) t.settles t.is (λ then status. tt) good spared)
plain_commands_pass k fits w end (Sum bytes) rest calm spares set plain clean coming run =
    begins_by k calm fits w end spares (Sum bytes) rest clean coming (call_count (client_deeds k w) + 1) run
    (λ next t good spared. plain_asks k calm fits w clean sum (codes "Sum") [] (Some bytes) (demo_method (codes "Sum") ClientStream) (Sum bytes) rest next t.after t.task (knows_sum k set (client_deeds k w) []) (starts_ask k.client k w (Sum bytes)) t.settles t.is (λ then status. tt) good spared)
plain_commands_pass k fits w end (Chat bytes) rest calm spares set plain clean coming run =
    begins_by k calm fits w end spares (Chat bytes) rest clean coming (call_count (client_deeds k w) + 1) run
    (λ next t good spared. plain_asks k calm fits w clean chat (codes "Chat") [] (Some bytes) (demo_method (codes "Chat") Bidi) (Chat bytes) rest next t.after t.task (knows_chat k set (client_deeds k w) []) (starts_ask k.client k w (Chat bytes)) t.settles t.is (λ then status. tt) good spared)
plain_commands_pass k fits w end (Read resource offset) rest calm spares set plain clean coming run = absurd plain
plain_commands_pass k fits w end (Write resource offset) rest calm spares set plain clean coming run = absurd plain
plain_commands_pass k fits w end (Close channel) rest calm spares set plain clean coming run = absurd plain

pub lacking_writes_pass : (k : Setup) (fits : Side → Book → Type 0) → LackingPasses k fits
lacking_writes_pass k fits w end resource offset rest calm spares none clean coming run =
    begins_by k calm fits w end spares (Write resource offset) rest clean coming (call_count (client_deeds k w)) run
    (λ next t good spared. by_none next (found resource (client_store k w).full) none t.after t.task t.settles t.is good spared)
  where
    by_none : (next : World) (o : Option (List ℕ)) → o ≡ None → (after : List Entry) (task : Option Tasked)
        → ClientSettles k.client (moment w) (all_added (starts_write k w resource offset o).adds w.client) (task_under (Some (starts_write k w resource offset o).under)) after task
        → next ≡ finished k (with_client k (with_task task (with_command w rest (starts_write k w resource offset o))) after) → HasGoneWell k next
        → IsSpared k next → Calling k fits (call_count (client_deeds k w)) w.numbered w.times w.sessions rest w.lines (IsLineOf (Write resource offset)) next
    by_none next None is after task settles to good spared = lacks k calm fits w clean next resource offset rest after task settles to good spared
    by_none next (Some bytes) is after task settles to good spared = absurd cc
