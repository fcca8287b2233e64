-- Runs of the world, computed: each step is one that the turns allow.
use Rattle.std.proofs.Common.{◌≡◌, ℕ, zero, suc, List, [], ◌∷◌, ◌++◌, length, drop, Option, Some, None, refl, ap, sym, ◌∙◌, subst, Bool, true, false, ◌<◌, nat_lt, if◌then◌else◌}
use Rattle.std.proofs.lemmas.Bool.{ltb-true}
use Rattle.std.specs.Prelude.{option_map}
use Rattle.link_script.specs.declared.command.Command.{Command}
use Rattle.link_script.specs.declared.command.Command.TheVariants.{Read, Write, Echo, Count, Sum, Chat, Close}
use Rattle.link_script.specs.declared.report.Report.{Report}
use Rattle.link_script.specs.declared.script.Script.{Script}
use Rattle.rpc_ids.specs.declared.method.Role.{Role}
use Rattle.rpc_ids.specs.declared.method.Role.TheVariants.{Server, Client}
use Rattle.rpc_packet.specs.declared.owned.Packet.{Packet}
use Rattle.rpc_frames.specs.Heard.{heard_packets}
use Rattle.rpc_frames.proofs.Growing.{packets_begin}
use Rattle.rpc_handlers.specs.HandlerRule.{HandlerRule}
use Rattle.rpc_journal.specs.declared.entry.Entry.{Entry}
use Rattle.rpc_journal.specs.declared.entry.EntryKind.TheVariants.{Arrive, Cancel, Tick, EndIn}
use Rattle.rpc_journal.specs.declared.setting.Setting.{Setting}
use Rattle.rpc_journal.specs.History.{adding}
use Rattle.rpc_journal.proofs.PlaceLemmas.{some_same}
use Rattle.rpc_schedule.specs.Schedule.{flush_seat, input_seat, run_seat}
use Rattle.link_laws.specs.declared.world.limits.TheConstants.{MAX_DELIVERIES}
use Rattle.link_laws.specs.world.Client.{ClientSettles, ClientTakes, task_after, task_said}
use Rattle.link_laws.specs.world.Lines.{finished}
use Rattle.link_laws.specs.world.Reports.{report_of}
use Rattle.link_laws.specs.world.Rows.{HasRun}
use Rattle.link_laws.specs.world.Setup.{quiet_rule, setup_of}
use Rattle.link_laws.specs.world.Starts.{Started, all_added, starts, Asks, Closes, StartTurn, closed_by, with_command, ended_by_close}
use Rattle.link_laws.specs.world.Turns.{Cancels, ClientHears, Ends, Kind, ServerHears, TimePasses, TurnOf, Turns, cancelling, ending, later, next_kind, starting, timing, to_client, to_server, with_frame_at_client, with_frame_at_server}
use Rattle.link_laws.specs.world.Hearing.{ServerTakes}
use Rattle.link_laws.specs.world.World.{task_of, task_under, with_task, Setup, Tasked, World, first_world, moment, with_client, with_server, server_deeds}
use Rattle.link_laws.proofs.world.Working.{all_flushed, all_flushed_is, all_run, all_run_is, settled, settled_is}

-- where there is one, the next step goes on from it
module _ {A B : Type 0} where
  abbrev pub then_maybe : Option A → (A → Option B) → Option B
  then_maybe None f = None
  then_maybe (Some x) f = f x

  then_is : (o : Option A) (f : A → Option B) (y : B) → then_maybe o f ≡ Some y → (x : A) × (o ≡ Some x) × (f x ≡ Some y)
  then_is None f y is = absurd cc
  then_is (Some x) f y is = (x, refl, is)

  mapped_is : (o : Option A) (f : A → B) (y : B) → option_map f o ≡ Some y → (x : A) × (o ≡ Some x) × (f x ≡ y)
  mapped_is None f y is = absurd cc
  mapped_is (Some x) f y is = (x, refl, some_same (f x) y is)

-- the packets that are heard with a frame
abbrev pub heard_with : Role → List ℕ → List ℕ → List Packet
heard_with role fed frame = drop (length (heard_packets role fed)) (heard_packets role (fed ++ frame))

drop_front : {A : Type 0} (xs ys : List A) → drop (length xs) (xs ++ ys) ≡ ys
drop_front [] ys = refl
drop_front (x ∷ xs) ys = drop_front xs ys

heard_more : (role : Role) (fed frame : List ℕ) → heard_packets role (fed ++ frame) ≡ heard_packets role fed ++ heard_with role fed frame
heard_more role fed frame =
    let on = packets_begin role fed frame in
    sym on.1 ∙ ap (λ more. heard_packets role fed ++ more)
    (sym (drop_front (heard_packets role fed) on.0) ∙ ap (drop (length (heard_packets role fed))) on.1)

module _ (n : ℕ) where
  -- the server takes packets, and settles behind each
  module _ (rule : HandlerRule) (set : Setting) where
    unfoldable pub server_takes : List Packet → List Entry → Option (List Entry)
    server_takes [] h = Some h
    server_takes (p ∷ ps) h = then_maybe (settled rule set n (adding h input_seat (Arrive p))) (server_takes ps)

    server_takes_is : (ps : List Packet) (h after : List Entry) → server_takes ps h ≡ Some after → ServerTakes rule set ps h after
    unfolding server_takes
    server_takes_is [] h after is = sym (some_same h after is)
    server_takes_is (p ∷ ps) h after is =
        let mid = then_is (settled rule set n (adding h input_seat (Arrive p))) (server_takes ps) after is in
        (mid.0, settled_is rule set n (adding h input_seat (Arrive p)) mid.0 mid.1, server_takes_is ps mid.0 after mid.2)

  -- where the client has come to
  pub record ClientAt : Type 0 where
    pub entries : List Entry
    pub task : Option Tasked

  module _ (set : Setting) (now : ℕ) where
    abbrev pub client_flushed : List Entry → Option Tasked → List Entry → Option ClientAt
    client_flushed before task ran =
        option_map (λ after. record { entries = after; task = task_after set now before ran task })
        (all_flushed set n (task_said set now before ran task))

    -- the client's work
    abbrev pub client_settled : List Entry → Option Tasked → Option ClientAt
    client_settled before task = then_maybe (all_run quiet_rule set n before) (client_flushed before task)

    client_settled_is : (before : List Entry) (task : Option Tasked) (at : ClientAt) → client_settled before task ≡ Some at
        → ClientSettles set now before task at.entries at.task
    client_settled_is before task at is =
        let ran = then_is (all_run quiet_rule set n before) (client_flushed before task) at is in
        let runs = all_run_is quiet_rule set n before ran.0 ran.1 in
        let flushed = mapped_is (all_flushed set n (task_said set now before ran.0 task)) (λ after. record { entries = after; task = task_after set now before ran.0 task }) at ran.2 in
        let flushes = all_flushed_is set n (task_said set now before ran.0 task) flushed.0 flushed.1 in
        subst (λ x. ClientSettles set now before task x.entries x.task) flushed.2
        (record {
          ran = ran.0;
          run_count = runs.count;
          runs = runs.runs;
          none_ready = runs.none_ready;
          task_is = refl;
          flush_count = flushes.count;
          flushes = flushes.flushes;
          none_waits = flushes.none_waits;
        })

    unfoldable pub client_takes : List Packet → ClientAt → Option ClientAt
    client_takes [] at = Some at
    client_takes (p ∷ ps) at = then_maybe (client_settled (adding at.entries input_seat (Arrive p)) at.task) (client_takes ps)

    client_takes_is : (ps : List Packet) (at after : ClientAt) → client_takes ps at ≡ Some after
        → ClientTakes set now ps at.entries at.task after.entries after.task
    unfolding client_takes
    client_takes_is [] at after is = let same = some_same at after is in (ap (λ x. x.entries) (sym same), ap (λ x. x.task) (sym same))
    client_takes_is (p ∷ ps) at after is =
        let mid = then_is (client_settled (adding at.entries input_seat (Arrive p)) at.task) (client_takes ps) after is in
        (mid.0.entries, mid.0.task, client_settled_is (adding at.entries input_seat (Arrive p)) at.task mid.0 mid.1, client_takes_is ps mid.0 after mid.2)

  module _ (k : Setup) (w : World) where
    abbrev pub server_heard : List ℕ → List (List ℕ) → Option World
    server_heard frame rest =
        option_map (λ after. finished k (with_server k (with_frame_at_server w frame rest) after))
        (server_takes k.rule k.server (heard_with Server w.fed_server frame) w.server)

    server_heard_is : (frame : List ℕ) (rest : List (List ℕ)) (now : World) → server_heard frame rest ≡ Some now → ServerHears k w frame rest now
    server_heard_is frame rest now is =
        let taken = mapped_is (server_takes k.rule k.server (heard_with Server w.fed_server frame) w.server) (λ after. finished k (with_server k (with_frame_at_server w frame rest) after)) now is in
        record {
          after = taken.0;
          hears = record {
            packets = heard_with Server w.fed_server frame;
            heard = heard_more Server w.fed_server frame;
            holds = server_takes_is k.rule k.server (heard_with Server w.fed_server frame) w.server taken.0 taken.1;
          };
          is = sym taken.2;
        }

    abbrev pub client_heard : List ℕ → List (List ℕ) → Option World
    client_heard frame rest =
        option_map (λ at. finished k (with_client k (with_task at.task (with_frame_at_client w frame rest)) at.entries))
        (client_takes k.client (moment w) (heard_with Client w.fed_client frame) (record { entries = w.client; task = task_of w }))

    client_heard_is : (frame : List ℕ) (rest : List (List ℕ)) (now : World) → client_heard frame rest ≡ Some now → ClientHears k w frame rest now
    client_heard_is frame rest now is =
        let before : ClientAt = record { entries = w.client; task = task_of w } in
        let taken = mapped_is (client_takes k.client (moment w) (heard_with Client w.fed_client frame) before) (λ at. finished k (with_client k (with_task at.task (with_frame_at_client w frame rest)) at.entries)) now is in
        record {
          after = taken.0.entries;
          task = taken.0.task;
          hears = record {
            packets = heard_with Client w.fed_client frame;
            heard = heard_more Client w.fed_client frame;
            holds = client_takes_is k.client (moment w) (heard_with Client w.fed_client frame) before taken.0 taken.1;
          };
          is = sym taken.2;
        }

    abbrev pub asked : Started → List Command → Option World
    asked s rest =
        option_map (λ at. finished k (with_client k (with_task at.task (with_command w rest s)) at.entries))
        (client_settled k.client (moment w) (all_added s.adds w.client) (task_under (Some s.under)))

    asked_is : (command : Command) (rest : List Command) (now : World) → asked (starts k w command) rest ≡ Some now → Asks k w command rest now
    asked_is command rest now is =
        let s : Started = starts k w command in
        let settled = mapped_is (client_settled k.client (moment w) (all_added s.adds w.client) (task_under (Some s.under))) (λ at. finished k (with_client k (with_task at.task (with_command w rest s)) at.entries)) now is in
        record {
          after = settled.0.entries;
          task = settled.0.task;
          settles = client_settled_is k.client (moment w) (all_added s.adds w.client) (task_under (Some s.under)) settled.0 settled.1;
          is = sym settled.2;
        }

    abbrev pub closed : ℕ → Started → List Command → Option World
    closed channel s rest =
        option_map (λ after. finished k (with_server k (with_command w rest s) after))
        (settled k.rule k.server n (closed_by channel (ended_by_close k.server (server_deeds k w) channel) w.server))

    closed_is : (channel : ℕ) (rest : List Command) (now : World) → closed channel (starts k w (Close channel)) rest ≡ Some now → Closes k w channel rest now
    closed_is channel rest now is =
        let s : Started = starts k w (Close channel) in
        let before : List Entry = closed_by channel (ended_by_close k.server (server_deeds k w) channel) w.server in
        let done = mapped_is (settled k.rule k.server n before) (λ after. finished k (with_server k (with_command w rest s) after)) now is in
        record { after = done.0; settles = settled_is k.rule k.server n before done.0 done.1; is = sym done.2 }

    abbrev pub started : Command → List Command → Option World
    started (Close channel) rest = closed channel (starts k w (Close channel)) rest
    started command rest = asked (starts k w command) rest

    started_is : (command : Command) (rest : List Command) (now : World) → started command rest ≡ Some now → StartTurn k w command rest now
    started_is (Close channel) rest now is = closed_is channel rest now is
    started_is (Read resource offset) rest now is = asked_is (Read resource offset) rest now is
    started_is (Write resource offset) rest now is = asked_is (Write resource offset) rest now is
    started_is (Echo bytes) rest now is = asked_is (Echo bytes) rest now is
    started_is (Count count) rest now is = asked_is (Count count) rest now is
    started_is (Sum bytes) rest now is = asked_is (Sum bytes) rest now is
    started_is (Chat bytes) rest now is = asked_is (Chat bytes) rest now is

    abbrev pub cancelled : ℕ → Option World
    cancelled call =
        option_map (λ at. finished k (with_client k w at.entries)) (client_settled k.client (moment w) (adding w.client run_seat (Cancel call)) None)

    cancelled_is : (call : ℕ) (now : World) → cancelled call ≡ Some now → Cancels k w call now
    cancelled_is call now is =
        let before : List Entry = adding w.client run_seat (Cancel call) in
        let done = mapped_is (client_settled k.client (moment w) before None) (λ at. finished k (with_client k w at.entries)) now is in
        let settles : ClientSettles k.client (moment w) before None done.0.entries done.0.task = client_settled_is k.client (moment w) before None done.0 done.1 in
        record {
          after = done.0.entries;
          settles = subst (ClientSettles k.client (moment w) before None done.0.entries) settles.task_is settles;
          is = sym done.2;
        }

    abbrev pub time_behind : ClientAt → Option World
    time_behind at =
        option_map (λ server. finished k (with_server k (with_client k (with_task at.task (later w)) at.entries) server))
        (settled k.rule k.server n (adding w.server flush_seat (Tick (moment (later w)))))

    abbrev pub time_passed : Option World
    time_passed = then_maybe (client_settled k.client (moment (later w)) w.client (task_of w)) time_behind

    time_passed_is : (now : World) → time_passed ≡ Some now → TimePasses k w now
    time_passed_is now is =
        let polled = then_is (client_settled k.client (moment (later w)) w.client (task_of w)) time_behind now is in
        let before : List Entry = adding w.server flush_seat (Tick (moment (later w))) in
        let ticked = mapped_is (settled k.rule k.server n before) (λ server. finished k (with_server k (with_client k (with_task polled.0.task (later w)) polled.0.entries) server)) now polled.2 in
        record {
          client = polled.0.entries;
          task = polled.0.task;
          polls = client_settled_is k.client (moment (later w)) w.client (task_of w) polled.0 polled.1;
          server = ticked.0;
          ticks = settled_is k.rule k.server n before ticked.0 ticked.1;
          is = sym ticked.2;
        }

    abbrev pub turned_by : Kind → Option World
    turned_by (to_server frame rest) = server_heard frame rest
    turned_by (to_client frame rest) = client_heard frame rest
    turned_by (starting command rest) = started command rest
    turned_by (cancelling call) = cancelled call
    turned_by timing = time_passed
    turned_by ending = None

    turned_by_is : (kind : Kind) (now : World) → turned_by kind ≡ Some now → TurnOf k w kind now
    turned_by_is (to_server frame rest) now is = server_heard_is frame rest now is
    turned_by_is (to_client frame rest) now is = client_heard_is frame rest now is
    turned_by_is (starting command rest) now is = started_is command rest now is
    turned_by_is (cancelling call) now is = cancelled_is call now is
    turned_by_is timing now is = time_passed_is now is
    turned_by_is ending now is = absurd cc

    abbrev pub ended_behind : List Entry → Option World
    ended_behind server =
        option_map (λ at. with_client k (with_server k w server) at.entries) (client_settled k.client (moment w) (adding w.client input_seat EndIn) None)

    abbrev pub ended : Option World
    ended = then_maybe (settled k.rule k.server n (adding w.server input_seat EndIn)) ended_behind

    ended_is : (now : World) → next_kind w ≡ ending → ended ≡ Some now → Ends k w now
    ended_is now last is =
        let server = then_is (settled k.rule k.server n (adding w.server input_seat EndIn)) ended_behind now is in
        let before : List Entry = adding w.client input_seat EndIn in
        let client = mapped_is (client_settled k.client (moment w) before None) (λ at. with_client k (with_server k w server.0) at.entries) now server.2 in
        let settles : ClientSettles k.client (moment w) before None client.0.entries client.0.task = client_settled_is k.client (moment w) before None client.0 client.1 in
        record {
          is_last = last;
          server = server.0;
          server_settles = settled_is k.rule k.server n (adding w.server input_seat EndIn) server.0 server.1;
          client = client.0.entries;
          client_settles = subst (ClientSettles k.client (moment w) before None client.0.entries) settles.task_is settles;
          is = sym client.2;
        }

  module _ (k : Setup) where
    -- the end, or a turn and what follows it
    abbrev pub run_on : (World → Option World) → World → Kind → Option World
    run_on rest w ending = ended k w
    run_on rest w kind = if nat_lt w.delivered MAX_DELIVERIES then then_maybe (turned_by k w kind) rest else None

    -- a run from a world on, of at most so many turns
    unfoldable pub run_from : ℕ → World → Option World
    run_from zero w = None
    run_from (suc turns) w = run_on (run_from turns) w (next_kind w)

    record IsRunFrom (w now : World) : Type 0 where
      count : ℕ
      before : World
      turns : Turns k count w before
      ends : Ends k before now

    run_from_is : (turns : ℕ) (w now : World) → run_from turns w ≡ Some now → IsRunFrom w now
    unfolding run_from
    run_from_is zero w now is = absurd cc
    run_from_is (suc turns) w now is = by_kind (run_from_is turns) (next_kind w) refl is
      where
        made : ((x y : World) → run_from turns x ≡ Some y → IsRunFrom x y) → (kind : Kind) → next_kind w ≡ kind → w.delivered < MAX_DELIVERIES
            → then_maybe (turned_by k w kind) (run_from turns) ≡ Some now → IsRunFrom w now
        made on kind next room is =
            let turn = then_is (turned_by k w kind) (run_from turns) now is in
            let rest : IsRunFrom turn.0 now = on turn.0 now turn.2 in
            record {
              count = suc rest.count;
              before = rest.before;
              turns = (turn.0, record { room = room; turn = subst (λ x. TurnOf k w x turn.0) (sym next) (turned_by_is k w kind turn.0 turn.1) }, rest.turns);
              ends = rest.ends;
            }

        more : ((x y : World) → run_from turns x ≡ Some y → IsRunFrom x y) → (kind : Kind) → next_kind w ≡ kind
            → (if nat_lt w.delivered MAX_DELIVERIES then then_maybe (turned_by k w kind) (run_from turns) else None) ≡ Some now → IsRunFrom w now
        more on kind next is = by_room (nat_lt w.delivered MAX_DELIVERIES) refl is
          where
            by_room : (b : Bool) → nat_lt w.delivered MAX_DELIVERIES ≡ b → (if b then then_maybe (turned_by k w kind) (run_from turns) else None) ≡ Some now → IsRunFrom w now
            by_room true room is = made on kind next (ltb-true w.delivered MAX_DELIVERIES room) is
            by_room false none is = absurd cc

        by_kind : ((x y : World) → run_from turns x ≡ Some y → IsRunFrom x y) → (kind : Kind) → next_kind w ≡ kind
            → run_on (run_from turns) w kind ≡ Some now → IsRunFrom w now
        by_kind on ending next is = record { count = zero; before = w; turns = refl; ends = ended_is k w now next is }
        by_kind on (to_server frame rest) next is = more on (to_server frame rest) next is
        by_kind on (to_client frame rest) next is = more on (to_client frame rest) next is
        by_kind on (starting command rest) next is = more on (starting command rest) next is
        by_kind on (cancelling call) next is = more on (cancelling call) next is
        by_kind on timing next is = more on timing next is

-- what is told of the run of a script, of at most so many turns, and runs and flushes in each
abbrev pub told : ℕ → ℕ → Script → Option Report
told turns n s = option_map (report_of (setup_of s)) (run_from n (setup_of s) turns (first_world s.commands))

pub has_run : (turns n : ℕ) (s : Script) (r : Report) → told turns n s ≡ Some r → HasRun s r
has_run turns n s r is =
    let run = mapped_is (run_from n (setup_of s) turns (first_world s.commands)) (report_of (setup_of s)) r is in
    let from = run_from_is n (setup_of s) turns (first_world s.commands) run.0 run.1 in
    (run.0, record { count = from.count; before = from.before; turns = from.turns; ends = from.ends }, run.2)
