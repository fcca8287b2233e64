-- A world has one next turn, and commands have one run.
use Rattle.std.proofs.Common.{◌≡◌, ℕ, zero, suc, List, ◌++◌, Some, None, IsTrue, refl, ap, sym, ◌∙◌, subst, arith}
use Rattle.std.proofs.lemmas.List.{append_cancel_left}
use Rattle.link_script.specs.declared.command.Command.{Command}
use Rattle.link_script.specs.declared.command.Command.TheVariants.{Read, Write, Echo, Count, Sum, Chat, Close}
use Rattle.rpc_ids.specs.declared.method.Role.TheVariants.{Server, Client}
use Rattle.rpc_packet.specs.declared.owned.Packet.{Packet}
use Rattle.rpc_frames.specs.Heard.{heard_packets}
use Rattle.rpc_journal.specs.declared.entry.EntryKind.TheVariants.{Cancel, Tick, EndIn}
use Rattle.rpc_journal.specs.History.{adding}
use Rattle.rpc_schedule.specs.Schedule.{flush_seat, input_seat, run_seat}
use Rattle.rpc_schedule.proofs.ScheduleLemmas.{settles_same}
use Rattle.link_laws.specs.world.Lines.{finished}
use Rattle.link_laws.specs.world.Starts.{Started, all_added, starts, Asks, Closes, StartTurn, closed_by, with_command, ended_by_close}
use Rattle.link_laws.specs.world.Turns.{Cancels, ClientHears, Ends, Kind, ServerHears, TimePasses, Turn, TurnOf, Turns, cancelling, ending, later, next_kind, starting, timing, to_client, to_server, with_frame_at_client, with_frame_at_server}
use Rattle.link_laws.specs.world.Hearing.{ServerTakes}
use Rattle.link_laws.specs.world.World.{task_of, task_under, with_task, Setup, World, first_world, moment, with_client, with_server, server_deeds}
use Rattle.link_laws.specs.world.Client.{ClientTakes}
use Rattle.link_laws.specs.declared.world.limits.TheConstants.{MAX_DELIVERIES}
use Rattle.link_laws.specs.one_run.OneRun.{RunsAreOne, RunsStayWithin, TurnsAreOne}
use Rattle.link_laws.proofs.one_run.OneWork.{client_settles_same, client_takes_same, server_takes_same}

-- what was heard with a frame
heard_same : (before all : List Packet) (ps qs : List Packet) → all ≡ before ++ ps → all ≡ before ++ qs → ps ≡ qs
heard_same before all ps qs x y = append_cancel_left before ps qs (sym x ∙ y)

-- a value of an end's history and task
both_same : {A B C : Type 0} (f : A → B → C) {a b : A} {s t : B} → (a ≡ b) × (s ≡ t) → f a s ≡ f b t
both_same f {a = a} {b = b} {s = s} {t = t} same = ap (λ x. f x s) same.0 ∙ ap (f b) same.1

module _ (k : Setup) (ruled : IsTrue k.rule.ruled) (w a b : World) where
  server_hears_same : (frame : List ℕ) (rest : List (List ℕ)) → ServerHears k w frame rest a → ServerHears k w frame rest b → a ≡ b
  server_hears_same frame rest x y =
      let heard : x.hears.packets ≡ y.hears.packets = heard_same (heard_packets Server w.fed_server) (heard_packets Server (w.fed_server ++ frame)) x.hears.packets y.hears.packets x.hears.heard y.hears.heard in
      x.is
      ∙ (ap (λ h. finished k (with_server k (with_frame_at_server w frame rest) h))
      (server_takes_same k.rule k.server ruled x.hears.packets w.server x.after y.after x.hears.holds (subst (λ ps. ServerTakes k.rule k.server ps w.server y.after) (sym heard) y.hears.holds))
      ∙ sym y.is)

  client_hears_same : (frame : List ℕ) (rest : List (List ℕ)) → ClientHears k w frame rest a → ClientHears k w frame rest b → a ≡ b
  client_hears_same frame rest x y =
      let heard : x.hears.packets ≡ y.hears.packets = heard_same (heard_packets Client w.fed_client) (heard_packets Client (w.fed_client ++ frame)) x.hears.packets y.hears.packets x.hears.heard y.hears.heard in
      x.is
      ∙ (both_same (λ h t. finished k (with_client k (with_task t (with_frame_at_client w frame rest)) h))
      (client_takes_same k.client (moment w) x.hears.packets w.client (task_of w) x.after y.after x.task y.task x.hears.holds
      (subst (λ ps. ClientTakes k.client (moment w) ps w.client (task_of w) y.after y.task) (sym heard) y.hears.holds))
      ∙ sym y.is)

  asks_same : (command : Command) (rest : List Command) → Asks k w command rest a → Asks k w command rest b → a ≡ b
  asks_same command rest x y =
      let s : Started = starts k w command in
      x.is
      ∙ (both_same (λ h t. finished k (with_client k (with_task t (with_command w rest s)) h))
      (client_settles_same k.client (moment w) (all_added s.adds w.client) (task_under (Some s.under)) x.after y.after x.task y.task x.settles y.settles)
      ∙ sym y.is)

  closes_same : (channel : ℕ) (rest : List Command) → Closes k w channel rest a → Closes k w channel rest b → a ≡ b
  closes_same channel rest x y =
      let s : Started = starts k w (Close channel) in
      x.is
      ∙ (ap (λ h. finished k (with_server k (with_command w rest s) h))
      (settles_same k.rule k.server ruled (closed_by channel (ended_by_close k.server (server_deeds k w) channel) w.server) (closed_by channel (ended_by_close k.server (server_deeds k w) channel) w.server) x.after y.after refl x.settles y.settles)
      ∙ sym y.is)

  starts_same : (command : Command) (rest : List Command) → StartTurn k w command rest a → StartTurn k w command rest b → a ≡ b
  starts_same (Close channel) rest x y = closes_same channel rest x y
  starts_same (Read resource offset) rest x y = asks_same (Read resource offset) rest x y
  starts_same (Write resource offset) rest x y = asks_same (Write resource offset) rest x y
  starts_same (Echo bytes) rest x y = asks_same (Echo bytes) rest x y
  starts_same (Count n) rest x y = asks_same (Count n) rest x y
  starts_same (Sum bytes) rest x y = asks_same (Sum bytes) rest x y
  starts_same (Chat bytes) rest x y = asks_same (Chat bytes) rest x y

  cancels_same : (call : ℕ) → Cancels k w call a → Cancels k w call b → a ≡ b
  cancels_same call x y =
      x.is
      ∙ (ap (λ h. finished k (with_client k w h))
      (client_settles_same k.client (moment w) (adding w.client run_seat (Cancel call)) None x.after y.after None None x.settles y.settles).0
      ∙ sym y.is)

  time_same : TimePasses k w a → TimePasses k w b → a ≡ b
  time_same x y =
      let server : x.server ≡ y.server = settles_same k.rule k.server ruled (adding w.server flush_seat (Tick (moment (later w)))) (adding w.server flush_seat (Tick (moment (later w)))) x.server y.server refl x.ticks y.ticks in
      x.is
      ∙ (both_same (λ h t. finished k (with_server k (with_client k (with_task t (later w)) h) x.server))
      (client_settles_same k.client (moment (later w)) w.client (task_of w) x.client y.client x.task y.task x.polls y.polls)
      ∙ (ap (λ h. finished k (with_server k (with_client k (with_task y.task (later w)) y.client) h)) server ∙ sym y.is))

  ends_same : Ends k w a → Ends k w b → a ≡ b
  ends_same x y =
      let server : x.server ≡ y.server = settles_same k.rule k.server ruled (adding w.server input_seat EndIn) (adding w.server input_seat EndIn) x.server y.server refl x.server_settles y.server_settles in
      let client = client_settles_same k.client (moment w) (adding w.client input_seat EndIn) None x.client y.client None None x.client_settles y.client_settles in
      x.is ∙ (ap (λ h. with_client k (with_server k w x.server) h) client.0 ∙ (ap (λ h. with_client k (with_server k w h) y.client) server ∙ sym y.is))

  kind_same : (kind : Kind) → TurnOf k w kind a → TurnOf k w kind b → a ≡ b
  kind_same (to_server frame rest) x y = server_hears_same frame rest x y
  kind_same (to_client frame rest) x y = client_hears_same frame rest x y
  kind_same (starting command rest) x y = starts_same command rest x y
  kind_same (cancelling call) x y = cancels_same call x y
  kind_same timing x y = time_same x y
  kind_same ending x y = absurd x

pub turns_are_one : TurnsAreOne
turns_are_one k w a b ruled x y = kind_same k ruled w a b (next_kind w) x y

-- behind the last turn but the end no turn comes
none_behind : (k : Setup) (w now : World) → next_kind w ≡ ending → Turn k w now → ⊥
none_behind k w now last turn = subst (λ kind. TurnOf k w kind now) last turn

runs_meet : (k : Setup) (ruled : IsTrue k.rule.ruled) (n m : ℕ) (w a b : World) → Turns k n w a → next_kind a ≡ ending → Turns k m w b → next_kind b ≡ ending → a ≡ b
runs_meet k ruled zero zero w a b x last_a y last_b = sym x ∙ y
runs_meet k ruled zero (suc m) w a b x last_a y last_b = absurd (none_behind k w y.0 (subst (λ v. next_kind v ≡ ending) (sym x) last_a) y.1.turn)
runs_meet k ruled (suc n) zero w a b x last_a y last_b = absurd (none_behind k w x.0 (subst (λ v. next_kind v ≡ ending) (sym y) last_b) x.1.turn)
runs_meet k ruled (suc n) (suc m) w a b x last_a y last_b =
    runs_meet k ruled n m x.0 a b x.2 last_a (subst (λ v. Turns k m v b) (sym (turns_are_one k w x.0 y.0 ruled x.1.turn y.1.turn)) y.2) last_b

pub runs_are_one : RunsAreOne
runs_are_one k commands a b ruled x y =
    let same : x.before ≡ y.before = runs_meet k ruled x.count y.count (first_world commands) x.before y.before x.turns x.ends.is_last y.turns y.ends.is_last in
    ends_same k ruled x.before a b x.ends (subst (λ v. Ends k v b) (sym same) y.ends)

-- a run doesn't go on from a world that is past the limit of deliveries
never_past : (k : Setup) (ruled : IsTrue k.rule.ruled) (n m : ℕ) (w a b : World) → Turns k n w a → next_kind a ≡ ending → Turns k m w b
    → b.delivered ≡ MAX_DELIVERIES → (next_kind b ≡ ending → ⊥) → ⊥
never_past k ruled zero zero w a b x last y many left = left (subst (λ v. next_kind v ≡ ending) (sym x ∙ y) last)
never_past k ruled zero (suc m) w a b x last y many left = none_behind k w y.0 (subst (λ v. next_kind v ≡ ending) (sym x) last) y.1.turn
never_past k ruled (suc n) zero w a b x last y many left = omega (arith, x.1.room, ap (λ v. v.delivered) y, many)
never_past k ruled (suc n) (suc m) w a b x last y many left =
    never_past k ruled n m x.0 a b x.2 last (subst (λ v. Turns k m v b) (sym (turns_are_one k w x.0 y.0 ruled x.1.turn y.1.turn)) y.2) many left

pub runs_stay_within : RunsStayWithin
runs_stay_within k commands now ruled run past =
    never_past k ruled run.count past.count (first_world commands) run.before past.now run.turns run.ends.is_last past.turns past.many past.left
