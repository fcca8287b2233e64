-- What a turn does, put together.
use Rattle.std.proofs.Common.{◌≡◌, ℕ, ◌+◌, ◌*◌, ◌<◌, ◌≤◌, false, List, length, Option, sym, ◌∙◌, subst, arith}
use Rattle.std.specs.Prelude.{drop, IfSome, Result, Ok, Err, OnOk}
use Rattle.link_script.specs.declared.command.Command.{Command}
use Rattle.rpc_journal.specs.declared.entry.TheConstants.{MAX_ENTRIES}
use Rattle.rpc_journal.specs.Calls.{call_count}
use Rattle.rpc_journal.specs.Refusals.{is_full}
use Rattle.rpc_schedule.specs.Serving.{deeds}
use Rattle.rpc_schedule.proofs.ServingLemmas.{below_full}
use Rattle.link_laws.specs.declared.world.limits.TheConstants.{TURN_OF_TIME}
use Rattle.link_laws.specs.world.Lines.{finished}
use Rattle.link_laws.specs.world.Turns.{Kind, next_kind, starting, timing}
use Rattle.link_laws.specs.world.World.{Setup, World}
use Rattle.link_world.specs.declared.client.under.Under.{Under}
use Rattle.link_world.specs.client.ClientSide.{Attends, ClientRests, ClientState}
use Rattle.link_world.specs.client.Underway.{call_seen}
use Rattle.link_world.specs.server.ServerSide.{ServerRests, ServerState}
use Rattle.link_laws.specs.world.Wiring.{Wiring}
use Rattle.link_world.specs.declared.course.Course.{Course}
use Rattle.link_world.specs.declared.turn.NextTurn.{NextTurn}
use Rattle.link_world.specs.declared.turn.NextTurn.TheVariants.{ToServer, ToClient, Start, Cancel, Time}
use Rattle.link_world.specs.Making.{ClientTurns, ServerTurns, TakesTurn, WorldTurns, with_coming}
use Rattle.link_world.specs.Running.{IsTimed, ShowsTurn}
use Rattle.link_world.specs.Showing.{ClientShows, CourseShows, ServerShows, Shows, Stands}
use Rattle.link_world.proofs.SizeLemmas.{started_coming}
use Rattle.link_world.proofs.TurnLemmas.{rest_at}

pub on_ok_four : {T E A B C D P : Type 0} (r : Result T E) → (A → B → C → D → P) → OnOk r A → OnOk r B → OnOk r C → OnOk r D → OnOk r P
on_ok_four (Ok x) f a b c d = f a b c d
on_ok_four (Err e) f a b c d = tt

module _ (k : Setup) (commands : List Command) (w : World) (kind : Kind) (s : ServerState) (c : ClientState) (x : Wiring) (d : Course) where
  pub server_turns : ServerTurns k commands w kind s x d → ClientShows k c w.client w.fed_client → WorldTurns k commands w kind s c x d
  server_turns t shows = record {
    mid = t.mid;
    turn = t.turn;
    server = t.server;
    client = subst (λ bytes. ClientShows k c t.mid.client bytes) (sym t.client.fed) (subst (λ h. ClientShows k c h w.fed_client) (sym t.client.entries) shows);
    wires = t.wires;
    course = t.course;
  }

  pub client_turns : ClientTurns k commands w kind c x d → ServerShows k s w.server w.fed_server → WorldTurns k commands w kind s c x d
  client_turns t shows = record {
    mid = t.mid;
    turn = t.turn;
    server = subst (λ bytes. ServerShows k s t.mid.server bytes) (sym t.server.fed) (subst (λ h. ServerShows k s h w.fed_server) (sym t.server.entries) shows);
    client = t.client;
    wires = t.wires;
    course = t.course;
  }

  pub next_turns : next_kind w ≡ kind → WorldTurns k commands w kind s c x d → WorldTurns k commands w (next_kind w) s c x d
  next_turns is t = subst (λ i. WorldTurns k commands w i s c x d) (sym is) t

-- a command was taken
pub taken_so : (commands : List Command) (d : Course) (w : World) (rest : List Command) → CourseShows commands d w → drop (d.started + 1) commands ≡ rest
    → CourseShows commands (record d { started = d.started + 1 }) (with_coming rest w)
taken_so commands d w rest course is = record {
  coming = is;
  under = course.under;
  sessions = course.sessions;
  delivered = course.delivered;
  times = course.times;
  lines = course.lines;
}

pub attends_calls : (c new : ClientState) (under : Option Under) (now : ℕ) → call_count (deeds new.end.serving) ≡ call_count (deeds c.end.serving) → Attends c under now
    → Attends new under now
attends_calls c new under now same attends = record {
  call = subst (λ n. IfSome (call_seen under) (λ call. call < n)) (sym same) attends.call;
  past = attends.past;
}

-- the commands that are left behind the one that comes next
pub rest_is : (commands : List Command) (d : Course) (w : World) (command : Command) (rest : List Command) → CourseShows commands d w
    → next_kind w ≡ starting command rest → drop (d.started + 1) commands ≡ rest
rest_is commands d w command rest course kind =
    rest_at commands d.started command rest (course.coming ∙ started_coming w.to_server.frames w.to_client.frames w.under w.coming command rest kind)

-- both ends stand again
pub stands_after : (s : ServerState) (c : ClientState) (d e : Course) → e ≡ d → ServerRests s → ClientRests c → Attends c d.under (TURN_OF_TIME * d.times)
    → d.times ≤ MAX_ENTRIES → Stands s c e
stands_after s c d e same server client attends times =
    subst (Stands s c) (sym same) (record { server = server; client = client; attends = attends; times = times })

-- a turn of time more is one that a journal has room for
pub one_more : (times : ℕ) (s : ServerState) → times ≤ length s.end.serving.table.entries → is_full s.end.serving.table.entries ≡ false → times + 1 ≤ MAX_ENTRIES
one_more times s timed room = omega (arith, timed, below_full s.end.serving.table.entries room)

-- A WHOLE TURN
pub made_so : (k : Setup) (commands : List Command) (w : World) (s : ServerState) (c : ClientState) (x y : Wiring) (d e : Course)
    → WorldTurns k commands w (next_kind w) s c x d
    → ((v : World) → Shows k commands s c x d v → Shows k commands s c y e (finished k v))
    → (next_kind w ≡ timing → is_full w.server ≡ false)
    → ShowsTurn k commands w s c y e
made_so k commands w s c x y d e t finish room = record {
  now = finished k t.mid;
  turn = t.turn;
  shows = finish t.mid (record { server = t.server; client = t.client; wires = t.wires; course = t.course });
  timed = room;
}

-- in a turn of time the server's journal had room
pub timed_so : (k : Setup) (w : World) (x : Wiring) (turn : NextTurn) (s : ServerState) → TakesTurn k w x turn → IsTimed turn s
    → s.end.serving.table.entries ≡ w.server → next_kind w ≡ timing → is_full w.server ≡ false
timed_so k w x (ToServer frame) s takes timed same is = let other = takes.1 in absurd cc
timed_so k w x (ToClient frame) s takes timed same is = let other = takes.1 in absurd cc
timed_so k w x (Start command) s takes timed same is = let other = takes.1 in absurd cc
timed_so k w x (Cancel call) s takes timed same is = let other = takes.0 in absurd cc
timed_so k w x Time s takes timed same is = subst (λ h. is_full h ≡ false) same timed
