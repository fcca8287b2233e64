-- Each turn leaves less to do.
use Rattle.std.proofs.Common.{◌≡◌, ℕ, ◌+◌, ◌-◌, ◌*◌, ◌<◌, ◌≤◌, Bool, true, false, List, [], ◌∷◌, length, reverse, Option, Some, None, if◌then◌else◌, refl, ap, sym, ◌∙◌, subst, arith, length-append, not, eq-eqb, slice_get}
use Rattle.std.specs.Prelude.{option_map}
use Rattle.std.proofs.lemmas.Bool.{false≢true}
use Rattle.std.proofs.lemmas.List.{reverse-append}
use mathlib.Core.List.{IsPrefix}
use Rattle.link_script.specs.declared.command.Command.{Command}
use Rattle.link_script.specs.declared.command.Command.TheVariants.{Read, Write, Echo, Count, Sum, Chat, Close}
use Rattle.link_script.specs.declared.report.ReportLine.{ReportLine}
use Rattle.link_script.specs.lossy.Link.{Link, released}
use Rattle.rpc_ids.specs.declared.status.Status.{Status}
use Rattle.rpc_ids.specs.declared.status.Status.TheVariants.{Cancelled}
use Rattle.rpc_journal.specs.declared.entry.Entry.{Entry}
use Rattle.rpc_journal.specs.declared.entry.TheConstants.{MAX_ENTRIES}
use Rattle.rpc_journal.specs.declared.entry.EntryKind.TheVariants.{Cancel, Tick}
use Rattle.rpc_journal.specs.declared.entry.EntryKind.TheVariants as entry
use Rattle.rpc_journal.specs.declared.setting.Setting.{Setting}
use Rattle.rpc_journal.specs.Calls.{call_at, call_count, calls, has_end, end_of, ends_of, of_call}
use Rattle.rpc_journal.specs.Effect.{Deed, Opening}
use Rattle.rpc_journal.specs.Entries.{cancel_effect}
use Rattle.rpc_journal.specs.History.{adding, deed_by, deeds_of, entry_by, history}
use Rattle.rpc_journal.specs.Kinds.{is_empty}
use Rattle.rpc_journal.proofs.EndedLemmas.{some_in}
use Rattle.rpc_journal.proofs.PacketLemmas.{has_end-more, has_end-older}
use Rattle.rpc_journal.proofs.PlaceLemmas.{get_some}
use Rattle.rpc_journal.proofs.Push.{history-push}
use Rattle.rpc_schedule.specs.Schedule.{flush_seat, run_seat}
use Rattle.link_laws.specs.declared.world.limits.TheConstants.{MAX_DELIVERIES}
use Rattle.link_laws.specs.world.Client.{ClientSettles}
use Rattle.link_laws.specs.world.Lines.{command_ended, finished, is_still, line_of, plain_line, with_line, with_released}
use Rattle.link_laws.specs.world.Turns.{Cancels, ClientHears, Kind, ServerHears, TimePasses, Turn, TurnOf, cancelling, ending, kind_by, later, next_kind, starting, timing, to_client, to_server, with_frame_at_client, with_frame_at_server}
use Rattle.link_laws.specs.world.Starts.{Asks, Closes, StartTurn, closed_by, with_command, starts, ended_by_close}
use Rattle.link_laws.specs.world.World.{under_with, with_task, Plain, Setup, Tasked, Under, World, calling, client_deeds, closing, lacking, moment, transferring, with_client, with_server, server_deeds}
use Rattle.link_laws.proofs.one_run.Growing.{begins, client_settles_goes, server_takes_goes, settles_goes}
use Rattle.link_laws.proofs.one_run.Keeping.{finish_keeps}
use Rattle.link_laws.proofs.one_run.Parts.{client_keeps, finished_server, server_keeps}

abbrev pub under_size : Option Under → ℕ
under_size None = 0
under_size (Some under) = 1

-- how many deliveries, commands and turns of time are left at most
abbrev pub size_of : ℕ → ℕ → ℕ → ℕ → ℕ
size_of delivered coming under entries = (MAX_DELIVERIES - delivered) + (2 * coming + (under + (MAX_ENTRIES - entries)))

abbrev pub world_size : World → ℕ
world_size w = size_of w.delivered (length w.coming) (under_size w.under) (length w.server)

-- which command is under way, and which comes, by the turn that comes next
pub cancelled_under : (a b : List (List ℕ)) (u : Option Under) (coming : List Command) (call : ℕ) → kind_by a b u coming ≡ cancelling call
    → (plain : Plain) × (u ≡ Some (calling plain call))
cancelled_under (frame ∷ rest) b u coming call is = absurd cc
cancelled_under [] (frame ∷ rest) u coming call is = absurd cc
cancelled_under [] [] None [] call is = absurd cc
cancelled_under [] [] None (command ∷ rest) call is = absurd cc
cancelled_under [] [] (Some (transferring t)) coming call is = absurd cc
cancelled_under [] [] (Some (lacking resource)) coming call is = absurd cc
cancelled_under [] [] (Some (calling plain c)) coming call is = (plain, cc)
cancelled_under [] [] (Some (closing channel ended)) coming call is = absurd cc

pub started_coming : (a b : List (List ℕ)) (u : Option Under) (coming : List Command) (command : Command) (rest : List Command) → kind_by a b u coming ≡ starting command rest
    → coming ≡ command ∷ rest
started_coming (frame ∷ more) b u coming command rest is = absurd cc
started_coming [] (frame ∷ more) u coming command rest is = absurd cc
started_coming [] [] None [] command rest is = absurd cc
started_coming [] [] None (first ∷ more) command rest is = cc
started_coming [] [] (Some (transferring t)) coming command rest is = absurd cc
started_coming [] [] (Some (lacking resource)) coming command rest is = absurd cc
started_coming [] [] (Some (calling plain c)) coming command rest is = absurd cc
started_coming [] [] (Some (closing channel ended)) coming command rest is = absurd cc

module _ (k : Setup) where
  release_keeps : {A : Type 0} (f : World → A) → ((v : World) (up down : Link) → f (record v { to_server = up; to_client = down }) ≡ f v) → (v : World) → f (with_released v) ≡ f v
  release_keeps f each v = at (is_still v)
    where
      at : (b : Bool) → f (if b then record v { to_server = released v.to_server; to_client = released v.to_client } else v) ≡ f v
      at true = each v (released v.to_server) (released v.to_client)
      at false = refl

  released_under : (v : World) → (with_released v).under ≡ v.under
  released_under v = release_keeps (λ x. x.under) (λ x up down. refl) v

  line_size : (o : Option ReportLine) (v : World) → under_size (with_line v o).under ≤ under_size v.under
  line_size None v = omega arith
  line_size (Some told) v = omega arith

  ended_size : (u : Option Under) (v : World) → under_size (command_ended k v u).under ≤ under_size v.under
  ended_size None v = omega arith
  ended_size (Some under) v = line_size (line_of k v under) v

  -- the end of a turn begins no command
  finished_size : (v : World) → under_size (finished k v).under ≤ under_size v.under
  finished_size v = subst (λ u. under_size (finished k v).under ≤ under_size u) (released_under v) (ended_size v.under (with_released v))

  -- what a turn leaves, where its end leads from there to this world
  pub record Leaves (v now : World) : Type 0 where
    pub delivered : now.delivered ≡ v.delivered
    pub coming : now.coming ≡ v.coming
    pub times : now.times ≡ v.times
    pub under : under_size now.under ≤ under_size v.under
    pub server : now.server ≡ v.server

  leaves : (v now : World) → now ≡ finished k v → Leaves v now
  leaves v now is = record {
    delivered = ap (λ x. x.delivered) is ∙ finish_keeps k (λ x. x.delivered) (λ x lines. refl) (λ x up down. refl) v;
    coming = ap (λ x. x.coming) is ∙ finish_keeps k (λ x. x.coming) (λ x lines. refl) (λ x up down. refl) v;
    times = ap (λ x. x.times) is ∙ finish_keeps k (λ x. x.times) (λ x lines. refl) (λ x up down. refl) v;
    under = subst (λ x. under_size x.under ≤ under_size v.under) (sym is) (finished_size v);
    server = ap (λ x. x.server) is ∙ finished_server k v;
  }

  behind_server : (v : World) (after : List Entry) (now : World) → now ≡ finished k (with_server k v after) → Leaves (record v { server = after }) now
  behind_server v after now is =
      let l = leaves (with_server k v after) now is in
      record {
        delivered = l.delivered ∙ server_keeps k (λ x. x.delivered) (λ x p. refl) v after;
        coming = l.coming ∙ server_keeps k (λ x. x.coming) (λ x p. refl) v after;
        times = l.times ∙ server_keeps k (λ x. x.times) (λ x p. refl) v after;
        under = subst (λ u. under_size now.under ≤ under_size u) (server_keeps k (λ x. x.under) (λ x p. refl) v after) l.under;
        server = l.server ∙ server_keeps k (λ x. x.server) (λ x p. refl) v after;
      }

  behind_client : (v : World) (after : List Entry) (now : World) → now ≡ finished k (with_client k v after) → Leaves v now
  behind_client v after now is =
      let l = leaves (with_client k v after) now is in
      record {
        delivered = l.delivered ∙ client_keeps k (λ x. x.delivered) (λ x p. refl) v after;
        coming = l.coming ∙ client_keeps k (λ x. x.coming) (λ x p. refl) v after;
        times = l.times ∙ client_keeps k (λ x. x.times) (λ x p. refl) v after;
        under = subst (λ u. under_size now.under ≤ under_size u) (client_keeps k (λ x. x.under) (λ x p. refl) v after) l.under;
        server = l.server ∙ client_keeps k (λ x. x.server) (λ x p. refl) v after;
      }

  behind_both : (v : World) (client server : List Entry) (now : World) → now ≡ finished k (with_server k (with_client k v client) server)
      → Leaves (record v { server = server }) now
  behind_both v client server now is =
      let l = behind_server (with_client k v client) server now is in
      record {
        delivered = l.delivered ∙ client_keeps k (λ x. x.delivered) (λ x p. refl) v client;
        coming = l.coming ∙ client_keeps k (λ x. x.coming) (λ x p. refl) v client;
        times = l.times ∙ client_keeps k (λ x. x.times) (λ x p. refl) v client;
        under = subst (λ u. under_size now.under ≤ under_size u) (client_keeps k (λ x. x.under) (λ x p. refl) v client) l.under;
        server = l.server;
      }

  with_task_size : (t : Option Tasked) (u : Option Under) → under_size (under_with t u) ≡ under_size u
  with_task_size None None = refl
  with_task_size None (Some under) = refl
  with_task_size (Some t) None = refl
  with_task_size (Some t) (Some (transferring old)) = refl
  with_task_size (Some t) (Some (lacking resource)) = refl
  with_task_size (Some t) (Some (calling plain call)) = refl
  with_task_size (Some t) (Some (closing channel ended)) = refl

  longer : (before after : List Entry) → IsPrefix before after → length before ≤ length after
  longer before after prefix = subst (λ h. length before ≤ length h) prefix.1 (omega (arith, length-append before prefix.0))

  closed_longer : (channel : ℕ) (ended : Option ℕ) (h : List Entry) → length h ≤ length (closed_by channel ended h)
  closed_longer channel None h = omega arith
  closed_longer channel (Some count) h = longer h (closed_by channel (Some count) h) (entry_by run_seat (entry.Close channel) ∷ [], refl)

  gets_end : (c : ℕ) → of_call c ((c, Cancelled) ∷ []) ≡ Cancelled ∷ []
  gets_end c = rw (eq-eqb c c refl) refl

  -- a Cancel of a call that is there gives it an end, where it had none
  cut_has_end : (set : Setting) (ds : List Deed) (seat c : ℕ) (o : Opening) → call_at ds c ≡ Some o
      → has_end (deed_by seat (Cancel c) (cancel_effect set ds c (call_at ds c)) ∷ ds) c ≡ true
  cut_has_end set ds seat c o there = at (has_end ds c) refl
    where
      at : (b : Bool) → has_end ds c ≡ b → has_end (deed_by seat (Cancel c) (cancel_effect set ds c (call_at ds c)) ∷ ds) c ≡ true
      at true e = has_end-more ds (deed_by seat (Cancel c) (cancel_effect set ds c (call_at ds c))) c e
      at false e = rw (there, e, gets_end c) (some_in (ends_of ds c) Cancelled)

  -- THE CALL OF A CANCEL HAS AN END BEHIND IT
  cancel_ends : (h : List Entry) (call : ℕ) (now : ℕ) (after : List Entry) → call < call_count (history k.client h)
      → ClientSettles k.client now (adding h run_seat (Cancel call)) None after None → has_end (history k.client after) call ≡ true
  cancel_ends h call now after known settles =
      let cut : List Entry = adding h run_seat (Cancel call) in
      let goes = client_settles_goes k.client now cut None after None settles in
      let o = get_some (calls (history k.client h)) call known in
      let ended : has_end (history k.client cut) call ≡ true =
      subst (λ ds. has_end ds call ≡ true) (sym (history-push k.client h (entry_by run_seat (Cancel call)))) (cut_has_end k.client (history k.client h) run_seat call o.0 o.1) in
      subst (λ es. has_end (deeds_of k.client (reverse es)) call ≡ true) (sym goes.is)
      (subst (λ es. has_end (deeds_of k.client es) call ≡ true) (sym (reverse-append cut goes.more))
      (has_end-older k.client (reverse goes.more) (reverse cut) call ended))

  ended_none : (h : List Entry) (call : ℕ) → has_end (history k.client h) call ≡ true → end_of (history k.client h) call ≡ None → ⊥
  ended_none h call ended none = at (ends_of (history k.client h) call) ended none
    where
      at : (xs : List Status) → not (is_empty xs) ≡ true → slice_get xs 0 ≡ None → ⊥
      at [] ended none = false≢true ended
      at (x ∷ xs) ended none = absurd cc

  -- so the command under way ends
  cancel_size : (v : World) (plain : Plain) (call : ℕ) → v.under ≡ Some (calling plain call) → has_end (history k.client v.client) call ≡ true
      → under_size (finished k v).under ≡ 0
  cancel_size v plain call under ended =
      subst (λ u. under_size (command_ended k (with_released v) u).under ≡ 0) (sym under)
      (by_line (end_of (client_deeds k (with_released v)) call) refl)
    where
      by_line : (o : Option Status) → end_of (client_deeds k (with_released v)) call ≡ o → under_size (with_line (with_released v) (option_map (plain_line k (with_released v) plain call) o)).under ≡ 0
      by_line (Some status) is = refl
      by_line None is =
          absurd (ended_none v.client call ended (subst (λ h. end_of (history k.client h) call ≡ None) (release_keeps (λ x. x.client) (λ x up down. refl) v) is))

  -- a turn leads on to a world with less to do, within the limit of deliveries, and to no more turns of time than the
  -- server has entries
  pub record IsLess (w now : World) : Type 0 where
    pub smaller : world_size now < world_size w
    pub within : now.delivered ≤ MAX_DELIVERIES
    pub timed : w.times ≤ length w.server → now.times ≤ length now.server

  module _ (w now : World) (room : w.delivered < MAX_DELIVERIES) where
    server_longer : (after : List Entry) → IsPrefix w.server after → now.server ≡ after → length w.server ≤ length now.server
    server_longer after prefix is = subst (λ h. length w.server ≤ length h) (sym is) (longer w.server after prefix)

    up_smaller : (frame : List ℕ) (rest : List (List ℕ)) → ServerHears k w frame rest now → IsLess w now
    up_smaller frame rest t =
        let l = behind_server (with_frame_at_server w frame rest) t.after now t.is in
        let delivered : now.delivered ≡ w.delivered + 1 = l.delivered in
        let coming : length now.coming ≡ length w.coming = ap length l.coming in
        let under : under_size now.under ≤ under_size w.under = l.under in
        let server = server_longer t.after (begins w.server t.hears.packets t.after (server_takes_goes k.rule k.server t.hears.packets w.server t.after t.hears.holds)) l.server in
        let times : now.times ≡ w.times = l.times in
        record {
          smaller = omega (arith, delivered, coming, under, server, room);
          within = omega (arith, delivered, room);
          timed = λ before. omega (arith, before, times, delivered, coming, under, server, room);
        }

    down_smaller : (frame : List ℕ) (rest : List (List ℕ)) → ClientHears k w frame rest now → IsLess w now
    down_smaller frame rest t =
        let l = behind_client (with_task t.task (with_frame_at_client w frame rest)) t.after now t.is in
        let delivered : now.delivered ≡ w.delivered + 1 = l.delivered in
        let coming : length now.coming ≡ length w.coming = ap length l.coming in
        let under : under_size now.under ≤ under_size w.under = subst (λ n. under_size now.under ≤ n) (with_task_size t.task w.under) l.under in
        let server : length now.server ≡ length w.server = ap length l.server in
        let times : now.times ≡ w.times = l.times in
        record {
          smaller = omega (arith, delivered, coming, under, server, room);
          within = omega (arith, delivered, room);
          timed = λ before. omega (arith, before, times, delivered, coming, under, server, room);
        }

    some_size : (u : Option Under) → under_size u ≤ 1
    some_size None = omega arith
    some_size (Some under) = omega arith

    asks_smaller : (command : Command) (rest : List Command) → w.coming ≡ command ∷ rest → Asks k w command rest now → IsLess w now
    asks_smaller command rest is t =
        let v : World = with_task t.task (with_command w rest (starts k w command)) in
        let l = behind_client v t.after now t.is in
        let delivered : now.delivered ≡ w.delivered = l.delivered in
        let coming : length now.coming ≡ length rest = ap length l.coming in
        let came : length w.coming ≡ length rest + 1 = ap length is ∙ omega arith in
        let under : under_size now.under ≤ under_size v.under = l.under in
        let few = some_size v.under in
        let server : length now.server ≡ length w.server = ap length l.server in
        let times : now.times ≡ w.times = l.times in
        record {
          smaller = omega (arith, delivered, coming, came, under, few, server);
          within = omega (arith, delivered, room);
          timed = λ before. omega (arith, before, times, delivered, coming, came, under, few, server);
        }

    close_smaller : (channel : ℕ) (rest : List Command) → w.coming ≡ Close channel ∷ rest → Closes k w channel rest now → IsLess w now
    close_smaller channel rest is t =
        let v : World = with_command w rest (starts k w (Close channel)) in
        let before : List Entry = closed_by channel (ended_by_close k.server (server_deeds k w) channel) w.server in
        let l = behind_server v t.after now t.is in
        let delivered : now.delivered ≡ w.delivered = l.delivered in
        let coming : length now.coming ≡ length rest = ap length l.coming in
        let came : length w.coming ≡ length rest + 1 = ap length is ∙ omega arith in
        let under : under_size now.under ≤ under_size v.under = l.under in
        let few = some_size v.under in
        let goes = settles_goes k.rule k.server before t.after t.settles in
        let first = closed_longer channel (ended_by_close k.server (server_deeds k w) channel) w.server in
        let more = longer before t.after (begins before [] t.after goes) in
        let server : length now.server ≡ length t.after = ap length l.server in
        let times : now.times ≡ w.times = l.times in
        record {
          smaller = omega (arith, delivered, coming, came, under, few, server, first, more);
          within = omega (arith, delivered, room);
          timed = λ before. omega (arith, before, times, delivered, coming, came, under, few, server, first, more);
        }

    start_smaller : (command : Command) (rest : List Command) → w.coming ≡ command ∷ rest → StartTurn k w command rest now → IsLess w now
    start_smaller (Close channel) rest is t = close_smaller channel rest is t
    start_smaller (Read resource offset) rest is t = asks_smaller (Read resource offset) rest is t
    start_smaller (Write resource offset) rest is t = asks_smaller (Write resource offset) rest is t
    start_smaller (Echo bytes) rest is t = asks_smaller (Echo bytes) rest is t
    start_smaller (Count n) rest is t = asks_smaller (Count n) rest is t
    start_smaller (Sum bytes) rest is t = asks_smaller (Sum bytes) rest is t
    start_smaller (Chat bytes) rest is t = asks_smaller (Chat bytes) rest is t

    cancel_smaller : (plain : Plain) (call : ℕ) → w.under ≡ Some (calling plain call) → call < call_count (history k.client w.client) → Cancels k w call now
        → IsLess w now
    cancel_smaller plain call is known t =
        let v : World = with_client k w t.after in
        let l = behind_client w t.after now t.is in
        let delivered : now.delivered ≡ w.delivered = l.delivered in
        let coming : length now.coming ≡ length w.coming = ap length l.coming in
        let was : under_size w.under ≡ 1 = ap under_size is in
        let client_is : v.client ≡ t.after = client_keeps k (λ x. x.client) (λ x p. refl) w t.after in
        let under_is : v.under ≡ Some (calling plain call) = client_keeps k (λ x. x.under) (λ x p. refl) w t.after ∙ is in
        let ended = cancel_ends w.client call (moment w) t.after known t.settles in
        let under : under_size now.under ≡ 0 = ap (λ x. under_size x.under) t.is ∙
        cancel_size v plain call under_is (subst (λ h. has_end (history k.client h) call ≡ true) (sym client_is) ended) in
        let server : length now.server ≡ length w.server = ap length l.server in
        let times : now.times ≡ w.times = l.times in
        record {
          smaller = omega (arith, delivered, coming, was, under, server);
          within = omega (arith, delivered, room);
          timed = λ before. omega (arith, before, times, delivered, coming, was, under, server);
        }

    time_smaller : length w.server < MAX_ENTRIES → TimePasses k w now → IsLess w now
    time_smaller space t =
        let v : World = with_task t.task (later w) in
        let ticked : List Entry = adding w.server flush_seat (Tick (moment (later w))) in
        let l = behind_both v t.client t.server now t.is in
        let delivered : now.delivered ≡ w.delivered = l.delivered in
        let coming : length now.coming ≡ length w.coming = ap length l.coming in
        let under : under_size now.under ≤ under_size w.under = subst (λ n. under_size now.under ≤ n) (with_task_size t.task w.under) l.under in
        let more = longer ticked t.server (begins ticked [] t.server (settles_goes k.rule k.server ticked t.server t.ticks)) in
        let one : length ticked ≡ length w.server + 1 = length-append w.server (entry_by flush_seat (Tick (moment (later w))) ∷ []) in
        let server : length now.server ≡ length t.server = ap length l.server in
        let times : now.times ≡ w.times + 1 = l.times in
        record {
          smaller = omega (arith, delivered, coming, under, more, one, server, space);
          within = omega (arith, delivered, room);
          timed = λ before. omega (arith, before, times, delivered, coming, under, more, one, server, space);
        }

    -- EACH TURN LEAVES LESS
    turn_smaller : (kind : Kind) → next_kind w ≡ kind → ((plain : Plain) (call : ℕ) → w.under ≡ Some (calling plain call) → call < call_count (history k.client w.client))
        → (next_kind w ≡ timing → length w.server < MAX_ENTRIES) → TurnOf k w kind now → IsLess w now
    turn_smaller (to_server frame rest) is known space t = up_smaller frame rest t
    turn_smaller (to_client frame rest) is known space t = down_smaller frame rest t
    turn_smaller (starting command rest) is known space t =
        start_smaller command rest (started_coming w.to_server.frames w.to_client.frames w.under w.coming command rest is) t
    turn_smaller (cancelling call) is known space t =
        let under = cancelled_under w.to_server.frames w.to_client.frames w.under w.coming call is in
        cancel_smaller under.0 call under.1 (known under.0 call under.1) t
    turn_smaller timing is known space t = time_smaller (space is) t
    turn_smaller ending is known space t = absurd t

    pub smaller : ((plain : Plain) (call : ℕ) → w.under ≡ Some (calling plain call) → call < call_count (history k.client w.client))
        → (next_kind w ≡ timing → length w.server < MAX_ENTRIES) → Turn k w now → IsLess w now
    smaller known space t = turn_smaller (next_kind w) refl known space t
