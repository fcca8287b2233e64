-- A run, turn by turn.
use Rattle.std.proofs.Common.{◌≡◌, ℕ, zero, suc, ◌-◌, ◌+◌, ◌<◌, ◌≤◌, ◌^◌, List, [], ◌∷◌, length, slice_get, Option, Some, None, refl, ap, sym, ◌∙◌, subst, arith, length-drop}
use Rattle.std.specs.Prelude.{IfSome, option_and_then}
use Rattle.std.specs.List.{AllByRecursion}
use Rattle.link_script.specs.declared.command.Command.{Command}
use Rattle.link_script.specs.Script.{IsCommand}
use Rattle.rpc_journal.specs.Calls.{call_count, end_of}
use Rattle.rpc_journal.specs.History.{history}
use Rattle.rpc_journal.proofs.PlaceLemmas.{some_same}
use Rattle.rpc_schedule.specs.Serving.{deeds}
use Rattle.rpc_schedule.proofs.ServingLemmas.{below_full}
use Rattle.link_laws.specs.declared.world.limits.TheConstants.{MAX_DELIVERIES}
use Rattle.link_laws.specs.world.Limits.{IsPastFrames}
use Rattle.link_laws.specs.transfers_fit.Fits.{AreSmall}
use Rattle.link_laws.specs.world.Turns.{Kind, Turns, ending, next_kind, starting, timing}
use Rattle.link_laws.specs.world.Turns as world
use Rattle.link_laws.specs.world.World.{Plain, Setup, World, calling, first_world, wiring_of}
use Rattle.link_world.specs.declared.client.under.Under.{Under}
use Rattle.link_world.specs.declared.client.under.Under.TheVariants.{Calling, Closing, Lacking, Transferring}
use Rattle.link_world.specs.client.ClientSide.{Attends, ClientState}
use Rattle.link_world.specs.client.Underway.{call_under, under_seen}
use Rattle.link_world.specs.server.ServerSide.{ServerState}
use Rattle.link_laws.specs.world.Wiring.{Wiring}
use Rattle.link_world.specs.declared.course.Course.{Course}
use Rattle.link_world.specs.declared.turn.NextTurn.{NextTurn}
use Rattle.link_world.specs.declared.turn.NextTurn.TheVariants.{ToServer, ToClient, Start, Cancel, Time}
use Rattle.link_world.specs.Making.{TakesTurn}
use Rattle.link_world.specs.Running.{ComesTo, EndsWith, ShowsTurn}
use Rattle.link_world.specs.Showing.{CanTurn, IsCalling, IsNext, IsOpen, Shows}
use Rattle.link_world.proofs.LineLemmas.{client_deeds_are}
use Rattle.link_world.proofs.SizeLemmas.{IsLess, size_of, smaller, under_size, world_size}

-- what is left to do at most
abbrev pub left_size : List Command → Course → ServerState → ℕ
left_size commands d s = size_of d.delivered (length commands - d.started) (under_size (under_seen d.under)) (length s.end.serving.table.entries)

all_at : {A : Type 0} (P : A → Type 0) (xs : List A) (n : ℕ) (x : A) → AllByRecursion P xs → slice_get xs n ≡ Some x → P x
all_at P [] n x all is = absurd cc
all_at P (y ∷ xs) zero x all is = subst P (some_same y x is) all.0
all_at P (y ∷ xs) (suc n) x all is = all_at P xs n x all.1 is

cancels_known : (c : ClientState) (u : Option Under) (call now : ℕ) → IsCalling u call → Attends c u now → IsOpen c u
    → (call < call_count (deeds c.end.serving)) × (end_of (deeds c.end.serving) call ≡ None)
cancels_known c None call now is attends unended = absurd is
cancels_known c (Some (Transferring speaker)) call now is attends unended = absurd is
cancels_known c (Some (Lacking resource)) call now is attends unended = absurd is
cancels_known c (Some (Calling plain x)) call now is attends unended =
    subst (λ n. (n < call_count (deeds c.end.serving)) × (end_of (deeds c.end.serving) n ≡ None)) is (attends.call, unended)
cancels_known c (Some (Closing channel ended)) call now is attends unended = absurd is

-- the turn that comes next may be made
pub can_turn : (k : Setup) (commands : List Command) (w : World) (x : Wiring) (c : ClientState) (d : Course) (now : ℕ) (turn : NextTurn) → AllByRecursion IsCommand commands
    → IsNext commands d turn → TakesTurn k w x turn → Attends c d.under now → IsOpen c d.under
    → ((command : Command) (rest : List Command) → next_kind w ≡ starting command rest → (d.sessions + 1 < 2 ^ 32) × AreSmall c.stored.full) → CanTurn c d turn
can_turn k commands w x c d now (ToServer frame) fit next takes attends unended fits = tt
can_turn k commands w x c d now (ToClient frame) fit next takes attends unended fits = tt
can_turn k commands w x c d now (Start command) fit next takes attends unended fits =
    let starts = fits command.now takes.0 takes.1 in (all_at IsCommand commands d.started command.now fit next.0, next.1, starts.0, starts.1)
can_turn k commands w x c d now (Cancel call) fit next takes attends unended fits = cancels_known c d.under call now next attends unended
can_turn k commands w x c d now Time fit next takes attends unended fits = tt

pub takes_left : (k : Setup) (w : World) (x : Wiring) (turn : NextTurn) → TakesTurn k w x turn → next_kind w ≡ ending → ⊥
takes_left k w x (ToServer frame) takes is = let other = takes.1 in absurd cc
takes_left k w x (ToClient frame) takes is = let other = takes.1 in absurd cc
takes_left k w x (Start command) takes is = let other = takes.1 in absurd cc
takes_left k w x (Cancel call) takes is = let other = takes.0 in absurd cc
takes_left k w x Time takes is = let other = takes.0 in absurd cc

turns_then : (k : Setup) (n : ℕ) (a b c : World) → Turns k n a b → world.MakesTurn k b c → Turns k (suc n) a c
turns_then k zero a b c same turn = (c, subst (λ x. world.MakesTurn k x c) (sym same) turn, refl)
turns_then k (suc n) a b c turns turn = (turns.0, turns.1, turns_then k n turns.0 b c turns.2 turn)

module _ (k : Setup) (commands : List Command) where
  pub comes_first : (s : ServerState) (c : ClientState) (x : Wiring) (d : Course) → Shows k commands s c x d (first_world commands) → ComesTo k commands s c x d
  comes_first s c x d shows = record {
    count = 0;
    now = first_world commands;
    turns = refl;
    shows = shows;
    within = omega arith;
    timed = omega arith;
  }

  known_call : (s : ServerState) (c : ClientState) (x : Wiring) (d : Course) (w : World) (now : ℕ) → Shows k commands s c x d w → Attends c d.under now
      → (plain : Plain) (call : ℕ) → w.under ≡ Some (calling plain call) → call < call_count (history k.client w.client)
  known_call s c x d w now shows attends plain call is =
      subst (λ ds. call < call_count ds) (client_deeds_are k w c shows.client)
      (subst (λ o. IfSome o (λ n. n < call_count (deeds c.end.serving))) (ap (option_and_then call_under) (shows.course.under ∙ is)) attends.call)

  size_is : (s : ServerState) (c : ClientState) (x : Wiring) (d : Course) (w : World) → Shows k commands s c x d w → left_size commands d s ≡ world_size w
  size_is s c x d w shows =
      let coming : length commands - d.started ≡ length w.coming = sym (length-drop d.started commands) ∙ ap length shows.course.coming in
      ap (λ n. size_of n (length commands - d.started) (under_size (under_seen d.under)) (length s.end.serving.table.entries)) shows.course.delivered
      ∙ (ap (λ n. size_of w.delivered n (under_size (under_seen d.under)) (length s.end.serving.table.entries)) coming
      ∙ (ap (λ u. size_of w.delivered (length w.coming) (under_size u) (length s.end.serving.table.entries)) shows.course.under
      ∙ ap (λ h. size_of w.delivered (length w.coming) (under_size w.under) (length h)) shows.server.entries))

  -- one turn more
  pub record GoesOn (d : Course) (s new : ServerState) (c : ClientState) (y : Wiring) (e : Course) : Type 0 where
    pub comes : ComesTo k commands new c y e
    pub smaller : left_size commands e new < left_size commands d s

  pub goes_on : (s new : ServerState) (c client : ClientState) (x y : Wiring) (d e : Course) (now : ℕ) (comes : ComesTo k commands s c x d) → Attends c d.under now
      → d.delivered < MAX_DELIVERIES → ShowsTurn k commands comes.now new client y e → GoesOn d s new client y e
  goes_on s new c client x y d e now comes attends room made =
      let w : World = comes.now in
      let few : w.delivered < MAX_DELIVERIES = subst (λ n. n < MAX_DELIVERIES) comes.shows.course.delivered room in
      let less : IsLess k w made.now = smaller k w made.now few (known_call s c x d w now comes.shows attends)
      (λ is. below_full w.server (made.timed is)) made.turn in
      record {
        comes = record {
          count = suc comes.count;
          now = made.now;
          turns = turns_then k comes.count (first_world commands) w made.now comes.turns (record { room = few; turn = made.turn });
          shows = made.shows;
          within = less.within;
          timed = less.timed comes.timed;
        };
        smaller = subst (λ n. n < left_size commands d s) (sym (size_is new client y e made.now made.shows))
            (subst (λ n. world_size made.now < n) (sym (size_is s c x d w comes.shows)) less.smaller);
      }

  -- the limit of deliveries is met
  pub past_frames : (s : ServerState) (c : ClientState) (x y : Wiring) (d : Course) (turn : NextTurn) (comes : ComesTo k commands s c x d) → TakesTurn k comes.now y turn
      → MAX_DELIVERIES ≤ d.delivered → IsPastFrames k commands
  past_frames s c x y d turn comes takes many = record {
    count = comes.count;
    now = comes.now;
    turns = comes.turns;
    many = omega (arith, comes.within, comes.shows.course.delivered, many);
    left = takes_left k comes.now y turn takes;
  }

  -- the end comes next
  pub ends_with : (s : ServerState) (c : ClientState) (x y : Wiring) (d : Course) (comes : ComesTo k commands s c x d)
      → (next_kind comes.now ≡ ending) × (y ≡ wiring_of k comes.now) → EndsWith k commands s c y d
  ends_with s c x y d comes last = record {
    comes = record {
      count = comes.count;
      now = comes.now;
      turns = comes.turns;
      shows = record { server = comes.shows.server; client = comes.shows.client; wires = last.1; course = comes.shows.course };
      within = comes.within;
      timed = comes.timed;
    };
    last = last.0;
  }
