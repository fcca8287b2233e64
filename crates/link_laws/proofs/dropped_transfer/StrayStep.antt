-- The end of an older session, told again, is delivered to the client, which stays as it is.
use Rattle.std.proofs.Common.{◌≡◌, ◌⊎◌, ℕ, ◌*◌, List, [], ◌∷◌, ◌++◌, map, Option, Some, None, inl, inr, refl, ap, sym, ◌∙◌, subst, arith}
use Rattle.std.proofs.lemmas.Bool.{ne_eqb}
use Rattle.std.proofs.lemmas.List.{append-nil}
use Rattle.rpc_ids.specs.declared.Status.TheVariants.{Okay}
use Rattle.rpc_ids.specs.declared.method.Role.{Role}
use Rattle.rpc_ids.specs.declared.method.Role.TheVariants.{Server, Client}
use Rattle.rpc_packet.specs.declared.owned.Packet.{Packet}
use Rattle.rpc_packet.specs.declared.packet_type.PacketType.TheVariants.{ServerStream}
use Rattle.rpc_frames.specs.Written.{IsBetweenFrames, IsSendable}
use Rattle.rpc_journal.specs.declared.entry.Entry.{Entry}
use Rattle.rpc_journal.specs.declared.entry.EntryKind.TheVariants.{Arrive}
use Rattle.rpc_journal.specs.Calls.{calls}
use Rattle.rpc_journal.specs.History.{adding, history}
use Rattle.rpc_journal.specs.Items.{items_sent}
use Rattle.rpc_schedule.specs.Schedule.{input_seat}
use Rattle.task_core.specs.declared.mail.Mail.{Mail}
use Rattle.task_core.specs.declared.mail.Mail.TheVariants.{Text}
use Rattle.transfer_words.specs.Word.{completion}
use Rattle.transfer_words.specs.Saying.{outs_of}
use Rattle.transfer_words.proofs.SpokenLaws.{words_are_heard}
use Rattle.transfer_client.specs.Hearing.{GoesOn, all_of}
use Rattle.transfer_client.specs.Machine.{Rules, staying}
use Rattle.transfer_client.specs.Polling.{Taken, behind, heard_in, heard_word, polled, takes_all, ticked}
use Rattle.transfer_resume.specs.declared.stage.Stage.{Stage}
use Rattle.transfer_resume.specs.Session.{Row}
use Rattle.history_laws.specs.rounds.Rounds.{ComesToStream}
use Rattle.history_laws.specs.rounds.Streams.{message_type}
use Rattle.link_script.specs.lossy.Link.{Link}
use Rattle.link_laws.specs.declared.world.limits.TheConstants.{TURN_OF_TIME}
use Rattle.link_laws.specs.world.Client.{ClientSettles, ClientTakes}
use Rattle.link_laws.specs.world.Lines.{finished}
use Rattle.link_laws.specs.world.Setup.{quiet_rule}
use Rattle.link_laws.specs.world.Turns.{ClientHears, Turn, with_frame_at_client}
use Rattle.link_laws.specs.world.World.{task_of, task_under, under_with, with_task, Setup, Tasked, Transfer, Under, World, all_sent_by, flushed_since, moment, with_client}
use Rattle.link_laws.proofs.one_run.Links.{frame_of}
use Rattle.link_laws.proofs.one_run.Parts.{closed_by_front, heard_front}
use Rattle.link_laws.specs.rounds.Polls.{IsPoll, MaySay}
use Rattle.link_laws.proofs.rounds.Carrying.{gone_out}
use Rattle.link_laws.proofs.rounds.Polling.{messages_are_polled}
use Rattle.link_laws.proofs.transfers_fit.Names.{called_same, settles_same}
use Rattle.link_laws.specs.lossless_transfer.Shows.{ArePlaces, AtClient, IsUnderWay, Places, moment_at, tasked_with}
use Rattle.link_laws.proofs.lossless_transfer.ClientTurns.{ClientWorked, client_worked, first_down}
use Rattle.link_laws.proofs.lossless_transfer.Machines.{IsWrapped, KeepsOn}
use Rattle.link_laws.specs.dropped_transfer.Passing.{IsBesideAtClient, IsStray, Passing, Stray, other, passing_packet, stray_packet}
use Rattle.link_laws.specs.dropped_transfer.Sessions.{OnlyDrops}
use Rattle.link_laws.specs.dropped_transfer.Shows.{StandsDropping}
use Rattle.link_laws.proofs.dropped_transfer.ClientRound.{IsQuiet, done_same, polled_beside, quiet_round}

-- WHAT THE TURN LEADS TO, but for what the end of a turn does: the packet is gone, and all else stands as it did
pub record StrayTurned (k : Setup) (x : Places) (older : List Row) (big now : World) (stage : Option Stage) (rest : List Passing) (n : ℕ) : Type 0 where
  pub world : World
  pub ends : now ≡ finished k world
  pub stands : StandsDropping k x older world stage [] rest n
  pub under : world.under ≡ big.under
  pub lines : world.lines ≡ big.lines
  pub numbered : world.numbered ≡ big.numbered

to_client_type : (role : Role) → role ≡ Client → ServerStream ≡ message_type role
to_client_type Client is = refl
to_client_type Server is = absurd cc

-- ONE PACKET ARRIVES at the client, which does its work behind it, with a task or without one
record Heard (k : Setup) (at : ℕ) (big now : World) (p : Packet) (ps : List Packet) : Type 0 where
  after : List Entry
  next : Option Tasked
  settles : ClientSettles k.client at (adding big.client input_seat (Arrive p)) (task_of big) after next
  is : now ≡ finished k (with_client k (with_task next (with_frame_at_client big (frame_of p) (map frame_of ps))) after)

one_heard : (k : Setup) (at : ℕ) (big now : World) (p : Packet) (ps : List Packet) → IsSendable Client p → IsBetweenFrames big.fed_client → moment big ≡ at
    → ClientHears k big (frame_of p) (map frame_of ps) now → Heard k at big now p ps
one_heard k at big now p ps fits between time t =
    let packets : t.hears.packets ≡ p ∷ [] = heard_front Client big.fed_client (frame_of p) p t.hears.packets fits between refl t.hears.heard in
    let first : ClientTakes k.client (moment big) (p ∷ []) big.client (task_of big) t.after t.task =
    subst (λ qs. ClientTakes k.client (moment big) qs big.client (task_of big) t.after t.task) packets t.hears.holds in
    let arrived : List Entry = adding big.client input_seat (Arrive p) in
    let a : ClientSettles k.client (moment big) arrived (task_of big) t.after first.1 = subst (λ h. ClientSettles k.client (moment big) arrived (task_of big) h first.1) (sym first.3.0) first.2 in
    let b : ClientSettles k.client (moment big) arrived (task_of big) t.after t.task = subst (λ u. ClientSettles k.client (moment big) arrived (task_of big) t.after u) (sym first.3.1) a in
    record {
      after = t.after;
      next = t.task;
      settles = subst (λ m. ClientSettles k.client m arrived (task_of big) t.after t.task) time b;
      is = t.is;
    }

-- THE STRAY IS A MESSAGE on a stream that the client has open
module _ (k : Setup) (x : Places) (only : OnlyDrops k) (before : List Entry) (s : Stray) (old : AtClient k x before) where
  comes_to_own : s.name ≡ x.client_opening.name → ComesToStream quiet_rule k.client before x.at_client x.client_opening old.memo (stray_packet s)
  comes_to_own named = record { rest = old.rest; stream = old.stream; named = named; type = to_client_type k.client.role only.client; endless = refl }

  comes_beside : (b : IsBesideAtClient k x s.name) → ComesToStream quiet_rule k.client before b.call b.opening b.memo (stray_packet s)
  comes_beside b = record {
    rest = old.rest;
    stream = old.others b.call b.opening b.memo b.apart b.stream;
    named = sym b.named;
    type = to_client_type k.client.role only.client;
    endless = refl;
  }

  -- no call opens by it
  same_calls : (after : List Entry) (task next : Option Tasked) → ClientSettles k.client (moment_at x) (adding before input_seat (Arrive (stray_packet s))) task after next
      → calls (history k.client after) ≡ x.client_calls
  same_calls after task next settles =
      settles_same k.client only.client (moment_at x) (adding before input_seat (Arrive (stray_packet s))) task after next settles
      ∙ (called_same k.client only.client before input_seat (Arrive (stray_packet s)) tt ∙ old.calls_are)

  module _ (stray : IsStray k x s) (after : List Entry) (next : Option Tasked) where
    -- WITHOUT A TASK
    module _ (settles : ClientSettles k.client (moment_at x) (adding before input_seat (Arrive (stray_packet s))) None after next) where
      stays_quiet : IsQuiet k.client before after next
      stays_quiet = at stray.call
        where
          at : (s.name ≡ x.client_opening.name) ⊎ IsBesideAtClient k x s.name → IsQuiet k.client before after next
          at (inl named) = quiet_round k.client (moment_at x) before after next x.at_client x.client_opening old.memo (stray_packet s) (comes_to_own named) settles
          at (inr b) = quiet_round k.client (moment_at x) before after next b.call b.opening b.memo (stray_packet s) (comes_beside b) settles

      idle_client : AtClient k x after
      idle_client = record {
        rest = stays_quiet.rest;
        memo = old.memo;
        stream = stays_quiet.streams x.at_client x.client_opening old.memo old.stream;
        undone = done_same (history k.client before) (history k.client after) x.at_client stays_quiet.said ∙ old.undone;
        others = λ c o m apart there. stays_quiet.streams c o m (old.others c o m apart there);
        others_undone = λ c apart undone. done_same (history k.client before) (history k.client after) c stays_quiet.said ∙ old.others_undone c apart undone;
        calls_are = same_calls after None next settles;
      }

      idle_silent : flushed_since k.client before after ≡ []
      idle_silent = gone_out k.client before after [] old.rest stays_quiet.rest (stays_quiet.said ∙ sym (append-nil (items_sent (history k.client before))))

    -- WITH A TASK, which hears nothing of its session
    module _ {A : Type 0} (rules : Rules A) (wrap : A → Transfer) (P : A → Type 0) (places : ArePlaces x) (wrapped : IsWrapped rules wrap) (keeps : KeepsOn rules (moment_at x) P) (b : A) (holds : P b) (going : rules.end_of b ≡ None) where
      goes : GoesOn rules b
      goes = keeps.goes_on b holds going

      -- the time changes nothing, behind mail that does nothing
      all_quiet : ticked rules x.session (all_of (staying b)) (moment_at x) ≡ all_of (staying b)
      all_quiet = ap (λ step. record { after = step.after; sayings = [] ++ step.sayings; left = [] }) (wrapped.waits b (moment_at x) (keeps.awake b holds))

      unheard : heard_word x.session (stray_packet s).payload ≡ None
      unheard =
          ap (λ r. heard_in x.session r) (words_are_heard s.session (completion Okay) (omega (arith, stray.older, places.session)) tt).read
          ∙ rw (ne_eqb s.session x.session (λ same. omega (arith, same, stray.older))) refl

      taken : takes_all rules x.session b (Text (stray_packet s).payload ∷ []) (moment_at x) ≡ all_of (staying b)
      taken = rw (going, unheard) refl

      polls_so : (mail : List Mail) → takes_all rules x.session b mail (moment_at x) ≡ all_of (staying b) → polled rules x.session b mail (moment_at x) ≡ all_of (staying b)
      polls_so mail nothing =
          ap (λ step. behind step.sayings (ticked rules x.session (takes_all rules x.session step.after mail (moment_at x)) (moment_at x))) (goes (moment_at x)).0
          ∙ (ap (λ took. ticked rules x.session took (moment_at x)) nothing ∙ all_quiet)

      module _ (settles : ClientSettles k.client (moment_at x) (adding before input_seat (Arrive (stray_packet s))) (Some (tasked_with x (wrap b))) after next) where
        stays_so : (mail : List Mail) → takes_all rules x.session b mail (moment_at x) ≡ all_of (staying b)
            → IsPoll k.client (moment_at x) before (tasked_with x (wrap b)) x.client_opening old.memo [] mail after next → ClientWorked wrap k x before after next (staying b)
        stays_so mail nothing poll =
            client_worked wrap k x (moment_at x) before after next b mail (staying b) old
            (wrapped.polls x.session b mail (moment_at x) ∙ ap (λ (t : Taken A). wrap t.after) (polls_so mail nothing))
            (wrapped.says x.session b mail (moment_at x) ∙ ap (λ (t : Taken A). outs_of x.session t.sayings) (polls_so mail nothing))
            poll (same_calls after (Some (tasked_with x (wrap b))) next settles)

        may : MaySay k.client before x.at_client x.client_opening
        may = record { role = only.client; speaks = places.up; undone = old.undone }

        stays_under_way : ClientWorked wrap k x before after next (staying b)
        stays_under_way = at stray.call
          where
            at : (s.name ≡ x.client_opening.name) ⊎ IsBesideAtClient k x s.name → ClientWorked wrap k x before after next (staying b)
            at (inl named) =
                stays_so (Text (stray_packet s).payload ∷ []) taken
                (messages_are_polled k.client (moment_at x) before after (tasked_with x (wrap b)) next x.client_opening old.memo (stray_packet s) (comes_to_own named) may settles)
            at (inr beside) =
                stays_so [] refl
                (polled_beside k.client (moment_at x) before after (tasked_with x (wrap b)) next x.client_opening old.memo beside.call beside.opening beside.memo (stray_packet s) (comes_beside beside)
                beside.apart old.stream may settles)

-- THE TURN
module _ (k : Setup) (x : Places) (older : List Row) (only : OnlyDrops k) (big now : World) (stage : Option Stage) (s : Stray) (rest : List Passing) (n : ℕ)
    (st : StandsDropping k x older big stage [] (other s ∷ rest) n) (turn : Turn k big now) where
  sure : Heard k (moment_at x) big now (stray_packet s) (map (passing_packet x) rest)
  sure =
      one_heard k (moment_at x) big now (stray_packet s) (map (passing_packet x) rest) st.down.0.heard st.fed_client (ap (λ m. TURN_OF_TIME * m) st.kept.times)
      (first_down k big now (stray_packet s) (map (passing_packet x) rest) st.to_server st.to_client turn)

  abbrev v : World
  v = with_frame_at_client big (frame_of (stray_packet s)) (map frame_of (map (passing_packet x) rest))

  abbrev world : World
  world = record v { client = sure.after }

  turned : AtClient k x sure.after → flushed_since k.client big.client sure.after ≡ [] → under_with sure.next big.under ≡ big.under → StrayTurned k x older big now stage rest n
  turned client gone under = record {
    world = world;
    ends =
        sure.is
        ∙ (ap (λ (ps : List Packet). finished k (all_sent_by k Client ps (record (with_task sure.next v) { client = sure.after }))) gone
        ∙ ap (λ (u : Option Under). finished k (record world { under = u })) under);
    stands = record {
      server = st.server;
      sessions = st.sessions;
      client = client;
      to_server = st.to_server;
      to_client = ap {A = List (List ℕ)} {B = Link} (λ kept. record { frames = map frame_of (map (passing_packet x) rest); kept_back = kept }) (ap (λ (l : Link). l.kept_back) st.to_client);
      up = st.up;
      down = st.down.1;
      fed_server = st.fed_server;
      fed_client = closed_by_front Client big.fed_client (frame_of (stray_packet s)) (stray_packet s) st.down.0.heard refl;
      said_are = st.said_are;
      kept = record { coming = st.kept.coming; sessions = st.kept.sessions; times = st.kept.times };
    };
    under = refl;
    lines = refl;
    numbered = refl;
  }

  idle_settles : big.under ≡ None → ClientSettles k.client (moment_at x) (adding big.client input_seat (Arrive (stray_packet s))) None sure.after sure.next
  idle_settles none = subst (λ u. ClientSettles k.client (moment_at x) (adding big.client input_seat (Arrive (stray_packet s))) u sure.after sure.next) (ap task_under none) sure.settles

  idle_turned : big.under ≡ None → StrayTurned k x older big now stage rest n
  idle_turned none =
      turned (idle_client k x only big.client s st.client st.down.0 sure.after sure.next (idle_settles none)) (idle_silent k x only big.client s st.client st.down.0 sure.after sure.next (idle_settles none))
      (ap (λ (t : Option Tasked). under_with t big.under) (stays_quiet k x only big.client s st.client st.down.0 sure.after sure.next (idle_settles none)).none)

  module _ {A : Type 0} (rules : Rules A) (wrap : A → Transfer) (P : A → Type 0) (places : ArePlaces x) (wrapped : IsWrapped rules wrap) (keeps : KeepsOn rules (moment_at x) P) (b : A)
      (task : IsUnderWay x (wrap b) big) (holds : P b) (going : rules.end_of b ≡ None) where
    settles_with : ClientSettles k.client (moment_at x) (adding big.client input_seat (Arrive (stray_packet s))) (Some (tasked_with x (wrap b))) sure.after sure.next
    settles_with = subst (λ u. ClientSettles k.client (moment_at x) (adding big.client input_seat (Arrive (stray_packet s))) u sure.after sure.next) (ap task_under task.under) sure.settles

    works : ClientWorked wrap k x big.client sure.after sure.next (staying b)
    works = stays_under_way k x only big.client s st.client st.down.0 sure.after sure.next rules wrap P places wrapped keeps b holds going settles_with

    under_way_turned : StrayTurned k x older big now stage rest n
    under_way_turned =
        turned works.client works.gone
        (ap (λ (t : Option Tasked). under_with t big.under) works.next_is
        ∙ (ap (λ (u : Option Under). under_with (Some (tasked_with x (wrap b))) u) task.under ∙ sym task.under))

-- while a task is under way and goes on
pub stray_under_way : {A : Type 0} (rules : Rules A) (wrap : A → Transfer) (P : A → Type 0) (k : Setup) (x : Places) (older : List Row) → OnlyDrops k → ArePlaces x → IsWrapped rules wrap → KeepsOn rules (moment_at x) P
    → (big now : World) (stage : Option Stage) (b : A) (s : Stray) (rest : List Passing) (n : ℕ) → StandsDropping k x older big stage [] (other s ∷ rest) n → IsUnderWay x (wrap b) big → P b → rules.end_of b ≡ None
    → Turn k big now → StrayTurned k x older big now stage rest n
stray_under_way rules wrap P k x older only places wrapped keeps big now stage b s rest n st task holds going turn =
    under_way_turned k x older only big now stage s rest n st turn rules wrap P places wrapped keeps b task holds going

-- while none is
pub stray_idle : (k : Setup) (x : Places) (older : List Row) → OnlyDrops k → (big now : World) (stage : Option Stage) (s : Stray) (rest : List Passing) (n : ℕ)
    → StandsDropping k x older big stage [] (other s ∷ rest) n → big.under ≡ None → Turn k big now → StrayTurned k x older big now stage rest n
stray_idle k x older only big now stage s rest n st none turn = idle_turned k x older only big now stage s rest n st turn none
