-- A word is delivered to the client, whose task is polled with it.
use Rattle.std.proofs.Common.{◌≡◌, ℕ, ◌+◌, ◌*◌, ◌&&◌, List, [], ◌∷◌, ◌++◌, length, map, Option, Some, None, refl, ap, sym, ◌∙◌, subst}
use Rattle.std.specs.List.{AllByRecursion, list_any}
use Rattle.rpc_ids.specs.declared.method.Role.{Role}
use Rattle.rpc_ids.specs.declared.method.Role.TheVariants.{Server, Client}
use Rattle.rpc_packet.specs.declared.owned.Packet.{Packet}
use Rattle.rpc_packet.specs.declared.packet_type.PacketType.TheVariants.{ClientStream, ServerStream}
use Rattle.rpc_frames.specs.Written.{IsBetweenFrames, IsSendable}
use Rattle.rpc_handlers.specs.declared.answer.Out.{Out}
use Rattle.rpc_journal.specs.declared.entry.Entry.{Entry}
use Rattle.rpc_journal.specs.declared.entry.EntryKind.TheVariants.{Arrive}
use Rattle.rpc_journal.specs.declared.item.Item.{Item}
use Rattle.rpc_journal.specs.Entries.{out_item}
use Rattle.rpc_journal.specs.Calls.{calls}
use Rattle.rpc_journal.specs.Items.{is_for, items_sent, packets_of, sends_completion}
use Rattle.rpc_journal.specs.History.{adding, history}
use Rattle.rpc_schedule.specs.Schedule.{input_seat}
use Rattle.task_core.specs.declared.mail.Mail.{Mail}
use Rattle.task_core.specs.declared.mail.Mail.TheVariants.{Text}
use Rattle.transfer_words.specs.Word.{Word}
use Rattle.transfer_words.specs.Saying.{Stepped, outs_of}
use Rattle.transfer_client.specs.Hearing.{all_of}
use Rattle.transfer_client.specs.Machine.{Rules}
use Rattle.transfer_client.specs.Polling.{Taken, polled}
use Rattle.transfer_resume.specs.declared.stage.Stage.{Stage}
use Rattle.transfer_laws.proofs.words.Receivers.{AllFit}
use Rattle.transfer_laws.specs.pairs.Pair.{words_of}
use Rattle.history_laws.specs.rounds.Streams.{message_type}
use Rattle.link_script.specs.lossy.Link.{Link}
use Rattle.link_laws.specs.declared.world.limits.TheConstants.{TURN_OF_TIME}
use Rattle.link_laws.specs.world.Client.{ClientSettles, ClientTakes, transfer_polled, transfer_says}
use Rattle.link_laws.specs.world.Lines.{finished}
use Rattle.link_laws.specs.world.Sound.{AreSendable}
use Rattle.link_laws.specs.world.Turns.{ClientHears, Turn, TurnOf, kind_by, with_frame_at_client}
use Rattle.link_laws.specs.world.World.{task_of, task_under, under_with, with_task, Setup, Tasked, Transfer, Under, World, flushed_since, moment, packets_flushed, transferring, with_client}
use Rattle.link_laws.proofs.one_run.Parts.{client_keeps, closed_by_front, finished_client, flushed_later, heard_front}
use Rattle.link_laws.specs.rounds.Polls.{IsPoll}
use Rattle.link_laws.proofs.rounds.Polling.{messages_are_polled}
use Rattle.link_laws.proofs.transfers_fit.Names.{called_same, settles_same}
use Rattle.link_laws.specs.rounds.Carrying.{carrying}
use Rattle.link_laws.proofs.one_run.Links.{frame_of}
use Rattle.link_laws.specs.lossless_transfer.Shows.{AtClient, AtServer, GoesDown, IsUnderWay, Places, PairStands, down_packet, moment_at, tasked_with, up_packet}
use Rattle.link_laws.specs.lossless_transfer.Finishes.{IsSetFor}
use Rattle.link_laws.proofs.lossless_transfer.Flushing.{client_words, none_complete, undone_more}
use Rattle.link_laws.proofs.rounds.Carrying.{all_numbered, client_carries, gone_out}
use Rattle.link_laws.proofs.lossless_transfer.Machines.{IsWrapped, KeepsOn}
use Rattle.link_laws.proofs.lossless_transfer.Words.{said_more, words_up}

for_client : (role : Role) → role ≡ Client → ServerStream ≡ message_type role
for_client Client is = refl
for_client Server is = absurd cc

-- the oldest frame on the way to the client is that of this packet, and none is on the way to the server
pub first_down : (k : Setup) (big now : World) (p : Packet) (ps : List Packet) → big.to_server ≡ carrying [] → big.to_client ≡ carrying (p ∷ ps) → Turn k big now
    → ClientHears k big (frame_of p) (map frame_of ps) now
first_down k big now p ps none on turn =
    let no_up : TurnOf k big (kind_by [] big.to_client.frames big.under big.coming) now =
    subst (λ frames. TurnOf k big (kind_by frames big.to_client.frames big.under big.coming) now) (ap (λ (l : Link). l.frames) none) turn in
    subst (λ frames. TurnOf k big (kind_by [] frames big.under big.coming) now) (ap (λ (l : Link). l.frames) on) no_up

-- ONE PACKET ARRIVES, and the client does its work behind it
pub record Worked (k : Setup) (at : ℕ) (big now : World) (p : Packet) (ps : List Packet) (task : Tasked) : Type 0 where
  pub after : List Entry
  pub next : Option Tasked
  pub settles : ClientSettles k.client at (adding big.client input_seat (Arrive p)) (Some task) after next
  pub is : now ≡ finished k (with_client k (with_task next (with_frame_at_client big (frame_of p) (map frame_of ps))) after)

pub worked : (k : Setup) (at : ℕ) (big now : World) (p : Packet) (ps : List Packet) (task : Tasked) → IsSendable Client p → IsBetweenFrames big.fed_client → moment big ≡ at
    → big.under ≡ Some (transferring task) → ClientHears k big (frame_of p) (map frame_of ps) now → Worked k at big now p ps task
worked k at big now p ps task fits between time under t =
    let packets : t.hears.packets ≡ p ∷ [] = heard_front Client big.fed_client (frame_of p) p t.hears.packets fits between refl t.hears.heard in
    let first : ClientTakes k.client (moment big) (p ∷ []) big.client (task_of big) t.after t.task =
    subst (λ qs. ClientTakes k.client (moment big) qs big.client (task_of big) t.after t.task) packets t.hears.holds in
    let arrived : List Entry = adding big.client input_seat (Arrive p) in
    let a : ClientSettles k.client (moment big) arrived (task_of big) t.after first.1 = subst (λ h. ClientSettles k.client (moment big) arrived (task_of big) h first.1) (sym first.3.0) first.2 in
    let b : ClientSettles k.client (moment big) arrived (task_of big) t.after t.task = subst (λ u. ClientSettles k.client (moment big) arrived (task_of big) t.after u) (sym first.3.1) a in
    let c : ClientSettles k.client at arrived (task_of big) t.after t.task = subst (λ m. ClientSettles k.client m arrived (task_of big) t.after t.task) time b in
    record {
      after = t.after;
      next = t.task;
      settles = subst (λ u. ClientSettles k.client at arrived u t.after t.task) (ap task_under under) c;
      is = t.is;
    }

-- WHAT THE CLIENT DOES where its task makes this step: the task stands so, and its words go out
pub record ClientWorked {A : Type 0} (wrap : A → Transfer) (k : Setup) (x : Places) (before after : List Entry) (next : Option Tasked) (step : Stepped A) : Type 0 where
  pub client : AtClient k x after
  pub next_is : next ≡ Some (tasked_with x (wrap step.after))
  pub gone : flushed_since k.client before after ≡ map (up_packet x) (words_of step.sayings)

-- The task is polled, whatever becomes of what it says.
module _ {A : Type 0} (wrap : A → Transfer) (k : Setup) (x : Places) (at : ℕ) (before after : List Entry) (next : Option Tasked) (t : A) (mail : List Mail) (step : Stepped A) where
  module _ (old : AtClient k x before) (polls : transfer_polled x.session (wrap t) mail at ≡ wrap step.after) (says : transfer_says x.session (wrap t) mail at ≡ outs_of x.session step.sayings)
      (poll : IsPoll k.client at before (tasked_with x (wrap t)) x.client_opening old.memo [] mail after next) (calls_are : calls (history k.client after) ≡ x.client_calls) where
    pub client_worked : ClientWorked wrap k x before after next step
    client_worked = record {
      client = record {
        rest = poll.rest;
        memo = old.memo;
        stream = poll.stream;
        undone = poll.undone;
        others = λ other o m apart there. poll.others other o m apart (old.others other o m apart there);
        others_undone = λ other apart undone.
            ap (λ (items : List Item). list_any (λ item. is_for other item.call && sends_completion item.act) items) (poll.said ∙ ap (λ (outs : List Out). items_sent (history k.client before) ++ map (out_item Client x.at_client x.client_opening.name) outs) says)
            ∙ undone_more other (items_sent (history k.client before)) (map (out_item Client x.at_client x.client_opening.name) (outs_of x.session step.sayings)) (old.others_undone other apart undone)
            (none_complete other x.at_client x.session x.client_opening.name step.sayings);
        calls_are = calls_are;
      };
      next_is = poll.polled ∙ ap {A = Transfer} {B = Option Tasked} (λ tr. Some (tasked_with x tr)) polls;
      gone =
          gone_out k.client before after ([] ++ map (out_item Client x.at_client x.client_opening.name) (transfer_says x.session (wrap t) mail at)) old.rest poll.rest poll.said
          ∙ (ap (λ (outs : List Out). packets_of (map (out_item Client x.at_client x.client_opening.name) outs)) says ∙ client_words x.at_client x.session x.client_opening.name step.sayings);
    }

-- A word comes to the client, whatever becomes of what its task says.
module _ {A : Type 0} (rules : Rules A) (wrap : A → Transfer) (P : A → Type 0) (k : Setup) (x : Places) (set : IsSetFor k x) (wrapped : IsWrapped rules wrap) (keeps : KeepsOn rules (moment_at x) P)
    (before after : List Entry) (next : Option Tasked) (t : A) (c : Word) where
  abbrev heard : Stepped A
  heard = rules.hears t c (moment_at x)

  abbrev mail : List Mail
  mail = Text (down_packet x c).payload ∷ []

  -- it is mail of one poll, which does just what the word does
  pub client_hears : AtClient k x before → GoesDown x c → P t → rules.end_of t ≡ None
      → ClientSettles k.client (moment_at x) (adding before input_seat (Arrive (down_packet x c))) (Some (tasked_with x (wrap t))) after next
      → ClientWorked wrap k x before after next heard
  client_hears old goes holds going settles =
      client_worked wrap k x (moment_at x) before after next t mail heard old
      (wrapped.polls x.session t mail (moment_at x) ∙ ap (λ (s : Taken A). wrap s.after) heard_so)
      (wrapped.says x.session t mail (moment_at x) ∙ ap (λ (s : Taken A). outs_of x.session s.sayings) heard_so)
      (messages_are_polled k.client (moment_at x) before after (tasked_with x (wrap t)) next x.client_opening old.memo (down_packet x c)
      (record { rest = old.rest; stream = old.stream; named = sym set.places.named; type = for_client k.client.role set.lossless.client; endless = refl })
      (record { role = set.lossless.client; speaks = set.places.up; undone = old.undone }) settles)
      (settles_same k.client set.lossless.client (moment_at x) (adding before input_seat (Arrive (down_packet x c))) (Some (tasked_with x (wrap t))) after next settles
      ∙ (called_same k.client set.lossless.client before input_seat (Arrive (down_packet x c)) tt ∙ old.calls_are))
    where
      heard_so : polled rules x.session t mail (moment_at x) ≡ all_of heard
      heard_so =
          wrapped.hears x.session t c (moment_at x) set.places.session goes.fits goes.of_session (keeps.goes_on t holds going) (keeps.awake heard.after (keeps.hears t c holds).0)

module _ {A : Type 0} (rules : Rules A) (wrap : A → Transfer) (P : A → Type 0) (k : Setup) (x : Places) (set : IsSetFor k x) (wrapped : IsWrapped rules wrap) (keeps : KeepsOn rules (moment_at x) P)
    (big now : World) (stage : Option Stage) (t : A) (c : Word) (rest : List Word) (n : ℕ) where
  abbrev step : Stepped A
  step = rules.hears t c (moment_at x)

  abbrev told : List Word
  told = words_of step.sayings

  -- WHAT THE TURN LEADS TO, but for what the end of a turn does
  pub record ClientTurned : Type 0 where
    pub world : World
    pub ends : now ≡ finished k world
    pub stands : PairStands k x world stage told rest (n + length told)
    pub holds : P step.after
    pub task : IsUnderWay x (wrap step.after) world

  module _ (st : PairStands k x big stage [] (c ∷ rest) n) (task : IsUnderWay x (wrap t) big) (holds : P t) (going : rules.end_of t ≡ None) (turn : Turn k big now) (heard : AreSendable k now) where
    abbrev p : Packet
    p = down_packet x c

    abbrev speaks : Tasked
    speaks = tasked_with x (wrap t)

    sure : Worked k (moment_at x) big now p (map (down_packet x) rest) speaks
    sure =
        worked k (moment_at x) big now p (map (down_packet x) rest) speaks st.down.0.heard st.fed_client (ap (λ m. TURN_OF_TIME * m) st.kept.times) task.under
        (first_down k big now p (map (down_packet x) rest) st.to_server st.to_client turn)

    polled_so : ClientWorked wrap k x big.client sure.after sure.next step
    polled_so = client_hears rules wrap P k x set wrapped keeps big.client sure.after sure.next t c st.client st.down.0 holds going sure.settles

    does : P step.after × AllFit step.sayings
    does = keeps.hears t c holds

    abbrev v : World
    v = with_task sure.next (with_frame_at_client big (frame_of p) (map frame_of (map (down_packet x) rest)))

    abbrev world : World
    world = with_client k v sure.after

    new_heard : AllByRecursion (IsSendable Server) (map (up_packet x) told)
    new_heard =
        let client_is : now.client ≡ sure.after = ap (λ (z : World). z.client) sure.is ∙ (finished_client k world ∙ client_keeps k (λ z. z.client) (λ z q. refl) v sure.after) in
        subst (AllByRecursion (IsSendable Server)) polled_so.gone
        (flushed_later (IsSendable Server) k.client big.client sure.after (subst (λ h. AllByRecursion (IsSendable Server) (packets_flushed k.client h)) client_is heard.client))

    under_is : world.under ≡ Some (transferring (tasked_with x (wrap step.after)))
    under_is =
        client_keeps k (λ z. z.under) (λ z q. refl) v sure.after
        ∙ (ap (λ (o : Option Tasked). under_with o big.under) polled_so.next_is ∙ ap (λ (u : Option Under). under_with (Some (tasked_with x (wrap step.after))) u) task.under)

    pub client_turned : ClientTurned
    client_turned = record {
      world = world;
      ends = sure.is;
      stands = record {
        server = subst (λ h. AtServer k x h stage) (sym (client_keeps k (λ z. z.server) (λ z q. refl) v sure.after)) st.server;
        client = subst (AtClient k x) (sym (client_keeps k (λ z. z.client) (λ z q. refl) v sure.after)) polled_so.client;
        to_server =
            client_carries k set.lossless.losses (flushed_since k.client v.client sure.after) [] (record v { client = sure.after }) st.to_server
            ∙ ap carrying polled_so.gone;
        to_client =
            client_keeps k (λ z. z.to_client) (λ z q. refl) v sure.after
            ∙ ap {A = List (List ℕ)} {B = Link} (λ kept. record { frames = map frame_of (map (down_packet x) rest); kept_back = kept }) (ap (λ (l : Link). l.kept_back) st.to_client);
        up = words_up x step.sayings does.1 new_heard;
        down = st.down.1;
        fed_server = subst IsBetweenFrames (sym (client_keeps k (λ z. z.fed_server) (λ z q. refl) v sure.after)) st.fed_server;
        fed_client = subst IsBetweenFrames (sym (client_keeps k (λ z. z.fed_client) (λ z q. refl) v sure.after)) (closed_by_front Client big.fed_client (frame_of p) p st.down.0.heard refl);
        said_are =
            said_more x ClientStream x.client_opening.name step.sayings big.numbered world.numbered n refl does.1 st.said_are
            (all_numbered k Client (flushed_since k.client v.client sure.after) (record v { client = sure.after }) ∙ ap (λ (ps : List Packet). big.numbered ++ ps) polled_so.gone);
        kept = record {
          coming = client_keeps k (λ z. z.coming) (λ z q. refl) v sure.after ∙ st.kept.coming;
          sessions = client_keeps k (λ z. z.sessions) (λ z q. refl) v sure.after ∙ st.kept.sessions;
          times = client_keeps k (λ z. z.times) (λ z q. refl) v sure.after ∙ st.kept.times;
        };
      };
      holds = does.0;
      task = record { under = under_is; lines = client_keeps k (λ z. z.lines) (λ z q. refl) v sure.after ∙ task.lines };
    }
