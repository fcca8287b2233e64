-- A word is delivered to the server.
use Rattle.std.proofs.Common.{◌≡◌, ℕ, ◌+◌, List, [], ◌∷◌, ◌++◌, length, map, true, Option, IsTrue, refl, ap, sym, ◌∙◌, subst}
use Rattle.std.proofs.lemmas.List.{map-append}
use Rattle.std.specs.List.{AllByRecursion}
use Rattle.rpc_ids.specs.declared.method.Role.{Role}
use Rattle.rpc_ids.specs.declared.method.Role.TheVariants.{Server, Client}
use Rattle.rpc_packet.specs.declared.owned.Packet.{Packet}
use Rattle.rpc_packet.specs.declared.packet_type.PacketType.TheVariants.{ClientStream, ServerStream}
use Rattle.rpc_frames.specs.Written.{IsBetweenFrames, IsSendable}
use Rattle.rpc_handlers.specs.declared.answer.Answer.{Answer}
use Rattle.rpc_handlers.specs.declared.event.Event.{Event}
use Rattle.rpc_handlers.specs.declared.event.Event.TheVariants.{Message}
use Rattle.rpc_handlers.specs.declared.event.Memo.{Memo}
use Rattle.rpc_handlers.specs.HandlerRule.{HandlerRule}
use Rattle.rpc_journal.specs.declared.entry.Entry.{Entry}
use Rattle.rpc_journal.specs.declared.entry.EntryKind.TheVariants.{Arrive}
use Rattle.rpc_journal.specs.Calls.{calls}
use Rattle.rpc_journal.specs.History.{adding, history}
use Rattle.rpc_schedule.specs.Schedule.{Settles, input_seat}
use Rattle.transfer_words.specs.Word.{Word}
use Rattle.transfer_words.specs.Saying.{Stepped, outs_of}
use Rattle.transfer_words.specs.Spoken.{FitsChunk}
use Rattle.transfer_resume.specs.declared.stage.Stage.{Stage}
use Rattle.transfer_resume.specs.Hears.{session_hears}
use Rattle.demo_services.specs.DemoRule.{next}
use Rattle.demo_services.specs.Transfer.{giving}
use Rattle.transfer_laws.specs.pairs.Pair.{words_of}
use Rattle.history_laws.specs.rounds.Rounds.{ComesToStream, IsRound}
use Rattle.history_laws.specs.rounds.Streams.{items_of, message_type}
use Rattle.history_laws.proofs.rounds.RoundLemmas.{messages_settle}
use Rattle.history_laws.proofs.messages.Members.{all_join}
use Rattle.link_script.specs.lossy.Link.{Link}
use Rattle.link_laws.specs.world.Lines.{finished}
use Rattle.link_laws.specs.world.Sound.{AreSendable}
use Rattle.link_laws.specs.world.Turns.{ServerHears, Turn, TurnOf, kind_by, with_frame_at_server}
use Rattle.link_laws.specs.world.Hearing.{ServerTakes}
use Rattle.link_laws.specs.world.World.{Setup, World, flushed_since, packets_flushed, with_server}
use Rattle.link_laws.proofs.one_run.Parts.{closed_by_front, finished_server, flushed_later, heard_front, server_keeps}
use Rattle.link_laws.specs.rounds.Carrying.{carrying}
use Rattle.link_laws.proofs.one_run.Links.{frame_of}
use Rattle.link_laws.specs.lossless_transfer.Shows.{AtClient, AtServer, GoesDown, Places, ServesSession, PairStands, down_packet, up_packet}
use Rattle.link_laws.specs.lossless_transfer.Finishes.{IsSetFor}
use Rattle.link_laws.proofs.lossless_transfer.Flushing.{answer_words}
use Rattle.link_laws.proofs.rounds.Carrying.{all_numbered, gone_out, server_carries}
use Rattle.link_laws.proofs.lossless_transfer.Rounds.{message_calls}
use Rattle.link_laws.proofs.lossless_transfer.Serving.{Served, word_served}
use Rattle.link_laws.proofs.lossless_transfer.ServiceWords.{SessionFits, SessionSays, session_says}
use Rattle.link_laws.proofs.lossless_transfer.Words.{said_more, words_down}

for_server : (role : Role) → role ≡ Server → ClientStream ≡ message_type role
for_server Server is = refl
for_server Client is = absurd cc

-- the oldest frame on the way to the server is that of this packet
pub first_up : (k : Setup) (big now : World) (p : Packet) (ps : List Packet) → big.to_server ≡ carrying (p ∷ ps) → Turn k big now → ServerHears k big (frame_of p) (map frame_of ps) now
first_up k big now p ps on turn =
    subst (λ frames. TurnOf k big (kind_by frames big.to_client.frames big.under big.coming) now) (ap (λ (l : Link). l.frames) on) turn

-- ONE PACKET ARRIVES, and the server settles behind it
pub record Settled (k : Setup) (big now : World) (p : Packet) (ps : List Packet) : Type 0 where
  pub after : List Entry
  pub settles : Settles k.rule k.server (adding big.server input_seat (Arrive p)) after
  pub is : now ≡ finished k (with_server k (with_frame_at_server big (frame_of p) (map frame_of ps)) after)

pub settled : (k : Setup) (big now : World) (p : Packet) (ps : List Packet) → IsSendable Server p → big.to_server ≡ carrying (p ∷ ps)
    → IsBetweenFrames big.fed_server → ServerHears k big (frame_of p) (map frame_of ps) now → Settled k big now p ps
settled k big now p ps fits on between t =
    let packets : t.hears.packets ≡ p ∷ [] = heard_front Server big.fed_server (frame_of p) p t.hears.packets fits between refl t.hears.heard in
    let takes : ServerTakes k.rule k.server (p ∷ []) big.server t.after = subst (λ qs. ServerTakes k.rule k.server qs big.server t.after) packets t.hears.holds in
    record {
      after = t.after;
      settles = subst (λ h. Settles k.rule k.server (adding big.server input_seat (Arrive p)) h) (sym takes.2) takes.1;
      is = t.is;
    }

-- A word comes to the server, whatever becomes of what it says.
module _ (k : Setup) (x : Places) (set : IsSetFor k x) (before after : List Entry) (stage : Option Stage) (c : Word) where
  abbrev step : Stepped (Option Stage)
  step = session_hears x.service true stage c

  abbrev told : List Word
  told = words_of step.sayings

  abbrev p : Packet
  p = up_packet x c

  abbrev event : Event
  event = Message p.payload

  -- WHAT THE SERVER DOES WITH IT: the session moves, and its words go out
  pub record ServerWorked (old : AtServer k x before stage) : Type 0 where
    pub server : AtServer k x after step.after
    pub memo : server.memo ≡ k.rule.next old.memo event
    pub gone : flushed_since k.server before after ≡ map (down_packet x) told
    pub says : SessionSays step

  module _ (at : AtServer k x before stage) (spoken : FitsChunk c) (fits : SessionFits stage) (settles : Settles k.rule k.server (adding before input_seat (Arrive p)) after) where
    served : Served x at.memo stage c
    served = word_served x at.memo stage c set.places spoken at.serves

    answer_is : k.rule.answer at.memo event ≡ giving (outs_of x.session step.sayings)
    answer_is = ap (λ (r : HandlerRule). r.answer at.memo event) set.lossless.rule ∙ served.answers

    next_is : k.rule.next at.memo event ≡ next at.memo event
    next_is = ap (λ (r : HandlerRule). r.next at.memo event) set.lossless.rule

    ruled : IsTrue k.rule.ruled
    ruled = subst (λ (r : HandlerRule). IsTrue r.ruled) (sym set.lossless.rule) refl

    comes : ComesToStream k.rule k.server before x.at_server x.server_opening at.memo p
    comes = record {
      rest = at.rest;
      stream = at.stream;
      named = set.places.named;
      type = for_server k.server.role set.lossless.server;
      endless = ap (λ (a : Answer). a.end) answer_is;
    }

    round : IsRound k.rule k.server before p x.at_server x.server_opening at.memo event after
    round = messages_settle k.rule k.server before after x.at_server x.server_opening at.memo p ruled comes settles

    gone : flushed_since k.server before after ≡ map (down_packet x) told
    gone =
        gone_out k.server before after (items_of k.server (history k.server before) x.at_server x.server_opening (k.rule.answer at.memo event)) at.rest round.rest round.said
        ∙ answer_words k.server (history k.server before) x.at_server x.session x.server_opening step.sayings (k.rule.answer at.memo event) set.lossless.server set.places.down
        (ap (λ (a : Answer). a.items) answer_is)

    after_server : AtServer k x after step.after
    after_server = record {
      rest = round.rest;
      memo = k.rule.next at.memo event;
      stream = round.stream;
      serves = subst (λ (m : Memo). ServesSession x m step.after) (sym next_is) served.serves;
      others = λ other o m apart there. round.others other o m apart (at.others other o m apart there);
      calls_are =
          ap (λ (h : List Entry). calls (history k.server h)) round.entries
          ∙ (message_calls k.rule k.server before x.at_server x.server_opening at.memo p
          (length (items_of k.server (history k.server before) x.at_server x.server_opening (k.rule.answer at.memo event))) comes
          ∙ at.calls_are);
    }

    pub server_worked : ServerWorked at
    unfolding after_server
    server_worked = record { server = after_server; memo = refl; gone = gone; says = session_says x.service stage c set.window set.chunk fits }

module _ (k : Setup) (x : Places) (set : IsSetFor k x) (big now : World) (stage : Option Stage) (c : Word) (rest downs : List Word) (n : ℕ) where
  -- WHAT THE TURN LEADS TO, but for what the end of a turn does
  pub record ServerTurned : Type 0 where
    pub world : World
    pub ends : now ≡ finished k world
    pub stands : PairStands k x world (session_hears x.service true stage c).after rest (downs ++ words_of (session_hears x.service true stage c).sayings) (n + length (words_of (session_hears x.service true stage c).sayings))
    pub fits : SessionFits (session_hears x.service true stage c).after
    pub under : world.under ≡ big.under
    pub lines : world.lines ≡ big.lines

  module _ (st : PairStands k x big stage (c ∷ rest) downs n) (fits : SessionFits stage) (turn : Turn k big now) (heard : AreSendable k now) where
    sure : Settled k big now (up_packet x c) (map (up_packet x) rest)
    sure = settled k big now (up_packet x c) (map (up_packet x) rest) st.up.0.heard st.to_server st.fed_server (first_up k big now (up_packet x c) (map (up_packet x) rest) st.to_server turn)

    worked : ServerWorked k x set big.server sure.after stage c st.server
    worked = server_worked k x set big.server sure.after stage c st.server st.up.0.fits fits sure.settles

    abbrev new : List Word
    new = words_of (session_hears x.service true stage c).sayings

    abbrev v : World
    v = with_frame_at_server big (frame_of (up_packet x c)) (map frame_of (map (up_packet x) rest))

    abbrev world : World
    world = with_server k v sure.after

    new_heard : AllByRecursion (IsSendable Client) (map (down_packet x) new)
    new_heard =
        let server_is : now.server ≡ sure.after = ap (λ (z : World). z.server) sure.is ∙ (finished_server k world ∙ server_keeps k (λ z. z.server) (λ z q. refl) v sure.after) in
        subst (AllByRecursion (IsSendable Client)) worked.gone
        (flushed_later (IsSendable Client) k.server big.server sure.after (subst (λ h. AllByRecursion (IsSendable Client) (packets_flushed k.server h)) server_is heard.server))

    pub server_turned : ServerTurned
    server_turned = record {
      world = world;
      ends = sure.is;
      stands = record {
        server = subst (λ h. AtServer k x h (session_hears x.service true stage c).after) (sym (server_keeps k (λ z. z.server) (λ z q. refl) v sure.after)) worked.server;
        client = subst (AtClient k x) (sym (server_keeps k (λ z. z.client) (λ z q. refl) v sure.after)) st.client;
        to_server =
            server_keeps k (λ z. z.to_server) (λ z q. refl) v sure.after
            ∙ ap {A = List (List ℕ)} {B = Link} (λ kept. record { frames = map frame_of (map (up_packet x) rest); kept_back = kept }) (ap (λ (l : Link). l.kept_back) st.to_server);
        to_client =
            server_carries k set.lossless.losses (flushed_since k.server v.server sure.after) (map (down_packet x) downs) (record v { server = sure.after }) st.to_client
            ∙ ap carrying (ap (λ (ps : List Packet). map (down_packet x) downs ++ ps) worked.gone ∙ sym (map-append (down_packet x) downs new));
        up = st.up.1;
        down = all_join (GoesDown x) downs new st.down (words_down x (session_hears x.service true stage c).sayings worked.says.fits worked.says.no_starts new_heard);
        fed_server = subst IsBetweenFrames (sym (server_keeps k (λ z. z.fed_server) (λ z q. refl) v sure.after)) (closed_by_front Server big.fed_server (frame_of (up_packet x c)) (up_packet x c) st.up.0.heard refl);
        fed_client = subst IsBetweenFrames (sym (server_keeps k (λ z. z.fed_client) (λ z q. refl) v sure.after)) st.fed_client;
        said_are =
            said_more x ServerStream x.server_opening.name (session_hears x.service true stage c).sayings big.numbered world.numbered n set.places.named worked.says.fits st.said_are
            (all_numbered k Server (flushed_since k.server v.server sure.after) (record v { server = sure.after }) ∙ ap (λ (ps : List Packet). big.numbered ++ ps) worked.gone);
        kept = record {
          coming = server_keeps k (λ z. z.coming) (λ z q. refl) v sure.after ∙ st.kept.coming;
          sessions = server_keeps k (λ z. z.sessions) (λ z q. refl) v sure.after ∙ st.kept.sessions;
          times = server_keeps k (λ z. z.times) (λ z q. refl) v sure.after ∙ st.kept.times;
        };
      };
      fits = worked.says.after;
      under = server_keeps k (λ z. z.under) (λ z q. refl) v sure.after;
      lines = server_keeps k (λ z. z.lines) (λ z q. refl) v sure.after;
    }
