-- A word is delivered to the client, and what its task says goes out on a link that drops frames.
use Rattle.std.proofs.Common.{◌≡◌, ℕ, ◌+◌, ◌*◌, ◌<◌, ◌^◌, List, [], ◌∷◌, ◌++◌, length, map, Option, Some, None, refl, ap, sym, ◌∙◌, subst, arith}
use Rattle.std.specs.List.{AllByRecursion}
use Rattle.rpc_ids.specs.declared.method.Role.TheVariants.{Server, Client}
use Rattle.rpc_packet.specs.declared.owned.Packet.{Packet}
use Rattle.rpc_frames.specs.Written.{IsBetweenFrames, IsSendable}
use Rattle.transfer_base.specs.declared.limits.TheConstants.{TIMEOUT}
use Rattle.transfer_words.specs.Word.{Word}
use Rattle.transfer_words.specs.Spoken.{FitsChunk}
use Rattle.transfer_words.specs.Saying.{Stepped}
use Rattle.transfer_client.specs.Machine.{Rules}
use Rattle.transfer_resume.specs.declared.stage.Stage.{Stage}
use Rattle.transfer_resume.specs.Session.{Row}
use Rattle.demo_services.specs.Transfer.{transfer_memo}
use Rattle.transfer_laws.proofs.words.Receivers.{AllFit}
use Rattle.transfer_laws.specs.pairs.Pair.{words_of}
use Rattle.transfer_laws.specs.losses.Drops.{kept, missing}
use Rattle.link_script.specs.lossy.Link.{Link}
use Rattle.link_laws.specs.declared.world.limits.TheConstants.{TURN_OF_TIME}
use Rattle.link_laws.specs.world.Lines.{finished}
use Rattle.link_laws.specs.world.Sound.{AreSendable}
use Rattle.link_laws.specs.world.Turns.{Turn, with_frame_at_client}
use Rattle.link_laws.specs.world.World.{under_with, with_task, Setup, Tasked, Transfer, Under, World, all_sent_by, flushed_since, packets_flushed, transferring, with_client}
use Rattle.link_laws.proofs.one_run.Links.{frame_of}
use Rattle.link_laws.proofs.one_run.Parts.{client_keeps, closed_by_front, finished_client, flushed_later}
use Rattle.link_laws.specs.rounds.Carrying.{carrying}
use Rattle.link_laws.proofs.rounds.Carrying.{all_numbered}
use Rattle.link_laws.specs.lossless_transfer.Finishes.{IsSetFor, RunsOut}
use Rattle.link_laws.specs.lossless_transfer.Shows.{AtClient, AtServer, GoesUp, IsUnderWay, Places, down_packet, moment_at, tasked_with, up_packet}
use Rattle.link_laws.proofs.lossless_transfer.Chain.{heard_in}
use Rattle.link_laws.proofs.lossless_transfer.ClientTurns.{ClientWorked, Worked, client_hears, first_down, worked}
use Rattle.link_laws.proofs.lossless_transfer.Machines.{IsWrapped, KeepsOn}
use Rattle.link_laws.proofs.lossless_transfer.Words.{words_up}
use Rattle.link_laws.specs.dropped_transfer.Dropped.{is_dropped, loses}
use Rattle.link_laws.specs.dropped_transfer.Passing.{Passing, own, passing_packet}
use Rattle.link_laws.specs.dropped_transfer.Sessions.{IsSetForDrops, book_with}
use Rattle.link_laws.specs.dropped_transfer.Shows.{HasNumbered, StandsDropping}
use Rattle.link_laws.proofs.dropped_transfer.Ends.{calm, calm_set, of_calm_client, to_calm_client}
use Rattle.link_laws.proofs.dropped_transfer.Links.{client_sends, going_on, kept_all, undamaged}
use Rattle.link_laws.proofs.dropped_transfer.Numbers.{IsLostNow, grown_from, lost_up, numbered_more_up, words_fit, words_kept_up}

module _ {A : Type 0} (rules : Rules A) (wrap : A → Transfer) (P : A → Type 0) (k : Setup) (x : Places) (older : List Row) (set : IsSetForDrops k x older) (early : moment_at x + TIMEOUT < 2 ^ 63) (wrapped : IsWrapped rules wrap) (keeps : KeepsOn rules (moment_at x) P)
    (big now far : World) (stage : Option Stage) (t : A) (c : Word) (rest : List Passing) (n : ℕ) where
  abbrev heard_step : Stepped A
  heard_step = rules.hears t c (moment_at x)

  abbrev told : List Word
  told = words_of heard_step.sayings

  abbrev going : List Word
  going = kept (loses k x.session far) n told

  -- WHAT THE TURN LEADS TO, but for what the end of a turn does
  pub record ClientTurned : Type 0 where
    pub world : World
    pub ends : now ≡ finished k world
    pub stands : StandsDropping k x older world stage going rest (n + length told)
    pub holds : P heard_step.after
    pub task : IsUnderWay x (wrap heard_step.after) world
    pub numbered : world.numbered ≡ big.numbered ++ map (up_packet x) told
    pub lost : AllByRecursion (IsLostNow k x (length big.numbered) (moment_at x) world) (missing (loses k x.session far) (moment_at x) n told)

  module _ (st : StandsDropping k x older big stage [] (own c ∷ rest) n) (task : IsUnderWay x (wrap t) big) (holds : P t) (unended : rules.end_of t ≡ None) (turn : Turn k big now) (run : RunsOut k now far) where
    ready : IsSetFor (calm k) x
    ready = calm_set k x older set early

    heard : AreSendable k now
    heard = heard_in k (undamaged k.losses set.only.drops) now far run

    sure : Worked k (moment_at x) big now (down_packet x c) (map (passing_packet x) rest) (tasked_with x (wrap t))
    sure =
        worked k (moment_at x) big now (down_packet x c) (map (passing_packet x) rest) (tasked_with x (wrap t)) st.down.0.heard st.fed_client (ap (λ m. TURN_OF_TIME * m) st.kept.times) task.under
        (first_down k big now (down_packet x c) (map (passing_packet x) rest) st.to_server st.to_client turn)

    polled_so : ClientWorked wrap (calm k) x big.client sure.after sure.next heard_step
    polled_so =
        client_hears rules wrap P (calm k) x ready wrapped keeps big.client sure.after sure.next t c (to_calm_client k x big.client st.client) st.down.0 holds unended sure.settles

    does : P heard_step.after × AllFit heard_step.sayings
    does = keeps.hears t c holds

    abbrev v : World
    v = with_task sure.next (with_frame_at_client big (frame_of (down_packet x c)) (map frame_of (map (passing_packet x) rest)))

    abbrev world : World
    world = with_client k v sure.after

    told_fit : AllByRecursion FitsChunk told
    told_fit = words_fit heard_step.sayings does.1

    numbered : world.numbered ≡ big.numbered ++ map (up_packet x) told
    numbered = all_numbered k Client (flushed_since k.client v.client sure.after) (record v { client = sure.after }) ∙ ap (λ (ps : List Packet). big.numbered ++ ps) polled_so.gone

    grown : (more : List Packet) × (far.numbered ≡ world.numbered ++ more)
    grown = grown_from k now world far sure.is run

    goes_on : going_on (is_dropped k) (length big.numbered) told ≡ going
    goes_on =
        words_kept_up k x far big.numbered grown.0 told n set.places.session (grown.1 ∙ ap (λ (ps : List Packet). ps ++ grown.0) numbered) st.said_are set.service_is told_fit

    new_heard : AllByRecursion (IsSendable Server) (map (up_packet x) told)
    new_heard =
        let client_is : now.client ≡ sure.after = ap (λ (z : World). z.client) sure.is ∙ (finished_client k world ∙ client_keeps k (λ z. z.client) (λ z q. refl) v sure.after) in
        subst (AllByRecursion (IsSendable Server)) polled_so.gone
        (flushed_later (IsSendable Server) k.client big.client sure.after (subst (λ h. AllByRecursion (IsSendable Server) (packets_flushed k.client h)) client_is heard.client))

    under_is : world.under ≡ Some (transferring (tasked_with x (wrap heard_step.after)))
    under_is =
        client_keeps k (λ z. z.under) (λ z q. refl) v sure.after
        ∙ (ap (λ (o : Option Tasked). under_with o big.under) polled_so.next_is ∙ ap (λ (u : Option Under). under_with (Some (tasked_with x (wrap heard_step.after))) u) task.under)

    at_server : (there : AtServer k x world.server stage) × (there.memo ≡ transfer_memo (book_with x older stage))
    at_server =
        subst (λ h. (there : AtServer k x h stage) × (there.memo ≡ transfer_memo (book_with x older stage))) (sym (client_keeps k (λ z. z.server) (λ z q. refl) v sure.after)) (st.server, st.sessions)

    gone_up : world.to_server ≡ carrying (map (up_packet x) going)
    gone_up =
        ap (λ (ps : List Packet). (all_sent_by k Client ps (record v { client = sure.after })).to_server) polled_so.gone
        ∙ (client_sends k set.only.drops (up_packet x) told [] (record v { client = sure.after }) st.to_server ∙ ap (λ (ws : List Word). carrying (map (up_packet x) ws)) goes_on)

    pub client_turned : ClientTurned
    client_turned = record {
      world = world;
      ends = sure.is;
      stands = record {
        server = at_server.0;
        sessions = at_server.1;
        client = subst (AtClient k x) (sym (client_keeps k (λ z. z.client) (λ z q. refl) v sure.after)) (of_calm_client k x sure.after polled_so.client);
        to_server = gone_up;
        to_client =
            client_keeps k (λ z. z.to_client) (λ z q. refl) v sure.after
            ∙ ap {A = List (List ℕ)} {B = Link} (λ kept. record { frames = map frame_of (map (passing_packet x) rest); kept_back = kept }) (ap (λ (l : Link). l.kept_back) st.to_client);
        up = kept_all (GoesUp x) (loses k x.session far) told n (words_up x heard_step.sayings does.1 new_heard);
        down = st.down.1;
        fed_server = subst IsBetweenFrames (sym (client_keeps k (λ z. z.fed_server) (λ z q. refl) v sure.after)) st.fed_server;
        fed_client = subst IsBetweenFrames (sym (client_keeps k (λ z. z.fed_client) (λ z q. refl) v sure.after)) (closed_by_front Client big.fed_client (frame_of (down_packet x c)) (down_packet x c) st.down.0.heard refl);
        said_are = subst (λ ps. HasNumbered x.session ps (n + length told)) (sym numbered) (numbered_more_up k x big.numbered told n set.places.session set.service_is told_fit st.said_are);
        kept = record {
          coming = client_keeps k (λ z. z.coming) (λ z q. refl) v sure.after ∙ st.kept.coming;
          sessions = client_keeps k (λ z. z.sessions) (λ z q. refl) v sure.after ∙ st.kept.sessions;
          times = client_keeps k (λ z. z.times) (λ z q. refl) v sure.after ∙ st.kept.times;
        };
      };
      holds = does.0;
      task = record { under = under_is; lines = client_keeps k (λ z. z.lines) (λ z q. refl) v sure.after ∙ task.lines };
      numbered = numbered;
      lost = lost_up k x world far big.numbered grown.0 told (length big.numbered) (moment_at x) n (omega arith) set.places.session numbered grown.1 st.said_are set.service_is told_fit;
    }
