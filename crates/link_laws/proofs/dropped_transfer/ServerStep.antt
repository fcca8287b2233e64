-- A word is delivered to the server, and what it says goes out on a link that drops frames.
use Rattle.std.proofs.Common.{◌≡◌, ℕ, ◌+◌, ◌<◌, ◌^◌, List, [], ◌∷◌, ◌++◌, length, map, true, Option, refl, ap, sym, ◌∙◌, subst, arith}
use Rattle.std.proofs.lemmas.List.{map-append}
use Rattle.std.specs.List.{AllByRecursion}
use Rattle.rpc_ids.specs.declared.method.Role.TheVariants.{Server, Client}
use Rattle.rpc_packet.specs.declared.owned.Packet.{Packet}
use Rattle.rpc_frames.specs.Written.{IsBetweenFrames, IsSendable}
use Rattle.rpc_handlers.specs.declared.event.Event.TheVariants.{Message}
use Rattle.rpc_handlers.specs.HandlerRule.{HandlerRule}
use Rattle.transfer_base.specs.declared.limits.TheConstants.{TIMEOUT}
use Rattle.transfer_words.specs.Word.{Word}
use Rattle.transfer_words.specs.Spoken.{FitsChunk, text_in}
use Rattle.transfer_words.specs.Saying.{Stepped}
use Rattle.transfer_resume.specs.declared.stage.Stage.{Stage}
use Rattle.transfer_resume.specs.Session.{Row}
use Rattle.transfer_resume.specs.Hears.{session_hears}
use Rattle.demo_services.specs.Transfer.{transfer_memo}
use Rattle.history_laws.proofs.messages.Members.{all_join}
use Rattle.transfer_laws.specs.pairs.Pair.{words_of}
use Rattle.transfer_laws.specs.losses.Drops.{kept, missing}
use Rattle.link_script.specs.lossy.Link.{Link}
use Rattle.link_laws.specs.world.Lines.{finished}
use Rattle.link_laws.specs.world.Sound.{AreSendable}
use Rattle.link_laws.specs.world.Turns.{Turn, with_frame_at_server}
use Rattle.link_laws.specs.world.World.{Setup, World, all_sent_by, flushed_since, packets_flushed, with_server}
use Rattle.link_laws.proofs.one_run.Links.{frame_of}
use Rattle.link_laws.proofs.one_run.Parts.{closed_by_front, finished_server, flushed_later, server_keeps}
use Rattle.link_laws.specs.rounds.Carrying.{carrying}
use Rattle.link_laws.proofs.rounds.Carrying.{all_numbered}
use Rattle.link_laws.specs.lossless_transfer.Finishes.{IsSetFor, RunsOut}
use Rattle.link_laws.specs.lossless_transfer.Shows.{AtClient, AtServer, GoesDown, Places, down_packet, moment_at, up_packet}
use Rattle.link_laws.proofs.lossless_transfer.Chain.{heard_in}
use Rattle.link_laws.proofs.lossless_transfer.ServerTurns.{ServerWorked, Settled, first_up, server_worked, settled}
use Rattle.link_laws.proofs.lossless_transfer.ServiceWords.{SessionFits}
use Rattle.link_laws.proofs.lossless_transfer.Words.{words_down}
use Rattle.link_laws.specs.dropped_transfer.Dropped.{is_dropped, loses}
use Rattle.link_laws.specs.dropped_transfer.Passing.{PassDown, PassesDown, Passing, own, passing_packet}
use Rattle.link_laws.specs.dropped_transfer.Sessions.{IsSetForDrops, book_with}
use Rattle.link_laws.specs.dropped_transfer.Shows.{HasNumbered, StandsDropping}
use Rattle.link_laws.proofs.dropped_transfer.Books.{word_memo}
use Rattle.link_laws.proofs.dropped_transfer.Ends.{calm, calm_set, of_calm_server, to_calm_server}
use Rattle.link_laws.proofs.dropped_transfer.Links.{going_on, kept_all, server_sends, undamaged}
use Rattle.link_laws.proofs.dropped_transfer.Numbers.{IsLostNow, grown_from, lost_down_alone, numbered_more_down, own_packets, words_fit, words_kept_down}

-- words of the transfer that pass
pub own_pass : (k : Setup) (x : Places) (ws : List Word) → AllByRecursion (GoesDown x) ws → PassDown k x (map own ws)
own_pass k x [] all = tt
own_pass k x (w ∷ ws) all = (all.0, own_pass k x ws all.1)

module _ (k : Setup) (x : Places) (older : List Row) (set : IsSetForDrops k x older) (early : moment_at x + TIMEOUT < 2 ^ 63) (big now far : World) (stage : Option Stage) (c : Word) (rest : List Word) (downs : List Passing) (n : ℕ) where
  abbrev step : Stepped (Option Stage)
  step = session_hears x.service true stage c

  abbrev after : Option Stage
  after = step.after

  abbrev told : List Word
  told = words_of step.sayings

  abbrev going : List Word
  going = kept (loses k x.session far) n told

  -- WHAT THE TURN LEADS TO, but for what the end of a turn does
  pub record ServerTurned : Type 0 where
    pub world : World
    pub ends : now ≡ finished k world
    pub stands : StandsDropping k x older world after rest (downs ++ map own going) (n + length told)
    pub fits : SessionFits after
    pub under : world.under ≡ big.under
    pub lines : world.lines ≡ big.lines
    pub numbered : world.numbered ≡ big.numbered ++ map (down_packet x) told
    pub lost : AllByRecursion (IsLostNow k x (length big.numbered) (moment_at x) world) (missing (loses k x.session far) (moment_at x) n told)

  module _ (st : StandsDropping k x older big stage (c ∷ rest) downs n) (fits : SessionFits stage) (turn : Turn k big now) (run : RunsOut k now far) where
    ready : IsSetFor (calm k) x
    ready = calm_set k x older set early

    heard : AreSendable k now
    heard = heard_in k (undamaged k.losses set.only.drops) now far run

    sure : Settled k big now (up_packet x c) (map (up_packet x) rest)
    sure = settled k big now (up_packet x c) (map (up_packet x) rest) st.up.0.heard st.to_server st.fed_server (first_up k big now (up_packet x c) (map (up_packet x) rest) st.to_server turn)

    worked : ServerWorked (calm k) x ready big.server sure.after stage c (to_calm_server k x big.server stage st.server)
    worked = server_worked (calm k) x ready big.server sure.after stage c (to_calm_server k x big.server stage st.server) st.up.0.fits fits sure.settles

    abbrev v : World
    v = with_frame_at_server big (frame_of (up_packet x c)) (map frame_of (map (up_packet x) rest))

    abbrev world : World
    world = with_server k v sure.after

    told_fit : AllByRecursion FitsChunk told
    told_fit = words_fit step.sayings worked.says.fits

    numbered : world.numbered ≡ big.numbered ++ map (down_packet x) told
    numbered = all_numbered k Server (flushed_since k.server v.server sure.after) (record v { server = sure.after }) ∙ ap (λ (ps : List Packet). big.numbered ++ ps) worked.gone

    grown : (more : List Packet) × (far.numbered ≡ world.numbered ++ more)
    grown = grown_from k now world far sure.is run

    goes_on : going_on (is_dropped k) (length big.numbered) told ≡ going
    goes_on =
        words_kept_down k x far big.numbered grown.0 told n set.places (grown.1 ∙ ap (λ (ps : List Packet). ps ++ grown.0) numbered) st.said_are set.service_is told_fit

    new_heard : AllByRecursion (IsSendable Client) (map (down_packet x) told)
    new_heard =
        let server_is : now.server ≡ sure.after = ap (λ (z : World). z.server) sure.is ∙ (finished_server k world ∙ server_keeps k (λ z. z.server) (λ z q. refl) v sure.after) in
        subst (AllByRecursion (IsSendable Client)) worked.gone
        (flushed_later (IsSendable Client) k.server big.server sure.after (subst (λ h. AllByRecursion (IsSendable Client) (packets_flushed k.server h)) server_is heard.server))

    moved : k.rule.next st.server.memo (Message (text_in x.session c)) ≡ transfer_memo (book_with x older after)
    moved =
        ap (λ (r : HandlerRule). r.next st.server.memo (Message (text_in x.session c))) set.only.rule
        ∙ word_memo x older set.places set.older_are st.server.memo stage c st.up.0.fits st.sessions

    -- the server stands so
    at_server : (there : AtServer k x world.server after) × (there.memo ≡ transfer_memo (book_with x older after))
    at_server =
        let there = of_calm_server k x sure.after after worked.server in
        subst (λ h. (there : AtServer k x h after) × (there.memo ≡ transfer_memo (book_with x older after))) (sym (server_keeps k (λ z. z.server) (λ z q. refl) v sure.after)) (there.0, there.1 ∙ (worked.memo ∙ moved))

    gone_down : world.to_client ≡ carrying (map (passing_packet x) (downs ++ map own going))
    gone_down =
        ap (λ (ps : List Packet). (all_sent_by k Server ps (record v { server = sure.after })).to_client) worked.gone
        ∙ (server_sends k set.only.drops (down_packet x) told (map (passing_packet x) downs) (record v { server = sure.after }) st.to_client
        ∙ (ap (λ (ws : List Word). carrying (map (passing_packet x) downs ++ map (down_packet x) ws)) goes_on
        ∙ (ap (λ (ps : List Packet). carrying (map (passing_packet x) downs ++ ps)) (sym (own_packets x going))
        ∙ ap carrying (sym (map-append (passing_packet x) downs (map own going))))))

    pub server_turned : ServerTurned
    server_turned = record {
      world = world;
      ends = sure.is;
      stands = record {
        server = at_server.0;
        sessions = at_server.1;
        client = subst (AtClient k x) (sym (server_keeps k (λ z. z.client) (λ z q. refl) v sure.after)) st.client;
        to_server =
            server_keeps k (λ z. z.to_server) (λ z q. refl) v sure.after
            ∙ ap {A = List (List ℕ)} {B = Link} (λ kept. record { frames = map frame_of (map (up_packet x) rest); kept_back = kept }) (ap (λ (l : Link). l.kept_back) st.to_server);
        to_client = gone_down;
        up = st.up.1;
        down = all_join (PassesDown k x) downs (map own going) st.down
            (own_pass k x going (kept_all (GoesDown x) (loses k x.session far) told n (words_down x step.sayings worked.says.fits worked.says.no_starts new_heard)));
        fed_server = subst IsBetweenFrames (sym (server_keeps k (λ z. z.fed_server) (λ z q. refl) v sure.after)) (closed_by_front Server big.fed_server (frame_of (up_packet x c)) (up_packet x c) st.up.0.heard refl);
        fed_client = subst IsBetweenFrames (sym (server_keeps k (λ z. z.fed_client) (λ z q. refl) v sure.after)) st.fed_client;
        said_are = subst (λ ps. HasNumbered x.session ps (n + length told)) (sym numbered) (numbered_more_down k x big.numbered told n set.places set.service_is told_fit st.said_are);
        kept = record {
          coming = server_keeps k (λ z. z.coming) (λ z q. refl) v sure.after ∙ st.kept.coming;
          sessions = server_keeps k (λ z. z.sessions) (λ z q. refl) v sure.after ∙ st.kept.sessions;
          times = server_keeps k (λ z. z.times) (λ z q. refl) v sure.after ∙ st.kept.times;
        };
      };
      fits = worked.says.after;
      under = server_keeps k (λ z. z.under) (λ z q. refl) v sure.after;
      lines = server_keeps k (λ z. z.lines) (λ z q. refl) v sure.after;
      numbered = numbered;
      lost = lost_down_alone k x world far big.numbered grown.0 told (length big.numbered) (moment_at x) n (omega arith) set.places numbered grown.1 st.said_are set.service_is told_fit;
    }
