-- Time passes: the client's task is polled at the later moment, the server is told of it, and what both say goes out on links
-- that drop frames.
use Rattle.std.proofs.Common.{◌≡◌, ℕ, ◌+◌, ◌*◌, ◌<◌, ◌≤◌, ◌^◌, Bool, List, [], ◌∷◌, ◌++◌, length, map, Option, Some, None, refl, ap, sym, ◌∙◌, subst, arith, append_assoc, length-append}
use Rattle.std.specs.List.{AllByRecursion}
use Rattle.rpc_ids.specs.declared.method.Role.TheVariants.{Server, Client}
use Rattle.rpc_packet.specs.declared.owned.Packet.{Packet}
use Rattle.rpc_frames.specs.Written.{IsBetweenFrames, IsSendable}
use Rattle.rpc_journal.specs.declared.entry.Entry.{Entry}
use Rattle.rpc_journal.specs.declared.entry.EntryKind.TheVariants.{Tick}
use Rattle.rpc_journal.specs.History.{adding}
use Rattle.rpc_schedule.specs.Schedule.{Settles, flush_seat}
use Rattle.transfer_base.specs.declared.limits.TheConstants.{MAX_CHUNK, MAX_WINDOW, TIMEOUT}
use Rattle.transfer_words.specs.Spoken.{FitsChunk}
use Rattle.transfer_words.specs.Word.{Word}
use Rattle.transfer_words.specs.Saying.{Stepped, outs_of}
use Rattle.transfer_client.specs.Machine.{Rules}
use Rattle.transfer_client.specs.Polling.{Taken, polled}
use Rattle.transfer_client.specs.Hearing.{all_of}
use Rattle.transfer_resume.specs.declared.stage.Stage.{Stage}
use Rattle.transfer_resume.specs.Session.{Row}
use Rattle.demo_services.specs.Transfer.{transfer_memo}
use Rattle.history_laws.proofs.messages.Members.{all_weaken}
use Rattle.transfer_laws.proofs.words.Receivers.{AllFit}
use Rattle.transfer_laws.proofs.words.ServiceFits.{ticks_done}
use Rattle.transfer_laws.specs.pairs.Pair.{words_of}
use Rattle.transfer_laws.specs.losses.Drops.{kept, missing, session_ticks}
use Rattle.link_script.specs.lossy.Link.{Link}
use Rattle.link_laws.specs.declared.world.limits.TheConstants.{TURN_OF_TIME}
use Rattle.link_laws.specs.world.Client.{ClientSettles}
use Rattle.link_laws.specs.world.Lines.{finished}
use Rattle.link_laws.specs.world.Sound.{AreSendable}
use Rattle.link_laws.specs.world.Turns.{TimePasses, Turn, TurnOf, kind_by, later}
use Rattle.link_laws.specs.world.World.{task_under, under_with, with_task, Setup, Tasked, Transfer, Under, World, all_sent_by, flushed_since, moment, packets_flushed, transferring, with_client, with_server}
use Rattle.link_laws.proofs.one_run.Parts.{client_keeps, finished_client, finished_server, flushed_later, server_keeps}
use Rattle.link_laws.specs.rounds.Carrying.{carrying}
use Rattle.link_laws.proofs.rounds.Carrying.{all_numbered}
use Rattle.link_laws.proofs.rounds.Polling.{tasks_begin}
use Rattle.link_laws.proofs.transfers_fit.Names.{settles_same}
use Rattle.link_laws.specs.lossless_transfer.Finishes.{RunsOut}
use Rattle.link_laws.specs.lossless_transfer.Shows.{AtClient, AtServer, GoesDown, GoesUp, IsUnderWay, Places, down_packet, moment_at, tasked_with, up_packet}
use Rattle.link_laws.proofs.lossless_transfer.Chain.{heard_in}
use Rattle.link_laws.proofs.lossless_transfer.ClientTurns.{ClientWorked, client_worked}
use Rattle.link_laws.proofs.lossless_transfer.LateSteps.{polls_late}
use Rattle.link_laws.proofs.lossless_transfer.Machines.{IsWrapped, KeepsOn}
use Rattle.link_laws.proofs.lossless_transfer.ServiceWords.{SessionFits}
use Rattle.link_laws.proofs.lossless_transfer.Words.{words_down, words_up}
use Rattle.link_laws.specs.dropped_transfer.Dropped.{is_dropped, loses}
use Rattle.link_laws.specs.dropped_transfer.Passing.{IsFromOlder, MayPass, PassDown, PassesDown, Passing, own, other, own_words, passing_packet}
use Rattle.link_laws.specs.dropped_transfer.Sessions.{IsSetForDrops, at_turn, book_with, ticked_rows}
use Rattle.link_laws.specs.dropped_transfer.Shows.{HasNumbered, StandsDropping}
use Rattle.link_laws.proofs.dropped_transfer.Ends.{call_later, client_later}
use Rattle.link_laws.proofs.dropped_transfer.Few.{session_little}
use Rattle.link_laws.proofs.dropped_transfer.Links.{client_sends, going_on, going_on_all, server_sends, undamaged}
use Rattle.link_laws.proofs.dropped_transfer.Numbers.{IsLostNow, all_lost_now, grown_from, lost_down, lost_up, numbered_more, numbered_more_up, words_kept, words_kept_up}
use Rattle.link_laws.proofs.dropped_transfer.TickStep.{ServerTicked, server_ticked}

-- A task that stood so at one moment stands so at the next, once it has looked at the time, and what it says fits.
pub record KeepsTime {A : Type 0} (rules : Rules A) (P : ℕ → A → Type 0) : Type 0 where
  pub keeps : (now : ℕ) → KeepsOn rules now (P now)
  pub early : (now : ℕ) (t : A) → P now t → now + TIMEOUT < 2 ^ 63
  pub ticks : (now : ℕ) (t : A) → P now t → now + TIMEOUT + TIMEOUT < 2 ^ 63
      → P (now + TIMEOUT) (rules.ticks t (now + TIMEOUT)).after × AllFit (rules.ticks t (now + TIMEOUT)).sayings

-- no frame is on its way, and a transfer is under way
time_next : (k : Setup) (big now : World) (t : Tasked) → big.to_server ≡ carrying [] → big.to_client ≡ carrying [] → big.under ≡ Some (transferring t) → Turn k big now → TimePasses k big now
time_next k big now t none_up none_down under turn =
    subst (λ (u : Option Under). TurnOf k big (kind_by [] [] u big.coming) now) under
    (subst (λ (l : Link). TurnOf k big (kind_by [] l.frames big.under big.coming) now) none_down
    (subst (λ (l : Link). TurnOf k big (kind_by l.frames big.to_client.frames big.under big.coming) now) none_up turn))

session_fits : (x : Places) (stage : Option Stage) (t : ℕ) → x.service.window ≤ MAX_WINDOW → x.service.chunk ≤ MAX_CHUNK → SessionFits stage
    → SessionFits (session_ticks x.service.side t stage).after × AllFit (session_ticks x.service.side t stage).sayings
session_fits x None t wide long fits = (tt, tt)
session_fits x (Some stage) t wide long fits = ticks_done x.service.side x.service.shelf x.service.window x.service.chunk wide long t stage fits

-- what passes to the client is the transfer's own, or of an older session
module _ (k : Setup) (x : Places) where
  own_heard : (S : Packet → Type 0) (ps : List Passing) → AllByRecursion S (map (passing_packet x) ps) → AllByRecursion S (map (down_packet x) (own_words ps))
  own_heard S [] all = tt
  own_heard S (own w ∷ ps) all = (all.0, own_heard S ps all.1)
  own_heard S (other s ∷ ps) all = own_heard S ps all.1

  may_pass : (ps : List Passing) → AllByRecursion (GoesDown x) (own_words ps) → AllByRecursion (IsFromOlder k x) ps → AllByRecursion (MayPass k x) ps
  may_pass [] goes older = tt
  may_pass (own w ∷ ps) goes older = (goes.0.fits, may_pass ps goes.1 older.1)
  may_pass (other s ∷ ps) goes older = (older.0, may_pass ps goes older.1)

  -- it is the same later on
  module _ (time times : ℕ) (server : List Entry) where
    packets_later : (ps : List Passing) → map (passing_packet (at_turn x time times server)) ps ≡ map (passing_packet x) ps
    packets_later [] = refl
    packets_later (own w ∷ ps) = ap (λ qs. down_packet x w ∷ qs) (packets_later ps)
    packets_later (other s ∷ ps) = ap (λ qs. passing_packet x (other s) ∷ qs) (packets_later ps)

    down_later : (ps : List Passing) → AllByRecursion (GoesDown x) (own_words ps) → AllByRecursion (IsFromOlder k x) ps → AllByRecursion (IsSendable Client) (map (passing_packet x) ps)
        → PassDown k (at_turn x time times server) ps
    down_later [] goes older heard = tt
    down_later (own w ∷ ps) goes older heard =
        (record { fits = goes.0.fits; of_session = goes.0.of_session; heard = goes.0.heard }, down_later ps goes.1 older.1 heard.1)
    down_later (other s ∷ ps) goes older heard =
        (record { older = older.0.0; call = call_later x time times server k s.name older.0.1; heard = heard.0 }, down_later ps goes older.1 heard.1)

module _ {A : Type 0} (rules : Rules A) (wrap : A → Transfer) (P : ℕ → A → Type 0) (k : Setup) (x : Places) (older : List Row) (set : IsSetForDrops k x older) (wrapped : IsWrapped rules wrap) (keeps : KeepsTime rules P)
    (big now far : World) (stage : Option Stage) (b : A) (n : ℕ) where
  -- the moment, and where the time leads both
  abbrev t : ℕ
  t = moment_at x + TIMEOUT

  abbrev polls : Stepped A
  polls = rules.ticks b t

  abbrev tick : Stepped (Option Stage)
  tick = session_ticks x.service.side t stage

  abbrev ups : List Word
  ups = words_of polls.sayings

  abbrev told : List Word
  told = words_of tick.sayings

  abbrev later_older : List Row
  later_older = ticked_rows x.service.side t older

  abbrev lost : ℕ → Bool
  lost = loses k x.session far

  -- WHAT THE TURN LEADS TO, but for what the end of a turn does
  pub record TimePassed : Type 0 where
    pub world : World
    pub server : List Entry
    pub downs : List Passing
    pub ends : now ≡ finished k world
    pub stands : StandsDropping k (at_turn x t (x.times + 1) server) later_older world tick.after (kept lost n ups) downs (n + length ups + length told)
    pub own_are : own_words downs ≡ kept lost (n + length ups) told
    pub still : IsSetForDrops k (at_turn x t (x.times + 1) server) later_older
    pub fits : SessionFits tick.after
    pub holds : P t polls.after
    pub task : IsUnderWay (at_turn x t (x.times + 1) server) (wrap polls.after) world
    pub lost_down : AllByRecursion (IsLostNow k x (length big.numbered) t world) (missing lost t (n + length ups) told)
    pub lost_up : AllByRecursion (IsLostNow k x (length big.numbered) t world) (missing lost t n ups)

  module _ (st : StandsDropping k x older big stage [] [] n) (fits : SessionFits stage) (on : IsUnderWay x (wrap b) big) (stood : P (moment_at x) b)
      (going : rules.end_of b ≡ None) (in_time : moment_at x + TIMEOUT + TIMEOUT < 2 ^ 63) (turn : Turn k big now) (run : RunsOut k now far) where
    passes : TimePasses k big now
    passes = time_next k big now (tasked_with x (wrap b)) st.to_server st.to_client on.under turn

    heard : AreSendable k now
    heard = heard_in k (undamaged k.losses set.only.drops) now far run

    moment_is : moment (later big) ≡ t
    moment_is = omega (arith, st.kept.times)

    abbrev then : Places
    then = at_turn x t (x.times + 1) passes.server

    ticks : Settles k.rule k.server (adding big.server flush_seat (Tick t)) passes.server
    ticks = subst (λ m. Settles k.rule k.server (adding big.server flush_seat (Tick m)) passes.server) moment_is passes.ticks

    late : t ≤ TURN_OF_TIME * (x.times + 1)
    late = omega arith

    ticked : ServerTicked k x older set big.server passes.server stage t (x.times + 1) late st.server st.sessions ticks
    ticked = server_ticked k x older set big.server passes.server stage t (x.times + 1) late st.server st.sessions ticks

    client_polls : ClientSettles k.client t big.client (Some (tasked_with x (wrap b))) passes.client passes.task
    client_polls =
        subst (λ m. ClientSettles k.client m big.client (Some (tasked_with x (wrap b))) passes.client passes.task) moment_is
        (subst (λ u. ClientSettles k.client (moment (later big)) big.client u passes.client passes.task) (ap task_under on.under) passes.polls)

    looks : polled rules x.session b [] t ≡ all_of polls
    looks = polls_late rules x.session b t ((keeps.keeps (moment_at x)).goes_on b stood going)

    worked : ClientWorked wrap k x big.client passes.client passes.task polls
    worked =
        client_worked wrap k x t big.client passes.client passes.task b [] polls st.client
        (wrapped.polls x.session b [] t ∙ ap (λ (s : Taken A). wrap s.after) looks)
        (wrapped.says x.session b [] t ∙ ap (λ (s : Taken A). outs_of x.session s.sayings) looks)
        (tasks_begin k.client t big.client passes.client (tasked_with x (wrap b)) passes.task x.client_opening st.client.memo st.client.rest st.client.stream
        (record { role = set.only.client; speaks = set.places.up; undone = st.client.undone }) client_polls)
        (settles_same k.client set.only.client t big.client (Some (tasked_with x (wrap b))) passes.client passes.task client_polls ∙ st.client.calls_are)

    does : P t polls.after × AllFit polls.sayings
    does = keeps.ticks (moment_at x) b stood in_time

    speaks : SessionFits tick.after × AllFit tick.sayings
    speaks = session_fits x stage t set.window set.chunk fits

    -- the client's words go out, and then the server's
    abbrev v : World
    v = with_task passes.task (later big)

    abbrev between : World
    between = with_client k v passes.client

    abbrev world : World
    world = with_server k between passes.server

    server_same : between.server ≡ big.server
    server_same = client_keeps k (λ z. z.server) (λ z q. refl) v passes.client

    gone_server : flushed_since k.server between.server passes.server ≡ map (passing_packet x) ticked.mix
    gone_server = ap (λ h. flushed_since k.server h passes.server) server_same ∙ ticked.gone

    world_client : world.client ≡ passes.client
    world_client = server_keeps k (λ z. z.client) (λ z q. refl) between passes.server ∙ client_keeps k (λ z. z.client) (λ z q. refl) v passes.client

    world_server : world.server ≡ passes.server
    world_server = server_keeps k (λ z. z.server) (λ z q. refl) between passes.server

    -- they are heard
    heard_up : AllByRecursion (IsSendable Server) (map (up_packet x) ups)
    heard_up =
        let client_is : now.client ≡ passes.client = ap (λ (z : World). z.client) passes.is ∙ (finished_client k world ∙ world_client) in
        subst (AllByRecursion (IsSendable Server)) worked.gone
        (flushed_later (IsSendable Server) k.client big.client passes.client (subst (λ h. AllByRecursion (IsSendable Server) (packets_flushed k.client h)) client_is heard.client))

    heard_down : AllByRecursion (IsSendable Client) (map (passing_packet x) ticked.mix)
    heard_down =
        let server_is : now.server ≡ passes.server = ap (λ (z : World). z.server) passes.is ∙ (finished_server k world ∙ world_server) in
        subst (AllByRecursion (IsSendable Client)) ticked.gone
        (flushed_later (IsSendable Client) k.server big.server passes.server (subst (λ h. AllByRecursion (IsSendable Client) (packets_flushed k.server h)) server_is heard.server))

    go_up : AllByRecursion (GoesUp x) ups
    go_up = words_up x polls.sayings does.1 heard_up

    fit_up : AllByRecursion FitsChunk ups
    fit_up = all_weaken (GoesUp x) FitsChunk ups (λ w goes. goes.fits) go_up

    go_down : AllByRecursion (GoesDown x) (own_words ticked.mix)
    go_down =
        subst (AllByRecursion (GoesDown x)) (sym ticked.own)
        (words_down x tick.sayings speaks.1 (session_little x.service.side t stage).no_starts
        (subst (λ ws. AllByRecursion (IsSendable Client) (map (down_packet x) ws)) ticked.own (own_heard k x (IsSendable Client) ticked.mix heard_down)))

    may_down : AllByRecursion (MayPass k x) ticked.mix
    may_down = may_pass k x ticked.mix go_down ticked.may

    -- what is numbered
    up_numbered : between.numbered ≡ big.numbered ++ map (up_packet x) ups
    up_numbered = all_numbered k Client (flushed_since k.client v.client passes.client) (record v { client = passes.client }) ∙ ap (λ (ps : List Packet). big.numbered ++ ps) worked.gone

    down_numbered : world.numbered ≡ between.numbered ++ map (passing_packet x) ticked.mix
    down_numbered =
        all_numbered k Server (flushed_since k.server between.server passes.server) (record between { server = passes.server }) ∙ ap (λ (ps : List Packet). between.numbered ++ ps) gone_server

    grown : (more : List Packet) × (far.numbered ≡ world.numbered ++ more)
    grown = grown_from k now world far passes.is run

    far_down : far.numbered ≡ (between.numbered ++ map (passing_packet x) ticked.mix) ++ grown.0
    far_down = grown.1 ∙ ap (λ (ps : List Packet). ps ++ grown.0) down_numbered

    far_up : far.numbered ≡ (big.numbered ++ map (up_packet x) ups) ++ (map (passing_packet x) ticked.mix ++ grown.0)
    far_up =
        far_down
        ∙ (ap (λ (ps : List Packet). (ps ++ map (passing_packet x) ticked.mix) ++ grown.0) up_numbered
        ∙ append_assoc (big.numbered ++ map (up_packet x) ups) (map (passing_packet x) ticked.mix) grown.0)

    said_up : HasNumbered x.session between.numbered (n + length ups)
    said_up =
        subst (λ ps. HasNumbered x.session ps (n + length ups)) (sym up_numbered)
        (numbered_more_up k x big.numbered ups n set.places.session set.service_is fit_up st.said_are)

    said_both : HasNumbered x.session world.numbered (n + length ups + length told)
    said_both =
        subst (λ ps. HasNumbered x.session ps (n + length ups + length told)) (sym down_numbered)
        (subst (λ (ws : List Word). HasNumbered x.session (between.numbered ++ map (passing_packet x) ticked.mix) (n + length ups + length ws)) ticked.own
        (numbered_more k x between.numbered ticked.mix (n + length ups) set.places set.service_is may_down said_up))

    -- the words that are lost
    kept_up : going_on (is_dropped k) (length big.numbered) ups ≡ kept lost n ups
    kept_up = words_kept_up k x far big.numbered (map (passing_packet x) ticked.mix ++ grown.0) ups n set.places.session far_up st.said_are set.service_is fit_up

    abbrev downs : List Passing
    downs = going_on (is_dropped k) (length between.numbered) ticked.mix

    kept_down : own_words downs ≡ kept lost (n + length ups) told
    kept_down =
        words_kept k x far between.numbered grown.0 ticked.mix (n + length ups) set.places far_down said_up set.service_is may_down
        ∙ ap (kept lost (n + length ups)) ticked.own

    gone_up : world.to_server ≡ carrying (map (up_packet x) (kept lost n ups))
    gone_up =
        server_keeps k (λ z. z.to_server) (λ z q. refl) between passes.server
        ∙ (ap (λ (ps : List Packet). (all_sent_by k Client ps (record v { client = passes.client })).to_server) worked.gone
        ∙ (client_sends k set.only.drops (up_packet x) ups [] (record v { client = passes.client }) st.to_server
        ∙ ap (λ (ws : List Word). carrying (map (up_packet x) ws)) kept_up))

    gone_down : world.to_client ≡ carrying (map (passing_packet then) downs)
    gone_down =
        ap (λ (ps : List Packet). (all_sent_by k Server ps (record between { server = passes.server })).to_client) gone_server
        ∙ (server_sends k set.only.drops (passing_packet x) ticked.mix [] (record between { server = passes.server })
        (client_keeps k (λ z. z.to_client) (λ z q. refl) v passes.client ∙ st.to_client)
        ∙ ap carrying (sym (packets_later k x t (x.times + 1) passes.server downs)))

    at_server : (there : AtServer k then world.server tick.after) × (there.memo ≡ transfer_memo (book_with then later_older tick.after))
    at_server =
        subst (λ h. (there : AtServer k then h tick.after) × (there.memo ≡ transfer_memo (book_with then later_older tick.after))) (sym world_server) (ticked.server, ticked.memo)

    under_is : world.under ≡ Some (transferring (tasked_with x (wrap polls.after)))
    under_is =
        server_keeps k (λ z. z.under) (λ z q. refl) between passes.server
        ∙ (client_keeps k (λ z. z.under) (λ z q. refl) v passes.client
        ∙ (ap (λ (o : Option Tasked). under_with o big.under) worked.next_is ∙ ap (λ (u : Option Under). under_with (Some (tasked_with x (wrap polls.after))) u) on.under))

    pub time_passed : TimePassed
    time_passed = record {
      world = world;
      server = passes.server;
      downs = downs;
      ends = passes.is;
      stands = record {
        server = at_server.0;
        sessions = at_server.1;
        client = subst (AtClient k then) (sym world_client) (client_later x t (x.times + 1) passes.server k passes.client worked.client);
        to_server = gone_up;
        to_client = gone_down;
        up = subst (AllByRecursion (GoesUp then)) kept_up (going_on_all (GoesUp then) (is_dropped k) (length big.numbered) ups (words_up then polls.sayings does.1 heard_up));
        down = going_on_all (PassesDown k then) (is_dropped k) (length between.numbered) ticked.mix (down_later k x t (x.times + 1) passes.server ticked.mix go_down ticked.may heard_down);
        fed_server = subst IsBetweenFrames (sym (server_keeps k (λ z. z.fed_server) (λ z q. refl) between passes.server ∙ client_keeps k (λ z. z.fed_server) (λ z q. refl) v passes.client)) st.fed_server;
        fed_client = subst IsBetweenFrames (sym (server_keeps k (λ z. z.fed_client) (λ z q. refl) between passes.server ∙ client_keeps k (λ z. z.fed_client) (λ z q. refl) v passes.client)) st.fed_client;
        said_are = said_both;
        kept = record {
          coming = server_keeps k (λ z. z.coming) (λ z q. refl) between passes.server ∙ (client_keeps k (λ z. z.coming) (λ z q. refl) v passes.client ∙ st.kept.coming);
          sessions = server_keeps k (λ z. z.sessions) (λ z q. refl) between passes.server ∙ (client_keeps k (λ z. z.sessions) (λ z q. refl) v passes.client ∙ st.kept.sessions);
          times =
              server_keeps k (λ z. z.times) (λ z q. refl) between passes.server
              ∙ (client_keeps k (λ z. z.times) (λ z q. refl) v passes.client ∙ ap (λ m. m + 1) st.kept.times);
        };
      };
      own_are = kept_down;
      still = ticked.still;
      fits = speaks.0;
      holds = does.0;
      task = record {
        under = under_is;
        lines = server_keeps k (λ z. z.lines) (λ z q. refl) between passes.server ∙ (client_keeps k (λ z. z.lines) (λ z q. refl) v passes.client ∙ on.lines);
      };
      lost_down =
          subst (λ (ws : List Word). AllByRecursion (IsLostNow k x (length big.numbered) t world) (missing lost t (n + length ups) ws)) ticked.own
          (lost_down k x world far between.numbered grown.0 ticked.mix (length big.numbered) t (n + length ups) (omega (arith, ap length up_numbered, length-append big.numbered (map (up_packet x) ups))) set.places down_numbered grown.1 said_up set.service_is may_down);
      lost_up =
          all_lost_now k x between world (map (passing_packet x) ticked.mix) down_numbered (length big.numbered) t (missing lost t n ups)
          (lost_up k x between far big.numbered (map (passing_packet x) ticked.mix ++ grown.0) ups (length big.numbered) t n (omega arith) set.places.session up_numbered
          (far_down ∙ append_assoc between.numbered (map (passing_packet x) ticked.mix) grown.0) st.said_are set.service_is fit_up);
    }
