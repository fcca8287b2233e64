-- A transfer begins, in a call that is there and in a new one.
use Rattle.std.proofs.Common.{◌≡◌, ℕ, ◌*◌, ◌==◌, ◌&&◌, ◌||◌, Bool, true, false, List, [], ◌∷◌, ◌++◌, length, map, Option, Some, None, IsTrue, option_to_list, refl, ap, sym, ◌∙◌, subst, append_assoc, ◌⊎◌, inl, inr}
use Rattle.std.proofs.lemmas.List.{append-nil}
use Rattle.std.proofs.lemmas.List.Concat.{flat_map-append}
use Rattle.std.specs.List.{AllByRecursion, list_any}
use Rattle.link_script.specs.declared.command.Command.{Command}
use Rattle.link_script.specs.declared.command.Command.TheVariants.{Read, Write, Echo, Count, Sum, Chat, Close}
use Rattle.link_script.specs.lossy.Link.{Link}
use Rattle.rpc_ids.specs.declared.method.MethodRef.{MethodRef}
use Rattle.rpc_ids.specs.declared.method.Role.TheVariants.{Server, Client}
use Rattle.rpc_ids.specs.declared.status.Status.{Status}
use Rattle.rpc_packet.specs.declared.owned.Packet.{Packet}
use Rattle.rpc_packet.specs.declared.packet_type.PacketType.TheVariants.{ClientStream}
use Rattle.rpc_frames.specs.Written.{IsBetweenFrames, IsSendable}
use Rattle.rpc_handlers.specs.declared.answer.Answer.{Answer}
use Rattle.rpc_handlers.specs.declared.answer.Out.{Out}
use Rattle.rpc_handlers.specs.declared.event.Event.TheVariants.{Request as Asked}
use Rattle.rpc_handlers.specs.declared.event.Memo.{Memo}
use Rattle.rpc_handlers.specs.HandlerRule.{HandlerRule, empty_memo}
use Rattle.rpc_journal.specs.declared.entry.Entry.{Entry}
use Rattle.rpc_journal.specs.declared.entry.EntryKind.{EntryKind}
use Rattle.rpc_journal.specs.declared.entry.EntryKind.TheVariants.{Arrive, Invoke}
use Rattle.rpc_journal.specs.declared.item.Item.{Item}
use Rattle.rpc_journal.specs.Calls.{call_count, calls}
use Rattle.rpc_journal.specs.Effect.{Deed, Opening}
use Rattle.rpc_journal.specs.Entries.{invoke_effect, out_item}
use Rattle.rpc_journal.specs.History.{adding, entry_by, history}
use Rattle.rpc_journal.specs.Items.{is_done, is_for, items_sent, packet_of, packets_of, sends_completion}
use Rattle.rpc_journal.specs.Rows.{packet_item}
use Rattle.rpc_journal.proofs.Push.{history-push}
use Rattle.rpc_schedule.specs.Schedule.{Settles, input_seat, run_seat}
use Rattle.transfer_words.specs.Word.{Word}
use Rattle.demo_services.specs.DemoRule.{demo_rule}
use Rattle.transfer_words.specs.Saying.{Stepped, outs_of}
use Rattle.transfer_resume.specs.declared.stage.Stage.{Stage}
use Rattle.transfer_client.specs.Hearing.{all_of}
use Rattle.transfer_client.specs.Machine.{Rules}
use Rattle.transfer_client.specs.Polling.{Taken, polled}
use Rattle.transfer_laws.proofs.words.Receivers.{AllFit}
use Rattle.transfer_laws.specs.pairs.Pair.{EndsSo, Pair, first, words_of}
use Rattle.history_laws.specs.rounds.Rounds.{IsRound, opened_by}
use Rattle.history_laws.specs.rounds.Streams.{HasStream, IsAtRest, items_of}
use Rattle.history_laws.proofs.rounds.RoundLemmas.{requests_settle}
use Rattle.link_laws.specs.declared.world.limits.TheConstants.{TURN_OF_TIME}
use Rattle.link_laws.specs.world.Client.{ClientSettles, transfer_says}
use Rattle.link_laws.specs.world.Lines.{finished}
use Rattle.link_laws.specs.world.Setup.{quiet_rule}
use Rattle.link_laws.specs.world.Reports.{carries_chunk}
use Rattle.link_laws.specs.world.Sound.{AreSendable, NoFlips}
use Rattle.link_laws.specs.world.Starts.{Started, all_added, request, starts, Asks, StartTurn, with_command}
use Rattle.link_laws.specs.world.Turns.{Turn, TurnOf, ending, kind_by, next_kind, with_frame_at_server}
use Rattle.link_laws.specs.world.World.{task_under, under_with, with_task, Setup, Tasked, Transfer, Under, World, all_sent_by, flushed_since, moment, packets_flushed, transferring, with_client}
use Rattle.link_laws.proofs.one_run.Keeping.{sent_by, finish_keeps}
use Rattle.link_laws.proofs.one_run.Links.{all_back, all_front, frame_of}
use Rattle.link_laws.proofs.one_run.Parts.{client_keeps, closed_by_front, finished_client, flushed_later}
use Rattle.link_laws.specs.rounds.Polls.{IsPoll}
use Rattle.link_laws.proofs.rounds.Opens.{calls_open}
use Rattle.link_laws.proofs.rounds.Polling.{tasks_begin}
use Rattle.link_laws.proofs.transfers_fit.Names.{settles_same}
use Rattle.link_laws.specs.lossless_transfer.Begins.{AsksClient, Begins, BeginsOnNew, BeginsOnOld, IsIdle, started_with}
use Rattle.link_laws.specs.lossless_transfer.Finishes.{IsOver, IsSetFor, Passes, RunsOut}
use Rattle.link_laws.specs.rounds.Carrying.{carrying}
use Rattle.link_laws.specs.lossless_transfer.Shows.{ArePlaces, AtClient, AtServer, GoesUp, IsKept, IsUnderWay, OthersStay, Places, ShowsPair, moment_at, tasked_with, up_packet}
use Rattle.link_laws.proofs.lossless_transfer.Flushing.{client_words, none_complete, undone_more}
use Rattle.link_laws.proofs.rounds.Carrying.{all_numbered, client_carries, gone_out}
use Rattle.link_laws.proofs.lossless_transfer.Linking.{finished_on}
use Rattle.link_laws.proofs.lossless_transfer.Machines.{IsWrapped, KeepsOn, begun}
use Rattle.link_laws.proofs.lossless_transfer.Rounds.{request_calls}
use Rattle.link_laws.proofs.lossless_transfer.ServerTurns.{Settled, first_up, settled}
use Rattle.link_laws.proofs.lossless_transfer.Words.{said_more, said_none, words_up}
use Rattle.link_laws.proofs.lossless_transfer.Chain.{Begun, comes_over, further, goes_on, heard_in, here, then_passes, up_first}

asks_only : (k : Setup) (w now : World) (command : Command) (rest : List Command) → AsksClient command → StartTurn k w command rest now → Asks k w command rest now
asks_only k w now (Close channel) rest asks t = absurd asks
asks_only k w now (Read resource offset) rest asks t = t
asks_only k w now (Write resource offset) rest asks t = t
asks_only k w now (Echo bytes) rest asks t = t
asks_only k w now (Count m) rest asks t = t
asks_only k w now (Sum bytes) rest asks t = t
asks_only k w now (Chat bytes) rest asks t = t

module _ (k : Setup) (x : Places) (big : World) (command : Command) (idle : IsIdle x big command) where
  -- the command starts next
  kind_is : next_kind big ≡ kind_by [] [] None (command ∷ x.coming)
  kind_is =
      ap (λ (l : Link). kind_by l.frames big.to_client.frames big.under big.coming) idle.to_server
      ∙ (ap (λ (l : Link). kind_by [] l.frames big.under big.coming) idle.to_client
      ∙ (ap (λ (u : Option Under). kind_by [] [] u big.coming) idle.under ∙ ap (kind_by [] [] None) idle.coming))

  pub starts_next : next_kind big ≡ ending → ⊥
  starts_next last = absurd cc (sym kind_is ∙ last)

  -- WHAT THE START LEADS TO, with the task's first poll
  pub record Polled (adds : List EntryKind) (t : Transfer) (now : World) : Type 0 where
    pub after : List Entry
    pub next : Option Tasked
    pub settles : ClientSettles k.client (moment_at x) (all_added adds big.client) (Some (tasked_with x t)) after next
    pub is : now ≡ finished k (with_client k (with_task next (with_command big x.coming (started_with x adds t))) after)

  pub polls : (adds : List EntryKind) (t : Transfer) (now : World) → AsksClient command → starts k big command ≡ started_with x adds t → Turn k big now → Polled adds t now
  polls adds t now asks so turn =
      let a : Asks k big command x.coming now = asks_only k big now command x.coming asks (subst (λ kind. TurnOf k big kind now) kind_is turn) in
      record {
        after = a.after;
        next = a.task;
        settles =
            subst (λ m. ClientSettles k.client m (all_added adds big.client) (Some (tasked_with x t)) a.after a.task) (ap (λ n. TURN_OF_TIME * n) idle.times)
            (subst (λ (s : Started). ClientSettles k.client (moment big) (all_added s.adds big.client) (task_under (Some s.under)) a.after a.task) so a.settles);
        is = a.is ∙ ap (λ (s : Started). finished k (with_client k (with_task a.task (with_command big x.coming s)) a.after)) so;
      }

-- what the beginning of a task says fits, and it goes on
pub record CanBegin {A : Type 0} (rules : Rules A) (P : A → Type 0) (now : ℕ) (t : A) : Type 0 where
  pub holds : P (rules.opens t now).after
  pub fits : AllFit (rules.opens t now).sayings
  pub going : rules.end_of (rules.opens t now).after ≡ None

-- These packets went out to the server on an empty link, behind those that were numbered before.
pub record IsSent (k : Setup) (before ps : List Packet) (to_server : Link) : Type 0 where
  pub from : World
  pub behind : from.numbered ≡ before
  pub empty : from.to_server ≡ carrying []
  pub link : to_server ≡ (all_sent_by k Client ps from).to_server

-- the words that begin a transfer
abbrev pub first_words : {A : Type 0} → Rules A → ℕ → A → List Word
first_words rules now t = words_of (rules.opens t now).sayings

-- WHAT THE LINK DOES TO THE BEGINNING, in a run that goes on to this world: of these words those go on to the server, and
-- a packet that carries no chunk does too.
pub record Carries (k : Setup) (x : Places) (far : World) (told ups : List Word) : Type 0 where
  pub undamaged : NoFlips k.losses
  pub words : (from : World) (ps : List Packet) → from.numbered ≡ x.numbered → from.to_server ≡ carrying ps
      → (all_sent_by k Client (map (up_packet x) told) from).to_server ≡ carrying (ps ++ map (up_packet x) ups)
  pub asks : (mid from : World) (p : Packet) (more : List Packet) → RunsOut k mid far → mid.numbered ≡ (from.numbered ++ p ∷ []) ++ more → carries_chunk p ≡ false
      → from.to_server ≡ carrying [] → (sent_by k Client from p).to_server ≡ carrying (p ∷ [])

-- THE TRANSFER HAS BEGUN: the server's call is in this state, the client's task stands so, and of its first words these are on
-- their way.
pub record HasBegun {A : Type 0} (wrap : A → Transfer) (k : Setup) (x : Places) (after : A) (told ups : List Word) (memo : Memo) (big : World) : Type 0 where
  pub server : (there : AtServer k x big.server None) × (there.memo ≡ memo)
  pub client : AtClient k x big.client
  pub to_server : big.to_server ≡ carrying (map (up_packet x) ups)
  pub to_client : big.to_client ≡ carrying []
  pub up : AllByRecursion (GoesUp x) told
  pub fed_server : IsBetweenFrames big.fed_server
  pub fed_client : IsBetweenFrames big.fed_client
  pub numbered : big.numbered ≡ x.numbered ++ map (up_packet x) told
  pub kept : IsKept x big
  pub task : IsUnderWay x (wrap after) big

-- THE REQUEST COMES TO THE SERVER, and opens the call there
module _ (k : Setup) (x : Places) (rule : k.rule ≡ demo_rule) (big : World) (command : Command) (t : Transfer) (b : BeginsOnNew k x big command t) where
  abbrev opens_call : Packet
  opens_call = request x.client_opening.name []

  abbrev ds : List Deed
  ds = history k.server big.server

  abbrev first_memo : Memo
  first_memo = k.rule.first k.server.seed b.method

  abbrev pub memo_asked : Memo
  memo_asked = k.rule.next first_memo (Asked [])

  -- the frame of the REQUEST has come, and the server's history is this
  abbrev pub asked_in : World → List Packet → List Entry → World
  asked_in mid ps after = record (with_frame_at_server mid (frame_of opens_call) (map frame_of ps)) { server = after }

  -- WHAT THE TURN LEADS TO, but for what its end does: it says nothing
  pub record Answered (mid now : World) (ps : List Packet) : Type 0 where
    pub after : List Entry
    pub server : (there : AtServer k x after None) × (there.memo ≡ memo_asked)
    pub ends : now ≡ finished k (asked_in mid ps after)
    pub to_server : (asked_in mid ps after).to_server ≡ carrying ps
    pub fed_server : IsBetweenFrames (asked_in mid ps after).fed_server

  module _ (mid now : World) (ps : List Packet) (server_is : mid.server ≡ big.server) (heard : IsSendable Server opens_call) (fed_server : IsBetweenFrames mid.fed_server) (to_server : mid.to_server ≡ carrying (opens_call ∷ ps)) (turn : Turn k mid now) where
    sure : Settled k mid now opens_call ps
    sure = settled k mid now opens_call ps heard to_server fed_server (first_up k mid now opens_call ps to_server turn)

    ruled : IsTrue k.rule.ruled
    ruled = subst (λ (r : HandlerRule). IsTrue r.ruled) (sym rule) refl

    round : IsRound k.rule k.server big.server opens_call (call_count ds) (opened_by opens_call b.method) first_memo (Asked []) sure.after
    round =
        requests_settle k.rule k.server big.server sure.after b.method opens_call ruled b.server
        (subst (λ h. Settles k.rule k.server (adding h input_seat (Arrive opens_call)) sure.after) server_is sure.settles)

    nothing : items_of k.server ds (call_count ds) (opened_by opens_call b.method) (k.rule.answer first_memo (Asked [])) ≡ []
    nothing = ap (λ (a : Answer). items_of k.server ds (call_count ds) (opened_by opens_call b.method) a) b.silent

    none_gone : flushed_since k.server mid.server sure.after ≡ []
    none_gone =
        ap (λ (h : List Entry). flushed_since k.server h sure.after) server_is
        ∙ (gone_out k.server big.server sure.after (items_of k.server ds (call_count ds) (opened_by opens_call b.method) (k.rule.answer first_memo (Asked []))) b.server.rest round.rest round.said
        ∙ ap packets_of nothing)

    stream : HasStream k.rule k.server (history k.server sure.after) x.at_server x.server_opening memo_asked
    stream =
        subst (λ c. HasStream k.rule k.server (history k.server sure.after) c x.server_opening memo_asked) (sym b.at_server)
        (subst (λ o. HasStream k.rule k.server (history k.server sure.after) (call_count ds) o memo_asked) (sym b.server_opening) round.stream)

    abbrev after_server : AtServer k x sure.after None
    after_server = record {
      rest = round.rest;
      memo = memo_asked;
      stream = stream;
      serves = b.serves;
      others = subst (λ h. OthersStay k.rule k.server x.at_server h sure.after) b.idle.server
          (λ other o m apart there. round.others other o m (λ same. apart (same ∙ sym b.at_server)) there);
      calls_are =
          ap (λ (h : List Entry). calls (history k.server h)) round.entries
          ∙ (request_calls k.rule k.server big.server b.method opens_call (length (items_of k.server ds (call_count ds) (opened_by opens_call b.method) (k.rule.answer first_memo (Asked [])))) b.server
          ∙ (ap (λ (o : Opening). calls ds ++ o ∷ []) (sym b.server_opening) ∙ sym b.server_calls));
    }

    abbrev fed : World
    fed = with_frame_at_server mid (frame_of opens_call) (map frame_of ps)

    pub answered : Answered mid now ps
    answered = record {
      after = sure.after;
      server = (after_server, refl);
      ends = sure.is ∙ ap (λ (qs : List Packet). finished k (all_sent_by k Server qs (record fed { server = sure.after }))) none_gone;
      to_server = ap {A = List (List ℕ)} {B = Link} (λ kept. record { frames = map frame_of ps; kept_back = kept }) (ap (λ (l : Link). l.kept_back) to_server);
      fed_server = closed_by_front Server mid.fed_server (frame_of opens_call) opens_call heard refl;
    }

module _ {A : Type 0} (rules : Rules A) (wrap : A → Transfer) (P : A → Type 0) (k : Setup) (x : Places) (places : ArePlaces x) (role : k.client.role ≡ Client) (wrapped : IsWrapped rules wrap) (keeps : KeepsOn rules (moment_at x) P)
    (t : A) (can : CanBegin rules P (moment_at x) t) where
  abbrev step : Stepped A
  step = rules.opens t (moment_at x)

  abbrev told : List Word
  told = first_words rules (moment_at x) t

  -- WHAT STANDS AT THE CLIENT'S END ONCE THESE PACKETS WENT OUT, and then the first words
  record Opened (big now : World) (asked : List Packet) : Type 0 where
    world : World
    ends : now ≡ finished k world
    client : AtClient k x world.client
    server_is : world.server ≡ big.server
    sent : IsSent k big.numbered (asked ++ map (up_packet x) told) world.to_server
    to_client : world.to_client ≡ carrying []
    up : AllByRecursion (GoesUp x) told
    heard : AllByRecursion (IsSendable Server) asked
    fed_server : IsBetweenFrames world.fed_server
    fed_client : IsBetweenFrames world.fed_client
    numbered : world.numbered ≡ x.numbered ++ map (up_packet x) told
    kept : IsKept x world
    task : IsUnderWay x (wrap step.after) world

  module _ (big now : World) (command : Command) (idle : IsIdle x big command) (adds : List EntryKind) (s : Polled k x big command idle adds (wrap t) now) (items : List Item) (m : Memo)
      (poll : IsPoll k.client (moment_at x) big.client (tasked_with x (wrap t)) x.client_opening m items [] s.after s.next) (rest : IsAtRest (history k.client big.client)) (numbered : x.numbered ≡ big.numbered ++ packets_of items)
      (calls_are : calls (history k.client (all_added adds big.client)) ≡ x.client_calls) (heard : AreSendable k now) (quiet : (c : ℕ) → list_any (λ item. is_for c item.call && sends_completion item.act) items ≡ false) where
    abbrev asked : List Packet
    asked = packets_of items

    polled_so : polled rules x.session t [] (moment_at x) ≡ all_of step
    polled_so = begun rules x.session (moment_at x) t wrapped.waits (keeps.awake step.after can.holds)

    next_is : s.next ≡ Some (tasked_with x (wrap step.after))
    next_is =
        poll.polled ∙ ap {A = Transfer} {B = Option Tasked} (λ tr. Some (tasked_with x tr)) (wrapped.polls x.session t [] (moment_at x) ∙ ap (λ (p : Taken A). wrap p.after) polled_so)

    says_is : transfer_says x.session (wrap t) [] (moment_at x) ≡ outs_of x.session step.sayings
    says_is = wrapped.says x.session t [] (moment_at x) ∙ ap (λ (p : Taken A). outs_of x.session p.sayings) polled_so

    gone : flushed_since k.client big.client s.after ≡ asked ++ map (up_packet x) told
    gone =
        let outs : List Item = map (out_item Client x.at_client x.client_opening.name) (transfer_says x.session (wrap t) [] (moment_at x)) in
        gone_out k.client big.client s.after (items ++ outs) rest poll.rest poll.said
        ∙ (flat_map-append (λ (item : Item). packet_of item.act) items outs
        ∙ ap (λ (ps : List Packet). asked ++ ps)
        (ap (λ (os : List Out). packets_of (map (out_item Client x.at_client x.client_opening.name) os)) says_is ∙ client_words x.at_client x.session x.client_opening.name step.sayings))

    abbrev v : World
    v = with_task s.next (with_command big x.coming (started_with x adds (wrap t)))

    abbrev world : World
    world = with_client k v s.after

    all_heard : AllByRecursion (IsSendable Server) (asked ++ map (up_packet x) told)
    all_heard =
        let client_is : now.client ≡ s.after = ap (λ (z : World). z.client) s.is ∙ (finished_client k world ∙ client_keeps k (λ z. z.client) (λ z q. refl) v s.after) in
        subst (AllByRecursion (IsSendable Server)) gone
        (flushed_later (IsSendable Server) k.client big.client s.after (subst (λ h. AllByRecursion (IsSendable Server) (packets_flushed k.client h)) client_is heard.client))

    after_client : AtClient k x s.after
    after_client = record {
      rest = poll.rest;
      memo = m;
      stream = poll.stream;
      undone = poll.undone;
      others = subst (λ h. OthersStay quiet_rule k.client x.at_client h s.after) idle.client poll.others;
      others_undone = λ other apart old.
          ap (λ (items : List Item). list_any (λ item. is_for other item.call && sends_completion item.act) items)
          (poll.said ∙ ap (λ (outs : List Out). items_sent (history k.client big.client) ++ (items ++ map (out_item Client x.at_client x.client_opening.name) outs)) says_is)
          ∙ undone_more other (items_sent (history k.client big.client)) (items ++ map (out_item Client x.at_client x.client_opening.name) (outs_of x.session step.sayings))
          (subst (λ h. is_done (history k.client h) other ≡ false) (sym idle.client) old)
          (undone_more other items (map (out_item Client x.at_client x.client_opening.name) (outs_of x.session step.sayings)) (quiet other) (none_complete other x.at_client x.session x.client_opening.name step.sayings));
      calls_are = settles_same k.client role (moment_at x) (all_added adds big.client) (Some (tasked_with x (wrap t))) s.after s.next s.settles ∙ calls_are;
    }

    opened : Opened big now asked
    opened = record {
      world = world;
      ends = s.is;
      client = subst (AtClient k x) (sym (client_keeps k (λ z. z.client) (λ z q. refl) v s.after)) after_client;
      server_is = client_keeps k (λ z. z.server) (λ z q. refl) v s.after;
      sent = record {
        from = record v { client = s.after };
        behind = refl;
        empty = idle.to_server;
        link = ap (λ (ps : List Packet). (all_sent_by k Client ps (record v { client = s.after })).to_server) gone;
      };
      to_client = client_keeps k (λ z. z.to_client) (λ z q. refl) v s.after ∙ idle.to_client;
      up = words_up x step.sayings can.fits (all_back (IsSendable Server) asked (map (up_packet x) told) all_heard);
      heard = all_front (IsSendable Server) asked (map (up_packet x) told) all_heard;
      fed_server = subst IsBetweenFrames (sym (client_keeps k (λ z. z.fed_server) (λ z q. refl) v s.after)) idle.fed_server;
      fed_client = subst IsBetweenFrames (sym (client_keeps k (λ z. z.fed_client) (λ z q. refl) v s.after)) idle.fed_client;
      numbered =
          all_numbered k Client (flushed_since k.client v.client s.after) (record v { client = s.after })
          ∙ (ap (λ (ps : List Packet). big.numbered ++ ps) gone
          ∙ (sym (append_assoc big.numbered asked (map (up_packet x) told)) ∙ ap (λ (ps : List Packet). ps ++ map (up_packet x) told) (sym numbered)));
      kept = record {
        coming = client_keeps k (λ z. z.coming) (λ z q. refl) v s.after;
        sessions = client_keeps k (λ z. z.sessions) (λ z q. refl) v s.after;
        times = client_keeps k (λ z. z.times) (λ z q. refl) v s.after ∙ idle.times;
      };
      task = record {
        under = client_keeps k (λ z. z.under) (λ z q. refl) v s.after ∙ ap (λ (o : Option Tasked). under_with o (Some (transferring (tasked_with x (wrap t))))) next_is;
        lines = client_keeps k (λ z. z.lines) (λ z q. refl) v s.after ∙ idle.lines;
      };
    }

  -- the end of the turn leaves all that
  settled_so : (big now : World) (asked : List Packet) (o : Opened big now asked) (ups : List Packet) → o.world.to_server ≡ carrying ups → now ≡ o.world
  settled_so big now asked o ups on =
      o.ends ∙ finished_on k o.world ups [] on o.to_client (tasked_with x (wrap step.after)) o.task.under (wrapped.ends step.after ∙ can.going)

  -- in a call that is there
  opens_on_old : (big now : World) (command : Command) → AsksClient command → BeginsOnOld k x big command (wrap t) → Turn k big now → AreSendable k now → Opened big now []
  opens_on_old big now command asks b turn heard =
      let s : Polled k x big command b.idle [] (wrap t) now = polls k x big command b.idle [] (wrap t) now asks b.starts_so turn in
      let poll : IsPoll k.client (moment_at x) big.client (tasked_with x (wrap t)) x.client_opening b.client.memo [] [] s.after s.next =
      tasks_begin k.client (moment_at x) big.client s.after (tasked_with x (wrap t)) s.next x.client_opening b.client.memo b.client.rest b.client.stream
      (record { role = role; speaks = places.up; undone = b.client.undone }) s.settles in
      opened big now command b.idle [] s [] b.client.memo poll b.client.rest (sym b.numbered ∙ sym (append-nil big.numbered)) b.client.calls_are heard (λ c. refl)

  -- in a new one the REQUEST goes out first
  module _ (big : World) (command : Command) (b : BeginsOnNew k x big command (wrap t)) where
    abbrev p : Packet
    p = request x.client_opening.name []

    method_calls : calls (history k.client (adding big.client run_seat (Invoke p empty_memo))) ≡ x.client_calls
    method_calls =
        ap calls (history-push k.client big.client (entry_by run_seat (Invoke p empty_memo)))
        ∙ (ap (λ (o : Option MethodRef). calls (history k.client big.client) ++ option_to_list (invoke_effect (history k.client big.client) p empty_memo o).opens) b.client.known
        ∙ (ap (λ (o : Opening). calls (history k.client big.client) ++ o ∷ []) (sym b.client_opening) ∙ sym b.client_calls))

    not_completed : (b : Bool) → ((b && false) || false) ≡ false
    not_completed true = refl
    not_completed false = refl

    opens_on_new : (now : World) → AsksClient command → Turn k big now → AreSendable k now → Opened big now (p ∷ [])
    opens_on_new now asks turn heard =
        let adds : List EntryKind = Invoke p empty_memo ∷ [] in
        let s : Polled k x big command b.idle adds (wrap t) now = polls k x big command b.idle adds (wrap t) now asks b.starts_so turn in
        let poll : IsPoll k.client (moment_at x) big.client (tasked_with x (wrap t)) x.client_opening empty_memo (packet_item x.at_client p ∷ []) [] s.after s.next =
        subst (λ o. IsPoll k.client (moment_at x) big.client (tasked_with x (wrap t)) o empty_memo (packet_item x.at_client p ∷ []) [] s.after s.next) (sym b.client_opening)
        (calls_open k.client (moment_at x) big.client s.after (tasked_with x (wrap t)) s.next b.method p empty_memo b.client s.settles) in
        opened big now command b.idle adds s (packet_item x.at_client p ∷ []) empty_memo poll b.client.rest b.numbered method_calls heard (λ c. not_completed (x.at_client == c))

  -- THE RUN BEGINS IT, whatever becomes of its first words
  module _ (far : World) (ups : List Word) (link : Carries k x far told ups) where
    abbrev HasOpened : Memo → World → Type 0
    HasOpened memo big = HasBegun wrap k x step.after told ups memo big

    abbrev on_way : List Packet
    on_way = map (up_packet x) ups

    -- in a call that is there: its state at the server stays
    pub begins_on_old : (big : World) (command : Command) → AsksClient command → (b : BeginsOnOld k x big command (wrap t)) → RunsOut k big far → Passes k big far (HasOpened b.server.memo)
    begins_on_old big command asks b run =
        let f : Begun k big far = goes_on k big far (starts_next k x big command b.idle) run in
        let o : Opened big f.next [] = opens_on_old big f.next command asks b f.turn.turn (heard_in k link.undamaged f.next far f.run) in
        let on : o.world.to_server ≡ carrying on_way = o.sent.link ∙ link.words o.sent.from [] (o.sent.behind ∙ b.numbered) o.sent.empty in
        let holds : HasOpened b.server.memo o.world = record {
          server = subst (λ h. (there : AtServer k x h None) × (there.memo ≡ b.server.memo)) (sym o.server_is) (b.server, refl);
          client = o.client;
          to_server = on;
          to_client = o.to_client;
          up = o.up;
          fed_server = o.fed_server;
          fed_client = o.fed_client;
          numbered = o.numbered;
          kept = o.kept;
          task = o.task;
        } in
        further k big far (HasOpened b.server.memo) f
        (here k f.next far (HasOpened b.server.memo) f.run (subst (HasOpened b.server.memo) (sym (settled_so big f.next [] o on_way on)) holds))

    -- in a new one, once the REQUEST has opened it at the server
    pub begins_on_new : k.rule ≡ demo_rule → (big : World) (command : Command) → AsksClient command → (b : BeginsOnNew k x big command (wrap t)) → RunsOut k big far
        → Passes k big far (HasOpened (k.rule.next (k.rule.first k.server.seed b.method) (Asked [])))
    begins_on_new rule big command asks b run =
        further k big far Q f (subst (λ w. Passes k w far Q) (sym same) (further k o.world far Q g (here k g.next far Q g.run (subst Q (sym over) holds))))
      where
        Q : World → Type 0
        Q = HasOpened (k.rule.next (k.rule.first k.server.seed b.method) (Asked []))

        asking : Packet
        asking = request x.client_opening.name []

        f : Begun k big far
        f = goes_on k big far (starts_next k x big command b.idle) run

        o : Opened big f.next (asking ∷ [])
        o = opens_on_new big command b f.next asks f.turn.turn (heard_in k link.undamaged f.next far f.run)

        numbered : f.next.numbered ≡ x.numbered ++ map (up_packet x) told
        numbered = ap (λ (z : World). z.numbered) o.ends ∙ (finish_keeps k (λ z. z.numbered) (λ z lines. refl) (λ z up down. refl) o.world ∙ o.numbered)

        behind : o.sent.from.numbered ++ asking ∷ [] ≡ x.numbered
        behind = ap (λ (ps : List Packet). ps ++ asking ∷ []) o.sent.behind ∙ sym b.numbered

        on : o.world.to_server ≡ carrying (asking ∷ on_way)
        on =
            o.sent.link
            ∙ link.words (sent_by k Client o.sent.from asking) (asking ∷ []) behind
            (link.asks f.next o.sent.from asking (map (up_packet x) told) f.run (numbered ∙ ap (λ (ps : List Packet). ps ++ map (up_packet x) told) (sym behind)) refl o.sent.empty)

        same : f.next ≡ o.world
        same = settled_so big f.next (asking ∷ []) o (asking ∷ on_way) on

        g : Begun k o.world far
        g = goes_on k o.world far (up_first k o.world asking on_way on) (subst (λ w. RunsOut k w far) same f.run)

        a : Answered k x rule big command (wrap t) b o.world g.next on_way
        a = answered k x rule big command (wrap t) b o.world g.next on_way o.server_is o.heard.0 o.fed_server on g.turn.turn

        world : World
        world = asked_in k x rule big command (wrap t) b o.world on_way a.after

        holds : Q world
        holds = record {
          server = a.server;
          client = o.client;
          to_server = a.to_server;
          to_client = o.to_client;
          up = o.up;
          fed_server = a.fed_server;
          fed_client = o.fed_client;
          numbered = o.numbered;
          kept = record { coming = o.kept.coming; sessions = o.kept.sessions; times = o.kept.times };
          task = record { under = o.task.under; lines = o.task.lines };
        }

        over : g.next ≡ world
        over = a.ends ∙ finished_on k world on_way [] a.to_server o.to_client (tasked_with x (wrap step.after)) o.task.under (wrapped.ends step.after ∙ can.going)

-- WHERE THE LINK LOSES NOTHING
module _ {A : Type 0} (rules : Rules A) (wrap : A → Transfer) (P : A → Type 0) (k : Setup) (x : Places) (set : IsSetFor k x) (wrapped : IsWrapped rules wrap) (keeps : KeepsOn rules (moment_at x) P)
    (t : A) (can : CanBegin rules P (moment_at x) t) (far : World) where
  abbrev words : List Word
  words = first_words rules (moment_at x) t

  -- all words go on
  all_carried : Carries k x far words words
  all_carried = record {
    undamaged = subst NoFlips (sym set.lossless.losses) tt;
    words = λ from ps behind on. client_carries k set.lossless.losses (map (up_packet x) words) ps from on;
    asks = λ mid from p more run numbered quiet on. client_carries k set.lossless.losses (p ∷ []) [] from on;
  }

  abbrev pub first_pair : Pair A
  first_pair = first x.service rules (moment_at x) t

  shows_first : (memo : Memo) (big : World) → HasBegun wrap k x (rules.opens t (moment_at x)).after words words memo big → ShowsPair wrap k x big first_pair
  shows_first memo big b = record {
    stands = record {
      server = b.server.0;
      client = b.client;
      to_server = b.to_server;
      to_client = b.to_client;
      up = b.up;
      down = tt;
      fed_server = b.fed_server;
      fed_client = b.fed_client;
      said_are = said_more x ClientStream x.client_opening.name (rules.opens t (moment_at x)).sayings x.numbered big.numbered 0 refl can.fits (said_none x) b.numbered;
      kept = b.kept;
    };
    task = b.task;
  }

  -- THE TRANSFER COMES TO THE END that its two ends come to by themselves
  module _ (end : A) (status : Status) (session : Option Stage) (most : ℕ) (e : EndsSo x.service rules (moment_at x) first_pair end session most) (over : rules.end_of end ≡ Some status) where
    abbrev Over : World → Type 0
    Over mid = IsOver k x (wrap end) status session most mid

    from_first : (memo : Memo) (big : World) → HasBegun wrap k x (rules.opens t (moment_at x)).after words words memo big → RunsOut k big far → Passes k big far Over
    from_first memo big b run = comes_over rules wrap P k x set wrapped keeps big far first_pair end status session most e over can.going (shows_first memo big b) tt can.holds run

    pub begins_over : (big : World) → Begins k x big (wrap t) → RunsOut k big far → Passes k big far Over
    begins_over big b run = by_call b.how
      where
        by_call : BeginsOnOld k x big b.command (wrap t) ⊎ BeginsOnNew k x big b.command (wrap t) → Passes k big far Over
        by_call (inl old) =
            then_passes k big far _ Over (begins_on_old rules wrap P k x set.places set.lossless.client wrapped keeps t can far words all_carried big b.command b.asks old run) (from_first old.server.memo)
        by_call (inr new) =
            then_passes k big far _ Over (begins_on_new rules wrap P k x set.places set.lossless.client wrapped keeps t can far words all_carried set.lossless.rule big b.command b.asks new run)
            (from_first (k.rule.next (k.rule.first k.server.seed new.method) (Asked [])))
