-- The world in which a transfer has survived is one between two commands.
use Rattle.std.proofs.Common.{◌≡◌, ◌≢◌, ℕ, ◌+◌, ◌<◌, ◌≤◌, true, List, [], length, Option, Some, None, refl, ap, sym, ◌∙◌, subst, arith, length-append}
use Rattle.link_script.specs.declared.command.Command.{Command}
use Rattle.rpc_ids.specs.declared.status.Status.{Status}
use Rattle.rpc_handlers.specs.declared.event.Memo.{Memo}
use Rattle.rpc_journal.proofs.PlaceLemmas.{some_same}
use Rattle.transfer_resume.specs.declared.side.Side.{Side}
use Rattle.transfer_resume.specs.declared.side.Side.TheVariants.{Read, Write}
use Rattle.transfer_resume.specs.declared.stage.Stage.{Stage}
use Rattle.transfer_resume.specs.Book.{Book}
use Rattle.transfer_resume.specs.Session.{Row, Service}
use Rattle.demo_services.specs.DemoRule.{transfer_side}
use Rattle.demo_services.specs.Transfer.{first_book, transfer_memo}
use Rattle.history_laws.proofs.messages.Members.{all_join, all_weaken}
use Rattle.history_laws.specs.rounds.Streams.{HasStream}
use Rattle.transfer_laws.specs.losses.Drops.{at_time}
use Rattle.transfer_laws.specs.losses.Survives.{HasSettled, IsSettled}
use Rattle.link_laws.specs.world.World.{Setup, Transfer, World, client_deeds, server_deeds}
use Rattle.link_laws.specs.plain_calls.Between.{HasCall, IsClean, MayTransfer}
use Rattle.link_laws.specs.lossless_transfer.Shows.{AtClient, Places}
use Rattle.link_laws.specs.dropped_transfer.Sessions.{AreBefore, AreSettled, IsBesideAtServer, at_turn, book_with, own_row}
use Rattle.link_laws.specs.dropped_transfer.Shows.{StandsDropping}
use Rattle.link_laws.specs.dropped_transfer.Survives.{HasSurvived}
use Rattle.link_laws.proofs.lossless_scripts.Finishing.{LeavesClean, left_is_clean, one_more, own_more}
use Rattle.link_laws.proofs.lossless_scripts.Starting.{IsSetup, first_service, same_side}
use Rattle.link_laws.proofs.dropped_scripts.Starting.{FitsLater, few_of, had_few, older_of, opened_side, opened_ticks, still_called, x_of}

-- no call has fewer sessions once one has one more
others_grow : (side other : Side) (begun : Side → ℕ) → begun other ≤ one_more side begun other
others_grow Read Read begun = omega arith
others_grow Read Write begun = omega arith
others_grow Write Read begun = omega arith
others_grow Write Write begun = omega arith

module _ (k : Setup) (setup : IsSetup k) (w end : World) (side : Side) (command : Command) (rest : List Command) (begun : Side → ℕ) (most : (s : Side) → begun s ≤ 256) (clean : IsClean k (FitsLater k w.sessions w.times begun) w)
    (may : MayTransfer k (server_deeds k w) (client_deeds k w) (FitsLater k w.sessions w.times begun side) side) where
  abbrev before : Side → Book → Type 0
  before = FitsLater k w.sessions w.times begun

  abbrev x : Places
  x = x_of k setup w end side command rest begun most clean may

  module _ (t : Transfer) (status : Status) (mid : World) (h : HasSurvived k x t status mid) where
    abbrev after : Side → Book → Type 0
    after = FitsLater k (w.sessions + 1) h.times (one_more side begun)

    abbrev y : Places
    y = at_turn x h.time h.times h.server

    abbrev stands : StandsDropping k y h.older mid h.session [] [] h.said
    stands = h.left.stands

    -- what the places of the end say of the client is what those of the beginning said
    at_client : AtClient k x mid.client
    at_client =
        let c : AtClient k y mid.client = stands.client in
        record { rest = c.rest; memo = c.memo; stream = c.stream; undone = c.undone; others = c.others; others_undone = c.others_undone; calls_are = c.calls_are }

    -- THE CALL OF THE TRANSFER
    own_settled : (session : Option Stage) → IsSettled session → AreSettled (own_row y.session session)
    own_settled None settled = tt
    own_settled (Some stage) settled = (settled, tt)

    own_before : (session : Option Stage) → AreBefore (y.session + 1) (own_row y.session session)
    own_before None = tt
    own_before (Some stage) = (omega arith, tt)

    own_few : (session : Option Stage) → length (own_row y.session session) ≤ 1
    own_few None = omega arith
    own_few (Some stage) = omega arith

    abbrev own_book : Book
    own_book = book_with y h.older h.session

    own_fits : after side own_book
    own_fits = record {
      service = refl;
      past = h.past;
      settled = all_join (λ (r : Row). HasSettled r.stage) h.older (own_row y.session h.session) h.set.older_are.settled (own_settled h.session h.settled);
      before =
          all_join (λ (r : Row). r.id < y.session + 1) h.older (own_row y.session h.session)
          (all_weaken (λ (r : Row). r.id < y.session) (λ (r : Row). r.id < y.session + 1) h.older (λ r low. omega (arith, low)) h.set.older_are.before) (own_before h.session);
      few =
          (let many : length h.older ≡ length (older_of k setup w end side command rest begun most clean may) = h.set.older_are.many in
          omega (arith, many, length-append h.older (own_row y.session h.session), own_few h.session, few_of k setup w end side command rest begun most clean may, own_more side begun));
    }

    -- THE CALL BESIDE
    module _ (other : Side) (c : HasCall k (server_deeds k w) (client_deeds k w) (before other) other) (apart : c.at_server ≢ x.at_server) where
      abbrev IsBeside : Type 0
      IsBeside = (b : Book) × HasStream k.rule k.server (server_deeds k mid) c.at_server c.server_opening (transfer_memo b) × after other b

      other_side : transfer_side c.server_opening.method ≡ Some other
      other_side = opened_side k setup other c.server_opening (same_side other c.server_opening c.client_opening c.same_name c.by_method) c.server_stream.known

      ticks : c.server_opening.method.ticks ≡ true
      ticks = opened_ticks k setup other c.server_opening (same_side other c.server_opening c.client_opening c.same_name c.by_method) c.server_stream.known

      fits_after : (m : Memo) (b : IsBesideAtServer k y c.server_opening m) → after other b.book
      fits_after m b =
          let same : b.side ≡ other = some_same b.side other (sym b.of_side ∙ other_side) in
          record {
            service = b.service ∙ (ap (λ s. at_time (first_book s k.server.seed).service b.book.service.time) same ∙ ap (λ (s : Service). at_time s b.book.service.time) (first_service k setup other));
            past = b.past;
            settled = b.settled;
            before = all_weaken (λ (r : Row). r.id < y.session) (λ (r : Row). r.id < y.session + 1) b.book.rows (λ r low. omega (arith, low)) b.before;
            few =
                (let few = subst (λ s. length b.book.rows ≤ y.had s) same b.few in
                omega (arith, few, had_few k (server_deeds k w) (client_deeds k w) w.sessions w.times begun other (clean.transfers other), others_grow side other begun));
          }

      found_beside : IsBeside
      found_beside =
          let found = h.set.beside.each c.at_server c.server_opening apart (still_called k setup w end side command rest begun most clean may c.at_server c.server_opening c.server_stream.opened) ticks in
          let b : IsBesideAtServer k y c.server_opening found.0 = found.2 in
          (b.book, subst (HasStream k.rule k.server (server_deeds k mid) c.at_server c.server_opening) b.memo (stands.server.others c.at_server c.server_opening found.0 apart found.1), fits_after found.0 b)

    leaves_clean : LeavesClean k before after w side x mid
    leaves_clean = record {
      under = h.left.idle;
      to_server = stands.to_server;
      to_client = stands.to_client;
      fed_server = stands.fed_server;
      fed_client = stands.fed_client;
      server = stands.server.rest;
      client = at_client;
      server_calls = stands.server.calls_are;
      book = own_book;
      stream = subst (HasStream k.rule k.server (server_deeds k mid) x.at_server x.server_opening) stands.sessions stands.server.stream;
      book_fits = own_fits;
      beside = λ other apart c differs. found_beside other c differs;
    }

    -- THE WORLD IS CLEAN AGAIN
    pub clean_again : IsClean k (FitsLater k (w.sessions + 1) h.times (one_more side begun)) mid
    clean_again = left_is_clean k setup before w clean side rest may after mid leaves_clean
