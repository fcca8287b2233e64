-- A transfer starts in the world between two commands.
use Rattle.std.proofs.Common.{◌≡◌, ◌≢◌, ℕ, zero, suc, ◌+◌, ◌<◌, ◌≤◌, ◌==◌, ◌&&◌, ◌^◌, not, Bool, true, false, if◌then◌else◌, List, [], ◌∷◌, ◌++◌, length, slice_get, Option, Some, None, refl, ap, sym, ◌∙◌, subst, inl, inr, arith}
use Rattle.std.proofs.lemmas.Bool.{and_left, and_parts, eq-eqb, eqb-true, ne_eqb}
use Rattle.std.specs.List.{AllByRecursion}
use Rattle.link_io.specs.Stored.{shelf_of}
use Rattle.link_script.specs.declared.command.Command.{Command}
use Rattle.rpc_ids.specs.Names.{name_id}
use Rattle.rpc_ids.specs.Registry.{method_of}
use Rattle.rpc_ids.specs.declared.method.MethodRef.{MethodRef}
use Rattle.rpc_ids.specs.declared.method.Role.TheVariants.{Server, Client}
use Rattle.rpc_ids.specs.declared.status.Status.{Status}
use Rattle.rpc_packet.specs.declared.call_name.CallName.{CallName}
use Rattle.rpc_packet.specs.declared.owned.Packet.{Packet}
use Rattle.rpc_handlers.specs.declared.answer.Answer.{Answer}
use Rattle.rpc_handlers.specs.declared.event.Event.TheVariants.{Request as Asked}
use Rattle.rpc_handlers.specs.HandlerRule.{HandlerRule, empty_memo}
use Rattle.rpc_journal.specs.declared.setting.Setting.{Setting}
use Rattle.rpc_journal.specs.Calls.{call_at, call_count, calls, has_end, live_call}
use Rattle.rpc_journal.specs.Effect.{Deed, Opening}
use Rattle.rpc_journal.specs.Entries.{made_from}
use Rattle.rpc_journal.specs.Kinds.{is_empty, streams_down, streams_up}
use Rattle.rpc_journal.specs.Rows.{method_named}
use Rattle.rpc_journal.proofs.PlaceLemmas.{some_same}
use Rattle.transfer_resume.specs.declared.side.Side.{Side}
use Rattle.transfer_resume.specs.declared.side.Side.TheVariants.{Read, Write}
use Rattle.transfer_resume.specs.Book.{Book, new_book, stage_of}
use Rattle.transfer_resume.specs.Session.{Row, Service}
use Rattle.demo_services.specs.declared.call.DemoCall.TheVariants.{Transfer as TransferCall}
use Rattle.demo_services.specs.DemoRule.{first, transfer_side}
use Rattle.demo_services.specs.Methods.{demo_methods, transfer_id, transfer_method}
use Rattle.demo_services.specs.ReadBack.{answer-memo_of, next-memo_of}
use Rattle.demo_services.specs.Transfer.{first_book, transfer_memo}
use Rattle.demo_services.proofs.FirstStates.{first_transfer, made_first}
use Rattle.history_laws.proofs.messages.Arrived.{live_named}
use Rattle.history_laws.proofs.messages.Members.{all_weaken}
use Rattle.history_laws.specs.rounds.Rounds.{opened_by}
use Rattle.link_laws.specs.one_run.Speaking.{opening_by}
use Rattle.link_laws.specs.world.Starts.{live_transfers, next_name, opens_with, request, starts, transfer_by}
use Rattle.link_laws.specs.world.World.{Setup, Transfer, World, client_deeds, server_deeds}
use Rattle.link_laws.specs.okay_means_bytes.Okay.{IsDemo}
use Rattle.link_laws.specs.plain_calls.Between.{AreUpTo, HasCall, HasNoCall, IsClean, MayTransfer, NoneBySide, OnlyBySide, is_by_side, side_name}
use Rattle.link_laws.specs.plain_calls.Commands.{HasGoneWell}
use Rattle.link_laws.specs.lossless_transfer.Begins.{AsksClient, Begins, BeginsOnNew, BeginsOnOld, IsIdle}
use Rattle.link_laws.specs.lossless_transfer.Finishes.{IsSetFor}
use Rattle.link_laws.specs.lossless_transfer.Shows.{ArePlaces, Places}

-- THE METHODS
abbrev pub method_id : Side → ℕ
method_id side = name_id (side_name side)

-- the method is known in both settings
known_in : (side : Side) → method_of demo_methods transfer_id (method_id side) ≡ Some (transfer_method (side_name side))
unfolding name_id
known_in Read = refl
known_in Write = refl

pub side_is : (side : Side) → transfer_side (transfer_method (side_name side)) ≡ Some side
unfolding name_id
side_is Read = refl
side_is Write = refl

-- the two methods aren't the same
pub read_not_write : (method_id Read == method_id Write) ≡ false
unfolding name_id
read_not_write = refl

pub write_not_read : (method_id Write == method_id Read) ≡ false
unfolding name_id
write_not_read = refl

-- a call of one isn't one of the other
pub not_both : (side other : Side) → (method_id side == method_id other) ≡ false → (o : Opening) → is_by_side side o ≡ true → is_by_side other o ≡ false
not_both side other apart o is =
    let parts = and_parts (o.name.service == transfer_id) (o.name.method == method_id side) is in
    at (o.name.service == transfer_id) (ap (λ m. m == method_id other) (eqb-true o.name.method (method_id side) parts.1) ∙ apart)
  where
    at : (b : Bool) → (o.name.method == method_id other) ≡ false → (b && (o.name.method == method_id other)) ≡ false
    at true differs = differs
    at false differs = refl

-- a name of these ids asks for the method
pub own_name : (side : Side) (name : CallName) → name.service ≡ transfer_id → name.method ≡ method_id side → ((name.service == transfer_id) && (name.method == method_id side)) ≡ true
own_name side name service method =
    ap (λ b. b && (name.method == method_id side)) (ap (λ s. s == transfer_id) service ∙ eq-eqb transfer_id transfer_id refl)
    ∙ (ap (λ m. m == method_id side) method ∙ eq-eqb (method_id side) (method_id side) refl)

-- a call of one name with another is of its method
pub same_side : (side : Side) (a b : Opening) → a.name ≡ b.name → is_by_side side b ≡ true → is_by_side side a ≡ true
same_side side a b same is = ap (λ (n : CallName). (n.service == transfer_id) && (n.method == method_id side)) same ∙ is

-- THE LIVE TRANSFERS
none_made : (test : ℕ → Opening → Bool) (os : List Opening) (c : ℕ) → ((j i : ℕ) (o : Opening) → slice_get os j ≡ Some o → i ≡ c + j → test i o ≡ false) → made_from c test (λ i o. i) os ≡ []
none_made test [] c each = refl
none_made test (o ∷ os) c each =
    ap (λ b. if b then c ∷ made_from (c + 1) test (λ i o. i) os else made_from (c + 1) test (λ i o. i) os) (each zero c o refl (omega arith))
    ∙ none_made test os (c + 1) (λ j i x there is. each (suc j) i x there (omega (arith, is)))

one_made : (test : ℕ → Opening → Bool) (os : List Opening) (c j k : ℕ) (o : Opening) → slice_get os j ≡ Some o → k ≡ c + j → test k o ≡ true
    → ((n i : ℕ) (x : Opening) → slice_get os n ≡ Some x → i ≡ c + n → i ≢ k → test i x ≡ false) → made_from c test (λ i o. i) os ≡ k ∷ []
one_made test [] c j k o there is holds others = absurd cc
one_made test (x ∷ os) c zero k o there is holds others =
    let here : k ≡ c = omega (arith, is) in
    let first : test c x ≡ true = ap (λ y. test c y) (some_same x o there) ∙ (ap (λ i. test i o) (sym here) ∙ holds) in
    ap (λ b. if b then c ∷ made_from (c + 1) test (λ i o. i) os else made_from (c + 1) test (λ i o. i) os) first
    ∙ (ap (λ xs. c ∷ xs) (none_made test os (c + 1) (λ n i y at e. others (suc n) i y at (omega (arith, e)) (λ same. omega (arith, e, same, here)))) ∙ ap (λ i. i ∷ []) (sym here))
one_made test (x ∷ os) c (suc j) k o there is holds others =
    ap (λ b. if b then c ∷ made_from (c + 1) test (λ i o. i) os else made_from (c + 1) test (λ i o. i) os) (others zero c x refl (omega arith) (λ same. omega (arith, same, is)))
    ∙ one_made test os (c + 1) j k o there (omega (arith, is)) holds (λ n i y at e apart. others (suc n) i y at (omega (arith, e)) apart)

module _ (ds : List Deed) (side : Side) where
  live_test : ℕ → Opening → Bool
  live_test c o = is_by_side side o && not (has_end ds c)

  pub none_live : NoneBySide side ds → live_transfers (method_id side) ds ≡ []
  none_live none =
      none_made (λ c o. is_by_side side o && not (has_end ds c)) (calls ds) 0
      (λ j i o there is. and_left (is_by_side side o) (not (has_end ds i)) (none j o there))

  pub one_live : (c : ℕ) (o : Opening) → call_at ds c ≡ Some o → is_by_side side o ≡ true → has_end ds c ≡ false → OnlyBySide side ds c → live_transfers (method_id side) ds ≡ c ∷ []
  one_live c o there is unended only =
      one_made (λ c o. is_by_side side o && not (has_end ds c)) (calls ds) 0 c c o there (omega arith) (rw (is, unended) refl)
      (λ n i x at e apart. other i x (ap (slice_get (calls ds)) (place i n e) ∙ at) apart (is_by_side side x) refl)
    where
      place : (i n : ℕ) → i ≡ 0 + n → i ≡ n
      place i n e = omega (arith, e)

      other : (i : ℕ) (x : Opening) → call_at ds i ≡ Some x → i ≢ c → (b : Bool) → is_by_side side x ≡ b → (is_by_side side x && not (has_end ds i)) ≡ false
      other i x at apart false e = and_left (is_by_side side x) (not (has_end ds i)) e
      other i x at apart true e = absurd (apart (only i x at e))

-- no live call has a name with a larger number
pub fresh_name : (ds : List Deed) (n : ℕ) (name : CallName) → AreUpTo n ds → n < name.call → live_call ds name ≡ None
fresh_name ds n name names more = at (live_call ds name) refl
  where
    at_place : (os : List Opening) (c : ℕ) (o : Opening) → AllByRecursion (λ (x : Opening). x.name.call ≤ n) os → slice_get os c ≡ Some o → o.name.call ≤ n
    at_place [] c o all is = absurd cc
    at_place (x ∷ os) zero o all is = subst (λ (y : Opening). y.name.call ≤ n) (some_same x o is) all.0
    at_place (x ∷ os) (suc c) o all is = at_place os c o all.1 is

    at : (l : Option ℕ) → live_call ds name ≡ l → live_call ds name ≡ None
    at None e = e
    at (Some c) e =
        let named = live_named ds name c e in
        absurd (omega (arith, more, at_place (calls ds) c named.opening names named.there, ap (λ (x : CallName). x.call) named.name_is))

-- how many sessions the call of a method has had; none, where it wasn't opened
abbrev pub had_sessions : (k : Setup) (sds cds : List Deed) (fits : Book → Type 0) (side : Side) → MayTransfer k sds cds fits side → ℕ
had_sessions k sds cds fits side (inl none) = 0
had_sessions k sds cds fits side (inr h) = length h.book.rows

-- A SETUP OF A SCRIPT
pub record IsSetup (k : Setup) : Type 0 where
  pub demo : IsDemo k
  pub window : 1 ≤ k.window
  pub chunk : 1 ≤ k.chunk

-- what the sessions of a call share, once it was told of this moment
abbrev pub service_at : Setup → Side → ℕ → Service
service_at k side time = record { side = side; shelf = shelf_of k.server_store; window = k.window; chunk = k.chunk; time = time }

abbrev pub service_of : Setup → Side → Service
service_of k side = service_at k side 0

-- A call that reads, or one that writes, works as it was made, but for the time. So many sessions were begun by now; those of the
-- call are among them, and there is room for one more.
pub record IsKnown (k : Setup) (sessions : ℕ) (side : Side) (book : Book) : Type 0 where
  pub service : book.service ≡ service_at k side book.service.time
  pub known : AllByRecursion (λ r. r.id ≤ sessions) book.rows
  pub room : length book.rows < 256

-- where no time has passed, and so many sessions were begun at most
pub record FitsStill (k : Setup) (sessions : ℕ) (begun : Side → ℕ) (side : Side) (book : Book) : Type 0 where
  pub service : book.service ≡ service_of k side
  pub known : AllByRecursion (λ r. r.id ≤ sessions) book.rows
  pub few : length book.rows ≤ begun side

pub still_known : (k : Setup) (sessions : ℕ) (begun : Side → ℕ) (side : Side) → begun side < 256 → (book : Book) → FitsStill k sessions begun side book → IsKnown k sessions side book
still_known k sessions begun side room book fits = record {
  service = fits.service ∙ ap (λ time. service_at k side time) (sym (ap (λ (s : Service). s.time) fits.service));
  known = fits.known;
  room = (let few = fits.few in omega (arith, few, room));
}

module _ (k : Setup) (setup : IsSetup k) where
  abbrev book_of : Side → Book
  book_of side = new_book side (shelf_of k.server_store) k.window k.chunk

  pub first_service : (side : Side) → (first_book side k.server.seed).service ≡ service_of k side
  first_service side =
      ap (λ (set : Setting). (first_book side set.seed).service) setup.demo.server
      ∙ ap (λ (b : Book). b.service) (first_transfer side (shelf_of k.server_store) k.window k.chunk)

  -- a new call of the service
  first_state : (side : Side) → k.rule.first k.server.seed (transfer_method (side_name side)) ≡ transfer_memo (book_of side)
  first_state side =
      ap (λ (rule : HandlerRule). rule.first k.server.seed (transfer_method (side_name side))) setup.demo.rule
      ∙ (ap (λ (set : Setting). first set.seed (transfer_method (side_name side))) setup.demo.server
      ∙ sym (made_first side (shelf_of k.server_store) k.window k.chunk (transfer_method (side_name side)) (book_of side) (side_is side) refl))

  pub asked_state : (side : Side) → k.rule.next (k.rule.first k.server.seed (transfer_method (side_name side))) (Asked []) ≡ transfer_memo (book_of side)
  asked_state side =
      ap (λ m. k.rule.next m (Asked [])) (first_state side)
      ∙ (ap (λ (rule : HandlerRule). rule.next (transfer_memo (book_of side)) (Asked [])) setup.demo.rule
      ∙ sym (next-memo_of (TransferCall (book_of side)) (Asked [])))

  pub asked_silent : (side : Side) → k.rule.answer (k.rule.first k.server.seed (transfer_method (side_name side))) (Asked []) ≡ record { items = []; end = None }
  asked_silent side =
      ap (λ m. k.rule.answer m (Asked [])) (first_state side)
      ∙ (ap (λ (rule : HandlerRule). rule.answer (transfer_memo (book_of side)) (Asked [])) setup.demo.rule
      ∙ sym (answer-memo_of (TransferCall (book_of side)) (Asked [])))

  pub known_server : (side : Side) (name : CallName) → name.service ≡ transfer_id → name.method ≡ method_id side → method_named k.server name ≡ Some (transfer_method (side_name side))
  known_server side name service method =
      ap (λ (set : Setting). method_of set.registry name.service name.method) setup.demo.server
      ∙ (ap (λ s. method_of demo_methods s name.method) service ∙ (ap (method_of demo_methods transfer_id) method ∙ known_in side))

  pub known_client : (side : Side) (name : CallName) → name.service ≡ transfer_id → name.method ≡ method_id side → method_named k.client name ≡ Some (transfer_method (side_name side))
  known_client side name service method =
      ap (λ (set : Setting). method_of set.registry name.service name.method) setup.demo.client
      ∙ (ap (λ s. method_of demo_methods s name.method) service ∙ (ap (method_of demo_methods transfer_id) method ∙ known_in side))

  -- the methods of an open call
  client_method : (side : Side) (o : Opening) → is_by_side side o ≡ true → method_named k.client o.name ≡ Some o.method → transfer_method (side_name side) ≡ o.method
  client_method side o is known =
      let parts = and_parts (o.name.service == transfer_id) (o.name.method == method_id side) is in
      some_same (transfer_method (side_name side)) o.method (sym (known_client side o.name (eqb-true o.name.service transfer_id parts.0) (eqb-true o.name.method (method_id side) parts.1)) ∙ known)

  pub server_method : (side : Side) (o : Opening) → is_by_side side o ≡ true → method_named k.server o.name ≡ Some o.method → transfer_method (side_name side) ≡ o.method
  server_method side o is known =
      let parts = and_parts (o.name.service == transfer_id) (o.name.method == method_id side) is in
      some_same (transfer_method (side_name side)) o.method (sym (known_server side o.name (eqb-true o.name.service transfer_id parts.0) (eqb-true o.name.method (method_id side) parts.1)) ∙ known)

  pub server_role : k.server.role ≡ Server
  server_role = ap (λ (set : Setting). set.role) setup.demo.server

  pub client_role : k.client.role ≡ Client
  client_role = ap (λ (set : Setting). set.role) setup.demo.client

  -- THE PLACES
  module _ (fits : Side → Book → Type 0) (w : World) (clean : IsClean k fits w) (side : Side) (rest : List Command) where
    abbrev cds : List Deed
    cds = client_deeds k w

    abbrev sds : List Deed
    sds = server_deeds k w

    abbrev name : CallName
    name = next_name transfer_id (method_id side) cds

    abbrev asks : Packet
    asks = request name []

    abbrev method : MethodRef
    method = transfer_method (side_name side)

    abbrev pub new_client : Opening
    new_client = opening_by asks method empty_memo

    abbrev pub new_server : Opening
    new_server = opened_by asks method

    abbrev There : Type 0
    There = HasCall k sds cds (fits side) side

    abbrev May : Type 0
    May = MayTransfer k sds cds (fits side) side

    abbrev server_place : May → ℕ
    server_place (inl none) = call_count sds
    server_place (inr h) = h.at_server

    abbrev server_opened : May → Opening
    server_opened (inl none) = new_server
    server_opened (inr h) = h.server_opening

    abbrev client_place : May → ℕ
    client_place (inl none) = call_count cds
    client_place (inr h) = h.at_client

    abbrev client_opened : May → Opening
    client_opened (inl none) = new_client
    client_opened (inr h) = h.client_opening

    -- the moment that the call was told of last
    abbrev pub told_time : May → ℕ
    told_time (inl none) = 0
    told_time (inr h) = h.book.service.time

    -- how many sessions each call of the transfer service had before
    abbrev pub had_before : Side → ℕ
    had_before other = had_sessions k sds cds (fits other) other (clean.transfers other)

    abbrev pub sessions_before : May → List Row
    sessions_before (inl none) = []
    sessions_before (inr h) = h.book.rows

    abbrev server_calls_with : May → List Opening
    server_calls_with (inl none) = calls sds ++ new_server ∷ []
    server_calls_with (inr h) = calls sds

    abbrev client_calls_with : May → List Opening
    client_calls_with (inl none) = calls cds ++ new_client ∷ []
    client_calls_with (inr h) = calls cds

    abbrev pub numbered_with : May → List Packet
    numbered_with (inl none) = w.numbered ++ asks ∷ []
    numbered_with (inr h) = w.numbered

    -- in a new call, or in the one that is open
    abbrev pub places_for : May → Places
    places_for may = record {
      session = w.sessions + 1;
      at_server = server_place may;
      server_opening = server_opened may;
      at_client = client_place may;
      client_opening = client_opened may;
      service = service_at k side (told_time may);
      older = length (sessions_before may);
      had = had_before;
      server = w.server;
      client = w.client;
      server_calls = server_calls_with may;
      client_calls = client_calls_with may;
      coming = rest;
      lines = w.lines;
      numbered = numbered_with may;
      times = w.times;
    }

    abbrev pub new_places : HasNoCall k sds cds (fits side) side → Places
    new_places none = places_for (inl none)

    abbrev pub old_places : There → Places
    old_places h = places_for (inr h)

    module _ (known : (book : Book) → fits side book → IsKnown k w.sessions side book) where
      pub known_book : (h : There) → IsKnown k w.sessions side h.book
      known_book h = known h.book h.book_fits

      -- the command starts this transfer
      module _ (command : Command) (t : Transfer) (asking : AsksClient command) (coming : w.coming ≡ command ∷ rest) (good : HasGoneWell k w)
          (so : starts k w command ≡ transfer_by w (live_transfers (method_id side) cds) (opens_with transfer_id (method_id side) [] cds) (call_count cds) t) where
        pub idle : (x : Places) → x.coming ≡ rest → x.lines ≡ w.lines → x.times ≡ w.times → x.server ≡ w.server → x.client ≡ w.client → IsIdle x w command
        idle x coming_is lines times server client = record {
          to_server = clean.to_server;
          to_client = clean.to_client;
          fed_server = clean.fed_server;
          fed_client = clean.fed_client;
          under = clean.under;
          coming = coming ∙ ap (λ cs. command ∷ cs) (sym coming_is);
          lines = sym lines;
          times = sym times;
          server = sym server;
          client = sym client;
        }

        pub started_by : (live : List ℕ) → live_transfers (method_id side) cds ≡ live
            → starts k w command ≡ transfer_by w live (opens_with transfer_id (method_id side) [] cds) (call_count cds) t
        started_by live is = so ∙ ap (λ l. transfer_by w l (opens_with transfer_id (method_id side) [] cds) (call_count cds) t) is

        abbrev pub on_new : (none : HasNoCall k sds cds (fits side) side) → BeginsOnNew k (new_places none) w command t
        on_new none = record {
          idle = idle (new_places none) refl refl refl refl refl;
          method = method;
          client = record {
            rest = clean.client;
            lawful = good.client;
            role = client_role;
            channel = clean.client_channel;
            known = known_client side name refl refl;
            up = refl;
            down = refl;
            fresh = fresh_name cds (call_count cds) name clean.client_names (omega arith);
            type = refl;
            call = refl;
          };
          server = record {
            rest = clean.server;
            lawful = good.server;
            role = server_role;
            type = refl;
            channel = clean.server_channel;
            known = known_server side name refl refl;
            streams = refl;
            fresh = fresh_name sds (call_count cds) name clean.server_names (omega arith);
            endless = ap (λ (a : Answer). a.end) (asked_silent side);
          };
          client_opening = refl;
          server_opening = refl;
          at_server = refl;
          client_calls = refl;
          server_calls = refl;
          serves = record { book = book_of side; memo = asked_state side; service = refl; stage_is = refl; known = tt; many = refl };
          silent = asked_silent side;
          numbered = refl;
          starts_so = started_by [] (none_live cds side none.client);
        }

        -- no row has a later id
        pub no_row : (rows : List Row) → AllByRecursion (λ r. r.id ≤ w.sessions) rows → stage_of (w.sessions + 1) rows ≡ None
        no_row [] all = refl
        no_row (r ∷ rows) all =
            let low : r.id ≤ w.sessions = all.0 in
            ap (λ b. if b then Some r.stage else stage_of (w.sessions + 1) rows) (ne_eqb r.id (w.sessions + 1) (λ same. omega (arith, same, low))) ∙ no_row rows all.1

        module _ (h : There) where
          pub still_live : has_end cds h.at_client ≡ false
          still_live = ap (λ (es : List Status). not (is_empty es)) h.client_stream.unended

          abbrev pub on_old : BeginsOnOld k (old_places h) w command t
          on_old = record {
            idle = idle (old_places h) refl refl refl refl refl;
            server = record {
              rest = clean.server;
              memo = transfer_memo h.book;
              stream = h.server_stream;
              serves = record {
                book = h.book;
                memo = refl;
                service = (known_book h).service;
                stage_is = no_row h.book.rows (known_book h).known;
                known = all_weaken (λ (r : Row). r.id ≤ w.sessions) (λ (r : Row). r.id ≤ w.sessions + 1) h.book.rows (λ r low. omega (arith, low)) (known_book h).known;
                many = omega arith;
              };
              others = λ other o m apart there. there;
              calls_are = refl;
            };
            client = record {
              rest = clean.client;
              memo = h.client_memo;
              stream = h.client_stream;
              undone = h.undone;
              others = λ other o m apart there. there;
              others_undone = λ c apart undone. undone;
              calls_are = refl;
            };
            numbered = refl;
            starts_so = started_by (h.at_client ∷ []) (one_live cds side h.at_client h.client_opening h.client_stream.opened h.by_method still_live h.only);
          }

        pub begins : (may : May) → Begins k (places_for may) w t
        begins (inl none) = record { command = command; asks = asking; how = inr (on_new none) }
        begins (inr h) = record { command = command; asks = asking; how = inl (on_old h) }

      pub are_places : w.sessions + 1 < 2 ^ 32 → (may : May) → ArePlaces (places_for may)
      are_places small (inl none) = record {
        session = small;
        some_session = ne_eqb (w.sessions + 1) 0 (λ same. omega (arith, same));
        room = omega arith;
        named = refl;
        up = refl;
        down = refl;
      }
      are_places small (inr h) =
          let client : method ≡ h.client_opening.method = client_method side h.client_opening h.by_method h.client_stream.known in
          let server : method ≡ h.server_opening.method = server_method side h.server_opening (same_side side h.server_opening h.client_opening h.same_name h.by_method) h.server_stream.known in
          record {
            session = small;
            some_session = ne_eqb (w.sessions + 1) 0 (λ same. omega (arith, same));
            room = (known_book h).room;
            named = sym h.same_name;
            up = ap (λ (m : MethodRef). streams_up m.kind) (sym client);
            down = ap (λ (m : MethodRef). streams_down m.kind) (sym server);
          }

      pub is_set : k.losses ≡ [] → w.times ≡ 0 → w.sessions + 1 < 2 ^ 32 → (may : May) → IsSetFor k (places_for may)
      is_set losses timeless small may = record {
        lossless = record { rule = setup.demo.rule; server = server_role; client = client_role; losses = losses };
        places = are_places small may;
        window = setup.demo.window;
        chunk = setup.demo.chunk;
        early = omega (arith, timeless);
      }
