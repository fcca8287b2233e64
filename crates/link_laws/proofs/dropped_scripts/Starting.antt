-- A transfer starts in the world between two commands, over links that drop frames.
use Rattle.std.proofs.Common.{◌≡◌, ◌≢◌, ◌⊎◌, ℕ, ◌+◌, ◌*◌, ◌<◌, ◌≤◌, ◌==◌, ◌^◌, Bool, true, false, if◌then◌else◌, List, [], ◌∷◌, length, slice_get, Some, None, refl, ap, sym, ◌∙◌, subst, inl, inr, arith}
use Rattle.std.specs.Prelude.{find}
use Rattle.std.proofs.lemmas.Bool.{and_parts, eq-eqb, eqb-true, true≢false}
use Rattle.std.proofs.lemmas.List.{append-nil}
use Rattle.std.proofs.lemmas.Option.{slice_get_within}
use Rattle.std.specs.List.{AllByRecursion}
use Rattle.link_script.specs.declared.command.Command.{Command}
use Rattle.rpc_ids.specs.Registry.{has_ids, method_of}
use Rattle.rpc_ids.specs.declared.method.MethodRef.{MethodRef}
use Rattle.rpc_packet.specs.declared.call_name.CallName.{CallName}
use Rattle.rpc_packet.specs.declared.owned.Packet.{Packet}
use Rattle.rpc_handlers.specs.declared.event.Memo.{Memo}
use Rattle.rpc_journal.specs.declared.setting.Setting.{Setting}
use Rattle.rpc_journal.specs.Calls.{call_at, call_count, calls}
use Rattle.rpc_journal.specs.Effect.{Deed, Opening}
use Rattle.rpc_journal.specs.History.{history}
use Rattle.rpc_journal.specs.Rows.{method_named}
use Rattle.rpc_journal.proofs.PlaceLemmas.{get_front, some_same}
use Rattle.transfer_base.specs.declared.limits.TheConstants.{TIMEOUT}
use Rattle.transfer_resume.specs.declared.side.Side.{Side}
use Rattle.transfer_resume.specs.declared.side.Side.TheVariants.{Read, Write}
use Rattle.transfer_resume.specs.Book.{Book}
use Rattle.transfer_resume.specs.Session.{Row, Service}
use Rattle.demo_services.specs.DemoRule.{transfer_side}
use Rattle.demo_services.specs.Methods.{demo_methods, transfer_id, transfer_method}
use Rattle.demo_services.specs.Transfer.{transfer_memo}
use Rattle.history_laws.proofs.messages.Members.{all_join, all_weaken}
use Rattle.history_laws.proofs.messages.Methods.{calls_have_their_methods}
use Rattle.history_laws.specs.rounds.Streams.{HasStream}
use Rattle.transfer_laws.specs.losses.Drops.{at_time}
use Rattle.link_laws.specs.declared.world.limits.TheConstants.{TURN_OF_TIME}
use Rattle.link_laws.specs.world.Starts.{live_transfers, next_name, opens_with, request, starts, transfer_by}
use Rattle.link_laws.specs.world.World.{Setup, Transfer, World, client_deeds, server_deeds}
use Rattle.link_laws.specs.plain_calls.Between.{HasCall, IsClean, MayTransfer, is_by_side, side_name}
use Rattle.link_laws.specs.plain_calls.Commands.{HasGoneWell}
use Rattle.link_laws.specs.lossless_transfer.Begins.{AsksClient}
use Rattle.link_laws.specs.lossless_transfer.Chunks.{is_chunk_of}
use Rattle.link_laws.specs.lossless_transfer.Finishes.{RunsOut}
use Rattle.link_laws.specs.lossless_transfer.Shows.{Places}
use Rattle.link_laws.specs.dropped_transfer.Dropped.{DropsChunks}
use Rattle.link_laws.specs.dropped_transfer.Passing.{IsBesideAtClient}
use Rattle.link_laws.specs.dropped_transfer.Sessions.{AreBefore, AreBeside, AreSettled, IsBesideAtServer, IsSetForDrops, book_with}
use Rattle.link_laws.specs.dropped_transfer.Shows.{HasNumbered}
use Rattle.link_laws.specs.dropped_transfer.Survives.{OpensAnew, OpensThere, CanEnd}
use Rattle.link_laws.proofs.lossless_scripts.Walking.{none_counted}
use Rattle.link_laws.proofs.lossless_scripts.Finishing.{IsPlaced, placed}
use Rattle.link_laws.proofs.lossless_scripts.Starting.{IsKnown, IsSetup, are_places, asked_state, client_role, first_service, had_sessions, method_id, new_server, not_both, numbered_with, old_places, on_new, on_old, own_name, places_for, read_not_write, same_side, server_method, server_role, service_at, sessions_before, side_is, told_time, write_not_read}

-- WHAT THE SERVER KEEPS OF A CALL BETWEEN TWO COMMANDS. So many sessions were begun by now, so many in each call at most, and so many
-- turns of time have passed. Its sessions have settled.
pub record FitsLater (k : Setup) (sessions times : ℕ) (begun : Side → ℕ) (side : Side) (book : Book) : Type 0 where
  pub service : book.service ≡ service_at k side book.service.time
  pub past : book.service.time ≤ TURN_OF_TIME * times
  pub settled : AreSettled book.rows
  pub before : AreBefore (sessions + 1) book.rows
  pub few : length book.rows ≤ begun side

-- no chunk is of a later session
abbrev pub NoneLater : ℕ → List Packet → Type 0
NoneLater sessions numbered = AllByRecursion (λ p. (later : ℕ) → sessions < later → is_chunk_of later p ≡ false) numbered

-- a call has had no more sessions than were begun in it
pub had_few : (k : Setup) (sds cds : List Deed) (sessions times : ℕ) (begun : Side → ℕ) (side : Side) (may : MayTransfer k sds cds (FitsLater k sessions times begun side) side)
    → had_sessions k sds cds (FitsLater k sessions times begun side) side may ≤ begun side
had_few k sds cds sessions times begun side (inl none) = omega arith
had_few k sds cds sessions times begun side (inr h) = h.book_fits.few

-- THE METHODS THAT ARE TOLD OF THE TIME
abbrev IsTicking : MethodRef → Type 0
IsTicking m = m.ticks ≡ true → (side : Side) × (m ≡ transfer_method (side_name side))

each_ticking : AllByRecursion IsTicking demo_methods
each_ticking =
    ((λ e. absurd (true≢false (sym e))), ((λ e. absurd (true≢false (sym e))), ((λ e. absurd (true≢false (sym e))), ((λ e. absurd (true≢false (sym e))), ((λ e. absurd (true≢false (sym e))), ((λ e. (Read, refl)), ((λ e. (Write, refl)), tt)))))))

-- what is found is one of them, and passes the test
module _ {A : Type 0} (P : A → Type 0) (test : A → Bool) where
  record IsFound (a : A) : Type 0 where
    passes : test a ≡ true
    holds : P a

  is_found : (bs : List A) → AllByRecursion P bs → (a : A) → find test bs ≡ Some a → IsFound a
  is_found [] all a is = absurd cc
  is_found (b ∷ bs) all a is = at (test b) refl is (λ more. is_found bs all.1 a more)
    where
      at : (t : Bool) → test b ≡ t → (if t then Some b else find test bs) ≡ Some a → (find test bs ≡ Some a → IsFound a) → IsFound a
      at true passes same later = subst IsFound (some_same b a same) (record { passes = passes; holds = all.0 })
      at false fails more later = later more

-- a call that is told of the time is one of the transfer service
ticking_side : (k : Setup) → IsSetup k → (o : Opening) → method_named k.server o.name ≡ Some o.method → o.method.ticks ≡ true → (side : Side) × (is_by_side side o ≡ true)
ticking_side k setup o named ticks =
    let found = is_found IsTicking (has_ids o.name.service o.name.method) demo_methods each_ticking o.method (sym (ap (λ (set : Setting). method_of set.registry o.name.service o.name.method) setup.demo.server) ∙ named) in
    let of_side = found.holds ticks in
    let parts = and_parts (o.method.service == o.name.service) (o.method.method == o.name.method) found.passes in
    let service : o.name.service ≡ transfer_id = sym (eqb-true o.method.service o.name.service parts.0) ∙ ap (λ (m : MethodRef). m.service) of_side.1 in
    let method : o.name.method ≡ method_id of_side.0 = sym (eqb-true o.method.method o.name.method parts.1) ∙ ap (λ (m : MethodRef). m.method) of_side.1 in
    (of_side.0, own_name of_side.0 o.name service method)

-- the side of a method that a call was opened for
pub opened_side : (k : Setup) → IsSetup k → (side : Side) (o : Opening) → is_by_side side o ≡ true → method_named k.server o.name ≡ Some o.method → transfer_side o.method ≡ Some side
opened_side k setup side o is known = sym (ap transfer_side (server_method k setup side o is known)) ∙ side_is side

-- it is told of the time
pub opened_ticks : (k : Setup) → IsSetup k → (side : Side) (o : Opening) → is_by_side side o ≡ true → method_named k.server o.name ≡ Some o.method → o.method.ticks ≡ true
opened_ticks k setup side o is known = ap (λ (m : MethodRef). m.ticks) (sym (server_method k setup side o is known))

-- the other method is this one, or another
differs : (one other : Side) → (other ≡ one) ⊎ ((method_id one == method_id other) ≡ false)
differs Read Read = inl refl
differs Read Write = inr read_not_write
differs Write Read = inr write_not_read
differs Write Write = inl refl

module _ (k : Setup) (setup : IsSetup k) (w end : World) (side : Side) (command : Command) (rest : List Command) (begun : Side → ℕ) (most : (s : Side) → begun s ≤ 256) (clean : IsClean k (FitsLater k w.sessions w.times begun) w) where
  abbrev pub fits : Side → Book → Type 0
  fits = FitsLater k w.sessions w.times begun

  abbrev sds : List Deed
  sds = server_deeds k w

  abbrev cds : List Deed
  cds = client_deeds k w

  abbrev pub May : Type 0
  May = MayTransfer k sds cds (fits side) side

  abbrev pub x_of : May → Places
  x_of may = places_for k setup fits w clean side rest may

  abbrev pub older_of : May → List Row
  older_of may = sessions_before k setup fits w clean side rest may

  pub known : begun side < 256 → (book : Book) → fits side book → IsKnown k w.sessions side book
  known room book f = record {
    service = f.service;
    known = all_weaken (λ (r : Row). r.id < w.sessions + 1) (λ (r : Row). r.id ≤ w.sessions) book.rows (λ r low. omega (arith, low)) f.before;
    room = (let few = f.few in omega (arith, few, room));
  }

  -- the sessions of the call so far
  pub settled_of : (may : May) → AreSettled (older_of may)
  settled_of (inl none) = tt
  settled_of (inr h) = h.book_fits.settled

  pub before_of : (may : May) → AreBefore (w.sessions + 1) (older_of may)
  before_of (inl none) = tt
  before_of (inr h) = h.book_fits.before

  -- there are no more than were begun
  pub few_of : (may : May) → length (older_of may) ≤ begun side
  few_of (inl none) = omega arith
  few_of (inr h) = h.book_fits.few

  past_of : (may : May) → told_time k setup fits w clean side rest may ≤ TURN_OF_TIME * w.times
  past_of (inl none) = omega arith
  past_of (inr h) = h.book_fits.past

  -- the name of the call
  own_by : (may : May) → is_by_side side (x_of may).client_opening ≡ true
  own_by may = (placed k setup fits w clean side rest may).at_client.is_by

  own_service : (may : May) → (x_of may).client_opening.name.service ≡ transfer_id
  own_service may =
      let name : CallName = (x_of may).client_opening.name in
      eqb-true name.service transfer_id (and_parts (name.service == transfer_id) (name.method == method_id side) (own_by may)).0

  pub own_method : (may : May) → (x_of may).client_opening.name.method ≡ method_id side
  own_method may =
      let name : CallName = (x_of may).client_opening.name in
      eqb-true name.method (method_id side) (and_parts (name.service == transfer_id) (name.method == method_id side) (own_by may)).1

  own_ticks : (may : May) → (x_of may).server_opening.method.ticks ≡ true
  own_ticks (inl none) = refl
  own_ticks (inr h) = opened_ticks k setup side h.server_opening (same_side side h.server_opening h.client_opening h.same_name h.by_method) h.server_stream.known

  -- the calls of before are there still
  pub still_called : (may : May) (c : ℕ) (o : Opening) → call_at sds c ≡ Some o → slice_get (x_of may).server_calls c ≡ Some o
  still_called (inl none) c o there = get_front (calls sds) (new_server k setup fits w clean side rest ∷ []) c (slice_get_within (calls sds) c o there) ∙ there
  still_called (inr h) c o there = there

  -- THE CALL BESIDE
  module _ (may : May) where
    abbrev x : Places
    x = x_of may

    place : IsPlaced k setup fits w clean side rest x
    place = placed k setup fits w clean side rest may

    -- the two ends of the call of the other method
    module _ (other : Side) (back : (method_id other == method_id side) ≡ false) (h : HasCall k sds cds (fits other) other) where
      beside_client : IsBesideAtClient k x h.server_opening.name
      beside_client = record {
        call = h.at_client;
        opening = h.client_opening;
        memo = h.client_memo;
        stream = h.client_stream;
        apart = place.at_client.apart h.at_client h.client_opening h.client_stream.opened (not_both other side back h.client_opening h.by_method);
        named = sym h.same_name;
      }

      beside_server : clean.transfers other ≡ inr h → IsBesideAtServer k x h.server_opening (transfer_memo h.book)
      beside_server is =
          let f : FitsLater k w.sessions w.times begun other h.book = h.book_fits in
          record {
            book = h.book;
            memo = refl;
            settled = f.settled;
            before = f.before;
            side = other;
            of_side = opened_side k setup other h.server_opening (same_side other h.server_opening h.client_opening h.same_name h.by_method) h.server_stream.known;
            service = f.service ∙ ap (λ (s : Service). at_time s h.book.service.time) (sym (first_service k setup other));
            past = f.past;
            few = (let had : x.had other ≡ length h.book.rows = ap (had_sessions k sds cds (fits other) other) is in omega (arith, had));
            room = (let few = f.few in omega (arith, few, most other));
            at_client = beside_client;
          }

    abbrev IsBeside : ℕ → Opening → Type 0
    IsBeside c o = (m : Memo) × HasStream k.rule k.server (history k.server x.server) c o m × IsBesideAtServer k x o m

    -- a call that is told of the time is the one of the transfer, or that of the other method
    record IsOther (c : ℕ) (o : Opening) : Type 0 where
      other : Side
      apart : (method_id other == method_id side) ≡ false
      there : call_at sds c ≡ Some o
      is_by : is_by_side other o ≡ true

    is_other : (c : ℕ) (o : Opening) → c ≢ x.at_server → slice_get x.server_calls c ≡ Some o → o.method.ticks ≡ true → IsOther c o
    is_other c o away called ticks = before (place.at_server.before c o called)
      where
        by_method : call_at sds c ≡ Some o → (t : (s : Side) × (is_by_side s o ≡ true)) → (side ≡ t.0) ⊎ ((method_id t.0 == method_id side) ≡ false) → IsOther c o
        by_method there t (inl same) = absurd (away (place.at_server.only c o there (subst (λ s. is_by_side s o ≡ true) (sym same) t.1)))
        by_method there t (inr apart) = record { other = t.0; apart = apart; there = there; is_by = t.1 }

        before : (call_at sds c ≡ Some o) ⊎ ((c ≡ x.at_server) × (o ≡ x.server_opening)) → IsOther c o
        before (inl there) =
            let t = ticking_side k setup o (calls_have_their_methods k.server w.server c o there) ticks in
            by_method there t (differs t.0 side)
        before (inr own) = absurd (away own.0)

    -- it is that call
    by_call : (c : ℕ) (o : Opening) (i : IsOther c o) → (h : HasCall k sds cds (fits i.other) i.other) → clean.transfers i.other ≡ inr h → IsBeside c o
    by_call c o i h is =
        let here : c ≡ h.at_server = h.only_server c o i.there i.is_by in
        let opening : h.server_opening ≡ o = some_same h.server_opening o (sym h.server_stream.opened ∙ (ap (call_at sds) (sym here) ∙ i.there)) in
        subst (λ n. IsBeside n o) (sym here) (subst (IsBeside h.at_server) opening (transfer_memo h.book, h.server_stream, beside_server i.other i.apart h is))

    one_beside : (c : ℕ) (o : Opening) (i : IsOther c o) → (m : MayTransfer k sds cds (fits i.other) i.other) → clean.transfers i.other ≡ m → IsBeside c o
    one_beside c o i (inl none) is = absurd (true≢false (sym i.is_by ∙ none.server c o i.there))
    one_beside c o i (inr h) is = by_call c o i h is

    -- what isn't this method is the other
    same_other : (s a b : Side) → (method_id a == method_id s) ≡ false → (method_id b == method_id s) ≡ false → a ≡ b
    same_other Read Read b first second = absurd (true≢false (sym (eq-eqb (method_id Read) (method_id Read) refl) ∙ first))
    same_other Read Write Read first second = absurd (true≢false (sym (eq-eqb (method_id Read) (method_id Read) refl) ∙ second))
    same_other Read Write Write first second = refl
    same_other Write Write b first second = absurd (true≢false (sym (eq-eqb (method_id Write) (method_id Write) refl) ∙ first))
    same_other Write Read Write first second = absurd (true≢false (sym (eq-eqb (method_id Write) (method_id Write) refl) ∙ second))
    same_other Write Read Read first second = refl

    one_at_most : (c d : ℕ) (o p : Opening) (i : IsOther c o) (j : IsOther d p) → MayTransfer k sds cds (fits i.other) i.other → c ≡ d
    one_at_most c d o p i j (inl none) = absurd (true≢false (sym i.is_by ∙ none.server c o i.there))
    one_at_most c d o p i j (inr h) =
        let second : d ≡ h.at_server = h.only_server d p j.there (subst (λ s. is_by_side s p ≡ true) (same_other side j.other i.other j.apart i.apart) j.is_by) in
        h.only_server c o i.there i.is_by ∙ sym second

    are_beside : AreBeside k x
    are_beside = record {
      each = λ c o away called ticks. (let i = is_other c o away called ticks in one_beside c o i (clean.transfers i.other) refl);
      one = λ c d o p first second there_first there_second ticks_first ticks_second.
          let i = is_other c o first there_first ticks_first in
          one_at_most c d o p i (is_other d p second there_second ticks_second) (clean.transfers i.other);
    }

    is_set_for_drops : begun side < 256 → DropsChunks k end → w.sessions + 1 < 2 ^ 32 → IsSetForDrops k x (older_of may)
    is_set_for_drops room drops small = record {
      only = record { rule = setup.demo.rule; server = server_role k setup; client = client_role k setup; drops = drops.drops };
      places = are_places k setup fits w clean side rest (known room) small may;
      service_is = own_service may;
      window = setup.demo.window;
      chunk = setup.demo.chunk;
      ticks = own_ticks may;
      older_are = record { settled = settled_of may; before = before_of may; many = refl };
      beside = are_beside;
    }

  -- THE TRANSFER STARTS
  module _ (room : begun side < 256) (t : Transfer) (asking : AsksClient command) (coming : w.coming ≡ command ∷ rest) (good : HasGoneWell k w) (later : NoneLater w.sessions w.numbered)
      (so : starts k w command ≡ transfer_by w (live_transfers (method_id side) cds) (opens_with transfer_id (method_id side) [] cds) (call_count cds) t) where
    old_book : (h : HasCall k sds cds (fits side) side) → h.book ≡ book_with (old_places k setup fits w clean side rest h) h.book.rows None
    old_book h =
        let b : Book = h.book in
        ap (λ (s : Service). let c : Book = record { service = s; rows = b.rows } in c) h.book_fits.service
        ∙ ap (λ rows. let c : Book = record { service = service_at k side b.service.time; rows = rows } in c) (sym (append-nil b.rows))

    opens : (may : May) → OpensThere k (x_of may) (older_of may) w command t ⊎ OpensAnew k (x_of may) (older_of may) w command t
    opens (inl none) = inr (record { begins = on_new k setup fits w clean side rest (known room) command t asking coming good so none; none = refl; sessions = asked_state k setup side })
    opens (inr h) = inl (record { begins = on_old k setup fits w clean side rest (known room) command t asking coming good so h; sessions = ap transfer_memo (old_book h) })

    -- none of its words was said
    none_said : (ps : List Packet) → NoneLater w.sessions ps → HasNumbered (w.sessions + 1) ps 0
    none_said ps none = record {
      words = none_counted (is_chunk_of (w.sessions + 1)) ps
          (all_weaken (λ (p : Packet). (later : ℕ) → w.sessions < later → is_chunk_of later p ≡ false) (λ (p : Packet). is_chunk_of (w.sessions + 1) p ≡ false) ps (λ p none. none (w.sessions + 1) (omega arith)) none);
      none_later =
          all_weaken (λ (p : Packet). (later : ℕ) → w.sessions < later → is_chunk_of later p ≡ false) (λ (p : Packet). (later : ℕ) → w.sessions + 1 < later → is_chunk_of later p ≡ false) ps
          (λ p none later high. none later (omega (arith, high))) none;
    }

    numbered_so : (may : May) → NoneLater w.sessions (numbered_with k setup fits w clean side rest may)
    numbered_so (inl none) =
        let asked : Packet = request (next_name transfer_id (method_id side) cds) [] in
        all_join (λ (p : Packet). (later : ℕ) → w.sessions < later → is_chunk_of later p ≡ false) w.numbered (asked ∷ []) later ((λ other high. refl), tt)
    numbered_so (inr h) = later

    pub starts_so : (most : ℕ) → RunsOut k w end → DropsChunks k end → w.sessions + 1 < 2 ^ 32 → TURN_OF_TIME * w.times + TIMEOUT * (most + 1) < 2 ^ 63 → (may : May) → CanEnd k (x_of may) (older_of may) w end t most
    starts_so most run drops small early may = record {
      set = is_set_for_drops may room drops small;
      early = early;
      past = past_of may;
      begins = record { command = command; asks = asking; how = opens may; numbered = none_said (numbered_with k setup fits w clean side rest may) (numbered_so may) };
      run = run;
      drops = drops;
    }
