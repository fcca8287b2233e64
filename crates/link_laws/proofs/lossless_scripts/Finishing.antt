-- The world in which a transfer is over is one between two commands.
use Rattle.std.proofs.Common.{◌≡◌, ◌≢◌, ◌⊎◌, ℕ, zero, suc, ◌+◌, ◌≤◌, ◌==◌, true, false, List, [], ◌∷◌, ◌++◌, length, slice_get, Option, Some, None, refl, ap, sym, ◌∙◌, subst, inl, inr, arith, length-append}
use Rattle.std.proofs.lemmas.Bool.{true≢false}
use Rattle.std.proofs.lemmas.Option.{slice_get_within}
use Rattle.std.specs.List.{AllByRecursion}
use Rattle.link_script.specs.declared.command.Command.{Command}
use Rattle.link_script.specs.declared.report.ReportLine.{ReportLine}
use Rattle.link_script.specs.lossy.Link.{new_link}
use Rattle.rpc_channel.specs.Rising.{has_id}
use Rattle.rpc_frames.specs.Written.{IsBetweenFrames}
use Rattle.rpc_packet.specs.declared.call_name.CallName.{CallName}
use Rattle.rpc_journal.specs.Calls.{call_at, call_count, calls}
use Rattle.rpc_journal.specs.Effect.{Deed, Opening}
use Rattle.rpc_journal.specs.History.{history}
use Rattle.rpc_journal.specs.Items.{is_done}
use Rattle.rpc_journal.specs.Rows.{channels_in}
use Rattle.rpc_journal.proofs.PlaceLemmas.{some_same}
use Rattle.transfer_resume.specs.declared.side.Side.{Side}
use Rattle.transfer_resume.specs.declared.side.Side.TheVariants.{Read, Write}
use Rattle.transfer_resume.specs.declared.stage.Stage.{Stage}
use Rattle.transfer_resume.specs.Session.{Row, Service}
use Rattle.transfer_resume.specs.Book.{Book}
use Rattle.demo_services.specs.Transfer.{transfer_memo}
use Rattle.history_laws.proofs.messages.Members.{all_join, all_weaken}
use Rattle.history_laws.specs.rounds.Streams.{HasStream, IsAtRest}
use Rattle.link_laws.specs.world.Setup.{quiet_rule}
use Rattle.link_laws.specs.world.World.{Setup, World, client_deeds, server_deeds}
use Rattle.link_laws.specs.plain_calls.Between.{HasCall, HasChannel, HasNoCall, IsClean, MayTransfer, NoneBySide, OnlyBySide, is_by_side}
use Rattle.link_laws.specs.lossless_transfer.Shows.{AtClient, Left, Places, ServesSession, PairStands, count_of}
use Rattle.link_laws.proofs.lossless_scripts.Starting.{FitsStill, IsSetup, method_id, new_client, new_server, new_places, not_both, old_places, own_name, places_for, read_not_write, same_side, service_at, sessions_before, told_time, write_not_read}

-- one session more was begun
abbrev pub one_more : Side → (Side → ℕ) → Side → ℕ
one_more Read begun Read = begun Read + 1
one_more Read begun Write = begun Write
one_more Write begun Read = begun Read
one_more Write begun Write = begun Write + 1

pub own_more : (side : Side) (begun : Side → ℕ) → one_more side begun side ≡ begun side + 1
own_more Read begun = refl
own_more Write begun = refl

-- one of the front, or the last
at_end : {A : Type 0} (xs : List A) (y z : A) (c : ℕ) → slice_get (xs ++ y ∷ []) c ≡ Some z → (slice_get xs c ≡ Some z) ⊎ ((c ≡ length xs) × (z ≡ y))
at_end [] y z zero there = inr (refl, sym (some_same y z there))
at_end [] y z (suc c) there = absurd cc
at_end (x ∷ xs) y z zero there = inl there
at_end (x ∷ xs) y z (suc c) there = later (at_end xs y z c there)
  where
    later : (slice_get xs c ≡ Some z) ⊎ ((c ≡ length xs) × (z ≡ y)) → (slice_get (x ∷ xs) (suc c) ≡ Some z) ⊎ ((suc c ≡ length (x ∷ xs)) × (z ≡ y))
    later (inl front) = inl front
    later (inr last) = inr (ap suc last.0, last.1)

-- WHAT A TRANSFER LEAVES BEHIND, where its line was told: its call with such a book, and each other call of the service at the
-- server with one that fits
pub record LeavesClean (k : Setup) (before after : Side → Book → Type 0) (w : World) (side : Side) (x : Places) (mid : World) : Type 0 where
  pub under : mid.under ≡ None
  pub to_server : mid.to_server ≡ new_link
  pub to_client : mid.to_client ≡ new_link
  pub fed_server : IsBetweenFrames mid.fed_server
  pub fed_client : IsBetweenFrames mid.fed_client
  pub server : IsAtRest (server_deeds k mid)
  pub client : AtClient k x mid.client
  pub server_calls : calls (server_deeds k mid) ≡ x.server_calls
  pub book : Book
  pub stream : HasStream k.rule k.server (server_deeds k mid) x.at_server x.server_opening (transfer_memo book)
  pub book_fits : after side book
  pub beside : (other : Side) → (method_id side == method_id other) ≡ false → (h : HasCall k (server_deeds k w) (client_deeds k w) (before other) other) → h.at_server ≢ x.at_server
      → (b : Book) × HasStream k.rule k.server (server_deeds k mid) h.at_server h.server_opening (transfer_memo b) × after other b

module _ (k : Setup) (setup : IsSetup k) (fits : Side → Book → Type 0) (w : World) (clean : IsClean k fits w) (side : Side) (rest : List Command) where
  abbrev cds : List Deed
  cds = client_deeds k w

  abbrev sds : List Deed
  sds = server_deeds k w

  abbrev There : Type 0
  There = HasCall k sds cds (fits side) side

  abbrev NotThere : Type 0
  NotThere = HasNoCall k sds cds (fits side) side

  abbrev May : Type 0
  May = MayTransfer k sds cds (fits side) side

  -- the calls of an end, with that of the transfer
  pub record HasPlace (ds : List Deed) (own : ℕ) (opening : Opening) (now : List Opening) : Type 0 where
    pub is_by : is_by_side side opening ≡ true
    pub channel : opening.name.channel ≡ 1
    -- the calls of before are there, and the transfer's
    pub before : (c : ℕ) (o : Opening) → slice_get now c ≡ Some o → (call_at ds c ≡ Some o) ⊎ ((c ≡ own) × (o ≡ opening))
    pub only : OnlyBySide side ds own
    pub apart : (c : ℕ) (o : Opening) → call_at ds c ≡ Some o → is_by_side side o ≡ false → c ≢ own

  -- where the call of the transfer is at both ends
  pub record IsPlaced (x : Places) : Type 0 where
    pub at_client : HasPlace cds x.at_client x.client_opening x.client_calls
    pub at_server : HasPlace sds x.at_server x.server_opening x.server_calls
    pub named : x.server_opening.name ≡ x.client_opening.name
    pub client : x.client ≡ w.client
    pub server_names : AllByRecursion (λ o. o.name.call ≤ length x.client_calls) x.server_calls
    pub client_names : AllByRecursion (λ o. o.name.call ≤ length x.client_calls) x.client_calls

  new_place : (ds : List Deed) (o : Opening) → NoneBySide side ds → is_by_side side o ≡ true → o.name.channel ≡ 1 → HasPlace ds (call_count ds) o (calls ds ++ o ∷ [])
  new_place ds o none is channel = record {
    is_by = is;
    channel = channel;
    before = λ c y there. at_end (calls ds) o y c there;
    only = λ c y there own. absurd (true≢false (sym own ∙ none c y there));
    apart = λ c y there other same. omega (arith, same, slice_get_within (calls ds) c y there);
  }

  new_placed : (none : NotThere) → IsPlaced (new_places k setup fits w clean side rest none)
  new_placed none =
      let o : Opening = new_client k setup fits w clean side rest in
      let s : Opening = new_server k setup fits w clean side rest in
      let more : length (calls cds ++ o ∷ []) ≡ call_count cds + 1 = length-append (calls cds) (o ∷ []) in
      record {
        at_client = new_place cds o none.client (own_name side o.name refl refl) refl;
        at_server = new_place sds s none.server (own_name side s.name refl refl) refl;
        named = refl;
        client = refl;
        server_names =
            all_join (λ (y : Opening). y.name.call ≤ length (calls cds ++ o ∷ [])) (calls sds) (s ∷ [])
            (all_weaken (λ (y : Opening). y.name.call ≤ call_count cds) (λ (y : Opening). y.name.call ≤ length (calls cds ++ o ∷ [])) (calls sds) (λ y low. omega (arith, low, more)) clean.server_names)
            (omega (arith, more), tt);
        client_names =
            all_join (λ (y : Opening). y.name.call ≤ length (calls cds ++ o ∷ [])) (calls cds) (o ∷ [])
            (all_weaken (λ (y : Opening). y.name.call ≤ call_count cds) (λ (y : Opening). y.name.call ≤ length (calls cds ++ o ∷ [])) (calls cds) (λ y low. omega (arith, low, more)) clean.client_names)
            (omega (arith, more), tt);
      }

  same_opening : (ds : List Deed) (a b : ℕ) (x y : Opening) → a ≡ b → call_at ds a ≡ Some x → call_at ds b ≡ Some y → x ≡ y
  same_opening ds a b x y same first second = some_same x y (sym first ∙ (ap (call_at ds) same ∙ second))

  old_place : (ds : List Deed) (own : ℕ) (o : Opening) → call_at ds own ≡ Some o → OnlyBySide side ds own → is_by_side side o ≡ true → o.name.channel ≡ 1 → HasPlace ds own o (calls ds)
  old_place ds own o opened only is channel = record {
    is_by = is;
    channel = channel;
    before = λ c y there. inl there;
    only = only;
    apart = λ c y there other same. true≢false (sym is ∙ (ap (is_by_side side) (sym (same_opening ds c own y o same there opened)) ∙ other));
  }

  old_placed : (h : There) → IsPlaced (old_places k setup fits w clean side rest h)
  old_placed h = record {
    at_client = old_place cds h.at_client h.client_opening h.client_stream.opened h.only h.by_method h.on_channel;
    at_server =
        old_place sds h.at_server h.server_opening h.server_stream.opened h.only_server (same_side side h.server_opening h.client_opening h.same_name h.by_method)
        (ap (λ (n : CallName). n.channel) h.same_name ∙ h.on_channel);
    named = h.same_name;
    client = refl;
    server_names = clean.server_names;
    client_names = clean.client_names;
  }

  pub placed : (may : May) → IsPlaced (places_for k setup fits w clean side rest may)
  placed (inl none) = new_placed none
  placed (inr h) = old_placed h

  -- THE TRANSFER IS OVER
  module _ (after : Side → Book → Type 0) (x : Places) (p : IsPlaced x) (mid : World) (left : LeavesClean k fits after w side x mid) where
    abbrev server_now : List Deed
    server_now = server_deeds k mid

    abbrev client_now : List Deed
    client_now = client_deeds k mid

    -- what the calls of an end are
    module _ (ds now : List Deed) (own : ℕ) (opening : Opening) (os : List Opening) (place : HasPlace ds own opening os) (calls_are : calls now ≡ os) where
      call_before : (c : ℕ) (o : Opening) → call_at now c ≡ Some o → (call_at ds c ≡ Some o) ⊎ ((c ≡ own) × (o ≡ opening))
      call_before c o there = place.before c o (ap (λ xs. slice_get xs c) (sym calls_are) ∙ there)

      own_only : OnlyBySide side now own
      own_only c o there is = at (call_before c o there)
        where
          at : (call_at ds c ≡ Some o) ⊎ ((c ≡ own) × (o ≡ opening)) → c ≡ own
          at (inl before) = place.only c o before is
          at (inr last) = last.0

      module _ (other : Side) (apart : (method_id side == method_id other) ≡ false) where
        other_only : (c : ℕ) → OnlyBySide other ds c → OnlyBySide other now c
        other_only d only c o there is = at (call_before c o there)
          where
            at : (call_at ds c ≡ Some o) ⊎ ((c ≡ own) × (o ≡ opening)) → c ≡ d
            at (inl before) = only c o before is
            at (inr last) = absurd (true≢false (sym is ∙ (ap (is_by_side other) last.1 ∙ not_both side other apart opening place.is_by)))

        other_none : NoneBySide other ds → NoneBySide other now
        other_none none c o there = at (call_before c o there)
          where
            at : (call_at ds c ≡ Some o) ⊎ ((c ≡ own) × (o ≡ opening)) → is_by_side other o ≡ false
            at (inl before) = none c o before
            at (inr last) = ap (is_by_side other) last.1 ∙ not_both side other apart opening place.is_by

    -- the call of this transfer stays open
    own_call : HasCall k server_now client_now (after side) side
    own_call = record {
      at_client = x.at_client;
      client_opening = x.client_opening;
      client_memo = left.client.memo;
      client_stream = left.client.stream;
      undone = left.client.undone;
      by_method = p.at_client.is_by;
      on_channel = p.at_client.channel;
      only = own_only cds client_now x.at_client x.client_opening x.client_calls p.at_client left.client.calls_are;
      at_server = x.at_server;
      server_opening = x.server_opening;
      book = left.book;
      server_stream = left.stream;
      same_name = p.named;
      only_server = own_only sds server_now x.at_server x.server_opening x.server_calls p.at_server left.server_calls;
      book_fits = left.book_fits;
    }

    -- so does that of the other method
    module _ (other : Side) (apart : (method_id side == method_id other) ≡ false) (back : (method_id other == method_id side) ≡ false) where
      other_call : HasCall k sds cds (fits other) other → HasCall k server_now client_now (after other) other
      other_call h =
          let client_other : h.at_client ≢ x.at_client = p.at_client.apart h.at_client h.client_opening h.client_stream.opened (not_both other side back h.client_opening h.by_method) in
          let server_own : is_by_side other h.server_opening ≡ true = same_side other h.server_opening h.client_opening h.same_name h.by_method in
          let server_other : h.at_server ≢ x.at_server = p.at_server.apart h.at_server h.server_opening h.server_stream.opened (not_both other side back h.server_opening server_own) in
          let at_server = left.beside other apart h server_other in
          record {
            at_client = h.at_client;
            client_opening = h.client_opening;
            client_memo = h.client_memo;
            client_stream =
                left.client.others h.at_client h.client_opening h.client_memo client_other
                (subst (λ l. HasStream quiet_rule k.client (history k.client l) h.at_client h.client_opening h.client_memo) (sym p.client) h.client_stream);
            undone = left.client.others_undone h.at_client client_other (subst (λ l. is_done (history k.client l) h.at_client ≡ false) (sym p.client) h.undone);
            by_method = h.by_method;
            on_channel = h.on_channel;
            only = other_only cds client_now x.at_client x.client_opening x.client_calls p.at_client left.client.calls_are other apart h.at_client h.only;
            at_server = h.at_server;
            server_opening = h.server_opening;
            book = at_server.0;
            server_stream = at_server.1;
            same_name = h.same_name;
            only_server = other_only sds server_now x.at_server x.server_opening x.server_calls p.at_server left.server_calls other apart h.at_server h.only_server;
            book_fits = at_server.2;
          }

      other_may : MayTransfer k sds cds (fits other) other → MayTransfer k server_now client_now (after other) other
      other_may (inl none) = inl (record {
        client = other_none cds client_now x.at_client x.client_opening x.client_calls p.at_client left.client.calls_are other apart none.client;
        server = other_none sds server_now x.at_server x.server_opening x.server_calls p.at_server left.server_calls other apart none.server;
      })
      other_may (inr h) = inr (other_call h)

    -- the channel of all calls is in
    server_open : HasChannel k.server server_now
    server_open = ap (λ n. has_id (channels_in k.server server_now) n) (sym p.at_server.channel) ∙ left.stream.channel

    client_open : HasChannel k.client client_now
    client_open = ap (λ n. has_id (channels_in k.client client_now) n) (sym p.at_client.channel) ∙ left.client.stream.channel

    over_is_clean : ((other : Side) → MayTransfer k server_now client_now (after other) other) → IsClean k after mid
    over_is_clean transfers = record {
      under = left.under;
      to_server = left.to_server;
      to_client = left.to_client;
      fed_server = left.fed_server;
      fed_client = left.fed_client;
      server = left.server;
      client = left.client.rest;
      server_channel = server_open;
      client_channel = client_open;
      server_names =
          subst (λ os. AllByRecursion (λ (o : Opening). o.name.call ≤ length (calls client_now)) os) (sym left.server_calls)
          (subst (λ os. AllByRecursion (λ (o : Opening). o.name.call ≤ length os) x.server_calls) (sym left.client.calls_are) p.server_names);
      client_names = subst (λ os. AllByRecursion (λ (o : Opening). o.name.call ≤ length os) os) (sym left.client.calls_are) p.client_names;
      transfers = transfers;
    }

-- THE WORLD IS CLEAN AGAIN
pub left_is_clean : (k : Setup) (setup : IsSetup k) (fits : Side → Book → Type 0) (w : World) (clean : IsClean k fits w) (side : Side) (rest : List Command)
    (may : MayTransfer k (server_deeds k w) (client_deeds k w) (fits side) side) (after : Side → Book → Type 0) (mid : World)
    → LeavesClean k fits after w side (places_for k setup fits w clean side rest may) mid → IsClean k after mid
left_is_clean k setup fits w clean Read rest may after mid left =
    over_is_clean k setup fits w clean Read rest after (places_for k setup fits w clean Read rest may) (placed k setup fits w clean Read rest may) mid left (λ other. at other)
  where
    at : (other : Side) → MayTransfer k (server_deeds k mid) (client_deeds k mid) (after other) other
    at Read = inr (own_call k setup fits w clean Read rest after (places_for k setup fits w clean Read rest may) (placed k setup fits w clean Read rest may) mid left)
    at Write =
        other_may k setup fits w clean Read rest after (places_for k setup fits w clean Read rest may) (placed k setup fits w clean Read rest may) mid left Write read_not_write write_not_read (clean.transfers Write)
left_is_clean k setup fits w clean Write rest may after mid left =
    over_is_clean k setup fits w clean Write rest after (places_for k setup fits w clean Write rest may) (placed k setup fits w clean Write rest may) mid left (λ other. at other)
  where
    at : (other : Side) → MayTransfer k (server_deeds k mid) (client_deeds k mid) (after other) other
    at Write = inr (own_call k setup fits w clean Write rest after (places_for k setup fits w clean Write rest may) (placed k setup fits w clean Write rest may) mid left)
    at Read =
        other_may k setup fits w clean Write rest after (places_for k setup fits w clean Write rest may) (placed k setup fits w clean Write rest may) mid left Read write_not_read read_not_write (clean.transfers Read)

-- WHERE NO TIME HAS PASSED
module _ (k : Setup) (setup : IsSetup k) (begun : Side → ℕ) (w : World) (clean : IsClean k (FitsStill k w.sessions begun) w) (side : Side) (rest : List Command)
    (may : MayTransfer k (server_deeds k w) (client_deeds k w) (FitsStill k w.sessions begun side) side) where
  abbrev x : Places
  x = places_for k setup (FitsStill k w.sessions begun) w clean side rest may

  one_at_most : (stage : Option Stage) → count_of stage ≤ 1
  one_at_most None = omega arith
  one_at_most (Some s) = omega arith

  -- the other method has no session more
  other_same : (other : Side) → (method_id side == method_id other) ≡ false → begun other ≤ one_more side begun other
  other_same other apart = at side other
    where
      at : (a b : Side) → begun b ≤ one_more a begun b
      at Read Read = omega arith
      at Read Write = omega arith
      at Write Read = omega arith
      at Write Write = omega arith

  told_at_first : (m : MayTransfer k (server_deeds k w) (client_deeds k w) (FitsStill k w.sessions begun side) side) → told_time k setup (FitsStill k w.sessions begun) w clean side rest m ≡ 0
  told_at_first (inl none) = refl
  told_at_first (inr h) = ap (λ (s : Service). s.time) h.book_fits.service

  few_before : (m : MayTransfer k (server_deeds k w) (client_deeds k w) (FitsStill k w.sessions begun side) side) → length (sessions_before k setup (FitsStill k w.sessions begun) w clean side rest m) ≤ begun side
  few_before (inl none) = omega arith
  few_before (inr h) = h.book_fits.few

  pub clean_again : (lines : List ReportLine) (mid : World) (stage : Option Stage) (said : ℕ) → Left k x lines mid stage [] [] said → IsClean k (FitsStill k mid.sessions (one_more side begun)) mid
  clean_again lines mid stage said left =
      let stands : PairStands k x mid stage [] [] said = left.stands in
      let s : ServesSession x stands.server.memo stage = stands.server.serves in
      left_is_clean k setup (FitsStill k w.sessions begun) w clean side rest may (FitsStill k mid.sessions (one_more side begun)) mid
      (record {
        under = left.idle;
        to_server = stands.to_server;
        to_client = stands.to_client;
        fed_server = stands.fed_server;
        fed_client = stands.fed_client;
        server = stands.server.rest;
        client = stands.client;
        server_calls = stands.server.calls_are;
        book = s.book;
        stream = subst (HasStream k.rule k.server (server_deeds k mid) x.at_server x.server_opening) s.memo stands.server.stream;
        book_fits = record {
          service = s.service ∙ ap (λ time. service_at k side time) (told_at_first may);
          known = subst (λ n. AllByRecursion (λ (r : Row). r.id ≤ n) s.book.rows) (sym stands.kept.sessions) s.known;
          few = (let many = s.many in omega (arith, few_before may, many, one_at_most stage, own_more side begun));
        };
        beside = λ other apart h differs. (
          h.book,
          stands.server.others h.at_server h.server_opening (transfer_memo h.book) differs h.server_stream,
          record {
            service = h.book_fits.service;
            known =
                all_weaken (λ (r : Row). r.id ≤ w.sessions) (λ (r : Row). r.id ≤ mid.sessions) h.book.rows (λ r low. (let kept = stands.kept.sessions in omega (arith, low, kept))) h.book_fits.known;
            few = (let few = h.book_fits.few in omega (arith, few, other_same other apart));
          },
        );
      })
