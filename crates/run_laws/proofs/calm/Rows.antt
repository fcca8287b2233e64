-- What the arrival of a calm packet does, in a history and where nothing but packets came: the same, or nothing to a call that
-- has ended in the history.
use Rattle.std.proofs.Common.{◌≡◌, ℕ, ◌<◌, Bool, true, false, not, ◌||◌, ◌==◌, List, [], Option, Some, None, if◌then◌else◌, refl, ap, sym, ◌∙◌, subst}
use Rattle.std.proofs.lemmas.Bool.{true≢false}
use Rattle.std.specs.List.{AllByRecursion}
use Rattle.rpc_ids.specs.declared.method.MethodRef.{MethodRef}
use Rattle.rpc_ids.specs.declared.method.Role.{Role}
use Rattle.rpc_ids.specs.declared.method.Role.TheVariants.{Server}
use Rattle.rpc_ids.specs.declared.status.Status.{Status}
use Rattle.rpc_ids.specs.declared.status.Status.TheVariants.{NotFound, Unavailable}
use Rattle.rpc_packet.specs.declared.call_name.CallName.{CallName}
use Rattle.rpc_packet.specs.declared.owned.Packet.{Packet}
use Rattle.rpc_packet.specs.declared.packet_type.PacketType.{PacketType}
use Rattle.rpc_packet.specs.declared.packet_type.PacketType.TheVariants.{Request, Response, ClientStream, ClientError, ServerError, ServerStream, Completion}
use Rattle.rpc_channel.specs.Rising.{has_id}
use Rattle.rpc_handlers.specs.declared.event.Event.{Event}
use Rattle.rpc_handlers.specs.declared.event.Event.TheVariants.{Message, Completion as Completed}
use Rattle.rpc_journal.specs.declared.item.Item.{Item}
use Rattle.rpc_journal.specs.declared.setting.Setting.{Setting}
use Rattle.rpc_journal.specs.Calls.{call_count, has_end, last_call, live_call, of_call}
use Rattle.rpc_journal.specs.Effect.{Deed, Effect}
use Rattle.rpc_journal.specs.Entries.{arrive_row, row_by}
use Rattle.rpc_journal.specs.Kinds.{is_unary, streams_up}
use Rattle.rpc_journal.specs.Lawful.{is_request}
use Rattle.rpc_journal.specs.Queues.{is_completed}
use Rattle.rpc_journal.specs.Rows.{Row, channels_in, method_named, no_effect, opens_served, puts_event}
use Rattle.rpc_journal.specs.ServerTable.{client_stream_row, completion_row, known_row, method_row, server_row, unknown_row}
use Rattle.rpc_journal.proofs.EndLemmas.{AllKnown}
use Rattle.run_laws.specs.calm.Calm.{is_client_error, is_ticking}

-- these items and nothing else
abbrev pub says_all : List Item → Effect
says_all items = record no_effect { says = items }

-- items of no call
abbrev pub AreReplies : List Item → Type 0
AreReplies items = AllByRecursion (λ (item : Item). item.call ≡ None) items

-- at most an event is put, and to c
pub record PutsAtMost (c : ℕ) (e : Effect) : Type 0 where
  pub opens : e.opens ≡ None
  pub ends : e.ends ≡ []
  pub drops : e.drops ≡ []
  pub others : (k : ℕ) → (c == k) ≡ false → of_call k e.puts ≡ []

-- What a packet does, `mine` in a history with these deeds and `other` where nothing but packets came. Late, the call of its
-- name has ended in the history.
pub data Meets (ds : List Deed) (p : Packet) (mine other : Effect) : Type 0 where
  both_say : (items : List Item) → AreReplies items → mine ≡ says_all items → other ≡ says_all items → Meets ds p mine other
  both_open : (m : MethodRef) → m.ticks ≡ false → is_request p.ptype ≡ true → mine ≡ opens_served p m (call_count ds) → other ≡ opens_served p m (call_count ds)
      → Meets ds p mine other
  both_put : (c : ℕ) (event : Event) → has_end ds c ≡ false → c < call_count ds → mine ≡ puts_event c event → other ≡ puts_event c event → Meets ds p mine other
  late : (c : ℕ) (items : List Item) → last_call ds p.name ≡ Some c → has_end ds c ≡ true → c < call_count ds → AreReplies items → mine ≡ says_all items → PutsAtMost c other
      → Meets ds p mine other

-- the call of the packet's name, live in the history or ended there, and where nothing but packets came
abbrev Lives : List Deed → List Deed → CallName → Option ℕ → Option ℕ → Type 0
Lives ds us name None None = Unit {0}
Lives ds us name None (Some c) = (last_call ds name ≡ Some c) × (has_end ds c ≡ true) × (c < call_count ds)
Lives ds us name (Some k) (Some c) = (k ≡ c) × (has_end ds c ≡ false) × (c < call_count ds) × (is_completed ds c ≡ is_completed us c)
Lives ds us name (Some k) None = ⊥

-- without an end where nothing but packets came
lives : (ds us : List Deed) (name : CallName) → last_call ds name ≡ last_call us name → ((c : ℕ) → has_end us c ≡ false)
    → ((c : ℕ) → has_end ds c ≡ false → is_completed ds c ≡ is_completed us c) → AllKnown ds (last_call ds name)
    → Lives ds us name (live_call ds name) (live_call us name)
lives ds us name same unended completed there = at (last_call ds name) refl there
  where
    ended : (c : ℕ) → last_call ds name ≡ Some c → c < call_count ds → (b : Bool) → has_end ds c ≡ b → Lives ds us name (if b then None else Some c) (Some c)
    ended c is below true e = (is, e, below)
    ended c is below false e = (refl, e, below, completed c e)

    at : (o : Option ℕ) → last_call ds name ≡ o → AllKnown ds o → Lives ds us name (live_call ds name) (live_call us name)
    at None is there = let other : last_call us name ≡ None = sym same ∙ is in rw (is, other) tt
    at (Some c) is there =
        let other : last_call us name ≡ Some c = sym same ∙ is in
        let open_call : has_end us c ≡ false = unended c in
        rw (is, other, open_call) (ended c is there (has_end ds c) refl)

module _ (p : Packet) where
  quiet : (k : ℕ) → PutsAtMost k (says_all [])
  quiet k = record { opens = refl; ends = refl; drops = refl; others = λ j apart. refl }

  says_only : (k : ℕ) (items : List Item) → PutsAtMost k (says_all items)
  says_only k items = record { opens = refl; ends = refl; drops = refl; others = λ j apart. refl }

  puts_only : (k : ℕ) (event : Event) → PutsAtMost k (puts_event k event)
  puts_only k event = record { opens = refl; ends = refl; drops = refl; others = λ j apart. rw apart refl }

  if_at_most : (k : ℕ) (b : Bool) (x y : Row) → PutsAtMost k x.does → PutsAtMost k y.does → PutsAtMost k (if b then x else y).does
  if_at_most k true x y first second = first
  if_at_most k false x y first second = second

  stream_at_most : (m : MethodRef) (us : List Deed) (c : ℕ) → PutsAtMost c (client_stream_row p m us (Some c)).does
  stream_at_most m us c =
      if_at_most c (not (streams_up m.kind)) _ _ (says_only c _)
      (if_at_most c (is_completed us c) _ _ (says_only c _) (puts_only c _))

  completion_at_most : (m : MethodRef) (us : List Deed) (c : ℕ) → PutsAtMost c (completion_row p m us (Some c)).does
  completion_at_most m us c = if_at_most c (is_unary m.kind || is_completed us c) _ _ (quiet c) (puts_only c _)

  module _ (ds us : List Deed) (same_calls : call_count ds ≡ call_count us) where
    abbrev RowsMeet : Row → Row → Type 0
    RowsMeet mine other = Meets ds p mine.does other.does

    if_meet : (b : Bool) (x y v w : Row) → RowsMeet x v → RowsMeet y w → RowsMeet (if b then x else y) (if b then v else w)
    if_meet true x y v w first second = first
    if_meet false x y v w first second = second

    say_same : (items : List Item) → AreReplies items → Meets ds p (says_all items) (says_all items)
    say_same items none = both_say items none refl refl

    stream_meets : (m : MethodRef) (c : ℕ) → has_end ds c ≡ false → c < call_count ds → is_completed ds c ≡ is_completed us c
        → RowsMeet (client_stream_row p m ds (Some c)) (client_stream_row p m us (Some c))
    stream_meets m c unended below same =
        rw same
        (if_meet (not (streams_up m.kind)) _ _ _ _ (say_same _ (refl, tt))
        (if_meet (is_completed us c) _ _ _ _ (say_same _ (refl, tt)) (both_put c (Message p.payload) unended below refl refl)))

    completion_meets : (m : MethodRef) (c : ℕ) → has_end ds c ≡ false → c < call_count ds → is_completed ds c ≡ is_completed us c
        → RowsMeet (completion_row p m ds (Some c)) (completion_row p m us (Some c))
    completion_meets m c unended below same =
        rw same
        (if_meet (is_unary m.kind || is_completed us c) _ _ _ _ (say_same [] tt) (both_put c Completed unended below refl refl))

    stream_row_meets : (m : MethodRef) (mine other : Option ℕ) → Lives ds us p.name mine other → RowsMeet (client_stream_row p m ds mine) (client_stream_row p m us other)
    stream_row_meets m None None is = say_same _ (refl, tt)
    stream_row_meets m None (Some c) is = late c _ is.0 is.1 is.2 (refl, tt) refl (stream_at_most m us c)
    stream_row_meets m (Some k) (Some c) is =
        subst (λ x. RowsMeet (client_stream_row p m ds (Some x)) (client_stream_row p m us (Some c))) (sym is.0) (stream_meets m c is.1 is.2 is.3)
    stream_row_meets m (Some k) None is = absurd is

    completion_row_meets : (m : MethodRef) (mine other : Option ℕ) → Lives ds us p.name mine other → RowsMeet (completion_row p m ds mine) (completion_row p m us other)
    completion_row_meets m None None is = say_same _ (refl, tt)
    completion_row_meets m None (Some c) is = late c _ is.0 is.1 is.2 (refl, tt) refl (completion_at_most m us c)
    completion_row_meets m (Some k) (Some c) is =
        subst (λ x. RowsMeet (completion_row p m ds (Some x)) (completion_row p m us (Some c))) (sym is.0) (completion_meets m c is.1 is.2 is.3)
    completion_row_meets m (Some k) None is = absurd is

    known_meets : (ptype : PacketType) (m : MethodRef) → p.ptype ≡ ptype → is_client_error ptype ≡ false
        → (is_request ptype ≡ true → (m.ticks ≡ false) × (live_call ds p.name ≡ None) × (live_call us p.name ≡ None))
        → Lives ds us p.name (live_call ds p.name) (live_call us p.name)
        → RowsMeet (known_row ptype p m ds (live_call ds p.name)) (known_row ptype p m us (live_call us p.name))
    known_meets Request m is calm fresh lives =
        let new = fresh refl in
        rw (new.1, new.2, sym same_calls) (both_open m new.0 (ap is_request is) refl refl)
    known_meets ClientStream m is calm fresh lives = stream_row_meets m (live_call ds p.name) (live_call us p.name) lives
    known_meets Completion m is calm fresh lives = completion_row_meets m (live_call ds p.name) (live_call us p.name) lives
    known_meets ClientError m is calm fresh lives = absurd (true≢false calm)
    known_meets Response m is calm fresh lives = say_same [] tt
    known_meets ServerError m is calm fresh lives = say_same [] tt
    known_meets ServerStream m is calm fresh lives = say_same [] tt

    unknown_meets : (ptype : PacketType) (s : Status) → RowsMeet (unknown_row ptype p s) (unknown_row ptype p s)
    unknown_meets Request s = say_same _ (refl, tt)
    unknown_meets Response s = say_same _ (refl, tt)
    unknown_meets ClientStream s = say_same _ (refl, tt)
    unknown_meets ClientError s = say_same [] tt
    unknown_meets ServerError s = say_same _ (refl, tt)
    unknown_meets ServerStream s = say_same _ (refl, tt)
    unknown_meets Completion s = say_same _ (refl, tt)

-- what both histories have alike, as far as the packet is concerned
pub record Level (set : Setting) (ds us : List Deed) (p : Packet) : Type 0 where
  pub same_count : call_count ds ≡ call_count us
  pub same_channels : channels_in set ds ≡ channels_in set us
  pub same_last : last_call ds p.name ≡ last_call us p.name
  pub unended : (c : ℕ) → has_end us c ≡ false
  pub completed : (c : ℕ) → has_end ds c ≡ false → is_completed ds c ≡ is_completed us c
  pub there : AllKnown ds (last_call ds p.name)
  pub no_error : is_client_error p.ptype ≡ false
  pub fresh : is_request p.ptype ≡ true → last_call us p.name ≡ None
  pub no_tick : is_request p.ptype ≡ true → is_ticking (method_named set p.name) ≡ false

not_live : (ds : List Deed) (name : CallName) → last_call ds name ≡ None → live_call ds name ≡ None
not_live ds name none = rw none refl

module _ (set : Setting) (ds us : List Deed) (p : Packet) (l : Level set ds us p) where
  method_meets : (o : Option MethodRef) → (is_request p.ptype ≡ true → is_ticking o ≡ false) → Meets ds p (method_row p ds o).does (method_row p us o).does
  method_meets None no_tick = unknown_meets p ds us l.same_count p.ptype NotFound
  method_meets (Some m) no_tick =
      known_meets p ds us l.same_count p.ptype m refl l.no_error
      (λ is. (no_tick is, not_live ds p.name (l.same_last ∙ l.fresh is), not_live us p.name (l.fresh is)))
      (lives ds us p.name l.same_last l.unended l.completed l.there)

  server_meets : Meets ds p (server_row set ds p).does (server_row set us p).does
  server_meets =
      rw (l.same_channels)
      (if_meet p ds us l.same_count (has_id (channels_in set us) p.name.channel) _ _ _ _ (method_meets (method_named set p.name) l.no_tick)
      (unknown_meets p ds us l.same_count p.ptype Unavailable))

  pub rows_meet : set.role ≡ Server → Meets ds p (arrive_row set ds p).does (arrive_row set us p).does
  unfolding arrive_row
  rows_meet role = subst (λ (r : Role). Meets ds p (row_by r set ds p).does (row_by r set us p).does) (sym role) server_meets
