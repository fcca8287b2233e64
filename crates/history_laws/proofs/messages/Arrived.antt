-- The messages that entries put to calls came in packets with the calls' names.
use Rattle.std.proofs.Common.{◌≡◌, ◌⊎◌, ℕ, ◌+◌, Bool, true, false, not, ◌&&◌, ◌||◌, ◌==◌, List, [], ◌∷◌, ◌++◌, length, map, reverse, slice_get, Option, Some, None, option_and_then, option_to_list, if◌then◌else◌, inl, inr, refl, ap, sym, ◌∙◌, subst}
use Rattle.std.proofs.lemmas.Bool.{and_parts, eqb-true, not-true}
use Rattle.std.proofs.lemmas.List.{append-nil, reverse-append}
use Rattle.std.specs.List.{AllByRecursion}
use Rattle.rpc_ids.specs.declared.method.MethodRef.{MethodRef}
use Rattle.rpc_ids.specs.declared.method.Role.{Role}
use Rattle.rpc_ids.specs.declared.method.Role.TheVariants.{Server, Client}
use Rattle.rpc_ids.specs.declared.status.Status.{Status}
use Rattle.rpc_ids.specs.Status.{status_of}
use Rattle.rpc_packet.specs.declared.call_name.CallName.{CallName}
use Rattle.rpc_packet.specs.declared.owned.Packet.{Packet}
use Rattle.rpc_packet.specs.declared.packet_type.PacketType.{PacketType}
use Rattle.rpc_packet.specs.declared.packet_type.PacketType.TheVariants.{Request, Response, ClientStream, ClientError, ServerError, ServerStream, Completion}
use Rattle.rpc_channel.specs.Rising.{has_id}
use Rattle.rpc_handlers.specs.declared.event.Event.{Event}
use Rattle.rpc_handlers.specs.declared.event.Event.TheVariants.{Message}
use Rattle.rpc_journal.specs.declared.entry.Entry.{Entry}
use Rattle.rpc_journal.specs.declared.entry.EntryKind.{EntryKind}
use Rattle.rpc_journal.specs.declared.entry.EntryKind.TheVariants.{Arrive, Invoke, Say, Done, Start, Finish, Replace, Cancel, Tick, Flush, EndIn, Halt, Close}
use Rattle.rpc_journal.specs.declared.setting.Setting.{Setting}
use Rattle.rpc_journal.specs.declared.waiting.Waiting.{Waiting}
use Rattle.rpc_journal.specs.Calls.{call_at, call_count, calls, has_end, is_finish_of, is_start_of, last_call, live_call, of_call, opens_named, same_name}
use Rattle.rpc_journal.specs.ClientTable.{call_row, live_row, no_call_row}
use Rattle.rpc_journal.specs.Effect.{Deed, Opening}
use Rattle.rpc_journal.specs.Entries.{arrive_row, effect_of, each_from, row_by}
use Rattle.rpc_journal.specs.History.{deeds_of}
use Rattle.rpc_journal.specs.Items.{arrival_of, arrivals}
use Rattle.rpc_journal.specs.Kinds.{is_okay, is_unary, streams_down, streams_up}
use Rattle.rpc_journal.specs.Queues.{drops_of, is_completed, puts_since, put_at, starts_since, taken_event, waiting_of}
use Rattle.rpc_journal.specs.Rows.{Row, channels_in, method_named}
use Rattle.rpc_journal.specs.ServerTable.{known_row, method_row, unknown_row}
use Rattle.rpc_journal.specs.States.{began_since, finished_since, sets_state}
use Rattle.rpc_journal.proofs.EndedLemmas.{invoke-none, with_call-none}
use Rattle.rpc_journal.proofs.KnownLemmas.{cancel-puts, finish-puts}
use Rattle.rpc_journal.proofs.PlaceLemmas.{get_last, some_same}
use Rattle.history_laws.specs.messages.Messages.{BringsTo, Brought, IsIn, MessagesArrived}
use Rattle.history_laws.proofs.messages.Members.{all_dropped, all_join, all_weaken, in_all, in_back, in_either, in_front}
use Rattle.history_laws.proofs.messages.OfCalls.{stays_at}

-- the packets that arrived, of entries that stand the newest first
abbrev arrived_in : List Entry → List Packet
arrived_in [] = []
arrived_in (e ∷ es) = arrival_of e.kind ++ arrived_in es

-- a call by its name
pub name_is : (a b : CallName) → same_name a b ≡ true → a ≡ b
name_is a b same =
    let parts = and_parts ((a.channel == b.channel) && (a.service == b.service) && (a.method == b.method)) (a.call == b.call) same in
    let more = and_parts ((a.channel == b.channel) && (a.service == b.service)) (a.method == b.method) parts.0 in
    let first = and_parts (a.channel == b.channel) (a.service == b.service) more.0 in
    names a.channel b.channel a.service b.service a.method b.method a.call b.call
    (eqb-true _ _ first.0) (eqb-true _ _ first.1) (eqb-true _ _ more.1) (eqb-true _ _ parts.1)
  where
    names : (a b c d e f g h : ℕ) → a ≡ b → c ≡ d → e ≡ f → g ≡ h
        → ◌≡◌ {A = CallName} (record { channel = a; service = c; method = e; call = g }) (record { channel = b; service = d; method = f; call = h })
    names a b c d e f g h w x y z = rw (w, x, y, z) refl

pub record Named (ds : List Deed) (name : CallName) (c : ℕ) : Type 0 where
  pub opening : Opening
  pub there : call_at ds c ≡ Some opening
  pub name_is : opening.name ≡ name

-- the last call of a name is there, and has the name
last_named : (ds : List Deed) (name : CallName) (c : ℕ) → last_call ds name ≡ Some c → Named ds name c
last_named [] name c is = absurd cc
last_named (d ∷ ds) name c is = at d.does.opens refl is (λ earlier. last_named ds name c earlier)
  where
    older : Named ds name c → Named (d ∷ ds) name c
    older n = record { opening = n.opening; there = stays_at d ds c n.opening n.there; name_is = n.name_is }

    at : (o : Option Opening) → d.does.opens ≡ o → (if opens_named name o then Some (call_count ds) else last_call ds name) ≡ Some c
        → (last_call ds name ≡ Some c → Named ds name c) → Named (d ∷ ds) name c
    at None e is rest = older (rest is)
    at (Some o) e is rest = by_name (same_name o.name name) refl is
      where
        here : slice_get (calls ds ++ option_to_list d.does.opens) (call_count ds) ≡ Some o
        here = ap (λ x. slice_get (calls ds ++ option_to_list x) (call_count ds)) e ∙ get_last (calls ds) o

        by_name : (b : Bool) → same_name o.name name ≡ b → (if b then Some (call_count ds) else last_call ds name) ≡ Some c → Named (d ∷ ds) name c
        by_name true same is = record { opening = o; there = ap (call_at (d ∷ ds)) (sym (some_same (call_count ds) c is)) ∙ here; name_is = name_is o.name name same }
        by_name false apart is = older (rest is)

pub live_named : (ds : List Deed) (name : CallName) (c : ℕ) → live_call ds name ≡ Some c → Named ds name c
live_named ds name c is = at (last_call ds name) refl is
  where
    by_end : (k : ℕ) → last_call ds name ≡ Some k → (b : Bool) → (if b then None else Some k) ≡ Some c → Named ds name c
    by_end k e true is = absurd cc
    by_end k e false is = last_named ds name c (e ∙ is)

    at : (o : Option ℕ) → last_call ds name ≡ o → option_and_then (λ k. if has_end ds k then None else Some k) o ≡ Some c → Named ds name c
    at None e is = absurd cc
    at (Some k) e is = by_end k e (has_end ds k) is

module _ (set : Setting) where
  -- an event that is a message was brought by one of these packets
  abbrev From : List Deed → List Packet → ℕ → Event → Type 0
  From ds ps c (Message payload) = Brought set ds ps c payload
  From ds ps c _ = Unit {0}

  abbrev AllFrom : List Deed → List Packet → List (ℕ × Event) → Type 0
  AllFrom ds ps puts = AllByRecursion (λ put. From ds ps put.0 put.1) puts

  -- The events that a packet puts.
  module _ (ds : List Deed) (p : Packet) where
    abbrev Fit : Row → Type 0
    Fit row = AllFrom ds (p ∷ []) row.does.puts

    if_fit : (b : Bool) (x y : Row) → Fit x → Fit y → Fit (if b then x else y)
    if_fit true x y first second = first
    if_fit false x y first second = second

    brought : (k : ℕ) → live_call ds p.name ≡ Some k → BringsTo set.role set p → Brought set ds (p ∷ []) k p.payload
    brought k live brings =
        let named : Named ds p.name k = live_named ds p.name k live in
        record { packet = p; came = inl refl; opening = named.opening; there = named.there; name = named.name_is; is = refl; brings = brings }

    known_fit : (ptype : PacketType) (m : MethodRef) (l : Option ℕ) → live_call ds p.name ≡ l → (ptype ≡ ClientStream → BringsTo set.role set p) → Fit (known_row ptype p m ds l)
    known_fit Request m None live brings = (tt, tt)
    known_fit Request m (Some k) live brings = (tt, (tt, tt))
    known_fit Response m l live brings = tt
    known_fit ClientStream m None live brings = tt
    known_fit ClientStream m (Some k) live brings = if_fit (not (streams_up m.kind)) _ _ tt (if_fit (is_completed ds k) _ _ tt (brought k live (brings refl), tt))
    known_fit ClientError m None live brings = tt
    known_fit ClientError m (Some k) live brings = (tt, tt)
    known_fit ServerError m l live brings = tt
    known_fit ServerStream m l live brings = tt
    known_fit Completion m None live brings = tt
    known_fit Completion m (Some k) live brings = if_fit (is_unary m.kind || is_completed ds k) _ _ tt (tt, tt)

    unknown_fit : (ptype : PacketType) (s : Status) → Fit (unknown_row ptype p s)
    unknown_fit Request s = tt
    unknown_fit Response s = tt
    unknown_fit ClientStream s = tt
    unknown_fit ClientError s = tt
    unknown_fit ServerError s = tt
    unknown_fit ServerStream s = tt
    unknown_fit Completion s = tt

    method_fit : (o : Option MethodRef) → (p.ptype ≡ ClientStream → BringsTo set.role set p) → Fit (method_row p ds o)
    method_fit None brings = unknown_fit p.ptype _
    method_fit (Some m) brings = known_fit p.ptype m (live_call ds p.name) refl brings

    no_stream : (m : MethodRef) → method_named set p.name ≡ Some m → streams_down m.kind ≡ false
        → (x : MethodRef) → method_named set p.name ≡ Some x → streams_down x.kind ≡ false
    no_stream m named none x other = subst (λ y. streams_down y.kind ≡ false) (some_same m x (sym named ∙ other)) none

    if_so : (b : Bool) (x y : Row) → (b ≡ true → Fit x) → Fit y → Fit (if b then x else y)
    if_so true x y first second = first refl
    if_so false x y first second = second

    abbrev ToClient : Type 0
    ToClient = (p.ptype ≡ ServerStream) ⊎ ((x : MethodRef) → method_named set p.name ≡ Some x → streams_down x.kind ≡ false)

    response_fit : (m : MethodRef) (k : ℕ) → live_call ds p.name ≡ Some k → method_named set p.name ≡ Some m → (ToClient → BringsTo set.role set p)
        → Fit (live_row Response p m k)
    response_fit m k live named brings =
        if_so (is_okay (status_of p.status) && not (streams_down m.kind)) _ _
        (λ test. (brought k live (brings (inr (no_stream m named (not-true _ (and_parts _ _ test).1)))), (tt, tt))) (tt, tt)

    live_fit : (ptype : PacketType) (m : MethodRef) (k : ℕ) → live_call ds p.name ≡ Some k → method_named set p.name ≡ Some m → p.ptype ≡ ptype
        → (ToClient → BringsTo set.role set p) → Fit (live_row ptype p m k)
    live_fit Request m k live named is brings = tt
    live_fit Response m k live named is brings = response_fit m k live named brings
    live_fit ClientStream m k live named is brings = tt
    live_fit ClientError m k live named is brings = tt
    live_fit ServerError m k live named is brings = (tt, tt)
    live_fit ServerStream m k live named is brings = if_fit (streams_down m.kind) _ _ (brought k live (brings (inl is)), tt) (tt, tt)
    live_fit Completion m k live named is brings = tt

    no_call_fit : (ptype : PacketType) → Fit (no_call_row ptype p)
    no_call_fit Request = tt
    no_call_fit Response = tt
    no_call_fit ClientStream = tt
    no_call_fit ClientError = tt
    no_call_fit ServerError = tt
    no_call_fit ServerStream = tt
    no_call_fit Completion = tt

    call_fit : (o : Option MethodRef) (l : Option ℕ) → method_named set p.name ≡ o → live_call ds p.name ≡ l → (ToClient → BringsTo set.role set p) → Fit (call_row p o l)
    call_fit None l named live brings = no_call_fit p.ptype
    call_fit (Some m) None named live brings = no_call_fit p.ptype
    call_fit (Some m) (Some k) named live brings = live_fit p.ptype m k live named refl brings

    row_fit : (role : Role) → set.role ≡ role → Fit (row_by role set ds p)
    row_fit Server is =
        if_fit (has_id (channels_in set ds) p.name.channel) _ _
        (method_fit (method_named set p.name) (λ type. subst (λ r. BringsTo r set p) (sym is) type)) (unknown_fit p.ptype _)
    row_fit Client is =
        if_fit (has_id (channels_in set ds) p.name.channel) _ _
        (call_fit (method_named set p.name) (live_call ds p.name) refl refl (λ way. subst (λ r. BringsTo r set p) (sym is) way)) tt

    arrive_fit : AllFrom ds (p ∷ []) (arrive_row set ds p).does.puts
    unfolding arrive_row
    arrive_fit = row_fit set.role refl

  -- the events that other entries put are no messages
  none_put : (ds : List Deed) (ps : List Packet) (puts : List (ℕ × Event)) → puts ≡ [] → AllFrom ds ps puts
  none_put ds ps puts is = subst (AllFrom ds ps) (sym is) tt

  each_fit : (ds : List Deed) (ps : List Packet) (event : Event) → ((k : ℕ) → From ds ps k event) → (n : ℕ) (test : ℕ → Opening → Bool) (os : List Opening)
      → AllFrom ds ps (each_from n test event os)
  each_fit ds ps event each n test [] = tt
  each_fit ds ps event each n test (o ∷ os) = at (each_fit ds ps event each (n + 1) test os) (test n o)
    where
      at : AllFrom ds ps (each_from (n + 1) test event os) → (b : Bool)
          → AllFrom ds ps (if b then (n, event) ∷ each_from (n + 1) test event os else each_from (n + 1) test event os)
      at rest true = (each n, rest)
      at rest false = rest

  entry_fit : (ds : List Deed) (kind : EntryKind) → AllFrom ds (arrival_of kind) (effect_of set ds kind).puts
  entry_fit ds (Arrive p) = arrive_fit ds p
  entry_fit ds (Invoke p m) = none_put ds [] _ (invoke-none 0 ds p m (method_named set p.name))
  entry_fit ds (Say k out) = none_put ds [] _ (with_call-none (call_at ds k) _)
  entry_fit ds (Done k) = none_put ds [] _ (with_call-none (call_at ds k) _)
  entry_fit ds (Start k) = tt
  entry_fit ds (Finish k a) = none_put ds [] _ (finish-puts set ds k a (call_at ds k))
  entry_fit ds (Replace k m) = tt
  entry_fit ds (Cancel k) = none_put ds [] _ (cancel-puts set ds k (call_at ds k))
  entry_fit ds (Tick t) = each_fit ds [] _ (λ k. tt) 0 _ (calls ds)
  entry_fit ds Flush = tt
  entry_fit ds EndIn = each_fit ds [] _ (λ k. tt) 0 _ (calls ds)
  entry_fit ds (Halt why) = tt
  entry_fit ds (Close channel) = each_fit ds [] _ (λ k. tt) 0 _ (calls ds)

  -- What was brought once stays so.
  later : (d : Deed) (ds : List Deed) (ps qs : List Packet) (c : ℕ) (payload : List ℕ) → ((p : Packet) → IsIn p ps → IsIn p qs)
      → Brought set ds ps c payload → Brought set (d ∷ ds) qs c payload
  later d ds ps qs c payload more b =
      record { packet = b.packet; came = more b.packet b.came; opening = b.opening; there = stays_at d ds c b.opening b.there; name = b.name; is = b.is; brings = b.brings }

  later_event : (d : Deed) (ds : List Deed) (ps qs : List Packet) (c : ℕ) (event : Event) → ((p : Packet) → IsIn p ps → IsIn p qs)
      → From ds ps c event → From (d ∷ ds) qs c event
  later_event d ds ps qs c (Message payload) more from = later d ds ps qs c payload more from
  later_event d ds ps qs c _ more from = tt

  -- all events that wait for a call, or were taken by it
  record AllCame (ds : List Deed) (ps : List Packet) (c : ℕ) : Type 0 where
    puts : AllByRecursion (λ w. From ds ps c w.event) (puts_since ds c)
    taken : (event : Event) → taken_event ds c ≡ Some event → From ds ps c event
    finished : AllByRecursion (From ds ps c) (finished_since ds c)

  own_puts : (ds : List Deed) (ps : List Packet) (c at : ℕ) (puts : List (ℕ × Event)) → AllFrom ds ps puts
      → AllByRecursion (λ w. From ds ps c w.event) (put_at at (of_call c puts))
  own_puts ds ps c at [] all = tt
  own_puts ds ps c at (put ∷ puts) all = by_call (put.0 == c) refl (own_puts ds ps c at puts all.1)
    where
      by_call : (b : Bool) → (put.0 == c) ≡ b → AllByRecursion (λ w. From ds ps c w.event) (put_at at (of_call c puts))
          → AllByRecursion (λ w. From ds ps c w.event) (put_at at (if b then put.1 ∷ of_call c puts else of_call c puts))
      by_call true same rest = (subst (λ k. From ds ps k put.1) (eqb-true put.0 c same) all.0, rest)
      by_call false apart rest = rest

  first_came : (ds : List Deed) (ps : List Packet) (c : ℕ) (ws : List Waiting) → AllByRecursion (λ w. From ds ps c w.event) ws
      → (event : Event) → slice_get (map (λ (w : Waiting). w.event) ws) 0 ≡ Some event → From ds ps c event
  first_came ds ps c [] all event is = absurd cc
  first_came ds ps c (w ∷ ws) all event is = subst (From ds ps c) (some_same w.event event is) all.0

  module _ (d : Deed) (ds : List Deed) (ps qs : List Packet) (c : ℕ) (more : (p : Packet) → IsIn p ps → IsIn p qs) (came : AllCame ds ps c) where
    abbrev now : List Deed
    now = d ∷ ds

    puts_later : AllByRecursion (λ w. From now qs c w.event) (puts_since ds c)
    puts_later = all_weaken (λ w. From ds ps c w.event) (λ w. From now qs c w.event) (puts_since ds c) (λ w from. later_event d ds ps qs c w.event more from) came.puts

    finished_later : AllByRecursion (From now qs c) (finished_since ds c)
    finished_later = all_weaken (From ds ps c) (From now qs c) (finished_since ds c) (λ event from. later_event d ds ps qs c event more from) came.finished

    puts_now : AllFrom now qs d.does.puts → AllByRecursion (λ w. From now qs c w.event) (puts_since now c)
    puts_now put = at (drops_of d c)
      where
        fresh : AllByRecursion (λ w. From now qs c w.event) (put_at (length ds) (of_call c d.does.puts))
        fresh = own_puts now qs c (length ds) d.does.puts put

        at : (b : Bool) → AllByRecursion (λ w. From now qs c w.event) ((if b then [] else puts_since ds c) ++ put_at (length ds) (of_call c d.does.puts))
        at true = fresh
        at false = all_join (λ w. From now qs c w.event) (puts_since ds c) (put_at (length ds) (of_call c d.does.puts)) puts_later fresh

    taken_now : (event : Event) → taken_event now c ≡ Some event → From now qs c event
    taken_now event is = at (is_start_of c d.entry.kind) is
      where
        at : (b : Bool) → (if b then slice_get (map (λ (w : Waiting). w.event) (waiting_of ds c)) 0 else taken_event ds c) ≡ Some event → From now qs c event
        at true first =
            first_came now qs c (waiting_of ds c) (all_dropped (λ w. From now qs c w.event) (starts_since ds c) (puts_since ds c) puts_later) event first
        at false earlier = later_event d ds ps qs c event more (came.taken event earlier)

    one_more : (o : Option Event) → taken_event ds c ≡ o → AllByRecursion (From now qs c) (option_to_list o)
    one_more None is = tt
    one_more (Some event) is = (later_event d ds ps qs c event more (came.taken event is), tt)

    finished_now : AllByRecursion (From now qs c) (finished_since now c)
    finished_now = at (sets_state ds d c) (is_finish_of c d.entry.kind && began_since ds c)
      where
        at : (a b : Bool) → AllByRecursion (From now qs c) (if a then [] else if b then finished_since ds c ++ option_to_list (taken_event ds c) else finished_since ds c)
        at true b = tt
        at false true = all_join (From now qs c) (finished_since ds c) (option_to_list (taken_event ds c)) finished_later (one_more (taken_event ds c) refl)
        at false false = finished_later

  all_came : (es : List Entry) (c : ℕ) → AllCame (deeds_of set es) (arrived_in es) c
  all_came [] c = record { puts = tt; taken = λ event is. absurd cc; finished = tt }
  all_came (e ∷ es) c =
      let ds : List Deed = deeds_of set es in
      let d : Deed = record { entry = e; does = effect_of set ds e.kind } in
      let before : AllCame ds (arrived_in es) c = all_came es c in
      let more : (p : Packet) → IsIn p (arrived_in es) → IsIn p (arrived_in (e ∷ es)) = λ p is. in_back p (arrival_of e.kind) (arrived_in es) is in
      let put : AllFrom (d ∷ ds) (arrived_in (e ∷ es)) d.does.puts =
      all_weaken (λ put. From ds (arrival_of e.kind) put.0 put.1) (λ put. From (d ∷ ds) (arrived_in (e ∷ es)) put.0 put.1) d.does.puts
      (λ put from. later_event d ds (arrival_of e.kind) (arrived_in (e ∷ es)) put.0 put.1 (λ p is. in_front p (arrival_of e.kind) (arrived_in es) is) from) (entry_fit ds e.kind) in
      record {
        puts = puts_now d ds (arrived_in es) (arrived_in (e ∷ es)) c more before put;
        taken = taken_now d ds (arrived_in es) (arrived_in (e ∷ es)) c more before;
        finished = finished_now d ds (arrived_in es) (arrived_in (e ∷ es)) c more before;
      }

-- in the order of the entries
arrived_push : (es fs : List Entry) (p : Packet) → IsIn p (arrived_in (es ++ fs)) → IsIn p (arrived_in es) ⊎ IsIn p (arrived_in fs)
arrived_push [] fs p is = inr is
arrived_push (e ∷ es) fs p is = at (λ later. arrived_push es fs p later) (in_either p (arrival_of e.kind) (arrived_in (es ++ fs)) is)
  where
    behind : IsIn p (arrived_in es) ⊎ IsIn p (arrived_in fs) → IsIn p (arrived_in (e ∷ es)) ⊎ IsIn p (arrived_in fs)
    behind (inl front) = inl (in_back p (arrival_of e.kind) (arrived_in es) front)
    behind (inr back) = inr back

    at : (IsIn p (arrived_in (es ++ fs)) → IsIn p (arrived_in es) ⊎ IsIn p (arrived_in fs)) → IsIn p (arrival_of e.kind) ⊎ IsIn p (arrived_in (es ++ fs))
        → IsIn p (arrived_in (e ∷ es)) ⊎ IsIn p (arrived_in fs)
    at more (inl here) = inl (in_front p (arrival_of e.kind) (arrived_in es) here)
    at more (inr later) = behind (more later)

arrived_order : (h : List Entry) (p : Packet) → IsIn p (arrived_in (reverse h)) → IsIn p (arrivals h)
arrived_order [] p is = absurd is
arrived_order (e ∷ h) p is = at (λ later. arrived_order h p later) (arrived_push (reverse h) (e ∷ []) p (subst (λ es. IsIn p (arrived_in es)) (reverse-append (e ∷ []) h) is))
  where
    at : (IsIn p (arrived_in (reverse h)) → IsIn p (arrivals h)) → IsIn p (arrived_in (reverse h)) ⊎ IsIn p (arrived_in (e ∷ [])) → IsIn p (arrivals (e ∷ h))
    at more (inl later) = in_back p (arrival_of e.kind) (arrivals h) (more later)
    at more (inr first) = in_front p (arrival_of e.kind) (arrivals h) (subst (IsIn p) (append-nil (arrival_of e.kind)) first)

pub messages_arrived : MessagesArrived
messages_arrived set h c payload is =
    let b = in_all (From set (deeds_of set (reverse h)) (arrived_in (reverse h)) c) (finished_since (deeds_of set (reverse h)) c) (Message payload)
    (all_came set (reverse h) c).finished is in
    record { packet = b.packet; came = arrived_order h b.packet b.came; opening = b.opening; there = b.there; name = b.name; is = b.is; brings = b.brings }
