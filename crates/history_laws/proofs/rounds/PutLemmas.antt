-- What packets put at a table at rest.
use Rattle.std.proofs.Common.{◌≡◌, ℕ, ◌+◌, ◌<◌, ◌≤◌, Bool, true, false, not, ◌||◌, ◌==◌, List, [], ◌∷◌, ◌++◌, length, reverse, Option, option_to_list, Some, None, option_and_then, if◌then◌else◌, refl, ap, sym, ◌∙◌, subst, arith, length-append}
use Rattle.std.proofs.lemmas.Bool.{true≢false, eqb-true, eq-eqb, ne_eqb, and_parts}
use Rattle.std.proofs.lemmas.List.{append-nil}
use Rattle.std.proofs.lemmas.Option.{slice_get_within}
use Rattle.std.proofs.Math.Seq.{drop-append_seam}
use Rattle.std.specs.List.{list_any}
use Rattle.rpc_channel.specs.Rising.{has_id}
use Rattle.rpc_ids.specs.declared.status.Status.{Status}
use Rattle.rpc_ids.specs.declared.method.MethodRef.{MethodRef}
use Rattle.rpc_ids.specs.declared.method.Role.{Role}
use Rattle.rpc_ids.specs.declared.method.Role.TheVariants.{Server, Client}
use Rattle.rpc_packet.specs.declared.call_name.CallName.{CallName}
use Rattle.rpc_packet.specs.declared.owned.Packet.{Packet}
use Rattle.rpc_handlers.specs.declared.event.Event.{Event}
use Rattle.rpc_handlers.specs.declared.event.Event.TheVariants.{Message, Request as Asked}
use Rattle.rpc_handlers.specs.declared.event.Memo.{Memo}
use Rattle.rpc_handlers.specs.HandlerRule.{HandlerRule}
use Rattle.rpc_journal.specs.declared.entry.Entry.{Entry}
use Rattle.rpc_journal.specs.declared.entry.EntryKind.TheVariants.{Arrive}
use Rattle.rpc_journal.specs.declared.setting.Setting.{Setting}
use Rattle.rpc_journal.specs.Calls.{call_count, calls, ends_of, has_end, is_cancelled, last_call, live_call, of_call, same_name}
use Rattle.rpc_journal.specs.Effect.{Deed, Opening}
use Rattle.rpc_journal.specs.Entries.{arrive_row, effect_of, row_by}
use Rattle.rpc_journal.specs.History.{deeds_of, entry_by, history}
use Rattle.rpc_journal.specs.Items.{items_sent}
use Rattle.rpc_journal.specs.Kinds.{is_empty}
use Rattle.rpc_journal.specs.Queues.{drops_of, is_completed, is_completion, put_at, puts_since, starts_since, waiting_of}
use Rattle.rpc_journal.specs.Rows.{opened_row, opens_served, puts_event, queued_row}
use Rattle.rpc_journal.specs.States.{state_of}
use Rattle.rpc_journal.proofs.EndLemmas.{ended_known}
use Rattle.rpc_journal.proofs.EndedLemmas.{cancelled_ends}
use Rattle.rpc_journal.proofs.KnownLemmas.{unput}
use Rattle.rpc_journal.proofs.PlaceLemmas.{get_front, get_last}
use Rattle.history_laws.specs.rounds.Rounds.{ComesToOpen, opened_by}
use Rattle.history_laws.specs.rounds.Streams.{HasStream, IsAtRest, message_type, streams_in}
use Rattle.history_laws.proofs.rounds.RunLemmas.{WaitsAlone}
use Rattle.history_laws.proofs.rounds.StreamLemmas.{plain_deed, plain-call_at, plain-channels, plain-ends_of, plain_stream}

-- the packet puts an event to c, and may open a call
abbrev pub put_deed : Packet → Option Opening → ℕ → Event → Deed
put_deed p opens c event = plain_deed (entry_by 0 (Arrive p)) opens ((c, event) ∷ []) []

-- at a table at rest the event waits alone
module _ (ds : List Deed) (rest : IsAtRest ds) (p : Packet) (opens : Option Opening) (c : ℕ) (event : Event) where
  put_waits : waiting_of (put_deed p opens c event ∷ ds) c ≡ record { at = length ds; event = event } ∷ []
  put_waits = rw (eq-eqb c c refl, rest.taken c) (drop-append_seam (puts_since ds c) _)

  put_one : starts_since (put_deed p opens c event ∷ ds) c + 1 ≡ length (puts_since (put_deed p opens c event ∷ ds) c)
  put_one = rw (eq-eqb c c refl) (omega (arith, rest.taken c, length-append (puts_since ds c) (put_at (length ds) (event ∷ []))))

  put_taken : (k : ℕ) → (c == k) ≡ false → starts_since (put_deed p opens c event ∷ ds) k ≡ length (puts_since (put_deed p opens c event ∷ ds) k)
  put_taken k apart = rw apart (rest.taken k ∙ ap length (sym (append-nil (puts_since ds k))))

  pub put_alone : WaitsAlone (put_deed p opens c event ∷ ds) c (record { at = length ds; event = event })
  put_alone = record {
    waits = put_waits;
    one = put_one;
    taken = put_taken;
    idle = rest.idle;
    flushed = omega (arith, rest.flushed, length-append (items_sent ds) []);
    unhalted = rest.unhalted;
  }

-- a message to a stream
module _ (rule : HandlerRule) (set : Setting) (ds : List Deed) (c : ℕ) (o : Opening) (m : Memo) (p : Packet) (stream : HasStream rule set ds c o m) (named : p.name ≡ o.name) where
  row_of : (role : Role) → p.ptype ≡ message_type role → streams_in role o.method.kind ≡ true → row_by role set ds p ≡ queued_row c (Message p.payload)
  row_of Server type hears = rw (named, stream.channel, stream.known, type, stream.live, hears, stream.uncompleted) refl
  row_of Client type hears = rw (named, stream.channel, stream.known, stream.live, type, hears) refl

  pub message_puts : p.ptype ≡ message_type set.role → effect_of set ds (Arrive p) ≡ puts_event c (Message p.payload)
  unfolding arrive_row
  message_puts type = ap (λ r. r.does) (row_of set.role type stream.hears)

pub message_stream : (rule : HandlerRule) (set : Setting) (ds : List Deed) (p : Packet) (c k : ℕ) (o : Opening) (m : Memo) → HasStream rule set ds k o m
    → HasStream rule set (put_deed p None c (Message p.payload) ∷ ds) k o m
message_stream rule set ds p c k o m stream =
    plain_stream ds (entry_by 0 (Arrive p)) None ((c, Message p.payload) ∷ []) [] rule set k o m m stream
    (plain-call_at ds (entry_by 0 (Arrive p)) ((c, Message p.payload) ∷ []) [] k) refl refl refl (at (c == k)) stream.state
  where
    at : (b : Bool) → list_any is_completion (if b then Message p.payload ∷ [] else []) ≡ false
    at true = refl
    at false = refl

pub own_name : (name : CallName) → same_name name name ≡ true
own_name name = rw (eq-eqb name.channel name.channel refl, eq-eqb name.service name.service refl, eq-eqb name.method name.method refl, eq-eqb name.call name.call refl) refl

pub named_so : (a b : CallName) → same_name a b ≡ true → a ≡ b
named_so a b same =
    let last = and_parts _ _ same in
    let third = and_parts _ _ last.0 in
    let first = and_parts _ _ third.0 in
    let channel : a.channel ≡ b.channel = eqb-true _ _ first.0 in
    let service : a.service ≡ b.service = eqb-true _ _ first.1 in
    let method : a.method ≡ b.method = eqb-true _ _ third.1 in
    let call : a.call ≡ b.call = eqb-true _ _ last.1 in
    ap (λ x. record { channel = x; service = a.service; method = a.method; call = a.call }) channel
    ∙ (ap (λ x. record { channel = b.channel; service = x; method = a.method; call = a.call }) service
    ∙ (ap (λ x. record { channel = b.channel; service = b.service; method = x; call = a.call }) method
    ∙ ap (λ x. record { channel = b.channel; service = b.service; method = b.method; call = x }) call))

-- nothing was put to a call that isn't there, so none was completed
last_empty : {A : Type 0} (xs ys : List A) → xs ++ ys ≡ [] → ys ≡ []
last_empty [] ys none = none
last_empty (x ∷ xs) ys none = absurd cc

none_put : (at : ℕ) (events : List Event) → put_at at events ≡ [] → events ≡ []
none_put at [] none = refl
none_put at (event ∷ events) none = absurd cc

pub uncompleted_beyond : (set : Setting) (h : List Entry) (c : ℕ) → call_count (deeds_of set h) ≤ c → is_completed (deeds_of set h) c ≡ false
uncompleted_beyond set [] c beyond = refl
uncompleted_beyond set (e ∷ h) c beyond =
    let none : of_call c (effect_of set (deeds_of set h) e.kind).puts ≡ [] =
    none_put (length (deeds_of set h)) _ (last_empty (if drops_of (record { entry = e; does = effect_of set (deeds_of set h) e.kind }) c then [] else puts_since (deeds_of set h) c) _ (unput set (e ∷ h) c beyond)) in
    let fewer : call_count (deeds_of set h) ≤ c = omega (arith, beyond, length-append (calls (deeds_of set h)) (option_to_list (effect_of set (deeds_of set h) e.kind).opens)) in
    ap (λ events. list_any is_completion events || is_completed (deeds_of set h) c) none ∙ uncompleted_beyond set h c fewer

pub no_number : (k : ℕ) → None ≡ Some k → ⊥
no_number k is = cc

pub no_ends : (es : List Status) → not (is_empty es) ≡ false → es ≡ []
no_ends [] none = refl
no_ends (s ∷ es) none = absurd (true≢false none)

-- a request that opens a call
module _ (rule : HandlerRule) (set : Setting) (h : List Entry) (method : MethodRef) (p : Packet) (comes : ComesToOpen rule set h method p) where
  abbrev ds : List Deed
  ds = history set h

  abbrev c : ℕ
  c = call_count ds

  abbrev o : Opening
  o = opened_by p method

  abbrev pub asked_deeds : List Deed
  asked_deeds = put_deed p (Some o) c (Asked p.payload) ∷ ds

  row_of_request : (role : Role) → role ≡ Server → row_by role set ds p ≡ opened_row c (opens_served p method c)
  row_of_request Server is = rw (comes.channel, comes.known, comes.type, comes.fresh) refl
  row_of_request Client is = absurd cc

  pub request_opens : effect_of set ds (Arrive p) ≡ opens_served p method c
  unfolding arrive_row
  request_opens = ap (λ r. r.does) (row_of_request set.role comes.role)

  has_no_end : has_end ds c ≡ false
  has_no_end = at (has_end ds c) refl
    where
      at : (b : Bool) → has_end ds c ≡ b → has_end ds c ≡ false
      at false is = is
      at true is = absurd (omega (arith, ended_known set (reverse h) c is))

  uncut : is_cancelled ds c ≡ false
  uncut = at (is_cancelled ds c) refl
    where
      at : (b : Bool) → is_cancelled ds c ≡ b → is_cancelled ds c ≡ false
      at false is = is
      at true is = absurd (true≢false (sym (cancelled_ends set (reverse h) c comes.lawful.allowed is) ∙ has_no_end))

  unended : ends_of ds c ≡ []
  unended = no_ends (ends_of ds c) has_no_end

  asked_live : live_call asked_deeds p.name ≡ Some c
  asked_live =
      ap (λ b. option_and_then (λ k. if has_end asked_deeds k then None else Some k) (if b then Some c else last_call ds p.name)) (own_name p.name)
      ∙ ap (λ (es : List Status). if not (is_empty es) then None else Some c) (plain-ends_of ds (entry_by 0 (Arrive p)) (Some o) ((c, Asked p.payload) ∷ []) [] c ∙ unended)

  not_completing : (k : ℕ) → list_any is_completion (of_call k ((c, Asked p.payload) ∷ [])) ≡ false
  not_completing k = at (c == k)
    where
      at : (b : Bool) → list_any is_completion (if b then Asked p.payload ∷ [] else []) ≡ false
      at true = refl
      at false = refl

  first_state : state_of rule set asked_deeds c ≡ Some (rule.first set.seed method)
  first_state = rw (eq-eqb c c refl) refl

  pub asked_stream : HasStream rule set asked_deeds c o (rule.first set.seed method)
  asked_stream = record {
    opened = get_last (calls ds) o;
    live = asked_live;
    known = comes.known;
    channel = ap (λ ids. has_id ids p.name.channel) (plain-channels ds (entry_by 0 (Arrive p)) (Some o) ((c, Asked p.payload) ∷ []) [] set refl) ∙ comes.channel;
    hears = subst (λ role. streams_in role method.kind ≡ true) (sym comes.role) comes.streams;
    unended = plain-ends_of ds (entry_by 0 (Arrive p)) (Some o) ((c, Asked p.payload) ∷ []) [] c ∙ unended;
    uncancelled = uncut;
    uncompleted = ap (λ b. b || is_completed ds c) (not_completing c) ∙ uncompleted_beyond set (reverse h) c (omega arith);
    state = first_state;
  }

  -- a stream has another name than a call that isn't live
  other_name : (k : ℕ) (other : Opening) (m : Memo) → HasStream rule set ds k other m → same_name p.name other.name ≡ false
  other_name k other m stream = at (same_name p.name other.name) refl
    where
      at : (b : Bool) → same_name p.name other.name ≡ b → same_name p.name other.name ≡ false
      at false is = is
      at true is = absurd (no_number k (sym comes.fresh ∙ (ap (live_call ds) (named_so p.name other.name is) ∙ stream.live)))

  pub asked_other : (k : ℕ) (other : Opening) (m : Memo) → HasStream rule set ds k other m → HasStream rule set asked_deeds k other m
  asked_other k other m stream =
      let there : k < call_count ds = slice_get_within (calls ds) k other stream.opened in
      plain_stream ds (entry_by 0 (Arrive p)) (Some o) ((c, Asked p.payload) ∷ []) [] rule set k other m m stream (get_front (calls ds) (o ∷ []) k there)
      (other_name k other m stream) refl refl (not_completing k) (rw (ne_eqb c k (λ same. omega (arith, same, there))) stream.state)
