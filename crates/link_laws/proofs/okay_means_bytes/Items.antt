-- The items that the client's entries add, where a task doesn't speak.
use Rattle.std.proofs.Common.{◌≡◌, ℕ, ◌<◌, ◌≤◌, ◌==◌, ◌&&◌, ◌||◌, ◌^◌, not, Bool, true, false, if◌then◌else◌, List, [], ◌∷◌, ◌++◌, Option, Some, None, is_some, option_to_list, refl, sym, ap, ◌∙◌, subst, arith}
use Rattle.std.proofs.lemmas.Bool.{eqb-true, false≢true, ne_eqb}
use Rattle.std.proofs.lemmas.List.{append-nil}
use Rattle.std.proofs.lemmas.Option.{slice_get_within}
use Rattle.std.specs.List.{AllByRecursion}
use Rattle.rpc_ids.specs.declared.method.MethodRef.{MethodRef}
use Rattle.rpc_ids.specs.declared.method.Role.{Role}
use Rattle.rpc_ids.specs.declared.method.Role.TheVariants.{Server, Client}
use Rattle.rpc_ids.specs.declared.status.Status.{Status}
use Rattle.rpc_ids.specs.declared.status.Status.TheVariants.{Okay, Cancelled}
use Rattle.rpc_ids.specs.Status.{status_of}
use Rattle.rpc_packet.specs.declared.call_name.CallName.{CallName}
use Rattle.rpc_packet.specs.declared.owned.Packet.{Packet}
use Rattle.rpc_packet.specs.declared.packet_type.PacketType.{PacketType}
use Rattle.rpc_packet.specs.declared.packet_type.PacketType.TheVariants.{Request, Response, ClientStream, ClientError, ServerError, ServerStream, Completion}
use Rattle.rpc_channel.specs.Rising.{has_id}
use Rattle.rpc_handlers.specs.declared.answer.Answer.{Answer}
use Rattle.rpc_handlers.specs.declared.answer.Out.{Out}
use Rattle.rpc_handlers.specs.declared.answer.Out.TheVariants.{Say as Message, Begin, Append, Commit, Leave}
use Rattle.rpc_handlers.specs.declared.event.Event.{Event}
use Rattle.rpc_handlers.specs.declared.event.Memo.{Memo}
use Rattle.rpc_journal.specs.declared.entry.Entry.{Entry}
use Rattle.rpc_journal.specs.declared.entry.EntryKind.{EntryKind}
use Rattle.rpc_journal.specs.declared.entry.EntryKind.TheVariants.{Arrive, Invoke, Say, Done, Start, Finish, Replace, Cancel, Tick, Flush, EndIn, Halt, Close}
use Rattle.rpc_journal.specs.declared.item.Act.{Act}
use Rattle.rpc_journal.specs.declared.item.Act.TheVariants.{Send, Keep, LeaveCall}
use Rattle.rpc_journal.specs.declared.item.Item.{Item}
use Rattle.rpc_journal.specs.declared.setting.Setting.{Setting}
use Rattle.rpc_journal.specs.Calls.{call_at, call_count, calls, has_end, is_cancel_of, is_cancelled, is_finish_of, is_replace_of, live_call, runner_of}
use Rattle.rpc_journal.specs.ClientTable.{call_row, live_row, no_call_row}
use Rattle.rpc_journal.specs.Effect.{Deed, Opening}
use Rattle.rpc_journal.specs.Entries.{answered, arrive_row, cancel_effect, effect_of, error_type, finish_effect, invoke_effect, is_heard, leave_item, message_item, row_by, with_call}
use Rattle.rpc_journal.specs.History.{adding, entry_by, history}
use Rattle.rpc_journal.specs.Items.{is_done, is_for, items_sent}
use Rattle.rpc_journal.specs.Kinds.{is_okay, streams_down}
use Rattle.rpc_journal.specs.Queues.{taken_event}
use Rattle.rpc_journal.specs.Rows.{Row, channels_in, method_named, packet_item, says_item, status_packet}
use Rattle.rpc_journal.specs.States.{began_since, finished_since, sets_state}
use Rattle.rpc_journal.proofs.Push.{history-push}
use Rattle.demo_services.specs.Answers.{empty_answer}
use Rattle.demo_services.specs.Methods.{transfer_id}
use Rattle.transfer_words.specs.Word.{Word}
use Rattle.transfer_words.specs.Spoken.{FitsChunk, text_in}
use Rattle.transfer_words.specs.Saying.{Saying, says}
use Rattle.link_laws.specs.uploads.CallItems.{act_outs, item_outs, streamed_out, outs_by}
use Rattle.link_laws.specs.uploads.Uploads.{deed_in, deeds_by, deeds_in}
use Rattle.history_laws.specs.messages.Messages.{IsIn}
use Rattle.history_laws.proofs.messages.Members.{all_join, in_front}
use Rattle.history_laws.proofs.messages.OfCalls.{stays_at}
use Rattle.std.proofs.lemmas.Grind.{flat_map-append}

-- a call that isn't of the transfer service
pub record NotTransfer (ds : List Deed) (c : ℕ) : Type 0 where
  pub opening : Opening
  pub there : call_at ds c ≡ Some opening
  pub other : opening.name.service ≡ transfer_id → ⊥

-- the client's entries that no task makes
abbrev pub Quiet : List Deed → EntryKind → Type 0
Quiet ds (Arrive p) = Unit {0}
Quiet ds (Invoke p m) = p.ptype ≡ Request
Quiet ds (Say c (Message payload)) = NotTransfer ds c
Quiet ds (Say c out) = ⊥
Quiet ds (Done c) = Unit {0}
Quiet ds (Start c) = Unit {0}
Quiet ds (Finish c a) = a ≡ empty_answer
Quiet ds (Replace c m) = ⊥
Quiet ds (Cancel c) = NotTransfer ds c
Quiet ds (Tick t) = Unit {0}
Quiet ds Flush = Unit {0}
Quiet ds EndIn = Unit {0}
Quiet ds (Halt why) = Unit {0}
Quiet ds (Close channel) = ⊥

-- no message of the transfer service, and no store action
abbrev pub PlainAct : Act → Type 0
PlainAct (Send p) = p.ptype ≡ ClientStream → p.name.service ≡ transfer_id → ⊥
PlainAct (Keep out) = ⊥
PlainAct LeaveCall = Unit {0}

abbrev pub Plain : Item → Type 0
Plain item = PlainAct item.act

abbrev pub AllPlain : List Item → Type 0
AllPlain items = AllByRecursion Plain items

other_type : (p : Packet) (type : PacketType) → p.ptype ≡ type → (type ≡ ClientStream → ⊥) → PlainAct (Send p)
other_type p type is other = λ same service. absurd (other (sym is ∙ same))

if_row : (b : Bool) (x y : Row) → AllPlain x.does.says → AllPlain y.does.says → AllPlain (if b then x else y).does.says
if_row true x y first second = first
if_row false x y first second = second

no_call_plain : (ptype : PacketType) (p : Packet) → AllPlain (no_call_row ptype p).does.says
no_call_plain Request p = tt
no_call_plain Response p = tt
no_call_plain ClientStream p = tt
no_call_plain ClientError p = tt
no_call_plain ServerError p = tt
no_call_plain ServerStream p = (λ type service. cc, tt)
no_call_plain Completion p = tt

live_plain : (k : ℕ) (ptype : PacketType) (p : Packet) (m : MethodRef) → AllPlain (live_row ptype p m k).does.says
live_plain k Request p m = tt
live_plain k Response p m = if_row (is_okay (status_of p.status) && not (streams_down m.kind)) _ _ tt tt
live_plain k ClientStream p m = tt
live_plain k ClientError p m = tt
live_plain k ServerError p m = tt
live_plain k ServerStream p m = if_row (streams_down m.kind) _ _ tt (λ type service. cc, tt)
live_plain k Completion p m = tt

call_plain : (p : Packet) (o : Option MethodRef) (l : Option ℕ) → AllPlain (call_row p o l).does.says
call_plain p None l = no_call_plain p.ptype p
call_plain p (Some m) None = no_call_plain p.ptype p
call_plain p (Some m) (Some k) = live_plain k p.ptype p m

row_plain : (role : Role) (set : Setting) (ds : List Deed) (p : Packet) → role ≡ Client → AllPlain (row_by role set ds p).does.says
row_plain Server set ds p is = absurd cc
row_plain Client set ds p is = if_row (has_id (channels_in set ds) p.name.channel) _ _ (call_plain p (method_named set p.name) (live_call ds p.name)) tt

pub arrive_plain : (set : Setting) (ds : List Deed) (p : Packet) → set.role ≡ Client → AllPlain (arrive_row set ds p).does.says
unfolding arrive_row
arrive_plain set ds p role = row_plain set.role set ds p role

error_plain : (role : Role) (k : ℕ) (name : CallName) (s : Status) → role ≡ Client → PlainAct (Send (status_packet (error_type role) name s))
error_plain Server k name s is = absurd cc
error_plain Client k name s is = λ type service. cc

module _ (set : Setting) (role : set.role ≡ Client) (ds : List Deed) where
  pub finish_plain : (k : ℕ) (a : Answer) (o : Option Opening) → a ≡ empty_answer → AllPlain (finish_effect set ds k a o).says
  finish_plain k a None is = tt
  finish_plain k a (Some o) is = subst (λ x. AllPlain (finish_effect set ds k x (Some o)).says) (sym is) (by_cut (is_cancelled ds k) (is_heard ds k))
    where
      by_cut : (cut heard : Bool) → AllPlain (if cut then says_item (leave_item k) else answered set.role k o heard (is_done ds k) empty_answer).says
      by_cut true heard = (tt, tt)
      by_cut false true = tt
      by_cut false false = tt

  pub cancel_plain : (k : ℕ) (o : Option Opening) → AllPlain (cancel_effect set ds k o).says
  cancel_plain k None = tt
  cancel_plain k (Some o) = by_end (has_end ds k) (is_some (runner_of ds k))
    where
      by_end : (ended runs : Bool)
          → AllPlain ((if ended then [] else packet_item k (status_packet (error_type set.role) o.name Cancelled) ∷ []) ++ (if runs then [] else leave_item k ∷ []))
      by_end true true = tt
      by_end true false = (tt, tt)
      by_end false true = (error_plain set.role k o.name Cancelled role, tt)
      by_end false false = (error_plain set.role k o.name Cancelled role, (tt, tt))

  pub done_plain : (k : ℕ) (o : Option Opening) → AllPlain (with_call o (λ x. says_item (packet_item k (status_packet Completion x.name Okay)))).says
  done_plain k None = tt
  done_plain k (Some o) = (λ type service. cc, tt)

  invoke_plain : (p : Packet) (m : Memo) (o : Option MethodRef) → p.ptype ≡ Request → AllPlain (invoke_effect ds p m o).says
  invoke_plain p m None is = tt
  invoke_plain p m (Some method) is = (other_type p Request is (λ e. cc), tt)

  say_plain : (k : ℕ) (payload : List ℕ) (o : Option Opening) → call_at ds k ≡ o → NotTransfer ds k → AllPlain (with_call o (λ x. says_item (message_item set.role k x.name payload))).says
  say_plain k payload None e n = tt
  say_plain k payload (Some o) e n = (λ type service. absurd (n.other (ap (λ (x : Opening). x.name.service) same ∙ service)), tt)
    where
      same : n.opening ≡ o
      same = cc (sym n.there ∙ e)

  pub quiet_plain : (kind : EntryKind) → Quiet ds kind → AllPlain (effect_of set ds kind).says
  quiet_plain (Arrive p) q = arrive_plain set ds p role
  quiet_plain (Invoke p m) q = invoke_plain p m (method_named set p.name) q
  quiet_plain (Say c (Message payload)) q = say_plain c payload (call_at ds c) refl q
  quiet_plain (Say c (Begin s r o)) q = absurd q
  quiet_plain (Say c (Append s b)) q = absurd q
  quiet_plain (Say c (Commit s)) q = absurd q
  quiet_plain (Say c (Leave s)) q = absurd q
  quiet_plain (Done c) q = done_plain c (call_at ds c)
  quiet_plain (Start c) q = tt
  quiet_plain (Finish c a) q = finish_plain c a (call_at ds c) q
  quiet_plain (Replace c m) q = absurd q
  quiet_plain (Cancel c) q = cancel_plain c (call_at ds c)
  quiet_plain (Tick t) q = tt
  quiet_plain Flush q = tt
  quiet_plain EndIn q = tt
  quiet_plain (Halt why) q = tt
  quiet_plain (Close channel) q = absurd q

-- What the client has said so far: each message of the transfer service says a word that fits, in one of these sessions;
-- and in this session just these.
pub record Known (n i : ℕ) (ss : List Saying) (payload : List ℕ) : Type 0 where
  pub session : ℕ
  pub word : Word
  pub is : payload ≡ text_in session word
  pub low : session ≤ n
  pub small : session < 2 ^ 32
  pub fits : FitsChunk word
  pub own : session ≡ i → IsIn (says word) ss

abbrev pub session_of : Out → ℕ
session_of (Message payload) = 0
session_of (Begin session resource offset) = session
session_of (Append session bytes) = session
session_of (Commit session) = session
session_of (Leave session) = session

abbrev pub KnownAct : ℕ → ℕ → List Saying → Act → Type 0
KnownAct n i ss (Send p) = p.ptype ≡ ClientStream → p.name.service ≡ transfer_id → Known n i ss p.payload
KnownAct n i ss (Keep out) = session_of out ≤ n
KnownAct n i ss LeaveCall = Unit {0}

abbrev pub KnownItem : ℕ → ℕ → List Saying → Item → Type 0
KnownItem n i ss item = KnownAct n i ss item.act

plain_known : (n i : ℕ) (ss : List Saying) (items : List Item) → AllPlain items → AllByRecursion (KnownItem n i ss) items
plain_known n i ss [] all = tt
plain_known n i ss (item ∷ items) all = (at item.act all.0, plain_known n i ss items all.1)
  where
    at : (act : Act) → PlainAct act → KnownAct n i ss act
    at (Send p) plain = λ type service. absurd (plain type service)
    at (Keep out) plain = absurd plain
    at LeaveCall plain = tt

no_message : (session : ℕ) (type : PacketType) (payload : List ℕ) → deeds_in session (streamed_out type payload) ≡ []
no_message session Request payload = refl
no_message session Response payload = refl
no_message session ClientStream payload = refl
no_message session ClientError payload = refl
no_message session ServerError payload = refl
no_message session ServerStream payload = refl
no_message session Completion payload = refl

pub deeds_more : (c session : ℕ) (xs ys : List Item) → deeds_by c session (xs ++ ys) ≡ deeds_by c session xs ++ deeds_by c session ys
deeds_more c session xs ys = ap (deeds_in session) (flat_map-append (item_outs c) xs ys) ∙ flat_map-append (deed_in session) (outs_by c xs) (outs_by c ys)

pub one_deeds : (c session : ℕ) (item : Item) → deeds_by c session (item ∷ []) ≡ deeds_in session (item_outs c item)
one_deeds c session item = ap (deeds_in session) (append-nil (item_outs c item))

plain_deeds : (c session : ℕ) (items : List Item) → AllPlain items → deeds_by c session items ≡ []
plain_deeds c session [] all = refl
plain_deeds c session (item ∷ items) all =
    deeds_more c session (item ∷ []) items
    ∙ (ap (λ ds. ds ++ deeds_by c session items) (one_deeds c session item ∙ of_act item.act all.0 (is_for c item.call)) ∙ plain_deeds c session items all.1)
  where
    of_act : (act : Act) → PlainAct act → (b : Bool) → deeds_in session (if b then act_outs act else []) ≡ []
    of_act (Send p) plain true = no_message session p.ptype p.payload
    of_act (Send p) plain false = refl
    of_act (Keep out) plain b = absurd plain
    of_act LeaveCall plain true = refl
    of_act LeaveCall plain false = refl

-- The client's history: what it has said is known, and only calls of other services were cancelled.
pub record ClientInv (set : Setting) (h : List Entry) (n i : ℕ) (ss : List Saying) : Type 0 where
  pub items : AllByRecursion (KnownItem n i ss) (items_sent (history set h))
  pub cuts : (c : ℕ) → is_cancelled (history set h) c ≡ true → NotTransfer (history set h) c

-- the deed of one more entry
abbrev pub deed_at : Setting → List Entry → ℕ → EntryKind → Deed
deed_at set h seat kind = record { entry = entry_by seat kind; does = effect_of set (history set h) kind }

pub added_deed : (set : Setting) (h : List Entry) (seat : ℕ) (kind : EntryKind) → history set (adding h seat kind) ≡ deed_at set h seat kind ∷ history set h
added_deed set h seat kind = history-push set h (entry_by seat kind)

pub not_later : (d : Deed) (ds : List Deed) (c : ℕ) → NotTransfer ds c → NotTransfer (d ∷ ds) c
not_later d ds c n = record { opening = n.opening; there = stays_at d ds c n.opening n.there; other = n.other }

module _ (set : Setting) (role : set.role ≡ Client) (h : List Entry) (seat : ℕ) (kind : EntryKind) (quiet : Quiet (history set h) kind) where
  abbrev ds : List Deed
  ds = history set h

  abbrev deed : Deed
  deed = record { entry = entry_by seat kind; does = effect_of set ds kind }

  quiet_cuts : (n i : ℕ) (ss : List Saying) → ClientInv set h n i ss → (c : ℕ) → is_cancelled (deed ∷ ds) c ≡ true → NotTransfer (deed ∷ ds) c
  quiet_cuts n i ss inv c is = by_kind kind quiet refl (is_cancelled ds c) refl is
    where
      by_kind : (x : EntryKind) → Quiet ds x → kind ≡ x → (b : Bool) → is_cancelled ds c ≡ b → (is_cancel_of c kind || b) ≡ true → NotTransfer (deed ∷ ds) c
      by_kind x q e true before cut = not_later deed ds c (inv.cuts c before)
      by_kind (Cancel x) q e false before cut = own (x == c) refl (ap (λ y. is_cancel_of c y || false) (sym e) ∙ cut)
        where
          own : (b : Bool) → (x == c) ≡ b → (b || false) ≡ true → NotTransfer (deed ∷ ds) c
          own true same t = not_later deed ds c (subst (NotTransfer ds) (eqb-true x c same) q)
          own false apart t = absurd (false≢true t)
      by_kind (Arrive p) q e false before cut = absurd (false≢true (ap (λ y. is_cancel_of c y || false) (sym e) ∙ cut))
      by_kind (Invoke p m) q e false before cut = absurd (false≢true (ap (λ y. is_cancel_of c y || false) (sym e) ∙ cut))
      by_kind (Say x out) q e false before cut = absurd (false≢true (ap (λ y. is_cancel_of c y || false) (sym e) ∙ cut))
      by_kind (Done x) q e false before cut = absurd (false≢true (ap (λ y. is_cancel_of c y || false) (sym e) ∙ cut))
      by_kind (Start x) q e false before cut = absurd (false≢true (ap (λ y. is_cancel_of c y || false) (sym e) ∙ cut))
      by_kind (Finish x a) q e false before cut = absurd (false≢true (ap (λ y. is_cancel_of c y || false) (sym e) ∙ cut))
      by_kind (Replace x m) q e false before cut = absurd (false≢true (ap (λ y. is_cancel_of c y || false) (sym e) ∙ cut))
      by_kind (Tick t) q e false before cut = absurd (false≢true (ap (λ y. is_cancel_of c y || false) (sym e) ∙ cut))
      by_kind Flush q e false before cut = absurd (false≢true (ap (λ y. is_cancel_of c y || false) (sym e) ∙ cut))
      by_kind EndIn q e false before cut = absurd (false≢true (ap (λ y. is_cancel_of c y || false) (sym e) ∙ cut))
      by_kind (Halt why) q e false before cut = absurd (false≢true (ap (λ y. is_cancel_of c y || false) (sym e) ∙ cut))
      by_kind (Close channel) q e false before cut = absurd (false≢true (ap (λ y. is_cancel_of c y || false) (sym e) ∙ cut))

  pub quiet_inv : (n i : ℕ) (ss : List Saying) → ClientInv set h n i ss → ClientInv set (adding h seat kind) n i ss
  quiet_inv n i ss inv = record {
    items =
        subst (λ x. AllByRecursion (KnownItem n i ss) (items_sent x)) (sym (added_deed set h seat kind))
        (all_join (KnownItem n i ss) (items_sent ds) (effect_of set ds kind).says inv.items (plain_known n i ss _ (quiet_plain set role ds kind quiet)));
    cuts = subst (λ x. (c : ℕ) → is_cancelled x c ≡ true → NotTransfer x c) (sym (added_deed set h seat kind)) (quiet_cuts n i ss inv);
  }

  pub quiet_deeds : (c session : ℕ) → deeds_by c session (items_sent (history set (adding h seat kind))) ≡ deeds_by c session (items_sent ds)
  quiet_deeds c session =
      ap (λ x. deeds_by c session (items_sent x)) (added_deed set h seat kind)
      ∙ (deeds_more c session (items_sent ds) (effect_of set ds kind).says
      ∙ (ap (λ more. deeds_by c session (items_sent ds) ++ more) (plain_deeds c session _ (quiet_plain set role ds kind quiet)) ∙ append-nil (deeds_by c session (items_sent ds))))

-- a call that is there keeps its place, and the events that it took
pub kept_at : (set : Setting) (h : List Entry) (seat : ℕ) (kind : EntryKind) (c : ℕ) (o : Opening) → call_at (history set h) c ≡ Some o → call_at (history set (adding h seat kind)) c ≡ Some o
kept_at set h seat kind c o there = subst (λ x. call_at x c ≡ Some o) (sym (added_deed set h seat kind)) (stays_at (deed_at set h seat kind) (history set h) c o there)

no_replace : (ds : List Deed) (c : ℕ) (kind : EntryKind) → Quiet ds kind → is_replace_of c kind ≡ false
no_replace _ c (Replace x m) q = absurd q
no_replace _ c _ q = refl

more_events : (d : Deed) (ds : List Deed) (c : ℕ) (o : Opening) (ev : Event) → call_at ds c ≡ Some o → is_replace_of c d.entry.kind ≡ false → IsIn ev (finished_since ds c)
    → IsIn ev (finished_since (d ∷ ds) c)
more_events d ds c o ev there kept is = subst (λ b. IsIn ev (if b then [] else if is_finish_of c d.entry.kind && began_since ds c then finished_since ds c ++ option_to_list (taken_event ds c) else finished_since ds c)) (sym closed) (at (is_finish_of c d.entry.kind && began_since ds c))
  where
    other : (call_count ds == c) ≡ false
    other = ne_eqb (call_count ds) c (λ same. omega (arith, same, slice_get_within (calls ds) c o there))

    closed : sets_state ds d c ≡ false
    closed = by_open (is_some d.does.opens)
      where
        by_open : (b : Bool) → ((b && (call_count ds == c)) || is_replace_of c d.entry.kind) ≡ false
        by_open true = rw (other, kept) refl
        by_open false = kept

    at : (b : Bool) → IsIn ev (if b then finished_since ds c ++ option_to_list (taken_event ds c) else finished_since ds c)
    at true = in_front ev (finished_since ds c) (option_to_list (taken_event ds c)) is
    at false = is

pub kept_events : (set : Setting) (h : List Entry) (seat : ℕ) (kind : EntryKind) (c : ℕ) (o : Opening) (ev : Event) → call_at (history set h) c ≡ Some o → is_replace_of c kind ≡ false
    → IsIn ev (finished_since (history set h) c) → IsIn ev (finished_since (history set (adding h seat kind)) c)
kept_events set h seat kind c o ev there kept is =
    subst (λ x. IsIn ev (finished_since x c)) (sym (added_deed set h seat kind)) (more_events (deed_at set h seat kind) (history set h) c o ev there kept is)

pub quiet_events : (set : Setting) (h : List Entry) (seat : ℕ) (kind : EntryKind) (c : ℕ) (o : Opening) (ev : Event) → call_at (history set h) c ≡ Some o → Quiet (history set h) kind
    → IsIn ev (finished_since (history set h) c) → IsIn ev (finished_since (history set (adding h seat kind)) c)
quiet_events set h seat kind c o ev there quiet is = kept_events set h seat kind c o ev there (no_replace (history set h) c kind quiet) is
