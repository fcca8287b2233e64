-- What an entry adds of a call's messages and store actions: nothing, unless it is the Finish of one of its runs.
use Rattle.std.proofs.Common.{◌≡◌, ℕ, ◌+◌, Bool, true, false, not, ◌||◌, ◌==◌, List, [], ◌∷◌, ◌++◌, flat_map, Option, Some, None, is_some, inl, inr, refl, ap, sym, ◌∙◌, subst, if◌then◌else◌}
use Rattle.std.proofs.lemmas.Bool.{true≢false, eq-eqb}
use Rattle.rpc_ids.specs.declared.method.Kind.{Kind}
use Rattle.rpc_ids.specs.declared.method.MethodRef.{MethodRef}
use Rattle.rpc_ids.specs.declared.method.Role.{Role}
use Rattle.rpc_ids.specs.declared.method.Role.TheVariants.{Server, Client}
use Rattle.rpc_ids.specs.declared.status.Status.{Status}
use Rattle.rpc_ids.specs.declared.status.Status.TheVariants.{Aborted, Cancelled, NotFound, Okay, Unavailable}
use Rattle.rpc_packet.specs.declared.call_name.CallName.{CallName}
use Rattle.rpc_packet.specs.declared.owned.Packet.{Packet}
use Rattle.rpc_packet.specs.declared.packet_type.PacketType.{PacketType}
use Rattle.rpc_packet.specs.declared.packet_type.PacketType.TheVariants.{Request, Response, ClientStream, ClientError, ServerError, ServerStream, Completion}
use Rattle.rpc_channel.specs.Rising.{has_id}
use Rattle.rpc_handlers.specs.declared.answer.Answer.{Answer}
use Rattle.rpc_handlers.specs.declared.answer.End.{End}
use Rattle.rpc_handlers.specs.declared.answer.Out.{Out}
use Rattle.rpc_handlers.specs.declared.answer.Out.TheVariants.{Say, Begin, Append, Commit, Leave}
use Rattle.rpc_handlers.specs.declared.event.Memo.{Memo}
use Rattle.rpc_journal.specs.declared.item.Item.{Item}
use Rattle.rpc_journal.specs.declared.setting.Setting.{Setting}
use Rattle.rpc_journal.specs.Calls.{calls, has_end, is_cancelled, live_call, runner_of}
use Rattle.rpc_journal.specs.Effect.{Deed, Effect, Opening}
use Rattle.rpc_journal.specs.Entries.{answer_item, answered, arrive_row, cancel_effect, close_effect, end_effect, error_type, finish_effect, invoke_effect, is_heard, is_live_on, leave_item, made_from, messages_go, row_by, with_call}
use Rattle.rpc_journal.specs.Items.{is_done}
use Rattle.rpc_journal.specs.Lawful.{is_refused_invoke}
use Rattle.rpc_journal.specs.Kinds.{is_unary, streams_up}
use Rattle.rpc_journal.specs.Queues.{is_completed}
use Rattle.rpc_journal.specs.Rows.{Row, channels_in, method_named, no_effect, says_item, packet_item, status_packet}
use Rattle.rpc_journal.specs.ServerTable.{known_row, method_row, unknown_row}
use Rattle.link_laws.specs.uploads.CallItems.{AllButMessages, item_outs, outs_by}
use Rattle.link_laws.proofs.uploads.ItemLemmas.{but_append, outs_by-append, silent_behind}

abbrev nothing : List Out
nothing = []

-- either way there is nothing
none_or_none : (b : Bool) → (if b then nothing else nothing) ++ nothing ≡ nothing
none_or_none true = refl
none_or_none false = refl

-- a server begins no call of its own
pub server_invokes : (set : Setting) (ds : List Deed) (p : Packet) → set.role ≡ Server → is_refused_invoke set ds p ≡ false → ⊥
server_invokes set ds p role accepted = true≢false (sym (rw role refl) ∙ accepted)

-- the row of a packet
module _ (k : ℕ) where
  abbrev IsSilent : Row → Type 0
  IsSilent row = outs_by k row.does.says ≡ []

  if_silent : (b : Bool) (x y : Row) → IsSilent x → IsSilent y → IsSilent (if b then x else y)
  if_silent true x y first second = first
  if_silent false x y first second = second

  known_silent : (ptype : PacketType) (p : Packet) (m : MethodRef) (ds : List Deed) (l : Option ℕ) → IsSilent (known_row ptype p m ds l)
  known_silent Request p m ds None = refl
  known_silent Request p m ds (Some c) = refl
  known_silent Response p m ds l = refl
  known_silent ClientStream p m ds None = refl
  known_silent ClientStream p m ds (Some c) = if_silent (not (streams_up m.kind)) _ _ refl (if_silent (is_completed ds c) _ _ refl refl)
  known_silent ClientError p m ds None = refl
  known_silent ClientError p m ds (Some c) = refl
  known_silent ServerError p m ds l = refl
  known_silent ServerStream p m ds l = refl
  known_silent Completion p m ds None = refl
  known_silent Completion p m ds (Some c) = if_silent (is_unary m.kind || is_completed ds c) _ _ refl refl

  unknown_silent : (ptype : PacketType) (p : Packet) (s : Status) → IsSilent (unknown_row ptype p s)
  unknown_silent Request p s = refl
  unknown_silent Response p s = refl
  unknown_silent ClientStream p s = refl
  unknown_silent ClientError p s = refl
  unknown_silent ServerError p s = refl
  unknown_silent ServerStream p s = refl
  unknown_silent Completion p s = refl

  method_silent : (p : Packet) (ds : List Deed) (o : Option MethodRef) → IsSilent (method_row p ds o)
  method_silent p ds None = unknown_silent p.ptype p NotFound
  method_silent p ds (Some m) = known_silent p.ptype p m ds (live_call ds p.name)

  pub arrival_silent : (set : Setting) (ds : List Deed) (p : Packet) → set.role ≡ Server → outs_by k (arrive_row set ds p).does.says ≡ []
  unfolding arrive_row
  arrival_silent set ds p role =
      subst (λ (r : Role). IsSilent (row_by r set ds p)) (sym role)
      (if_silent (has_id (channels_in set ds) p.name.channel) _ _ (method_silent p ds (method_named set p.name)) (unknown_silent p.ptype p Unavailable))

  pub invoke_silent : (set : Setting) (ds : List Deed) (p : Packet) (m : Memo) → set.role ≡ Server → is_refused_invoke set ds p ≡ false
      → outs_by k (invoke_effect ds p m (method_named set p.name)).says ≡ []
  invoke_silent set ds p m role accepted = absurd (server_invokes set ds p role accepted)

  pub done_silent : (c : ℕ) (o : Option Opening) → outs_by k (with_call o (λ x. says_item (packet_item c (status_packet Completion x.name Okay)))).says ≡ []
  done_silent c None = refl
  done_silent c (Some o) = none_or_none (c == k)

  error_silent : (r : Role) (c : ℕ) (name : CallName) (s : Status) → r ≡ Server → item_outs k (packet_item c (status_packet (error_type r) name s)) ≡ []
  error_silent Server c name s is = at (c == k)
    where
      at : (b : Bool) → (if b then nothing else nothing) ≡ nothing
      at true = refl
      at false = refl
  error_silent Client c name s is = absurd cc

  leaves_silent : (c : ℕ) → item_outs k (leave_item c) ≡ []
  leaves_silent c = at (c == k)
    where
      at : (b : Bool) → (if b then nothing else nothing) ≡ nothing
      at true = refl
      at false = refl

  pub cancel_silent : (set : Setting) (ds : List Deed) (c : ℕ) (o : Option Opening) → set.role ≡ Server → outs_by k (cancel_effect set ds c o).says ≡ []
  cancel_silent set ds c None role = refl
  cancel_silent set ds c (Some o) role = at (has_end ds c) (is_some (runner_of ds c))
    where
      at : (ended running : Bool)
          → outs_by k ((if ended then [] else packet_item c (status_packet (error_type set.role) o.name Cancelled) ∷ []) ++ (if running then [] else leave_item c ∷ [])) ≡ []
      at true true = refl
      at true false = rw (leaves_silent c) refl
      at false true = rw (error_silent set.role c o.name Cancelled role) refl
      at false false = rw (error_silent set.role c o.name Cancelled role, leaves_silent c) refl

  closing_silent : (r : Role) (test : ℕ → Opening → Bool) (n : ℕ) (os : List Opening) → r ≡ Server
      → outs_by k (made_from n test (λ c o. packet_item c (status_packet (error_type r) o.name Aborted)) os) ≡ []
  closing_silent r test n [] is = refl
  closing_silent r test n (o ∷ os) is = at (test n o) (closing_silent r test (n + 1) os is)
    where
      at : (b : Bool) → outs_by k (made_from (n + 1) test (λ c o. packet_item c (status_packet (error_type r) o.name Aborted)) os) ≡ []
          → outs_by k (if b then packet_item n (status_packet (error_type r) o.name Aborted) ∷ made_from (n + 1) test (λ c o. packet_item c (status_packet (error_type r) o.name Aborted)) os
          else made_from (n + 1) test (λ c o. packet_item c (status_packet (error_type r) o.name Aborted)) os) ≡ []
      at true rest = rw (error_silent r n o.name Aborted is) rest
      at false rest = rest

  pub close_silent : (set : Setting) (ds : List Deed) (channel : ℕ) → set.role ≡ Server → outs_by k (close_effect set.role ds channel).says ≡ []
  close_silent set ds channel role = closing_silent set.role (is_live_on ds channel) 0 (calls ds) role

  -- an answer of another call
  other_item : (c : ℕ) (name : CallName) (says : Bool) (out : Out) → (c == k) ≡ false → outs_by k (answer_item Server c name says out) ≡ []
  other_item c name true (Say payload) apart = rw apart refl
  other_item c name false (Say payload) apart = refl
  other_item c name says (Begin session resource offset) apart = rw apart refl
  other_item c name says (Append session bytes) apart = rw apart refl
  other_item c name says (Commit session) apart = rw apart refl
  other_item c name says (Leave session) apart = rw apart refl

  other_items : (c : ℕ) (name : CallName) (says : Bool) (outs : List Out) → (c == k) ≡ false → outs_by k (flat_map (answer_item Server c name says) outs) ≡ []
  other_items c name says [] apart = refl
  other_items c name says (out ∷ outs) apart =
      outs_by-append k (answer_item Server c name says out) (flat_map (answer_item Server c name says) outs)
      ∙ (ap (λ xs. xs ++ outs_by k (flat_map (answer_item Server c name says) outs)) (other_item c name says out apart) ∙ other_items c name says outs apart)

  end_silent : (c : ℕ) (o : Opening) (heard done : Bool) (end : Option End)
      → outs_by k (if heard then end_effect Server c o.name o.method.kind done end else no_effect).says ≡ []
  end_silent c o false done end = refl
  end_silent c o true done None = refl
  end_silent c o true done (Some end) = none_or_none (c == k)

  other_answered : (c : ℕ) (o : Opening) (heard done : Bool) (a : Answer) → (c == k) ≡ false → outs_by k (answered Server c o heard done a).says ≡ []
  other_answered c o heard done a apart =
      silent_behind k (flat_map (answer_item Server c o.name (messages_go Server o.method.kind heard done)) a.items) _ (end_silent c o heard done a.end)
      ∙ other_items c o.name (messages_go Server o.method.kind heard done) a.items apart

  -- the end of another call's run
  pub finish_silent : (set : Setting) (ds : List Deed) (c : ℕ) (a : Answer) (o : Option Opening) → set.role ≡ Server → (c == k) ≡ false
      → outs_by k (finish_effect set ds c a o).says ≡ []
  finish_silent set ds c a None role apart = refl
  finish_silent set ds c a (Some o) role apart = at (is_cancelled ds c)
    where
      at : (b : Bool) → outs_by k (if b then says_item (leave_item c) else answered set.role c o (is_heard ds c) (is_done ds c) a).says ≡ []
      at true = rw (leaves_silent c) refl
      at false =
          subst (λ (r : Role). outs_by k (answered r c o (is_heard ds c) (is_done ds c) a).says ≡ []) (sym role)
          (other_answered c o (is_heard ds c) (is_done ds c) a apart)

  -- the end of a cancelled call's run
  pub cut_silent : (set : Setting) (ds : List Deed) (c : ℕ) (a : Answer) (o : Option Opening) → is_cancelled ds c ≡ true
      → outs_by k (finish_effect set ds c a o).says ≡ []
  cut_silent set ds c a None cut = refl
  cut_silent set ds c a (Some o) cut = rw (cut, leaves_silent c) refl

-- the items of an answer go out, but for messages that don't go
own_item : (c : ℕ) (name : CallName) (says : Bool) (out : Out) → AllButMessages (out ∷ []) (outs_by c (answer_item Server c name says out))
own_item c name true (Say payload) = inr ([], rw (eq-eqb c c refl) refl, refl)
own_item c name false (Say payload) = inl (refl, refl)
own_item c name says (Begin session resource offset) = inr ([], rw (eq-eqb c c refl) refl, refl)
own_item c name says (Append session bytes) = inr ([], rw (eq-eqb c c refl) refl, refl)
own_item c name says (Commit session) = inr ([], rw (eq-eqb c c refl) refl, refl)
own_item c name says (Leave session) = inr ([], rw (eq-eqb c c refl) refl, refl)

own_items : (c : ℕ) (name : CallName) (says : Bool) (outs : List Out) → AllButMessages outs (outs_by c (flat_map (answer_item Server c name says) outs))
own_items c name says [] = refl
own_items c name says (out ∷ outs) =
    subst (AllButMessages (out ∷ outs)) (sym (outs_by-append c (answer_item Server c name says out) (flat_map (answer_item Server c name says) outs)))
    (but_append (out ∷ []) outs _ _ (own_item c name says out) (own_items c name says outs))

own_answered : (c : ℕ) (o : Opening) (heard done : Bool) (a : Answer) → AllButMessages a.items (outs_by c (answered Server c o heard done a).says)
own_answered c o heard done a =
    subst (AllButMessages a.items)
    (sym (silent_behind c (flat_map (answer_item Server c o.name (messages_go Server o.method.kind heard done)) a.items) _ (end_silent c c o heard done a.end)))
    (own_items c o.name (messages_go Server o.method.kind heard done) a.items)

pub own_finish : (set : Setting) (ds : List Deed) (c : ℕ) (a : Answer) (o : Opening) → set.role ≡ Server → is_cancelled ds c ≡ false
    → AllButMessages a.items (outs_by c (finish_effect set ds c a (Some o)).says)
own_finish set ds c a o role uncut =
    rw uncut
    (subst (λ (r : Role). AllButMessages a.items (outs_by c (answered r c o (is_heard ds c) (is_done ds c) a).says)) (sym role)
    (own_answered c o (is_heard ds c) (is_done ds c) a))

-- the end of a run opens no call
if_no_call : (b : Bool) (x y : Effect) → x.opens ≡ None → y.opens ≡ None → (if b then x else y).opens ≡ None
if_no_call true x y first second = first
if_no_call false x y first second = second

end_no_call : (c : ℕ) (name : CallName) (kind : Kind) (done : Bool) (end : Option End) → (end_effect Server c name kind done end).opens ≡ None
end_no_call c name kind done None = refl
end_no_call c name kind done (Some end) = refl

pub finish_no_call : (set : Setting) (ds : List Deed) (c : ℕ) (a : Answer) (o : Option Opening) → set.role ≡ Server → (finish_effect set ds c a o).opens ≡ None
finish_no_call set ds c a None role = refl
finish_no_call set ds c a (Some o) role =
    if_no_call (is_cancelled ds c) _ _ refl
    (subst (λ (r : Role). (answered r c o (is_heard ds c) (is_done ds c) a).opens ≡ None) (sym role)
    (if_no_call (is_heard ds c) _ _ (end_no_call c o.name o.method.kind (is_done ds c) a.end) refl))

pub cancel_no_call : (set : Setting) (ds : List Deed) (c : ℕ) (o : Option Opening) → (cancel_effect set ds c o).opens ≡ None
cancel_no_call set ds c None = refl
cancel_no_call set ds c (Some o) = refl

pub with_call_none : (o : Option Opening) (item : Opening → Item) → (with_call o (λ x. says_item (item x))).opens ≡ None
with_call_none None item = refl
with_call_none (Some o) item = refl
