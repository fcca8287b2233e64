-- The names of a run: those of the client's calls fit, and so do those of all packets that arrive.
use Rattle.std.proofs.Common.{◌≡◌, ℕ, zero, suc, ◌+◌, ◌<◌, ◌≤◌, ◌&&◌, ◌||◌, ◌^◌, not, Bool, true, false, if◌then◌else◌, List, [], ◌∷◌, ◌++◌, length, Option, Some, None, is_none, option_to_list, refl, sym, ap, ◌∙◌, subst, arith, length-append}
use Rattle.std.proofs.lemmas.List.{append-nil}
use Rattle.std.proofs.Math.Nat.{mod-lt}
use Rattle.std.specs.List.{AllByRecursion}
use Rattle.rpc_ids.specs.declared.method.MethodRef.{MethodRef}
use Rattle.rpc_ids.specs.declared.method.Role.{Role}
use Rattle.rpc_ids.specs.declared.method.Role.TheVariants.{Server, Client}
use Rattle.rpc_ids.specs.Names.{name_id, sum_of_powers}
use Rattle.rpc_ids.specs.Status.{status_of}
use Rattle.rpc_packet.specs.declared.owned.Packet.{Packet}
use Rattle.rpc_packet.specs.declared.packet_type.PacketType.{PacketType}
use Rattle.rpc_packet.specs.declared.packet_type.PacketType.TheVariants.{Request, Response, ClientStream, ClientError, ServerError, ServerStream, Completion}
use Rattle.rpc_channel.specs.Rising.{has_id}
use Rattle.rpc_handlers.specs.declared.answer.Answer.{Answer}
use Rattle.rpc_handlers.specs.declared.answer.End.{End}
use Rattle.rpc_handlers.specs.declared.answer.Out.{Out}
use Rattle.rpc_handlers.specs.HandlerRule.{empty_memo}
use Rattle.rpc_journal.specs.declared.entry.Entry.{Entry}
use Rattle.rpc_journal.specs.declared.entry.EntryKind.{EntryKind}
use Rattle.rpc_journal.specs.declared.entry.EntryKind.TheVariants.{Arrive, Invoke, Say, Done, Start, Finish, Replace, Cancel, Tick, Flush, EndIn, Halt, Close as Closing}
use Rattle.rpc_journal.specs.declared.item.Item.{Item}
use Rattle.rpc_journal.specs.declared.setting.Setting.{Setting}
use Rattle.rpc_journal.specs.Calls.{call_at, calls, is_cancelled, live_call}
use Rattle.rpc_journal.specs.ClientTable.{call_row, live_row, no_call_row}
use Rattle.rpc_journal.specs.Effect.{Deed, Effect, Opening}
use Rattle.rpc_journal.specs.Entries.{arrive_row, cancel_effect, effect_of, end_effect, finish_effect, invoke_effect, is_heard, row_by, with_call}
use Rattle.rpc_journal.specs.History.{adding, entry_by, history}
use Rattle.rpc_journal.specs.Items.{is_done}
use Rattle.rpc_journal.specs.Kinds.{is_okay, is_unary, streams_down}
use Rattle.rpc_journal.specs.Refusals.{out_refusal}
use Rattle.rpc_journal.specs.Rows.{Row, channels_in, method_named, says_item}
use Rattle.rpc_journal.proofs.Push.{history-push}
use Rattle.rpc_schedule.specs.Schedule.{Ran, flush_seat, input_seat, run_seat}
use Rattle.history_laws.proofs.messages.Members.{all_join}
use Rattle.history_laws.specs.sends.Sends.{NameFits}
use Rattle.link_laws.specs.world.Client.{ClientSettles, ClientTakes, FlushesTo, RunsTo, all_said_in, said_in, task_said, task_says}
use Rattle.link_laws.specs.world.Setup.{quiet_rule}
use Rattle.link_laws.specs.world.Starts.{next_name, opens_with, request}
use Rattle.link_laws.specs.world.World.{Tasked}

pub name_small : (name : List ℕ) → name_id name < 2 ^ 32
unfolding name_id
name_small name = mod-lt (length name + sum_of_powers 1 name) {m = 4294967296} (omega arith)

-- AT A CLIENT ONLY AN INVOKE OPENS A CALL

module _ (set : Setting) (ds : List Deed) where
  if_row : (b : Bool) (x y : Row) → x.does.opens ≡ None → y.does.opens ≡ None → (if b then x else y).does.opens ≡ None
  if_row true x y first second = first
  if_row false x y first second = second

  if_effect : (b : Bool) (x y : Effect) → x.opens ≡ None → y.opens ≡ None → (if b then x else y).opens ≡ None
  if_effect true x y first second = first
  if_effect false x y first second = second

  live_none : (p : Packet) (k : ℕ) (ptype : PacketType) (m : MethodRef) → (live_row ptype p m k).does.opens ≡ None
  live_none p k Request m = refl
  live_none p k Response m = if_row (is_okay (status_of p.status) && not (streams_down m.kind)) _ _ refl refl
  live_none p k ClientStream m = refl
  live_none p k ClientError m = refl
  live_none p k ServerError m = refl
  live_none p k ServerStream m = if_row (streams_down m.kind) _ _ refl refl
  live_none p k Completion m = refl

  no_call_none : (p : Packet) (ptype : PacketType) → (no_call_row ptype p).does.opens ≡ None
  no_call_none p Request = refl
  no_call_none p Response = refl
  no_call_none p ClientStream = refl
  no_call_none p ClientError = refl
  no_call_none p ServerError = refl
  no_call_none p ServerStream = refl
  no_call_none p Completion = refl

  call_none : (p : Packet) (o : Option MethodRef) (l : Option ℕ) → (call_row p o l).does.opens ≡ None
  call_none p None l = no_call_none p p.ptype
  call_none p (Some m) None = no_call_none p p.ptype
  call_none p (Some m) (Some k) = live_none p k p.ptype m

  row_none : (role : Role) (p : Packet) → role ≡ Client → (row_by role set ds p).does.opens ≡ None
  row_none Server p is = absurd cc
  row_none Client p is = if_row (has_id (channels_in set ds) p.name.channel) _ _ (call_none p (method_named set p.name) (live_call ds p.name)) refl

  arrive_none : (p : Packet) → set.role ≡ Client → (arrive_row set ds p).does.opens ≡ None
  unfolding arrive_row
  arrive_none p is = row_none set.role p is

  end_none : (role : Role) (k : ℕ) (o : Opening) (done : Bool) (end : Option End) → (end_effect role k o.name o.method.kind done end).opens ≡ None
  end_none role k o done None = refl
  end_none Server k o done (Some end) = refl
  end_none Client k o done (Some end) = if_effect (is_okay end.status) _ _ (if_effect (is_unary o.method.kind || done) _ _ refl refl) refl

  finish_none : (k : ℕ) (a : Answer) (o : Option Opening) → (finish_effect set ds k a o).opens ≡ None
  finish_none k a None = refl
  finish_none k a (Some o) = if_effect (is_cancelled ds k) _ _ refl (if_effect (is_heard ds k) _ _ (end_none set.role k o (is_done ds k) a.end) refl)

  cancel_none : (k : ℕ) (o : Option Opening) → (cancel_effect set ds k o).opens ≡ None
  cancel_none k None = refl
  cancel_none k (Some o) = refl

  with_none : (o : Option Opening) (item : Opening → Item) → (with_call o (λ x. says_item (item x))).opens ≡ None
  with_none None item = refl
  with_none (Some o) item = refl

  abbrev pub NoInvoke : EntryKind → Type 0
  NoInvoke (Invoke p m) = ⊥
  NoInvoke _ = Unit {0}

  entry_none : (kind : EntryKind) → set.role ≡ Client → NoInvoke kind → (effect_of set ds kind).opens ≡ None
  entry_none (Arrive p) is plain = arrive_none p is
  entry_none (Invoke p m) is plain = absurd plain
  entry_none (Say c out) is plain = with_none (call_at ds c) _
  entry_none (Done c) is plain = with_none (call_at ds c) _
  entry_none (Start c) is plain = refl
  entry_none (Finish c a) is plain = finish_none c a (call_at ds c)
  entry_none (Replace c m) is plain = refl
  entry_none (Cancel c) is plain = cancel_none c (call_at ds c)
  entry_none (Tick t) is plain = refl
  entry_none Flush is plain = refl
  entry_none EndIn is plain = refl
  entry_none (Halt why) is plain = refl
  entry_none (Closing channel) is plain = refl

module _ (set : Setting) (role : set.role ≡ Client) where
  abbrev pub called : List Entry → List Opening
  called h = calls (history set h)

  called_more : (h : List Entry) (seat : ℕ) (kind : EntryKind) → called (adding h seat kind) ≡ called h ++ option_to_list (effect_of set (history set h) kind).opens
  called_more h seat kind = ap calls (history-push set h (entry_by seat kind))

  pub called_same : (h : List Entry) (seat : ℕ) (kind : EntryKind) → NoInvoke set (history set h) kind → called (adding h seat kind) ≡ called h
  called_same h seat kind plain = called_more h seat kind ∙ (ap (λ o. called h ++ option_to_list o) (entry_none set (history set h) kind role plain) ∙ append-nil (called h))

  runs_same : (n : ℕ) (h after : List Entry) → RunsTo quiet_rule set n h after → called after ≡ called h
  runs_same zero h after same = ap called same
  runs_same (suc n) h after runs =
      let r : Ran quiet_rule set h runs.0 = runs.1 in
      let begun : List Entry = adding h run_seat (Start r.call) in
      runs_same n runs.0 after runs.2 ∙ (ap called r.adds ∙ (called_same begun run_seat (Finish r.call r.answer) tt ∙ called_same h run_seat (Start r.call) tt))

  flushes_same : (n : ℕ) (h after : List Entry) → FlushesTo set n h after → called after ≡ called h
  flushes_same zero h after same = ap called same
  flushes_same (suc n) h after flushes = flushes_same n flushes.0 after flushes.2 ∙ (ap called flushes.1.adds ∙ called_same h flush_seat Flush tt)

  says_same : (c : ℕ) (outs : List Out) (h : List Entry) → called (all_said_in set c outs h) ≡ called h
  says_same c [] h = refl
  says_same c (out ∷ outs) h = says_same c outs (said_in set c h out) ∙ at (is_none (out_refusal set (history set h) c out))
    where
      at : (b : Bool) → called (if b then adding h run_seat (Say c out) else h) ≡ called h
      at true = called_same h run_seat (Say c out) tt
      at false = refl

  task_same : (now : ℕ) (before ran : List Entry) (task : Option Tasked) → called (task_said set now before ran task) ≡ called ran
  task_same now before ran None = refl
  task_same now before ran (Some t) = says_same t.call (task_says set now before ran t) ran

  pub settles_same : (now : ℕ) (before : List Entry) (task : Option Tasked) (after : List Entry) (next : Option Tasked) → ClientSettles set now before task after next → called after ≡ called before
  settles_same now before task after next s =
      flushes_same s.flush_count (task_said set now before s.ran task) after s.flushes ∙ (task_same now before s.ran task ∙ runs_same s.run_count before s.ran s.runs)

  pub takes_same : (now : ℕ) (ps : List Packet) (before : List Entry) (task : Option Tasked) (after : List Entry) (next : Option Tasked) → ClientTakes set now ps before task after next → called after ≡ called before
  takes_same now [] before task after next takes = ap called takes.0
  takes_same now (p ∷ ps) before task after next takes =
      takes_same now ps takes.0 takes.1 after next takes.3 ∙ (settles_same now (adding before input_seat (Arrive p)) task takes.0 takes.1 takes.2 ∙ called_same before input_seat (Arrive p) tt)

  -- the names of calls fit, of which there are so many at most
  pub record NamesUpTo (m : ℕ) (os : List Opening) : Type 0 where
    pub few : length os ≤ m
    pub fit : AllByRecursion (λ o. NameFits o.name) os

  -- a call opens
  pub opened_names : (m : ℕ) (h : List Entry) (service : ℕ) (method payload : List ℕ) → service < 2 ^ 32 → m + 1 < 2 ^ 32 → NamesUpTo m (called h)
      → NamesUpTo (m + 1) (called (adding h run_seat (opens_with service (name_id method) payload (history set h))))
  opened_names m h service method payload small room names =
      let p : Packet = request (next_name service (name_id method) (history set h)) payload in
      subst (NamesUpTo (m + 1)) (sym (called_more h run_seat (Invoke p empty_memo))) (by_method (method_named set p.name))
    where
      by_method : (o : Option MethodRef) → NamesUpTo (m + 1) (called h ++ option_to_list (invoke_effect (history set h) (request (next_name service (name_id method) (history set h)) payload) empty_memo o).opens)
      by_method None = subst (NamesUpTo (m + 1)) (sym (append-nil (called h))) (record { few = omega (arith, names.few); fit = names.fit })
      by_method (Some ref) = record {
        few = omega (arith, length-append (called h) (record { name = next_name service (name_id method) (history set h); method = ref; given = Some empty_memo } ∷ []), names.few);
        fit =
            all_join (λ (o : Opening). NameFits o.name) (called h) _ names.fit
            (record { channel = omega arith; service = small; method = name_small method; call = omega (arith, names.few, room) }, tt);
      }
