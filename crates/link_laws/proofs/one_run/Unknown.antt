-- No stream of a call is completed that isn't there.
use Rattle.std.proofs.Common.{◌≡◌, ℕ, ◌+◌, ◌≤◌, Bool, true, false, not, ◌&&◌, ◌||◌, ◌==◌, List, [], ◌∷◌, ◌++◌, length, flat_map, Option, Some, None, is_some, if◌then◌else◌, refl, ◌∙◌, arith}
use Rattle.std.specs.Prelude.{option_to_list}
use Rattle.std.specs.List.{AllByRecursion, list_any}
use Rattle.std.proofs.lemmas.Bool.{and_left, and_right, ne_eqb, or_from}
use Rattle.std.proofs.lemmas.List.Folds.{list_any-append}
use Rattle.std.proofs.lemmas.List.{length-append}
use Rattle.std.proofs.lemmas.Option.{slice_get_within}
use Rattle.rpc_ids.specs.declared.method.MethodRef.{MethodRef}
use Rattle.rpc_ids.specs.declared.method.Kind.{Kind}
use Rattle.rpc_ids.specs.declared.method.Role.{Role}
use Rattle.rpc_ids.specs.declared.method.Role.TheVariants.{Server, Client}
use Rattle.rpc_ids.specs.declared.status.Status.{Status}
use Rattle.rpc_ids.specs.declared.status.Status.TheVariants.{Okay, Cancelled, Aborted}
use Rattle.rpc_ids.specs.Status.{status_of}
use Rattle.rpc_packet.specs.declared.call_name.CallName.{CallName}
use Rattle.rpc_packet.specs.declared.owned.Packet.{Packet}
use Rattle.rpc_packet.specs.declared.packet_type.PacketType.{PacketType}
use Rattle.rpc_packet.specs.declared.packet_type.PacketType.TheVariants.{Request, Response, ClientStream, ClientError, ServerError, ServerStream, Completion}
use Rattle.rpc_channel.specs.Rising.{has_id}
use Rattle.rpc_handlers.specs.declared.answer.Answer.{Answer}
use Rattle.rpc_handlers.specs.declared.answer.End.{End}
use Rattle.rpc_handlers.specs.declared.answer.Out.{Out}
use Rattle.rpc_handlers.specs.declared.answer.Out.TheVariants.{Say as Message, Begin, Append, Commit, Leave}
use Rattle.rpc_handlers.specs.declared.event.Memo.{Memo}
use Rattle.rpc_journal.specs.declared.entry.Entry.{Entry}
use Rattle.rpc_journal.specs.declared.entry.EntryKind.{EntryKind}
use Rattle.rpc_journal.specs.declared.entry.EntryKind.TheVariants.{Arrive, Invoke, Say, Done, Start, Finish, Replace, Cancel, Tick, Flush, EndIn, Halt, Close}
use Rattle.rpc_journal.specs.declared.item.Item.{Item}
use Rattle.rpc_journal.specs.declared.setting.Setting.{Setting}
use Rattle.rpc_journal.specs.Calls.{call_at, call_count, calls, has_end, is_cancelled, live_call, runner_of}
use Rattle.rpc_journal.specs.ClientTable.{call_row, live_row, no_call_row}
use Rattle.rpc_journal.specs.Effect.{Deed, Opening}
use Rattle.rpc_journal.specs.Entries.{answer_item, answered, arrive_row, cancel_effect, effect_of, end_effect, error_type, finish_effect, invoke_effect, is_heard, is_live_on, leave_item, made_from, messages_go, out_item, row_by, with_call}
use Rattle.rpc_journal.specs.History.{deeds_of}
use Rattle.rpc_journal.specs.Items.{is_done, is_for, items_sent, sends_completion}
use Rattle.rpc_journal.specs.Kinds.{is_okay, is_unary, streams_down, streams_up}
use Rattle.rpc_journal.specs.Queues.{is_completed}
use Rattle.rpc_journal.specs.Rows.{Row, channels_in, method_named, no_effect, packet_item, says_item, status_packet}
use Rattle.rpc_journal.specs.ServerTable.{known_row, method_row, unknown_row}
use Rattle.link_laws.proofs.one_run.Links.{all_append}

-- the item completes the stream of c
abbrev pub completes : ℕ → Item → Bool
completes c item = is_for c item.call && sends_completion item.act

-- none of these does
abbrev pub CompleteNone : ℕ → List Item → Type 0
CompleteNone c items = AllByRecursion (λ item. completes c item ≡ false) items

no_any : (c : ℕ) (items : List Item) → CompleteNone c items → list_any (completes c) items ≡ false
no_any c [] none = refl
no_any c (item ∷ items) none = or_from (completes c item) (list_any (completes c) items) none.0 (no_any c items none.1)

module _ (c : ℕ) where
  if_row : (b : Bool) (x y : Row) → CompleteNone c x.does.says → CompleteNone c y.does.says → CompleteNone c (if b then x else y).does.says
  if_row true x y first second = first
  if_row false x y first second = second

  -- a packet of another type, of any call
  other_type : (k : ℕ) → ((k == c) && false) ≡ false
  other_type k = and_right (k == c) false refl

  unknown_none : (ptype : PacketType) (p : Packet) (s : Status) → CompleteNone c (unknown_row ptype p s).does.says
  unknown_none Request p s = (refl, tt)
  unknown_none Response p s = (refl, tt)
  unknown_none ClientStream p s = (refl, tt)
  unknown_none ClientError p s = tt
  unknown_none ServerError p s = (refl, tt)
  unknown_none ServerStream p s = (refl, tt)
  unknown_none Completion p s = (refl, tt)

  known_none : (ptype : PacketType) (p : Packet) (m : MethodRef) (ds : List Deed) (l : Option ℕ) → CompleteNone c (known_row ptype p m ds l).does.says
  known_none Request p m ds None = tt
  known_none Request p m ds (Some k) = tt
  known_none Response p m ds l = tt
  known_none ClientStream p m ds None = (refl, tt)
  known_none ClientStream p m ds (Some k) = if_row (not (streams_up m.kind)) _ _ (refl, tt) (if_row (is_completed ds k) _ _ (refl, tt) tt)
  known_none ClientError p m ds None = tt
  known_none ClientError p m ds (Some k) = tt
  known_none ServerError p m ds l = tt
  known_none ServerStream p m ds l = tt
  known_none Completion p m ds None = (refl, tt)
  known_none Completion p m ds (Some k) = if_row (is_unary m.kind || is_completed ds k) _ _ tt tt

  method_none : (p : Packet) (ds : List Deed) (o : Option MethodRef) → CompleteNone c (method_row p ds o).does.says
  method_none p ds None = unknown_none p.ptype p _
  method_none p ds (Some m) = known_none p.ptype p m ds (live_call ds p.name)

  live_none : (k : ℕ) (ptype : PacketType) (p : Packet) (m : MethodRef) → CompleteNone c (live_row ptype p m k).does.says
  live_none k Request p m = tt
  live_none k Response p m = if_row (is_okay (status_of p.status) && not (streams_down m.kind)) _ _ tt tt
  live_none k ClientStream p m = tt
  live_none k ClientError p m = tt
  live_none k ServerError p m = tt
  live_none k ServerStream p m = if_row (streams_down m.kind) _ _ tt (other_type k, tt)
  live_none k Completion p m = tt

  no_call_none : (ptype : PacketType) (p : Packet) → CompleteNone c (no_call_row ptype p).does.says
  no_call_none Request p = tt
  no_call_none Response p = tt
  no_call_none ClientStream p = tt
  no_call_none ClientError p = tt
  no_call_none ServerError p = tt
  no_call_none ServerStream p = (refl, tt)
  no_call_none Completion p = tt

  call_none : (p : Packet) (o : Option MethodRef) (l : Option ℕ) → CompleteNone c (call_row p o l).does.says
  call_none p None l = no_call_none p.ptype p
  call_none p (Some m) None = no_call_none p.ptype p
  call_none p (Some m) (Some k) = live_none k p.ptype p m

  row_none : (role : Role) (set : Setting) (ds : List Deed) (p : Packet) → CompleteNone c (row_by role set ds p).does.says
  row_none Server set ds p =
      if_row (has_id (channels_in set ds) p.name.channel) _ _ (method_none p ds (method_named set p.name)) (unknown_none p.ptype p _)
  row_none Client set ds p = if_row (has_id (channels_in set ds) p.name.channel) _ _ (call_none p (method_named set p.name) (live_call ds p.name)) tt

  arrive_none : (set : Setting) (ds : List Deed) (p : Packet) → CompleteNone c (arrive_row set ds p).does.says
  unfolding arrive_row
  arrive_none set ds p = row_none set.role set ds p

  -- an item of another call
  apart : (k : ℕ) (b : Bool) → (k == c) ≡ false → ((k == c) && b) ≡ false
  apart k b other = and_left (k == c) b other

  out_none : (role : Role) (k : ℕ) (name : CallName) (out : Out) → (k == c) ≡ false → CompleteNone c (out_item role k name out ∷ [])
  out_none role k name (Message payload) other = (apart k _ other, tt)
  out_none role k name (Begin session resource offset) other = (apart k false other, tt)
  out_none role k name (Append session bytes) other = (apart k false other, tt)
  out_none role k name (Commit session) other = (apart k false other, tt)
  out_none role k name (Leave session) other = (apart k false other, tt)

  answer_none : (role : Role) (k : ℕ) (name : CallName) (says : Bool) (out : Out) → (k == c) ≡ false → CompleteNone c (answer_item role k name says out)
  answer_none role k name true (Message payload) other = (apart k _ other, tt)
  answer_none role k name false (Message payload) other = tt
  answer_none role k name says (Begin session resource offset) other = (apart k false other, tt)
  answer_none role k name says (Append session bytes) other = (apart k false other, tt)
  answer_none role k name says (Commit session) other = (apart k false other, tt)
  answer_none role k name says (Leave session) other = (apart k false other, tt)

  answers_none : (role : Role) (k : ℕ) (name : CallName) (says : Bool) (outs : List Out) → (k == c) ≡ false
      → CompleteNone c (flat_map (answer_item role k name says) outs)
  answers_none role k name says [] other = tt
  answers_none role k name says (out ∷ outs) other =
      all_append (λ item. completes c item ≡ false) (answer_item role k name says out) (flat_map (answer_item role k name says) outs)
      (answer_none role k name says out other) (answers_none role k name says outs other)

  end_none : (role : Role) (k : ℕ) (name : CallName) (kind : Kind) (done : Bool) (end : Option End) → (k == c) ≡ false
      → CompleteNone c (end_effect role k name kind done end).says
  end_none role k name kind done None other = tt
  end_none Server k name kind done (Some end) other = (apart k _ other, tt)
  end_none Client k name kind done (Some end) other = by_status (is_okay end.status) (is_unary kind || done)
    where
      by_status : (ok stays : Bool)
          → CompleteNone c (if ok then (if stays then no_effect else says_item (packet_item k (status_packet Completion name Okay))) else record no_effect { ends = (k, end.status) ∷ []; drops = k ∷ []; says = packet_item k (status_packet ClientError name end.status) ∷ [] }).says
      by_status true true = tt
      by_status true false = (apart k _ other, tt)
      by_status false stays = (apart k _ other, tt)

  answered_none : (role : Role) (k : ℕ) (o : Opening) (heard done : Bool) (a : Answer) → (k == c) ≡ false → CompleteNone c (answered role k o heard done a).says
  answered_none role k o true done a other =
      all_append (λ item. completes c item ≡ false) (flat_map (answer_item role k o.name (messages_go role o.method.kind true done)) a.items) (end_effect role k o.name o.method.kind done a.end).says
      (answers_none role k o.name (messages_go role o.method.kind true done) a.items other) (end_none role k o.name o.method.kind done a.end other)
  answered_none role k o false done a other =
      all_append (λ item. completes c item ≡ false) (flat_map (answer_item role k o.name (messages_go role o.method.kind false done)) a.items) []
      (answers_none role k o.name (messages_go role o.method.kind false done) a.items other) tt

  error_none : (role : Role) (k : ℕ) (name : CallName) (s : Status) → completes c (packet_item k (status_packet (error_type role) name s)) ≡ false
  error_none Server k name s = other_type k
  error_none Client k name s = other_type k

  closed_none : (role : Role) (n : ℕ) (test : ℕ → Opening → Bool) (os : List Opening)
      → CompleteNone c (made_from n test (λ k o. packet_item k (status_packet (error_type role) o.name Aborted)) os)
  closed_none role n test [] = tt
  closed_none role n test (o ∷ os) = at (closed_none role (n + 1) test os) (test n o)
    where
      rest : List Item
      rest = made_from (n + 1) test (λ k x. packet_item k (status_packet (error_type role) x.name Aborted)) os

      at : CompleteNone c rest → (b : Bool) → CompleteNone c (if b then packet_item n (status_packet (error_type role) o.name Aborted) ∷ rest else rest)
      at more true = (error_none role n o.name Aborted, more)
      at more false = more

  module _ (set : Setting) (ds : List Deed) (unknown : call_count ds ≤ c) where
    -- a call that is there is another
    known_apart : (k : ℕ) (o : Opening) → call_at ds k ≡ Some o → (k == c) ≡ false
    known_apart k o there = ne_eqb k c (λ same. omega (arith, same, unknown, slice_get_within (calls ds) k o there))

    finish_none : (k : ℕ) (a : Answer) (o : Option Opening) → call_at ds k ≡ o → CompleteNone c (finish_effect set ds k a o).says
    finish_none k a None is = tt
    finish_none k a (Some o) is = by_cut (is_cancelled ds k)
      where
        by_cut : (b : Bool) → CompleteNone c (if b then says_item (leave_item k) else answered set.role k o (is_heard ds k) (is_done ds k) a).says
        by_cut true = (apart k false (known_apart k o is), tt)
        by_cut false = answered_none set.role k o (is_heard ds k) (is_done ds k) a (known_apart k o is)

    cancel_none : (k : ℕ) (o : Option Opening) → call_at ds k ≡ o → CompleteNone c (cancel_effect set ds k o).says
    cancel_none k None is = tt
    cancel_none k (Some o) is = by_end (has_end ds k) (is_some (runner_of ds k))
      where
        by_end : (ended runs : Bool)
            → CompleteNone c ((if ended then [] else packet_item k (status_packet (error_type set.role) o.name Cancelled) ∷ []) ++ (if runs then [] else leave_item k ∷ []))
        by_end true true = tt
        by_end true false = (apart k false (known_apart k o is), tt)
        by_end false true = (error_none set.role k o.name Cancelled, tt)
        by_end false false = (error_none set.role k o.name Cancelled, (apart k false (known_apart k o is), tt))

    say_none : (k : ℕ) (out : Out) (o : Option Opening) → call_at ds k ≡ o → CompleteNone c (with_call o (λ x. says_item (out_item set.role k x.name out))).says
    say_none k out None is = tt
    say_none k out (Some o) is = out_none set.role k o.name out (known_apart k o is)

    done_none : (k : ℕ) (o : Option Opening) → call_at ds k ≡ o → CompleteNone c (with_call o (λ x. says_item (packet_item k (status_packet Completion x.name Okay)))).says
    done_none k None is = tt
    done_none k (Some o) is = (apart k _ (known_apart k o is), tt)

    invoke_none : (p : Packet) (m : Memo) (o : Option MethodRef) → length (calls ds ++ option_to_list (invoke_effect ds p m o).opens) ≤ c
        → CompleteNone c (invoke_effect ds p m o).says
    invoke_none p m None more = tt
    invoke_none p m (Some method) more =
        (apart (call_count ds) _ (ne_eqb (call_count ds) c (λ same. omega (arith, same, more, length-append (calls ds) (record { name = p.name; method = method; given = Some m } ∷ [])))), tt)

    effect_none : (kind : EntryKind) → length (calls ds ++ option_to_list (effect_of set ds kind).opens) ≤ c → CompleteNone c (effect_of set ds kind).says
    effect_none (Arrive p) more = arrive_none set ds p
    effect_none (Invoke p m) more = invoke_none p m (method_named set p.name) more
    effect_none (Say k out) more = say_none k out (call_at ds k) refl
    effect_none (Done k) more = done_none k (call_at ds k) refl
    effect_none (Start k) more = tt
    effect_none (Finish k a) more = finish_none k a (call_at ds k) refl
    effect_none (Replace k m) more = tt
    effect_none (Cancel k) more = cancel_none k (call_at ds k) refl
    effect_none (Tick t) more = tt
    effect_none Flush more = tt
    effect_none EndIn more = tt
    effect_none (Halt why) more = tt
    effect_none (Close channel) more = closed_none set.role 0 (is_live_on ds channel) (calls ds)

-- of entries that stand the newest first
pub undone : (set : Setting) (h : List Entry) (c : ℕ) → call_count (deeds_of set h) ≤ c → is_done (deeds_of set h) c ≡ false
undone set [] c unknown = refl
undone set (e ∷ h) c unknown =
    let ds : List Deed = deeds_of set h in
    let fewer : call_count ds ≤ c = omega (arith, unknown, length-append (calls ds) (option_to_list (effect_of set ds e.kind).opens)) in
    list_any-append (completes c) (items_sent ds) (effect_of set ds e.kind).says
    ∙ or_from (list_any (completes c) (items_sent ds)) (list_any (completes c) (effect_of set ds e.kind).says)
    (undone set h c fewer) (no_any c (effect_of set ds e.kind).says (effect_none c set ds fewer e.kind unknown))
