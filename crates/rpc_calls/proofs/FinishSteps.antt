-- What a table stands for, over a Finish.
use Rattle.std.proofs.Common.{◌≡◌, ℕ, ◌+◌, ◌<◌, ◌≤◌, Bool, true, false, not, ◌&&◌, ◌||◌, List, [], ◌∷◌, ◌++◌, length, flat_map, slice_get, Option, Some, None, is_some, is_none, IsTrue, if◌then◌else◌, refl, ap, sym, ◌∙◌, subst, arith, eq-eqb, ne_eqb, length-append}
use Rattle.std.proofs.lemmas.Bool.{false≢true}
use Rattle.std.proofs.lemmas.List.{append-nil}
use Rattle.rpc_ids.specs.declared.method.Kind.{Kind}
use Rattle.rpc_ids.specs.declared.method.MethodRef.{MethodRef}
use Rattle.rpc_ids.specs.declared.method.Role.{Role}
use Rattle.rpc_ids.specs.declared.method.Role.TheVariants.{Server, Client}
use Rattle.rpc_ids.specs.declared.status.Status.{Status}
use Rattle.rpc_ids.specs.declared.status.Status.TheVariants.{Okay}
use Rattle.rpc_packet.specs.declared.call_name.CallName.{CallName}
use Rattle.rpc_packet.specs.declared.packet_type.PacketType.TheVariants.{ClientError, Completion}
use Rattle.rpc_handlers.specs.declared.answer.Answer.{Answer}
use Rattle.rpc_handlers.specs.declared.answer.End.{End}
use Rattle.rpc_handlers.specs.declared.answer.Out.{Out}
use Rattle.rpc_handlers.specs.declared.answer.Out.TheVariants.{Say, Begin, Append, Commit, Leave}
use Rattle.rpc_handlers.specs.declared.event.Event.{Event}
use Rattle.rpc_handlers.specs.declared.event.Memo.{Memo}
use Rattle.rpc_handlers.specs.HandlerRule.{HandlerRule}
use Rattle.rpc_journal.specs.declared.table.call_state.CallState.{CallState}
use Rattle.rpc_journal.specs.declared.table.call_states.CallStates.{CallStates}
use Rattle.rpc_journal.specs.declared.item.Item.{Item}
use Rattle.rpc_journal.specs.declared.setting.Setting.{Setting}
use Rattle.rpc_journal.specs.Calls.{call_at, has_end, is_cancelled, is_replaced}
use Rattle.rpc_journal.specs.Changes.{is_spent}
use Rattle.rpc_journal.specs.Effect.{Deed, Opening}
use Rattle.rpc_journal.specs.Entries.{answer_item, answered, end_effect, finish_effect, leave_item, messages_go}
use Rattle.rpc_journal.specs.Kinds.{is_empty, is_okay, is_unary, or_else}
use Rattle.rpc_journal.specs.Queues.{taken_event, waiting_of}
use Rattle.rpc_journal.specs.Rows.{no_effect, says_item, packet_item, status_packet}
use Rattle.rpc_journal.specs.States.{state_before_run}
use Rattle.rpc_journal.specs.declared.waiting.Waiting.{Waiting}
use Rattle.rpc_journal.specs.table.Agrees.{AgreesOn}
use Rattle.rpc_journal.specs.table.Touch.{Touch, end_by, finishing_so, hears_answer, end_given}
use Rattle.rpc_journal.proofs.table.FinishLemmas.{heard_is}
use Rattle.rpc_journal.proofs.PlaceLemmas.{get_some}
use Rattle.rpc_journal.proofs.table.TableLemmas.{opening_is}
use Rattle.rpc_journal.proofs.table.TableSteps as steps
use Rattle.rpc_calls.specs.AnswerItems.{answer_items, items_by}
use Rattle.rpc_calls.specs.Marks.{one_if}
use Rattle.rpc_calls.specs.Handlers.{is_over, over_state, Keeps}
use Rattle.rpc_calls.specs.Places.{ChangesAt}
use Rattle.rpc_calls.specs.Room.{uncancelled, running, HasRoom, HasPlaces}
use Rattle.rpc_calls.specs.TableHolds.{HasAllRoom}
use Rattle.rpc_journal.specs.table.Turns.{Turns}
use Rattle.rpc_calls.proofs.KeepLemmas.{keeps_returned, keeps_newer}
use Rattle.rpc_calls.proofs.OneStep.{TouchesOne, counts_one, places_one}
use Rattle.rpc_calls.proofs.PlaceChanges.{count-has}
use Rattle.rpc_calls.proofs.StateLemmas.{FinishesHandler}
use Rattle.rpc_calls.proofs.StepLemmas.{over_is}

-- the words of the plain table, in this form
pub touches_one : (d : Deed) (c : ℕ) (t : Touch) → steps.TouchesOne d c t → TouchesOne d c t
touches_one d c t one = record {
  here = one.each c true (eq-eqb c c refl);
  others = λ k apart. one.each k false (ne_eqb c k (λ same. apart (sym same)));
  unopened = one.opens;
}

says_of : (role : Role) (c : ℕ) (o : Opening) (cut heard done : Bool) (a : Answer)
    → (if cut then says_item (leave_item c) else answered role c o heard done a).says ≡ items_by role c o.name o.method.kind cut heard done a.items a.end
says_of role c o true heard done a = refl
says_of role c o false false done a = refl
says_of role c o false true done a = refl

-- what the Finish of a call adds
pub finish_says : (set : Setting) (ds : List Deed) (c : ℕ) (r : CallState) (a : Answer) → AgreesOn ds c r
    → (finish_effect set ds c a (call_at ds c)).says ≡ answer_items set.role c r a.items a.end
finish_says set ds c r a agrees =
    let opening = opening_is ds c r agrees in
    rw (opening.1, agrees.cancelled, heard_is ds c r agrees, agrees.done)
    (says_of set.role c opening.0 r.cancelled (hears_answer r) r.done a
    ∙ ap (λ n. items_by set.role c n opening.0.method.kind r.cancelled (hears_answer r) r.done a.items a.end) opening.2
    ∙ ap (λ (m : MethodRef). items_by set.role c r.name m.kind r.cancelled (hears_answer r) r.done a.items a.end) opening.3)

one_each : (role : Role) (c : ℕ) (name : CallName) (says : Bool) (out : Out) → length (answer_item role c name says out) ≤ 1
one_each role c name true (Say payload) = omega arith
one_each role c name false (Say payload) = omega arith
one_each role c name says (Begin session resource offset) = omega arith
one_each role c name says (Append session bytes) = omega arith
one_each role c name says (Commit session) = omega arith
one_each role c name says (Leave session) = omega arith

few_outs : (role : Role) (c : ℕ) (name : CallName) (says : Bool) (outs : List Out) → length (flat_map (answer_item role c name says) outs) ≤ length outs
few_outs role c name says [] = omega arith
few_outs role c name says (out ∷ outs) =
    omega (arith, length-append (answer_item role c name says out) (flat_map (answer_item role c name says) outs), one_each role c name says out, few_outs role c name says outs)

-- of a client's end that is OK or not, where its stream is shut or not
client_few : (c : ℕ) (name : CallName) (end : End) (okay shut : Bool)
    → length (if okay then (if shut then no_effect else says_item (packet_item c (status_packet Completion name Okay)))
    else record no_effect { ends = (c, end.status) ∷ []; drops = c ∷ []; says = packet_item c (status_packet ClientError name end.status) ∷ [] }).says ≤ 1
client_few c name end true true = omega arith
client_few c name end true false = omega arith
client_few c name end false shut = omega arith

few_ends : (role : Role) (c : ℕ) (name : CallName) (kind : Kind) (done heard : Bool) (end : Option End)
    → length (if heard then (end_effect role c name kind done end).says else []) ≤ 1
few_ends role c name kind done false end = omega arith
few_ends role c name kind done true None = omega arith
few_ends Server c name kind done true (Some end) = omega arith
few_ends Client c name kind done true (Some end) = client_few c name end (is_okay end.status) (is_unary kind || done)

-- at most one item more than the answer has
pub few_items : (role : Role) (c : ℕ) (name : CallName) (kind : Kind) (cut heard done : Bool) (outs : List Out) (end : Option End)
    → length (items_by role c name kind cut heard done outs end) ≤ length outs + 1
few_items role c name kind true heard done outs end = omega arith
few_items role c name kind false heard done outs end =
    omega (
      arith,
      length-append (flat_map (answer_item role c name (messages_go role kind heard done)) outs) (if heard then (end_effect role c name kind done end).says else []),
      few_outs role c name (messages_go role kind heard done) outs,
      few_ends role c name kind done heard end,
    )

-- an end is given only to a call without one
pub given_once : (role : Role) (r : CallState) (end : Option End) → is_some (end_given role r end) ≡ true → r.status ≡ None
given_once role r end is = at r.status (heard_of r.cancelled (hears_answer r) (end_by role end) is)
  where
    heard_of : (cut heard : Bool) (o : Option Status) → is_some (if not cut && heard then o else None) ≡ true → heard ≡ true
    heard_of true heard o is = absurd (false≢true is)
    heard_of false true o is = refl
    heard_of false false o is = absurd (false≢true is)

    at : (o : Option Status) → (is_none o && not r.took_end) ≡ true → o ≡ None
    at None heard = refl
    at (Some s) heard = absurd (false≢true heard)

-- whether the handler goes back to the caller
or_swap : (a s b : Bool) → ((a || s) || b) ≡ ((a || b) || s)
or_swap true true true = refl
or_swap true true false = refl
or_swap true false true = refl
or_swap true false false = refl
or_swap false true true = refl
or_swap false true false = refl
or_swap false false true = refl
or_swap false false false = refl

pub spent_is : (before after : List Deed) (c : ℕ) (kept : Bool) (x : CallState) → AgreesOn after c x → is_replaced before c ≡ kept
    → is_spent before after c ≡ (over_state x || kept)
spent_is before after c kept x agrees replaced =
    or_swap (is_cancelled after c) (is_replaced before c) (has_end after c && is_empty (waiting_of after c))
    ∙ (rw replaced (ap (λ b. b || kept) (over_is after c x agrees)))

over_waits : (b : Bool) (n : ℕ) (ws : List Waiting) → length ((if b then [] else ws) ++ []) ≤ length ws
over_waits true n ws = omega arith
over_waits false n ws = omega (arith, ap length (append-nil ws))

or_else_none : {A : Type 0} (a b : Option A) → or_else a b ≡ None → b ≡ None
or_else_none None b is = is
or_else_none (Some x) b is = absurd cc

-- the room after the run
pub room_finished : (at c : ℕ) (end : Option Status) (completes : Bool) (states after : CallStates) (items items' : List Item) (r : CallState) (seat spare spare' capacity : ℕ)
    → HasAllRoom states items spare capacity → c < length states.calls.items → slice_get states.calls.items c ≡ Some r → r.run ≡ Some seat
    → ChangesAt c (Turns at (finishing_so end completes)) states.calls.items after.calls.items → after.input_ended ≡ states.input_ended → after.halted ≡ states.halted
    → length items' ≤ length items + 513 → spare' + 1 ≡ spare → HasAllRoom after items' spare' capacity
room_finished at c end completes states after items items' r seat spare spare' capacity room there is runs changes input halt few less =
    let it = get_some after.calls.items c (omega (arith, there, changes.many)) in
    let turns = changes.here r it.0 is it.1 in
    let counts = counts_one _ states.calls.items after.calls.items c r it.0 changes is it.1 in
    let was : one_if (is_some r.run) ≡ 1 = ap (λ o. one_if (is_some o)) runs in
    let idle : one_if (is_some it.0.run) ≡ 0 = ap (λ o. one_if (is_some o)) turns.is.run in
    let kept : one_if (not it.0.cancelled) ≡ one_if (not r.cancelled) = ap (λ b. one_if (not b)) turns.is.cancelled in
    let fewer : running after.calls.items + 1 ≡ running states.calls.items = omega (arith, counts.busy, was, idle) in
    let still : uncancelled after.calls.items ≡ uncancelled states.calls.items = omega (arith, counts.going, kept) in
    record {
      room = subst (λ b. HasRoom after.calls.items (length items') b (is_some after.halted) spare' capacity) (sym input)
          (subst (λ o. HasRoom after.calls.items (length items') states.input_ended (is_some o) spare' capacity) (sym halt)
          (record {
            items_fit = omega (arith, room.room.items_fit, fewer, still, few);
            entries_fit = omega (arith, room.room.entries_fit, fewer, still, few, less);
          }));
      places = subst (λ b. HasPlaces after.calls.items b) (sym input)
          (places_one at (finishing_so end completes) states.calls.items after.calls.items c states.input_ended changes there
          (λ q x turn unended. (or_else_none end q.status (sym turn.is.status ∙ unended), omega (arith, ap length turn.is.waiting, over_waits (is_some end) 0 q.waiting.items))) room.places);
      few = omega (arith, room.few, changes.many);
    }

-- a call that runs has the room for its answer
pub run_room : (states : CallStates) (items : List Item) (c seat : ℕ) (r : CallState) (spare capacity : ℕ) → HasAllRoom states items spare capacity
    → slice_get states.calls.items c ≡ Some r → r.run ≡ Some seat → (length items + 513 ≤ capacity) × (1 ≤ spare)
run_room states items c seat r spare capacity room is runs =
    let one : 1 ≤ running states.calls.items = count-has (λ y. is_some y.run) states.calls.items c r is (ap is_some runs) in
    (omega (arith, room.room.items_fit, one), omega (arith, room.room.entries_fit, one))

module _ {H : Type 0} (now : H → Memo) (can_act : H → Type 0) (rule : HandlerRule) (set : Setting) where
  -- what is kept of the handlers after the run
  pub keeps_finished : (ds : List Deed) (d : Deed) (c seat : ℕ) (event : Event) (m : Memo) (h : H) (slot : Option H) (over : Bool) → FinishesHandler ds d c
      → Keeps now can_act rule set ds c (Some seat) slot → taken_event ds c ≡ Some event
      → (IsTrue rule.ruled → state_before_run rule set ds c ≡ Some m) → can_act h
      → (IsTrue rule.ruled → now h ≡ rule.next m event) → is_over (d ∷ ds) c ≡ over
      → Keeps now can_act rule set (d ∷ ds) c None (if over || is_some slot then slot else Some h)
  keeps_finished ds d c seat event m h None true finishes keeps taken had able moved is = is
  keeps_finished ds d c seat event m h None false finishes keeps taken had able moved is =
      keeps_returned now can_act rule set ds d c seat event m h finishes keeps taken had able moved
  keeps_finished ds d c seat event m h (Some h') true finishes keeps taken had able moved is = keeps_newer now can_act rule set ds d c seat h' finishes keeps
  keeps_finished ds d c seat event m h (Some h') false finishes keeps taken had able moved is = keeps_newer now can_act rule set ds d c seat h' finishes keeps
