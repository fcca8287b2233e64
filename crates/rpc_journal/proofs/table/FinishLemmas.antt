-- What the end of a run does, a cancel, a message and the end of a client's stream.
use Rattle.std.proofs.Common.{◌≡◌, ℕ, ◌+◌, Bool, true, false, not, ◌&&◌, ◌||◌, ◌==◌, List, [], ◌∷◌, ◌++◌, length, map, flat_map, count_by, Option, Some, None, is_some, is_none, cond, option_map, option_to_list, if◌then◌else◌, refl, ap, sym, ◌∙◌, subst, arith, length-append}
use Rattle.std.proofs.lemmas.List.Folds.{list_any-append}
use Rattle.std.proofs.Math.Bool.{or-false}
use Rattle.std.proofs.lemmas.List.Sums.{sum_by-cons}
use Rattle.std.specs.List.{list_any}
use Rattle.rpc_ids.specs.declared.method.Kind.{Kind}
use Rattle.rpc_ids.specs.declared.method.Role.{Role}
use Rattle.rpc_ids.specs.declared.method.Role.TheVariants.{Server, Client}
use Rattle.rpc_ids.specs.declared.status.Status.{Status}
use Rattle.rpc_ids.specs.declared.status.Status.TheVariants.{Cancelled, Okay}
use Rattle.rpc_packet.specs.declared.packet_type.PacketType.TheVariants.{ClientError, Completion}
use Rattle.rpc_packet.specs.declared.call_name.CallName.{CallName}
use Rattle.rpc_handlers.specs.declared.answer.Answer.{Answer}
use Rattle.rpc_handlers.specs.declared.answer.End.{End}
use Rattle.rpc_handlers.specs.declared.answer.Out.{Out}
use Rattle.rpc_handlers.specs.declared.answer.Out.TheVariants.{Say, Begin, Append, Commit, Leave}
use Rattle.rpc_journal.specs.declared.table.call_state.CallState.{CallState}
use Rattle.rpc_journal.specs.declared.entry.EntryKind.TheVariants.{Finish, Cancel, Done, Say as SaysOut}
use Rattle.rpc_journal.specs.declared.item.Item.{Item}
use Rattle.rpc_journal.specs.declared.setting.Setting.{Setting}
use Rattle.rpc_journal.specs.Calls.{of_call, call_at}
use Rattle.rpc_journal.specs.Effect.{Effect, Opening, Deed}
use Rattle.rpc_journal.specs.Entries.{answer_item, answered, cancel_effect, end_effect, error_type, finish_effect, is_heard, leave_item, message_item, messages_go, out_item, with_call}
use Rattle.rpc_journal.specs.Items.{is_done, is_completion_type, is_for, sends_completion}
use Rattle.rpc_journal.specs.Kinds.{streams_down}
use Rattle.rpc_journal.specs.Kinds.{is_okay, is_unary}
use Rattle.rpc_journal.specs.Rows.{both_effects, no_effect, says_item, packet_item, status_packet}
use Rattle.rpc_journal.specs.table.Agrees.{AgreesOn}
use Rattle.rpc_journal.specs.table.Touch.{Touches, untouched, finishing_so, cancelling, completing, hears_answer, end_by, completes_by, tells_end, end_given, completes_given, is_message, items_given, items_of_cancel}
use Rattle.rpc_journal.specs.History.{deed_by}
use Rattle.rpc_journal.proofs.table.DeedLemmas.{IsIdle, never}
use Rattle.rpc_journal.proofs.table.TableLemmas.{ended_is, opening_is}
use Rattle.rpc_journal.proofs.table.TableSteps.{TouchesOne}

abbrev pub completes : ℕ → Item → Bool
completes k item = is_for k item.call && sends_completion item.act

-- the effect ends c so, drops its waiting events where it ends it, and adds n items, of which one completes c's stream
-- where `done` says so, and none completes another's
pub record EndsSo (c : ℕ) (end : Option Status) (done : Bool) (n : ℕ) (e : Effect) : Type 0 where
  pub opens : e.opens ≡ None
  pub ends : e.ends ≡ map (λ s. (c, s)) (option_to_list end)
  pub drops : e.drops ≡ map (λ s. c) (option_to_list end)
  pub puts : e.puts ≡ []
  pub many : length e.says ≡ n
  pub completed : (k : ℕ) → list_any (completes k) e.says ≡ ((c == k) && done)

none_and : (b : Bool) → ((b && false) || false) ≡ false
none_and true = refl
none_and false = refl

and_none : (b : Bool) → (b && false) ≡ false
and_none true = refl
and_none false = refl

message_quiet : (role : Role) (k c : ℕ) (name : CallName) (payload : List ℕ) → list_any (completes k) (message_item role c name payload ∷ []) ≡ false
message_quiet Server k c name payload = none_and (c == k)
message_quiet Client k c name payload = none_and (c == k)

item_quiet : (role : Role) (k c : ℕ) (name : CallName) (says : Bool) (out : Out) → list_any (completes k) (answer_item role c name says out) ≡ false
item_quiet role k c name true (Say payload) = message_quiet role k c name payload
item_quiet role k c name false (Say payload) = refl
item_quiet role k c name says (Begin session resource offset) = none_and (c == k)
item_quiet role k c name says (Append session bytes) = none_and (c == k)
item_quiet role k c name says (Commit session) = none_and (c == k)
item_quiet role k c name says (Leave session) = none_and (c == k)

items_quiet : (role : Role) (k c : ℕ) (name : CallName) (says : Bool) (outs : List Out)
    → list_any (completes k) (flat_map (answer_item role c name says) outs) ≡ false
items_quiet role k c name says [] = refl
items_quiet role k c name says (out ∷ outs) =
    list_any-append (completes k) (answer_item role c name says out) (flat_map (answer_item role c name says) outs)
    ∙ (rw (items_quiet role k c name says outs, item_quiet role k c name says out) refl)

one_item : (role : Role) (c : ℕ) (name : CallName) (says : Bool) (out : Out)
    → length (answer_item role c name says out) ≡ (if not (is_message out) || says then 1 else 0)
one_item role c name true (Say payload) = refl
one_item role c name false (Say payload) = refl
one_item role c name says (Begin session resource offset) = refl
one_item role c name says (Append session bytes) = refl
one_item role c name says (Commit session) = refl
one_item role c name says (Leave session) = refl

how_many : (role : Role) (c : ℕ) (name : CallName) (says : Bool) (outs : List Out)
    → length (flat_map (answer_item role c name says) outs) ≡ count_by (λ out. not (is_message out) || says) outs
how_many role c name says [] = refl
how_many role c name says (out ∷ outs) =
    length-append (answer_item role c name says out) (flat_map (answer_item role c name says) outs)
    ∙ (ap (λ n. n + length (flat_map (answer_item role c name says) outs)) (one_item role c name says out)
    ∙ (ap (λ n. (if not (is_message out) || says then 1 else 0) + n) (how_many role c name says outs)
    ∙ sym (sum_by-cons (λ x. cond (not (is_message x) || says) 1 0) out outs)))

-- nothing more
silent_so : (c : ℕ) → EndsSo c None false 0 no_effect
silent_so c = record { opens = refl; ends = refl; drops = refl; puts = refl; many = refl; completed = λ k. sym (and_none (c == k)) }

-- the end of a client's answer: `okay` says that it is OK, and `shut` that no stream is left to complete
client_so : (c : ℕ) (name : CallName) (end : End) (okay shut : Bool)
    → EndsSo c (if okay then None else Some end.status) (okay && not shut) (if not okay || not shut then 1 else 0)
    (if okay then (if shut then no_effect else says_item (packet_item c (status_packet Completion name Okay)))
    else record no_effect { ends = (c, end.status) ∷ []; drops = c ∷ []; says = packet_item c (status_packet ClientError name end.status) ∷ [] })
client_so c name end true true = silent_so c
client_so c name end true false =
    record { opens = refl; ends = refl; drops = refl; puts = refl; many = refl; completed = λ k. or-false ((c == k) && true) }
client_so c name end false shut =
    record { opens = refl; ends = refl; drops = refl; puts = refl; many = refl; completed = λ k. or-false ((c == k) && false) }

-- the end of an answer
end_so : (role : Role) (c : ℕ) (name : CallName) (kind : Kind) (done : Bool) (end : Option End)
    → EndsSo c (end_by role end) (completes_by role kind done end) (if tells_end role kind done end then 1 else 0) (end_effect role c name kind done end)
end_so Server c name kind done None = silent_so c
end_so Client c name kind done None = silent_so c
end_so Server c name kind done (Some end) =
    record { opens = refl; ends = refl; drops = refl; puts = refl; many = refl; completed = λ k. or-false ((c == k) && false) }
end_so Client c name kind done (Some end) = client_so c name end (is_okay end.status) (is_unary kind || done)

-- the items of an answer stand before what its end does
items_before : (role : Role) (c : ℕ) (name : CallName) (says : Bool) (outs : List Out) (end : Option Status) (done : Bool) (n : ℕ) (e : Effect) → EndsSo c end done n e
    → EndsSo c end done (count_by (λ out. not (is_message out) || says) outs + n)
    (both_effects (record no_effect { says = flat_map (answer_item role c name says) outs }) e)
items_before role c name says outs end done n e so = record {
  opens = so.opens;
  ends = so.ends;
  drops = so.drops;
  puts = so.puts;
  many = omega (arith, length-append (flat_map (answer_item role c name says) outs) e.says, how_many role c name says outs, so.many);
  completed = λ k. list_any-append (completes k) (flat_map (answer_item role c name says) outs) e.says
      ∙ (ap (λ b. b || list_any (completes k) e.says) (items_quiet role k c name says outs) ∙ so.completed k);
}

-- the whole end of a run, where the call is `cut`, or its answer is `heard`
run_ends_so : (role : Role) (c : ℕ) (o : Opening) (cut heard done : Bool) (a : Answer)
    → EndsSo c (if not cut && heard then end_by role a.end else None) (not cut && heard && completes_by role o.method.kind done a.end)
    (if cut then 1
    else count_by (λ out. not (is_message out) || messages_go role o.method.kind heard done) a.items
    + (if heard && tells_end role o.method.kind done a.end then 1 else 0))
    (if cut then says_item (leave_item c) else answered role c o heard done a)
run_ends_so role c o true heard done a =
    record { opens = refl; ends = refl; drops = refl; puts = refl; many = refl; completed = λ k. or-false ((c == k) && false) }
run_ends_so role c o false true done a =
    items_before role c o.name (messages_go role o.method.kind true done) a.items _ _ _ _ (end_so role c o.name o.method.kind done a.end)
run_ends_so role c o false false done a =
    items_before role c o.name (messages_go role o.method.kind false done) a.items _ _ _ _ (silent_so c)

pub none_is : {A : Type 0} (o : Option A) → not (is_some o) ≡ is_none o
none_is None = refl
none_is (Some x) = refl

pub heard_is : (ds : List Deed) (c : ℕ) (r : CallState) → AgreesOn ds c r → is_heard ds c ≡ hears_answer r
heard_is ds c r agrees = rw (ended_is ds c r agrees, agrees.took_end, none_is r.status) refl

pub finish_so : (role : Role) (set : Setting) (ds : List Deed) (c : ℕ) (r : CallState) (a : Answer) → AgreesOn ds c r → set.role ≡ role
    → EndsSo c (end_given role r a.end) (completes_given role r a.end) (items_given role r a) (finish_effect set ds c a (call_at ds c))
finish_so role set ds c r a agrees is =
    let opening = opening_is ds c r agrees in
    rw (opening.1, is, agrees.cancelled, heard_is ds c r agrees, agrees.done)
    (subst
    (λ m. EndsSo c (end_given role r a.end) (not r.cancelled && hears_answer r && completes_by role m.kind r.done a.end)
    (if r.cancelled then 1
    else count_by (λ out. not (is_message out) || messages_go role m.kind (hears_answer r) r.done) a.items
    + (if hears_answer r && tells_end role m.kind r.done a.end then 1 else 0))
    (if r.cancelled then says_item (leave_item c) else answered role c opening.0 (hears_answer r) r.done a))
    opening.3 (run_ends_so role c opening.0 r.cancelled (hears_answer r) r.done a))

ends_here : (c k : ℕ) (end : Option Status) → (c == k) ≡ true → of_call k (map (λ s. (c, s)) (option_to_list end)) ≡ option_to_list end
ends_here c k None is = refl
ends_here c k (Some s) is = rw is refl

ends_elsewhere : (c k : ℕ) (end : Option Status) → (c == k) ≡ false → of_call k (map (λ s. (c, s)) (option_to_list end)) ≡ []
ends_elsewhere c k None is = refl
ends_elsewhere c k (Some s) is = rw is refl

clears_here : (c k : ℕ) (end : Option Status) → (c == k) ≡ true → list_any (λ x. x == k) (map (λ s. c) (option_to_list end)) ≡ is_some end
clears_here c k None is = refl
clears_here c k (Some s) is = rw is refl

clears_elsewhere : (c k : ℕ) (end : Option Status) → (c == k) ≡ false → list_any (λ x. x == k) (map (λ s. c) (option_to_list end)) ≡ false
clears_elsewhere c k None is = refl
clears_elsewhere c k (Some s) is = rw is refl

-- the end of a run touches its call alone
pub finish_touches : (seat c : ℕ) (a : Answer) (end : Option Status) (done : Bool) (n : ℕ) (e : Effect) → EndsSo c end done n e
    → TouchesOne (deed_by seat (Finish c a) e) c (finishing_so end done)
finish_touches seat c a end done n e so = record { opens = so.opens; each = at }
  where
    at : (k : ℕ) (b : Bool) → (c == k) ≡ b → Touches (deed_by seat (Finish c a) e) k (if b then finishing_so end done else untouched)
    at k true is = record {
      starts = refl;
      finishes = is;
      cancels = refl;
      completes = so.completed k ∙ ap (λ b. b && done) is;
      ends = rw (so.ends) (ends_here c k end is);
      clears = rw (so.drops) (clears_here c k end is);
      puts = rw (so.puts) refl;
      alone = never;
    }
    at k false is = record {
      starts = refl;
      finishes = is;
      cancels = refl;
      completes = so.completed k ∙ ap (λ b. b && done) is;
      ends = rw (so.ends) (ends_elsewhere c k end is);
      clears = rw (so.drops) (clears_elsewhere c k end is);
      puts = rw (so.puts) refl;
      alone = never;
    }

-- a cancel
abbrev pub cancelled_so : Role → ℕ → CallName → Bool → Bool → Effect
cancelled_so role c name ended running =
    record no_effect {
      drops = c ∷ [];
      ends = if ended then [] else (c, Cancelled) ∷ [];
      says = (if ended then [] else packet_item c (status_packet (error_type role) name Cancelled) ∷ []) ++ (if running then [] else leave_item c ∷ []);
    }

pub error_quiet : (role : Role) → is_completion_type (error_type role) ≡ false
error_quiet Server = refl
error_quiet Client = refl

none_and_none : (b : Bool) → ((b && false) || ((b && false) || false)) ≡ false
none_and_none true = refl
none_and_none false = refl

cancel_quiet : (role : Role) (k c : ℕ) (name : CallName) (ended running : Bool) → list_any (completes k) (cancelled_so role c name ended running).says ≡ false
cancel_quiet role k c name true true = refl
cancel_quiet role k c name true false = none_and (c == k)
cancel_quiet role k c name false true = rw (error_quiet role) (none_and (c == k))
cancel_quiet role k c name false false = rw (error_quiet role) (none_and_none (c == k))

pub cancel_touches : (role : Role) (seat c : ℕ) (name : CallName) (status : Option Status) (running : Bool)
    → TouchesOne (deed_by seat (Cancel c) (cancelled_so role c name (is_some status) running)) c (cancelling status)
cancel_touches role seat c name status running = record { opens = refl; each = at status }
  where
    at : (status : Option Status) (k : ℕ) (b : Bool) → (c == k) ≡ b
        → Touches (deed_by seat (Cancel c) (cancelled_so role c name (is_some status) running)) k (if b then cancelling status else untouched)
    at None k true is = record { starts = refl; finishes = refl; cancels = is; completes = cancel_quiet role k c name false running; ends = rw is refl; clears = rw is refl; puts = refl; alone = never }
    at None k false is = record { starts = refl; finishes = refl; cancels = is; completes = cancel_quiet role k c name false running; ends = rw is refl; clears = rw is refl; puts = refl; alone = never }
    at (Some s) k true is = record { starts = refl; finishes = refl; cancels = is; completes = cancel_quiet role k c name true running; ends = refl; clears = rw is refl; puts = refl; alone = never }
    at (Some s) k false is = record { starts = refl; finishes = refl; cancels = is; completes = cancel_quiet role k c name true running; ends = refl; clears = rw is refl; puts = refl; alone = never }

pub cancel_says : (role : Role) (c : ℕ) (name : CallName) (status : Option Status) (run : Option ℕ)
    → length (cancelled_so role c name (is_some status) (is_some run)).says ≡ (if is_some status then 0 else 1) + (if is_some run then 0 else 1)
cancel_says role c name None None = refl
cancel_says role c name None (Some seat) = refl
cancel_says role c name (Some s) None = refl
cancel_says role c name (Some s) (Some seat) = refl

pub cancel_is : (set : Setting) (ds : List Deed) (c : ℕ) (r : CallState) → AgreesOn ds c r
    → (o : Opening) × (cancel_effect set ds c (call_at ds c) ≡ cancelled_so set.role c o.name (is_some r.status) (is_some r.run))
cancel_is set ds c r agrees =
    let opening = opening_is ds c r agrees in
    (opening.0, rw (opening.1, ended_is ds c r agrees, agrees.run) refl)

-- a message or a store action
say_quiet : (role : Role) (k c : ℕ) (name : CallName) (out : Out) → list_any (completes k) (out_item role c name out ∷ []) ≡ false
say_quiet role k c name (Say payload) = message_quiet role k c name payload
say_quiet role k c name (Begin session resource offset) = none_and (c == k)
say_quiet role k c name (Append session bytes) = none_and (c == k)
say_quiet role k c name (Commit session) = none_and (c == k)
say_quiet role k c name (Leave session) = none_and (c == k)

pub say_idle : (role : Role) (seat c : ℕ) (name : CallName) (out : Out) → IsIdle (deed_by seat (SaysOut c out) (says_item (out_item role c name out)))
say_idle role seat c name out = record {
  start = λ k. refl;
  finish = λ k. refl;
  cancel = λ k. refl;
  ends = refl;
  drops = refl;
  puts = refl;
  says = λ k. say_quiet role k c name out;
}

pub say_is : (set : Setting) (ds : List Deed) (c : ℕ) (out : Out) (r : CallState) → AgreesOn ds c r
    → (o : Opening) × (with_call (call_at ds c) (λ x. says_item (out_item set.role c x.name out)) ≡ says_item (out_item set.role c o.name out))
say_is set ds c out r agrees = let opening = opening_is ds c r agrees in (opening.0, rw (opening.1) refl)

pub cancel_one : (set : Setting) (ds : List Deed) (seat c : ℕ) (r : CallState) → AgreesOn ds c r
    → TouchesOne (deed_by seat (Cancel c) (cancel_effect set ds c (call_at ds c))) c (cancelling r.status)
cancel_one set ds seat c r agrees =
    let effect = cancel_is set ds c r agrees in
    subst (λ (e : Effect). TouchesOne (deed_by seat (Cancel c) e) c (cancelling r.status)) (sym effect.1)
    (cancel_touches set.role seat c effect.0.name r.status (is_some r.run))

pub cancel_many : (set : Setting) (ds : List Deed) (c : ℕ) (r : CallState) → AgreesOn ds c r
    → length (cancel_effect set ds c (call_at ds c)).says ≡ items_of_cancel r
cancel_many set ds c r agrees =
    let effect = cancel_is set ds c r agrees in
    ap (λ (e : Effect). length e.says) effect.1 ∙ cancel_says set.role c effect.0.name r.status r.run

abbrev pub say_effect : Setting → List Deed → ℕ → Out → Effect
say_effect set ds c out = with_call (call_at ds c) (λ x. says_item (out_item set.role c x.name out))

-- one item, and no more
pub record SaysOne (seat c : ℕ) (out : Out) (e : Effect) : Type 0 where
  pub idle : IsIdle (deed_by seat (SaysOut c out) e)
  pub opens : e.opens ≡ None
  pub many : length e.says ≡ 1

pub say_one : (set : Setting) (ds : List Deed) (seat c : ℕ) (out : Out) (r : CallState) → AgreesOn ds c r
    → SaysOne seat c out (say_effect set ds c out)
say_one set ds seat c out r agrees =
    let effect = say_is set ds c out r agrees in
    subst (λ (e : Effect). SaysOne seat c out e) (sym effect.1)
    (record { idle = say_idle set.role seat c effect.0.name out; opens = refl; many = refl })

-- the end of a client's stream
abbrev pub done_effect : List Deed → ℕ → Effect
done_effect ds c = with_call (call_at ds c) (λ o. says_item (packet_item c (status_packet Completion o.name Okay)))

-- one item, which completes the stream of its call alone
pub record CompletesOne (seat c : ℕ) (e : Effect) : Type 0 where
  pub touches : TouchesOne (deed_by seat (Done c) e) c completing
  pub many : length e.says ≡ 1

done_touches : (seat c k : ℕ) (name : CallName) (b : Bool) → (c == k) ≡ b
    → Touches (deed_by seat (Done c) (says_item (packet_item c (status_packet Completion name Okay)))) k (if b then completing else untouched)
done_touches seat c k name true is =
    record { starts = refl; finishes = refl; cancels = refl; completes = rw is refl; ends = refl; clears = refl; puts = refl; alone = never }
done_touches seat c k name false is =
    record { starts = refl; finishes = refl; cancels = refl; completes = rw is refl; ends = refl; clears = refl; puts = refl; alone = never }

pub done_one : (ds : List Deed) (seat c : ℕ) (r : CallState) → AgreesOn ds c r → CompletesOne seat c (done_effect ds c)
done_one ds seat c r agrees =
    let opening = opening_is ds c r agrees in
    rw (opening.1)
    (record { touches = record { opens = refl; each = λ k b is. done_touches seat c k opening.0.name b is }; many = refl })
