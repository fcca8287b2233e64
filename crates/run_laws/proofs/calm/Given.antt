-- What the end of a run does at a server, by the event that the run took and what was answered to it.
use Rattle.std.proofs.Common.{◌≡◌, ℕ, Bool, true, false, not, ◌&&◌, ◌||◌, ◌==◌, List, [], ◌∷◌, ◌++◌, flat_map, fold, Option, Some, None, is_none, if◌then◌else◌, refl, ap, sym, ◌∙◌, append_assoc}
use Rattle.std.proofs.lemmas.Bool.{true≢false, false≢true}
use Rattle.std.proofs.lemmas.List.{append-nil}
use Rattle.std.specs.List.{AllByRecursion}
use Rattle.rpc_ids.specs.declared.method.Kind.{Kind}
use Rattle.rpc_ids.specs.declared.method.Role.TheVariants.{Server}
use Rattle.rpc_ids.specs.declared.status.Status.{Status}
use Rattle.rpc_packet.specs.declared.call_name.CallName.{CallName}
use Rattle.rpc_handlers.specs.declared.answer.Answer.{Answer}
use Rattle.rpc_handlers.specs.declared.answer.End.{End}
use Rattle.rpc_handlers.specs.declared.answer.Out.{Out}
use Rattle.rpc_handlers.specs.declared.answer.Out.TheVariants.{Say, Begin, Append, Commit, Leave}
use Rattle.rpc_handlers.specs.declared.event.Event.{Event}
use Rattle.rpc_handlers.specs.declared.event.Memo.{Memo}
use Rattle.rpc_handlers.specs.HandlerRule.{HandlerRule}
use Rattle.rpc_journal.specs.declared.item.Item.{Item}
use Rattle.rpc_journal.specs.declared.setting.Setting.{Setting}
use Rattle.rpc_journal.specs.Calls.{call_at, has_end, is_cancelled, of_call}
use Rattle.rpc_journal.specs.Effect.{Deed, Effect, Opening}
use Rattle.rpc_journal.specs.Entries.{answer_item, answered, end_effect, finish_effect, messages_go}
use Rattle.rpc_journal.specs.Items.{is_done}
use Rattle.rpc_journal.specs.Queues.{is_ended, taken_event}
use Rattle.rpc_journal.specs.Rows.{no_effect}
use Rattle.run_laws.specs.calm.Alone.{leaves_open, stays_open}

-- the run of an open call c took this event, and this was answered
abbrev pub given : ℕ → Opening → Event → Answer → Effect
given c o event a = answered Server c o (not (is_ended event)) false a

-- at a server the stream that the call itself has completed is no matter
undone_end : (c : ℕ) (name : CallName) (kind : Kind) (done : Bool) (end : Option End) → end_effect Server c name kind done end ≡ end_effect Server c name kind false end
undone_end c name kind done None = refl
undone_end c name kind done (Some end) = refl

undone : (c : ℕ) (o : Opening) (heard done : Bool) (a : Answer) → answered Server c o heard done a ≡ answered Server c o heard false a
undone c o heard done a = rw (undone_end c o.name o.method.kind done a.end) refl

pub finish_given : (set : Setting) (ds : List Deed) (c : ℕ) (a : Answer) (o : Opening) (event : Event) → set.role ≡ Server → call_at ds c ≡ Some o
    → is_cancelled ds c ≡ false → has_end ds c ≡ false → taken_event ds c ≡ Some event → finish_effect set ds c a (call_at ds c) ≡ given c o event a
finish_given set ds c a o event role there uncancelled unended took =
    rw (there, uncancelled, role, unended, took) (undone c o (not (is_ended event)) (is_done ds c) a)

-- what an end does, where it is heard
abbrev end_of_answer : ℕ → Opening → Bool → Option End → Effect
end_of_answer c o ended end = if not ended then end_effect Server c o.name o.method.kind false end else no_effect

-- it opens no call and puts no event
record OnlyEnds (e : Effect) : Type 0 where
  opens : e.opens ≡ None
  puts : e.puts ≡ []

only_ends : (c : ℕ) (o : Opening) (ended : Bool) (end : Option End) → OnlyEnds (end_of_answer c o ended end)
only_ends c o true end = record { opens = refl; puts = refl }
only_ends c o false None = record { opens = refl; puts = refl }
only_ends c o false (Some end) = record { opens = refl; puts = refl }

leaves : (c : ℕ) (o : Opening) (ended : Bool) (end : Option End) → (ended || is_none end) ≡ true
    → ((end_of_answer c o ended end).ends ≡ []) × ((end_of_answer c o ended end).drops ≡ [])
leaves c o true end is = (refl, refl)
leaves c o false None is = (refl, refl)
leaves c o false (Some end) is = absurd (false≢true is)

shuts : (c : ℕ) (o : Opening) (ended : Bool) (end : Option End) → (ended || is_none end) ≡ false
    → (s : Status) × ((end_of_answer c o ended end).ends ≡ (c, s) ∷ []) × ((end_of_answer c o ended end).drops ≡ c ∷ [])
shuts c o true end is = absurd (true≢false is)
shuts c o false None is = absurd (true≢false is)
shuts c o false (Some end) is = (end.status, refl, refl)

module _ (c : ℕ) (o : Opening) (event : Event) (a : Answer) where
  pub given_opens : (given c o event a).opens ≡ None
  given_opens = (only_ends c o (is_ended event) a.end).opens

  pub given_puts : (given c o event a).puts ≡ []
  given_puts = (only_ends c o (is_ended event) a.end).puts

  -- an answer that leaves the call open
  pub given_leaves : (is_ended event || is_none a.end) ≡ true → ((given c o event a).ends ≡ []) × ((given c o event a).drops ≡ [])
  given_leaves is = leaves c o (is_ended event) a.end is

  -- an answer that ends it
  pub given_shuts : (is_ended event || is_none a.end) ≡ false → (s : Status) × ((given c o event a).ends ≡ (c, s) ∷ []) × ((given c o event a).drops ≡ c ∷ [])
  given_shuts is = shuts c o (is_ended event) a.end is

  -- it ends no other call
  pub given_ends_other : (k : ℕ) → (c == k) ≡ false → of_call k (given c o event a).ends ≡ []
  given_ends_other k apart = at (is_ended event || is_none a.end) refl
    where
      at : (b : Bool) → (is_ended event || is_none a.end) ≡ b → of_call k (given c o event a).ends ≡ []
      at true is = ap (of_call k) (given_leaves is).0
      at false is = ap (of_call k) (given_shuts is).1 ∙ rw apart refl

-- the answers to these and then to one more
pub stays-push : (rule : HandlerRule) (m : Memo) (events : List Event) (event : Event)
    → stays_open rule m (events ++ event ∷ []) ≡ (stays_open rule m events && leaves_open rule (fold rule.next m events) event)
stays-push rule m [] event = at (leaves_open rule m event)
  where
    at : (b : Bool) → (b && true) ≡ b
    at true = refl
    at false = refl
stays-push rule m (e ∷ events) event = at (leaves_open rule m e) _ _ _ (stays-push rule (rule.next m e) events event)
  where
    at : (b x y z : Bool) → x ≡ (y && z) → (b && x) ≡ ((b && y) && z)
    at true x y z same = same
    at false x y z same = refl

-- all items of the answers to these events, in order
abbrev pub said : HandlerRule → ℕ → Opening → Memo → List Event → List Item
said rule c o m [] = []
said rule c o m (event ∷ events) = (given c o event (rule.answer m event)).says ++ said rule c o (rule.next m event) events

-- and the ends that they give the call
abbrev pub ends_said : HandlerRule → ℕ → Opening → Memo → List Event → List Status
ends_said rule c o m [] = []
ends_said rule c o m (event ∷ events) = of_call c (given c o event (rule.answer m event)).ends ++ ends_said rule c o (rule.next m event) events

pub said-push : (rule : HandlerRule) (c : ℕ) (o : Opening) (m : Memo) (events : List Event) (event : Event)
    → said rule c o m (events ++ event ∷ []) ≡ said rule c o m events ++ (given c o event (rule.answer (fold rule.next m events) event)).says
said-push rule c o m [] event = append-nil (given c o event (rule.answer m event)).says
said-push rule c o m (e ∷ events) event =
    ap (λ items. (given c o e (rule.answer m e)).says ++ items) (said-push rule c o (rule.next m e) events event)
    ∙ sym (append_assoc (given c o e (rule.answer m e)).says (said rule c o (rule.next m e) events) _)

pub ends_said-push : (rule : HandlerRule) (c : ℕ) (o : Opening) (m : Memo) (events : List Event) (event : Event)
    → ends_said rule c o m (events ++ event ∷ []) ≡ ends_said rule c o m events ++ of_call c (given c o event (rule.answer (fold rule.next m events) event)).ends
ends_said-push rule c o m [] event = append-nil (of_call c (given c o event (rule.answer m event)).ends)
ends_said-push rule c o m (e ∷ events) event =
    ap (λ ends. of_call c (given c o e (rule.answer m e)).ends ++ ends) (ends_said-push rule c o (rule.next m e) events event)
    ∙ sym (append_assoc (of_call c (given c o e (rule.answer m e)).ends) (ends_said rule c o (rule.next m e) events) _)

-- items of call c
abbrev pub AreOfCall : ℕ → List Item → Type 0
AreOfCall c items = AllByRecursion (λ (item : Item). item.call ≡ Some c) items

of_call-append : (c : ℕ) (xs ys : List Item) → AreOfCall c xs → AreOfCall c ys → AreOfCall c (xs ++ ys)
of_call-append c [] ys first second = second
of_call-append c (x ∷ xs) ys first second = (first.0, of_call-append c xs ys first.1 second)

one_item : (c : ℕ) (name : CallName) (says : Bool) (out : Out) → AreOfCall c (answer_item Server c name says out)
one_item c name true (Say payload) = (refl, tt)
one_item c name false (Say payload) = tt
one_item c name says (Begin session resource offset) = (refl, tt)
one_item c name says (Append session bytes) = (refl, tt)
one_item c name says (Commit session) = (refl, tt)
one_item c name says (Leave session) = (refl, tt)

answer_items : (c : ℕ) (name : CallName) (says : Bool) (outs : List Out) → AreOfCall c (flat_map (answer_item Server c name says) outs)
answer_items c name says [] = tt
answer_items c name says (out ∷ outs) = of_call-append c (answer_item Server c name says out) _ (one_item c name says out) (answer_items c name says outs)

end_of_call : (c : ℕ) (o : Opening) (ended : Bool) (end : Option End) → AreOfCall c (end_of_answer c o ended end).says
end_of_call c o true end = tt
end_of_call c o false None = tt
end_of_call c o false (Some end) = (refl, tt)

pub given_of_call : (c : ℕ) (o : Opening) (event : Event) (a : Answer) → AreOfCall c (given c o event a).says
given_of_call c o event a =
    of_call-append c (flat_map (answer_item Server c o.name (messages_go Server o.method.kind (not (is_ended event)) false)) a.items) _
    (answer_items c o.name (messages_go Server o.method.kind (not (is_ended event)) false) a.items) (end_of_call c o (is_ended event) a.end)
