-- What a server says over calm packets: the items and the end of each call are answered to the events that its runs took, and
-- the replies are those to the packets alone.
use Rattle.std.proofs.Common.{◌≡◌, ◌⊎◌, ℕ, ◌<◌, ◌≤◌, Bool, true, false, ◌&&◌, ◌==◌, List, [], ◌∷◌, ◌++◌, fold, slice_get, Option, Some, None, is_some, is_none, option_to_list, refl, ap, sym, ◌∙◌, subst, inl, inr, arith, length-append}
use Rattle.std.proofs.lemmas.Bool.{true≢false, and_parts, eqb-true, eq-eqb, eqb-false}
use Rattle.std.proofs.lemmas.List.{append-nil}
use Rattle.std.proofs.lemmas.List.Elements.{filter-append}
use Rattle.std.proofs.lemmas.Option.{slice_get_past}
use Rattle.rpc_ids.specs.declared.method.Role.TheVariants.{Server}
use Rattle.rpc_ids.specs.declared.status.Status.{Status}
use Rattle.rpc_packet.specs.declared.call_name.CallName.{CallName}
use Rattle.rpc_packet.specs.declared.owned.Packet.{Packet}
use Rattle.rpc_handlers.specs.declared.answer.Answer.{Answer}
use Rattle.rpc_handlers.specs.declared.event.Event.{Event}
use Rattle.rpc_handlers.specs.declared.event.Memo.{Memo}
use Rattle.rpc_handlers.specs.HandlerRule.{HandlerRule}
use Rattle.rpc_journal.specs.declared.entry.EntryKind.{EntryKind}
use Rattle.rpc_journal.specs.declared.entry.EntryKind.TheVariants.{Arrive, Start, Finish, Tick, Flush, EndIn}
use Rattle.rpc_journal.specs.declared.item.Item.{Item}
use Rattle.rpc_journal.specs.declared.setting.Setting.{Setting}
use Rattle.rpc_journal.specs.Calls.{call_at, call_count, calls, ends_of, has_end, is_finish_of, is_replace_of, last_call, of_call}
use Rattle.rpc_journal.specs.Effect.{Deed, Effect, Opening}
use Rattle.rpc_journal.specs.Entries.{arrive_row}
use Rattle.rpc_journal.specs.History.{deed_by}
use Rattle.rpc_journal.specs.Items.{arrival_of, is_for, items_sent}
use Rattle.rpc_journal.specs.States.{finished_since, opened_state, opens_call}
use Rattle.rpc_journal.proofs.PlaceLemmas.{below_or_not, get_front}
use Rattle.run_report.specs.ItemsByCall.{items_of_call, replies}
use Rattle.run_laws.specs.calm.Alone.{arrived}
use Rattle.run_laws.proofs.calm.Follow.{Follows, Running, Step, agrees, deed_of, meets, running}
use Rattle.run_laws.proofs.calm.Given.{AreOfCall, ends_said, ends_said-push, finish_given, given, given_ends_other, given_of_call, given_opens, said, said-push}
use Rattle.run_laws.proofs.calm.Rows.{AreReplies, Meets}
use Rattle.run_laws.proofs.calm.Rows.Meets.{both_open, both_put, both_say, late}

-- Items by their call.
items_of_call-append : (c : ℕ) (xs ys : List Item) → items_of_call c (xs ++ ys) ≡ items_of_call c xs ++ items_of_call c ys
items_of_call-append c xs ys = filter-append (λ (item : Item). is_for c item.call) xs ys

replies-append : (xs ys : List Item) → replies (xs ++ ys) ≡ replies xs ++ replies ys
replies-append xs ys = filter-append (λ (item : Item). is_none item.call) xs ys

own_items : (c : ℕ) (items : List Item) → AreOfCall c items → items_of_call c items ≡ items
own_items c [] all = refl
own_items c (item ∷ items) all =
    let own : is_for c item.call ≡ true = ap (is_for c) all.0 ∙ eq-eqb c c refl in
    rw own (ap (λ rest. item ∷ rest) (own_items c items all.1))

other_items : (c k : ℕ) (items : List Item) → (c == k) ≡ false → AreOfCall c items → items_of_call k items ≡ []
other_items c k [] apart all = refl
other_items c k (item ∷ items) apart all =
    let other : is_for k item.call ≡ false = ap (is_for k) all.0 ∙ apart in
    rw other (other_items c k items apart all.1)

no_replies : (c : ℕ) (items : List Item) → AreOfCall c items → replies items ≡ []
no_replies c [] all = refl
no_replies c (item ∷ items) all =
    let one : is_none item.call ≡ false = ap is_none all.0 in
    rw one (no_replies c items all.1)

reply_items : (c : ℕ) (items : List Item) → AreReplies items → items_of_call c items ≡ []
reply_items c [] all = refl
reply_items c (item ∷ items) all =
    let none : is_for c item.call ≡ false = ap (is_for c) all.0 in
    rw none (reply_items c items all.1)

-- what was answered to these events of a call, where it is there
abbrev pub said_of : HandlerRule → Setting → ℕ → Option Opening → List Event → List Item
said_of rule set c None events = []
said_of rule set c (Some o) events = said rule c o (opened_state rule set o) events

abbrev pub ends_said_of : HandlerRule → Setting → ℕ → Option Opening → List Event → List Status
ends_said_of rule set c None events = []
ends_said_of rule set c (Some o) events = ends_said rule c o (opened_state rule set o) events

pub record Says (rule : HandlerRule) (set : Setting) (ds : List Deed) (qs : List Packet) : Type 0 where
  pub items : (c : ℕ) → items_of_call c (items_sent ds) ≡ said_of rule set c (call_at ds c) (finished_since ds c)
  pub ends : (c : ℕ) → ends_of ds c ≡ ends_said_of rule set c (call_at ds c) (finished_since ds c)
  pub replies_are : replies (items_sent ds) ≡ replies (items_sent (arrived set qs))

-- no call of the packet's name has an end
abbrev pub NameOpen : List Deed → CallName → Type 0
NameOpen ds name = (c : ℕ) → last_call ds name ≡ Some c → has_end ds c ≡ false

nothing_more : {A : Type 0} (xs ys : List A) → ys ≡ [] → xs ++ ys ≡ xs
nothing_more xs ys none = ap (λ zs. xs ++ zs) none ∙ append-nil xs

-- a deed is nothing to c: it says nothing of c, ends no run of it, replaces no handler of it and gives it no end
record Silent (d : Deed) (c : ℕ) : Type 0 where
  items : items_of_call c d.does.says ≡ []
  ends : of_call c d.does.ends ≡ []
  finishes : is_finish_of c d.entry.kind ≡ false
  replaces : is_replace_of c d.entry.kind ≡ false

module _ (rule : HandlerRule) (set : Setting) (ds : List Deed) (qs : List Packet) (says : Says rule set ds qs) (d : Deed) (c : ℕ) (silent : Silent d c) where
  items_still : items_of_call c (items_sent (d ∷ ds)) ≡ items_of_call c (items_sent ds)
  items_still = items_of_call-append c (items_sent ds) d.does.says ∙ nothing_more (items_of_call c (items_sent ds)) (items_of_call c d.does.says) silent.items

  ends_still : ends_of (d ∷ ds) c ≡ ends_of ds c
  ends_still = nothing_more (ends_of ds c) (of_call c d.does.ends) silent.ends

  -- the call is there or not, as it was
  module _ (closed : opens_call ds d c ≡ false) where
    done_still : finished_since (d ∷ ds) c ≡ finished_since ds c
    done_still = rw (closed, silent.replaces, silent.finishes) refl

    call_still : call_at (d ∷ ds) c ≡ call_at ds c
    call_still = at d.does.opens closed
      where
        apart : (o : Opening) → (call_count ds == c) ≡ false → (c < call_count ds) ⊎ (call_count ds ≤ c) → slice_get (calls ds ++ o ∷ []) c ≡ slice_get (calls ds) c
        apart o other (inl below) = get_front (calls ds) (o ∷ []) c below
        apart o other (inr past) =
            slice_get_past (calls ds ++ o ∷ []) c (omega (arith, past, eqb-false (call_count ds) c other, length-append (calls ds) (o ∷ [])))
            ∙ sym (slice_get_past (calls ds) c past)

        at : (o : Option Opening) → (is_some o && (call_count ds == c)) ≡ false → slice_get (calls ds ++ option_to_list o) c ≡ slice_get (calls ds) c
        at None is = ap (λ xs. slice_get xs c) (append-nil (calls ds))
        at (Some o) is = apart o is (below_or_not c (call_count ds))

  -- the call opens
  module _ (opened : opens_call ds d c ≡ true) where
    none_yet : call_at ds c ≡ None
    none_yet = slice_get_past (calls ds) c (omega (arith, eqb-true (call_count ds) c (and_parts (is_some d.does.opens) (call_count ds == c) opened).1))

    none_done : finished_since (d ∷ ds) c ≡ []
    none_done = rw opened refl

  nothing_said : (o : Option Opening) → said_of rule set c o [] ≡ []
  nothing_said None = refl
  nothing_said (Some o) = refl

  no_ends_said : (o : Option Opening) → ends_said_of rule set c o [] ≡ []
  no_ends_said None = refl
  no_ends_said (Some o) = refl

  silent_items : items_of_call c (items_sent (d ∷ ds)) ≡ said_of rule set c (call_at (d ∷ ds) c) (finished_since (d ∷ ds) c)
  silent_items = at (opens_call ds d c) refl
    where
      at : (b : Bool) → opens_call ds d c ≡ b → items_of_call c (items_sent (d ∷ ds)) ≡ said_of rule set c (call_at (d ∷ ds) c) (finished_since (d ∷ ds) c)
      at true is =
          items_still
          ∙ (says.items c ∙ (ap (λ o. said_of rule set c o (finished_since ds c)) (none_yet is)
          ∙ sym (ap (said_of rule set c (call_at (d ∷ ds) c)) (none_done is) ∙ nothing_said (call_at (d ∷ ds) c))))
      at false is =
          items_still
          ∙ (says.items c ∙ (ap (λ o. said_of rule set c o (finished_since ds c)) (sym (call_still is))
          ∙ ap (said_of rule set c (call_at (d ∷ ds) c)) (sym (done_still is))))

  silent_ends : ends_of (d ∷ ds) c ≡ ends_said_of rule set c (call_at (d ∷ ds) c) (finished_since (d ∷ ds) c)
  silent_ends = at (opens_call ds d c) refl
    where
      at : (b : Bool) → opens_call ds d c ≡ b → ends_of (d ∷ ds) c ≡ ends_said_of rule set c (call_at (d ∷ ds) c) (finished_since (d ∷ ds) c)
      at true is =
          ends_still
          ∙ (says.ends c ∙ (ap (λ o. ends_said_of rule set c o (finished_since ds c)) (none_yet is)
          ∙ sym (ap (ends_said_of rule set c (call_at (d ∷ ds) c)) (none_done is) ∙ no_ends_said (call_at (d ∷ ds) c))))
      at false is =
          ends_still
          ∙ (says.ends c ∙ (ap (λ o. ends_said_of rule set c o (finished_since ds c)) (sym (call_still is))
          ∙ ap (ends_said_of rule set c (call_at (d ∷ ds) c)) (sym (done_still is))))

-- what an arrival says, where no call of its name has an end: replies, which are those to the packets alone
record SaysAlone (ds : List Deed) (mine other : Effect) : Type 0 where
  same : mine.says ≡ other.says
  replies_all : AreReplies mine.says

says_alone : (ds : List Deed) (p : Packet) (mine other : Effect) → NameOpen ds p.name → Meets ds p mine other → SaysAlone ds mine other
says_alone ds p mine other open_names (both_say items none a b) = record {
  same = ap (λ (e : Effect). e.says) (a ∙ sym b);
  replies_all = subst (λ (e : Effect). AreReplies e.says) (sym a) none;
}
says_alone ds p mine other open_names (both_open m no_tick request a b) = record {
  same = ap (λ (e : Effect). e.says) (a ∙ sym b);
  replies_all = subst (λ (e : Effect). AreReplies e.says) (sym a) tt;
}
says_alone ds p mine other open_names (both_put c event unended below a b) = record {
  same = ap (λ (e : Effect). e.says) (a ∙ sym b);
  replies_all = subst (λ (e : Effect). AreReplies e.says) (sym a) tt;
}
says_alone ds p mine other open_names (late c items last ended below none a at_most) = absurd (true≢false (sym ended ∙ open_names c last))

module _ (rule : HandlerRule) (set : Setting) (role : set.role ≡ Server) (ds : List Deed) (qs : List Packet) (follow : Follows rule set ds qs) (says : Says rule set ds qs) where
  -- an entry that says nothing
  quiet_says : (d : Deed) → d.does.says ≡ [] → ((c : ℕ) → Silent d c) → Says rule set (d ∷ ds) qs
  quiet_says d none silent = record {
    items = λ c. silent_items rule set ds qs says d c (silent c);
    ends = λ c. silent_ends rule set ds qs says d c (silent c);
    replies_are = ap replies (nothing_more (items_sent ds) d.does.says none) ∙ says.replies_are;
  }

  arrive_says : (seat : ℕ) (p : Packet) → Step rule set ds qs (Arrive p) → NameOpen ds p.name → Says rule set (deed_of set ds seat (Arrive p) ∷ ds) (p ∷ qs)
  arrive_says seat p step open_names =
      let met = meets rule set role ds qs follow seat p step.0 step.1 in
      let alone = says_alone ds p _ _ open_names met in
      let agreed = agrees ds p _ _ met in
      let silent : (c : ℕ) → Silent (deed_of set ds seat (Arrive p)) c =
      λ c. record { items = reply_items c (arrive_row set ds p).does.says alone.replies_all; ends = ap (of_call c) agreed.no_end; finishes = refl; replaces = refl } in
      record {
        items = λ c. silent_items rule set ds qs says (deed_of set ds seat (Arrive p)) c (silent c);
        ends = λ c. silent_ends rule set ds qs says (deed_of set ds seat (Arrive p)) c (silent c);
        replies_are =
            replies-append (items_sent ds) (arrive_row set ds p).does.says
            ∙ (ap (λ xs. xs ++ replies (arrive_row set ds p).does.says) says.replies_are
            ∙ (ap (λ xs. replies (items_sent (arrived set qs)) ++ replies xs) alone.same
            ∙ sym (replies-append (items_sent (arrived set qs)) (arrive_row set (arrived set qs) p).does.says)));
      }

  -- a run ends
  module _ (seat c : ℕ) (a : Answer) (step : Step rule set ds qs (Finish c a)) (r : Running rule set role ds qs follow c) where
    abbrev over : Deed
    over = deed_by seat (Finish c a) (given c r.opening r.run.event a)

    abbrev m : Memo
    m = opened_state rule set r.opening

    own : (c == c) ≡ true
    own = eq-eqb c c refl

    closed : (k : ℕ) → opens_call ds over k ≡ false
    closed k = rw (given_opens c r.opening r.run.event a) refl

    one_more : finished_since (over ∷ ds) c ≡ finished_since ds c ++ r.run.event ∷ []
    one_more = rw (closed c, own, r.run.began, r.run.took) refl

    answers : a ≡ rule.answer (fold rule.next m (finished_since ds c)) r.run.event
    answers = step.1 _ _ r.run.before r.run.took

    there_now : call_at (over ∷ ds) c ≡ Some r.opening
    there_now = rw (given_opens c r.opening r.run.event a) (ap (λ xs. slice_get xs c) (append-nil (calls ds)) ∙ r.there)

    own_says : items_of_call c (items_sent (over ∷ ds)) ≡ said_of rule set c (call_at (over ∷ ds) c) (finished_since (over ∷ ds) c)
    own_says =
        items_of_call-append c (items_sent ds) over.does.says
        ∙ (ap (λ xs. items_of_call c (items_sent ds) ++ xs) (own_items c over.does.says (given_of_call c r.opening r.run.event a))
        ∙ (ap (λ xs. xs ++ over.does.says) (says.items c ∙ ap (λ o. said_of rule set c o (finished_since ds c)) r.there)
        ∙ (ap (λ x. said rule c r.opening m (finished_since ds c) ++ (given c r.opening r.run.event x).says) answers
        ∙ (sym (said-push rule c r.opening m (finished_since ds c) r.run.event)
        ∙ (ap (said rule c r.opening m) (sym one_more) ∙ ap (λ o. said_of rule set c o (finished_since (over ∷ ds) c)) (sym there_now))))))

    own_ends : ends_of (over ∷ ds) c ≡ ends_said_of rule set c (call_at (over ∷ ds) c) (finished_since (over ∷ ds) c)
    own_ends =
        ap (λ xs. xs ++ of_call c over.does.ends) (says.ends c ∙ ap (λ o. ends_said_of rule set c o (finished_since ds c)) r.there)
        ∙ (ap (λ x. ends_said rule c r.opening m (finished_since ds c) ++ of_call c (given c r.opening r.run.event x).ends) answers
        ∙ (sym (ends_said-push rule c r.opening m (finished_since ds c) r.run.event)
        ∙ (ap (ends_said rule c r.opening m) (sym one_more) ∙ ap (λ o. ends_said_of rule set c o (finished_since (over ∷ ds) c)) (sym there_now))))

    other_silent : (k : ℕ) → (c == k) ≡ false → Silent over k
    other_silent k apart = record {
      items = other_items c k over.does.says apart (given_of_call c r.opening r.run.event a);
      ends = given_ends_other c r.opening r.run.event a k apart;
      finishes = apart;
      replaces = refl;
    }

    over_says : Says rule set (over ∷ ds) qs
    over_says = record {
      items = λ k. items_at k (c == k) refl;
      ends = λ k. ends_at k (c == k) refl;
      replies_are =
          replies-append (items_sent ds) over.does.says
          ∙ (nothing_more (replies (items_sent ds)) (replies over.does.says) (no_replies c over.does.says (given_of_call c r.opening r.run.event a)) ∙ says.replies_are);
    }
      where
        items_at : (k : ℕ) (b : Bool) → (c == k) ≡ b → items_of_call k (items_sent (over ∷ ds)) ≡ said_of rule set k (call_at (over ∷ ds) k) (finished_since (over ∷ ds) k)
        items_at k true same =
            subst (λ x. items_of_call x (items_sent (over ∷ ds)) ≡ said_of rule set x (call_at (over ∷ ds) x) (finished_since (over ∷ ds) x)) (eqb-true c k same) own_says
        items_at k false apart = silent_items rule set ds qs says over k (other_silent k apart)

        ends_at : (k : ℕ) (b : Bool) → (c == k) ≡ b → ends_of (over ∷ ds) k ≡ ends_said_of rule set k (call_at (over ∷ ds) k) (finished_since (over ∷ ds) k)
        ends_at k true same =
            subst (λ x. ends_of (over ∷ ds) x ≡ ends_said_of rule set x (call_at (over ∷ ds) x) (finished_since (over ∷ ds) x)) (eqb-true c k same) own_ends
        ends_at k false apart = silent_ends rule set ds qs says over k (other_silent k apart)

    finish_says : Says rule set (deed_of set ds seat (Finish c a) ∷ ds) qs
    finish_says =
        subst (λ e. Says rule set (deed_by seat (Finish c a) e ∷ ds) qs)
        (sym (finish_given set ds c a r.opening r.run.event role r.there (follow.uncancelled c) r.run.unended r.run.took)) over_says

-- what is asked of an entry besides
abbrev pub StepOpen : List Deed → EntryKind → Type 0
StepOpen ds (Arrive p) = NameOpen ds p.name
StepOpen ds _ = Unit {0}

pub says_step : (rule : HandlerRule) (set : Setting) → set.role ≡ Server → (ds : List Deed) (qs : List Packet) (seat : ℕ) (kind : EntryKind) → Follows rule set ds qs
    → Says rule set ds qs → Step rule set ds qs kind → StepOpen ds kind → Says rule set (deed_of set ds seat kind ∷ ds) (arrival_of kind ++ qs)
says_step rule set role ds qs seat (Arrive p) follow says step open_names = arrive_says rule set role ds qs follow says seat p step open_names
says_step rule set role ds qs seat (Start c) follow says step open_names =
    quiet_says rule set role ds qs follow says (deed_of set ds seat (Start c)) refl (λ k. record { items = refl; ends = refl; finishes = refl; replaces = refl })
says_step rule set role ds qs seat (Finish c a) follow says step open_names =
    finish_says rule set role ds qs follow says seat c a step (running rule set role ds qs follow c step.0)
says_step rule set role ds qs seat (Tick t) follow says step open_names =
    quiet_says rule set role ds qs follow says (deed_of set ds seat (Tick t)) refl (λ k. record { items = refl; ends = refl; finishes = refl; replaces = refl })
says_step rule set role ds qs seat Flush follow says step open_names =
    quiet_says rule set role ds qs follow says (deed_of set ds seat Flush) refl (λ k. record { items = refl; ends = refl; finishes = refl; replaces = refl })
says_step rule set role ds qs seat EndIn follow says step open_names =
    quiet_says rule set role ds qs follow says (deed_of set ds seat EndIn) refl (λ k. record { items = refl; ends = refl; finishes = refl; replaces = refl })
says_step rule set role ds qs seat _ follow says step open_names = absurd step

pub says_nothing : (rule : HandlerRule) (set : Setting) → Says rule set [] []
says_nothing rule set = record { items = λ c. at c (call_at [] c); ends = λ c. ends_at c (call_at [] c); replies_are = refl }
  where
    at : (c : ℕ) (o : Option Opening) → [] ≡ said_of rule set c o []
    at c None = refl
    at c (Some o) = refl

    ends_at : (c : ℕ) (o : Option Opening) → [] ≡ ends_said_of rule set c o []
    ends_at c None = refl
    ends_at c (Some o) = refl
