-- What a run of a call and a Flush do to the account.
use Rattle.std.proofs.Common.{◌≡◌, ℕ, ◌+◌, ◌≤◌, Bool, true, false, List, [], ◌∷◌, ◌++◌, length, map, flat_map, slice_get, Option, Some, None, is_some, if◌then◌else◌, refl, ap, sym, ◌∙◌, subst, arith, length-append}
use Rattle.std.proofs.lemmas.Bool.{false≢true, eqb-true, eq-eqb}
use Rattle.std.proofs.lemmas.List.{append-nil}
use Rattle.std.proofs.lemmas.Option.{slice_get_within}
use Rattle.rpc_ids.specs.declared.method.Role.{Role}
use Rattle.rpc_ids.specs.declared.method.Role.TheVariants.{Server}
use Rattle.rpc_packet.specs.declared.call_name.CallName.{CallName}
use Rattle.rpc_handlers.specs.declared.answer.Answer.{Answer}
use Rattle.rpc_handlers.specs.declared.answer.End.{End}
use Rattle.rpc_handlers.specs.declared.answer.Out.{Out}
use Rattle.rpc_handlers.specs.declared.answer.Out.TheVariants.{Say, Begin, Append, Commit, Leave}
use Rattle.rpc_handlers.specs.declared.event.Event.{Event}
use Rattle.rpc_journal.specs.declared.entry.EntryKind.TheVariants.{Start, Finish, Flush}
use Rattle.rpc_journal.specs.declared.item.Item.{Item}
use Rattle.rpc_journal.specs.declared.setting.Setting.{Setting}
use Rattle.rpc_journal.specs.Calls.{call_at, calls, is_cancelled, is_start_of, of_call}
use Rattle.rpc_journal.specs.Effect.{Deed, Effect, Opening}
use Rattle.rpc_journal.specs.Entries.{answer_item, answered, end_effect, finish_effect, is_heard, messages_go}
use Rattle.rpc_journal.specs.History.{entry_by, deeds_with}
use Rattle.rpc_journal.specs.Items.{flush_count, is_done, is_ready, items_sent}
use Rattle.rpc_journal.specs.Kinds.{is_empty}
use Rattle.rpc_journal.specs.Queues.{taken_event, waiting_of}
use Rattle.rpc_journal.specs.Rows.{no_effect}
use Rattle.rpc_schedule.specs.Schedule.{flush_seat, next_item, run_seat}
use Rattle.history_laws.specs.sizes.Size.{answer_items}
use Rattle.history_laws.proofs.sizes.Books.{Books}
use Rattle.history_laws.proofs.sizes.CostLemmas.{cost, cost-append, cost-taking, cost-without}
use Rattle.rpc_schedule.proofs.PendingLemmas.{pending_after, pending_step, some_waits, taking, without}

-- the effect opens no call, puts no event, and adds at most so many items
record AddsItems (n : ℕ) (effect : Effect) : Type 0 where
  no_call : effect.opens ≡ None
  no_event : effect.puts ≡ []
  items : length effect.says ≤ n

item_one : (c : ℕ) (name : CallName) (says : Bool) (out : Out) → length (answer_item Server c name says out) ≤ 1
item_one c name true (Say payload) = omega arith
item_one c name false (Say payload) = omega arith
item_one c name says (Begin session resource offset) = omega arith
item_one c name says (Append session bytes) = omega arith
item_one c name says (Commit session) = omega arith
item_one c name says (Leave session) = omega arith

items_each : (c : ℕ) (name : CallName) (says : Bool) (outs : List Out) → length (flat_map (answer_item Server c name says) outs) ≤ length outs
items_each c name says [] = omega arith
items_each c name says (out ∷ outs) =
    omega (
      arith,
      items_each c name says outs,
      item_one c name says out,
      length-append (answer_item Server c name says out) (flat_map (answer_item Server c name says) outs),
    )

-- an answer, where its call was not cancelled
answered_adds : (c : ℕ) (o : Opening) (heard done : Bool) (outs : List Out) (end : Option End)
    → AddsItems (length outs + (if is_some end then 1 else 0)) (answered Server c o heard done (record { items = outs; end = end }))
answered_adds c o false done outs end = record {
  no_call = refl;
  no_event = refl;
  items =
      omega (
        arith,
        items_each c o.name (messages_go Server o.method.kind false done) outs,
        length-append (flat_map (answer_item Server c o.name (messages_go Server o.method.kind false done)) outs) [],
      );
}
answered_adds c o true done outs None = record {
  no_call = refl;
  no_event = refl;
  items =
      omega (
        arith,
        items_each c o.name (messages_go Server o.method.kind true done) outs,
        length-append (flat_map (answer_item Server c o.name (messages_go Server o.method.kind true done)) outs) [],
      );
}
answered_adds c o true done outs (Some end) = record {
  no_call = refl;
  no_event = refl;
  items =
      omega (
        arith,
        items_each c o.name (messages_go Server o.method.kind true done) outs,
        length-append (flat_map (answer_item Server c o.name (messages_go Server o.method.kind true done)) outs)
            (end_effect Server c o.name o.method.kind done (Some end)).says,
      );
}

finish_adds : (set : Setting) (ds : List Deed) (c : ℕ) (a : Answer) (o : Option Opening) → set.role ≡ Server → is_cancelled ds c ≡ false
    → AddsItems (answer_items a) (finish_effect set ds c a o)
finish_adds set ds c a None role uncancelled = record { no_call = refl; no_event = refl; items = omega arith }
finish_adds set ds c a (Some o) role uncancelled =
    rw uncancelled
    (subst (λ (r : Role). AddsItems (answer_items a) (answered r c o (is_heard ds c) (is_done ds c) a)) (sym role)
    (answered_adds c o (is_heard ds c) (is_done ds c) a.items a.end))

-- a Finish opens no call
pub finish_opens_none : (set : Setting) (ds : List Deed) (c : ℕ) (a : Answer) → set.role ≡ Server → is_cancelled ds c ≡ false
    → (finish_effect set ds c a (call_at ds c)).opens ≡ None
finish_opens_none set ds c a role uncancelled = (finish_adds set ds c a (call_at ds c) role uncancelled).no_call

-- the event that a Start of c takes is the first that waits for c
start_takes : (set : Setting) (ds : List Deed) (c : ℕ) (waiting : List (ℕ × Event)) → of_call c waiting ≡ map (λ w. w.event) (waiting_of ds c)
    → taken_event (deeds_with set ds (entry_by run_seat (Start c))) c ≡ slice_get (of_call c waiting) 0
start_takes set ds c waiting same =
    let own : is_start_of c (Start c) ≡ true = eq-eqb c c refl in rw own (ap (λ es. slice_get es 0) (sym same))

module _ (most : Event → ℕ) (owed : List Opening → ℕ) (set : Setting) (budget : ℕ) (ds : List Deed) (books : Books most owed budget ds) where
  -- call c ran, and took this event
  pub ran : (c : ℕ) (a : Answer) (event : Event) → set.role ≡ Server → is_ready ds c ≡ true
      → taken_event (deeds_with set ds (entry_by run_seat (Start c))) c ≡ Some event → answer_items a ≤ most event
      → Books most owed budget (deeds_with set (deeds_with set ds (entry_by run_seat (Start c))) (entry_by run_seat (Finish c a)))
  ran c a event role ready took few =
      let start : Deed = record { entry = entry_by run_seat (Start c); does = no_effect } in
      let middle : List Deed = start ∷ ds in
      let effect : Effect = finish_effect set middle c a (call_at middle c) in
      let finish : Deed = record { entry = entry_by run_seat (Finish c a); does = effect } in
      let adds = finish_adds set middle c a (call_at middle c) role (books.uncancelled c) in
      let begun : List (ℕ × Event) = pending_after start books.waiting in
      let first : slice_get (of_call c books.waiting) 0 ≡ Some event = sym (start_takes set ds c books.waiting (books.tells.same c)) ∙ took in
      let same_calls : calls (finish ∷ middle) ≡ calls ds = rw (adds.no_call) (append-nil _ ∙ append-nil (calls ds)) in
      let sent : length (items_sent (finish ∷ middle)) ≡ length (items_sent ds) + length effect.says =
      length-append (items_sent ds ++ []) effect.says ∙ ap (λ n. n + length effect.says) (ap length (append-nil (items_sent ds))) in
      let started : cost most begun ≤ cost most (taking c books.waiting) =
      omega (arith, cost-append most (without [] (taking c books.waiting)) [], cost-without most [] (taking c books.waiting)) in
      let ended : cost most (pending_after finish begun) ≤ cost most begun =
      rw (adds.no_event) (omega (arith, cost-append most (without effect.drops begun) [], cost-without most effect.drops begun)) in
      record {
        waiting = pending_after finish begun;
        tells =
            pending_step middle finish begun
            (pending_step ds start books.waiting books.tells (λ k starts. subst (λ x. is_empty (waiting_of ds x) ≡ false) (eqb-true c k starts) (some_waits ds c ready)))
            (λ k starts. absurd (false≢true starts));
        uncancelled = books.uncancelled;
        flushed = omega (arith, books.flushed, sent);
        within =
            omega (arith, books.within, few, adds.items, sent, started, ended, ap owed same_calls, cost-taking most c event books.waiting first);
      }

  -- an item that waited was flushed
  pub flushed_one : (item : Item) → next_item ds ≡ Some item → Books most owed budget (deeds_with set ds (entry_by flush_seat Flush))
  flushed_one item waits =
      let d : Deed = record { entry = entry_by flush_seat Flush; does = no_effect } in
      let below = slice_get_within (items_sent ds) (flush_count ds) item waits in
      let sent : length (items_sent ds ++ []) ≡ length (items_sent ds) = ap length (append-nil (items_sent ds)) in
      record {
        waiting = pending_after d books.waiting;
        tells = pending_step ds d books.waiting books.tells (λ c starts. absurd (false≢true starts));
        uncancelled = books.uncancelled;
        flushed = omega (arith, below, sent);
        within =
            omega (arith, books.within, sent, ap owed (append-nil (calls ds)), cost-append most (without [] books.waiting) [], cost-without most [] books.waiting);
      }
