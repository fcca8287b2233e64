-- A table over a message, a store action, or the end of a client's stream.
use Rattle.std.proofs.Common.{◌≡◌, ℕ, ◌+◌, ◌≤◌, List, [], ◌∷◌, ◌++◌, length, slice_get, Option, None, Some, Ok, refl, ap, sym, ◌∙◌, subst, arith, length-append}
use Rattle.std.proofs.lemmas.Bool.{true≢false}
use Rattle.std.proofs.lemmas.Option.{slice_get_within}
use Rattle.rpc_ids.specs.declared.status.Status.TheVariants.{Okay}
use Rattle.rpc_packet.specs.declared.packet_type.PacketType.TheVariants.{Completion}
use Rattle.rpc_handlers.specs.declared.answer.Out.{Out}
use Rattle.rpc_handlers.specs.declared.event.Memo.{Memo}
use Rattle.rpc_handlers.specs.HandlerRule.{HandlerRule}
use Rattle.rpc_journal.specs.declared.table.call_state.CallState.{CallState}
use Rattle.rpc_journal.specs.declared.table.call_states.CallStates.{CallStates}
use Rattle.rpc_journal.specs.declared.entry.EntryKind.TheVariants.{Done, Say}
use Rattle.rpc_journal.specs.declared.item.Item.{Item}
use Rattle.rpc_journal.specs.declared.setting.Setting.{Setting}
use Rattle.rpc_journal.specs.ChangeLaws.{KeepsLegal}
use Rattle.rpc_journal.specs.Changes.{DoneDid, SayDid}
use Rattle.rpc_journal.specs.Conditions.{CanComplete, CanSay}
use Rattle.rpc_journal.specs.Effect.{Effect, Deed}
use Rattle.rpc_journal.specs.Entries.{out_item}
use Rattle.rpc_journal.specs.History.{history, adding, deed_by}
use Rattle.rpc_journal.specs.Recorded.{Recorded}
use Rattle.rpc_journal.specs.Refusals.{done_refusal, say_refusal}
use Rattle.rpc_journal.specs.Rows.{packet_item, status_packet}
use Rattle.rpc_journal.specs.table.Agrees.{AgreesOn}
use Rattle.rpc_journal.specs.table.Touch.{completing, untouched}
use Rattle.rpc_journal.specs.table.Turns.{Turns}
use Rattle.rpc_journal.proofs.table.DeedLemmas.{idle_touches}
use Rattle.rpc_journal.proofs.table.FinishLemmas.{done_effect, done_one, say_effect, say_one}
use Rattle.rpc_journal.proofs.LegalLemmas.{keeps_legal}
use Rattle.rpc_journal.proofs.PlaceLemmas.{get_some}
use Rattle.rpc_journal.proofs.table.TableLemmas.{opening_is}
use Rattle.rpc_calls.specs.Places.{ChangesAt}
use Rattle.rpc_calls.specs.Room.{uncancelled, running, items_owed, HasPlaces}
use Rattle.rpc_calls.specs.TableHolds.{IsTable}
use Rattle.rpc_calls.proofs.CallSteps.{IsCallEntry}
use Rattle.rpc_calls.proofs.FinishSteps.{touches_one}
use Rattle.rpc_calls.proofs.OneStep.{TouchesOne, places_one}
use Rattle.rpc_calls.proofs.ReplaceSteps.{unchanged}
use Rattle.rpc_calls.proofs.TouchTables.{table_touched}

say_entry : (seat c : ℕ) (out : Out) (e : Effect) → IsCallEntry (deed_by seat (Say c out) e)
say_entry seat c out e = record { flushes_none = refl; goes_on = refl; unhalted = refl; unclosed = refl }

done_entry : (seat c : ℕ) (e : Effect) → IsCallEntry (deed_by seat (Done c) e)
done_entry seat c e = record { flushes_none = refl; goes_on = refl; unhalted = refl; unclosed = refl }

say_touches : (set : Setting) (ds : List Deed) (seat c : ℕ) (out : Out) (r : CallState) → AgreesOn ds c r
    → TouchesOne (deed_by seat (Say c out) (say_effect set ds c out)) c untouched
say_touches set ds seat c out r agrees =
    let one = say_one set ds seat c out r agrees in
    record {
      here = idle_touches _ c one.idle;
      others = λ k apart. idle_touches _ k one.idle;
      unopened = one.opens;
    }

-- the item that goes out
said_is : (set : Setting) (ds : List Deed) (c : ℕ) (out : Out) (r : CallState) → AgreesOn ds c r
    → (say_effect set ds c out).says ≡ out_item set.role c r.name out ∷ []
said_is set ds c out r agrees =
    let opening = opening_is ds c r agrees in
    rw (opening.1) (ap (λ n. out_item set.role c n out ∷ []) opening.2)

completed_is : (ds : List Deed) (c : ℕ) (r : CallState) → AgreesOn ds c r
    → (done_effect ds c).says ≡ packet_item c (status_packet Completion r.name Okay) ∷ []
completed_is ds c r agrees =
    let opening = opening_is ds c r agrees in
    rw (opening.1) (ap (λ n. packet_item c (status_packet Completion n Okay) ∷ []) opening.2)

module _ {H : Type 0} (now : H → Memo) (can_act : H → Type 0) (rule : HandlerRule) (set : Setting) where
  pub record Says (recorded after : Recorded) (seat c : ℕ) (out : Out) (later : CallStates) (handlers : List (Option H)) (items' : List Item) (capacity : ℕ) : Type 0 where
    pub table : IsTable now can_act rule set after later handlers items' capacity
    pub did : SayDid set seat c out (Ok (record {})) recorded.entries after.entries

  pub table_said : (recorded after : Recorded) (seat c : ℕ) (out : Out) (item : Item) (states later : CallStates) (handlers : List (Option H)) (items items' : List Item) (capacity capacity' spare : ℕ)
      → IsTable now can_act rule set recorded states handlers items capacity → CanSay set recorded.entries c out → say_refusal set recorded.entries c out ≡ None
      → ((r : CallState) → slice_get states.calls.items c ≡ Some r → item ≡ out_item set.role c r.name out)
      → items' ≡ items ++ item ∷ [] → later.calls.items ≡ states.calls.items → later.unflushed ≡ length items'
      → later.input_ended ≡ states.input_ended → later.halted ≡ states.halted → later.newest ≡ states.newest → later.closed.items ≡ states.closed.items
      → after.entries ≡ adding recorded.entries seat (Say c out) → after.spare + 1 ≡ spare
      → length items + items_owed states.calls.items + 1 ≤ capacity'
      → length items + items_owed states.calls.items + 1 + (uncancelled states.calls.items + running states.calls.items + 2) + 1 ≤ spare
      → Says recorded after seat c out later handlers items' capacity'
  table_said recorded after seat c out item states later handlers items items' capacity capacity' spare is can unrefused item_is says same counted input halt newest chans adds spent places records =
      let ds : List Deed = history set recorded.entries in
      let row = get_some states.calls.items c (omega (arith, can.there.below, is.stands.agrees.calls.many)) in
      let agrees = is.stands.agrees.calls.each c row.0 row.1 in
      let did : SayDid set seat c out (Ok (record {})) recorded.entries after.entries =
      record { unrefused = unrefused; answer = tt; adds = adds; cause = tt; kept = tt } in
      let laws : KeepsLegal H (Unit {0}) = keeps_legal in
      record {
        table = table_touched now can_act rule set recorded after seat (Say c out) (say_effect set ds c out) c 1 untouched states later handlers items items' row.0 capacity capacity' spare is refl
            (laws.say rule set seat c out (Ok (record {})) recorded.entries after.entries is.legal can did)
            (say_entry seat c out (say_effect set ds c out)) (λ k. refl) (say_touches set ds seat c out row.0 agrees)
            (say_one set ds seat c out row.0 agrees).many row.1 (record { unstarted = refl; unfinished = refl; put_open = λ h. absurd (true≢false h) }) refl
            (subst (λ cs. ChangesAt c (Turns (length ds) untouched) states.calls.items cs) (sym same) (unchanged (length ds) c states.calls.items))
            counted input halt newest chans
            (subst (λ b. HasPlaces later.calls.items b) (sym input) (subst (λ cs. HasPlaces cs states.input_ended) (sym same) is.room.places))
            (says ∙ ap (λ i. items ++ i ∷ []) (item_is row.0 row.1) ∙ ap (λ xs. items ++ xs) (sym (said_is set ds c out row.0 agrees)))
            adds spent places records;
        did = did;
      }

  pub record Completes (recorded after : Recorded) (seat c : ℕ) (later : CallStates) (handlers : List (Option H)) (items' : List Item) (capacity : ℕ) : Type 0 where
    pub table : IsTable now can_act rule set after later handlers items' capacity
    pub did : DoneDid set seat c (Ok (record {})) recorded.entries after.entries

  pub table_completed : (recorded after : Recorded) (seat c : ℕ) (item : Item) (states later : CallStates) (handlers : List (Option H)) (items items' : List Item) (capacity capacity' spare : ℕ)
      → IsTable now can_act rule set recorded states handlers items capacity → CanComplete set recorded.entries c → done_refusal set recorded.entries c ≡ None
      → ((r : CallState) → slice_get states.calls.items c ≡ Some r → item ≡ packet_item c (status_packet Completion r.name Okay))
      → items' ≡ items ++ item ∷ [] → ((at : ℕ) → ChangesAt c (Turns at completing) states.calls.items later.calls.items) → later.unflushed ≡ length items'
      → later.input_ended ≡ states.input_ended → later.halted ≡ states.halted → later.newest ≡ states.newest → later.closed.items ≡ states.closed.items
      → after.entries ≡ adding recorded.entries seat (Done c) → after.spare + 1 ≡ spare
      → length items + items_owed states.calls.items + 1 ≤ capacity'
      → length items + items_owed states.calls.items + 1 + (uncancelled states.calls.items + running states.calls.items + 2) + 1 ≤ spare
      → Completes recorded after seat c later handlers items' capacity'
  table_completed recorded after seat c item states later handlers items items' capacity capacity' spare is can unrefused item_is says changes counted input halt newest chans adds spent places records =
      let ds : List Deed = history set recorded.entries in
      let row = get_some states.calls.items c (omega (arith, can.there.below, is.stands.agrees.calls.many)) in
      let agrees = is.stands.agrees.calls.each c row.0 row.1 in
      let one = done_one ds seat c row.0 agrees in
      let did : DoneDid set seat c (Ok (record {})) recorded.entries after.entries =
      record { unrefused = unrefused; answer = tt; adds = adds; cause = tt; kept = tt } in
      let laws : KeepsLegal H (Unit {0}) = keeps_legal in
      record {
        table = table_touched now can_act rule set recorded after seat (Done c) (done_effect ds c) c 1 completing states later handlers items items' row.0 capacity capacity' spare is refl
            (laws.done rule set seat c (Ok (record {})) recorded.entries after.entries is.legal can did)
            (done_entry seat c (done_effect ds c)) (λ k. refl) (touches_one _ c completing one.touches)
            one.many row.1 (record { unstarted = refl; unfinished = refl; put_open = λ h. absurd (true≢false h) }) refl
            (changes (length ds)) counted input halt newest chans
            (subst (λ b. HasPlaces later.calls.items b) (sym input)
            (places_one 0 completing states.calls.items later.calls.items c states.input_ended (changes 0) (slice_get_within states.calls.items c row.0 row.1)
            (λ q x turn unended. (sym turn.is.status ∙ unended, omega (arith, ap length turn.is.waiting, length-append q.waiting.items []))) is.room.places))
            (says ∙ ap (λ i. items ++ i ∷ []) (item_is row.0 row.1) ∙ ap (λ xs. items ++ xs) (sym (completed_is ds c row.0 agrees)))
            adds spent places records;
        did = did;
      }
