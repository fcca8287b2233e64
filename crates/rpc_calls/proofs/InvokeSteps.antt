-- A table over a client's call that opens.
use Rattle.std.proofs.Common.{◌≡◌, ℕ, ◌+◌, ◌<◌, ◌≤◌, ◌^◌, List, [], ◌∷◌, ◌++◌, length, Option, None, Some, Ok, refl, ap, sym, ◌∙◌, subst, length-append}
use Rattle.std.specs.VecDeque.{deque_capacity}
use Rattle.rpc_ids.specs.declared.method.MethodRef.{MethodRef}
use Rattle.rpc_packet.specs.declared.call_name.CallName.{CallName}
use Rattle.rpc_packet.specs.declared.owned.Packet.{Packet}
use Rattle.rpc_packet.specs.declared.packet_type.PacketType.TheVariants.{Request}
use Rattle.rpc_handlers.specs.declared.event.Memo.{Memo}
use Rattle.rpc_handlers.specs.HandlerRule.{HandlerRule}
use Rattle.rpc_journal.specs.declared.table.call_state.CallState.{CallState}
use Rattle.rpc_journal.specs.declared.table.call_states.CallStates.{CallStates}
use Rattle.rpc_journal.specs.declared.entry.EntryKind.TheVariants.{Invoke}
use Rattle.rpc_journal.specs.declared.item.Item.{Item}
use Rattle.rpc_journal.specs.declared.setting.Setting.{Setting}
use Rattle.rpc_journal.specs.Calls.{call_count}
use Rattle.rpc_journal.specs.ChangeLaws.{KeepsLegal}
use Rattle.rpc_journal.specs.Changes.{InvokeDid, request}
use Rattle.rpc_journal.specs.Conditions.{CanInvoke}
use Rattle.rpc_journal.specs.Effect.{Deed, Effect, Opening}
use Rattle.rpc_journal.specs.Entries.{invoke_effect}
use Rattle.rpc_journal.specs.History.{history, adding, deed_by}
use Rattle.rpc_journal.specs.table.Newest.{IsNamed}
use Rattle.rpc_journal.specs.Recorded.{Recorded}
use Rattle.rpc_journal.specs.Refusals.{invoke_refusal}
use Rattle.rpc_journal.specs.Rows.{method_named, packet_item}
use Rattle.rpc_journal.specs.table.Agrees.{AgreesOnCalls}
use Rattle.rpc_journal.specs.table.Touch.{IsInvoked, IsOpened}
use Rattle.rpc_journal.proofs.table.DeedLemmas.{invoke_touches, invoked_effect}
use Rattle.rpc_journal.proofs.LegalLemmas.{keeps_legal}
use Rattle.rpc_journal.proofs.table.NewestLemmas.{newest_opened}
use Rattle.rpc_journal.proofs.PlaceLemmas.{some_same}
use Rattle.rpc_calls.specs.Room.{uncancelled, running, items_owed, HasPlaces}
use Rattle.rpc_calls.specs.TableHolds.{StandsFor, IsTable}
use Rattle.rpc_calls.proofs.CalmSteps.{TouchesCalmly, untouching, table_after}
use Rattle.rpc_calls.proofs.OpenSteps.{IsOpeningEntry, Opens, stands_opened, room_opened}
use Rattle.rpc_calls.proofs.OpenTables.{named_so}

abbrev pub invoked_opening : CallName → MethodRef → Memo → Opening
invoked_opening name m memo = record { name = name; method = m; given = Some memo }

invoke_opens : (seat : ℕ) (p : Packet) (memo : Memo) (e : Effect) → IsOpeningEntry seat (Invoke p memo) e
invoke_opens seat p memo e = record { entry = record { flushes_none = refl; goes_on = refl; unhalted = refl; unclosed = refl }; unreplaced = λ k. refl }

-- no event waits for it, wherever its entry stands
opened_at : (at : ℕ) (name : CallName) (m : MethodRef) (x : CallState) → IsInvoked name m x → IsOpened at name m [] x
opened_at at name m x is = record {
  name = is.name;
  of_method = is.of_method;
  unended = is.unended;
  uncancelled = is.uncancelled;
  uncompleted = is.uncompleted;
  undone = is.undone;
  idle = is.idle;
  took_none = is.took_none;
  waiting = is.waiting;
}

opens_invoked : (ds : List Deed) (seat : ℕ) (p : Packet) (memo : Memo) (m : MethodRef) (states : List CallState) (x : CallState) → AgreesOnCalls ds states
    → p.ptype ≡ Request → IsInvoked p.name m x
    → Opens ds (deed_by seat (Invoke p memo) (invoked_effect (call_count ds) p memo m)) (invoked_opening p.name m memo) [] states states x
opens_invoked ds seat p memo m states x agrees asks is = record {
  opens = refl;
  newest = invoke_touches seat (call_count ds) (call_count ds) p memo m asks;
  beyond = λ k past. invoke_touches seat (call_count ds) k p memo m asks;
  many = refl;
  calm = λ k r y was there.
      let same : r ≡ y = some_same r y (sym was ∙ there) in
      subst (λ z. TouchesCalmly ds (deed_by seat (Invoke p memo) (invoked_effect (call_count ds) p memo m)) k r z) same
      (untouching ds _ k r (invoke_touches seat (call_count ds) k p memo m asks));
  incomplete = refl;
  fresh = opened_at (length ds) p.name m x is;
}

module _ {H : Type 0} (now : H → Memo) (can_act : H → Type 0) (rule : HandlerRule) (set : Setting) where
  pub record Invokes (recorded after : Recorded) (seat : ℕ) (name : CallName) (payload : List ℕ) (memo : Memo) (call : ℕ) (later : CallStates) (left : List (Option H)) (items' : List Item) (capacity : ℕ) : Type 0 where
    pub table : IsTable now can_act rule set after later left items' capacity
    pub did : InvokeDid {H = H} set seat name payload memo (Ok call) recorded.entries after.entries

  pub table_invoked : (recorded after : Recorded) (seat call : ℕ) (name : CallName) (payload : List ℕ) (memo : Memo) (m : MethodRef) (x : CallState) (h : H) (states later : CallStates) (handlers left : List (Option H)) (items items' : List Item) (capacity capacity' spare : ℕ)
      → IsTable now can_act rule set recorded states handlers items capacity → CanInvoke set name payload → invoke_refusal set recorded.entries name ≡ None
      → method_named set name ≡ Some m → IsInvoked name m x → length x.waiting.items < deque_capacity x.waiting → length states.calls.items + 1 < 2 ^ 32
      → can_act h → memo ≡ now h → call ≡ length states.calls.items
      → later.calls.items ≡ states.calls.items ++ x ∷ [] → IsNamed x.name (length states.calls.items) states.newest later.newest
      → later.unflushed ≡ length items' → later.input_ended ≡ states.input_ended → later.halted ≡ states.halted → later.closed.items ≡ states.closed.items
      → left ≡ handlers ++ Some h ∷ [] → items' ≡ items ++ packet_item call (request name payload) ∷ []
      → after.entries ≡ adding recorded.entries seat (Invoke (request name payload) memo) → after.spare + 1 ≡ spare
      → length items + items_owed states.calls.items + 3 ≤ capacity'
      → length items + items_owed states.calls.items + 3 + (uncancelled states.calls.items + running states.calls.items + 2) + 2 ≤ spare
      → Invokes recorded after seat name payload memo call later left items' capacity'
  table_invoked recorded after seat call name payload memo m x h states later handlers left items items' capacity capacity' spare is can unrefused named invoked own few able state call_is grown newest counted input halt chans kept says adds spent places records =
      let ds : List Deed = history set recorded.entries in
      let p : Packet = request name payload in
      let e : Effect = invoked_effect (call_count ds) p memo m in
      let number : call ≡ call_count ds = call_is ∙ is.stands.agrees.calls.many in
      let opens = opens_invoked ds seat p memo m states.calls.items x is.stands.agrees.calls refl invoked in
      let did : InvokeDid {H = H} set seat name payload memo (Ok call) recorded.entries after.entries =
      record { unrefused = unrefused; answer = number; adds = adds; cause = tt; kept = tt } in
      let laws : KeepsLegal H (Unit {0}) = keeps_legal in
      record {
        table = table_after now can_act rule set recorded after seat (Invoke p memo) later left items' capacity' adds
            (laws.invoke rule set seat name payload memo (Ok call) recorded.entries after.entries is.legal can did)
            (subst (λ (found : Option MethodRef). StandsFor now can_act rule set (deed_by seat (Invoke p memo) (invoke_effect ds p memo found) ∷ ds) later left items') (sym named)
            (subst (λ hs. StandsFor now can_act rule set (deed_by seat (Invoke p memo) e ∷ ds) later hs items') (sym kept)
            (stands_opened now can_act rule set ds seat (Invoke p memo) e (invoked_opening name m memo) [] states later states.calls.items x h handlers items items' is.stands
            (invoke_opens seat p memo e) opens able (sym state) grown
            (record { says = says ∙ ap (λ n. items ++ packet_item n p ∷ []) number; unflushed = counted; input = input; halt = halt; closed = chans })
            (newest_opened ds (deed_by seat (Invoke p memo) e) (invoked_opening name m memo) name (call_count ds) states.newest later.newest is.stands.agrees.newest refl refl refl
            (named_so name x.name (call_count ds) (length states.calls.items) states.newest later.newest invoked.name is.stands.agrees.calls.many newest)))))
            (room_opened states later states.calls.items x items items' 1 after.spare capacity' refl refl invoked.uncancelled invoked.idle grown
            (ap length says ∙ length-append items (packet_item call p ∷ []))
            (subst (λ b. HasPlaces states.calls.items b) (sym input) is.room.places) own few places
            (subst (λ k. length items + items_owed states.calls.items + 3 + (uncancelled states.calls.items + running states.calls.items + 2) + 2 ≤ k) (sym spent) records));
        did = did;
      }
