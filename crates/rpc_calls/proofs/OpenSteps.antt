-- What a table stands for, over an entry that opens a call.
use Rattle.std.proofs.Common.{◌≡◌, ◌⊎◌, inl, inr, ℕ, ◌+◌, ◌<◌, ◌≤◌, ◌^◌, true, false, not, ◌==◌, List, [], ◌∷◌, ◌++◌, length, slice_get, Option, Some, None, is_some, option_to_list, refl, ap, sym, ◌∙◌, subst, arith, eq-eqb, ne_eqb, length-append}
use Rattle.std.proofs.lemmas.Option.{slice_get_within}
use Rattle.std.specs.List.{list_any}
use Rattle.std.specs.VecDeque.{deque_capacity}
use Rattle.rpc_handlers.specs.declared.event.Event.{Event}
use Rattle.rpc_handlers.specs.declared.event.Memo.{Memo}
use Rattle.rpc_handlers.specs.HandlerRule.{HandlerRule}
use Rattle.rpc_journal.specs.declared.table.call_state.CallState.{CallState}
use Rattle.rpc_journal.specs.declared.table.call_states.CallStates.{CallStates}
use Rattle.rpc_journal.specs.declared.entry.EntryKind.{EntryKind}
use Rattle.rpc_journal.specs.declared.item.Item.{Item}
use Rattle.rpc_journal.specs.declared.setting.Setting.{Setting}
use Rattle.rpc_journal.specs.Calls.{calls, call_count, call_at, is_replace_of, is_start_of, is_finish_of, runner_of}
use Rattle.rpc_journal.specs.Effect.{Effect, Opening, Deed}
use Rattle.rpc_journal.specs.States.{opened_state, opens_call, state_of}
use Rattle.rpc_journal.specs.Queues.{is_completion}
use Rattle.rpc_journal.specs.table.Newest.{AreNewest}
use Rattle.rpc_journal.specs.table.Agrees.{AgreesOnCalls}
use Rattle.rpc_journal.specs.table.Touch.{Touches, IsOpened, untouched}
use Rattle.rpc_journal.specs.History.{deed_by}
use Rattle.rpc_journal.proofs.PlaceLemmas.{get_front, get_last, get_some, below_or_not, some_same}
use Rattle.rpc_journal.proofs.table.RoomLemmas.{opened_agrees}
use Rattle.rpc_journal.proofs.table.StepLemmas.{one_opens, same_at}
use Rattle.rpc_journal.proofs.table.AgreeLemmas.{agrees_touched}
use Rattle.rpc_calls.specs.Marks.{one_if}
use Rattle.rpc_calls.specs.Handlers.{Keeps}
use Rattle.rpc_calls.specs.Room.{uncancelled, running, items_owed, HasPlaces}
use Rattle.rpc_calls.specs.TableHolds.{StandsFor, HasAllRoom}
use Rattle.rpc_calls.proofs.CalmSteps.{TouchesCalmly}
use Rattle.rpc_calls.proofs.CallSteps.{GrowsBy, IsCallEntry, agrees_grown}
use Rattle.rpc_calls.proofs.PlaceChanges.{count-push}
use Rattle.rpc_calls.proofs.StepLemmas.{keeps_calm, runner_same, start_none}
use Rattle.rpc_calls.proofs.TouchTables.{at_most_one}

-- the deed opens this call, for which these events wait, and does to the others what the states between show
pub record Opens (ds : List Deed) (d : Deed) (o : Opening) (events : List Event) (states mid : List CallState) (x : CallState) : Type 0 where
  pub opens : d.does.opens ≡ Some o
  pub newest : Touches d (call_count ds) (record untouched { puts = events })
  pub beyond : (k : ℕ) → call_count ds < k → Touches d k untouched
  pub many : length mid ≡ length states
  pub calm : (k : ℕ) (r y : CallState) → slice_get states k ≡ Some r → slice_get mid k ≡ Some y → TouchesCalmly ds d k r y
  pub incomplete : list_any is_completion events ≡ false
  pub fresh : IsOpened (length ds) o.name o.method events x

pub opened_calls : (ds : List Deed) (d : Deed) (o : Opening) (events : List Event) (states mid : List CallState) (x : CallState) → AgreesOnCalls ds states
    → Opens ds d o events states mid x → AgreesOnCalls (d ∷ ds) (mid ++ x ∷ [])
opened_calls ds d o events states mid x agrees opens =
    one_opens ds d states mid o x agrees
    (record {
      many = opens.many ∙ agrees.many;
      each = λ k y there.
          let within : k < length mid = slice_get_within mid k y there in
          let row = get_some states k (omega (arith, within, opens.many)) in
          let it = opens.calm k row.0 y row.1 there in
          agrees_touched ds d k it.touch row.0 y (agrees.each k row.0 row.1) it.does it.is (same_at ds d k (omega (arith, within, opens.many, agrees.many)));
    })
    opens.opens (opened_agrees ds d (call_count ds) o.name o.method o.given events x (agrees.beyond (call_count ds) (omega arith)) opens.newest at opens.incomplete opens.fresh) opens.beyond
  where
    at : call_at (d ∷ ds) (call_count ds) ≡ Some o
    at = ap (λ q. slice_get (calls ds ++ option_to_list q) (call_count ds)) opens.opens ∙ get_last (calls ds) o

-- the entry opens a call, and does nothing else than what its effect says
pub record IsOpeningEntry (seat : ℕ) (kind : EntryKind) (e : Effect) : Type 0 where
  pub entry : IsCallEntry (deed_by seat kind e)
  pub unreplaced : (k : ℕ) → is_replace_of k kind ≡ false

module _ {H : Type 0} (now : H → Memo) (can_act : H → Type 0) (rule : HandlerRule) (set : Setting) where
  -- the new call has its handler, in the first state
  newest_keeps : (ds : List Deed) (seat : ℕ) (kind : EntryKind) (e : Effect) (o : Opening) (events : List Event) (states mid : List CallState) (x : CallState) (h : H) → AgreesOnCalls ds states
      → IsOpeningEntry seat kind e → Opens ds (deed_by seat kind e) o events states mid x → can_act h → now h ≡ opened_state rule set o
      → Keeps now can_act rule set (deed_by seat kind e ∷ ds) (call_count ds) (runner_of (deed_by seat kind e ∷ ds) (call_count ds)) (Some h)
  newest_keeps ds seat kind e o events states mid x h agrees plain opens able first =
      let d : Deed = deed_by seat kind e in
      let n : ℕ = call_count ds in
      let start : is_start_of n kind ≡ false = start_none _ seat opens.newest.starts in
      let finish : is_finish_of n kind ≡ false = opens.newest.finishes in
      let idle : runner_of (d ∷ ds) n ≡ None = runner_same ds d n start finish ∙ (agrees.beyond n (omega arith)).idle in
      let own : opens_call ds d n ≡ true = rw (opens.opens, eq-eqb n n refl) refl in
      let state : state_of rule set (d ∷ ds) n ≡ Some (opened_state rule set o) = rw (plain.unreplaced n, own, opens.opens) refl in
      subst (λ r. Keeps now can_act rule set (d ∷ ds) n r (Some h)) (sym idle)
      (record { able = able; state = λ ruled. state ∙ ap Some (sym first) })

  pub stands_opened : (ds : List Deed) (seat : ℕ) (kind : EntryKind) (e : Effect) (o : Opening) (events : List Event) (states after : CallStates) (mid : List CallState) (x : CallState) (h : H) (handlers : List (Option H)) (items items' : List Item)
      → StandsFor now can_act rule set ds states handlers items → IsOpeningEntry seat kind e → Opens ds (deed_by seat kind e) o events states.calls.items mid x
      → can_act h → now h ≡ opened_state rule set o → after.calls.items ≡ mid ++ x ∷ [] → GrowsBy (deed_by seat kind e) states after items items' → AreNewest (deed_by seat kind e ∷ ds) after.newest
      → StandsFor now can_act rule set (deed_by seat kind e ∷ ds) after (handlers ++ Some h ∷ []) items'
  stands_opened ds seat kind e o events states after mid x h handlers items items' stands plain opens able first is grows newest =
      let d : Deed = deed_by seat kind e in
      let calls' : AgreesOnCalls (d ∷ ds) (mid ++ x ∷ []) = opened_calls ds d o events states.calls.items mid x stands.agrees.calls opens in
      let grown = agrees_grown ds d states after items items' stands.agrees stands.queue plain.entry grows (subst (AgreesOnCalls (d ∷ ds)) (sym is) calls') newest in
      let more : call_count (d ∷ ds) ≡ call_count ds + 1 =
      ap (λ q. length (calls ds ++ option_to_list q)) opens.opens ∙ length-append (calls ds) (o ∷ []) in
      record {
        agrees = grown.0;
        keeps = record {
          many = length-append handlers (Some h ∷ []) ∙ ap (λ n. n + 1) stands.keeps.many ∙ sym more;
          each = λ k slot there. at calls' k slot there (below_or_not k (length handlers));
        };
        queue = grown.1;
      }
    where
      at : AgreesOnCalls (deed_by seat kind e ∷ ds) (mid ++ x ∷ []) → (k : ℕ) (slot : Option H) → slice_get (handlers ++ Some h ∷ []) k ≡ Some slot → (k < length handlers) ⊎ (length handlers ≤ k)
          → Keeps now can_act rule set (deed_by seat kind e ∷ ds) k (runner_of (deed_by seat kind e ∷ ds) k) slot
      at calls' k slot there (inl within) =
          let d : Deed = deed_by seat kind e in
          let old : slice_get handlers k ≡ Some slot = sym (get_front handlers (Some h ∷ []) k within) ∙ there in
          let row = get_some states.calls.items k (omega (arith, within, stands.keeps.many, stands.agrees.calls.many)) in
          let it = get_some mid k (omega (arith, within, stands.keeps.many, stands.agrees.calls.many, opens.many)) in
          let inside : k < length mid = slice_get_within mid k it.0 it.1 in
          let touch = opens.calm k row.0 it.0 row.1 it.1 in
          let other : (call_count ds == k) ≡ false = ne_eqb (call_count ds) k (λ same. absurd (omega (arith, same, within, stands.keeps.many))) in
          let unopened : opens_call ds d k ≡ false = rw (opens.opens, other) refl in
          keeps_calm now can_act rule set ds d k touch.touch row.0 it.0 slot (stands.agrees.calls.each k row.0 row.1)
          (calls'.each k it.0 (get_front mid (x ∷ []) k inside ∙ it.1)) touch.does touch.is touch.calm (plain.unreplaced k) unopened (stands.keeps.each k slot old)
      at calls' k slot there (inr past) =
          let bound : k < length (handlers ++ Some h ∷ []) = slice_get_within (handlers ++ Some h ∷ []) k slot there in
          let same : k ≡ length handlers = omega (arith, past, bound, length-append handlers (Some h ∷ [])) in
          let it : Some h ≡ slot = some_same (Some h) slot (sym (get_last handlers (Some h)) ∙ ap (slice_get (handlers ++ Some h ∷ [])) (sym same) ∙ there) in
          let number : call_count ds ≡ k = sym stands.keeps.many ∙ sym same in
          subst (λ n. Keeps now can_act rule set (deed_by seat kind e ∷ ds) n (runner_of (deed_by seat kind e ∷ ds) n) slot) number
          (subst (λ s. Keeps now can_act rule set (deed_by seat kind e ∷ ds) (call_count ds) (runner_of (deed_by seat kind e ∷ ds) (call_count ds)) s) it
          (newest_keeps ds seat kind e o events states.calls.items mid x h stands.agrees.calls plain opens able first))

-- the room after an opening that adds n items
pub room_opened : (states after : CallStates) (mid : List CallState) (x : CallState) (items items' : List Item) (n spare' capacity' : ℕ)
    → uncancelled mid ≡ uncancelled states.calls.items → running mid ≡ running states.calls.items → x.cancelled ≡ false → x.run ≡ None
    → after.calls.items ≡ mid ++ x ∷ [] → length items' ≡ length items + n → HasPlaces mid after.input_ended → length x.waiting.items < deque_capacity x.waiting
    → length mid + 1 < 2 ^ 32
    → length items + items_owed states.calls.items + (2 + n) ≤ capacity'
    → length items + items_owed states.calls.items + (2 + n) + (uncancelled states.calls.items + running states.calls.items + 2) + 2 ≤ spare' + 1
    → HasAllRoom after items' spare' capacity'
room_opened states after mid x items items' n spare' capacity' same_open same_busy fresh idle is many free own few places records =
    let open_now : uncancelled after.calls.items ≡ uncancelled states.calls.items + 1 =
    ap uncancelled is ∙ count-push (λ y. not y.cancelled) mid x ∙ ap (λ n. n + one_if (not x.cancelled)) same_open ∙ ap (λ b. uncancelled states.calls.items + one_if (not b)) fresh in
    let busy_now : running after.calls.items ≡ running states.calls.items =
    ap running is ∙ count-push (λ y. is_some y.run) mid x ∙ (omega (arith, same_busy, ap (λ o. one_if (is_some o)) idle)) in
    record {
      room = record {
        items_fit = omega (arith, places, open_now, busy_now, many);
        entries_fit = omega (arith, records, open_now, busy_now, many, at_most_one after.input_ended, at_most_one (is_some after.halted));
      };
      places = record {
        one = λ k y there. one k y (subst (λ ys. slice_get ys k ≡ Some y) is there) (below_or_not k (length mid));
        free = λ k y there unended input. place k y (subst (λ ys. slice_get ys k ≡ Some y) is there) unended input (below_or_not k (length mid));
      };
      few = omega (arith, few, ap length is, length-append mid (x ∷ []));
    }
  where
    last : (k : ℕ) (y : CallState) → slice_get (mid ++ x ∷ []) k ≡ Some y → length mid ≤ k → x ≡ y
    last k y there past =
        let bound : k < length (mid ++ x ∷ []) = slice_get_within (mid ++ x ∷ []) k y there in
        let same : k ≡ length mid = omega (arith, past, bound, length-append mid (x ∷ [])) in
        some_same x y (sym (get_last mid x) ∙ ap (slice_get (mid ++ x ∷ [])) (sym same) ∙ there)

    one : (k : ℕ) (y : CallState) → slice_get (mid ++ x ∷ []) k ≡ Some y → (k < length mid) ⊎ (length mid ≤ k) → 0 < deque_capacity y.waiting
    one k y there (inl within) = free.one k y (sym (get_front mid (x ∷ []) k within) ∙ there)
    one k y there (inr past) = subst (λ z. 0 < deque_capacity z.waiting) (last k y there past) (omega (arith, own))

    place : (k : ℕ) (y : CallState) → slice_get (mid ++ x ∷ []) k ≡ Some y → y.status ≡ None → after.input_ended ≡ false → (k < length mid) ⊎ (length mid ≤ k)
        → length y.waiting.items < deque_capacity y.waiting
    place k y there unended input (inl within) = free.free k y (sym (get_front mid (x ∷ []) k within) ∙ there) unended input
    place k y there unended input (inr past) = subst (λ z. length z.waiting.items < deque_capacity z.waiting) (last k y there past) own
