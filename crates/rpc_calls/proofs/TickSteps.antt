-- A table over a tick.
use Rattle.std.proofs.Common.{◌≡◌, ℕ, ◌+◌, ◌<◌, ◌≤◌, false, not, List, ◌∷◌, length, drop, slice_get, Option, Some, None, Ok, is_some, refl, ap, sym, ◌∙◌, subst, arith}
use Rattle.std.proofs.lemmas.List.{append-nil}
use Rattle.std.proofs.lemmas.Option.{slice_get_within}
use Rattle.std.specs.VecDeque.{deque_capacity}
use Rattle.rpc_handlers.specs.declared.event.Memo.{Memo}
use Rattle.rpc_handlers.specs.HandlerRule.{HandlerRule}
use Rattle.rpc_journal.specs.declared.table.call_state.CallState.{CallState}
use Rattle.rpc_journal.specs.declared.table.call_states.CallStates.{CallStates}
use Rattle.rpc_journal.specs.declared.entry.EntryKind.TheVariants.{Tick}
use Rattle.rpc_journal.specs.declared.item.Item.{Item}
use Rattle.rpc_journal.specs.declared.table.notice.Notice.TheVariants.{Time}
use Rattle.rpc_journal.specs.declared.setting.Setting.{Setting}
use Rattle.rpc_journal.specs.ChangeLaws.{KeepsLegal}
use Rattle.rpc_journal.specs.Changes.{TickDid}
use Rattle.rpc_journal.specs.Effect.{Deed}
use Rattle.rpc_journal.specs.History.{history, adding}
use Rattle.rpc_journal.specs.Items.{flush_count, items_sent}
use Rattle.rpc_journal.specs.Recorded.{Recorded}
use Rattle.rpc_ids.specs.declared.status.Status.{Status}
use Rattle.rpc_journal.specs.Kinds.{or_else}
use Rattle.rpc_journal.specs.Refusals.{is_full}
use Rattle.rpc_journal.specs.table.Agrees.{IsToldAll}
use Rattle.rpc_journal.specs.table.Touch.{IsTouched, telling}
use Rattle.rpc_journal.proofs.LegalLemmas.{keeps_legal}
use Rattle.rpc_journal.proofs.table.NewestLemmas.{newest_kept}
use Rattle.rpc_journal.proofs.table.NoticeLemmas.{step_told}
use Rattle.rpc_journal.proofs.PlaceLemmas.{get_some}
use Rattle.rpc_journal.proofs.table.TableSteps.{agrees_with}
use Rattle.rpc_journal.proofs.VerdictLemmas.{history_length}
use Rattle.rpc_calls.specs.Places.{ChangesAll}
use Rattle.rpc_calls.specs.Room.{uncancelled, running, items_owed}
use Rattle.rpc_calls.specs.TableHolds.{IsTable}
use Rattle.rpc_journal.specs.table.Turns.{IsTold}
use Rattle.rpc_calls.specs.Widened.{OpensHaveTwo}
use Rattle.rpc_calls.proofs.TouchTables.{room_grown}
use Rattle.rpc_calls.proofs.CalmSteps.{table_after}
use Rattle.rpc_calls.proofs.NoticeSteps.{left, notice_deed, notice_keeps, one_more, same_counts}

-- where there is no end now, there was none before
none_before : (e s : Option Status) → or_else e s ≡ None → s ≡ None
none_before None s is = is
none_before (Some e) s is = absurd cc

module _ {H : Type 0} (now : H → Memo) (can_act : H → Type 0) (rule : HandlerRule) (set : Setting) where
  pub table_ticked : (recorded after : Recorded) (seat at time spare : ℕ) (states later : CallStates) (handlers : List (Option H)) (items items' : List Item) (capacity capacity' : ℕ)
      → IsTable now can_act rule set recorded states handlers items capacity → seat ≡ 1 → is_full recorded.entries ≡ false → OpensHaveTwo states.calls.items
      → at ≡ length recorded.entries → ChangesAll (IsTold at (Time time)) states.calls.items later.calls.items
      → later.unflushed ≡ states.unflushed → later.input_ended ≡ states.input_ended → later.halted ≡ states.halted → later.newest ≡ states.newest → later.closed.items ≡ states.closed.items → items' ≡ items
      → after.entries ≡ adding recorded.entries seat (Tick time) → after.spare + 1 ≡ spare
      → length items + items_owed states.calls.items + 0 ≤ capacity'
      → length items + items_owed states.calls.items + 0 + (uncancelled states.calls.items + running states.calls.items + 2) + 1 ≤ spare
      → IsTable now can_act rule set after later handlers items' capacity'
  table_ticked recorded after seat at time spare states later handlers items items' capacity capacity' is judged unfilled free place changes unflushed input halt newest chans same adds spent places records =
      let ds : List Deed = history set recorded.entries in
      let d : Deed = notice_deed set.role ds seat (Time time) in
      let sent : items_sent (d ∷ ds) ≡ items_sent ds = append-nil (items_sent ds) in
      let told : IsToldAll (length ds) (Time time) states.calls.items later.calls.items =
      record {
        many = changes.many;
        each = λ k r x was later_is. subst (λ n. IsTouched n (telling (Time time) r) r x) (place ∙ sym (history_length set recorded.entries)) (changes.each k r x was later_is).is;
      } in
      let going : uncancelled later.calls.items ≡ uncancelled states.calls.items =
      same_counts (λ r. not r.cancelled) states.calls.items later.calls.items changes.many (λ k x y was later_is. ap not (left at (Time time) x y (changes.each k x y was later_is)).cancelled) in
      let busy : running later.calls.items ≡ running states.calls.items =
      same_counts (λ r. is_some r.run) states.calls.items later.calls.items changes.many (λ k x y was later_is. ap is_some (left at (Time time) x y (changes.each k x y was later_is)).run) in
      let did : TickDid seat time (Ok (record {})) recorded.entries after.entries =
      record { unrefused = rw unfilled refl; answer = tt; adds = adds; cause = tt; kept = tt } in
      let laws : KeepsLegal H (Unit {0}) = keeps_legal in
      table_after now can_act rule set recorded after seat (Tick time) later handlers items' capacity' adds
      (laws.tick rule set seat time (Ok (record {})) recorded.entries after.entries is.legal judged did)
      (record {
        agrees = agrees_with ds d states later is.stands.agrees
            (step_told set.role ds seat (Tick time) (Time time) states.calls.items later.calls.items (record { start = λ k. refl; finish = λ k. refl; cancel = λ k. refl }) is.stands.agrees.calls told)
            (newest_kept ds d states.newest later.newest is.stands.agrees.newest refl newest)
            (record { unflushing = refl; going_on = refl; running = refl; unclosed = refl }) chans (omega (arith, unflushed)) input halt;
        keeps = notice_keeps now can_act rule set ds seat (Time time) handlers is.stands.keeps;
        queue = same ∙ is.stands.queue ∙ ap (drop (flush_count ds)) (sym sent);
      })
      (room_grown states later items items' 0 after.spare capacity' going busy (omega (arith, ap length same))
      (record { one = λ k y there. place_one k y there; free = λ k y there unended open_now. place_free k y there unended (sym input ∙ open_now) })
      (omega (arith, is.room.few, changes.many)) places
      (subst (λ n. length items + items_owed states.calls.items + 0 + (uncancelled states.calls.items + running states.calls.items + 2) + 1 ≤ n) (sym spent) records))
    where
      place_one : (k : ℕ) (y : CallState) → slice_get later.calls.items k ≡ Some y → 0 < deque_capacity y.waiting
      place_one k y there =
          let within : k < length later.calls.items = slice_get_within _ _ _ there in
          let row = get_some states.calls.items k (omega (arith, within, changes.many)) in
          omega (arith, (changes.each k row.0 y row.1 there).capacity, is.room.places.one k row.0 row.1)

      place_free : (k : ℕ) (y : CallState) → slice_get later.calls.items k ≡ Some y → y.status ≡ None → states.input_ended ≡ false → length y.waiting.items < deque_capacity y.waiting
      place_free k y there unended open_now =
          let within : k < length later.calls.items = slice_get_within _ _ _ there in
          let row = get_some states.calls.items k (omega (arith, within, changes.many)) in
          let its = changes.each k row.0 y row.1 there in
          omega (arith, its.capacity, one_more at (Time time) row.0 y its, free.free k row.0 row.1 (none_before (telling (Time time) row.0).ends row.0.status (sym its.is.status ∙ unended)))
