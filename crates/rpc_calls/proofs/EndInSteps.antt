-- A table over the end of the input.
use Rattle.std.proofs.Common.{◌≡◌, ℕ, ◌+◌, ◌≤◌, true, false, not, List, [], ◌∷◌, length, drop, Option, is_some, refl, ap, sym, ◌∙◌, subst, arith, length-append}
use Rattle.std.proofs.lemmas.Bool.{true≢false}
use Rattle.std.proofs.lemmas.List.{append-nil}
use Rattle.std.proofs.lemmas.Option.{slice_get_within}
use Rattle.rpc_channel.specs.Rising.{has_id}
use Rattle.rpc_handlers.specs.declared.event.Memo.{Memo}
use Rattle.rpc_handlers.specs.HandlerRule.{HandlerRule}
use Rattle.rpc_journal.specs.declared.table.call_states.CallStates.{CallStates}
use Rattle.rpc_journal.specs.declared.entry.EntryKind.TheVariants.{EndIn}
use Rattle.rpc_journal.specs.declared.item.Item.{Item}
use Rattle.rpc_journal.specs.declared.table.notice.Notice.TheVariants.{InputEnded}
use Rattle.rpc_journal.specs.declared.setting.Setting.{Setting}
use Rattle.rpc_journal.specs.Calls.{calls}
use Rattle.rpc_journal.specs.ChangeLaws.{KeepsLegal}
use Rattle.rpc_journal.specs.Changes.{EndInDid}
use Rattle.rpc_journal.specs.Conditions.{IsInputOpen}
use Rattle.rpc_journal.specs.Effect.{Deed}
use Rattle.rpc_journal.specs.History.{history, deeds_with, entry_by, adding}
use Rattle.rpc_journal.specs.Items.{flush_count, items_sent}
use Rattle.rpc_journal.specs.Recorded.{Recorded}
use Rattle.rpc_journal.specs.table.Agrees.{IsToldAll, Agrees}
use Rattle.rpc_journal.specs.table.Touch.{IsTouched, telling}
use Rattle.rpc_journal.proofs.table.NewestLemmas.{newest_kept}
use Rattle.rpc_journal.proofs.table.NoticeLemmas.{step_told}
use Rattle.rpc_journal.proofs.PlaceLemmas.{get_some}
use Rattle.rpc_journal.proofs.VerdictLemmas.{history_length}
use Rattle.rpc_journal.proofs.LegalLemmas.{keeps_legal}
use Rattle.rpc_calls.specs.Room.{uncancelled, running, HasRoom}
use Rattle.rpc_calls.specs.Places.{ChangesAll}
use Rattle.rpc_calls.specs.TableHolds.{IsTable}
use Rattle.rpc_journal.specs.table.Turns.{IsTold}
use Rattle.rpc_calls.proofs.CalmSteps.{table_after}
use Rattle.rpc_calls.proofs.NoticeSteps.{notice_deed, notice_keeps, same_counts}

module _ {H : Type 0} (now : H → Memo) (can_act : H → Type 0) (rule : HandlerRule) (set : Setting) where
  pub table_ended : (recorded after : Recorded) (seat at : ℕ) (states later : CallStates) (handlers : List (Option H)) (items : List Item) (capacity : ℕ)
      → IsTable now can_act rule set recorded states handlers items capacity → IsInputOpen set recorded.entries seat
      → at ≡ length recorded.entries → ChangesAll (IsTold at InputEnded) states.calls.items later.calls.items
      → later.unflushed ≡ states.unflushed → later.input_ended ≡ true → later.halted ≡ states.halted → later.newest ≡ states.newest → later.closed.items ≡ states.closed.items
      → after.entries ≡ adding recorded.entries seat EndIn → after.spare + 1 ≡ recorded.spare
      → IsTable now can_act rule set after later handlers items capacity
  table_ended recorded after seat at states later handlers items capacity is input place changes unflushed shut kept newest chans adds spent =
      let ds : List Deed = history set recorded.entries in
      let old = is.stands.agrees.calls in
      let told : IsToldAll (length ds) InputEnded states.calls.items later.calls.items =
      record {
        many = changes.many;
        each = λ k r x was later_is. subst (λ n. IsTouched n (telling InputEnded r) r x) (place ∙ sym (history_length set recorded.entries)) (changes.each k r x was later_is).is;
      } in
      let agrees : Agrees (deeds_with set ds (entry_by seat EndIn)) later =
      record {
        calls = step_told set.role ds seat EndIn InputEnded states.calls.items later.calls.items (record { start = λ k. refl; finish = λ k. refl; cancel = λ k. refl }) old told;
        newest = newest_kept ds (notice_deed set.role ds seat InputEnded) states.newest later.newest is.stands.agrees.newest refl newest;
        items = omega (arith, unflushed, is.stands.agrees.items, length-append (items_sent ds) []);
        input = shut;
        closed = λ x. ap (λ xs. has_id xs x) chans ∙ is.stands.agrees.closed x;
        halt = kept ∙ is.stands.agrees.halt;
      } in
      let sent : items_sent (notice_deed set.role ds seat InputEnded ∷ ds) ≡ items_sent ds = append-nil (items_sent ds) in
      let many : length later.calls.items ≡ length states.calls.items =
      agrees.calls.many ∙ ap length (append-nil (calls ds)) ∙ sym old.many in
      let going : uncancelled later.calls.items ≡ uncancelled states.calls.items =
      same_counts (λ r. not r.cancelled) states.calls.items later.calls.items many
      (λ k x y x_is y_is. ap not (sym (agrees.calls.each k y y_is).cancelled ∙ (old.each k x x_is).cancelled)) in
      let busy : running later.calls.items ≡ running states.calls.items =
      same_counts (λ r. is_some r.run) states.calls.items later.calls.items many
      (λ k x y x_is y_is. ap is_some (sym (agrees.calls.each k y y_is).run ∙ (old.each k x x_is).run)) in
      let open_now : states.input_ended ≡ false = is.stands.agrees.input ∙ input.not_ended in
      let halted : is_some later.halted ≡ is_some states.halted = ap is_some (agrees.halt ∙ sym is.stands.agrees.halt) in
      let did : EndInDid seat recorded.entries after.entries = record { adds = adds } in
      let laws : KeepsLegal H (Unit {0}) = keeps_legal in
      let before : HasRoom states.calls.items (length items) false (is_some states.halted) recorded.spare capacity =
      subst (λ b. HasRoom states.calls.items (length items) b (is_some states.halted) recorded.spare capacity) open_now is.room.room in
      table_after now can_act rule set recorded after seat EndIn later handlers items capacity adds
      (laws.end_in rule set seat recorded.entries after.entries is.legal input did)
      (record {
        agrees = agrees;
        keeps = notice_keeps now can_act rule set ds seat InputEnded handlers is.stands.keeps;
        queue = is.stands.queue ∙ ap (drop (flush_count ds)) (sym sent);
      })
      (record {
        room = subst (λ b. HasRoom later.calls.items (length items) b (is_some later.halted) after.spare capacity) (sym shut)
            (subst (λ b. HasRoom later.calls.items (length items) true b after.spare capacity) (sym halted)
            (record { items_fit = omega (arith, before.items_fit, going, busy); entries_fit = omega (arith, before.entries_fit, going, busy, spent) }));
        places = record {
          one = λ k y there.
              let row = get_some states.calls.items k (omega (arith, slice_get_within later.calls.items k y there, many)) in
              omega (arith, (changes.each k row.0 y row.1 there).capacity, is.room.places.one k row.0 row.1);
          free = λ k y there unended going_on. absurd (true≢false (sym shut ∙ going_on));
        };
        few = omega (arith, is.room.few, many);
      })

  -- the end of the input stands in the room
  pub end_room : (recorded : Recorded) (seat : ℕ) (states : CallStates) (handlers : List (Option H)) (items : List Item) (capacity : ℕ)
      → IsTable now can_act rule set recorded states handlers items capacity → IsInputOpen set recorded.entries seat → 1 ≤ recorded.spare
  end_room recorded seat states handlers items capacity is input =
      let open_now : states.input_ended ≡ false = is.stands.agrees.input ∙ input.not_ended in
      let before : HasRoom states.calls.items (length items) false (is_some states.halted) recorded.spare capacity =
      subst (λ b. HasRoom states.calls.items (length items) b (is_some states.halted) recorded.spare capacity) open_now is.room.room in
      omega (arith, before.entries_fit)
