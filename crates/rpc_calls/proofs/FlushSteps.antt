-- What a table stands for, over a Flush.
use Rattle.std.proofs.Common.{◌≡◌, ℕ, zero, suc, ◌+◌, true, false, List, [], ◌∷◌, length, drop, slice_get, Option, Some, None, is_some, refl, ap, sym, ◌∙◌, subst, inl, inr, arith, add-one, length-drop}
use Rattle.std.proofs.lemmas.Bool.{false≢true}
use Rattle.std.proofs.lemmas.List.{append-nil}
use Rattle.rpc_handlers.specs.declared.event.Memo.{Memo}
use Rattle.rpc_handlers.specs.HandlerRule.{HandlerRule}
use Rattle.rpc_journal.specs.declared.table.call_states.CallStates.{CallStates}
use Rattle.rpc_journal.specs.declared.entry.EntryKind.TheVariants.{Flush}
use Rattle.rpc_journal.specs.declared.item.Item.{Item}
use Rattle.rpc_journal.specs.declared.setting.Setting.{Setting}
use Rattle.rpc_journal.specs.ChangeLaws.{KeepsLegal}
use Rattle.rpc_journal.specs.Changes.{FlushDid, NothingToFlush}
use Rattle.rpc_journal.specs.Effect.{Deed}
use Rattle.rpc_journal.specs.History.{history, deeds_with, entry_by, adding}
use Rattle.rpc_journal.specs.Items.{flush_count, items_sent}
use Rattle.rpc_journal.specs.Recorded.{Recorded}
use Rattle.rpc_journal.specs.Rows.{no_effect}
use Rattle.rpc_journal.specs.table.Touch.{Touches, untouched}
use Rattle.rpc_journal.proofs.LegalLemmas.{keeps_legal}
use Rattle.rpc_calls.specs.TableHolds.{StandsFor, HasAllRoom, IsTable}
use Rattle.rpc_calls.proofs.StepLemmas.{agrees_calm}
use Rattle.rpc_calls.proofs.CalmSteps.{TouchesCalmly, untouching, keeps_all_calm, table_after, none_of}

-- the front of what is left
front_of : {A : Type 0} (n : ℕ) (xs : List A) (x : A) (rest : List A) → x ∷ rest ≡ drop n xs → slice_get xs n ≡ Some x
front_of zero [] x rest is = absurd cc
front_of zero (y ∷ xs) x rest is = let same : y ≡ x = cc in ap Some same
front_of (suc n) [] x rest is = absurd cc
front_of (suc n) (y ∷ xs) x rest is = front_of n xs x rest is

behind : {A : Type 0} (n : ℕ) (xs : List A) (x : A) (rest : List A) → x ∷ rest ≡ drop n xs → rest ≡ drop (n + 1) xs
behind zero [] x rest is = absurd cc
behind zero (y ∷ xs) x rest is = cc
behind (suc n) [] x rest is = absurd cc
behind (suc n) (y ∷ xs) x rest is = rw add-one (behind n xs x rest is ∙ ap (λ k. drop k xs) (add-one n))

none_left : {A : Type 0} (n : ℕ) (xs : List A) → [] ≡ drop n xs → slice_get xs n ≡ None
none_left zero [] is = refl
none_left zero (x ∷ xs) is = absurd cc
none_left (suc n) [] is = refl
none_left (suc n) (x ∷ xs) is = none_left n xs is

flush_deed : ℕ → Deed
flush_deed seat = record { entry = entry_by seat Flush; does = no_effect }

flush_touches : (seat : ℕ) (c : ℕ) → Touches (flush_deed seat) c untouched
unfolding flush_deed
flush_touches seat c = record { starts = refl; finishes = refl; cancels = refl; completes = refl; ends = refl; clears = refl; puts = refl; alone = λ h. absurd (false≢true h) }

module _ {H : Type 0} (now : H → Memo) (can_act : H → Type 0) (rule : HandlerRule) (set : Setting) where
  -- no item waits, or the table is halted
  pub nothing_waits : (ds : List Deed) (states : CallStates) (handlers : List (Option H)) (items : List Item) → StandsFor now can_act rule set ds states handlers items
      → items ≡ [] → NothingToFlush ds
  nothing_waits ds states handlers items stands empty = inl (none_left (flush_count ds) (items_sent ds) (sym empty ∙ stands.queue))

  pub halted_waits : (ds : List Deed) (states : CallStates) (handlers : List (Option H)) (items : List Item) → StandsFor now can_act rule set ds states handlers items
      → is_some states.halted ≡ true → NothingToFlush ds
  halted_waits ds states handlers items stands is = inr (sym (ap is_some stands.agrees.halt) ∙ is)

  stands_flushed : (ds : List Deed) (seat : ℕ) (states : CallStates) (handlers : List (Option H)) (item : Item) (rest : List Item) (left : ℕ)
      → StandsFor now can_act rule set ds states handlers (item ∷ rest) → left + 1 ≡ states.unflushed
      → StandsFor now can_act rule set (deeds_with set ds (entry_by seat Flush)) (record states { unflushed = left }) handlers rest
  unfolding flush_deed
  stands_flushed ds seat states handlers item rest left stands less =
      let d : Deed = flush_deed seat in
      let calls = agrees_calm ds d states.calls.items stands.agrees.calls (flush_touches seat) refl in
      let sent : items_sent (d ∷ ds) ≡ items_sent ds = append-nil (items_sent ds) in
      record {
        agrees = record {
          calls = calls;
          newest = stands.agrees.newest;
          closed = stands.agrees.closed;
          items = omega (arith, stands.agrees.items, less, ap length sent);
          input = stands.agrees.input;
          halt = stands.agrees.halt;
        };
        keeps = keeps_all_calm now can_act rule set ds d states.calls.items states.calls.items handlers stands.agrees.calls calls refl
            (λ c r x is later. let same : r ≡ x = cc in subst (TouchesCalmly ds d c r) same (untouching ds d c r (flush_touches seat c)))
            (λ c. refl) refl stands.keeps;
        queue = behind (flush_count ds) (items_sent ds) item rest stands.queue ∙ ap (drop (flush_count ds + 1)) (sym sent);
      }

  room_flushed : (states : CallStates) (item : Item) (rest : List Item) (left spare spare' capacity : ℕ) → spare' + 1 ≡ spare
      → HasAllRoom states (item ∷ rest) spare capacity → HasAllRoom (record states { unflushed = left }) rest spare' capacity
  room_flushed states item rest left spare spare' capacity less room = record {
    room = record { items_fit = omega (arith, room.room.items_fit); entries_fit = omega (arith, room.room.entries_fit, less) };
    places = room.places;
    few = room.few;
  }

  pub flush_did : (recorded after : Recorded) (seat : ℕ) (states : CallStates) (handlers : List (Option H)) (item : Item) (rest : List Item) (capacity : ℕ)
      → IsTable now can_act rule set recorded states handlers (item ∷ rest) capacity → is_some states.halted ≡ false
      → after.entries ≡ adding recorded.entries seat Flush → FlushDid set seat (Some item) recorded.entries after.entries
  flush_did recorded after seat states handlers item rest capacity is unset adds = record {
    front = front_of (flush_count (history set recorded.entries)) (items_sent (history set recorded.entries)) item rest is.stands.queue;
    unhalted = sym is.stands.agrees.halt ∙ none_of states.halted unset;
    adds = adds;
    none = tt;
    kept = tt;
  }

  pub table_flushed : (recorded after : Recorded) (seat : ℕ) (states : CallStates) (handlers : List (Option H)) (item : Item) (rest : List Item) (left capacity capacity' : ℕ)
      → IsTable now can_act rule set recorded states handlers (item ∷ rest) capacity → is_some states.halted ≡ false → seat ≡ 1
      → left + 1 ≡ states.unflushed → capacity' ≡ capacity
      → after.entries ≡ adding recorded.entries seat Flush → after.spare + 1 ≡ recorded.spare
      → IsTable now can_act rule set after (record states { unflushed = left }) handlers rest capacity'
  table_flushed recorded after seat states handlers item rest left capacity capacity' is unset by less same adds spent =
      let laws : KeepsLegal H (Unit {0}) = keeps_legal in
      let did = flush_did recorded after seat states handlers item rest capacity is unset adds in
      table_after now can_act rule set recorded after seat Flush (record states { unflushed = left }) handlers rest capacity' adds
      (laws.flush_front rule set seat (Some item) recorded.entries after.entries is.legal by did)
      (stands_flushed (history set recorded.entries) seat states handlers item rest left is.stands less)
      (subst (HasAllRoom (record states { unflushed = left }) rest after.spare) (sym same)
      (room_flushed states item rest left recorded.spare after.spare capacity spent is.room))

  -- a table in which an item waits counts it
  pub waits_one : (recorded : Recorded) (states : CallStates) (handlers : List (Option H)) (items : List Item) (capacity : ℕ)
      → IsTable now can_act rule set recorded states handlers items capacity → length items ≡ states.unflushed
  waits_one recorded states handlers items capacity is =
      let ds : List Deed = history set recorded.entries in
      omega (arith, ap length is.stands.queue, length-drop (flush_count ds) (items_sent ds), is.stands.agrees.items)

  front_table : (recorded : Recorded) (states : CallStates) (handlers : List (Option H)) (items : List Item) (item : Item) (rest : List Item) (capacity : ℕ)
      → IsTable now can_act rule set recorded states handlers items capacity → items ≡ item ∷ rest
      → IsTable now can_act rule set recorded states handlers (item ∷ rest) capacity
  front_table recorded states handlers items item rest capacity is front =
      subst (λ xs. IsTable now can_act rule set recorded states handlers xs capacity) front is

  -- the front item is flushed
  pub flushes_front : (recorded after : Recorded) (seat : ℕ) (states later : CallStates) (handlers : List (Option H)) (items : List Item) (item : Item) (rest : List Item) (left capacity capacity' : ℕ)
      → IsTable now can_act rule set recorded states handlers items capacity → items ≡ item ∷ rest → is_some states.halted ≡ false → seat ≡ 1
      → later ≡ record states { unflushed = left } → left ≡ length rest
      → capacity' ≡ capacity → after.entries ≡ adding recorded.entries seat Flush → after.spare + 1 ≡ recorded.spare
      → IsTable now can_act rule set after later handlers rest capacity'
      × FlushDid set seat (Some item) recorded.entries after.entries
  flushes_front recorded after seat states later handlers items item rest left capacity capacity' is front unset by counted many same adds spent =
      let table = front_table recorded states handlers items item rest capacity is front in
      let one : suc (length rest) ≡ states.unflushed = waits_one recorded states handlers (item ∷ rest) capacity table in
      let less : left + 1 ≡ states.unflushed = omega (arith, one, many) in (
        subst (λ t. IsTable now can_act rule set after t handlers rest capacity') (sym counted)
            (table_flushed recorded after seat states handlers item rest left capacity capacity' table unset by less same adds spent),
        flush_did recorded after seat states handlers item rest capacity table unset adds,
      )

  -- nothing is flushed
  pub flushes_none : (recorded : Recorded) (seat : ℕ) → NothingToFlush (history set recorded.entries) → FlushDid set seat None recorded.entries recorded.entries
  flushes_none recorded seat nothing = record { front = tt; unhalted = tt; adds = tt; none = nothing; kept = refl }
