-- What a table stands for, over entries that neither begin nor end a run.
use Rattle.std.proofs.Common.{◌≡◌, ℕ, ◌+◌, ◌<◌, ◌≤◌, false, List, ◌∷◌, ◌++◌, length, drop, slice_get, Option, Some, None, is_some, refl, ap, sym, ◌∙◌, subst, arith}
use Rattle.std.proofs.lemmas.Bool.{true≢false, false≢true}
use Rattle.std.proofs.lemmas.List.{append-nil, drop-append-le}
use Rattle.std.proofs.lemmas.Option.{slice_get_within}
use Rattle.link_io.specs.declared.why.Why.{Why}
use Rattle.rpc_handlers.specs.declared.event.Memo.{Memo}
use Rattle.rpc_handlers.specs.HandlerRule.{HandlerRule}
use Rattle.rpc_journal.specs.declared.table.call_state.CallState.{CallState}
use Rattle.rpc_journal.specs.declared.table.call_states.CallStates.{CallStates}
use Rattle.rpc_journal.specs.declared.entry.EntryKind.{EntryKind}
use Rattle.rpc_journal.specs.declared.entry.EntryKind.TheVariants.{Halt}
use Rattle.rpc_journal.specs.declared.item.Item.{Item}
use Rattle.rpc_journal.specs.declared.setting.Setting.{Setting}
use Rattle.rpc_journal.specs.Calls.{is_replace_of}
use Rattle.rpc_journal.specs.ChangeLaws.{KeepsLegal}
use Rattle.rpc_journal.specs.Changes.{HaltDid}
use Rattle.rpc_journal.specs.Conditions.{CanHalt}
use Rattle.rpc_journal.specs.Effect.{Deed}
use Rattle.rpc_journal.specs.History.{history, deeds_with, entry_by, adding}
use Rattle.rpc_journal.specs.Items.{flush_count, halt_reason, items_sent}
use Rattle.rpc_journal.specs.Lawful.{IsLegal}
use Rattle.rpc_journal.specs.Recorded.{Recorded}
use Rattle.rpc_journal.specs.Rows.{no_effect}
use Rattle.rpc_journal.specs.States.{opens_call}
use Rattle.rpc_journal.specs.table.Agrees.{AgreesOnCalls}
use Rattle.rpc_journal.specs.table.Touch.{Touch, Touches, IsTouched, untouched}
use Rattle.rpc_journal.proofs.LegalLemmas.{keeps_legal}
use Rattle.rpc_journal.proofs.table.StepLemmas.{same_count}
use Rattle.rpc_journal.proofs.Push.{history-push}
use Rattle.rpc_journal.proofs.PlaceLemmas.{get_some}
use Rattle.rpc_journal.proofs.table.AgreeLemmas.{is_untouched}
use Rattle.rpc_calls.specs.Handlers.{KeepsAll}
use Rattle.rpc_calls.specs.Room.{HasRoom}
use Rattle.rpc_calls.specs.TableHolds.{StandsFor, HasAllRoom, IsTable}
use Rattle.rpc_calls.proofs.StepLemmas.{IsCalm, keeps_calm, agrees_calm}

-- what an entry does to a call, by its states before and after
pub record TouchesCalmly (ds : List Deed) (d : Deed) (c : ℕ) (r x : CallState) : Type 0 where
  pub touch : Touch
  pub does : Touches d c touch
  pub is : IsTouched (length ds) touch r x
  pub calm : IsCalm touch r

-- an entry that leaves all calls alone
pub untouching : (ds : List Deed) (d : Deed) (c : ℕ) (r : CallState) → Touches d c untouched → TouchesCalmly ds d c r r
untouching ds d c r does = record {
  touch = untouched;
  does = does;
  is = is_untouched (length ds) r;
  calm = record { unstarted = refl; unfinished = refl; put_open = λ h. absurd (true≢false h) };
}

pub unopened : (ds : List Deed) (d : Deed) (c : ℕ) → d.does.opens ≡ None → opens_call ds d c ≡ false
unopened ds d c opens = rw opens refl

pub none_of : {A : Type 0} (o : Option A) → is_some o ≡ false → o ≡ None
none_of None is = refl
none_of (Some x) is = absurd (true≢false is)

-- the queue of items over an entry that flushes nothing
pub queue_grows : (items sent says : List Item) (n : ℕ) → n ≤ length sent → items ≡ drop n sent → items ++ says ≡ drop n (sent ++ says)
queue_grows items sent says n within is = ap (λ xs. xs ++ says) is ∙ sym (drop-append-le n sent says within)

module _ {H : Type 0} (now : H → Memo) (can_act : H → Type 0) (rule : HandlerRule) (set : Setting) where
  pub keeps_all_calm : (ds : List Deed) (d : Deed) (states after : List CallState) (handlers : List (Option H)) → AgreesOnCalls ds states
      → AgreesOnCalls (d ∷ ds) after → length after ≡ length states
      → ((c : ℕ) (r x : CallState) → slice_get states c ≡ Some r → slice_get after c ≡ Some x → TouchesCalmly ds d c r x)
      → ((c : ℕ) → is_replace_of c d.entry.kind ≡ false) → d.does.opens ≡ None
      → KeepsAll now can_act rule set ds handlers → KeepsAll now can_act rule set (d ∷ ds) handlers
  keeps_all_calm ds d states after handlers agrees agrees' same touch unreplaced opens keeps = record {
    many = keeps.many ∙ sym (same_count ds d opens);
    each = λ c slot is.
        let below : c < length handlers = slice_get_within _ _ _ is in
        let before = get_some states c (omega (arith, below, keeps.many, agrees.many)) in
        let later = get_some after c (omega (arith, below, keeps.many, agrees.many, same)) in
        let it = touch c before.0 later.0 before.1 later.1 in
        keeps_calm now can_act rule set ds d c it.touch before.0 later.0 slot (agrees.each c before.0 before.1) (agrees'.each c later.0 later.1)
        it.does it.is it.calm (unreplaced c) (unopened ds d c opens) (keeps.each c slot is);
  }

  -- a table with one more entry
  pub table_after : (recorded after : Recorded) (seat : ℕ) (kind : EntryKind) (states : CallStates) (handlers : List (Option H)) (items : List Item) (capacity : ℕ)
      → after.entries ≡ adding recorded.entries seat kind → IsLegal rule set after.entries
      → StandsFor now can_act rule set (deeds_with set (history set recorded.entries) (entry_by seat kind)) states handlers items
      → HasAllRoom states items after.spare capacity → IsTable now can_act rule set after states handlers items capacity
  table_after recorded after seat kind states handlers items capacity adds legal stands room = record {
    legal = legal;
    stands = subst (λ ds. StandsFor now can_act rule set ds states handlers items)
        (sym (ap (history set) adds ∙ history-push set recorded.entries (entry_by seat kind))) stands;
    room = room;
  }

  halt_deed : ℕ → Why → Deed
  halt_deed seat why = record { entry = entry_by seat (Halt why); does = no_effect }

  halt_touches : (seat : ℕ) (why : Why) (c : ℕ) → Touches (halt_deed seat why) c untouched
  unfolding halt_deed
  halt_touches seat why c = record { starts = refl; finishes = refl; cancels = refl; completes = refl; ends = refl; clears = refl; puts = refl; alone = λ h. absurd (false≢true h) }

  stands_halted : (ds : List Deed) (seat : ℕ) (why : Why) (states : CallStates) (handlers : List (Option H)) (items : List Item)
      → StandsFor now can_act rule set ds states handlers items
      → StandsFor now can_act rule set (deeds_with set ds (entry_by seat (Halt why))) (record states { halted = Some why }) handlers items
  unfolding halt_deed
  stands_halted ds seat why states handlers items stands =
      let d : Deed = halt_deed seat why in
      let calls = agrees_calm ds d states.calls.items stands.agrees.calls (halt_touches seat why) refl in
      let sent : items_sent (d ∷ ds) ≡ items_sent ds = append-nil (items_sent ds) in
      record {
        agrees = record {
          calls = calls;
          newest = stands.agrees.newest;
          closed = stands.agrees.closed;
          items = stands.agrees.items ∙ ap length (sym sent);
          input = stands.agrees.input;
          halt = refl;
        };
        keeps = keeps_all_calm ds d states.calls.items states.calls.items handlers stands.agrees.calls calls refl
            (λ c r x is later. let same : r ≡ x = cc in subst (TouchesCalmly ds d c r) same (untouching ds d c r (halt_touches seat why c)))
            (λ c. refl) refl stands.keeps;
        queue = stands.queue ∙ ap (drop (flush_count ds)) (sym sent);
      }

  room_halted : (states : CallStates) (items : List Item) (spare spare' capacity : ℕ) (why : Why) → states.halted ≡ None → spare' + 1 ≡ spare
      → HasAllRoom states items spare capacity → HasAllRoom (record states { halted = Some why }) items spare' capacity
  room_halted states items spare spare' capacity why unhalted less room =
      let unset : is_some states.halted ≡ false = ap is_some unhalted in
      let fits : _ = subst (λ b. HasRoom states.calls.items (length items) states.input_ended b spare capacity) unset room.room in
      record {
        room = record { items_fit = fits.items_fit; entries_fit = omega (arith, fits.entries_fit, less) };
        places = room.places;
        few = room.few;
      }

  pub table_halted : (recorded after : Recorded) (seat : ℕ) (why : Why) (states : CallStates) (handlers : List (Option H)) (items : List Item) (capacity : ℕ)
      → IsTable now can_act rule set recorded states handlers items capacity → is_some states.halted ≡ false → CanHalt why
      → after.entries ≡ adding recorded.entries seat (Halt why) → after.spare + 1 ≡ recorded.spare
      → IsTable now can_act rule set after (record states { halted = Some why }) handlers items capacity
  table_halted recorded after seat why states handlers items capacity is unset can adds less =
      let unhalted : states.halted ≡ None = none_of states.halted unset in
      let none : halt_reason (history set recorded.entries) ≡ None = sym is.stands.agrees.halt ∙ unhalted in
      let did : HaltDid set seat why recorded.entries after.entries = record { adds = rw none adds } in
      let laws : KeepsLegal H (Unit {0}) = keeps_legal in
      table_after recorded after seat (Halt why) (record states { halted = Some why }) handlers items capacity adds
      (laws.halt rule set seat why recorded.entries after.entries is.legal can did)
      (stands_halted (history set recorded.entries) seat why states handlers items is.stands)
      (room_halted states items recorded.spare after.spare capacity why unhalted less is.room)
