-- The handler that a Replace gives back.
use Rattle.std.proofs.Common.{◌≡◌, ℕ, ◌<◌, Bool, true, false, not, nat_le, List, [], ◌∷◌, reverse, slice_get, Option, Some, None, is_some, is_none, IfSome, option_map, if◌then◌else◌, refl, ap, sym, ◌∙◌, subst, arith}
use Rattle.std.proofs.lemmas.Bool.{true≢false}
use Rattle.rpc_handlers.specs.declared.event.Memo.{Memo}
use Rattle.rpc_handlers.specs.HandlerRule.{HandlerRule}
use Rattle.rpc_journal.specs.declared.table.call_state.CallState.{CallState}
use Rattle.rpc_journal.specs.declared.table.call_states.CallStates.{CallStates}
use Rattle.rpc_journal.specs.declared.entry.Entry.{Entry}
use Rattle.rpc_journal.specs.declared.item.Item.{Item}
use Rattle.rpc_journal.specs.declared.setting.Setting.{Setting}
use Rattle.rpc_journal.specs.Calls.{call_count, ends_of, has_end, is_cancelled, runner_of}
use Rattle.rpc_journal.specs.Effect.{Deed}
use Rattle.rpc_journal.specs.History.{history}
use Rattle.rpc_journal.specs.Lawful.{IsLegal}
use Rattle.rpc_journal.specs.Kinds.{is_empty, or_else}
use Rattle.rpc_journal.specs.Recorded.{Recorded}
use Rattle.rpc_journal.specs.table.Agrees.{AgreesOn}
use Rattle.rpc_journal.proofs.table.TableLemmas.{ended_is}
use Rattle.rpc_journal.specs.Refusals.{replace_refusal}
use Rattle.rpc_journal.proofs.LegalLemmas.{refused_where-none}
use Rattle.rpc_journal.proofs.PlaceLemmas.{get_some}
use Rattle.rpc_calls.specs.Handlers.{IsHandlerOf, Keeps, is_over}
use Rattle.rpc_calls.specs.TableHolds.{IsTable}
use Rattle.rpc_journal.proofs.EndedLemmas.{cancelled_ends}
use Rattle.rpc_calls.proofs.KeepLemmas.{has_handler}

-- where nothing speaks against another handler, the call is there and has no end
pub record IsReplaceable (ds : List Deed) (c : ℕ) : Type 0 where
  pub there : c < call_count ds
  pub live : has_end ds c ≡ false

below : (n c : ℕ) → nat_le n c ≡ false → c < n
below n c h = grind (arith, h)

second : {A : Type 0} (a b : Option A) → or_else a b ≡ None → b ≡ None
second None b h = h
second (Some x) b h = absurd cc

first : {A : Type 0} (a b : Option A) → or_else a b ≡ None → a ≡ None
first None b h = refl
first (Some x) b h = absurd cc

no_end : {A B : Type 0} (f : A → B) (xs : List A) → option_map f (slice_get xs 0) ≡ None → not (is_empty xs) ≡ false
no_end f [] h = refl
no_end f (x ∷ xs) h = absurd cc

pub replaceable : (set : Setting) (h : List Entry) (c : ℕ) → replace_refusal set h c ≡ None → IsReplaceable (history set h) c
replaceable set h c unrefused =
    let rest = second _ _ unrefused in
    record { there = below (call_count (history set h)) c (refused_where-none _ _ (first _ _ rest)); live = no_end _ (ends_of (history set h) c) (second _ _ rest) }

none_left : {A : Type 0} (o : Option A) → is_some o ≡ false → o ≡ None
none_left None h = refl
none_left (Some x) h = absurd cc

pub replaced_live : (set : Setting) (h : List Entry) (c : ℕ) (r : CallState) → replace_refusal set h c ≡ None → AgreesOn (history set h) c r → r.status ≡ None
replaced_live set h c r unrefused agrees = none_left r.status (sym (ended_is (history set h) c r agrees) ∙ (replaceable set h c unrefused).live)

-- a live call isn't over
going : (rule : HandlerRule) (set : Setting) (h : List Entry) (c : ℕ) → IsLegal rule set h → has_end (history set h) c ≡ false → is_over (history set h) c ≡ false
going rule set h c legal live = at (is_cancelled (history set h) c) refl
  where
    at : (b : Bool) → is_cancelled (history set h) c ≡ b → is_over (history set h) c ≡ false
    at true e = absurd (true≢false (sym (cancelled_ends set (reverse h) c legal.lawful.allowed e) ∙ live))
    at false e = rw (e, live) refl

module _ {H : Type 0} (now : H → Memo) (can_act : H → Type 0) (rule : HandlerRule) (set : Setting) where
  given_back : (ds : List Deed) (c : ℕ) (run : Option ℕ) (slot old : Option H) → is_over ds c ≡ false
      → Keeps now can_act rule set ds c run slot → old ≡ (if is_some run then None else slot) → is_some old ≡ is_none run
  given_back ds c None slot old lasts keeps is = ap is_some is ∙ has_handler now can_act rule set ds c slot lasts keeps
  given_back ds c (Some seat) slot old lasts keeps is = ap is_some is

  -- the old handler comes back exactly where the call doesn't run
  pub handler_back : (recorded : Recorded) (states : CallStates) (handlers : List (Option H)) (items : List Item) (capacity c : ℕ) (runs : Bool) (old : Option H)
      → IsTable now can_act rule set recorded states handlers items capacity → replace_refusal set recorded.entries c ≡ None
      → ((r : CallState) → slice_get states.calls.items c ≡ Some r → runs ≡ is_some r.run)
      → ((slot : Option H) → slice_get handlers c ≡ Some slot → old ≡ (if runs then None else slot))
      → is_some old ≡ is_none (runner_of (history set recorded.entries) c)
  handler_back recorded states handlers items capacity c runs old is unrefused busy back =
      let ds : List Deed = history set recorded.entries in
      let it = replaceable set recorded.entries c unrefused in
      let row = get_some states.calls.items c (omega (arith, it.there, is.stands.agrees.calls.many)) in
      let slot = get_some handlers c (omega (arith, it.there, is.stands.keeps.many)) in
      let run = (is.stands.agrees.calls.each c row.0 row.1).run in
      given_back ds c (runner_of ds c) slot.0 old (going rule set recorded.entries c is.legal it.live) (is.stands.keeps.each c slot.0 slot.1)
      (back slot.0 slot.1 ∙ ap (λ b. if b then None else slot.0) (busy row.0 row.1 ∙ ap is_some (sym run)))

  was_kept : (ds : List Deed) (c : ℕ) (run : Option ℕ) (slot old : Option H) → Keeps now can_act rule set ds c run slot
      → old ≡ (if is_some run then None else slot) → IfSome old (IsHandlerOf now can_act rule set ds c)
  was_kept ds c None None old keeps is = subst (λ o. IfSome o (IsHandlerOf now can_act rule set ds c)) (sym is) tt
  was_kept ds c None (Some h) old keeps is = subst (λ o. IfSome o (IsHandlerOf now can_act rule set ds c)) (sym is) keeps
  was_kept ds c (Some seat) slot old keeps is = subst (λ o. IfSome o (IsHandlerOf now can_act rule set ds c)) (sym is) tt

  -- and it is the one that the history gives to the call
  pub handler_was : (recorded : Recorded) (states : CallStates) (handlers : List (Option H)) (items : List Item) (capacity c : ℕ) (runs : Bool) (old : Option H)
      → IsTable now can_act rule set recorded states handlers items capacity → replace_refusal set recorded.entries c ≡ None
      → ((r : CallState) → slice_get states.calls.items c ≡ Some r → runs ≡ is_some r.run)
      → ((slot : Option H) → slice_get handlers c ≡ Some slot → old ≡ (if runs then None else slot))
      → IfSome old (IsHandlerOf now can_act rule set (history set recorded.entries) c)
  handler_was recorded states handlers items capacity c runs old is unrefused busy back =
      let ds : List Deed = history set recorded.entries in
      let it = replaceable set recorded.entries c unrefused in
      let row = get_some states.calls.items c (omega (arith, it.there, is.stands.agrees.calls.many)) in
      let slot = get_some handlers c (omega (arith, it.there, is.stands.keeps.many)) in
      let run = (is.stands.agrees.calls.each c row.0 row.1).run in
      was_kept ds c (runner_of ds c) slot.0 old (is.stands.keeps.each c slot.0 slot.1)
      (back slot.0 slot.1 ∙ ap (λ b. if b then None else slot.0) (busy row.0 row.1 ∙ ap is_some (sym run)))

-- what holds of a value that is there
pub if_some : {A : Type 0} (P Q : A → Type 0) (o : Option A) → ((x : A) → P x → Q x) → IfSome o P → IfSome o Q
if_some P Q None f is = tt
if_some P Q (Some x) f is = f x is
