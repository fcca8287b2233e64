-- Lists of items without some messages, and what a call says among items.
use Rattle.std.proofs.Common.{◌≡◌, ℕ, List, [], ◌∷◌, ◌++◌, inl, inr, refl, ap, sym, ◌∙◌}
use Rattle.std.proofs.lemmas.Grind.{flat_map-append}
use Rattle.std.proofs.lemmas.List.{append-nil}
use Rattle.rpc_handlers.specs.declared.answer.Out.{Out}
use Rattle.rpc_handlers.specs.declared.event.Event.{Event}
use Rattle.rpc_handlers.specs.declared.event.Memo.{Memo}
use Rattle.rpc_handlers.specs.HandlerRule.{HandlerRule}
use Rattle.rpc_journal.specs.declared.item.Item.{Item}
use Rattle.link_laws.specs.uploads.CallItems.{AllButMessages, answers_over, item_outs, outs_by}
use Rattle.std.proofs.Common.{append_assoc, fold}

pub outs_by-append : (c : ℕ) (xs ys : List Item) → outs_by c (xs ++ ys) ≡ outs_by c xs ++ outs_by c ys
outs_by-append c xs ys = flat_map-append (item_outs c) xs ys

-- a call says nothing more where these items have nothing of it
pub silent_behind : (c : ℕ) (xs ys : List Item) → outs_by c ys ≡ [] → outs_by c (xs ++ ys) ≡ outs_by c xs
silent_behind c xs ys silent = outs_by-append c xs ys ∙ (ap (λ outs. outs_by c xs ++ outs) silent ∙ append-nil (outs_by c xs))

pub none_at_all : AllButMessages [] []
none_at_all = refl

pub but_append : (all more outs later : List Out) → AllButMessages all outs → AllButMessages more later → AllButMessages (all ++ more) (outs ++ later)
but_append [] more outs later is after = rw is after
but_append (out ∷ all) more outs later (inl (message, is)) after = inl (message, but_append all more outs later is after)
but_append (out ∷ all) more outs later (inr (rest, same, is)) after =
    inr (rest ++ later, ap (λ xs. xs ++ later) same, but_append all more rest later is after)

-- what is answered to events, and then to one more
pub answers-push : (rule : HandlerRule) (m : Memo) (evs : List Event) (ev : Event)
    → answers_over rule m (evs ++ ev ∷ []) ≡ answers_over rule m evs ++ (rule.answer (fold rule.next m evs) ev).items
answers-push rule m [] ev = append-nil (rule.answer m ev).items
answers-push rule m (e ∷ evs) ev =
    ap (λ outs. (rule.answer m e).items ++ outs) (answers-push rule (rule.next m e) evs ev)
    ∙ sym (append_assoc (rule.answer m e).items (answers_over rule (rule.next m e) evs) _)
