-- Lists of passes.
use Rattle.std.proofs.Common.{◌≡◌, suc, ◌≤◌, List, [], ◌∷◌, ◌++◌, length, slice_index_or, refl, ap, sym, ◌∙◌, arith}
use Rattle.std.specs.List.{remove}
use Rattle.entry_lists.proofs.Makers.{all_first, all_second}
use Rattle.rpc_handlers.specs.HandlerRule.{HandlerRule}
use Rattle.turn_cell.specs.Passes.{IsSame}
use Rattle.rpc_shared.specs.session.Crew.{AllWorked, AreWorkers, Lock, Seat, Worker}

module _ (rule : HandlerRule) (r : Lock) where
  pub are_front : (ps : List Seat) (p : Seat) → AreWorkers rule r (ps ++ p ∷ []) → AreWorkers rule r ps
  are_front ps p all = all_first (Worker rule r) ps (p ∷ []) all

  pub is_last : (ps : List Seat) (p : Seat) → AreWorkers rule r (ps ++ p ∷ []) → Worker rule r p
  is_last ps p all = (all_second (Worker rule r) ps (p ∷ []) all).0

  pub worked_more : (ps qs : List Seat) (p q : Seat) → AllWorked rule r ps qs → Worker rule r q → IsSame p q → AllWorked rule r (ps ++ p ∷ []) (qs ++ q ∷ [])
  worked_more [] [] p q worked worker same = ((worker, same), tt)
  worked_more [] (y ∷ qs) p q worked worker same = absurd worked
  worked_more (x ∷ ps) [] p q worked worker same = absurd worked
  worked_more (x ∷ ps) (y ∷ qs) p q worked worker same = (worked.0, worked_more ps qs p q worked.1 worker same)

  pub worked_length : (ps qs : List Seat) → AllWorked rule r ps qs → length qs ≡ length ps
  worked_length [] [] worked = refl
  worked_length [] (y ∷ qs) worked = absurd worked
  worked_length (x ∷ ps) [] worked = absurd worked
  worked_length (x ∷ ps) (y ∷ qs) worked = ap suc (worked_length ps qs worked.1)

-- a list whose second, then first, then last element were taken out
pub taken_apart : {A : Type 0} (l m n front : List A) (second first last : A) → 3 ≤ length l → second ≡ slice_index_or l 1 second → m ≡ remove l 1
    → first ≡ slice_index_or m 0 first → n ≡ remove m 0 → n ≡ front ++ last ∷ [] → l ≡ first ∷ second ∷ (front ++ last ∷ [])
taken_apart [] _ _ _ _ _ _ enough _ _ _ _ _ = absurd (omega arith)
taken_apart (x ∷ []) _ _ _ _ _ _ enough _ _ _ _ _ = absurd (omega arith)
taken_apart (x ∷ y ∷ l) m n front second first last enough at_one left_one at_zero left_zero ends =
    let one : second ≡ y = at_one in
    let zero : first ≡ x = at_zero ∙ ap (λ k. slice_index_or k 0 first) left_one in
    let rest : l ≡ front ++ last ∷ [] = sym (left_zero ∙ ap (λ k. remove k 0) left_one) ∙ ends in
    cc
