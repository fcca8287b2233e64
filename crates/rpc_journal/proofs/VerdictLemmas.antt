-- How a judge walks a journal.
use Rattle.std.proofs.Common.{◌≡◌, ℕ, zero, suc, ◌+◌, ◌≤◌, List, [], ◌∷◌, ◌++◌, length, take, drop, reverse, slice_get, Some, None, refl, ap, sym, ◌∙◌, subst, add-one, arith, length-take}
use Rattle.std.proofs.lemmas.List.{length-reverse, reverse-append, take-append-drop}
use Rattle.rpc_journal.specs.declared.entry.Entry.{Entry}
use Rattle.rpc_journal.specs.declared.fault.Fault.{Fault}
use Rattle.rpc_journal.specs.declared.setting.Setting.{Setting}
use Rattle.rpc_journal.specs.Faults.{IsFirstFault}
use Rattle.rpc_journal.specs.History.{history, deeds_with, deeds_of}
use Rattle.rpc_journal.specs.Lawful.{AllowedAll, IsLawful, broken}
use Rattle.rpc_journal.proofs.Push.{history-push, lawful-front, lawful-push}

take_suc : {A : Type 0} (xs : List A) (k : ℕ) (x : A) → slice_get xs k ≡ Some x → take (suc k) xs ≡ take k xs ++ x ∷ []
take_suc [] k x there = absurd cc
take_suc (y ∷ ys) zero x there = cc
take_suc (y ∷ ys) (suc k) x there = ap (λ zs. y ∷ zs) (take_suc ys k x there)

pub take_next : {A : Type 0} (xs : List A) (k : ℕ) (x : A) → slice_get xs k ≡ Some x → take (k + 1) xs ≡ take k xs ++ x ∷ []
take_next xs k x there = ap (λ n. take n xs) (add-one k) ∙ take_suc xs k x there

told_length : (set : Setting) (h : List Entry) → length (deeds_of set h) ≡ length h
told_length set [] = refl
told_length set (e ∷ h) = ap suc (told_length set h)

pub history_length : (set : Setting) (h : List Entry) → length (history set h) ≡ length h
history_length set h = told_length set (reverse h) ∙ length-reverse h

pub lawful_next : (set : Setting) (h : List Entry) (at : ℕ) (e : Entry) → slice_get h at ≡ Some e → IsLawful set (take at h)
    → broken set (history set (take at h)) e ≡ None → IsLawful set (take (at + 1) h)
lawful_next set h at e there lawful fits =
    subst (IsLawful set) (sym (take_next h at e there)) (lawful-push set (take at h) e lawful fits)

pub history_next : (set : Setting) (h : List Entry) (at : ℕ) (e : Entry) → slice_get h at ≡ Some e
    → history set (take (at + 1) h) ≡ deeds_with set (history set (take at h)) e
history_next set h at e there = ap (history set) (take_next h at e there) ∙ history-push set (take at h) e

-- a history with a fault isn't lawful
pub faulty : (set : Setting) (h : List Entry) (fault : Fault) → IsFirstFault set h fault → IsLawful set h → ⊥
faulty set h fault first lawful =
    let front : IsLawful set (take (fault.at + 1) h) =
    lawful-front set (take (fault.at + 1) h) (drop (fault.at + 1) h) (subst (IsLawful set) (sym (take-append-drop (fault.at + 1) h)) lawful) in
    let both : IsLawful set (take fault.at h ++ first.entry ∷ []) = subst (IsLawful set) (take_next h fault.at first.entry first.there) front in
    let all : AllowedAll set (first.entry ∷ reverse (take fault.at h)) =
    subst (AllowedAll set) (reverse-append (take fault.at h) (first.entry ∷ [])) both.allowed in
    at (sym first.breaks ∙ all.1)
  where
    at : {A : Type 0} {x : A} → Some x ≡ None → ⊥
    at is = cc

pub take_all : {A : Type 0} (xs : List A) (k : ℕ) → length xs ≤ k → take k xs ≡ xs
take_all [] zero past = refl
take_all [] (suc k) past = refl
take_all (x ∷ xs) zero past = absurd (omega arith)
take_all (x ∷ xs) (suc k) past = ap (λ ys. x ∷ ys) (take_all xs k (omega arith))

pub its_place : (set : Setting) (h : List Entry) (at : ℕ) → at ≤ length h → at ≡ length (history set (take at h))
its_place set h at within = omega (arith, history_length set (take at h), length-take at h)
