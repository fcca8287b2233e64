-- Histories with one more entry, and histories that begin others.
use Rattle.std.proofs.Common.{◌≡◌, List, [], ◌∷◌, ◌++◌, reverse, None, ap, sym, subst}
use Rattle.std.proofs.lemmas.List.{reverse-append, reverse-reverse}
use Rattle.std.specs.List.{AllByRecursion}
use mathlib.Core.List.{IsPrefix}
use Rattle.rpc_handlers.specs.HandlerRule.{HandlerRule}
use Rattle.rpc_journal.specs.declared.entry.Entry.{Entry}
use Rattle.rpc_journal.specs.declared.setting.Setting.{Setting}
use Rattle.rpc_journal.specs.History.{deeds_of, deeds_with, history}
use Rattle.rpc_journal.specs.Lawful.{broken, AllowedAll, AnsweredAll, IsAnsweredByRule, IsLawful, IsLegal}

-- one more entry
pub history-push : (set : Setting) (h : List Entry) (e : Entry) → history set (h ++ e ∷ []) ≡ deeds_with set (history set h) e
history-push set h e = ap (deeds_of set) (reverse-append h (e ∷ []))

pub lawful-push : (set : Setting) (h : List Entry) (e : Entry)
    → IsLawful set h → broken set (history set h) e ≡ None → IsLawful set (h ++ e ∷ [])
lawful-push set h e lawful fits =
    record { allowed = subst (AllowedAll set) (sym (reverse-append h (e ∷ []))) (lawful.allowed, fits) }

pub legal-push : (rule : HandlerRule) (set : Setting) (h : List Entry) (e : Entry)
    → IsLegal rule set h → broken set (history set h) e ≡ None → IsAnsweredByRule rule set (history set h) e.kind
    → IsLegal rule set (h ++ e ∷ [])
legal-push rule set h e legal fits answered = record {
  lawful = lawful-push set h e legal.lawful fits;
  answered = subst (AnsweredAll rule set) (sym (reverse-append h (e ∷ []))) (legal.answered, answered);
}

-- of entries that stand the newest first: what holds of all holds of the older ones
pub allowed-older : (set : Setting) (new old : List Entry) → AllowedAll set (new ++ old) → AllowedAll set old
allowed-older set [] old all = all
allowed-older set (e ∷ new) old all = allowed-older set new old all.0

pub answered-older : (rule : HandlerRule) (set : Setting) (new old : List Entry) → AnsweredAll rule set (new ++ old) → AnsweredAll rule set old
answered-older rule set [] old all = all
answered-older rule set (e ∷ new) old all = answered-older rule set new old all.0

-- a lawful history that goes on, the newest first
pub allowed-parts : (set : Setting) (h more : List Entry) → IsLawful set (h ++ more) → AllowedAll set (reverse more ++ reverse h)
allowed-parts set h more lawful = subst (AllowedAll set) (reverse-append h more) lawful.allowed

-- a beginning of a lawful history
pub lawful-front : (set : Setting) (h more : List Entry) → IsLawful set (h ++ more) → IsLawful set h
lawful-front set h more lawful = record { allowed = allowed-older set (reverse more) (reverse h) (allowed-parts set h more lawful) }

pub legal-front : (rule : HandlerRule) (set : Setting) (h more : List Entry) → IsLegal rule set (h ++ more) → IsLegal rule set h
legal-front rule set h more legal = record {
  lawful = lawful-front set h more legal.lawful;
  answered = answered-older rule set (reverse more) (reverse h) (subst (AnsweredAll rule set) (reverse-append h more) legal.answered);
}

pub beginning_is_lawful : (set : Setting) (h all : List Entry) → IsPrefix h all → IsLawful set all → IsLawful set h
beginning_is_lawful set h all begin lawful = lawful-front set h begin.0 (subst (IsLawful set) (sym begin.1) lawful)

pub beginning_is_legal : (rule : HandlerRule) (set : Setting) (h all : List Entry) → IsPrefix h all → IsLegal rule set all → IsLegal rule set h
beginning_is_legal rule set h all begin legal = legal-front rule set h begin.0 (subst (IsLegal rule set) (sym begin.1) legal)

module _ {A : Type 0} (P : A → Type 0) where
  all-append : (xs ys : List A) → AllByRecursion P xs → AllByRecursion P ys → AllByRecursion P (xs ++ ys)
  all-append [] ys left right = right
  all-append (x ∷ xs) ys left right = (left.0, all-append xs ys left.1 right)

  -- what holds of each of these holds of each of them in the other order
  pub all-reverse : (xs : List A) → AllByRecursion P xs → AllByRecursion P (reverse xs)
  all-reverse [] all = tt
  all-reverse (x ∷ xs) all =
      subst (AllByRecursion P) (sym (reverse-append (x ∷ []) xs)) (all-append (reverse xs) (x ∷ []) (all-reverse xs all.1) (all.0, tt))

  pub all-unreverse : (xs : List A) → AllByRecursion P (reverse xs) → AllByRecursion P xs
  all-unreverse xs all = subst (AllByRecursion P) (reverse-reverse xs) (all-reverse (reverse xs) all)
