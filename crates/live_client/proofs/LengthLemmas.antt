-- What was said in the entries so far.
use Rattle.std.proofs.Common.{◌≡◌, ℕ, zero, suc, ◌+◌, List, [], ◌∷◌, ◌++◌, take, slice_get, Some, ap, sym, ◌∙◌, subst, arith, append_assoc}
use Rattle.std.proofs.lemmas.List.{append-nil}
use Rattle.std.proofs.lemmas.List.Sums.{fold-append}
use Rattle.rpc_journal.specs.declared.entry.Entry.{Entry}
use Rattle.live_client.specs.Histories.{said_by, says_of}
use Rattle.live_client.specs.Lengths.{Work, work_after, work_over}

says_next : (entries : List Entry) (i : ℕ) (e : Entry) → slice_get entries i ≡ Some e → says_of (take (suc i) entries) ≡ says_of (take i entries) ++ said_by e.kind
says_next [] i e there = absurd (cc there)
says_next (x ∷ xs) zero e there = let same : x ≡ e = cc there in ap (λ (y : Entry). said_by y.kind ++ []) same ∙ append-nil (said_by e.kind)
says_next (x ∷ xs) (suc i) e there = ap (λ outs. said_by x.kind ++ outs) (says_next xs i e there) ∙ sym (append_assoc (said_by x.kind) (says_of (take i xs)) (said_by e.kind))

says_more : (entries : List Entry) (i : ℕ) (e : Entry) → slice_get entries i ≡ Some e → says_of (take (i + 1) entries) ≡ says_of (take i entries) ++ said_by e.kind
says_more entries i e there = let is : suc i ≡ i + 1 = omega arith in subst (λ n. says_of (take n entries) ≡ says_of (take i entries) ++ said_by e.kind) is (says_next entries i e there)

pub work_more : (w w' : Work) (first : Work) (entries : List Entry) (i : ℕ) (e : Entry) → slice_get entries i ≡ Some e → w ≡ work_over first (says_of (take i entries)) → w' ≡ work_over w (said_by e.kind)
    → w' ≡ work_over first (says_of (take (i + 1) entries))
work_more w w' first entries i e there before after =
    after ∙ (ap (λ x. work_over x (said_by e.kind)) before ∙ (sym (fold-append work_after first (says_of (take i entries)) (said_by e.kind)) ∙ ap (work_over first) (sym (says_more entries i e there))))
