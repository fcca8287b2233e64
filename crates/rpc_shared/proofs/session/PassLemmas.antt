-- Passes that go on.
use Rattle.std.proofs.Common.{◌≡◌, ◌⊎◌, ℕ, ◌≤◌, Bool, true, List, [], ◌∷◌, ◌++◌, length, refl, ap, sym, ◌∙◌, subst, inl, inr, arith, append_assoc, eq-eqb, length-append}
use Rattle.std.proofs.lemmas.List.{append-nil}
use mathlib.Core.List.{IsPrefix}
use Rattle.entry_lists.specs.Entries.{made_by}
use Rattle.entry_lists.proofs.Makers.{all_append, goes_on_own, made_by-append, none_behind}
use Rattle.entry_lists.proofs.Prefixes.{prefix_append, prefix_self, prefix_trans}
use Rattle.turn_cell.proofs.Calls.{same_self, same_trans}
use Rattle.rpc_handlers.specs.HandlerRule.{HandlerRule}
use Rattle.rpc_journal.specs.declared.entry.Entry.{Entry}
use Rattle.rpc_journal.specs.declared.entry.EntryKind.{EntryKind}
use Rattle.rpc_journal.specs.declared.entry.EntryKind.TheVariants.{Start, Finish, Halt}
use Rattle.rpc_journal.specs.declared.entry.TheConstants.{MAX_ENTRIES}
use Rattle.rpc_journal.specs.History.{adding, entry_by}
use Rattle.rpc_journal.specs.Laws.{seat_of}
use Rattle.rpc_shared.specs.Steps.{Step, Steps}
use Rattle.link_io.specs.declared.why.Why.TheVariants.{JournalLimit}
use Rattle.rpc_shared.specs.session.Crew.{Adds, AreOf, IsLate, Lock, Seat, Stands, Worker, is_feeding, is_workers}

-- where an entry of two lists one after the other stands: in the first, or in the second
abbrev pub Split : {A : Type 0} → A → List A → List A → List A → List A → Type 0
Split {A} e xs ys front back = ((mid : List A) × (xs ≡ front ++ e ∷ mid)) ⊎ ((part : List A) × (front ≡ xs ++ part) × (ys ≡ part ++ e ∷ back))

pub split_at : {A : Type 0} (e : A) (xs ys front back : List A) → xs ++ ys ≡ front ++ e ∷ back → Split e xs ys front back
split_at e [] ys front back is = inr (front, refl, is)
split_at e (x ∷ xs) ys [] back is = inl (xs, cc is)
split_at {A} e (x ∷ xs) ys (y ∷ front) back is = at (split_at e xs ys front back (cc is))
  where
    at : Split e xs ys front back → Split e (x ∷ xs) ys (y ∷ front) back
    at (inl s) = inl (s.0, cc (is, s.1))
    at (inr s) = inr (s.0, cc (is, s.1), s.2)

-- an entry of a seat is among the seat's entries
pub own_there : (k : ℕ) (kind : EntryKind) (part back : List Entry) → made_by seat_of k (part ++ entry_by k kind ∷ back) ≡ [] → ⊥
own_there k kind part back none =
    let one : made_by seat_of k (entry_by k kind ∷ back) ≡ entry_by k kind ∷ made_by seat_of k back = rw (eq-eqb k k refl) refl in
    let all : made_by seat_of k part ++ entry_by k kind ∷ made_by seat_of k back ≡ [] =
    ap (λ es. made_by seat_of k part ++ es) (sym one) ∙ (sym (made_by-append seat_of k part (entry_by k kind ∷ back)) ∙ none) in
    absurd (omega (arith, ap length all, length-append (made_by seat_of k part) (entry_by k kind ∷ made_by seat_of k back)))

-- a late Halt is late in a longer history, where others alone went on
pub late_still : (k : ℕ) (seen whole : List Entry) → IsPrefix seen whole → made_by seat_of k whole ≡ made_by seat_of k seen → IsLate k seen → IsLate k whole
late_still k seen whole begins own late front back is = at (split_at (entry_by k (Halt JournalLimit)) seen begins.0 front back (begins.1 ∙ is))
  where
    none : made_by seat_of k begins.0 ≡ []
    none = none_behind seat_of k seen begins.0 (ap (made_by seat_of k) begins.1 ∙ own)

    at : Split (entry_by k (Halt JournalLimit)) seen begins.0 front back → MAX_ENTRIES ≤ length front
    at (inl s) = late front s.0 s.1
    at (inr s) = absurd (own_there k (Halt JournalLimit) s.0 back (ap (made_by seat_of k) (sym s.2) ∙ none))

-- and where the seat adds an entry that is no such Halt, or comes late
pub late_more : (k : ℕ) (before : List Entry) (kind : EntryKind) → IsLate k before → (kind ≡ Halt JournalLimit → MAX_ENTRIES ≤ length before) → IsLate k (adding before k kind)
late_more k before kind late full front back is = at (split_at (entry_by k (Halt JournalLimit)) before (entry_by k kind ∷ []) front back is)
  where
    last : (part : List Entry) → front ≡ before ++ part → entry_by k kind ∷ [] ≡ part ++ entry_by k (Halt JournalLimit) ∷ back → MAX_ENTRIES ≤ length front
    last [] at_end one =
        let same : entry_by k kind ≡ entry_by k (Halt JournalLimit) = cc one in
        omega (arith, full (ap (λ (e : Entry). e.kind) same), ap length at_end, length-append before [])
    last (x ∷ part) at_end one = absurd (omega (arith, ap length one, length-append part (entry_by k (Halt JournalLimit) ∷ back)))

    at : Split (entry_by k (Halt JournalLimit)) before (entry_by k kind ∷ []) front back → MAX_ENTRIES ≤ length front
    at (inl s) = late front s.0 s.1
    at (inr s) = last s.0 s.1 s.2

module _ (rule : HandlerRule) (r : Lock) (p q : Seat) (step : Step) where
  -- after a call of the table the pass has seen all its own entries
  shown_after : Steps rule r p q step → made_by seat_of p.view.known.number q.view.known.seen ≡ q.view.known.mine
  shown_after s =
      goes_on_own seat_of p.view.known.number s.before q.view.known.seen s.adds
      ∙ (ap (λ es. es ++ s.adds.added) s.own ∙ sym (s.mine s.adds.added s.adds.whole_is))

  -- a call that added nothing
  pub adds_none : (test : EntryKind → Bool) → (s : Steps rule r p q step) → q.view.known.seen ≡ s.before → Adds rule r test p q
  adds_none test s same = record {
    same = s.same;
    own = s.own_still;
    legal = s.legal_after;
    shown = shown_after s;
    begins = subst (IsPrefix p.view.known.seen) (sym same) s.begins;
    added = [];
    mine = s.mine [] (same ∙ sym (append-nil s.before));
    kinds = tt;
    late = λ late. subst (IsLate p.view.known.number) (sym same) (late_still p.view.known.number p.view.known.seen s.before s.begins (s.own ∙ sym s.shown) late);
  }

  -- a call that added one entry
  pub adds_one : (test : EntryKind → Bool) (kind : EntryKind) → (s : Steps rule r p q step) → q.view.known.seen ≡ adding s.before p.view.known.number kind
      → test kind ≡ true → (kind ≡ Halt JournalLimit → MAX_ENTRIES ≤ length s.before) → Adds rule r test p q
  adds_one test kind s is may full = record {
    same = s.same;
    own = s.own_still;
    legal = s.legal_after;
    shown = shown_after s;
    begins = subst (IsPrefix p.view.known.seen) (sym is) (prefix_trans p.view.known.seen s.before _ s.begins (prefix_append s.before _));
    added = entry_by p.view.known.number kind ∷ [];
    mine = s.mine (entry_by p.view.known.number kind ∷ []) is;
    kinds = (may, tt);
    late = λ late. subst (IsLate p.view.known.number) (sym is)
        (late_more p.view.known.number s.before kind (late_still p.view.known.number p.view.known.seen s.before s.begins (s.own ∙ sym s.shown) late) full);
  }

-- a pass that stays
pub adds_self : (rule : HandlerRule) (r : Lock) (test : EntryKind → Bool) (p : Seat) → Stands rule r p → Adds rule r test p p
adds_self rule r test p stands = record {
  same = same_self p;
  own = stands.own;
  legal = stands.legal;
  shown = stands.shown;
  begins = prefix_self p.view.known.seen;
  added = [];
  mine = sym (append-nil p.view.known.mine);
  kinds = tt;
  late = λ late. late;
}

-- one that goes on twice
pub adds_trans : (rule : HandlerRule) (r : Lock) (test : EntryKind → Bool) (p m q : Seat) → Adds rule r test p m → Adds rule r test m q → Adds rule r test p q
adds_trans rule r test p m q first second =
    let number : m.view.known.number ≡ p.view.known.number = first.same.number in record {
      same = same_trans p m q first.same second.same;
      own = second.own;
      legal = second.legal;
      shown = subst (λ n. made_by seat_of n q.view.known.seen ≡ q.view.known.mine) number second.shown;
      begins = prefix_trans p.view.known.seen m.view.known.seen q.view.known.seen first.begins second.begins;
      added = first.added ++ second.added;
      mine = second.mine ∙ (ap (λ es. es ++ second.added) first.mine ∙ append_assoc p.view.known.mine first.added second.added);
      kinds = all_append (λ e. test e.kind ≡ true) first.added second.added first.kinds second.kinds;
      late = λ late. subst (λ n. IsLate n q.view.known.seen) number (second.late (subst (λ n. IsLate n m.view.known.seen) (sym number) (first.late late)));
    }

pub of_weaker : (narrow wide : EntryKind → Bool) → ((kind : EntryKind) → narrow kind ≡ true → wide kind ≡ true) → (entries : List Entry) → AreOf narrow entries → AreOf wide entries
of_weaker narrow wide wider [] all = tt
of_weaker narrow wide wider (e ∷ es) all = (wider e.kind all.0, of_weaker narrow wide wider es all.1)

-- a narrower test is a wider one too
pub adds_weaker : (rule : HandlerRule) (r : Lock) (narrow wide : EntryKind → Bool) (p q : Seat) → ((kind : EntryKind) → narrow kind ≡ true → wide kind ≡ true)
    → Adds rule r narrow p q → Adds rule r wide p q
adds_weaker rule r narrow wide p q wider adds = record {
  same = adds.same;
  own = adds.own;
  legal = adds.legal;
  shown = adds.shown;
  begins = adds.begins;
  added = adds.added;
  mine = adds.mine;
  kinds = of_weaker narrow wide wider adds.added adds.kinds;
  late = adds.late;
}

pub workers_feed : (kind : EntryKind) → is_workers kind ≡ true → is_feeding kind ≡ true
workers_feed (Start c) is = refl
workers_feed (Finish c a) is = refl
workers_feed (Halt why) is = is
workers_feed _ is = absurd cc

pub stands_after : (rule : HandlerRule) (r : Lock) (test : EntryKind → Bool) (p q : Seat) → Stands rule r p → Adds rule r test p q → Stands rule r q
stands_after rule r test p q stands adds =
    let number : q.view.known.number ≡ p.view.known.number = adds.same.number in record {
      own = adds.own;
      legal = adds.legal;
      shown = subst (λ n. made_by seat_of n q.view.known.seen ≡ q.view.known.mine) (sym number) adds.shown;
      late = subst (λ n. IsLate n q.view.known.seen) (sym number) (adds.late stands.late);
    }

-- what holds of the entries before and of those added holds of all
pub kinds_after : (rule : HandlerRule) (r : Lock) (test : EntryKind → Bool) (p q : Seat) → AreOf test p.view.known.mine → Adds rule r test p q → AreOf test q.view.known.mine
kinds_after rule r test p q kinds adds = subst (AreOf test) (sym adds.mine) (all_append (λ e. test e.kind ≡ true) p.view.known.mine adds.added kinds adds.kinds)

pub worker_after : (rule : HandlerRule) (r : Lock) (p q : Seat) → Worker rule r p → Adds rule r is_workers p q → Worker rule r q
worker_after rule r p q worker adds = record {
  stands = stands_after rule r is_workers p q worker.stands adds;
  kinds = kinds_after rule r is_workers p q worker.kinds adds;
}
