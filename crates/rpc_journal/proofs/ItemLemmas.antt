-- The items, the calls and the flushes of a history and of its beginnings.
use Rattle.std.proofs.Common.{◌≡◌, ℕ, zero, suc, ◌+◌, ◌≤◌, Bool, true, false, not, ◌==◌, List, [], ◌∷◌, ◌++◌, take, reverse, option_to_list, if◌then◌else◌, refl, ap, sym, ◌∙◌, subst, arith, append_assoc, length-append}
use Rattle.std.proofs.lemmas.Bool.{true≢false}
use Rattle.std.proofs.lemmas.List.{append-nil, reverse-append}
use Rattle.std.specs.List.{AllByRecursion}
use mathlib.Core.List.{IsPrefix}
use Rattle.entry_lists.specs.Entries.{made_by}
use Rattle.rpc_journal.specs.declared.entry.Entry.{Entry}
use Rattle.rpc_journal.specs.declared.entry.EntryKind.{EntryKind}
use Rattle.rpc_journal.specs.declared.entry.EntryKind.TheVariants.{Arrive, Flush}
use Rattle.rpc_journal.specs.declared.item.Item.{Item}
use Rattle.rpc_journal.specs.declared.setting.Setting.{Setting}
use Rattle.rpc_journal.specs.Calls.{calls, call_count}
use Rattle.rpc_journal.specs.Conditions.{IsCall}
use Rattle.rpc_journal.specs.Entries.{effect_of}
use Rattle.rpc_journal.specs.History.{deeds_of, history}
use Rattle.rpc_journal.specs.Items.{arrival_of, arrivals, is_flush, flushes, flush_count, items_sent, items_flushed}
use Rattle.rpc_journal.specs.Lawful.{AllowedAll, IsLawful, is_wrong_seat}
use Rattle.rpc_journal.specs.Laws.{seat_of}
use Rattle.rpc_journal.proofs.Allowed.{allowed}
use Rattle.rpc_journal.proofs.Push.{all-unreverse}

-- the newer entries add to the items
sent_from : (set : Setting) (new old : List Entry) → IsPrefix (items_sent (deeds_of set old)) (items_sent (deeds_of set (new ++ old)))
sent_from set [] old = ([], append-nil _)
sent_from set (e ∷ new) old =
    let before = sent_from set new old in
    let says : List Item = (effect_of set (deeds_of set (new ++ old)) e.kind).says in
    (before.0 ++ says, sym (append_assoc (items_sent (deeds_of set old)) before.0 says) ∙ ap (λ items. items ++ says) before.1)

if_more : (b : Bool) (n : ℕ) → n ≤ (if b then n + 1 else n)
if_more true n = omega arith
if_more false n = omega arith

flushes_from : (set : Setting) (new old : List Entry) → flush_count (deeds_of set old) ≤ flush_count (deeds_of set (new ++ old))
flushes_from set [] old = omega arith
flushes_from set (e ∷ new) old = omega (arith, flushes_from set new old, if_more (is_flush e.kind) (flush_count (deeds_of set (new ++ old))))

calls_from : (set : Setting) (new old : List Entry) → call_count (deeds_of set old) ≤ call_count (deeds_of set (new ++ old))
calls_from set [] old = omega arith
calls_from set (e ∷ new) old =
    omega (arith, calls_from set new old, length-append (calls (deeds_of set (new ++ old))) (option_to_list (effect_of set (deeds_of set (new ++ old)) e.kind).opens))

pub items_begin : (set : Setting) (h more : List Entry) → IsPrefix (items_sent (history set h)) (items_sent (history set (h ++ more)))
items_begin set h more =
    subst (λ es. IsPrefix (items_sent (history set h)) (items_sent (deeds_of set es))) (sym (reverse-append h more)) (sent_from set (reverse more) (reverse h))

-- the first m of a list begin the first n of a longer one, where m is at most n
take_begins : {A : Type 0} (m n : ℕ) (xs rest : List A) → m ≤ n → IsPrefix (take m xs) (take n (xs ++ rest))
take_begins zero n xs rest within = (take n (xs ++ rest), refl)
take_begins (suc m) zero xs rest within = absurd (omega arith)
take_begins (suc m) (suc n) [] rest within = (take (suc n) rest, refl)
take_begins (suc m) (suc n) (x ∷ xs) rest within =
    let inner = take_begins m n xs rest (omega arith) in (inner.0, ap (λ ys. x ∷ ys) inner.1)

pub flushed_begin : (set : Setting) (h more : List Entry) → IsPrefix (items_flushed (history set h)) (items_flushed (history set (h ++ more)))
flushed_begin set h more =
    let sent = items_begin set h more in
    let fewer : flush_count (history set h) ≤ flush_count (history set (h ++ more)) =
    subst (λ es. flush_count (history set h) ≤ flush_count (deeds_of set es)) (sym (reverse-append h more)) (flushes_from set (reverse more) (reverse h)) in
    subst (λ items. IsPrefix (items_flushed (history set h)) (take (flush_count (history set (h ++ more))) items)) sent.1
    (take_begins _ _ (items_sent (history set h)) sent.0 fewer)

-- a call stays there
pub call_stays : (set : Setting) (h more : List Entry) (c : ℕ) → IsCall set h c → IsCall set (h ++ more) c
call_stays set h more c is =
    let fewer : call_count (history set h) ≤ call_count (history set (h ++ more)) =
    subst (λ es. call_count (history set h) ≤ call_count (deeds_of set es)) (sym (reverse-append h more)) (calls_from set (reverse more) (reverse h)) in
    record { below = omega (arith, is.below, fewer) }

-- each entry is of a seat that may make it
pub right_seats : (set : Setting) (es : List Entry) → AllowedAll set es → AllByRecursion (λ e. is_wrong_seat e.seat e.kind ≡ false) es
right_seats set [] all = tt
right_seats set (e ∷ es) all = ((allowed set (deeds_of set es) e all.1).seat, right_seats set es all.0)

arrival_none : (seat : ℕ) (kind : EntryKind) → (seat == 0) ≡ false → is_wrong_seat seat kind ≡ false → arrival_of kind ≡ []
arrival_none seat (Arrive p) other right = absurd (true≢false (sym (ap not other) ∙ right))
arrival_none seat _ other right = refl

flush_none : (seat : ℕ) (kind : EntryKind) → (seat == 1) ≡ false → is_wrong_seat seat kind ≡ false → is_flush kind ≡ false
flush_none seat Flush other right = absurd (true≢false (sym (ap not other) ∙ right))
flush_none seat _ other right = refl

arrivals-made_by : (h : List Entry) → AllByRecursion (λ e. is_wrong_seat e.seat e.kind ≡ false) h → arrivals h ≡ arrivals (made_by seat_of 0 h)
arrivals-made_by [] right = refl
arrivals-made_by (e ∷ h) right = at (e.seat == 0) refl (arrivals-made_by h right.1)
  where
    at : (b : Bool) → (e.seat == 0) ≡ b → arrivals h ≡ arrivals (made_by seat_of 0 h)
        → arrival_of e.kind ++ arrivals h ≡ arrivals (if b then e ∷ made_by seat_of 0 h else made_by seat_of 0 h)
    at true is rest = ap (λ ps. arrival_of e.kind ++ ps) rest
    at false is rest = rw (arrival_none e.seat e.kind is right.0) rest

flushes-made_by : (h : List Entry) → AllByRecursion (λ e. is_wrong_seat e.seat e.kind ≡ false) h → flushes h ≡ flushes (made_by seat_of 1 h)
flushes-made_by [] right = refl
flushes-made_by (e ∷ h) right = at (e.seat == 1) refl (flushes-made_by h right.1)
  where
    at : (b : Bool) → (e.seat == 1) ≡ b → flushes h ≡ flushes (made_by seat_of 1 h)
        → (if is_flush e.kind then flushes h + 1 else flushes h) ≡ flushes (if b then e ∷ made_by seat_of 1 h else made_by seat_of 1 h)
    at true is rest = ap (λ n. if is_flush e.kind then n + 1 else n) rest
    at false is rest = rw (flush_none e.seat e.kind is right.0) rest

pub arrivals_of_seat : (set : Setting) (h : List Entry) → IsLawful set h → arrivals h ≡ arrivals (made_by seat_of 0 h)
arrivals_of_seat set h lawful = arrivals-made_by h (all-unreverse _ h (right_seats set (reverse h) lawful.allowed))

pub flushes_of_seat : (set : Setting) (h : List Entry) → IsLawful set h → flushes h ≡ flushes (made_by seat_of 1 h)
flushes_of_seat set h lawful = flushes-made_by h (all-unreverse _ h (right_seats set (reverse h) lawful.allowed))

flush_count-told : (set : Setting) (es : List Entry) → flush_count (deeds_of set es) ≡ flushes es
flush_count-told set [] = refl
flush_count-told set (e ∷ es) = ap (λ n. if is_flush e.kind then n + 1 else n) (flush_count-told set es)

if_suc : (b : Bool) (m n : ℕ) → (if b then (m + n) + 1 else m + n) ≡ (if b then m + 1 else m) + n
if_suc true m n = omega arith
if_suc false m n = refl

flushes-append : (xs ys : List Entry) → flushes (xs ++ ys) ≡ flushes xs + flushes ys
flushes-append [] ys = omega arith
flushes-append (e ∷ xs) ys = ap (λ n. if is_flush e.kind then n + 1 else n) (flushes-append xs ys) ∙ if_suc (is_flush e.kind) (flushes xs) (flushes ys)

flushes-reverse : (h : List Entry) → flushes (reverse h) ≡ flushes h
flushes-reverse [] = refl
flushes-reverse (e ∷ h) =
    ap flushes (reverse-append (e ∷ []) h)
    ∙ (flushes-append (reverse h) (e ∷ []) ∙ (ap (λ n. n + flushes (e ∷ [])) (flushes-reverse h) ∙ last (is_flush e.kind) (flushes h)))
  where
    last : (b : Bool) (n : ℕ) → n + (if b then 0 + 1 else 0) ≡ (if b then n + 1 else n)
    last true n = omega arith
    last false n = omega arith

pub flushes_count : (set : Setting) (h : List Entry) → flush_count (history set h) ≡ flushes h
flushes_count set h = flush_count-told set (reverse h) ∙ flushes-reverse h
