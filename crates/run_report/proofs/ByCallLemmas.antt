-- One more item, in the list of its call or among the replies.
use Rattle.std.proofs.Common.{◌≡◌, ◌≢◌, ◌⊎◌, inl, inr, ◌<◌, ◌≤◌, ℕ, ◌+◌, ◌==◌, Bool, true, false, List, [], ◌∷◌, ◌++◌, map, filter, length, take, get_or, set, Option, Some, None, is_none, Vec, Global, Bor, refl, sym, ap, ◌∙◌, append_assoc, arith}
use Rattle.std.proofs.lemmas.Bool.Decides.{eqb_tells}
use Rattle.std.specs.List.{flat_map}
use Rattle.std.proofs.lemmas.List.{append-nil, ext_get_or, flat_map_more, length-map, get_or-map, get_or-set_other, get_or-set_same, length-set, map-set, map_push, take_all, take_more}
use Rattle.std.proofs.lemmas.List.Elements.{filter-append}
use Rattle.std.proofs.lemmas.List.FromFn.{get_or-map-range_with_len, length-map-range_with_len}
use Rattle.rpc_journal.specs.declared.item.Item.{Item}
use Rattle.rpc_journal.specs.Items.{is_for}
use Rattle.run_report.specs.declared.items_by_call.ItemsByCall.{ItemsByCall}
use Rattle.run_report.specs.ItemsByCall.{IsByCall, behind, behind_each, items_by_call, items_of_call, replies, with_item}

-- the items that pass a test, with one more that passes it, and with one that doesn't
passes : (test : Item → Bool) (items : List Item) (item : Item) → test item ≡ true → filter test items ++ item ∷ [] ≡ filter test (items ++ item ∷ [])
passes test items item is =
    ap (λ back. filter test items ++ back) (sym (rw is refl)) ∙ sym (filter-append test items (item ∷ []))

fails : (test : Item → Bool) (items : List Item) (item : Item) → test item ≡ false → filter test items ≡ filter test (items ++ item ∷ [])
fails test items item is =
    sym (append-nil _) ∙ ap (λ back. filter test items ++ back) (sym (rw is refl)) ∙ sym (filter-append test items (item ∷ []))

abbrev is_of : ℕ → Item → Bool
is_of call item = is_for call item.call

list_at : (count : ℕ) (items : List Item) (call : ℕ) → call < count → get_or (items_by_call count items) call ([]) ≡ items_of_call call items
list_at count items call within = get_or-map-range_with_len (λ c. items_of_call c items) 0 count call call ([]) within (omega arith)

as_many : (count : ℕ) (items : List Item) → length (items_by_call count items) ≡ count
as_many count items = length-map-range_with_len (λ c. items_of_call c items) 0 count

-- each list, with one more item of a call
each_list :
    (count : ℕ) (items : List Item) (item : Item) (call : ℕ) → item.call ≡ Some call → (i : ℕ) → i < count →
    get_or (with_item call item (items_by_call count items)) i ([]) ≡ items_of_call i (items ++ item ∷ [])
each_list count items item call of i within = by (eqb_tells call i) where
  by : ((call == i) ≡ true) × (call ≡ i) ⊎ ((call == i) ≡ false) × (call ≢ i)
      → get_or (with_item call item (items_by_call count items)) i ([]) ≡ items_of_call i (items ++ item ∷ [])
  by (inl (eq, same)) =
      ap (λ (k : ℕ). get_or (with_item k item (items_by_call count items)) i ([])) same ∙
      get_or-set_same (items_by_call count items) i _ ([]) (omega (arith, as_many count items, within)) ∙
      ap (λ l. l ++ item ∷ []) (list_at count items i within) ∙ passes (is_of i) items item (rw of eq)
  by (inr (ne, other)) =
      get_or-set_other (items_by_call count items) call i _ ([]) (λ e. other (sym e)) ∙
      list_at count items i within ∙ fails (is_of i) items item (rw of ne)

-- an item goes to the list of its call, where there is one
one_of_call :
    (count : ℕ) (items : List Item) (item : Item) (call : ℕ) → item.call ≡ Some call →
    with_item call item (items_by_call count items) ≡ items_by_call count (items ++ item ∷ [])
one_of_call count items item call of =
    ext_get_or ([]) _ _ (length-set (items_by_call count items) call _ ∙ as_many count items ∙ sym (as_many count (items ++ item ∷ [])))
    (λ i within.
    let below : i < count =
    omega (arith, within, length-set (items_by_call count items) call (get_or (items_by_call count items) call ([]) ++ item ∷ []), as_many count items) in
    each_list count items item call of i below ∙ sym (list_at count (items ++ item ∷ []) i below))

-- a reply goes to none
one_of_none :
    (count : ℕ) (items : List Item) (item : Item) → item.call ≡ None → items_by_call count items ≡ items_by_call count (items ++ item ∷ [])
one_of_none count items item of =
    ext_get_or ([]) _ _ (as_many count items ∙ sym (as_many count (items ++ item ∷ [])))
    (λ i within.
    let below : i < count = omega (arith, within, as_many count items) in
    list_at count items i below ∙ fails (is_of i) items item (rw of refl) ∙ sym (list_at count (items ++ item ∷ []) i below))

-- the items up to one, and that one
up_to : (items : List Item) (i : ℕ) (x : Item) → i < length items → x ≡ get_or items i x → take i items ++ x ∷ [] ≡ take (i + 1) items
up_to items i x within at = sym (take_more items i x within ∙ ap (λ y. take i items ++ y ∷ []) (sym at))

-- the lists of those, where this one is of a call, and where it is of none
pub lists_with :
    (count : ℕ) (items : List Item) (i : ℕ) (x : Item) (call : ℕ) (old new : List (List Item)) →
    i < length items → x ≡ get_or items i x → x.call ≡ Some call → old ≡ items_by_call count (take i items) → new ≡ with_item call x old →
    new ≡ items_by_call count (take (i + 1) items)
lists_with count items i x call old new within at of is added =
    added ∙ ap (with_item call x) is ∙ one_of_call count (take i items) x call of ∙ ap (items_by_call count) (up_to items i x within at)

pub lists_without :
    (count : ℕ) (items : List Item) (i : ℕ) (x : Item) (old : List (List Item)) →
    i < length items → x ≡ get_or items i x → x.call ≡ None → old ≡ items_by_call count (take i items) →
    old ≡ items_by_call count (take (i + 1) items)
lists_without count items i x old within at of is =
    is ∙ one_of_none count (take i items) x of ∙ ap (items_by_call count) (up_to items i x within at)

-- and the replies
pub replies_with :
    (items : List Item) (i : ℕ) (x : Item) (old new : Vec (Bor Item) Global) (item : Bor Item) →
    i < length items → x ≡ get_or items i x → x.call ≡ None → item.now ≡ x → behind old ≡ replies (take i items) →
    new.items ≡ old.items ++ item ∷ [] → behind new ≡ replies (take (i + 1) items)
replies_with items i x old new item within at of same is more =
    ap (λ refs. map (λ r. r.now) refs) more ∙ map_push (λ r. r.now) old.items item ∙
    ap (λ front. front ++ item.now ∷ []) is ∙ ap (λ y. replies (take i items) ++ y ∷ []) same ∙
    passes (λ y. is_none y.call) (take i items) x (rw of refl) ∙ ap replies (up_to items i x within at)

pub replies_without :
    (items : List Item) (i : ℕ) (x : Item) (call : ℕ) (old : List Item) →
    i < length items → x ≡ get_or items i x → x.call ≡ Some call → old ≡ replies (take i items) → old ≡ replies (take (i + 1) items)
replies_without items i x call old within at of is =
    is ∙ fails (λ y. is_none y.call) (take i items) x (rw of refl) ∙ ap replies (up_to items i x within at)

-- an item that is pushed to a list
pub pushed :
    (lists : List (Vec (Bor Item) Global)) (call : ℕ) (old new : Vec (Bor Item) Global) (item : Bor Item) →
    call < length lists → old ≡ get_or lists call old → new.items ≡ old.items ++ item ∷ [] →
    behind_each (set lists call new) ≡ with_item call item.now (behind_each lists)
pushed lists call old new item within is more =
    map-set behind lists call new ∙
    ap (λ l. set (behind_each lists) call l)
    (ap (λ refs. map (λ r. r.now) refs) more ∙ map_push (λ r. r.now) old.items item ∙
    ap (λ l. l ++ item.now ∷ []) (ap behind is ∙ sym (get_or-map behind lists call old ([]) within)))

-- what the lists up to one are made into, and that one
pub lists_more :
    (f : List Item → List ℕ) (lists : List (Vec (Bor Item) Global)) (refs : List (Bor Item)) (i : ℕ) (d : Vec (Bor Item) Global)
    (front old new : List ℕ) →
    i < length lists → refs ≡ (get_or lists i d).items → old ≡ front ++ flat_map f (take i (behind_each lists)) →
    new ≡ old ++ f (map (λ item. item.now) refs) → new ≡ front ++ flat_map f (take (i + 1) (behind_each lists))
lists_more f lists refs i d front old new within refs_are is added =
    let list = behind (get_or lists i d) in
    added ∙ ap (λ rs. old ++ f (map (λ item. item.now) rs)) refs_are ∙ ap (λ text. text ++ f list) is ∙
    flat_map_more f front (take i (behind_each lists)) list ∙
    ap (λ part. front ++ flat_map f part)
    (ap (λ l. take i (behind_each lists) ++ l ∷ []) (sym (get_or-map behind lists i d (behind d) within)) ∙
    sym (take_more (behind_each lists) i (behind d) (omega (arith, length-map lists behind, within))))

-- the lines of the replies, and those of all lists
pub lines_of_all :
    (f : List Item → List ℕ) (count : ℕ) (items : List Item) (sorted : ItemsByCall) (refs : List (Bor Item)) (lists : List (Vec (Bor Item) Global))
    (i : ℕ) (old first new : List ℕ) →
    IsByCall count items sorted → refs ≡ sorted.replies.items → lists ≡ sorted.calls.items → length lists ≤ i →
    first ≡ old ++ f (map (λ item. item.now) refs) → new ≡ first ++ flat_map f (take i (behind_each lists)) →
    new ≡ old ++ (f (replies items) ++ flat_map f (items_by_call count items))
lines_of_all f count items sorted refs lists i old first new is refs_are lists_are all of_replies of_calls =
    let part : take i (behind_each lists) ≡ items_by_call count items =
    take_all i (behind_each lists) (omega (arith, length-map lists behind, all)) ∙ ap behind_each lists_are ∙ is.calls in
    of_calls ∙ ap (λ each. first ++ flat_map f each) part ∙
    ap (λ front. front ++ flat_map f (items_by_call count items))
    (of_replies ∙ ap (λ xs. old ++ f xs) (ap (λ rs. map (λ item. item.now) rs) refs_are ∙ is.replies)) ∙
    append_assoc old (f (replies items)) (flat_map f (items_by_call count items))
