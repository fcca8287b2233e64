-- The items of each call by itself.
use Rattle.std.specs.Prelude.{◌≡◌, ℕ, List, [], ◌∷◌, ◌++◌, map, filter, get_or, set, Option, Some, None, is_none, Vec}
use Rattle.std.specs.Borrow.{Bor}
use Rattle.std.specs.Global.{Global}
use Rattle.std.specs.List.{range_with_len}
use Rattle.rpc_journal.specs.declared.item.Item.{Item}
use Rattle.rpc_journal.specs.Items.{is_for}
use Rattle.run_report.specs.declared.items_by_call.ItemsByCall.{ItemsByCall}

-- the items of a call, in order
abbrev pub items_of_call : ℕ → List Item → List Item
items_of_call call items = filter (λ item. is_for call item.call) items

-- those of each of so many calls, by number
abbrev pub items_by_call : ℕ → List Item → List (List Item)
items_by_call count items = map (λ call. items_of_call call items) (range_with_len 0 count)

-- the items without a call, in order: what was answered where no call was open
abbrev pub replies : List Item → List Item
replies items = filter (λ item. is_none item.call) items

-- the items behind these references
abbrev pub behind : Vec (Bor Item) Global → List Item
behind refs = map (λ item. item.now) refs.items

abbrev pub behind_each : List (Vec (Bor Item) Global) → List (List Item)
behind_each lists = map behind lists

-- with one more item in the list of this call, where there is one
abbrev pub with_item : ℕ → Item → List (List Item) → List (List Item)
with_item call item lists = set lists call (get_or lists call ([]) ++ item ∷ [])

-- the items of so many calls stand in the list of their call, and those without a call in theirs
pub record IsByCall (count : ℕ) (items : List Item) (sorted : ItemsByCall) : Type 0 where
  pub replies : behind sorted.replies ≡ replies items
  pub calls : behind_each sorted.calls.items ≡ items_by_call count items
