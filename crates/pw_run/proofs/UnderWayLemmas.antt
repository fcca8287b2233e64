-- What an item does to the keys of a store's uploads.
use Rattle.std.proofs.Common.{◌≡◌, ℕ, ◌==◌, cond, Bool, true, false, not, List, [], ◌∷◌, ◌++◌, Option, Some, None, refl, ap, sym, ◌∙◌}
use Rattle.std.proofs.lemmas.Map.{keys-set_value}
use Rattle.std.proofs.lemmas.List.{map-append}
use Rattle.std.proofs.lemmas.List.Sums.{fold-append}
use Rattle.std.specs.Prelude.{filter, option_map}
use Rattle.std.specs.declared.cmp.Ordering.{Ordering}
use Rattle.std.specs.declared.cmp.Ordering.TheVariants.{Less, Equal, Greater}
use Rattle.std.specs.Ordering.{is_eq, match_ordering, nat_cmp, ordering_then}
use Rattle.std.specs.Cmp.{nat_cmp_is}
use Rattle.std.specs.Map.{keys_of, lookup, remove_entry}
use Rattle.std.specs.Set.{remove_key}
use Rattle.std.specs.BTreeMap.{insert_entry}
use Rattle.std.specs.BTreeSet.{insert_key}
use Rattle.link_io.specs.declared.store.StoreKey.{StoreKey}
use Rattle.rpc_handlers.specs.declared.answer.Out.TheVariants.{Begin, Commit}
use Rattle.rpc_journal.specs.declared.item.Act.TheVariants.{Keep, LeaveCall}
use Rattle.rpc_journal.specs.declared.item.Item.{Item}
use Rattle.rpc_schedule.specs.Kept.{Holds, change_of, kept, key}
use Rattle.pw_run.specs.UnderWay.{LeavesNone, leave_of, leaves, nothing, under_way}
use Rattle.link_io.specs.Stored.{Stored, Work, abandoned, abandoned_of, all_abandoned, appended, appended_to, begun, committed, committed_of, is_key, key_cmp, work_of}

keys-insert_entry : {K X : Type 0} (cmp : K → K → Ordering) (es : List (K × X)) (k : K) (v : X) → keys_of (insert_entry cmp es k v) ≡ insert_key cmp (keys_of es) k
keys-insert_entry cmp [] k v = refl
keys-insert_entry {K} {X} cmp (e ∷ es) k v = at (keys-insert_entry cmp es k v) (cmp k e.0)
  where
    at : keys_of (insert_entry cmp es k v) ≡ insert_key cmp (keys_of es) k → (o : Ordering) → keys_of (match_ordering o ((k, v) ∷ e ∷ es) ((e.0, v) ∷ es) (e ∷ insert_entry cmp es k v)) ≡ match_ordering o (k ∷ e.0 ∷ keys_of es) (e.0 ∷ keys_of es) (e.0 ∷ insert_key cmp (keys_of es) k)
    at rest Less = refl
    at rest Equal = refl
    at rest Greater = ap (λ ks. e.0 ∷ ks) rest

keys-remove_entry : {K X : Type 0} (test : K → Bool) (es : List (K × X)) → keys_of (remove_entry test es) ≡ remove_key test (keys_of es)
keys-remove_entry test [] = refl
keys-remove_entry test (e ∷ es) = at (keys-remove_entry test es) (test e.0)
  where
    at : keys_of (remove_entry test es) ≡ remove_key test (keys_of es) → (b : Bool) → keys_of (cond b es (e ∷ remove_entry test es)) ≡ cond b (keys_of es) (e.0 ∷ remove_key test (keys_of es))
    at rest true = refl
    at rest false = ap (λ ks. e.0 ∷ ks) rest

keys-filter : {K X : Type 0} (test : K → Bool) (es : List (K × X)) → keys_of (filter (λ e. test e.0) es) ≡ filter test (keys_of es)
keys-filter test [] = refl
keys-filter test (e ∷ es) = at (keys-filter test es) (test e.0)
  where
    at : keys_of (filter (λ e. test e.0) es) ≡ filter test (keys_of es) → (b : Bool) → keys_of (cond b (e ∷ filter (λ e. test e.0) es) (filter (λ e. test e.0) es)) ≡ cond b (e.0 ∷ filter test (keys_of es)) (filter test (keys_of es))
    at rest true = ap (λ ks. e.0 ∷ ks) rest
    at rest false = rest

-- nothing is found, so nothing is removed
remove-none : {K X : Type 0} (test : K → Bool) (es : List (K × X)) → lookup test es ≡ None → remove_key test (keys_of es) ≡ keys_of es
remove-none test [] none = refl
remove-none {K} {X} test (e ∷ es) none = at (remove-none test es) (test e.0) none
  where
    at : (lookup test es ≡ None → remove_key test (keys_of es) ≡ keys_of es) → (b : Bool) → cond b (Some e.1) (lookup test es) ≡ None → cond b (keys_of es) (e.0 ∷ remove_key test (keys_of es)) ≡ e.0 ∷ keys_of es
    at rest true none = absurd (cc none)
    at rest false none = ap (λ ks. e.0 ∷ ks) (rest none)

pub begun_keys : (key : StoreKey) (resource offset : ℕ) (s : Stored) → keys_of (begun key resource offset s).work ≡ insert_key key_cmp (keys_of s.work) key
begun_keys key resource offset s = keys-insert_entry key_cmp s.work key _

pub appended_keys : (key : StoreKey) (bytes : List ℕ) (s : Stored) → keys_of (appended key bytes s).work ≡ keys_of s.work
appended_keys key bytes s = at (work_of key s.work)
  where
    at : (w : Option Work) → keys_of (appended_to key bytes w s).work ≡ keys_of s.work
    at None = refl
    at (Some w) = keys-set_value (is_key key) s.work _

pub committed_keys : (key : StoreKey) (s : Stored) → keys_of (committed key s).work ≡ remove_key (is_key key) (keys_of s.work)
committed_keys key s = at (work_of key s.work) refl
  where
    at : (w : Option Work) → work_of key s.work ≡ w → keys_of (committed_of key w s).work ≡ remove_key (is_key key) (keys_of s.work)
    at None is = sym (remove-none (is_key key) s.work is)
    at (Some w) is = keys-remove_entry (is_key key) s.work

pub abandoned_keys : (key : StoreKey) (s : Stored) → keys_of (abandoned key s).work ≡ remove_key (is_key key) (keys_of s.work)
abandoned_keys key s = at (work_of key s.work) refl
  where
    at : (w : Option Work) → work_of key s.work ≡ w → keys_of (abandoned_of key w s).work ≡ remove_key (is_key key) (keys_of s.work)
    at None is = sym (remove-none (is_key key) s.work is)
    at (Some w) is = keys-remove_entry (is_key key) s.work

pub all_abandoned_keys : (call : ℕ) (s : Stored) → keys_of (all_abandoned call s).work ≡ filter (λ key. not (key.call == call)) (keys_of s.work)
all_abandoned_keys call s = keys-filter (λ key. not (key.call == call)) s.work

-- what the store actions of one item more make of a store
pub kept_more : (items : List Item) (item : Item) (s : Stored) → kept (items ++ item ∷ []) s ≡ change_of item.call item.act (kept items s)
kept_more items item s = fold-append (λ st item. change_of item.call item.act st) s items (item ∷ [])

-- none was left
pub none_left : (st : Option Stored) → Holds (leaves []) st st
none_left None = refl
none_left (Some s) = refl

-- one upload more was left
pub left_more : (keys : List StoreKey) (key : StoreKey) (before old new : Option Stored) → Holds (leaves keys) before old → new ≡ option_map (abandoned key) old
    → Holds (leaves (keys ++ key ∷ [])) before new
left_more keys key before old new held is = is ∙ (ap (option_map (abandoned key)) held ∙ at before)
  where
    at : (before : Option Stored) → option_map (abandoned key) (option_map (kept (leaves keys)) before) ≡ option_map (kept (leaves (keys ++ key ∷ []))) before
    at None = refl
    at (Some s) = ap Some (sym (ap (λ items. kept items s) (map-append leave_of keys (key ∷ [])) ∙ kept_more (leaves keys) (leave_of key) s))

-- a key is found where it stands
self_key : (k : StoreKey) → is_key k k ≡ true
self_key k =
    sym (ap is_eq (nat_cmp_is k.session k.session Equal refl) ∙
    ap (λ o. is_eq (ordering_then o (nat_cmp k.session k.session))) (nat_cmp_is k.call k.call Equal refl))

no_keys : {K X : Type 0} (es : List (K × X)) → keys_of es ≡ [] → es ≡ []
no_keys [] is = refl
no_keys (e ∷ es) is = absurd (cc is)

all_left : (keys : List StoreKey) (s : Stored) → keys_of s.work ≡ keys → (kept (leaves keys) s).work ≡ []
all_left [] s is = no_keys s.work is
all_left (k ∷ keys) s is =
    all_left keys (abandoned k s)
    (abandoned_keys k s ∙ (ap (remove_key (is_key k)) is ∙ ap (λ b. cond b keys (k ∷ remove_key (is_key k) keys)) (self_key k)))

pub leaves_none : LeavesNone
leaves_none items =
    ap (λ (s : Stored). s.work) (fold-append (λ st item. change_of item.call item.act st) nothing items (leaves (under_way items))) ∙
    all_left (under_way items) (kept items nothing) refl

-- an example: of three uploads one is committed, and one is of a call that is left
example :
    under_way (
    record { call = Some 0; act = Keep (Begin 1 7 0) }
    ∷ record { call = Some 0; act = Keep (Begin 2 8 0) }
    ∷ record { call = Some 1; act = Keep (Begin 1 9 0) }
    ∷ record { call = Some 0; act = Keep (Commit 1) }
    ∷ record { call = Some 1; act = LeaveCall }
    ∷ []
    ) ≡ key 0 2 ∷ []
example = refl
