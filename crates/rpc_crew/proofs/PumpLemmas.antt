-- What the pump has flushed and put into the ring.
use Rattle.std.proofs.Common.{◌≡◌, ◌⊎◌, ℕ, ◌+◌, ◌<◌, ◌≤◌, Bool, true, false, if◌then◌else◌, List, [], ◌∷◌, ◌++◌, length, Option, Some, None, slice_get, refl, ap, sym, ◌∙◌, subst, inl, inr, arith, append_assoc, length-append, le_refl}
use Rattle.std.proofs.lemmas.List.{append-nil, map-append}
use Rattle.std.specs.Option.{option_to_list}
use mathlib.Core.List.{IsPrefix}
use Rattle.entry_lists.specs.Entries.{made_by}
use Rattle.entry_lists.proofs.Prefixes.{prefix_trans}
use Rattle.link_io.specs.declared.why.Why.{Why}
use Rattle.rpc_handlers.specs.HandlerRule.{HandlerRule}
use Rattle.rpc_journal.specs.declared.entry.Entry.{Entry}
use Rattle.rpc_journal.specs.declared.entry.EntryKind.TheVariants.{Flush, Halt, Tick}
use Rattle.rpc_journal.specs.declared.item.Item.{Item}
use Rattle.rpc_journal.specs.Changes.{FlushDid}
use Rattle.rpc_journal.specs.History.{entry_by, history}
use Rattle.rpc_journal.specs.Items.{flush_count, flushes, is_flush, items_sent, moment_of, moments}
use Rattle.rpc_journal.specs.Laws.{seat_of}
use Rattle.rpc_journal.specs.Quiet.{is_settled}
use Rattle.rpc_journal.proofs.ItemLemmas.{flushes_count, flushes_of_seat, items_begin}
use Rattle.rpc_shared.specs.Steps.{Steps}
use Rattle.rpc_shared.specs.declared.session.parcel.Parcel.{Parcel}
use Rattle.rpc_shared.specs.declared.session.parcel.Parcel.TheVariants.{End, Put}
use Rattle.rpc_shared.specs.session.Crew.{Adds, Lock, Seat, is_pumps}
use Rattle.rpc_shared.specs.session.Ring.{PumpEnded, Pumps, Takes, Ticked}
use Rattle.rpc_shared.specs.session.Sessions.{AreSpaced, LeavesNoneDue, is_halted, last_from}
use Rattle.rpc_shared.proofs.session.PassLemmas.{kinds_after, stands_after}
use Rattle.rpc_shared.proofs.session.StepLemmas.{flush_adds}

-- ---- counts and moments of entries

if_one : (b : Bool) (n m : ℕ) → (if b then (n + m) + 1 else n + m) ≡ (if b then n + 1 else n) + m
if_one true n m = omega arith
if_one false n m = refl

flushes-append : (xs ys : List Entry) → flushes (xs ++ ys) ≡ flushes xs + flushes ys
flushes-append [] ys = omega arith
flushes-append (e ∷ xs) ys = ap (λ n. if is_flush e.kind then n + 1 else n) (flushes-append xs ys) ∙ if_one (is_flush e.kind) (flushes xs) (flushes ys)

moments-append : (xs ys : List Entry) → moments (xs ++ ys) ≡ moments xs ++ moments ys
moments-append [] ys = refl
moments-append (e ∷ xs) ys = ap (λ ts. moment_of e.kind ++ ts) (moments-append xs ys) ∙ sym (append_assoc (moment_of e.kind) (moments xs) (moments ys))

-- ---- the next item

next_of_front : {A : Type 0} (xs whole : List A) (x : A) → IsPrefix xs whole → slice_get whole (length xs) ≡ Some x → IsPrefix (xs ++ x ∷ []) whole
next_of_front [] [] x begins there = absurd (cc there)
next_of_front [] (y ∷ ys) x begins there = (ys, cc there)
next_of_front (z ∷ zs) [] x begins there = absurd (cc there)
next_of_front (z ∷ zs) (y ∷ ys) x begins there =
    let rest = next_of_front zs ys x (begins.0, cc (begins.1)) there in
    (rest.0, cc (begins.1, rest.1))

module _ (rule : HandlerRule) (r : Lock) (p q : Seat) where
  -- the items of what it has seen begin those of what it sees next
  front_on : (items : List Item) (later : List Entry) → IsPrefix p.view.known.seen later → IsPrefix items (items_sent (history r.base p.view.known.seen))
      → IsPrefix items (items_sent (history r.base later))
  front_on items later begins front =
      prefix_trans items (items_sent (history r.base p.view.known.seen)) (items_sent (history r.base later)) front
      (subst (λ h. IsPrefix (items_sent (history r.base p.view.known.seen)) (items_sent (history r.base h))) begins.1
      (items_begin r.base p.view.known.seen begins.0))

  takes_on : (items : List Item) → Takes rule r items p → Adds rule r is_pumps p q → flushes q.view.known.mine ≡ flushes p.view.known.mine → Takes rule r items q
  takes_on items takes adds same = record {
    stands = stands_after rule r is_pumps p q takes.stands adds;
    number = adds.same.number ∙ takes.number;
    kinds = kinds_after rule r is_pumps p q takes.kinds adds;
    front = front_on items q.view.known.seen adds.begins takes.front;
    count = takes.count ∙ sym same;
  }

  takes_flushed : (items : List Item) (item : Item) → Takes rule r items p → Steps rule r p q (λ set seat. FlushDid set seat (Some item)) → Takes rule r (items ++ item ∷ []) q
  takes_flushed items item takes s =
      let adds = flush_adds rule r p q (Some item) s in
      let own : made_by seat_of 1 s.before ≡ p.view.known.mine = subst (λ n. made_by seat_of n s.before ≡ p.view.known.mine) takes.number s.own in
      let many : flush_count (history r.base s.before) ≡ length items =
      flushes_count r.base s.before ∙ (flushes_of_seat r.base s.before s.legal.lawful ∙ (ap flushes own ∙ sym takes.count)) in
      let there : slice_get (items_sent (history r.base s.before)) (length items) ≡ Some item =
      subst (λ n. slice_get (items_sent (history r.base s.before)) n ≡ Some item) many s.did.front in
      let more : IsPrefix (items_sent (history r.base s.before)) (items_sent (history r.base q.view.known.seen)) =
      subst (λ h. IsPrefix (items_sent (history r.base s.before)) (items_sent (history r.base h))) (sym s.did.adds)
      (items_begin r.base s.before (entry_by p.view.known.number Flush ∷ [])) in
      record {
        stands = stands_after rule r is_pumps p q takes.stands adds;
        number = adds.same.number ∙ takes.number;
        kinds = kinds_after rule r is_pumps p q takes.kinds adds;
        front =
            prefix_trans (items ++ item ∷ []) (items_sent (history r.base s.before)) (items_sent (history r.base q.view.known.seen))
            (next_of_front items (items_sent (history r.base s.before)) item (front_on items s.before s.begins takes.front) there) more;
        count =
            length-append items (item ∷ [])
            ∙ (ap (λ n. n + 1) takes.count
            ∙ sym (ap flushes (s.mine (entry_by p.view.known.number Flush ∷ []) s.did.adds) ∙ flushes-append p.view.known.mine (entry_by p.view.known.number Flush ∷ [])));
      }

  -- ---- the ring and the hand

  pub pumps_on : (put : List Parcel) (hand : Option Parcel) → Pumps rule r put hand p → Adds rule r is_pumps p q → flushes q.view.known.mine ≡ flushes p.view.known.mine
      → Pumps rule r put hand q
  pumps_on put hand pumps adds same = record { items = pumps.items; takes = takes_on pumps.items pumps.takes adds same; placed = pumps.placed }

  pub pumps_flushed : (put : List Parcel) (item : Item) → Pumps rule r put None p → Steps rule r p q (λ set seat. FlushDid set seat (Some item)) → Pumps rule r put (Some (Put item)) q
  pumps_flushed put item pumps s = record {
    items = pumps.items ++ item ∷ [];
    takes = takes_flushed pumps.items item pumps.takes s;
    placed = ap (λ ps. ps ++ Put item ∷ []) (sym (append-nil put) ∙ pumps.placed) ∙ sym (map-append Put pumps.items (item ∷ []));
  }

  pub pumps_idle : (put : List Parcel) → Pumps rule r put None p → Steps rule r p q (λ set seat. FlushDid set seat None) → Pumps rule r put None q
  pumps_idle put pumps s =
      pumps_on put None pumps (flush_adds rule r p q None s)
      (ap flushes (s.mine [] (s.did.kept ∙ sym (append-nil s.before))) ∙ ap flushes (append-nil p.view.known.mine))

  -- no flush is a tick
  pub flush_moments : (result : Option Item) → Steps rule r p q (λ set seat. FlushDid set seat result) → moments q.view.known.mine ≡ moments p.view.known.mine
  flush_moments (Some item) s =
      ap moments (s.mine (entry_by p.view.known.number Flush ∷ []) s.did.adds) ∙ (moments-append p.view.known.mine (entry_by p.view.known.number Flush ∷ []) ∙ append-nil (moments p.view.known.mine))
  flush_moments None s = ap moments (s.mine [] (s.did.kept ∙ sym (append-nil s.before))) ∙ ap moments (append-nil p.view.known.mine)

module _ (rule : HandlerRule) (r : Lock) (p : Seat) where
  pub pumps_put : (put now : List Parcel) (parcel : Parcel) → Pumps rule r put (Some parcel) p → now ≡ put ++ parcel ∷ [] → Pumps rule r now None p
  pumps_put put now parcel pumps is = record { items = pumps.items; takes = pumps.takes; placed = append-nil now ∙ (is ∙ pumps.placed) }

  pub pumps_kept : (put now : List Parcel) (parcel : Parcel) (hand : Option Parcel) → Pumps rule r put (Some parcel) p → now ≡ put → hand ≡ Some parcel → Pumps rule r now hand p
  pumps_kept put now parcel hand pumps same held = record {
    items = pumps.items;
    takes = pumps.takes;
    placed = ap (λ ps. ps ++ option_to_list hand) same ∙ (ap (λ h. put ++ option_to_list h) held ∙ pumps.placed);
  }

  pub pump_halted : (put now : List Parcel) (hand : Option Parcel) → Pumps rule r put hand p → now ≡ put → is_halted r.base p.view.known.seen ≡ true → PumpEnded rule r now p
  pump_halted put now hand pumps same halted = record {
    items = pumps.items;
    takes = pumps.takes;
    cause = inr (option_to_list hand, ap (λ ps. ps ++ option_to_list hand) same ∙ pumps.placed, halted);
  }

  pub pump_settled : (put now : List Parcel) → Pumps rule r put None p → now ≡ put ++ End ∷ [] → is_settled (history r.base p.view.known.seen) ≡ true → PumpEnded rule r now p
  pump_settled put now pumps is settled = record {
    items = pumps.items;
    takes = pumps.takes;
    cause = inl (is ∙ ap (λ ps. ps ++ End ∷ []) (sym (append-nil put) ∙ pumps.placed), settled);
  }

  -- a pump that has flushed nothing
  pub pumps_none : Takes rule r [] p → (put : List Parcel) → put ≡ [] → Pumps rule r put None p
  pumps_none takes put none = record { items = []; takes = takes; placed = append-nil put ∙ none }

-- ---- the time

spaced_push : (start : ℕ) (ts : List ℕ) (t : ℕ) → AreSpaced start ts → last_from start ts + 500 ≤ t → AreSpaced start (ts ++ t ∷ [])
spaced_push start [] t spaced far = (far, tt)
spaced_push start (u ∷ ts) t spaced far = (spaced.0, spaced_push u ts t spaced.1 far)

last_push : (start : ℕ) (ts : List ℕ) (t : ℕ) → last_from start (ts ++ t ∷ []) ≡ t
last_push start [] t = refl
last_push start (u ∷ ts) t = last_push u ts t

pub spaced_earlier : (earlier start : ℕ) (ts : List ℕ) → earlier ≤ start → AreSpaced start ts → AreSpaced earlier ts
spaced_earlier earlier start [] before spaced = tt
spaced_earlier earlier start (t ∷ ts) before spaced = (omega (arith, spaced.0, before), spaced.1)

pub last_earlier : (earlier start : ℕ) (ts : List ℕ) → earlier ≤ start → last_from earlier ts ≤ last_from start ts
last_earlier earlier start [] before = before
last_earlier earlier start (t ∷ ts) before = le_refl (last_from t ts)

pub spaced_up : (start : ℕ) (ts : List ℕ) → AreSpaced start ts → start ≤ last_from start ts
spaced_up start [] spaced = le_refl start
spaced_up start (t ∷ ts) spaced = omega (arith, spaced.0, spaced_up t ts spaced.1)

pub ticked_kept : (start : ℕ) (mine more : List Entry) (ticked last later : ℕ) → Ticked start mine ticked last → moments more ≡ moments mine → last ≤ later → Ticked start more ticked later
ticked_kept start mine more ticked last later so same after = record {
  spaced = subst (AreSpaced start) (sym same) so.spaced;
  last_is = ap (last_from start) same ∙ so.last_is;
  past = omega (arith, so.past, after);
}

pub ticked_more : (start : ℕ) (mine more : List Entry) (seat ticked last now later : ℕ) → Ticked start mine ticked last → more ≡ mine ++ entry_by seat (Tick now) ∷ []
    → ticked + 500 ≤ now → later ≡ now → Ticked start more now later
ticked_more start mine more seat ticked last now later so is far at_now =
    let same : moments more ≡ moments mine ++ now ∷ [] = ap moments is ∙ moments-append mine (entry_by seat (Tick now) ∷ []) in record {
      spaced = subst (AreSpaced start) (sym same) (spaced_push start (moments mine) now so.spaced (omega (arith, so.last_is, far)));
      last_is = ap (last_from start) same ∙ last_push start (moments mine) now;
      past = omega (arith, at_now);
    }

-- where the clock's last moment is less than 500 past the last Tick
pub none_due : (start : ℕ) (mine : List Entry) (ticked last : ℕ) → Ticked start mine ticked last → last < ticked + 500 → LeavesNoneDue start last (moments mine)
none_due start mine ticked last so soon = record { spaced = so.spaced; none_due = omega (arith, so.last_is, soon) }

-- a Halt is neither a flush nor a tick
pub halt_moments : (mine more : List Entry) (k : ℕ) (why : Why) → (more ≡ mine) ⊎ (more ≡ mine ++ entry_by k (Halt why) ∷ []) → moments more ≡ moments mine
halt_moments mine more k why (inl same) = ap moments same
halt_moments mine more k why (inr is) = ap moments is ∙ (moments-append mine (entry_by k (Halt why) ∷ []) ∙ append-nil (moments mine))

pub halt_flushes : (mine more : List Entry) (k : ℕ) (why : Why) → (more ≡ mine) ⊎ (more ≡ mine ++ entry_by k (Halt why) ∷ []) → flushes more ≡ flushes mine
halt_flushes mine more k why (inl same) = ap flushes same
halt_flushes mine more k why (inr is) = ap flushes is ∙ (flushes-append mine (entry_by k (Halt why) ∷ []) ∙ omega arith)

pub tick_flushes : (mine more : List Entry) (k now : ℕ) → more ≡ mine ++ entry_by k (Tick now) ∷ [] → flushes more ≡ flushes mine
tick_flushes mine more k now is = ap flushes is ∙ (flushes-append mine (entry_by k (Tick now) ∷ []) ∙ omega arith)

-- before the first tick
pub ticked_none : (start last : ℕ) (mine : List Entry) → mine ≡ [] → last ≡ start → Ticked start mine start last
ticked_none start last mine none now = record {
  spaced = subst (AreSpaced start) (sym (ap moments none)) tt;
  last_is = ap (last_from start) (ap moments none);
  past = omega (arith, now);
}
