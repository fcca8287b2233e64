-- What the writer has made.
use Rattle.std.proofs.Common.{◌≡◌, ◌⊎◌, ℕ, ◌+◌, ◌≤◌, true, List, [], ◌∷◌, ◌++◌, length, take, Option, Some, None, option_map, refl, ap, sym, ◌∙◌, subst, inl, inr, arith, append_assoc, length-append, flat_map}
use Rattle.std.proofs.lemmas.List.{append-nil, map-append}
use Rattle.std.proofs.lemmas.List.Concat.{flat_map-append}
use Rattle.std.proofs.lemmas.List.Sums.{fold-append}
use Rattle.std.specs.List.{AllByRecursion}
use Rattle.std.specs.Io.Iter.{u64_saturate}
use Rattle.std.specs.Io.KnownBytes.{Appends}
use Rattle.std.proofs.KnownBytes.{Appends-nil, Appends-trans}
use Rattle.link_io.specs.Causes.{Rose}
use Rattle.link_io.specs.Stored.{Stored}
use Rattle.link_io.specs.declared.why.Why.{Why}
use Rattle.rpc_handlers.specs.HandlerRule.{HandlerRule}
use Rattle.rpc_packet.specs.Message.{message_of}
use Rattle.rpc_frames.specs.Written.{frame_of_packet}
use Rattle.rpc_journal.specs.declared.entry.Entry.{Entry}
use Rattle.rpc_journal.specs.declared.entry.EntryKind.TheVariants.{Halt}
use Rattle.rpc_journal.specs.declared.item.Item.{Item}
use Rattle.rpc_journal.specs.History.{entry_by}
use Rattle.rpc_journal.specs.Items.{packet_of, packets_of}
use Rattle.rpc_journal.specs.StoreSteps.{after_item}
use Rattle.rpc_schedule.specs.Kept.{Holds, kept, stored_steps}
use Rattle.rpc_shared.specs.declared.session.item_log.ItemLog.{ItemLog}
use Rattle.rpc_shared.specs.declared.session.parcel.Parcel.{Parcel}
use Rattle.rpc_shared.specs.declared.session.parcel.Parcel.TheVariants.{End, Put}
use Rattle.rpc_shared.specs.session.Crew.{Adds, Lock, Seat, Stands, is_stop}
use Rattle.rpc_shared.specs.session.Log.{Logs}
use Rattle.rpc_shared.specs.session.Ring.{HaltsFor, IsUnfinished, Made, MakesSome, WriterEnded, Writes, closed, parcels}
use Rattle.rpc_shared.specs.session.Sessions.{is_halted, wire}
use Rattle.rpc_shared.proofs.session.PassLemmas.{kinds_after, stands_after}

-- ---- frames and store actions, one after another

pub wire-append : (xs ys : List Item) → wire (xs ++ ys) ≡ wire xs ++ wire ys
wire-append xs ys =
    ap (flat_map (λ p. frame_of_packet (message_of p))) (flat_map-append (λ (item : Item). packet_of item.act) xs ys)
    ∙ flat_map-append (λ p. frame_of_packet (message_of p)) (packets_of xs) (packets_of ys)

kept-append : (xs ys : List Item) (s : Stored) → kept (xs ++ ys) s ≡ kept ys (kept xs s)
kept-append xs ys s = fold-append (λ (st : Stored) (item : Item). after_item stored_steps item.call item.act st) s xs ys

pub holds_none : (d : Option Stored) → Holds [] d d
holds_none None = refl
holds_none (Some s) = refl

pub holds_more : (xs ys : List Item) (d0 d d' : Option Stored) → Holds xs d0 d → Holds ys d d' → Holds (xs ++ ys) d0 d'
holds_more xs ys None d d' first second = second ∙ ap (option_map (kept ys)) first
holds_more xs ys (Some s) d d' first second = second ∙ (ap (option_map (kept ys)) first ∙ ap Some (sym (kept-append xs ys s)))

pub logs_none : (l : ItemLog) → Logs l l []
logs_none l = record { same = refl; added = λ keeps. sym (append-nil l.items.items) }

pub logs_more : (xs ys : List Item) (l0 l l' : ItemLog) → Logs l0 l xs → Logs l l' ys → Logs l0 l' (xs ++ ys)
logs_more xs ys l0 l l' first second = record {
  same = second.same ∙ first.same;
  added = λ keeps. second.added (first.same ∙ keeps) ∙ (ap (λ items. items ++ ys) (first.added keeps) ∙ append_assoc l0.items.items xs ys);
}

pub made_more : (w0 w w' : Option (List ℕ)) (d0 d d' : Option Stored) (l0 l l' : ItemLog) (xs ys : List Item) → Made w0 w d0 d l0 l xs → Made w w' d d' l l' ys → Made w0 w' d0 d' l0 l' (xs ++ ys)
made_more w0 w w' d0 d d' l0 l l' xs ys first second = record {
  written = subst (Appends w0 w') (sym (wire-append xs ys)) (Appends-trans w0 w w' (wire xs) (wire ys) first.written second.written);
  stored = holds_more xs ys d0 d d' first.stored second.stored;
  logged = logs_more xs ys l0 l l' first.logged second.logged;
}

saturate_more : (n m : ℕ) → u64_saturate (u64_saturate n + m) ≡ u64_saturate (n + m)
saturate_more n m = omega arith

-- nothing of no item is unfinished
pub none_unfinished : IsUnfinished [] []
none_unfinished = record { unwritten = []; begins = refl; unmade = λ none. refl }

received_more : (got now : List Parcel) (first items : List Item) → got ≡ parcels first → (now ≡ got ++ parcels items) ⊎ (now ≡ got ++ closed items) → (now ≡ parcels (first ++ items)) ⊎ (now ≡ closed (first ++ items))
received_more got now first items begun = at
  where
    at : (now ≡ got ++ parcels items) ⊎ (now ≡ got ++ closed items) → (now ≡ parcels (first ++ items)) ⊎ (now ≡ closed (first ++ items))
    at (inl is) = inl (is ∙ (ap (λ ps. ps ++ parcels items) begun ∙ sym (map-append Put first items)))
    at (inr is) =
        inr (is ∙ (ap (λ ps. ps ++ closed items) begun ∙ (sym (append_assoc (parcels first) (parcels items) (End ∷ [])) ∙ ap (λ ps. ps ++ End ∷ []) (sym (map-append Put first items)))))

module _ (rule : HandlerRule) (r : Lock) (w0 w w' : Option (List ℕ)) (d0 d d' : Option Stored) (l0 l l' : ItemLog) (got now : List Parcel) (done done' : ℕ) (p q : Seat) where
  -- items more were received and made
  pub writes_more : (items : List Item) → Writes rule r w0 w d0 d l0 l got done p → now ≡ got ++ parcels items → Made w w' d d' l l' items → done' ≡ u64_saturate (done + length items)
      → Writes rule r w0 w' d0 d' l0 l' now done' p
  writes_more items writes is made counted = record {
    stands = writes.stands;
    none = writes.none;
    items = writes.items ++ items;
    received = is ∙ (ap (λ ps. ps ++ parcels items) writes.received ∙ sym (map-append Put writes.items items));
    made = made_more w0 w w' d0 d d' l0 l l' writes.items items writes.made made;
    counted =
        counted ∙ (ap (λ n. u64_saturate (n + length items)) writes.counted
        ∙ (saturate_more (length writes.items) (length items) ∙ ap u64_saturate (sym (length-append writes.items items))));
  }

  -- of more items some were made
  makes_behind : (all : List Item) (writes : Writes rule r w0 w d0 d l0 l got done p) → MakesSome w w' d d' l l' all done done' → MakesSome w0 w' d0 d' l0 l' (writes.items ++ all) 0 done'
  makes_behind all writes makes = record {
    items = writes.items ++ makes.items;
    rest = makes.rest;
    part = makes.part;
    parts = ap (λ items. writes.items ++ items) makes.parts ∙ sym (append_assoc writes.items makes.items makes.rest);
    begun = makes.begun;
    written =
        subst (Appends w0 w') (sym (append_assoc (wire writes.items) (wire makes.items) makes.part) ∙ ap (λ bytes. bytes ++ makes.part) (sym (wire-append writes.items makes.items)))
        (Appends-trans w0 w w' (wire writes.items) (wire makes.items ++ makes.part) writes.made.written makes.written);
    stored = holds_more writes.items makes.items d0 d d' writes.made.stored makes.stored;
    logged = logs_more writes.items makes.items l0 l l' writes.made.logged makes.logged;
    counted =
        makes.counted ∙ (ap (λ n. u64_saturate (n + length makes.items)) writes.counted
        ∙ (saturate_more (length writes.items) (length makes.items) ∙ ap u64_saturate (sym (length-append writes.items makes.items) ∙ plus_none (length (writes.items ++ makes.items)))));
  }
    where
      plus_none : (n : ℕ) → n ≡ 0 + n
      plus_none n = omega arith

  -- and then the writer halted the table
  pub writer_failed : (all : List Item) → Writes rule r w0 w d0 d l0 l got done p → (now ≡ got ++ parcels all) ⊎ (now ≡ got ++ closed all) → MakesSome w w' d d' l l' all done done'
      → Adds rule r is_stop p q → is_halted r.base q.view.known.seen ≡ true → WriterEnded rule r w0 w' d0 d' l0 l' now done' q
  writer_failed all writes is makes adds halted = record {
    stands = stands_after rule r is_stop p q writes.stands adds;
    kinds = kinds_after rule r is_stop p q (subst (λ es. AllByRecursion (λ e. is_stop e.kind ≡ true) es) (sym writes.none) tt) adds;
    came = writes.items ++ all;
    received = received_more got now writes.items all writes.received is;
    makes = makes_behind all writes makes;
    cause = inr halted;
  }

module _ (rule : HandlerRule) (r : Lock) (w0 w : Option (List ℕ)) (d0 d : Option Stored) (l0 l : ItemLog) (got now : List Parcel) (done : ℕ) (p q : Seat) where
  -- all that was received was made
  makes_all : (writes : Writes rule r w0 w d0 d l0 l got done p) → MakesSome w0 w d0 d l0 l writes.items 0 done
  makes_all writes = record {
    items = writes.items;
    rest = [];
    part = [];
    parts = sym (append-nil writes.items);
    begun = none_unfinished;
    written = subst (Appends w0 w) (sym (append-nil (wire writes.items))) writes.made.written;
    stored = writes.made.stored;
    logged = writes.made.logged;
    counted = writes.counted ∙ ap u64_saturate (omega arith);
  }

  pub writer_closed : Writes rule r w0 w d0 d l0 l got done p → now ≡ got ++ End ∷ [] → WriterEnded rule r w0 w d0 d l0 l now done p
  unfolding makes_all
  writer_closed writes is =
      let all : now ≡ closed writes.items = is ∙ ap (λ ps. ps ++ End ∷ []) writes.received in
      record {
        stands = writes.stands;
        kinds = subst (λ es. AllByRecursion (λ e. is_stop e.kind ≡ true) es) (sym writes.none) tt;
        came = writes.items;
        received = inr all;
        makes = makes_all writes;
        cause = inl (all, refl);
      }

  pub writes_looked : Writes rule r w0 w d0 d l0 l got done p → Adds rule r is_stop p q → q.view.known.mine ≡ p.view.known.mine → now ≡ got → Writes rule r w0 w d0 d l0 l now done q
  writes_looked writes adds same is = record {
    stands = stands_after rule r is_stop p q writes.stands adds;
    none = same ∙ writes.none;
    items = writes.items;
    received = is ∙ writes.received;
    made = writes.made;
    counted = writes.counted;
  }

  pub writer_halted : Writes rule r w0 w d0 d l0 l got done p → now ≡ got → is_halted r.base p.view.known.seen ≡ true → WriterEnded rule r w0 w d0 d l0 l now done p
  writer_halted writes is halted = record {
    stands = writes.stands;
    kinds = subst (λ es. AllByRecursion (λ e. is_stop e.kind ≡ true) es) (sym writes.none) tt;
    came = writes.items;
    received = inl (is ∙ writes.received);
    makes = makes_all writes;
    cause = inr halted;
  }

-- the writer before its first item
pub writes_none : (rule : HandlerRule) (r : Lock) (w : Option (List ℕ)) (d : Option Stored) (l : ItemLog) (got : List Parcel) (p : Seat) → Stands rule r p → p.view.known.mine ≡ [] → got ≡ []
    → Writes rule r w w d d l l got 0 p
writes_none rule r w d l got p stands none empty = record {
  stands = stands;
  none = none;
  items = [];
  received = empty;
  made = record { written = Appends-nil w; stored = holds_none d; logged = logs_none l };
  counted = refl;
}

-- ---- why it halted

pub no_halt : {A : Type 0} (why : Why) (mine : List Entry) → mine ≡ [] → HaltsFor why mine → A
no_halt why mine none halts = absurd (subst (HaltsFor why) none halts)

pub only_halt : (why reason : Why) (k : ℕ) (mine more : List Entry) → mine ≡ [] → (more ≡ mine) ⊎ (more ≡ mine ++ entry_by k (Halt why) ∷ []) → HaltsFor reason more → why ≡ reason
only_halt why reason k mine more none (inl same) halts = no_halt reason more (same ∙ none) halts
only_halt why reason k mine more none (inr is) halts = at (subst (HaltsFor reason) (is ∙ ap (λ es. es ++ entry_by k (Halt why) ∷ []) none) halts)
  where
    at : (Halt why ≡ Halt reason) ⊎ ⊥ → why ≡ reason
    at (inl same) = cc same
    at (inr none) = absurd none

pub rose_later : (first before now : ℕ) → first ≤ before → Rose before now → Rose first now
rose_later first before now later rose = omega (arith, later, rose)
