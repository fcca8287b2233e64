-- Frames are whole where the link never failed.
use Rattle.std.proofs.Common.{◌≡◌, ◌⊎◌, ℕ, ◌+◌, true, List, [], ◌∷◌, ◌++◌, length, Option, ap, sym, ◌∙◌, subst, inl, inr, arith, append_assoc, length-append}
use Rattle.std.proofs.lemmas.List.{append-nil, map-append}
use Rattle.std.specs.Io.Iter.{u64_saturate}
use Rattle.std.specs.Io.KnownBytes.{Appends, Keeps}
use Rattle.std.proofs.KnownBytes.{Appends-kept, Appends-trans}
use mathlib.Core.List.{IsPrefix}
use Rattle.link_io.specs.Stored.{Stored}
use Rattle.rpc_handlers.specs.HandlerRule.{HandlerRule}
use Rattle.rpc_journal.specs.declared.item.Item.{Item}
use Rattle.rpc_journal.specs.History.{history}
use Rattle.rpc_journal.specs.Quiet.{is_settled}
use Rattle.rpc_shared.specs.declared.session.item_log.ItemLog.{ItemLog}
use Rattle.rpc_shared.specs.declared.session.parcel.Parcel.{Parcel}
use Rattle.rpc_shared.specs.declared.session.parcel.Parcel.TheVariants.{End, Put}
use Rattle.rpc_shared.specs.session.Crew.{Lock, Seat}
use Rattle.rpc_shared.specs.session.Ring.{PumpEnded, Writes, closed, parcels}
use Rattle.rpc_shared.specs.session.Sessions.{is_halted, wire}
use Rattle.rpc_shared.proofs.session.SessionLemmas.{cut_closed, cut_parcels}
use Rattle.rpc_shared.proofs.session.WriterLemmas.{wire-append}
use Rattle.rpc_crew.specs.Batches.{FailsAtLast}
use Rattle.rpc_crew.specs.WholeFrames.{WritesWholeFrames}

pub or_map : {A B C : Type 0} → (A → B) → A ⊎ C → B ⊎ C
or_map f (inl a) = inl (f a)
or_map f (inr c) = inr c

saturate_more : (n m : ℕ) → u64_saturate (u64_saturate n + m) ≡ u64_saturate (n + m)
saturate_more n m = omega arith

module _ (rule : HandlerRule) (r : Lock) (w0 w w' : Option (List ℕ)) (d0 d : Option Stored) (l0 l : ItemLog) (got now : List Parcel) (done done' : ℕ) (p : Seat) (writes : Writes rule r w0 w d0 d l0 l got done p) where
  -- all that was received was made
  pub frames_halted : Keeps w w' → WritesWholeFrames w0 w' got done
  frames_halted kept = record {
    items = writes.items;
    rest = [];
    received = inl (writes.received ∙ ap parcels (sym (append-nil writes.items)));
    few = omega arith;
    written = Appends-kept w0 w w' _ writes.made.written kept;
    counted = writes.counted;
  }

  pub frames_closed : now ≡ got ++ End ∷ [] → WritesWholeFrames w0 w now done
  frames_closed is = record {
    items = writes.items;
    rest = [];
    received = inr (is ∙ (ap (λ ps. ps ++ End ∷ []) writes.received ∙ ap closed (sym (append-nil writes.items))));
    few = omega arith;
    written = writes.made.written;
    counted = writes.counted;
  }

  -- and of more items all but the last one
  pub frames_failed : (w1 : Option (List ℕ)) → FailsAtLast got now w w1 done done' → Keeps w1 w' → WritesWholeFrames w0 w' now done'
  frames_failed w1 last kept = record {
    items = writes.items ++ last.made;
    rest = last.item ∷ [];
    received =
        inl (last.received ∙ (ap (λ ps. ps ++ parcels (last.made ++ last.item ∷ [])) writes.received
        ∙ (sym (map-append Put writes.items (last.made ++ last.item ∷ [])) ∙ ap parcels (sym (append_assoc writes.items last.made (last.item ∷ []))))));
    few = omega arith;
    written =
        subst (Appends w0 w') (sym (wire-append writes.items last.made))
        (Appends-kept w0 w1 w' _ (Appends-trans w0 w w1 (wire writes.items) (wire last.made) writes.made.written last.written) kept);
    counted =
        last.counted ∙ (ap (λ n. u64_saturate (n + length last.made)) writes.counted
        ∙ (saturate_more (length writes.items) (length last.made) ∙ ap u64_saturate (sym (length-append writes.items last.made))));
  }

module _ (rule : HandlerRule) (r : Lock) (w0 w : Option (List ℕ)) (put got known : List Parcel) (done : ℕ) (q1 : Seat) (x : PumpEnded rule r put q1) (y : WritesWholeFrames w0 w got done) where
  abbrev came : List Item
  came = y.items ++ y.rest

  -- what was received is a beginning of what was flushed
  pub frames_begin : got ++ known ≡ put → IsPrefix came x.items
  frames_begin fifo = at x.cause y.received
    where
      within : (more : List Parcel) → put ≡ parcels came ++ more
          → ((put ≡ closed x.items) × (is_settled (history r.base q1.view.known.seen) ≡ true)) ⊎ ((hand : List Parcel) × (put ++ hand ≡ parcels x.items) × (is_halted r.base q1.view.known.seen ≡ true))
          → IsPrefix came x.items
      within more is (inl whole) = cut_closed came x.items more (sym is ∙ whole.0)
      within more is (inr cut) =
          cut_parcels came x.items (more ++ cut.0) (sym (append_assoc (parcels came) more cut.0) ∙ (ap (λ ps. ps ++ cut.0) (sym is) ∙ cut.1))

      at : ((put ≡ closed x.items) × (is_settled (history r.base q1.view.known.seen) ≡ true)) ⊎ ((hand : List Parcel) × (put ++ hand ≡ parcels x.items) × (is_halted r.base q1.view.known.seen ≡ true))
          → (got ≡ parcels came) ⊎ (got ≡ closed came) → IsPrefix came x.items
      at cause (inl unended) = within known (sym fifo ∙ ap (λ ps. ps ++ known) unended) cause
      at cause (inr end) = within (End ∷ known) (sym fifo ∙ (ap (λ ps. ps ++ known) end ∙ append_assoc (parcels came) (End ∷ []) known)) cause
