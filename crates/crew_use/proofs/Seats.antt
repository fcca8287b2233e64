-- What passes keep over their steps, until they come back to the table.
use Rattle.std.proofs.Common.{◌≡◌, ℕ, false, zero, suc, List, [], ◌∷◌, ◌++◌, length, slice_index_or, Result, Ok, Err, IfOk, IfErr, refl, sym, ◌∙◌, ap, subst, arith, ⊎_elim}
use Rattle.std.specs.List.{remove}
use mathlib.Core.Option.{some, some-injective, some-ne-none}
use lib.ListN.{get_elem?}
use Rattle.atomic_table.proofs.Lists.{at_last, at_longer}
use Rattle.turn_cell.specs.declared.busy.Busy.{Busy}
use Rattle.turn_cell.specs.Passes.{AreAll, IsIdle, IsNew, LockView, PassView}
use Rattle.turn_cell.proofs.Passes.{new_is_idle, still_idle}
use Rattle.turn_cell.proofs.Places.{at_end}
use Rattle.rpc_handlers.specs.HandlerRule.{HandlerRule}
use Rattle.rpc_journal.specs.declared.entry.Entry.{Entry}
use Rattle.rpc_journal.specs.declared.setting.Setting.{Setting}
use Rattle.rpc_journal.specs.Conditions.{IsInputOpen}
use Rattle.rpc_journal.specs.History.{history}
use Rattle.rpc_journal.specs.Items.{input_ended}
use Rattle.rpc_shared.specs.Helpers.{AreEach, AreFour, IsFeeder, IsSeat}
use Rattle.rpc_shared.specs.Steps.{IsBusy, Step, Steps}

module _ (r : LockView Setting) where
  pub seat_new : (k : ℕ) (p : PassView Entry Setting) → IsNew r k p → IsSeat r p
  seat_new k p new = record {
    own = record { table = new.pass.table; base = new.pass.base; idle = new.idle };
    idle = subst (λ n. IsIdle r n p) (sym new.pass.number) (new_is_idle r k p new);
  }

  pub feeder_new : (p : PassView Entry Setting) → IsNew r 0 p → IsFeeder r p
  feeder_new p new = record {
    seat = seat_new 0 p new;
    open_input = record { feeder = new.pass.number; not_ended = subst (λ h. input_ended (history r.base h) ≡ false) (sym new.seen) refl };
  }

  -- a new pass of number 0
  pub first_feeds : (p : PassView Entry Setting) → IsNew r p.view.known.number p → p.view.known.number ≡ 0 → IsFeeder r p
  first_feeds p new zero_is = feeder_new p (subst (λ n. IsNew r n p) zero_is new)

  pub idle_at : (k : ℕ) (p : PassView Entry Setting) → IsSeat r p → p.view.known.number ≡ k → IsIdle r k p
  idle_at k p seat number = subst (λ n. IsIdle r n p) number seat.idle

  pub still_seated : (rule : HandlerRule) (p q : PassView Entry Setting) (step : Step) → IsSeat r p → Steps rule r p q step → IsSeat r q
  still_seated rule p q step seat steps = record {
    own = steps.own_still;
    idle = subst (λ n. IsIdle r n q) (sym steps.same.number) (still_idle r p.view.known.number p q seat.idle.pass steps.same steps.own_still.idle);
  }

  pub still_feeding : (rule : HandlerRule) (p q : PassView Entry Setting) (step : Step) → IsFeeder r p → Steps rule r p q step → IsInputOpen r.base q.view.known.seen q.view.known.number → IsFeeder r q
  still_feeding rule p q step feeder steps input = record { seat = still_seated rule p q step feeder.seat steps; open_input = input }

  busy_seated : (p q : PassView Entry Setting) (found other : ℕ) → IsSeat r p → IsBusy r p q found other → IsSeat r q
  busy_seated p q found other seat busy = record {
    own = busy.own_still;
    idle = subst (λ n. IsIdle r n q) (sym busy.away.same.number) (still_idle r p.view.known.number p q seat.idle.pass busy.away.same busy.own_still.idle);
  }

  -- a step that is only tried
  pub tried_seated :
      {A : Type 0} (rule : HandlerRule) (p q : PassView Entry Setting) (step : A → Step) (result : Result A Busy) → IsSeat r p → IfOk result (λ a. Steps rule r p q (step a)) →
      IfErr result (λ b. IsBusy r p q b.loaded b.word) → IsSeat r q
  tried_seated rule p q step (Ok a) seat did busy = still_seated rule p q (step a) seat did
  tried_seated rule p q step (Err b) seat did busy = busy_seated p q b.loaded b.word seat busy

  -- four passes out of their list, the last one first
  pub four_out :
      (ps ps3 ps2 ps1 : List (PassView Entry Setting)) (reader writer worker other : PassView Entry Setting) → AreAll r (IsNew r) ps → r.count ≡ 4 →
      ps3 ≡ remove ps 3 → ps2 ≡ remove ps3 2 → ps1 ≡ remove ps2 1 →
      other ≡ slice_index_or ps 3 other → worker ≡ slice_index_or ps3 2 worker → writer ≡ slice_index_or ps2 1 writer → reader ≡ slice_index_or ps1 0 reader →
      AreFour r reader writer worker other
  four_out [] ps3 ps2 ps1 reader writer worker other all four e3 e2 e1 at3 at2 at1 at0 = let counted = all.count in absurd (omega arith)
  four_out (a ∷ []) ps3 ps2 ps1 reader writer worker other all four e3 e2 e1 at3 at2 at1 at0 = let counted = all.count in absurd (omega arith)
  four_out (a ∷ b ∷ []) ps3 ps2 ps1 reader writer worker other all four e3 e2 e1 at3 at2 at1 at0 = let counted = all.count in absurd (omega arith)
  four_out (a ∷ b ∷ c ∷ []) ps3 ps2 ps1 reader writer worker other all four e3 e2 e1 at3 at2 at1 at0 = let counted = all.count in absurd (omega arith)
  four_out (a ∷ b ∷ c ∷ d ∷ ps) ps3 ps2 ps1 reader writer worker other all four e3 e2 e1 at3 at2 at1 at0 =
      let is3 : ps3 ≡ a ∷ b ∷ c ∷ ps = e3 in
      let is2 : ps2 ≡ a ∷ b ∷ ps = e2 ∙ ap (λ l. remove l 2) is3 in
      let is1 : ps1 ≡ a ∷ ps = e1 ∙ ap (λ l. remove l 1) is2 in
      record {
        reader_is = subst (IsFeeder r) (sym (at0 ∙ ap (λ l. slice_index_or l 0 reader) is1)) (feeder_new a (all.each 0 a refl));
        writer_is = subst (IsSeat r) (sym (at1 ∙ ap (λ l. slice_index_or l 1 writer) is2)) (seat_new 1 b (all.each 1 b refl));
        worker_is = subst (IsSeat r) (sym (at2 ∙ ap (λ l. slice_index_or l 2 worker) is3)) (seat_new 2 c (all.each 2 c refl));
        other_is = subst (IsSeat r) (sym at3) (seat_new 3 d (all.each 3 d refl));
      }

  -- four passes of these numbers, back in order
  pub four_back :
      (reader writer worker other : PassView Entry Setting) → r.count ≡ 4 → IsIdle r 0 reader → IsIdle r 1 writer → IsIdle r 2 worker → IsIdle r 3 other →
      AreAll r (IsIdle r) (reader ∷ writer ∷ worker ∷ other ∷ [])
  four_back reader writer worker other four is0 is1 is2 is3 = record { count = sym four; each = at }
    where
      at : AreEach (IsIdle r) (reader ∷ writer ∷ worker ∷ other ∷ [])
      at zero p e = subst (IsIdle r 0) (some-injective reader p e) is0
      at (suc zero) p e = subst (IsIdle r 1) (some-injective writer p e) is1
      at (suc (suc zero)) p e = subst (IsIdle r 2) (some-injective worker p e) is2
      at (suc (suc (suc zero))) p e = subst (IsIdle r 3) (some-injective other p e) is3
      at (suc (suc (suc (suc k)))) p e = absurd (some-ne-none p (sym e))

  pub fewer_new : (left : List (PassView Entry Setting)) (last : PassView Entry Setting) → AreEach (IsNew r) (left ++ last ∷ []) → AreEach (IsNew r) left
  fewer_new left last all k p e = all k p (at_longer left (last ∷ []) k p e)

  -- the last of new passes has their number
  pub last_new : (left : List (PassView Entry Setting)) (last : PassView Entry Setting) → AreEach (IsNew r) (left ++ last ∷ []) → IsNew r (length left) last
  last_new left last all = all (length left) last (at_last left last (length left) refl)

  pub last_is_new : (left : List (PassView Entry Setting)) (last : PassView Entry Setting) → AreEach (IsNew r) (left ++ last ∷ []) → IsNew r last.view.known.number last
  last_is_new left last all = let new = last_new left last all in subst (λ n. IsNew r n last) (sym new.pass.number) new

  -- idle passes, and one more behind them
  pub one_more_idle : (qs : List (PassView Entry Setting)) (q : PassView Entry Setting) → AreEach (IsIdle r) qs → IsIdle r (length qs) q → AreEach (IsIdle r) (qs ++ q ∷ [])
  one_more_idle qs q all idle k u e = ⊎_elim
      (λ (t : get_elem? qs k ≡ some u). all k u t)
      (λ (t : (k ≡ length qs) × (q ≡ u)). subst (λ z. IsIdle r k z) t.1 (subst (λ n. IsIdle r n q) (sym t.0) idle))
      (at_end qs q u k e)
