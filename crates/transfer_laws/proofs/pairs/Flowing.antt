-- The data phase: which pieces and which asks are on their way between a sender and a receiver.
use Rattle.std.proofs.Common.{◌≡◌, ℕ, suc, ◌+◌, ◌-◌, ◌<◌, ◌≤◌, inl, inr, min, List, [], ◌∷◌, ◌++◌, length, refl, sym, ap, ◌∙◌, subst, arith}
use Rattle.transfer_base.specs.declared.limits.TheConstants.{MAX_CHUNK, MAX_RESOURCE}
use Rattle.transfer_receiver.specs.Receiver.{Receiver}
use Rattle.transfer_words.specs.Word.{Word, parameters}
use Rattle.transfer_laws.specs.pairs.Bound.{bound_for}
use Rattle.transfer_laws.proofs.pairs.Grid.{Grid}
use Rattle.transfer_laws.proofs.pairs.Sending.{ask_to}
use Rattle.transfer_laws.proofs.pairs.Receiving.{KeepsOn, Receives, Told, few_asked}

module _ (bytes : List ℕ) (o c big : ℕ) (some : 1 ≤ c) (small : c ≤ MAX_CHUNK) (size : length bytes ≤ MAX_RESOURCE) (g : Grid (length bytes) o c big) where
  -- these ask for more and more, from what is asked up to piece m to what is asked up to piece e
  abbrev pub AsksUp : ℕ → List Word → ℕ → Type 0
  AsksUp m [] e = m ≡ e
  AsksUp m (a ∷ rest) e = (mid : ℕ) × ((at : ℕ) × ((m ≤ mid) × ((a ≡ parameters (ask_to bytes o c big some small g at mid)) × AsksUp mid rest e)))

  asks_rise : (m e : ℕ) (asks : List Word) → AsksUp m asks e → m ≤ e
  asks_rise m e [] up = omega (arith, up)
  asks_rise m e (a ∷ rest) up = omega (arith, up.1.1.0, asks_rise up.0 e rest up.1.1.1.1)

  asks_more : (m e q e2 q2 : ℕ) (asks new : List Word) → AsksUp m asks e → Told bytes o c big some small size g e q e2 q2 new → AsksUp m (asks ++ new) e2
  asks_more m e q e2 q2 [] new up (inl none) = subst (λ ws. AsksUp m ws e2) (sym none.0) (up ∙ sym none.1.0)
  asks_more m e q e2 q2 [] new up (inr more) = subst (λ ws. AsksUp m ws e2) (sym more.1.0) (e2, (more.0, (omega (arith, up, more.1.1.0), (refl, refl))))
  asks_more m e q e2 q2 (a ∷ rest) new up told = (up.0, (up.1.0, (up.1.1.0, (up.1.1.1.0, asks_more up.0 e q e2 q2 rest new up.1.1.1.1 told))))

  pub told_count : (e q e2 q2 : ℕ) (new : List Word) → Told bytes o c big some small size g e q e2 q2 new → q + length new ≡ q2
  told_count e q e2 q2 [] (inl none) = omega (arith, none.1.1)
  told_count e q e2 q2 (a ∷ rest) (inl none) = let long : length (a ∷ rest) ≡ 0 = ap length none.0 in omega (arith, none.1.1, long)
  told_count e q e2 q2 new (inr more) = let long : length new ≡ 1 = ap length more.1.0 in omega (arith, more.1.1.1, long)

  pub told_few : (e q e2 q2 : ℕ) (new : List Word) → Told bytes o c big some small size g e q e2 q2 new → length new ≤ 1
  told_few e q e2 q2 new (inl none) = let long : length new ≡ 0 = ap length none.0 in omega (arith, long)
  told_few e q e2 q2 new (inr more) = let long : length new ≡ 1 = ap length more.1.0 in omega (arith, long)

  -- The receiver has kept i pieces, d more are on their way, and the sender stands behind them, at piece j, since it has
  -- answered what was asked up to piece m. Behind that asks are on their way up to piece e; q asks were told in all.
  pub record Flows (r : Receiver) (asks : List Word) (i d j m e q : ℕ) : Type 0 where
    pub receives : Receives bytes o c big some small size g r i e q
    pub asked : AsksUp m asks e
    pub more : i < big
    pub ends : j ≡ i + d
    pub sent : j ≡ min m big
    pub first : 1 ≤ j

  -- the sender has answered the oldest ask
  pub flows_answered : (r : Receiver) (a : Word) (rest : List Word) (i d j m e q mid cnt t : ℕ) → Flows r (a ∷ rest) i d j m e q →
      m ≤ mid → AsksUp mid rest e → t ≡ min mid big → t ≡ j + cnt → Flows r rest i (d + cnt) t mid e q
  flows_answered r a rest i d j m e q mid cnt t x up asked sent total = record {
    receives = x.receives;
    asked = asked;
    more = x.more;
    ends = (let e1 = x.ends in omega (arith, e1, total));
    sent = sent;
    first = (let f1 = x.first in omega (arith, f1, total));
  }

  -- so many pieces are sent at once
  pub few_pieces : (r : Receiver) (rest asks : List Word) (i d j m e q mid : ℕ) → Flows r asks i d j m e q → AsksUp mid rest e → min mid big - j ≤ 64
  few_pieces r rest asks i d j m e q mid x up =
      let a = x.receives.asking in
      omega (arith, asks_rise mid e rest up, x.receives.end, a.high, a.span_high, x.ends)

  -- the receiver has kept a piece that isn't the last
  pub flows_kept : (now : ℕ) (r : Receiver) (asks : List Word) (i d j m e q : ℕ) → Flows r asks i (suc d) j m e q → suc i < big →
      (x : KeepsOn bytes o c big some small size g now r i e q) → Flows x.after (asks ++ x.asks) (suc i) d j m x.end x.asked
  flows_kept now r asks i d j m e q f more x = record {
    receives = x.receives;
    asked = asks_more m e q x.end x.asked asks x.asks f.asked x.told;
    more = more;
    ends = (let e1 = f.ends in omega (arith, e1));
    sent = f.sent;
    first = f.first;
  }

  -- where no ask is on its way, some piece is
  pub some_piece : (r : Receiver) (i d j m e q : ℕ) → Flows r [] i d j m e q → 1 ≤ d
  some_piece r i d j m e q x =
      let a = x.receives.asking in
      omega (arith, x.more, x.ends, x.sent, x.asked, x.receives.end, a.low)

  -- the words at the last piece, with those that end the transfer
  pub few_said : (r : Receiver) (asks : List Word) (i d j m e q n : ℕ) → Flows r asks i d j m e q → suc i ≡ big → n ≤ 6 + j + q → n ≤ bound_for big
  few_said r asks i d j m e q n x last said =
      omega (arith, few_asked bytes o c big some small size g r i e q x.receives last, x.receives.few, x.sent, said, last)
