-- What goes on of words of which some may be lost, and how the data phase goes on then.
use Rattle.std.proofs.Common.{◌≡◌, ℕ, suc, ◌≤◌, ◌⊎◌, inl, inr, Bool, true, false, if◌then◌else◌, List, [], ◌∷◌, ◌++◌, length, map, refl, sym, ap, subst, arith}
use Rattle.std.specs.List.{AllByRecursion}
use Rattle.transfer_receiver.specs.Receiver.{Receiver}
use Rattle.transfer_base.specs.declared.Piece.{Piece}
use Rattle.transfer_words.specs.Word.{Word, data_comes}
use Rattle.transfer_words.specs.CoreAnswers.{said_pieces}
use Rattle.transfer_laws.specs.pairs.Pair.{words_of}
use Rattle.transfer_laws.proofs.words.Sessions.{all_join}
use Rattle.transfer_laws.specs.losses.Drops.{Lost, kept, lost_at, missing}
use Rattle.transfer_laws.proofs.losses.Grid.{Setup}
use Rattle.transfer_laws.proofs.losses.DataPhase.{Flowing, IsClean, IsData}

module _ (loses : ℕ → Bool) where
  pub all_kept : (P : Word → Type 0) (ws : List Word) (said : ℕ) → AllByRecursion P ws → AllByRecursion P (kept loses said ws)
  all_kept P [] said all = tt
  all_kept P (w ∷ ws) said all = by_loss (loses (suc said)) (all_kept P ws (suc said) all.1)
    where
      by_loss : (b : Bool) → AllByRecursion P (kept loses (suc said) ws) → AllByRecursion P (if b then kept loses (suc said) ws else w ∷ kept loses (suc said) ws)
      by_loss true rest = rest
      by_loss false rest = (all.0, rest)

  pub few_kept : (ws : List Word) (said : ℕ) → length (kept loses said ws) ≤ length ws
  few_kept [] said = omega arith
  few_kept (w ∷ ws) said = by_loss (loses (suc said)) (few_kept ws (suc said))
    where
      by_loss : (b : Bool) → length (kept loses (suc said) ws) ≤ length ws → length (if b then kept loses (suc said) ws else w ∷ kept loses (suc said) ws) ≤ length (w ∷ ws)
      by_loss true rest = omega (arith, rest)
      by_loss false rest = omega (arith, rest)

  -- all go on, or some are lost
  pub all_or_less : (ws : List Word) (now said : ℕ) → (kept loses said ws ≡ ws) ⊎ (1 ≤ length (missing loses now said ws))
  all_or_less [] now said = inl refl
  all_or_less (w ∷ ws) now said = by_loss (loses (suc said)) (all_or_less ws now (suc said))
    where
      by_loss : (b : Bool) → (kept loses (suc said) ws ≡ ws) ⊎ (1 ≤ length (missing loses now (suc said) ws))
          → ((if b then kept loses (suc said) ws else w ∷ kept loses (suc said) ws) ≡ w ∷ ws)
          ⊎ (1 ≤ length (if b then lost_at now w ∷ missing loses now (suc said) ws else missing loses now (suc said) ws))
      by_loss true rest = inr (omega arith)
      by_loss false (inl same) = inl (ap (λ xs. w ∷ xs) same)
      by_loss false (inr some) = inr some

  -- the chunks that a sender has sent, but for those that are lost
  pub flows_on : (k : Setup) (times : ℕ) (Lossy Then : Type 0) (r : Receiver) (w p now said : ℕ) (sent more asked : List Word) → AllByRecursion (IsData k) sent → AllByRecursion (IsData k) more
      → (Lossy → Then) → (1 ≤ length (missing loses now said more) → Then) → Flowing k times Lossy r w p (sent ++ more) asked → Flowing k times Then r w p (sent ++ kept loses said more) asked
  flows_on k times Lossy Then r w p now said sent more asked all_sent all_more still some_lost f = record {
    takes = f.takes;
    stands = f.stands;
    resends = f.resends;
    all_sent = all_join (IsData k) sent (kept loses said more) all_sent (all_kept (IsData k) more said all_more);
    all_asked = f.all_asked;
    fresh = by_fresh f.fresh;
  }
    where
      by_kept : (kept loses said more ≡ more) ⊎ (1 ≤ length (missing loses now said more)) → IsClean k r w p (sent ++ more) asked → Then ⊎ IsClean k r w p (sent ++ kept loses said more) asked
      by_kept (inl same) clean = inr (subst (λ ws. IsClean k r w p (sent ++ ws) asked) (sym same) clean)
      by_kept (inr some) clean = inl (some_lost some)

      by_fresh : Lossy ⊎ IsClean k r w p (sent ++ more) asked → Then ⊎ IsClean k r w p (sent ++ kept loses said more) asked
      by_fresh (inl lost) = inl (still lost)
      by_fresh (inr clean) = by_kept (all_or_less more now said) clean

  -- one word goes on, or is lost
  pub one_word : (now : ℕ) (Q : List Word → List Lost → Type 0) (w : Word) (said : ℕ) → Q [] (lost_at now w ∷ []) → Q (w ∷ []) [] → Q (kept loses said (w ∷ [])) (missing loses now said (w ∷ []))
  one_word now Q w said lost goes = by_loss (loses (suc said))
    where
      by_loss : (b : Bool) → Q (if b then [] else w ∷ []) (if b then lost_at now w ∷ [] else [])
      by_loss true = lost
      by_loss false = goes

-- the words of pieces, and how many they are
pub said_words : (ps : List Piece) → words_of (said_pieces ps) ≡ map data_comes ps
said_words [] = refl
said_words (p ∷ ps) = ap (λ ws. data_comes p ∷ ws) (said_words ps)

-- where the round is lossy for another reason
pub relost : {k : Setup} {times : ℕ} {Lossy Then : Type 0} {r : Receiver} {w p : ℕ} {sent asked : List Word} → (Lossy → Then) → Flowing k times Lossy r w p sent asked → Flowing k times Then r w p sent asked
relost {k} {times} {Lossy} {Then} {r} {w} {p} {sent} {asked} so f =
    record { takes = f.takes; stands = f.stands; resends = f.resends; all_sent = f.all_sent; all_asked = f.all_asked; fresh = by_fresh f.fresh }
  where
    by_fresh : Lossy ⊎ IsClean k r w p sent asked → Then ⊎ IsClean k r w p sent asked
    by_fresh (inl lost) = inl (so lost)
    by_fresh (inr clean) = inr clean
