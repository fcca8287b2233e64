-- How a write ends whose receiver has told the end, or given up, whatever is lost.
use Rattle.std.proofs.Common.{◌≡◌, ℕ, zero, suc, ◌+◌, ◌-◌, ◌*◌, ◌<◌, ◌≤◌, ◌⊎◌, inl, inr, Bool, true, false, if◌then◌else◌, List, [], ◌∷◌, ◌++◌, length, map, Option, Some, None, refl, sym, ap, ◌∙◌, subst, arith, append-nil}
use Rattle.std.proofs.lemmas.List.{length-map}
use Rattle.std.specs.List.{AllByRecursion}
use Rattle.link_io.specs.declared.Shelf.{Shelf}
use Rattle.rpc_ids.specs.declared.Status.{Status}
use Rattle.rpc_ids.specs.declared.Status.TheVariants.{Okay, DeadlineExceeded}
use Rattle.transfer_base.specs.declared.Ask.{Ask}
use Rattle.transfer_base.specs.declared.limits.TheConstants.{TIMEOUT}
use Rattle.transfer_receiver.specs.Receiver.{Receiver}
use Rattle.transfer_receiver.specs.PieceRules.{active_at}
use Rattle.transfer_sender.specs.Answer.{Answer}
use Rattle.transfer_sender.specs.Sender.{ticked}
use Rattle.transfer_words.specs.Word.{Word, parameters, data_comes, completion, completion_ack}
use Rattle.transfer_words.specs.Saying.{Stepped, says}
use Rattle.transfer_words.specs.CoreAnswers.{of_answer, of_tick}
use Rattle.transfer_resume.specs.declared.stage.Stage.{Stage}
use Rattle.transfer_resume.specs.declared.stage.Stage.TheVariants as stage
use Rattle.transfer_resume.specs.declared.side.Side.TheVariants.{Write}
use Rattle.transfer_resume.specs.Receiver.{receiving_or_over}
use Rattle.transfer_resume.specs.Session.{Service, stepped}
use Rattle.transfer_client.specs.declared.stages.Writing.TheVariants as writing
use Rattle.transfer_client.specs.Machine.{staying as stays_put}
use Rattle.transfer_client.specs.Write.{Upload, asks, at_stage, sending_or_over, sending_timeout, write_rules}
use Rattle.transfer_laws.specs.pairs.Pair.{TakesInSilence, words_of}
use Rattle.transfer_laws.specs.losses.Drops.{LeadsTo, Lost, LossyPair, at_time, kept, lost_at, missing, step, time_passed}
use Rattle.transfer_laws.specs.losses.Survives.{HasEndedWell}
use Rattle.transfer_laws.proofs.losses.Grid.{Setup, Stands, less_or_not}
use Rattle.transfer_laws.proofs.losses.Rounds.{FirstLossy, IsLossy, Passed, first_more, first_passed, just_lost, may_wait, next_round, one_lost, passed_more, still_lossy}
use Rattle.transfer_laws.proofs.losses.DataPhase.{IsAsk, sender_at}
use Rattle.transfer_laws.proofs.losses.Answering.{Sent, as_data, sends}
use Rattle.transfer_laws.proofs.losses.Losing.{all_kept, few_kept, one_word, said_words}
use Rattle.transfer_laws.proofs.losses.Openings.{IsPieceWord, as_pieces, lost_any, same}
use Rattle.transfer_laws.proofs.losses.Late.{counts_on, counts_out, is_past, telling, tells_again, tells_no_more, told_again}

-- the service's end behind its asks, if it is on its way
abbrev told_by : Bool → List Word → List Word
told_by b ws = if b then ws ++ completion Okay ∷ [] else ws

-- what is on its way from the other end was said in this round, so that no timeout was counted since
abbrev pub IsCalm : ℕ → List Word → Type 0
IsCalm t [] = Unit {0}
IsCalm t (y ∷ ys) = t ≡ 0

pub calm : (t : ℕ) (ws : List Word) → t ≡ 0 → IsCalm t ws
calm t [] none = tt
calm t (y ∷ ys) none = none

-- HOW A WRITE ENDS whose client is to come to this end: it knows that all is whole, behind as many turns of time as rounds were
-- lossy, or one of the ends has waited for too long, and the first four rounds were.
module _ (service : Service) (loses : ℕ → Bool) (since limit : ℕ) (end : Upload) where
  pub record IsKnown (last : LossyPair Upload) : Type 0 where
    pub times : ℕ
    pub passed : Passed since times last.lost last.now
    pub sooner : last.now + 2 * TIMEOUT ≤ limit
    pub client : last.pair.client ≡ end
    pub to_client : last.pair.to_client ≡ []
    pub session : Option Stage
    pub server : TakesInSilence (at_time service last.time) last.pair.server last.pair.to_server session
    pub stood : HasEndedWell session

  pub record HasWaited (last : LossyPair Upload) : Type 0 where
    pub ends : write_rules.end_of last.pair.client ≡ Some DeadlineExceeded
    pub four : FirstLossy since last.lost

  pub data Ending (last : LossyPair Upload) : Type 0 where
    known : IsKnown last → Ending last
    waited : HasWaited last → Ending last

  -- and it does so by this moment
  pub record Outcome (w : LossyPair Upload) : Type 0 where
    pub many : ℕ
    pub last : LossyPair Upload
    pub way : LeadsTo service write_rules loses many w last
    pub in_time : last.now ≤ limit
    pub ending : Ending last

module _ (x : Setup) (shelf : Shelf) (window begin : ℕ) (loses : ℕ → Bool) (since limit : ℕ) where
  abbrev pub k : Service
  k = record { side = Write; shelf = shelf; window = window; chunk = x.chunk; time = begin }

  abbrev pub Arrives : Upload → LossyPair Upload → Type 0
  Arrives end w = Outcome k loses since limit end w

  pub one : (end : Upload) (w : LossyPair Upload) → write_rules.end_of w.pair.client ≡ None → Arrives end (step k write_rules loses w) → Arrives end w
  one end w going o = record { many = suc o.many; last = o.last; way = (going, o.way); in_time = o.in_time; ending = o.ending }

  abbrev pub state : Option Stage → Upload → List Word → List Word → ℕ → List Lost → ℕ → ℕ → LossyPair Upload
  state server client up down m lost now time = record { pair = record { server = server; client = client; to_server = up; to_client = down; said = m }; lost = lost; now = now; time = time }

  abbrev pub sends_as : Upload → ℕ → ℕ → ℕ → Upload
  sends_as u p a t = at_stage u (writing.Sending (sender_at x p a t))

  abbrev pub done : Upload → Upload
  done u = at_stage u (writing.Over Okay)

  abbrev pub receives : Receiver → Option Stage
  receives r = Some (stage.Receiving r)

  -- the client has waited for too long, whatever the service makes of the time
  pub gives_up : (end : Upload) (w : LossyPair Upload) (late : ℕ) (s : Stepped Upload) (tick : Stepped (Option Stage)) → write_rules.end_of s.after ≡ Some DeadlineExceeded → FirstLossy since w.lost → late ≤ limit
      → Arrives end (time_passed loses w late s tick)
  gives_up end w late s tick ends four in_time = record {
    many = 0;
    last = time_passed loses w late s tick;
    way = refl;
    in_time = in_time;
    ending =
        waited (record {
          ends = ends;
          four =
              first_more since (missing loses late (w.pair.said + length (words_of s.sayings)) (words_of tick.sayings)) (missing loses late w.pair.said (words_of s.sayings) ++ w.lost)
              (first_more since (missing loses late w.pair.said (words_of s.sayings)) w.lost four);
        });
  }

  -- THE END: the client knows it, and has acknowledged it, which may be lost
  acked : (u : Upload) (r : Receiver) (times m : ℕ) (lost : List Lost) (now time : ℕ) → Passed since times lost now → now + 2 * TIMEOUT ≤ limit
      → Arrives (done u) (state (receives (telling Okay r)) (done u) (completion_ack ∷ []) [] m lost now time)
  acked u r times m lost now time passed sooner = record {
    many = 0;
    last = state (receives (telling Okay r)) (done u) (completion_ack ∷ []) [] m lost now time;
    way = refl;
    in_time = omega (arith, sooner);
    ending = known (record { times = times; passed = passed; sooner = sooner; client = refl; to_client = refl; session = Some (stage.Ended Okay); server = (refl, refl); stood = refl });
  }

  unacked : (u : Upload) (r : Receiver) (times m : ℕ) (lost : List Lost) (now time : ℕ) → Passed since times lost now → now + 2 * TIMEOUT ≤ limit
      → Arrives (done u) (state (receives (telling Okay r)) (done u) [] [] m lost now time)
  unacked u r times m lost now time passed sooner = record {
    many = 0;
    last = state (receives (telling Okay r)) (done u) [] [] m lost now time;
    way = refl;
    in_time = omega (arith, sooner);
    ending = known (record { times = times; passed = passed; sooner = sooner; client = refl; to_client = refl; session = receives (telling Okay r); server = refl; stood = refl });
  }

  -- where time passes the client counts, or has waited for too long
  pub sending_counts : (u : Upload) (p a t now : ℕ) → a + TIMEOUT ≤ now → t ≤ 3 → write_rules.ticks (sends_as u p a t) now ≡ stays_put (sends_as u p now (t + 1))
  sending_counts u p a t now late few =
      ap (λ b. if b then sending_timeout (sends_as u p a t) (ticked (sender_at x p a t) now) else stays_put (sends_as u p a t)) (is_past a now late)
      ∙ ap (λ s. sending_timeout (sends_as u p a t) s) (counts_on x p a t now late few)

  sending_ends : (u : Upload) (p a now : ℕ) → a + TIMEOUT ≤ now
      → write_rules.ticks (sends_as u p a 4) now ≡ record { after = at_stage u (writing.Over DeadlineExceeded); sayings = says (completion DeadlineExceeded) ∷ [] }
  sending_ends u p a now late =
      ap (λ b. if b then sending_timeout (sends_as u p a 4) (ticked (sender_at x p a 4) now) else stays_put (sends_as u p a 4)) (is_past a now late)
      ∙ ap (λ s. sending_timeout (sends_as u p a 4) s) (counts_out x p a now late)

  -- THE SERVICE HAS ENDED, and the client waits for what never comes
  pub record IsSilent (a t : ℕ) (lost : List Lost) (now : ℕ) : Type 0 where
    pub few : t ≤ 4
    pub active : a ≤ now
    pub limited : now + TIMEOUT * (5 - t) ≤ limit
    pub four : FirstLossy since lost

  abbrev silent_pair : Status → Upload → ℕ → ℕ → ℕ → ℕ → List Lost → ℕ → ℕ → LossyPair Upload
  silent_pair status u p a t m lost now time = state (Some (stage.Ended status)) (sends_as u p a t) [] [] m lost now time

  abbrev Silent : ℕ → Type 0
  Silent fuel =
      (end : Upload) (status : Status) (u : Upload) (p a t m : ℕ) (lost : List Lost) (now time : ℕ) → IsSilent a t lost now → 5 - t ≤ fuel → Arrives end (silent_pair status u p a t m lost now time)

  silent_step : (fuel : ℕ) → Silent fuel → Silent (suc fuel)
  silent_step fuel later end status u p a t m lost now time f budget = by (less_or_not t 4)
    where
      by : (t < 4) ⊎ (4 ≤ t) → Arrives end (silent_pair status u p a t m lost now time)
      by (inl less) =
          one end (silent_pair status u p a t m lost now time) refl
          (subst (λ s. Arrives end (time_passed loses (silent_pair status u p a t m lost now time) (now + TIMEOUT) s (record { after = Some (stage.Ended status); sayings = [] }))) (sym (sending_counts u p a t (now + TIMEOUT) (omega (arith, f.active)) (omega (arith, less))))
          (later end status u p (now + TIMEOUT) (t + 1) (m + 0 + 0) lost (now + TIMEOUT) (now + TIMEOUT)
          (record { few = omega (arith, less); active = omega arith; limited = omega (arith, f.limited, less); four = f.four }) (omega (arith, budget, less))))
      by (inr many) = at_last t refl (omega (arith, f.few, many)) f.limited
        where
          at_last : (z : ℕ) → t ≡ z → z ≡ 4 → now + TIMEOUT * (5 - t) ≤ limit → Arrives end (silent_pair status u p a t m lost now time)
          at_last z same is limited =
              subst (λ z. Arrives end (silent_pair status u p a z m lost now time)) (sym (same ∙ is))
              (one end (silent_pair status u p a 4 m lost now time) refl
              (subst (λ s. Arrives end (time_passed loses (silent_pair status u p a 4 m lost now time) (now + TIMEOUT) s (record { after = Some (stage.Ended status); sayings = [] }))) (sym (sending_ends u p a (now + TIMEOUT) (omega (arith, f.active))))
              (gives_up end (silent_pair status u p a 4 m lost now time) (now + TIMEOUT) (record { after = at_stage u (writing.Over DeadlineExceeded); sayings = says (completion DeadlineExceeded) ∷ [] }) (record { after = Some (stage.Ended status); sayings = [] }) refl f.four
              (omega (arith, limited, same, is)))))

  pub silent : (fuel : ℕ) → Silent fuel
  silent zero = λ end status u p a t m lost now time f budget. absurd (omega (arith, budget, f.few))
  silent (suc fuel) = silent_step fuel (silent fuel)

  -- THE SERVICE HAS TOLD THE END, and the client may not have heard it
  pub record Telling (times : ℕ) (r : Receiver) (p a timeouts : ℕ) (b : Bool) (up asks : List Word) (lost : List Lost) (now time : ℕ) : Type 0 where
    pub all_up : AllByRecursion IsPieceWord up
    pub all_asks : AllByRecursion (IsAsk x) asks
    pub stands : Stands x p
    pub resends : r.resends ≤ times
    pub few : r.resends ≤ 3
    pub timeouts_few : timeouts ≤ r.resends
    pub calm_is : IsCalm timeouts asks
    pub limited : now + TIMEOUT * (5 - timeouts) ≤ limit
    pub client_active : a ≤ now
    pub active : r.active ≤ now
    pub punctual : time ≤ now
    pub passed : Passed since times lost now
    pub fresh : IsLossy times lost now ⊎ (b ≡ true)

  abbrev pub telling_pair : Upload → Receiver → ℕ → ℕ → ℕ → List Word → List Word → ℕ → List Lost → ℕ → ℕ → LossyPair Upload
  telling_pair u r p a t up down m lost now time = state (receives (telling Okay r)) (sends_as u p a t) up down m lost now time

  abbrev pub Tells : ℕ → Type 0
  Tells fuel =
      (u : Upload) (r : Receiver) (p a t : ℕ) (b : Bool) (up asks : List Word) (times m : ℕ) (lost : List Lost) (now time : ℕ) → Telling times r p a t b up asks lost now time
      → 100 * (4 - r.resends) + 67 * length asks + length up ≤ fuel → Arrives (done u) (telling_pair u r p a t up (told_by b asks) m lost now time)

  telling_piece : (fuel : ℕ) → Tells fuel → (u : Upload) (r : Receiver) (p a t : ℕ) (b : Bool) (y : Word) (ys asks : List Word) (times m : ℕ) (lost : List Lost) (now time : ℕ) → Telling times r p a t b (y ∷ ys) asks lost now time
      → 100 * (4 - r.resends) + 67 * length asks + length (y ∷ ys) ≤ suc fuel → Arrives (done u) (telling_pair u r p a t (y ∷ ys) (told_by b asks) m lost now time)
  telling_piece fuel later u r p a t b (data_comes q) ys asks times m lost now time f budget =
      one (done u) (telling_pair u r p a t (data_comes q ∷ ys) (told_by b asks) m lost now time) refl
      (subst (λ ws. Arrives (done u) (telling_pair u (active_at time r) p a t ys ws (m + 0) lost now time)) (sym (append-nil (told_by b asks)))
      (later u (active_at time r) p a t b ys asks times (m + 0) lost now time
      (record {
        all_up = f.all_up.1;
        all_asks = f.all_asks;
        stands = f.stands;
        resends = f.resends;
        few = f.few;
        timeouts_few = f.timeouts_few;
        calm_is = f.calm_is;
        limited = f.limited;
        client_active = f.client_active;
        active = f.punctual;
        punctual = f.punctual;
        passed = f.passed;
        fresh = f.fresh;
      })
      (omega (arith, budget))))
  telling_piece fuel later u r p a t b _ ys asks times m lost now time f budget = absurd f.all_up.0

  -- the client has answered an ask
  abbrev answered_pair : Option Stage → Upload → List Word → ℕ → List Lost → ℕ → ℕ → Answer → LossyPair Upload
  answered_pair server u rest m lost now time an =
      state server (at_stage u (sending_or_over an.after an.after.ended)) (kept loses m (words_of (of_answer an))) rest (m + length (words_of (of_answer an))) (missing loses now m (words_of (of_answer an)) ++ lost) now time

  telling_asked : (fuel : ℕ) → Tells fuel → (u : Upload) (r : Receiver) (p a t : ℕ) (b : Bool) (ask : Ask) (rest : List Word) (times m : ℕ) (lost : List Lost) (now time : ℕ)
      → Telling times r p a t b [] (parameters ask ∷ rest) lost now time → 100 * (4 - r.resends) + 67 * length (parameters ask ∷ rest) + 0 ≤ suc fuel
      → Arrives (done u) (telling_pair u r p a t [] (parameters ask ∷ told_by b rest) m lost now time)
  telling_asked fuel later u r p a t b ask rest times m lost now time f budget =
      let s : Sent x p ask = sends x p ask f.stands f.all_asks.0 in
      let words : List Word = map data_comes s.pieces in
      one (done u) (telling_pair u r p a t [] (parameters ask ∷ told_by b rest) m lost now time) refl
      (subst (λ z. Arrives (done u) (answered_pair (receives (telling Okay r)) u (told_by b rest) m lost now time z)) (sym (s.is now 0))
      (subst (λ ws. Arrives (done u) (telling_pair u r s.position now 0 (kept loses m ws) (told_by b rest) (m + length ws) (missing loses now m ws ++ lost) now time)) (sym (said_words s.pieces))
      (later u r s.position now 0 b (kept loses m words) rest times (m + length words) (missing loses now m words ++ lost) now time
      (record {
        all_up = all_kept loses IsPieceWord words m (as_pieces x words (as_data x s.pieces s.all));
        all_asks = f.all_asks.1;
        stands = s.stands;
        resends = f.resends;
        few = f.few;
        timeouts_few = omega arith;
        calm_is = calm 0 rest refl;
        limited = omega (arith, f.limited, f.calm_is);
        client_active = omega arith;
        active = f.active;
        punctual = f.punctual;
        passed = passed_more (missing loses now m words) f.passed;
        fresh = by_fresh (missing loses now m words) f.fresh;
      })
      (omega (arith, budget, few_kept loses words m, length-map s.pieces data_comes, s.few)))))
    where
      by_fresh : (more : List Lost) → IsLossy times lost now ⊎ (b ≡ true) → IsLossy times (more ++ lost) now ⊎ (b ≡ true)
      by_fresh more (inl some) = inl (still_lossy more some)
      by_fresh more (inr is) = inr is

  telling_heard : (u : Upload) (r : Receiver) (p a t times m : ℕ) (lost : List Lost) (now time : ℕ) → Telling times r p a t true [] [] lost now time
      → Arrives (done u) (telling_pair u r p a t [] (completion Okay ∷ []) m lost now time)
  telling_heard u r p a t times m lost now time f =
      one (done u) (telling_pair u r p a t [] (completion Okay ∷ []) m lost now time) refl
      (one_word loses now (λ goes lost'. Arrives (done u) (state (receives (telling Okay r)) (done u) goes [] (m + 1) (lost' ++ lost) now time)) completion_ack m
      (unacked u r times (m + 1) (lost_at now completion_ack ∷ lost) now time (one_lost f.passed) sooner) (acked u r times (m + 1) lost now time f.passed sooner))
    where
      sooner : now + 2 * TIMEOUT ≤ limit
      sooner = omega (arith, f.limited, f.timeouts_few, f.few)

  telling_late : (fuel : ℕ) → Tells fuel → (u : Upload) (r : Receiver) (p a t times m : ℕ) (lost : List Lost) (now time : ℕ) → Telling times r p a t false [] [] lost now time → 100 * (4 - r.resends) ≤ suc fuel
      → Arrives (done u) (telling_pair u r p a t [] [] m lost now time)
  telling_late fuel later u r p a t times m lost now time f budget = by (may_wait r.resends)
    where
      next : Passed since (suc times) lost (now + TIMEOUT)
      next = next_round f.passed (lost_any (IsLossy times lost now) f.fresh)

      counted : write_rules.ticks (sends_as u p a t) (now + TIMEOUT) ≡ stays_put (sends_as u p (now + TIMEOUT) (t + 1))
      counted = sending_counts u p a t (now + TIMEOUT) (omega (arith, f.client_active)) (omega (arith, f.timeouts_few, f.few))

      by : (r.resends ≤ 2) ⊎ (3 ≤ r.resends) → Arrives (done u) (telling_pair u r p a t [] [] m lost now time)
      by (inl few) =
          one (done u) (telling_pair u r p a t [] [] m lost now time) refl
          (subst (λ o. Arrives (done u) (time_passed loses (telling_pair u r p a t [] [] m lost now time) (now + TIMEOUT) (write_rules.ticks (sends_as u p a t) (now + TIMEOUT)) (stepped (record { after = receiving_or_over o.after o.answer; sayings = of_tick false o.answer }))))
          (sym (tells_again Okay r (now + TIMEOUT) few (omega (arith, f.active))))
          (subst (λ s. Arrives (done u) (time_passed loses (telling_pair u r p a t [] [] m lost now time) (now + TIMEOUT) s (record { after = receives (telling Okay (told_again (now + TIMEOUT) r)); sayings = says (completion Okay) ∷ [] }))) (sym counted)
          (one_word loses (now + TIMEOUT) (λ goes lost'. Arrives (done u) (telling_pair u (told_again (now + TIMEOUT) r) p (now + TIMEOUT) (t + 1) [] goes (m + 0 + 1) (lost' ++ lost) (now + TIMEOUT) (now + TIMEOUT))) (completion Okay) (m + 0)
          (later u (told_again (now + TIMEOUT) r) p (now + TIMEOUT) (t + 1) false [] [] (suc times) (m + 0 + 1) (lost_at (now + TIMEOUT) (completion Okay) ∷ lost) (now + TIMEOUT) (now + TIMEOUT)
          (record {
            all_up = tt;
            all_asks = tt;
            stands = f.stands;
            resends = omega (arith, f.resends);
            few = omega (arith, few);
            timeouts_few = omega (arith, f.timeouts_few);
            calm_is = tt;
            limited = omega (arith, f.limited, f.timeouts_few, few);
            client_active = omega arith;
            active = omega arith;
            punctual = omega arith;
            passed = one_lost next;
            fresh = inl (just_lost next);
          })
          (omega (arith, budget, few)))
          (later u (told_again (now + TIMEOUT) r) p (now + TIMEOUT) (t + 1) true [] [] (suc times) (m + 0 + 1) lost (now + TIMEOUT) (now + TIMEOUT)
          (record {
            all_up = tt;
            all_asks = tt;
            stands = f.stands;
            resends = omega (arith, f.resends);
            few = omega (arith, few);
            timeouts_few = omega (arith, f.timeouts_few);
            calm_is = tt;
            limited = omega (arith, f.limited, f.timeouts_few, few);
            client_active = omega arith;
            active = omega arith;
            punctual = omega arith;
            passed = next;
            fresh = inr refl;
          })
          (omega (arith, budget, few))))))
      by (inr many) =
          one (done u) (telling_pair u r p a t [] [] m lost now time) refl
          (subst (λ o. Arrives (done u) (time_passed loses (telling_pair u r p a t [] [] m lost now time) (now + TIMEOUT) (write_rules.ticks (sends_as u p a t) (now + TIMEOUT)) (stepped (record { after = receiving_or_over o.after o.answer; sayings = of_tick false o.answer }))))
          (sym (tells_no_more Okay r (now + TIMEOUT) many (omega (arith, f.active))))
          (subst (λ s. Arrives (done u) (time_passed loses (telling_pair u r p a t [] [] m lost now time) (now + TIMEOUT) s (record { after = Some (stage.Ended Okay); sayings = [] }))) (sym counted)
          (silent 5 (done u) Okay u p (now + TIMEOUT) (t + 1) (m + 0 + 0) lost (now + TIMEOUT) (now + TIMEOUT)
          (record {
            few = omega (arith, f.timeouts_few, f.few);
            active = omega arith;
            limited = omega (arith, f.limited, f.timeouts_few, f.few);
            four = first_passed (omega (arith, many, f.resends)) next;
          })
          (omega arith))))

  telling_down : (fuel : ℕ) → Tells fuel → (u : Upload) (r : Receiver) (p a t : ℕ) (b : Bool) (y : Word) (ys : List Word) (times m : ℕ) (lost : List Lost) (now time : ℕ) → Telling times r p a t b [] (y ∷ ys) lost now time
      → 100 * (4 - r.resends) + 67 * length (y ∷ ys) + 0 ≤ suc fuel → Arrives (done u) (telling_pair u r p a t [] (y ∷ told_by b ys) m lost now time)
  telling_down fuel later u r p a t b (parameters ask) ys times m lost now time f budget = telling_asked fuel later u r p a t b ask ys times m lost now time f budget
  telling_down fuel later u r p a t b _ ys times m lost now time f budget = absurd f.all_asks.0

  tells_step : (fuel : ℕ) → Tells fuel → Tells (suc fuel)
  tells_step fuel later u r p a t b (y ∷ ys) asks times m lost now time f budget = telling_piece fuel later u r p a t b y ys asks times m lost now time f budget
  tells_step fuel later u r p a t true [] (y ∷ ys) times m lost now time f budget = telling_down fuel later u r p a t true y ys times m lost now time f budget
  tells_step fuel later u r p a t false [] (y ∷ ys) times m lost now time f budget = telling_down fuel later u r p a t false y ys times m lost now time f budget
  tells_step fuel later u r p a t true [] [] times m lost now time f budget = telling_heard u r p a t times m lost now time f
  tells_step fuel later u r p a t false [] [] times m lost now time f budget = telling_late fuel later u r p a t times m lost now time f (omega (arith, budget))

  pub tells : (fuel : ℕ) → Tells fuel
  tells zero = λ u r p a t b up asks times m lost now time f budget. absurd (omega (arith, budget, f.few))
  tells (suc fuel) = tells_step fuel (tells fuel)
