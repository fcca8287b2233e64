-- How a read ends whose receiver has told the end, whatever is lost.
use Rattle.std.proofs.Common.{◌≡◌, ℕ, zero, suc, ◌+◌, ◌-◌, ◌*◌, ◌≤◌, ◌⊎◌, inl, inr, Bool, true, false, if◌then◌else◌, List, [], ◌∷◌, ◌++◌, length, Option, Some, None, refl, sym, subst, arith, append-nil}
use Rattle.std.specs.List.{AllByRecursion}
use Rattle.link_io.specs.declared.Shelf.{Shelf}
use Rattle.rpc_ids.specs.declared.Status.TheVariants.{Okay, DeadlineExceeded}
use Rattle.transfer_base.specs.declared.limits.TheConstants.{TIMEOUT}
use Rattle.transfer_receiver.specs.Receiver.{Receiver}
use Rattle.transfer_receiver.specs.PieceRules.{active_at}
use Rattle.transfer_sender.specs.Sender.{Sender}
use Rattle.transfer_words.specs.Word.{Word, data_comes, completion, completion_ack}
use Rattle.transfer_words.specs.Saying.{Stepped, says}
use Rattle.transfer_words.specs.CoreAnswers.{of_timeout}
use Rattle.transfer_resume.specs.declared.stage.Stage.{Stage}
use Rattle.transfer_resume.specs.declared.stage.Stage.TheVariants as stage
use Rattle.transfer_resume.specs.declared.side.Side.TheVariants.{Read}
use Rattle.transfer_resume.specs.Sender.{sending_or_ended}
use Rattle.transfer_resume.specs.Session.{Service}
use Rattle.transfer_client.specs.declared.stages.Reading.TheVariants as reading
use Rattle.transfer_client.specs.Read.{Download, at_stage, read_rules, receiving_ticks}
use Rattle.transfer_client.specs.Machine.{staying as stays_put}
use Rattle.transfer_laws.specs.pairs.Pair.{words_of}
use Rattle.transfer_laws.specs.losses.Drops.{LeadsTo, Lost, LossyPair, lost_at, missing, session_ticks, step, time_passed}
use Rattle.transfer_laws.specs.losses.Survives.{IsNoConfirmation}
use Rattle.transfer_laws.proofs.losses.Grid.{Setup}
use Rattle.transfer_laws.proofs.losses.Rounds.{IsLossy, Passed, just_lost, may_wait, next_round, one_lost, passed_more}
use Rattle.transfer_laws.proofs.losses.DataPhase.{sender_at}
use Rattle.transfer_laws.proofs.losses.Losing.{one_word}
use Rattle.transfer_laws.proofs.losses.Openings.{IsPieceWord, IsSomewhere, Spot, back, coming, lost_any, lost_some, nowhere, steps_of}
use Rattle.transfer_laws.proofs.losses.Asking.{state}
use Rattle.transfer_laws.proofs.losses.Late.{sender_counts, telling, tells_again, tells_no_more, told_again}

-- the client's end on its way, if it is
abbrev pub told_by : Bool → List Word
told_by b = if b then completion Okay ∷ [] else []

-- the client's end on its way, and the acknowledgement behind data
abbrev told_up : Spot → List Word
told_up nowhere = []
told_up coming = completion Okay ∷ []
told_up back = []

abbrev told_down : Spot → List Word → List Word
told_down nowhere ws = ws
told_down coming ws = ws
told_down back ws = ws ++ completion_ack ∷ []

-- HOW A READ ENDS whose client is to come to this end: both ends know that it is whole, behind as many turns of time as rounds
-- were lossy; or the client has waited for four turns, behind as many; or its confirmation was lost in one of such rounds.
module _ (service : Service) (loses : ℕ → Bool) (since : ℕ) (end : Download) where
  pub record IsKnown (last : LossyPair Download) : Type 0 where
    pub times : ℕ
    pub passed : Passed since times last.lost last.now
    pub client : last.pair.client ≡ end
    pub to_client : last.pair.to_client ≡ []
    pub to_server : last.pair.to_server ≡ []
    pub server : last.pair.server ≡ Some (stage.Ended Okay)

  pub record HasWaited (last : LossyPair Download) : Type 0 where
    pub times : ℕ
    pub many : 4 ≤ times
    pub passed : Passed since times last.lost last.now
    pub ends : (read_rules.end_of last.pair.client ≡ Some Okay) ⊎ (read_rules.end_of last.pair.client ≡ Some DeadlineExceeded)

  pub record IsUnconfirmed (w last : LossyPair Download) : Type 0 where
    pub ends : read_rules.end_of last.pair.client ≡ Some DeadlineExceeded
    pub count : ℕ
    pub mid : LossyPair Download
    pub way : LeadsTo service read_rules loses count w mid
    pub times : ℕ
    pub passed : Passed since times mid.lost mid.now
    pub lost : AllByRecursion IsNoConfirmation mid.lost → ⊥

  pub data Ending (w last : LossyPair Download) : Type 0 where
    known : IsKnown last → Ending w last
    waited : HasWaited last → Ending w last
    unconfirmed : IsUnconfirmed w last → Ending w last

  -- and it does so by this moment
  pub record Outcome (limit : ℕ) (w : LossyPair Download) : Type 0 where
    pub many : ℕ
    pub last : LossyPair Download
    pub way : LeadsTo service read_rules loses many w last
    pub in_time : last.now ≤ limit
    pub ending : Ending w last

  -- where it does so behind a step
  pub ends_behind : (limit : ℕ) (w : LossyPair Download) → read_rules.end_of w.pair.client ≡ None → Outcome limit (step service read_rules loses w) → Outcome limit w
  ends_behind limit w going o = record { many = suc o.many; last = o.last; way = (going, o.way); in_time = o.in_time; ending = by o.ending }
    where
      by : Ending (step service read_rules loses w) o.last → Ending w o.last
      by (known is) = known is
      by (waited is) = waited is
      by (unconfirmed is) = unconfirmed (record { ends = is.ends; count = suc is.count; mid = is.mid; way = (going, is.way); times = is.times; passed = is.passed; lost = is.lost })

module _ (x : Setup) (shelf : Shelf) (service_window service_chunk begin : ℕ) (loses : ℕ → Bool) (since limit : ℕ) where
  abbrev pub k : Service
  k = record { side = Read; shelf = shelf; window = service_window; chunk = service_chunk; time = begin }

  abbrev pub Arrives : Download → LossyPair Download → Type 0
  Arrives end w = Outcome k loses since end limit w

  pub one : (end : Download) (w : LossyPair Download) → read_rules.end_of w.pair.client ≡ None → Arrives end (step k read_rules loses w) → Arrives end w
  one end w going o = ends_behind k loses since end limit w going o

  -- the client has waited for too long: it has ended with one of these, whatever the service makes of the time
  pub gives_up : (end : Download) (times : ℕ) (w : LossyPair Download) (late : ℕ) (s : Stepped Download) (tick : Stepped (Option Stage))
      → (read_rules.end_of s.after ≡ Some Okay) ⊎ (read_rules.end_of s.after ≡ Some DeadlineExceeded) → 3 ≤ times → Passed since (suc times) w.lost late → late ≤ limit → Arrives end (time_passed loses w late s tick)
  gives_up end times w late s tick ends many passed in_time = record {
    many = 0;
    last = time_passed loses w late s tick;
    way = refl;
    in_time = in_time;
    ending =
        waited (record {
          times = suc times;
          many = omega (arith, many);
          passed =
              passed_more (missing loses late (w.pair.said + length (words_of s.sayings)) (words_of tick.sayings))
              (passed_more (missing loses late w.pair.said (words_of s.sayings)) passed);
          ends = ends;
        });
  }

  abbrev pub receives_as : Download → Receiver → Download
  receives_as d r = at_stage d (reading.Receiving r)

  -- what a sender does at a tick
  abbrev pub sender_ticked : Sender → Stepped (Option Stage)
  sender_ticked s = record { after = Some (sending_or_ended s s.ended); sayings = of_timeout s.ended }

  abbrev pub done : Download → Download
  done d = at_stage d (reading.Over Okay)

  -- THE END: the client knows that the service knows it
  pub over : (d : Download) (times m : ℕ) (lost : List Lost) (now time : ℕ) → Passed since times lost now → now ≤ limit → Arrives (done d) (state (Some (stage.Ended Okay)) (done d) [] [] m lost now time)
  over d times m lost now time passed in_time = record {
    many = 0;
    last = state (Some (stage.Ended Okay)) (done d) [] [] m lost now time;
    way = refl;
    in_time = in_time;
    ending = known (record { times = times; passed = passed; client = refl; to_client = refl; to_server = refl; server = refl });
  }

  -- THE SERVICE HAS ENDED, and the client waits for the acknowledgement
  record Told (times : ℕ) (r : Receiver) (spot : Spot) (ws : List Word) (lost : List Lost) (now : ℕ) : Type 0 where
    all : AllByRecursion IsPieceWord ws
    resends : r.resends ≤ times
    few : r.resends ≤ 3
    limited : now + TIMEOUT * (4 - r.resends) ≤ limit
    active : r.active ≤ now
    passed : Passed since times lost now
    fresh : IsLossy times lost now ⊎ IsSomewhere spot

  abbrev told_pair : Download → Receiver → Spot → List Word → ℕ → List Lost → ℕ → ℕ → LossyPair Download
  told_pair d r spot ws m lost now time = state (Some (stage.Ended Okay)) (receives_as d (telling Okay r)) (told_up spot) (told_down spot ws) m lost now time

  abbrev TellsEnd : ℕ → Type 0
  TellsEnd fuel =
      (d : Download) (r : Receiver) (spot : Spot) (ws : List Word) (times m : ℕ) (lost : List Lost) (now time : ℕ) → Told times r spot ws lost now → 100 * (4 - r.resends) + steps_of spot + length ws ≤ fuel
      → Arrives (done d) (told_pair d r spot ws m lost now time)

  told_heard : (fuel : ℕ) → TellsEnd fuel → (d : Download) (r : Receiver) (ws : List Word) (times m : ℕ) (lost : List Lost) (now time : ℕ) → Told times r coming ws lost now
      → 100 * (4 - r.resends) + 2 + length ws ≤ suc fuel → Arrives (done d) (told_pair d r coming ws m lost now time)
  told_heard fuel later d r ws times m lost now time t budget =
      one (done d) (told_pair d r coming ws m lost now time) refl
      (one_word loses now (λ goes lost'. Arrives (done d) (state (Some (stage.Ended Okay)) (receives_as d (telling Okay r)) [] (ws ++ goes) (m + 1) (lost' ++ lost) now time)) completion_ack m
      (subst (λ z. Arrives (done d) (state (Some (stage.Ended Okay)) (receives_as d (telling Okay r)) [] z (m + 1) (lost_at now completion_ack ∷ lost) now time)) (sym (append-nil ws))
      (later d r nowhere ws times (m + 1) (lost_at now completion_ack ∷ lost) now time
      (record { all = t.all; resends = t.resends; few = t.few; limited = t.limited; active = t.active; passed = one_lost t.passed; fresh = inl (just_lost t.passed) }) (omega (arith, budget))))
      (later d r back ws times (m + 1) lost now time (record { all = t.all; resends = t.resends; few = t.few; limited = t.limited; active = t.active; passed = t.passed; fresh = inr tt }) (omega (arith, budget))))

  -- a chunk changes nothing
  told_after : (times : ℕ) (r : Receiver) (spot : Spot) (y : Word) (ys : List Word) (lost : List Lost) (now : ℕ) → Told times r spot (y ∷ ys) lost now → Told times (active_at now r) spot ys lost now
  told_after times r spot y ys lost now t = record { all = t.all.1; resends = t.resends; few = t.few; limited = t.limited; active = omega arith; passed = t.passed; fresh = t.fresh }

  told_piece : (fuel : ℕ) → TellsEnd fuel → (d : Download) (r : Receiver) (y : Word) (ys : List Word) (times m : ℕ) (lost : List Lost) (now time : ℕ) → Told times r nowhere (y ∷ ys) lost now
      → 100 * (4 - r.resends) + length (y ∷ ys) ≤ suc fuel → Arrives (done d) (told_pair d r nowhere (y ∷ ys) m lost now time)
  told_piece fuel later d r (data_comes p) ys times m lost now time t budget =
      one (done d) (told_pair d r nowhere (data_comes p ∷ ys) m lost now time) refl
      (later d (active_at now r) nowhere ys times (m + 0) lost now time (told_after times r nowhere (data_comes p) ys lost now t) (omega (arith, budget)))
  told_piece fuel later d r _ ys times m lost now time t budget = absurd t.all.0

  told_back : (fuel : ℕ) → TellsEnd fuel → (d : Download) (r : Receiver) (y : Word) (ys : List Word) (times m : ℕ) (lost : List Lost) (now time : ℕ) → Told times r back (y ∷ ys) lost now
      → 100 * (4 - r.resends) + 1 + length (y ∷ ys) ≤ suc fuel → Arrives (done d) (told_pair d r back (y ∷ ys) m lost now time)
  told_back fuel later d r (data_comes p) ys times m lost now time t budget =
      one (done d) (told_pair d r back (data_comes p ∷ ys) m lost now time) refl
      (later d (active_at now r) back ys times (m + 0) lost now time (told_after times r back (data_comes p) ys lost now t) (omega (arith, budget)))
  told_back fuel later d r _ ys times m lost now time t budget = absurd t.all.0

  told_late : (fuel : ℕ) → TellsEnd fuel → (d : Download) (r : Receiver) (times m : ℕ) (lost : List Lost) (now time : ℕ) → Told times r nowhere [] lost now → 100 * (4 - r.resends) ≤ suc fuel
      → Arrives (done d) (told_pair d r nowhere [] m lost now time)
  told_late fuel later d r times m lost now time t budget = by (may_wait r.resends)
    where
      next : Passed since (suc times) lost (now + TIMEOUT)
      next = next_round t.passed (lost_some (IsLossy times lost now) t.fresh)

      by : (r.resends ≤ 2) ⊎ (3 ≤ r.resends) → Arrives (done d) (told_pair d r nowhere [] m lost now time)
      by (inl few) =
          one (done d) (told_pair d r nowhere [] m lost now time) refl
          (subst (λ o. Arrives (done d) (time_passed loses (told_pair d r nowhere [] m lost now time) (now + TIMEOUT) (receiving_ticks d (telling Okay r) o) (session_ticks Read (now + TIMEOUT) (Some (stage.Ended Okay)))))
          (sym (tells_again Okay r (now + TIMEOUT) few (omega (arith, t.active))))
          (one_word loses (now + TIMEOUT) (λ goes lost'. Arrives (done d) (state (Some (stage.Ended Okay)) (receives_as d (telling Okay (told_again (now + TIMEOUT) r))) goes [] (m + 1 + 0) (lost' ++ lost) (now + TIMEOUT) (now + TIMEOUT))) (completion Okay) m
          (later d (told_again (now + TIMEOUT) r) nowhere [] (suc times) (m + 1 + 0) (lost_at (now + TIMEOUT) (completion Okay) ∷ lost) (now + TIMEOUT) (now + TIMEOUT)
          (record {
            all = tt;
            resends = omega (arith, t.resends);
            few = omega (arith, few);
            limited = omega (arith, t.limited, few);
            active = omega arith;
            passed = one_lost next;
            fresh = inl (just_lost next);
          })
          (omega (arith, budget, few)))
          (later d (told_again (now + TIMEOUT) r) coming [] (suc times) (m + 1 + 0) lost (now + TIMEOUT) (now + TIMEOUT)
          (record {
            all = tt;
            resends = omega (arith, t.resends);
            few = omega (arith, few);
            limited = omega (arith, t.limited, few);
            active = omega arith;
            passed = next;
            fresh = inr tt;
          })
          (omega (arith, budget, few)))))
      by (inr many) =
          one (done d) (told_pair d r nowhere [] m lost now time) refl
          (subst (λ o. Arrives (done d) (time_passed loses (told_pair d r nowhere [] m lost now time) (now + TIMEOUT) (receiving_ticks d (telling Okay r) o) (session_ticks Read (now + TIMEOUT) (Some (stage.Ended Okay)))))
          (sym (tells_no_more Okay r (now + TIMEOUT) many (omega (arith, t.active))))
          (gives_up (done d) times (told_pair d r nowhere [] m lost now time) (now + TIMEOUT) (stays_put (done d)) (session_ticks Read (now + TIMEOUT) (Some (stage.Ended Okay))) (inl refl) (omega (arith, many, t.resends)) next (omega (arith, t.limited, t.few))))

  told_step : (fuel : ℕ) → TellsEnd fuel → TellsEnd (suc fuel)
  told_step fuel later d r coming ws times m lost now time t budget = told_heard fuel later d r ws times m lost now time t (omega (arith, budget))
  told_step fuel later d r nowhere [] times m lost now time t budget = told_late fuel later d r times m lost now time t (omega (arith, budget))
  told_step fuel later d r nowhere (y ∷ ys) times m lost now time t budget = told_piece fuel later d r y ys times m lost now time t (omega (arith, budget))
  told_step fuel later d r back [] times m lost now time t budget = one (done d) (told_pair d r back [] m lost now time) refl (over d times (m + 0) lost now time t.passed (omega (arith, t.limited)))
  told_step fuel later d r back (y ∷ ys) times m lost now time t budget = told_back fuel later d r y ys times m lost now time t (omega (arith, budget))

  told : (fuel : ℕ) → TellsEnd fuel
  told zero = λ d r spot ws times m lost now time t budget. absurd (omega (arith, budget, t.few))
  told (suc fuel) = told_step fuel (told fuel)

  -- THE CLIENT HAS TOLD THE END, and the service may not have heard it
  pub record Telling (times : ℕ) (r : Receiver) (timeouts : ℕ) (b : Bool) (down : List Word) (lost : List Lost) (now : ℕ) : Type 0 where
    pub all : AllByRecursion IsPieceWord down
    pub resends : r.resends ≤ times
    pub few : r.resends ≤ 3
    pub limited : now + TIMEOUT * (4 - r.resends) ≤ limit
    pub timeouts_few : timeouts ≤ r.resends
    pub active : r.active ≤ now
    pub passed : Passed since times lost now
    pub fresh : IsLossy times lost now ⊎ (b ≡ true)

  abbrev pub telling_pair : Download → Receiver → ℕ → ℕ → ℕ → Bool → List Word → ℕ → List Lost → ℕ → ℕ → LossyPair Download
  telling_pair d r p a t b down m lost now time = state (Some (stage.Sending (sender_at x p a t))) (receives_as d (telling Okay r)) (told_by b) down m lost now time

  abbrev pub Tells : ℕ → Type 0
  Tells fuel =
      (d : Download) (r : Receiver) (p a t : ℕ) (b : Bool) (down : List Word) (times m : ℕ) (lost : List Lost) (now time : ℕ) → Telling times r t b down lost now → 100 * (4 - r.resends) + length down ≤ fuel
      → Arrives (done d) (telling_pair d r p a t b down m lost now time)

  telling_heard : (d : Download) (r : Receiver) (p a t : ℕ) (down : List Word) (times m : ℕ) (lost : List Lost) (now time : ℕ) → Telling times r t true down lost now
      → Arrives (done d) (telling_pair d r p a t true down m lost now time)
  telling_heard d r p a t down times m lost now time f =
      one (done d) (telling_pair d r p a t true down m lost now time) refl
      (one_word loses now (λ goes lost'. Arrives (done d) (state (Some (stage.Ended Okay)) (receives_as d (telling Okay r)) [] (down ++ goes) (m + 1) (lost' ++ lost) now time)) completion_ack m
      (subst (λ ws. Arrives (done d) (state (Some (stage.Ended Okay)) (receives_as d (telling Okay r)) [] ws (m + 1) (lost_at now completion_ack ∷ lost) now time)) (sym (append-nil down))
      (told (100 * (4 - r.resends) + 0 + length down) d r nowhere down times (m + 1) (lost_at now completion_ack ∷ lost) now time
      (record { all = f.all; resends = f.resends; few = f.few; limited = f.limited; active = f.active; passed = one_lost f.passed; fresh = inl (just_lost f.passed) }) (omega arith)))
      (told (100 * (4 - r.resends) + 1 + length down) d r back down times (m + 1) lost now time
      (record { all = f.all; resends = f.resends; few = f.few; limited = f.limited; active = f.active; passed = f.passed; fresh = inr tt }) (omega arith)))

  telling_piece : (fuel : ℕ) → Tells fuel → (d : Download) (r : Receiver) (p a t : ℕ) (y : Word) (ys : List Word) (times m : ℕ) (lost : List Lost) (now time : ℕ) → Telling times r t false (y ∷ ys) lost now
      → 100 * (4 - r.resends) + length (y ∷ ys) ≤ suc fuel → Arrives (done d) (telling_pair d r p a t false (y ∷ ys) m lost now time)
  telling_piece fuel later d r p a t (data_comes q) ys times m lost now time f budget =
      one (done d) (telling_pair d r p a t false (data_comes q ∷ ys) m lost now time) refl
      (later d (active_at now r) p a t false ys times (m + 0) lost now time
      (record { all = f.all.1; resends = f.resends; few = f.few; limited = f.limited; timeouts_few = f.timeouts_few; active = omega arith; passed = f.passed; fresh = f.fresh }) (omega (arith, budget)))
  telling_piece fuel later d r p a t _ ys times m lost now time f budget = absurd f.all.0

  telling_late : (fuel : ℕ) → Tells fuel → (d : Download) (r : Receiver) (p a t times m : ℕ) (lost : List Lost) (now time : ℕ) → Telling times r t false [] lost now → 100 * (4 - r.resends) ≤ suc fuel
      → Arrives (done d) (telling_pair d r p a t false [] m lost now time)
  telling_late fuel later d r p a t times m lost now time f budget = by (may_wait r.resends)
    where
      next : Passed since (suc times) lost (now + TIMEOUT)
      next = next_round f.passed (lost_any (IsLossy times lost now) f.fresh)

      by : (r.resends ≤ 2) ⊎ (3 ≤ r.resends) → Arrives (done d) (telling_pair d r p a t false [] m lost now time)
      by (inl few) =
          one (done d) (telling_pair d r p a t false [] m lost now time) refl
          (subst (λ o. Arrives (done d) (time_passed loses (telling_pair d r p a t false [] m lost now time) (now + TIMEOUT) (receiving_ticks d (telling Okay r) o) (session_ticks Read (now + TIMEOUT) (Some (stage.Sending (sender_at x p a t))))))
          (sym (tells_again Okay r (now + TIMEOUT) few (omega (arith, f.active))))
          (sender_counts x (λ s. Arrives (done d) (time_passed loses (telling_pair d r p a t false [] m lost now time) (now + TIMEOUT) (record { after = receives_as d (telling Okay (told_again (now + TIMEOUT) r)); sayings = says (completion Okay) ∷ [] }) (sender_ticked s))) p a t (now + TIMEOUT) (omega (arith, f.timeouts_few, few))
          (λ a' t' counted.
          one_word loses (now + TIMEOUT) (λ goes lost'. Arrives (done d) (state (Some (stage.Sending (sender_at x p a' t'))) (receives_as d (telling Okay (told_again (now + TIMEOUT) r))) goes [] (m + 1 + 0) (lost' ++ lost) (now + TIMEOUT) (now + TIMEOUT))) (completion Okay) m
          (later d (told_again (now + TIMEOUT) r) p a' t' false [] (suc times) (m + 1 + 0) (lost_at (now + TIMEOUT) (completion Okay) ∷ lost) (now + TIMEOUT) (now + TIMEOUT)
          (record {
            all = tt;
            resends = omega (arith, f.resends);
            few = omega (arith, few);
            limited = omega (arith, f.limited, few);
            timeouts_few = omega (arith, counted, f.timeouts_few);
            active = omega arith;
            passed = one_lost next;
            fresh = inl (just_lost next);
          })
          (omega (arith, budget, few)))
          (later d (told_again (now + TIMEOUT) r) p a' t' true [] (suc times) (m + 1 + 0) lost (now + TIMEOUT) (now + TIMEOUT)
          (record {
            all = tt;
            resends = omega (arith, f.resends);
            few = omega (arith, few);
            limited = omega (arith, f.limited, few);
            timeouts_few = omega (arith, counted, f.timeouts_few);
            active = omega arith;
            passed = next;
            fresh = inr refl;
          })
          (omega (arith, budget, few))))))
      by (inr many) =
          one (done d) (telling_pair d r p a t false [] m lost now time) refl
          (subst (λ o. Arrives (done d) (time_passed loses (telling_pair d r p a t false [] m lost now time) (now + TIMEOUT) (receiving_ticks d (telling Okay r) o) (session_ticks Read (now + TIMEOUT) (Some (stage.Sending (sender_at x p a t))))))
          (sym (tells_no_more Okay r (now + TIMEOUT) many (omega (arith, f.active))))
          (gives_up (done d) times (telling_pair d r p a t false [] m lost now time) (now + TIMEOUT) (stays_put (done d)) (session_ticks Read (now + TIMEOUT) (Some (stage.Sending (sender_at x p a t)))) (inl refl) (omega (arith, many, f.resends)) next (omega (arith, f.limited, f.few))))

  tells_step : (fuel : ℕ) → Tells fuel → Tells (suc fuel)
  tells_step fuel later d r p a t true down times m lost now time f budget = telling_heard d r p a t down times m lost now time f
  tells_step fuel later d r p a t false [] times m lost now time f budget = telling_late fuel later d r p a t times m lost now time f (omega (arith, budget))
  tells_step fuel later d r p a t false (y ∷ ys) times m lost now time f budget = telling_piece fuel later d r p a t y ys times m lost now time f budget

  pub tells : (fuel : ℕ) → Tells fuel
  tells zero = λ d r p a t b down times m lost now time f budget. absurd (omega (arith, budget, f.few))
  tells (suc fuel) = tells_step fuel (tells fuel)
