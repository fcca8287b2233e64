-- How a read ends, whatever is lost in it, phase by phase, from the data phase to the first.
use Rattle.std.proofs.Common.{◌≡◌, ℕ, zero, suc, ◌+◌, ◌-◌, ◌*◌, ◌≤◌, ◌==◌, ◌||◌, ◌⊎◌, inl, inr, nat_lt, Bool, true, false, if◌then◌else◌, List, [], ◌∷◌, ◌++◌, length, map, Option, Some, None, Result, Ok, Err, refl, sym, ap, ◌∙◌, subst, arith, length-append}
use Rattle.std.proofs.lemmas.List.{length-map}
use Rattle.std.specs.List.{AllByRecursion}
use Rattle.link_io.specs.declared.Shelf.{Shelf}
use Rattle.link_io.specs.Resources.{first_of}
use Rattle.rpc_ids.specs.declared.Status.{Status}
use Rattle.rpc_ids.specs.declared.Status.TheVariants.{Okay, DeadlineExceeded, OutOfRange}
use Rattle.transfer_base.specs.declared.Ask.{Ask}
use Rattle.transfer_base.specs.declared.Piece.{Piece}
use Rattle.transfer_base.specs.declared.limits.TheConstants.{MAX_RESOURCE, TIMEOUT}
use Rattle.transfer_receiver.specs.Phase.{is_open}
use Rattle.transfer_receiver.specs.Receiver.{Receiver, ask_of, first_ask, new_receiver}
use Rattle.transfer_receiver.specs.declared.answers.Ticked.TheVariants.{Over, Resend}
use Rattle.transfer_receiver.specs.PieceRules.{PieceOutcome, active_at, ending, keeping}
use Rattle.transfer_sender.specs.Answer.{Answer, answer_to}
use Rattle.transfer_sender.specs.Sender.{Sender}
use Rattle.transfer_words.specs.Word.{Word, start, start_ack, confirmation, parameters, data_comes, completion}
use Rattle.transfer_words.specs.Saying.{Saying, Stepped, says}
use Rattle.transfer_words.specs.CoreAnswers.{of_answer, of_piece, of_tick, of_timeout}
use Rattle.transfer_resume.specs.declared.stage.Opening.{Opening}
use Rattle.transfer_resume.specs.declared.stage.Stage.{Stage}
use Rattle.transfer_resume.specs.declared.stage.Stage.TheVariants as stage
use Rattle.transfer_resume.specs.declared.side.Side.TheVariants.{Read}
use Rattle.transfer_resume.specs.Opening.{offer_of, offered, opened_read, reading as service_reading}
use Rattle.transfer_resume.specs.Sender.{sending_or_ended}
use Rattle.transfer_resume.specs.Session.{Service, stepped}
use Rattle.transfer_client.specs.declared.stages.Reading.TheVariants as reading
use Rattle.transfer_client.specs.declared.stages.Wait.{Wait}
use Rattle.transfer_client.specs.Read.{Download, asking_timeout, asks, at_stage, new_download, read_rules, receives, receiving_ticks}
use Rattle.transfer_client.specs.Machine.{saying, staying as stays_put}
use Rattle.transfer_client.specs.Wait as waiting
use Rattle.transfer_laws.proofs.cores.AskLaws.{fits, not_less}
use Rattle.transfer_laws.specs.pairs.Pair.{words_of}
use Rattle.transfer_laws.specs.pairs.EndsWell.{read_ended}
use Rattle.transfer_laws.proofs.pairs.Receiving.{end_words}
use Rattle.transfer_laws.specs.losses.Drops.{LeadsTo, Lost, LossyPair, begun, kept, lost_at, missing, session_ticks, step, time_passed}
use Rattle.transfer_laws.proofs.losses.Grid.{Setup, first_begins}
use Rattle.transfer_laws.proofs.losses.Rounds.{IsLossy, Passed, just_lost, may_wait, next_round, none_passed, one_lost, passed_more, some_lost, still_lossy}
use Rattle.transfer_laws.proofs.losses.DataPhase.{Flowing, IsData, Takes, load, piece_goes, sender_at, sound_ask, waits}
use Rattle.transfer_laws.proofs.losses.Answering.{Answered, answered, as_data}
use Rattle.transfer_laws.proofs.losses.Losing.{few_kept, flows_on, one_word, relost, said_words}
use Rattle.transfer_laws.proofs.losses.Openings.{Opens, Spot, Waits, as_pieces, back, bit, coming, down_of, lost_any, lost_some, nowhere, opening, opening_counts, opens_lost, opens_on, same, steps_of, up_of, waits_lost, waits_on}
use Rattle.transfer_laws.proofs.losses.Asking.{asks_late, state}
use Rattle.transfer_laws.proofs.losses.Late.{asked_again, asks_again, asks_no_more, flows_again, is_past, lost_some as words_lost, may_not_resend, sender_counts, span, telling, waits_again}
use Rattle.transfer_laws.proofs.losses.Left.{Left, StillLeft, left_behind, rank}
use Rattle.transfer_laws.proofs.losses.ReadTelling.{Outcome, ends_behind, gives_up, tells, unconfirmed}

module _ (x : Setup) (shelf : Shelf) (service_window service_chunk begin : ℕ) (loses : ℕ → Bool) (since limit : ℕ) where
  abbrev k : Service
  k = record { side = Read; shelf = shelf; window = service_window; chunk = service_chunk; time = begin }

  abbrev Arrives : Download → LossyPair Download → Type 0
  Arrives end w = Outcome k loses since end limit w

  one : (end : Download) (w : LossyPair Download) → read_rules.end_of w.pair.client ≡ None → Arrives end (step k read_rules loses w) → Arrives end w
  one end w going o = ends_behind k loses since end limit w going o

  abbrev receives_as : Download → Receiver → Download
  receives_as d r = at_stage d (reading.Receiving r)

  -- what a sender does at a tick
  abbrev sender_ticked : Sender → Stepped (Option Stage)
  sender_ticked s = record { after = Some (sending_or_ended s s.ended); sayings = of_timeout s.ended }

  abbrev done : Download → Download
  done d = at_stage d (reading.Over Okay)

  -- THE DATA PHASE
  abbrev flowing_pair : Download → Receiver → ℕ → ℕ → ℕ → List Word → List Word → ℕ → List Lost → ℕ → ℕ → LossyPair Download
  flowing_pair d r p a t up down m lost now time = state (Some (stage.Sending (sender_at x p a t))) (receives_as d r) up down m lost now time

  -- what is on its way to the client was said in this round, so that the service has counted no timeout since
  abbrev IsCalm : ℕ → List Word → Type 0
  IsCalm t [] = Unit {0}
  IsCalm t (y ∷ ys) = t ≡ 0

  calm : (t : ℕ) (ws : List Word) → t ≡ 0 → IsCalm t ws
  calm t [] none = tt
  calm t (y ∷ ys) none = none

  record Counts (r : Receiver) (left t : ℕ) (down : List Word) (now : ℕ) : Type 0 where
    left_is : Left x r left
    limited : now + TIMEOUT * rank x r left ≤ limit
    counted : t ≤ r.resends
    calm_is : IsCalm t down

  abbrev budget_of : Receiver → ℕ → List Word → List Word → ℕ
  budget_of r left up down = 100 * rank x r left + load x r + 67 * length up + length down

  abbrev Flows : ℕ → Type 0
  Flows fuel =
      (d : Download) (r : Receiver) (w p a t left : ℕ) (up down : List Word) (times m : ℕ) (lost : List Lost) (now time : ℕ) → Flowing x times (IsLossy times lost now) r w p down up → Counts r left t down now
      → Passed since times lost now → r.active ≤ now → budget_of r left up down ≤ fuel → Arrives (done d) (flowing_pair d r p a t up down m lost now time)

  -- the service has answered an ask
  abbrev answered_pair : Download → List Word → List Word → ℕ → List Lost → ℕ → ℕ → Answer → LossyPair Download
  answered_pair client rest down m lost now time an =
      state (Some (sending_or_ended an.after an.after.ended)) client rest (down ++ kept loses m (words_of (of_answer an))) (m + length (words_of (of_answer an))) (missing loses now m (words_of (of_answer an)) ++ lost) now time

  asked : (fuel : ℕ) → Flows fuel → (d : Download) (r : Receiver) (w p left : ℕ) (ask : Ask) (rest down : List Word) (times m : ℕ) (lost : List Lost) (now time : ℕ)
      → Flowing x times (IsLossy times lost now) r w p down (parameters ask ∷ rest) → Left x r left → now + TIMEOUT * rank x r left ≤ limit → Passed since times lost now → r.active ≤ now
      → budget_of r left (parameters ask ∷ rest) down ≤ suc fuel → Arrives (done d) (answered_pair (receives_as d r) rest down m lost now time (answer_to (sender_at x p time 0) ask))
  asked fuel later d r w p left ask rest down times m lost now time f left_is limited passed active budget =
      let an : Answered x times (IsLossy times lost now) r w p ask down rest f = answered x times (IsLossy times lost now) r w p ask down rest f in
      let words : List Word = map data_comes an.sent_is.pieces in
      let all : AllByRecursion (IsData x) words = as_data x an.sent_is.pieces an.sent_is.all in
      let lost' : List Lost = missing loses now m words in
      let goes : Flowing x times (IsLossy times (lost' ++ lost) now) r w an.sent_is.position (down ++ kept loses m words) rest
      = flows_on loses x times (IsLossy times lost now) (IsLossy times (lost' ++ lost) now) r w an.sent_is.position now m down words rest f.all_sent all (still_lossy lost') (λ some. some_lost loses m words some passed) an.flowing in
      subst (λ z. Arrives (done d) (answered_pair (receives_as d r) rest down m lost now time z)) (sym (an.sent_is.is time 0))
      (subst (λ ws. Arrives (done d) (flowing_pair d r an.sent_is.position time 0 rest (down ++ kept loses m ws) (m + length ws) (missing loses now m ws ++ lost) now time)) (sym (said_words an.sent_is.pieces))
      (later d r w an.sent_is.position time 0 left rest (down ++ kept loses m words) times (m + length words) (lost' ++ lost) now time goes
      (record { left_is = left_is; limited = limited; counted = omega arith; calm_is = calm 0 (down ++ kept loses m words) refl }) (passed_more lost' passed) active
      (omega (arith, budget, length-append down (kept loses m words), few_kept loses words m, length-map an.sent_is.pieces data_comes, an.sent_is.few))))

  -- the client has heard a chunk
  abbrev heard_pair : Download → ℕ → ℕ → ℕ → Piece → List Word → ℕ → List Lost → ℕ → ℕ → PieceOutcome → LossyPair Download
  heard_pair d p a t q rest m lost now time o =
      state (Some (stage.Sending (sender_at x p a t))) (receives_as d o.after) (kept loses m (words_of (of_piece q.bytes o.answer))) rest (m + length (words_of (of_piece q.bytes o.answer)))
      (missing loses now m (words_of (of_piece q.bytes o.answer)) ++ lost) now time

  last_heard : (d : Download) (r : Receiver) (p a t left end : ℕ) (q : Piece) (rest : List Word) (times m : ℕ) (lost : List Lost) (now time : ℕ) → AllByRecursion (IsData x) rest → Counts r left t (data_comes q ∷ rest) now → Passed since times lost now
      → Arrives (done d) (heard_pair d p a t q rest m lost now time (ending (keeping (active_at now r) end) Okay))
  last_heard d r p a t left end q rest times m lost now time all counts passed =
      let r' : Receiver = record (keeping (active_at now r) end) { resends = 0 } in
      let limited : now + TIMEOUT * 4 ≤ limit = omega (arith, counts.limited, counts.left_is.some, counts.left_is.few) in
      subst (λ ws. Arrives (done d) (state (Some (stage.Sending (sender_at x p a t))) (receives_as d (telling Okay r')) (kept loses m ws) rest (m + length ws) (missing loses now m ws ++ lost) now time)) (sym (end_words (length q.bytes == 0) q.bytes))
      (one_word loses now (λ goes lost'. Arrives (done d) (state (Some (stage.Sending (sender_at x p a t))) (receives_as d (telling Okay r')) goes rest (m + 1) (lost' ++ lost) now time)) (completion Okay) m
      (tells x shelf service_window service_chunk begin loses since limit (400 + length rest) d r' p a t false rest times (m + 1) (lost_at now (completion Okay) ∷ lost) now time
      (record {
        all = as_pieces x rest all;
        resends = omega arith;
        few = omega arith;
        limited = limited;
        timeouts_few = omega (arith, counts.calm_is);
        active = omega arith;
        passed = one_lost passed;
        fresh = inl (just_lost passed);
      })
      (omega arith))
      (tells x shelf service_window service_chunk begin loses since limit (400 + length rest) d r' p a t true rest times (m + 1) lost now time
      (record {
        all = as_pieces x rest all;
        resends = omega arith;
        few = omega arith;
        limited = limited;
        timeouts_few = omega (arith, counts.calm_is);
        active = omega arith;
        passed = passed;
        fresh = inr refl;
      })
      (omega arith)))

  piece_heard : (fuel : ℕ) → Flows fuel → (d : Download) (r : Receiver) (w p a t left : ℕ) (y : Word) (rest : List Word) (times m : ℕ) (lost : List Lost) (now time : ℕ) → Flowing x times (IsLossy times lost now) r w p (y ∷ rest) []
      → Counts r left t (y ∷ rest) now → Passed since times lost now → budget_of r left [] (y ∷ rest) ≤ suc fuel → Arrives (done d) (flowing_pair d r p a t [] (y ∷ rest) m lost now time)
  piece_heard fuel later d r w p a t left (data_comes q) rest times m lost now time f counts passed budget =
      one (done d) (flowing_pair d r p a t [] (data_comes q ∷ rest) m lost now time) refl
      (piece_goes x times (IsLossy times lost now) now r w p q rest [] f (λ o. Arrives (done d) (heard_pair d p a t q rest m lost now time o))
      (record {
        quiet = λ r' w' answer none flow moved less active.
            let s : StillLeft x (rank x r left) r' = left_behind x r r' left counts.left_is moved in
            subst (λ ws. Arrives (done d) (state (Some (stage.Sending (sender_at x p a t))) (receives_as d r') (kept loses m ws) rest (m + length ws) (missing loses now m ws ++ lost) now time)) (sym none)
            (later d r' w' p a t s.left [] rest times (m + 0) lost now time flow (counts_behind r' s) passed (omega (arith, active)) (omega (arith, budget, less, s.less)));
        asks = λ r' w' answer said words lost_flow flow moved less active.
            let s : StillLeft x (rank x r left) r' = left_behind x r r' left counts.left_is moved in
            subst (λ ws. Arrives (done d) (state (Some (stage.Sending (sender_at x p a t))) (receives_as d r') (kept loses m ws) rest (m + length ws) (missing loses now m ws ++ lost) now time)) (sym words)
            (one_word loses now (λ goes lost'. Arrives (done d) (flowing_pair d r' p a t goes rest (m + 1) (lost' ++ lost) now time)) said m
            (later d r' w' p a t s.left [] rest times (m + 1) (lost_at now said ∷ lost) now time (relost (λ u. just_lost passed) lost_flow) (counts_behind r' s) (one_lost passed) (omega (arith, active)) (omega (arith, budget, less, s.less)))
            (later d r' w' p a t s.left (said ∷ []) rest times (m + 1) lost now time flow (counts_behind r' s) passed (omega (arith, active)) (omega (arith, budget, less, s.less))));
        ended = λ end. last_heard d r p a t left end q rest times m lost now time f.all_sent.1 counts passed;
      }))
    where
      counts_behind : (r' : Receiver) (s : StillLeft x (rank x r left) r') → Counts r' s.left t rest now
      counts_behind r' s =
          record { left_is = s.is; limited = omega (arith, counts.limited, s.less); counted = omega (arith, counts.calm_is); calm_is = calm t rest counts.calm_is }
  piece_heard fuel later d r w p a t left _ rest times m lost now time f counts passed budget = absurd f.all_sent.0

  flow_late : (fuel : ℕ) → Flows fuel → (d : Download) (r : Receiver) (w p a t left times m : ℕ) (lost : List Lost) (now time : ℕ) → Flowing x times (IsLossy times lost now) r w p [] [] → Counts r left t [] now
      → Passed since times lost now → r.active ≤ now → budget_of r left [] [] ≤ suc fuel → Arrives (done d) (flowing_pair d r p a t [] [] m lost now time)
  flow_late fuel later d r w p a t left times m lost now time f counts passed active budget = by (may_wait r.resends)
    where
      next : Passed since (suc times) lost (now + TIMEOUT)
      next = next_round passed (words_lost x times (IsLossy times lost now) r w p now f)

      counts_late : r.resends ≤ 2 → (t' : ℕ) → t' ≤ t + 1 → Counts (asked_again (now + TIMEOUT) r) left t' [] (now + TIMEOUT)
      counts_late few t' once = record {
        left_is = record { some = counts.left_is.some; reach = counts.left_is.reach; few = omega (arith, few) };
        limited = omega (arith, counts.limited, few, counts.left_is.some);
        counted = omega (arith, once, counts.counted);
        calm_is = tt;
      }

      by : (r.resends ≤ 2) ⊎ (3 ≤ r.resends) → Arrives (done d) (flowing_pair d r p a t [] [] m lost now time)
      by (inl few) =
          one (done d) (flowing_pair d r p a t [] [] m lost now time) refl
          (subst (λ o. Arrives (done d) (time_passed loses (flowing_pair d r p a t [] [] m lost now time) (now + TIMEOUT) (receiving_ticks d r o) (session_ticks Read (now + TIMEOUT) (Some (stage.Sending (sender_at x p a t)))))) (sym (asks_again r (now + TIMEOUT) f.takes.opens few (omega (arith, active))))
          (subst (λ b. Arrives (done d) (time_passed loses (flowing_pair d r p a t [] [] m lost now time) (now + TIMEOUT) (record { after = receives_as d (asked_again (now + TIMEOUT) r); sayings = of_tick b (Resend (ask_of true (asked_again (now + TIMEOUT) r))) }) (session_ticks Read (now + TIMEOUT) (Some (stage.Sending (sender_at x p a t)))))) (sym f.takes.opens)
          (sender_counts x (λ s. Arrives (done d) (time_passed loses (flowing_pair d r p a t [] [] m lost now time) (now + TIMEOUT) (record { after = receives_as d (asked_again (now + TIMEOUT) r); sayings = says (parameters (ask_of true (asked_again (now + TIMEOUT) r))) ∷ [] }) (sender_ticked s))) p a t (now + TIMEOUT) (omega (arith, counts.counted, few))
          (λ a' t' once.
          one_word loses (now + TIMEOUT) (λ goes lost'. Arrives (done d) (flowing_pair d (asked_again (now + TIMEOUT) r) p a' t' goes [] (m + 1 + 0) (lost' ++ lost) (now + TIMEOUT) (now + TIMEOUT))) (parameters (ask_of true (asked_again (now + TIMEOUT) r))) m
          (later d (asked_again (now + TIMEOUT) r) (span x times (IsLossy times lost now) r w p (now + TIMEOUT) f) p a' t' left [] [] (suc times) (m + 1 + 0) (lost_at (now + TIMEOUT) (parameters (ask_of true (asked_again (now + TIMEOUT) r))) ∷ lost) (now + TIMEOUT) (now + TIMEOUT)
          (waits_again x times (IsLossy times lost now) r w p (now + TIMEOUT) f (IsLossy (suc times) (lost_at (now + TIMEOUT) (parameters (ask_of true (asked_again (now + TIMEOUT) r))) ∷ lost) (now + TIMEOUT)) (just_lost next))
          (counts_late few t' once) (one_lost next) (omega arith) (omega (arith, budget, few, counts.left_is.some)))
          (later d (asked_again (now + TIMEOUT) r) (span x times (IsLossy times lost now) r w p (now + TIMEOUT) f) p a' t' left ((parameters (ask_of true (asked_again (now + TIMEOUT) r))) ∷ []) [] (suc times) (m + 1 + 0) lost (now + TIMEOUT) (now + TIMEOUT)
          (flows_again x times (IsLossy times lost now) r w p (now + TIMEOUT) f (IsLossy (suc times) lost (now + TIMEOUT)))
          (counts_late few t' once) next (omega arith) (omega (arith, budget, few, counts.left_is.some)))))))
      by (inr many) =
          one (done d) (flowing_pair d r p a t [] [] m lost now time) refl
          (subst (λ o. Arrives (done d) (time_passed loses (flowing_pair d r p a t [] [] m lost now time) (now + TIMEOUT) (receiving_ticks d r o) (session_ticks Read (now + TIMEOUT) (Some (stage.Sending (sender_at x p a t)))))) (sym (asks_no_more r (now + TIMEOUT) f.takes.opens many (omega (arith, active))))
          (gives_up x shelf service_window service_chunk begin loses since limit (done d) times (flowing_pair d r p a t [] [] m lost now time) (now + TIMEOUT) (record { after = at_stage d (reading.Over DeadlineExceeded); sayings = of_tick (is_open r.phase) (Over DeadlineExceeded) }) (session_ticks Read (now + TIMEOUT) (Some (stage.Sending (sender_at x p a t)))) (inr refl) (omega (arith, many, f.resends)) next
          (omega (arith, counts.limited, counts.left_is.some, counts.left_is.few))))

  flows_step : (fuel : ℕ) → Flows fuel → Flows (suc fuel)
  flows_step fuel later d r w p a t left (parameters ask ∷ rest) down times m lost now time f counts passed active budget =
      one (done d) (flowing_pair d r p a t (parameters ask ∷ rest) down m lost now time) refl (asked fuel later d r w p left ask rest down times m lost now time f counts.left_is counts.limited passed active budget)
  flows_step fuel later d r w p a t left (_ ∷ rest) down times m lost now time f counts passed active budget = absurd f.all_asked.0
  flows_step fuel later d r w p a t left [] [] times m lost now time f counts passed active budget = flow_late fuel later d r w p a t left times m lost now time f counts passed active budget
  flows_step fuel later d r w p a t left [] (y ∷ ys) times m lost now time f counts passed active budget = piece_heard fuel later d r w p a t left y ys times m lost now time f counts passed budget

  flow : (fuel : ℕ) → Flows fuel
  flow zero = λ d r w p a t left up down times m lost now time f counts passed active budget. absurd (omega (arith, budget, counts.left_is.some, counts.left_is.few))
  flow (suc fuel) = flows_step fuel (flow fuel)

  -- ITS CONFIRMATION IS LOST: the client waits for what never comes
  module _ (resource agreed : ℕ) where
    abbrev opened_at : ℕ → ℕ → Option Stage
    opened_at active timeouts = opening resource agreed agreed active timeouts

    record Closes (w : LossyPair Download) : Type 0 where
      many : ℕ
      last : LossyPair Download
      way : LeadsTo k read_rules loses many w last
      in_time : last.now ≤ limit
      ends : read_rules.end_of last.pair.client ≡ Some DeadlineExceeded

    closes_behind : (w : LossyPair Download) → read_rules.end_of w.pair.client ≡ None → Closes (step k read_rules loses w) → Closes w
    closes_behind w going c = record { many = suc c.many; last = c.last; way = (going, c.way); in_time = c.in_time; ends = c.ends }

    abbrev asking_by : Bool → Receiver → List Word
    asking_by b r = if b then parameters (ask_of true r) ∷ [] else []

    abbrev lacking_pair : Download → Receiver → ℕ → ℕ → Bool → ℕ → List Lost → ℕ → ℕ → LossyPair Download
    lacking_pair d r a t b m lost now time = state (opened_at a t) (receives_as d r) (asking_by b r) [] m lost now time

    record Lacks (r : Receiver) (t : ℕ) (now : ℕ) : Type 0 where
      opens : is_open r.phase ≡ true
      few : r.resends ≤ 3
      counted : t ≤ r.resends
      active : r.active ≤ now
      limited : now + TIMEOUT * (4 - r.resends) ≤ limit

    abbrev Lacking : ℕ → Type 0
    Lacking fuel = (d : Download) (r : Receiver) (a t : ℕ) (b : Bool) (m : ℕ) (lost : List Lost) (now time : ℕ) → Lacks r t now → 100 * (4 - r.resends) + bit b ≤ fuel → Closes (lacking_pair d r a t b m lost now time)

    lacking_late : (fuel : ℕ) → Lacking fuel → (d : Download) (r : Receiver) (a t m : ℕ) (lost : List Lost) (now time : ℕ) → Lacks r t now → 100 * (4 - r.resends) ≤ suc fuel → Closes (lacking_pair d r a t false m lost now time)
    lacking_late fuel later d r a t m lost now time l budget = by (may_wait r.resends)
      where
        lacks_late : r.resends ≤ 2 → (t' : ℕ) → t' ≤ t + 1 → Lacks (asked_again (now + TIMEOUT) r) t' (now + TIMEOUT)
        lacks_late few t' once =
            record { opens = l.opens; few = omega (arith, few); counted = omega (arith, once, l.counted); active = omega arith; limited = omega (arith, l.limited, few) }

        over_late : (tick : Stepped (Option Stage)) (s : Stepped Download) → read_rules.end_of s.after ≡ Some DeadlineExceeded → Closes (time_passed loses (lacking_pair d r a t false m lost now time) (now + TIMEOUT) s tick)
        over_late tick s ends = record { many = 0; last = time_passed loses (lacking_pair d r a t false m lost now time) (now + TIMEOUT) s tick; way = refl; in_time = omega (arith, l.limited, l.few); ends = ends }

        by : (r.resends ≤ 2) ⊎ (3 ≤ r.resends) → Closes (lacking_pair d r a t false m lost now time)
        by (inl few) =
            closes_behind (lacking_pair d r a t false m lost now time) refl
            (subst (λ o. Closes (time_passed loses (lacking_pair d r a t false m lost now time) (now + TIMEOUT) (receiving_ticks d r o) (session_ticks Read (now + TIMEOUT) (opened_at a t)))) (sym (asks_again r (now + TIMEOUT) l.opens few (omega (arith, l.active))))
            (subst (λ b. Closes (time_passed loses (lacking_pair d r a t false m lost now time) (now + TIMEOUT) (record { after = receives_as d (asked_again (now + TIMEOUT) r); sayings = of_tick b (Resend (ask_of true (asked_again (now + TIMEOUT) r))) }) (session_ticks Read (now + TIMEOUT) (opened_at a t)))) (sym l.opens)
            (opening_counts resource agreed agreed Read (λ s. Closes (time_passed loses (lacking_pair d r a t false m lost now time) (now + TIMEOUT) (record { after = receives_as d (asked_again (now + TIMEOUT) r); sayings = says (parameters (ask_of true (asked_again (now + TIMEOUT) r))) ∷ [] }) s)) a t (now + TIMEOUT) (omega (arith, l.counted, few))
            (λ a' t' once.
            one_word loses (now + TIMEOUT) (λ goes lost'. Closes (state (opened_at a' t') (receives_as d (asked_again (now + TIMEOUT) r)) goes [] (m + 1 + 0) (lost' ++ lost) (now + TIMEOUT) (now + TIMEOUT))) (parameters (ask_of true (asked_again (now + TIMEOUT) r))) m
            (later d (asked_again (now + TIMEOUT) r) a' t' false (m + 1 + 0) (lost_at (now + TIMEOUT) (parameters (ask_of true (asked_again (now + TIMEOUT) r))) ∷ lost) (now + TIMEOUT) (now + TIMEOUT) (lacks_late few t' once) (omega (arith, budget, few)))
            (later d (asked_again (now + TIMEOUT) r) a' t' true (m + 1 + 0) lost (now + TIMEOUT) (now + TIMEOUT) (lacks_late few t' once) (omega (arith, budget, few)))))))
        by (inr many) =
            closes_behind (lacking_pair d r a t false m lost now time) refl
            (subst (λ o. Closes (time_passed loses (lacking_pair d r a t false m lost now time) (now + TIMEOUT) (receiving_ticks d r o) (session_ticks Read (now + TIMEOUT) (opened_at a t)))) (sym (asks_no_more r (now + TIMEOUT) l.opens many (omega (arith, l.active))))
            (over_late (session_ticks Read (now + TIMEOUT) (opened_at a t)) (record { after = at_stage d (reading.Over DeadlineExceeded); sayings = of_tick (is_open r.phase) (Over DeadlineExceeded) }) refl))

    lacking_step : (fuel : ℕ) → Lacking fuel → Lacking (suc fuel)
    lacking_step fuel later d r a t true m lost now time l budget =
        closes_behind (lacking_pair d r a t true m lost now time) refl
        (later d r time 0 false (m + 0) lost now time (record { opens = l.opens; few = l.few; counted = omega arith; active = l.active; limited = l.limited }) (omega (arith, budget)))
    lacking_step fuel later d r a t false m lost now time l budget = lacking_late fuel later d r a t m lost now time l (omega (arith, budget))

    lacking : (fuel : ℕ) → Lacking fuel
    lacking zero = λ d r a t b m lost now time l budget. absurd (omega (arith, budget, l.few))
    lacking (suc fuel) = lacking_step fuel (lacking fuel)

  -- THE OPENING
  module _ (resource window : ℕ) (listed : first_of resource shelf.full ≡ Some x.bytes) (window_low : 1 ≤ window) (window_high : window ≤ 64)
      (pieces : ℕ) (some_pieces : 1 ≤ pieces) (reach : length x.bytes ≤ x.offset + pieces * x.chunk) where
    abbrev offset : ℕ
    offset = x.offset

    offer_is : offer_of shelf resource offset ≡ Ok x.bytes
    offer_is =
        ap (λ o. offered o offset) listed
        ∙ (ap (λ b. if b || nat_lt (length x.bytes) offset then Err OutOfRange else Ok x.bytes) (fits (length x.bytes) MAX_RESOURCE x.size)
        ∙ ap (λ b. if b then Err OutOfRange else Ok x.bytes) (fits offset (length x.bytes) x.within))

    abbrev wanted : Download
    wanted = new_download resource offset window x.chunk

    abbrev finished : Download
    finished = read_ended wanted offset

    abbrev wanting : Wait → Download
    wanting w = at_stage wanted (reading.Asking w)

    abbrev first : ℕ → Receiver
    first now = new_receiver offset window x.chunk now

    abbrev agreed : Wait → ℕ → Download
    agreed w now = (receives (wanting w) offset (first now)).after

    first_takes : (now : ℕ) → Takes x (first now) window
    first_takes now = record { opens = refl; begins = first_begins x; window = refl; low = window_low; high = omega arith; span_low = window_low; span_high = window_high; chunk = refl }

    first_flowing : (times : ℕ) (Lossy : Type 0) (now : ℕ) → Flowing x times Lossy (first now) window offset [] (parameters (first_ask (first now)) ∷ [])
    first_flowing times Lossy now = record {
      takes = first_takes now;
      stands = inr (first_begins x);
      resends = omega arith;
      all_sent = tt;
      all_asked = (sound_ask x true true (first now) window (first_takes now), tt);
      fresh = inr (waits tt ((refl, refl, refl), tt));
    }

    -- the confirmation is on its way
    abbrev confirming_pair : Wait → Opening → ℕ → List Lost → ℕ → ℕ → LossyPair Download
    confirming_pair w o m lost now time = state (Some (stage.Opening o)) (agreed w now) (confirmation (first_ask (first now)) ∷ []) [] m lost now time

    abbrev confirmed_by : Wait → ℕ → List Lost → ℕ → ℕ → Result (List ℕ) Status → LossyPair Download
    confirmed_by w m lost now time o =
        let t = stepped (service_reading time offset (first_ask (first now)) o) in
        state t.after (agreed w now) [] (kept loses m (words_of t.sayings)) (m + length (words_of t.sayings)) (missing loses now m (words_of t.sayings) ++ lost) now time

    confirmed : (w : Wait) (active timeouts times m : ℕ) (lost : List Lost) (now time : ℕ) → now + TIMEOUT * (3 * pieces + 4) ≤ limit → Passed since times lost now
        → Arrives finished (confirming_pair w (record { resource = resource; agreed = offset; active = active; timeouts = timeouts }) m lost now time)
    confirmed w active timeouts times m lost now time limited passed =
        let fuel : ℕ = budget_of (first now) pieces (parameters (first_ask (first now)) ∷ []) [] in
        one finished (confirming_pair w (record { resource = resource; agreed = offset; active = active; timeouts = timeouts }) m lost now time) refl
        (subst (λ o. Arrives finished (confirmed_by w m lost now time o)) (sym offer_is)
        (asked fuel (flow fuel) (agreed w now) (first now) window offset pieces (first_ask (first now)) [] [] times m lost now time
        (first_flowing times (IsLossy times lost now) now) (record { some = some_pieces; reach = reach; few = omega arith }) (omega (arith, limited)) passed (omega arith) (omega arith)))

    abbrev opening_at : ℕ → ℕ → Option Stage
    opening_at active timeouts = opening resource offset offset active timeouts

    abbrev opening_pair : Wait → ℕ → ℕ → Spot → ℕ → List Lost → ℕ → ℕ → LossyPair Download
    opening_pair w a t spot m lost now time = state (opening_at a t) (wanting w) (up_of resource offset offset spot) (down_of resource offset offset spot) m lost now time

    -- so many turns of time may pass at most
    record IsEarly (w : Wait) (now : ℕ) : Type 0 where
      few : w.resends ≤ 3
      limited : now + TIMEOUT * (3 * pieces + 7 - w.resends) ≤ limit

    early_again : (w : Wait) (now : ℕ) → w.resends ≤ 2 → IsEarly w now → IsEarly (waiting.again w (now + TIMEOUT)) (now + TIMEOUT)
    early_again w now few e = record { few = omega (arith, few); limited = omega (arith, e.limited, few) }

    -- it has asked too often
    asking_gives_up : (w : Wait) (times : ℕ) (service : Option Stage) (tick : Stepped (Option Stage)) (m : ℕ) (lost : List Lost) (now time : ℕ) → 3 ≤ w.resends → w.resends ≤ times → w.active ≤ now
        → Passed since times lost now → IsLossy times lost now → IsEarly w now → Arrives finished (time_passed loses (state service (wanting w) [] [] m lost now time) (now + TIMEOUT) (read_rules.ticks (wanting w) (now + TIMEOUT)) tick)
    asking_gives_up w times service tick m lost now time many resends active passed lossy early =
        subst (λ s. Arrives finished (time_passed loses (state service (wanting w) [] [] m lost now time) (now + TIMEOUT) s tick)) (sym over_is)
        (gives_up x shelf service_window service_chunk begin loses since limit finished times (state service (wanting w) [] [] m lost now time) (now + TIMEOUT) (stays_put (at_stage wanted (reading.Over DeadlineExceeded))) tick (inr refl) (omega (arith, many, resends)) (next_round passed lossy) (omega (arith, early.limited, early.few)))
      where
        over_is : read_rules.ticks (wanting w) (now + TIMEOUT) ≡ stays_put (at_stage wanted (reading.Over DeadlineExceeded))
        over_is =
            ap (λ b. if b then asking_timeout (wanting w) w (now + TIMEOUT) else stays_put (wanting w)) (is_past w.active (now + TIMEOUT) (omega (arith, active)))
            ∙ ap (λ b. if b then asks (wanting w) (waiting.again w (now + TIMEOUT)) else stays_put (at_stage (wanting w) (reading.Over DeadlineExceeded))) (may_not_resend w.resends many)

    abbrev OpensWell : ℕ → Type 0
    OpensWell fuel =
        (w : Wait) (a t : ℕ) (spot : Spot) (times m : ℕ) (lost : List Lost) (now time : ℕ) → Opens since times w t spot lost now → IsEarly w now → 100 * (4 - w.resends) + steps_of spot ≤ fuel
        → Arrives finished (opening_pair w a t spot m lost now time)

    -- the service has heard a START, and the client a START_ACK
    abbrev said_by : Option Stage → Wait → ℕ → List Lost → ℕ → ℕ → List Saying → LossyPair Download
    said_by service w m lost now time sayings = state service (wanting w) [] (kept loses m (words_of sayings)) (m + length (words_of sayings)) (missing loses now m (words_of sayings) ++ lost) now time

    abbrev stepped_by : Option Stage → ℕ → List Lost → ℕ → ℕ → Stepped Download → LossyPair Download
    stepped_by service m lost now time s = state service s.after (kept loses m (words_of s.sayings)) [] (m + length (words_of s.sayings)) (missing loses now m (words_of s.sayings) ++ lost) now time

    -- the session is there, and is asked for again
    started_again : (fuel : ℕ) → OpensWell fuel → (w : Wait) (a t times m : ℕ) (lost : List Lost) (now time : ℕ) → Opens since times w t coming lost now → IsEarly w now → 100 * (4 - w.resends) + 2 ≤ suc fuel
        → Arrives finished (opening_pair w a t coming m lost now time)
    started_again fuel later w a t times m lost now time f early budget =
        one finished (opening_pair w a t coming m lost now time) refl
        (subst (λ b. Arrives finished (said_by (opening_at time 0) w m lost now time (if b then says (start_ack offset) ∷ [] else []))) (sym (same resource))
        (one_word loses now (λ goes lost'. Arrives finished (state (opening_at time 0) (wanting w) [] goes (m + 1) (lost' ++ lost) now time)) (start_ack offset) m
        (later w time 0 nowhere times (m + 1) (lost_at now (start_ack offset) ∷ lost) now time
        (record { resends = f.resends; timeouts_few = omega arith; heard = tt; active = f.active; passed = one_lost f.passed; fresh = inl (just_lost f.passed) }) early (omega (arith, budget)))
        (later w time 0 back times (m + 1) lost now time
        (record { resends = f.resends; timeouts_few = omega arith; heard = refl; active = f.active; passed = f.passed; fresh = inr tt }) early (omega (arith, budget)))))

    -- the confirmation is lost
    abbrev unconfirmed_pair : Wait → ℕ → ℕ → ℕ → List Lost → ℕ → ℕ → LossyPair Download
    unconfirmed_pair w a t m lost now time = state (opening_at a t) (agreed w now) [] [] (m + 1) (lost_at now (confirmation (first_ask (first now))) ∷ lost) now time

    -- the client hears that the session is there: its confirmation isn't lost
    not_confirmed : (w : Wait) (a t times m : ℕ) (lost : List Lost) (now time : ℕ) → t ≡ 0 → now + TIMEOUT * (3 * pieces + 4) ≤ limit → Passed since times (lost_at now (confirmation (first_ask (first now))) ∷ lost) now
        → Arrives finished (unconfirmed_pair w a t m lost now time)
    not_confirmed w a t times m lost now time none limited passed =
        let c : Closes resource offset (unconfirmed_pair w a t m lost now time)
        = lacking resource offset 400 (agreed w now) (first now) a t false (m + 1) (lost_at now (confirmation (first_ask (first now))) ∷ lost) now time
        (record { opens = refl; few = omega arith; counted = omega (arith, none); active = omega arith; limited = omega (arith, limited, some_pieces) }) (omega arith) in
        record {
          many = c.many;
          last = c.last;
          way = c.way;
          in_time = c.in_time;
          ending = unconfirmed (record { ends = c.ends; count = 0; mid = unconfirmed_pair w a t m lost now time; way = refl; times = times; passed = passed; lost = λ all. absurd all.0 });
        }

    -- the client hears that the session is there
    agreed_to : (w : Wait) (a t times m : ℕ) (lost : List Lost) (now time : ℕ) → Opens since times w t back lost now → IsEarly w now → Arrives finished (opening_pair w a t back m lost now time)
    agreed_to w a t times m lost now time f early =
        let limited : now + TIMEOUT * (3 * pieces + 4) ≤ limit = omega (arith, early.limited, early.few) in
        one finished (opening_pair w a t back m lost now time) refl
        (subst
        (λ b. Arrives finished (stepped_by (opening_at a t) m lost now time (if b then saying (at_stage (wanting w) (reading.Over OutOfRange)) (says (completion OutOfRange)) else receives (wanting w) offset (first now))))
        (sym (not_less offset))
        (one_word loses now (λ goes lost'. Arrives finished (state (opening_at a t) (agreed w now) goes [] (m + 1) (lost' ++ lost) now time)) (confirmation (first_ask (first now))) m
        (not_confirmed w a t times m lost now time f.heard limited (one_lost f.passed)) (confirmed w a t times (m + 1) lost now time limited f.passed)))

    opening_late : (fuel : ℕ) → OpensWell fuel → (w : Wait) (a t times m : ℕ) (lost : List Lost) (now time : ℕ) → Opens since times w t nowhere lost now → IsEarly w now → 100 * (4 - w.resends) + 0 ≤ suc fuel
        → Arrives finished (opening_pair w a t nowhere m lost now time)
    opening_late fuel later w a t times m lost now time f early budget = by (may_wait w.resends)
      where
        lossy : IsLossy times lost now
        lossy = lost_some (IsLossy times lost now) f.fresh

        by : (w.resends ≤ 2) ⊎ (3 ≤ w.resends) → Arrives finished (opening_pair w a t nowhere m lost now time)
        by (inl few) =
            one finished (opening_pair w a t nowhere m lost now time) refl
            (opening_counts resource offset offset Read (λ s. Arrives finished (time_passed loses (opening_pair w a t nowhere m lost now time) (now + TIMEOUT) (read_rules.ticks (wanting w) (now + TIMEOUT)) s)) a t (now + TIMEOUT) (omega (arith, f.timeouts_few, few))
            (λ a' t' counted.
            asks_late loses wanted w (Arrives finished) (opening_at a t) (opening_at a' t') m lost now time few f.active
            (later (waiting.again w (now + TIMEOUT)) a' t' nowhere (suc times) (m + 1 + 0) (lost_at (now + TIMEOUT) (start resource offset) ∷ lost) (now + TIMEOUT) (now + TIMEOUT)
            (opens_lost since times w t t' lost now lossy counted (start resource offset) f) (early_again w now few early) (omega (arith, budget, few)))
            (later (waiting.again w (now + TIMEOUT)) a' t' coming (suc times) (m + 1 + 0) lost (now + TIMEOUT) (now + TIMEOUT)
            (opens_on since times w t t' lost now lossy counted f) (early_again w now few early) (omega (arith, budget, few)))))
        by (inr many) = one finished (opening_pair w a t nowhere m lost now time) refl (asking_gives_up w times (opening_at a t) (session_ticks Read (now + TIMEOUT) (opening_at a t)) m lost now time many f.resends f.active f.passed lossy early)

    opens_step : (fuel : ℕ) → OpensWell fuel → OpensWell (suc fuel)
    opens_step fuel later w a t nowhere times m lost now time f early budget = opening_late fuel later w a t times m lost now time f early budget
    opens_step fuel later w a t coming times m lost now time f early budget = started_again fuel later w a t times m lost now time f early budget
    opens_step fuel later w a t back times m lost now time f early budget = agreed_to w a t times m lost now time f early

    opens : (fuel : ℕ) → OpensWell fuel
    opens zero = λ w a t spot times m lost now time f early budget. absurd (omega (arith, budget, early.few))
    opens (suc fuel) = opens_step fuel (opens fuel)

    -- THE BEGINNING: the service may not know of the session
    abbrev start_by : Bool → List Word
    start_by b = if b then start resource offset ∷ [] else []

    abbrev starting_pair : Wait → Bool → ℕ → List Lost → ℕ → ℕ → LossyPair Download
    starting_pair w b m lost now time = state None (wanting w) (start_by b) [] m lost now time

    abbrev StartsWell : ℕ → Type 0
    StartsWell fuel = (w : Wait) (b : Bool) (times m : ℕ) (lost : List Lost) (now time : ℕ) → Waits since times w 0 b lost now → IsEarly w now → 100 * (4 - w.resends) ≤ fuel → Arrives finished (starting_pair w b m lost now time)

    abbrev opened_by : Wait → ℕ → List Lost → ℕ → ℕ → Result (List ℕ) Status → LossyPair Download
    opened_by w m lost now time o = said_by (Some (opened_read time resource offset o).after) w m lost now time (opened_read time resource offset o).sayings

    started : (w : Wait) (times m : ℕ) (lost : List Lost) (now time : ℕ) → Waits since times w 0 true lost now → IsEarly w now → Arrives finished (starting_pair w true m lost now time)
    started w times m lost now time f early =
        one finished (starting_pair w true m lost now time) refl
        (subst (λ o. Arrives finished (opened_by w m lost now time o)) (sym offer_is)
        (one_word loses now (λ goes lost'. Arrives finished (state (opening_at time 0) (wanting w) [] goes (m + 1) (lost' ++ lost) now time)) (start_ack offset) m
        (opens (100 * (4 - w.resends) + 0) w time 0 nowhere times (m + 1) (lost_at now (start_ack offset) ∷ lost) now time
        (record { resends = f.resends; timeouts_few = omega arith; heard = tt; active = f.active; passed = one_lost f.passed; fresh = inl (just_lost f.passed) }) early (omega arith))
        (opens (100 * (4 - w.resends) + 1) w time 0 back times (m + 1) lost now time
        (record { resends = f.resends; timeouts_few = omega arith; heard = refl; active = f.active; passed = f.passed; fresh = inr tt }) early (omega arith))))

    start_late : (fuel : ℕ) → StartsWell fuel → (w : Wait) (times m : ℕ) (lost : List Lost) (now time : ℕ) → Waits since times w 0 false lost now → IsEarly w now → 100 * (4 - w.resends) ≤ suc fuel
        → Arrives finished (starting_pair w false m lost now time)
    start_late fuel later w times m lost now time f early budget = by (may_wait w.resends)
      where
        lossy : IsLossy times lost now
        lossy = lost_any (IsLossy times lost now) f.fresh

        by : (w.resends ≤ 2) ⊎ (3 ≤ w.resends) → Arrives finished (starting_pair w false m lost now time)
        by (inl few) =
            one finished (starting_pair w false m lost now time) refl
            (asks_late loses wanted w (Arrives finished) None None m lost now time few f.active
            (later (waiting.again w (now + TIMEOUT)) false (suc times) (m + 1 + 0) (lost_at (now + TIMEOUT) (start resource offset) ∷ lost) (now + TIMEOUT) (now + TIMEOUT)
            (waits_lost since times w 0 0 lost now lossy (omega arith) (start resource offset) f) (early_again w now few early) (omega (arith, budget, few)))
            (later (waiting.again w (now + TIMEOUT)) true (suc times) (m + 1 + 0) lost (now + TIMEOUT) (now + TIMEOUT)
            (waits_on since times w 0 0 lost now lossy (omega arith) f) (early_again w now few early) (omega (arith, budget, few))))
        by (inr many) = one finished (starting_pair w false m lost now time) refl (asking_gives_up w times None (record { after = None; sayings = [] }) m lost now time many f.resends f.active f.passed lossy early)

    starts_step : (fuel : ℕ) → StartsWell fuel → StartsWell (suc fuel)
    starts_step fuel later w true times m lost now time f early budget = started w times m lost now time f early
    starts_step fuel later w false times m lost now time f early budget = start_late fuel later w times m lost now time f early budget

    starts : (fuel : ℕ) → StartsWell fuel
    starts zero = λ w b times m lost now time f early budget. absurd (omega (arith, budget, early.few))
    starts (suc fuel) = starts_step fuel (starts fuel)

    -- WHATEVER IS LOST
    pub ends_somehow : (time : ℕ) → since + TIMEOUT * (3 * pieces + 7) ≤ limit → Arrives finished (begun k read_rules loses since time wanted)
    ends_somehow time limited =
        one_word loses since (λ goes lost. Arrives finished (state None (wanting (waiting.new_wait since)) goes [] 1 (lost ++ []) since time)) (start resource offset) 0
        (starts 400 (waiting.new_wait since) false 0 1 (lost_at since (start resource offset) ∷ []) since time
        (record { resends = omega arith; timeouts_few = omega arith; active = omega arith; passed = one_lost (none_passed since); fresh = inl (just_lost (none_passed since)) })
        (record { few = omega arith; limited = omega (arith, limited) }) (omega arith))
        (starts 400 (waiting.new_wait since) true 0 1 [] since time
        (record { resends = omega arith; timeouts_few = omega arith; active = omega arith; passed = none_passed since; fresh = inr refl })
        (record { few = omega arith; limited = omega (arith, limited) }) (omega arith))
