-- How a write ends, whatever is lost in it, phase by phase, from the data phase to the first.
use Rattle.std.proofs.Common.{◌≡◌, ℕ, zero, suc, ◌+◌, ◌-◌, ◌*◌, ◌≤◌, ◌==◌, ◌⊎◌, inl, inr, Bool, true, false, if◌then◌else◌, List, [], ◌∷◌, ◌++◌, length, map, Option, Some, None, refl, sym, ap, ◌∙◌, subst, arith, length-append, append-nil}
use Rattle.std.proofs.lemmas.List.{length-map}
use Rattle.std.specs.List.{AllByRecursion}
use Rattle.link_io.specs.declared.Shelf.{Shelf}
use Rattle.rpc_ids.specs.declared.Status.TheVariants.{Okay, DeadlineExceeded, OutOfRange}
use Rattle.transfer_base.specs.declared.Ask.{Ask}
use Rattle.transfer_base.specs.declared.Piece.{Piece}
use Rattle.transfer_base.specs.declared.limits.TheConstants.{TIMEOUT}
use Rattle.transfer_receiver.specs.declared.answers.Ticked.TheVariants.{Over, Resend}
use Rattle.transfer_receiver.specs.Phase.{is_open}
use Rattle.transfer_receiver.specs.Receiver.{Receiver, ask_of, first_ask, new_receiver}
use Rattle.transfer_receiver.specs.PieceRules.{PieceOutcome, active_at, ending, keeping}
use Rattle.transfer_sender.specs.Answer.{Answer, answer_to}
use Rattle.transfer_words.specs.Word.{Word, start, start_ack, confirmation, parameters, data_comes, completion, completion_ack}
use Rattle.transfer_words.specs.Saying.{Saying, Stepped, says, begins, leaves}
use Rattle.transfer_words.specs.CoreAnswers.{of_answer, of_piece, of_tick}
use Rattle.transfer_resume.specs.declared.stage.Stage.{Stage}
use Rattle.transfer_resume.specs.declared.stage.Stage.TheVariants as stage
use Rattle.transfer_resume.specs.declared.side.Side.TheVariants.{Write}
use Rattle.transfer_resume.specs.Opening.{agreed_offset}
use Rattle.transfer_resume.specs.Receiver.{receiving_or_over}
use Rattle.transfer_resume.specs.Session.{Service, stepped}
use Rattle.transfer_client.specs.declared.stages.Writing.TheVariants as writing
use Rattle.transfer_client.specs.declared.stages.Wait.{Wait}
use Rattle.transfer_client.specs.Machine.{saying, staying as stays_put}
use Rattle.transfer_client.specs.Write.{Upload, asking_timeout, asks, at_stage, confirming_timeout, confirms, gives_up as client_gives_up, new_upload, no_ask, sending_or_over, write_rules}
use Rattle.transfer_client.specs.Wait as waiting
use Rattle.transfer_laws.proofs.cores.AskLaws.{fits}
use Rattle.transfer_laws.specs.pairs.Pair.{words_of}
use Rattle.transfer_laws.specs.pairs.EndsWell.{write_ended}
use Rattle.transfer_laws.proofs.pairs.Receiving.{end_words}
use Rattle.transfer_laws.specs.losses.Drops.{Lost, LossyPair, begun, kept, lost_at, missing, session_ticks, step, time_passed}
use Rattle.transfer_laws.proofs.losses.Grid.{Setup, Stands, first_begins}
use Rattle.transfer_laws.proofs.losses.Rounds.{IsLossy, Passed, first_more, first_passed, just_lost, may_wait, next_round, none_passed, one_lost, passed_more, some_lost, still_lossy}
use Rattle.transfer_laws.proofs.losses.DataPhase.{Flowing, IsAsk, IsData, Takes, load, piece_goes, sender_at, sound_ask, waits}
use Rattle.transfer_laws.proofs.losses.Answering.{Answered, Sent, answered, as_data}
use Rattle.transfer_laws.proofs.losses.Losing.{few_kept, flows_on, one_word, relost, said_words}
use Rattle.transfer_laws.proofs.losses.Openings.{Opens, Spot, Waits, as_pieces, back, bit, coming, down_of, lost_any, lost_some, nowhere, opening, opening_counts, opens_lost, opens_on, same, steps_of, up_of, waits_lost, waits_on}
use Rattle.transfer_laws.proofs.losses.Late.{asked_again, asks_again, asks_no_more, flows_again, is_past, lost_some as words_lost, may_not_resend, may_resend, span, telling, waits_again}
use Rattle.transfer_laws.proofs.losses.WriteTelling.{IsCalm, Outcome, calm, gives_up, sending_counts, silent, tells, waited}
use Rattle.transfer_laws.proofs.losses.Left.{Left, StillLeft, left_behind, rank}

abbrev confirmed_by : Bool → List Word
confirmed_by b = if b then confirmation no_ask ∷ [] else []

module _ (x : Setup) (shelf : Shelf) (window begin : ℕ) (loses : ℕ → Bool) (since limit : ℕ) where
  abbrev k : Service
  k = record { side = Write; shelf = shelf; window = window; chunk = x.chunk; time = begin }

  abbrev Arrives : Upload → LossyPair Upload → Type 0
  Arrives end w = Outcome k loses since limit end w

  one : (end : Upload) (w : LossyPair Upload) → write_rules.end_of w.pair.client ≡ None → Arrives end (step k write_rules loses w) → Arrives end w
  one end w going o = record { many = suc o.many; last = o.last; way = (going, o.way); in_time = o.in_time; ending = o.ending }

  abbrev state : Option Stage → Upload → List Word → List Word → ℕ → List Lost → ℕ → ℕ → LossyPair Upload
  state server client up down m lost now time = record { pair = record { server = server; client = client; to_server = up; to_client = down; said = m }; lost = lost; now = now; time = time }

  abbrev sends_as : Upload → ℕ → ℕ → ℕ → Upload
  sends_as u p a t = at_stage u (writing.Sending (sender_at x p a t))

  abbrev done : Upload → Upload
  done u = at_stage u (writing.Over Okay)

  abbrev receives : Receiver → Option Stage
  receives r = Some (stage.Receiving r)

  abbrev telling_pair : Upload → Receiver → ℕ → ℕ → ℕ → List Word → List Word → ℕ → List Lost → ℕ → ℕ → LossyPair Upload
  telling_pair u r p a t up down m lost now time = state (receives (telling Okay r)) (sends_as u p a t) up down m lost now time

  -- THE DATA PHASE
  abbrev flowing_pair : Upload → Receiver → ℕ → ℕ → ℕ → List Word → List Word → ℕ → List Lost → ℕ → ℕ → LossyPair Upload
  flowing_pair u r p a t up down m lost now time = state (receives r) (sends_as u p a t) up down m lost now time

  -- so many turns of time at most, where so many chunks are left
  abbrev turns : Receiver → ℕ → ℕ
  turns r left = 3 * left + 5 - r.resends

  record Counts (r : Receiver) (left a t : ℕ) (up : List Word) (now : ℕ) : Type 0 where
    left_is : Left x r left
    limited : now + TIMEOUT * turns r left ≤ limit
    counted : t ≤ r.resends
    calm_is : IsCalm t up
    client_active : a ≤ now

  abbrev budget_of : Receiver → ℕ → List Word → List Word → ℕ
  budget_of r left up down = 100 * turns r left + load x r + 67 * length down + length up

  abbrev Flows : ℕ → Type 0
  Flows fuel =
      (u : Upload) (r : Receiver) (w p a t left : ℕ) (up down : List Word) (times m : ℕ) (lost : List Lost) (now time : ℕ) → Flowing x times (IsLossy times lost now) r w p up down → Counts r left a t up now
      → Passed since times lost now → r.active ≤ now → time ≤ now → budget_of r left up down ≤ fuel → Arrives (done u) (flowing_pair u r p a t up down m lost now time)

  -- the client has answered an ask
  abbrev answered_pair : Option Stage → Upload → List Word → ℕ → List Lost → ℕ → ℕ → Answer → LossyPair Upload
  answered_pair server u rest m lost now time an =
      state server (at_stage u (sending_or_over an.after an.after.ended)) (kept loses m (words_of (of_answer an))) rest (m + length (words_of (of_answer an))) (missing loses now m (words_of (of_answer an)) ++ lost) now time

  -- the client hears an ask
  asked : (fuel : ℕ) → Flows fuel → (u : Upload) (r : Receiver) (w p left : ℕ) (ask : Ask) (rest : List Word) (times m : ℕ) (lost : List Lost) (now time : ℕ)
      → Flowing x times (IsLossy times lost now) r w p [] (parameters ask ∷ rest) → Left x r left → now + TIMEOUT * turns r left ≤ limit → Passed since times lost now → r.active ≤ now → time ≤ now
      → budget_of r left [] (parameters ask ∷ rest) ≤ suc fuel → Arrives (done u) (answered_pair (receives r) u rest m lost now time (answer_to (sender_at x p now 0) ask))
  asked fuel later u r w p left ask rest times m lost now time f left_is limited passed active punctual budget =
      let an : Answered x times (IsLossy times lost now) r w p ask [] rest f = answered x times (IsLossy times lost now) r w p ask [] rest f in
      let s : Sent x p ask = an.sent_is in
      let words : List Word = map data_comes s.pieces in
      let lost' : List Lost = missing loses now m words in
      let goes : Flowing x times (IsLossy times (lost' ++ lost) now) r w s.position (kept loses m words) rest
      = flows_on loses x times (IsLossy times lost now) (IsLossy times (lost' ++ lost) now) r w s.position now m [] words rest tt (as_data x s.pieces s.all) (still_lossy lost') (λ some. some_lost loses m words some passed) an.flowing in
      subst (λ z. Arrives (done u) (answered_pair (receives r) u rest m lost now time z)) (sym (s.is now 0))
      (subst (λ ws. Arrives (done u) (flowing_pair u r s.position now 0 (kept loses m ws) rest (m + length ws) (missing loses now m ws ++ lost) now time)) (sym (said_words s.pieces))
      (later u r w s.position now 0 left (kept loses m words) rest times (m + length words) (lost' ++ lost) now time goes
      (record { left_is = left_is; limited = limited; counted = omega arith; calm_is = calm 0 (kept loses m words) refl; client_active = omega arith }) (passed_more lost' passed) active punctual
      (omega (arith, budget, few_kept loses words m, length-map s.pieces data_comes, s.few))))

  -- the service hears a chunk
  abbrev heard_pair : Upload → ℕ → ℕ → ℕ → Piece → List Word → List Word → ℕ → List Lost → ℕ → ℕ → PieceOutcome → LossyPair Upload
  heard_pair u p a t q rest down m lost now time o =
      state (receives o.after) (sends_as u p a t) rest (down ++ kept loses m (words_of (of_piece q.bytes o.answer))) (m + length (words_of (of_piece q.bytes o.answer)))
      (missing loses now m (words_of (of_piece q.bytes o.answer)) ++ lost) now time

  last_heard : (u : Upload) (r : Receiver) (p a t left end : ℕ) (q : Piece) (rest down : List Word) (times m : ℕ) (lost : List Lost) (now time : ℕ) → Stands x p → AllByRecursion (IsData x) rest → AllByRecursion (IsAsk x) down
      → Counts r left a t (data_comes q ∷ rest) now → Passed since times lost now → time ≤ now → Arrives (done u) (heard_pair u p a t q rest down m lost now time (ending (keeping (active_at time r) end) Okay))
  last_heard u r p a t left end q rest down times m lost now time stands all_sent all_asked counts passed punctual =
      let r' : Receiver = record (keeping (active_at time r) end) { resends = 0 } in
      let limited : now + TIMEOUT * (5 - t) ≤ limit = omega (arith, counts.limited, counts.left_is.some, counts.left_is.few, counts.calm_is) in
      subst (λ ws. Arrives (done u) (telling_pair u r' p a t rest (down ++ kept loses m ws) (m + length ws) (missing loses now m ws ++ lost) now time)) (sym (end_words (length q.bytes == 0) q.bytes))
      (one_word loses now (λ goes lost'. Arrives (done u) (telling_pair u r' p a t rest (down ++ goes) (m + 1) (lost' ++ lost) now time)) (completion Okay) m
      (subst (λ ws. Arrives (done u) (telling_pair u r' p a t rest ws (m + 1) (lost_at now (completion Okay) ∷ lost) now time)) (sym (append-nil down))
      (tells x shelf window begin loses since limit (400 + 67 * length down + length rest) u r' p a t false rest down times (m + 1) (lost_at now (completion Okay) ∷ lost) now time
      (record {
        all_up = as_pieces x rest all_sent;
        all_asks = all_asked;
        stands = stands;
        resends = omega arith;
        few = omega arith;
        timeouts_few = omega (arith, counts.calm_is);
        calm_is = calm t down counts.calm_is;
        limited = limited;
        client_active = counts.client_active;
        active = punctual;
        punctual = punctual;
        passed = one_lost passed;
        fresh = inl (just_lost passed);
      })
      (omega arith)))
      (tells x shelf window begin loses since limit (400 + 67 * length down + length rest) u r' p a t true rest down times (m + 1) lost now time
      (record {
        all_up = as_pieces x rest all_sent;
        all_asks = all_asked;
        stands = stands;
        resends = omega arith;
        few = omega arith;
        timeouts_few = omega (arith, counts.calm_is);
        calm_is = calm t down counts.calm_is;
        limited = limited;
        client_active = counts.client_active;
        active = punctual;
        punctual = punctual;
        passed = passed;
        fresh = inr refl;
      })
      (omega arith)))

  piece_heard : (fuel : ℕ) → Flows fuel → (u : Upload) (r : Receiver) (w p a t left : ℕ) (y : Word) (rest down : List Word) (times m : ℕ) (lost : List Lost) (now time : ℕ)
      → Flowing x times (IsLossy times lost now) r w p (y ∷ rest) down → Counts r left a t (y ∷ rest) now → Passed since times lost now → time ≤ now → budget_of r left (y ∷ rest) down ≤ suc fuel
      → Arrives (done u) (flowing_pair u r p a t (y ∷ rest) down m lost now time)
  piece_heard fuel later u r w p a t left (data_comes q) rest down times m lost now time f counts passed punctual budget =
      one (done u) (flowing_pair u r p a t (data_comes q ∷ rest) down m lost now time) refl
      (piece_goes x times (IsLossy times lost now) time r w p q rest down f (λ o. Arrives (done u) (heard_pair u p a t q rest down m lost now time o))
      (record {
        quiet = λ r' w' answer none flow moved less active.
            let s : StillLeft x (rank x r left) r' = left_behind x r r' left counts.left_is moved in
            subst (λ ws. Arrives (done u) (flowing_pair u r' p a t rest (down ++ kept loses m ws) (m + length ws) (missing loses now m ws ++ lost) now time)) (sym none)
            (subst (λ ws. Arrives (done u) (flowing_pair u r' p a t rest ws (m + 0) lost now time)) (sym (append-nil down))
            (later u r' w' p a t s.left rest down times (m + 0) lost now time flow (counts_behind r' s) passed (omega (arith, active, punctual)) punctual
            (omega (arith, budget, less, s.less, s.is.few, counts.left_is.few))));
        asks = λ r' w' answer said words lost_flow flow moved less active.
            let s : StillLeft x (rank x r left) r' = left_behind x r r' left counts.left_is moved in
            subst (λ ws. Arrives (done u) (flowing_pair u r' p a t rest (down ++ kept loses m ws) (m + length ws) (missing loses now m ws ++ lost) now time)) (sym words)
            (one_word loses now (λ goes lost'. Arrives (done u) (flowing_pair u r' p a t rest (down ++ goes) (m + 1) (lost' ++ lost) now time)) said m
            (subst (λ ws. Arrives (done u) (flowing_pair u r' p a t rest ws (m + 1) (lost_at now said ∷ lost) now time)) (sym (append-nil down))
            (later u r' w' p a t s.left rest down times (m + 1) (lost_at now said ∷ lost) now time (relost (λ z. just_lost passed) lost_flow) (counts_behind r' s) (one_lost passed) (omega (arith, active, punctual)) punctual
            (omega (arith, budget, less, s.less, s.is.few, counts.left_is.few))))
            (later u r' w' p a t s.left rest (down ++ said ∷ []) times (m + 1) lost now time flow (counts_behind r' s) passed (omega (arith, active, punctual)) punctual
            (omega (arith, budget, less, s.less, s.is.few, counts.left_is.few, length-append down (said ∷ [])))));
        ended = λ end. last_heard u r p a t left end q rest down times m lost now time f.stands f.all_sent.1 f.all_asked counts passed punctual;
      }))
    where
      counts_behind : (r' : Receiver) (s : StillLeft x (rank x r left) r') → Counts r' s.left a t rest now
      counts_behind r' s = record {
        left_is = s.is;
        limited = omega (arith, counts.limited, s.less, s.is.few, counts.left_is.few);
        counted = omega (arith, counts.calm_is);
        calm_is = calm t rest counts.calm_is;
        client_active = counts.client_active;
      }
  piece_heard fuel later u r w p a t left _ rest down times m lost now time f counts passed punctual budget = absurd f.all_sent.0

  -- the service has given up, and the client hears so, or doesn't
  given_up : (u : Upload) (p a t times m : ℕ) (lost : List Lost) (now : ℕ) → 4 ≤ times → Passed since times lost now → t ≤ 4 → a ≤ now → now + TIMEOUT * (5 - t) ≤ limit
      → Arrives (done u) (state (Some (stage.Ended DeadlineExceeded)) (sends_as u p a t) [] (kept loses m (completion DeadlineExceeded ∷ [])) (m + 1) (missing loses now m (completion DeadlineExceeded ∷ []) ++ lost) now now)
  given_up u p a t times m lost now many passed few active limited =
      one_word loses now (λ goes lost'. Arrives (done u) (state (Some (stage.Ended DeadlineExceeded)) (sends_as u p a t) [] goes (m + 1) (lost' ++ lost) now now)) (completion DeadlineExceeded) m
      (silent x shelf window begin loses since limit 5 (done u) DeadlineExceeded u p a t (m + 1) (lost_at now (completion DeadlineExceeded) ∷ lost) now now
      (record { few = few; active = active; limited = limited; four = first_passed many (one_lost {w = completion DeadlineExceeded} passed) }) (omega arith))
      (let heard : LossyPair Upload = state (Some (stage.Ended DeadlineExceeded)) (sends_as u p a t) [] (completion DeadlineExceeded ∷ []) (m + 1) lost now now in
      one (done u) heard refl (record {
        many = 0;
        last = step k write_rules loses heard;
        way = refl;
        in_time = omega (arith, limited);
        ending = waited (record { ends = refl; four = first_more since (missing loses now (m + 1) (completion_ack ∷ [])) lost (first_passed many passed) });
      }))

  flow_late : (fuel : ℕ) → Flows fuel → (u : Upload) (r : Receiver) (w p a t left times m : ℕ) (lost : List Lost) (now time : ℕ) → Flowing x times (IsLossy times lost now) r w p [] [] → Counts r left a t [] now
      → Passed since times lost now → r.active ≤ now → budget_of r left [] [] ≤ suc fuel → Arrives (done u) (flowing_pair u r p a t [] [] m lost now time)
  flow_late fuel later u r w p a t left times m lost now time f counts passed active budget = by (may_wait r.resends)
    where
      next : Passed since (suc times) lost (now + TIMEOUT)
      next = next_round passed (words_lost x times (IsLossy times lost now) r w p now f)

      counted : write_rules.ticks (sends_as u p a t) (now + TIMEOUT) ≡ stays_put (sends_as u p (now + TIMEOUT) (t + 1))
      counted = sending_counts x shelf window begin loses since limit u p a t (now + TIMEOUT) (omega (arith, counts.client_active)) (omega (arith, counts.counted, counts.left_is.few))

      counts_late : r.resends ≤ 2 → Counts (asked_again (now + TIMEOUT) r) left (now + TIMEOUT) (t + 1) [] (now + TIMEOUT)
      counts_late few = record {
        left_is = record { some = counts.left_is.some; reach = counts.left_is.reach; few = omega (arith, few) };
        limited = omega (arith, counts.limited, few, counts.left_is.some);
        counted = omega (arith, counts.counted);
        calm_is = tt;
        client_active = omega arith;
      }

      by : (r.resends ≤ 2) ⊎ (3 ≤ r.resends) → Arrives (done u) (flowing_pair u r p a t [] [] m lost now time)
      by (inl few) =
          one (done u) (flowing_pair u r p a t [] [] m lost now time) refl
          (subst (λ o. Arrives (done u) (time_passed loses (flowing_pair u r p a t [] [] m lost now time) (now + TIMEOUT) (write_rules.ticks (sends_as u p a t) (now + TIMEOUT)) (stepped (record { after = receiving_or_over o.after o.answer; sayings = of_tick (is_open r.phase) o.answer }))))
          (sym (asks_again r (now + TIMEOUT) f.takes.opens few (omega (arith, active))))
          (subst (λ b. Arrives (done u) (time_passed loses (flowing_pair u r p a t [] [] m lost now time) (now + TIMEOUT) (write_rules.ticks (sends_as u p a t) (now + TIMEOUT)) (record { after = receives (asked_again (now + TIMEOUT) r); sayings = of_tick b (Resend (ask_of true (asked_again (now + TIMEOUT) r))) }))) (sym f.takes.opens)
          (subst (λ s. Arrives (done u) (time_passed loses (flowing_pair u r p a t [] [] m lost now time) (now + TIMEOUT) s (record { after = receives (asked_again (now + TIMEOUT) r); sayings = says (parameters (ask_of true (asked_again (now + TIMEOUT) r))) ∷ [] }))) (sym counted)
          (one_word loses (now + TIMEOUT) (λ goes lost'. Arrives (done u) (flowing_pair u (asked_again (now + TIMEOUT) r) p (now + TIMEOUT) (t + 1) [] goes (m + 0 + 1) (lost' ++ lost) (now + TIMEOUT) (now + TIMEOUT))) (parameters (ask_of true (asked_again (now + TIMEOUT) r))) (m + 0)
          (later u (asked_again (now + TIMEOUT) r) (span x times (IsLossy times lost now) r w p (now + TIMEOUT) f) p (now + TIMEOUT) (t + 1) left [] [] (suc times) (m + 0 + 1) (lost_at (now + TIMEOUT) (parameters (ask_of true (asked_again (now + TIMEOUT) r))) ∷ lost) (now + TIMEOUT) (now + TIMEOUT)
          (waits_again x times (IsLossy times lost now) r w p (now + TIMEOUT) f (IsLossy (suc times) (lost_at (now + TIMEOUT) (parameters (ask_of true (asked_again (now + TIMEOUT) r))) ∷ lost) (now + TIMEOUT)) (just_lost next))
          (counts_late few) (one_lost next) (omega arith) (omega arith) (omega (arith, budget, few, counts.left_is.some)))
          (later u (asked_again (now + TIMEOUT) r) (span x times (IsLossy times lost now) r w p (now + TIMEOUT) f) p (now + TIMEOUT) (t + 1) left [] ((parameters (ask_of true (asked_again (now + TIMEOUT) r))) ∷ []) (suc times) (m + 0 + 1) lost (now + TIMEOUT) (now + TIMEOUT)
          (flows_again x times (IsLossy times lost now) r w p (now + TIMEOUT) f (IsLossy (suc times) lost (now + TIMEOUT)))
          (counts_late few) next (omega arith) (omega arith) (omega (arith, budget, few, counts.left_is.some)))))))
      by (inr many) =
          one (done u) (flowing_pair u r p a t [] [] m lost now time) refl
          (subst (λ o. Arrives (done u) (time_passed loses (flowing_pair u r p a t [] [] m lost now time) (now + TIMEOUT) (write_rules.ticks (sends_as u p a t) (now + TIMEOUT)) (stepped (record { after = receiving_or_over o.after o.answer; sayings = of_tick (is_open r.phase) o.answer }))))
          (sym (asks_no_more r (now + TIMEOUT) f.takes.opens many (omega (arith, active))))
          (subst (λ b. Arrives (done u) (time_passed loses (flowing_pair u r p a t [] [] m lost now time) (now + TIMEOUT) (write_rules.ticks (sends_as u p a t) (now + TIMEOUT)) (record { after = Some (stage.Ended DeadlineExceeded); sayings = of_tick b (Over DeadlineExceeded) }))) (sym f.takes.opens)
          (subst (λ s. Arrives (done u) (time_passed loses (flowing_pair u r p a t [] [] m lost now time) (now + TIMEOUT) s (record { after = Some (stage.Ended DeadlineExceeded); sayings = leaves ∷ says (completion DeadlineExceeded) ∷ [] }))) (sym counted)
          (given_up u p (now + TIMEOUT) (t + 1) (suc times) (m + 0) lost (now + TIMEOUT) (omega (arith, many, f.resends)) next (omega (arith, counts.counted, counts.left_is.few)) (omega arith)
          (omega (arith, counts.limited, counts.left_is.some, counts.left_is.few, counts.counted))))))

  flows_step : (fuel : ℕ) → Flows fuel → Flows (suc fuel)
  flows_step fuel later u r w p a t left (y ∷ ys) down times m lost now time f counts passed active punctual budget = piece_heard fuel later u r w p a t left y ys down times m lost now time f counts passed punctual budget
  flows_step fuel later u r w p a t left [] (parameters ask ∷ rest) times m lost now time f counts passed active punctual budget =
      one (done u) (flowing_pair u r p a t [] (parameters ask ∷ rest) m lost now time) refl (asked fuel later u r w p left ask rest times m lost now time f counts.left_is counts.limited passed active punctual budget)
  flows_step fuel later u r w p a t left [] (_ ∷ rest) times m lost now time f counts passed active punctual budget = absurd f.all_asked.0
  flows_step fuel later u r w p a t left [] [] times m lost now time f counts passed active punctual budget = flow_late fuel later u r w p a t left times m lost now time f counts passed active budget

  flow : (fuel : ℕ) → Flows fuel
  flow zero = λ u r w p a t left up down times m lost now time f counts passed active punctual budget. absurd (omega (arith, budget, counts.left_is.some, counts.left_is.few))
  flow (suc fuel) = flows_step fuel (flow fuel)

  -- THE OPENING
  module _ (resource asked_offset : ℕ) (agreed_is : agreed_offset shelf resource asked_offset ≡ x.offset) (low : x.offset ≤ asked_offset) (window_low : 1 ≤ window) (window_high : window ≤ 64)
      (pieces : ℕ) (some_pieces : 1 ≤ pieces) (reach : length x.bytes ≤ x.offset + pieces * x.chunk) where
    abbrev finished : Upload
    finished = write_ended (new_upload resource x.bytes asked_offset) x.offset

    abbrev wanting : Wait → Upload
    wanting w = at_stage (new_upload resource x.bytes asked_offset) (writing.Asking w)

    abbrev agreed : Upload
    agreed = record (new_upload resource x.bytes asked_offset) { agreed = Some x.offset }

    abbrev confirming : Wait → Upload
    confirming w = at_stage agreed (writing.Confirming w)

    abbrev opening_at : ℕ → ℕ → Option Stage
    opening_at active timeouts = opening resource asked_offset x.offset active timeouts

    -- where time passes the client asks again, or confirms again
    asks_late : (P : Stepped Upload → Type 0) (w : Wait) (now : ℕ) → w.resends ≤ 2 → w.active + TIMEOUT ≤ now → P (asks (wanting w) (waiting.again w now)) → P (write_rules.ticks (wanting w) now)
    asks_late P w now few late goes =
        subst (λ b. P (if b then asking_timeout (wanting w) w now else stays_put (wanting w))) (sym (is_past w.active now late))
        (subst (λ b. P (if b then asks (wanting w) (waiting.again w now) else client_gives_up (wanting w))) (sym (may_resend w.resends few)) goes)

    confirms_late : (P : Stepped Upload → Type 0) (w : Wait) (now : ℕ) → w.resends ≤ 2 → w.active + TIMEOUT ≤ now → P (confirms (confirming w) (waiting.again w now)) → P (write_rules.ticks (confirming w) now)
    confirms_late P w now few late goes =
        subst (λ b. P (if b then confirming_timeout (confirming w) w now else stays_put (confirming w))) (sym (is_past w.active now late))
        (subst (λ b. P (if b then confirms (confirming w) (waiting.again w now) else client_gives_up (confirming w))) (sym (may_resend w.resends few)) goes)

    -- or gives up
    asks_no_longer : (w : Wait) (now : ℕ) → 3 ≤ w.resends → w.active + TIMEOUT ≤ now → write_rules.ticks (wanting w) now ≡ client_gives_up (wanting w)
    asks_no_longer w now many late =
        ap (λ b. if b then asking_timeout (wanting w) w now else stays_put (wanting w)) (is_past w.active now late)
        ∙ ap (λ b. if b then asks (wanting w) (waiting.again w now) else client_gives_up (wanting w)) (may_not_resend w.resends many)

    confirms_no_longer : (w : Wait) (now : ℕ) → 3 ≤ w.resends → w.active + TIMEOUT ≤ now → write_rules.ticks (confirming w) now ≡ client_gives_up (confirming w)
    confirms_no_longer w now many late =
        ap (λ b. if b then confirming_timeout (confirming w) w now else stays_put (confirming w)) (is_past w.active now late)
        ∙ ap (λ b. if b then confirms (confirming w) (waiting.again w now) else client_gives_up (confirming w)) (may_not_resend w.resends many)

    -- so many turns of time may pass at most, where so many follow the phase
    record IsEarly (after : ℕ) (w : Wait) (now : ℕ) : Type 0 where
      few : w.resends ≤ 3
      limited : now + TIMEOUT * (after + 3 - w.resends) ≤ limit

    early_again : (after : ℕ) (w : Wait) (now : ℕ) → w.resends ≤ 2 → IsEarly after w now → IsEarly after (waiting.again w (now + TIMEOUT)) (now + TIMEOUT)
    early_again after w now few e = record { few = omega (arith, few); limited = omega (arith, e.limited, few) }

    abbrev receiving_turns : ℕ
    receiving_turns = 3 * pieces + 5

    abbrev confirming_turns : ℕ
    confirming_turns = receiving_turns + 3

    -- THE SERVICE ASKS, and the client may not have heard it
    record Awaits (times : ℕ) (r : Receiver) (w : ℕ) (wait : Wait) (down : List Word) (lost : List Lost) (now time : ℕ) : Type 0 where
      flowing : Flowing x times (IsLossy times lost now) r w x.offset [] down
      passed : Passed since times lost now
      resends : wait.resends ≤ times
      few : wait.resends ≤ 3
      behind : r.resends ≤ wait.resends
      left_is : Left x r pieces
      limited : now + TIMEOUT * turns r pieces ≤ limit
      waiting_active : wait.active ≤ now
      active : r.active ≤ now
      punctual : time ≤ now

    abbrev awaiting_pair : Wait → Receiver → Bool → List Word → ℕ → List Lost → ℕ → ℕ → LossyPair Upload
    awaiting_pair wait r b down m lost now time = state (receives r) (confirming wait) (confirmed_by b) down m lost now time

    abbrev AwaitsWell : ℕ → Type 0
    AwaitsWell fuel =
        (wait : Wait) (r : Receiver) (w : ℕ) (b : Bool) (down : List Word) (times m : ℕ) (lost : List Lost) (now time : ℕ) → Awaits times r w wait down lost now time → 100 * (4 - wait.resends) + bit b ≤ fuel
        → Arrives finished (awaiting_pair wait r b down m lost now time)

    awaited : (wait : Wait) (r : Receiver) (w : ℕ) (ask : Ask) (rest : List Word) (times m : ℕ) (lost : List Lost) (now time : ℕ) → Awaits times r w wait (parameters ask ∷ rest) lost now time
        → Arrives finished (awaiting_pair wait r false (parameters ask ∷ rest) m lost now time)
    awaited wait r w ask rest times m lost now time f =
        let fuel : ℕ = budget_of r pieces [] (parameters ask ∷ rest) in
        one finished (awaiting_pair wait r false (parameters ask ∷ rest) m lost now time) refl
        (asked fuel (flow fuel) (confirming wait) r w x.offset pieces ask rest times m lost now time f.flowing f.left_is f.limited f.passed f.active f.punctual (omega arith))

    awaiting_down : (wait : Wait) (r : Receiver) (w : ℕ) (y : Word) (ys : List Word) (times m : ℕ) (lost : List Lost) (now time : ℕ) → Awaits times r w wait (y ∷ ys) lost now time
        → Arrives finished (awaiting_pair wait r false (y ∷ ys) m lost now time)
    awaiting_down wait r w (parameters ask) ys times m lost now time f = awaited wait r w ask ys times m lost now time f
    awaiting_down wait r w _ ys times m lost now time f = absurd f.flowing.all_asked.0

    awaiting_heard : (fuel : ℕ) → AwaitsWell fuel → (wait : Wait) (r : Receiver) (w : ℕ) (down : List Word) (times m : ℕ) (lost : List Lost) (now time : ℕ) → Awaits times r w wait down lost now time
        → 100 * (4 - wait.resends) + 2 ≤ suc fuel → Arrives finished (awaiting_pair wait r true down m lost now time)
    awaiting_heard fuel later wait r w down times m lost now time f budget =
        one finished (awaiting_pair wait r true down m lost now time) refl
        (subst (λ ws. Arrives finished (awaiting_pair wait r false ws (m + 0) lost now time)) (sym (append-nil down)) (later wait r w false down times (m + 0) lost now time f (omega (arith, budget))))

    awaiting_late : (fuel : ℕ) → AwaitsWell fuel → (wait : Wait) (r : Receiver) (w times m : ℕ) (lost : List Lost) (now time : ℕ) → Awaits times r w wait [] lost now time → 100 * (4 - wait.resends) + 0 ≤ suc fuel
        → Arrives finished (awaiting_pair wait r false [] m lost now time)
    awaiting_late fuel later wait r w times m lost now time f budget = by (may_wait wait.resends)
      where
        next : Passed since (suc times) lost (now + TIMEOUT)
        next = next_round f.passed (words_lost x times (IsLossy times lost now) r w x.offset now f.flowing)

        goes : (Then : Type 0) → Flowing x (suc times) Then (asked_again (now + TIMEOUT) r) (span x times (IsLossy times lost now) r w x.offset (now + TIMEOUT) f.flowing) x.offset [] ((parameters (ask_of true (asked_again (now + TIMEOUT) r))) ∷ [])
        goes = flows_again x times (IsLossy times lost now) r w x.offset (now + TIMEOUT) f.flowing

        none : (Then : Type 0) → Then → Flowing x (suc times) Then (asked_again (now + TIMEOUT) r) (span x times (IsLossy times lost now) r w x.offset (now + TIMEOUT) f.flowing) x.offset [] []
        none = waits_again x times (IsLossy times lost now) r w x.offset (now + TIMEOUT) f.flowing

        -- whatever is lost of the two words
        awaits_on : {lost' : List Lost} → wait.resends ≤ 2 → Passed since (suc times) lost' (now + TIMEOUT) → (down : List Word) → Flowing x (suc times) (IsLossy (suc times) lost' (now + TIMEOUT)) (asked_again (now + TIMEOUT) r) (span x times (IsLossy times lost now) r w x.offset (now + TIMEOUT) f.flowing) x.offset [] down
            → Awaits (suc times) (asked_again (now + TIMEOUT) r) (span x times (IsLossy times lost now) r w x.offset (now + TIMEOUT) f.flowing) (waiting.again wait (now + TIMEOUT)) down lost' (now + TIMEOUT) (now + TIMEOUT)
        awaits_on few passed down flowing = record {
          flowing = flowing;
          passed = passed;
          resends = omega (arith, f.resends);
          few = omega (arith, few);
          behind = omega (arith, f.behind);
          left_is = record { some = f.left_is.some; reach = f.left_is.reach; few = omega (arith, f.behind, few) };
          limited = omega (arith, f.limited, f.behind, few, some_pieces);
          waiting_active = omega arith;
          active = omega arith;
          punctual = omega arith;
        }

        by : (wait.resends ≤ 2) ⊎ (3 ≤ wait.resends) → Arrives finished (awaiting_pair wait r false [] m lost now time)
        by (inl few) =
            let unconfirmed : Passed since (suc times) (lost_at (now + TIMEOUT) (confirmation no_ask) ∷ lost) (now + TIMEOUT) = one_lost next in
            one finished (awaiting_pair wait r false [] m lost now time) refl
            (subst (λ o. Arrives finished (time_passed loses (awaiting_pair wait r false [] m lost now time) (now + TIMEOUT) (write_rules.ticks (confirming wait) (now + TIMEOUT)) (stepped (record { after = receiving_or_over o.after o.answer; sayings = of_tick (is_open r.phase) o.answer }))))
            (sym (asks_again r (now + TIMEOUT) f.flowing.takes.opens (omega (arith, f.behind, few)) (omega (arith, f.active))))
            (subst (λ b. Arrives finished (time_passed loses (awaiting_pair wait r false [] m lost now time) (now + TIMEOUT) (write_rules.ticks (confirming wait) (now + TIMEOUT)) (record { after = receives (asked_again (now + TIMEOUT) r); sayings = of_tick b (Resend (ask_of true (asked_again (now + TIMEOUT) r))) }))) (sym f.flowing.takes.opens)
            (confirms_late (λ s. Arrives finished (time_passed loses (awaiting_pair wait r false [] m lost now time) (now + TIMEOUT) s (record { after = receives (asked_again (now + TIMEOUT) r); sayings = says (parameters (ask_of true (asked_again (now + TIMEOUT) r))) ∷ [] }))) wait (now + TIMEOUT) few (omega (arith, f.waiting_active))
            (one_word loses (now + TIMEOUT)
            (λ up lost'. Arrives finished (state (receives (asked_again (now + TIMEOUT) r)) (confirming (waiting.again wait (now + TIMEOUT))) up (kept loses (m + 1) ((parameters (ask_of true (asked_again (now + TIMEOUT) r))) ∷ [])) (m + 1 + 1) (missing loses (now + TIMEOUT) (m + 1) ((parameters (ask_of true (asked_again (now + TIMEOUT) r))) ∷ []) ++ (lost' ++ lost)) (now + TIMEOUT) (now + TIMEOUT)))
            (confirmation no_ask) m
            (one_word loses (now + TIMEOUT) (λ down lost'. Arrives finished (awaiting_pair (waiting.again wait (now + TIMEOUT)) (asked_again (now + TIMEOUT) r) false down (m + 1 + 1) (lost' ++ lost_at (now + TIMEOUT) (confirmation no_ask) ∷ lost) (now + TIMEOUT) (now + TIMEOUT))) (parameters (ask_of true (asked_again (now + TIMEOUT) r))) (m + 1)
            (later (waiting.again wait (now + TIMEOUT)) (asked_again (now + TIMEOUT) r) (span x times (IsLossy times lost now) r w x.offset (now + TIMEOUT) f.flowing) false [] (suc times) (m + 1 + 1) (lost_at (now + TIMEOUT) (parameters (ask_of true (asked_again (now + TIMEOUT) r))) ∷ lost_at (now + TIMEOUT) (confirmation no_ask) ∷ lost) (now + TIMEOUT) (now + TIMEOUT)
            (awaits_on few (one_lost unconfirmed) [] (none (IsLossy (suc times) (lost_at (now + TIMEOUT) (parameters (ask_of true (asked_again (now + TIMEOUT) r))) ∷ lost_at (now + TIMEOUT) (confirmation no_ask) ∷ lost) (now + TIMEOUT)) (just_lost unconfirmed)))
            (omega (arith, budget, few)))
            (later (waiting.again wait (now + TIMEOUT)) (asked_again (now + TIMEOUT) r) (span x times (IsLossy times lost now) r w x.offset (now + TIMEOUT) f.flowing) false ((parameters (ask_of true (asked_again (now + TIMEOUT) r))) ∷ []) (suc times) (m + 1 + 1) (lost_at (now + TIMEOUT) (confirmation no_ask) ∷ lost) (now + TIMEOUT) (now + TIMEOUT)
            (awaits_on few unconfirmed ((parameters (ask_of true (asked_again (now + TIMEOUT) r))) ∷ []) (goes (IsLossy (suc times) (lost_at (now + TIMEOUT) (confirmation no_ask) ∷ lost) (now + TIMEOUT))))
            (omega (arith, budget, few))))
            (one_word loses (now + TIMEOUT) (λ down lost'. Arrives finished (awaiting_pair (waiting.again wait (now + TIMEOUT)) (asked_again (now + TIMEOUT) r) true down (m + 1 + 1) (lost' ++ lost) (now + TIMEOUT) (now + TIMEOUT))) (parameters (ask_of true (asked_again (now + TIMEOUT) r))) (m + 1)
            (later (waiting.again wait (now + TIMEOUT)) (asked_again (now + TIMEOUT) r) (span x times (IsLossy times lost now) r w x.offset (now + TIMEOUT) f.flowing) true [] (suc times) (m + 1 + 1) (lost_at (now + TIMEOUT) (parameters (ask_of true (asked_again (now + TIMEOUT) r))) ∷ lost) (now + TIMEOUT) (now + TIMEOUT)
            (awaits_on few (one_lost next) [] (none (IsLossy (suc times) (lost_at (now + TIMEOUT) (parameters (ask_of true (asked_again (now + TIMEOUT) r))) ∷ lost) (now + TIMEOUT)) (just_lost next))) (omega (arith, budget, few)))
            (later (waiting.again wait (now + TIMEOUT)) (asked_again (now + TIMEOUT) r) (span x times (IsLossy times lost now) r w x.offset (now + TIMEOUT) f.flowing) true ((parameters (ask_of true (asked_again (now + TIMEOUT) r))) ∷ []) (suc times) (m + 1 + 1) lost (now + TIMEOUT) (now + TIMEOUT)
            (awaits_on few next ((parameters (ask_of true (asked_again (now + TIMEOUT) r))) ∷ []) (goes (IsLossy (suc times) lost (now + TIMEOUT)))) (omega (arith, budget, few))))))))
        by (inr many) =
            one finished (awaiting_pair wait r false [] m lost now time) refl
            (subst (λ s. Arrives finished (time_passed loses (awaiting_pair wait r false [] m lost now time) (now + TIMEOUT) s (session_ticks Write (now + TIMEOUT) (receives r)))) (sym (confirms_no_longer wait (now + TIMEOUT) many (omega (arith, f.waiting_active))))
            (gives_up x shelf window begin loses since limit finished (awaiting_pair wait r false [] m lost now time) (now + TIMEOUT) (client_gives_up (confirming wait)) (session_ticks Write (now + TIMEOUT) (receives r)) refl (first_passed (omega (arith, many, f.resends)) next) (omega (arith, f.limited, f.left_is.few, some_pieces))))

    awaits_step : (fuel : ℕ) → AwaitsWell fuel → AwaitsWell (suc fuel)
    awaits_step fuel later wait r w true down times m lost now time f budget = awaiting_heard fuel later wait r w down times m lost now time f (omega (arith, budget))
    awaits_step fuel later wait r w false [] times m lost now time f budget = awaiting_late fuel later wait r w times m lost now time f (omega (arith, budget))
    awaits_step fuel later wait r w false (y ∷ ys) times m lost now time f budget = awaiting_down wait r w y ys times m lost now time f

    awaits : (fuel : ℕ) → AwaitsWell fuel
    awaits zero = λ wait r w b down times m lost now time f budget. absurd (omega (arith, budget, f.few))
    awaits (suc fuel) = awaits_step fuel (awaits fuel)

    -- THE CLIENT CONFIRMS, and the service may not have heard it
    abbrev first : ℕ → Receiver
    first time = new_receiver x.offset window x.chunk time

    first_takes : (time : ℕ) → Takes x (first time) window
    first_takes time = record { opens = refl; begins = first_begins x; window = refl; low = window_low; high = omega arith; span_low = window_low; span_high = window_high; chunk = refl }

    first_flowing : (times : ℕ) (Lossy : Type 0) (time : ℕ) → Flowing x times Lossy (first time) window x.offset [] (parameters (first_ask (first time)) ∷ [])
    first_flowing times Lossy time = record {
      takes = first_takes time;
      stands = inr (first_begins x);
      resends = omega arith;
      all_sent = tt;
      all_asked = (sound_ask x true true (first time) window (first_takes time), tt);
      fresh = inr (waits tt ((refl, refl, refl), tt));
    }

    first_lost : (times : ℕ) (Lossy : Type 0) (time : ℕ) → Lossy → Flowing x times Lossy (first time) window x.offset [] []
    first_lost times Lossy time lossy =
        record { takes = first_takes time; stands = inr (first_begins x); resends = omega arith; all_sent = tt; all_asked = tt; fresh = inl lossy }

    abbrev confirming_pair : Wait → ℕ → ℕ → Bool → ℕ → List Lost → ℕ → ℕ → LossyPair Upload
    confirming_pair w a t b m lost now time = state (opening_at a t) (confirming w) (confirmed_by b) [] m lost now time

    abbrev ConfirmsWell : ℕ → Type 0
    ConfirmsWell fuel =
        (w : Wait) (a t : ℕ) (b : Bool) (times m : ℕ) (lost : List Lost) (now time : ℕ) → Waits since times w t b lost now → IsEarly receiving_turns w now → time ≤ now → 100 * (4 - w.resends) ≤ fuel → Arrives finished (confirming_pair w a t b m lost now time)

    confirmed : (w : Wait) (a t times m : ℕ) (lost : List Lost) (now time : ℕ) → Waits since times w t true lost now → IsEarly receiving_turns w now → time ≤ now → Arrives finished (confirming_pair w a t true m lost now time)
    confirmed w a t times m lost now time f early punctual =
        one finished (confirming_pair w a t true m lost now time) refl
        (one_word loses now (λ down lost'. Arrives finished (awaiting_pair w (first time) false down (m + 1) (lost' ++ lost) now time)) (parameters (first_ask (first time))) m
        (awaits (100 * (4 - w.resends) + 0) w (first time) window false [] times (m + 1) (lost_at now (parameters (first_ask (first time))) ∷ lost) now time
        (awaits_first (one_lost f.passed) [] (first_lost times (IsLossy times (lost_at now (parameters (first_ask (first time))) ∷ lost) now) time (just_lost f.passed))) (omega arith))
        (awaits (100 * (4 - w.resends) + 0) w (first time) window false ((parameters (first_ask (first time))) ∷ []) times (m + 1) lost now time
        (awaits_first f.passed ((parameters (first_ask (first time))) ∷ []) (first_flowing times (IsLossy times lost now) time)) (omega arith)))
      where
        awaits_first : {lost' : List Lost} → Passed since times lost' now → (down : List Word) → Flowing x times (IsLossy times lost' now) (first time) window x.offset [] down → Awaits times (first time) window w down lost' now time
        awaits_first passed down flowing = record {
          flowing = flowing;
          passed = passed;
          resends = f.resends;
          few = early.few;
          behind = omega arith;
          left_is = record { some = some_pieces; reach = reach; few = omega arith };
          limited = omega (arith, early.limited, early.few);
          waiting_active = f.active;
          active = punctual;
          punctual = punctual;
        }

    confirming_late : (fuel : ℕ) → ConfirmsWell fuel → (w : Wait) (a t times m : ℕ) (lost : List Lost) (now time : ℕ) → Waits since times w t false lost now → IsEarly receiving_turns w now → 100 * (4 - w.resends) ≤ suc fuel
        → Arrives finished (confirming_pair w a t false m lost now time)
    confirming_late fuel later w a t times m lost now time f early budget = by (may_wait w.resends)
      where
        lossy : IsLossy times lost now
        lossy = lost_any (IsLossy times lost now) f.fresh

        by : (w.resends ≤ 2) ⊎ (3 ≤ w.resends) → Arrives finished (confirming_pair w a t false m lost now time)
        by (inl few) =
            one finished (confirming_pair w a t false m lost now time) refl
            (opening_counts resource asked_offset x.offset Write (λ s. Arrives finished (time_passed loses (confirming_pair w a t false m lost now time) (now + TIMEOUT) (write_rules.ticks (confirming w) (now + TIMEOUT)) s)) a t (now + TIMEOUT) (omega (arith, f.timeouts_few, few))
            (λ a' t' counted.
            confirms_late (λ s. Arrives finished (time_passed loses (confirming_pair w a t false m lost now time) (now + TIMEOUT) s (record { after = opening_at a' t'; sayings = [] }))) w (now + TIMEOUT) few (omega (arith, f.active))
            (one_word loses (now + TIMEOUT) (λ up lost'. Arrives finished (state (opening_at a' t') (confirming (waiting.again w (now + TIMEOUT))) up [] (m + 1 + 0) (lost' ++ lost) (now + TIMEOUT) (now + TIMEOUT))) (confirmation no_ask) m
            (later (waiting.again w (now + TIMEOUT)) a' t' false (suc times) (m + 1 + 0) (lost_at (now + TIMEOUT) (confirmation no_ask) ∷ lost) (now + TIMEOUT) (now + TIMEOUT)
            (waits_lost since times w t t' lost now lossy counted (confirmation no_ask) f) (early_again receiving_turns w now few early) (omega arith) (omega (arith, budget, few)))
            (later (waiting.again w (now + TIMEOUT)) a' t' true (suc times) (m + 1 + 0) lost (now + TIMEOUT) (now + TIMEOUT)
            (waits_on since times w t t' lost now lossy counted f) (early_again receiving_turns w now few early) (omega arith) (omega (arith, budget, few))))))
        by (inr many) =
            one finished (confirming_pair w a t false m lost now time) refl
            (subst (λ s. Arrives finished (time_passed loses (confirming_pair w a t false m lost now time) (now + TIMEOUT) s (session_ticks Write (now + TIMEOUT) (opening_at a t)))) (sym (confirms_no_longer w (now + TIMEOUT) many (omega (arith, f.active))))
            (gives_up x shelf window begin loses since limit finished (confirming_pair w a t false m lost now time) (now + TIMEOUT) (client_gives_up (confirming w)) (session_ticks Write (now + TIMEOUT) (opening_at a t)) refl (first_passed (omega (arith, many, f.resends)) (next_round f.passed lossy)) (omega (arith, early.limited, early.few))))

    confirms_step : (fuel : ℕ) → ConfirmsWell fuel → ConfirmsWell (suc fuel)
    confirms_step fuel later w a t true times m lost now time f early punctual budget = confirmed w a t times m lost now time f early punctual
    confirms_step fuel later w a t false times m lost now time f early punctual budget = confirming_late fuel later w a t times m lost now time f early budget

    confirms_well : (fuel : ℕ) → ConfirmsWell fuel
    confirms_well zero = λ w a t b times m lost now time f early punctual budget. absurd (omega (arith, budget, early.few))
    confirms_well (suc fuel) = confirms_step fuel (confirms_well fuel)

    -- THE SERVICE HAS OPENED THE SESSION, and the client may not know it
    abbrev opening_pair : Wait → ℕ → ℕ → Spot → ℕ → List Lost → ℕ → ℕ → LossyPair Upload
    opening_pair w a t spot m lost now time = state (opening_at a t) (wanting w) (up_of resource asked_offset x.offset spot) (down_of resource asked_offset x.offset spot) m lost now time

    abbrev OpensWell : ℕ → Type 0
    OpensWell fuel =
        (w : Wait) (a t : ℕ) (spot : Spot) (times m : ℕ) (lost : List Lost) (now time : ℕ) → Opens since times w t spot lost now → IsEarly confirming_turns w now → time ≤ now → 100 * (4 - w.resends) + steps_of spot ≤ fuel
        → Arrives finished (opening_pair w a t spot m lost now time)

    -- the service has heard a START
    abbrev said_by : Option Stage → Wait → ℕ → List Lost → ℕ → ℕ → List Saying → LossyPair Upload
    said_by service w m lost now time sayings = state service (wanting w) [] (kept loses m (words_of sayings)) (m + length (words_of sayings)) (missing loses now m (words_of sayings) ++ lost) now time

    started_again : (fuel : ℕ) → OpensWell fuel → (w : Wait) (a t times m : ℕ) (lost : List Lost) (now time : ℕ) → Opens since times w t coming lost now → IsEarly confirming_turns w now → time ≤ now → 100 * (4 - w.resends) + 2 ≤ suc fuel
        → Arrives finished (opening_pair w a t coming m lost now time)
    started_again fuel later w a t times m lost now time f early punctual budget =
        one finished (opening_pair w a t coming m lost now time) refl
        (subst (λ b. Arrives finished (said_by (opening_at time 0) w m lost now time (if b then says (start_ack x.offset) ∷ [] else []))) (sym (same resource))
        (one_word loses now (λ goes lost'. Arrives finished (state (opening_at time 0) (wanting w) [] goes (m + 1) (lost' ++ lost) now time)) (start_ack x.offset) m
        (later w time 0 nowhere times (m + 1) (lost_at now (start_ack x.offset) ∷ lost) now time
        (record { resends = f.resends; timeouts_few = omega arith; heard = tt; active = f.active; passed = one_lost f.passed; fresh = inl (just_lost f.passed) }) early punctual (omega (arith, budget)))
        (later w time 0 back times (m + 1) lost now time
        (record { resends = f.resends; timeouts_few = omega arith; heard = refl; active = f.active; passed = f.passed; fresh = inr tt }) early punctual (omega (arith, budget)))))

    -- the client hears a START_ACK
    abbrev agreed_by : Option Stage → ℕ → List Lost → ℕ → ℕ → Stepped Upload → LossyPair Upload
    agreed_by service m lost now time s = state service s.after (kept loses m (words_of s.sayings)) [] (m + length (words_of s.sayings)) (missing loses now m (words_of s.sayings) ++ lost) now time

    agreed_to : (w : Wait) (a t times m : ℕ) (lost : List Lost) (now time : ℕ) → Opens since times w t back lost now → IsEarly confirming_turns w now → time ≤ now → Arrives finished (opening_pair w a t back m lost now time)
    agreed_to w a t times m lost now time f early punctual =
        let wait : Wait = waiting.new_wait now in
        let then_early : IsEarly receiving_turns wait now = record { few = omega arith; limited = omega (arith, early.limited, early.few) } in
        one finished (opening_pair w a t back m lost now time) refl
        (subst (λ b. Arrives finished (agreed_by (opening_at a t) m lost now time (if b then saying (at_stage (wanting w) (writing.Over OutOfRange)) (says (completion OutOfRange)) else confirms (record (wanting w) { agreed = Some x.offset }) wait)))
        (sym (fits x.offset asked_offset low))
        (one_word loses now (λ goes lost'. Arrives finished (state (opening_at a t) (confirming wait) goes [] (m + 1) (lost' ++ lost) now time)) (confirmation no_ask) m
        (confirms_well 400 wait a t false times (m + 1) (lost_at now (confirmation no_ask) ∷ lost) now time
        (record { resends = omega arith; timeouts_few = omega (arith, f.heard); active = omega arith; passed = one_lost f.passed; fresh = inl (just_lost f.passed) }) then_early punctual (omega arith))
        (confirms_well 400 wait a t true times (m + 1) lost now time
        (record { resends = omega arith; timeouts_few = omega (arith, f.heard); active = omega arith; passed = f.passed; fresh = inr refl }) then_early punctual (omega arith))))

    -- it has asked too often
    asking_gives_up : (w : Wait) (times : ℕ) (service : Option Stage) (tick : Stepped (Option Stage)) (m : ℕ) (lost : List Lost) (now time : ℕ) → 3 ≤ w.resends → w.resends ≤ times → w.active ≤ now
        → Passed since times lost now → IsLossy times lost now → IsEarly confirming_turns w now → Arrives finished (time_passed loses (state service (wanting w) [] [] m lost now time) (now + TIMEOUT) (write_rules.ticks (wanting w) (now + TIMEOUT)) tick)
    asking_gives_up w times service tick m lost now time many resends active passed lossy early =
        subst (λ s. Arrives finished (time_passed loses (state service (wanting w) [] [] m lost now time) (now + TIMEOUT) s tick)) (sym (asks_no_longer w (now + TIMEOUT) many (omega (arith, active))))
        (gives_up x shelf window begin loses since limit finished (state service (wanting w) [] [] m lost now time) (now + TIMEOUT) (client_gives_up (wanting w)) tick refl (first_passed (omega (arith, many, resends)) (next_round passed lossy))
        (omega (arith, early.limited, early.few)))

    opening_late : (fuel : ℕ) → OpensWell fuel → (w : Wait) (a t times m : ℕ) (lost : List Lost) (now time : ℕ) → Opens since times w t nowhere lost now → IsEarly confirming_turns w now → 100 * (4 - w.resends) + 0 ≤ suc fuel
        → Arrives finished (opening_pair w a t nowhere m lost now time)
    opening_late fuel later w a t times m lost now time f early budget = by (may_wait w.resends)
      where
        lossy : IsLossy times lost now
        lossy = lost_some (IsLossy times lost now) f.fresh

        by : (w.resends ≤ 2) ⊎ (3 ≤ w.resends) → Arrives finished (opening_pair w a t nowhere m lost now time)
        by (inl few) =
            one finished (opening_pair w a t nowhere m lost now time) refl
            (opening_counts resource asked_offset x.offset Write (λ s. Arrives finished (time_passed loses (opening_pair w a t nowhere m lost now time) (now + TIMEOUT) (write_rules.ticks (wanting w) (now + TIMEOUT)) s)) a t (now + TIMEOUT) (omega (arith, f.timeouts_few, few))
            (λ a' t' counted.
            asks_late (λ s. Arrives finished (time_passed loses (opening_pair w a t nowhere m lost now time) (now + TIMEOUT) s (record { after = opening_at a' t'; sayings = [] }))) w (now + TIMEOUT) few (omega (arith, f.active))
            (one_word loses (now + TIMEOUT) (λ up lost'. Arrives finished (state (opening_at a' t') (wanting (waiting.again w (now + TIMEOUT))) up [] (m + 1 + 0) (lost' ++ lost) (now + TIMEOUT) (now + TIMEOUT))) (start resource asked_offset) m
            (later (waiting.again w (now + TIMEOUT)) a' t' nowhere (suc times) (m + 1 + 0) (lost_at (now + TIMEOUT) (start resource asked_offset) ∷ lost) (now + TIMEOUT) (now + TIMEOUT)
            (opens_lost since times w t t' lost now lossy counted (start resource asked_offset) f) (early_again confirming_turns w now few early) (omega arith) (omega (arith, budget, few)))
            (later (waiting.again w (now + TIMEOUT)) a' t' coming (suc times) (m + 1 + 0) lost (now + TIMEOUT) (now + TIMEOUT)
            (opens_on since times w t t' lost now lossy counted f) (early_again confirming_turns w now few early) (omega arith) (omega (arith, budget, few))))))
        by (inr many) = one finished (opening_pair w a t nowhere m lost now time) refl (asking_gives_up w times (opening_at a t) (session_ticks Write (now + TIMEOUT) (opening_at a t)) m lost now time many f.resends f.active f.passed lossy early)

    opens_step : (fuel : ℕ) → OpensWell fuel → OpensWell (suc fuel)
    opens_step fuel later w a t nowhere times m lost now time f early punctual budget = opening_late fuel later w a t times m lost now time f early budget
    opens_step fuel later w a t coming times m lost now time f early punctual budget = started_again fuel later w a t times m lost now time f early punctual budget
    opens_step fuel later w a t back times m lost now time f early punctual budget = agreed_to w a t times m lost now time f early punctual

    opens : (fuel : ℕ) → OpensWell fuel
    opens zero = λ w a t spot times m lost now time f early punctual budget. absurd (omega (arith, budget, early.few))
    opens (suc fuel) = opens_step fuel (opens fuel)

    -- THE BEGINNING: the service may not know of the session
    abbrev start_by : Bool → List Word
    start_by b = if b then start resource asked_offset ∷ [] else []

    abbrev starting_pair : Wait → Bool → ℕ → List Lost → ℕ → ℕ → LossyPair Upload
    starting_pair w b m lost now time = state None (wanting w) (start_by b) [] m lost now time

    abbrev StartsWell : ℕ → Type 0
    StartsWell fuel = (w : Wait) (b : Bool) (times m : ℕ) (lost : List Lost) (now time : ℕ) → Waits since times w 0 b lost now → IsEarly confirming_turns w now → time ≤ now → 100 * (4 - w.resends) ≤ fuel → Arrives finished (starting_pair w b m lost now time)

    started : (w : Wait) (times m : ℕ) (lost : List Lost) (now time : ℕ) → Waits since times w 0 true lost now → IsEarly confirming_turns w now → time ≤ now → Arrives finished (starting_pair w true m lost now time)
    started w times m lost now time f early punctual =
        one finished (starting_pair w true m lost now time) refl
        (subst (λ z. Arrives finished (said_by (opening resource asked_offset z time 0) w m lost now time (begins resource z ∷ says (start_ack z) ∷ []))) (sym agreed_is)
        (one_word loses now (λ goes lost'. Arrives finished (state (opening_at time 0) (wanting w) [] goes (m + 1) (lost' ++ lost) now time)) (start_ack x.offset) m
        (opens (100 * (4 - w.resends) + 0) w time 0 nowhere times (m + 1) (lost_at now (start_ack x.offset) ∷ lost) now time
        (record { resends = f.resends; timeouts_few = omega arith; heard = tt; active = f.active; passed = one_lost f.passed; fresh = inl (just_lost f.passed) }) early punctual (omega arith))
        (opens (100 * (4 - w.resends) + 1) w time 0 back times (m + 1) lost now time
        (record { resends = f.resends; timeouts_few = omega arith; heard = refl; active = f.active; passed = f.passed; fresh = inr tt }) early punctual (omega arith))))

    start_late : (fuel : ℕ) → StartsWell fuel → (w : Wait) (times m : ℕ) (lost : List Lost) (now time : ℕ) → Waits since times w 0 false lost now → IsEarly confirming_turns w now → 100 * (4 - w.resends) ≤ suc fuel
        → Arrives finished (starting_pair w false m lost now time)
    start_late fuel later w times m lost now time f early budget = by (may_wait w.resends)
      where
        lossy : IsLossy times lost now
        lossy = lost_any (IsLossy times lost now) f.fresh

        by : (w.resends ≤ 2) ⊎ (3 ≤ w.resends) → Arrives finished (starting_pair w false m lost now time)
        by (inl few) =
            one finished (starting_pair w false m lost now time) refl
            (asks_late (λ s. Arrives finished (time_passed loses (starting_pair w false m lost now time) (now + TIMEOUT) s (record { after = None; sayings = [] }))) w (now + TIMEOUT) few (omega (arith, f.active))
            (one_word loses (now + TIMEOUT) (λ up lost'. Arrives finished (state None (wanting (waiting.again w (now + TIMEOUT))) up [] (m + 1 + 0) (lost' ++ lost) (now + TIMEOUT) (now + TIMEOUT))) (start resource asked_offset) m
            (later (waiting.again w (now + TIMEOUT)) false (suc times) (m + 1 + 0) (lost_at (now + TIMEOUT) (start resource asked_offset) ∷ lost) (now + TIMEOUT) (now + TIMEOUT)
            (waits_lost since times w 0 0 lost now lossy (omega arith) (start resource asked_offset) f) (early_again confirming_turns w now few early) (omega arith) (omega (arith, budget, few)))
            (later (waiting.again w (now + TIMEOUT)) true (suc times) (m + 1 + 0) lost (now + TIMEOUT) (now + TIMEOUT)
            (waits_on since times w 0 0 lost now lossy (omega arith) f) (early_again confirming_turns w now few early) (omega arith) (omega (arith, budget, few)))))
        by (inr many) = one finished (starting_pair w false m lost now time) refl (asking_gives_up w times None (record { after = None; sayings = [] }) m lost now time many f.resends f.active f.passed lossy early)

    starts_step : (fuel : ℕ) → StartsWell fuel → StartsWell (suc fuel)
    starts_step fuel later w true times m lost now time f early punctual budget = started w times m lost now time f early punctual
    starts_step fuel later w false times m lost now time f early punctual budget = start_late fuel later w times m lost now time f early budget

    starts : (fuel : ℕ) → StartsWell fuel
    starts zero = λ w b times m lost now time f early punctual budget. absurd (omega (arith, budget, early.few))
    starts (suc fuel) = starts_step fuel (starts fuel)

    -- WHATEVER IS LOST
    pub ends_somehow : (time : ℕ) → time ≤ since → since + TIMEOUT * (3 * pieces + 11) ≤ limit → Arrives finished (begun k write_rules loses since time (new_upload resource x.bytes asked_offset))
    ends_somehow time punctual limited =
        one_word loses since (λ goes lost. Arrives finished (state None (wanting (waiting.new_wait since)) goes [] 1 (lost ++ []) since time)) (start resource asked_offset) 0
        (starts 400 (waiting.new_wait since) false 0 1 (lost_at since (start resource asked_offset) ∷ []) since time
        (record { resends = omega arith; timeouts_few = omega arith; active = omega arith; passed = one_lost (none_passed since); fresh = inl (just_lost (none_passed since)) }) early punctual (omega arith))
        (starts 400 (waiting.new_wait since) true 0 1 [] since time
        (record { resends = omega arith; timeouts_few = omega arith; active = omega arith; passed = none_passed since; fresh = inr refl }) early punctual (omega arith))
      where
        early : IsEarly confirming_turns (waiting.new_wait since) since
        early = record { few = omega arith; limited = omega (arith, limited) }
