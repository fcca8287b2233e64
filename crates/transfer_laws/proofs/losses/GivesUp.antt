-- A read gives up at the fourth turn of time in a row without progress, and at no other; and it ends as it has told.
use Rattle.std.proofs.Common.{◌≡◌, ℕ, zero, suc, ◌+◌, ◌*◌, ◌<◌, ◌≤◌, ◌==◌, ◌&&◌, ◌⊎◌, inl, inr, not, nat_lt, Bool, true, false, if◌then◌else◌, List, [], ◌∷◌, length, Option, Some, None, refl, ap, sym, ◌∙◌, subst, arith}
use Rattle.std.proofs.lemmas.Bool.Decides.{nat_tests}
use Rattle.rpc_ids.specs.declared.Status.{Status}
use Rattle.rpc_ids.specs.declared.Status.TheVariants.{DeadlineExceeded, Internal, Okay, OutOfRange}
use Rattle.transfer_base.specs.declared.limits.TheConstants.{MAX_RESOURCE, TIMEOUT}
use Rattle.transfer_receiver.specs.declared.answers.Received.TheVariants.{Again, Kept}
use Rattle.transfer_receiver.specs.declared.answers.Ticked.TheVariants.{ResendEnd}
use Rattle.transfer_receiver.specs.declared.phase.Phase.{Phase}
use Rattle.transfer_receiver.specs.declared.phase.Phase.TheVariants.{Receiving, Recovering, Completing, Ended}
use Rattle.transfer_receiver.specs.Phase.{is_ended, is_open, is_recovering}
use Rattle.transfer_receiver.specs.Receiver.{Receiver, ask_of, asking, new_receiver}
use Rattle.transfer_receiver.specs.PieceRules.{PieceOutcome, active_at, asking_again, ending, going_on, ignoring, is_half_used, keeping, open_outcome, piece_outcome, taking}
use Rattle.transfer_receiver.specs.TickRules.{giving_up, staying as no_timeout, tick_outcome, timeout_outcome}
use Rattle.transfer_words.specs.Word.{Word, start, start_ack, confirmation, parameters, data_comes, completion, completion_ack}
use Rattle.transfer_words.specs.Saying.{Stepped, says}
use Rattle.transfer_resume.specs.Session.{Service}
use Rattle.transfer_client.specs.declared.stages.Reading.{Reading}
use Rattle.transfer_client.specs.declared.stages.Reading.TheVariants as reading
use Rattle.transfer_client.specs.declared.stages.Wait.{Wait}
use Rattle.transfer_client.specs.Machine.{saying, staying as stays_put}
use Rattle.transfer_client.specs.Read.{Download, acknowledged, asking_timeout, asks, at_stage, completed, end_at, hears_at, new_download, read_rules, receives, receiving_ticks, ticks_at}
use Rattle.transfer_client.specs.Wait.{again}
use Rattle.transfer_laws.specs.losses.Drops.{LeadsTo, LossyPair, begun, step, step_by, waits_by}
use Rattle.transfer_laws.specs.losses.GivesUp.{EndsAsTold, GivesUp, HasTold, HasWaited, IsStill, ReadsEndSo, ReadsGiveUp, progress_at, status_at, told_at}
use Rattle.transfer_laws.specs.losses.InTime.{EndsInTime, EndsSo as Ending, LosesConfirmation, excused, late, read_turns, well}
use Rattle.transfer_laws.specs.pairs.Bound.{need}
use Rattle.transfer_laws.proofs.losses.ReadLaws.{reads_end_in_time}
use Rattle.transfer_laws.proofs.losses.Grid.{less_or_not}
use Rattle.transfer_laws.proofs.losses.Late.{asks_again, asks_no_more, is_past, may_not_resend, may_resend}

-- the turns of time since it came further
abbrev strikes_at : Reading → ℕ
strikes_at reading.Unasked = 0
strikes_at (reading.Asking w) = w.resends
strikes_at (reading.Receiving r) = r.resends
strikes_at (reading.Over status) = 0

-- what stands of a read at a moment
abbrev Stands : Reading → ℕ → Type 0
Stands reading.Unasked now = ⊥
Stands (reading.Asking w) now = (w.active ≤ now) × (w.resends ≤ 3)
Stands (reading.Receiving r) now = (r.active ≤ now) × ((r.resends ≤ 3) × (is_ended r.phase ≡ false))
Stands (reading.Over status) now = Unit {0}

few_strikes : (s : Reading) (now : ℕ) → Stands s now → strikes_at s ≤ 3
few_strikes reading.Unasked now stands = absurd stands
few_strikes (reading.Asking w) now stands = stands.1
few_strikes (reading.Receiving r) now stands = stands.1.0
few_strikes (reading.Over status) now stands = omega arith

-- A WORD brings it further, changes nothing of that, or ends it
data Moves (s t : Reading) : Type 0 where
  further : progress_at s < progress_at t → strikes_at t ≡ 0 → Moves s t
  same : progress_at s ≡ progress_at t → strikes_at s ≡ strikes_at t → Moves s t
  ended_so : (status : Status) → end_at t ≡ Some status → Moves s t

record Hears (s t : Reading) (now : ℕ) : Type 0 where
  stands : Stands t now
  moves : Moves s t

-- a piece
module _ (r : Receiver) (now : ℕ) (active : r.active ≤ now) (few : r.resends ≤ 3) (going : is_ended r.phase ≡ false) where
  abbrev After : PieceOutcome → Type 0
  After o = Hears (reading.Receiving r) (reading.Receiving o.after) now

  ignored : After (ignoring r)
  ignored = record { stands = (active, (few, going)); moves = same refl refl }

  module _ (opens : is_open r.phase ≡ true) where
    abbrev here : ℕ
    here = suc r.next + (if is_open r.phase then 0 else 1)

    here_is : here ≡ suc r.next
    here_is = rw opens (omega arith)

    asked : After (asking_again r)
    asked = by (is_recovering r.phase)
      where
        by : (b : Bool) → After (if b then ignoring r else record { after = record (asking true r) { phase = Recovering }; answer = Again (ask_of true (asking true r)) })
        by true = ignored
        by false = record { stands = (active, (few, refl)); moves = same (omega (arith, here_is)) refl }

    ended : (r' : Receiver) (status : Status) → r'.active ≡ r.active → r.next ≤ r'.next → After (ending r' status)
    ended r' status same_time next = record { stands = (omega (arith, active, same_time), (omega arith, refl)); moves = further (omega (arith, here_is, next)) refl }

    goes_on : (end : ℕ) → r.next < end → After (going_on (keeping r end))
    goes_on end more = by (is_half_used (keeping r end))
      where
        by : (b : Bool) → After (if b then record { after = asking false (keeping r end); answer = Kept (Some (ask_of false (asking false (keeping r end)))) } else record { after = keeping r end; answer = Kept None })
        by true = record { stands = (active, (omega arith, refl)); moves = further (omega (arith, here_is, more)) refl }
        by false = record { stands = (active, (omega arith, refl)); moves = further (omega (arith, here_is, more)) refl }

    -- a piece that begins where it should
    taken : (end : ℕ) (last : Bool) → r.next ≤ end → (last ≡ false → r.next < end) → After (taking r end last)
    taken end last from more = by_window (nat_lt r.window_end end)
      where
        by_last : (b : Bool) → last ≡ b → After (if b then ending (keeping r end) Okay else going_on (keeping r end))
        by_last true is = ended (keeping r end) Okay refl from
        by_last false is = goes_on end (more is)

        by_size : (b : Bool) → After (if b then ending r OutOfRange else if last then ending (keeping r end) Okay else going_on (keeping r end))
        by_size true = ended r OutOfRange refl (omega arith)
        by_size false = by_last last refl

        by_window : (b : Bool) → After (if b then ending r Internal else if nat_lt MAX_RESOURCE end then ending r OutOfRange else if last then ending (keeping r end) Okay else going_on (keeping r end))
        by_window true = ended r Internal refl (omega arith)
        by_window false = by_size (nat_lt MAX_RESOURCE end)

    comes : (offset size : ℕ) (last : Bool) → After (open_outcome r offset size last)
    comes offset size last = by_old (nat_lt offset r.next) refl
      where
        some_bytes : ((size == 0) && not last) ≡ false → last ≡ false → 1 ≤ size
        some_bytes some is = grind (arith, nat_tests)

        by_place : (b : Bool) → nat_lt r.next offset ≡ b → nat_lt offset r.next ≡ false → ((size == 0) && not last) ≡ false → After (if b then asking_again r else taking r (offset + size) last)
        by_place true is new some = asked
        by_place false is new some =
            let low : r.next ≤ offset = grind (arith, nat_tests) in
            taken (offset + size) last (omega (arith, low)) (λ more. let bytes : 1 ≤ size = some_bytes some more in omega (arith, low, bytes))

        by_empty : (b : Bool) → ((size == 0) && not last) ≡ b → nat_lt offset r.next ≡ false → After (if b then ignoring r else if nat_lt r.next offset then asking_again r else taking r (offset + size) last)
        by_empty true is new = ignored
        by_empty false is new = by_place (nat_lt r.next offset) refl new is

        by_old : (b : Bool) → nat_lt offset r.next ≡ b → After (if b then ignoring r else if (size == 0) && not last then ignoring r else if nat_lt r.next offset then asking_again r else taking r (offset + size) last)
        by_old true is = ignored
        by_old false is = by_empty ((size == 0) && not last) refl is

  piece_comes : (offset size : ℕ) (last : Bool) → After (piece_outcome r offset size last)
  piece_comes offset size last = by (is_open r.phase) refl
    where
      by : (b : Bool) → is_open r.phase ≡ b → After (if b then open_outcome r offset size last else ignoring r)
      by true opens = comes opens offset size last
      by false closed = ignored

-- of a receiver to which a piece has just come
since_active : (r : Receiver) (now : ℕ) (t : Reading) → Hears (reading.Receiving (active_at now r)) t now → Hears (reading.Receiving r) t now
since_active r now t h = record { stands = h.stands; moves = by h.moves }
  where
    by : Moves (reading.Receiving (active_at now r)) t → Moves (reading.Receiving r) t
    by (further more none) = further more none
    by (same progress strikes) = same progress strikes
    by (ended_so status end) = ended_so status end

module _ (d : Download) (now : ℕ) where
  -- where it stays as it is
  stays : (s : Reading) → d.stage ≡ s → Stands s now → Hears s d.stage now
  stays s is stands = record { stands = subst (λ t. Stands t now) (sym is) stands; moves = same (ap progress_at (sym is)) (ap strikes_at (sym is)) }

  is_touched : (w : Wait) → Stands (reading.Asking w) now → Hears (reading.Asking w) (reading.Asking (record w { active = now })) now
  is_touched w stands = record { stands = (omega arith, stands.1); moves = same refl refl }

  asking_hears_so : (w : Wait) (c : Word) → Stands (reading.Asking w) now → Hears (reading.Asking w) (hears_at d (reading.Asking w) c now).after.stage now
  asking_hears_so w (start_ack agreed) stands = by (nat_lt d.asked agreed)
    where
      by : (b : Bool)
          → Hears (reading.Asking w) (if b then saying (at_stage d (reading.Over OutOfRange)) (says (completion OutOfRange)) else receives d agreed (new_receiver agreed d.window d.chunk now)).after.stage now
      by true = record { stands = tt; moves = ended_so OutOfRange refl }
      by false = record { stands = (omega arith, (omega arith, refl)); moves = further (omega arith) refl }
  asking_hears_so w (completion status) stands = record { stands = tt; moves = ended_so status refl }
  asking_hears_so w (start resource offset) stands = is_touched w stands
  asking_hears_so w (confirmation ask) stands = is_touched w stands
  asking_hears_so w (parameters ask) stands = is_touched w stands
  asking_hears_so w (data_comes p) stands = is_touched w stands
  asking_hears_so w completion_ack stands = is_touched w stands

  completed_so : (r : Receiver) (status : Status) → d.stage ≡ reading.Receiving r → Stands (reading.Receiving r) now → (p : Phase) → Hears (reading.Receiving r) (completed d p status).after.stage now
  completed_so r status is stands (Completing own) = stays (reading.Receiving r) is stands
  completed_so r status is stands Receiving = record { stands = tt; moves = ended_so status refl }
  completed_so r status is stands Recovering = record { stands = tt; moves = ended_so status refl }
  completed_so r status is stands Ended = record { stands = tt; moves = ended_so status refl }

  acknowledged_so : (r : Receiver) → d.stage ≡ reading.Receiving r → Stands (reading.Receiving r) now → (p : Phase) → Hears (reading.Receiving r) (acknowledged d p).after.stage now
  acknowledged_so r is stands (Completing own) = record { stands = tt; moves = ended_so own refl }
  acknowledged_so r is stands Receiving = stays (reading.Receiving r) is stands
  acknowledged_so r is stands Recovering = stays (reading.Receiving r) is stands
  acknowledged_so r is stands Ended = stays (reading.Receiving r) is stands

  receiving_hears_so : (r : Receiver) (c : Word) → d.stage ≡ reading.Receiving r → Stands (reading.Receiving r) now → Hears (reading.Receiving r) (hears_at d (reading.Receiving r) c now).after.stage now
  receiving_hears_so r (data_comes p) is stands = since_active r now _ (piece_comes (active_at now r) now (omega arith) stands.1.0 stands.1.1 p.offset (length p.bytes) p.last)
  receiving_hears_so r (completion status) is stands = completed_so r status is stands r.phase
  receiving_hears_so r completion_ack is stands = acknowledged_so r is stands r.phase
  receiving_hears_so r (start resource offset) is stands = stays (reading.Receiving r) is stands
  receiving_hears_so r (start_ack offset) is stands = stays (reading.Receiving r) is stands
  receiving_hears_so r (confirmation ask) is stands = stays (reading.Receiving r) is stands
  receiving_hears_so r (parameters ask) is stands = stays (reading.Receiving r) is stands

  hears_so : (s : Reading) (c : Word) → d.stage ≡ s → Stands s now → Hears s (hears_at d s c now).after.stage now
  hears_so reading.Unasked c is stands = absurd stands
  hears_so (reading.Asking w) c is stands = asking_hears_so w c stands
  hears_so (reading.Receiving r) c is stands = receiving_hears_so r c is stands
  hears_so (reading.Over status) c is stands = stays (reading.Over status) is stands

-- A TURN OF TIME is a strike more, or it gives up
record Waits (s t : Reading) (now : ℕ) : Type 0 where
  stands : Stands t now
  progress : progress_at s ≡ progress_at t
  more : strikes_at t ≡ suc (strikes_at s)
  going : end_at t ≡ None

module _ (d : Download) (now : ℕ) where
  abbrev then_on : ℕ
  then_on = now + TIMEOUT

  abbrev ticks_to : Reading → Reading
  ticks_to s = (ticks_at d s then_on).after.stage

  -- what an open receiver does, and one that has told its end
  open_ticks : (r : Receiver) → is_open r.phase ≡ true → told_at r.phase ≡ DeadlineExceeded → Stands (reading.Receiving r) now
      → (r.resends ≤ 2 → Waits (reading.Receiving r) (ticks_to (reading.Receiving r)) then_on) × (3 ≤ r.resends → end_at (ticks_to (reading.Receiving r)) ≡ Some (told_at r.phase))
  open_ticks r opens none stands = (
    (λ few. subst (λ o. Waits (reading.Receiving r) (receiving_ticks d r o).after.stage then_on) (sym (asks_again r then_on opens few (omega (arith, stands.0))))
        (record { stands = (omega arith, (omega (arith, few), stands.1.1)); progress = refl; more = omega arith; going = refl })),
    (λ many. subst (λ o. end_at (receiving_ticks d r o).after.stage ≡ Some (told_at r.phase)) (sym (asks_no_more r then_on opens many (omega (arith, stands.0)))) (ap Some (sym none))),
  )

  tells : (r : Receiver) (status : Status) (b : Bool) → r.phase ≡ Completing status → nat_lt r.resends 3 ≡ b
      → r.active ≤ now → tick_outcome r then_on ≡ (if b then record { after = record (active_at then_on r) { resends = r.resends + 1 }; answer = ResendEnd status } else giving_up (active_at then_on r) status)
  tells r status b is few active =
      ap (λ b. if b then timeout_outcome (active_at then_on r) r.phase else no_timeout r) (is_past r.active then_on (omega (arith, active)))
      ∙ (ap (timeout_outcome (active_at then_on r)) is
      ∙ ap (λ b. if b then record { after = record (active_at then_on r) { resends = r.resends + 1 }; answer = ResendEnd status } else giving_up (active_at then_on r) status) few)

  told_ticks : (r : Receiver) (status : Status) → r.phase ≡ Completing status → Stands (reading.Receiving r) now
      → (r.resends ≤ 2 → Waits (reading.Receiving r) (ticks_to (reading.Receiving r)) then_on) × (3 ≤ r.resends → end_at (ticks_to (reading.Receiving r)) ≡ Some (told_at r.phase))
  told_ticks r status is stands = (
    (λ few. subst (λ o. Waits (reading.Receiving r) (receiving_ticks d r o).after.stage then_on) (sym (tells r status true is (may_resend r.resends few) stands.0))
        (record { stands = (omega arith, (omega (arith, few), stands.1.1)); progress = refl; more = omega arith; going = refl })),
    (λ many. subst (λ o. end_at (receiving_ticks d r o).after.stage ≡ Some (told_at r.phase)) (sym (tells r status false is (may_not_resend r.resends many) stands.0)) (ap (λ p. Some (told_at p)) (sym is))),
  )

  receiving_ticks_so : (r : Receiver) (p : Phase) → r.phase ≡ p → Stands (reading.Receiving r) now
      → (r.resends ≤ 2 → Waits (reading.Receiving r) (ticks_to (reading.Receiving r)) then_on) × (3 ≤ r.resends → end_at (ticks_to (reading.Receiving r)) ≡ Some (told_at r.phase))
  receiving_ticks_so r Receiving is stands = open_ticks r (ap is_open is) (ap told_at is) stands
  receiving_ticks_so r Recovering is stands = open_ticks r (ap is_open is) (ap told_at is) stands
  receiving_ticks_so r (Completing status) is stands = told_ticks r status is stands
  receiving_ticks_so r Ended is stands = absurd (never (sym (ap is_ended is) ∙ stands.1.1))
    where
      never : true ≡ false → ⊥
      never e = cc

  asking_ticks : (w : Wait) → Stands (reading.Asking w) now
      → (w.resends ≤ 2 → Waits (reading.Asking w) (ticks_to (reading.Asking w)) then_on) × (3 ≤ w.resends → end_at (ticks_to (reading.Asking w)) ≡ Some DeadlineExceeded)
  asking_ticks w stands = (
    (λ few. subst (λ o. Waits (reading.Asking w) o.after.stage then_on) (sym (asked_by true (may_resend w.resends few)))
        (record { stands = (omega arith, omega (arith, few)); progress = refl; more = omega arith; going = refl })),
    (λ many. ap (λ (o : Stepped Download). end_at o.after.stage) (asked_by false (may_not_resend w.resends many))),
  )
    where
      asked_by : (b : Bool) → nat_lt w.resends 3 ≡ b → ticks_at d (reading.Asking w) then_on ≡ (if b then asks d (again w then_on) else stays_put (at_stage d (reading.Over DeadlineExceeded)))
      asked_by b is =
          ap (λ b. if b then asking_timeout d w then_on else stays_put d) (is_past w.active then_on (omega (arith, stands.0)))
          ∙ ap (λ b. if b then asks d (again w then_on) else stays_put (at_stage d (reading.Over DeadlineExceeded))) is

  ticks_so : (s : Reading) → Stands s now → end_at s ≡ None → (strikes_at s ≤ 2 → Waits s (ticks_to s) then_on) × (3 ≤ strikes_at s → end_at (ticks_to s) ≡ Some (status_at s))
  ticks_so reading.Unasked stands going = absurd stands
  ticks_so (reading.Asking w) stands going = asking_ticks w stands
  ticks_so (reading.Receiving r) stands going = receiving_ticks_so r r.phase refl stands
  ticks_so (reading.Over status) stands going = absurd cc

-- THE STEPS OF A PAIR
none_some : (o : Option Status) (s : Status) → o ≡ None → o ≡ Some s → ⊥
none_some None s none some = cc
none_some (Some r) s none some = cc

module _ (service : Service) (loses : ℕ → Bool) where
  abbrev Leads : ℕ → LossyPair Download → LossyPair Download → Type 0
  Leads n w v = LeadsTo service read_rules loses n w v

  abbrev next : LossyPair Download → LossyPair Download
  next w = step service read_rules loses w

  abbrev stage_of : LossyPair Download → Reading
  stage_of w = w.pair.client.stage

  abbrev IsSound : LossyPair Download → Type 0
  IsSound w = Stands (stage_of w) w.now

  data Goes (w v : LossyPair Download) : Type 0 where
    goes_further : progress_at (stage_of w) < progress_at (stage_of v) → strikes_at (stage_of v) ≡ 0 → v.now ≡ w.now → Goes w v
    goes_level : progress_at (stage_of w) ≡ progress_at (stage_of v) → v.now + TIMEOUT * strikes_at (stage_of w) ≡ w.now + TIMEOUT * strikes_at (stage_of v) → Goes w v
    goes_over : (status : Status) → end_at (stage_of v) ≡ Some status → Goes w v

  record Steps (w v : LossyPair Download) : Type 0 where
    sound : IsSound v
    goes : Goes w v

  from_heard : (w v : LossyPair Download) → v.now ≡ w.now → Hears (stage_of w) (stage_of v) w.now → Steps w v
  from_heard w v now h = record { sound = subst (Stands (stage_of v)) (sym now) h.stands; goes = by h.moves }
    where
      by : Moves (stage_of w) (stage_of v) → Goes w v
      by (further more none) = goes_further more none now
      by (same progress strikes) = goes_level progress (omega (arith, now, strikes))
      by (ended_so status end) = goes_over status end

  from_wait : (w v : LossyPair Download) → v.now ≡ w.now + TIMEOUT → Waits (stage_of w) (stage_of v) (w.now + TIMEOUT) → Steps w v
  from_wait w v now h = record { sound = subst (Stands (stage_of v)) (sym now) h.stands; goes = goes_level h.progress (omega (arith, now, h.more)) }

  time_goes : (w : LossyPair Download) → IsSound w → end_at (stage_of w) ≡ None → Steps w (waits_by service read_rules loses w None)
  time_goes w sound going = by (less_or_not (strikes_at (stage_of w)) 3)
    where
      by : (strikes_at (stage_of w) < 3) ⊎ (3 ≤ strikes_at (stage_of w)) → Steps w (waits_by service read_rules loses w None)
      by (inl few) = from_wait w (waits_by service read_rules loses w None) refl ((ticks_so w.pair.client w.now (stage_of w) sound going).0 (omega (arith, few)))
      by (inr many) =
          let end : end_at (stage_of (waits_by service read_rules loses w None)) ≡ Some (status_at (stage_of w)) = (ticks_so w.pair.client w.now (stage_of w) sound going).1 many in
          record { sound = over_stands (stage_of (waits_by service read_rules loses w None)) end; goes = goes_over (status_at (stage_of w)) end }
        where
          over_stands : (t : Reading) → end_at t ≡ Some (status_at (stage_of w)) → Stands t (w.now + TIMEOUT)
          over_stands reading.Unasked end = absurd cc
          over_stands (reading.Asking wait) end = absurd cc
          over_stands (reading.Receiving r) end = absurd cc
          over_stands (reading.Over status) end = tt

  step_goes : (w : LossyPair Download) (ups downs : List Word) → IsSound w → end_at (stage_of w) ≡ None → Steps w (step_by service read_rules loses w ups downs)
  step_goes w (c ∷ rest) downs sound going = record { sound = sound; goes = goes_level refl refl }
  step_goes w [] (c ∷ rest) sound going = from_heard w (step_by service read_rules loses w [] (c ∷ rest)) refl (hears_so w.pair.client w.now (stage_of w) c refl sound)
  step_goes w [] [] sound going = subst (λ o. Steps w (waits_by service read_rules loses w o)) (sym going) (time_goes w sound going)

  goes_so : (w : LossyPair Download) → IsSound w → end_at (stage_of w) ≡ None → Steps w (next w)
  goes_so w sound going = step_goes w w.pair.to_server w.pair.to_client sound going

  -- ways
  going_before : (n : ℕ) (w v : LossyPair Download) → Leads n w v → end_at (stage_of v) ≡ None → end_at (stage_of w) ≡ None
  going_before zero w v is going = subst (λ (u : LossyPair Download). end_at (stage_of u) ≡ None) (sym is) going
  going_before (suc n) w v leads going = leads.0

  join : (n m : ℕ) (a b c : LossyPair Download) → Leads n a b → Leads m b c → (total : ℕ) × Leads total a c
  join zero m a b c first more = (m, subst (λ u. Leads m u c) (sym first) more)
  join (suc n) m a b c first more = (let rest = join n m (next a) b c first.1 more in (suc rest.0, (first.0, rest.1)))

  one_more : (n : ℕ) (a b : LossyPair Download) → Leads n a b → end_at (stage_of b) ≡ None → (total : ℕ) × Leads total a (next b)
  one_more n a b way going = join n 1 a b (next b) way (going, refl)

  -- SINCE WHEN it has come no further
  record Struck (w v : LossyPair Download) : Type 0 where
    sound : IsSound v
    count : ℕ
    mid : LossyPair Download
    way : Leads count w mid
    rest : ℕ
    on : Leads rest mid v
    time : v.now ≡ mid.now + TIMEOUT * strikes_at (stage_of v)
    no_further : progress_at (stage_of mid) ≡ progress_at (stage_of v)

  one_struck : (w u : LossyPair Download) → Struck w u → end_at (stage_of u) ≡ None → end_at (stage_of (next u)) ≡ None → Struck w (next u)
  one_struck w u s going later = by (goes_so u s.sound going)
    where
      by : Steps u (next u) → Struck w (next u)
      by t = by_move t.goes
        where
          by_move : Goes u (next u) → Struck w (next u)
          by_move (goes_further more none now) =
              let before = join s.count s.rest w s.mid u s.way s.on in
              let way = one_more before.0 w u before.1 going in
              record { sound = t.sound; count = way.0; mid = next u; way = way.1; rest = zero; on = refl; time = omega (arith, none); no_further = refl }
          by_move (goes_level progress strikes) =
              let on = one_more s.rest s.mid u s.on going in
              record { sound = t.sound; count = s.count; mid = s.mid; way = s.way; rest = on.0; on = on.1; time = omega (arith, s.time, strikes); no_further = s.no_further ∙ progress }
          by_move (goes_over status end) = absurd (none_some (end_at (stage_of (next u))) status later end)

  along : (n : ℕ) (w u v : LossyPair Download) → Struck w u → Leads n u v → end_at (stage_of v) ≡ None → Struck w v
  along zero w u v s is going = subst (Struck w) is s
  along (suc n) w u v s leads going = along n w (next u) v (one_struck w u s leads.0 (going_before n (next u) v leads.1 going)) leads.1 going

  -- HOW OFTEN it is struck on a way on which it comes no further
  record Since (a v : LossyPair Download) : Type 0 where
    sound : IsSound v
    no_less : progress_at (stage_of a) ≤ progress_at (stage_of v)
    strikes : progress_at (stage_of a) ≡ progress_at (stage_of v) → v.now + TIMEOUT * strikes_at (stage_of a) ≡ a.now + TIMEOUT * strikes_at (stage_of v)

  since : (n : ℕ) (a v : LossyPair Download) → IsSound a → Leads n a v → end_at (stage_of v) ≡ None → Since a v
  since zero a v sound is going = subst (Since a) is (record { sound = sound; no_less = omega arith; strikes = λ none. refl })
  since (suc n) a v sound leads going = by_step (goes_so a sound leads.0) (λ t. since n (next a) v t leads.1 going)
    where
      by_step : Steps a (next a) → (IsSound (next a) → Since (next a) v) → Since a v
      by_step t later = by_move t.goes (later t.sound)
        where
          by_move : Goes a (next a) → Since (next a) v → Since a v
          by_move (goes_further more none now) l = record { sound = l.sound; no_less = omega (arith, more, l.no_less); strikes = λ none. absurd (omega (arith, more, l.no_less, none)) }
          by_move (goes_level progress strikes) l = record {
            sound = l.sound;
            no_less = omega (arith, progress, l.no_less);
            strikes = λ none. (let later = l.strikes (sym progress ∙ none) in omega (arith, strikes, later));
          }
          by_move (goes_over status end) l = absurd (none_some (end_at (stage_of (next a))) status (going_before n (next a) v leads.1 going) end)

  -- WHERE NOTHING IS ON ITS WAY time passes
  still_waits : (v : LossyPair Download) → IsStill v → end_at (stage_of v) ≡ None → next v ≡ waits_by service read_rules loses v None
  still_waits v still going =
      ap (λ ups. step_by service read_rules loses v ups v.pair.to_client) still.to_server
      ∙ (ap (step_by service read_rules loses v []) still.to_client ∙ ap (waits_by service read_rules loses v) going)

  gives_up : (n : ℕ) (w v : LossyPair Download) → IsSound w → strikes_at (stage_of w) ≡ 0 → Leads n w v → end_at (stage_of v) ≡ None → IsStill v → GivesUp service loses w v
  gives_up n w v sound none leads going still = record { ends = ends; only = only }
    where
      struck : Struck w v
      struck = along n w w v (record { sound = sound; count = zero; mid = w; way = refl; rest = zero; on = refl; time = time; no_further = refl }) leads going
        where
          time : w.now ≡ w.now + TIMEOUT * strikes_at (stage_of w)
          time = omega (arith, none)

      after : next v ≡ waits_by service read_rules loses v None
      after = still_waits v still going

      ends : HasWaited service loses w v → read_rules.end_of (next v).pair.client ≡ Some (status_at (stage_of v))
      ends h =
          let first : Since w h.mid = since h.count w h.mid sound h.way (going_before h.rest h.mid v h.on going) in
          let second : Since h.mid v = since h.rest h.mid v first.sound h.on going in
          let strikes = second.strikes h.no_further in
          ap (λ (u : LossyPair Download). read_rules.end_of u.pair.client) after ∙ (ticks_so v.pair.client v.now (stage_of v) struck.sound going).1 (omega (arith, strikes, h.long))

      only : (status : Status) → read_rules.end_of (next v).pair.client ≡ Some status → HasWaited service loses w v
      only status is_over = by (less_or_not (strikes_at (stage_of v)) 3)
        where
          ended : end_at (stage_of (waits_by service read_rules loses v None)) ≡ Some status
          ended = ap (λ (u : LossyPair Download). read_rules.end_of u.pair.client) (sym after) ∙ is_over

          by : (strikes_at (stage_of v) < 3) ⊎ (3 ≤ strikes_at (stage_of v)) → HasWaited service loses w v
          by (inl few) = absurd (none_some (end_at (stage_of (waits_by service read_rules loses v None))) status ((ticks_so v.pair.client v.now (stage_of v) struck.sound going).0 (omega (arith, few))).going ended)
          by (inr many) = record {
            count = struck.count;
            mid = struck.mid;
            way = struck.way;
            rest = struck.rest;
            on = struck.on;
            long = omega (arith, struck.time, many, few_strikes (stage_of v) v.now struck.sound);
            no_further = struck.no_further;
          }

-- IT ENDS AS IT HAS TOLD: it comes no further then, until it ends so
abbrev ToldStill : Status → Reading → Reading → Type 0
ToldStill own s t = (HasTold own t × (progress_at s ≡ progress_at t)) ⊎ (end_at t ≡ Some own)

module _ (d : Download) (now : ℕ) (own : Status) where
  told_stays : (s : Reading) → d.stage ≡ s → HasTold own s → ToldStill own s d.stage
  told_stays s is told = inl (subst (HasTold own) (sym is) told, ap progress_at (sym is))

  told_completed : (r : Receiver) (status : Status) → d.stage ≡ reading.Receiving r → (p : Phase) → p ≡ Completing own → HasTold own (reading.Receiving r)
      → ToldStill own (reading.Receiving r) (completed d p status).after.stage
  told_completed r status is (Completing other) told has = told_stays (reading.Receiving r) is has
  told_completed r status is Receiving told has = absurd cc
  told_completed r status is Recovering told has = absurd cc
  told_completed r status is Ended told has = absurd cc

  told_acknowledged : (r : Receiver) → (p : Phase) → p ≡ Completing own → ToldStill own (reading.Receiving r) (acknowledged d p).after.stage
  told_acknowledged r (Completing other) told = inr (ap Some (same_status other own told))
    where
      same_status : (a b : Status) → Completing a ≡ Completing b → a ≡ b
      same_status a b e = cc
  told_acknowledged r Receiving told = absurd cc
  told_acknowledged r Recovering told = absurd cc
  told_acknowledged r Ended told = absurd cc

  told_piece : (r : Receiver) (offset size : ℕ) (last : Bool) → r.phase ≡ Completing own → ToldStill own (reading.Receiving r) (reading.Receiving (piece_outcome r offset size last).after)
  told_piece r offset size last told =
      subst (λ (b : Bool). ToldStill own (reading.Receiving r) (reading.Receiving (if b then open_outcome r offset size last else ignoring r).after)) (sym (ap is_open told)) (inl (told, refl))

  told_hears : (s : Reading) (c : Word) → d.stage ≡ s → HasTold own s → ToldStill own s (hears_at d s c now).after.stage
  told_hears reading.Unasked c is told = absurd told
  told_hears (reading.Asking w) c is told = absurd told
  told_hears (reading.Over status) c is told = absurd told
  told_hears (reading.Receiving r) (data_comes p) is told = told_piece (active_at now r) p.offset (length p.bytes) p.last told
  told_hears (reading.Receiving r) (completion status) is told = told_completed r status is r.phase told told
  told_hears (reading.Receiving r) completion_ack is told = told_acknowledged r r.phase told
  told_hears (reading.Receiving r) (start resource offset) is told = told_stays (reading.Receiving r) is told
  told_hears (reading.Receiving r) (start_ack offset) is told = told_stays (reading.Receiving r) is told
  told_hears (reading.Receiving r) (confirmation ask) is told = told_stays (reading.Receiving r) is told
  told_hears (reading.Receiving r) (parameters ask) is told = told_stays (reading.Receiving r) is told

  told_late : (s : Reading) → Stands s now → HasTold own s → ToldStill own s (ticks_at d s (now + TIMEOUT)).after.stage
  told_late reading.Unasked stands told = absurd told
  told_late (reading.Asking w) stands told = absurd told
  told_late (reading.Over status) stands told = absurd told
  told_late (reading.Receiving r) stands told = by (nat_lt r.resends 3) refl
    where
      by : (b : Bool) → nat_lt r.resends 3 ≡ b → ToldStill own (reading.Receiving r) (receiving_ticks d r (tick_outcome r (now + TIMEOUT))).after.stage
      by true few = subst (λ o. ToldStill own (reading.Receiving r) (receiving_ticks d r o).after.stage) (sym (tells d now r own true told few stands.0)) (inl (told, refl))
      by false many = subst (λ o. ToldStill own (reading.Receiving r) (receiving_ticks d r o).after.stage) (sym (tells d now r own false told many stands.0)) (inr refl)

told_going : (own : Status) (s : Reading) → HasTold own s → end_at s ≡ None
told_going own reading.Unasked told = absurd told
told_going own (reading.Asking w) told = absurd told
told_going own (reading.Receiving r) told = refl
told_going own (reading.Over status) told = absurd told

module _ (service : Service) (loses : ℕ → Bool) (own : Status) where
  abbrev Way : ℕ → LossyPair Download → LossyPair Download → Type 0
  Way n w v = LeadsTo service read_rules loses n w v

  abbrev onward : LossyPair Download → LossyPair Download
  onward w = step service read_rules loses w

  waits_told : (w : LossyPair Download) (o : Option Status) → Stands w.pair.client.stage w.now → HasTold own w.pair.client.stage
      → ToldStill own w.pair.client.stage (waits_by service read_rules loses w o).pair.client.stage
  waits_told w None sound told = told_late w.pair.client w.now own w.pair.client.stage sound told
  waits_told w (Some status) sound told = inl (told, refl)

  step_told : (w : LossyPair Download) (ups downs : List Word) → Stands w.pair.client.stage w.now → HasTold own w.pair.client.stage
      → ToldStill own w.pair.client.stage (step_by service read_rules loses w ups downs).pair.client.stage
  step_told w (c ∷ rest) downs sound told = inl (told, refl)
  step_told w [] (c ∷ rest) sound told = told_hears w.pair.client w.now own w.pair.client.stage c refl told
  step_told w [] [] sound told = waits_told w (read_rules.end_of w.pair.client) sound told

  waits_soon : (w : LossyPair Download) (o : Option Status) → (waits_by service read_rules loses w o).now ≤ w.now + TIMEOUT
  waits_soon w None = omega arith
  waits_soon w (Some status) = omega arith

  step_soon : (w : LossyPair Download) (ups downs : List Word) → (step_by service read_rules loses w ups downs).now ≤ w.now + TIMEOUT
  step_soon w (c ∷ rest) downs = omega arith
  step_soon w [] (c ∷ rest) = omega arith
  step_soon w [] [] = waits_soon w (read_rules.end_of w.pair.client)

  -- on the way to an end
  record EndsSo (v last : LossyPair Download) : Type 0 where
    ends : read_rules.end_of last.pair.client ≡ Some own
    in_time : last.now + TIMEOUT * strikes_at v.pair.client.stage ≤ v.now + TIMEOUT * 4

  ends_so : (n : ℕ) (v last : LossyPair Download) (status : Status) → Stands v.pair.client.stage v.now → HasTold own v.pair.client.stage → Way n v last → read_rules.end_of last.pair.client ≡ Some status → EndsSo v last
  ends_so zero v last status sound told is over =
      absurd (none_some (end_at v.pair.client.stage) status (told_going own v.pair.client.stage told) (ap (λ (u : LossyPair Download). read_rules.end_of u.pair.client) is ∙ over))
  ends_so (suc n) v last status sound told leads over =
      by (step_told v v.pair.to_server v.pair.to_client sound told) (goes_so service loses v sound leads.0) (λ stands still. ends_so n (onward v) last status stands still leads.1 over)
    where
      few : strikes_at v.pair.client.stage ≤ 3
      few = few_strikes v.pair.client.stage v.now sound

      soon : (onward v).now ≤ v.now + TIMEOUT
      soon = step_soon v v.pair.to_server v.pair.to_client

      at_end : end_at (onward v).pair.client.stage ≡ Some own → (m : ℕ) → Way m (onward v) last → EndsSo v last
      at_end end zero is = subst (EndsSo v) is (record { ends = end; in_time = omega (arith, few, soon) })
      at_end end (suc m) way = absurd (none_some (end_at (onward v).pair.client.stage) own way.0 end)

      by : ToldStill own v.pair.client.stage (onward v).pair.client.stage → Steps service loses v (onward v) → (Stands (onward v).pair.client.stage (onward v).now → HasTold own (onward v).pair.client.stage → EndsSo (onward v) last) → EndsSo v last
      by (inr end) t later = at_end end n leads.1
      by (inl still) t later = by_move t.goes
        where
          by_move : Goes service loses v (onward v) → EndsSo v last
          by_move (goes_further more none now) = absurd (omega (arith, more, still.1))
          by_move (goes_level progress strikes) = (let on : EndsSo (onward v) last = later t.sound still.0 in record { ends = on.ends; in_time = omega (arith, on.in_time, strikes) })
          by_move (goes_over status end) = absurd (none_some (end_at (onward v).pair.client.stage) status (told_going own (onward v).pair.client.stage still.0) end)

  -- what hasn't ended is on the way to the end
  on_way : (n m : ℕ) (w v last : LossyPair Download) (status : Status) → Way n w v → Way m w last → end_at v.pair.client.stage ≡ None → read_rules.end_of last.pair.client ≡ Some status → (rest : ℕ) × Way rest v last
  on_way zero m w v last status first second going over = (m, subst (λ u. Way m u last) first second)
  on_way (suc n) zero w v last status first second going over =
      absurd (none_some (end_at w.pair.client.stage) status first.0 (ap (λ (u : LossyPair Download). read_rules.end_of u.pair.client) second ∙ over))
  on_way (suc n) (suc m) w v last status first second going over = on_way n m (onward w) v last status first.1 second.1 going over

pub reads_give_up : ReadsGiveUp
reads_give_up service loses now time resource offset window chunk count v leads going still =
    gives_up service loses count (begun service read_rules loses now time (new_download resource offset window chunk)) v (omega arith, omega arith) refl leads going still

ends_as_told : (service : Service) (loses : ℕ → Bool) (count many : ℕ) (w v last : LossyPair Download) (status over : Status) → Stands w.pair.client.stage w.now → LeadsTo service read_rules loses count w v
    → HasTold status v.pair.client.stage → LeadsTo service read_rules loses many w last → read_rules.end_of last.pair.client ≡ Some over → EndsAsTold service loses status v
ends_as_told service loses count many w v last status over sound way told all is =
    let going : end_at v.pair.client.stage ≡ None = told_going status v.pair.client.stage told in
    let rest : (rest : ℕ) × LeadsTo service read_rules loses rest v last = on_way service loses status count many w v last over way all going is in
    let so : EndsSo service loses status v last =
    ends_so service loses status rest.0 v last over (since service loses count w v sound way going).sound told rest.1 is in
    record { many = rest.0; last = last; way = rest.1; ends = so.ends; in_time = omega (arith, so.in_time) }

pub reads_end_so : ReadsEndSo
reads_end_so service loses now time resource offset window chunk bytes side listed tuning size within count v status way told =
    let w : LossyPair Download = begun service read_rules loses now time (new_download resource offset window chunk) in
    let e : EndsInTime service read_rules loses (LosesConfirmation service read_rules loses w) now (read_turns (need (length bytes) offset chunk)) 0 w =
    reads_end_in_time service loses now time resource offset window chunk bytes side listed tuning size within in
    let ends : (over : Status) → read_rules.end_of e.last.pair.client ≡ Some over → EndsAsTold service loses status v =
    λ over is. ends_as_told service loses count e.many w v e.last status over (omega arith, omega arith) way told e.way is in
    by_end e.ending ends
  where
    by_end : {Excuse : Type 0} {since turns : ℕ} {last : LossyPair Download} → Ending service read_rules loses Excuse since turns last
        → ((over : Status) → read_rules.end_of last.pair.client ≡ Some over → EndsAsTold service loses status v) → EndsAsTold service loses status v
    by_end (well is in_time lossy) ends = ends Okay is
    by_end (late is lossy) ends = ends DeadlineExceeded is
    by_end (excused is lost) ends = ends DeadlineExceeded is
