-- A read that the service can't serve is refused, where one of the first four rounds is clean.
use Rattle.std.proofs.Common.{◌≡◌, ℕ, zero, suc, ◌+◌, ◌-◌, ◌*◌, ◌≤◌, inl, inr, Bool, true, false, if◌then◌else◌, List, [], ◌∷◌, ◌++◌, length, Option, Some, None, Result, Err, refl, sym, ap, subst, arith}
use Rattle.link_io.specs.declared.Shelf.{Shelf}
use Rattle.rpc_ids.specs.declared.Status.{Status}
use Rattle.transfer_base.specs.declared.limits.TheConstants.{TIMEOUT}
use Rattle.transfer_words.specs.Word.{Word, start, completion, completion_ack}
use Rattle.transfer_words.specs.Saying.{Stepped}
use Rattle.transfer_resume.specs.declared.stage.Stage.{Stage}
use Rattle.transfer_resume.specs.declared.stage.Stage.TheVariants as stage
use Rattle.transfer_resume.specs.declared.side.Side.TheVariants.{Read}
use Rattle.transfer_resume.specs.Opening.{offer_of, opened_read}
use Rattle.transfer_resume.specs.Session.{Service}
use Rattle.transfer_client.specs.declared.stages.Reading.TheVariants as reading
use Rattle.transfer_client.specs.declared.stages.Wait.{Wait}
use Rattle.transfer_client.specs.Read.{Download, at_stage, new_download, read_rules}
use Rattle.transfer_client.specs.Wait as waiting
use Rattle.transfer_laws.specs.pairs.Pair.{TakesInSilence, words_of}
use Rattle.transfer_laws.specs.pairs.EndsWell.{read_refused}
use Rattle.transfer_laws.specs.losses.Drops.{Lost, LossyPair, at_time, begun, kept, lost_at, missing, session_ticks, step, time_passed}
use Rattle.transfer_laws.specs.losses.Survives.{Ends, IsSettled, KeepsARoundClean, RefusalsSurvive}
use Rattle.transfer_laws.proofs.losses.Asking.{asks_late, state}
use Rattle.transfer_laws.proofs.losses.Rounds.{IsLossy, Passed, at_most, each_lossy, is_soon, just_lost, next_round, none_passed, one_left, one_lost}
use Rattle.transfer_laws.proofs.losses.Losing.{one_word}
use Rattle.transfer_laws.proofs.losses.Openings.{Opens, Spot, back, coming, lost_some, nowhere, opens_lost, opens_on, steps_of}

module _ (shelf : Shelf) (service_window service_chunk begin : ℕ) (loses : ℕ → Bool) (since resource offset window chunk : ℕ) (status : Status) (refused : offer_of shelf resource offset ≡ Err status) where
  abbrev k : Service
  k = record { side = Read; shelf = shelf; window = service_window; chunk = service_chunk; time = begin }

  abbrev wanted : Download
  wanted = new_download resource offset window chunk

  abbrev wanting : Wait → Download
  wanting w = at_stage wanted (reading.Asking w)

  abbrev finished : Download
  finished = read_refused wanted status

  abbrev Arrives : LossyPair Download → Type 0
  Arrives w = KeepsARoundClean k read_rules loses since w → Ends k read_rules loses IsSettled since w finished

  one : (w : LossyPair Download) → read_rules.end_of w.pair.client ≡ None → Arrives (step k read_rules loses w) → Arrives w
  one w going a fair =
      let e = a (λ count last way. fair (suc count) last (going, way)) in
      record { many = suc e.many; last = e.last; way = (going, e.way); client = e.client; to_client = e.to_client; session = e.session; server = e.server; stood = e.stood; soon = e.soon; lossy = e.lossy }

  -- THE SESSION: it isn't there, or it has told the refusal, and so it has ended
  abbrev session_by : Bool → Option Stage
  session_by b = if b then Some (stage.Ended status) else None

  settled : (b : Bool) → IsSettled (session_by b)
  settled true = tt
  settled false = tt

  -- it takes the acknowledgement in silence
  takes_ack : (b : Bool) (time : ℕ) → TakesInSilence (at_time k time) (session_by b) (completion_ack ∷ []) (session_by b)
  takes_ack true time = (refl, refl)
  takes_ack false time = (refl, refl)

  -- and makes nothing of the time
  ticks_quietly : (b : Bool) (now : ℕ) → session_ticks Read now (session_by b) ≡ record { after = session_by b; sayings = [] }
  ticks_quietly true now = refl
  ticks_quietly false now = refl

  -- THE END: the client knows the refusal, and these words of it are on their way
  over : (b : Bool) (up : List Word) (times m : ℕ) (lost : List Lost) (now time : ℕ) → TakesInSilence (at_time k time) (session_by b) up (session_by b) → Passed since times lost now
      → Arrives (state (session_by b) finished up [] m lost now time)
  over b up times m lost now time takes passed fair = record {
    many = 0;
    last = state (session_by b) finished up [] m lost now time;
    way = refl;
    client = refl;
    to_client = refl;
    session = session_by b;
    server = takes;
    stood = settled b;
    soon = is_soon (fair 0 _ refl) passed;
    lossy = each_lossy passed;
  }

  -- THE CLIENT ASKS: its START is on its way, or the refusal is
  abbrev up_of : Spot → List Word
  up_of nowhere = []
  up_of coming = start resource offset ∷ []
  up_of back = []

  abbrev down_of : Spot → List Word
  down_of nowhere = []
  down_of coming = []
  down_of back = completion status ∷ []

  abbrev asking_pair : Bool → Wait → Spot → ℕ → List Lost → ℕ → ℕ → LossyPair Download
  asking_pair b w spot m lost now time = state (session_by b) (wanting w) (up_of spot) (down_of spot) m lost now time

  abbrev IsRefused : ℕ → Type 0
  IsRefused fuel =
      (b : Bool) (w : Wait) (spot : Spot) (times m : ℕ) (lost : List Lost) (now time : ℕ) → Opens since times w 0 spot lost now → 100 * (4 - times) + steps_of spot ≤ fuel → Arrives (asking_pair b w spot m lost now time)

  -- the service has told the refusal
  told : (fuel : ℕ) → IsRefused fuel → (w : Wait) (times m : ℕ) (lost : List Lost) (now time : ℕ) → Opens since times w 0 coming lost now → 100 * (4 - times) + 2 ≤ suc fuel
      → Arrives (state (session_by true) (wanting w) [] (kept loses m (completion status ∷ [])) (m + 1) (missing loses now m (completion status ∷ []) ++ lost) now time)
  told fuel later w times m lost now time f budget =
      one_word loses now (λ goes lost'. Arrives (state (session_by true) (wanting w) [] goes (m + 1) (lost' ++ lost) now time)) (completion status) m
      (later true w nowhere times (m + 1) (lost_at now (completion status) ∷ lost) now time
      (record { resends = f.resends; timeouts_few = f.timeouts_few; heard = tt; active = f.active; passed = one_lost f.passed; fresh = inl (just_lost f.passed) }) (omega (arith, budget)))
      (later true w back times (m + 1) lost now time
      (record { resends = f.resends; timeouts_few = f.timeouts_few; heard = refl; active = f.active; passed = f.passed; fresh = inr tt }) (omega (arith, budget)))

  -- as it does of each START, of a session that isn't there and of one that is
  abbrev opened_by : Wait → ℕ → List Lost → ℕ → ℕ → Result (List ℕ) Status → LossyPair Download
  opened_by w m lost now time o =
      let t : Stepped Stage = opened_read time resource offset o in
      state (Some t.after) (wanting w) [] (kept loses m (words_of t.sayings)) (m + length (words_of t.sayings)) (missing loses now m (words_of t.sayings) ++ lost) now time

  started : (fuel : ℕ) → IsRefused fuel → (b : Bool) (w : Wait) (times m : ℕ) (lost : List Lost) (now time : ℕ) → Opens since times w 0 coming lost now → 100 * (4 - times) + 2 ≤ suc fuel
      → Arrives (asking_pair b w coming m lost now time)
  started fuel later true w times m lost now time f budget = one (asking_pair true w coming m lost now time) refl (told fuel later w times m lost now time f budget)
  started fuel later false w times m lost now time f budget =
      one (asking_pair false w coming m lost now time) refl (subst (λ o. Arrives (opened_by w m lost now time o)) (sym refused) (told fuel later w times m lost now time f budget))

  -- the client hears it, and says so
  heard : (b : Bool) (w : Wait) (times m : ℕ) (lost : List Lost) (now time : ℕ) → Passed since times lost now → Arrives (asking_pair b w back m lost now time)
  heard b w times m lost now time passed =
      one (asking_pair b w back m lost now time) refl
      (one_word loses now (λ goes lost'. Arrives (state (session_by b) finished goes [] (m + 1) (lost' ++ lost) now time)) completion_ack m
      (over b [] times (m + 1) (lost_at now completion_ack ∷ lost) now time refl (one_lost passed)) (over b (completion_ack ∷ []) times (m + 1) lost now time (takes_ack b time) passed))

  asked_late : (fuel : ℕ) → IsRefused fuel → (b : Bool) (w : Wait) (times m : ℕ) (lost : List Lost) (now time : ℕ) → Opens since times w 0 nowhere lost now → 100 * (4 - times) + 0 ≤ suc fuel
      → Arrives (asking_pair b w nowhere m lost now time)
  asked_late fuel later b w times m lost now time f budget fair =
      let lossy : IsLossy times lost now = lost_some (IsLossy times lost now) f.fresh in
      let few : times ≤ 2 = one_left (fair 0 _ refl) f.passed lossy in
      let next : Passed since (suc times) lost (now + TIMEOUT) = next_round f.passed lossy in
      let late : ℕ = now + TIMEOUT in
      let v : LossyPair Download = asking_pair b w nowhere m lost now time in
      one v refl
      (subst (λ s. Arrives (time_passed loses v late (read_rules.ticks (wanting w) late) s)) (sym (ticks_quietly b late))
      (asks_late loses wanted w Arrives (session_by b) (session_by b) m lost now time (omega (arith, f.resends, few)) f.active
      (later b (waiting.again w late) nowhere (suc times) (m + 1 + 0) (lost_at late (start resource offset) ∷ lost) late late
      (opens_lost since times w 0 0 lost now lossy (omega arith) (start resource offset) f) (omega (arith, budget, few)))
      (later b (waiting.again w late) coming (suc times) (m + 1 + 0) lost late late (opens_on since times w 0 0 lost now lossy (omega arith) f) (omega (arith, budget, few)))))
      fair

  refused_step : (fuel : ℕ) → IsRefused fuel → IsRefused (suc fuel)
  refused_step fuel later b w nowhere times m lost now time f budget = asked_late fuel later b w times m lost now time f budget
  refused_step fuel later b w coming times m lost now time f budget = started fuel later b w times m lost now time f budget
  refused_step fuel later b w back times m lost now time f budget = heard b w times m lost now time f.passed

  is_refused : (fuel : ℕ) → IsRefused fuel
  is_refused zero = λ b w spot times m lost now time f budget fair. absurd (omega (arith, budget, at_most (fair 0 _ refl) f.passed))
  is_refused (suc fuel) = refused_step fuel (is_refused fuel)

  survives : (time : ℕ) → Arrives (begun k read_rules loses since time wanted)
  survives time =
      one_word loses since (λ goes lost. Arrives (state None (wanting (waiting.new_wait since)) goes [] 1 (lost ++ []) since time)) (start resource offset) 0
      (is_refused 402 false (waiting.new_wait since) nowhere 0 1 (lost_at since (start resource offset) ∷ []) since time
      (record { resends = omega arith; timeouts_few = omega arith; heard = tt; active = omega arith; passed = one_lost (none_passed since); fresh = inl (just_lost (none_passed since)) }) (omega arith))
      (is_refused 402 false (waiting.new_wait since) coming 0 1 [] since time
      (record { resends = omega arith; timeouts_few = omega arith; heard = tt; active = omega arith; passed = none_passed since; fresh = inr tt }) (omega arith))

pub refusals_survive : RefusalsSurvive
refusals_survive service loses now time resource offset window chunk status side refused =
    let d : Download = new_download resource offset window chunk in
    subst (λ s. KeepsARoundClean s read_rules loses now (begun s read_rules loses now time d) → Ends s read_rules loses IsSettled now (begun s read_rules loses now time d) (read_refused d status))
    (ap (λ z. record { side = z; shelf = service.shelf; window = service.window; chunk = service.chunk; time = service.time }) (sym side))
    (survives service.shelf service.window service.chunk service.time loses now resource offset window chunk status refused time)
