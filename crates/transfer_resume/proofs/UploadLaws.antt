-- Whatever comes to a call of Write, each of its sessions is an upload.
use Rattle.std.proofs.Common.{◌≡◌, ℕ, ◌==◌, ◌&&◌, nat_lt, Bool, true, false, if◌then◌else◌, List, [], ◌∷◌, ◌++◌, map, flat_map, Option, Some, None, refl, sym, ap, ◌∙◌, subst, inl, unwrap_or}
use Rattle.std.proofs.lemmas.Bool.{eqb-true}
use Rattle.std.proofs.lemmas.List.{append_assoc}
use Rattle.transfer_base.specs.declared.Piece.{Piece}
use Rattle.transfer_chunk.specs.declared.ChunkType.{ChunkType}
use Rattle.transfer_chunk.specs.declared.ChunkType.TheVariants.{Data, Start, ParametersRetransmit, ParametersContinue, Completion, CompletionAck, StartAck, StartAckConfirmation}
use Rattle.transfer_chunk.specs.Chunk.{Chunk}
use Rattle.transfer_chunk.specs.ChunkTypes.{type_of}
use Rattle.transfer_receiver.specs.declared.phase.Phase.{Phase}
use Rattle.transfer_receiver.specs.declared.phase.Phase.TheVariants as phase
use Rattle.rpc_ids.specs.declared.Status.TheVariants.{Unimplemented}
use Rattle.transfer_words.specs.Word.{Word, completion}
use Rattle.transfer_words.specs.Spoken.{said_by, piece_in}
use Rattle.transfer_words.specs.Saying.{Saying, Stepped, says}
use Rattle.transfer_resume.specs.declared.side.Side.{Side}
use Rattle.transfer_resume.specs.declared.side.Side.TheVariants.{Write}
use Rattle.transfer_resume.specs.declared.stage.Stage.{Stage}
use Rattle.transfer_resume.specs.declared.stage.Stage.TheVariants as stage
use Rattle.transfer_resume.specs.Session.{Row}
use Rattle.transfer_resume.specs.Hears.{session_hears}
use Rattle.transfer_resume.specs.Ticks.{stage_ticks, stage_stops}
use Rattle.transfer_resume.specs.Alone.{moved_by}
use Rattle.transfer_resume.specs.Book.{Book, BookStep, Outgoing, new_book, has_room, in_session, stage_of, replaced, with_new, placed, word_step, told_id, wanted, start_step, named, typed_step, chunk_step, ignoring, row_by, row_says}
use Rattle.transfer_resume.specs.Uploads.{Comes, chunk_comes, time_comes, call_ends, step_at, outs_over, with_deed, deeds_of, is_data, is_of, with_piece, came, goes_on, AllAreUploads}
use Rattle.transfer_resume.proofs.AloneLaws.{stays_there}
use Rattle.transfer_resume.proofs.RowLemmas.{some_none, same_id, not_other, placed_own, placed_other, new_other, rows_moved}
use Rattle.transfer_resume.proofs.UploadClaims.{Owes, PhaseOwes, with_deeds, with_word, word_claim, tick_claim, end_claim}

-- What goes out in one session is of no other.

deeds_own : (id : ℕ) (sayings : List Saying) (outs : List Outgoing) → deeds_of id (in_session id sayings ++ outs) ≡ with_deeds sayings (deeds_of id outs)
deeds_own id [] outs = refl
deeds_own id (s ∷ sayings) outs = rw (same_id id) (ap (with_deed s) (deeds_own id sayings outs))

deeds_other : (k id : ℕ) (sayings : List Saying) (outs : List Outgoing) → (k == id) ≡ false → deeds_of id (in_session k sayings ++ outs) ≡ deeds_of id outs
deeds_other k id [] outs other = refl
deeds_other k id (s ∷ sayings) outs other = rw other (deeds_other k id sayings outs other)

word_by : (w : Word) (ds : List Saying) (b : Bool) → (if b then with_deed (says w) ds else ds) ≡ ds
word_by w ds true = refl
word_by w ds false = refl

-- a word is no store action
no_deed : (k id : ℕ) (w : Word) (outs : List Outgoing) → deeds_of id (in_session k (says w ∷ []) ++ outs) ≡ deeds_of id outs
no_deed k id w outs = word_by w (deeds_of id outs) (k == id)

-- Rows of which no two have one id.

abbrev Distinct : List Row → Type 0
Distinct [] = Unit {0}
Distinct (r ∷ rows) = (stage_of r.id rows ≡ None) × Distinct rows

none_replaced : (k id : ℕ) (new : Stage) (rows : List Row) → stage_of k rows ≡ None → stage_of k (replaced id new rows) ≡ None
none_replaced k id new [] none = refl
none_replaced k id new (r ∷ rows) none = by_row (r.id == id) refl (r.id == k) refl none (λ e. none_replaced k id new rows e)
  where
    by_row : (b : Bool) → (r.id == id) ≡ b → (c : Bool) → (r.id == k) ≡ c → (if c then Some r.stage else stage_of k rows) ≡ None →
        (stage_of k rows ≡ None → stage_of k (replaced id new rows) ≡ None) →
        stage_of k (if b then record { id = id; stage = new } ∷ rows else r ∷ replaced id new rows) ≡ None
    by_row b e true f t rest = absurd (some_none r.stage t)
    by_row true e false f t rest = rw (other e f) t
      where
        other : (r.id == id) ≡ true → (r.id == k) ≡ false → (id == k) ≡ false
        other x y = rw (sym (eqb-true r.id id x)) y
    by_row false e false f t rest = rw f (rest t)

distinct_replaced : (id : ℕ) (new : Stage) (rows : List Row) → Distinct rows → Distinct (replaced id new rows)
distinct_replaced id new [] d = tt
distinct_replaced id new (r ∷ rows) d = by_row (r.id == id) refl (distinct_replaced id new rows d.1)
  where
    by_row : (b : Bool) → (r.id == id) ≡ b → Distinct (replaced id new rows) → Distinct (if b then record { id = id; stage = new } ∷ rows else r ∷ replaced id new rows)
    by_row true e rest = (subst (λ x. stage_of x rows ≡ None) (eqb-true r.id id e) d.0, d.1)
    by_row false e rest = (none_replaced r.id id new rows d.0, rest)

distinct_new : (id : ℕ) (new : Stage) (rows : List Row) → stage_of id rows ≡ None → Distinct rows → Distinct (with_new id new rows)
distinct_new id new [] none d = (refl, tt)
distinct_new id new (r ∷ rows) none d = by_row (r.id == id) refl none (nat_lt id r.id) (λ e. distinct_new id new rows e d.1)
  where
    by_row : (b : Bool) → (r.id == id) ≡ b → (if b then Some r.stage else stage_of id rows) ≡ None → (front : Bool) →
        (stage_of id rows ≡ None → Distinct (with_new id new rows)) →
        Distinct (if front then record { id = id; stage = new } ∷ r ∷ rows else r ∷ with_new id new rows)
    by_row true e t front rest = absurd (some_none r.stage t)
    by_row false e t true rest = (rw e t, d)
    by_row false e t false rest = (new_other id r.id new rows e ∙ d.0, rest t)

distinct_placed : (id : ℕ) (before after : Option Stage) (rows : List Row) → stage_of id rows ≡ before → Distinct rows → Distinct (placed id before after rows)
distinct_placed id None None rows there d = d
distinct_placed id (Some old) None rows there d = d
distinct_placed id None (Some new) rows there d = distinct_new id new rows there d
distinct_placed id (Some old) (Some new) rows there d = distinct_replaced id new rows d

distinct_moved : (f : Stage → Stepped Stage) (rows : List Row) → Distinct rows → Distinct (map (row_by f) rows)
distinct_moved f [] d = tt
distinct_moved f (r ∷ rows) d = (rows_moved f r.id rows ∙ ap (moved_by f) d.0, distinct_moved f rows d.1)

-- A word.

module _ (b : Book) (is : b.service.side ≡ Write) (id : ℕ) (ps : List Piece) (rest : List Outgoing) where
  own : (w : Word) → Owes ps (deeds_of id rest) (stage_of id (word_step b id w).after.rows) →
      Owes (with_word w ps) (deeds_of id ((word_step b id w).outs ++ rest)) (stage_of id b.rows)
  own w h =
      let step = session_hears b.service (has_room b) (stage_of id b.rows) w in
      let at = placed_own id (stage_of id b.rows) step.after b.rows refl (stays_there b.service (has_room b) (stage_of id b.rows) w) in
      let there : Owes ps (deeds_of id rest) step.after = subst (Owes ps (deeds_of id rest)) at h in
      subst (λ ds. Owes (with_word w ps) ds (stage_of id b.rows)) (sym (deeds_own id step.sayings rest))
      (word_claim b.service is (has_room b) (stage_of id b.rows) w ps (deeds_of id rest) there)

  word_by_id : (k : ℕ) (w : Word) (test : Bool) → (k == id) ≡ test → Owes ps (deeds_of id rest) (stage_of id (word_step b k w).after.rows) →
      Owes (if test then with_word w ps else ps) (deeds_of id ((word_step b k w).outs ++ rest)) (stage_of id b.rows)
  word_by_id k w true e h =
      subst (λ x. Owes ps (deeds_of id rest) (stage_of id (word_step b x w).after.rows) → Owes (with_word w ps) (deeds_of id ((word_step b x w).outs ++ rest)) (stage_of id b.rows))
      (sym (eqb-true k id e)) (own w) h
  word_by_id k w false e h =
      let step = session_hears b.service (has_room b) (stage_of k b.rows) w in
      subst (λ ds. Owes ps ds (stage_of id b.rows)) (sym (deeds_other k id step.sayings rest e))
      (subst (Owes ps (deeds_of id rest)) (placed_other k id (stage_of k b.rows) step.after b.rows (not_other k id e)) h)

  either : (ds : List Saying) (s : Option Stage) (test : Bool) → Owes (if test then ps else ps) ds s → Owes ps ds s
  either ds s true h = h
  either ds s false h = h

  -- a word that is no data
  plain : (k : ℕ) (w : Word) → ((test : Bool) → (if test then with_word w ps else ps) ≡ ps) → Owes ps (deeds_of id rest) (stage_of id (word_step b k w).after.rows) →
      Owes ps (deeds_of id ((word_step b k w).outs ++ rest)) (stage_of id b.rows)
  plain k w same h = subst (λ qs. Owes qs (deeds_of id ((word_step b k w).outs ++ rest)) (stage_of id b.rows)) (same (k == id)) (word_by_id k w (k == id) refl h)

  -- What a chunk owes: such a step, with these pieces in front.
  abbrev StepOwes : (List Piece) → BookStep → Type 0
  StepOwes qs t = Owes ps (deeds_of id rest) (stage_of id t.after.rows) → Owes qs (deeds_of id (t.outs ++ rest)) (stage_of id b.rows)

  same_by : (test : Bool) → (if test then ps else ps) ≡ ps
  same_by true = refl
  same_by false = refl

  wanted_by : (c : Chunk) (k : ℕ) (test : Bool) → StepOwes ps (if test then ignoring b else word_step b k (said_by Start c))
  wanted_by c k true h = h
  wanted_by c k false h = plain k (said_by Start c) same_by h

  wanted_owes : (c : Chunk) (k : Option ℕ) → StepOwes ps (wanted b c k)
  wanted_owes c None h = h
  wanted_owes c (Some k) h = wanted_by c k (k == 0) h

  start_by : (c : Chunk) (test : Bool) → nat_lt (unwrap_or c.version 0) 2 ≡ test → StepOwes ps (start_step b c)
  start_by c true e = rw e (λ h. subst (λ ds. Owes ps ds (stage_of id b.rows)) (sym (no_deed (told_id c) id (completion Unimplemented) rest)) h)
  start_by c false e = rw e (wanted_owes c c.desired)

  data_owes : (c : Chunk) (k : Option ℕ) → StepOwes (with_piece (is_of id k) (piece_in c) ps) (named b Data c k)
  data_owes c None h = h
  data_owes c (Some k) h = word_by_id k (said_by Data c) (k == id) refl h

  named_owes : (type : ChunkType) (c : Chunk) (k : Option ℕ) → ((test : Bool) → (if test then with_word (said_by type c) ps else ps) ≡ ps) → StepOwes ps (named b type c k)
  named_owes type c None same h = h
  named_owes type c (Some k) same h = plain k (said_by type c) same h

  typed_owes : (c : Chunk) (type : Option ChunkType) → StepOwes (with_piece (is_data type && is_of id c.session) (piece_in c) ps) (typed_step b c type)
  typed_owes c None h = h
  typed_owes c (Some Data) h = data_owes c c.session h
  typed_owes c (Some Start) h = start_by c (nat_lt (unwrap_or c.version 0) 2) refl h
  typed_owes c (Some ParametersRetransmit) h = named_owes ParametersRetransmit c c.session same_by h
  typed_owes c (Some ParametersContinue) h = named_owes ParametersContinue c c.session same_by h
  typed_owes c (Some Completion) h = named_owes Completion c c.session same_by h
  typed_owes c (Some CompletionAck) h = named_owes CompletionAck c c.session same_by h
  typed_owes c (Some StartAck) h = named_owes StartAck c c.session same_by h
  typed_owes c (Some StartAckConfirmation) h = named_owes StartAckConfirmation c c.session same_by h

-- The time, and the end of the call.

abbrev says_of : (Stage → Stepped Stage) → Option Stage → List Saying
says_of f None = []
says_of f (Some s) = (f s).sayings

rows_deeds : (f : Stage → Stepped Stage) (id : ℕ) (rows : List Row) (rest : List Outgoing) → Distinct rows →
    deeds_of id (flat_map (row_says f) rows ++ rest) ≡ with_deeds (says_of f (stage_of id rows)) (deeds_of id rest)
rows_deeds f id [] rest d = refl
rows_deeds f id (r ∷ rows) rest d =
    ap (deeds_of id) (append_assoc (row_says f r) (flat_map (row_says f) rows) rest)
    ∙ by_row (r.id == id) refl (rows_deeds f id rows rest d.1)
  where
    by_row : (b : Bool) → (r.id == id) ≡ b → deeds_of id (flat_map (row_says f) rows ++ rest) ≡ with_deeds (says_of f (stage_of id rows)) (deeds_of id rest) →
        deeds_of id (row_says f r ++ (flat_map (row_says f) rows ++ rest)) ≡ with_deeds (says_of f (if b then Some r.stage else stage_of id rows)) (deeds_of id rest)
    by_row true e later =
        subst (λ x. deeds_of id (in_session x (f r.stage).sayings ++ (flat_map (row_says f) rows ++ rest)) ≡ with_deeds (f r.stage).sayings (deeds_of id (flat_map (row_says f) rows ++ rest)))
        (sym (eqb-true r.id id e)) (deeds_own id (f r.stage).sayings (flat_map (row_says f) rows ++ rest))
        ∙ ap (with_deeds (f r.stage).sayings) (later ∙ ap (λ s. with_deeds (says_of f s) (deeds_of id rest)) (subst (λ x. stage_of x rows ≡ None) (eqb-true r.id id e) d.0))
    by_row false e later = deeds_other r.id id (f r.stage).sayings (flat_map (row_says f) rows ++ rest) e ∙ later

abbrev Claims : (Stage → Stepped Stage) → Type 0
Claims f = (s : Stage) (ps : List Piece) (ds : List Saying) → Owes ps ds (Some (f s).after) → Owes ps (with_deeds (f s).sayings ds) (Some s)

state_claim : (f : Stage → Stepped Stage) → Claims f → (state : Option Stage) (ps : List Piece) (ds : List Saying) → Owes ps ds (moved_by f state) → Owes ps (with_deeds (says_of f state) ds) state
state_claim f each None ps ds h = h
state_claim f each (Some s) ps ds h = each s ps ds h

all_claim : (f : Stage → Stepped Stage) → Claims f → (id : ℕ) (rows : List Row) → Distinct rows → (ps : List Piece) (rest : List Outgoing) →
    Owes ps (deeds_of id rest) (stage_of id (map (row_by f) rows)) → Owes ps (deeds_of id (flat_map (row_says f) rows ++ rest)) (stage_of id rows)
all_claim f each id rows d ps rest h =
    subst (λ ds. Owes ps ds (stage_of id rows)) (sym (rows_deeds f id rows rest d))
    (state_claim f each (stage_of id rows) ps (deeds_of id rest) (subst (Owes ps (deeds_of id rest)) (rows_moved f id rows) h))

-- All that comes.

owes_nothing : (id : ℕ) (state : Option Stage) → Owes [] [] state
owes_nothing id None = inl refl
owes_nothing id (Some (stage.Opening o)) = goes_on [] refl
owes_nothing id (Some (stage.Sending s)) = tt
owes_nothing id (Some (stage.Receiving r)) = by_phase r.next r.phase
  where
    by_phase : (next : ℕ) (p : Phase) → PhaseOwes [] next [] p
    by_phase next phase.Receiving = goes_on [] refl
    by_phase next phase.Recovering = goes_on [] refl
    by_phase next (phase.Completing status) = refl
    by_phase next phase.Ended = tt
owes_nothing id (Some (stage.Ended status)) = refl

-- a chunk leaves which way resources are moved, and no id stands twice behind it
record Stands (b : Book) : Type 0 where
  side : b.service.side ≡ Write
  distinct : Distinct b.rows

word_stands : (b : Book) → Stands b → (id : ℕ) (w : Word) → Stands (word_step b id w).after
word_stands b s id w = record {
  side = s.side;
  distinct = distinct_placed id (stage_of id b.rows) (session_hears b.service (has_room b) (stage_of id b.rows) w).after b.rows refl s.distinct;
}

wanted_stands : (b : Book) → Stands b → (c : Chunk) (k : ℕ) (test : Bool) → Stands (if test then ignoring b else word_step b k (said_by Start c)).after
wanted_stands b s c k true = s
wanted_stands b s c k false = word_stands b s k (said_by Start c)

desired_stands : (b : Book) → Stands b → (c : Chunk) (k : Option ℕ) → Stands (wanted b c k).after
desired_stands b s c None = s
desired_stands b s c (Some k) = wanted_stands b s c k (k == 0)

start_stands : (b : Book) → Stands b → (c : Chunk) (test : Bool) → nat_lt (unwrap_or c.version 0) 2 ≡ test → Stands (start_step b c).after
start_stands b s c true e = rw e s
start_stands b s c false e = rw e (desired_stands b s c c.desired)

named_stands : (b : Book) → Stands b → (type : ChunkType) (c : Chunk) (k : Option ℕ) → Stands (named b type c k).after
named_stands b s type c None = s
named_stands b s type c (Some k) = word_stands b s k (said_by type c)

typed_stands : (b : Book) → Stands b → (c : Chunk) (type : Option ChunkType) → Stands (typed_step b c type).after
typed_stands b s c None = s
typed_stands b s c (Some Data) = named_stands b s Data c c.session
typed_stands b s c (Some Start) = start_stands b s c (nat_lt (unwrap_or c.version 0) 2) refl
typed_stands b s c (Some ParametersRetransmit) = named_stands b s ParametersRetransmit c c.session
typed_stands b s c (Some ParametersContinue) = named_stands b s ParametersContinue c c.session
typed_stands b s c (Some Completion) = named_stands b s Completion c c.session
typed_stands b s c (Some CompletionAck) = named_stands b s CompletionAck c c.session
typed_stands b s c (Some StartAck) = named_stands b s StartAck c c.session
typed_stands b s c (Some StartAckConfirmation) = named_stands b s StartAckConfirmation c c.session

stands : (b : Book) → Stands b → (e : Comes) → Stands (step_at b e).after
stands b s (chunk_comes c) = typed_stands b s c (type_of c)
stands b s (time_comes now) = record { side = s.side; distinct = distinct_moved (stage_ticks b.service.side now) b.rows s.distinct }
stands b s call_ends = record { side = s.side; distinct = distinct_moved (stage_stops b.service.side) b.rows s.distinct }

ticks_claims : (side : Side) → side ≡ Write → (now : ℕ) → Claims (stage_ticks side now)
ticks_claims side is now = subst (λ x. Claims (stage_ticks x now)) (sym is) (tick_claim now)

stops_claims : (side : Side) → side ≡ Write → Claims (stage_stops side)
stops_claims side is = subst (λ x. Claims (stage_stops x)) (sym is) end_claim

all_owe : (id : ℕ) (es : List Comes) (b : Book) → Stands b → Owes (came id es) (deeds_of id (outs_over b es)) (stage_of id b.rows)
all_owe id [] b s = owes_nothing id (stage_of id b.rows)
all_owe id (chunk_comes c ∷ es) b s =
    typed_owes b s.side id (came id es) (outs_over (chunk_step b c).after es) c (type_of c) (all_owe id es (chunk_step b c).after (stands b s (chunk_comes c)))
all_owe id (time_comes now ∷ es) b s =
    all_claim (stage_ticks b.service.side now) (ticks_claims b.service.side s.side now) id b.rows s.distinct (came id es) (outs_over (step_at b (time_comes now)).after es)
    (all_owe id es (step_at b (time_comes now)).after (stands b s (time_comes now)))
all_owe id (call_ends ∷ es) b s =
    all_claim (stage_stops b.service.side) (stops_claims b.service.side s.side) id b.rows s.distinct (came id es) (outs_over (step_at b call_ends).after es)
    (all_owe id es (step_at b call_ends).after (stands b s call_ends))

pub all_are_uploads : AllAreUploads
all_are_uploads shelf window chunk es id = all_owe id es (new_book Write shelf window chunk) (record { side = refl; distinct = tt })
