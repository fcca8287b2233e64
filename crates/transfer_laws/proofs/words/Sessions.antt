-- All sessions of a call, over all that comes: what each keeps by itself they all keep.
use Rattle.std.proofs.Common.{◌≡◌, ℕ, ◌==◌, nat_lt, Bool, true, false, if◌then◌else◌, List, [], ◌∷◌, ◌++◌, map, flat_map, Option, Some, None, unwrap_or, refl, sym, ap, subst}
use Rattle.std.proofs.lemmas.Bool.{eqb-true}
use Rattle.std.specs.List.{AllByRecursion}
use Rattle.rpc_ids.specs.declared.Status.TheVariants.{Unimplemented}
use Rattle.link_io.specs.declared.Shelf.{Shelf}
use Rattle.transfer_chunk.specs.Chunk.{Chunk}
use Rattle.transfer_chunk.specs.ChunkTypes.{type_of}
use Rattle.transfer_chunk.specs.declared.ChunkType.{ChunkType}
use Rattle.transfer_chunk.specs.declared.ChunkType.TheVariants.{Data, Start, ParametersRetransmit, ParametersContinue, Completion, CompletionAck, StartAck, StartAckConfirmation}
use Rattle.transfer_words.specs.Word.{Word, completion}
use Rattle.transfer_words.specs.Saying.{Saying, Stepped, says}
use Rattle.transfer_words.specs.Spoken.{said_by}
use Rattle.transfer_resume.specs.declared.side.Side.{Side}
use Rattle.transfer_resume.specs.declared.stage.Stage.{Stage}
use Rattle.transfer_resume.specs.Session.{Row, Service}
use Rattle.transfer_resume.specs.Hears.{session_hears, stage_hears, unknown_hears}
use Rattle.transfer_resume.specs.Ticks.{stage_ticks, stage_stops}
use Rattle.transfer_resume.specs.Book.{Book, BookStep, Outgoing, new_book, has_room, stage_of, replaced, with_new, placed, in_session, answering, word_step, ignoring, told_id, wanted, named, typed_step, row_by, row_says}
use Rattle.transfer_resume.specs.Uploads.{Comes, chunk_comes, time_comes, call_ends, outs_over, step_at}
use Rattle.transfer_laws.specs.words.Service.{AllChunks, OfChunk}

pub all_join : {A : Type 0} (P : A → Type 0) (xs ys : List A) → AllByRecursion P xs → AllByRecursion P ys → AllByRecursion P (xs ++ ys)
all_join P [] ys first second = second
all_join P (x ∷ xs) ys first second = (first.0, all_join P xs ys first.1 second)

module _ (side : Side) (shelf : Shelf) (window chunk : ℕ) where
  -- the service at a moment
  abbrev pub serving : ℕ → Service
  serving time = record { side = side; shelf = shelf; window = window; chunk = chunk; time = time }

  -- I: where a session stands so; S: what is said and done in it; W: the words that come to it
  module _ (I : ℕ → Stage → Type 0) (S : ℕ → Saying → Type 0) (W : ℕ → Word → Type 0) where
    abbrev pub Is : ℕ → Option Stage → Type 0
    Is id None = Unit {0}
    Is id (Some s) = I id s

    abbrev pub Done : ℕ → Stepped Stage → Type 0
    Done id t = I id t.after × AllByRecursion (S id) t.sayings

    abbrev pub Opened : ℕ → Stepped (Option Stage) → Type 0
    Opened id t = Is id t.after × AllByRecursion (S id) t.sayings

    -- each session by itself
    pub record Keeps : Type 0 where
      pub hears : (time id : ℕ) (s : Stage) (w : Word) → I id s → W id w → Done id (stage_hears (serving time) s w)
      pub opens : (time id : ℕ) (room : Bool) (w : Word) → W id w → Opened id (unknown_hears (serving time) room w)
      pub ticks : (now id : ℕ) (s : Stage) → I id s → Done id (stage_ticks side now s)
      pub stops : (id : ℕ) (s : Stage) → I id s → Done id (stage_stops side s)

    -- what a chunk brings
    pub record Brings (c : Chunk) : Type 0 where
      pub told : S (told_id c) (says (completion Unimplemented))
      pub starts : (id : ℕ) → type_of c ≡ Some Start → c.desired ≡ Some id → W id (said_by Start c)
      pub names : (id : ℕ) (type : ChunkType) → (type ≡ Start → ⊥) → type_of c ≡ Some type → c.session ≡ Some id → W id (said_by type c)

    abbrev AllSaid : List Outgoing → Type 0
    AllSaid outs = AllByRecursion (λ o. S o.session o.saying) outs

    abbrev AllRows : List Row → Type 0
    AllRows rows = AllByRecursion (λ r. I r.id r.stage) rows

    record IsBook (b : Book) : Type 0 where
      time : ℕ
      service : b.service ≡ serving time
      rows : AllRows b.rows

    record Steps (t : BookStep) : Type 0 where
      after : IsBook t.after
      outs : AllSaid t.outs

    module _ (keeps : Keeps) where
      its_row : (id : ℕ) (rows : List Row) → AllRows rows → Is id (stage_of id rows)
      its_row id [] all = tt
      its_row id (r ∷ rows) all = at (r.id == id) refl (its_row id rows all.1)
        where
          at : (b : Bool) → (r.id == id) ≡ b → Is id (stage_of id rows) → Is id (if b then Some r.stage else stage_of id rows)
          at true same rest = subst (λ k. I k r.stage) (eqb-true r.id id same) all.0
          at false apart rest = rest

      rows_replaced : (id : ℕ) (new : Stage) (rows : List Row) → AllRows rows → I id new → AllRows (replaced id new rows)
      rows_replaced id new [] all is = tt
      rows_replaced id new (r ∷ rows) all is = at (r.id == id) (rows_replaced id new rows all.1 is)
        where
          at : (b : Bool) → AllRows (replaced id new rows) → AllRows (if b then record { id = id; stage = new } ∷ rows else r ∷ replaced id new rows)
          at true rest = (is, all.1)
          at false rest = (all.0, rest)

      rows_new : (id : ℕ) (new : Stage) (rows : List Row) → AllRows rows → I id new → AllRows (with_new id new rows)
      rows_new id new [] all is = (is, tt)
      rows_new id new (r ∷ rows) all is = at (nat_lt id r.id) (rows_new id new rows all.1 is)
        where
          at : (b : Bool) → AllRows (with_new id new rows) → AllRows (if b then record { id = id; stage = new } ∷ r ∷ rows else r ∷ with_new id new rows)
          at true rest = (is, all)
          at false rest = (all.0, rest)

      rows_placed : (id : ℕ) (before after : Option Stage) (rows : List Row) → AllRows rows → Is id after → AllRows (placed id before after rows)
      rows_placed id before None rows all is = all
      rows_placed id (Some old) (Some new) rows all is = rows_replaced id new rows all is
      rows_placed id None (Some new) rows all is = rows_new id new rows all is

      said_in : (id : ℕ) (ss : List Saying) → AllByRecursion (S id) ss → AllSaid (in_session id ss)
      said_in id [] all = tt
      said_in id (s ∷ ss) all = (all.0, said_in id ss all.1)

      hears_any : (time id : ℕ) (room : Bool) (o : Option Stage) (w : Word) → Is id o → W id w → Opened id (session_hears (serving time) room o w)
      hears_any time id room None w is word = keeps.opens time id room w word
      hears_any time id room (Some s) w is word = keeps.hears time id s w is word

      module _ (b : Book) (is : IsBook b) where
        word_steps : (id : ℕ) (w : Word) → W id w → Steps (word_step b id w)
        word_steps id w word =
            let done : Opened id (session_hears b.service (has_room b) (stage_of id b.rows) w) =
            subst (λ k. Opened id (session_hears k (has_room b) (stage_of id b.rows) w)) (sym is.service)
            (hears_any is.time id (has_room b) (stage_of id b.rows) w (its_row id b.rows is.rows) word) in
            let step = session_hears b.service (has_room b) (stage_of id b.rows) w in
            record {
              after = record { time = is.time; service = is.service; rows = rows_placed id (stage_of id b.rows) step.after b.rows is.rows done.0 };
              outs = said_in id step.sayings done.1;
            }

        ignores : Steps (ignoring b)
        ignores = record { after = is; outs = tt }

        module _ (c : Chunk) (brings : Brings c) where
          wanted_by : type_of c ≡ Some Start → (id : ℕ) → c.desired ≡ Some id → (test : Bool) → Steps (if test then ignoring b else word_step b id (said_by Start c))
          wanted_by type id desired true = ignores
          wanted_by type id desired false = word_steps id (said_by Start c) (brings.starts id type desired)

          wanted_steps : type_of c ≡ Some Start → (o : Option ℕ) → c.desired ≡ o → Steps (wanted b c o)
          wanted_steps type None desired = ignores
          wanted_steps type (Some id) desired = wanted_by type id desired (id == 0)

          start_steps : type_of c ≡ Some Start → (test : Bool) → Steps (if test then answering b (told_id c) (says (completion Unimplemented) ∷ []) else wanted b c c.desired)
          start_steps type true = record { after = is; outs = (brings.told, tt) }
          start_steps type false = wanted_steps type c.desired refl

          named_steps : (type : ChunkType) → (type ≡ Start → ⊥) → type_of c ≡ Some type → (o : Option ℕ) → c.session ≡ o → Steps (named b type c o)
          named_steps type other e None session = ignores
          named_steps type other e (Some id) session = word_steps id (said_by type c) (brings.names id type other e session)

          typed_steps : (type : Option ChunkType) → type_of c ≡ type → Steps (typed_step b c type)
          typed_steps None e = ignores
          typed_steps (Some Start) e = start_steps e (nat_lt (unwrap_or c.version 0) 2)
          typed_steps (Some Data) e = named_steps Data (λ is. cc) e c.session refl
          typed_steps (Some ParametersRetransmit) e = named_steps ParametersRetransmit (λ is. cc) e c.session refl
          typed_steps (Some ParametersContinue) e = named_steps ParametersContinue (λ is. cc) e c.session refl
          typed_steps (Some Completion) e = named_steps Completion (λ is. cc) e c.session refl
          typed_steps (Some CompletionAck) e = named_steps CompletionAck (λ is. cc) e c.session refl
          typed_steps (Some StartAck) e = named_steps StartAck (λ is. cc) e c.session refl
          typed_steps (Some StartAckConfirmation) e = named_steps StartAckConfirmation (λ is. cc) e c.session refl

      all_rows : (f : Stage → Stepped Stage) → ((id : ℕ) (s : Stage) → I id s → Done id (f s)) → (rows : List Row) → AllRows rows
          → AllRows (map (row_by f) rows) × AllSaid (flat_map (row_says f) rows)
      all_rows f each [] all = (tt, tt)
      all_rows f each (r ∷ rows) all =
          let rest = all_rows f each rows all.1 in
          let here = each r.id r.stage all.0 in
          ((here.0, rest.0), all_join (λ o. S o.session o.saying) (row_says f r) (flat_map (row_says f) rows) (said_in r.id (f r.stage).sayings here.1) rest.1)

      step_steps : (b : Book) → IsBook b → (e : Comes) → OfChunk Brings e → Steps (step_at b e)
      step_steps b is (chunk_comes c) brings = typed_steps b is c brings (type_of c) refl
      step_steps b is (time_comes now) brings =
          let all = all_rows (stage_ticks b.service.side now)
          (λ id s i. subst (λ x. Done id (stage_ticks x now s)) (ap (λ (k : Service). k.side) (sym is.service)) (keeps.ticks now id s i)) b.rows is.rows in
          record { after = record { time = now; service = ap (λ (k : Service). record k { time = now }) is.service; rows = all.0 }; outs = all.1 }
      step_steps b is call_ends brings =
          let all = all_rows (stage_stops b.service.side)
          (λ id s i. subst (λ x. Done id (stage_stops x s)) (ap (λ (k : Service). k.side) (sym is.service)) (keeps.stops id s i)) b.rows is.rows in
          record { after = record { time = is.time; service = is.service; rows = all.0 }; outs = all.1 }

      over : (b : Book) → IsBook b → (es : List Comes) → AllChunks Brings es → AllSaid (outs_over b es)
      over b is [] all = tt
      over b is (e ∷ es) all =
          let step : Steps (step_at b e) = step_steps b is e all.0 in
          all_join (λ o. S o.session o.saying) (step_at b e).outs (outs_over (step_at b e).after es) step.outs (over (step_at b e).after step.after es all.1)

      pub all_said : (es : List Comes) → AllChunks Brings es → AllByRecursion (λ o. S o.session o.saying) (outs_over (new_book side shelf window chunk) es)
      all_said es all = over (new_book side shelf window chunk) (record { time = 0; service = refl; rows = tt }) es all
