-- All sessions of a call of Write, over all that comes: an end OK of one follows its Commit.
use Rattle.std.proofs.Common.{◌≡◌, ◌⊎◌, ℕ, ◌==◌, nat_lt, inl, inr, Bool, true, false, if◌then◌else◌, List, [], ◌∷◌, ◌++◌, map, flat_map, Option, Some, None, option_map, unwrap_or, refl, ap, ◌∙◌, subst}
use Rattle.std.proofs.lemmas.Bool.{eqb-true}
use Rattle.rpc_ids.specs.declared.Status.TheVariants.{Okay, Unimplemented}
use Rattle.rpc_journal.specs.History.{history}
use Rattle.rpc_journal.specs.Items.{items_sent}
use Rattle.transfer_chunk.specs.Chunk.{Chunk}
use Rattle.transfer_chunk.specs.ChunkTypes.{type_of}
use Rattle.transfer_chunk.specs.declared.ChunkType.{ChunkType}
use Rattle.transfer_chunk.specs.declared.ChunkType.TheVariants.{Data, Start, ParametersRetransmit, ParametersContinue, Completion, CompletionAck, StartAck, StartAckConfirmation}
use Rattle.transfer_words.specs.Word.{Word, completion}
use Rattle.transfer_words.specs.Saying.{Saying, Stepped, says, commits}
use Rattle.transfer_words.specs.Spoken.{said_by}
use Rattle.transfer_resume.specs.declared.side.Side.TheVariants.{Write}
use Rattle.transfer_resume.specs.declared.stage.Stage.{Stage}
use Rattle.transfer_resume.specs.Session.{Row}
use Rattle.transfer_resume.specs.Hears.{session_hears}
use Rattle.transfer_resume.specs.Ticks.{stage_ticks, stage_stops}
use Rattle.transfer_resume.specs.Book.{Book, BookStep, Outgoing, new_book, has_room, stage_of, replaced, with_new, placed, in_session, answering, word_step, ignoring, told_id, wanted, named, typed_step, row_by, row_says}
use Rattle.transfer_resume.specs.Uploads.{Comes, chunk_comes, time_comes, call_ends, step_at}
use Rattle.demo_services.specs.DemoRule.{demo_rule}
use Rattle.demo_services.specs.Uploads.{all_comes}
use Rattle.link_laws.specs.uploads.CallItems.{AllButMessages, outs_by}
use Rattle.link_laws.specs.uploads.Okay.{FollowsCommit, IsCommitOf, IsTold, KnownAfter, OkayFollows, OkayFollowsCommit, OkayOfHistory}
use Rattle.link_laws.proofs.uploads.AnsweredLaws.{calls_are_answered}
use Rattle.link_laws.proofs.uploads.SessionOkay.{Keeps, Knows, SaidAfter, SaysKnown, StageKeeps, after_wider, knows_wider, says_wider, stop_keeps, tick_keeps, word_keeps}
use Rattle.link_laws.proofs.uploads.UploadLaws.{write_answers}

-- What goes out for one session, as what goes out for another that may be the same.
module _ (id k : ℕ) where
  one_session : (K : Type 0) (ss : List Saying) → (k ≡ id → SaysKnown K ss) → FollowsCommit id K (in_session k ss)
  one_session K [] h = tt
  one_session K (s ∷ ss) h =
      (λ tells. (h tells.0).0 tells.1, one_session (K ⊎ IsCommitOf id (record { session = k; saying = s })) ss (λ same. says_wider (K ⊎ (s ≡ commits)) _ ss (wider same) (h same).1))
    where
      wider : k ≡ id → K ⊎ (s ≡ commits) → K ⊎ IsCommitOf id (record { session = k; saying = s })
      wider same (inl known) = inl known
      wider same (inr commit) = inr (same, commit)

  one_after : (K : Type 0) (ss : List Saying) → k ≡ id → SaidAfter K ss → KnownAfter id K (in_session k ss)
  one_after K [] same h = h
  one_after K (s ∷ ss) same h =
      one_after (K ⊎ IsCommitOf id (record { session = k; saying = s })) ss same (after_wider (K ⊎ (s ≡ commits)) _ ss wider h)
    where
      wider : K ⊎ (s ≡ commits) → K ⊎ IsCommitOf id (record { session = k; saying = s })
      wider (inl known) = inl known
      wider (inr commit) = inr (same, commit)

module _ (id : ℕ) where
  known_grows : (K : Type 0) (outs : List Outgoing) → K → KnownAfter id K outs
  known_grows K [] known = known
  known_grows K (o ∷ outs) known = known_grows (K ⊎ IsCommitOf id o) outs (inl known)

  known_join : (K : Type 0) (xs ys : List Outgoing) → KnownAfter id (KnownAfter id K xs) ys → KnownAfter id K (xs ++ ys)
  known_join K [] ys known = known
  known_join K (x ∷ xs) ys known = known_join (K ⊎ IsCommitOf id x) xs ys known

  follows_join : (K : Type 0) (xs ys : List Outgoing) → FollowsCommit id K xs → FollowsCommit id (KnownAfter id K xs) ys → FollowsCommit id K (xs ++ ys)
  follows_join K [] ys first second = second
  follows_join K (x ∷ xs) ys first second = (first.0, follows_join (K ⊎ IsCommitOf id x) xs ys first.1 second)

  -- each row of the session knows what it is to know
  abbrev RowsKnow : Type 0 → List Row → Type 0
  RowsKnow K [] = Unit {0}
  RowsKnow K (r ∷ rows) = (r.id ≡ id → Knows K (Some r.stage)) × RowsKnow K rows

  rows_wider : (K L : Type 0) (rows : List Row) → (K → L) → RowsKnow K rows → RowsKnow L rows
  rows_wider K L [] f h = tt
  rows_wider K L (r ∷ rows) f h = (λ same. knows_wider K L (Some r.stage) f (h.0 same), rows_wider K L rows f h.1)

  its_row : (K : Type 0) (k : ℕ) (rows : List Row) → RowsKnow K rows → k ≡ id → Knows K (stage_of k rows)
  its_row K k [] h same = tt
  its_row K k (r ∷ rows) h same = at (r.id == k) refl (its_row K k rows h.1 same)
    where
      at : (b : Bool) → (r.id == k) ≡ b → Knows K (stage_of k rows) → Knows K (if b then Some r.stage else stage_of k rows)
      at true is rest = h.0 (eqb-true r.id k is ∙ same)
      at false is rest = rest

  rows_replaced : (K : Type 0) (k : ℕ) (new : Stage) (rows : List Row) → RowsKnow K rows → (k ≡ id → Knows K (Some new)) → RowsKnow K (replaced k new rows)
  rows_replaced K k new [] h n = tt
  rows_replaced K k new (r ∷ rows) h n = at (r.id == k) (rows_replaced K k new rows h.1 n)
    where
      at : (b : Bool) → RowsKnow K (replaced k new rows) → RowsKnow K (if b then record { id = k; stage = new } ∷ rows else r ∷ replaced k new rows)
      at true rest = (n, h.1)
      at false rest = (h.0, rest)

  rows_new : (K : Type 0) (k : ℕ) (new : Stage) (rows : List Row) → RowsKnow K rows → (k ≡ id → Knows K (Some new)) → RowsKnow K (with_new k new rows)
  rows_new K k new [] h n = (n, tt)
  rows_new K k new (r ∷ rows) h n = at (nat_lt k r.id) (rows_new K k new rows h.1 n)
    where
      at : (b : Bool) → RowsKnow K (with_new k new rows) → RowsKnow K (if b then record { id = k; stage = new } ∷ r ∷ rows else r ∷ with_new k new rows)
      at true rest = (n, h)
      at false rest = (h.0, rest)

  rows_placed : (K : Type 0) (k : ℕ) (before after : Option Stage) (rows : List Row) → RowsKnow K rows → (k ≡ id → Knows K after) → RowsKnow K (placed k before after rows)
  rows_placed K k before None rows h n = h
  rows_placed K k None (Some new) rows h n = rows_new K k new rows h n
  rows_placed K k (Some old) (Some new) rows h n = rows_replaced K k new rows h n

  by_word : (K : Type 0) (c : Chunk) (type : ChunkType) → type_of c ≡ Some type → (IsTold id (chunk_comes c) → K) → c.session ≡ Some id → said_by type c ≡ completion Okay → K
  by_word K c type e told session says_so = told (session, ap (option_map (λ t. said_by t c)) e ∙ ap Some says_so)

  -- What a step says is known, and so is where the sessions stand then; Write stays Write.
  record BookKeeps (K : Type 0) (t : BookStep) : Type 0 where
    follows : FollowsCommit id K t.outs
    rows : RowsKnow (KnownAfter id K t.outs) t.after.rows
    side : t.after.service.side ≡ Write

  module _ (K : Type 0) (b : Book) (is : b.service.side ≡ Write) (rows : RowsKnow K b.rows) where
    word_step_keeps : (k : ℕ) (w : Word) → (k ≡ id → w ≡ completion Okay → K) → BookKeeps K (word_step b k w)
    word_step_keeps k w tells =
        let step : Stepped (Option Stage) = session_hears b.service (has_room b) (stage_of k b.rows) w in
        record {
          follows = one_session id k K step.sayings (λ same. (keeps same).0);
          rows =
              rows_placed (KnownAfter id K (in_session k step.sayings)) k (stage_of k b.rows) step.after b.rows
              (rows_wider K _ b.rows (known_grows K (in_session k step.sayings)) rows)
              (λ same. knows_wider (SaidAfter K step.sayings) _ step.after (one_after id k K step.sayings same) (keeps same).1);
          side = is;
        }
      where
        keeps : k ≡ id → Keeps K (session_hears b.service (has_room b) (stage_of k b.rows) w)
        keeps same = word_keeps K b.service is (has_room b) (stage_of k b.rows) w (tells same) (its_row K k b.rows rows same)

    ignoring_keeps : BookKeeps K (ignoring b)
    ignoring_keeps = record { follows = tt; rows = rows; side = is }

    wanted_by : (c : Chunk) (k : ℕ) (test : Bool) → BookKeeps K (if test then ignoring b else word_step b k (said_by Start c))
    wanted_by c k true = ignoring_keeps
    wanted_by c k false = word_step_keeps k (said_by Start c) (λ same x. absurd cc)

    wanted_keeps : (c : Chunk) (k : Option ℕ) → BookKeeps K (wanted b c k)
    wanted_keeps c None = ignoring_keeps
    wanted_keeps c (Some k) = wanted_by c k (k == 0)

    start_keeps : (c : Chunk) (test : Bool) → BookKeeps K (if test then answering b (told_id c) (says (completion Unimplemented) ∷ []) else wanted b c c.desired)
    start_keeps c true = record { follows = (λ tells. absurd (other tells.1), tt); rows = rows_wider K _ b.rows inl rows; side = is }
      where
        other : says (completion Unimplemented) ≡ says (completion Okay) → ⊥
        other x = cc
    start_keeps c false = wanted_keeps c c.desired

    named_keeps : (type : ChunkType) (c : Chunk) (k : Option ℕ) → (k ≡ Some id → said_by type c ≡ completion Okay → K) → BookKeeps K (named b type c k)
    named_keeps type c None tells = ignoring_keeps
    named_keeps type c (Some k) tells = word_step_keeps k (said_by type c) (λ same. tells (ap Some same))

    typed_keeps : (c : Chunk) (type : Option ChunkType) → type_of c ≡ type → (IsTold id (chunk_comes c) → K) → BookKeeps K (typed_step b c type)
    typed_keeps c None e told = ignoring_keeps
    typed_keeps c (Some Start) e told = start_keeps c (nat_lt (unwrap_or c.version 0) 2)
    typed_keeps c (Some Data) e told = named_keeps Data c c.session (by_word K c Data e told)
    typed_keeps c (Some ParametersRetransmit) e told = named_keeps ParametersRetransmit c c.session (by_word K c ParametersRetransmit e told)
    typed_keeps c (Some ParametersContinue) e told = named_keeps ParametersContinue c c.session (by_word K c ParametersContinue e told)
    typed_keeps c (Some Completion) e told = named_keeps Completion c c.session (by_word K c Completion e told)
    typed_keeps c (Some CompletionAck) e told = named_keeps CompletionAck c c.session (by_word K c CompletionAck e told)
    typed_keeps c (Some StartAck) e told = named_keeps StartAck c c.session (by_word K c StartAck e told)
    typed_keeps c (Some StartAckConfirmation) e told = named_keeps StartAckConfirmation c c.session (by_word K c StartAckConfirmation e told)

  -- the time, and the end of the call, row by row
  all_keep : (f : Stage → Stepped Stage) → ((K : Type 0) (s : Stage) → Knows K (Some s) → StageKeeps K (f s)) → (K : Type 0) (rows : List Row) → RowsKnow K rows
      → FollowsCommit id K (flat_map (row_says f) rows) × RowsKnow (KnownAfter id K (flat_map (row_says f) rows)) (map (row_by f) rows)
  all_keep f each K [] h = (tt, tt)
  all_keep f each K (r ∷ rows) h =
      let says_here : List Outgoing = row_says f r in
      let later = all_keep f each (KnownAfter id K says_here) rows (rows_wider K _ rows (known_grows K says_here) h.1) in
      let join = known_join K says_here (flat_map (row_says f) rows) in (
        follows_join K says_here (flat_map (row_says f) rows) (one_session id r.id K (f r.stage).sayings (λ same. (each K r.stage (h.0 same)).0)) later.0,
        (
          λ same. knows_wider (SaidAfter K (f r.stage).sayings) _ (Some (f r.stage).after)
              (λ known. join (known_grows (KnownAfter id K says_here) (flat_map (row_says f) rows) (one_after id r.id K (f r.stage).sayings same known)))
              (each K r.stage (h.0 same)).1,
          rows_wider _ _ (map (row_by f) rows) join later.1,
        ),
      )

  step_keeps : (K : Type 0) (b : Book) → b.service.side ≡ Write → RowsKnow K b.rows → (e : Comes) → (IsTold id e → K) → BookKeeps K (step_at b e)
  step_keeps K b is rows (chunk_comes c) told = typed_keeps K b is rows c (type_of c) refl told
  step_keeps K b is rows (time_comes now) told =
      let kept = all_keep (stage_ticks b.service.side now) (λ L s. tick_keeps L b.service.side now s) K b.rows rows in
      record { follows = kept.0; rows = kept.1; side = is }
  step_keeps K b is rows call_ends told =
      let kept = all_keep (stage_stops b.service.side) (λ L s. stop_keeps L b.service.side s) K b.rows rows in
      record { follows = kept.0; rows = kept.1; side = is }

  okay_over : (K : Type 0) (b : Book) → b.service.side ≡ Write → RowsKnow K b.rows → (es : List Comes) → OkayFollows id K b es
  okay_over K b is rows [] = tt
  okay_over K b is rows (e ∷ es) =
      let kept = step_keeps (K ⊎ IsTold id e) b is (rows_wider K _ b.rows inl rows) e inr in
      (kept.follows, okay_over (KnownAfter id (K ⊎ IsTold id e) (step_at b e).outs) (step_at b e).after kept.side kept.rows es)

pub okay_follows_commit : OkayFollowsCommit
okay_follows_commit shelf window chunk es id = okay_over id ⊥ (new_book Write shelf window chunk) refl tt es

pub okay_of_history : OkayOfHistory
okay_of_history shelf window chunk set h c o role seed legal own is_there method =
    let so = calls_are_answered demo_rule set h c o role refl legal own is_there in
    record {
      events = so.events;
      begin = so.begin;
      outs = subst (λ all. AllButMessages all (outs_by c (items_sent (history set h)))) (write_answers shelf window chunk set.seed o.method so.events seed method) so.answers;
      okay = λ session. okay_follows_commit shelf window chunk (all_comes so.events) session;
    }
