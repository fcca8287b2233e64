-- The sessions of a call whose older ones have settled: what a word and a Tick make of them.
use Rattle.std.proofs.Common.{◌≡◌, ℕ, ◌+◌, ◌*◌, ◌≤◌, true, List, [], ◌∷◌, ◌++◌, length, flat_map, Option, Some, None, refl, ap, sym, ◌∙◌, arith, length-append}
use Rattle.std.proofs.lemmas.Bool.{eq-eqb, ne_eqb, le-ltb, lt-ltb}
use Rattle.std.proofs.lemmas.Grind.{flat_map-append}
use Rattle.std.proofs.lemmas.List.{append-nil, length-map, map-append}
use Rattle.std.specs.List.{AllByRecursion}
use Rattle.rpc_handlers.specs.declared.event.Event.TheVariants.{Message, Tick}
use Rattle.rpc_handlers.specs.declared.event.Memo.{Memo}
use Rattle.rpc_journal.specs.declared.entry.Entry.{Entry}
use Rattle.rpc_journal.specs.Effect.{Opening}
use Rattle.transfer_words.specs.Word.{Word}
use Rattle.transfer_words.specs.Saying.{Stepped, outs_of}
use Rattle.transfer_words.specs.Spoken.{FitsChunk, text_in}
use Rattle.transfer_resume.specs.declared.side.Side.{Side}
use Rattle.transfer_resume.specs.declared.stage.Stage.{Stage}
use Rattle.transfer_resume.specs.Session.{Row, Service}
use Rattle.transfer_resume.specs.Hears.{session_hears}
use Rattle.transfer_resume.specs.Ticks.{stage_ticks}
use Rattle.transfer_resume.specs.Book.{Book, has_room, in_session, placed, replaced, row_by, row_says, spelled, spelled_all, stage_of, with_new, word_step}
use Rattle.transfer_resume.proofs.SpelledLemmas.{spelled_in}
use Rattle.demo_services.specs.declared.call.DemoCall.TheVariants.{Transfer}
use Rattle.demo_services.specs.DemoRule.{answer, next}
use Rattle.demo_services.specs.ReadBack.{answer-memo_of, next-memo_of}
use Rattle.demo_services.specs.Transfer.{giving, transfer_memo}
use Rattle.demo_services.proofs.ServeLemmas.{serves_sessions}
use Rattle.transfer_laws.specs.losses.Drops.{at_time, session_ticks}
use Rattle.link_laws.specs.declared.world.limits.TheConstants.{TURN_OF_TIME}
use Rattle.link_laws.specs.world.World.{Setup}
use Rattle.link_laws.specs.lossless_transfer.Shows.{ArePlaces, Places, ServesSession, count_of}
use Rattle.link_laws.proofs.lossless_transfer.Serving.{room_or_there}
use Rattle.link_laws.specs.dropped_transfer.Sessions.{AreBefore, AreOlder, AreSettled, IsBesideAtServer, at_turn, book_with, own_row, ticked_rows}
use Rattle.link_laws.proofs.dropped_transfer.Ends.{beside_later}
use Rattle.link_laws.proofs.dropped_transfer.Few.{outs_at, settled_ticks}

module _ (session : ℕ) where
  own_stage : (older : List Row) (stage : Option Stage) → AreBefore session older → stage_of session (older ++ own_row session stage) ≡ stage
  own_stage [] None below = refl
  own_stage [] (Some stage) below = rw (eq-eqb session session refl) refl
  own_stage (r ∷ older) stage below = rw (ne_eqb r.id session (λ same. omega (arith, same, below.0))) (own_stage older stage below.1)

  -- a session that is there stays there
  abbrev Stays : Option Stage → Option Stage → Type 0
  Stays (Some old) None = ⊥
  Stays _ _ = Unit {0}

  new_last : (older : List Row) (stage : Stage) → AreBefore session older → with_new session stage (older ++ []) ≡ older ++ own_row session (Some stage)
  new_last [] stage below = refl
  new_last (r ∷ older) stage below = rw (le-ltb session r.id (omega (arith, below.0))) (ap (λ rows. r ∷ rows) (new_last older stage below.1))

  last_replaced : (older : List Row) (old stage : Stage) → AreBefore session older → replaced session stage (older ++ own_row session (Some old)) ≡ older ++ own_row session (Some stage)
  last_replaced [] old stage below = rw (eq-eqb session session refl) refl
  last_replaced (r ∷ older) old stage below =
      rw (ne_eqb r.id session (λ same. omega (arith, same, below.0))) (ap (λ rows. r ∷ rows) (last_replaced older old stage below.1))

  own_placed : (older : List Row) (before after : Option Stage) → AreBefore session older → Stays before after → placed session before after (older ++ own_row session before) ≡ older ++ own_row session after
  own_placed older None None below stays = refl
  own_placed older None (Some stage) below stays = new_last older stage below
  own_placed older (Some old) None below stays = absurd stays
  own_placed older (Some old) (Some stage) below stays = last_replaced older old stage below

hears_stays : (session : ℕ) (k : Service) (stage : Option Stage) (w : Word) → Stays session stage (session_hears k true stage w).after
hears_stays session k None w = tt
hears_stays session k (Some stage) w = tt

module _ (x : Places) (older : List Row) (are : ArePlaces x) (are_older : AreOlder x older) where
  row_count : (stage : Option Stage) → length (own_row x.session stage) ≡ count_of stage
  row_count None = refl
  row_count (Some stage) = refl

  rows_many : (stage : Option Stage) → length (older ++ own_row x.session stage) ≡ x.older + count_of stage
  rows_many stage = omega (arith, are_older.many, length-append older (own_row x.session stage), row_count stage)

  has_place : (stage : Option Stage) → stage ≡ None → has_room (book_with x older stage) ≡ true
  has_place stage none = lt-ltb (length (older ++ own_row x.session stage)) 256 (omega (arith, rows_many stage, ap count_of none, are.room))

  own_below : (stage : Option Stage) → AllByRecursion (λ r. r.id ≤ x.session) (own_row x.session stage)
  own_below None = tt
  own_below (Some stage) = (omega arith, tt)

  all_known : (rows : List Row) (stage : Option Stage) → AreBefore x.session rows → AllByRecursion (λ r. r.id ≤ x.session) (rows ++ own_row x.session stage)
  all_known [] stage below = own_below stage
  all_known (r ∷ rows) stage below = (omega (arith, below.0), all_known rows stage below.1)

  -- such a call serves the session
  pub serves_so : (m : Memo) (stage : Option Stage) → m ≡ transfer_memo (book_with x older stage) → ServesSession x m stage
  serves_so m stage is = record {
    book = book_with x older stage;
    memo = is;
    service = refl;
    stage_is = own_stage x.session older stage are_older.before;
    known = all_known older stage are_older.before;
    many = rows_many stage;
  }

  -- a word moves it
  word_moves : (stage : Option Stage) (w : Word) → (word_step (book_with x older stage) x.session w).after ≡ book_with x older (session_hears x.service true stage w).after
  word_moves stage w =
      let b : Book = book_with x older stage in
      let there : stage_of x.session b.rows ≡ stage = own_stage x.session older stage are_older.before in
      let step : session_hears x.service (has_room b) (stage_of x.session b.rows) w ≡ session_hears x.service true stage w =
      ap (λ (o : Option Stage). session_hears x.service (has_room b) o w) there ∙ room_or_there x.service (has_room b) stage w (has_place stage) in
      ap (λ (t : Stepped (Option Stage)). record b { rows = placed x.session (stage_of x.session b.rows) t.after b.rows }) step
      ∙ (ap (λ (o : Option Stage). record b { rows = placed x.session o (session_hears x.service true stage w).after b.rows }) there
      ∙ ap (λ (rows : List Row). record b { rows = rows }) (own_placed x.session older stage (session_hears x.service true stage w).after are_older.before (hears_stays x.session x.service stage w)))

  pub word_memo : (m : Memo) (stage : Option Stage) (w : Word) → FitsChunk w → m ≡ transfer_memo (book_with x older stage)
      → next m (Message (text_in x.session w)) ≡ transfer_memo (book_with x older (session_hears x.service true stage w).after)
  word_memo m stage w fits is =
      ap (λ memo. next memo (Message (text_in x.session w))) is
      ∙ (serves_sessions.moves (book_with x older stage) x.session w are.session are.some_session fits
      ∙ ap transfer_memo (word_moves stage w))

-- A Tick moves each session. Those that have settled stay so, and keep their numbers.
rows_settled : (side : Side) (t : ℕ) (rows : List Row) → AreSettled rows → AreSettled (ticked_rows side t rows)
rows_settled side t [] settled = tt
rows_settled side t (r ∷ rows) settled = ((settled_ticks side t r.stage settled.0).after, rows_settled side t rows settled.1)

rows_before : (session : ℕ) (side : Side) (t : ℕ) (rows : List Row) → AreBefore session rows → AreBefore session (ticked_rows side t rows)
rows_before session side t [] before = tt
rows_before session side t (r ∷ rows) before = (before.0, rows_before session side t rows before.1)

pub older_later : (x : Places) (t times : ℕ) (after : List Entry) (older : List Row) → AreOlder x older → AreOlder (at_turn x t times after) (ticked_rows x.service.side t older)
older_later x t times after older are = record {
  settled = rows_settled x.service.side t older are.settled;
  before = rows_before x.session x.service.side t older are.before;
  many = length-map older (row_by (stage_ticks x.service.side t)) ∙ are.many;
}

own_ticked : (session : ℕ) (side : Side) (t : ℕ) (stage : Option Stage) → ticked_rows side t (own_row session stage) ≡ own_row session (session_ticks side t stage).after
own_ticked session side t None = refl
own_ticked session side t (Some stage) = refl

own_says : (session : ℕ) (side : Side) (t : ℕ) (stage : Option Stage) → outs_at side t (own_row session stage) ≡ outs_of session (session_ticks side t stage).sayings
own_says session side t None = refl
own_says session side t (Some stage) = ap spelled_all (append-nil (in_session session (stage_ticks side t stage).sayings)) ∙ spelled_in session (stage_ticks side t stage).sayings

outs_join : (side : Side) (t : ℕ) (rows more : List Row) → outs_at side t (rows ++ more) ≡ outs_at side t rows ++ outs_at side t more
outs_join side t rows more =
    ap spelled_all (flat_map-append (row_says (stage_ticks side t)) rows more)
    ∙ map-append spelled (flat_map (row_says (stage_ticks side t)) rows) (flat_map (row_says (stage_ticks side t)) more)

-- any call of the transfer service
book_answers : (m : Memo) (b : Book) (t : ℕ) → m ≡ transfer_memo b → answer m (Tick t) ≡ giving (outs_at b.service.side t b.rows)
book_answers m b t is = ap (λ memo. answer memo (Tick t)) is ∙ sym (answer-memo_of (Transfer b) (Tick t))

book_moves : (m : Memo) (b : Book) (t : ℕ) → m ≡ transfer_memo b → next m (Tick t) ≡ transfer_memo (record { service = at_time b.service t; rows = ticked_rows b.service.side t b.rows })
book_moves m b t is = ap (λ memo. next memo (Tick t)) is ∙ sym (next-memo_of (Transfer b) (Tick t))

-- the call of the transfer
pub tick_memo : (x : Places) (older : List Row) (m : Memo) (stage : Option Stage) (t times : ℕ) (after : List Entry) → m ≡ transfer_memo (book_with x older stage)
    → next m (Tick t) ≡ transfer_memo (book_with (at_turn x t times after) (ticked_rows x.service.side t older) (session_ticks x.service.side t stage).after)
tick_memo x older m stage t times after is =
    book_moves m (book_with x older stage) t is
    ∙ ap (λ (rows : List Row). transfer_memo (record { service = at_time x.service t; rows = rows }))
    (map-append (row_by (stage_ticks x.service.side t)) older (own_row x.session stage) ∙ ap (λ rows. ticked_rows x.service.side t older ++ rows) (own_ticked x.session x.service.side t stage))

pub tick_answers : (x : Places) (older : List Row) (m : Memo) (stage : Option Stage) (t : ℕ) → m ≡ transfer_memo (book_with x older stage)
    → answer m (Tick t) ≡ giving (outs_at x.service.side t older ++ outs_of x.session (session_ticks x.service.side t stage).sayings)
tick_answers x older m stage t is =
    book_answers m (book_with x older stage) t is
    ∙ ap giving (outs_join x.service.side t older (own_row x.session stage) ∙ ap (λ outs. outs_at x.service.side t older ++ outs) (own_says x.session x.service.side t stage))

-- a call beside it
pub beside_answers : (k : Setup) (x : Places) (o : Opening) (m : Memo) (t : ℕ) (b : IsBesideAtServer k x o m) → answer m (Tick t) ≡ giving (outs_at b.book.service.side t b.book.rows)
beside_answers k x o m t b = book_answers m b.book t b.memo

pub still_beside : (k : Setup) (x : Places) (t times : ℕ) (after : List Entry) (o : Opening) (m : Memo) → t ≤ TURN_OF_TIME * times → IsBesideAtServer k x o m → IsBesideAtServer k (at_turn x t times after) o (next m (Tick t))
still_beside k x t times after o m late b = record {
  book = record { service = at_time b.book.service t; rows = ticked_rows b.book.service.side t b.book.rows };
  memo = book_moves m b.book t b.memo;
  settled = rows_settled b.book.service.side t b.book.rows b.settled;
  before = rows_before x.session b.book.service.side t b.book.rows b.before;
  side = b.side;
  of_side = b.of_side;
  service = ap (λ (s : Service). at_time s t) b.service;
  past = late;
  few = omega (arith, b.few, length-map b.book.rows (row_by (stage_ticks b.book.service.side t)));
  room = omega (arith, b.room, length-map b.book.rows (row_by (stage_ticks b.book.service.side t)));
  at_client = beside_later x t times after k o.name b.at_client;
}
