-- A word of the session at the server's call.
use Rattle.std.proofs.Common.{◌≡◌, ℕ, suc, ◌+◌, ◌<◌, ◌≤◌, ◌==◌, nat_lt, Bool, true, false, if◌then◌else◌, List, [], ◌∷◌, length, Option, Some, None, inl, inr, ◌⊎◌, refl, sym, ap, ◌∙◌, arith}
use Rattle.std.proofs.lemmas.Bool.Decides.{nat_tests}
use Rattle.std.specs.List.{AllByRecursion}
use Rattle.rpc_handlers.specs.declared.event.Event.TheVariants.{Message}
use Rattle.rpc_handlers.specs.declared.event.Memo.{Memo}
use Rattle.transfer_words.specs.Word.{Word}
use Rattle.transfer_words.specs.Spoken.{FitsChunk, text_in}
use Rattle.transfer_words.specs.Saying.{Stepped, outs_of}
use Rattle.transfer_resume.specs.declared.stage.Stage.{Stage}
use Rattle.transfer_resume.specs.Session.{Row, Service}
use Rattle.transfer_resume.specs.Hears.{session_hears, unknown_hears}
use Rattle.transfer_resume.specs.Book.{Book, has_room, placed, replaced, stage_of, with_new, word_step}
use Rattle.transfer_resume.proofs.AloneLaws.{moves_alone}
use Rattle.demo_services.specs.DemoRule.{answer, next}
use Rattle.demo_services.specs.Transfer.{giving}
use Rattle.demo_services.proofs.ServeLemmas.{serves_sessions}
use Rattle.link_laws.specs.lossless_transfer.Shows.{ArePlaces, Places, ServesSession, count_of}

-- a session that is there doesn't ask for room
pub room_or_there : (k : Service) (room : Bool) (stage : Option Stage) (w : Word) → (stage ≡ None → room ≡ true) → session_hears k room stage w ≡ session_hears k true stage w
room_or_there k room None w has = ap (λ (b : Bool). unknown_hears k b w) (has refl)
room_or_there k room (Some stage) w has = refl

replaced_known : (P : Row → Type 0) (id : ℕ) (stage : Stage) (rows : List Row) → P (record { id = id; stage = stage }) → AllByRecursion P rows → AllByRecursion P (replaced id stage rows)
replaced_known P id stage [] new all = tt
replaced_known P id stage (r ∷ rows) new all = at (r.id == id) (replaced_known P id stage rows new all.1)
  where
    at : (b : Bool) → AllByRecursion P (replaced id stage rows) → AllByRecursion P (if b then record { id = id; stage = stage } ∷ rows else r ∷ replaced id stage rows)
    at true rest = (new, all.1)
    at false rest = (all.0, rest)

new_known : (P : Row → Type 0) (id : ℕ) (stage : Stage) (rows : List Row) → P (record { id = id; stage = stage }) → AllByRecursion P rows → AllByRecursion P (with_new id stage rows)
new_known P id stage [] new all = (new, tt)
new_known P id stage (r ∷ rows) new all = at (nat_lt id r.id) (new_known P id stage rows new all.1)
  where
    at : (b : Bool) → AllByRecursion P (with_new id stage rows) → AllByRecursion P (if b then record { id = id; stage = stage } ∷ r ∷ rows else r ∷ with_new id stage rows)
    at true rest = (new, all)
    at false rest = (all.0, rest)

replaced_many : (id : ℕ) (stage : Stage) (rows : List Row) → length (replaced id stage rows) ≡ length rows
replaced_many id stage [] = refl
replaced_many id stage (r ∷ rows) = at (r.id == id) (replaced_many id stage rows)
  where
    at : (b : Bool) → length (replaced id stage rows) ≡ length rows → length (if b then record { id = id; stage = stage } ∷ rows else r ∷ replaced id stage rows) ≡ suc (length rows)
    at true rest = refl
    at false rest = ap suc rest

new_many : (id : ℕ) (stage : Stage) (rows : List Row) → length (with_new id stage rows) ≡ suc (length rows)
new_many id stage [] = refl
new_many id stage (r ∷ rows) = at (nat_lt id r.id) (new_many id stage rows)
  where
    at : (b : Bool) → length (with_new id stage rows) ≡ suc (length rows)
        → length (if b then record { id = id; stage = stage } ∷ r ∷ rows else r ∷ with_new id stage rows) ≡ suc (suc (length rows))
    at true rest = refl
    at false rest = ap suc rest

-- a session that is there stays there
never_gone : (k : Service) (room : Bool) (stage : Option Stage) (w : Word) → (stage ≡ None) ⊎ ((s : Stage) × ((session_hears k room stage w).after ≡ Some s))
never_gone k room None w = inl refl
never_gone k room (Some stage) w = inr (_, refl)

placed_known : (P : Row → Type 0) (id : ℕ) (before after : Option Stage) (rows : List Row) → ((stage : Stage) → P (record { id = id; stage = stage })) → AllByRecursion P rows
    → AllByRecursion P (placed id before after rows)
placed_known P id before None rows new all = all
placed_known P id None (Some stage) rows new all = new_known P id stage rows (new stage) all
placed_known P id (Some old) (Some stage) rows new all = replaced_known P id stage rows (new stage) all

placed_many : (n id : ℕ) (before after : Option Stage) (rows : List Row) → (before ≡ None) ⊎ ((s : Stage) × (after ≡ Some s)) → length rows ≡ n + count_of before
    → length (placed id before after rows) ≡ n + count_of after
placed_many n id None None rows moves many = many
placed_many n id (Some old) None rows (inl none) many = absurd cc
placed_many n id (Some old) None rows (inr some) many = (let e : ◌≡◌ {A = Option Stage} None (Some some.0) = some.1 in absurd (cc e))
placed_many n id None (Some stage) rows moves many = new_many id stage rows ∙ omega (arith, many)
placed_many n id (Some old) (Some stage) rows moves many = replaced_many id stage rows ∙ many

-- THE CALL ANSWERS THE WORD AS THE SESSION DOES, and moves the session by it alone
pub record Served (x : Places) (m : Memo) (stage : Option Stage) (w : Word) : Type 0 where
  pub answers : answer m (Message (text_in x.session w)) ≡ giving (outs_of x.session (session_hears x.service true stage w).sayings)
  pub serves : ServesSession x (next m (Message (text_in x.session w))) (session_hears x.service true stage w).after

pub word_served : (x : Places) (m : Memo) (stage : Option Stage) (w : Word) → ArePlaces x → FitsChunk w → ServesSession x m stage → Served x m stage w
word_served x m stage w are fits s =
    let b : Book = s.book in
    let there : Option Stage = stage_of x.session b.rows in
    let step : Stepped (Option Stage) = session_hears b.service (has_room b) there w in
    let room : there ≡ None → has_room b ≡ true = λ none. has_room_by (length b.rows) (s.many ∙ ap (λ (o : Option Stage). x.older + count_of o) (sym s.stage_is ∙ none)) in
    let same : step ≡ session_hears x.service true stage w =
    room_or_there b.service (has_room b) there w room
    ∙ (ap (λ k. session_hears k true there w) s.service ∙ ap (λ (o : Option Stage). session_hears x.service true o w) s.stage_is) in
    let moves : (there ≡ None) ⊎ ((n : Stage) × (step.after ≡ Some n)) = never_gone b.service (has_room b) there w in
    record {
      answers =
          ap (λ (memo : Memo). answer memo (Message (text_in x.session w))) s.memo
          ∙ (serves_sessions.answers b x.session w are.session are.some_session fits ∙ ap (λ (t : Stepped (Option Stage)). giving (outs_of x.session t.sayings)) same);
      serves = record {
        book = (word_step b x.session w).after;
        memo = ap (λ (memo : Memo). next memo (Message (text_in x.session w))) s.memo ∙ serves_sessions.moves b x.session w are.session are.some_session fits;
        service = moves_alone.shared b x.session w ∙ s.service;
        stage_is = moves_alone.own b x.session w ∙ ap (λ (t : Stepped (Option Stage)). t.after) same;
        known = placed_known (λ r. r.id ≤ x.session) x.session there step.after b.rows (λ _. omega arith) s.known;
        many =
            placed_many x.older x.session there step.after b.rows moves (s.many ∙ ap (λ (o : Option Stage). x.older + count_of o) (sym s.stage_is))
            ∙ ap (λ (t : Stepped (Option Stage)). x.older + count_of t.after) same;
      };
    }
  where
    has_room_by : (n : ℕ) → n ≡ x.older + 0 → nat_lt n 256 ≡ true
    has_room_by n e = (let room = are.room in let less : n < 256 = omega (arith, e, room) in grind (arith, nat_tests))
