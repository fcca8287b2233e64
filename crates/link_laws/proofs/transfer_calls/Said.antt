-- The chunks that say words, and what is heard of them.
use Rattle.std.proofs.Common.{◌≡◌, ℕ, ◌<◌, ◌==◌, ◌&&◌, ◌^◌, Bool, true, false, if◌then◌else◌, List, [], ◌∷◌, ◌++◌, Option, Some, None, Result, Ok, Err, option_map, unwrap_or, inl, inr, refl, sym, ap, ◌∙◌, subst, arith}
use Rattle.std.proofs.lemmas.Bool.{and_parts, eqb-true, false≢true}
use Rattle.std.specs.List.{AllByRecursion}
use Rattle.rpc_handlers.specs.declared.event.Event.{Event}
use Rattle.rpc_handlers.specs.declared.event.Event.TheVariants.{Message, Completion as Completed, Ended, Tick, Request}
use Rattle.transfer_base.specs.declared.Piece.{Piece}
use Rattle.transfer_chunk.specs.declared.ChunkType.{ChunkType}
use Rattle.transfer_chunk.specs.declared.ChunkType.TheVariants.{Data}
use Rattle.transfer_chunk.specs.Chunk.{Chunk}
use Rattle.transfer_chunk.specs.ChunkTypes.{type_of}
use Rattle.transfer_chunk.specs.Reading.{chunk_of}
use Rattle.transfer_words.specs.Word.{Word, start, start_ack, confirmation, parameters, data_comes, completion, completion_ack}
use Rattle.transfer_words.specs.Spoken.{FitsChunk, piece_in, said_by, spoken, text_in, word_of}
use Rattle.transfer_words.specs.Saying.{Saying, says}
use Rattle.transfer_words.proofs.SpokenLaws.{says_again, words_are_heard}
use Rattle.transfer_client.specs.Polling.{heard_in, heard_word, is_of}
use Rattle.transfer_resume.specs.Uploads.{Comes, chunk_comes, time_comes, call_ends, came, is_data, with_piece}
use Rattle.transfer_resume.specs.Uploads as resume
use Rattle.demo_services.specs.Uploads.{all_comes, comes_in, comes_with}
use Rattle.history_laws.specs.messages.Messages.{IsIn}
use Rattle.history_laws.proofs.messages.Members.{in_all}
use Rattle.transfer_laws.specs.words.Said.{SaysOkayWhere}
use Rattle.transfer_laws.specs.words.Service.{AllChunks, HasSmallIds, OkayIn, StartsOn}
use Rattle.transfer_laws.specs.words.Tasks.{AsksFor}
use Rattle.link_laws.specs.transfer_calls.Heard.{IsSaid}

pub some_one : {A : Type 0} (x y : A) → Some x ≡ Some y → x ≡ y
some_one x y is = cc

-- the session that a spoken word names is its own
session_of : (s : ℕ) (w : Word) (i : ℕ) → (spoken s w).session ≡ Some i → s ≡ i
session_of s (start r o) i is = absurd cc
session_of s (start_ack o) i is = some_one s i is
session_of s (confirmation ask) i is = some_one s i is
session_of s (parameters ask) i is = some_one s i is
session_of s (data_comes p) i is = some_one s i is
session_of s (completion status) i is = some_one s i is
session_of s completion_ack i is = some_one s i is

-- only a START names a session that is to be
desired_of : (s : ℕ) (w : Word) (i : ℕ) → (spoken s w).desired ≡ Some i → (r : ℕ) × (o : ℕ) × (w ≡ start r o) × (s ≡ i)
desired_of s (start r o) i is = (r, o, refl, some_one s i is)
desired_of s (start_ack o) i is = absurd cc
desired_of s (confirmation ask) i is = absurd cc
desired_of s (parameters ask) i is = absurd cc
desired_of s (data_comes p) i is = absurd cc
desired_of s (completion status) i is = absurd cc
desired_of s completion_ack i is = absurd cc

-- what is said and fits is heard as itself, in its session
pub heard_of : (i s : ℕ) (w x : Word) → s < 2 ^ 32 → FitsChunk w → heard_word i (text_in s w) ≡ Some x → (s ≡ i) × (w ≡ x)
heard_of i s w x small fits is =
    by_session (spoken s w).session refl (sym (ap (heard_in {E = ℕ} i) (words_are_heard s w small fits).read) ∙ is)
  where
    by_own : (k : ℕ) → (spoken s w).session ≡ Some k → (b : Bool) → (k == i) ≡ b → (if b then word_of (spoken s w) else None) ≡ Some x → (s ≡ i) × (w ≡ x)
    by_own k e true same is = (session_of s w k e ∙ eqb-true k i same, some_one w x (sym (words_are_heard s w small fits).says ∙ is))
    by_own k e false apart is = absurd cc

    by_session : (o : Option ℕ) → (spoken s w).session ≡ o → (if is_of i o then word_of (spoken s w) else None) ≡ Some x → (s ≡ i) × (w ≡ x)
    by_session None e is = absurd cc
    by_session (Some k) e is = by_own k e (k == i) refl is

-- the ids of a spoken chunk are small
small_ids : (s : ℕ) (w : Word) → s < 2 ^ 32 → HasSmallIds (spoken s w)
small_ids s (start r o) small = record { transfer_id = omega arith; session = tt; desired = small }
small_ids s (start_ack o) small = record { transfer_id = omega arith; session = small; desired = tt }
small_ids s (confirmation ask) small = record { transfer_id = omega arith; session = small; desired = tt }
small_ids s (parameters ask) small = record { transfer_id = omega arith; session = small; desired = tt }
small_ids s (data_comes p) small = record { transfer_id = omega arith; session = small; desired = tt }
small_ids s (completion status) small = record { transfer_id = omega arith; session = small; desired = tt }
small_ids s completion_ack small = record { transfer_id = omega arith; session = small; desired = tt }

module _ (i : ℕ) (said : List Saying) where
  pub said_small : (c : Chunk) → IsSaid i said c → HasSmallIds c
  said_small c is = subst HasSmallIds (sym is.is) (small_ids is.in_session is.word is.small)

  -- a START that was said is for the resource that is asked for
  pub said_starts : (resource asked : ℕ) → AllByRecursion (AsksFor resource asked) said → (c : Chunk) → IsSaid i said c → StartsOn i resource (λ o. o ≡ asked) c
  said_starts resource asked asks c is type desired =
      let d = desired_of is.in_session is.word i (sym (ap (λ (x : Chunk). x.desired) is.is) ∙ desired) in
      let own : IsIn (says (start d.0 d.1)) said = subst (λ w. IsIn (says w) said) d.2 (is.own d.3) in
      let right : (d.0 ≡ resource) × (d.1 ≡ asked) = in_all (AsksFor resource asked) said (says (start d.0 d.1)) asks own in
      let spoken_is : c ≡ spoken is.in_session (start d.0 d.1) = is.is ∙ ap (spoken is.in_session) d.2 in
      (ap (λ (x : Chunk). unwrap_or x.resource 0) spoken_is ∙ right.0, ap (λ (x : Chunk). x.initial) spoken_is ∙ right.1)

  -- a word of the session that was said
  said_word : (c : Chunk) → (is : IsSaid i said c) → c.session ≡ Some i → (w : Word) → word_of c ≡ Some w → IsIn (says w) said
  said_word c is session w word =
      let same : is.in_session ≡ i = session_of is.in_session is.word i (sym (ap (λ (x : Chunk). x.session) is.is) ∙ session) in
      let w_is : is.word ≡ w = some_one is.word w (sym (says_again is.in_session is.word is.fits) ∙ (sym (ap word_of is.is) ∙ word)) in
      subst (λ x. IsIn (says x) said) w_is (is.own same)

  pub said_okay : (may : Bool) → AllByRecursion (SaysOkayWhere may) said → (c : Chunk) → IsSaid i said c → OkayIn i may c
  said_okay may all c is session w word = in_all (SaysOkayWhere may) said (says w) all (said_word c is session w word)

  -- The data that came.
  type_data : (o : Option ChunkType) → is_data o ≡ true → o ≡ Some Data
  type_data None is = absurd (false≢true is)
  type_data (Some type) is = by_type type is
    where
      by_type : (t : ChunkType) → is_data (Some t) ≡ true → ◌≡◌ {A = Option ChunkType} (Some t) (Some Data)
      by_type Data is = refl
      by_type _ is = absurd (false≢true is)

  session_is : (o : Option ℕ) → resume.is_of i o ≡ true → o ≡ Some i
  session_is None is = absurd (false≢true is)
  session_is (Some k) is = ap Some (eqb-true k i is)

  data_said : (c : Chunk) → IsSaid i said c → is_data (type_of c) ≡ true → resume.is_of i c.session ≡ true → IsIn (says (data_comes (piece_in c))) said
  data_said c is type session =
      said_word c is (session_is c.session session) (data_comes (piece_in c)) (ap (option_map (λ t. said_by t c)) (type_data (type_of c) type))

  pub came_said : (Q : Piece → Type 0) → ((p : Piece) → IsIn (says (data_comes p)) said → Q p) → (es : List Comes) → AllChunks (IsSaid i said) es → AllByRecursion Q (came i es)
  came_said Q each [] all = tt
  came_said Q each (chunk_comes c ∷ es) all = at (came_said Q each es all.1) (is_data (type_of c) && resume.is_of i c.session) refl
    where
      at : AllByRecursion Q (came i es) → (b : Bool) → (is_data (type_of c) && resume.is_of i c.session) ≡ b → AllByRecursion Q (with_piece b (piece_in c) (came i es))
      at rest true e = let both = and_parts (is_data (type_of c)) (resume.is_of i c.session) e in (each (piece_in c) (data_said c all.0 both.0 both.1), rest)
      at rest false e = rest
  came_said Q each (time_comes now ∷ es) all = came_said Q each es all.1
  came_said Q each (call_ends ∷ es) all = came_said Q each es all.1

  -- the chunks that come with events
  pub comes_said : (evs : List Event) → ((payload : List ℕ) (c : Chunk) → IsIn (Message payload) evs → chunk_of payload ≡ Ok c → IsSaid i said c) → AllChunks (IsSaid i said) (all_comes evs)
  comes_said [] each = tt
  comes_said (ev ∷ evs) each = by_event ev (λ payload c same. each payload c (inl same)) (comes_said evs (λ payload c later. each payload c (inr later)))
    where
      by_read : (r : Result Chunk ℕ) → ((c : Chunk) → r ≡ Ok c → IsSaid i said c) → AllChunks (IsSaid i said) (all_comes evs) → AllChunks (IsSaid i said) (comes_in r ++ all_comes evs)
      by_read (Err at) each rest = rest
      by_read (Ok c) each rest = (each c refl, rest)

      by_event : (e : Event) → ((payload : List ℕ) (c : Chunk) → Message payload ≡ e → chunk_of payload ≡ Ok c → IsSaid i said c) → AllChunks (IsSaid i said) (all_comes evs)
          → AllChunks (IsSaid i said) (comes_with e ++ all_comes evs)
      by_event (Message payload) each rest = by_read (chunk_of payload) (λ c e. each payload c refl e) rest
      by_event (Request payload) each rest = rest
      by_event Completed each rest = (tt, rest)
      by_event (Ended status) each rest = (tt, rest)
      by_event (Tick now) each rest = (tt, rest)
