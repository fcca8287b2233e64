-- What a transfer call says and does is what its sessions do over what came with its events.
use Rattle.std.proofs.Common.{◌≡◌, ℕ, List, [], ◌∷◌, ◌++◌, codes, Result, Ok, Err, inl, inr, Some, refl, sym, ap, ◌∙◌, subst}
use Rattle.std.proofs.lemmas.List.{map-append}
use Rattle.std.specs.List.{AllByRecursion}
use mathlib.Core.List.{IsPrefix}
use Rattle.link_io.specs.declared.Shelf.{Shelf}
use Rattle.rpc_ids.specs.Names.{name_id}
use Rattle.rpc_handlers.specs.declared.answer.Out.{Out}
use Rattle.rpc_handlers.specs.declared.answer.Out.TheVariants.{Say}
use Rattle.rpc_handlers.specs.declared.event.Event.{Event}
use Rattle.rpc_handlers.specs.declared.event.Event.TheVariants.{Request, Message, Completion, Ended, Tick}
use Rattle.rpc_journal.specs.declared.entry.Entry.{Entry}
use Rattle.rpc_journal.specs.declared.setting.Setting.{Setting}
use Rattle.rpc_journal.specs.History.{history}
use Rattle.rpc_journal.specs.Items.{items_sent}
use Rattle.rpc_journal.specs.States.{finished_since}
use Rattle.transfer_chunk.specs.Chunk.{Chunk}
use Rattle.transfer_chunk.specs.Reading.{chunk_of}
use Rattle.transfer_words.specs.Word.{Word}
use Rattle.transfer_words.specs.Spoken.{text_in}
use Rattle.transfer_words.specs.Saying.{Saying, says, begins, appends, commits, leaves, out_of}
use Rattle.transfer_client.specs.Polling.{heard_word}
use Rattle.transfer_resume.specs.declared.side.Side.{Side}
use Rattle.transfer_resume.specs.declared.side.Side.TheVariants.{Read, Write}
use Rattle.transfer_resume.specs.Book.{Book, Outgoing, new_book, spelled, spelled_all}
use Rattle.transfer_resume.specs.Uploads.{Comes, chunk_comes, time_comes, call_ends, outs_over, step_at}
use Rattle.demo_services.specs.declared.call.DemoCall.TheVariants.{Transfer}
use Rattle.demo_services.specs.DemoRule.{demo_rule, first, next}
use Rattle.demo_services.specs.Methods.{transfer_method}
use Rattle.demo_services.specs.ReadBack.{answer-memo_of, next-memo_of}
use Rattle.demo_services.specs.Transfer.{demo_seed, message_answer, message_after, transfer_answer, transfer_after, transfer_memo}
use Rattle.demo_services.specs.Uploads.{all_comes, comes_in, comes_with}
use Rattle.demo_services.proofs.FirstStates.{first_transfer}
use Rattle.link_laws.specs.uploads.CallItems.{AllButMessages, answers_over, outs_by}
use Rattle.link_laws.proofs.uploads.AnsweredLaws.{calls_are_answered}
use Rattle.history_laws.specs.messages.Messages.{IsIn}
use Rattle.history_laws.proofs.messages.Members.{in_all, in_front}
use Rattle.transfer_laws.specs.words.Said.{FitsSaying}
use Rattle.transfer_laws.specs.words.Service.{AllChunks, FitsChunks, HasSmallIds}
use Rattle.transfer_laws.proofs.words.ServiceFits.{service_fits}
use Rattle.transfer_laws.proofs.words.Service.{all_chunks}
use Rattle.link_laws.specs.transfer_calls.Heard.{ComesFrom, IsSaid}
use Rattle.link_laws.specs.transfer_calls.Transfers.{IsTransferCall}
use Rattle.link_laws.proofs.transfer_calls.Said.{comes_said, heard_of, said_small}

-- from these sessions on, all later events answer what comes with them
abbrev AnswersAll : List Event → Type 0
AnswersAll evs = (b : Book) → answers_over demo_rule (transfer_memo b) evs ≡ spelled_all (outs_over b (all_comes evs))

one_step : (b : Book) (e : Comes) (evs : List Event) → AnswersAll evs
    → spelled_all (step_at b e).outs ++ answers_over demo_rule (transfer_memo (step_at b e).after) evs ≡ spelled_all (outs_over b (e ∷ all_comes evs))
one_step b e evs later =
    ap (λ rest. spelled_all (step_at b e).outs ++ rest) (later (step_at b e).after)
    ∙ sym (map-append spelled (step_at b e).outs (outs_over (step_at b e).after (all_comes evs)))

message_step : (b : Book) (read : Result Chunk ℕ) (evs : List Event) → AnswersAll evs
    → (message_answer b read).items ++ answers_over demo_rule (transfer_memo (message_after b read)) evs ≡ spelled_all (outs_over b (comes_in read ++ all_comes evs))
message_step b (Ok c) evs later = one_step b (chunk_comes c) evs later
message_step b (Err at) evs later = later b

event_step : (b : Book) (ev : Event) (evs : List Event) → AnswersAll evs
    → (transfer_answer b ev).items ++ answers_over demo_rule (transfer_memo (transfer_after b ev)) evs ≡ spelled_all (outs_over b (comes_with ev ++ all_comes evs))
event_step b (Request payload) evs later = later b
event_step b (Message payload) evs later = message_step b (chunk_of payload) evs later
event_step b Completion evs later = one_step b call_ends evs later
event_step b (Ended status) evs later = one_step b call_ends evs later
event_step b (Tick now) evs later = one_step b (time_comes now) evs later

answers_all : (evs : List Event) → AnswersAll evs
answers_all [] b = refl
answers_all (ev ∷ evs) b =
    ap (λ a. a.items ++ answers_over demo_rule (next (transfer_memo b) ev) evs) (sym (answer-memo_of (Transfer b) ev))
    ∙ (ap (λ m. (transfer_answer b ev).items ++ answers_over demo_rule m evs) (sym (next-memo_of (Transfer b) ev))
    ∙ event_step b ev evs (answers_all evs))

abbrev pub name_of : Side → List ℕ
name_of Read = codes "Read"
name_of Write = codes "Write"

first_of_side : (side : Side) (shelf : Shelf) (window chunk : ℕ) → first (demo_seed shelf window chunk) (transfer_method (name_of side)) ≡ transfer_memo (new_book side shelf window chunk)
unfolding name_id
first_of_side Read shelf window chunk = ap transfer_memo (first_transfer Read shelf window chunk)
first_of_side Write shelf window chunk = ap transfer_memo (first_transfer Write shelf window chunk)

-- what a transfer call says and does, over these events
pub record Answers (side : Side) (shelf : Shelf) (window chunk : ℕ) (set : Setting) (h : List Entry) (c : ℕ) : Type 0 where
  pub events : List Event
  pub begin : IsPrefix events (finished_since (history set h) c)
  pub outs : AllButMessages (spelled_all (outs_over (new_book side shelf window chunk) (all_comes events))) (outs_by c (items_sent (history set h)))

module _ (side : Side) (shelf : Shelf) (window chunk : ℕ) (set : Setting) (h : List Entry) (c : ℕ) (call : IsTransferCall shelf window chunk set h (name_of side) c) where
  pub answers : Answers side shelf window chunk set h c
  answers =
      let so = calls_are_answered demo_rule set h c call.opening call.role refl call.legal call.own call.there in
      record {
        events = so.events;
        begin = so.begin;
        outs =
            subst (λ all. AllButMessages all (outs_by c (items_sent (history set h))))
            (ap (λ m. answers_over demo_rule m so.events) (ap (λ s. first s call.opening.method) call.seed ∙ (ap (first (demo_seed shelf window chunk)) call.method ∙ first_of_side side shelf window chunk))
            ∙ answers_all so.events (new_book side shelf window chunk)) so.answers;
      }

  abbrev pub came_in : List Comes
  came_in = all_comes answers.events

  abbrev pub outs : List Outgoing
  outs = outs_over (new_book side shelf window chunk) came_in

  pub chunks_said : (session : ℕ) (said : List Saying) → ComesFrom set h c session said → AllChunks (IsSaid session said) came_in
  chunks_said session said from =
      comes_said session said answers.events (λ payload chunk is read. from payload chunk (subst (IsIn (Message payload)) answers.begin.1 (in_front (Message payload) answers.events answers.begin.0 is)) read)

  -- all that goes out fits
  pub all_fit : (session : ℕ) (said : List Saying) → ComesFrom set h c session said → AllByRecursion FitsChunks outs
  all_fit session said from =
      service_fits side shelf window chunk came_in call.window_high call.chunk_high
      (all_chunks (IsSaid session said) HasSmallIds (λ x is. said_small session said x is) came_in (chunks_said session said from))

  but_in : (all xs : List Out) (x : Out) → AllButMessages all xs → IsIn x xs → IsIn x all
  but_in [] xs x is there = subst (IsIn x) is there
  but_in (out ∷ all) xs x (inl dropped) there = inr (but_in all xs x dropped.1 there)
  but_in (out ∷ all) xs x (inr kept) there = at (λ rest more later. but_in all rest x more later) (subst (IsIn x) kept.1 there)
    where
      at : ((rest : List Out) → AllButMessages all rest → IsIn x rest → IsIn x all) → IsIn x (out ∷ kept.0) → IsIn x (out ∷ all)
      at more (inl same) = inl same
      at more (inr later) = inr (more kept.0 kept.2 later)

  -- something that goes out
  pub record Out1 (out : Out) : Type 0 where
    pub outgoing : Outgoing
    pub is_out : IsIn outgoing outs
    pub is : out ≡ spelled outgoing

  spelled_in : (xs : List Outgoing) (out : Out) → IsIn out (spelled_all xs) → (o : Outgoing) × IsIn o xs × (out ≡ spelled o)
  spelled_in [] out is = absurd is
  spelled_in (o ∷ xs) out (inl same) = (o, inl refl, same)
  spelled_in (o ∷ xs) out (inr later) = let rest = spelled_in xs out later in (rest.0, inr rest.1, rest.2)

  pub out_of_call : (out : Out) → IsIn out (outs_by c (items_sent (history set h))) → Out1 out
  out_of_call out is =
      let found = spelled_in outs out (but_in (spelled_all outs) _ out answers.outs is) in
      record { outgoing = found.0; is_out = found.1; is = found.2 }

  -- a word that the client hears was said in its session
  pub record Heard (session : ℕ) (w : Word) : Type 0 where
    pub outgoing : Outgoing
    pub is_out : IsIn outgoing outs
    pub in_session : outgoing.session ≡ session
    pub is : outgoing.saying ≡ says w

  heard_by : (session : ℕ) (payload : List ℕ) (w : Word) (o : Outgoing) → FitsChunks o → (x : Saying) → o.saying ≡ x → Say payload ≡ out_of o.session x
      → heard_word session payload ≡ Some w → (o.session ≡ session) × (o.saying ≡ says w)
  heard_by session payload w o fits (says v) e is heard =
      let text : payload ≡ text_in o.session v = cc in
      let both = heard_of session o.session v w fits.session (subst FitsSaying e fits.saying) (ap (heard_word session) (sym text) ∙ heard) in
      (both.0, e ∙ ap says both.1)
  heard_by session payload w o fits (begins r x) e is heard = absurd cc
  heard_by session payload w o fits (appends bytes) e is heard = absurd cc
  heard_by session payload w o fits commits e is heard = absurd cc
  heard_by session payload w o fits leaves e is heard = absurd cc

  pub heard_out : (session : ℕ) (said : List Saying) (payload : List ℕ) (w : Word) → ComesFrom set h c session said → (o : Outgoing) → IsIn o outs → spelled o ≡ Say payload
      → heard_word session payload ≡ Some w → (o.session ≡ session) × (o.saying ≡ says w)
  heard_out session said payload w from o there is heard =
      heard_by session payload w o (in_all FitsChunks outs o (all_fit session said from) there) o.saying refl (sym is) heard

  pub heard_said : (session : ℕ) (said : List Saying) (payload : List ℕ) (w : Word) → ComesFrom set h c session said
      → IsIn (Say payload) (outs_by c (items_sent (history set h))) → heard_word session payload ≡ Some w → Heard session w
  heard_said session said payload w from is heard =
      let found : Out1 (Say payload) = out_of_call (Say payload) is in
      let both = heard_out session said payload w from found.outgoing found.is_out (sym found.is) heard in
      record { outgoing = found.outgoing; is_out = found.is_out; in_session = both.0; is = both.1 }
