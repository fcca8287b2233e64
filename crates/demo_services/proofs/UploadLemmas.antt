-- What a call of Write says over all events is what its sessions say over all that comes with them.
use Rattle.std.proofs.Common.{◌≡◌, ℕ, List, [], ◌∷◌, ◌++◌, Result, Ok, Err, refl, sym, ap, ◌∙◌, codes}
use Rattle.std.proofs.lemmas.List.{map-append}
use Rattle.rpc_ids.specs.Names.{name_id}
use Rattle.rpc_handlers.specs.declared.event.Event.{Event}
use Rattle.rpc_handlers.specs.declared.event.Event.TheVariants.{Request, Message, Completion, Ended, Tick}
use Rattle.link_io.specs.declared.Shelf.{Shelf}
use Rattle.transfer_chunk.specs.Chunk.{Chunk}
use Rattle.transfer_chunk.specs.Reading.{chunk_of}
use Rattle.transfer_resume.specs.declared.side.Side.TheVariants.{Write}
use Rattle.transfer_resume.specs.Book.{Book, new_book, spelled, spelled_all}
use Rattle.transfer_resume.specs.Uploads.{Comes, chunk_comes, time_comes, call_ends, step_at, outs_over}
use Rattle.transfer_resume.proofs.UploadLaws.{all_are_uploads}
use Rattle.demo_services.specs.declared.call.DemoCall.TheVariants.{Transfer}
use Rattle.demo_services.specs.DemoRule.{next, first}
use Rattle.demo_services.specs.Laws.{said}
use Rattle.demo_services.specs.Methods.{transfer_method}
use Rattle.demo_services.specs.ReadBack.{answer-memo_of, next-memo_of}
use Rattle.demo_services.specs.Transfer.{demo_seed, message_answer, message_after, transfer_answer, transfer_after, transfer_memo}
use Rattle.demo_services.specs.Uploads.{comes_in, comes_with, all_comes, UploadsJoin}
use Rattle.demo_services.proofs.FirstStates.{first_transfer}

-- from these sessions on, all later events say what comes with them
abbrev SaysAll : List Event → Type 0
SaysAll evs = (b : Book) → said (transfer_memo b) evs ≡ spelled_all (outs_over b (all_comes evs))

one_step : (b : Book) (e : Comes) (evs : List Event) → SaysAll evs →
    spelled_all (step_at b e).outs ++ said (transfer_memo (step_at b e).after) evs ≡ spelled_all (outs_over b (e ∷ all_comes evs))
one_step b e evs later =
    ap (λ rest. spelled_all (step_at b e).outs ++ rest) (later (step_at b e).after)
    ∙ sym (map-append spelled (step_at b e).outs (outs_over (step_at b e).after (all_comes evs)))

message_step : (b : Book) (read : Result Chunk ℕ) (evs : List Event) → SaysAll evs →
    (message_answer b read).items ++ said (transfer_memo (message_after b read)) evs ≡ spelled_all (outs_over b (comes_in read ++ all_comes evs))
message_step b (Ok c) evs later = one_step b (chunk_comes c) evs later
message_step b (Err at) evs later = later b

event_step : (b : Book) (ev : Event) (evs : List Event) → SaysAll evs →
    (transfer_answer b ev).items ++ said (transfer_memo (transfer_after b ev)) evs ≡ spelled_all (outs_over b (comes_with ev ++ all_comes evs))
event_step b (Request payload) evs later = later b
event_step b (Message payload) evs later = message_step b (chunk_of payload) evs later
event_step b Completion evs later = one_step b call_ends evs later
event_step b (Ended status) evs later = one_step b call_ends evs later
event_step b (Tick now) evs later = one_step b (time_comes now) evs later

pub said_over : (evs : List Event) → SaysAll evs
said_over [] b = refl
said_over (ev ∷ evs) b =
    ap (λ a. a.items ++ said (next (transfer_memo b) ev) evs) (sym (answer-memo_of (Transfer b) ev))
    ∙ (ap (λ m. (transfer_answer b ev).items ++ said m evs) (sym (next-memo_of (Transfer b) ev))
    ∙ event_step b ev evs (said_over evs))

first_write : (shelf : Shelf) (window chunk : ℕ) → first (demo_seed shelf window chunk) (transfer_method (codes "Write")) ≡ transfer_memo (new_book Write shelf window chunk)
unfolding name_id
first_write shelf window chunk = ap transfer_memo (first_transfer Write shelf window chunk)

pub uploads_join : UploadsJoin
uploads_join shelf window chunk events session = record {
  says = ap (λ m. said m events) (first_write shelf window chunk) ∙ said_over events (new_book Write shelf window chunk);
  upload = all_are_uploads shelf window chunk (all_comes events) session;
}
