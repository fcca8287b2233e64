-- The methods Read and Write of the transfer service.
use Rattle.std.specs.Prelude.{ℕ, List, [], ◌∷◌, drop, None, Result, Ok, Err}
use Rattle.rpc_ids.specs.declared.status.Status.TheVariants.{Okay}
use Rattle.rpc_handlers.specs.declared.answer.Answer.{Answer}
use Rattle.rpc_handlers.specs.declared.answer.Out.{Out}
use Rattle.rpc_handlers.specs.declared.event.Event.{Event}
use Rattle.rpc_handlers.specs.declared.event.Event.TheVariants.{Message, Completion, Ended, Tick}
use Rattle.rpc_handlers.specs.declared.event.Memo.{Memo}
use Rattle.link_io.specs.declared.Shelf.{Shelf}
use Rattle.transfer_chunk.specs.Chunk.{Chunk}
use Rattle.transfer_chunk.specs.Reading.{chunk_of}
use Rattle.transfer_resume.specs.declared.side.Side.{Side}
use Rattle.transfer_resume.specs.declared.side.Side.TheVariants.{Read}
use Rattle.transfer_resume.specs.Book.{Book, new_book, spelled_all, chunk_step, tick_step, end_step}
use Rattle.transfer_resume.specs.Plain.{plain_words, plain_parts, book_in}
use Rattle.demo_services.specs.Answers.{empty_answer, ends}

-- these items, and the call goes on
abbrev pub giving : List Out → Answer
giving outs = record { items = outs; end = None }

-- a message is a chunk; one that is malformed is ignored
abbrev pub message_answer : Book → Result Chunk ℕ → Answer
message_answer b (Err at) = empty_answer
message_answer b (Ok c) = giving (spelled_all (chunk_step b c).outs)

abbrev pub message_after : Book → Result Chunk ℕ → Book
message_after b (Err at) = b
message_after b (Ok c) = (chunk_step b c).after

-- all sessions end with the stream of the client, and with the call
abbrev pub transfer_answer : Book → Event → Answer
transfer_answer b (Message payload) = message_answer b (chunk_of payload)
transfer_answer b Completion = record (ends Okay []) { items = spelled_all (end_step b).outs }
transfer_answer b (Ended status) = giving (spelled_all (end_step b).outs)
transfer_answer b (Tick now) = giving (spelled_all (tick_step b now).outs)
transfer_answer b _ = empty_answer

abbrev pub transfer_after : Book → Event → Book
transfer_after b (Message payload) = message_after b (chunk_of payload)
transfer_after b Completion = (end_step b).after
transfer_after b (Ended status) = (end_step b).after
transfer_after b (Tick now) = (tick_step b now).after
transfer_after b _ = b

-- the sessions as the state of a call: the number of the method, and then all that tells of them
abbrev pub transfer_memo : Book → Memo
transfer_memo b = record { words = 4 ∷ plain_words b; parts = plain_parts b }

-- the sessions of such a state
abbrev pub transfer_book : Memo → Book
transfer_book m = book_in (drop 1 m.words) m.parts

-- what the first states are made of: the shelf and how a receiver asks, as a call of Read without sessions
abbrev pub demo_seed : Shelf → ℕ → ℕ → Memo
demo_seed shelf window chunk = transfer_memo (new_book Read shelf window chunk)

abbrev pub on_side : Side → Book → Book
on_side side b = record b { service = record b.service { side = side } }

-- a call without sessions, over what the seed tells of
abbrev pub first_book : Side → Memo → Book
first_book side seed = on_side side (transfer_book seed)
