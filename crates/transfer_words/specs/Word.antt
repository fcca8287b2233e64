-- What a chunk of a session says, apart from the session's number.
use Rattle.std.specs.Prelude.{ℕ, Bool, List}
use Rattle.rpc_ids.specs.declared.Status.{Status}
use Rattle.transfer_base.specs.declared.Ask.{Ask}
use Rattle.transfer_base.specs.declared.Piece.{Piece}
use Rattle.transfer_words.specs.declared.word.WordRef.{WordRef}
use Rattle.transfer_words.specs.declared.word.WordRef.TheVariants as lent

pub data Word : Type 0 where
  -- the client opens a session on a resource, from an offset on
  start : (resource offset : ℕ) → Word
  -- the service agrees to open it, from an offset on
  start_ack : (offset : ℕ) → Word
  -- the client knows of that; of a read it carries the first parameters
  confirmation : (ask : Ask) → Word
  parameters : (ask : Ask) → Word
  data_comes : (piece : Piece) → Word
  -- the session has ended so
  completion : (status : Status) → Word
  -- the end is known
  completion_ack : Word

abbrev pub piece_word : ℕ → List ℕ → Bool → Word
piece_word offset bytes last = data_comes (record { offset = offset; bytes = bytes; last = last })

-- what a word whose data is lent stands for
abbrev pub lent_word : WordRef → Word
lent_word (lent.Start resource offset) = start resource offset
lent_word (lent.StartAck offset) = start_ack offset
lent_word (lent.Confirmation ask) = confirmation ask
lent_word (lent.Parameters ask) = parameters ask
lent_word (lent.Data offset bytes last) = piece_word offset bytes.now last
lent_word (lent.Completion status) = completion status
lent_word lent.CompletionAck = completion_ack
