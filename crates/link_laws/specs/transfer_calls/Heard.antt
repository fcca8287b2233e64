-- What came to a call, where a client of one session said it.
use Rattle.std.specs.Prelude.{◌≡◌, ℕ, ◌<◌, ◌^◌, List, Ok}
use Rattle.rpc_handlers.specs.declared.event.Event.TheVariants.{Message}
use Rattle.rpc_journal.specs.declared.entry.Entry.{Entry}
use Rattle.rpc_journal.specs.declared.setting.Setting.{Setting}
use Rattle.rpc_journal.specs.History.{history}
use Rattle.rpc_journal.specs.States.{finished_since}
use Rattle.transfer_chunk.specs.Chunk.{Chunk}
use Rattle.transfer_chunk.specs.Reading.{chunk_of}
use Rattle.transfer_words.specs.Word.{Word}
use Rattle.transfer_words.specs.Spoken.{FitsChunk, spoken}
use Rattle.transfer_words.specs.Saying.{Saying, says}
use Rattle.history_laws.specs.messages.Messages.{IsIn}

-- The chunk says a word that fits, in a session; where that is this session, the word is among these.
pub record IsSaid (session : ℕ) (said : List Saying) (c : Chunk) : Type 0 where
  pub in_session : ℕ
  pub word : Word
  pub is : c ≡ spoken in_session word
  pub small : in_session < 2 ^ 32
  pub fits : FitsChunk word
  pub own : in_session ≡ session → IsIn (says word) said

-- each chunk that came to a call in a message was said so
abbrev pub ComesFrom : Setting → List Entry → ℕ → ℕ → List Saying → Type 0
ComesFrom set h c session said =
    (payload : List ℕ) (chunk : Chunk) → IsIn (Message payload) (finished_since (history set h) c) → chunk_of payload ≡ Ok chunk → IsSaid session said chunk
