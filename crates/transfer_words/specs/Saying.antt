-- What an end of a transfer does in a session: it says a word, or acts on the store.
use Rattle.std.specs.Prelude.{ℕ, List, map}
use Rattle.rpc_handlers.specs.declared.answer.Out.{Out}
use Rattle.rpc_handlers.specs.declared.answer.Out.TheVariants.{Say, Begin, Append, Commit, Leave}
use Rattle.transfer_words.specs.Word.{Word}
use Rattle.transfer_words.specs.Spoken.{text_in}

pub data Saying : Type 0 where
  says : (said : Word) → Saying
  -- the work on a resource begins, from an offset on
  begins : (resource offset : ℕ) → Saying
  -- bytes are added to it
  appends : (bytes : List ℕ) → Saying
  -- it is whole
  commits : Saying
  -- it is left, to be resumed
  leaves : Saying

-- as an item of an answer, in a session
abbrev pub out_of : ℕ → Saying → Out
out_of s (says w) = Say (text_in s w)
out_of s (begins resource offset) = Begin s resource offset
out_of s (appends bytes) = Append s bytes
out_of s commits = Commit s
out_of s leaves = Leave s

abbrev pub outs_of : ℕ → List Saying → List Out
outs_of s sayings = map (out_of s) sayings

-- where a machine stands then, and what it says and does, in order
pub record Stepped (A : Type 0) : Type 0 where
  pub after : A
  pub sayings : List Saying
