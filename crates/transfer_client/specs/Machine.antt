-- What a client does in one session, apart from mail and waiting.
use Rattle.std.specs.Prelude.{ℕ, [], ◌∷◌, Option}
use Rattle.rpc_ids.specs.declared.Status.{Status}
use Rattle.transfer_words.specs.Word.{Word}
use Rattle.transfer_words.specs.Saying.{Saying, Stepped}

pub record Rules (A : Type 0) : Type 0 where
  -- the session begins, at a moment, unless it has
  pub opens : A → ℕ → Stepped A
  -- the service says a word
  pub hears : A → Word → ℕ → Stepped A
  -- the call of the session has ended
  pub closes : A → Status → Stepped A
  -- the time has come to a moment
  pub ticks : A → ℕ → Stepped A
  -- how the transfer ended, if it did
  pub end_of : A → Option Status
  -- when its next timeout comes, if it waits for something
  pub deadline_of : A → Option ℕ

module _ {A : Type 0} where
  -- it stands so then, and nothing is said
  abbrev pub staying : A → Stepped A
  staying t = record { after = t; sayings = [] }

  -- it stands so then, and one thing is said
  abbrev pub saying : A → Saying → Stepped A
  saying t said = record { after = t; sayings = said ∷ [] }
