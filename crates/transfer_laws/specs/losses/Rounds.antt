-- A transfer's rounds: what lies between two turns of time.
use Rattle.std.specs.Prelude.{◌≡◌, ℕ, ◌+◌, ◌*◌, ◌≤◌, ◌==◌, ◌||◌, Bool, false, List, [], ◌∷◌}
use Rattle.transfer_base.specs.declared.limits.TheConstants.{TIMEOUT}
use Rattle.transfer_laws.specs.losses.Drops.{Lost}

-- The moment of the round with this number. Round 0 begins with the transfer, and each other one with a turn of time.
abbrev pub moment_of : ℕ → ℕ → ℕ
moment_of since number = since + TIMEOUT * number

-- a round is lossy where a word was lost in it, and else it is clean
abbrev pub is_lossy : List Lost → ℕ → Bool
is_lossy [] moment = false
is_lossy (l ∷ ls) moment = (l.moment == moment) || is_lossy ls moment

-- the rounds that may be lossy
abbrev pub LOSSY_ROUNDS : ℕ
LOSSY_ROUNDS = 3

-- of this many rounds and the next one, one is clean
pub record HasCleanRound (since : ℕ) (lost : List Lost) : Type 0 where
  pub number : ℕ
  pub early : number ≤ LOSSY_ROUNDS
  pub clean : is_lossy lost (moment_of since number) ≡ false
