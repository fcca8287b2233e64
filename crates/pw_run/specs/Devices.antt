-- What the devices of a run hold.
use Rattle.std.specs.Prelude.{ℕ, List, Option}
use Rattle.link_io.specs.Links.{Links}
use Rattle.link_io.specs.Stored.{Stored}

-- what is left of the input, what was written to the output, how many calls of it failed, what the store holds, what the linker
-- tells, and the moment that the clock gave last
pub record Devices : Type 0 where
  pub left : Option (List ℕ)
  pub written : Option (List ℕ)
  pub failed : ℕ
  pub held : Option Stored
  pub links : Links
  pub moment : ℕ

abbrev pub devices : Option (List ℕ) → Option (List ℕ) → ℕ → Option Stored → Links → ℕ → Devices
devices left written failed held links moment = record { left = left; written = written; failed = failed; held = held; links = links; moment = moment }

-- The devices of one session: what is left at the end of the link that is read, what was written to the other one, what the
-- store holds, and the moment that the clock gave last.
pub record LinkDevices : Type 0 where
  pub left : Option (List ℕ)
  pub sent : Option (List ℕ)
  pub held : Option Stored
  pub moment : ℕ

-- a session with a link of these ends, beside the store and the clock of the run
abbrev pub with_link : Devices → Option (List ℕ) → Option (List ℕ) → LinkDevices
with_link d left sent = record { left = left; sent = sent; held = d.held; moment = d.moment }
