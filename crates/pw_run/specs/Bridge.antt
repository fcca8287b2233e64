-- What a run of `bridge` carried and wrote.
use Rattle.std.specs.Prelude.{◌≡◌, ◌≢◌, ℕ, ◌⊎◌, List, ◌∷◌, Some}
use Rattle.link_io.specs.Causes.{Rose}
use Rattle.link_io.specs.declared.why.Why.TheVariants.{JournalLimit}
use Rattle.link_io.specs.Links.{Ends}
use Rattle.frame_router.specs.declared.bridge.bridged.Bridged.{Bridged}
use Rattle.frame_router.specs.bridge.Bridges.{Bridges, IsNoBridge, TellsBridge, bridge_routes, reason_of}
use Rattle.frame_router.specs.bridge.Printed.{bridge_text}
use Rattle.pw_run.specs.declared.outcome.Outcome.{Outcome}
use Rattle.pw_run.specs.declared.outcome.Outcome.TheVariants.{LinkFault}
use Rattle.pw_run.specs.Devices.{Devices}
use Rattle.pw_run.specs.LinkServed.{WritesServed}

-- Two links were bridged and given back, and what became of them was written.
pub record RunsBridge (at_right at_left : ℕ) (before after : Devices) (outcome : Outcome) : Type 0 where
  pub done : Bridged
  pub bridges : Bridges (bridge_routes at_right at_left) before.links after.links done
  pub tells :
      (left right : Ends) (rest gone : List Ends) → before.links.coming ≡ Some (left ∷ right ∷ rest) → before.links.gone ≡ Some gone →
      TellsBridge (bridge_routes at_right at_left) left right rest gone after.links done
  pub same : after ≡ record before { links = after.links; written = after.written; failed = after.failed }
  pub no_journal : reason_of done ≢ JournalLimit
  pub writes : WritesServed (bridge_text done) (reason_of done) before.written after.written before.failed after.failed outcome

-- A link couldn't be made.
pub record FailsToBridge (before after : Devices) (outcome : Outcome) : Type 0 where
  pub none : IsNoBridge before.links after.links
  pub same : after ≡ record before { links = after.links }
  pub fault : outcome ≡ LinkFault
  pub cause : Rose before.links.faults after.links.faults

abbrev pub DidBridge : ℕ → ℕ → Devices → Devices → Outcome → Type 0
DidBridge at_right at_left before after outcome = RunsBridge at_right at_left before after outcome ⊎ FailsToBridge before after outcome
