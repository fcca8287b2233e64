-- The lines of a router's text.
use Rattle.std.specs.Prelude.{◌≡◌, ℕ, suc, ◌<◌, ◌≤◌, ◌^◌, ◌⊎◌, List, [], ◌∷◌, ◌++◌, length, codes, IsSome, IsNone}
use Rattle.std.specs.Fmt.{decimal}
use Rattle.hex.specs.Hex.{IsBytes, encode_lower}
use Rattle.frame_router.specs.declared.port.Port.{Port}
use Rattle.frame_router.specs.declared.routes.Route.{Route}
use Rattle.frame_router.specs.Routes.{port_of}
use Rattle.frame_router.specs.declared.text.line.Step.{Step}
use Rattle.frame_router.specs.declared.text.line.Step.TheVariants.{Feed, Drain}
use Rattle.frame_router.specs.text.Flows.{no_flows}
use Rattle.frame_router.specs.text.Printed.{printed, side_name}

-- a line with a route: the address lies at this side
pub record IsRouteLine (line : List ℕ) (port : Port) (address : ℕ) : Type 0 where
  pub small : address < 2 ^ 32
  pub spelled : line ≡ codes "to " ++ (side_name port ++ 32 ∷ decimal address)

-- some bytes in hexadecimal digits
abbrev pub IsFeed : List ℕ → Step → Type 0
IsFeed text (Feed from bytes) = IsBytes bytes × (text ≡ side_name from ++ 32 ∷ encode_lower bytes)
IsFeed text (Drain to count) = ⊥

-- 1 to 256 frames to be handed out
abbrev pub IsDrain : List ℕ → Step → Type 0
IsDrain text (Feed from bytes) = ⊥
IsDrain text (Drain to count) = (1 ≤ count) × (count ≤ 256) × (text ≡ side_name to ++ 32 ∷ decimal count)

-- a line with a step: bytes that come, or `drain` and how many frames are handed out
pub data IsStepLine : List ℕ → Step → Type 0 where
  feed_line : (line : List ℕ) (step : Step) → IsFeed line step → IsStepLine line step
  drain_line : (line rest : List ℕ) (step : Step) → line ≡ codes "drain " ++ rest → IsDrain rest step → IsStepLine line step

-- the lines are these steps
pub data AreSteps : List (List ℕ) → List Step → Type 0 where
  no_steps : AreSteps [] []
  one_step : (line : List ℕ) (step : Step) (lines : List (List ℕ)) (steps : List Step) → IsStepLine line step → AreSteps lines steps →
      AreSteps (line ∷ lines) (step ∷ steps)

-- a route may be added: the address has none, and fewer than 64 are there
pub record MayAdd (routes : List Route) (address : ℕ) : Type 0 where
  pub new : IsNone (port_of routes address)
  pub room : length routes < 64

abbrev pub with_route : List Route → Port → ℕ → List Route
with_route routes port address = routes ++ (record { address = address; port = port }) ∷ []

-- The lines are routes behind these, and then steps, of which this is printed.
pub data IsPrinted : List Route → List (List ℕ) → List ℕ → Type 0 where
  then_steps : (routes : List Route) (lines : List (List ℕ)) (steps : List Step) → AreSteps lines steps → IsPrinted routes lines (printed routes no_flows steps)
  one_route : (routes : List Route) (line : List ℕ) (port : Port) (address : ℕ) (lines : List (List ℕ)) (text : List ℕ) → IsRouteLine line port address →
      MayAdd routes address → IsPrinted (with_route routes port address) lines text → IsPrinted routes (line ∷ lines) text

-- How many steps stand in front of the first line that is none.
pub data HasNoStepAt : List (List ℕ) → ℕ → Type 0 where
  stray_line : (line : List ℕ) (lines : List (List ℕ)) → ((step : Step) → IsStepLine line step → ⊥) → HasNoStepAt (line ∷ lines) 0
  behind_step : (line : List ℕ) (step : Step) (lines : List (List ℕ)) (k : ℕ) → IsStepLine line step → HasNoStepAt lines k → HasNoStepAt (line ∷ lines) (suc k)

-- the first line has no route
abbrev pub BeginsWithNoRoute : List (List ℕ) → Type 0
BeginsWithNoRoute [] = Unit {0}
BeginsWithNoRoute (line ∷ lines) = (port : Port) (address : ℕ) → IsRouteLine line port address → ⊥

-- the address has a route, or 64 others have one
abbrev pub MayNotAdd : List Route → ℕ → Type 0
MayNotAdd routes address = IsSome (port_of routes address) ⊎ (64 ≤ length routes)

-- How many good lines stand in front of the first bad one.
pub data HasBadLine : List Route → List (List ℕ) → ℕ → Type 0 where
  bad_step : (routes : List Route) (lines : List (List ℕ)) (k : ℕ) → BeginsWithNoRoute lines → HasNoStepAt lines k → HasBadLine routes lines k
  bad_route : (routes : List Route) (line : List ℕ) (port : Port) (address : ℕ) (lines : List (List ℕ)) → IsRouteLine line port address →
      MayNotAdd routes address → HasBadLine routes (line ∷ lines) 0
  behind_route : (routes : List Route) (line : List ℕ) (port : Port) (address : ℕ) (lines : List (List ℕ)) (k : ℕ) → IsRouteLine line port address →
      MayAdd routes address → HasBadLine (with_route routes port address) lines k → HasBadLine routes (line ∷ lines) (suc k)
