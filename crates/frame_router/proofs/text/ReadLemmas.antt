-- Which lines are steps.
use Rattle.std.proofs.Common.{◌≡◌, ℕ, List, ◌∷◌, ◌++◌, Option, Some, None, IfNone, IfSome}
use Rattle.std.specs.Prelude.{codes}
use Rattle.hex.specs.Hex.{IsBytes, encode_lower}
use Rattle.frame_router.specs.declared.port.Port.{Port}
use Rattle.frame_router.specs.declared.text.line.Step.{Step}
use Rattle.frame_router.specs.declared.text.line.Step.TheVariants.{Feed, Drain}
use Rattle.frame_router.specs.text.Lines.{IsFeed, IsDrain, IsStepLine, feed_line, drain_line}
use Rattle.frame_router.specs.text.Printed.{side_name}

pub drain_found : (line rest : List ℕ) (found : Option Step) → line ≡ codes "drain " ++ rest → IfSome found (λ step. IsDrain rest step) →
    IfSome found (λ step. IsStepLine line step)
drain_found line rest None here is = is
drain_found line rest (Some step) here is = drain_line line rest step here is

pub feed_found : (line : List ℕ) (found : Option Step) → IfSome found (λ step. IsFeed line step) → IfSome found (λ step. IsStepLine line step)
feed_found line None is = is
feed_found line (Some step) is = feed_line line step is

no_step : (line : List ℕ) → ((rest : List ℕ) → line ≡ codes "drain " ++ rest → ⊥) →
    ((from : Port) (bytes : List ℕ) → IsBytes bytes → line ≡ side_name from ++ 32 ∷ encode_lower bytes → ⊥) → (step : Step) → IsStepLine line step → ⊥
no_step line drain none _ (feed_line _ (Feed from bytes) is) = none from bytes is.0 is.1
no_step line drain none _ (feed_line _ (Drain to count) is) = is
no_step line drain none _ (drain_line _ rest step e is) = drain rest e

pub none_found : (line : List ℕ) (found : Option Step) → ((rest : List ℕ) → line ≡ codes "drain " ++ rest → ⊥) →
    IfNone found ((from : Port) (bytes : List ℕ) → IsBytes bytes → line ≡ side_name from ++ 32 ∷ encode_lower bytes → ⊥) →
    IfNone found ((step : Step) → IsStepLine line step → ⊥)
none_found line None drain none = no_step line drain none
none_found line (Some step) drain none = none
