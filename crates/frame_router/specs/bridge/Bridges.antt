-- What a bridge between two links did.
use Rattle.std.specs.Prelude.{◌≡◌, ◌⊎◌, ℕ, List, [], ◌∷◌, ◌++◌, Option, Some}
use Rattle.link_io.specs.declared.why.Why.{Why}
use Rattle.link_io.specs.declared.why.Why.TheVariants.{Settled, Memory}
use Rattle.link_io.specs.Links.{Ends, HandsOut, KeepsLinks, Links, TakesBack}
use Rattle.frame_router.specs.declared.port.Port.TheVariants.{Left, Right}
use Rattle.frame_router.specs.declared.pumping.Pumped.{Pumped}
use Rattle.frame_router.specs.declared.routes.Route.{Route}
use Rattle.frame_router.specs.Pumped.{Pumps}
use Rattle.frame_router.specs.declared.bridge.bridged.Bridged.{Bridged}

-- one address lies at the right, and one at the left
abbrev pub bridge_routes : ℕ → ℕ → List Route
bridge_routes at_right at_left = (record { address = at_right; port = Right }) ∷ (record { address = at_left; port = Left }) ∷ []

-- why a bridge ended, by the directions from the left and from the right
abbrev pub first_reason : Why → Why → Why
first_reason Settled right = right
first_reason left right = left

abbrev pub reason_of : Bridged → Why
reason_of done = first_reason done.from_left.why done.from_right.why

-- there was no memory to begin
abbrev pub nothing_pumped : Pumped
nothing_pumped = record { why = Memory; tally = record { passed = 0; home = 0; lost = 0; other = 0; bad = 0; full = 0 }; read = 0 }

-- the ends of a link at a moment, where they tell: the bytes left to read from the one, and those written to the other
pub record LinkState : Type 0 where
  pub left : Option (List ℕ)
  pub written : Option (List ℕ)

-- The links of a linker: one at the left and then one at the right was handed out. Each direction was pumped, so that a link got
-- the frames that pass of what the other one gave. Then the links were handed back, the left one first.
pub record Bridges (routes : List Route) (old new : Links) (done : Bridged) : Type 0 where
  -- the links as they were handed out, and as they were handed back
  pub left : LinkState
  pub right : LinkState
  pub left_end : LinkState
  pub right_end : LinkState
  -- the faults of their ends
  pub left_in_faults : ℕ
  pub left_out_faults : ℕ
  pub right_in_faults : ℕ
  pub right_out_faults : ℕ
  -- behind the first link handed out, behind the second, and behind the first handed back
  pub one_out : Links
  pub both_out : Links
  pub one_back : Links
  pub left_out : HandsOut old one_out left.left left.written
  pub right_out : HandsOut one_out both_out right.left right.written
  pub from_left : Pumps routes Left left.left left_end.left right.written right_end.written done.from_left
  pub from_right : Pumps routes Right right.left right_end.left left.written left_end.written done.from_right
  pub left_back : TakesBack both_out one_back left_end.left left_end.written left_in_faults left_out_faults
  pub right_back : TakesBack one_back new right_end.left right_end.written right_in_faults right_out_faults

-- What a linker that tells its ends tells of the two links that it had first: what is left of what each gave, and what it got.
pub record TellsBridge (routes : List Route) (left right : Ends) (rest before : List Ends) (new : Links) (done : Bridged) : Type 0 where
  pub left_end : Ends
  pub right_end : Ends
  pub coming : new.coming ≡ Some rest
  pub gone : new.gone ≡ Some (before ++ left_end ∷ right_end ∷ [])
  pub from_left : Pumps routes Left (Some left.0) (Some left_end.0) (Some right.1) (Some right_end.1) done.from_left
  pub from_right : Pumps routes Right (Some right.0) (Some right_end.0) (Some left.1) (Some left_end.1) done.from_right

-- the link at the left was handed out, and back as it was
pub record HandsBack (old new : Links) : Type 0 where
  pub left : Option (List ℕ)
  pub written : Option (List ℕ)
  pub one_out : Links
  pub refused : Links
  pub left_out : HandsOut old one_out left written
  pub kept : KeepsLinks one_out refused
  pub left_back : TakesBack refused new left written 0 0

-- the link at the left couldn't be made, or that at the right
abbrev pub IsNoBridge : Links → Links → Type 0
IsNoBridge old new = KeepsLinks old new ⊎ HandsBack old new
