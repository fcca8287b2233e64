-- A link of one direction, and what becomes of a frame that is put on it.
use Rattle.std.specs.Prelude.{ℕ, ◌==◌, ◌*◌, ◌/◌, ◌%◌, ◌^◌, if◌then◌else◌, List, [], ◌∷◌, ◌++◌, length, Option, Some, None, bit_xor, slice_index, slice_set}
use Rattle.link_script.specs.declared.loss.Loss.{Loss}
use Rattle.link_script.specs.declared.loss.Loss.TheVariants.{Lose, Repeat, Swap, Flip}

-- the frames on it, the oldest first, and those that are kept back, the newest first
pub record Link : Type 0 where
  pub frames : List (List ℕ)
  pub kept_back : List (List ℕ)

abbrev pub new_link : Link
new_link = record { frames = []; kept_back = [] }

-- what was kept back is on the link, behind all other frames
abbrev pub released : Link → Link
released l = record { frames = l.frames ++ l.kept_back; kept_back = [] }

-- these are put on the link, and what was kept back comes right behind them
abbrev pub putting : List (List ℕ) → Link → Link
putting frames l = released (record l { frames = l.frames ++ frames })

-- this weight is turned over in the byte at this place
abbrev pub turned_at : ℕ → ℕ → List ℕ → List ℕ
turned_at place weight bytes = slice_set bytes place (bit_xor (slice_index bytes place) weight)

-- one bit is turned over: that of this number modulo the bits of the frame, from the lowest bit of the first byte on
abbrev pub with_bit_turned : ℕ → List ℕ → List ℕ
with_bit_turned bit frame =
    turned_at (bit % (8 * length frame) / 8) (2 ^ (bit % (8 * length frame) % 8)) frame

-- A FRAME IS PUT ON A LINK
abbrev pub put : Option Loss → List ℕ → Link → Link
put None frame l = putting (frame ∷ []) l
put (Some Lose) frame l = l
put (Some Repeat) frame l = putting (frame ∷ frame ∷ []) l
put (Some Swap) frame l = record l { kept_back = frame ∷ l.kept_back }
put (Some (Flip bit)) frame l = putting (with_bit_turned bit frame ∷ []) l

-- what is done to the frame of this number
abbrev pub loss_of : ℕ → List (ℕ × Loss) → Option Loss
loss_of number [] = None
loss_of number (first ∷ losses) = if first.0 == number then Some first.1 else loss_of number losses
