-- What all sessions of a call share, and where one of them stands.
use Rattle.std.specs.Prelude.{◌≡◌, ℕ, ◌+◌, ◌≤◌, false, [], ◌∷◌, Option, Some, None}
use Rattle.link_io.specs.declared.Shelf.{Shelf}
use Rattle.transfer_base.specs.declared.limits.TheConstants.{MAX_RESOURCE}
use Rattle.transfer_sender.specs.declared.sender.TheConstants.{MAX_TIMEOUTS}
use Rattle.transfer_receiver.specs.Phase.{is_ended}
use Rattle.transfer_words.specs.Saying.{Saying, Stepped}
use Rattle.transfer_resume.specs.declared.side.Side.{Side}
use Rattle.transfer_resume.specs.declared.stage.Stage.{Stage}
use Rattle.transfer_resume.specs.declared.stage.Stage.TheVariants as stage

pub record Service : Type 0 where
  pub side : Side
  -- what the store had
  pub shelf : Shelf
  -- how a receiver asks: the chunks of its first window, and the bytes of a chunk
  pub window : ℕ
  pub chunk : ℕ
  -- the moment of the last tick, 0 before the first
  pub time : ℕ

-- what stands of every session
abbrev pub IsLive : Stage → Type 0
IsLive (stage.Opening o) = (o.agreed ≤ MAX_RESOURCE) × (o.timeouts + 1 ≤ MAX_TIMEOUTS)
IsLive (stage.Sending s) = s.ended ≡ None
IsLive (stage.Receiving r) = is_ended r.phase ≡ false
IsLive (stage.Ended status) = Unit {0}

-- the session stands so then, and nothing is said
abbrev pub staying : Stage → Stepped Stage
staying stage = record { after = stage; sayings = [] }

-- it stands so then, and one thing is said
abbrev pub saying : Stage → Saying → Stepped Stage
saying stage said = record { after = stage; sayings = said ∷ [] }

-- a session that was there, or none, by its step
abbrev pub stepped : Stepped Stage → Stepped (Option Stage)
stepped step = record { after = Some step.after; sayings = step.sayings }

-- one session of a call, by its id
pub record Row : Type 0 where
  pub id : ℕ
  pub stage : Stage
