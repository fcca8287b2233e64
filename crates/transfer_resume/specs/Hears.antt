-- What a session makes of a word.
use Rattle.std.specs.Prelude.{Bool, if◌then◌else◌, List, [], ◌∷◌, Option, Some, None}
use Rattle.rpc_ids.specs.declared.Status.{Status}
use Rattle.rpc_ids.specs.declared.Status.TheVariants.{ResourceExhausted, FailedPrecondition}
use Rattle.transfer_words.specs.Word.{Word, start, completion, completion_ack}
use Rattle.transfer_words.specs.Saying.{Saying, Stepped, says}
use Rattle.transfer_resume.specs.declared.stage.Stage.{Stage}
use Rattle.transfer_resume.specs.declared.stage.Stage.TheVariants as stage
use Rattle.transfer_resume.specs.Session.{Service, stepped}
use Rattle.transfer_resume.specs.Opening.{opened, opening_hears}
use Rattle.transfer_resume.specs.Sender.{sender_hears}
use Rattle.transfer_resume.specs.Receiver.{receiver_hears}

-- one that has ended tells its end again
abbrev pub ended_says : Status → Word → List Saying
ended_says status (completion told) = says completion_ack ∷ []
ended_says status completion_ack = []
ended_says status _ = says (completion status) ∷ []

-- one that is there
abbrev pub stage_hears : Service → Stage → Word → Stepped Stage
stage_hears k (stage.Opening o) w = opening_hears k o w
stage_hears k (stage.Sending s) w = sender_hears k.time s w
stage_hears k (stage.Receiving r) w = receiver_hears k.time r w
stage_hears k (stage.Ended status) w = record { after = stage.Ended status; sayings = ended_says status w }

-- none is there, and none comes to be
abbrev pub unknown : List Saying → Stepped (Option Stage)
unknown sayings = record { after = None; sayings = sayings }

-- a START opens one, where the call has room for it
abbrev pub unknown_hears : Service → Bool → Word → Stepped (Option Stage)
unknown_hears k room (start resource offset) =
    if room then stepped (opened k.side k resource offset) else unknown (says (completion ResourceExhausted) ∷ [])
unknown_hears k room (completion told) = unknown (says completion_ack ∷ [])
unknown_hears k room completion_ack = unknown []
unknown_hears k room _ = unknown (says (completion FailedPrecondition) ∷ [])

-- the session's machine: where it stands, if it is there, and what it makes of a word
abbrev pub session_hears : Service → Bool → Option Stage → Word → Stepped (Option Stage)
session_hears k room (Some stage) w = stepped (stage_hears k stage w)
session_hears k room None w = unknown_hears k room w
