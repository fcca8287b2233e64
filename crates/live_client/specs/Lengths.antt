-- How long a resource is that a transfer made whole.
use Rattle.std.specs.Prelude.{ℕ, ◌+◌, List, length, fold, Option, Some, None, unwrap_or, option_map}
use Rattle.std.specs.Io.Iter.{u64_saturate}
use Rattle.rpc_ids.specs.declared.status.Status.{Status}
use Rattle.rpc_ids.specs.declared.status.Status.TheVariants.{Okay}
use Rattle.rpc_handlers.specs.declared.answer.Out.{Out}
use Rattle.rpc_handlers.specs.declared.answer.Out.TheVariants.{Say, Begin, Append, Commit, Leave}

-- The end so far of the work of a session, where it is under way, and the end of the work that was made whole; as far as 64 bits
-- count.
pub record Work : Type 0 where
  pub end : Option ℕ
  pub whole : Option ℕ

abbrev pub no_work : Work
no_work = record { end = None; whole = None }

abbrev pub grown_by : ℕ → Work → Work
grown_by n w = record w { end = option_map (λ end. u64_saturate (end + n)) w.end }

abbrev pub work_after : Work → Out → Work
work_after w (Say payload) = w
work_after w (Begin session resource offset) = record w { end = Some offset }
work_after w (Append session bytes) = grown_by (length bytes) w
work_after w (Commit session) = record { end = None; whole = w.end }
work_after w (Leave session) = record w { end = None }

abbrev pub work_over : Work → List Out → Work
work_over w outs = fold work_after w outs

-- how long the resource is that these made whole: its offset and all bytes appended; 0 where they made none
abbrev pub committed_by : List Out → ℕ
committed_by outs = unwrap_or (work_over no_work outs).whole 0

-- how long the resource is that the board has told to be whole
abbrev pub length_put : List ℕ → Option Status → ℕ
length_put bytes (Some Okay) = length bytes
length_put bytes _ = 0
