-- How much of a resource a session has made whole, by the store actions among items.
use Rattle.std.specs.Prelude.{ℕ, ◌+◌, ◌==◌, ◌&&◌, if◌then◌else◌, List, length, Option, Some, None}
use Rattle.std.specs.Io.Iter.{u64_saturate}
use Rattle.rpc_journal.specs.declared.item.Item.{Item}
use Rattle.rpc_journal.specs.StoreSteps.{StoreSteps, store_after}
use Rattle.rpc_journal.specs.Kinds.{or_else}

-- Of the work of one session: its end so far, where it is under way, and the end of the first work that was committed; as
-- far as 64 bits count.
pub record Progress : Type 0 where
  pub end : Option ℕ
  pub whole : Option ℕ

abbrev pub no_progress : Progress
no_progress = record { end = None; whole = None }

abbrev pub longer_by : ℕ → Option ℕ → Option ℕ
longer_by n None = None
longer_by n (Some end) = Some (u64_saturate (end + n))

abbrev pub begins_at : ℕ → Progress → Progress
begins_at offset p = record p { end = Some offset }

abbrev pub grows_by : ℕ → Progress → Progress
grows_by n p = record p { end = longer_by n p.end }

abbrev pub is_whole : Progress → Progress
is_whole p = record { end = None; whole = or_else p.whole p.end }

abbrev pub is_left : Progress → Progress
is_left p = record p { end = None }

-- the steps of a session of a call; those of other sessions change nothing
abbrev pub progress_steps : ℕ → ℕ → StoreSteps Progress
progress_steps call session = record {
  begin = λ c s resource offset p. if (c == call) && (s == session) then begins_at offset p else p;
  append = λ c s bytes p. if (c == call) && (s == session) then grows_by (length bytes) p else p;
  commit = λ c s p. if (c == call) && (s == session) then is_whole p else p;
  leave = λ c s p. if (c == call) && (s == session) then is_left p else p;
  leave_call = λ c p. if c == call then is_left p else p;
}

-- THE LENGTH THAT A SESSION OF A CALL HAS COMMITTED, IF IT HAS: the offset of its work with all bytes appended to it
abbrev pub committed : List Item → ℕ → ℕ → Option ℕ
committed items session call = (store_after (progress_steps call session) no_progress items).whole
