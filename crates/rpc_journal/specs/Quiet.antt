-- When a call, or a whole history, has nothing left to do.
use Rattle.std.specs.Prelude.{ℕ, zero, suc, Bool, true, ◌&&◌, ◌||◌, ◌==◌, List, length, is_none}
use Rattle.rpc_journal.specs.Effect.{Deed}
use Rattle.rpc_journal.specs.Calls.{call_count, is_cancelled, runner_of}
use Rattle.rpc_journal.specs.Queues.{waiting_of}
use Rattle.rpc_journal.specs.Items.{items_sent, flush_count, input_ended}
use Rattle.rpc_journal.specs.Kinds.{is_empty}

-- c is cancelled and has no run
abbrev pub is_quiet : List Deed → ℕ → Bool
is_quiet ds c = is_cancelled ds c && is_none (runner_of ds c)

-- c has no run, and no event of it waits that a run could take
abbrev pub is_still : List Deed → ℕ → Bool
is_still ds c = is_none (runner_of ds c) && (is_cancelled ds c || is_empty (waiting_of ds c))

abbrev pub all_below : ℕ → (ℕ → Bool) → Bool
all_below zero test = true
all_below (suc n) test = all_below n test && test n

-- no call runs
abbrev pub none_runs : List Deed → Bool
none_runs ds = all_below (call_count ds) (λ c. is_none (runner_of ds c))

-- the input has ended, no call runs, no event of a call that isn't cancelled waits, and all items were flushed
abbrev pub is_settled : List Deed → Bool
is_settled ds = input_ended ds && all_below (call_count ds) (is_still ds) && (flush_count ds == length (items_sent ds))
