-- What a settled table has left to do.
use Rattle.std.specs.Prelude.{◌≡◌, ℕ, List, [], None}
use Rattle.rpc_handlers.specs.declared.event.Memo.{Memo}
use Rattle.rpc_handlers.specs.HandlerRule.{HandlerRule}
use Rattle.rpc_journal.specs.declared.entry.Entry.{Entry}
use Rattle.rpc_journal.specs.declared.setting.Setting.{Setting}
use Rattle.rpc_journal.specs.Calls.{runner_of}
use Rattle.rpc_journal.specs.Effect.{Opening}
use Rattle.rpc_journal.specs.History.{history}
use Rattle.rpc_journal.specs.Items.{halt_reason}
use Rattle.rpc_journal.specs.Lawful.{IsLawful}
use Rattle.rpc_journal.specs.Queues.{waiting_of}
use Rattle.rpc_schedule.specs.Schedule.{Settles}
use Rattle.history_laws.specs.rounds.Streams.{HasStream, IsAtRest}

-- whatever came before: a lawful table that has settled is at rest, if no run was on and nothing was halted when it began
abbrev pub SettledIsAtRest : Type 0
SettledIsAtRest = (rule : HandlerRule) (set : Setting) (before after : List Entry) → ((c : ℕ) → runner_of (history set before) c ≡ None)
    → halt_reason (history set before) ≡ None → Settles rule set before after → IsLawful set after → IsAtRest (history set after)

-- a settling leaves a stream open, with its handler in the same state, where no event waits for it, whatever the other calls do
abbrev pub SettlingLeavesStreams : Type 0
SettlingLeavesStreams = (rule : HandlerRule) (set : Setting) (before after : List Entry) (k : ℕ) (o : Opening) (m : Memo) → waiting_of (history set before) k ≡ []
    → HasStream rule set (history set before) k o m → Settles rule set before after → HasStream rule set (history set after) k o m
