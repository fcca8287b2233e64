-- What a look tells.
use Rattle.std.specs.Prelude.{◌≡◌, ◌&&◌, Bool, List}
use Rattle.rpc_journal.specs.declared.entry.Entry.{Entry}
use Rattle.rpc_journal.specs.declared.setting.Setting.{Setting}
use Rattle.rpc_journal.specs.Calls.{call_count}
use Rattle.rpc_journal.specs.Effect.{Deed}
use Rattle.rpc_journal.specs.History.{history}
use Rattle.rpc_journal.specs.Items.{halt_reason, input_ended}
use Rattle.rpc_journal.specs.Kinds.{is_empty}
use Rattle.rpc_journal.specs.Queues.{waiting_of}
use Rattle.rpc_journal.specs.Quiet.{all_below, is_settled, none_runs}
use Rattle.rpc_shared.specs.declared.look.Look.{Look}

-- the input has ended, no call runs, and no event waits for any call
abbrev pub is_idle : List Deed → Bool
is_idle ds = input_ended ds && none_runs ds && all_below (call_count ds) (λ c. is_empty (waiting_of ds c))

pub record LookDid (set : Setting) (result : Look) (before after : List Entry) : Type 0 where
  pub adds_nothing : after ≡ before
  pub settled : result.settled ≡ is_settled (history set before)
  pub idle : result.idle ≡ is_idle (history set before)
  pub halted : result.halted ≡ halt_reason (history set before)
  pub calls : result.calls ≡ call_count (history set before)
