-- The first thing that speaks against each call of a table, where something does; of the entries before it.
use Rattle.std.specs.Prelude.{ℕ, Bool, not, ◌&&◌, nat_le, List, length, Option, Some, None, is_none, option_map, unwrap_or, if◌then◌else◌}
use Rattle.rpc_ids.specs.declared.status.Status.TheVariants.{Cancelled}
use Rattle.rpc_packet.specs.declared.call_name.CallName.{CallName}
use Rattle.rpc_packet.specs.declared.owned.Packet.{Packet}
use Rattle.rpc_channel.specs.Rising.{has_id}
use Rattle.rpc_handlers.specs.declared.answer.Out.{Out}
use Rattle.rpc_handlers.specs.declared.answer.Out.TheVariants.{Say as Message}
use Rattle.rpc_journal.specs.declared.answers.ArriveRefused as arrive
use Rattle.rpc_journal.specs.declared.answers.InvokeRefused as invoke
use Rattle.rpc_journal.specs.declared.answers.SayRefused as say
use Rattle.rpc_journal.specs.declared.answers.StartOfRefused as start_of
use Rattle.rpc_journal.specs.declared.answers.ReplaceRefused as replace
use Rattle.rpc_journal.specs.declared.answers.StartRefused as start
use Rattle.rpc_journal.specs.declared.answers.CloseRefused as close
use Rattle.rpc_journal.specs.declared.entry.Entry.{Entry}
use Rattle.rpc_journal.specs.declared.setting.Setting.{Setting}
use Rattle.rpc_journal.specs.Effect.{Deed}
use Rattle.rpc_journal.specs.Calls.{call_count, call_at, end_of, is_cancelled, live_call}
use Rattle.rpc_journal.specs.Items.{is_done, is_ready}
use Rattle.rpc_journal.specs.Lawful.{full_queue, has_stream, is_unary_call}
use Rattle.rpc_journal.specs.Kinds.{is_server, or_else}
use Rattle.rpc_journal.specs.Rows.{channels_in, method_named}
use Rattle.rpc_journal.specs.History.{history}

-- the journal has as many entries as it may have, 1,000,000, or more
abbrev pub is_full : List Entry → Bool
is_full h = nat_le 1000000 (length h)

abbrev pub refused_where : {E : Type 0} → Bool → E → Option E
refused_where test refusal = if test then Some refusal else None

abbrev pub arrive_refusal : Setting → List Entry → Packet → Option arrive.ArriveRefused
arrive_refusal set h p =
    or_else (refused_where (is_full h) arrive.TheVariants.JournalFull)
    (option_map arrive.TheVariants.QueueFull (full_queue set (history set h) p))

abbrev pub invoke_refusal : Setting → List Entry → CallName → Option invoke.InvokeRefused
invoke_refusal set h name =
    or_else (refused_where (is_full h) invoke.TheVariants.JournalFull)
    (or_else (refused_where (not (has_id (channels_in set (history set h)) name.channel)) invoke.TheVariants.NoChannel)
    (or_else (refused_where (is_none (method_named set name)) invoke.TheVariants.NoMethod)
    (option_map invoke.TheVariants.Live (live_call (history set h) name))))

-- of a message: the call has an end, it has no stream in this direction, or this client has completed it
abbrev pub message_refusal : Setting → List Deed → ℕ → Option say.SayRefused
message_refusal set ds c =
    or_else (option_map say.TheVariants.Closed (end_of ds c))
    (or_else (refused_where (not (has_stream set.role (call_at ds c))) say.TheVariants.NoStream)
    (refused_where (not (is_server set.role) && is_done ds c) say.TheVariants.Completed))

-- of a store action: the call was cancelled
abbrev pub out_refusal : Setting → List Deed → ℕ → Out → Option say.SayRefused
out_refusal set ds c (Message payload) = message_refusal set ds c
out_refusal set ds c out = refused_where (is_cancelled ds c) (say.TheVariants.Closed (unwrap_or (end_of ds c) Cancelled))

abbrev pub say_refusal : Setting → List Entry → ℕ → Out → Option say.SayRefused
say_refusal set h c out =
    or_else (refused_where (is_full h) say.TheVariants.JournalFull) (out_refusal set (history set h) c out)

abbrev pub done_refusal : Setting → List Entry → ℕ → Option say.SayRefused
done_refusal set h c =
    or_else (refused_where (is_full h) say.TheVariants.JournalFull)
    (or_else (option_map say.TheVariants.Closed (end_of (history set h) c))
    (or_else (refused_where (is_unary_call (call_at (history set h) c)) say.TheVariants.NoStream)
    (refused_where (is_done (history set h) c) say.TheVariants.Completed)))

abbrev pub start_of_refusal : Setting → List Entry → ℕ → Option start_of.StartOfRefused
start_of_refusal set h c =
    or_else (refused_where (is_full h) start_of.TheVariants.JournalFull)
    (refused_where (not (is_ready (history set h) c)) start_of.TheVariants.NotReady)

abbrev pub replace_refusal : Setting → List Entry → ℕ → Option replace.ReplaceRefused
replace_refusal set h c =
    or_else (refused_where (is_full h) replace.TheVariants.JournalFull)
    (or_else (refused_where (nat_le (call_count (history set h)) c) replace.TheVariants.Unknown)
    (option_map replace.TheVariants.Closed (end_of (history set h) c)))

abbrev pub tick_refusal : List Entry → Option start.StartRefused
tick_refusal h = refused_where (is_full h) start.TheVariants.JournalFull

abbrev pub close_refusal : Setting → List Entry → ℕ → Option close.CloseRefused
close_refusal set h channel =
    or_else (refused_where (is_full h) close.TheVariants.JournalFull)
    (refused_where (not (has_id (channels_in set (history set h)) channel)) close.TheVariants.NotIn)
