-- The states of the handlers of a history, by the rule of their type.
use Rattle.std.specs.Prelude.{ℕ, Bool, true, false, ◌&&◌, ◌||◌, ◌==◌, List, [], ◌∷◌, ◌++◌, fold, Option, Some, None, is_some, unwrap_or, option_map, option_to_list, if◌then◌else◌}
use Rattle.rpc_handlers.specs.declared.event.Event.{Event}
use Rattle.rpc_handlers.specs.declared.event.Memo.{Memo}
use Rattle.rpc_handlers.specs.HandlerRule.{HandlerRule}
use Rattle.rpc_journal.specs.declared.entry.EntryKind.{EntryKind}
use Rattle.rpc_journal.specs.declared.entry.EntryKind.TheVariants.{Replace}
use Rattle.rpc_journal.specs.declared.setting.Setting.{Setting}
use Rattle.rpc_journal.specs.Effect.{Opening, Deed}
use Rattle.rpc_journal.specs.Calls.{call_count, is_start_of, is_finish_of, is_replace_of}
use Rattle.rpc_journal.specs.Queues.{taken_event}

-- the state of a handler as its call opens: the one that an Invoke gives, or the first one of the maker's seed
abbrev pub opened_state : HandlerRule → Setting → Opening → Memo
opened_state rule set o = unwrap_or o.given (rule.first set.seed o.method)

abbrev pub replacing_state : EntryKind → Option Memo
replacing_state (Replace c m) = Some m
replacing_state _ = None

-- the deed opens c, where ds are those before it
abbrev pub opens_call : List Deed → Deed → ℕ → Bool
opens_call ds d c = is_some d.does.opens && (call_count ds == c)

abbrev pub sets_state : List Deed → Deed → ℕ → Bool
sets_state ds d c = opens_call ds d c || is_replace_of c d.entry.kind

-- the state that the last Replace of c set, or else its opening
abbrev pub state_set : HandlerRule → Setting → List Deed → ℕ → Option Memo
state_set rule set [] c = None
state_set rule set (d ∷ ds) c =
    if is_replace_of c d.entry.kind then replacing_state d.entry.kind
    else if opens_call ds d c then option_map (opened_state rule set) d.does.opens
    else state_set rule set ds c

-- the last run of c began after the entry that set its state
abbrev pub began_since : List Deed → ℕ → Bool
began_since [] c = false
began_since (d ∷ ds) c =
    if is_start_of c d.entry.kind then true
    else if sets_state ds d c then false
    else began_since ds c

-- the events of those runs of c that began after that entry and have finished, in order
abbrev pub finished_since : List Deed → ℕ → List Event
finished_since [] c = []
finished_since (d ∷ ds) c =
    if sets_state ds d c then []
    else if is_finish_of c d.entry.kind && began_since ds c then finished_since ds c ++ option_to_list (taken_event ds c)
    else finished_since ds c

-- the state of c's handler: the one set, moved on by the events of those runs
abbrev pub state_of : HandlerRule → Setting → List Deed → ℕ → Option Memo
state_of rule set ds c = option_map (λ m. fold rule.next m (finished_since ds c)) (state_set rule set ds c)

-- its state before the last Start of c
abbrev pub state_before_run : HandlerRule → Setting → List Deed → ℕ → Option Memo
state_before_run rule set [] c = None
state_before_run rule set (d ∷ ds) c =
    if is_start_of c d.entry.kind then state_of rule set ds c
    else state_before_run rule set ds c
