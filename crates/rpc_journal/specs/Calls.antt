-- The calls of a history, as its deeds tell of them. Deeds stand the newest first.
use Rattle.std.specs.Prelude.{ℕ, Bool, false, not, ◌&&◌, ◌||◌, ◌==◌, List, [], ◌∷◌, ◌++◌, length, slice_get, Option, Some, None, option_to_list, option_and_then, if◌then◌else◌}
use Rattle.rpc_ids.specs.declared.status.Status.{Status}
use Rattle.rpc_packet.specs.declared.call_name.CallName.{CallName}
use Rattle.rpc_journal.specs.declared.entry.EntryKind.{EntryKind}
use Rattle.rpc_journal.specs.declared.entry.EntryKind.TheVariants.{Start, Finish, Cancel, Replace}
use Rattle.rpc_journal.specs.Effect.{Opening, Deed}
use Rattle.rpc_journal.specs.Kinds.{is_empty}

-- of a list of pairs, what stands with this number
abbrev pub of_call : {A : Type 0} → ℕ → List (ℕ × A) → List A
of_call c [] = []
of_call c (x ∷ xs) = if x.0 == c then x.1 ∷ of_call c xs else of_call c xs

abbrev pub same_name : CallName → CallName → Bool
same_name a b = (a.channel == b.channel) && (a.service == b.service) && (a.method == b.method) && (a.call == b.call)

-- the calls, in the order of their openings; the place of a call here is its number
abbrev pub calls : List Deed → List Opening
calls [] = []
calls (d ∷ ds) = calls ds ++ option_to_list d.does.opens

-- how many calls there are
abbrev pub call_count : List Deed → ℕ
call_count ds = length (calls ds)

-- the call with this number
abbrev pub call_at : List Deed → ℕ → Option Opening
call_at ds c = slice_get (calls ds) c

-- the statuses of the entries that close c, in order
abbrev pub ends_of : List Deed → ℕ → List Status
ends_of [] c = []
ends_of (d ∷ ds) c = ends_of ds c ++ of_call c d.does.ends

abbrev pub has_end : List Deed → ℕ → Bool
has_end ds c = not (is_empty (ends_of ds c))

-- the status with which c ended
abbrev pub end_of : List Deed → ℕ → Option Status
end_of ds c = slice_get (ends_of ds c) 0

abbrev pub opens_named : CallName → Option Opening → Bool
opens_named name None = false
opens_named name (Some o) = same_name o.name name

-- the last call of this name
abbrev pub last_call : List Deed → CallName → Option ℕ
last_call [] name = None
last_call (d ∷ ds) name = if opens_named name d.does.opens then Some (call_count ds) else last_call ds name

-- the last call of this name, where it has no end
abbrev pub live_call : List Deed → CallName → Option ℕ
live_call ds name = option_and_then (λ c. if has_end ds c then None else Some c) (last_call ds name)

abbrev pub is_start_of : ℕ → EntryKind → Bool
is_start_of c (Start x) = x == c
is_start_of c _ = false

abbrev pub is_finish_of : ℕ → EntryKind → Bool
is_finish_of c (Finish x a) = x == c
is_finish_of c _ = false

abbrev pub is_cancel_of : ℕ → EntryKind → Bool
is_cancel_of c (Cancel x) = x == c
is_cancel_of c _ = false

abbrev pub is_replace_of : ℕ → EntryKind → Bool
is_replace_of c (Replace x m) = x == c
is_replace_of c _ = false

-- a Cancel of c is there
abbrev pub is_cancelled : List Deed → ℕ → Bool
is_cancelled [] c = false
is_cancelled (d ∷ ds) c = is_cancel_of c d.entry.kind || is_cancelled ds c

-- the seat of the last Start of c, where no Finish of c follows it
abbrev pub runner_of : List Deed → ℕ → Option ℕ
runner_of [] c = None
runner_of (d ∷ ds) c =
    if is_start_of c d.entry.kind then Some d.entry.seat
    else if is_finish_of c d.entry.kind then None
    else runner_of ds c

-- a Replace of c stands behind its last Start
abbrev pub is_replaced : List Deed → ℕ → Bool
is_replaced [] c = false
is_replaced (d ∷ ds) c =
    if is_start_of c d.entry.kind then false
    else is_replace_of c d.entry.kind || is_replaced ds c
