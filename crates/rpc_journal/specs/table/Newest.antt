-- The newest call of each name, in a map.
use Rattle.std.specs.Prelude.{◌≡◌, ℕ, List, Option, Some, if◌then◌else◌}
use Rattle.std.specs.Ordering.{nat_cmp, ordering_then}
use Rattle.std.specs.declared.cmp.Ordering.{Ordering}
use Rattle.std.specs.BTreeMap.{is_at}
use Rattle.std.specs.Map.{lookup}
use Rattle.rpc_packet.specs.declared.call_name.CallName.{CallName}
use Rattle.rpc_journal.specs.Calls.{last_call, same_name}
use Rattle.rpc_journal.specs.Effect.{Deed}

-- how two names compare
abbrev pub name_cmp : CallName → CallName → Ordering
name_cmp a b = ordering_then (nat_cmp a.channel b.channel) (ordering_then (nat_cmp a.service b.service) (ordering_then (nat_cmp a.method b.method) (nat_cmp a.call b.call)))

-- names with the numbers of their newest calls
abbrev pub Numbers : Type 0
Numbers = List (CallName × ℕ)

-- the newest call of a name, by these
abbrev pub newest_of : Numbers → CallName → Option ℕ
newest_of m name = lookup (is_at (name_cmp name)) m

-- they have the last call of each name in this history
abbrev pub AreNewest : List Deed → Numbers → Type 0
AreNewest ds m = (name : CallName) → newest_of m name ≡ last_call ds name

-- the newest call of each name is the same
abbrev pub IsSameNewest : Numbers → Numbers → Type 0
IsSameNewest before after = (name : CallName) → newest_of after name ≡ newest_of before name

-- call c has become the newest of this name, and no other name's has changed
abbrev pub IsNamed : CallName → ℕ → Numbers → Numbers → Type 0
IsNamed name c before after = (other : CallName) → newest_of after other ≡ (if same_name name other then Some c else newest_of before other)
