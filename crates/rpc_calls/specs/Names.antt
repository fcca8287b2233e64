-- The names of live calls.
use Rattle.std.specs.Prelude.{◌≡◌, ℕ, ◌&&◌, Bool, List, Option, eqb, if◌then◌else◌}
use Rattle.std.specs.Map.{lookup}
use Rattle.rpc_packet.specs.declared.call_name.CallName.{CallName}

-- names with the numbers of calls
abbrev pub Names : Type 0
Names = List (CallName × ℕ)

-- the two names are one
abbrev pub same_key : CallName → CallName → Bool
same_key a b = eqb a.channel b.channel && (eqb a.service b.service && (eqb a.method b.method && eqb a.call b.call))

-- the call under a name
abbrev pub call_under : Names → CallName → Option ℕ
call_under m name = lookup (same_key name) m

-- this is under the name now, and what is under any other is as it was
abbrev pub IsSetTo : CallName → Option ℕ → Names → Names → Type 0
IsSetTo name now before after = (other : CallName) → call_under after other ≡ (if same_key name other then now else call_under before other)

-- the same is under each name
abbrev pub AreSameNames : Names → Names → Type 0
AreSameNames before after = (name : CallName) → call_under after name ≡ call_under before name
