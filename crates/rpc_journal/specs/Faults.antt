-- What a judge of histories finds.
use Rattle.std.specs.Prelude.{◌≡◌, ℕ, List, take, slice_get, Some, None}
use Rattle.rpc_ids.specs.declared.method.MethodRef.{MethodRef}
use Rattle.rpc_ids.specs.declared.method.Role.{Role}
use Rattle.rpc_journal.specs.declared.table.call_states.CallStates.{CallStates}
use Rattle.rpc_journal.specs.declared.entry.Entry.{Entry}
use Rattle.rpc_journal.specs.declared.fault.Fault.{Fault}
use Rattle.rpc_journal.specs.declared.setting.Setting.{Setting}
use Rattle.rpc_journal.specs.Effect.{Deed}
use Rattle.rpc_journal.specs.History.{history}
use Rattle.rpc_journal.specs.Lawful.{IsLawful, broken}
use Rattle.rpc_journal.specs.table.Agrees.{Agrees}

-- a setting of this role, with these channels and methods, whatever its seed
pub record IsSettingOf (set : Setting) (side : Role) (ids : List ℕ) (methods : List MethodRef) : Type 0 where
  pub role : set.role ≡ side
  pub channels : set.channels ≡ ids
  pub registry : set.registry ≡ methods

-- the fault is at the first entry that isn't allowed, and its rule is the first one that this entry breaks
pub record IsFirstFault (set : Setting) (h : List Entry) (fault : Fault) : Type 0 where
  pub entry : Entry
  pub there : slice_get h fault.at ≡ Some entry
  pub before : IsLawful set (take fault.at h)
  pub breaks : broken set (history set (take fault.at h)) entry ≡ Some fault.rule

-- the table tells of a history after which an endpoint of this role allows this entry
pub record IsAllowedNext (t : CallStates) (e : Entry) (side : Role) (ids : List ℕ) (methods : List MethodRef) : Type 0 where
  pub set : Setting
  pub past : List Deed
  pub setting : IsSettingOf set side ids methods
  pub agrees : Agrees past t
  pub allowed : broken set past e ≡ None
