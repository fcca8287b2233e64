-- A history: its entries in order, each with what it does after those before it.
use Rattle.std.specs.Prelude.{ℕ, List, [], ◌∷◌, ◌++◌, reverse}
use Rattle.rpc_journal.specs.declared.entry.Entry.{Entry}
use Rattle.rpc_journal.specs.declared.entry.EntryKind.{EntryKind}
use Rattle.rpc_journal.specs.declared.setting.Setting.{Setting}
use Rattle.rpc_journal.specs.Effect.{Effect, Deed}
use Rattle.rpc_journal.specs.Entries.{effect_of}

-- one more entry
abbrev pub deeds_with : Setting → List Deed → Entry → List Deed
deeds_with set ds e = record { entry = e; does = effect_of set ds e.kind } ∷ ds

-- the deeds of entries that stand the newest first
abbrev pub deeds_of : Setting → List Entry → List Deed
deeds_of set [] = []
deeds_of set (e ∷ h) = deeds_with set (deeds_of set h) e

-- the deeds, the newest first, of entries in order
abbrev pub history : Setting → List Entry → List Deed
history set h = deeds_of set (reverse h)

-- an entry of this seat
abbrev pub entry_by : ℕ → EntryKind → Entry
entry_by seat kind = record { seat = seat; kind = kind }

-- the deed of this seat's entry
abbrev pub deed_by : ℕ → EntryKind → Effect → Deed
deed_by seat kind does = record { entry = entry_by seat kind; does = does }

-- one more entry, of this seat
abbrev pub adding : List Entry → ℕ → EntryKind → List Entry
adding h seat kind = h ++ entry_by seat kind ∷ []
