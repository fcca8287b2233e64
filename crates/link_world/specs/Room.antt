-- Which entries of a journal had room in it.
use Rattle.std.specs.Prelude.{◌≡◌, ℕ, ◌<◌, Bool, true, false, List, slice_get, Some}
use Rattle.rpc_journal.specs.declared.entry.Entry.{Entry}
use Rattle.rpc_journal.specs.declared.entry.EntryKind.{EntryKind}
use Rattle.rpc_journal.specs.declared.entry.EntryKind.TheVariants.{Cancel, EndIn, Finish, Flush, Halt}
use Rattle.rpc_journal.specs.declared.entry.TheConstants.{MAX_ENTRIES}

-- a full journal takes these too: their room was kept for them
abbrev pub has_kept_room : EntryKind → Bool
has_kept_room (Finish c answer) = true
has_kept_room (Cancel c) = true
has_kept_room Flush = true
has_kept_room EndIn = true
has_kept_room (Halt why) = true
has_kept_room _ = false

-- EACH OTHER ENTRY STANDS AT A PLACE BELOW 1,000,000
abbrev pub StaysWithin : List Entry → Type 0
StaysWithin h = (at : ℕ) (e : Entry) → slice_get h at ≡ Some e → has_kept_room e.kind ≡ false → at < MAX_ENTRIES
