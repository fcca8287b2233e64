-- What a live client did, but for its errand.
use Rattle.std.specs.Prelude.{◌≡◌, ◌⊎◌, ℕ, ◌<◌, ◌≤◌, Bool, false, List, length, Option}
use Rattle.std.specs.Io.KnownBytes.{IsAtEnd}
use Rattle.link_io.specs.Causes.{Rose}
use Rattle.link_io.specs.Stored.{Stored}
use Rattle.link_io.specs.declared.why.Why.{Why}
use Rattle.link_io.specs.declared.why.Why.TheVariants.{Settled, Source, Sink, Store, InputLimit, JournalLimit}
use Rattle.rpc_ids.specs.declared.method.MethodRef.{MethodRef}
use Rattle.rpc_journal.specs.declared.entry.Entry.{Entry}
use Rattle.rpc_journal.specs.declared.entry.EntryKind.{EntryKind}
use Rattle.rpc_journal.specs.declared.entry.TheConstants.{MAX_ENTRIES}
use Rattle.rpc_schedule.specs.declared.stream.TheConstants.{INPUT_LIMIT}
use Rattle.rpc_shared.specs.session.Sessions.{is_halted}
use Rattle.live_client.specs.Ask.{live_setting}
use Rattle.live_client.specs.Live.{Begins, Explains, IsHistoryOf}

-- Its journal and why it ended, the bytes that it read and wrote, its store, and the faults of its source, sink and store.
pub record HasRun (method : MethodRef) (calls : Bool) (opening : EntryKind) (left_old left_new written_old written_new : Option (List ℕ)) (held_old held_new : Option Stored) (i0 i f0 f g0 g : ℕ) (why : Why) (read : ℕ) (h : List Entry) : Type 0 where
  pub history : IsHistoryOf method calls opening why h
  pub begins : Begins method left_old left_new written_old written_new held_old held_new read h
  pub explains : is_halted (live_setting method) h ≡ false → Explains method left_old left_new written_old written_new held_old held_new read h
  pub at_end : why ≡ Settled → IsAtEnd left_new
  pub at_limit : why ≡ InputLimit → read ≡ INPUT_LIMIT
  pub below : (why ≡ Settled) ⊎ (why ≡ Source) → read < INPUT_LIMIT
  pub full : why ≡ JournalLimit → MAX_ENTRIES ≤ length h
  pub source : why ≡ Source → Rose i0 i
  pub sink : why ≡ Sink → Rose f0 f
  pub store : why ≡ Store → Rose g0 g
