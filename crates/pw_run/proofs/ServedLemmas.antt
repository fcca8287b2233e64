-- What was served of a stream, to whoever stands behind its bytes.
use Rattle.std.proofs.Common.{◌≡◌, ℕ, List, [], ◌++◌, Option, ap, sym, ◌∙◌, subst}
use Rattle.std.proofs.lemmas.List.{append-nil}
use Rattle.rpc_packet.specs.declared.owned.Packet.{Packet}
use Rattle.rpc_handlers.specs.HandlerRule.{HandlerRule}
use Rattle.rpc_journal.specs.declared.item.Item.{Item}
use Rattle.rpc_journal.specs.CallTable.{Table}
use Rattle.rpc_schedule.specs.declared.ending.Ending.{Ending}
use Rattle.rpc_schedule.specs.declared.ending.Ending.TheVariants.{AtEnd, SourceFault, StoreFault, InputLimit, JournalLimit}
use Rattle.rpc_schedule.specs.OneThread.{AreOfOneThread}
use Rattle.rpc_schedule.specs.Replays.{BreaksOff, FillsJournal, Replayed, Replays, StopsBehind}
use Rattle.rpc_schedule.proofs.OneThreadLemmas.{full_all, store_all, whole_all}
use Rattle.pw_run.specs.Replay.{IsUntold}

-- what was fed before memory was wanting, with no count of its segments
pub broken_as : (heard : List ℕ → List Packet) (P : List ℕ → Type 0) (left_old left_new : Option (List ℕ)) (table : Table) (items : List Item)
    → BreaksOff heard P left_old left_new table items → BreaksOff heard IsUntold left_old left_new table items
broken_as heard P left_old left_new table items b = record {
  bytes = b.bytes;
  unfed = b.unfed;
  taken = b.taken;
  within = b.within;
  fed = tt;
  arrived = b.arrived;
  sent = b.sent;
}

replays_as : {rule : HandlerRule} {heard : List ℕ → List Packet} (P Q : List ℕ → Type 0)
    {left_old left_new : Option (List ℕ)} {ending : Ending} {table : Table} {items : List Item}
    → ((bytes : List ℕ) → P bytes → Q bytes)
    → Replays rule heard P left_old left_new ending table items → Replays rule heard Q left_old left_new ending table items
replays_as P Q so r = record {
  bytes = r.bytes;
  taken = r.taken;
  within = r.within;
  below = r.below;
  at_end = r.at_end;
  at_limit = r.at_limit;
  fed = so r.bytes r.fed;
  arrived = r.arrived;
  history = r.history;
  room = r.room;
  settled = r.settled;
  items_are = r.items_are;
}

stops_as : {heard : List ℕ → List Packet} (P Q : List ℕ → Type 0) {left_old left_new : Option (List ℕ)} {table : Table} → ((bytes : List ℕ) → P bytes → Q bytes)
    → StopsBehind heard P left_old left_new table → StopsBehind heard Q left_old left_new table
stops_as P Q so r = record {
  bytes = r.bytes;
  unfed = r.unfed;
  taken = r.taken;
  within = r.within;
  fed = so r.bytes r.fed;
  last = r.last;
  all = r.all;
}

-- what was served stands for each weaker word on the bytes
pub replayed_as : (rule : HandlerRule) (heard : List ℕ → List Packet) (P Q : List ℕ → Type 0)
    (left_old left_new : Option (List ℕ)) (ending : Ending) (table : Table) (items : List Item)
    → ((bytes : List ℕ) → P bytes → Q bytes)
    → Replayed rule heard P left_old left_new ending table items → Replayed rule heard Q left_old left_new ending table items
unfolding stops_as
replayed_as rule heard P Q left_old left_new AtEnd table items so r = replays_as P Q so r
replayed_as rule heard P Q left_old left_new SourceFault table items so r = replays_as P Q so r
replayed_as rule heard P Q left_old left_new InputLimit table items so r = replays_as P Q so r
replayed_as rule heard P Q left_old left_new JournalLimit table items so r =
    record { read = stops_as P Q so r.read; beginning = r.beginning; items_are = r.items_are }
replayed_as rule heard P Q left_old left_new StoreFault table items so r = record { read = stops_as P Q so r.read; stop = r.stop }

-- what was served of a stream has only the entries of one thread
pub replayed_entries : (rule : HandlerRule) (heard : List ℕ → List Packet) (P : List ℕ → Type 0)
    (left_old left_new : Option (List ℕ)) (ending : Ending) (table : Table) (items : List Item)
    → Replayed rule heard P left_old left_new ending table items → AreOfOneThread table.entries
replayed_entries rule heard P left_old left_new AtEnd table items r = whole_all rule table.setting (heard r.bytes) table.entries r.history
replayed_entries rule heard P left_old left_new SourceFault table items r = whole_all rule table.setting (heard r.bytes) table.entries r.history
replayed_entries rule heard P left_old left_new InputLimit table items r = whole_all rule table.setting (heard r.bytes) table.entries r.history
replayed_entries rule heard P left_old left_new JournalLimit table items r = full_all rule table.setting (heard r.read.bytes) table.entries r.beginning
replayed_entries rule heard P left_old left_new StoreFault table items r = store_all rule table.setting (heard r.read.bytes) table.entries items r.stop

-- all of a stream was taken
pub all_taken : (stream left bytes : List ℕ) → stream ≡ bytes ++ left → left ≡ [] → bytes ≡ stream
all_taken stream left bytes taken empty = sym (append-nil bytes) ∙ ap (λ rest. bytes ++ rest) (sym empty) ∙ sym taken

-- what was served of a stream that ended
pub at_end_of : {rule : HandlerRule} {heard : List ℕ → List Packet} {P : List ℕ → Type 0} {left_old left_new : Option (List ℕ)} {table : Table}
    (items : List Item) (ending : Ending) → ending ≡ AtEnd
    → Replayed rule heard P left_old left_new ending table items → Replays rule heard P left_old left_new AtEnd table items
at_end_of {rule} {heard} {P} {left_old} {left_new} {table} items ending is =
    subst (λ (e : Ending). Replayed rule heard P left_old left_new e table items → Replays rule heard P left_old left_new AtEnd table items) (sym is) (λ r. r)

-- what was served of a stream that met the limit
pub at_limit_of : {rule : HandlerRule} {heard : List ℕ → List Packet} {P : List ℕ → Type 0} {left_old left_new : Option (List ℕ)} {table : Table}
    (items : List Item) (ending : Ending) → ending ≡ InputLimit
    → Replayed rule heard P left_old left_new ending table items → Replays rule heard P left_old left_new InputLimit table items
at_limit_of {rule} {heard} {P} {left_old} {left_new} {table} items ending is =
    subst (λ (e : Ending). Replayed rule heard P left_old left_new e table items → Replays rule heard P left_old left_new InputLimit table items) (sym is) (λ r. r)

-- what was served of a stream that filled the journal
pub at_full_of : {rule : HandlerRule} {heard : List ℕ → List Packet} {P : List ℕ → Type 0} {left_old left_new : Option (List ℕ)} {table : Table}
    (items : List Item) (ending : Ending) → ending ≡ JournalLimit
    → Replayed rule heard P left_old left_new ending table items → FillsJournal rule heard P left_old left_new table items
at_full_of {rule} {heard} {P} {left_old} {left_new} {table} items ending is =
    subst (λ (e : Ending). Replayed rule heard P left_old left_new e table items → FillsJournal rule heard P left_old left_new table items) (sym is) (λ r. r)
