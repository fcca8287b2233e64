-- How a run ends where no device fails.
use Rattle.std.proofs.Common.{◌≡◌, ◌≢◌, ◌⊎◌, ℕ, ◌<◌, ◌≤◌, List, ◌++◌, length, Option, Some, None, IfSome, refl, ap, sym, ◌∙◌, subst, inl, inr, arith, length-append, append_assoc}
use Rattle.std.specs.Io.KnownBytes.{Consumes}
use mathlib.Core.List.{IsPrefix}
use Rattle.link_io.specs.declared.shelf.Shelf.{Shelf}
use Rattle.link_io.specs.Stored.{Stored, shelf_of}
use Rattle.link_io.specs.declared.why.Why.{Why}
use Rattle.link_io.specs.declared.why.Why.TheVariants as reason
use Rattle.rpc_ids.specs.declared.method.Role.TheVariants.{Server}
use Rattle.rpc_frames.specs.declared.counts.Counts.{Counts}
use Rattle.rpc_frames.specs.Heard.{heard_packets}
use Rattle.rpc_journal.specs.declared.entry.Entry.{Entry}
use Rattle.rpc_journal.specs.declared.item.Item.{Item}
use Rattle.rpc_journal.specs.CallTable.{Table}
use Rattle.rpc_schedule.specs.declared.ending.Ending.{Ending}
use Rattle.rpc_schedule.specs.declared.ending.Ending.TheVariants as ended
use Rattle.rpc_schedule.specs.declared.stream.TheConstants.{INPUT_LIMIT}
use Rattle.rpc_schedule.specs.OneThread.{HasRoom, IsFullBeginning, IsOneThreadHistory}
use Rattle.rpc_schedule.proofs.ScheduleLemmas.{one_history}
use Rattle.demo_services.specs.DemoRule.{demo_rule}
use Rattle.pw_run.specs.declared.command.Command.{Command}
use Rattle.pw_run.specs.declared.command.Command.TheVariants.{Replay, Text, Load, Dump}
use Rattle.pw_run.specs.declared.command.Form.{Form}
use Rattle.pw_run.specs.declared.outcome.Outcome.{Outcome}
use Rattle.pw_run.specs.declared.outcome.Outcome.TheVariants.{Done, NoMemory, BadWords, SourceFault, SinkFault, StoreFault, LinkFault, BadLine, InputLimit, JournalLimit, FrameLimit, NotOkay}
use Rattle.pw_run.specs.declared.text_command.TextCommand.{TextCommand}
use Rattle.pw_run.specs.declared.told.Found.{Found}
use Rattle.pw_run.specs.declared.told.Found.TheVariants as found
use Rattle.pw_run.specs.Demo.{demo_setting}
use Rattle.pw_run.specs.Dump.{DidDump}
use Rattle.pw_run.specs.Load.{DidLoad, ServesLoad}
use Rattle.pw_run.specs.Outcome.{code_of, outcome_for, outcome_of}
use Rattle.pw_run.specs.Recorded.{Did, EndsWith}
use Rattle.pw_run.specs.Replay.{DidReplay, ListsNothing, RunsReplay, ServesDemo, ServesStream}
use Rattle.pw_run.specs.Tells.{DidText, ReadsText, Tells}
use Rattle.pw_run.specs.Texts.{FailsToRead, MeetsLimit, limit_of, outcome_on}
use Rattle.pw_run.specs.Writes.{Writes, WritesOrFails}
use Rattle.stream_dump.specs.Ends.{IsEnding}
use Rattle.stream_dump.specs.Names.{Name}
use Rattle.run_laws.specs.statuses.CalmCrews.{setting_over}
use Rattle.run_laws.specs.statuses.Statuses.{HasRoomIn, HasShortRun, IsBlameless, IsShorter, IsWell, RecordedEndWell, RecordedHadRoom}
use Rattle.run_laws.proofs.statuses.CrewLemmas.{all_taken, shelf_is}

-- ---- bytes that were taken from known ones

pub taken_begin : (input bytes : List ℕ) (left : Option (List ℕ)) → Consumes (Some input) left bytes → IsPrefix bytes input
taken_begin input bytes None taken = absurd taken
taken_begin input bytes (Some rest) taken = (rest, sym taken)

begin_short : (bytes input : List ℕ) → IsPrefix bytes input → length bytes ≤ length input
begin_short bytes input begins = omega (arith, ap length begins.1, length-append bytes begins.0)

-- so many were taken that fewer can't be all there were
pub not_all : (input bytes : List ℕ) (left : Option (List ℕ)) (limit : ℕ) → Consumes (Some input) left bytes → length bytes ≡ limit → length input < limit → ⊥
not_all input bytes left limit taken many short = omega (arith, many, short, begin_short bytes input (taken_begin input bytes left taken))

front_begins : (bytes rest input : List ℕ) → IsPrefix (bytes ++ rest) input → IsPrefix bytes input
front_begins bytes rest input begins = (rest ++ begins.0, sym (append_assoc bytes rest begins.0) ∙ begins.1)

-- ---- outcomes

-- the outcome blames no device
pub record Blameless (outcome : Outcome) : Type 0 where
  pub source : outcome ≢ SourceFault
  pub sink : outcome ≢ SinkFault
  pub store : outcome ≢ StoreFault
  pub linker : outcome ≢ LinkFault

pub blameless : (status : ℕ) (outcome : Outcome) → status ≡ code_of outcome → IsBlameless status → Blameless outcome
blameless status outcome is none = record {
  source = λ same. none.source (is ∙ ap code_of same);
  sink = λ same. none.sink (is ∙ ap code_of same);
  store = λ same. none.store (is ∙ ap code_of same);
  linker = λ same. none.linker (is ∙ ap code_of same);
}

abbrev pub EndsSo : Outcome → Type 0
EndsSo outcome = (outcome ≡ Done) ⊎ (outcome ≡ NoMemory)

pub well : (status : ℕ) (outcome : Outcome) → status ≡ code_of outcome → EndsSo outcome → IsWell status
well status outcome is (inl done) = inl (is ∙ ap code_of done)
well status outcome is (inr memory) = inr (is ∙ ap code_of memory)

-- an outcome with the status of a run that ended well is that of such a run
pub done_of : (outcome : Outcome) → code_of outcome ≡ code_of Done → outcome ≡ Done
done_of Done is = refl
done_of NoMemory is = absurd cc
done_of BadWords is = absurd cc
done_of SourceFault is = absurd cc
done_of SinkFault is = absurd cc
done_of StoreFault is = absurd cc
done_of LinkFault is = absurd cc
done_of BadLine is = absurd cc
done_of InputLimit is = absurd cc
done_of JournalLimit is = absurd cc
done_of FrameLimit is = absurd cc
done_of NotOkay is = absurd cc

not_sink : Done ≡ SinkFault → ⊥
not_sink is = cc

not_store : Done ≡ StoreFault → ⊥
not_store is = cc

not_source : Done ≡ SourceFault → ⊥
not_source is = cc

not_limit : Done ≡ InputLimit → ⊥
not_limit is = cc

-- where the output didn't fail, the outcome is that of the text
pub own_outcome : (old new : Option (List ℕ)) (text : List ℕ) (own outcome : Outcome) → outcome ≢ SinkFault → Writes old new text own outcome → outcome ≡ own
own_outcome old new text own outcome other (inl did) = did.0
own_outcome old new text own outcome other (inr failed) = absurd (other failed.0)

-- what is told of the output's faults is left out
pub only_writes : (old new : Option (List ℕ)) (failed_old failed_new : ℕ) (text : List ℕ) (own outcome : Outcome) → WritesOrFails old new failed_old failed_new text own outcome
    → Writes old new text own outcome
only_writes old new failed_old failed_new text own outcome (inl did) = inl did
only_writes old new failed_old failed_new text own outcome (inr failed) = inr (failed.0, failed.1)

pub own_done : (old new : Option (List ℕ)) (text : List ℕ) (own : Outcome) → Writes old new text own Done → Done ≡ own
own_done old new text own writes = own_outcome old new text own Done not_sink writes

-- ---- replay

module _ (form : Form) (input : List ℕ) (held : Option Stored) (left_new written_old written_new : Option (List ℕ)) (store_new : Option Stored) where
  abbrev Runs : Outcome → Type 0
  Runs outcome =
      RunsReplay form (Some input) left_new written_old written_new held store_new outcome
      ⊎ ListsNothing form (Some input) left_new written_old written_new held store_new outcome

  replayed : (outcome : Outcome) → DidReplay form (Some input) left_new written_old written_new held store_new outcome → (outcome ≡ NoMemory) ⊎ Runs outcome
  replayed NoMemory did = inl refl
  replayed Done did = inr did
  replayed BadWords did = inr did
  replayed SourceFault did = inr did
  replayed SinkFault did = inr did
  replayed StoreFault did = inr did
  replayed LinkFault did = inr did
  replayed BadLine did = inr did
  replayed InputLimit did = inr did
  replayed JournalLimit did = inr did
  replayed FrameLimit did = inr did
  replayed NotOkay did = inr did

  module _ (st : Stored) (held_is : held ≡ Some st) (short : length input < INPUT_LIMIT)
      (room : (bytes : List ℕ) (h : List Entry) → IsPrefix bytes input → IsFullBeginning demo_rule (setting_over st) (heard_packets Server bytes) h → ⊥) where
    by_ending : (outcome : Outcome) (shelf : Shelf) (ending : Ending) (counts : Counts) (table : Table) (items : List Item)
        → ServesDemo shelf (Some input) left_new ending counts table items → shelf ≡ shelf_of st → Blameless outcome → outcome ≡ outcome_of ending → EndsSo outcome
    by_ending outcome shelf ended.AtEnd counts table items serves same none is = inl is
    by_ending outcome shelf ended.SourceFault counts table items serves same none is = absurd (none.source is)
    by_ending outcome shelf ended.StoreFault counts table items serves same none is = absurd (none.store is)
    by_ending outcome shelf ended.InputLimit counts table items serves same none is =
        let r = serves.served in absurd (not_all input r.bytes left_new INPUT_LIMIT r.taken (r.at_limit refl) short)
    by_ending outcome shelf ended.JournalLimit counts table items serves same none is =
        let r = serves.served in
        let set = serves.setting ∙ ap demo_setting same in
        absurd (room r.read.bytes table.entries
        (front_begins r.read.bytes r.read.unfed input (taken_begin input (r.read.bytes ++ r.read.unfed) left_new r.read.taken))
        (subst (λ x. IsFullBeginning demo_rule x (heard_packets Server r.read.bytes) table.entries) set r.beginning))

    by_writes : (outcome : Outcome) (shelf : Shelf) → shelf ≡ shelf_of st → Blameless outcome
        → ServesStream form shelf (Some input) left_new written_old written_new held store_new outcome → EndsSo outcome
    by_writes outcome shelf same none s =
        by_ending outcome shelf s.ending s.counts s.table s.items s.serves same none (own_outcome written_old written_new _ (outcome_of s.ending) outcome none.sink s.writes)

    replay_well : (outcome : Outcome) → DidReplay form (Some input) left_new written_old written_new held store_new outcome → Blameless outcome → EndsSo outcome
    replay_well outcome did none = at (replayed outcome did)
      where
        at : (outcome ≡ NoMemory) ⊎ Runs outcome → EndsSo outcome
        at (inl memory) = inr memory
        at (inr (inl run)) = by_writes outcome run.shelf (shelf_is held st run.shelf held_is run.listed) none run.stream
        at (inr (inr lists)) = absurd (none.store (own_outcome written_old written_new _ StoreFault outcome none.sink lists.writes))

  -- what ended well had room
  had_room : (shelf : Shelf) (ending : Ending) (counts : Counts) (table : Table) (items : List Item)
      → ServesDemo shelf (Some input) left_new ending counts table items → IfSome held (λ st. shelf ≡ shelf_of st) → Done ≡ outcome_of ending
      → (length input < INPUT_LIMIT) × ((st : Stored) (h : List Entry) → held ≡ Some st → IsOneThreadHistory demo_rule (setting_over st) (heard_packets Server input) h → HasRoom h)
  had_room shelf ended.AtEnd counts table items serves listed is =
      let r = serves.served in
      let bytes : r.bytes ≡ input = all_taken input r.bytes left_new r.taken (r.at_end refl) in
      let here : (st : Stored) → held ≡ Some st → IsOneThreadHistory demo_rule (setting_over st) (heard_packets Server input) table.entries =
      λ st held_is.
      subst (λ x. IsOneThreadHistory demo_rule x (heard_packets Server input) table.entries) (serves.setting ∙ ap demo_setting (shelf_is held st shelf held_is listed))
      (subst (λ bs. IsOneThreadHistory demo_rule table.setting (heard_packets Server bs) table.entries) bytes r.history) in (
        subst (λ bs. length bs < INPUT_LIMIT) bytes (r.below (λ limit. absurd (cc limit))),
        λ st h held_is history.
            subst HasRoom (one_history demo_rule (setting_over st) (heard_packets Server input) table.entries h refl (here st held_is) history) r.room,
      )
  had_room shelf ended.SourceFault counts table items serves listed is = absurd cc
  had_room shelf ended.StoreFault counts table items serves listed is = absurd cc
  had_room shelf ended.InputLimit counts table items serves listed is = absurd cc
  had_room shelf ended.JournalLimit counts table items serves listed is = absurd cc

  replay_had_room : DidReplay form (Some input) left_new written_old written_new held store_new Done
      → (length input < INPUT_LIMIT) × ((st : Stored) (h : List Entry) → held ≡ Some st → IsOneThreadHistory demo_rule (setting_over st) (heard_packets Server input) h → HasRoom h)
  replay_had_room (inl run) =
      let s = run.stream in
      had_room run.shelf s.ending s.counts s.table s.items s.serves run.listed (own_done written_old written_new _ (outcome_of s.ending) s.writes)
  replay_had_room (inr lists) = absurd (not_store (own_done written_old written_new _ StoreFault lists.writes))

-- ---- texts of lines

module _ (command : TextCommand) (input : List ℕ) (left_new written_old written_new : Option (List ℕ)) where
  abbrev ReadsSo : Outcome → Type 0
  ReadsSo outcome =
      ReadsText command (Some input) left_new written_old written_new outcome
      ⊎ (MeetsLimit (limit_of command) (Some input) left_new written_old written_new outcome
      ⊎ FailsToRead (limit_of command) (Some input) left_new written_old written_new outcome)

  told : (outcome : Outcome) → DidText command (Some input) left_new written_old written_new outcome → (outcome ≡ NoMemory) ⊎ ReadsSo outcome
  told NoMemory did = inl refl
  told Done did = inr did
  told BadWords did = inr did
  told SourceFault did = inr did
  told SinkFault did = inr did
  told StoreFault did = inr did
  told LinkFault did = inr did
  told BadLine did = inr did
  told InputLimit did = inr did
  told JournalLimit did = inr did
  told FrameLimit did = inr did
  told NotOkay did = inr did

  text_well : (outcome : Outcome) → DidText command (Some input) left_new written_old written_new outcome → Blameless outcome → length input < limit_of command
      → HasShortRun command input → ((said : List ℕ) → Tells command input said found.BadLine → ⊥) → EndsSo outcome
  text_well outcome did none short room good = at (told outcome did)
    where
      by_lines : (what : Found) (text said : List ℕ) → text ≡ input → Tells command text said what → outcome ≡ outcome_on what → EndsSo outcome
      by_lines found.Good text said same tells is = inl is
      by_lines found.BadLine text said same tells is = absurd (good said (subst (λ t. Tells command t said found.BadLine) same tells))
      by_lines found.PastFrames text said same tells is = absurd ((room said).0 (subst (λ t. Tells command t said found.PastFrames) same tells))
      by_lines found.PastJournal text said same tells is = absurd ((room said).1 (subst (λ t. Tells command t said found.PastJournal) same tells))

      at : (outcome ≡ NoMemory) ⊎ ReadsSo outcome → EndsSo outcome
      at (inl memory) = inr memory
      at (inr (inl r)) =
          by_lines r.wrote.found r.text r.wrote.told (all_taken input r.text left_new r.taken r.at_end) r.wrote.tells
          (own_outcome written_old written_new r.wrote.told (outcome_on r.wrote.found) outcome none.sink r.wrote.writes)
      at (inr (inr (inl m))) = absurd (not_all input m.text left_new (limit_of command) m.taken m.many short)
      at (inr (inr (inr f))) = absurd (none.source f.fault)

  text_had_room : DidText command (Some input) left_new written_old written_new Done → length input < limit_of command
  text_had_room (inl r) = subst (λ t. length t < limit_of command) (all_taken input r.text left_new r.taken r.at_end) r.below
  text_had_room (inr (inl m)) = absurd (not_limit (own_done written_old written_new _ InputLimit m.told))
  text_had_room (inr (inr f)) = absurd (not_source f.fault)

-- ---- loads

load_well : (calls seed : ℕ) (written_old written_new : Option (List ℕ)) (outcome : Outcome) → DidLoad calls seed written_old written_new outcome → Blameless outcome → EndsSo outcome
load_well calls seed written_old written_new outcome did none = at outcome did none
  where
    by : (outcome : Outcome) → ServesLoad calls seed written_old written_new outcome → Blameless outcome → EndsSo outcome
    by outcome s none = inl (own_outcome written_old written_new _ Done outcome none.sink s.writes)

    at : (outcome : Outcome) → DidLoad calls seed written_old written_new outcome → Blameless outcome → EndsSo outcome
    at NoMemory did none = inr refl
    at Done did none = by Done did none
    at BadWords did none = by BadWords did none
    at SourceFault did none = by SourceFault did none
    at SinkFault did none = by SinkFault did none
    at StoreFault did none = by StoreFault did none
    at LinkFault did none = by LinkFault did none
    at BadLine did none = by BadLine did none
    at InputLimit did none = by InputLimit did none
    at JournalLimit did none = by JournalLimit did none
    at FrameLimit did none = by FrameLimit did none
    at NotOkay did none = by NotOkay did none

-- ---- dumps

module _ (names : List Name) (input : List ℕ) (left_new written_old written_new : Option (List ℕ)) (outcome : Outcome)
    (did : DidDump names (Some input) left_new written_old written_new outcome) where
  dump_well : Blameless outcome → length input < INPUT_LIMIT → EndsSo outcome
  dump_well none short = at did.why did.own did.ending did.dumps.at_limit
    where
      at : (why : Why) → outcome ≡ outcome_for why → IsEnding why → (why ≡ reason.InputLimit → length did.dumps.bytes ≡ INPUT_LIMIT) → EndsSo outcome
      at reason.Settled own ending limit = inl own
      at reason.Source own ending limit = absurd (none.source own)
      at reason.Sink own ending limit = absurd (none.sink own)
      at reason.Store own ending limit = absurd ending
      at reason.InputLimit own ending limit = absurd (not_all input did.dumps.bytes left_new INPUT_LIMIT did.dumps.taken (limit refl) short)
      at reason.JournalLimit own ending limit = absurd ending
      at reason.Memory own ending limit = absurd ending

  dump_had_room : outcome ≡ Done → length input < INPUT_LIMIT
  dump_had_room is = at did.why (sym is ∙ did.own) (λ settled. did.dumps.below (inl settled)) (λ settled. all_taken input did.dumps.bytes left_new did.dumps.taken (did.dumps.at_end settled))
    where
      at : (why : Why) → Done ≡ outcome_for why → (why ≡ reason.Settled → length did.dumps.bytes < INPUT_LIMIT) → (why ≡ reason.Settled → did.dumps.bytes ≡ input)
          → length input < INPUT_LIMIT
      at reason.Settled own below all = subst (λ t. length t < INPUT_LIMIT) (all refl) (below refl)
      at reason.Source own below all = absurd (cc own)
      at reason.Sink own below all = absurd (cc own)
      at reason.Store own below all = absurd (cc own)
      at reason.InputLimit own below all = absurd (cc own)
      at reason.JournalLimit own below all = absurd (cc own)
      at reason.Memory own below all = absurd (cc own)

-- ---- all recorded commands

pub recorded_end_well : RecordedEndWell
recorded_end_well (Replay form) status left_old left written_old written_new store_old store_new ends none within good =
    let did = subst (λ x. DidReplay form x left written_old written_new store_old store_new ends.0) within.left_is ends.2 in
    well status ends.0 ends.1
    (replay_well form within.input store_old left written_old written_new store_new within.st within.held_is within.short within.room ends.0 did (blameless status ends.0 ends.1 none))
recorded_end_well (Text command) status left_old left written_old written_new store_old store_new ends none within good =
    let did = subst (λ x. DidText command x left written_old written_new ends.0) within.left_is ends.2 in
    well status ends.0 ends.1
    (text_well command within.input left written_old written_new ends.0 did (blameless status ends.0 ends.1 none) within.short within.runs
    (λ said. good within.input said within.left_is))
recorded_end_well (Load calls seed) status left_old left written_old written_new store_old store_new ends none within good =
    well status ends.0 ends.1 (load_well calls seed written_old written_new ends.0 ends.2 (blameless status ends.0 ends.1 none))
recorded_end_well (Dump names) status left_old left written_old written_new store_old store_new ends none within good =
    let did = subst (λ x. DidDump names x left written_old written_new ends.0) within.1 ends.2 in
    well status ends.0 ends.1 (dump_well names within.0 left written_old written_new ends.0 did (blameless status ends.0 ends.1 none) within.2)

did_done : (command : Command) (status : ℕ) (left_old left written_old written_new : Option (List ℕ)) (store_old store_new : Option Stored)
    → EndsWith status (Did command left_old left written_old written_new store_old store_new) → status ≡ code_of Done
    → Did command left_old left written_old written_new store_old store_new Done
did_done command status left_old left written_old written_new store_old store_new ends is =
    subst (Did command left_old left written_old written_new store_old store_new) (done_of ends.0 (sym ends.1 ∙ is)) ends.2

module _ (form : Form) (left_old left written_old written_new : Option (List ℕ)) (store_old store_new : Option Stored)
    (did : DidReplay form left_old left written_old written_new store_old store_new Done) where
  over : (input : List ℕ) → left_old ≡ Some input → DidReplay form (Some input) left written_old written_new store_old store_new Done
  over input is = subst (λ x. DidReplay form x left written_old written_new store_old store_new Done) is did

  shorter : IsShorter INPUT_LIMIT left_old
  shorter input is = (replay_had_room form input store_old left written_old written_new store_new (over input is)).0

  room_in : HasRoomIn left_old store_old
  room_in input st h is held_is history = (replay_had_room form input store_old left written_old written_new store_new (over input is)).1 st h held_is history

pub recorded_had_room : RecordedHadRoom
recorded_had_room (Replay form) status left_old left written_old written_new store_old store_new ends is =
    let did = did_done (Replay form) status left_old left written_old written_new store_old store_new ends is in
    (shorter form left_old left written_old written_new store_old store_new did, room_in form left_old left written_old written_new store_old store_new did)
recorded_had_room (Text command) status left_old left written_old written_new store_old store_new ends is = λ input left_is.
    let did = did_done (Text command) status left_old left written_old written_new store_old store_new ends is in
    text_had_room command input left written_old written_new (subst (λ x. DidText command x left written_old written_new Done) left_is did)
recorded_had_room (Load calls seed) status left_old left written_old written_new store_old store_new ends is = tt
recorded_had_room (Dump names) status left_old left written_old written_new store_old store_new ends is = λ input left_is.
    let did = did_done (Dump names) status left_old left written_old written_new store_old store_new ends is in
    dump_had_room names input left written_old written_new Done (subst (λ x. DidDump names x left written_old written_new Done) left_is did) refl
