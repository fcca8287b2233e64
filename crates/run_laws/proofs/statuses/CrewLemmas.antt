-- A run of `crew` that ended well had a session without a halt, which serves a calm input as one thread does.
use Rattle.std.proofs.Common.{◌≡◌, ◌⊎◌, ℕ, List, ◌++◌, Option, Some, None, IfSome, refl, ap, sym, ◌∙◌, subst, inl, inr}
use Rattle.std.proofs.lemmas.List.{append-nil}
use Rattle.std.specs.Io.KnownBytes.{Appends, Consumes, IsAtEnd}
use Rattle.link_io.specs.declared.shelf.Shelf.{Shelf}
use Rattle.link_io.specs.declared.why.Why.{Why}
use Rattle.link_io.specs.declared.why.Why.TheVariants.{Settled, Source, Sink, Store, InputLimit, JournalLimit, Memory}
use Rattle.link_io.specs.Stored.{Stored, shelf_of}
use Rattle.rpc_ids.specs.declared.method.Role.TheVariants.{Server}
use Rattle.rpc_frames.specs.declared.counts.Counts.{Counts}
use Rattle.rpc_frames.specs.Heard.{counts_of, heard_packets}
use Rattle.rpc_journal.specs.declared.entry.Entry.{Entry}
use Rattle.rpc_journal.specs.declared.item.Item.{Item}
use Rattle.rpc_journal.specs.CallTable.{Table}
use Rattle.rpc_journal.proofs.PlaceLemmas.{some_same}
use Rattle.rpc_schedule.specs.OneThread.{IsOneThreadHistory}
use Rattle.rpc_schedule.proofs.ThereLemmas.{history_is_there}
use Rattle.demo_services.specs.DemoRule.{demo_rule}
use Rattle.load_stream.specs.Load.{load_stream}
use Rattle.run_report.specs.CrewReport.{crew_report}
use Rattle.run_laws.specs.calm.Calm.{AreCalm}
use Rattle.pw_run.specs.declared.outcome.Outcome.TheVariants.{Done, NoMemory, SinkFault}
use Rattle.pw_run.specs.Crew.{DidCrew}
use Rattle.pw_run.specs.Devices.{Devices, with_link}
use Rattle.pw_run.specs.LinkServed.{FindsNoShelf, ServesLink, ServesListed, ServesShelf}
use Rattle.pw_run.specs.Outcome.{outcome_for}
use Rattle.pw_run.specs.Writes.{WritesOrFails}
use Rattle.run_laws.specs.crews.CalmSessions.{report_of, table_of}
use Rattle.run_laws.specs.statuses.CalmCrews.{CrewsWriteAlike, IsCalmInput, LoadsAreWrittenAlike, NoCrewSizeMatters, report_over, setting_over}
use Rattle.run_laws.proofs.crews.LoadLemmas.{loads_are_calm}
use Rattle.run_laws.proofs.crews.SessionLemmas.{sessions_report_alike}

-- what ends well is settled
pub settled_well : (why : Why) → Done ≡ outcome_for why → why ≡ Settled
settled_well Settled is = refl
settled_well Source is = absurd cc
settled_well Sink is = absurd cc
settled_well Store is = absurd cc
settled_well InputLimit is = absurd cc
settled_well JournalLimit is = absurd cc
settled_well Memory is = absurd cc

-- all of the input was taken
pub all_taken : (input bytes : List ℕ) (left : Option (List ℕ)) → Consumes (Some input) left bytes → IsAtEnd left → bytes ≡ input
all_taken input bytes None taken at_end = absurd taken
all_taken input bytes (Some rest) taken at_end = sym (taken ∙ (ap (λ xs. bytes ++ xs) at_end ∙ append-nil bytes))

-- the shelf is that of the store
pub shelf_is : (held : Option Stored) (st : Stored) (shelf : Shelf) → held ≡ Some st → IfSome held (λ x. shelf ≡ shelf_of x) → shelf ≡ shelf_of st
shelf_is None st shelf is listed = absurd cc
shelf_is (Some x) st shelf is listed = listed ∙ ap shelf_of (some_same x st is)

module _ (workers : ℕ) (before after : Devices) (input : List ℕ) (st : Stored) (one : List Entry) (left : before.left ≡ Some input) (held : before.held ≡ Some st)
    (calm : IsCalmInput st input) (history_one : IsOneThreadHistory demo_rule (setting_over st) (heard_packets Server input) one) where
  -- the text of a session that is settled is that of one thread
  module _ (counts : Counts) (table : Table) (items : List Item)
      (serves : ServesLink workers (with_link before before.left None) (with_link after after.left None) Settled counts table items) where
    same_text : crew_report table counts items Settled ≡ report_over st input one
    same_text = at serves
      where
        listed : ServesListed workers (with_link before before.left None) (with_link after after.left None) Settled counts table items
            → crew_report table counts items Settled ≡ report_over st input one
        listed l =
            let shelf : l.shelf ≡ shelf_of st = shelf_is before.held st l.shelf held l.listed in
            over (subst (λ x. ServesShelf workers x (with_link before before.left None) (with_link after after.left None) Settled counts table items) shelf l.serves)
          where
            over : ServesShelf workers (shelf_of st) (with_link before before.left None) (with_link after after.left None) Settled counts table items
                → crew_report table counts items Settled ≡ report_over st input one
            over s =
                let told = s.explains refl in
                let bytes : told.bytes ≡ input =
                all_taken input told.bytes after.left (subst (λ x. Consumes x after.left told.bytes) left told.taken) (s.at_end refl) in
                let here : table ≡ table_of (setting_over st) table.entries = ap (λ set. table_of set table.entries) s.setting in
                let calm_bytes : AreCalm demo_rule (setting_over st) (heard_packets Server told.bytes) =
                subst (λ bs. AreCalm demo_rule (setting_over st) (heard_packets Server bs)) (sym bytes) calm in
                let one_bytes : IsOneThreadHistory demo_rule (setting_over st) (heard_packets Server told.bytes) one =
                subst (λ bs. IsOneThreadHistory demo_rule (setting_over st) (heard_packets Server bs) one) (sym bytes) history_one in
                ap (λ x. crew_report x counts items Settled) here
                ∙ (ap (λ x. crew_report (table_of (setting_over st) table.entries) counts x Settled) (s.all refl)
                ∙ (sessions_report_alike demo_rule (setting_over st) workers Settled table.entries one counts before.left after.left None None before.held after.held s.read s.done
                refl refl s.journal refl told calm_bytes one_bytes
                ∙ ap (λ bs. report_of (setting_over st) one (counts_of Server bs) Settled) bytes))

        at : ServesListed workers (with_link before before.left None) (with_link after after.left None) Settled counts table items
            ⊎ FindsNoShelf (with_link before before.left None) (with_link after after.left None) Settled counts table items
            → crew_report table counts items Settled ≡ report_over st input one
        at (inl l) = listed l
        at (inr none) = absurd (not_store none.reason)
          where
            not_store : Settled ≡ Store → ⊥
            not_store is = cc

  written : DidCrew workers before after Done → Appends before.written after.written (report_over st input one)
  written (inr nothing) = absurd (not_memory nothing.memory)
    where
      not_memory : Done ≡ NoMemory → ⊥
      not_memory is = cc
  written (inl run) = at run.writes.1
    where
      text : run.why ≡ Settled → Appends before.written after.written (crew_report run.table run.counts run.items run.why) → Appends before.written after.written (report_over st input one)
      text settled appends =
          let serves = subst (λ why. ServesLink workers (with_link before before.left None) (with_link after after.left None) why run.counts run.table run.items) settled run.serves in
          subst (Appends before.written after.written)
          (ap (λ why. crew_report run.table run.counts run.items why) settled ∙ same_text run.counts run.table run.items serves) appends

      at : WritesOrFails before.written after.written before.failed after.failed (crew_report run.table run.counts run.items run.why) (outcome_for run.why) Done
          → Appends before.written after.written (report_over st input one)
      at (inl well) = text (settled_well run.why well.0) well.1
      at (inr failed) = absurd (not_sink failed.0)
        where
          not_sink : Done ≡ SinkFault → ⊥
          not_sink is = cc

pub crews_write_alike : CrewsWriteAlike
crews_write_alike workers before after input st one did left held calm history_one = written workers before after input st one left held calm history_one did

-- what was appended to known bytes is known
appended : (old new : Option (List ℕ)) (known bytes : List ℕ) → old ≡ Some known → Appends old new bytes → new ≡ Some (known ++ bytes)
appended None new known bytes is appends = absurd cc
appended (Some xs) None known bytes is appends = absurd appends
appended (Some xs) (Some ys) known bytes is appends = ap Some (appends ∙ ap (λ zs. zs ++ bytes) (some_same xs known is))

pub no_crew_size_matters : NoCrewSizeMatters
no_crew_size_matters workers others before after other_after input known st did other_did left held was calm =
    let whole = history_is_there demo_rule (setting_over st) (heard_packets Server input) in
    appended before.written after.written known (report_over st input whole.0) was (crews_write_alike workers before after input st whole.0 did left held calm whole.1)
    ∙ sym (appended before.written other_after.written known (report_over st input whole.0) was (crews_write_alike others before other_after input st whole.0 other_did left held calm whole.1))

pub loads_are_written_alike : LoadsAreWrittenAlike
loads_are_written_alike workers others calls seed before after other_after known st few did other_did left held was =
    no_crew_size_matters workers others before after other_after (load_stream calls seed) known st did other_did left held was
    (loads_are_calm calls seed (setting_over st) few refl refl refl)
