-- What the status of a client tells: how its outcome comes from what it did.
use Rattle.std.proofs.Common.{◌≡◌, ◌≢◌, ◌⊎◌, ℕ, List, Result, Ok, Err, Option, Some, IfSome, refl, sym, ◌∙◌, subst, inl, inr}
use Rattle.link_io.specs.declared.shelf.Shelf.{Shelf}
use Rattle.link_io.specs.Stored.{shelf_of}
use Rattle.link_io.specs.declared.why.Why.{Why}
use Rattle.link_io.specs.declared.why.Why.TheVariants as reason
use Rattle.rpc_ids.specs.declared.status.Status.{Status}
use Rattle.rpc_ids.specs.declared.status.Status.TheVariants.{Okay}
use Rattle.live_client.specs.declared.ask.LiveAsk.{LiveAsk}
use Rattle.live_client.specs.declared.ask.Opening.{Opening}
use Rattle.run_report.specs.declared.live_report.LiveLine.{LiveLine}
use Rattle.run_report.specs.LiveReport.{live_line}
use Rattle.pw_run.specs.declared.client_command.ClientCommand.{ClientCommand}
use Rattle.pw_run.specs.declared.client_text.Reported.TheVariants.{Line}
use Rattle.pw_run.specs.declared.outcome.Outcome.{Outcome}
use Rattle.pw_run.specs.declared.outcome.Outcome.TheVariants.{Done, NoMemory, BadWords, SourceFault, SinkFault, StoreFault, LinkFault, BadLine, InputLimit, JournalLimit, FrameLimit, NotOkay}
use Rattle.pw_run.specs.CallCommand.{DidCall}
use Rattle.pw_run.specs.Client.{AsksOverLink, DidClient, DoesFoundOrNothing, asked, client_outcome, ended_outcome}
use Rattle.pw_run.specs.Devices.{Devices}
use Rattle.pw_run.specs.Outcome.{code_of}
use Rattle.pw_run.specs.Writes.{Writes}
use Rattle.run_laws.specs.statuses.ClientEnds.{Asks, CalledMeansOkay, CalledOkay, CalledOtherwise, EndedOkay, EndedOtherwise, HasNoneToSend, NotOkayIsOther, OkayIsOkay, OtherMeansOther}
use Rattle.run_laws.proofs.statuses.StatusLemmas.{done_of, only_writes, own_done, own_outcome}

-- an outcome with the status of one that isn't OK is that one
not_okay_of : (outcome : Outcome) → code_of outcome ≡ code_of NotOkay → outcome ≡ NotOkay
not_okay_of NotOkay is = refl
not_okay_of Done is = absurd cc
not_okay_of NoMemory is = absurd cc
not_okay_of BadWords is = absurd cc
not_okay_of SourceFault is = absurd cc
not_okay_of SinkFault is = absurd cc
not_okay_of StoreFault is = absurd cc
not_okay_of LinkFault is = absurd cc
not_okay_of BadLine is = absurd cc
not_okay_of InputLimit is = absurd cc
not_okay_of JournalLimit is = absurd cc
not_okay_of FrameLimit is = absurd cc

-- ---- of how the client ended

okay_ended : (ended : Option Status) → Done ≡ ended_outcome ended → ended ≡ Some Okay
okay_ended (Some Okay) is = refl
okay_ended _ is = absurd cc

other_ended : (ended : Option Status) → NotOkay ≡ ended_outcome ended → ended ≢ Some Okay
other_ended ended is same = not_done (is ∙ subst (λ (e : Option Status). ended_outcome e ≡ Done) (sym same) refl)
  where
    not_done : NotOkay ≡ Done → ⊥
    not_done equal = cc

okay_of : (why : Why) (ended : Option Status) → Done ≡ client_outcome why ended → (why ≡ reason.Settled) × (ended ≡ Some Okay)
okay_of reason.Settled ended is = (refl, okay_ended ended is)
okay_of reason.Source ended is = absurd cc
okay_of reason.Sink ended is = absurd cc
okay_of reason.Store ended is = absurd cc
okay_of reason.InputLimit ended is = absurd cc
okay_of reason.JournalLimit ended is = absurd cc
okay_of reason.Memory ended is = absurd cc

other_of : (why : Why) (ended : Option Status) → NotOkay ≡ client_outcome why ended → (why ≡ reason.Settled) × (ended ≢ Some Okay)
other_of reason.Settled ended is = (refl, other_ended ended is)
other_of reason.Source ended is = absurd cc
other_of reason.Sink ended is = absurd cc
other_of reason.Store ended is = absurd cc
other_of reason.InputLimit ended is = absurd cc
other_of reason.JournalLimit ended is = absurd cc
other_of reason.Memory ended is = absurd cc

-- ---- with status 0

not_memory : Done ≡ NoMemory → ⊥
not_memory is = cc

not_link : Done ≡ LinkFault → ⊥
not_link is = cc

not_store : Done ≡ StoreFault → ⊥
not_store is = cc

not_other : Done ≡ NotOkay → ⊥
not_other is = cc

okay_over : (command : ClientCommand) (asks : LiveAsk) (before after : Devices) → Asks command before asks → AsksOverLink (Line command) asks before after Done
    → EndedOkay command before after
okay_over command asks before after by (inl run) =
    let so = okay_of run.did.why run.did.ended (own_done before.written after.written _ (client_outcome run.did.why run.did.ended) (only_writes _ _ _ _ _ _ _ run.writes.1)) in
    record { asks = asks; by = by; run = run; settled = so.0; okay = so.1 }
okay_over command asks before after by (inr (inl given)) = absurd (not_memory given.memory)
okay_over command asks before after by (inr (inr fails)) = absurd (not_link fails.fault)

okay_found : (command : ClientCommand) (shelf : Shelf) (found : Result LiveAsk LiveLine) (before after : Devices) → IfSome before.held (λ st. shelf ≡ shelf_of st)
    → asked command shelf ≡ found → DoesFoundOrNothing command found before after Done → EndedOkay command before after
okay_found command shelf found before after listed is (inr nothing) = absurd (not_memory nothing.memory)
okay_found command shelf (Ok asks) before after listed is (inl does) =
    okay_over command asks before after (record { shelf = shelf; listed = listed; is = is }) does
okay_found command shelf (Err line) before after listed is (inl told) = absurd (not_other (own_done before.written after.written (live_line line) NotOkay told.writes))

okay_client : (command : ClientCommand) (before after : Devices) → DidClient command before after Done → EndedOkay command before after
okay_client command before after (inl by) = okay_found command by.shelf (asked command by.shelf) before after by.listed refl by.does
okay_client command before after (inr (inl told)) = absurd (not_store (own_done before.written after.written _ StoreFault told.writes))
okay_client command before after (inr (inr nothing)) = absurd (not_memory nothing.memory)

pub okay_is_okay : OkayIsOkay
okay_is_okay command status before after ends is = okay_client command before after (subst (DidClient command before after) (done_of ends.0 (sym ends.1 ∙ is)) ends.2)

-- ---- with status 9

other_own : (old new : Option (List ℕ)) (text : List ℕ) (own : Outcome) → Writes old new text own NotOkay → NotOkay ≡ own
other_own old new text own writes = own_outcome old new text own NotOkay not_sink writes
  where
    not_sink : NotOkay ≡ SinkFault → ⊥
    not_sink is = cc

silent : NotOkay ≡ NoMemory → ⊥
silent is = cc

linked : NotOkay ≡ LinkFault → ⊥
linked is = cc

listed : NotOkay ≡ StoreFault → ⊥
listed is = cc

other_over : (command : ClientCommand) (asks : LiveAsk) (before after : Devices) → Asks command before asks → AsksOverLink (Line command) asks before after NotOkay
    → EndedOtherwise command before after
other_over command asks before after by (inl run) =
    let so = other_of run.did.why run.did.ended (other_own before.written after.written _ (client_outcome run.did.why run.did.ended) (only_writes _ _ _ _ _ _ _ run.writes.1)) in
    record { asks = asks; by = by; run = run; settled = so.0; other = so.1 }
other_over command asks before after by (inr (inl given)) = absurd (silent given.memory)
other_over command asks before after by (inr (inr fails)) = absurd (linked fails.fault)

other_found : (command : ClientCommand) (shelf : Shelf) (found : Result LiveAsk LiveLine) (before after : Devices) → IfSome before.held (λ st. shelf ≡ shelf_of st)
    → asked command shelf ≡ found → DoesFoundOrNothing command found before after NotOkay → EndedOtherwise command before after ⊎ HasNoneToSend command before
other_found command shelf found before after shown is (inr nothing) = absurd (silent nothing.memory)
other_found command shelf (Ok asks) before after shown is (inl does) =
    inl (other_over command asks before after (record { shelf = shelf; listed = shown; is = is }) does)
other_found command shelf (Err line) before after shown is (inl told) = inr (record { shelf = shelf; listed = shown; line = line; unfit = is })

other_client : (command : ClientCommand) (before after : Devices) → DidClient command before after NotOkay → EndedOtherwise command before after ⊎ HasNoneToSend command before
other_client command before after (inl by) = other_found command by.shelf (asked command by.shelf) before after by.listed refl by.does
other_client command before after (inr (inl told)) = absurd (listed (other_own before.written after.written _ StoreFault told.writes))
other_client command before after (inr (inr nothing)) = absurd (silent nothing.memory)

pub not_okay_is_other : NotOkayIsOther
not_okay_is_other command status before after ends is =
    other_client command before after (subst (DidClient command before after) (not_okay_of ends.0 (sym ends.1 ∙ is)) ends.2)

-- ---- a call

call_okay : (opening : Opening) (limit within : Option ℕ) (before after : Devices) → DidCall opening limit within before after Done → CalledOkay opening limit within before after
call_okay opening limit within before after (inl (inl run)) =
    let so = okay_of run.did.why run.did.ended (own_done before.written after.written _ (client_outcome run.did.why run.did.ended) (only_writes _ _ _ _ _ _ _ run.writes.1)) in
    record { run = run; settled = so.0; okay = so.1 }
call_okay opening limit within before after (inl (inr (inl given))) = absurd (not_memory given.memory)
call_okay opening limit within before after (inl (inr (inr fails))) = absurd (not_link fails.fault)
call_okay opening limit within before after (inr nothing) = absurd (not_memory nothing.memory)

pub called_means_okay : CalledMeansOkay
called_means_okay opening limit within status before after ends is =
    call_okay opening limit within before after (subst (DidCall opening limit within before after) (done_of ends.0 (sym ends.1 ∙ is)) ends.2)

call_other : (opening : Opening) (limit within : Option ℕ) (before after : Devices) → DidCall opening limit within before after NotOkay → CalledOtherwise opening limit within before after
call_other opening limit within before after (inl (inl run)) =
    let so = other_of run.did.why run.did.ended (other_own before.written after.written _ (client_outcome run.did.why run.did.ended) (only_writes _ _ _ _ _ _ _ run.writes.1)) in
    record { run = run; settled = so.0; other = so.1 }
call_other opening limit within before after (inl (inr (inl given))) = absurd (silent given.memory)
call_other opening limit within before after (inl (inr (inr fails))) = absurd (linked fails.fault)
call_other opening limit within before after (inr nothing) = absurd (silent nothing.memory)

pub other_means_other : OtherMeansOther
other_means_other opening limit within status before after ends is =
    call_other opening limit within before after (subst (DidCall opening limit within before after) (not_okay_of ends.0 (sym ends.1 ∙ is)) ends.2)
