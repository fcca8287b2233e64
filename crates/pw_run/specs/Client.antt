-- What a run of `get`, `put`, `watch` or `call` read, sent, wrote and stored.
use Rattle.std.specs.Prelude.{◌≡◌, ◌≢◌, ℕ, ◌<◌, ◌≤◌, ◌⊎◌, true, false, if◌then◌else◌, nat_lt, min, List, length, Option, Some, None, IfSome, is_some, unwrap_or, option_map, Result, Ok, Err}
use Rattle.std.specs.Io.KnownBytes.{IsAtEnd, Keeps}
use Rattle.link_io.specs.declared.shelf.Shelf.{Shelf}
use Rattle.link_io.specs.declared.why.Why.{Why}
use Rattle.link_io.specs.declared.why.Why.TheVariants as reason
use Rattle.link_io.specs.Causes.{Rose}
use Rattle.link_io.specs.Resources.{first_of}
use Rattle.link_io.specs.Stored.{shelf_of}
use Rattle.rpc_ids.specs.declared.status.Status.{Status}
use Rattle.rpc_ids.specs.declared.status.Status.TheVariants.{Okay, NotFound, OutOfRange}
use Rattle.rpc_journal.specs.declared.entry.TheConstants.{MAX_ENTRIES}
use Rattle.rpc_schedule.specs.declared.stream.TheConstants.{INPUT_LIMIT}
use Rattle.rpc_shared.specs.session.Sessions.{is_halting}
use Rattle.transfer_base.specs.declared.limits.TheConstants.{MAX_RESOURCE}
use Rattle.live_client.specs.declared.ask.Live.{Live}
use Rattle.live_client.specs.declared.ask.LiveAsk.{LiveAsk}
use Rattle.live_client.specs.declared.ask.LiveAsk.TheVariants as ask
use Rattle.live_client.specs.Ask.{method_asked}
use Rattle.live_client.specs.Live.{AskRan, Begins, Explains, IsLiveHistory}
use Rattle.run_report.specs.declared.live_report.LiveLine.{LiveLine}
use Rattle.run_report.specs.declared.live_report.LiveLine.TheVariants as told
use Rattle.run_report.specs.CallReport.{call_report}
use Rattle.run_report.specs.LiveReport.{live_line, live_report}
use Rattle.pw_run.specs.declared.client.AskRefused.{AskRefused}
use Rattle.pw_run.specs.declared.client.AskRefused.TheVariants.{Unfit, Memory}
use Rattle.pw_run.specs.declared.client_command.ClientCommand.{ClientCommand}
use Rattle.pw_run.specs.declared.client_command.ClientCommand.TheVariants.{Get, Put, Watch}
use Rattle.pw_run.specs.declared.client_text.Reported.{Reported}
use Rattle.pw_run.specs.declared.client_text.Reported.TheVariants.{Line, Messages}
use Rattle.pw_run.specs.declared.outcome.Outcome.{Outcome}
use Rattle.pw_run.specs.declared.outcome.Outcome.TheVariants.{Done, NoMemory, NotOkay, StoreFault}
use Rattle.pw_run.specs.Crew.{DoesNothing}
use Rattle.pw_run.specs.Devices.{Devices, LinkDevices, with_link}
use Rattle.pw_run.specs.Outcome.{outcome_for}
use Rattle.pw_run.specs.declared.way.Way.TheVariants.{Serve}
use Rattle.pw_run.specs.Serve.{FailsToLink, GivesBack, Lends}
use Rattle.pw_run.specs.Writes.{Writes, WritesOrFails}

-- a resource is sent from an offset on, or from its end, where that is before; where it isn't there or is too long, this is told
abbrev pub sent : ℕ → ℕ → Option (List ℕ) → Result LiveAsk LiveLine
sent resource offset None = Err (told.Put resource 0 NotFound 0)
sent resource offset (Some bytes) =
    if nat_lt MAX_RESOURCE (length bytes) then Err (told.Put resource (min offset (length bytes)) OutOfRange 0)
    else Ok (ask.Put resource (min offset (length bytes)) bytes)

-- WHAT A CLIENT IS ASKED by a command, over what its store lists. A resource is read from the offset on, or from the end of what is
-- left of it, where that is before. Of a resource that can't be sent this is told in place of it.
abbrev pub asked : ClientCommand → Shelf → Result LiveAsk LiveLine
asked (Get resource offset) shelf = Ok (ask.Get resource (min offset (unwrap_or (first_of resource shelf.left) 0)))
asked (Put resource offset) shelf = sent resource offset (first_of resource shelf.full)
asked (Watch number limit) shelf = Ok (ask.Watch number limit)

-- a refusal to ask tells of a resource that can't be sent, or of want of memory
abbrev pub RefusesAs : Result LiveAsk LiveLine → AskRefused → Type 0
RefusesAs found (Unfit line) = found ≡ Err line
RefusesAs found Memory = Unit {0}

-- the line of what has ended with this status
abbrev pub ended_with : ClientCommand → Live → Status → LiveLine
ended_with (Get resource offset) l status = told.Get resource l.from status l.length
ended_with (Put resource offset) l status = told.Put resource l.from status l.length
ended_with (Watch number limit) l status = told.Watch status (length l.messages.items)

-- the line of what a client did, where that has ended
abbrev pub told_of : ClientCommand → Live → Option LiveLine
told_of command l = option_map (ended_with command l) l.ended

-- the outcome of what has ended so
abbrev pub ended_outcome : Option Status → Outcome
ended_outcome (Some Okay) = Done
ended_outcome _ = NotOkay

-- THE OUTCOME OF A CLIENT that ended for this reason, and whose text was written whole: where it settled, the status of what it was
-- asked decides
abbrev pub client_outcome : Why → Option Status → Outcome
client_outcome reason.Settled ended = ended_outcome ended
client_outcome why ended = outcome_for why

-- What a client did that was asked this over a link. Its journal is that of the one call. In any case a beginning of what that says
-- was done; where nothing halted it, the journal explains the bytes read, those sent and the store, and the call has ended.
pub record DoesAsked (ask : LiveAsk) (before after : LinkDevices) (l : Live) : Type 0 where
  pub journal : IsLiveHistory ask l.why l.journal.entries
  pub begins : Begins (method_asked ask) before.left after.left before.sent after.sent before.held after.held l.read l.journal.entries
  pub explains : is_halting l.why ≡ false →
      Explains (method_asked ask) before.left after.left before.sent after.sent before.held after.held l.read l.journal.entries
  pub ended : is_halting l.why ≡ false → is_some l.ended ≡ true
  pub ran : AskRan ask before.moment after.moment l
  pub at_end : l.why ≡ reason.Settled → IsAtEnd after.left
  pub at_limit : l.why ≡ reason.InputLimit → l.read ≡ INPUT_LIMIT
  pub below : (l.why ≡ reason.Settled) ⊎ (l.why ≡ reason.Source) → l.read < INPUT_LIMIT
  pub full : l.why ≡ reason.JournalLimit → MAX_ENTRIES ≤ length l.journal.entries

-- the text of what a client did: the line of what it was asked, or the messages of its call; and why it ended
abbrev pub text_of : Reported → Live → List ℕ
text_of (Line command) l = live_report (told_of command l) l.why
text_of Messages l = call_report l.messages.items l.ended l.why

-- What was written of a client: its text, whole or with an output that failed, or nothing for want of memory, be it that of the
-- client or of the text.
abbrev pub WritesClient : Reported → Live → Option (List ℕ) → Option (List ℕ) → ℕ → ℕ → Outcome → Type 0
WritesClient reported l written_old written_new failed_old failed_new NoMemory = Keeps written_old written_new
WritesClient reported l written_old written_new failed_old failed_new outcome =
    (l.why ≢ reason.Memory) × WritesOrFails written_old written_new failed_old failed_new (text_of reported l) (client_outcome l.why l.ended) outcome

-- A link was made, the client did over it what it was asked, the ends were given back, and what came of it was written.
pub record RunsClient (reported : Reported) (asks : LiveAsk) (before after : Devices) (outcome : Outcome) : Type 0 where
  pub left_old : Option (List ℕ)
  pub sent_old : Option (List ℕ)
  pub left_new : Option (List ℕ)
  pub sent_new : Option (List ℕ)
  pub in_faults : ℕ
  pub out_faults : ℕ
  pub lent : Lends before.links after.links left_old sent_old left_new sent_new in_faults out_faults
  pub did : Live
  pub does : DoesAsked asks (with_link before left_old sent_old) (with_link after left_new sent_new) did
  pub source : did.why ≡ reason.Source → Rose 0 in_faults
  pub sink : did.why ≡ reason.Sink → Rose 0 out_faults
  pub unread : after.left ≡ before.left
  pub writes : WritesClient reported did before.written after.written before.failed after.failed outcome

-- a link was made and lent to the client, or there was none to be had
abbrev pub AsksOverLink : Reported → LiveAsk → Devices → Devices → Outcome → Type 0
AsksOverLink reported asks before after outcome =
    RunsClient reported asks before after outcome ⊎ (GivesBack Serve before after outcome ⊎ FailsToLink before after outcome)

-- The text was written, whole or with an output that failed; or nothing for want of memory.
abbrev pub WritesText : List ℕ → Outcome → Option (List ℕ) → Option (List ℕ) → Outcome → Type 0
WritesText text own written_old written_new NoMemory = Keeps written_old written_new
WritesText text own written_old written_new outcome = Writes written_old written_new text own outcome

-- nothing was done but to write this text
pub record WritesAlone (text : List ℕ) (own : Outcome) (before after : Devices) (outcome : Outcome) : Type 0 where
  pub same : after ≡ record before { written = after.written; failed = after.failed }
  pub writes : WritesText text own before.written after.written outcome

-- what was done where this is asked; a resource that can't be sent is told alone
abbrev pub DoesFound : ClientCommand → Result LiveAsk LiveLine → Devices → Devices → Outcome → Type 0
DoesFound command (Ok asks) before after outcome = AsksOverLink (Line command) asks before after outcome
DoesFound command (Err line) before after outcome = WritesAlone (live_line line) NotOkay before after outcome

abbrev pub DoesFoundOrNothing : ClientCommand → Result LiveAsk LiveLine → Devices → Devices → Outcome → Type 0
DoesFoundOrNothing command found before after outcome = DoesFound command found before after outcome ⊎ DoesNothing before after outcome

-- the store was listed, and by what it lists the command was done
pub record AsksByShelf (command : ClientCommand) (before after : Devices) (outcome : Outcome) : Type 0 where
  pub shelf : Shelf
  pub listed : IfSome before.held (λ st. shelf ≡ shelf_of st)
  pub does : DoesFoundOrNothing command (asked command shelf) before after outcome

-- the store couldn't be listed, which was told alone
abbrev pub FindsNoStore : Devices → Devices → Outcome → Type 0
FindsNoStore before after outcome = WritesAlone (live_report None reason.Store) StoreFault before after outcome

abbrev pub DidClient : ClientCommand → Devices → Devices → Outcome → Type 0
DidClient command before after outcome =
    AsksByShelf command before after outcome ⊎ (FindsNoStore before after outcome ⊎ DoesNothing before after outcome)
