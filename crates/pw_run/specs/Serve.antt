-- What a run of `serve` or of `host` read, wrote and stored: connections are served in turn.
use Rattle.std.specs.Prelude.{◌≡◌, ◌≢◌, ℕ, zero, suc, ◌<◌, ◌≤◌, ◌⊎◌, true, List, Option}
use Rattle.link_io.specs.declared.why.Why.{Why}
use Rattle.link_io.specs.declared.why.Why.TheVariants.{Source, Sink}
use Rattle.link_io.specs.Causes.{Rose}
use Rattle.link_io.specs.Links.{HandsOut, KeepsLinks, Links, TakesBack}
use Rattle.rpc_frames.specs.declared.counts.Counts.{Counts}
use Rattle.rpc_journal.specs.declared.item.Item.{Item}
use Rattle.rpc_journal.specs.CallTable.{Table}
use Rattle.run_report.specs.ConnectionReport.{connection_report}
use Rattle.pw_run.specs.declared.outcome.Outcome.{Outcome}
use Rattle.pw_run.specs.declared.outcome.Outcome.TheVariants.{Done, LinkFault, NoMemory}
use Rattle.pw_run.specs.declared.live_command.TheConstants.{MAX_HOSTED}
use Rattle.pw_run.specs.declared.way.Way.{Way}
use Rattle.pw_run.specs.declared.way.Way.TheVariants as way
use Rattle.pw_run.specs.Devices.{Devices, LinkDevices, with_link}
use Rattle.pw_run.specs.Hosted.{HostsLink}
use Rattle.pw_run.specs.LinkServed.{ServesLink, WritesEnded}
use Rattle.pw_run.specs.Outcome.{hosted_outcome, outcome_for}

-- what was served of a link
abbrev pub ServesBy : Way → ℕ → LinkDevices → LinkDevices → Why → Counts → Table → List Item → Type 0
ServesBy way.Serve workers before after why counts table items = ServesLink workers before after why counts table items
ServesBy way.Host workers before after why counts table items = HostsLink workers before after why counts table items

-- the outcome of a run whose connection ended for this reason, and whose lines were written. With `Done` the next one is accepted
abbrev pub outcome_by : Way → Why → Outcome
outcome_by way.Serve why = outcome_for why
outcome_by way.Host why = hosted_outcome why

-- where a connection was given back as it was, the clock wasn't asked, but by `host`
abbrev pub KeepsMoment : Way → ℕ → ℕ → Type 0
KeepsMoment way.Serve old new = new ≡ old
KeepsMoment way.Host old new = old ≤ new

-- The ends of a link were handed out and taken back: what they held then and then, and how many calls failed at them.
pub record Lends (old new : Links) (left_old sent_old left_new sent_new : Option (List ℕ)) (in_faults out_faults : ℕ) : Type 0 where
  pub between : Links
  pub handed : HandsOut old between left_old sent_old
  pub later : old.faults ≤ between.faults
  pub taken : TakesBack between new left_new sent_new in_faults out_faults

-- A connection was accepted and served, and ended for this reason; its ends were given back, and its lines were written.
pub record RunsConnection (by : Way) (workers number : ℕ) (before after : Devices) (outcome : Outcome) : Type 0 where
  pub left_old : Option (List ℕ)
  pub sent_old : Option (List ℕ)
  pub left_new : Option (List ℕ)
  pub sent_new : Option (List ℕ)
  pub in_faults : ℕ
  pub out_faults : ℕ
  pub lent : Lends before.links after.links left_old sent_old left_new sent_new in_faults out_faults
  pub why : Why
  pub counts : Counts
  pub table : Table
  pub items : List Item
  pub serves : ServesBy by workers (with_link before left_old sent_old) (with_link after left_new sent_new) why counts table items
  pub source : why ≡ Source → Rose 0 in_faults
  pub sink : why ≡ Sink → Rose 0 out_faults
  pub unread : after.left ≡ before.left
  pub writes : WritesEnded (connection_report number table counts why) why (outcome_by by why) before.written after.written before.failed after.failed outcome

-- A connection was accepted and given back as it was, for want of memory.
pub record GivesBack (by : Way) (before after : Devices) (outcome : Outcome) : Type 0 where
  pub left : Option (List ℕ)
  pub sent : Option (List ℕ)
  pub lent : Lends before.links after.links left sent left sent 0 0
  pub moment : KeepsMoment by before.moment after.moment
  pub same : after ≡ record before { links = after.links; moment = after.moment }
  pub memory : outcome ≡ NoMemory

-- No connection could be accepted, or there was no place to listen at.
pub record FailsToLink (before after : Devices) (outcome : Outcome) : Type 0 where
  pub kept : KeepsLinks before.links after.links
  pub same : after ≡ record before { links = after.links }
  pub fault : outcome ≡ LinkFault
  pub cause : Rose before.links.faults after.links.faults

-- what was done of the connection with this number
abbrev pub ServesConnection : Way → ℕ → ℕ → Devices → Devices → Outcome → Type 0
ServesConnection by workers number before after outcome =
    RunsConnection by workers number before after outcome ⊎
    (GivesBack by before after outcome ⊎ FailsToLink before after outcome)

-- So many connections were served in turn, each to its end. The one that follows has what this one left.
abbrev pub ServesAll : Way → ℕ → ℕ → Devices → Devices → Type 0
ServesAll by workers zero before after = after ≡ before
ServesAll by workers (suc count) before after =
    (between : Devices) × ServesAll by workers count before between × ServesConnection by workers (suc count) between after Done

-- one of so many connections wasn't served to its end, or not accepted, and was the last
pub record StopsServing (by : Way) (workers connections : ℕ) (before after : Devices) (outcome : Outcome) : Type 0 where
  pub served : ℕ
  pub few : served < connections
  pub between : Devices
  pub first : ServesAll by workers served before between
  pub last : ServesConnection by workers (suc served) between after outcome
  pub stops : outcome ≢ Done

-- it listens at a path, and nothing else has changed
pub record Listens (before after : Devices) : Type 0 where
  pub listens : after.links.listens ≡ true
  pub kept : KeepsLinks before.links after.links
  pub later : before.links.faults ≤ after.links.faults
  pub same : after ≡ record before { links = after.links }

-- all connections were served, or those up to one
abbrev pub ServesInTurn : Way → ℕ → ℕ → Devices → Devices → Outcome → Type 0
ServesInTurn by workers connections before after outcome =
    ((outcome ≡ Done) × ServesAll by workers connections before after) ⊎ StopsServing by workers connections before after outcome

-- the run listened, and then served connections in turn
pub record ServesPath (by : Way) (workers connections : ℕ) (before after : Devices) (outcome : Outcome) : Type 0 where
  pub listening : Devices
  pub listened : Listens before listening
  pub serves : ServesInTurn by workers connections listening after outcome

-- connections were served at a path, or it couldn't be listened at
abbrev pub ServesAt : Way → ℕ → ℕ → Devices → Devices → Outcome → Type 0
ServesAt by workers connections before after outcome = ServesPath by workers connections before after outcome ⊎ FailsToLink before after outcome

abbrev pub DidServe : ℕ → ℕ → Devices → Devices → Outcome → Type 0
DidServe workers connections before after outcome = ServesAt way.Serve workers connections before after outcome

-- as many as there are numbers for are served
abbrev pub DidHost : ℕ → Devices → Devices → Outcome → Type 0
DidHost workers before after outcome = ServesAt way.Host workers MAX_HOSTED before after outcome
