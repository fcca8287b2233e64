-- What the status of a client tells.
use Rattle.std.specs.Prelude.{◌≡◌, ◌≢◌, ◌⊎◌, ℕ, Ok, Err, Option, Some, IfSome, unwrap_or}
use Rattle.link_io.specs.declared.shelf.Shelf.{Shelf}
use Rattle.link_io.specs.declared.why.Why.TheVariants.{Settled}
use Rattle.link_io.specs.Stored.{shelf_of}
use Rattle.live_client.specs.declared.ask.LiveAsk.{LiveAsk}
use Rattle.live_client.specs.declared.ask.LiveAsk.TheVariants.{Call}
use Rattle.live_client.specs.declared.ask.Opening.{Opening}
use Rattle.live_client.specs.declared.ask.TheConstants.{MAX_MESSAGES}
use Rattle.rpc_ids.specs.declared.status.Status.TheVariants.{Okay}
use Rattle.run_report.specs.declared.live_report.LiveLine.{LiveLine}
use Rattle.pw_run.specs.declared.client_command.ClientCommand.{ClientCommand}
use Rattle.pw_run.specs.declared.client_text.Reported.TheVariants.{Line, Messages}
use Rattle.pw_run.specs.declared.live_command.LiveCommand.TheVariants.{Client}
use Rattle.pw_run.specs.declared.outcome.Outcome.TheVariants.{Done, NotOkay}
use Rattle.pw_run.specs.CallCommand.{DidCall}
use Rattle.pw_run.specs.Client.{RunsClient, asked}
use Rattle.pw_run.specs.Devices.{Devices}
use Rattle.pw_run.specs.Live.{DidLive}
use Rattle.pw_run.specs.Outcome.{code_of}
use Rattle.pw_run.specs.Recorded.{EndsWith}

-- by what the store listed, the command asks this
pub record Asks (command : ClientCommand) (before : Devices) (asks : LiveAsk) : Type 0 where
  pub shelf : Shelf
  pub listed : IfSome before.held (λ st. shelf ≡ shelf_of st)
  pub is : asked command shelf ≡ Ok asks

-- the client settled, and what it was asked ended OK
pub record EndedOkay (command : ClientCommand) (before after : Devices) : Type 0 where
  pub asks : LiveAsk
  pub by : Asks command before asks
  pub run : RunsClient (Line command) asks before after Done
  pub settled : run.did.why ≡ Settled
  pub okay : run.did.ended ≡ Some Okay

-- it settled, and what it was asked didn't end OK
pub record EndedOtherwise (command : ClientCommand) (before after : Devices) : Type 0 where
  pub asks : LiveAsk
  pub by : Asks command before asks
  pub run : RunsClient (Line command) asks before after NotOkay
  pub settled : run.did.why ≡ Settled
  pub other : run.did.ended ≢ Some Okay

-- by what the store listed, there is no resource that can be sent
pub record HasNoneToSend (command : ClientCommand) (before : Devices) : Type 0 where
  pub shelf : Shelf
  pub listed : IfSome before.held (λ st. shelf ≡ shelf_of st)
  pub line : LiveLine
  pub unfit : asked command shelf ≡ Err line

-- With status 0 what a client was asked ended OK.
abbrev pub OkayIsOkay : Type 0
OkayIsOkay =
    (command : ClientCommand) (status : ℕ) (before after : Devices) → EndsWith status (DidLive (Client command) before after)
    → status ≡ code_of Done → EndedOkay command before after

-- With status 9 it ended otherwise, or there was nothing to send.
abbrev pub NotOkayIsOther : Type 0
NotOkayIsOther =
    (command : ClientCommand) (status : ℕ) (before after : Devices) → EndsWith status (DidLive (Client command) before after)
    → status ≡ code_of NotOkay → EndedOtherwise command before after ⊎ HasNoneToSend command before

-- a call settled, and ended OK
pub record CalledOkay (opening : Opening) (limit within : Option ℕ) (before after : Devices) : Type 0 where
  pub run : RunsClient Messages (Call opening (unwrap_or limit MAX_MESSAGES) within) before after Done
  pub settled : run.did.why ≡ Settled
  pub okay : run.did.ended ≡ Some Okay

-- it settled, and didn't end OK
pub record CalledOtherwise (opening : Opening) (limit within : Option ℕ) (before after : Devices) : Type 0 where
  pub run : RunsClient Messages (Call opening (unwrap_or limit MAX_MESSAGES) within) before after NotOkay
  pub settled : run.did.why ≡ Settled
  pub other : run.did.ended ≢ Some Okay

-- With status 0 a call ended OK.
abbrev pub CalledMeansOkay : Type 0
CalledMeansOkay =
    (opening : Opening) (limit within : Option ℕ) (status : ℕ) (before after : Devices) → EndsWith status (DidCall opening limit within before after)
    → status ≡ code_of Done → CalledOkay opening limit within before after

-- With status 9 it ended otherwise.
abbrev pub OtherMeansOther : Type 0
OtherMeansOther =
    (opening : Opening) (limit within : Option ℕ) (status : ℕ) (before after : Devices) → EndsWith status (DidCall opening limit within before after)
    → status ≡ code_of NotOkay → CalledOtherwise opening limit within before after
