-- When a read gives up, at the fourth turn of time in a row without progress and at no other; and that it ends as it has told.
use Rattle.std.specs.Prelude.{◌≡◌, ℕ, suc, ◌+◌, ◌*◌, ◌≤◌, Bool, if◌then◌else◌, List, [], length, Some, None}
use Rattle.rpc_ids.specs.declared.Status.{Status}
use Rattle.rpc_ids.specs.declared.Status.TheVariants.{DeadlineExceeded}
use Rattle.link_io.specs.Resources.{first_of}
use Rattle.transfer_base.specs.declared.limits.TheConstants.{MAX_RESOURCE, TIMEOUT}
use Rattle.transfer_receiver.specs.declared.phase.Phase.{Phase}
use Rattle.transfer_receiver.specs.declared.phase.Phase.TheVariants.{Completing}
use Rattle.transfer_receiver.specs.Phase.{is_open}
use Rattle.transfer_resume.specs.declared.side.Side.TheVariants.{Read}
use Rattle.transfer_resume.specs.Session.{Service}
use Rattle.transfer_client.specs.declared.stages.Reading.{Reading}
use Rattle.transfer_client.specs.declared.stages.Reading.TheVariants as reading
use Rattle.transfer_client.specs.Read.{Download, new_download, read_rules}
use Rattle.transfer_laws.specs.pairs.EndsWell.{IsTuning}
use Rattle.transfer_laws.specs.losses.Drops.{LeadsTo, LossyPair, begun, step}
use Rattle.transfer_laws.specs.losses.InTime.{GIVES_UP}

-- How far a read has come: it has heard the first START_ACK, the next byte is that far, it has told its end.
abbrev pub progress_at : Reading → ℕ
progress_at reading.Unasked = 0
progress_at (reading.Asking w) = 0
progress_at (reading.Receiving r) = suc r.next + (if is_open r.phase then 0 else 1)
progress_at (reading.Over status) = 0

-- the status with which it gives up: that of the end that it has told, if it has
abbrev pub told_at : Phase → Status
told_at (Completing status) = status
told_at _ = DeadlineExceeded

abbrev pub status_at : Reading → Status
status_at (reading.Receiving r) = told_at r.phase
status_at _ = DeadlineExceeded

-- nothing is on its way, so time passes next
pub record IsStill (v : LossyPair Download) : Type 0 where
  pub to_server : v.pair.to_server ≡ []
  pub to_client : v.pair.to_client ≡ []

module _ (service : Service) (loses : ℕ → Bool) where
  -- on the way from the first pair the read has come no further since another one, and the next turn of time is the fourth since
  pub record HasWaited (w v : LossyPair Download) : Type 0 where
    pub count : ℕ
    pub mid : LossyPair Download
    pub way : LeadsTo service read_rules loses count w mid
    pub rest : ℕ
    pub on : LeadsTo service read_rules loses rest mid v
    pub long : v.now + TIMEOUT ≡ mid.now + TIMEOUT * GIVES_UP
    pub no_further : progress_at mid.pair.client.stage ≡ progress_at v.pair.client.stage

  -- it ends at the next turn of time where it has waited so, and nowhere else
  pub record GivesUp (w v : LossyPair Download) : Type 0 where
    pub ends : HasWaited w v → read_rules.end_of (step service read_rules loses v).pair.client ≡ Some (status_at v.pair.client.stage)
    pub only : (status : Status) → read_rules.end_of (step service read_rules loses v).pair.client ≡ Some status → HasWaited w v

-- EACH READ GIVES UP SO, whatever the service says and whatever is lost
abbrev pub ReadsGiveUp : Type 0
ReadsGiveUp =
    (service : Service) (loses : ℕ → Bool) (now time resource offset window chunk count : ℕ) (v : LossyPair Download) → let w = begun service read_rules loses now time (new_download resource offset window chunk) in
    LeadsTo service read_rules loses count w v → read_rules.end_of v.pair.client ≡ None → IsStill v → GivesUp service loses w v

-- it has told this end
abbrev pub HasTold : Status → Reading → Type 0
HasTold status (reading.Receiving r) = r.phase ≡ Completing status
HasTold status _ = ⊥

-- it ends so, within four turns of time
pub record EndsAsTold (service : Service) (loses : ℕ → Bool) (status : Status) (v : LossyPair Download) : Type 0 where
  pub many : ℕ
  pub last : LossyPair Download
  pub way : LeadsTo service read_rules loses many v last
  pub ends : read_rules.end_of last.pair.client ≡ Some status
  pub in_time : last.now ≤ v.now + TIMEOUT * GIVES_UP

-- EACH READ ENDS AS IT HAS TOLD, whatever is lost then, of a resource that the service lists: one that has kept all ends OK
abbrev pub ReadsEndSo : Type 0
ReadsEndSo =
    (service : Service) (loses : ℕ → Bool) (now time resource offset window chunk : ℕ) (bytes : List ℕ) → service.side ≡ Read → first_of resource service.shelf.full ≡ Some bytes
    → IsTuning window chunk → length bytes ≤ MAX_RESOURCE → offset ≤ length bytes
    → (count : ℕ) (v : LossyPair Download) (status : Status) → LeadsTo service read_rules loses count (begun service read_rules loses now time (new_download resource offset window chunk)) v
    → HasTold status v.pair.client.stage → EndsAsTold service loses status v
