-- What contracts see of the two tasks, and what a poll of them may be.
use Rattle.std.specs.Prelude.{◌≡◌, ℕ}
use Rattle.task_core.specs.Visit.{Visit}
use Rattle.transfer_client.specs.Read.{Download, read_rules}
use Rattle.transfer_client.specs.Write.{Upload, write_rules}
use Rattle.transfer_client.specs.Polling.{IsPolled}

-- the session, and the read in it
pub record Reads : Type 0 where
  pub session : ℕ
  pub download : Download

-- the session, and the write in it
pub record Writes : Type 0 where
  pub session : ℕ
  pub upload : Upload

pub record PollsRead (before : Reads) (visit : Visit) (after : Reads) : Type 0 where
  pub session : after.session ≡ before.session
  pub polled : IsPolled read_rules before.session before.download visit after.download

pub record PollsWrite (before : Writes) (visit : Visit) (after : Writes) : Type 0 where
  pub session : after.session ≡ before.session
  pub polled : IsPolled write_rules before.session before.upload visit after.upload
