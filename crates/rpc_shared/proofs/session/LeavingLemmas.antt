-- How a link is left.
use Rattle.std.proofs.Common.{◌≡◌, ℕ, ◌≤◌, Bool, List, Option, Result, Ok, Err, is_ok, inl, inr, arith}
use Rattle.std.specs.Io.KnownBytes.{Keeps}
use Rattle.std.proofs.KnownBytes.{Appends-kept}
use Rattle.link_io.specs.Causes.{HasCause}
use Rattle.link_io.specs.Device.{AppendsSome}
use Rattle.link_io.specs.Stored.{Stored}
use Rattle.rpc_handlers.specs.HandlerRule.{HandlerRule}
use Rattle.rpc_shared.specs.declared.session.item_log.ItemLog.{ItemLog}
use Rattle.rpc_shared.specs.declared.session.parcel.Parcel.{Parcel}
use Rattle.rpc_shared.specs.session.Crew.{Lock, Seat}
use Rattle.rpc_shared.specs.session.Leaving.{HangsUp}
use Rattle.rpc_shared.specs.session.Ring.{WriterEnded}
use Rattle.rpc_shared.specs.session.Sessions.{wire}

-- by what the link answered
pub hangs_up_by : {A E : Type 0} (result : Result A E) (finished : Bool) (before now : ℕ) → finished ≡ is_ok result → HasCause before now result → HangsUp finished before now
hangs_up_by (Ok a) finished before now is cause = inl is
hangs_up_by (Err e) finished before now is cause = inr cause.failed

-- counted from an earlier moment on
pub hangs_up_from : (finished : Bool) (first before now : ℕ) → first ≤ before → HangsUp finished before now → HangsUp finished first now
hangs_up_from finished first before now earlier (inl told) = inl told
hangs_up_from finished first before now earlier (inr rose) = inr (omega (arith, earlier, rose))

-- nothing is written by it
pub some_kept : (w w' w'' : Option (List ℕ)) (text : List ℕ) → AppendsSome w w' text → Keeps w' w'' → AppendsSome w w'' text
some_kept w w' w'' text some kept = (some.0, some.1, Appends-kept w w' w'' _ some.2 kept)

pub writer_kept : (rule : HandlerRule) (r : Lock) (w0 w w' : Option (List ℕ)) (d0 d : Option Stored) (l0 l : ItemLog) (got : List Parcel) (done : ℕ) (p : Seat) → Keeps w w' → WriterEnded rule r w0 w d0 d l0 l got done p
    → WriterEnded rule r w0 w' d0 d l0 l got done p
writer_kept rule r w0 w w' d0 d l0 l got done p kept ended = record {
  stands = ended.stands;
  kinds = ended.kinds;
  came = ended.came;
  received = ended.received;
  makes = record {
    items = ended.makes.items;
    rest = ended.makes.rest;
    part = ended.makes.part;
    parts = ended.makes.parts;
    begun = ended.makes.begun;
    written = Appends-kept w0 w w' _ ended.makes.written kept;
    stored = ended.makes.stored;
    logged = ended.makes.logged;
    counted = ended.makes.counted;
  };
  cause = ended.cause;
}
