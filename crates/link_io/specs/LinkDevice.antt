-- A linker in memory, and one of the system.
use Rattle.std.specs.Prelude.{◌≡◌, ℕ, Bool, false, List, [], map, Some, None}
use Rattle.link_io.specs.Device.{Device, SinkDevice}
use Rattle.link_io.specs.Links.{Links, Ends}

-- the two ends of a link in memory
abbrev pub MemEnds : Type 0
MemEnds = Device × SinkDevice

pub record LinkDevice : Type 0 where
  -- the ends still to be handed out, in order
  pub coming : List MemEnds
  -- the ends handed back, in order
  pub gone : List MemEnds
  -- it was told where to listen
  pub listens : Bool
  -- how many pairs of ends are out
  pub out : ℕ
  -- the numbers of the calls that fail, counted from 1
  pub fails : List ℕ
  -- the calls so far
  pub calls : ℕ
  -- the calls that failed
  pub faults : ℕ
  -- the faults of the ends handed back
  pub in_faults : ℕ
  pub out_faults : ℕ

-- a linker with these ends and failing calls, before its first call
abbrev pub fresh_linker : List MemEnds → List ℕ → LinkDevice
fresh_linker ends fails = record {
  coming = ends;
  gone = [];
  listens = false;
  out = 0;
  fails = fails;
  calls = 0;
  faults = 0;
  in_faults = 0;
  out_faults = 0;
}

-- no call of these ends failed yet, and more may be written
abbrev pub IsUnused : MemEnds → Type 0
IsUnused ends = (ends.0.faults ≡ 0) × (ends.1.faults ≡ 0) × (ends.1.finished ≡ false)

-- what the ends of a link hold
abbrev pub ends_of : MemEnds → Ends
ends_of ends = (ends.0.bytes, ends.1.bytes)

-- what a linker in memory tells
abbrev pub links_of : LinkDevice → Links
links_of d = record {
  coming = Some (map ends_of d.coming);
  gone = Some (map ends_of d.gone);
  listens = d.listens;
  out = d.out;
  faults = d.faults;
  in_faults = d.in_faults;
  out_faults = d.out_faults;
}

-- what a linker of the system counts
pub record SocketCounts : Type 0 where
  pub listens : Bool
  pub out : ℕ
  pub faults : ℕ
  pub in_faults : ℕ
  pub out_faults : ℕ

abbrev pub no_sockets : SocketCounts
no_sockets = record { listens = false; out = 0; faults = 0; in_faults = 0; out_faults = 0 }

-- what a linker of the system tells: no bytes
abbrev pub untold_links : SocketCounts → Links
untold_links c = record {
  coming = None;
  gone = None;
  listens = c.listens;
  out = c.out;
  faults = c.faults;
  in_faults = c.in_faults;
  out_faults = c.out_faults;
}

-- the end of a socket that is written
pub record EndCounts : Type 0 where
  pub faults : ℕ
  pub finished : Bool

-- an end that no call failed at yet
abbrev pub fresh_end : EndCounts
fresh_end = record { faults = 0; finished = false }
