-- What a router does with the frames that come from each side, line by line.
use Rattle.std.specs.Prelude.{ℕ, nat_lt, Bool, if◌then◌else◌, List, [], ◌∷◌, ◌++◌, length, drop, fold}
use Rattle.hdlc_frame.specs.Found.{FrameParts}
use Rattle.frame_router.specs.declared.port.Port.{Port}
use Rattle.frame_router.specs.declared.port.Port.TheVariants.{Left, Right}
use Rattle.frame_router.specs.declared.routes.Route.{Route}
use Rattle.frame_router.specs.Fates.{frame_bytes, passed}
use Rattle.frame_router.specs.Routed.{Arrival}

-- the frames from one side that pass, whether each was kept, and those that wait for the other side
pub record Queue : Type 0 where
  pub arrivals : List Arrival
  pub waiting : List (List ℕ)

abbrev pub arrived_by : Bool → Queue → FrameParts → Queue
arrived_by kept queue f = record {
  arrivals = queue.arrivals ++ (record { arrived = f; is_kept = kept }) ∷ [];
  waiting = if kept then queue.waiting ++ frame_bytes f ∷ [] else queue.waiting;
}

-- a frame that passes is kept where fewer than 256 wait, and dropped else
abbrev pub arrive : Queue → FrameParts → Queue
arrive queue f = arrived_by (nat_lt (length queue.waiting) 256) queue f

-- one direction: all bytes that came from one side, and what became of the frames in them that pass
pub record Flow : Type 0 where
  pub stream : List ℕ
  pub queue : Queue

-- nothing came yet
abbrev pub no_flow : Flow
no_flow = record { stream = []; queue = record { arrivals = []; waiting = [] } }

-- the frames that some bytes behind a stream bring to their end, and that pass
abbrev pub further : List Route → Port → List ℕ → List ℕ → List FrameParts
further routes from stream bytes = drop (length (passed routes from stream)) (passed routes from (stream ++ bytes))

abbrev pub come : List FrameParts → List ℕ → Flow → Flow
come more bytes flow = record { stream = flow.stream ++ bytes; queue = fold arrive flow.queue more }

-- some bytes come: each frame that they bring arrives, in order
abbrev pub fed : List Route → Port → List ℕ → Flow → Flow
fed routes from bytes flow = come (further routes from flow.stream bytes) bytes flow

-- so many of the frames that wait are handed out, the oldest first
abbrev pub drained : ℕ → Flow → Flow
drained count flow = record flow { queue = record flow.queue { waiting = drop count flow.queue.waiting } }

-- both directions
pub record Flows : Type 0 where
  pub from_left : Flow
  pub from_right : Flow

abbrev pub no_flows : Flows
no_flows = record { from_left = no_flow; from_right = no_flow }

abbrev pub flow_from : Port → Flows → Flow
flow_from Left flows = flows.from_left
flow_from Right flows = flows.from_right

abbrev pub with_flow : Port → Flow → Flows → Flows
with_flow Left flow flows = record flows { from_left = flow }
with_flow Right flow flows = record flows { from_right = flow }
