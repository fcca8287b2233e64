-- What is printed of a router, step by step.
use Rattle.std.specs.Prelude.{ℕ, List, [], ◌∷◌, ◌++◌, take, codes}
use Rattle.std.specs.Fmt.{decimal}
use Rattle.std.specs.List.{flat_map, join_with_byte}
use Rattle.hex.specs.Hex.{encode_lower}
use Rattle.text_fields.specs.Lines.{ended}
use Rattle.frame_router.specs.declared.port.Port.{Port}
use Rattle.frame_router.specs.declared.port.Port.TheVariants.{Left, Right}
use Rattle.frame_router.specs.declared.routes.Route.{Route}
use Rattle.frame_router.specs.declared.tally.Tally.{Tally}
use Rattle.frame_router.specs.Fates.{other_side}
use Rattle.frame_router.specs.Routed.{tally_of}
use Rattle.frame_router.specs.declared.text.line.Step.{Step}
use Rattle.frame_router.specs.declared.text.line.Step.TheVariants.{Feed, Drain}
use Rattle.frame_router.specs.text.Flows.{Flow, Flows, drained, fed, flow_from, with_flow}

abbrev pub side_name : Port → List ℕ
side_name Left = codes "left"
side_name Right = codes "right"

-- a frame that is handed out for a side
unfoldable pub frame_line : Port → List ℕ → List ℕ
frame_line to bytes = ended (join_with_byte 32 (side_name to ∷ encode_lower bytes ∷ []))

abbrev pub frame_lines : Port → List (List ℕ) → List ℕ
frame_lines to frames = flat_map (frame_line to) frames

-- how the segments that came from a side were counted
unfoldable pub tally_line : Port → Tally → List ℕ
tally_line from tally =
    ended (join_with_byte 32 (
    side_name from ∷ codes "passed" ∷ decimal tally.passed ∷ codes "home" ∷ decimal tally.home ∷ codes "lost" ∷ decimal tally.lost
    ∷ codes "other" ∷ decimal tally.other ∷ codes "bad" ∷ decimal tally.bad ∷ codes "full" ∷ decimal tally.full ∷ []
    ))

abbrev pub after_step : List Route → Step → Flows → Flows
after_step routes (Feed from bytes) flows = with_flow from (fed routes from bytes (flow_from from flows)) flows
after_step routes (Drain to count) flows = with_flow (other_side to) (drained count (flow_from (other_side to) flows)) flows

-- the frames that a step hands out
abbrev pub step_lines : Step → Flows → List ℕ
step_lines (Feed from bytes) flows = []
step_lines (Drain to count) flows = frame_lines to (take count (flow_from (other_side to) flows).queue.waiting)

abbrev pub counted : List Route → Port → Flow → List ℕ
counted routes from flow = tally_line from (tally_of routes from flow.stream flow.queue.arrivals)

-- at the end all that wait are handed out, for the left side first, and then the counts are told
abbrev pub end_lines : List Route → Flows → List ℕ
end_lines routes flows =
    frame_lines Left flows.from_right.queue.waiting ++ (frame_lines Right flows.from_left.queue.waiting
    ++ (counted routes Left flows.from_left ++ counted routes Right flows.from_right))

-- all that is printed of these steps
abbrev pub printed : List Route → Flows → List Step → List ℕ
printed routes flows [] = end_lines routes flows
printed routes flows (step ∷ steps) = step_lines step flows ++ printed routes (after_step routes step flows) steps
