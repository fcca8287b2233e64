-- A pump that had no memory to begin.
use Rattle.std.proofs.Common.{◌≡◌, ℕ, List, [], ◌++◌, Option, inl, refl, sym, ◌∙◌, ap, subst, arith, append-nil}
use Rattle.std.specs.Io.KnownBytes.{Appends}
use Rattle.std.specs.List.{filter, flat_map}
use Rattle.std.proofs.KnownBytes.{Appends-nil, Consumes-nil}
use Rattle.hdlc_frame.specs.Found.{frames_in}
use Rattle.hdlc_frame.proofs.Parting.{found_none}
use Rattle.frame_router.specs.declared.port.Port.{Port}
use Rattle.frame_router.specs.declared.pumping.Pumped.{Pumped}
use Rattle.frame_router.specs.declared.routes.Route.{Route}
use Rattle.frame_router.specs.Fates.{frame_bytes, passed, passes}
use Rattle.frame_router.specs.Pumped.{Pumps, all_kept, wire_of}
use Rattle.frame_router.specs.Routed.{tally_of}
use Rattle.frame_router.specs.bridge.Bridges.{nothing_pumped}

passed_none : (routes : List Route) (from : Port) → passed routes from [] ≡ []
unfolding passed
passed_none routes from = ap (λ all. filter (passes routes from) (flat_map frames_in all)) (found_none 8192)

tally_none : (routes : List Route) (from : Port) → tally_of routes from [] [] ≡ nothing_pumped.tally
tally_none routes from = rw (found_none 8192)

wire_none : (routes : List Route) (from : Port) → wire_of routes from [] ≡ []
wire_none routes from = ap (flat_map frame_bytes) (passed_none routes from)

none_pumped : (routes : List Route) (from : Port) (left written : Option (List ℕ)) → Pumps routes from left left written written nothing_pumped
none_pumped routes from left written =
    let wire = append-nil (wire_of routes from []) in
    record {
      bytes = [];
      taken = Consumes-nil left;
      read = refl;
      within = omega arith;
      at_limit = λ limit. absurd (cc);
      below = λ _. omega arith;
      at_end = λ settled. absurd (cc);
      wrote = record {
        front = [];
        next = [];
        behind = [];
        part = [];
        unwritten = [];
        begins = refl;
        stops = inl (refl, refl);
        soon = omega arith;
        wrote = subst (Appends written written) (sym (wire ∙ wire_none routes from)) (Appends-nil written);
        within = sym (append-nil (wire_of routes from [] ++ []) ∙ wire);
        counts = sym (ap (λ fs. tally_of routes from [] (all_kept fs)) (passed_none routes from) ∙ tally_none routes from);
      };
    }

-- it touched neither end
pub untouched_pumped :
    (routes : List Route) (from : Port) (left_old left_new written_old written_new : Option (List ℕ)) (pumped : Pumped) → pumped ≡ nothing_pumped →
    left_new ≡ left_old → written_new ≡ written_old → Pumps routes from left_old left_new written_old written_new pumped
untouched_pumped routes from left_old left_new written_old written_new pumped none left written =
    subst (λ p. Pumps routes from left_old left_new written_old written_new p) (sym none)
    (subst (λ l. Pumps routes from left_old l written_old written_new nothing_pumped) (sym left)
    (subst (λ w. Pumps routes from left_old left_old written_old w nothing_pumped) (sym written) (none_pumped routes from left_old written_old)))
