-- What passes of a stream begins what passes of a longer one.
use Rattle.std.proofs.Common.{ℕ, Bool, List, ◌++◌, sym, ap, ◌∙◌}
use mathlib.Core.List.{IsPrefix}
use Rattle.std.specs.List.{filter, flat_map}
use Rattle.std.proofs.lemmas.Grind.{flat_map-append}
use Rattle.std.proofs.lemmas.List.Elements.{filter-append}
use Rattle.hdlc_frame.specs.Found.{found, frames_in, valid_frames}
use Rattle.hdlc_frame.proofs.Parting.{found_begins}
use Rattle.frame_router.specs.declared.port.Port.{Port}
use Rattle.frame_router.specs.declared.routes.Route.{Route}
use Rattle.frame_router.specs.Fates.{frame_bytes, passed, passes}
use Rattle.frame_router.specs.Pumped.{wire_of}

flat_begins : {A B : Type 0} (f : A → List B) (xs ys : List A) → IsPrefix xs ys → IsPrefix (flat_map f xs) (flat_map f ys)
flat_begins f xs ys begins = (flat_map f begins.0, sym (flat_map-append f xs begins.0) ∙ ap (flat_map f) begins.1)

filter_begins : {A : Type 0} (p : A → Bool) (xs ys : List A) → IsPrefix xs ys → IsPrefix (filter p xs) (filter p ys)
filter_begins p xs ys begins = (filter p begins.0, sym (filter-append p xs begins.0) ∙ ap (filter p) begins.1)

passed_begins : (routes : List Route) (from : Port) (stream more : List ℕ) → IsPrefix (passed routes from stream) (passed routes from (stream ++ more))
unfolding passed
passed_begins routes from stream more =
    filter_begins (passes routes from) (valid_frames 8192 stream) (valid_frames 8192 (stream ++ more))
    (flat_begins frames_in (found 8192 stream) (found 8192 (stream ++ more)) (found_begins 8192 stream more))

pub wire_begins : (routes : List Route) (from : Port) (stream more : List ℕ) → IsPrefix (wire_of routes from stream) (wire_of routes from (stream ++ more))
wire_begins routes from stream more = flat_begins frame_bytes (passed routes from stream) (passed routes from (stream ++ more)) (passed_begins routes from stream more)
