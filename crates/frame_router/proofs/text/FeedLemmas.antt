-- What came to a direction follows the flow, piece by piece.
use Rattle.std.proofs.Common.{◌≡◌, ℕ, ◌+◌, ◌-◌, ◌≤◌, Bool, true, false, List, [], ◌∷◌, ◌++◌, length, map, take, drop, fold, refl, ap, sym, ◌∙◌, subst, arith, append_assoc, length-append, nat_lt}
use Rattle.std.specs.List.{filter}
use Rattle.std.proofs.Math.Seq.{drop-append_seam, take-add}
use Rattle.std.proofs.lemmas.Bool.{ltb-true}
use Rattle.std.proofs.lemmas.List.{append-nil, append_cancel_left, map-append, take_all, take_rest}
use Rattle.std.proofs.lemmas.List.Elements.{filter-append}
use Rattle.std.proofs.lemmas.List.Sums.{fold-append}
use Rattle.hdlc_frame.specs.Found.{FrameParts}
use Rattle.frame_router.specs.declared.port.Port.{Port}
use Rattle.frame_router.specs.declared.routes.Route.{Route}
use Rattle.frame_router.specs.Fates.{frame_bytes, passed}
use Rattle.frame_router.specs.Routed.{Arrival, HasRouted, LaneView, RoutesMore, arriving}
use Rattle.frame_router.specs.text.Flows.{Flow, Queue, arrive, arrived_by, come, fed, further}
use Rattle.frame_router.specs.text.Following.{Follows}

-- the frames of these arrivals that were kept
abbrev kept_frames : List Arrival → List (List ℕ)
kept_frames arrivals = map (λ (a : Arrival). frame_bytes a.arrived) (filter (λ (a : Arrival). a.is_kept) arrivals)

kept_more : (xs ys : List Arrival) → kept_frames (xs ++ ys) ≡ kept_frames xs ++ kept_frames ys
kept_more xs ys =
    let Kept : Arrival → Bool = λ (a : Arrival). a.is_kept in
    let Bytes : Arrival → List ℕ = λ (a : Arrival). frame_bytes a.arrived in
    ap (map Bytes) (filter-append Kept xs ys) ∙ map-append Bytes (filter Kept xs) (filter Kept ys)

-- what waits is longer by what was kept
waits_more : (routes : List Route) (from : Port) (old new : LaneView) (first whole : List ℕ) (arrivals more : List Arrival) (given : List (List ℕ)) →
    HasRouted routes from old first arrivals given → HasRouted routes from new whole (arrivals ++ more) given → new.waiting ≡ old.waiting ++ kept_frames more
waits_more routes from old new first whole arrivals more given before after =
    append_cancel_left given new.waiting (old.waiting ++ kept_frames more)
    (after.kept ∙ (kept_more arrivals more ∙ (ap (λ l. l ++ kept_frames more) (sym before.kept) ∙ append_assoc given old.waiting (kept_frames more))))

-- one frame came
one_frame : (routes : List Route) (from : Port) (old new : LaneView) (bytes : List ℕ) (flow : Flow) (f : FrameParts) (kept : Bool) →
    nat_lt (length flow.queue.waiting) 256 ≡ kept → (h : Follows routes from old flow) →
    HasRouted routes from new (flow.stream ++ bytes) (flow.queue.arrivals ++ (record { arrived = f; is_kept = kept }) ∷ []) h.given →
    Follows routes from new (record { stream = flow.stream ++ bytes; queue = arrived_by kept flow.queue f })
one_frame routes from old new bytes flow f true room h after =
    let long = length-append flow.queue.waiting (frame_bytes f ∷ []) in
    let below = ltb-true (length flow.queue.waiting) 256 room in
    record {
      given = h.given;
      routed = after;
      waits = waits_more routes from old new flow.stream (flow.stream ++ bytes) flow.queue.arrivals ((record { arrived = f; is_kept = true }) ∷ []) h.given h.routed after
          ∙ ap (λ l. l ++ frame_bytes f ∷ []) h.waits;
      few = omega (arith, long, below);
    }
one_frame routes from old new bytes flow f false room h after = record {
  given = h.given;
  routed = after;
  waits = waits_more routes from old new flow.stream (flow.stream ++ bytes) flow.queue.arrivals ((record { arrived = f; is_kept = false }) ∷ []) h.given h.routed after
      ∙ (append-nil old.waiting ∙ h.waits);
  few = h.few;
}

-- no frame came to its end
no_frame : (routes : List Route) (from : Port) (old new : LaneView) (bytes : List ℕ) (flow : Flow) → (h : Follows routes from old flow) →
    HasRouted routes from new (flow.stream ++ bytes) flow.queue.arrivals h.given → Follows routes from new (record { stream = flow.stream ++ bytes; queue = flow.queue })
no_frame routes from old new bytes flow h after =
    let same : HasRouted routes from new (flow.stream ++ bytes) (flow.queue.arrivals ++ []) h.given =
    subst (λ arrivals. HasRouted routes from new (flow.stream ++ bytes) arrivals h.given) (sym (append-nil flow.queue.arrivals)) after in
    record {
      given = h.given;
      routed = after;
      waits = waits_more routes from old new flow.stream (flow.stream ++ bytes) flow.queue.arrivals [] h.given h.routed same ∙ (append-nil old.waiting ∙ h.waits);
      few = h.few;
    }

-- at most one frame came
follows_more : (routes : List Route) (from : Port) (old new : LaneView) (bytes : List ℕ) (flow : Flow) (more : List FrameParts) → length more ≤ 1 →
    (h : Follows routes from old flow) → HasRouted routes from new (flow.stream ++ bytes) (flow.queue.arrivals ++ map (arriving old) more) h.given →
    Follows routes from new (come more bytes flow)
follows_more routes from old new bytes flow [] one h after =
    no_frame routes from old new bytes flow h
    (subst (λ arrivals. HasRouted routes from new (flow.stream ++ bytes) arrivals h.given) (append-nil flow.queue.arrivals) after)
follows_more routes from old new bytes flow (f ∷ []) one h after =
    let P : List (List ℕ) → Type 0 = λ waiting.
    HasRouted routes from new (flow.stream ++ bytes) (flow.queue.arrivals ++ (record { arrived = f; is_kept = nat_lt (length waiting) 256 }) ∷ []) h.given in
    one_frame routes from old new bytes flow f (nat_lt (length flow.queue.waiting) 256) refl h (subst P h.waits after)
follows_more routes from old new bytes flow (f ∷ g ∷ more) one h after = absurd (omega (arith, one))

-- so many bytes were fed
pub record FeedsOn (routes : List Route) (from : Port) (old new : LaneView) (seen : List ℕ) : Type 0 where
  pub more : List FrameParts
  pub stands : (flow : Flow) → Follows routes from old flow → Follows routes from new (come more seen flow)

-- none yet
feeds_none : (routes : List Route) (from : Port) (lane : LaneView) → FeedsOn routes from lane lane []
feeds_none routes from lane = record {
  more = [];
  stands = λ flow h. subst (λ stream. Follows routes from lane (record { stream = stream; queue = flow.queue })) (sym (append-nil flow.stream)) h;
}

come_more : (xs ys : List FrameParts) (seen bytes : List ℕ) (flow : Flow) → come ys bytes (come xs seen flow) ≡ come (xs ++ ys) (seen ++ bytes) flow
come_more xs ys seen bytes flow =
    ap (λ stream. record { stream = stream; queue = fold arrive (fold arrive flow.queue xs) ys }) (append_assoc flow.stream seen bytes)
    ∙ ap (λ queue. record { stream = flow.stream ++ (seen ++ bytes); queue = queue }) (sym (fold-append arrive flow.queue xs ys))

-- a piece more
feeds_more : (routes : List Route) (from : Port) (old now new : LaneView) (seen bytes : List ℕ) → FeedsOn routes from old now seen →
    RoutesMore routes from now new bytes → FeedsOn routes from old new (seen ++ bytes)
feeds_more routes from old now new seen bytes before step = record {
  more = before.more ++ step.more;
  stands = λ flow h.
      let far = before.stands flow h in
      let flow_now = come before.more seen flow in
      subst (Follows routes from new) (come_more before.more step.more seen bytes flow)
      (follows_more routes from now new bytes flow_now step.more step.one far (step.stands flow_now.stream flow_now.queue.arrivals far.given far.routed));
}

arrivals_more : (more : List FrameParts) (queue : Queue) → map (λ (a : Arrival). a.arrived) (fold arrive queue more).arrivals ≡ map (λ (a : Arrival). a.arrived) queue.arrivals ++ more
arrivals_more [] queue = sym (append-nil (map (λ (a : Arrival). a.arrived) queue.arrivals))
arrivals_more (f ∷ more) queue =
    let Arrived : Arrival → FrameParts = λ (a : Arrival). a.arrived in
    arrivals_more more (arrive queue f)
    ∙ (ap (λ l. l ++ more) (map-append Arrived queue.arrivals ((record { arrived = f; is_kept = nat_lt (length queue.waiting) 256 }) ∷ []))
    ∙ append_assoc (map Arrived queue.arrivals) (f ∷ []) more)

slice_is : (bytes : List ℕ) (done : ℕ) → take (length bytes - done) (drop done bytes) ≡ drop done bytes
slice_is bytes done = take_rest bytes done

-- a piece more of these bytes
pub feeds_further : (routes : List Route) (from : Port) (old now new : LaneView) (bytes : List ℕ) (done taken : ℕ) → FeedsOn routes from old now (take done bytes) →
    RoutesMore routes from now new (take taken (take (length bytes - done) (drop done bytes))) → FeedsOn routes from old new (take (done + taken) bytes)
feeds_further routes from old now new bytes done taken before step =
    let whole : take done bytes ++ take taken (take (length bytes - done) (drop done bytes)) ≡ take (done + taken) bytes =
    ap (λ r. take done bytes ++ take taken r) (slice_is bytes done) ∙ sym (take-add done taken bytes) in
    subst (FeedsOn routes from old new) whole (feeds_more routes from old now new (take done bytes) (take taken (take (length bytes - done) (drop done bytes))) before step)

pub feeds_begin : (routes : List Route) (from : Port) (lane : LaneView) (bytes : List ℕ) → FeedsOn routes from lane lane (take 0 bytes)
feeds_begin routes from lane bytes = feeds_none routes from lane

-- all bytes were fed
pub feeds_all : (routes : List Route) (from : Port) (old new : LaneView) (bytes : List ℕ) (done : ℕ) → length bytes ≤ done → FeedsOn routes from old new (take done bytes) →
    (flow : Flow) → Follows routes from old flow → Follows routes from new (fed routes from bytes flow)
feeds_all routes from old new bytes done all part flow h =
    let feeds = subst (FeedsOn routes from old new) (take_all done bytes all) part in
    let after = feeds.stands flow h in
    let longer : passed routes from (flow.stream ++ bytes) ≡ passed routes from flow.stream ++ feeds.more =
    sym after.routed.passing ∙ (arrivals_more feeds.more flow.queue ∙ ap (λ l. l ++ feeds.more) h.routed.passing) in
    let brought : further routes from flow.stream bytes ≡ feeds.more =
    ap (drop (length (passed routes from flow.stream))) longer ∙ drop-append_seam (passed routes from flow.stream) feeds.more in
    subst (λ more. Follows routes from new (come more bytes flow)) (sym brought) after
