-- What a direction does with bytes in which a segment ends, or none.
use Rattle.std.proofs.Common.{◌≡◌, ℕ, ◌≤◌, Bool, true, false, cond, List, [], ◌∷◌, ◌++◌, length, map, take, drop, nat_lt, Option, Result, Ok, Err, OnErr, refl, sym, ◌∙◌, ap, subst, arith, append-nil, append_assoc, take-append-drop}
use Rattle.std.specs.List.{filter, flat_map}
use Rattle.std.specs.Option.{option_to_list}
use Rattle.std.proofs.lemmas.Grind.{flat_map-append}
use Rattle.std.proofs.lemmas.List.{map-append}
use Rattle.std.proofs.lemmas.List.Elements.{filter-append}
use Rattle.hdlc_frame.specs.declared.found.Bad.{Bad}
use Rattle.hdlc_frame.specs.Found.{FrameParts, Found, found, frames_in, valid_frames}
use Rattle.hdlc_frame.specs.Found.Found.{frame, fault}
use Rattle.hdlc_frame.specs.Machine.{HasRead}
use Rattle.hdlc_frame.specs.Pushed.{HasTaken}
use Rattle.hdlc_frame.proofs.Parting.{found_none}
use Rattle.frame_router.specs.declared.fate.Fate.{Fate}
use Rattle.frame_router.specs.declared.fate.Fate.TheVariants as is
use Rattle.frame_router.specs.declared.port.Port.{Port}
use Rattle.frame_router.specs.declared.routes.Route.{Route}
use Rattle.frame_router.specs.Steps.{admitted, with_fate}
use Rattle.frame_router.specs.Fates.{fate_of, frame_bytes, is_passing, passed, passes}
use Rattle.frame_router.specs.Routed.{Arrival, BringsFrame, HasRouted, LaneView, RoutesMore, arriving, tally_of}
use Rattle.frame_router.proofs.Counts.{tally_fault, tally_frame, tally_none, tally_same}

-- what holds anyway holds of a refusal
pub on_err : {T E : Type 0} (r : Result T E) (P : Type 0) → P → OnErr r P
on_err (Ok x) P p = tt
on_err (Err e) P p = p

-- the decoder goes on, and this is found with the last of the bytes
abbrev pub Finds : LaneView → List ℕ → List Found → Type 0
Finds old bytes more = (stream : List ℕ) → HasRead old.reading stream → found old.reading.limit (stream ++ bytes) ≡ found old.reading.limit stream ++ more

finds_within :
    (routes : List Route) (from : Port) (old : LaneView) (bytes stream : List ℕ) (arrivals : List Arrival) (given : List (List ℕ)) (more : List Found) →
    Finds old bytes more → HasRouted routes from old stream arrivals given → found 8192 (stream ++ bytes) ≡ found 8192 stream ++ more
finds_within routes from old bytes stream arrivals given more finds has = subst (λ limit. found limit (stream ++ bytes) ≡ found limit stream ++ more) has.limit (finds stream has.read)

pub passed_more : (routes : List Route) (from : Port) (old new : List ℕ) (one : Found) → found 8192 new ≡ found 8192 old ++ one ∷ [] → passed routes from new ≡ passed routes from old ++ filter (passes routes from) (frames_in one)
unfolding passed
passed_more routes from old new one more =
    ap (filter (passes routes from))
    (ap (flat_map frames_in) more ∙ flat_map-append frames_in (found 8192 old) (one ∷ []) ∙ ap (λ fs. valid_frames 8192 old ++ fs) (append-nil (frames_in one))) ∙
    filter-append (passes routes from) (valid_frames 8192 old) (frames_in one)

pub passed_same : (routes : List Route) (from : Port) (old new : List ℕ) → found 8192 new ≡ found 8192 old → passed routes from new ≡ passed routes from old
unfolding passed
passed_same routes from old new same = ap (λ all. filter (passes routes from) (flat_map frames_in all)) same

pub passed_none : (routes : List Route) (from : Port) → passed routes from [] ≡ []
unfolding passed
passed_none routes from = ap (λ all. filter (passes routes from) (flat_map frames_in all)) (found_none 8192)

arrived_are : (lane : LaneView) (fs : List FrameParts) → map (λ a. a.arrived) (map (arriving lane) fs) ≡ fs
arrived_are lane [] = refl
arrived_are lane (f ∷ fs) = ap (λ xs. f ∷ xs) (arrived_are lane fs)

abbrev kept_bytes : List Arrival → List (List ℕ)
kept_bytes arrivals = map (λ a. frame_bytes a.arrived) (filter (λ a. a.is_kept) arrivals)

kept_append : (xs ys : List Arrival) → kept_bytes (xs ++ ys) ≡ kept_bytes xs ++ kept_bytes ys
kept_append xs ys = ap (map (λ a. frame_bytes a.arrived)) (filter-append (λ a. a.is_kept) xs ys) ∙ map-append (λ a. frame_bytes a.arrived) (filter (λ a. a.is_kept) xs) (filter (λ a. a.is_kept) ys)

-- a frame with this fate: what it puts behind those that wait is what is kept of it
kept_so : (fate : Fate) (f : FrameParts) (room : Bool) → admitted fate (frame f) room ≡ kept_bytes (map (λ x. record { arrived = x; is_kept = room }) (cond (is_passing fate) (f ∷ []) []))
kept_so is.Passes f true = refl
kept_so is.Passes f false = refl
kept_so is.Home f room = refl
kept_so is.Lost f room = refl
kept_so is.Other f room = refl
kept_so is.Bad f room = refl

at_most_one : (b : Bool) (f : FrameParts) → length (cond b (f ∷ []) []) ≤ 1
at_most_one true f = omega arith
at_most_one false f = omega arith

waits_behind : (given waiting more kept : List (List ℕ)) → given ++ waiting ≡ kept → given ++ (waiting ++ more) ≡ kept ++ more
waits_behind given waiting more kept e = sym (append_assoc given waiting more) ∙ ap (λ xs. xs ++ more) e

routes_frame :
    (routes : List Route) (from : Port) (old new : LaneView) (bytes : List ℕ) (f : FrameParts) →
    HasTaken old.reading bytes new.reading → Finds old bytes (frame f ∷ []) →
    new.waiting ≡ old.waiting ++ admitted (fate_of routes from (frame f)) (frame f) (nat_lt (length old.waiting) 256) →
    new.tally ≡ with_fate old.tally (fate_of routes from (frame f)) (nat_lt (length old.waiting) 256) → RoutesMore routes from old new bytes
routes_frame routes from old new bytes f taken finds waiting tally = record {
  ended = frame f ∷ [];
  few = omega arith;
  finds = λ stream arrivals given has. finds_within routes from old bytes stream arrivals given (frame f ∷ []) finds has;
  passing = refl;
  more = filter (passes routes from) (f ∷ []);
  one = at_most_one (passes routes from f) f;
  stands = λ stream arrivals given has.
      let more = finds_within routes from old bytes stream arrivals given (frame f ∷ []) finds has in
      let new_ones = map (arriving old) (filter (passes routes from) (f ∷ [])) in
      record {
        limit = taken.limit ∙ has.limit;
        read = taken.read stream has.read;
        passing =
            map-append (λ a. a.arrived) arrivals new_ones ∙
            ap (λ xs. map (λ a. a.arrived) arrivals ++ xs) (arrived_are old (filter (passes routes from) (f ∷ []))) ∙
            ap (λ xs. xs ++ filter (passes routes from) (f ∷ [])) has.passing ∙
            sym (passed_more routes from stream (stream ++ bytes) (frame f) more);
        kept =
            ap (λ w. given ++ w) waiting ∙
            waits_behind given old.waiting _ _ has.kept ∙
            ap (λ xs. kept_bytes arrivals ++ xs) (kept_so (fate_of routes from (frame f)) f (nat_lt (length old.waiting) 256)) ∙
            sym (kept_append arrivals new_ones);
        tally =
            tally ∙ ap (λ t. with_fate t (fate_of routes from (frame f)) (nat_lt (length old.waiting) 256)) has.tally ∙
            sym (tally_frame routes from stream (stream ++ bytes) arrivals old f more);
      };
}

-- the same stream of passing frames, and the same arrivals
still : (routes : List Route) (from : Port) (stream new : List ℕ) (arrivals : List Arrival) → map (λ a. a.arrived) arrivals ≡ passed routes from stream → passed routes from new ≡ passed routes from stream → map (λ a. a.arrived) (arrivals ++ []) ≡ passed routes from new
still routes from stream new arrivals was same = ap (map (λ a. a.arrived)) (append-nil arrivals) ∙ was ∙ sym same

routes_fault :
    (routes : List Route) (from : Port) (old new : LaneView) (bytes : List ℕ) (bad : Bad) (room : Bool) →
    HasTaken old.reading bytes new.reading → Finds old bytes (fault bad ∷ []) → new.waiting ≡ old.waiting ++ [] → new.tally ≡ with_fate old.tally is.Bad room →
    RoutesMore routes from old new bytes
routes_fault routes from old new bytes bad room taken finds waiting tally = record {
  ended = fault bad ∷ [];
  few = omega arith;
  finds = λ stream arrivals given has. finds_within routes from old bytes stream arrivals given (fault bad ∷ []) finds has;
  passing = refl;
  more = [];
  one = omega arith;
  stands = λ stream arrivals given has.
      let more = finds_within routes from old bytes stream arrivals given (fault bad ∷ []) finds has in
      record {
        limit = taken.limit ∙ has.limit;
        read = taken.read stream has.read;
        passing = still routes from stream (stream ++ bytes) arrivals has.passing (passed_more routes from stream (stream ++ bytes) (fault bad) more ∙ append-nil (passed routes from stream));
        kept = ap (λ w. given ++ w) (waiting ∙ append-nil old.waiting) ∙ has.kept ∙ ap kept_bytes (sym (append-nil arrivals));
        tally =
            tally ∙ ap (λ t. with_fate t is.Bad room) has.tally ∙ sym (tally_fault routes from stream (stream ++ bytes) arrivals bad room more) ∙
            ap (tally_of routes from (stream ++ bytes)) (sym (append-nil arrivals));
      };
}

pub routes_segment :
    (routes : List Route) (from : Port) (old new : LaneView) (bytes : List ℕ) (one : Found) →
    HasTaken old.reading bytes new.reading → Finds old bytes (one ∷ []) →
    new.waiting ≡ old.waiting ++ admitted (fate_of routes from one) one (nat_lt (length old.waiting) 256) →
    new.tally ≡ with_fate old.tally (fate_of routes from one) (nat_lt (length old.waiting) 256) → RoutesMore routes from old new bytes
routes_segment routes from old new bytes (frame f) taken finds waiting tally = routes_frame routes from old new bytes f taken finds waiting tally
routes_segment routes from old new bytes (fault bad) taken finds waiting tally = routes_fault routes from old new bytes bad (nat_lt (length old.waiting) 256) taken finds waiting tally

pub routes_nothing :
    (routes : List Route) (from : Port) (old new : LaneView) (bytes : List ℕ) → HasTaken old.reading bytes new.reading → Finds old bytes [] →
    new.waiting ≡ old.waiting → new.tally ≡ old.tally → RoutesMore routes from old new bytes
routes_nothing routes from old new bytes taken finds waiting tally = record {
  ended = [];
  few = omega arith;
  finds = λ stream arrivals given has. finds_within routes from old bytes stream arrivals given [] finds has;
  passing = refl;
  more = [];
  one = omega arith;
  stands = λ stream arrivals given has.
      let same : found 8192 (stream ++ bytes) ≡ found 8192 stream = finds_within routes from old bytes stream arrivals given [] finds has ∙ append-nil (found 8192 stream) in
      record {
        limit = taken.limit ∙ has.limit;
        read = taken.read stream has.read;
        passing = still routes from stream (stream ++ bytes) arrivals has.passing (passed_same routes from stream (stream ++ bytes) same);
        kept = ap (λ w. given ++ w) waiting ∙ has.kept ∙ ap kept_bytes (sym (append-nil arrivals));
        tally = tally ∙ has.tally ∙ sym (tally_same routes from stream (stream ++ bytes) arrivals same) ∙ ap (tally_of routes from (stream ++ bytes)) (sym (append-nil arrivals));
      };
}

-- there was no memory for the frame with which the bytes taken of a piece end
pub brings_frame :
    (routes : List Route) (from : Port) (old : LaneView) (piece : List ℕ) (taken : ℕ) (one : Found) (f : FrameParts) (fate : Fate) →
    Finds old (take taken piece) (one ∷ []) → one ≡ frame f → fate ≡ fate_of routes from one → fate ≡ is.Passes → BringsFrame routes from old piece
brings_frame routes from old piece taken one f fate finds is_frame is_fate is_passes = record {
  next = take taken piece;
  behind = drop taken piece;
  parts = sym (take-append-drop taken piece);
  carried = f;
  passing = ap is_passing (ap (fate_of routes from) (sym is_frame) ∙ sym is_fate ∙ is_passes);
  finds = λ stream read. finds stream read ∙ ap (λ x. found old.reading.limit stream ++ x ∷ []) is_frame;
}

pub nothing_routed :
    (routes : List Route) (from : Port) (lane : LaneView) → lane.reading.limit ≡ 8192 → HasRead lane.reading [] → lane.waiting ≡ [] →
    lane.tally ≡ record { passed = 0; home = 0; lost = 0; other = 0; bad = 0; full = 0 } → HasRouted routes from lane [] [] []
nothing_routed routes from lane limit read waiting tally = record {
  limit = limit;
  read = read;
  passing = sym (passed_none routes from);
  kept = waiting;
  tally = tally ∙ sym (tally_none routes from);
}

-- one frame more is given
pub gives_front :
    (routes : List Route) (from : Port) (old new : LaneView) (front : Option (List ℕ)) → old.waiting ≡ option_to_list front ++ new.waiting →
    new.reading ≡ old.reading → new.tally ≡ old.tally → (stream : List ℕ) (arrivals : List Arrival) (given : List (List ℕ)) →
    HasRouted routes from old stream arrivals given → HasRouted routes from new stream arrivals (given ++ option_to_list front)
gives_front routes from old new front waits reading tally stream arrivals given has = record {
  limit = ap (λ r. r.limit) reading ∙ has.limit;
  read = subst (λ r. HasRead r stream) (sym reading) has.read;
  passing = has.passing;
  kept = append_assoc given (option_to_list front) new.waiting ∙ ap (λ w. given ++ w) (sym waits) ∙ has.kept;
  tally = tally ∙ has.tally;
}
