-- How a stream with one more segment is counted.
use Rattle.std.proofs.Common.{◌≡◌, ℕ, Bool, true, false, cond, not, List, [], ◌∷◌, ◌++◌, length, map, nat_lt, count_by, refl, ◌∙◌, ap, append-nil}
use Rattle.std.specs.Io.Iter.{u64_saturate}
use Rattle.std.specs.List.{filter}
use Rattle.hdlc_frame.specs.declared.found.Bad.{Bad}
use Rattle.hdlc_frame.specs.Found.{FrameParts, Found, found}
use Rattle.hdlc_frame.specs.Found.Found.{frame, fault}
use Rattle.hdlc_frame.specs.Counted.{one_more}
use Rattle.hdlc_frame.proofs.Counted.{saturated_if}
use Rattle.hdlc_frame.proofs.Parting.{found_none}
use Rattle.frame_router.specs.declared.fate.Fate.{Fate}
use Rattle.frame_router.specs.declared.fate.Fate.TheVariants as is
use Rattle.frame_router.specs.declared.port.Port.{Port}
use Rattle.frame_router.specs.declared.routes.Route.{Route}
use Rattle.frame_router.specs.declared.tally.Tally.{Tally}
use Rattle.frame_router.specs.Steps.{with_fate}
use Rattle.frame_router.specs.Fates.{fate_of, is_passing, passes}
use Rattle.frame_router.specs.Routed.{Arrival, LaneView, arriving, count_of, is_dropped, is_fate, tally_of}

same_tally :
    (p h l o b f p' h' l' o' b' f' : ℕ) → p ≡ p' → h ≡ h' → l ≡ l' → o ≡ o' → b ≡ b' → f ≡ f' →
    ◌≡◌ {A = Tally} (record { passed = p; home = h; lost = l; other = o; bad = b; full = f }) (record { passed = p'; home = h'; lost = l'; other = o'; bad = b'; full = f' })
same_tally p h l o b f p' h' l' o' b' f' e1 e2 e3 e4 e5 e6 = cc

-- the segments of one fate, with one more
counted : (fate : Fate) (routes : List Route) (from : Port) (old new : List ℕ) (one : Found) → found 8192 new ≡ found 8192 old ++ one ∷ [] → count_of fate routes from new ≡ cond (is_fate fate (fate_of routes from one)) (one_more (count_of fate routes from old)) (count_of fate routes from old)
counted fate routes from old new one more =
    ap (λ all. u64_saturate (count_by (λ x. is_fate fate (fate_of routes from x)) all)) more ∙
    saturated_if (λ x. is_fate fate (fate_of routes from x)) (found 8192 old) one

-- what passed, with a frame that passes or not
arrived_if : (p : Arrival → Bool) (xs : List Arrival) (lane : LaneView) (f : FrameParts) (b : Bool) → u64_saturate (count_by p (xs ++ map (arriving lane) (cond b (f ∷ []) []))) ≡ cond b (cond (p (arriving lane f)) (one_more (u64_saturate (count_by p xs))) (u64_saturate (count_by p xs))) (u64_saturate (count_by p xs))
arrived_if p xs lane f true = saturated_if p xs (arriving lane f)
arrived_if p xs lane f false = ap (λ ys. u64_saturate (count_by p ys)) (append-nil xs)

-- the six counts by the fate
abbrev counts_by : Tally → Fate → Bool → Tally
counts_by t fate room = record {
  passed = cond (is_passing fate) (cond room (one_more t.passed) t.passed) t.passed;
  home = cond (is_fate is.Home fate) (one_more t.home) t.home;
  lost = cond (is_fate is.Lost fate) (one_more t.lost) t.lost;
  other = cond (is_fate is.Other fate) (one_more t.other) t.other;
  bad = cond (is_fate is.Bad fate) (one_more t.bad) t.bad;
  full = cond (is_passing fate) (cond (not room) (one_more t.full) t.full) t.full;
}

counts_are : (t : Tally) (fate : Fate) (room : Bool) → counts_by t fate room ≡ with_fate t fate room
counts_are t is.Passes true = refl
counts_are t is.Passes false = refl
counts_are t is.Home room = refl
counts_are t is.Lost room = refl
counts_are t is.Other room = refl
counts_are t is.Bad room = refl

-- a frame more
pub tally_frame :
    (routes : List Route) (from : Port) (old new : List ℕ) (arrivals : List Arrival) (lane : LaneView) (f : FrameParts) →
    found 8192 new ≡ found 8192 old ++ frame f ∷ [] →
    tally_of routes from new (arrivals ++ map (arriving lane) (filter (passes routes from) (f ∷ []))) ≡
    with_fate (tally_of routes from old arrivals) (fate_of routes from (frame f)) (nat_lt (length lane.waiting) 256)
tally_frame routes from old new arrivals lane f more =
    same_tally _ _ _ _ _ _ _ _ _ _ _ _
    (arrived_if (λ a. a.is_kept) arrivals lane f (passes routes from f))
    (counted is.Home routes from old new (frame f) more)
    (counted is.Lost routes from old new (frame f) more)
    (counted is.Other routes from old new (frame f) more)
    (counted is.Bad routes from old new (frame f) more)
    (arrived_if is_dropped arrivals lane f (passes routes from f)) ∙
    counts_are (tally_of routes from old arrivals) (fate_of routes from (frame f)) (nat_lt (length lane.waiting) 256)

-- a fault more
pub tally_fault :
    (routes : List Route) (from : Port) (old new : List ℕ) (arrivals : List Arrival) (bad : Bad) (room : Bool) →
    found 8192 new ≡ found 8192 old ++ fault bad ∷ [] →
    tally_of routes from new arrivals ≡ with_fate (tally_of routes from old arrivals) is.Bad room
tally_fault routes from old new arrivals bad room more =
    same_tally _ _ _ _ _ _ _ _ _ _ _ _ refl
    (counted is.Home routes from old new (fault bad) more)
    (counted is.Lost routes from old new (fault bad) more)
    (counted is.Other routes from old new (fault bad) more)
    (counted is.Bad routes from old new (fault bad) more) refl

pub tally_same : (routes : List Route) (from : Port) (old new : List ℕ) (arrivals : List Arrival) → found 8192 new ≡ found 8192 old → tally_of routes from new arrivals ≡ tally_of routes from old arrivals
tally_same routes from old new arrivals same =
    let counts : (fate : Fate) → count_of fate routes from new ≡ count_of fate routes from old =
    λ fate. ap (λ all. u64_saturate (count_by (λ x. is_fate fate (fate_of routes from x)) all)) same in
    same_tally _ _ _ _ _ _ _ _ _ _ _ _ refl (counts is.Home) (counts is.Lost) (counts is.Other) (counts is.Bad) refl

pub tally_none : (routes : List Route) (from : Port) → tally_of routes from [] [] ≡ record { passed = 0; home = 0; lost = 0; other = 0; bad = 0; full = 0 }
tally_none routes from =
    let counts : (fate : Fate) → count_of fate routes from [] ≡ 0 =
    λ fate. ap (λ all. u64_saturate (count_by (λ x. is_fate fate (fate_of routes from x)) all)) (found_none 8192) in
    same_tally _ _ _ _ _ _ _ _ _ _ _ _ refl (counts is.Home) (counts is.Lost) (counts is.Other) (counts is.Bad) refl
