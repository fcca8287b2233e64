-- What a pump gathers, segment by segment, and what a part of it written leaves.
use Rattle.std.proofs.Common.{◌≡◌, ℕ, zero, suc, ◌-◌, ◌<◌, ◌≤◌, Bool, true, false, cond, List, [], ◌∷◌, ◌++◌, length, take, drop, refl, sym, ◌∙◌, ap, subst, arith, append-nil, append_assoc, length-append, take-append-drop}
use Rattle.std.specs.Prelude.{nat_le}
use Rattle.std.specs.List.{filter, flat_map}
use Rattle.std.proofs.lemmas.Bool.{leb-true, leb-false}
use Rattle.std.proofs.lemmas.Grind.{flat_map-append, fold-append}
use Rattle.std.proofs.lemmas.List.{map-append, take-append-le}
use Rattle.hdlc_frame.specs.Found.{FrameParts, Found, found, frames_in}
use Rattle.hdlc_frame.specs.Found.Found.{frame, fault}
use Rattle.hdlc_frame.specs.Machine.{HasRead}
use Rattle.hdlc_frame.specs.Pushed.{HasTaken}
use Rattle.frame_router.specs.declared.batch.Mark.{Mark}
use Rattle.frame_router.specs.declared.fate.Fate.{Fate}
use Rattle.frame_router.specs.declared.fate.Fate.TheVariants as is
use Rattle.frame_router.specs.declared.port.Port.{Port}
use Rattle.frame_router.specs.declared.routes.Route.{Route}
use Rattle.frame_router.specs.declared.tally.Tally.{Tally}
use Rattle.frame_router.specs.Fates.{fate_of, frame_bytes, is_passing, passed, passes}
use Rattle.frame_router.specs.Gathered.{BatchView, GathersOn, HasCounted, IntakeView, IsGathered, frame_gathered, lane_of, none_gathered, none_passed, later_mark, tally_before, with_passing}
use Rattle.frame_router.specs.Pumped.{all_kept, full_tally, wire_of}
use Rattle.frame_router.specs.Routed.{tally_of}
use Rattle.frame_router.specs.Steps.{with_fate}
use Rattle.frame_router.proofs.Counts.{tally_fault, tally_frame, tally_none, tally_same}
use Rattle.frame_router.proofs.Segments.{Finds, passed_more, passed_none, passed_same}

-- a decoder of frames of at most 8,192 bytes
found_within :
    (routes : List Route) (from : Port) (old : IntakeView) (bytes stream : List ℕ) (more : List Found) → Finds (lane_of old) bytes more → HasCounted routes from old stream →
    found 8192 (stream ++ bytes) ≡ found 8192 stream ++ more
found_within routes from old bytes stream more finds has = subst (λ limit. found limit (stream ++ bytes) ≡ found limit stream ++ more) has.limit (finds stream has.read)

-- how a stream with one more segment is counted, where each frame that passes is kept
kept_more : (routes : List Route) (from : Port) (old new : List ℕ) (one : Found) → found 8192 new ≡ found 8192 old ++ one ∷ [] →
    all_kept (passed routes from new) ≡ all_kept (passed routes from old) ++ all_kept (filter (passes routes from) (frames_in one))
kept_more routes from old new one more =
    ap all_kept (passed_more routes from old new one more) ∙
    map-append (λ f. record { arrived = f; is_kept = true }) (passed routes from old) (filter (passes routes from) (frames_in one))

counted_segment : (routes : List Route) (from : Port) (old : IntakeView) (before now : List ℕ) (one : Found) → found 8192 now ≡ found 8192 before ++ one ∷ [] →
    full_tally routes from now ≡ with_fate (full_tally routes from before) (fate_of routes from one) true
counted_segment routes from old before now (frame f) more =
    ap (tally_of routes from now) (kept_more routes from before now (frame f) more) ∙
    tally_frame routes from before now (all_kept (passed routes from before)) (lane_of old) f more
counted_segment routes from old before now (fault bad) more =
    ap (tally_of routes from now) (kept_more routes from before now (fault bad) more ∙ append-nil (all_kept (passed routes from before))) ∙
    tally_fault routes from before now (all_kept (passed routes from before)) bad true more

counted_same : (routes : List Route) (from : Port) (before now : List ℕ) → found 8192 now ≡ found 8192 before → full_tally routes from now ≡ full_tally routes from before
counted_same routes from before now same =
    ap (λ fs. tally_of routes from now (all_kept fs)) (passed_same routes from before now same) ∙
    tally_same routes from before now (all_kept (passed routes from before)) same

-- of a segment that doesn't pass nothing does
none_more : (routes : List Route) (from : Port) (old new : List ℕ) (f : FrameParts) (fate : Fate) → fate ≡ fate_of routes from (frame f) → is_passing fate ≡ false →
    found 8192 new ≡ found 8192 old ++ frame f ∷ [] → passed routes from new ≡ passed routes from old
none_more routes from old new f fate fate_is not_passing more =
    passed_more routes from old new (frame f) more ∙
    ap (λ b. passed routes from old ++ cond b (f ∷ []) []) (ap is_passing (sym fate_is) ∙ not_passing) ∙ append-nil (passed routes from old)

-- a segment more, by its fate
with_segment :
    (routes : List Route) (from : Port) (sent stream next : List ℕ) (batch : BatchView) (one : Found) (fate : Fate) → fate ≡ fate_of routes from one →
    found 8192 (stream ++ next) ≡ found 8192 stream ++ one ∷ [] → IsGathered routes from sent stream batch →
    IsGathered routes from sent (stream ++ next) (with_passing fate one (full_tally routes from stream) batch)
with_segment routes from sent stream next batch (frame f) is.Passes fate_is more h = frame_gathered routes from sent stream next batch f (ap is_passing (sym fate_is)) more h
with_segment routes from sent stream next batch (frame f) is.Home fate_is more h = none_passed routes from sent stream next batch (none_more routes from stream (stream ++ next) f is.Home fate_is refl more) h
with_segment routes from sent stream next batch (frame f) is.Lost fate_is more h = none_passed routes from sent stream next batch (none_more routes from stream (stream ++ next) f is.Lost fate_is refl more) h
with_segment routes from sent stream next batch (frame f) is.Other fate_is more h = none_passed routes from sent stream next batch (none_more routes from stream (stream ++ next) f is.Other fate_is refl more) h
with_segment routes from sent stream next batch (frame f) is.Bad fate_is more h = none_passed routes from sent stream next batch (none_more routes from stream (stream ++ next) f is.Bad fate_is refl more) h
with_segment routes from sent stream next batch (fault bad) is.Passes fate_is more h = absurd (cc)
with_segment routes from sent stream next batch (fault bad) is.Home fate_is more h = absurd (cc)
with_segment routes from sent stream next batch (fault bad) is.Lost fate_is more h = absurd (cc)
with_segment routes from sent stream next batch (fault bad) is.Other fate_is more h = absurd (cc)
with_segment routes from sent stream next batch (fault bad) is.Bad fate_is more h =
    none_passed routes from sent stream next batch (passed_more routes from stream (stream ++ next) (fault bad) more ∙ append-nil (passed routes from stream)) h

-- bytes in which a segment ends
pub gathers_segment :
    (routes : List Route) (from : Port) (old new : IntakeView) (batch batch_new : BatchView) (bytes : List ℕ) (one : Found) (fate : Fate) →
    HasTaken old.reading bytes new.reading → Finds (lane_of old) bytes (one ∷ []) → fate ≡ fate_of routes from one →
    batch_new ≡ with_passing fate one old.tally batch → new.tally ≡ with_fate old.tally fate true → GathersOn routes from old batch new batch_new bytes
gathers_segment routes from old new batch batch_new bytes one fate taken finds fate_is batch_is tally_is = λ sent stream has.
    let more = found_within routes from old bytes stream (one ∷ []) finds has.counted in
    record {
      counted = record {
        limit = taken.limit ∙ has.counted.limit;
        read = taken.read stream has.counted.read;
        tally =
            tally_is ∙ ap (λ t. with_fate t fate true) has.counted.tally ∙ ap (λ x. with_fate (full_tally routes from stream) x true) fate_is ∙
            sym (counted_segment routes from old stream (stream ++ bytes) one more);
      };
      gathered =
          subst (IsGathered routes from sent (stream ++ bytes)) (sym (batch_is ∙ ap (λ t. with_passing fate one t batch) has.counted.tally))
          (with_segment routes from sent stream bytes batch one fate fate_is more has.gathered);
    }

-- bytes in which none ends
pub gathers_nothing :
    (routes : List Route) (from : Port) (old new : IntakeView) (batch : BatchView) (bytes : List ℕ) →
    HasTaken old.reading bytes new.reading → Finds (lane_of old) bytes [] → new.tally ≡ old.tally → GathersOn routes from old batch new batch bytes
gathers_nothing routes from old new batch bytes taken finds tally_is = λ sent stream has.
    let same : found 8192 (stream ++ bytes) ≡ found 8192 stream = found_within routes from old bytes stream [] finds has.counted ∙ append-nil (found 8192 stream) in
    record {
      counted = record {
        limit = taken.limit ∙ has.counted.limit;
        read = taken.read stream has.counted.read;
        tally = tally_is ∙ has.counted.tally ∙ sym (counted_same routes from stream (stream ++ bytes) same);
      };
      gathered = none_passed routes from sent stream bytes batch (passed_same routes from stream (stream ++ bytes) same) has.gathered;
    }

-- a stream with one more frame that passes
pub frame_more :
    (routes : List Route) (from : Port) (old new : List ℕ) (f : FrameParts) → found 8192 new ≡ found 8192 old ++ frame f ∷ [] → passes routes from f ≡ true →
    wire_of routes from new ≡ wire_of routes from old ++ frame_bytes f
frame_more routes from old new f more passing =
    ap (flat_map frame_bytes) (passed_more routes from old new (frame f) more ∙ ap (λ b. passed routes from old ++ cond b (f ∷ []) []) passing) ∙
    flat_map-append frame_bytes (passed routes from old) (f ∷ []) ∙ ap (λ xs. wire_of routes from old ++ xs) (append-nil (frame_bytes f))

-- what passes is what was sent and what is gathered
pub gathered_wire : (routes : List Route) (from : Port) (sent stream : List ℕ) (batch : BatchView) → IsGathered routes from sent stream batch →
    wire_of routes from stream ≡ wire_of routes from sent ++ batch.bytes
gathered_wire _ _ _ _ _ (none_gathered routes from sent) = sym (append-nil (wire_of routes from sent))
gathered_wire _ _ _ _ _ (frame_gathered routes from sent stream next batch f passing more h) =
    frame_more routes from stream (stream ++ next) f more passing ∙
    ap (λ xs. xs ++ frame_bytes f) (gathered_wire routes from sent stream batch h) ∙ append_assoc (wire_of routes from sent) batch.bytes (frame_bytes f)
gathered_wire _ _ _ _ _ (none_passed routes from sent stream next batch same h) = ap (flat_map frame_bytes) same ∙ gathered_wire routes from sent stream batch h

-- a stream is as long as what was sent of it, at least
reaches : (routes : List Route) (from : Port) (sent stream : List ℕ) (batch : BatchView) → IsGathered routes from sent stream batch → length sent ≤ length stream
reaches _ _ _ _ _ (none_gathered routes from sent) = omega arith
reaches _ _ _ _ _ (frame_gathered routes from sent stream next batch f passing more h) =
    omega (arith, reaches routes from sent stream batch h, length-append stream next)
reaches _ _ _ _ _ (none_passed routes from sent stream next batch same h) =
    omega (arith, reaches routes from sent stream batch h, length-append stream next)

-- bytes in which a segment ends are some
pub some_next : (stream next : List ℕ) (one : Found) → found 8192 (stream ++ next) ≡ found 8192 stream ++ one ∷ [] → 0 < length next
some_next stream [] one more =
    let same = ap (λ xs. length (found 8192 xs)) (append-nil stream) in
    let longer = ap length more in
    let long = length-append (found 8192 stream) (one ∷ []) in
    absurd (omega (arith, same, longer, long))
some_next stream (x ∷ next) one more = omega arith

-- where so many bytes of a batch end: in this frame of the stream, of which a part is written
pub record EndsIn (routes : List Route) (from : Port) (sent stream written : List ℕ) (tally : Tally) : Type 0 where
  pub front : List ℕ
  pub next : List ℕ
  pub behind : List ℕ
  pub part : List ℕ
  pub unwritten : List ℕ
  pub carried : FrameParts
  pub passing : passes routes from carried ≡ true
  pub finds : found 8192 (front ++ next) ≡ found 8192 front ++ frame carried ∷ []
  pub begins : stream ≡ (front ++ next) ++ behind
  pub past : length sent < length (front ++ next)
  pub wrote : wire_of routes from sent ++ written ≡ wire_of routes from front ++ part
  pub within : wire_of routes from (front ++ next) ≡ (wire_of routes from front ++ part) ++ unwritten
  pub counts : tally ≡ full_tally routes from front

-- the same with more of the stream behind it
further :
    (routes : List Route) (from : Port) (sent stream next written now : List ℕ) (tally : Tally) → now ≡ written → EndsIn routes from sent stream written tally →
    EndsIn routes from sent (stream ++ next) now tally
further routes from sent stream next written now tally same e = record {
  front = e.front;
  next = e.next;
  behind = e.behind ++ next;
  part = e.part;
  unwritten = e.unwritten;
  carried = e.carried;
  passing = e.passing;
  finds = e.finds;
  begins = ap (λ xs. xs ++ next) e.begins ∙ append_assoc (e.front ++ e.next) e.behind next;
  past = e.past;
  wrote = ap (λ xs. wire_of routes from sent ++ xs) same ∙ e.wrote;
  within = e.within;
  counts = e.counts;
}

take-append-past : (n : ℕ) (xs ys : List ℕ) → length xs ≤ n → take n (xs ++ ys) ≡ xs ++ take (n - length xs) ys
take-append-past n [] ys past = ap (λ k. take k ys) (omega arith)
take-append-past zero (x ∷ xs) ys past = absurd (omega arith)
take-append-past (suc n) (x ∷ xs) ys past = ap (λ r. x ∷ r) (take-append-past n xs ys (omega arith) ∙ ap (λ k. xs ++ take k ys) (omega arith))

-- the last mark decides where it begins at this place or before it
last_mark : (marks : List Mark) (mark : Mark) (n : ℕ) (all : Tally) (b : Bool) → nat_le mark.start n ≡ b →
    tally_before (marks ++ mark ∷ []) n all ≡ cond b mark.before (tally_before marks n all)
last_mark marks mark n all b is = fold-append (later_mark n) all marks (mark ∷ []) ∙ ap (λ x. cond x mark.before (tally_before marks n all)) is

pub ends_in : (routes : List Route) (from : Port) (sent stream : List ℕ) (batch : BatchView) (n : ℕ) (all tally : Tally) → IsGathered routes from sent stream batch →
    n < length batch.bytes → tally ≡ tally_before batch.marks n all → EndsIn routes from sent stream (take n batch.bytes) tally
ends_in _ _ _ _ _ n all tally (none_gathered routes from sent) within counts = absurd (omega (arith, within))
ends_in _ _ _ _ _ n all tally (frame_gathered routes from sent stream next batch f passing more h) within counts =
    at (nat_le (length batch.bytes) n) refl (ends_in routes from sent stream batch n all tally h)
  where
    at : (b : Bool) → nat_le (length batch.bytes) n ≡ b
        → (n < length batch.bytes → tally ≡ tally_before batch.marks n all → EndsIn routes from sent stream (take n batch.bytes) tally)
        → EndsIn routes from sent (stream ++ next) (take n (batch.bytes ++ frame_bytes f)) tally
    at true is before =
        let past : length batch.bytes ≤ n = leb-true (length batch.bytes) n is in
        let part = take (n - length batch.bytes) (frame_bytes f) in
        let rest = drop (n - length batch.bytes) (frame_bytes f) in
        record {
          front = stream;
          next = next;
          behind = [];
          part = part;
          unwritten = rest;
          carried = f;
          passing = passing;
          finds = more;
          begins = sym (append-nil (stream ++ next));
          past = omega (arith, reaches routes from sent stream batch h, some_next stream next (frame f) more, length-append stream next);
          wrote =
              ap (λ xs. wire_of routes from sent ++ xs) (take-append-past n batch.bytes (frame_bytes f) past) ∙
              sym (append_assoc (wire_of routes from sent) batch.bytes part) ∙ ap (λ xs. xs ++ part) (sym (gathered_wire routes from sent stream batch h));
          within =
              frame_more routes from stream (stream ++ next) f more passing ∙
              ap (λ xs. wire_of routes from stream ++ xs) (sym (take-append-drop (n - length batch.bytes) (frame_bytes f))) ∙
              sym (append_assoc (wire_of routes from stream) part rest);
          counts = counts ∙ last_mark batch.marks (record { start = length batch.bytes; before = full_tally routes from stream }) n all true is;
        }
    at false is before =
        let short : n < length batch.bytes = leb-false (length batch.bytes) n is in
        further routes from sent stream next (take n batch.bytes) (take n (batch.bytes ++ frame_bytes f)) tally
        (take-append-le n batch.bytes (frame_bytes f) (omega arith))
        (before short (counts ∙ last_mark batch.marks (record { start = length batch.bytes; before = full_tally routes from stream }) n all false is))
ends_in _ _ _ _ _ n all tally (none_passed routes from sent stream next batch same h) within counts =
    further routes from sent stream next (take n batch.bytes) (take n batch.bytes) tally refl (ends_in routes from sent stream batch n all tally h within counts)

-- nothing came yet
pub nothing_counted : (routes : List Route) (from : Port) (intake : IntakeView) → intake.reading.limit ≡ 8192 → HasRead intake.reading [] →
    intake.tally ≡ record { passed = 0; home = 0; lost = 0; other = 0; bad = 0; full = 0 } → HasCounted routes from intake []
nothing_counted routes from intake limit read tally = record {
  limit = limit;
  read = read;
  tally = tally ∙ sym (ap (λ fs. tally_of routes from [] (all_kept fs)) (passed_none routes from) ∙ tally_none routes from);
}
