-- A pump over one piece.
use Rattle.std.proofs.Common.{◌≡◌, ℕ, ◌+◌, ◌-◌, ◌≤◌, List, [], ◌∷◌, ◌++◌, length, take, drop, Option, Result, Ok, Err, OnOk, OnErr, inr, sym, ◌∙◌, ap, subst, arith, append-nil, append_assoc, length-append, take-append-drop}
use Rattle.std.specs.Io.KnownBytes.{Appends}
use Rattle.std.specs.List.{flat_map}
use Rattle.std.proofs.KnownBytes.{Appends-nil, Appends-trans}
use Rattle.std.proofs.Math.Seq.{take-add}
use Rattle.std.proofs.lemmas.List.{length-drop, take_rest, take_all}
use Rattle.hdlc_frame.specs.Found.{found}
use Rattle.hdlc_frame.specs.Found.Found.{frame}
use Rattle.frame_router.specs.declared.port.Port.{Port}
use Rattle.frame_router.specs.declared.routes.Route.{Route}
use Rattle.frame_router.specs.declared.tally.Tally.{Tally}
use Rattle.frame_router.specs.Fates.{frame_bytes}
use Rattle.frame_router.specs.Gathered.{BatchView, GathersOn, GathersPart, HasCounted, HasGathered, IntakeView, IsGathered, lane_of, no_batch, none_gathered}
use Rattle.frame_router.specs.Pumped.{wire_of}
use Rattle.frame_router.specs.Routed.{BringsFrame}
use Rattle.frame_router.specs.Steps.{IsPumped, PumpsOn, StopsIn, WritesPart}
use Rattle.frame_router.proofs.GatherLemmas.{ends_in, frame_more, gathered_wire, some_next}
use Rattle.frame_router.proofs.Segments.{passed_none}

-- one segment of a piece behind others
slice_is : (piece : List ℕ) (done : ℕ) → take (length piece - done) (drop done piece) ≡ drop done piece
slice_is piece done = take_rest piece done

pub on_more :
    (routes : List Route) (from : Port) (a b c : IntakeView) (p q r : BatchView) (piece : List ℕ) (done taken : ℕ) →
    GathersOn routes from a p b q (take done piece) → GathersOn routes from b q c r (take taken (take (length piece - done) (drop done piece))) →
    GathersOn routes from a p c r (take (done + taken) piece)
on_more routes from a b c p q r piece done taken first then sent stream has =
    let longer : (stream ++ take done piece) ++ take taken (take (length piece - done) (drop done piece)) ≡ stream ++ take (done + taken) piece =
    append_assoc stream (take done piece) (take taken (take (length piece - done) (drop done piece))) ∙
    ap (λ xs. stream ++ xs) (ap (λ xs. take done piece ++ take taken xs) (slice_is piece done) ∙ sym (take-add done taken piece)) in
    subst (HasGathered routes from c r sent) longer (then sent (stream ++ take done piece) (first sent stream has))

pub on_nothing : (routes : List Route) (from : Port) (a : IntakeView) (p : BatchView) (piece : List ℕ) → GathersOn routes from a p a p (take 0 piece)
on_nothing routes from a p piece sent stream has = subst (HasGathered routes from a p sent) (sym (append-nil stream)) has

pub on_whole : (routes : List Route) (from : Port) (a b : IntakeView) (p q : BatchView) (piece : List ℕ) (done : ℕ) → length piece ≤ done →
    GathersOn routes from a p b q (take done piece) → GathersOn routes from a p b q piece
on_whole routes from a b p q piece done all on sent stream has = subst (λ xs. HasGathered routes from b q sent (stream ++ xs)) (take_all done piece all) (on sent stream has)

pub stops_part :
    (routes : List Route) (from : Port) (a b new : IntakeView) (p q last : BatchView) (piece : List ℕ) (done : ℕ) → GathersOn routes from a p b q (take done piece) →
    BringsFrame routes from (lane_of b) (take (length piece - done) (drop done piece)) → last ≡ q → new.tally ≡ b.tally → GathersPart routes from a p new last piece
stops_part routes from a b new p q last piece done on brings same tally = record {
  count = done;
  reached = b;
  on = subst (λ r. GathersOn routes from a p b r (take done piece)) (sym same) on;
  brings = subst (BringsFrame routes from (lane_of b)) (slice_is piece done) brings;
  tally = tally;
}

-- a pump that has written all
gathers : (routes : List Route) (from : Port) (old new : IntakeView) (none batch : BatchView) (bytes stream : List ℕ) (first was : Option (List ℕ)) → none ≡ no_batch →
    GathersOn routes from old none new batch bytes → IsPumped routes from old first was stream → HasGathered routes from new batch stream (stream ++ bytes)
gathers routes from old new none batch bytes stream first was empty on pumped =
    on stream stream (record { counted = pumped.counted; gathered = subst (IsGathered routes from stream stream) (sym empty) (none_gathered routes from stream) })

-- the whole batch was written
written_whole :
    (routes : List Route) (from : Port) (old new : IntakeView) (batch : BatchView) (bytes stream : List ℕ) (first was now : Option (List ℕ)) →
    HasGathered routes from new batch stream (stream ++ bytes) → IsPumped routes from old first was stream → Appends was now batch.bytes →
    Appends first now (wire_of routes from (stream ++ bytes))
written_whole routes from old new batch bytes stream first was now has pumped wrote =
    subst (Appends first now) (sym (gathered_wire routes from stream (stream ++ bytes) batch has.gathered))
    (Appends-trans first was now (wire_of routes from stream) batch.bytes pumped.wrote wrote)

pub pumps_on :
    (routes : List Route) (from : Port) (old new : IntakeView) (none batch : BatchView) (piece : List ℕ) (was now : Option (List ℕ)) → none ≡ no_batch →
    GathersOn routes from old none new batch piece → Appends was now batch.bytes →
    PumpsOn routes from (record { intake = old; written = was }) (record { intake = new; written = now }) piece
pumps_on routes from old new none batch piece was now empty on wrote first stream pumped =
    let has = gathers routes from old new none batch piece stream first was empty on pumped in
    record {
      counted = has.counted;
      wrote = written_whole routes from old new batch piece stream first was now has pumped wrote;
    }

-- a write failed behind so many bytes of a piece
stops_at :
    (routes : List Route) (from : Port) (old reached : IntakeView) (none batch : BatchView) (piece : List ℕ) (done : ℕ) (was now : Option (List ℕ)) (all tally : Tally) → none ≡ no_batch →
    GathersOn routes from old none reached batch (take done piece) → WritesPart was now batch all tally →
    StopsIn routes from (record { intake = old; written = was }) now piece tally
stops_at routes from old reached none batch piece done was now all tally empty on wrote short first stream pumped =
    let came = stream ++ take done piece in
    let has = gathers routes from old reached none batch (take done piece) stream first was empty on pumped in
    let there = ends_in routes from stream came batch wrote.count all tally has.gathered wrote.within wrote.counts in
    let whole : came ++ drop done piece ≡ stream ++ piece = append_assoc stream (take done piece) (drop done piece) ∙ ap (λ xs. stream ++ xs) (take-append-drop done piece) in
    let behind = there.behind ++ drop done piece in
    let begins : stream ++ piece ≡ (there.front ++ there.next) ++ behind =
    sym whole ∙ ap (λ xs. xs ++ drop done piece) there.begins ∙ append_assoc (there.front ++ there.next) there.behind (drop done piece) in
    record {
      front = there.front;
      next = there.next;
      behind = behind;
      part = there.part;
      unwritten = there.unwritten;
      begins = begins;
      stops = inr (there.carried, there.passing, there.finds);
      soon = omega (arith, short, there.past, ap length begins, length-append stream piece, length-append (there.front ++ there.next) behind);
      wrote = subst (Appends first now) there.wrote (Appends-trans first was now (wire_of routes from stream) (take wrote.count batch.bytes) pumped.wrote wrote.wrote);
      within = there.within;
      counts = there.counts;
    }

pub stops_writing :
    (routes : List Route) (from : Port) (old new : IntakeView) (none batch : BatchView) (piece : List ℕ) (was now : Option (List ℕ)) (all tally : Tally) {T E : Type 0} (gathered : Result T E) →
    none ≡ no_batch → OnOk gathered (GathersOn routes from old none new batch piece) → OnErr gathered (GathersPart routes from old none new batch piece) →
    WritesPart was now batch all tally → StopsIn routes from (record { intake = old; written = was }) now piece tally
stops_writing routes from old new none batch piece was now all tally (Ok done) empty on stops wrote =
    stops_at routes from old new none batch piece (length piece) was now all tally empty
    (subst (GathersOn routes from old none new batch) (sym (take_all (length piece) piece (omega arith))) on) wrote
stops_writing routes from old new none batch piece was now all tally (Err refused) empty on stops wrote =
    stops_at routes from old stops.reached none batch piece stops.count was now all tally empty stops.on wrote

-- there was no memory for a frame; those before it were written
pub stops_before :
    (routes : List Route) (from : Port) (old new : IntakeView) (none batch : BatchView) (piece : List ℕ) (was now : Option (List ℕ)) (tally : Tally) → none ≡ no_batch →
    GathersPart routes from old none new batch piece → Appends was now batch.bytes → tally ≡ new.tally →
    StopsIn routes from (record { intake = old; written = was }) now piece tally
stops_before routes from old new none batch piece was now tally empty part wrote same short first stream pumped =
    let done = part.count in
    let came = stream ++ take done piece in
    let brings = part.brings in
    let has = gathers routes from old part.reached none batch (take done piece) stream first was empty part.on pumped in
    let counted = has.counted in
    let finds : found 8192 (came ++ brings.next) ≡ found 8192 came ++ frame brings.carried ∷ [] =
    subst (λ limit. found limit (came ++ brings.next) ≡ found limit came ++ frame brings.carried ∷ []) counted.limit (brings.finds came counted.read) in
    let whole = append-nil (wire_of routes from came) in
    record {
      front = came;
      next = brings.next;
      behind = brings.behind;
      part = [];
      unwritten = frame_bytes brings.carried;
      begins =
          sym (append_assoc stream (take done piece) (drop done piece) ∙ ap (λ xs. stream ++ xs) (take-append-drop done piece)) ∙
          ap (λ xs. came ++ xs) brings.parts ∙ sym (append_assoc came brings.next brings.behind);
      stops = inr (brings.carried, brings.passing, finds);
      soon =
          omega (
            arith,
            short,
            some_next came brings.next (frame brings.carried) finds,
            ap length brings.parts,
            length-append brings.next brings.behind,
            length-drop done piece,
          );
      wrote = subst (Appends first now) (sym whole) (written_whole routes from old part.reached batch (take done piece) stream first was now has pumped wrote);
      within =
          frame_more routes from came (came ++ brings.next) brings.carried finds brings.passing ∙
          ap (λ xs. xs ++ frame_bytes brings.carried) (sym whole);
      counts = same ∙ part.tally ∙ counted.tally;
    }

pub none_pumped : (routes : List Route) (from : Port) (intake : IntakeView) (was : Option (List ℕ)) → HasCounted routes from intake [] → IsPumped routes from intake was was []
none_pumped routes from intake was has = record {
  counted = has;
  wrote = subst (Appends was was) (sym (ap (flat_map frame_bytes) (passed_none routes from))) (Appends-nil was);
}
