-- How a pump ends.
use Rattle.std.proofs.Common.{◌≡◌, ◌⊎◌, ℕ, ◌+◌, ◌<◌, ◌≤◌, List, [], ◌∷◌, ◌++◌, length, take, Option, inl, inr, refl, sym, ◌∙◌, ap, subst, arith, append-nil, length-append}
use Rattle.std.specs.Io.KnownBytes.{Appends, Consumes, IsAtEnd, Keeps}
use Rattle.std.proofs.KnownBytes.{Appends-kept, Consumes-trans}
use Rattle.link_io.specs.declared.why.Why.{Why}
use Rattle.link_io.specs.declared.why.Why.TheVariants as why
use Rattle.frame_router.specs.declared.port.Port.{Port}
use Rattle.frame_router.specs.declared.pumping.Stopped.{Stopped}
use Rattle.frame_router.specs.declared.pumping.Stopped.TheVariants.{Sink, Memory}
use Rattle.frame_router.specs.declared.routes.Route.{Route}
use Rattle.frame_router.specs.Pumped.{Pumps, PumpsBy, wire_of}
use Rattle.frame_router.specs.Steps.{HasTaken, IsPumped, PumpsOn, StopsIn}
use Rattle.frame_router.specs.Gathered.{IntakeView}
use Rattle.frame_router.specs.Steps.{stopped_pump, tally_in}

pub take_none : (xs : List ℕ) → take 0 xs ≡ []
take_none [] = refl
take_none (x ∷ xs) = refl

-- behind the whole source: the sink is finished, or failed to
ends_by :
    (routes : List Route) (from : Port) (intake : IntakeView) (first now last : Option (List ℕ)) (bytes : List ℕ) (w : Why) →
    IsPumped routes from intake first now bytes → Keeps now last → (w ≡ why.Settled) ⊎ (w ≡ why.Sink) → PumpsBy w routes from bytes first last intake.tally
ends_by routes from intake first now last bytes w is keeps (inl settled) =
    subst (λ x. PumpsBy x routes from bytes first last intake.tally) (sym settled) (record {
      wrote = Appends-kept first now last (wire_of routes from bytes) is.wrote keeps;
      counts = is.counted.tally;
    })
ends_by routes from intake first now last bytes w is keeps (inr failed) =
    let none = append-nil (wire_of routes from bytes) in
    subst (λ x. PumpsBy x routes from bytes first last intake.tally) (sym failed) (record {
      front = bytes;
      next = [];
      behind = [];
      part = [];
      unwritten = [];
      begins = sym (append-nil (bytes ++ []) ∙ append-nil bytes);
      stops = inl (refl, refl);
      soon = omega arith;
      wrote = subst (Appends first last) (sym none) (Appends-kept first now last (wire_of routes from bytes) is.wrote keeps);
      within = ap (wire_of routes from) (append-nil bytes) ∙ sym (append-nil (wire_of routes from bytes ++ []) ∙ none);
      counts = is.counted.tally;
    })

not_limit : (w : Why) → (w ≡ why.Settled) ⊎ (w ≡ why.Sink) → w ≡ why.InputLimit → ⊥
not_limit w (inl settled) limit = absurd (cc)
not_limit w (inr failed) limit = absurd (cc)

not_whole : (w : Why) → (w ≡ why.Sink) ⊎ (w ≡ why.Memory) → (w ≡ why.Settled) ⊎ (w ≡ why.Source) → ⊥
not_whole w (inl sink) (inl settled) = absurd (cc)
not_whole w (inl sink) (inr source) = absurd (cc)
not_whole w (inr memory) (inl settled) = absurd (cc)
not_whole w (inr memory) (inr source) = absurd (cc)

pub pumps_to_end :
    (routes : List Route) (from : Port) (intake : IntakeView) (left_old left_mid left_new first now last : Option (List ℕ)) (total : ℕ) (w : Why) (rest : List ℕ) →
    HasTaken routes from intake left_old left_mid first now total → Consumes left_mid left_new rest → rest ≡ [] → IsAtEnd left_new → Keeps now last →
    (w ≡ why.Settled) ⊎ (w ≡ why.Sink) → total < 67108864 → Pumps routes from left_old left_new first last (record { why = w; tally = intake.tally; read = total })
pumps_to_end routes from intake left_old left_mid left_new first now last total w rest has more none at_end keeps by below =
    let all : has.bytes ++ rest ≡ has.bytes = ap (λ xs. has.bytes ++ xs) none ∙ append-nil has.bytes in
    let count = has.count in
    record {
      bytes = has.bytes;
      taken = subst (Consumes left_old left_new) all (Consumes-trans left_old left_mid left_new has.bytes rest has.taken more);
      read = count;
      within = omega arith;
      at_limit = λ limit. absurd (not_limit w by limit);
      below = λ _. omega arith;
      at_end = λ _. at_end;
      wrote = ends_by routes from intake first now last has.bytes w has.pumped keeps by;
    }

-- at a frame that could not go on
pub pumps_to_stop :
    (routes : List Route) (from : Port) (intake : IntakeView) (left_old left_mid left_new first now last : Option (List ℕ)) (total count : ℕ) (piece : List ℕ) (stopped : Stopped) →
    HasTaken routes from intake left_old left_mid first now total → Consumes left_mid left_new piece → length piece ≡ count → count ≤ 16384 → total + count ≤ 67108864 →
    StopsIn routes from (record { intake = intake; written = now }) last piece (tally_in stopped) →
    Pumps routes from left_old left_new first last (stopped_pump stopped (total + count))
pumps_to_stop routes from intake left_old left_mid left_new first now last total count piece (Sink tally) has more size short within stops =
    let was = has.count in
    let long = length-append has.bytes piece in
    record {
      bytes = has.bytes ++ piece;
      taken = Consumes-trans left_old left_mid left_new has.bytes piece has.taken more;
      read = omega arith;
      within = omega arith;
      at_limit = λ limit. absurd (cc);
      below = λ ended. absurd (not_whole why.Sink (inl refl) ended);
      at_end = λ settled. absurd (cc);
      wrote = stops (omega (arith, size, short)) first has.bytes has.pumped;
    }
pumps_to_stop routes from intake left_old left_mid left_new first now last total count piece (Memory tally) has more size short within stops =
    let was = has.count in
    let long = length-append has.bytes piece in
    record {
      bytes = has.bytes ++ piece;
      taken = Consumes-trans left_old left_mid left_new has.bytes piece has.taken more;
      read = omega arith;
      within = omega arith;
      at_limit = λ limit. absurd (cc);
      below = λ ended. absurd (not_whole why.Memory (inr refl) ended);
      at_end = λ settled. absurd (cc);
      wrote = stops (omega (arith, size, short)) first has.bytes has.pumped;
    }

pub taken_more :
    (routes : List Route) (from : Port) (old new : IntakeView) (left_old left_mid left_new first now last : Option (List ℕ)) (total count : ℕ) (piece : List ℕ) →
    HasTaken routes from old left_old left_mid first now total → Consumes left_mid left_new piece → length piece ≡ count →
    PumpsOn routes from (record { intake = old; written = now }) (record { intake = new; written = last }) piece →
    HasTaken routes from new left_old left_new first last (total + count)
taken_more routes from old new left_old left_mid left_new first now last total count piece has more size on =
    let was = has.count in
    let long = length-append has.bytes piece in
    record {
      bytes = has.bytes ++ piece;
      taken = Consumes-trans left_old left_mid left_new has.bytes piece has.taken more;
      count = omega arith;
      pumped = on first has.bytes has.pumped;
    }
