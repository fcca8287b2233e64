use Rattle.std.proofs.Common.{◌∷◌, [], length, take, slice_range, ap, sym, subst, ◌∙◌}
use Rattle.hdlc_frame.specs.declared.closed.Closed.{Closed}
use Rattle.hdlc_frame.specs.declared.told.Place.TheVariants.{Buffer, Piece}
use Rattle.hdlc_frame.specs.declared.told.Segment.{Segment}
use Rattle.hdlc_frame.specs.Machine.{reading_at}
use Rattle.hdlc_frame.specs.Steps.{IsWithin, closed_found}
use Rattle.hdlc_frame.specs.Told.{IsInside, segment_found}
use Rattle.hdlc_frame.proofs.Placed.{front_lies, placed_is, range_lies}
use Rattle.hdlc_frame.proofs.machine.Machine.tell.Goals as goal

pub returns-in-Kept-clause-inside : goal.returns-in-Kept-clause-inside
returns-in-Kept-clause-inside c =
    let buffer = c.args.buffer.now in
    let piece = c.args.piece.now in
    let len = c.args.self.now.len in
    let lies = front_lies len buffer c.requires.kept in
    let P : Segment → Type 0 = λ s. IsInside s buffer piece in
    subst P (sym c.judge_at.ensures) (placed_is Buffer len (length buffer) (take len buffer) buffer piece lies.0 c.requires.kept lies.1).1

pub returns-in-Kept-clause-told : goal.returns-in-Kept-clause-told
returns-in-Kept-clause-told c =
    let buffer = c.args.buffer.now in
    let piece = c.args.piece.now in
    let len = c.args.self.now.len in
    let lies = front_lies len buffer c.requires.kept in
    ap (λ s. segment_found s buffer piece ∷ []) c.judge_at.ensures ∙
    ap (λ f. f ∷ []) (placed_is Buffer len (length buffer) (take len buffer) buffer piece lies.0 c.requires.kept lies.1).0 ∙
    ap (closed_found (reading_at c.args.self.now buffer) piece) (sym c.in-Kept.is)

pub returns-in-Whole-clause-inside : goal.returns-in-Whole-clause-inside
returns-in-Whole-clause-inside c =
    let buffer = c.args.buffer.now in
    let piece = c.args.piece.now in
    let from = c.in-Whole.from in
    let to = c.in-Whole.to in
    let W : Closed → Type 0 = λ closed. IsWithin piece closed in
    let within = subst W c.in-Whole.is c.requires.within in
    let lies = range_lies from to piece within.0 within.1 in
    let P : Segment → Type 0 = λ s. IsInside s buffer piece in
    subst P (sym c.judge_at-in-Whole.ensures) (placed_is Piece to (length buffer) (slice_range piece from to) buffer piece lies.0 within.1 lies.1).1

pub returns-in-Whole-clause-told : goal.returns-in-Whole-clause-told
returns-in-Whole-clause-told c =
    let buffer = c.args.buffer.now in
    let piece = c.args.piece.now in
    let from = c.in-Whole.from in
    let to = c.in-Whole.to in
    let W : Closed → Type 0 = λ closed. IsWithin piece closed in
    let within = subst W c.in-Whole.is c.requires.within in
    let lies = range_lies from to piece within.0 within.1 in
    ap (λ s. segment_found s buffer piece ∷ []) c.judge_at-in-Whole.ensures ∙
    ap (λ f. f ∷ []) (placed_is Piece to (length buffer) (slice_range piece from to) buffer piece lies.0 within.1 lies.1).0 ∙
    ap (closed_found (reading_at c.args.self.now buffer) piece) (sym c.in-Whole.is)
