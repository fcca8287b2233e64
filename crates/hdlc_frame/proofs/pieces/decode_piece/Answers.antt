use Rattle.std.proofs.Common.{◌∙◌, ℕ, List, ◌++◌, ◌+◌, ◌-◌, ◌≤◌, length, take, drop, ap, sym, subst, arith}
use Rattle.std.proofs.lemmas.List.{length-drop, take_rest}
use Rattle.hdlc_frame.specs.Found.{found}
use Rattle.hdlc_frame.specs.Lent.{found_in_got}
use Rattle.hdlc_frame.specs.Machine.{HasRead}
use Rattle.hdlc_frame.proofs.Machines.{more_taken}
use Rattle.hdlc_frame.proofs.pieces.decode_piece.Goals as goal

pub loop-at-preserved : goal.loop-at-preserved
loop-at-preserved c =
    let piece = c.args.piece.now in
    let at = c.loop-at.at in
    let rest = take (length piece - at) (drop at piece) in
    let n = c.push-pushed.result.taken in
    let so_far = c.loop-at.invariant in
    let left = c.push-pushed.follows.holds-at-none in
    let before = c.args.decoder.now in
    let after = c.push-pushed.follows.lender-at-none in
    let fits : n ≤ length piece - at = subst (λ l. n ≤ l) (ap length (take_rest piece at) ∙ length-drop at piece) c.push-pushed.ensures.taken in
    let limit = so_far.limit in
    let joined = λ (stream : List ℕ). more_taken stream piece rest at n (take_rest piece at) in
    record {
      within = omega arith;
      limit = left.limit ∙ limit;
      read = λ stream h. let P : List ℕ → Type 0 = λ l. HasRead after l in subst P (joined stream) (left.read (stream ++ take at piece) (so_far.read stream h));
      gives = λ stream h same.
          c.in_ok-keep.ensures ∙ ap (λ l. l ++ found_in_got c.push-pushed.result.got) (so_far.gives stream h same ∙ ap (λ k. found k (stream ++ take at piece)) (sym limit)) ∙
          sym (c.push-pushed.ensures.gives (stream ++ take at piece) (so_far.read stream h)) ∙
          ap (found c.loop-at.decoder.limit) (joined stream) ∙ ap (λ k. found k (stream ++ take (at + n) piece)) limit;
    }
